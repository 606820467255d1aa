-- Numbers of few digits.
use Rattle.std.proofs.Common.{◌<◌, ℕ, ◌^◌, arith}
use Rattle.std.proofs.Math.Nat.{pow-le-pow_right}

-- with 18 digits at most
pub few_digits : (value count : ℕ) → count < 19 → value < 10 ^ count → value < 1000000000000000000
few_digits value count few below = omega (arith, pow-le-pow_right {n = 10} (omega arith) {i = count} {j = 18} (omega arith))
