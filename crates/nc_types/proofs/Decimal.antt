-- What a text of digits stands for, digit by digit.
use Rattle.std.proofs.Common.{ℕ, zero, suc, ◌+◌, ◌*◌, ◌<◌, ◌≤◌, List, [], ◌∷◌, length, get_or, take, arith, ◌≡◌}
use Rattle.std.specs.Prelude.{Option, Some, None, IfNone}
use Rattle.std.specs.Char.{digit_value}
use Rattle.std.specs.Str.Parse.{AllDigits, digits_value}
use Rattle.std.proofs.lemmas.Int.Digits.{digits_value_more}
use Rattle.std.proofs.lemmas.Str.Parse.{digits_value-take-le}
use Rattle.nc_types.specs.Text.{IsDecimal}

pub if-none : {T : Type 0} (found : Option T) (P : Type 0) → P → IfNone found P
if-none None P p = p
if-none (Some x) P p = tt

is-digit : (text : List ℕ) (i : ℕ) → i < length text → AllDigits 10 text → digit_value (get_or text i 0) < 10
is-digit [] i lt h = absurd (omega (arith, lt))
is-digit (c ∷ text) zero lt h = h.0
is-digit (c ∷ text) (suc i) lt h = is-digit text i (omega (arith, lt)) h.1

-- a byte that is no digit
pub no-digit : (text : List ℕ) (i n : ℕ) → i < length text → 10 ≤ digit_value (get_or text i 0) → IsDecimal text n → ⊥
no-digit text i n lt bad h = absurd (omega (arith, is-digit text i lt h.digits, bad))

-- the digits so far pass every limit
pub too-great : (text : List ℕ) (i value limit n : ℕ) → i < length text → value ≡ digits_value 10 (take i text) → limit < value * 10 + digit_value (get_or text i 0) → IsDecimal text n → n ≤ limit → ⊥
too-great text i value limit n lt is great h le =
    absurd (omega (arith, is, great, h.value, le, digits_value_more 10 text i lt, digits_value-take-le 10 text (i + 1) (omega arith)))
