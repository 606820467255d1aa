use Rattle.std.proofs.Common.{arith}
use Rattle.std.proofs.lemmas.Int.Digits.{digits_more, digits_value_more}
use Rattle.nc_types.proofs.Decimal.{no-digit, too-great}
use Rattle.nc_types.proofs.text.read_decimal.Goals as goal

pub returns-in_err-digit-clause-none : goal.returns-in_err-digit-clause-none
returns-in_err-digit-clause-none c = rw c.from_residual.ensures (λ n h le. no-digit c.args.text.now c.loop-byte.byte-index n (omega arith) c.in_err-digit.ensures.none h)

pub returns-in_err-checked_mul-clause-none : goal.returns-in_err-checked_mul-clause-none
returns-in_err-checked_mul-clause-none c =
    rw c.from_residual-in_err-checked_mul.ensures
    (λ n h le. too-great c.args.text.now c.loop-byte.byte-index c.loop-byte.value c.args.limit n (omega arith) c.loop-byte.invariant.so_far (omega (arith, c.in_err-checked_mul.ensures)) h le)

pub returns-in_err-value-clause-none : goal.returns-in_err-value-clause-none
returns-in_err-value-clause-none c =
    rw c.from_residual-in_err-value.ensures
    (λ n h le. too-great c.args.text.now c.loop-byte.byte-index c.loop-byte.value c.args.limit n (omega arith) c.loop-byte.invariant.so_far (omega (arith, c.in_err-value.ensures, c.in_ok-checked_mul.ensures, c.in_ok-digit.ensures.some.0)) h le)

pub loop-byte-preserved : goal.loop-byte-preserved
loop-byte-preserved c = record {
  digits = digits_more 10 c.args.text.now c.loop-byte.byte-index (omega arith) c.loop-byte.invariant.digits (omega (arith, c.in_ok-digit.ensures.some.0, c.in_ok-digit.ensures.some.1));
  so_far = omega (arith, c.in_ok-value.ensures, c.in_ok-checked_mul.ensures, c.in_ok-digit.ensures.some.0, digits_value_more 10 c.args.text.now c.loop-byte.byte-index (omega arith));
}
