use Rattle.std.proofs.Common.{◌<◌, ◌+◌, ◌*◌, ◌-◌, get_or, arith}
use Rattle.nc_conf.proofs.Digits.{too_large}
use Rattle.nc_conf.proofs.value.digits_within.Goals as goal

pub returns-then-value-from-clause-is : goal.returns-then-value-from-clause-is
returns-then-value-from-clause-is c =
    let over : c.args.high < c.loop-digit.value * 10 + (get_or c.args.digits.now c.loop-digit.digit-index 0 - 48) = omega (arith, c.if-value-from.true, c.from-in-loop-digit.ensures, c.from.ensures) in
    too_large c.args.low c.args.high c.loop-digit.value c.loop-digit.digit-index c.args.digits.now c.loop-digit-test.true c.loop-digit.invariant.left over
