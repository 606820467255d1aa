use Rattle.std.proofs.Common.{◌≡◌, ◌≤◌, drop}
use Rattle.nc_conf.proofs.Digits.{onto}
use Rattle.nc_conf.proofs.value.digits_within.Given as goal

abbrev pub invariant-loop-digit : goal.invariant-loop-digit
invariant-loop-digit l = record { left : onto 0 l.digits ≡ onto l.value (drop l.digit-index l.digits); small : l.value ≤ l.high }
