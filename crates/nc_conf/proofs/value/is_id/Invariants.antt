use Rattle.std.proofs.Common.{◌≡◌, drop}
use Rattle.nc_conf.specs.Value.{is_id}
use Rattle.nc_conf.proofs.value.is_id.Given as goal

abbrev pub invariant-loop-i : goal.invariant-loop-i
invariant-loop-i l = is_id l.text ≡ is_id (drop l.i l.text)
