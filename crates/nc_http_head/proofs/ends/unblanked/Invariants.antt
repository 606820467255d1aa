use Rattle.std.proofs.Common.{◌≡◌, drop}
use Rattle.nc_http_head.specs.Ends.{unblanked}
use Rattle.nc_http_head.proofs.ends.unblanked.Given as goal

abbrev pub invariant-loop-i : goal.invariant-loop-i
invariant-loop-i l = unblanked l.text ≡ unblanked (drop l.i l.text)
