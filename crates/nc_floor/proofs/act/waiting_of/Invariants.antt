use Rattle.std.proofs.Common.{◌≡◌}
use Rattle.nc_world_views.specs.Seen.{waiting_count}
use Rattle.nc_floor.proofs.act.waiting_of.Given as goal

abbrev pub invariant-loop-to : goal.invariant-loop-to
invariant-loop-to g l = l.count ≡ waiting_count l.to (g.W.Hand.worker l.hand)
