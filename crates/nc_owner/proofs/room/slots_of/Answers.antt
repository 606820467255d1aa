use Rattle.nc_owner.proofs.Rooms.{slots-next}
use Rattle.nc_owner.proofs.room.slots_of.Goals as goal

pub loop-place-preserved : goal.loop-place-preserved
loop-place-preserved c = slots-next c.args.backlog.now.entries c.loop-place.place _ _ _ c.entry.ensures c.loop-place.invariant c.in_ok-push.ensures.items
