use Rattle.std.proofs.Common.{◌≡◌, take}
use Rattle.nc_owner.specs.Publish.{slots_of}
use Rattle.nc_owner.proofs.room.slots_of.Given as goal

abbrev pub invariant-loop-place : goal.invariant-loop-place
invariant-loop-place l = l.slots.items ≡ slots_of (take l.place l.backlog.entries)
