use Rattle.std.proofs.Common.{◌≡◌, ◌≤◌, ◌-◌, ◌*◌}
use Rattle.nc_shared_slots.specs.Opened.{new_handles}
use Rattle.nc_shared_slots.proofs.opened.NewSlots.handles.Given as goal

abbrev pub invariant-loop-owner : goal.invariant-loop-owner
invariant-loop-owner g l =
    (l.handles ≡ new_handles l.owner l.fn.self.slots) × (l.rest.table ≡ l.fn.self.table) × (l.rest.per ≡ l.fn.self.slots)
    × ((l.fn.self.workers - l.owner) * l.fn.self.slots ≤ l.rest.left) × (l.workers ≡ l.fn.self.workers)
