-- Who is sent a message holds it, and with that the slot rule over the whole history of each reached world.
use Rattle.std.specs.Prelude.{◌≡◌, ℕ, ◌+◌, List}
use Rattle.nc_journal.specs.History.{Along}
use Rattle.nc_journal.specs.Holding.{HoldsMessage, IsSlotRule, times_so, grants_slot, releases_slot, holds}
use Rattle.nc_journal.specs.declared.event.Event.{Event}
use Rattle.nc_journal.specs.declared.event.Event.TheVariants.{Sent}
use Rattle.nc_world_owners.specs.WholeLaws.{OfHistories}

-- a worker that sends a message holds it: since it was stored, a hold of its slot was granted to the worker, which took it and hasn't
-- released it, and the slot wasn't freed
abbrev pub HeldAtSent : ℕ → List Event → Event → Type 0
HeldAtSent workers h (Sent w k i c id cur looks) = HoldsMessage workers w c id h
HeldAtSent workers h _ = Unit {0}

abbrev pub SentIsHeld : Type 0
SentIsHeld = OfHistories (λ setup h. Along (HeldAtSent setup.workers) h)

-- the whole slot rule
abbrev pub HistoriesKeepSlotRule : Type 0
HistoriesKeepSlotRule = OfHistories (λ setup h. IsSlotRule setup.workers setup.slots h)

-- so with the holds that there are, the releases are the grants
abbrev pub HistoriesCountHolds : Type 0
HistoriesCountHolds =
    OfHistories (λ setup h. (owner slot : ℕ) → holds owner slot h + times_so (releases_slot owner slot) h ≡ times_so (grants_slot owner slot) h)
