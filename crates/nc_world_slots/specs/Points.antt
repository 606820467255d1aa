-- The points of the slot rule over the whole history of each reached world.
use Rattle.std.specs.Prelude.{◌≡◌, ℕ, List}
use Rattle.nc_journal.specs.History.{Along}
use Rattle.nc_journal.specs.Holding.{TakesLowestUnused, FreesRetired, ReleasesTaken, times_so, grants_number}
use Rattle.nc_journal.specs.declared.event.Event.{Event}
use Rattle.nc_journal.specs.declared.event.Event.TheVariants.{Stored, Granted, Freed, Released}
use Rattle.nc_world_owners.specs.WholeLaws.{OfHistories}

-- a slot is freed that is retired, and that nobody holds then
abbrev pub FreedAt : List Event → Event → Type 0
FreedAt h (Freed w slot) = FreesRetired w slot h
FreedAt h _ = Unit {0}

abbrev pub SlotsAreFreed : Type 0
SlotsAreFreed = OfHistories (λ setup h. Along FreedAt h)

-- a hold is released once, by the worker that it was granted to, which took the alert that carries it
abbrev pub ReleasedAt : List Event → Event → Type 0
ReleasedAt h (Released w owner g slot) = ReleasesTaken w owner g slot h
ReleasedAt h _ = Unit {0}

abbrev pub HoldsAreReleased : Type 0
HoldsAreReleased = OfHistories (λ setup h. Along ReleasedAt h)

-- both, and the lowest unused slot is taken, and each number of a grant is drawn once: the slot rule but for what is sent, and for quiet
abbrev pub HeldAt : ℕ → List Event → Event → Type 0
HeldAt slots h (Stored w c id slot len exp kept members from r ct body) = TakesLowestUnused slots w slot h
HeldAt slots h (Freed w slot) = FreesRetired w slot h
HeldAt slots h (Granted w g slot to) = times_so (grants_number w g) h ≡ 0
HeldAt slots h (Released w owner g slot) = ReleasesTaken w owner g slot h
HeldAt slots h _ = Unit {0}

abbrev pub HistoriesHold : Type 0
HistoriesHold = OfHistories (λ setup h. Along (HeldAt setup.slots) h)
