-- Packets go between workers that are there, and what is told of all alerts is so.
use Rattle.std.specs.Prelude.{◌≡◌, ◌⊎◌, ℕ, ◌<◌, ◌≤◌, List, []}
use Rattle.std.specs.List.{AllByRecursion}
use Rattle.nc_journal.specs.History.{Along}
use Rattle.nc_journal.specs.Holding.{times_so, grants_number}
use Rattle.nc_journal.specs.declared.event.Event.{Event}
use Rattle.nc_journal.specs.declared.event.Event.TheVariants.{Granted, Made, Pending, Quiet}
use Rattle.nc_history.specs.Packets.{pending}
use Rattle.nc_owner_laws.specs.SlotRule.{OwnersSlots}
use Rattle.nc_world.specs.Follows.{pending_count}
use Rattle.nc_world_owners.specs.WholeLaws.{OfHistories}

-- an alert is made by a worker that is there, for one that is there
abbrev pub IsBetween : ℕ → Event → Type 0
IsBetween workers (Made v w n a) = (v < workers) × (w < workers)
IsBetween workers _ = Unit {0}

-- so nothing is pending between others
abbrev pub PacketsAreBetween : Type 0
PacketsAreBetween = OfHistories (λ setup h. AllByRecursion (IsBetween setup.workers) h
    × ((v w : ℕ) → (setup.workers ≤ v) ⊎ (setup.workers ≤ w) → pending v w h ≡ []))

-- where it is told how many alerts are pending, so many are, and at quiet none is
abbrev pub CountedAt : ℕ → List Event → Event → Type 0
CountedAt workers h (Pending n) = (0 < n) × (n ≡ pending_count workers h)
CountedAt workers h Quiet = (v w : ℕ) → pending v w h ≡ []
CountedAt workers h _ = Unit {0}

abbrev pub CountsAreTold : Type 0
CountsAreTold = OfHistories (λ setup h. Along (CountedAt setup.workers) h)

-- of the slot rule over the whole history: the lowest unused slot is taken, and a slot is freed that is retired
abbrev pub HistoriesTakeSlots : Type 0
HistoriesTakeSlots = OfHistories (λ setup h. Along (OwnersSlots setup.slots) h)

-- and each number of a grant is drawn once
abbrev pub DrawnAt : List Event → Event → Type 0
DrawnAt h (Granted w g slot to) = times_so (grants_number w g) h ≡ 0
DrawnAt h _ = Unit {0}

abbrev pub GrantsAreDrawnOnce : Type 0
GrantsAreDrawnOnce = OfHistories (λ setup h. Along DrawnAt h)
