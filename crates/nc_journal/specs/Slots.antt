-- What follows on slots and holds: which event tells a slot's stage, and how grants and releases stand to each other.
use Rattle.std.specs.Prelude.{◌≡◌, ℕ, ◌+◌, Bool, true, false, List, ◌∷◌, ◌++◌, ◌==◌}
use Rattle.std.specs.List.{AllByRecursion}
use Rattle.nc_journal.specs.Holding.{SlotStage, Unused, Retired, stored_stage, slot_stage, times_so, grants_slot, releases_slot, holds, IsSlotRule}
use Rattle.nc_journal.specs.declared.event.Event.{Event}
use Rattle.nc_journal.specs.declared.event.Event.TheVariants.{Stored, Left, Freed}

-- an event names a slot of its worker: a message is stored there, or leaves there, or the slot is freed
abbrev pub names_slot : ℕ → Event → Bool
names_slot s (Stored w c id slot len exp kept members from r ct body) = slot == s
names_slot s (Left w c id slot cause) = slot == s
names_slot s (Freed w slot) = slot == s
names_slot s e = false

-- the stage in which such an event leaves the slot
abbrev pub stage_after : Event → SlotStage
stage_after (Stored w c id slot len exp kept members from r ct body) = stored_stage kept
stage_after (Left w c id slot cause) = Retired
stage_after e = Unused

-- a slot is in the stage in which the last event that names it left it, and unused where none names it
pub record IsByLastNaming (s : ℕ) : Type 0 where
  pub last : (newer : List Event) (e : Event) (older : List Event) → AllByRecursion (λ x. names_slot s x ≡ false) newer → names_slot s e ≡ true
      → slot_stage s (newer ++ e ∷ older) ≡ stage_after e
  pub none : (h : List Event) → AllByRecursion (λ x. names_slot s x ≡ false) h → slot_stage s h ≡ Unused

-- under the slot rule no slot's hold is released that wasn't granted: with the holds that there are, the releases are the grants
abbrev pub HoldsLaw : Type 0
HoldsLaw = (workers slots : ℕ) (h : List Event) → IsSlotRule workers slots h → (owner slot : ℕ)
    → holds owner slot h + times_so (releases_slot owner slot) h ≡ times_so (grants_slot owner slot) h
