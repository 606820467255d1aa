-- Slots of one thread.
use Rattle.std.specs.Prelude.{ℕ, ◌≤◌, List, [], ◌∷◌, map, replicate, slice_index_or}
use Rattle.std.specs.declared.rc.Rc.{Rc}
use Rattle.nc_types.specs.Message.{Message}
use Rattle.nc_slots.specs.Slot.{map_message, most_holds}
use Rattle.nc_slots.specs.declared.slot.Slot.{Slot}
use Rattle.nc_slots.specs.declared.slot.Slot.TheVariants.{Unused}

-- the slots of one owner, and how many holds each of them has
pub record RowAt : Type 0 where
  pub slots : List (Slot Message)
  pub holds : List ℕ

-- so many unused slots
abbrev pub new_row : ℕ → RowAt
new_row count = record { slots = replicate count Unused; holds = replicate count 0 }

-- the row of an owner, which has no slots where there is none
abbrev pub row_at : List RowAt → ℕ → RowAt
row_at rows owner = slice_index_or rows owner (new_row 0)

-- slots by the messages that are kept for them
abbrev pub told : {Z : Type 0} → List (Slot (Rc Message Z)) → List (Slot Message)
told slots = map (map_message (λ kept. kept.value)) slots

-- each slot has at most as many holds as it can have
abbrev pub AreHeld : {M : Type 0} → List (Slot M) → List ℕ → Type 0
AreHeld [] [] = Unit {0}
AreHeld [] (n ∷ ns) = ⊥
AreHeld (slot ∷ slots) [] = ⊥
AreHeld (slot ∷ slots) (n ∷ ns) = (n ≤ most_holds slot) × AreHeld slots ns
