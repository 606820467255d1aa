-- What the slots of a row are used for: how often each stands among the buffered and the retired ones.
use Rattle.std.specs.Prelude.{◌≡◌, ℕ, ◌+◌, ◌<◌, ◌==◌, Bool, true, false, List, [], ◌∷◌, length, is_some, if◌then◌else◌}
use Rattle.nc_types.specs.Message.{Message}
use Rattle.nc_slots.specs.Slot.{slot_at, is_buffered, lowest_unused}
use Rattle.nc_slots.specs.declared.slot.Slot.{Slot}
use Rattle.nc_slots.specs.declared.slot.Slot.TheVariants.{Unused, Buffered, Retired}

-- a slot whose message left while it could be held
abbrev pub is_retired : {M : Type 0} → Slot M → Bool
is_retired Unused = false
is_retired (Buffered message clear grants) = false
is_retired (Retired clear grants) = true

abbrev pub bit : Bool → ℕ
bit b = if b then 1 else 0

-- how often a number stands in a list
abbrev pub times : ℕ → List ℕ → ℕ
times s [] = 0
times s (x ∷ xs) = bit (x == s) + times s xs

-- each slot of a row is buffered, or retired, as often as these tell, which is once or never
pub record Agrees (buffered retired : ℕ → ℕ) (row : List (Slot Message)) : Type 0 where
  pub of_buffered : (s : ℕ) → buffered s ≡ bit (is_buffered (slot_at row s))
  pub of_retired : (s : ℕ) → retired s ≡ bit (is_retired (slot_at row s))

-- where fewer slots are used than there are, one is unused
abbrev pub RoomLaw : Type 0
RoomLaw = (buffered retired : List ℕ) (row : List (Slot Message)) → Agrees (λ s. times s buffered) (λ s. times s retired) row
    → length buffered + length retired < length row → is_some (lowest_unused row) ≡ true
