-- Numbers of looks and of grants are drawn once.
use Rattle.std.specs.Prelude.{◌≡◌, ℕ, ◌<◌, ◌≤◌, List, [], ◌∷◌}
use Rattle.std.specs.List.{AllByRecursion}
use Rattle.nc_types.specs.Message.{Message}
use Rattle.nc_journal.specs.declared.event.Event.{Event}
use Rattle.nc_journal.specs.declared.event.Event.TheVariants.{Looked, Edged, Granted}
use Rattle.nc_slots.specs.declared.slot.Slot.{Slot}
use Rattle.nc_owner.specs.State.{OwnerAt}
use Rattle.nc_owner_laws.specs.Used.{times}
use Rattle.nc_owner_laws.specs.Wake.{NotYet, wake, IsOnlyAt}
use Rattle.nc_owner_laws.specs.OwnerStanding.{Stands}
use Rattle.nc_owner_laws.specs.InOrder.{InOrder}

-- the numbers of the looks and edges of a history, and of its grants
abbrev pub look_numbers : List Event → List ℕ
look_numbers [] = []
look_numbers (Looked w q from number c after floor found ∷ h) = q ∷ look_numbers h
look_numbers (Edged w q from number k c floor last ∷ h) = q ∷ look_numbers h
look_numbers (e ∷ h) = look_numbers h

abbrev pub grant_numbers : List Event → List ℕ
grant_numbers [] = []
grant_numbers (Granted w g slot to ∷ h) = g ∷ grant_numbers h
grant_numbers (e ∷ h) = grant_numbers h

-- each of some numbers is below the next one, and none stands twice
pub record AreDrawn (next : ℕ) (numbers : List ℕ) : Type 0 where
  pub below : AllByRecursion (λ n. n < next) numbers
  pub once : (n : ℕ) → times n numbers ≤ 1

-- the owner draws each number once, and a look that waits or was woken was made at one channel only
pub record DrawsOnce (h : List Event) (s : OwnerAt) : Type 0 where
  pub looks : AreDrawn s.desk.looks (look_numbers h)
  pub grants : AreDrawn s.desk.grants (grant_numbers h)
  pub only : (w : ℕ) (c : List ℕ) (q : ℕ) → (wake w c q h ≡ NotYet → ⊥) → IsOnlyAt c q h

abbrev pub DrawnOnce : Type 0
DrawnOnce = (me workers slots first : ℕ) (row : List (Slot Message)) (h : List Event) (s : OwnerAt) → Stands me workers slots first row h s
    → InOrder first h → DrawsOnce h s
