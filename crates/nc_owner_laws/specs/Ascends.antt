-- What an owner keeps as sets ascends: its retired slots, and of each channel the members and the marked workers.
use Rattle.std.specs.Prelude.{ℕ, ◌<◌, List, [], ◌∷◌}
use Rattle.std.specs.List.{AllByRecursion}
use Rattle.std.specs.List.Sorted.{IsStrictlySortedBy}
use Rattle.nc_types.specs.Message.{Message}
use Rattle.nc_journal.specs.declared.event.Event.{Event}
use Rattle.nc_slots.specs.declared.slot.Slot.{Slot}
use Rattle.nc_owner.specs.Members.{member_cmp}
use Rattle.nc_owner.specs.State.{OwnerAt, found}
use Rattle.nc_owner_laws.specs.Filters.{members_in, marks_in}
use Rattle.nc_owner_laws.specs.OwnerStanding.{Stands}

-- each of some numbers is below all behind it
abbrev pub IsAscending : List ℕ → Type 0
IsAscending [] = Unit {0}
IsAscending (x ∷ xs) = AllByRecursion (λ y. x < y) xs × IsAscending xs

pub record Ascends (s : OwnerAt) : Type 0 where
  pub retired : IsAscending s.desk.retired
  pub members : (c : List ℕ) → IsStrictlySortedBy member_cmp (members_in (found c s))
  pub marks : (c : List ℕ) → IsAscending (marks_in (found c s))

-- so it is of an owner that stands for its history
abbrev pub StandsAscends : Type 0
StandsAscends = (me workers slots first : ℕ) (row : List (Slot Message)) (h : List Event) (s : OwnerAt) → Stands me workers slots first row h s
    → Ascends s
