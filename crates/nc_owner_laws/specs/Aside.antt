-- What a worker does beside its owner leaves what the owner stands for.
use Rattle.std.specs.Prelude.{◌≡◌, ℕ, true, List, ◌∷◌}
use Rattle.nc_types.specs.Message.{Message}
use Rattle.nc_journal.specs.History.{is_by, Along}
use Rattle.nc_journal.specs.declared.event.Event.{Event}
use Rattle.nc_journal.specs.declared.event.Event.TheVariants.{Clock, Joined, Parted, Raised, Stored, Left, Looked, Edged, Granted, Freed, Removed, Made}
use Rattle.nc_journal.specs.declared.alert.AlertLine.{AlertLine}
use Rattle.nc_journal.specs.declared.alert.AlertLine.TheVariants as lines
use Rattle.nc_slots.specs.declared.slot.Slot.{Slot}
use Rattle.nc_owner.specs.State.{OwnerAt}
use Rattle.nc_owner_laws.specs.OwnerStanding.{Stands}
use Rattle.nc_owner_laws.specs.InOrder.{InOrder}
use Rattle.nc_owner_laws.specs.AnsweredOnce.{AnswersNew}

-- an alert that no owner makes of a look or an edge
abbrev pub IsPlainLine : AlertLine → Type 0
IsPlainLine (lines.LookAnswer number q floor found g slot) = ⊥
IsPlainLine (lines.Notice c id g slot) = ⊥
IsPlainLine (lines.EdgeAnswer number q floor last) = ⊥
IsPlainLine (lines.Gone c subs) = ⊥
IsPlainLine line = Unit {0}

-- an event that tells nothing of its worker's owner
abbrev pub IsAside : Event → Type 0
IsAside (Clock w t) = ⊥
IsAside (Joined w c from k) = ⊥
IsAside (Parted w c from k) = ⊥
IsAside (Raised w t) = ⊥
IsAside (Stored w c id slot len exp kept members from r ct body) = ⊥
IsAside (Left w c id slot cause) = ⊥
IsAside (Looked w q from number c after floor found) = ⊥
IsAside (Edged w q from number k c floor last) = ⊥
IsAside (Granted w g slot to) = ⊥
IsAside (Freed w slot) = ⊥
IsAside (Removed w c last cause) = ⊥
IsAside (Made w to n a) = IsPlainLine a
IsAside _ = Unit {0}

-- an owner stands for its history with such an event more, in which all is in order and each look is answered once
abbrev pub AsideStands : Type 0
AsideStands = (me workers slots first : ℕ) (row : List (Slot Message)) (h : List Event) (s : OwnerAt) (e : Event) → IsAside e → is_by me e ≡ true
    → Stands me workers slots first row h s → Stands me workers slots first row (e ∷ h) s

abbrev pub AsideInOrder : Type 0
AsideInOrder = (first : ℕ) (h : List Event) (e : Event) → IsAside e → InOrder first h → InOrder first (e ∷ h)

abbrev pub AsideAnswersNew : Type 0
AsideAnswersNew = (h : List Event) (e : Event) → IsAside e → Along AnswersNew h → Along AnswersNew (e ∷ h)
