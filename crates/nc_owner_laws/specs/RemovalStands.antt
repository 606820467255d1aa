-- An owner stands for its history behind the removal of a channel: all that the channel keeps leaves, and it goes.
use Rattle.std.specs.Prelude.{◌≡◌, ℕ, List}
use Rattle.std.specs.List.{AllByRecursion}
use Rattle.nc_types.specs.Id.{Id}
use Rattle.nc_types.specs.Channel.{owner_of}
use Rattle.nc_types.specs.Message.{Message}
use Rattle.nc_journal.specs.Stamp.{last_of}
use Rattle.nc_journal.specs.declared.event.Event.{Event}
use Rattle.nc_journal.specs.declared.word.LeftCause.{LeftCause}
use Rattle.nc_journal.specs.declared.word.RemovedCause.{RemovedCause}
use Rattle.nc_slots.specs.declared.slot.Slot.{Slot}
use Rattle.nc_owner.specs.AlertLines.{OutLine}
use Rattle.nc_owner.specs.Remove.{removal_lefts, removed_after, removed_row}
use Rattle.nc_owner.specs.State.{OwnerAt}
use Rattle.nc_owner_laws.specs.OwnerStanding.{Stands}
use Rattle.nc_owner_laws.specs.Removal.{IsOfRemoval, TellsMarked, removal_onto}

abbrev pub RemovalStands : Type 0
RemovalStands = (me workers slots first : ℕ) (next : ℕ → ℕ) (c : List ℕ) (last : Id) (left : LeftCause) (cause : RemovedCause)
    (alerts : List OutLine) (row : List (Slot Message)) (h : List Event) (s : OwnerAt)
    → owner_of workers c ≡ me → last ≡ last_of c h → AllByRecursion (λ a. IsOfRemoval c a.line) alerts → TellsMarked c h alerts
    → Stands me workers slots first row h s
    → Stands me workers slots first (removed_row c row s) (removal_onto s.desk.me next c last cause (removal_lefts c left s) alerts h)
    (removed_after c last s)
