-- Of which kinds the events and the alerts of sweeps and of deletions are.
use Rattle.std.specs.Prelude.{◌≡◌, ◌⊎◌, ℕ, List}
use Rattle.std.specs.List.{AllByRecursion}
use Rattle.nc_types.specs.Channel.{owner_of}
use Rattle.nc_types.specs.Message.{Message}
use Rattle.nc_journal.specs.declared.event.Event.{Event}
use Rattle.nc_journal.specs.declared.event.Event.TheVariants.{Left, Removed}
use Rattle.nc_journal.specs.declared.alert.AlertLine.{AlertLine}
use Rattle.nc_journal.specs.declared.alert.AlertLine.TheVariants.{Gone, DelAnswer}
use Rattle.nc_slots.specs.declared.slot.Slot.{Slot}
use Rattle.nc_owner.specs.AlertLines.{OutLine}
use Rattle.nc_owner.specs.Remove.{delete_events, delete_alerts}
use Rattle.nc_owner.specs.State.{OwnerAt}
use Rattle.nc_reaper.specs.Reap.{Step, swept_all}
use Rattle.nc_owner_laws.specs.OwnChannels.{OwnsChannels}

-- so of each event, and of each alert, of some steps
abbrev pub AllEvents : (Event → Type 0) → List Step → Type 0
AllEvents P steps = AllByRecursion (λ x. AllByRecursion P x.events) steps

abbrev pub AllAlerts : (OutLine → Type 0) → List Step → Type 0
AllAlerts Q steps = AllByRecursion (λ x. AllByRecursion Q x.alerts) steps

-- a message leaves a channel of an owner, or the channel goes
abbrev pub IsOfRemovals : (workers me : ℕ) → Event → Type 0
IsOfRemovals workers me (Left w c id slot cause) = w ≡ me
IsOfRemovals workers me (Removed w c last cause) = (w ≡ me) × (owner_of workers c ≡ me)
IsOfRemovals workers me _ = ⊥

-- a worker is told that a channel of an owner is gone
abbrev pub IsLoss : (workers me : ℕ) → AlertLine → Type 0
IsLoss workers me (Gone c subs) = owner_of workers c ≡ me
IsLoss workers me _ = ⊥

-- or the owner answers who asked for a deletion
abbrev pub IsOfDeletion : (workers me from r to : ℕ) → AlertLine → Type 0
IsOfDeletion workers me from r to (Gone c subs) = owner_of workers c ≡ me
IsOfDeletion workers me from r to (DelAnswer n status info) = (to ≡ from) × (n ≡ r) × ((status ≡ 200) ⊎ (status ≡ 404))
IsOfDeletion workers me from r to _ = ⊥

-- so it is in the sweeps of a reap, of an owner whose channels are its own
pub record SweepsAre (workers me : ℕ) (steps : List Step) : Type 0 where
  pub events : AllEvents (IsOfRemovals workers me) steps
  pub alerts : AllAlerts (λ a. IsLoss workers me a.line) steps

abbrev pub ReapsAre : Type 0
ReapsAre = (workers me : ℕ) (row : List (Slot Message)) (s : OwnerAt) → s.desk.me ≡ me → OwnsChannels workers me s
    → SweepsAre workers me (swept_all row s).steps

-- and in a deletion of a channel of its own
pub record DeletionIs (workers me from r : ℕ) (events : List Event) (alerts : List OutLine) : Type 0 where
  pub events_are : AllByRecursion (IsOfRemovals workers me) events
  pub alerts_are : AllByRecursion (λ a. IsOfDeletion workers me from r a.to a.line) alerts

abbrev pub DeletionsAre : Type 0
DeletionsAre = (workers me from r : ℕ) (c : List ℕ) (row : List (Slot Message)) (s : OwnerAt) → s.desk.me ≡ me → owner_of workers c ≡ me
    → DeletionIs workers me from r (delete_events c row s) (delete_alerts from r c row s)
