-- What a deletion and a sweep keep: a channel is touched, and where it goes, all that it keeps leaves and who belongs to it or waits there is told.
use Rattle.std.specs.Prelude.{◌≡◌, ℕ, ◌<◌, Bool, false, List, [], ◌∷◌, ◌==◌, ◌&&◌, ◌||◌}
use Rattle.std.specs.List.{AllByRecursion}
use Rattle.nc_types.specs.Channel.{owner_of}
use Rattle.nc_types.specs.Message.{Message}
use Rattle.nc_journal.specs.History.{onto}
use Rattle.nc_journal.specs.declared.event.Event.{Event}
use Rattle.nc_journal.specs.declared.word.RemovedCause.{RemovedCause}
use Rattle.nc_journal.specs.declared.alert.AlertLine.{AlertLine}
use Rattle.nc_journal.specs.declared.alert.AlertLine.TheVariants.{Gone}
use Rattle.nc_slots.specs.declared.slot.Slot.{Slot}
use Rattle.nc_owner.specs.declared.member.Member.{Member}
use Rattle.nc_owner.specs.AlertLines.{OutLine}
use Rattle.nc_owner.specs.Ascending.{has_number}
use Rattle.nc_owner.specs.Edge.{last_in}
use Rattle.nc_owner.specs.Remove.{removal_events, removal_alerts, removed_row, removed_after, delete_events, delete_alerts, delete_row, delete_after, sweep_events, sweep_alerts, sweep_row, sweep_after}
use Rattle.nc_owner.specs.State.{OwnerAt, opened}
use Rattle.nc_owner_laws.specs.Filters.{is_member}
use Rattle.nc_owner_laws.specs.OwnerStanding.{Stands}
use Rattle.nc_owner_laws.specs.Reaping.{Keeps}
use Rattle.nc_owner_laws.specs.Weave.{weave}

-- the removal of a channel with those who are told of it, put on a history
abbrev pub removed_onto : (ℕ → ℕ) → List ℕ → RemovedCause → List Event → OwnerAt → List Event
removed_onto next c cause h s = onto (weave s.desk.me next (removal_events c cause s) (removal_alerts c s)) h

-- an owner stands for its history when a channel of its own was removed
abbrev pub RemoveKeeps : Type 0
RemoveKeeps = (me workers slots first : ℕ) (next : ℕ → ℕ) (c : List ℕ) (cause : RemovedCause) (row : List (Slot Message)) (h : List Event)
    (s : OwnerAt) → owner_of workers c ≡ me → Keeps me workers slots first row h s
    → Keeps me workers slots first (removed_row c row s) (removed_onto next c cause h s) (removed_after c (last_in c s) s)

-- and when a deletion was done, of a channel that is there or isn't
abbrev pub DeleteKeeps : Type 0
DeleteKeeps = (me workers slots first from r : ℕ) (next : ℕ → ℕ) (c : List ℕ) (row : List (Slot Message)) (h : List Event) (s : OwnerAt)
    → owner_of workers c ≡ me → Keeps me workers slots first row h s
    → Keeps me workers slots first (delete_row c row s) (onto (weave s.desk.me next (delete_events c row s) (delete_alerts from r c row s)) h)
    (delete_after c row s)

-- and when a channel was swept
abbrev pub SweepKeeps : Type 0
SweepKeeps = (me workers slots first : ℕ) (next : ℕ → ℕ) (c : List ℕ) (row : List (Slot Message)) (h : List Event) (s : OwnerAt)
    → owner_of workers c ≡ me → Keeps me workers slots first row h s
    → Keeps me workers slots first (sweep_row c row s) (onto (weave s.desk.me next (sweep_events c row s) (sweep_alerts c row s)) h) (sweep_after c row s)

-- whether a worker's subscriber of a number is among those that alerts tell gone
abbrev pub names_gone : ℕ → AlertLine → Bool
names_gone k (Gone c subs) = has_number k subs
names_gone k line = false

abbrev pub is_told_member : Member → List OutLine → Bool
is_told_member m [] = false
is_told_member m (a ∷ alerts) = ((a.to == m.from) && names_gone m.k a.line) || is_told_member m alerts

-- the members of a channel that is removed are told gone, and nobody else is
abbrev pub MembersTold : Type 0
MembersTold = (me workers slots first : ℕ) (c : List ℕ) (m : Member) (row : List (Slot Message)) (h : List Event) (s : OwnerAt)
    → Stands me workers slots first row h s → is_told_member m (removal_alerts c s) ≡ is_member c m h

-- and whoever is told is a worker that is there, where those are that the channel keeps
abbrev pub ToldAreThere : Type 0
ToldAreThere = (workers : ℕ) (c : List ℕ) (s : OwnerAt) → AllByRecursion (λ w. w < workers) (opened c s).marks
    → AllByRecursion (λ m. m.from < workers) (opened c s).members → AllByRecursion (λ a. a.to < workers) (removal_alerts c s)
