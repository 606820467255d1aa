-- Histories: what the workers did, the newest event first.
use Rattle.std.specs.Prelude.{◌≡◌, ℕ, Bool, false, List, [], ◌∷◌, ◌++◌, ◌==◌, if◌then◌else◌}
use Rattle.nc_journal.specs.declared.event.Event.{Event}
use Rattle.nc_journal.specs.declared.event.Event.TheVariants.{Clock, Opened, Got, Asked, Answered, Subscribed, Started, Joined, Parted, Raised, Stored, Left, Looked, Edged, Granted, Released, Freed, Removed, Sent, Ended, Replied, Wrote, Shut, Made, Took, Pending, Quiet}

-- the events of a step, in the order in which they happened, put on a history
abbrev pub onto : List Event → List Event → List Event
onto [] h = h
onto (e ∷ es) h = onto es (e ∷ h)

-- whether a worker did it; `pending` and `quiet` are nobody's
abbrev pub is_by : ℕ → Event → Bool
is_by w (Clock v t) = w == v
is_by w (Opened v conn) = w == v
is_by w (Got v conn bytes) = w == v
is_by w (Asked v r conn act list status rule) = w == v
is_by w (Answered v r conn status info json close) = w == v
is_by w (Subscribed v k conn list mode start timeout close) = w == v
is_by w (Started v k cur) = w == v
is_by w (Joined v c from k) = w == v
is_by w (Parted v c from k) = w == v
is_by w (Raised v t) = w == v
is_by w (Stored v c id slot len exp kept members from r ct body) = w == v
is_by w (Left v c id slot cause) = w == v
is_by w (Looked v q from number c after floor found) = w == v
is_by w (Edged v q from number k c floor last) = w == v
is_by w (Granted v g slot to) = w == v
is_by w (Released v owner g slot) = w == v
is_by w (Freed v slot) = w == v
is_by w (Removed v c last cause) = w == v
is_by w (Sent v k i c id cur looks) = w == v
is_by w (Ended v k cause) = w == v
is_by w (Replied v conn bytes) = w == v
is_by w (Wrote v conn bytes) = w == v
is_by w (Shut v conn cause) = w == v
is_by w (Made v to n a) = w == v
is_by w (Took v from n a) = w == v
is_by w (Pending n) = false
is_by w Quiet = false

-- the local history of a worker: what it did itself
abbrev pub own : ℕ → List Event → List Event
own w [] = []
own w (e ∷ h) = if is_by w e then e ∷ own w h else own w h

-- at each event, what stands before it and the event are in this relation
abbrev pub Along : (List Event → Event → Type 0) → List Event → Type 0
Along P [] = Unit {0}
Along P (e ∷ h) = Along P h × P h e

-- however a history is cut at an event, what is newer, the event and what is older are in this relation
abbrev pub AtEachCut : (List Event → Event → List Event → Type 0) → List Event → Type 0
AtEachCut P h = (newer : List Event) (e : Event) (older : List Event) → h ≡ newer ++ e ∷ older → P newer e older
