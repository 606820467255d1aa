-- What an edge does: it tells how far a channel has come, for one who begins behind the newest message.
use Rattle.std.specs.Prelude.{ℕ, ◌+◌, List, [], ◌∷◌, ◌++◌}
use Rattle.nc_types.specs.Id.{Id}
use Rattle.nc_types.specs.Message.{Message}
use Rattle.nc_journal.specs.declared.event.Event.{Event}
use Rattle.nc_journal.specs.declared.event.Event.TheVariants.{Edged}
use Rattle.nc_journal.specs.declared.alert.AlertLine.TheVariants.{EdgeAnswer}
use Rattle.nc_slots.specs.declared.slot.Slot.{Slot}
use Rattle.nc_owner.specs.State.{OwnerAt, opened}
use Rattle.nc_owner.specs.AlertLines.{OutLine}
use Rattle.nc_owner.specs.OtherSteps.{touch_events_of, touch_after}

-- the last id of a channel; of one that isn't there the spent id
abbrev pub last_in : List ℕ → OwnerAt → Id
last_in c s = (opened c s).backlog.last

-- looks and edges draw from one counter
abbrev pub edged : OwnerAt → OwnerAt
edged s = record s { desk = record s.desk { looks = s.desk.looks + 1 } }

abbrev pub edged_event : ℕ → ℕ → ℕ → List ℕ → OwnerAt → Event
edged_event from number k c s = Edged s.desk.me s.desk.looks from number k c s.desk.floor (last_in c s)

abbrev pub edge_line : ℕ → ℕ → List ℕ → OwnerAt → OutLine
edge_line from number c s = record { to = from; line = EdgeAnswer number s.desk.looks s.desk.floor (last_in c s) }

-- the whole step: the channel is touched, if it exists, and then told
abbrev pub edge_events : ℕ → ℕ → ℕ → List ℕ → List (Slot Message) → OwnerAt → List Event
edge_events from number k c row s = touch_events_of c row s ++ edged_event from number k c (touch_after c row s) ∷ []

abbrev pub edge_alerts : ℕ → ℕ → List ℕ → List (Slot Message) → OwnerAt → List OutLine
edge_alerts from number c row s = edge_line from number c (touch_after c row s) ∷ []

abbrev pub edge_after : List ℕ → List (Slot Message) → OwnerAt → OwnerAt
edge_after c row s = edged (touch_after c row s)
