-- The removal of a channel: all that it keeps leaves, the channel goes, and those who belong to it or wait there are told.
use Rattle.std.specs.Prelude.{ℕ, Bool, List, [], ◌∷◌, ◌++◌, Option, None, Some, ◌==◌, ◌&&◌, if◌then◌else◌, map, filter, fold, length}
use Rattle.nc_types.specs.Id.{Id}
use Rattle.nc_types.specs.Message.{Message}
use Rattle.nc_types.specs.declared.info.Info.{Info}
use Rattle.nc_journal.specs.Stamp.{greater_id}
use Rattle.nc_journal.specs.declared.event.Event.{Event}
use Rattle.nc_journal.specs.declared.event.Event.TheVariants.{Removed}
use Rattle.nc_journal.specs.declared.word.LeftCause.{LeftCause}
use Rattle.nc_journal.specs.declared.word.LeftCause.TheVariants.{Deleted}
use Rattle.nc_journal.specs.declared.word.RemovedCause.{RemovedCause}
use Rattle.nc_journal.specs.declared.word.RemovedCause.TheVariants.{Reaped, Deleted as ByDeletion}
use Rattle.nc_journal.specs.declared.alert.AlertLine.TheVariants.{DelAnswer, Gone}
use Rattle.nc_slots.specs.declared.slot.Slot.{Slot}
use Rattle.nc_owner.specs.declared.channel.Channel.{Channel}
use Rattle.nc_owner.specs.declared.member.Member.{Member}
use Rattle.nc_owner.specs.Ascending.{with_new_number}
use Rattle.nc_owner.specs.State.{OwnerAt, entries_of, exists, opened, others}
use Rattle.nc_owner.specs.AlertLines.{OutLine}
use Rattle.nc_owner.specs.Leave.{left_by, left_event, left_row}
use Rattle.nc_owner.specs.OtherSteps.{touch_after, touch_events_of, touched_of, touched_row}
use Rattle.nc_owner.specs.Edge.{last_in}
use Rattle.nc_owner.specs.Publish.{info_of}

-- ---- the removal of a channel that was touched

-- each entry leaves, in its order
abbrev pub removal_lefts : List ℕ → LeftCause → OwnerAt → List Event
removal_lefts c cause s = map (left_event s.desk.me c cause) (entries_of (opened c s))

-- then the channel goes
abbrev pub removal_events : List ℕ → RemovedCause → OwnerAt → List Event
removal_events c cause s = removal_lefts c Deleted s ++ Removed s.desk.me c (last_in c s) cause ∷ []

-- the slots, and the owner, once the entries of a channel have left and it is gone: the spent id isn't before the channel's last id
abbrev pub removed_row : List ℕ → List (Slot Message) → OwnerAt → List (Slot Message)
removed_row c row s = fold left_row row (entries_of (opened c s))

abbrev pub removed_after : List ℕ → Id → OwnerAt → OwnerAt
removed_after c last s = record {
  desk = record (left_by (entries_of (opened c s)) s.desk) { spent = greater_id s.desk.spent last };
  channels = others c s.channels;
}

-- ---- who is told

-- the workers that have a mark or a member, in ascending order
abbrev pub with_worker : List ℕ → Member → List ℕ
with_worker workers m = with_new_number workers m.from

abbrev pub concerned : Channel → List ℕ
concerned ch = fold with_worker ch.marks ch.members

-- the numbers of a worker's members, in ascending order
abbrev pub is_of : ℕ → Member → Bool
is_of w m = m.from == w

abbrev pub number_of : Member → ℕ
number_of m = m.k

abbrev pub numbers_of : ℕ → List Member → List ℕ
numbers_of w members = map number_of (filter (is_of w) members)

-- each of these workers is told that the channel is gone, with its members
abbrev pub gone_line : List ℕ → List Member → ℕ → OutLine
gone_line c members w = record { to = w; line = Gone c (numbers_of w members) }

abbrev pub gones : List ℕ → Channel → List OutLine
gones c ch = map (gone_line c ch.members) (concerned ch)

abbrev pub removal_alerts : List ℕ → OwnerAt → List OutLine
removal_alerts c s = gones c (opened c s)

-- ---- a channel is touched, and then removed or not

abbrev pub events_of_removal : Bool → RemovedCause → List ℕ → OwnerAt → List Event
events_of_removal goes cause c s = if goes then removal_events c cause s else []

abbrev pub alerts_of_removal : Bool → List ℕ → OwnerAt → List OutLine
alerts_of_removal goes c s = if goes then removal_alerts c s else []

abbrev pub row_of_removal : Bool → List ℕ → List (Slot Message) → OwnerAt → List (Slot Message)
row_of_removal goes c row s = if goes then removed_row c row s else row

abbrev pub after_removal : Bool → List ℕ → OwnerAt → OwnerAt
after_removal goes c s = if goes then removed_after c (last_in c s) s else s

-- ---- a deletion: where there is such a channel it is touched, its information is taken, and it goes

abbrev pub delete_answer : ℕ → ℕ → ℕ → Option Info → OutLine
delete_answer from r status info = record { to = from; line = DelAnswer r status info }

abbrev pub delete_line : ℕ → ℕ → List ℕ → List (Slot Message) → OwnerAt → OutLine
delete_line from r c row s = if exists c s then delete_answer from r 200 (Some (info_of (touched_of c row s).channel)) else delete_answer from r 404 None

abbrev pub delete_events : List ℕ → List (Slot Message) → OwnerAt → List Event
delete_events c row s = touch_events_of c row s ++ events_of_removal (exists c s) ByDeletion c (touch_after c row s)

abbrev pub delete_alerts : ℕ → ℕ → List ℕ → List (Slot Message) → OwnerAt → List OutLine
delete_alerts from r c row s = alerts_of_removal (exists c s) c (touch_after c row s) ++ delete_line from r c row s ∷ []

abbrev pub delete_row : List ℕ → List (Slot Message) → OwnerAt → List (Slot Message)
delete_row c row s = row_of_removal (exists c s) c (touched_row c row s) (touch_after c row s)

abbrev pub delete_after : List ℕ → List (Slot Message) → OwnerAt → OwnerAt
delete_after c row s = after_removal (exists c s) c (touch_after c row s)

-- ---- a sweep of one channel: it is touched, and where it then has no entry and no member, it goes

abbrev pub is_idle : Channel → Bool
is_idle ch = (length (entries_of ch) == 0) && (length ch.members == 0)

abbrev pub is_reaped : List ℕ → List (Slot Message) → OwnerAt → Bool
is_reaped c row s = exists c s && is_idle (touched_of c row s).channel

abbrev pub sweep_events : List ℕ → List (Slot Message) → OwnerAt → List Event
sweep_events c row s = touch_events_of c row s ++ events_of_removal (is_reaped c row s) Reaped c (touch_after c row s)

abbrev pub sweep_alerts : List ℕ → List (Slot Message) → OwnerAt → List OutLine
sweep_alerts c row s = alerts_of_removal (is_reaped c row s) c (touch_after c row s)

abbrev pub sweep_row : List ℕ → List (Slot Message) → OwnerAt → List (Slot Message)
sweep_row c row s = row_of_removal (is_reaped c row s) c (touched_row c row s) (touch_after c row s)

abbrev pub sweep_after : List ℕ → List (Slot Message) → OwnerAt → OwnerAt
sweep_after c row s = after_removal (is_reaped c row s) c (touch_after c row s)
