-- Entries leave a channel, and their slots are retired.
use Rattle.std.specs.Prelude.{ℕ, ◌-◌, Bool, not, List, map, filter, fold, length, take, drop, slice_set}
use Rattle.nc_types.specs.Message.{Message}
use Rattle.nc_journal.specs.declared.event.Event.{Event}
use Rattle.nc_journal.specs.declared.event.Event.TheVariants.{Left}
use Rattle.nc_journal.specs.declared.word.LeftCause.{LeftCause}
use Rattle.nc_journal.specs.declared.word.LeftCause.TheVariants.{Expired, Spent}
use Rattle.nc_buffer.specs.declared.entry.Entry.{Entry}
use Rattle.nc_buffer.specs.Buffer.{is_expired, is_spent}
use Rattle.nc_slots.specs.declared.slot.Slot.{Slot}
use Rattle.nc_slots.specs.Slot.{slot_at, retired}
use Rattle.nc_owner.specs.declared.desk.Desk.{Desk}
use Rattle.nc_owner.specs.Ascending.{with_number}
use Rattle.nc_owner.specs.State.{Bench, entries_of, with_entries}

-- one entry leaves
abbrev pub left_event : ℕ → List ℕ → LeftCause → Entry → Event
left_event w c cause e = Left w c e.id e.slot cause

abbrev pub left_desk : Desk → Entry → Desk
left_desk d e = record d { retired = with_number d.retired e.slot; buffered = d.buffered - 1 }

abbrev pub left_row : List (Slot Message) → Entry → List (Slot Message)
left_row row e = slice_set row e.slot (retired (slot_at row e.slot))

-- some entries leave, one after the other
abbrev pub with_slot : List ℕ → Entry → List ℕ
with_slot slots e = with_number slots e.slot

abbrev pub left_by : List Entry → Desk → Desk
left_by es d = record d { retired = fold with_slot d.retired es; buffered = d.buffered - length es }

-- the entries that pass a test leave, and the others stay
abbrev pub leavers : (Entry → Bool) → Bench → List Entry
leavers test b = filter test (entries_of b.channel)

abbrev pub stayers : (Entry → Bool) → List Entry → List Entry
stayers test es = filter (λ e. not (test e)) es

abbrev pub let_go_events : LeftCause → (Entry → Bool) → List ℕ → Bench → List Event
let_go_events cause test c b = map (left_event b.desk.me c cause) (leavers test b)

abbrev pub let_go : (Entry → Bool) → Bench → Bench
let_go test b = record {
  desk = left_by (leavers test b) b.desk;
  row = fold left_row b.row (leavers test b);
  channel = with_entries (stayers test (entries_of b.channel)) b.channel;
}

-- a channel is touched: what has expired leaves
abbrev pub touch_events : List ℕ → Bench → List Event
touch_events c b = let_go_events Expired (is_expired b.desk.clock) c b

abbrev pub touched : Bench → Bench
touched b = let_go (is_expired b.desk.clock) b

-- what can't be granted once more leaves
abbrev pub spend_events : List ℕ → Bench → List Event
spend_events c b = let_go_events Spent is_spent c b

abbrev pub without_spent : Bench → Bench
without_spent b = let_go is_spent b

-- so many of the oldest entries leave
abbrev pub shed_events : LeftCause → ℕ → List ℕ → Bench → List Event
shed_events cause n c b = map (left_event b.desk.me c cause) (take n (entries_of b.channel))

abbrev pub shed : ℕ → Bench → Bench
shed n b = record {
  desk = left_by (take n (entries_of b.channel)) b.desk;
  row = fold left_row b.row (take n (entries_of b.channel));
  channel = with_entries (drop n (entries_of b.channel)) b.channel;
}
