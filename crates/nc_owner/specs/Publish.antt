-- What a publish does: its events, its alerts, and the owner and its slots after it.
use Rattle.std.specs.Prelude.{◌≡◌, ℕ, ◌+◌, ◌-◌, Bool, true, false, not, ◌||◌, List, [], ◌∷◌, ◌++◌, Option, None, Some, if◌then◌else◌, nat_le, ◌==◌, map, fold, length, max, take, drop, slice_set, slice_index, unwrap_or}
use Rattle.nc_types.specs.Id.{Id, last_second}
use Rattle.nc_types.specs.Message.{Message}
use Rattle.nc_types.specs.declared.info.FullLine.{FullLine}
use Rattle.nc_types.specs.declared.info.Info.{Info}
use Rattle.nc_journal.specs.Stamp.{next_id, expiry}
use Rattle.nc_journal.specs.declared.event.Event.{Event}
use Rattle.nc_journal.specs.declared.event.Event.TheVariants.{Stored, Granted}
use Rattle.nc_journal.specs.declared.word.LeftCause.TheVariants.{Length}
use Rattle.nc_journal.specs.declared.alert.AlertLine.TheVariants.{PubAnswer, Notice}
use Rattle.nc_buffer.specs.declared.entry.Entry.{Entry}
use Rattle.nc_slots.specs.declared.slot.Slot.{Slot}
use Rattle.nc_slots.specs.Slot.{slot_at, filled, granted, retired, lowest_unused}
use Rattle.nc_owner.specs.declared.channel.Channel.{Channel}
use Rattle.nc_owner.specs.declared.desk.Desk.{Desk}
use Rattle.nc_owner.specs.declared.poll.PollAnswer.{PollAnswer}
use Rattle.nc_owner.specs.declared.order.Order.{Order}
use Rattle.nc_owner.specs.Ascending.{ascending, with_number}
use Rattle.nc_owner.specs.State.{OwnerAt, Bench, entries_of, with_entries, exists, bench_of, after}
use Rattle.nc_owner.specs.AlertLines.{OutLine}
use Rattle.nc_owner.specs.Leave.{left_event, left_by, left_row, touch_events, touched}
use Rattle.nc_owner.specs.Poll.{PollsOf, AnswersFit, polled_all, freed_events, polled_desk, freed_desk, held_count}

-- what the polls of a publish find: those of the retired slots, those of the leaving ones while they are buffered,
-- and those of the leaving ones once they have left
pub record Polls : Type 0 where
  pub retired : List PollAnswer
  pub leaving : List PollAnswer
  pub left : List PollAnswer

-- first the channel is touched, and all retired slots are polled
abbrev pub cleared_events : List PollAnswer → List ℕ → Bench → List Event
cleared_events answers c b = touch_events c b ++ freed_events b.desk.me answers

abbrev pub polled_bench : List PollAnswer → Bench → Bench
polled_bench answers b = record b { desk = polled_desk answers b.desk; row = polled_all answers b.row }

abbrev pub cleared : List PollAnswer → Bench → Bench
cleared answers b = polled_bench answers (touched b)

-- the id that the message gets
abbrev pub stamp : Bench → Id
stamp b = next_id (max b.desk.clock b.desk.floor) b.channel.backlog.last

-- how many of the oldest entries leave where a message of this length comes
abbrev pub leaving_count : ℕ → List Entry → ℕ
leaving_count len es = length es - (len - 1)

abbrev pub leaving : ℕ → Bench → List Entry
leaving len b = take (leaving_count len (entries_of b.channel)) (entries_of b.channel)

abbrev pub slots_of : List Entry → List ℕ
slots_of es = map (λ e. e.slot) es

-- how many slots are buffered and stay, and how many more are held
abbrev pub usage_of : ℕ → Polls → Bench → FullLine
usage_of len polls b = record { buffered = b.desk.buffered - length (leaving len b); held = held_count polls.retired + held_count polls.leaving }

abbrev pub is_full : ℕ → FullLine → Bool
is_full slots usage = (usage.buffered + usage.held) == slots

-- a publish comes to one of these
pub data Outcome : Type 0 where
  -- there is no time left
  late : Outcome
  -- there is no slot left
  full : FullLine → Outcome
  stored : Outcome

abbrev pub is_late : Outcome → Bool
is_late late = true
is_late (full usage) = false
is_late stored = false

abbrev pub is_stored : Outcome → Bool
is_stored late = false
is_stored (full usage) = false
is_stored stored = true

abbrev pub outcome_by : Bool → Bool → FullLine → Outcome
outcome_by false no_slot usage = late
outcome_by true true usage = full usage
outcome_by true false usage = stored

-- what it comes to, once the channel is cleared
abbrev pub outcome : ℕ → Polls → Bench → Outcome
outcome len polls b = outcome_by (nat_le (stamp b).time last_second) (is_full b.desk.slots (usage_of len polls b)) (usage_of len polls b)

-- the slots of the leaving entries are polled
abbrev pub asked : List PollAnswer → Bench → Bench
asked answers b = record b { row = polled_all answers b.row }

-- the leaving entries leave, and their slots are polled in ascending order
abbrev pub roomy_events : ℕ → List PollAnswer → List ℕ → Bench → List Event
roomy_events len answers c b = map (left_event b.desk.me c Length) (leaving len b) ++ freed_events b.desk.me answers

abbrev pub roomy : ℕ → List PollAnswer → Bench → Bench
roomy len answers b = record {
  desk = freed_desk answers (left_by (leaving len b) b.desk);
  row = polled_all answers (fold left_row b.row (leaving len b));
  channel = with_entries (drop (leaving_count len (entries_of b.channel)) (entries_of b.channel)) b.channel;
}

-- the slot that the message takes
abbrev pub lowest_slot : List (Slot Message) → ℕ
lowest_slot row = unwrap_or (lowest_unused row) 0

-- the message of an order
abbrev pub message_of_order : Id → Order → ℕ → Message
message_of_order id o now = record { id = id; body = o.body; content_type = o.content_type; expires = expiry now o.timeout }

abbrev pub stored_event : ℕ → Order → Id → ℕ → ℕ → Desk → Event
stored_event from o id slot members d =
    Stored d.me o.chan id slot o.length (expiry d.clock o.timeout) (not (o.length == 0)) members from o.r o.content_type o.body

-- each marked worker is granted a hold, and told of the message
abbrev pub granted_slot : ℕ → List (Slot Message) → ℕ → List (Slot Message)
granted_slot slot row to = slice_set row slot (granted (slot_at row slot))

abbrev pub one_hold : ℕ → List ℕ → ℕ → List ℕ
one_hold slot counts to = slice_set counts slot (slice_index counts slot + 1)

abbrev pub granted_desk : List ℕ → Desk → Desk
granted_desk marks d = record d { grants = d.grants + length marks }

abbrev pub granted_events : ℕ → ℕ → ℕ → List ℕ → List Event
granted_events w slot g [] = []
granted_events w slot g (to ∷ marks) = Granted w g slot to ∷ granted_events w slot (g + 1) marks

abbrev pub notices : List ℕ → Id → ℕ → ℕ → List ℕ → List OutLine
notices c id slot g [] = []
notices c id slot g (to ∷ marks) = record { to = to; line = Notice c id g slot } ∷ notices c id slot (g + 1) marks

-- then the message is kept, unless its length is 0: its slot is retired
abbrev pub entry_of : Order → Id → ℕ → ℕ → ℕ → Entry
entry_of o id slot now grants = record { id = id; slot = slot; expires = expiry now o.timeout; grants = grants }

abbrev pub kept_desk : Bool → ℕ → Desk → Desk
kept_desk kept slot d = if kept then (record d { buffered = d.buffered + 1 }) else (record d { retired = with_number d.retired slot })

abbrev pub kept_row : Bool → ℕ → List (Slot Message) → List (Slot Message)
kept_row kept slot row = if kept then row else slice_set row slot (retired (slot_at row slot))

abbrev pub kept_entries : Bool → Entry → List Entry → List Entry
kept_entries kept e es = if kept then es ++ e ∷ [] else es

abbrev pub kept_backlog : Bool → Entry → Channel → Channel
kept_backlog kept e ch = record ch { backlog = record { last = e.id; entries = kept_entries kept e ch.backlog.entries } }

-- the message is the channel's last, and nobody is marked any more
abbrev pub kept_channel : Bool → Entry → Channel → Channel
kept_channel kept e ch = record (kept_backlog kept e ch) { latest = Some e.id; marks = [] }

-- a bench with room, after the message was stored in a slot
abbrev pub stored_events : ℕ → Order → ℕ → Bench → List Event
stored_events from o slot b =
    stored_event from o (stamp b) slot (length b.channel.members) b.desk ∷ granted_events b.desk.me slot b.desk.grants b.channel.marks

abbrev pub told_row : Message → ℕ → List ℕ → List (Slot Message) → List (Slot Message)
told_row m slot marks row = fold (granted_slot slot) (slice_set row slot (filled m)) marks

abbrev pub stored_bench : Order → ℕ → Bench → Bench
stored_bench o slot b =
    let kept = not (o.length == 0) in
    let id = stamp b in
    record {
      desk = record (kept_desk kept slot (granted_desk b.channel.marks b.desk)) { floor = max b.desk.floor id.time };
      row = kept_row kept slot (told_row (message_of_order id o b.desk.clock) slot b.channel.marks b.row);
      channel = kept_channel kept (entry_of o id slot b.desk.clock (length b.channel.marks)) b.channel;
    }

-- the answer
abbrev pub info_of : Channel → Info
info_of ch = record { messages = length ch.backlog.entries; members = length ch.members; last = ch.latest }

abbrev pub stored_status : Channel → ℕ
stored_status ch = if length ch.members == 0 then 202 else 201

abbrev pub answer : ℕ → ℕ → ℕ → Option Info → Option FullLine → OutLine
answer from r status info usage = record { to = from; line = PubAnswer r status info usage }

-- from a cleared bench where there is room and time, to the end
abbrev pub store_events : ℕ → Order → List PollAnswer → Bench → List Event
store_events from o left b = let r = roomy o.length left b in roomy_events o.length left o.chan b ++ stored_events from o (lowest_slot r.row) r

abbrev pub store_bench : Order → List PollAnswer → Bench → Bench
store_bench o left b = let r = roomy o.length left b in stored_bench o (lowest_slot r.row) r

abbrev pub store_alerts : ℕ → Order → List PollAnswer → Bench → List OutLine
store_alerts from o left b =
    let r = roomy o.length left b in
    notices o.chan (stamp b) (lowest_slot r.row) b.desk.grants b.channel.marks
    ++ answer from o.r (stored_status b.channel) (Some (info_of (store_bench o left b).channel)) None ∷ []

abbrev pub store_holds : Order → List PollAnswer → Bench → List ℕ → List ℕ
store_holds o left b counts = fold (one_hold (lowest_slot (roomy o.length left b).row)) counts b.channel.marks

-- from a cleared bench to the end, by what the publish comes to
abbrev pub post_events : Outcome → ℕ → Order → Polls → Bench → List Event
post_events late from o polls b = []
post_events (full usage) from o polls b = []
post_events stored from o polls b = store_events from o polls.left (asked polls.leaving b)

abbrev pub post_alerts : Outcome → ℕ → Order → Polls → Bench → List OutLine
post_alerts late from o polls b = answer from o.r 503 None None ∷ []
post_alerts (full usage) from o polls b = answer from o.r 507 None (Some usage) ∷ []
post_alerts stored from o polls b = store_alerts from o polls.left (asked polls.leaving b)

abbrev pub post_bench : Outcome → Order → Polls → Bench → Bench
post_bench late o polls b = b
post_bench (full usage) o polls b = asked polls.leaving b
post_bench stored o polls b = store_bench o polls.left (asked polls.leaving b)

abbrev pub post_holds : Outcome → Order → Polls → Bench → List ℕ → List ℕ
post_holds late o polls b counts = counts
post_holds (full usage) o polls b counts = counts
post_holds stored o polls b counts = store_holds o polls.left (asked polls.leaving b) counts

-- the whole step
abbrev pub publish_cleared : Order → Polls → List (Slot Message) → OwnerAt → Bench
publish_cleared o polls row s = cleared polls.retired (bench_of o.chan row s)

abbrev pub publish_outcome : Order → Polls → List (Slot Message) → OwnerAt → Outcome
publish_outcome o polls row s = outcome o.length polls (publish_cleared o polls row s)

abbrev pub publish_events : ℕ → Order → Polls → List (Slot Message) → OwnerAt → List Event
publish_events from o polls row s =
    cleared_events polls.retired o.chan (bench_of o.chan row s) ++ post_events (publish_outcome o polls row s) from o polls (publish_cleared o polls row s)

abbrev pub publish_alerts : ℕ → Order → Polls → List (Slot Message) → OwnerAt → List OutLine
publish_alerts from o polls row s = post_alerts (publish_outcome o polls row s) from o polls (publish_cleared o polls row s)

abbrev pub publish_bench : Order → Polls → List (Slot Message) → OwnerAt → Bench
publish_bench o polls row s = post_bench (publish_outcome o polls row s) o polls (publish_cleared o polls row s)

abbrev pub publish_after : Order → Polls → List (Slot Message) → OwnerAt → OwnerAt
publish_after o polls row s = after o.chan (exists o.chan s || is_stored (publish_outcome o polls row s)) (publish_bench o polls row s) s

abbrev pub publish_row : Order → Polls → List (Slot Message) → OwnerAt → List (Slot Message)
publish_row o polls row s = (publish_bench o polls row s).row

-- how many holds each slot has, where this is told
abbrev pub publish_holds : Order → Polls → List (Slot Message) → OwnerAt → List ℕ → List ℕ
publish_holds o polls row s counts = post_holds (publish_outcome o polls row s) o polls (publish_cleared o polls row s) counts

-- the slots where the leaving entries have left
abbrev pub left_slots : ℕ → Bench → List (Slot Message)
left_slots len b = fold left_row b.row (leaving len b)

-- on a cleared bench, these answers are those of the leaving slots' polls. Where these polls are made, their answers fit the slots:
-- while they are buffered unless the publish is late, and once they have left where the message is stored
pub record LeavingPolls (exact : Bool) (counts : List ℕ) (len : ℕ) (b : Bench) (polls : Polls) : Type 0 where
  pub before : PollsOf exact counts (slots_of (leaving len b)) polls.leaving
  pub after_leaving : PollsOf exact counts (ascending (slots_of (leaving len b))) polls.left
  pub before_fit : is_late (outcome len polls b) ≡ false → AnswersFit b.row polls.leaving
  pub after_leaving_fit : is_stored (outcome len polls b) ≡ true → AnswersFit (left_slots len (asked polls.leaving b)) polls.left

-- these answers are those of the polls of a publish, of which those of the retired slots fit the slots once the channel was touched
pub record PublishPolls (exact : Bool) (counts : List ℕ) (o : Order) (row : List (Slot Message)) (s : OwnerAt) (polls : Polls) : Type 0 where
  pub first : PollsOf exact counts (touched (bench_of o.chan row s)).desk.retired polls.retired
  pub first_fit : AnswersFit (touched (bench_of o.chan row s)).row polls.retired
  pub others : LeavingPolls exact counts o.length (publish_cleared o polls row s) polls

-- a publish, by the answers of its polls
pub record IsPublished (from : ℕ) (o : Order) (polls : Polls) (row : List (Slot Message)) (s : OwnerAt) (events : List Event) (lines : List OutLine)
    (new_row : List (Slot Message)) (new : OwnerAt) : Type 0 where
  pub happened : events ≡ publish_events from o polls row s
  pub said : lines ≡ publish_alerts from o polls row s
  pub owner : new ≡ publish_after o polls row s
  pub slots : new_row ≡ publish_row o polls row s
