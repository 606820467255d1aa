-- No slot has more holds than it can have, over each step of an owner.
use Rattle.std.specs.Prelude.{ℕ, ◌-◌, ◌≤◌, true, List, map, replicate, slice_index, slice_set}
use Rattle.nc_types.specs.Id.{Id}
use Rattle.nc_types.specs.Message.{Message}
use Rattle.nc_slots.specs.declared.slot.Slot.{Slot}
use Rattle.nc_slots.specs.declared.slot.Slot.TheVariants.{Unused}
use Rattle.nc_slots.specs.Slot.{slot_at, most_holds}
use Rattle.nc_owner.specs.declared.order.Order.{Order}
use Rattle.nc_owner.specs.State.{OwnerAt, bench_of}
use Rattle.nc_owner.specs.Ascending.{ascending}
use Rattle.nc_owner.specs.Leave.{touched}
use Rattle.nc_owner.specs.declared.poll.PollAnswer.{PollAnswer}
use Rattle.nc_owner.specs.Poll.{told_answer, AnswersFit}
use Rattle.nc_owner.specs.Publish.{Polls, PublishPolls, cleared, leaving, slots_of, publish_row, publish_holds}
use Rattle.nc_owner.specs.Look.{look_row, look_holds}
use Rattle.nc_owner.specs.OtherSteps.{touched_row, polled_row}
use Rattle.nc_owner.specs.Remove.{removed_row}
use Rattle.nc_owner_laws.specs.OwnerFits.{OwnerFits}

-- each slot has at most as many holds as it can have
abbrev pub HoldsFit : List (Slot Message) → List ℕ → Type 0
HoldsFit row counts = (slot : ℕ) → slice_index counts slot ≤ most_holds (slot_at row slot)

-- the answers of polls of some slots, where the numbers of holds are these
abbrev pub told_answers : List ℕ → List ℕ → List PollAnswer
told_answers counts slots = map (told_answer counts) slots

-- and those of the polls of a publish
abbrev pub told_polls : List ℕ → Order → List (Slot Message) → OwnerAt → Polls
told_polls counts o row s =
    let b = bench_of o.chan row s in
    let first = told_answers counts (touched b).desk.retired in
    let leave = slots_of (leaving o.length (cleared first b)) in
    record { retired = first; leaving = told_answers counts leave; left = told_answers counts (ascending leave) }

-- a hold of a slot is given back
abbrev pub one_less : ℕ → List ℕ → List ℕ
one_less slot counts = slice_set counts slot (slice_index counts slot - 1)

abbrev pub NewHoldsFit : Type 0
NewHoldsFit = (slots : ℕ) → HoldsFit (replicate slots Unused) (replicate slots 0)

-- the steps after which it is still so; a join, a part and a question for information touch a channel, and so do a deletion and a sweep, which then may remove it
pub record StepsHold (row : List (Slot Message)) (counts : List ℕ) (s : OwnerAt) : Type 0 where
  pub touch : (c : List ℕ) → HoldsFit (touched_row c row s) counts
  pub remove : (c : List ℕ) → HoldsFit (removed_row c row s) counts
  pub look : (from : ℕ) (c : List ℕ) (id : Id) → HoldsFit (look_row from c id row s) (look_holds from c id row s counts)
  pub polled : HoldsFit (polled_row (told_answers counts s.desk.retired) row) counts
  pub release : (slot : ℕ) → HoldsFit row (one_less slot counts)
  pub publish : (o : Order) (polls : Polls) → PublishPolls true counts o row s polls
      → HoldsFit (publish_row o polls row s) (publish_holds o polls row s counts)

abbrev pub HoldsKept : Type 0
HoldsKept = (row : List (Slot Message)) (counts : List ℕ) (s : OwnerAt) → OwnerFits row s → HoldsFit row counts → StepsHold row counts s

-- then the told numbers are answers of a publish's polls
abbrev pub ToldPolls : Type 0
ToldPolls = (row : List (Slot Message)) (counts : List ℕ) (s : OwnerAt) (o : Order) → HoldsFit row counts
    → PublishPolls true counts o row s (told_polls counts o row s)

-- and of polls of all retired slots
abbrev pub ToldAnswersFit : Type 0
ToldAnswersFit = (row : List (Slot Message)) (counts slots : List ℕ) → HoldsFit row counts → AnswersFit row (told_answers counts slots)
