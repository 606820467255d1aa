-- What each step of an owner keeps: it fits its slots.
use Rattle.std.specs.Prelude.{◌≡◌, ℕ, ◌<◌, Bool, true, List, map, replicate, is_some}
use Rattle.nc_types.specs.Id.{Id}
use Rattle.nc_types.specs.Message.{Message}
use Rattle.nc_slots.specs.Slot.{lowest_unused}
use Rattle.nc_slots.specs.declared.slot.Slot.{Slot}
use Rattle.nc_slots.specs.declared.slot.Slot.TheVariants.{Unused}
use Rattle.nc_owner.specs.declared.poll.PollAnswer.{PollAnswer}
use Rattle.nc_owner.specs.declared.member.Member.{Member}
use Rattle.nc_owner.specs.declared.order.Order.{Order}
use Rattle.nc_owner.specs.State.{OwnerAt, new_owner}
use Rattle.nc_owner.specs.Poll.{slot_of, held_slots}
use Rattle.nc_owner.specs.Publish.{Polls, PublishPolls, stored, roomy, asked, publish_cleared, publish_outcome, publish_row, publish_after}
use Rattle.nc_owner.specs.Look.{look_row, look_after}
use Rattle.nc_owner.specs.Remove.{removed_row, removed_after, delete_row, delete_after, sweep_row, sweep_after}
use Rattle.nc_owner.specs.OtherSteps.{touched_row, touch_after, join_after, part_after, polled_row, polled_after, with_clock}
use Rattle.nc_owner_laws.specs.Used.{times}
use Rattle.nc_owner_laws.specs.OwnerFits.{OwnerFits}

-- a new owner fits unused slots
abbrev pub NewFits : Type 0
NewFits = (me workers slots first : ℕ) → OwnerFits (replicate slots Unused) (new_owner me workers slots first)

-- a question for information; a deletion and a sweep begin so
abbrev pub TouchFits : Type 0
TouchFits = (c : List ℕ) (row : List (Slot Message)) (s : OwnerAt) → OwnerFits row s → OwnerFits (touched_row c row s) (touch_after c row s)

abbrev pub JoinFits : Type 0
JoinFits = (m : Member) (c : List ℕ) (row : List (Slot Message)) (s : OwnerAt) → OwnerFits row s → OwnerFits (touched_row c row s) (join_after m c row s)

abbrev pub PartFits : Type 0
PartFits = (m : Member) (c : List ℕ) (row : List (Slot Message)) (s : OwnerAt) → OwnerFits row s → OwnerFits (touched_row c row s) (part_after m c row s)

abbrev pub LookFits : Type 0
LookFits = (from : ℕ) (c : List ℕ) (id : Id) (row : List (Slot Message)) (s : OwnerAt) → OwnerFits row s
    → OwnerFits (look_row from c id row s) (look_after from c id row s)

-- a removal, a deletion, and a sweep of one channel
abbrev pub RemoveFits : Type 0
RemoveFits = (c : List ℕ) (last : Id) (row : List (Slot Message)) (s : OwnerAt) → OwnerFits row s
    → OwnerFits (removed_row c row s) (removed_after c last s)

abbrev pub DeleteFits : Type 0
DeleteFits = (c : List ℕ) (row : List (Slot Message)) (s : OwnerAt) → OwnerFits row s → OwnerFits (delete_row c row s) (delete_after c row s)

abbrev pub SweepFits : Type 0
SweepFits = (c : List ℕ) (row : List (Slot Message)) (s : OwnerAt) → OwnerFits row s → OwnerFits (sweep_row c row s) (sweep_after c row s)

-- all retired slots are polled
abbrev pub PolledFits : Type 0
PolledFits = (answers : List PollAnswer) (row : List (Slot Message)) (s : OwnerAt) → map slot_of answers ≡ s.desk.retired → OwnerFits row s
    → OwnerFits (polled_row answers row) (polled_after answers s)

abbrev pub ClockFits : Type 0
ClockFits = (now : ℕ) (row : List (Slot Message)) (s : OwnerAt) → OwnerFits row s → OwnerFits row (with_clock now s)

-- a leaving slot that is held once it has left was held before
abbrev pub HoldsFall : Polls → Type 0
HoldsFall polls = (slot : ℕ) → 0 < times slot (held_slots polls.left) → 0 < times slot (held_slots polls.leaving)

-- it is so of the polls of a publish that stores its message
abbrev pub HoldsFallLaw : Type 0
HoldsFallLaw = (exact : Bool) (counts : List ℕ) (o : Order) (row : List (Slot Message)) (s : OwnerAt) (polls : Polls)
    → PublishPolls exact counts o row s polls → publish_outcome o polls row s ≡ stored → HoldsFall polls

-- and of those of every publish where the numbers of holds are told
abbrev pub ToldHoldsFall : Type 0
ToldHoldsFall = (counts : List ℕ) (o : Order) (row : List (Slot Message)) (s : OwnerAt) (polls : Polls) → PublishPolls true counts o row s polls
    → HoldsFall polls

abbrev pub PublishFits : Type 0
PublishFits = (exact : Bool) (counts : List ℕ) (o : Order) (row : List (Slot Message)) (s : OwnerAt) (polls : Polls)
    → PublishPolls exact counts o row s polls → OwnerFits row s
    → OwnerFits (publish_row o polls row s) (publish_after o polls row s)

-- the slots of a publish when room was made
abbrev pub roomy_row : Order → Polls → List (Slot Message) → OwnerAt → List (Slot Message)
roomy_row o polls row s = (roomy o.length polls.left (asked polls.leaving (publish_cleared o polls row s))).row

-- a publish that is neither late nor full finds an unused slot
abbrev pub PublishFinds : Type 0
PublishFinds = (exact : Bool) (counts : List ℕ) (o : Order) (row : List (Slot Message)) (s : OwnerAt) (polls : Polls)
    → PublishPolls exact counts o row s polls → OwnerFits row s
    → publish_outcome o polls row s ≡ stored → is_some (lowest_unused (roomy_row o polls row s)) ≡ true
