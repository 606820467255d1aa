-- The events of each step, put on a history that tells an owner, tell the owner after the step.
use Rattle.std.specs.Prelude.{◌≡◌, ℕ, Bool, List, [], ◌∷◌, map}
use Rattle.nc_types.specs.Id.{Id}
use Rattle.nc_types.specs.Message.{Message}
use Rattle.nc_journal.specs.History.{onto}
use Rattle.nc_journal.specs.declared.event.Event.{Event}
use Rattle.nc_journal.specs.declared.event.Event.TheVariants.{Clock}
use Rattle.nc_slots.specs.declared.slot.Slot.{Slot}
use Rattle.nc_owner.specs.declared.desk.Desk.{Desk}
use Rattle.nc_owner.specs.declared.poll.PollAnswer.{PollAnswer}
use Rattle.nc_owner.specs.declared.member.Member.{Member}
use Rattle.nc_owner.specs.declared.order.Order.{Order}
use Rattle.nc_owner.specs.State.{OwnerAt, new_owner}
use Rattle.nc_owner.specs.Poll.{slot_of}
use Rattle.nc_owner.specs.Publish.{Polls, PublishPolls, publish_events, publish_after}
use Rattle.nc_owner.specs.Look.{look_events, look_after}
use Rattle.nc_owner.specs.OtherSteps.{touch_events_of, touch_after, join_events, join_after, part_events, part_after, polled_events, polled_after, with_clock}
use Rattle.nc_owner_laws.specs.OwnerFits.{OwnerFits}
use Rattle.nc_owner_laws.specs.OwnerTold.{HistoryTells}

-- the empty history tells a new owner
abbrev pub NewTells : Type 0
NewTells = (me workers slots first : ℕ) → HistoryTells (new_owner me workers slots first).desk [] (new_owner me workers slots first)

abbrev pub TouchTells : Type 0
TouchTells = (first : Desk) (h : List Event) (c : List ℕ) (row : List (Slot Message)) (s : OwnerAt) → OwnerFits row s → HistoryTells first h s
    → HistoryTells first (onto (touch_events_of c row s) h) (touch_after c row s)

abbrev pub JoinTells : Type 0
JoinTells = (first : Desk) (h : List Event) (m : Member) (c : List ℕ) (row : List (Slot Message)) (s : OwnerAt) → OwnerFits row s → HistoryTells first h s
    → HistoryTells first (onto (join_events m c row s) h) (join_after m c row s)

abbrev pub PartTells : Type 0
PartTells = (first : Desk) (h : List Event) (m : Member) (c : List ℕ) (row : List (Slot Message)) (s : OwnerAt) → OwnerFits row s → HistoryTells first h s
    → HistoryTells first (onto (part_events m c row s) h) (part_after m c row s)

abbrev pub LookTells : Type 0
LookTells = (first : Desk) (h : List Event) (from number : ℕ) (c : List ℕ) (id : Id) (row : List (Slot Message)) (s : OwnerAt) → OwnerFits row s
    → HistoryTells first h s
    → HistoryTells first (onto (look_events from number c id row s) h) (look_after from c id row s)

abbrev pub PolledTells : Type 0
PolledTells = (first : Desk) (h : List Event) (answers : List PollAnswer) (row : List (Slot Message)) (s : OwnerAt) → map slot_of answers ≡ s.desk.retired
    → OwnerFits row s → HistoryTells first h s
    → HistoryTells first (onto (polled_events answers s) h) (polled_after answers s)

-- the worker itself tells its new clock
abbrev pub ClockTells : Type 0
ClockTells = (first : Desk) (h : List Event) (now : ℕ) (s : OwnerAt) → HistoryTells first h s
    → HistoryTells first (Clock s.desk.me now ∷ h) (with_clock now s)

abbrev pub PublishTells : Type 0
PublishTells = (first : Desk) (h : List Event) (exact : Bool) (counts : List ℕ) (from : ℕ) (o : Order) (row : List (Slot Message)) (s : OwnerAt)
    (polls : Polls) → PublishPolls exact counts o row s polls → OwnerFits row s → HistoryTells first h s
    → HistoryTells first (onto (publish_events from o polls row s) h) (publish_after o polls row s)
