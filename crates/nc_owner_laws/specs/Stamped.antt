-- A history under the stamp rule stays so over an owner's steps.
use Rattle.std.specs.Prelude.{◌≡◌, ℕ, ◌≤◌, List}
use Rattle.nc_types.specs.Id.{Id}
use Rattle.nc_types.specs.Channel.{owner_of}
use Rattle.nc_types.specs.Message.{Message}
use Rattle.nc_journal.specs.History.{own, onto}
use Rattle.nc_journal.specs.Stamp.{floor_of, IsStamped}
use Rattle.nc_journal.specs.declared.event.Event.{Event}
use Rattle.nc_slots.specs.declared.slot.Slot.{Slot}
use Rattle.nc_owner.specs.declared.poll.PollAnswer.{PollAnswer}
use Rattle.nc_owner.specs.declared.member.Member.{Member}
use Rattle.nc_owner.specs.declared.order.Order.{Order}
use Rattle.nc_owner.specs.State.{OwnerAt}
use Rattle.nc_owner.specs.Publish.{Polls, publish_events}
use Rattle.nc_owner.specs.Look.{look_events}
use Rattle.nc_owner.specs.OtherSteps.{touch_events_of, join_events, part_events, polled_events}
use Rattle.nc_owner_laws.specs.OwnerTold.{HistoryTells}
use Rattle.nc_owner_laws.specs.Filters.{new_desk}

-- a local history of an owner of some workers, which tells it
pub record IsHistoryOf (me workers slots first : ℕ) (h : List Event) (s : OwnerAt) : Type 0 where
  pub local : own me h ≡ h
  pub tells : HistoryTells (new_desk me workers slots first) h s

-- the message that a publish stores has the stamp
abbrev pub PublishStamped : Type 0
PublishStamped = (me workers slots first from : ℕ) (h : List Event) (o : Order) (row : List (Slot Message)) (s : OwnerAt) (polls : Polls)
    → IsHistoryOf me workers slots first h s → owner_of workers o.chan ≡ me → IsStamped workers h
    → IsStamped workers (onto (publish_events from o polls row s) h)

-- the other steps store nothing
pub record StepsStamped (workers : ℕ) (h : List Event) (c : List ℕ) (row : List (Slot Message)) (s : OwnerAt) : Type 0 where
  pub touch : IsStamped workers (onto (touch_events_of c row s) h)
  pub join : (m : Member) → IsStamped workers (onto (join_events m c row s) h)
  pub part : (m : Member) → IsStamped workers (onto (part_events m c row s) h)
  pub look : (from number : ℕ) (id : Id) → IsStamped workers (onto (look_events from number c id row s) h)
  pub polled : (answers : List PollAnswer) → IsStamped workers (onto (polled_events answers s) h)

abbrev pub OthersStamped : Type 0
OthersStamped = (workers : ℕ) (h : List Event) (c : List ℕ) (row : List (Slot Message)) (s : OwnerAt) → IsStamped workers h
    → StepsStamped workers h c row s

-- the floor never falls
abbrev pub FloorLaw : Type 0
FloorLaw = (es h : List Event) → floor_of h ≤ floor_of (onto es h)
