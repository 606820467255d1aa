-- Of which kinds the events of an owner's steps are.
use Rattle.std.specs.Prelude.{◌≡◌, ℕ, List}
use Rattle.std.specs.List.{AllByRecursion}
use Rattle.nc_types.specs.Id.{Id}
use Rattle.nc_types.specs.Message.{Message}
use Rattle.nc_journal.specs.declared.event.Event.{Event}
use Rattle.nc_journal.specs.declared.event.Event.TheVariants.{Joined, Parted, Raised, Stored, Left, Looked, Edged, Granted, Freed, Removed}
use Rattle.nc_slots.specs.declared.slot.Slot.{Slot}
use Rattle.nc_owner.specs.declared.member.Member.{Member}
use Rattle.nc_owner.specs.declared.order.Order.{Order}
use Rattle.nc_owner.specs.declared.poll.PollAnswer.{PollAnswer}
use Rattle.nc_owner.specs.State.{OwnerAt}
use Rattle.nc_owner.specs.Publish.{Polls, publish_events}
use Rattle.nc_owner.specs.Look.{look_events}
use Rattle.nc_owner.specs.Fence.{raise_events}
use Rattle.nc_owner.specs.Edge.{edge_events}
use Rattle.nc_owner.specs.Remove.{delete_events, sweep_events}
use Rattle.nc_owner.specs.OtherSteps.{touch_events_of, join_events, part_events, polled_events}

-- an event of an owner's step, by this owner
abbrev pub IsOfOwner : ℕ → Event → Type 0
IsOfOwner me (Joined w c from k) = w ≡ me
IsOfOwner me (Parted w c from k) = w ≡ me
IsOfOwner me (Raised w t) = w ≡ me
IsOfOwner me (Stored w c id slot len exp kept members from r ct body) = w ≡ me
IsOfOwner me (Left w c id slot cause) = w ≡ me
IsOfOwner me (Looked w q from number c after floor found) = w ≡ me
IsOfOwner me (Edged w q from number k c floor last) = w ≡ me
IsOfOwner me (Granted w g slot to) = w ≡ me
IsOfOwner me (Freed w slot) = w ≡ me
IsOfOwner me (Removed w c last cause) = w ≡ me
IsOfOwner me _ = ⊥

abbrev pub AreOfOwner : ℕ → List Event → Type 0
AreOfOwner me events = AllByRecursion (IsOfOwner me) events

-- the events of an owner's steps are all so; information touches a channel
pub record StepsAreOfOwner (row : List (Slot Message)) (s : OwnerAt) : Type 0 where
  pub touch : (c : List ℕ) → AreOfOwner s.desk.me (touch_events_of c row s)
  pub join : (m : Member) (c : List ℕ) → AreOfOwner s.desk.me (join_events m c row s)
  pub part : (m : Member) (c : List ℕ) → AreOfOwner s.desk.me (part_events m c row s)
  pub look : (from number : ℕ) (c : List ℕ) (id : Id) → AreOfOwner s.desk.me (look_events from number c id row s)
  pub raise : (fence : ℕ) → AreOfOwner s.desk.me (raise_events fence s)
  pub edge : (from number k : ℕ) (c : List ℕ) → AreOfOwner s.desk.me (edge_events from number k c row s)
  pub delete : (c : List ℕ) → AreOfOwner s.desk.me (delete_events c row s)
  pub sweep : (c : List ℕ) → AreOfOwner s.desk.me (sweep_events c row s)
  pub polled : (answers : List PollAnswer) → AreOfOwner s.desk.me (polled_events answers s)
  pub publish : (from : ℕ) (o : Order) (polls : Polls) → AreOfOwner s.desk.me (publish_events from o polls row s)

abbrev pub OwnersKinds : Type 0
OwnersKinds = (row : List (Slot Message)) (s : OwnerAt) → StepsAreOfOwner row s
