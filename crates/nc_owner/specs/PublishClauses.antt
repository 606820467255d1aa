-- What the middle of a publish comes to, from a cleared bench to the end.
use Rattle.std.specs.Prelude.{◌≡◌, ℕ, Bool, true, List, ◌++◌, Some}
use Rattle.nc_types.specs.Message.{Message}
use Rattle.nc_journal.specs.declared.event.Event.{Event}
use Rattle.nc_alert.specs.declared.packet.Outgoing.{Outgoing}
use Rattle.nc_slots.specs.declared.slot.Slot.{Slot}
use Rattle.nc_slots.specs.Slot.{lowest_unused}
use Rattle.nc_slots.specs.Slots.{HoldAt}
use Rattle.nc_owner.specs.declared.order.Order.{Order}
use Rattle.nc_owner.specs.declared.poll.PollAnswer.{PollAnswer}
use Rattle.nc_owner.specs.Holds.{AllCarry}
use Rattle.nc_owner.specs.State.{OwnerAt, Bench}
use Rattle.nc_owner.specs.AlertLines.{OutLine, out_lines}
use Rattle.nc_owner.specs.Pool.{SameOthers}
use Rattle.nc_owner.specs.Publish.{store_events, store_alerts, store_bench, store_holds, message_of_order, stamp, Polls, LeavingPolls, PublishPolls, IsPublished, outcome, is_stored, post_events, post_alerts, post_bench, post_holds, publish_holds, asked, roomy, lowest_slot, publish_outcome, publish_cleared}

-- there is an unused slot, and the message takes the lowest
abbrev pub TakesSlot : Bench → Type 0
TakesSlot room = lowest_unused room.row ≡ Some (lowest_slot room.row)

-- a message was stored from a cleared bench, by the answers of the polls of the slots that were left:
-- the events behind those before, the alerts and their holds, the bench after it, and what the owners have of slots and holds
pub record IsStored {H : Type 0} (hold_of : H → HoldAt) (exact : Bool) (from me : ℕ) (o : Order) (left : List PollAnswer) (b : Bench)
    (slots new_slots : ℕ → List (Slot Message)) (holds new_holds : ℕ → List ℕ) (before events : List Event) (alerts : List (Outgoing H))
    (bench : Bench) : Type 0 where
  pub happened : events ≡ before ++ store_events from o left b
  pub said : out_lines alerts ≡ store_alerts from o left b
  pub after_store : bench ≡ store_bench o left b
  pub taken : TakesSlot (roomy o.length left b)
  pub carried : AllCarry hold_of me (message_of_order (stamp b) o b.desk.clock) alerts
  pub others : SameOthers me slots new_slots
  pub counts : exact ≡ true → new_holds me ≡ store_holds o left b (holds me)
  pub other_counts : exact ≡ true → SameOthers me holds new_holds

-- by the answers of its polls: whether a message was stored, the events behind those before, the alerts, the bench and the holds after it
pub record IsPosted (exact : Bool) (from : ℕ) (o : Order) (polls : Polls) (b : Bench) (counts : List ℕ) (done : Bool) (before events : List Event)
    (lines : List OutLine) (bench : Bench) (new_counts : List ℕ) : Type 0 where
  pub kind : done ≡ is_stored (outcome o.length polls b)
  pub happened : events ≡ before ++ post_events (outcome o.length polls b) from o polls b
  pub said : lines ≡ post_alerts (outcome o.length polls b) from o polls b
  pub after_post : bench ≡ post_bench (outcome o.length polls b) o polls b
  pub held : exact ≡ true → new_counts ≡ post_holds (outcome o.length polls b) o polls b counts
  pub taken : done ≡ true → TakesSlot (roomy o.length polls.left (asked polls.leaving b))

-- there are such answers, of which the first ones are known
abbrev pub Posts : Bool → ℕ → Order → List PollAnswer → Bench → List ℕ → Bool → List Event → List Event → List OutLine → Bench
    → List ℕ → Type 0
Posts exact from o first b counts done before events lines bench new_counts =
    (polls : Polls) × (polls.retired ≡ first) × LeavingPolls exact counts o.length b polls
    × IsPosted exact from o polls b counts done before events lines bench new_counts

-- where a publish stores a message, there is room for it
abbrev pub HasRoom : Order → Polls → List (Slot Message) → OwnerAt → Type 0
HasRoom o polls row s = is_stored (publish_outcome o polls row s) ≡ true
    → TakesSlot (roomy o.length polls.left (asked polls.leaving (publish_cleared o polls row s)))

-- there are answers of its polls by which a publish does this
abbrev pub Publishes : Bool → ℕ → Order → List (Slot Message) → OwnerAt → List ℕ → List Event → List OutLine → List (Slot Message)
    → OwnerAt → List ℕ → Type 0
Publishes exact from o row s counts events lines new_row new new_counts =
    (polls : Polls)
    × PublishPolls exact counts o row s polls
    × IsPublished from o polls row s events lines new_row new
    × (exact ≡ true → new_counts ≡ publish_holds o polls row s counts)
    × HasRoom o polls row s
