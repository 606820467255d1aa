-- The owner's part of a worker's step: what it does with an alert that asks it something, and what it does by itself.
use Rattle.std.specs.Prelude.{ℕ, Bool, List, [], ◌++◌, Option}
use Rattle.nc_types.specs.Id.{Id}
use Rattle.nc_types.specs.Message.{Message}
use Rattle.nc_journal.specs.declared.event.Event.{Event}
use Rattle.nc_journal.specs.declared.alert.AlertLine.{AlertLine}
use Rattle.nc_journal.specs.declared.alert.AlertLine.TheVariants as lines
use Rattle.nc_slots.specs.declared.slot.Slot.{Slot}
use Rattle.nc_owner.specs.declared.order.Order.{Order}
use Rattle.nc_owner.specs.declared.member.Member.{Member}
use Rattle.nc_owner.specs.declared.poll.PollAnswer.{PollAnswer}
use Rattle.nc_owner.specs.AlertLines.{OutLine}
use Rattle.nc_owner.specs.State.{OwnerAt}
use Rattle.nc_owner.specs.Poll.{PollsOf, AnswersFit, freed_events}
use Rattle.nc_owner.specs.Publish.{Polls, PublishPolls, publish_events, publish_alerts, publish_after, publish_row, publish_holds}
use Rattle.nc_owner.specs.Look.{look_events, look_alerts, look_after, look_row, look_holds}
use Rattle.nc_owner.specs.Fence.{with_floor, raise_events}
use Rattle.nc_owner.specs.Edge.{edge_events, edge_alerts, edge_after}
use Rattle.nc_owner.specs.Remove.{delete_events, delete_alerts, delete_after, delete_row}
use Rattle.nc_owner.specs.OtherSteps.{touched_row, touch_events_of, touch_after, join_events, join_after, part_events, part_after, info_alerts, polled_after, polled_row, with_clock}
use Rattle.nc_owner_laws.specs.HoldsKept.{told_polls, told_answers}
use Rattle.nc_reaper.specs.Reap.{Step, swept_all}
use Rattle.nc_worker_state.specs.Incoming.{Incoming, TakesPacket, ClockReads, Reaps}

-- an owner with its slots and the number of holds of each
pub record Holding : Type 0 where
  pub owner : OwnerAt
  pub row : List (Slot Message)
  pub counts : List ℕ

-- what an owner does at once: its events, its alerts, and what is left
pub record Owned : Type 0 where
  pub events : List Event
  pub alerts : List OutLine
  pub after : Holding

abbrev pub order_of : ℕ → List ℕ → ℕ → ℕ → Option (List ℕ) → List ℕ → Order
order_of r c len timeout ct body = record { r = r; chan = c; length = len; timeout = timeout; content_type = ct; body = body }

abbrev pub member_of : ℕ → ℕ → Member
member_of from k = record { from = from; k = k }

-- a publish, by the answers of its polls
abbrev pub published_by : ℕ → Order → Polls → Holding → Owned
published_by from o polls s = record {
  events = publish_events from o polls s.row s.owner;
  alerts = publish_alerts from o polls s.row s.owner;
  after = record {
    owner = publish_after o polls s.row s.owner;
    row = publish_row o polls s.row s.owner;
    counts = publish_holds o polls s.row s.owner s.counts;
  };
}

abbrev pub looked_by : ℕ → ℕ → List ℕ → Id → Holding → Owned
looked_by from number c id s = record {
  events = look_events from number c id s.row s.owner;
  alerts = look_alerts from number c id s.row s.owner;
  after = record { owner = look_after from c id s.row s.owner; row = look_row from c id s.row s.owner; counts = look_holds from c id s.row s.owner s.counts };
}

-- a step that touches a channel and leaves all holds as they are
abbrev pub touched_by : List ℕ → List Event → List OutLine → OwnerAt → Holding → Owned
touched_by c events alerts owner s =
    record { events = events; alerts = alerts; after = record { owner = owner; row = touched_row c s.row s.owner; counts = s.counts } }

abbrev pub joined_by : Member → List ℕ → Holding → Owned
joined_by m c s = touched_by c (join_events m c s.row s.owner) [] (join_after m c s.row s.owner) s

abbrev pub parted_by : Member → List ℕ → Holding → Owned
parted_by m c s = touched_by c (part_events m c s.row s.owner) [] (part_after m c s.row s.owner) s

abbrev pub informed_by : ℕ → ℕ → List ℕ → Holding → Owned
informed_by from r c s = touched_by c (touch_events_of c s.row s.owner) (info_alerts from r c s.row s.owner) (touch_after c s.row s.owner) s

-- a deletion grants no hold and gives none back
abbrev pub deleted_by : ℕ → ℕ → List ℕ → Holding → Owned
deleted_by from r c s = record {
  events = delete_events c s.row s.owner;
  alerts = delete_alerts from r c s.row s.owner;
  after = record { owner = delete_after c s.row s.owner; row = delete_row c s.row s.owner; counts = s.counts };
}

abbrev pub edged_by : ℕ → ℕ → ℕ → List ℕ → Holding → Owned
edged_by from number k c s = touched_by c (edge_events from number k c s.row s.owner) (edge_alerts from number c s.row s.owner) (edge_after c s.row s.owner) s

-- a fence raises the floor before anything else
abbrev pub fenced : ℕ → Holding → Holding
fenced fence s = record s { owner = with_floor fence s.owner }

abbrev pub behind_fence : ℕ → Holding → Owned → Owned
behind_fence fence s o = record o { events = raise_events fence s.owner ++ o.events }

-- nothing
abbrev pub unowned : Holding → Owned
unowned s = record { events = []; alerts = []; after = s }

-- what an owner does with an alert of a worker, by the answers of the polls of a publish
abbrev pub owned_by : Polls → ℕ → AlertLine → Holding → Owned
owned_by polls from (lines.Publish r c len timeout ct body) s = published_by from (order_of r c len timeout ct body) polls s
owned_by polls from (lines.Look number c after fence) s = behind_fence fence s (looked_by from number c after (fenced fence s))
owned_by polls from (lines.Edge number k c fence) s = behind_fence fence s (edged_by from number k c (fenced fence s))
owned_by polls from (lines.Join c k) s = joined_by (member_of from k) c s
owned_by polls from (lines.Part c k) s = parted_by (member_of from k) c s
owned_by polls from (lines.Delete r c) s = deleted_by from r c s
owned_by polls from (lines.Info r c) s = informed_by from r c s
owned_by polls from line s = unowned s

-- what an owner does in a step of its worker: the sweeps of a reap, one after the other, and what it does last
pub record OwnersPart : Type 0 where
  pub sweeps : List Step
  pub last : Owned

-- only that
abbrev pub at_once : Owned → OwnersPart
at_once o = record { sweeps = []; last = o }

-- a reap: every channel is swept in ascending order of name, and who is told that it is gone is told behind its sweep; then all retired slots are polled
abbrev pub reaped_by : List PollAnswer → Holding → OwnersPart
reaped_by polls s =
    let swept = swept_all s.row s.owner in
    record {
      sweeps = swept.steps;
      last = record {
        events = freed_events s.owner.desk.me polls;
        alerts = [];
        after = record { owner = polled_after polls swept.owner; row = polled_row polls swept.row; counts = s.counts };
      };
    }

-- the clock is set
abbrev pub clocked_by : ℕ → Holding → Owned
clocked_by t s = unowned (record s { owner = with_clock t s.owner })

-- ---- a whole step

-- the answers of the polls of a step: those of a publish, and those of a reap
pub record StepPolls : Type 0 where
  pub publish : Polls
  pub reap : List PollAnswer

-- the owner's part of a step
abbrev pub owned_in : StepPolls → Incoming → Holding → OwnersPart
owned_in polls (TakesPacket from p) s = at_once (owned_by polls.publish from p.line s)
owned_in polls (ClockReads t) s = at_once (clocked_by t s)
owned_in polls Reaps s = reaped_by polls.reap s
owned_in polls incoming s = at_once (unowned s)

-- the answers fit the slots, and agree with the numbers of holds where these are told
pub record ReapPolls (exact : Bool) (s : Holding) (polls : List PollAnswer) : Type 0 where
  pub each : PollsOf exact s.counts (swept_all s.row s.owner).owner.desk.retired polls
  pub fit : AnswersFit (swept_all s.row s.owner).row polls

abbrev pub AskedPolls : Bool → AlertLine → Holding → Polls → Type 0
AskedPolls exact (lines.Publish r c len timeout ct body) s polls = PublishPolls exact s.counts (order_of r c len timeout ct body) s.row s.owner polls
AskedPolls exact line s polls = Unit {0}

abbrev pub StepPollsFit : Bool → Incoming → Holding → StepPolls → Type 0
StepPollsFit exact (TakesPacket from p) s polls = AskedPolls exact p.line s polls.publish
StepPollsFit exact Reaps s polls = ReapPolls exact s polls.reap
StepPollsFit exact incoming s polls = Unit {0}

-- the answers where the numbers of holds are told
abbrev pub no_polls : Polls
no_polls = record { retired = []; leaving = []; left = [] }

abbrev pub line_polls : AlertLine → Holding → Polls
line_polls (lines.Publish r c len timeout ct body) s = told_polls s.counts (order_of r c len timeout ct body) s.row s.owner
line_polls line s = no_polls

abbrev pub step_polls : Incoming → Holding → StepPolls
step_polls (TakesPacket from p) s = record { publish = line_polls p.line s; reap = [] }
step_polls Reaps s = record { publish = no_polls; reap = told_answers s.counts (swept_all s.row s.owner).owner.desk.retired }
step_polls incoming s = record { publish = no_polls; reap = [] }

abbrev pub owned : Incoming → Holding → OwnersPart
owned incoming s = owned_in (step_polls incoming s) incoming s
