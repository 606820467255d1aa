-- A worker, and what one step of it is.
use Rattle.std.specs.Prelude.{◌≡◌, ℕ, zero, suc, ◌^◌, Bool, true, false, ◌||◌, List, [], ◌∷◌, ◌++◌, if◌then◌else◌, ◌==◌, nat_le}
use Rattle.std.specs.List.{list_any}
use Rattle.nc_types.specs.Message.{Message}
use Rattle.nc_journal.specs.declared.event.Event.{Event}
use Rattle.nc_journal.specs.declared.event.Event.TheVariants.{Made, Released}
use Rattle.nc_slots.specs.declared.slot.Slot.{Slot}
use Rattle.nc_owner.specs.State.{OwnerAt, new_owner}
use Rattle.nc_owner_laws.specs.HoldsKept.{one_less}
use Rattle.nc_owner_laws.specs.Reaping.{steps_woven, next_behind}
use Rattle.nc_owner_laws.specs.Weave.{weave}
use Rattle.nc_history.specs.Packets.{Packet, packet}
use Rattle.nc_worker_state.specs.Setup.{Setup}
use Rattle.nc_worker_state.specs.Incoming.{Incoming}
use Rattle.nc_worker_state.specs.Deed.{told, next_after}
use Rattle.nc_worker_state.specs.Owned.{Holding, Owned, OwnersPart, StepPolls, StepPollsFit, owned_in}
use Rattle.nc_worker_state.specs.Desk.{Desk, Served, new_desk, opening, served}

-- a worker: its owner, the rest, the number of the next packet to each worker, and the packets that wait to be carried there
pub record WorkerAt : Type 0 where
  pub owner : OwnerAt
  pub desk : Desk
  pub next : ℕ → ℕ
  pub outbox : ℕ → List Packet

abbrev pub new_worker : Setup → ℕ → WorkerAt
new_worker setup me = record {
  owner = new_owner me setup.workers setup.slots setup.first;
  desk = new_desk setup;
  next = λ to. setup.first;
  outbox = λ to. [];
}

-- a worker with its slots, and how many holds the slots of each owner have
pub record Seat : Type 0 where
  pub worker : WorkerAt
  pub row : List (Slot Message)
  pub counts : ℕ → List ℕ

-- ---- what events are to the others

-- the packets that some events make for a worker
abbrev pub sent_to : ℕ → List Event → List Packet
sent_to to [] = []
sent_to to (Made v x n a ∷ es) = if to == x then packet n a ∷ sent_to to es else sent_to to es
sent_to to (e ∷ es) = sent_to to es

-- one value of a function is another
abbrev pub with_at : {X : Type 0} → (ℕ → X) → ℕ → X → ℕ → X
with_at f w x v = if v == w then x else f v

-- the holds that some events release are given back to their slots
abbrev pub given_back : (ℕ → List ℕ) → List Event → ℕ → List ℕ
given_back counts [] = counts
given_back counts (Released v owner g slot ∷ es) = given_back (with_at counts owner (one_less slot (counts owner))) es
given_back counts (e ∷ es) = given_back counts es

-- ---- the step

-- the owner of a seat with its slots
abbrev pub holding : ℕ → Seat → Holding
holding me s = record { owner = s.worker.owner; row = s.row; counts = s.counts me }

-- the events of what an owner does at once, with the alerts that it makes
abbrev pub woven : ℕ → (ℕ → ℕ) → Owned → List Event
woven me next o = weave me next o.events o.alerts

-- the events of an owner's part: each sweep with its alerts, and what it does last
abbrev pub part_woven : ℕ → (ℕ → ℕ) → OwnersPart → List Event
part_woven me next p = steps_woven me next p.sweeps ++ woven me (next_behind next p.sweeps) p.last

-- the events of a step: what opens it, the owner's part, and the rest
abbrev pub dealt_events : ℕ → (ℕ → ℕ) → List Event → OwnersPart → Served → List Event
dealt_events me next before p r = before ++ part_woven me next p ++ told me (next_after next (part_woven me next p)) r.deeds

-- what a step leaves: what it made waits to be carried, and what it released comes back to its slots
abbrev pub dealt_worker : List Event → OwnersPart → Served → WorkerAt → WorkerAt
dealt_worker events p r s = record {
  owner = p.last.after.owner;
  desk = r.after;
  next = next_after s.next events;
  outbox = λ to. s.outbox to ++ sent_to to events;
}

abbrev pub dealt_counts : ℕ → List Event → OwnersPart → (ℕ → List ℕ) → ℕ → List ℕ
dealt_counts me events p counts = given_back (with_at counts me p.last.after.counts) events

module _ (setup : Setup) (me : ℕ) (polls : StepPolls) (incoming : Incoming) (s : Seat) where
  abbrev pub owners_part : OwnersPart
  owners_part = owned_in polls incoming (holding me s)

  abbrev pub other_part : Served
  other_part = served setup me incoming s.worker.desk

  abbrev pub step_events : List Event
  step_events = dealt_events me s.worker.next (opening setup me incoming s.worker.desk) owners_part other_part

  abbrev pub step_seat : Seat
  step_seat = record {
    worker = dealt_worker step_events owners_part other_part s.worker;
    row = owners_part.last.after.row;
    counts = dealt_counts me step_events owners_part s.counts;
  }

-- what a worker does with what comes, by some answers of its polls: the events, the worker and its slots after it, and the holds where they are told
pub record IsHandled (exact : Bool) (setup : Setup) (me : ℕ) (incoming : Incoming) (s : Seat) (events : List Event) (new : Seat) : Type 0 where
  pub polls : StepPolls
  pub fit : StepPollsFit exact incoming (holding me s) polls
  pub happened : events ≡ step_events setup me polls incoming s
  pub worker : new.worker ≡ (step_seat setup me polls incoming s).worker
  pub slots : new.row ≡ (step_seat setup me polls incoming s).row
  pub holds : exact ≡ true → new.counts ≡ (step_seat setup me polls incoming s).counts

-- ---- worn workers

-- half of the numbers of 64 bits are drawn
abbrev pub is_worn_number : ℕ → Bool
is_worn_number n = nat_le (2 ^ 63) n

-- it is so of the numbers of packets to one of the workers below a number
abbrev pub any_worn : ℕ → (ℕ → ℕ) → Bool
any_worn zero next = false
any_worn (suc n) next = any_worn n next || is_worn_number (next n)

-- a worker is worn where one of its counters is: of looks and edges asked, of looks told, of grants, of requests, or of packets to a worker
abbrev pub is_worn : ℕ → WorkerAt → Bool
is_worn workers s =
    list_any is_worn_number (s.desk.spools.next ∷ s.owner.desk.looks ∷ s.owner.desk.grants ∷ s.desk.requests ∷ [])
    || any_worn workers s.next
