-- All workers, and the packets between them.
use Rattle.std.specs.Prelude.{ℕ, zero, suc, ◌+◌, List, [], ◌∷◌, ◌++◌, length, replicate}
use Rattle.nc_types.specs.Message.{Message}
use Rattle.nc_slots.specs.declared.slot.Slot.{Slot}
use Rattle.nc_slots.specs.declared.slot.Slot.TheVariants.{Unused}
use Rattle.nc_journal.specs.declared.event.Event.{Event}
use Rattle.nc_history.specs.Packets.{Packet}
use Rattle.nc_worker_state.specs.Setup.{Setup}
use Rattle.nc_worker_state.specs.Incoming.{Incoming}
use Rattle.nc_worker_state.specs.Owned.{StepPolls, step_polls}
use Rattle.nc_worker_state.specs.Worker.{WorkerAt, Seat, new_worker, with_at, holding, step_events, step_seat}

-- the workers, the slots of each owner and how many holds each slot has, and what was carried from one worker to another and isn't taken
pub record World : Type 0 where
  pub workers : ℕ → WorkerAt
  pub rows : ℕ → List (Slot Message)
  pub counts : ℕ → List ℕ
  pub rings : ℕ → ℕ → List Packet

abbrev pub new_world : Setup → World
new_world setup = record {
  workers = new_worker setup;
  rows = λ w. replicate setup.slots Unused;
  counts = λ w. replicate setup.slots 0;
  rings = λ v w. [];
}

-- a worker of a world with its slots, and the holds of all slots
abbrev pub seat : ℕ → World → Seat
seat w world = record { worker = world.workers w; row = world.rows w; counts = world.counts }

-- the world after one worker's step
abbrev pub with_seat : ℕ → Seat → World → World
with_seat w s world = record world { workers = with_at world.workers w s.worker; rows = with_at world.rows w s.row; counts = s.counts }

-- the answers of the polls of a worker's step: the numbers of holds are told
abbrev pub polls_of : ℕ → Incoming → World → StepPolls
polls_of w incoming world = step_polls incoming (holding w (seat w world))

-- what a worker does with what comes
abbrev pub handled_events : Setup → ℕ → Incoming → World → List Event
handled_events setup w incoming world = step_events setup w (polls_of w incoming world) incoming (seat w world)

abbrev pub handled : Setup → ℕ → Incoming → World → World
handled setup w incoming world = with_seat w (step_seat setup w (polls_of w incoming world) incoming (seat w world)) world

-- the packets from one worker to another that aren't taken, the oldest first
abbrev pub waiting_packets : World → ℕ → ℕ → List Packet
waiting_packets world v w = world.rings v w ++ (world.workers v).outbox w

-- the sum over the pairs of workers below a number
abbrev pub sum_below : (ℕ → ℕ) → ℕ → ℕ
sum_below f zero = 0
sum_below f (suc n) = sum_below f n + f n

abbrev pub sum_pairs : (ℕ → ℕ → ℕ) → ℕ → ℕ
sum_pairs f n = sum_below (λ v. sum_below (f v) n) n

-- how many alerts are pending
abbrev pub pending_in : Setup → World → ℕ
pending_in setup world = sum_pairs (λ v w. length (waiting_packets world v w)) setup.workers
