-- How code shows in the pure world.
use Rattle.std.specs.Prelude.{◌≡◌, ◌≢◌, ℕ, ◌+◌, ◌<◌, true, List, ◌∷◌, replicate}
use Rattle.nc_journal.specs.declared.event.Event.{Event}
use Rattle.nc_history.specs.Packets.{Packet}
use Rattle.nc_worker_state.specs.Setup.{Setup}
use Rattle.nc_worker_state.specs.Incoming.{Incoming}
use Rattle.nc_worker_state.specs.Worker.{Seat, with_at, given_back, IsHandled}
use Rattle.nc_world.specs.World.{World, seat, with_seat, handled_events, handled, pending_in}
use Rattle.nc_world.specs.Moves.{carried, with_ring}
use Rattle.nc_world_views.specs.Seen.{seen_below, waiting_count}

-- the events and the world of a worker's step
pub record IsStepIn (setup : Setup) (w : ℕ) (incoming : Incoming) (world : World) (events : List Event) (new : Seat) : Type 0 where
  pub happened : events ≡ handled_events setup w incoming world
  pub leaves : with_seat w new world ≡ handled setup w incoming world

abbrev pub ToldIsHandled : Type 0
ToldIsHandled = (setup : Setup) (w : ℕ) (incoming : Incoming) (world : World) (events : List Event) (new : Seat)
    → IsHandled true setup w incoming (seat w world) events new → IsStepIn setup w incoming world events new

-- lists of numbers and packets: one value changed
abbrev pub WriteShows : Type 0
WriteShows = (n : ℕ) (f g new : ℕ → List ℕ) (w : ℕ) → w < n → ((o : ℕ) → o ≢ w → g o ≡ f o)
    → seen_below n g new ≡ with_at (seen_below n f new) w (g w)

-- beyond the workers each slot of so many has no hold
abbrev pub GivenBackShows : Type 0
GivenBackShows = (n slots : ℕ) (counts : ℕ → List ℕ) (events : List Event)
    → seen_below n (given_back counts events) (λ w. replicate slots 0) ≡ given_back (seen_below n counts (λ w. replicate slots 0)) events

abbrev pub SeatCounts : Type 0
SeatCounts = (setup : Setup) (w : ℕ) (s : Seat) (world : World) → w < setup.workers
    → pending_in setup (with_seat w s world) + waiting_count setup.workers (world.workers w) ≡ pending_in setup world + waiting_count setup.workers s.worker

abbrev pub RingCounts : Type 0
RingCounts = (setup : Setup) (v w : ℕ) (p : Packet) (ps : List Packet) (world : World) → v < setup.workers → w < setup.workers
    → world.rings v w ≡ p ∷ ps → pending_in setup (with_ring v w ps world) + 1 ≡ pending_in setup world

abbrev pub CarriedCounts : Type 0
CarriedCounts = (setup : Setup) (w v : ℕ) (outbox : List Packet) (world : World) → (world.workers w).outbox v ≡ outbox
    → pending_in setup (carried w v outbox world) ≡ pending_in setup world
