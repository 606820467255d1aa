-- The moves of a world: what each does, and the events that it tells.
use Rattle.std.specs.Prelude.{ℕ, zero, suc, Bool, List, [], ◌∷◌, ◌++◌, length, if◌then◌else◌, nat_lt}
use Rattle.nc_journal.specs.declared.event.Event.{Event}
use Rattle.nc_journal.specs.declared.event.Event.TheVariants.{Pending, Quiet}
use Rattle.nc_history.specs.Packets.{Packet}
use Rattle.nc_worker_state.specs.Setup.{Setup}
use Rattle.nc_worker_state.specs.Incoming.{Incoming, TakesPacket}
use Rattle.nc_worker_state.specs.Worker.{with_at}
use Rattle.nc_world.specs.World.{World, handled_events, handled, pending_in}

pub data Move : Type 0 where
  -- a worker handles what comes from outside
  Handles : ℕ → Incoming → Move
  -- the first packet of a worker's outbox to another goes into the ring between them
  Carries : ℕ → ℕ → Move
  -- a worker takes the first packet of the ring from another and handles it
  Takes : ℕ → ℕ → Move
  -- it is told how many alerts are pending, or that none is
  Counts : Move
  -- it is told where none is pending
  Rests : Move

-- what is told at the end of a settle, and at the end of every other line
abbrev pub counted : ℕ → List Event
counted zero = Quiet ∷ []
counted (suc n) = Pending (suc n) ∷ []

abbrev pub rested : ℕ → List Event
rested zero = Quiet ∷ []
rested (suc n) = []

-- a ring holds at most so many packets
abbrev pub ring_size : ℕ
ring_size = 256

-- a packet goes from a worker's outbox into the ring to another
abbrev pub carried_one : ℕ → ℕ → Packet → List Packet → World → World
carried_one w v p ps world = record world {
  workers = with_at world.workers w (record (world.workers w) { outbox = with_at (world.workers w).outbox v ps });
  rings = with_at world.rings w (with_at (world.rings w) v (world.rings w v ++ p ∷ []));
}

abbrev pub carried : ℕ → ℕ → List Packet → World → World
carried w v [] world = world
carried w v (p ∷ ps) world = if nat_lt (length (world.rings w v)) ring_size then carried_one w v p ps world else world

-- a ring to a worker without its first packet
abbrev pub with_ring : ℕ → ℕ → List Packet → World → World
with_ring v w ps world = record world { rings = with_at world.rings v (with_at (world.rings v) w ps) }

abbrev pub taken_events : Setup → ℕ → ℕ → List Packet → World → List Event
taken_events setup w v [] world = []
taken_events setup w v (p ∷ ps) world = handled_events setup w (TakesPacket v p) world

abbrev pub taken : Setup → ℕ → ℕ → List Packet → World → World
taken setup w v [] world = world
taken setup w v (p ∷ ps) world = handled setup w (TakesPacket v p) (with_ring v w ps world)

abbrev pub move_events : Setup → Move → World → List Event
move_events setup (Handles w incoming) world = handled_events setup w incoming world
move_events setup (Carries w v) world = []
move_events setup (Takes w v) world = taken_events setup w v (world.rings v w) world
move_events setup Counts world = counted (pending_in setup world)
move_events setup Rests world = rested (pending_in setup world)

abbrev pub moved : Setup → Move → World → World
moved setup (Handles w incoming) world = handled setup w incoming world
moved setup (Carries w v) world = carried w v ((world.workers w).outbox v) world
moved setup (Takes w v) world = taken setup w v (world.rings v w) world
moved setup Counts world = world
moved setup Rests world = world
