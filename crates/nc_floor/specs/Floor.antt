-- The floor as a pure world.
use Rattle.std.specs.Prelude.{◌≡◌, ◌≢◌, ℕ, true, List, length, map, replicate, slice_index_or}
use Rattle.std.specs.List.{AllByRecursion}
use Rattle.nc_journal.specs.declared.event.Event.{Event}
use Rattle.nc_slots.specs.declared.slot.Slot.TheVariants.{Unused}
use Rattle.nc_slots.specs.declared.plain.PlainHold.{PlainHold}
use Rattle.nc_slots.specs.Slots.{HoldAt}
use Rattle.nc_slots.specs.Plain.{RowAt, row_at}
use Rattle.nc_types.specs.Config.{ConfigAt}
use Rattle.nc_rings.specs.Ring.{ring_of}
use Rattle.nc_worker_state.specs.Setup.{Setup, setup_of}
use Rattle.nc_worker_state.specs.Incoming.{Incoming, told_packet}
use Rattle.nc_worker_state.specs.Worker.{WorkerAt, IsHandled, new_worker}
use Rattle.nc_world.specs.World.{World, pending_in}
use Rattle.nc_world.specs.Reached.{IsSetup}
use Rattle.nc_world_laws.specs.Good.{Good}
use Rattle.nc_world_views.specs.Seen.{seen_below, waiting_count}
use Rattle.nc_turns.specs.Telling.{Telling, telling}
use Rattle.nc_world.specs.Moves.{Move}
use Rattle.nc_world.specs.Lines.{does}
use Rattle.nc_settle.specs.declared.machine.Turn.{Turn}
use Rattle.nc_settle.specs.Turns.{turn_told, turn_leaves}
use Rattle.nc_turns.specs.Worn.{meets_worn}
use Rattle.nc_floor.specs.Hand.{me_of, seat_in, IsBetween}
use Rattle.nc_floor.specs.declared.floor.Floor.{Floor}

module _ {W : Type 0} where
  -- what the workers are set up with
  abbrev pub setup_in : Floor W → Setup
  setup_in s = setup_of s.conf s.first

module _ {W : Type 0} (worker : W → WorkerAt) where
  -- the workers, slots, counts and packets; a number that is no worker's has a new worker
  abbrev pub world_of : Floor W → World
  world_of s = record {
    workers = λ w. slice_index_or (map worker s.hands.items) w (new_worker (setup_in s) w);
    rows = seen_below s.conf.workers (λ w. (row_at s.slots w).slots) (λ w. replicate s.conf.slots Unused);
    counts = seen_below s.conf.workers (λ w. (row_at s.slots w).holds) (λ w. replicate s.conf.slots 0);
    rings = λ v w. map told_packet (ring_of s.rings v w);
  }

  -- the same with what was told
  abbrev pub telling_of : Floor W → Telling
  telling_of s = record { setup = setup_in s; world = world_of s; told = s.told }

module _ {W : Type 0} (worker : W → WorkerAt) (sound : W → Type 0) (held : PlainHold → HoldAt) where
  -- there is a sound worker for each number, the packets in each ring are between its ends, and the pending packets are counted
  pub record IsStaffed (s : Floor W) : Type 0 where
    pub setup : IsSetup (setup_in s)
    pub hired : length s.hands.items ≡ s.conf.workers
    pub fit : AllByRecursion sound s.hands.items
    pub between : (v w : ℕ) → AllByRecursion (IsBetween held v w) (ring_of s.rings v w)
    pub counted : s.pending ≡ pending_in (setup_in s) (world_of worker s)

  -- and for some history all is good
  pub record IsFloor (s : Floor W) : Type 0 where
    pub staffed : IsStaffed s
    pub history : List Event
    pub good : Good (setup_in s) history (world_of worker s)

module _ {W : Type 0} (worker : W → WorkerAt) where
  -- a move was made, and its events were told
  abbrev pub HasMoved : Move → Floor W → Floor W → Type 0
  HasMoved m old new = telling_of worker new ≡ telling m (telling_of worker old)

-- a worker handled something: it and all slots after it, the events, and how many packets waited with it before and do after it
pub record HandsOver {W : Type 0} (worker : W → WorkerAt) (sound : W → Type 0) (conf : ConfigAt) (incoming : Incoming) (old new : W)
    (slots new_slots : List RowAt) (events : List Event) (waited waits : ℕ) : Type 0 where
  pub fit : sound new
  pub handled : (first : ℕ) → IsHandled true (setup_of conf first) (me_of (worker old)) incoming
      (seat_in (worker old) (me_of (worker old)) slots) events (seat_in (worker new) (me_of (worker old)) new_slots)
  pub others : (o : ℕ) → o ≢ me_of (worker old) → (row_at new_slots o).slots ≡ (row_at slots o).slots
  pub before : waited ≡ waiting_count conf.workers (worker old)
  pub behind : waits ≡ waiting_count conf.workers (worker new)

-- a move was tried: by whether it does something and whether it meets a worn worker it was made, or nothing changed
pub record Tries {W : Type 0} (worker : W → WorkerAt) (m : Move) (turn : Turn) (old new : Floor W) : Type 0 where
  pub told : turn ≡ turn_told (does (world_of worker old) m) (meets_worn (setup_in old) (world_of worker old) m)
  pub leaves : telling_of worker new ≡ turn_leaves turn (telling m (telling_of worker old)) (telling_of worker old)
