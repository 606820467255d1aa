-- What a cluster keeps, and what a line leaves of it.
use Rattle.std.specs.Prelude.{◌≡◌, ℕ, true, false, List, [], None, Some}
use Rattle.nc_journal.specs.declared.event.Event.{Event}
use Rattle.nc_slots.specs.declared.plain.PlainHold.{PlainHold}
use Rattle.nc_slots.specs.Slots.{HoldAt}
use Rattle.nc_worker_state.specs.Worker.{WorkerAt}
use Rattle.nc_world.specs.Lines.{Line, line_events, line_world}
use Rattle.nc_turns.specs.Worn.{before_worn_in, worn_events, worn_world}
use Rattle.nc_floor.specs.Floor.{setup_in, world_of, IsFloor}
use Rattle.nc_cluster.specs.declared.cluster.Cluster.{Cluster}
use Rattle.nc_cluster.specs.declared.cluster.MoveRefusal.{MoveRefusal}
use Rattle.nc_cluster.specs.declared.cluster.MoveRefusal.TheVariants as refusals
use Rattle.nc_cluster.specs.Comers.{with_line}

-- unless there was no memory, all is good on its floor, and nothing is told of a line at hand
pub record IsCluster {W : Type 0} (worker : W → WorkerAt) (sound : W → Type 0) (held : PlainHold → HoldAt) (s : Cluster W) : Type 0 where
  pub floor : s.spent ≡ false → IsFloor worker sound held s.floor
  pub told : s.spent ≡ false → s.floor.told ≡ []

module _ {W : Type 0} (worker : W → WorkerAt) where
  -- a line was made: its events, the world that it leaves, and who comes with it
  pub record HasMade (line : Line) (events : List Event) (old new : Cluster W) : Type 0 where
    pub fresh : (old.spent ≡ false) × (new.spent ≡ false)
    pub setup : setup_in new.floor ≡ setup_in old.floor
    pub unmet : before_worn_in (setup_in old.floor) line (world_of worker old.floor) ≡ None
    pub happened : events ≡ line_events (setup_in old.floor) line (world_of worker old.floor)
    pub leaves : world_of worker new.floor ≡ line_world (setup_in old.floor) line (world_of worker old.floor)
    pub noted : new.subscribers ≡ with_line line old.subscribers

  -- so many moves came before a worn worker: what a settle of as many tells and leaves
  pub record HasMet (line : Line) (events : List Event) (old new : Cluster W) : Type 0 where
    pub fresh : (old.spent ≡ false) × (new.spent ≡ false)
    pub setup : setup_in new.floor ≡ setup_in old.floor
    pub moves : ℕ
    pub met : before_worn_in (setup_in old.floor) line (world_of worker old.floor) ≡ Some moves
    pub happened : events ≡ worn_events (setup_in old.floor) moves (world_of worker old.floor)
    pub leaves : world_of worker new.floor ≡ worn_world (setup_in old.floor) moves (world_of worker old.floor)
    pub noted : new.subscribers ≡ old.subscribers

  -- a spent cluster stays as it was; one becomes spent for want of memory
  abbrev pub IsRefused : Line → MoveRefusal → Cluster W → Cluster W → Type 0
  IsRefused line refusals.NoMemory old new = (old.spent ≡ false) × (new.spent ≡ true)
  IsRefused line (refusals.Worn events) old new = HasMet line events.events old new
  IsRefused line refusals.Spent old new = (old.spent ≡ true) × (new ≡ old)
