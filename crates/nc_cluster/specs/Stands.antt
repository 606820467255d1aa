-- Which lines a cluster made.
use Rattle.std.specs.Prelude.{◌≡◌, ℕ, zero, suc, Bool, false, List, [], ◌∷◌}
use Rattle.nc_journal.specs.declared.event.Event.{Event}
use Rattle.nc_owner.specs.declared.member.Member.{Member}
use Rattle.nc_history.specs.Steps.{joined}
use Rattle.nc_worker_state.specs.Setup.{Setup}
use Rattle.nc_worker_state.specs.Worker.{WorkerAt}
use Rattle.nc_world.specs.World.{World}
use Rattle.nc_world.specs.Lines.{Line, Settle, line_events, lines_world, journal_of}
use Rattle.nc_world.specs.Reached.{IsSetup}
use Rattle.nc_world_follows.specs.Fitting.{AreFit}
use Rattle.nc_floor.specs.Floor.{setup_in, world_of}
use Rattle.nc_cluster.specs.declared.cluster.Cluster.{Cluster}
use Rattle.nc_cluster.specs.declared.cluster.MoveRefusal.{MoveRefusal}
use Rattle.nc_cluster.specs.declared.cluster.MoveRefusal.TheVariants as refusals
use Rattle.nc_cluster.specs.Comers.{noted, subscribed}

-- a cluster as a pure world: what its workers are set up with, they and their packets, the subscribers so far, and whether memory was wanting
pub record ClusterAt : Type 0 where
  pub setup : Setup
  pub world : World
  pub subscribers : List Member
  pub spent : Bool

abbrev pub seen : {W : Type 0} → (W → WorkerAt) → Cluster W → ClusterAt
seen worker s = record { setup = setup_in s.floor; world = world_of worker s.floor; subscribers = s.subscribers; spent = s.spent }

-- some lines were made, the last one first: each was fit, the world is the one that they lead to, and the subscribers are those of their journal
pub record Stands (setup : Setup) (lines : List Line) (s : ClusterAt) : Type 0 where
  pub fresh : s.spent ≡ false
  pub same : s.setup ≡ setup
  pub is : IsSetup setup
  pub fit : AreFit setup lines
  pub led : s.world ≡ lines_world setup lines
  pub known : (w k : ℕ) → noted s.subscribers w k ≡ subscribed (joined (journal_of setup lines)) w k

-- one line more was made, and its events are those that follow
abbrev pub GoesOn : Line → List Event → ClusterAt → ClusterAt → Type 0
GoesOn line events old new = (setup : Setup) (lines : List Line) → Stands setup lines old
    → (events ≡ line_events setup line (lines_world setup lines)) × Stands setup (line ∷ lines) new

-- so many moves came before a worn worker: a settle of as many was made, or nothing
abbrev pub AfterWorn : ℕ → List Event → Setup → List Line → ClusterAt → Type 0
AfterWorn zero events setup lines new = (events ≡ []) × Stands setup lines new
AfterWorn (suc m) events setup lines new = (events ≡ line_events setup (Settle (suc m)) (lines_world setup lines))
    × Stands setup (Settle (suc m) ∷ lines) new

abbrev pub GoesWorn : List Event → ClusterAt → ClusterAt → Type 0
GoesWorn events old new = (setup : Setup) (lines : List Line) → Stands setup lines old → (m : ℕ) × AfterWorn m events setup lines new

-- what a refused line leaves; nothing is said where there was no memory
abbrev pub IsLeft : MoveRefusal → ClusterAt → ClusterAt → Type 0
IsLeft (refusals.Worn events) old new = GoesWorn events.events old new
IsLeft refusals.NoMemory old new = Unit {0}
IsLeft refusals.Spent old new = Unit {0}
