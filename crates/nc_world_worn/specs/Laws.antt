-- The journal shows the counters of workers, and that a line meets a worn worker.
use Rattle.std.specs.Prelude.{◌≡◌, ℕ, ◌+◌, ◌<◌, true, List, ◌∷◌, Some}
use Rattle.nc_journal.specs.declared.event.Event.{Event}
use Rattle.nc_history.specs.Steps.{joined}
use Rattle.nc_worker_state.specs.Setup.{Setup}
use Rattle.nc_worker_state.specs.Worker.{WorkerAt, is_worn}
use Rattle.nc_world.specs.World.{World}
use Rattle.nc_world.specs.Lines.{Line, lines_world, journal_of}
use Rattle.nc_world.specs.Reached.{Reached, IsSetup}
use Rattle.nc_turns.specs.Worn.{before_worn_in}
use Rattle.nc_world_follows.specs.Fitting.{AreFit}
use Rattle.nc_world_worn.specs.Counters.{Counter, Requests, AskedLooks, MadeLooks, Grants, PacketsTo, shown, IsWornIn, with_moves}

-- where a counter of a worker stands
abbrev pub counter_of : Counter → WorkerAt → ℕ
counter_of Requests s = s.desk.requests
counter_of AskedLooks s = s.desk.spools.next
counter_of MadeLooks s = s.owner.desk.looks
counter_of Grants s = s.owner.desk.grants
counter_of (PacketsTo to) s = s.next to

-- each counter of a worker stands so far behind the first number as the journal shows
abbrev pub CountersAreTold : Type 0
CountersAreTold = (setup : Setup) (h : List Event) (world : World) → IsSetup setup → Reached setup h world → (w : ℕ) (counter : Counter)
    → counter_of counter (world.workers w) ≡ setup.first + shown counter w h

-- a worker is worn exactly where the journal shows it
abbrev pub WornIsShown : Type 0
WornIsShown = (setup : Setup) (h : List Event) (world : World) → IsSetup setup → Reached setup h world → (w : ℕ)
    → (is_worn setup.workers (world.workers w) ≡ true → IsWornIn setup w h) × (IsWornIn setup w h → is_worn setup.workers (world.workers w) ≡ true)

-- so many moves after some lines the lines fit, and the journal shows that a worker is worn
pub record MeetsWorn (setup : Setup) (m : ℕ) (lines : List Line) : Type 0 where
  pub fit : AreFit setup (with_moves m lines)
  pub worker : ℕ
  pub there : worker < setup.workers
  pub worn : IsWornIn setup worker (joined (journal_of setup (with_moves m lines)))

-- it is so where as many moves of the next line come before a worn worker
abbrev pub WornIsTold : Type 0
WornIsTold = (setup : Setup) (line : Line) (lines : List Line) (m : ℕ) → IsSetup setup → AreFit setup (line ∷ lines)
    → before_worn_in setup line (lines_world setup lines) ≡ Some m → MeetsWorn setup m lines
