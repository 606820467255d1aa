-- Values of the workers below a number, as functions of all numbers.
use Rattle.std.specs.Prelude.{ℕ, length, if◌then◌else◌, nat_lt}
use Rattle.nc_worker_state.specs.Worker.{WorkerAt}
use Rattle.nc_world.specs.World.{sum_below}

-- below the number of workers the values, and beyond it others
abbrev pub seen_below : {X : Type 0} → ℕ → (ℕ → X) → (ℕ → X) → ℕ → X
seen_below n f new w = if nat_lt w n then f w else new w

-- how many packets to the workers below a number wait with a worker
abbrev pub waiting_count : ℕ → WorkerAt → ℕ
waiting_count n s = sum_below (λ to. length (s.outbox to)) n
