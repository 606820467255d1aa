-- The counters of a worker by the journal alone, and where it shows that a worker is worn.
use Rattle.std.specs.Prelude.{ℕ, zero, suc, ◌+◌, ◌^◌, ◌<◌, ◌≤◌, Bool, false, List, ◌∷◌, ◌==◌}
use Rattle.nc_journal.specs.Holding.{times_so}
use Rattle.nc_journal.specs.declared.event.Event.{Event}
use Rattle.nc_journal.specs.declared.event.Event.TheVariants.{Asked, Looked, Edged, Granted, Made}
use Rattle.nc_journal.specs.declared.alert.AlertLine.TheVariants.{Look, Edge}
use Rattle.nc_history.specs.Packets.{made_count}
use Rattle.nc_worker_state.specs.Setup.{Setup}
use Rattle.nc_world.specs.Lines.{Line, Settle}

-- a worker counts its requests, the looks and edges that it asks for, the looks and edges that it makes, its grants, and its packets to each worker
pub data Counter : Type 0 where
  Requests : Counter
  AskedLooks : Counter
  MadeLooks : Counter
  Grants : Counter
  PacketsTo : ℕ → Counter

-- ---- what is counted

-- a worker asks something
abbrev pub is_request : ℕ → Event → Bool
is_request w (Asked v r conn act list status rule) = v == w
is_request w e = false

-- it makes an alert that asks for a look or an edge
abbrev pub asks_look : ℕ → Event → Bool
asks_look w (Made v to n (Look number c after fence)) = v == w
asks_look w (Made v to n (Edge number k c fence)) = v == w
asks_look w e = false

-- it makes a look or an edge
abbrev pub is_look : ℕ → Event → Bool
is_look w (Looked v q from number c after floor found) = v == w
is_look w (Edged v q from number k c floor last) = v == w
is_look w e = false

-- it grants a hold
abbrev pub is_grant : ℕ → Event → Bool
is_grant w (Granted v g slot to) = v == w
is_grant w e = false

-- how much of it a journal shows of a worker
abbrev pub shown : Counter → ℕ → List Event → ℕ
shown Requests w h = times_so (is_request w) h
shown AskedLooks w h = times_so (asks_look w) h
shown MadeLooks w h = times_so (is_look w) h
shown Grants w h = times_so (is_grant w) h
shown (PacketsTo to) w h = made_count w to h

-- ---- worn workers

-- packets go to one of the workers below a number
abbrev pub IsCounter : ℕ → Counter → Type 0
IsCounter workers (PacketsTo to) = to < workers
IsCounter workers counter = Unit {0}

-- a counter that the journal shows of a worker stands at 2 ^ 63 or more
pub record IsWornIn (setup : Setup) (w : ℕ) (h : List Event) : Type 0 where
  pub counter : Counter
  pub there : IsCounter setup.workers counter
  pub high : 2 ^ 63 ≤ setup.first + shown counter w h

-- the lines that were made where so many moves of the next one came before a worn worker: a settle of as many more, where there are any
abbrev pub with_moves : ℕ → List Line → List Line
with_moves zero lines = lines
with_moves (suc m) lines = Settle (suc m) ∷ lines
