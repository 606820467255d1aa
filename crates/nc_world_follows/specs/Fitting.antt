-- Lines of a script that can be made.
use Rattle.std.specs.Prelude.{◌<◌, List, [], ◌∷◌}
use Rattle.nc_journal.specs.declared.event.Event.{Event}
use Rattle.nc_owner.specs.Moment.{IsClock}
use Rattle.nc_history.specs.Steps.{joined}
use Rattle.nc_worker_state.specs.Setup.{Setup}
use Rattle.nc_world.specs.Lines.{Line, Blank, Clocks, Reap, Carry, Take, Settle, Post, Poll, Remove, Inform, journal_of}
use Rattle.nc_world.specs.Reached.{Comes}

-- what a line keeps, by the history before it: its workers are there, a clock has its limit, and a subscriber comes as it should
abbrev pub IsLine : Setup → List Event → Line → Type 0
IsLine setup h Blank = Unit {0}
IsLine setup h (Clocks w t) = (w < setup.workers) × IsClock t
IsLine setup h (Reap w) = w < setup.workers
IsLine setup h (Carry w v) = (w < setup.workers) × (v < setup.workers)
IsLine setup h (Take w v) = (w < setup.workers) × (v < setup.workers)
IsLine setup h (Settle n) = Unit {0}
IsLine setup h (Post w c body) = w < setup.workers
IsLine setup h (Poll w k list start) = (w < setup.workers) × Comes w k list start h
IsLine setup h (Remove w c) = w < setup.workers
IsLine setup h (Inform w c) = w < setup.workers

-- each line keeps it, the last one first
abbrev pub AreFit : Setup → List Line → Type 0
AreFit setup [] = Unit {0}
AreFit setup (line ∷ lines) = AreFit setup lines × IsLine setup (joined (journal_of setup lines)) line
