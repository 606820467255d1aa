-- The moves of a script's lines, and the journal that they make.
use Rattle.std.specs.Prelude.{ℕ, zero, suc, Bool, true, false, List, [], ◌∷◌, ◌++◌, map, length, if◌then◌else◌, ◌==◌, ◌&&◌, nat_lt, Option, None, Some}
use Rattle.std.specs.List.{flat_map}
use Rattle.nc_types.specs.declared.start.Start.{Start}
use Rattle.nc_journal.specs.declared.event.Event.{Event}
use Rattle.nc_history.specs.Packets.{Packet}
use Rattle.nc_worker_state.specs.Setup.{Setup}
use Rattle.nc_worker_state.specs.Incoming.{ClockReads, Reaps, Posts, Subscribes, Removes, Informs}
use Rattle.nc_world.specs.World.{World, new_world, pending_in}
use Rattle.nc_world.specs.Moves.{Move, Handles, Carries, Takes, Counts, Rests, move_events, moved, ring_size}
use Rattle.nc_world.specs.Reached.{IsMove}

-- a line of a script: an empty one; one that goes to a worker; a carry from one worker to another; a take by one of another; a settle
pub data Line : Type 0 where
  Blank : Line
  Clocks : ℕ → ℕ → Line
  Reap : ℕ → Line
  Carry : ℕ → ℕ → Line
  Take : ℕ → ℕ → Line
  Settle : ℕ → Line
  Post : ℕ → List ℕ → List ℕ → Line
  Poll : ℕ → ℕ → List (List ℕ) → Start → Line
  Remove : ℕ → List ℕ → Line
  Inform : ℕ → List ℕ → Line

-- ---- settling

-- the numbers below one, and the pairs of them
abbrev pub below : ℕ → List ℕ
below zero = []
below (suc n) = below n ++ n ∷ []

abbrev pub pairs : ℕ → List (ℕ × ℕ)
pairs n = flat_map (λ w. map (λ v. (w, v)) (below n)) (below n)

-- a round of settling: each pair carries, then each pair takes
abbrev pub round : ℕ → List Move
round n = map (λ p. Carries p.0 p.1) (pairs n) ++ map (λ p. Takes p.0 p.1) (pairs n)

abbrev pub is_some_packet : List Packet → Bool
is_some_packet [] = false
is_some_packet (p ∷ ps) = true

-- whether a carry or a take does something
abbrev pub does : World → Move → Bool
does world (Carries w v) = is_some_packet ((world.workers w).outbox v) && nat_lt (length (world.rings w v)) ring_size
does world (Takes w v) = is_some_packet (world.rings v w)
does world move = false

-- of the turns still to come in a round that goes on for ever, the first that does something, and the turns behind it; those before it come last
abbrev pub first_turn : (Move → Bool) → List Move → List Move → Option (Move × List Move)
first_turn can before [] = None
first_turn can before (m ∷ ms) = if can m then Some (m, ms ++ before ++ m ∷ []) else first_turn can (before ++ m ∷ []) ms

abbrev pub turn_with : Option (Move × List Move) → (Move → List Move → List Move) → List Move
turn_with None then_go = []
turn_with (Some turn) then_go = turn.0 ∷ then_go turn.0 turn.1

-- at most so many moves that do something, turn by turn, until nothing is pending
abbrev pub settle_moves : Setup → ℕ → List Move → World → List Move
settle_moves setup zero turns world = []
settle_moves setup (suc n) turns world =
    if pending_in setup world == 0 then [] else turn_with (first_turn (does world) [] turns) (λ m rest. settle_moves setup n rest (moved setup m world))

-- ---- lines

-- the moves of a line, the first one first
abbrev pub moves_of : Setup → Line → World → List Move
moves_of setup Blank world = []
moves_of setup (Clocks w t) world = Handles w (ClockReads t) ∷ Rests ∷ []
moves_of setup (Reap w) world = Handles w Reaps ∷ Rests ∷ []
moves_of setup (Carry w v) world = Carries w v ∷ Rests ∷ []
moves_of setup (Take w v) world = Takes w v ∷ Rests ∷ []
moves_of setup (Settle n) world = settle_moves setup n (round setup.workers) world ++ Counts ∷ []
moves_of setup (Post w c body) world = Handles w (Posts c body) ∷ Rests ∷ []
moves_of setup (Poll w k list start) world = Handles w (Subscribes k list start) ∷ Rests ∷ []
moves_of setup (Remove w c) world = Handles w (Removes c) ∷ Rests ∷ []
moves_of setup (Inform w c) world = Handles w (Informs c) ∷ Rests ∷ []

-- what some moves do, one after the other
abbrev pub events_of : Setup → List Move → World → List Event
events_of setup [] world = []
events_of setup (m ∷ ms) world = move_events setup m world ++ events_of setup ms (moved setup m world)

abbrev pub world_of : Setup → List Move → World → World
world_of setup [] world = world
world_of setup (m ∷ ms) world = world_of setup ms (moved setup m world)

abbrev pub line_events : Setup → Line → World → List Event
line_events setup line world = events_of setup (moves_of setup line world) world

abbrev pub line_world : Setup → Line → World → World
line_world setup line world = world_of setup (moves_of setup line world) world

-- the world after some lines, the last one first, and its journal
abbrev pub lines_world : Setup → List Line → World
lines_world setup [] = new_world setup
lines_world setup (line ∷ lines) = line_world setup line (lines_world setup lines)

abbrev pub journal_of : Setup → List Line → List (List Event)
journal_of setup [] = []
journal_of setup (line ∷ lines) = line_events setup line (lines_world setup lines) ∷ journal_of setup lines
