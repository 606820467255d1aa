-- The moves of a line that fits can be made.
use Rattle.std.proofs.Common.{ℕ, zero, suc, ◌<◌, Bool, true, false, cond, List, [], ◌∷◌, ◌++◌, Option, Some, None, arith, map}
use Rattle.std.specs.Prelude.{◌==◌}
use Rattle.std.specs.List.{AllByRecursion, flat_map}
use Rattle.nc_journal.specs.History.{onto}
use Rattle.nc_journal.specs.declared.event.Event.{Event}
use Rattle.nc_history.specs.Steps.{joined}
use Rattle.nc_worker_state.specs.Setup.{Setup}
use Rattle.nc_world.specs.World.{World, pending_in}
use Rattle.nc_world.specs.Moves.{Move, Handles, Carries, Takes, Counts, Rests, move_events, moved}
use Rattle.nc_world.specs.Lines.{Line, Blank, Clocks, Reap, Carry, Take, Settle, Post, Poll, Remove, Inform, below, pairs, round, does, first_turn, turn_with, settle_moves, moves_of, lines_world, journal_of}
use Rattle.nc_world.specs.Reached.{IsMove}
use Rattle.nc_world.specs.Laws.{CanMove, AreLines}
use Rattle.nc_world_laws.proofs.Local.{all_append, all_of}
use Rattle.nc_world_follows.specs.Fitting.{IsLine, AreFit}

-- a carry or a take between workers that are there
abbrev pub IsTurn : Setup → Move → Type 0
IsTurn setup (Carries w v) = (w < setup.workers) × (v < setup.workers)
IsTurn setup (Takes w v) = (w < setup.workers) × (v < setup.workers)
IsTurn setup move = ⊥

turn_can : (setup : Setup) (h : List Event) (m : Move) → IsTurn setup m → IsMove setup h m
turn_can setup h (Carries w v) i = i
turn_can setup h (Takes w v) i = i
turn_can setup h (Handles w incoming) i = absurd i
turn_can setup h Counts i = tt
turn_can setup h Rests i = tt

-- ---- the turns of a round

less_more : (n k : ℕ) → k < n → k < suc n
less_more n k lt = omega (arith, lt)

all_below : (n : ℕ) → AllByRecursion (λ k. k < n) (below n)
all_below zero = tt
all_below (suc n) = all_append (λ k. k < suc n) (below n) (n ∷ []) (all_of (λ k. k < n) (λ k. k < suc n) (less_more n) (below n) (all_below n)) (omega arith, tt)

module _ (n : ℕ) where
  abbrev IsPair : ℕ × ℕ → Type 0
  IsPair p = (p.0 < n) × (p.1 < n)

  row_pairs : (w : ℕ) (vs : List ℕ) → w < n → AllByRecursion (λ k. k < n) vs → AllByRecursion IsPair (map (λ v. (w, v)) vs)
  row_pairs w [] lt a = tt
  row_pairs w (v ∷ vs) lt a = ((lt, a.0), row_pairs w vs lt a.1)

  rows_pairs : (ws vs : List ℕ) → AllByRecursion (λ k. k < n) ws → AllByRecursion (λ k. k < n) vs → AllByRecursion IsPair (flat_map (λ w. map (λ v. (w, v)) vs) ws)
  rows_pairs [] vs a b = tt
  rows_pairs (w ∷ ws) vs a b = all_append IsPair (map (λ v. (w, v)) vs) (flat_map (λ w. map (λ v. (w, v)) vs) ws) (row_pairs w vs a.0 b) (rows_pairs ws vs a.1 b)

  all_pairs : AllByRecursion IsPair (pairs n)
  all_pairs = rows_pairs (below n) (below n) (all_below n) (all_below n)

map_turns : (setup : Setup) (f : ℕ × ℕ → Move) (ps : List (ℕ × ℕ)) → ((p : ℕ × ℕ) → (p.0 < setup.workers) × (p.1 < setup.workers) → IsTurn setup (f p)) → AllByRecursion (λ p. (p.0 < setup.workers) × (p.1 < setup.workers)) ps → AllByRecursion (IsTurn setup) (map f ps)
map_turns setup f [] g a = tt
map_turns setup f (p ∷ ps) g a = (g p a.0, map_turns setup f ps g a.1)

pub round_turns : (setup : Setup) → AllByRecursion (IsTurn setup) (round setup.workers)
round_turns setup = all_append (IsTurn setup) (map (λ p. Carries p.0 p.1) (pairs setup.workers)) (map (λ p. Takes p.0 p.1) (pairs setup.workers))
    (map_turns setup (λ p. Carries p.0 p.1) (pairs setup.workers) (λ p i. i) (all_pairs setup.workers)) (map_turns setup (λ p. Takes p.0 p.1) (pairs setup.workers) (λ p i. i) (all_pairs setup.workers))

-- ---- settling

-- of turns that can be made the first one can, and so can those behind it
abbrev pub FirstCan : Setup → Option (Move × List Move) → Type 0
FirstCan setup None = Unit {0}
FirstCan setup (Some turn) = IsTurn setup turn.0 × AllByRecursion (IsTurn setup) turn.1

pub first_can : (setup : Setup) (test : Move → Bool) (ms before : List Move) → AllByRecursion (IsTurn setup) before → AllByRecursion (IsTurn setup) ms → FirstCan setup (first_turn test before ms)
first_can setup test [] before b a = tt
first_can setup test (m ∷ ms) before b a = by (test m) (first_can setup test ms (before ++ m ∷ []) (all_append (IsTurn setup) before (m ∷ []) b (a.0, tt)) a.1)
  where
    by : (c : Bool) → FirstCan setup (first_turn test (before ++ m ∷ []) ms) → FirstCan setup (cond c (Some (m, ms ++ before ++ m ∷ [])) (first_turn test (before ++ m ∷ []) ms))
    by true f = (a.0, all_append (IsTurn setup) (ms ++ before) (m ∷ []) (all_append (IsTurn setup) ms before a.1 b) (a.0, tt))
    by false f = f

pub settle_can : (setup : Setup) (n : ℕ) (turns : List Move) (h : List Event) (world : World) → AllByRecursion (IsTurn setup) turns → CanMove setup (settle_moves setup n turns world) h world
settle_can setup zero turns h world a = tt
settle_can setup (suc n) turns h world a = by (pending_in setup world == 0) (first_turn (does world) [] turns) (first_can setup (does world) turns [] tt a) (λ rest m b. settle_can setup n rest (onto (move_events setup m world) h) (moved setup m world) b)
  where
    by : (b : Bool) (o : Option (Move × List Move)) → FirstCan setup o → ((rest : List Move) (m : Move) → AllByRecursion (IsTurn setup) rest → CanMove setup (settle_moves setup n rest (moved setup m world)) (onto (move_events setup m world) h) (moved setup m world))
        → CanMove setup (cond b [] (turn_with o (λ m rest. settle_moves setup n rest (moved setup m world)))) h world
    by true o f go = tt
    by false None f go = tt
    by false (Some turn) f go = (turn_can setup h turn.0 f.0, go turn.1 turn.0 f.1)

then_counts : (setup : Setup) (ms : List Move) (h : List Event) (world : World) → CanMove setup ms h world → CanMove setup (ms ++ Counts ∷ []) h world
then_counts setup [] h world c = (tt, tt)
then_counts setup (m ∷ ms) h world c = (c.0, then_counts setup ms (onto (move_events setup m world) h) (moved setup m world) c.1)

-- ---- lines

pub line_can : (setup : Setup) (line : Line) (h : List Event) (world : World) → IsLine setup h line → CanMove setup (moves_of setup line world) h world
line_can setup Blank h world i = tt
line_can setup (Clocks w t) h world i = (i, (tt, tt))
line_can setup (Reap w) h world i = ((i, tt), (tt, tt))
line_can setup (Carry w v) h world i = (i, (tt, tt))
line_can setup (Take w v) h world i = (i, (tt, tt))
line_can setup (Settle n) h world i = then_counts setup (settle_moves setup n (round setup.workers) world) h world (settle_can setup n (round setup.workers) h world (round_turns setup))
line_can setup (Post w c body) h world i = ((i, tt), (tt, tt))
line_can setup (Poll w k list start) h world i = (i, (tt, tt))
line_can setup (Remove w c) h world i = ((i, tt), (tt, tt))
line_can setup (Inform w c) h world i = ((i, tt), (tt, tt))

pub are_lines : (setup : Setup) (lines : List Line) → AreFit setup lines → AreLines setup lines
are_lines setup [] f = tt
are_lines setup (line ∷ lines) f = (are_lines setup lines f.0, line_can setup line (joined (journal_of setup lines)) (lines_world setup lines) f.1)
