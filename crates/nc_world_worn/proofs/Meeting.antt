-- A line meets a worn worker where a settle of as many moves leads.
use Rattle.std.proofs.Common.{◌≡◌, ℕ, zero, suc, ◌<◌, Bool, true, false, cond, List, [], ◌∷◌, ◌++◌, Option, Some, None, refl, sym, ap, subst}
use Rattle.std.specs.Prelude.{◌==◌, ◌&&◌}
use Rattle.std.specs.List.{AllByRecursion}
use Rattle.nc_settle.specs.Settle.{one_more}
use Rattle.nc_history.specs.Steps.{joined}
use Rattle.nc_worker_state.specs.Setup.{Setup}
use Rattle.nc_worker_state.specs.Worker.{is_worn}
use Rattle.nc_world.specs.World.{World, pending_in}
use Rattle.nc_world.specs.Moves.{Move, Handles, Carries, Takes, Counts, Rests, moved}
use Rattle.nc_world.specs.Lines.{Line, Blank, Clocks, Reap, Carry, Take, Settle, Post, Poll, Remove, Inform, round, does, is_some_packet, first_turn, turn_with, settle_moves, world_of, lines_world, journal_of}
use Rattle.nc_turns.specs.Worn.{meets_worn, moves_before_worn, before_worn_in}
use Rattle.nc_world_follows.specs.Fitting.{IsLine, AreFit}
use Rattle.nc_world_follows.specs.Laws.{FitLinesReach}
use Rattle.nc_world_follows.proofs.Fitting.{IsTurn, round_turns, FirstCan, first_can}
use Rattle.nc_world_worn.specs.Counters.{with_moves}
use Rattle.nc_world_worn.specs.Laws.{WornIsTold}
use Rattle.nc_world_worn.proofs.Counting.{shown_worn}

-- ---- how many moves come before

abbrev pub number_of : ℕ → Option ℕ → ℕ
number_of d None = d
number_of d (Some m) = m

abbrev pub IsSome : Option ℕ → Type 0
IsSome None = ⊥
IsSome (Some m) = Unit {0}

none_some : (m : ℕ) → None ≡ Some m → ⊥
none_some m e = subst IsSome (sym e) tt

same_number : (a b : ℕ) → Some a ≡ Some b → a ≡ b
same_number a b e = ap (number_of 0) e

one_before : (o : Option ℕ) (m : ℕ) → one_more o ≡ Some m → (k : ℕ) × (m ≡ suc k) × (o ≡ Some k)
one_before None m e = absurd (none_some m e)
one_before (Some k) m e = (k, sym (same_number (suc k) m e), refl)

module _ (setup : Setup) where
  -- a worker that is there is worn
  abbrev pub SomeWorn : World → Type 0
  SomeWorn world = (w : ℕ) × (w < setup.workers) × (is_worn setup.workers (world.workers w) ≡ true)

  both : (a b : Bool) → (a && b) ≡ true → b ≡ true
  both true b e = e
  both false b e = absurd cc

  turn_worn : (world : World) (m : Move) → IsTurn setup m → meets_worn setup world m ≡ true → SomeWorn world
  turn_worn world (Carries w v) i e = absurd cc
  turn_worn world (Takes w v) i e = (w, i.0, both (is_some_packet (world.rings v w)) (is_worn setup.workers (world.workers w)) e)
  turn_worn world (Handles w incoming) i e = absurd i
  turn_worn world Counts i e = absurd i
  turn_worn world Rests i e = absurd i

  -- ---- settling

  -- so many moves of a settle lead to a world in which a worker is worn
  abbrev pub MeetsAfter : ℕ → List Move → World → Type 0
  MeetsAfter m turns world = SomeWorn (world_of setup (settle_moves setup m turns world) world)

  abbrev Meets : ℕ → List Move → World → Type 0
  Meets n turns world = (m : ℕ) → moves_before_worn setup (settle_moves setup n turns world ++ Counts ∷ []) world ≡ Some m → MeetsAfter m turns world

  -- of the moves of a first turn and those behind it
  turn_meets : (n : ℕ) (turns : List Move) (world : World) (turn : Move × List Move) → first_turn (does world) [] turns ≡ Some turn → (pending_in setup world == 0) ≡ false → IsTurn setup turn.0 → Meets n turn.1 (moved setup turn.0 world)
      → (m : ℕ) → cond (meets_worn setup world turn.0) (Some 0) (one_more (moves_before_worn setup (settle_moves setup n turn.1 (moved setup turn.0 world) ++ Counts ∷ []) (moved setup turn.0 world))) ≡ Some m → MeetsAfter m turns world
  turn_meets n turns world turn first some is go m = by (meets_worn setup world turn.0) refl
    where
      -- a turn more
      later : (k : ℕ) → MeetsAfter k turn.1 (moved setup turn.0 world) → MeetsAfter (suc k) turns world
      later k found = subst (λ (b : Bool). SomeWorn (world_of setup (cond b [] (turn_with (first_turn (does world) [] turns) (λ x rest. settle_moves setup k rest (moved setup x world)))) world)) (sym some)
          (subst (λ (o : Option (Move × List Move)). SomeWorn (world_of setup (turn_with o (λ x rest. settle_moves setup k rest (moved setup x world))) world)) (sym first) found)

      by : (b : Bool) → meets_worn setup world turn.0 ≡ b → cond b (Some 0) (one_more (moves_before_worn setup (settle_moves setup n turn.1 (moved setup turn.0 world) ++ Counts ∷ []) (moved setup turn.0 world))) ≡ Some m → MeetsAfter m turns world
      by true worn e = subst (λ (k : ℕ). MeetsAfter k turns world) (same_number 0 m e) (turn_worn world turn.0 is worn)
      by false worn e =
          let k = one_before (moves_before_worn setup (settle_moves setup n turn.1 (moved setup turn.0 world) ++ Counts ∷ []) (moved setup turn.0 world)) m e in
          subst (λ (x : ℕ). MeetsAfter x turns world) (sym k.1) (later k.0 (go k.0 k.2))

  settle_meets : (n : ℕ) (turns : List Move) (world : World) → AllByRecursion (IsTurn setup) turns → Meets n turns world
  settle_meets zero turns world all = λ m e. absurd (none_some m e)
  settle_meets (suc n) turns world all = by (pending_in setup world == 0) refl (first_turn (does world) [] turns) refl (first_can setup (does world) turns [] tt all) (λ rest next a. settle_meets n rest next a)
    where
      by : (b : Bool) → (pending_in setup world == 0) ≡ b → (o : Option (Move × List Move)) → first_turn (does world) [] turns ≡ o → FirstCan setup o
          → ((rest : List Move) (next : World) → AllByRecursion (IsTurn setup) rest → Meets n rest next)
          → (m : ℕ) → moves_before_worn setup (cond b [] (turn_with o (λ x rest. settle_moves setup n rest (moved setup x world))) ++ Counts ∷ []) world ≡ Some m → MeetsAfter m turns world
      by true some o first can go m e = absurd (none_some m e)
      by false some None first can go m e = absurd (none_some m e)
      by false some (Some turn) first can go m e = turn_meets n turns world turn first some can.0 (go turn.1 (moved setup turn.0 world) can.1) m e

  -- ---- lines

  counts_world : (ms : List Move) (world : World) → world_of setup (ms ++ Counts ∷ []) world ≡ world_of setup ms world
  counts_world [] world = refl
  counts_world (m ∷ ms) world = counts_world ms (moved setup m world)

  -- the world after the moves that were made
  settled_worn : (m : ℕ) (lines : List Line) → MeetsAfter m (round setup.workers) (lines_world setup lines) → SomeWorn (lines_world setup (with_moves m lines))
  settled_worn zero lines found = found
  settled_worn (suc m) lines found = subst SomeWorn (sym (counts_world (settle_moves setup (suc m) (round setup.workers) (lines_world setup lines)) (lines_world setup lines))) found

  -- of an input and what follows it
  input_meets : (worn : Bool) (m : ℕ) → cond worn (Some 0) (one_more (one_more None)) ≡ Some m → (worn ≡ true) × (0 ≡ m)
  input_meets true m e = (refl, same_number 0 m e)
  input_meets false m e = absurd (none_some m e)

  handled_worn : (w m : ℕ) (lines : List Line) → w < setup.workers → cond (is_worn setup.workers ((lines_world setup lines).workers w)) (Some 0) (one_more (one_more None)) ≡ Some m → SomeWorn (lines_world setup (with_moves m lines))
  handled_worn w m lines there e =
      let k = input_meets (is_worn setup.workers ((lines_world setup lines).workers w)) m e in
      subst (λ (x : ℕ). SomeWorn (lines_world setup (with_moves x lines))) k.1 (w, there, k.0)

  take_worn : (w v m : ℕ) (lines : List Line) → w < setup.workers → cond (meets_worn setup (lines_world setup lines) (Takes w v)) (Some 0) (one_more (one_more None)) ≡ Some m → SomeWorn (lines_world setup (with_moves m lines))
  take_worn w v m lines there e =
      let world = lines_world setup lines in
      let k = input_meets (meets_worn setup world (Takes w v)) m e in
      subst (λ (x : ℕ). SomeWorn (lines_world setup (with_moves x lines))) k.1 (w, there, both (is_some_packet (world.rings v w)) (is_worn setup.workers (world.workers w)) k.0)

  line_worn : (line : Line) (lines : List Line) (m : ℕ) → IsLine setup (joined (journal_of setup lines)) line → before_worn_in setup line (lines_world setup lines) ≡ Some m → SomeWorn (lines_world setup (with_moves m lines))
  line_worn Blank lines m i e = absurd (none_some m e)
  line_worn (Clocks w t) lines m i e = handled_worn w m lines i.0 e
  line_worn (Reap w) lines m i e = handled_worn w m lines i e
  line_worn (Carry w v) lines m i e = absurd (none_some m e)
  line_worn (Take w v) lines m i e = take_worn w v m lines i.0 e
  line_worn (Settle n) lines m i e = settled_worn m lines (settle_meets n (round setup.workers) (lines_world setup lines) (round_turns setup) m e)
  line_worn (Post w c body) lines m i e = handled_worn w m lines i e
  line_worn (Poll w k list start) lines m i e = handled_worn w m lines i.0 e
  line_worn (Remove w c) lines m i e = handled_worn w m lines i e
  line_worn (Inform w c) lines m i e = handled_worn w m lines i e

-- the lines that were made fit
moves_fit : (setup : Setup) (m : ℕ) (lines : List Line) → AreFit setup lines → AreFit setup (with_moves m lines)
moves_fit setup zero lines f = f
moves_fit setup (suc m) lines f = (f, tt)

pub worn_is_told : FitLinesReach → WornIsTold
worn_is_told reach setup line lines m is fits meets =
    let k = line_worn setup line lines m fits.1 meets in
    let fit = moves_fit setup m lines fits.0 in
    record {
      fit = fit;
      worker = k.0;
      there = k.1;
      worn = shown_worn setup (joined (journal_of setup (with_moves m lines))) (lines_world setup (with_moves m lines)) is (reach setup (with_moves m lines) fit) k.0 k.2;
    }
