-- Laws of what the calls of spools write.
use Rattle.std.specs.Prelude.{◌≡◌, ℕ, List, ◌++◌}
use Rattle.std.specs.List.{AllByRecursion}
use Rattle.nc_journal.specs.History.{Along, onto}
use Rattle.nc_journal.specs.declared.event.Event.{Event}
use Rattle.nc_journal.specs.declared.word.EndedCause.{EndedCause}
use Rattle.nc_spool.specs.declared.fact.Fact.{Fact}
use Rattle.nc_spool.specs.declared.board.Board.{Board}
use Rattle.nc_spool.specs.Decide.{decided}
use Rattle.nc_spool_state.specs.Spool.{SpoolAt}
use Rattle.nc_worker_state.specs.Deed.{told}
use Rattle.nc_worker_state.specs.Spooled.{facts_deeds}
use Rattle.nc_rests.specs.Owners.{Owners}
use Rattle.nc_sends.specs.GoodSends.{IsGoodSend}
use Rattle.nc_world_told.specs.Written.{written, next_written, so_far}
use Rattle.nc_world_told.specs.Readers.{StandHere, AreOnce, IsNotIn}
use Rattle.nc_world_told.specs.Known.{SpoolKnows}

-- facts are written as their deeds are told
abbrev pub WrittenIsTold : Type 0
WrittenIsTold = (me : ℕ) (cause : EndedCause) (next : ℕ → ℕ) (fs : List Fact) (h : List Event)
    → written me cause next fs h ≡ onto (told me next (facts_deeds me cause fs)) h

-- facts behind others are written on what these wrote
abbrev pub WrittenAppends : Type 0
WrittenAppends = (me : ℕ) (cause : EndedCause) (next : ℕ → ℕ) (xs ys : List Fact) (h : List Event)
    → written me cause next (xs ++ ys) h ≡ written me cause (next_written me cause next xs) ys (written me cause next xs h)

-- what a spool that knows, and whose subscribers stand at its key, sends by its places is lawful
abbrev pub DecidesWell : Type 0
DecidesWell = (workers me : ℕ) (cause : EndedCause) (next : ℕ → ℕ) (h : List Event) (s : SpoolAt) (b : Board) → Owners workers h
    → SpoolKnows workers me s h → AreOnce s.readers → StandHere me s (so_far me cause next h b)
    → Along (IsGoodSend workers) (so_far me cause next h b) → Along (IsGoodSend workers) (so_far me cause next h (decided s b))

-- and after it each subscriber of each spool stands at its key
abbrev pub DecidesStand : Type 0
DecidesStand = (me : ℕ) (cause : EndedCause) (next : ℕ → ℕ) (h : List Event) (s : SpoolAt) (b : Board) → AreOnce s.readers
    → StandHere me s (so_far me cause next h b)
    → AllByRecursion (λ x. StandHere me x (so_far me cause next h b)) b.shelf
    → AllByRecursion (λ x. AllByRecursion (λ r. IsNotIn r.k x) s.readers) b.shelf
    → AllByRecursion (λ x. StandHere me x (so_far me cause next h (decided s b))) (decided s b).shelf
