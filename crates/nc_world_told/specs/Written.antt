-- The events that a worker has written so far in a step, by the facts of its spools.
use Rattle.std.specs.Prelude.{ℕ, List, [], ◌∷◌}
use Rattle.nc_journal.specs.declared.event.Event.{Event}
use Rattle.nc_journal.specs.declared.event.Event.TheVariants as events
use Rattle.nc_journal.specs.declared.word.EndedCause.{EndedCause}
use Rattle.nc_owner_laws.specs.Weave.{numbered}
use Rattle.nc_spool.specs.declared.fact.Fact.{Fact}
use Rattle.nc_spool.specs.declared.fact.Fact.TheVariants as facts
use Rattle.nc_spool.specs.declared.board.Board.{Board}
use Rattle.nc_worker_state.specs.Spooled.{ask_line, ended_cause}

-- `me` is the worker, and `cause` says why the call ends subscribers
module _ (me : ℕ) (cause : EndedCause) where
  -- a fact as an event, where these are the numbers of the next packets
  abbrev pub fact_event : (ℕ → ℕ) → Fact → Event
  fact_event next (facts.Out o) = events.Made me o.to (next o.to) (ask_line o.ask)
  fact_event next (facts.Started k cursor) = events.Started me k cursor
  fact_event next (facts.Sent s) = events.Sent me s.k s.place s.chan s.id s.cursor s.looks
  fact_event next (facts.Ended k deleted) = events.Ended me k (ended_cause cause deleted)

  -- the numbers of the next packets after it
  abbrev pub fact_next : (ℕ → ℕ) → Fact → ℕ → ℕ
  fact_next next (facts.Out o) = numbered next o.to
  fact_next next (facts.Started k cursor) = next
  fact_next next (facts.Sent s) = next
  fact_next next (facts.Ended k deleted) = next

  -- facts written on a history
  abbrev pub written : (ℕ → ℕ) → List Fact → List Event → List Event
  written next [] h = h
  written next (f ∷ fs) h = written (fact_next next f) fs (fact_event next f ∷ h)

  -- the numbers of the next packets after them
  abbrev pub next_written : (ℕ → ℕ) → List Fact → ℕ → ℕ
  next_written next [] = next
  next_written next (f ∷ fs) = next_written (fact_next next f) fs

  -- the history so far, where a call began on h
  abbrev pub so_far : (ℕ → ℕ) → List Event → Board → List Event
  so_far next h b = written next b.facts h
