-- Moves lead on from reached worlds.
use Rattle.std.proofs.Common.{◌≡◌, ℕ, List, [], ◌∷◌, ◌++◌, refl, ap, ◌∙◌, sym, subst}
use Rattle.nc_journal.specs.History.{onto}
use Rattle.nc_journal.specs.declared.event.Event.{Event}
use Rattle.nc_history.specs.Steps.{joined}
use Rattle.nc_worker_state.specs.Setup.{Setup}
use Rattle.nc_world.specs.World.{World}
use Rattle.nc_world.specs.Moves.{Move, move_events, moved}
use Rattle.nc_world.specs.Lines.{Line, events_of, world_of, moves_of, lines_world, journal_of}
use Rattle.nc_world.specs.Reached.{Reached, Begins, Moves}
use Rattle.nc_world.specs.Laws.{CanMove, MoreMoves, AreLines, LinesReach}

-- events one after the other are put on a history one after the other
pub onto_append : (es fs h : List Event) → onto (es ++ fs) h ≡ onto fs (onto es h)
onto_append [] fs h = refl
onto_append (e ∷ es) fs h = onto_append es fs (e ∷ h)

pub more_moves : MoreMoves
more_moves setup [] h world r can = r
more_moves setup (m ∷ ms) h world r can =
    subst (λ (l : List Event). Reached setup l (world_of setup ms (moved setup m world))) (sym (onto_append (move_events setup m world) (events_of setup ms (moved setup m world)) h))
    (more_moves setup ms (onto (move_events setup m world) h) (moved setup m world) (Moves h world m r can.0) can.1)

pub lines_reach : LinesReach
lines_reach setup [] are = Begins
lines_reach setup (line ∷ lines) are = more_moves setup (moves_of setup line (lines_world setup lines)) (joined (journal_of setup lines)) (lines_world setup lines) (lines_reach setup lines are.0) are.1
