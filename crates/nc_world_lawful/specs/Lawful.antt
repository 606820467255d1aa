-- Histories of several workers are lawful.
use Rattle.std.specs.Prelude.{ℕ, List}
use Rattle.nc_journal.specs.Holding.{IsSlotRule}
use Rattle.nc_journal.specs.Lawful.{IsLawful}
use Rattle.nc_journal.specs.declared.event.Event.{Event}
use Rattle.nc_history.specs.Steps.{joined}
use Rattle.nc_history.specs.Ending.{IsEndingRule}
use Rattle.nc_worker_state.specs.Setup.{Setup}
use Rattle.nc_world.specs.World.{World}
use Rattle.nc_world.specs.Lines.{Line, journal_of}
use Rattle.nc_world.specs.Reached.{IsSetup, Reached}
use Rattle.nc_world.specs.Follows.{Follows}
use Rattle.nc_world.specs.OwnersRule.{IsOwnersRule}
use Rattle.nc_world_follows.specs.Fitting.{AreFit}

-- whatever moves led there: the stamp rule, the leaving rule, the standing rule, lawful sent, lawful started and the sentence on quiet
abbrev pub HistoriesAreLawful : Type 0
HistoriesAreLawful = (setup : Setup) (h : List Event) (world : World) → IsSetup setup → Reached setup h world → IsLawful setup.workers h

-- the journal of some lines is lawful, keeps the slot rule and the ending rule, follows them, and the owners' steps stand in it
pub record IsLawfulJournal (setup : Setup) (lines : List Line) (journal : List (List Event)) : Type 0 where
  pub lawful : IsLawful setup.workers (joined journal)
  pub held : IsSlotRule setup.workers setup.slots (joined journal)
  pub follows : Follows setup lines journal
  pub owners : IsOwnersRule setup journal
  pub ended : IsEndingRule journal

abbrev pub JournalsAreLawful : Type 0
JournalsAreLawful = (setup : Setup) (lines : List Line) → IsSetup setup → AreFit setup lines → IsLawfulJournal setup lines (journal_of setup lines)
