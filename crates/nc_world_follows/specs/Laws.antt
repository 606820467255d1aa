-- What the journal of a script is.
use Rattle.std.specs.Prelude.{◌≡◌, ℕ, List, []}
use Rattle.nc_journal.specs.declared.event.Event.{Event}
use Rattle.nc_history.specs.Steps.{joined}
use Rattle.nc_history.specs.Ending.{IsEndingRule}
use Rattle.nc_worker_state.specs.Setup.{Setup}
use Rattle.nc_worker_state.specs.Spooled.{releases}
use Rattle.nc_world.specs.World.{World}
use Rattle.nc_world.specs.Lines.{Line, lines_world, journal_of}
use Rattle.nc_world.specs.Reached.{Reached, IsSetup}
use Rattle.nc_world.specs.OwnersRule.{IsOwnersRule}
use Rattle.nc_world.specs.Follows.{Follows}
use Rattle.nc_world_follows.specs.Fitting.{AreFit}

-- lines that fit lead to a reached world, whose history is their journal
abbrev pub FitLinesReach : Type 0
FitLinesReach = (setup : Setup) (lines : List Line) → AreFit setup lines → Reached setup (joined (journal_of setup lines)) (lines_world setup lines)

-- no worker keeps a hold that nobody uses
abbrev pub IsBusy : World → Type 0
IsBusy world = (w : ℕ) → releases w (world.workers w).desk.spools ≡ []

abbrev pub ReachedIsBusy : Type 0
ReachedIsBusy = (setup : Setup) (h : List Event) (world : World) → Reached setup h world → IsBusy world

-- the owners' steps stand in the journal of a script
abbrev pub OwnersRuleHolds : Type 0
OwnersRuleHolds = (setup : Setup) (lines : List Line) → IsSetup setup → AreFit setup lines → IsOwnersRule setup (journal_of setup lines)

-- in it subscribers are ended by deletions as their workers take the alerts that tell so
abbrev pub EndingRuleHolds : Type 0
EndingRuleHolds = (setup : Setup) (lines : List Line) → IsSetup setup → AreFit setup lines → IsEndingRule (journal_of setup lines)

-- the journal of a script follows it
abbrev pub JournalFollows : Type 0
JournalFollows = (setup : Setup) (lines : List Line) → IsSetup setup → AreFit setup lines → Follows setup lines (journal_of setup lines)
