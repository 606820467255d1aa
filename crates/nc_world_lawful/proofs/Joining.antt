-- The rules of a lawful history, joined.
use Rattle.std.proofs.Common.{ℕ}
use Rattle.nc_history.specs.Steps.{joined}
use Rattle.nc_world.specs.Lines.{journal_of, lines_world}
use Rattle.nc_world_owners.proofs.ReachedOwners.{histories_are_stamped, histories_leave_by_rule}
use Rattle.nc_world_standing.proofs.Stepping.{histories_stand}
use Rattle.nc_world_sends.proofs.Sending.{histories_send_lawfully}
use Rattle.nc_world_sends.proofs.Lawful.{histories_start_lawfully}
use Rattle.nc_world_awaits.proofs.Quieting.{histories_rest}
use Rattle.nc_world_sent_holds.proofs.Rule.{histories_keep_slot_rule}
use Rattle.nc_world_follows.specs.Laws.{FitLinesReach}
use Rattle.nc_world_follows.proofs.Following.{journal_follows}
use Rattle.nc_world_follows.proofs.Cutting.{owners_rule_holds}
use Rattle.nc_world_follows.proofs.EndingCut.{ending_rule_holds}
use Rattle.nc_world_lawful.specs.Lawful.{HistoriesAreLawful, JournalsAreLawful}

pub histories_are_lawful : HistoriesAreLawful
histories_are_lawful setup h world is reached = record {
  stamped = histories_are_stamped setup h world is reached;
  leaving = histories_leave_by_rule setup h world is reached;
  standing = histories_stand setup h world is reached;
  sent = histories_send_lawfully setup h world is reached;
  started = histories_start_lawfully setup h world is reached;
  quiet = histories_rest setup h world is reached;
}

pub journals_are_lawful : FitLinesReach → JournalsAreLawful
journals_are_lawful reach setup lines is fit = record {
  lawful = histories_are_lawful setup (joined (journal_of setup lines)) (lines_world setup lines) is (reach setup lines fit);
  held = histories_keep_slot_rule setup (joined (journal_of setup lines)) (lines_world setup lines) is (reach setup lines fit);
  follows = journal_follows reach setup lines is fit;
  owners = owners_rule_holds reach setup lines is fit;
  ended = ending_rule_holds reach setup lines is fit;
}
