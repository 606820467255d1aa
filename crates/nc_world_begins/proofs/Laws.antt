-- The laws of the starts of reached worlds, by those of edges.
use Rattle.nc_world_members.proofs.Started.{nobody_starts}
use Rattle.nc_world_edges.proofs.Laws.{reached_tells_edges, next_edge_answers, edges_are_answered, edge_asked_once, edge_asked_below}
use Rattle.nc_world_edge_awaits.proofs.Taking.{awaited_edge_is_unanswered}
use Rattle.nc_world_begins.specs.Begins.{ReachedHasStarts, AnswersStart, RestedStarts, NobodyStartsAtRest}
use Rattle.nc_world_begins.proofs.EdgeHolding.{edge_holds}
use Rattle.nc_world_begins.proofs.EdgeStarting.{edge_starts}
use Rattle.nc_world_begins.proofs.Stepping.{reached_has_starts_by, answers_start_by}
use Rattle.nc_world_begins.proofs.Resting.{rested_starts_by, nobody_starts_by}

pub reached_has_starts : ReachedHasStarts
reached_has_starts = reached_has_starts_by edge_holds reached_tells_edges next_edge_answers edge_asked_once edge_asked_below

pub answers_start : AnswersStart
answers_start = answers_start_by edge_holds reached_tells_edges next_edge_answers edge_asked_once edge_asked_below edge_starts

pub rested_starts : RestedStarts
rested_starts = rested_starts_by reached_has_starts reached_tells_edges edges_are_answered awaited_edge_is_unanswered

pub nobody_starts_at_rest : NobodyStartsAtRest
nobody_starts_at_rest = nobody_starts_by reached_has_starts reached_tells_edges edges_are_answered awaited_edge_is_unanswered nobody_starts
