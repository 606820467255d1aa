use Rattle.std.proofs.Common.{length}
use Rattle.journal_bench.proofs.walk.walk.Given as goal

abbrev pub decreases-loop-rest : goal.decreases-loop-rest
decreases-loop-rest g l = length l.rest
