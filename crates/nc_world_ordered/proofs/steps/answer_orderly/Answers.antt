use Rattle.nc_world_ordered.proofs.Calls.{answer_orderly}
use Rattle.nc_world_ordered.proofs.steps.answer_orderly.Goals as goal

pub returns : goal.returns
returns c = answer_orderly
