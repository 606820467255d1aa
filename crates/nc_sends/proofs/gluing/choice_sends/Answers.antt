use Rattle.nc_sends.proofs.Choices.{choice_sends}
use Rattle.nc_sends.proofs.gluing.choice_sends.Goals as goal

pub returns : goal.returns
returns c = choice_sends
