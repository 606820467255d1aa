use Rattle.nc_world_holds.proofs.Serving.{served_balances}
use Rattle.nc_world_holds.proofs.balance.served_balances.Goals as goal

pub returns : goal.returns
returns c = served_balances
