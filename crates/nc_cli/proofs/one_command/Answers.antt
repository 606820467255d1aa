use Rattle.nc_cli.proofs.Loads.{one-command}
use Rattle.nc_cli.proofs.one_command.Goals as goal

pub returns : goal.returns
returns c = one-command
