use Rattle.nc_spool_laws.proofs.Rules.{entering}
use Rattle.nc_spool_laws.proofs.asking.standing_spools_are_entered_quietly.Goals as goal

pub returns : goal.returns
returns c = entering
