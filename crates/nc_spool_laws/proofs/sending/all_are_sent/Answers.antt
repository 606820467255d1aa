use Rattle.nc_spool_laws.proofs.Rules.{sending-rule}
use Rattle.nc_spool_laws.proofs.sending.all_are_sent.Goals as goal

pub returns : goal.returns
returns c = sending-rule
