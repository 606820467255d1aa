use Rattle.nc_spool_laws.proofs.Waiting.{all-restful}
use Rattle.nc_spool_laws.proofs.resting.stay_restful.Goals as goal

pub returns : goal.returns
returns c = all-restful
