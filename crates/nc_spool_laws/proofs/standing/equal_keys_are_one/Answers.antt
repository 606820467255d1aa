use Rattle.nc_spool_laws.proofs.SameKey.{key_same}
use Rattle.nc_spool_laws.proofs.standing.equal_keys_are_one.Goals as goal

pub returns : goal.returns
returns c = key_same
