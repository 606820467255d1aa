use Rattle.nc_world_owners.proofs.ReachedOwners.{answers_are_new}
use Rattle.nc_world_owners.proofs.owners.answers_are_new.Goals as goal

pub returns : goal.returns
returns c = answers_are_new
