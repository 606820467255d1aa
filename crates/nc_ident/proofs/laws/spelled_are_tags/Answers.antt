use Rattle.nc_ident.proofs.Pieces.{spelled_are_tags}
use Rattle.nc_ident.proofs.laws.spelled_are_tags.Goals as goal

pub returns : goal.returns
returns c = spelled_are_tags
