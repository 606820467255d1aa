use Rattle.nc_ident.proofs.Pieces.{one_list, one_cursor}
use Rattle.nc_ident.proofs.laws.text_spells_one.Goals as goal

pub returns-clause-tags : goal.returns-clause-tags
returns-clause-tags c = one_list

pub returns-clause-id : goal.returns-clause-id
returns-clause-id c = one_cursor
