use Rattle.std.proofs.Common.{ap, sym, ◌∙◌}
use Rattle.httpdate.specs.Valid.{parts_secs}
use Rattle.httpdate.proofs.Theorems.{IsDateText_unique}
use Rattle.nc_ident.proofs.laws.date_spells_one_second.Goals as goal

pub returns : goal.returns
returns c text a b x y = sym x.2 ∙ (ap parts_secs (IsDateText_unique text x.0 y.0 x.1 y.1) ∙ y.2)
