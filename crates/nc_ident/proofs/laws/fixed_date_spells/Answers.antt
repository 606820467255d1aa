use Rattle.std.proofs.Common.{inl, ap, sym, ◌∙◌}
use Rattle.httpdate.specs.Text.{imf_fixdate}
use Rattle.httpdate.proofs.Theorems.{unix_secs_injective}
use Rattle.nc_ident.proofs.laws.fixed_date_spells.Goals as goal

pub returns-clause-spells : goal.returns-clause-spells
returns-clause-spells c text time x = (x.0, inl x.1, x.2)

pub returns-clause-one : goal.returns-clause-one
returns-clause-one c a b time x y = x.1 ∙ (ap imf_fixdate (unix_secs_injective x.0 y.0 (x.2 ∙ sym y.2)) ∙ sym y.1)
