use Rattle.std.specs.Prelude.{bytes_eq}
use Rattle.std.proofs.Common.{rules, sym, ◌∙◌}
use Rattle.std.proofs.lemmas.Iterator.Search.{any_from_yields_List}
use Rattle.std.proofs.lemmas.Iterator.{YieldsList-from_slice}
use Rattle.nc_accept.proofs.Items.{field_passes, any_item}
use Rattle.nc_accept.proofs.fields.has_item.Goals as goal

pub returns : goal.returns
returns c =
    any_from_yields_List (field_passes (bytes_eq c.args.text.now) c.args.name.now) _ _ _ c.any.ensures.ran
    (YieldsList-from_slice c.args.fields.now c.iter.ensures.rest)
    (λ x b q h. (search rules, search rules))
    ∙ sym (any_item (bytes_eq c.args.text.now) c.args.name.now c.args.fields.now)
