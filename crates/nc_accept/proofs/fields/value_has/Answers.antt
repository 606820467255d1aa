use Rattle.std.specs.Prelude.{bytes_eq}
use Rattle.std.proofs.Common.{rules, sym, ◌∙◌}
use Rattle.std.specs.List.{slice_split}
use Rattle.std.proofs.lemmas.Iterator.Search.{any_from_yields_List}
use Rattle.std.proofs.lemmas.Iterator.Splits.{YieldsList-from_slice_split}
use Rattle.nc_accept.specs.Fields.{freed, is_comma}
use Rattle.nc_accept.proofs.Items.{any_mapped}
use Rattle.nc_accept.proofs.fields.value_has.Goals as goal

pub returns : goal.returns
returns c =
    any_from_yields_List (λ piece. bytes_eq c.args.text.now (freed piece)) _ _ _ c.any.ensures.ran
    (YieldsList-from_slice_split _ is_comma c.args.value.now c.split.ensures.rest c.split.ensures.done c.split.ensures.closure (λ x b q h. (search rules, search rules)))
    (λ x b q h. (search rules, search rules))
    ∙ sym (any_mapped (bytes_eq c.args.text.now) freed (slice_split is_comma c.args.value.now))
