use Rattle.std.proofs.Common.{◌≡◌, ◌∙◌, rules, codes}
use Rattle.std.specs.Prelude.{◌||◌, not}
use Rattle.std.proofs.lemmas.Iterator.Search.{all_from_yields_List}
use Rattle.std.proofs.lemmas.Iterator.{YieldsList-from_slice}
use Rattle.nc_accept.specs.Fields.{is_called}
use Rattle.nc_http_head.specs.Framing.{has_length}
use Rattle.nc_http_head.proofs.Lengths as lengths
use Rattle.nc_http_head.proofs.framing.all_agree.Goals as goal

pub returns : goal.returns
returns c =
    all_from_yields_List (λ field. not (is_called (codes "Content-Length") field) || has_length c.args.length field.value) _ _ _ c.all.ensures.ran
    (YieldsList-from_slice c.args.fields.now c.iter.ensures.rest)
    (λ x b q h. (search rules, search rules))
    ∙ lengths.all_values c.args.length (codes "Content-Length") c.args.fields.now
