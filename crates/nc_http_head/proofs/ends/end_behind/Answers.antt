use Rattle.std.proofs.Common.{◌≡◌, ℕ, Option, sym, ap, ◌∙◌, subst}
use Rattle.nc_http_head.specs.declared.ends.Place.{Place}
use Rattle.nc_http_head.specs.Ends.{end_from, place_over, IsEnding}
use Rattle.nc_http_head.proofs.Continued.{seen_on, place_on}
use Rattle.nc_http_head.proofs.ends.end_behind.Goals as goal

pub returns : goal.returns
returns c =
    let end : end_from c.args.seen c.args.place c.behind.result.now ≡ end_from 0 c.args.first c.args.text.now = ap (end_from c.args.seen c.args.place) c.behind.ensures ∙ sym (seen_on c.args.first c.args.seen c.args.place c.args.text.now c.requires) in
    let next : place_over c.args.place c.behind.result.now ≡ place_over c.args.first c.args.text.now = ap (place_over c.args.place) c.behind.ensures ∙ sym (place_on c.args.first c.args.seen c.args.place c.args.text.now c.requires) in
    subst (λ (o : Option ℕ). IsEnding o (place_over c.args.first c.args.text.now) c.find_end.result) end
    (subst (λ (p : Place). IsEnding (end_from c.args.seen c.args.place c.behind.result.now) p c.find_end.result) next c.find_end.ensures)
