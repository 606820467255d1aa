use Rattle.std.proofs.Common.{arith, ◌==◌, subst, List, ℤ, set, ◌∙◌, ap}
use Rattle.nc_types.specs.Id.{Id, IsTag}
use Rattle.nc_types.proofs.MovedTags.{moved-are-tags, length-moved}
use Rattle.nc_types.proofs.cursor.Cursor.moved.Goals as goal

pub invariant_of-result : goal.invariant_of-result
invariant_of-result c =
    let now = c.self.inside in
    let is = c.with_tag.ensures ∙ ap (λ (tags : List ℤ). set tags c.args.j c.args.id.tag) c.in_ok-tags.ensures in
    let same = length-moved (c.id.inside.time == now.time) now.tags c.args.j c.args.id.tag c.with_tag.result is in
    let some = c.self.invariant.1 in
    let tag : IsTag c.args.id.tag = subst (λ (id : Id). IsTag id.tag) c.id-2.view_is c.id-2.invariant.1 in
    (c.id-2.invariant.0, omega arith, moved-are-tags (c.id.inside.time == now.time) now.tags c.args.j c.args.id.tag c.with_tag.result is c.self.invariant.2 tag)
