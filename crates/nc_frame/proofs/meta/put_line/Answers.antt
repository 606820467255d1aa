use Rattle.std.proofs.Common.{ap, ◌∙◌, append_assoc, [], ◌∷◌, ◌++◌}
use Rattle.std.specs.Prelude.{codes}
use Rattle.nc_frame.proofs.meta.put_line.Goals as goal

pub returns : goal.returns
returns c =
    c.in_ok-extend_from_slice-3.ensures.items
    ∙ ap (λ l. l ++ 10 ∷ []) (c.in_ok-extend_from_slice-2.ensures.items ∙ ap (λ l. l ++ c.args.content_type.now) c.in_ok-extend_from_slice.ensures.items)
    ∙ append_assoc (c.args.out.now.items ++ codes "content-type: ") c.args.content_type.now (10 ∷ [])
    ∙ append_assoc c.args.out.now.items (codes "content-type: ") (c.args.content_type.now ++ 10 ∷ [])
