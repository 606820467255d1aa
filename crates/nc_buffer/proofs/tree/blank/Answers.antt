use Rattle.std.proofs.Common.{◌≡◌, ◌*◌, ◌-◌, drop, replicate, ap, ◌∙◌, arith}
use Rattle.std.proofs.lemmas.List.{drop-replicate}
use Rattle.nc_buffer.specs.Marks.{no_mark}
use Rattle.nc_buffer.proofs.tree.blank.Goals as goal

pub returns : goal.returns
returns c =
    let half : 2 * c.args.width - c.args.width ≡ c.args.width = omega arith in
    let items : c.in_ok-marks.marks.items ≡ replicate (2 * c.args.width) c.none.result = c.in_ok-marks.ensures.items_if_clones_equal (λ y same. same) in
    ap (drop c.args.width) (items ∙ ap (replicate (2 * c.args.width)) c.none.ensures) ∙ drop-replicate c.args.width (2 * c.args.width) no_mark ∙ ap (λ n. replicate n no_mark) half
