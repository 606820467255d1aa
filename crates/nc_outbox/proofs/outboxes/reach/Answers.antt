use Rattle.std.proofs.Common.{List, [], ◌∷◌, ◌++◌, ◌∙◌, ap}
use Rattle.nc_outbox.specs.Box.{BoxAt}
use Rattle.nc_outbox.specs.Outboxes.{box_of}
use Rattle.nc_outbox.proofs.Boxes.{one_box_more}
use Rattle.nc_outbox.proofs.outboxes.reach.Goals as goal

pub loop-alloc-preserved : goal.loop-alloc-preserved
loop-alloc-preserved g c =
    let pushed = c.in_ok-push.ensures.items ∙ ap (λ (b : BoxAt g.row.H.Denot). c.loop-alloc.boxes.items ++ b ∷ []) c.new.ensures in
    ap (λ (boxes : List (BoxAt g.row.H.Denot)). box_of c.args.first boxes) pushed ∙ (one_box_more c.args.first c.loop-alloc.boxes.items ∙ c.loop-alloc.invariant)
