use Rattle.std.proofs.Common.{◌*◌, refl, sym, ap, ◌∙◌, arith}
use Rattle.nc_buffer.specs.Marks.{mark_at}
use Rattle.nc_buffer.proofs.Rows.{row-double, toward-left, toward-right}
use Rattle.nc_buffer.proofs.Leaves.{is-above, toward-within, toward-lands, toward-before, toward-behind, read-mark, level-end}
use Rattle.nc_buffer.proofs.tree.leaf_at.Goals as goal
use Rattle.nc_buffer.proofs.tree.leaf_at.Goals.{then-rest-kept, else-rest-kept}

pub bounds-marks-node : goal.bounds-marks-node
bounds-marks-node c =
    let within = toward-within c.args.marks.now _ c.args.width _ _ _ (is-above c.args.marks.now c.args.width c.args.height c.loop-level.level c.requires.tree c.requires.width c.loop-level-test.true) c.loop-level.invariant in
    omega (arith, within)

pub bounds-marks-node-in-loop-level : goal.bounds-marks-node-in-loop-level
bounds-marks-node-in-loop-level c =
    let within = toward-within c.args.marks.now _ c.args.width _ _ _ (is-above c.args.marks.now c.args.width c.args.height c.loop-level.level c.requires.tree c.requires.width c.loop-level-test.true) c.loop-level.invariant in
    omega (arith, within)

pub loop-level-preserved : goal.loop-level-preserved
loop-level-preserved c =
    let above = is-above c.args.marks.now c.args.width c.args.height c.loop-level.level c.requires.tree c.requires.width c.loop-level-test.true in
    let within = toward-within c.args.marks.now _ c.args.width _ _ _ above c.loop-level.invariant in
    let next = row-double c.loop-level.level in
    let read = read-mark c.args.marks.now (2 * c.loop-level.node) c.index-marks-node.result c.index-marks-node.is (omega (arith, within)) in
    let seen = ap (λ m. m.kept) read in
    let here = ap (λ m. m.kept) c.index-marks-node.is in
    elim c.if-rest-kept.branch [
      | then-rest-kept w ↦
          let test = w.if-rest-kept.true in
          toward-lands (mark_at c.args.marks.now) _ _ _ _ _ _ _ next (omega (arith, w.node-is)) (omega (arith, w.rest-is, seen, here))
          (toward-right (mark_at c.args.marks.now) c.args.width _ _ _ _ c.requires.tree.summed above.pos above.above c.loop-level.invariant (omega (arith, test, seen, here)))
      | else-rest-kept w ↦
          let test = w.if-rest-kept.false in
          toward-lands (mark_at c.args.marks.now) _ _ _ _ _ _ _ next (omega (arith, w.node-is)) (omega (arith, w.rest-is))
          (toward-left (mark_at c.args.marks.now) c.args.width _ _ _ _ c.requires.tree.summed above.pos above.above c.loop-level.invariant (omega (arith, test, seen, here)))
    ]

pub returns-clause-before : goal.returns-clause-before
returns-clause-before c =
    let last = level-end c.loop-level.level c.args.height c.loop-level.auto.level-end c.loop-level-test.false ∙ sym c.requires.width in
    toward-before c.args.marks.now c.args.width c.loop-level.node c.loop-level.rest c.args.place (toward-lands (mark_at c.args.marks.now) _ c.args.width _ _ _ _ _ (sym last) refl refl c.loop-level.invariant)

pub returns-clause-behind : goal.returns-clause-behind
returns-clause-behind c =
    let last = level-end c.loop-level.level c.args.height c.loop-level.auto.level-end c.loop-level-test.false ∙ sym c.requires.width in
    toward-behind c.args.marks.now c.args.width c.loop-level.node c.loop-level.rest c.args.place (toward-lands (mark_at c.args.marks.now) _ c.args.width _ _ _ _ _ (sym last) refl refl c.loop-level.invariant)
