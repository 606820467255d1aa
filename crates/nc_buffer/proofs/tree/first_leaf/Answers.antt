use Rattle.std.proofs.Common.{rules, ◌*◌, refl, sym, ap, ◌∙◌, arith}
use Rattle.nc_buffer.specs.Marks.{mark_at, tells}
use Rattle.nc_buffer.proofs.Rows.{row-double, down-left, down-right}
use Rattle.nc_buffer.proofs.Leaves.{is-above, down-leaf, down-place, down-within, down-fits, down-lands, read-mark, level-end}
use Rattle.nc_buffer.proofs.tree.first_leaf.Goals as goal
use Rattle.nc_buffer.proofs.tree.first_leaf.Goals.{then-not-is_told, else-not-is_told}

pub overflow_mul-node : goal.overflow_mul-node
overflow_mul-node c =
    let within = down-within c.args.marks.now c.args.sought.now _ c.args.width _ _ (is-above c.args.marks.now c.args.width c.args.height c.loop-level.level c.requires.tree c.requires.width c.loop-level-test.true) c.loop-level.invariant in
    search rules

pub bounds-marks-node : goal.bounds-marks-node
bounds-marks-node c =
    let within = down-within c.args.marks.now c.args.sought.now _ c.args.width _ _ (is-above c.args.marks.now c.args.width c.args.height c.loop-level.level c.requires.tree c.requires.width c.loop-level-test.true) c.loop-level.invariant in
    omega (arith, within)

pub offset_bounds-marks-node : goal.offset_bounds-marks-node
offset_bounds-marks-node c =
    let within = down-within c.args.marks.now c.args.sought.now _ c.args.width _ _ (is-above c.args.marks.now c.args.width c.args.height c.loop-level.level c.requires.tree c.requires.width c.loop-level-test.true) c.loop-level.invariant in
    search rules

pub offset_bounds-marks-node-then-not-is_told : goal.offset_bounds-marks-node-then-not-is_told
offset_bounds-marks-node-then-not-is_told c =
    let within = down-within c.args.marks.now c.args.sought.now _ c.args.width _ _ (is-above c.args.marks.now c.args.width c.args.height c.loop-level.level c.requires.tree c.requires.width c.loop-level-test.true) c.loop-level.invariant in
    search rules

pub bounds-marks-node-then-not-is_told : goal.bounds-marks-node-then-not-is_told
bounds-marks-node-then-not-is_told c =
    let within = down-within c.args.marks.now c.args.sought.now _ c.args.width _ _ (is-above c.args.marks.now c.args.width c.args.height c.loop-level.level c.requires.tree c.requires.width c.loop-level-test.true) c.loop-level.invariant in
    omega (arith, within)

pub bounds-marks-node-then-not-is_told-2 : goal.bounds-marks-node-then-not-is_told-2
bounds-marks-node-then-not-is_told-2 c =
    let within = down-within c.args.marks.now c.args.sought.now _ c.args.width _ _ (is-above c.args.marks.now c.args.width c.args.height c.loop-level.level c.requires.tree c.requires.width c.loop-level-test.true) c.loop-level.invariant in
    omega (arith, within)

pub overflow_add-place : goal.overflow_add-place
overflow_add-place c =
    let above = is-above c.args.marks.now c.args.width c.args.height c.loop-level.level c.requires.tree c.requires.width c.loop-level-test.true in
    let within = down-within c.args.marks.now c.args.sought.now _ c.args.width _ _ above c.loop-level.invariant in
    let fits = down-fits c.args.marks.now c.args.sought.now _ c.args.width _ _ above c.loop-level.invariant in
    let read = ap (λ m. m.kept) (read-mark c.args.marks.now (2 * c.loop-level.node) c.index-marks-node-then-not-is_told.result c.index-marks-node-then-not-is_told.is (omega (arith, within))) in
    search rules

pub overflow_add-node : goal.overflow_add-node
overflow_add-node c =
    let within = down-within c.args.marks.now c.args.sought.now _ c.args.width _ _ (is-above c.args.marks.now c.args.width c.args.height c.loop-level.level c.requires.tree c.requires.width c.loop-level-test.true) c.loop-level.invariant in
    search rules

pub loop-level-preserved : goal.loop-level-preserved
loop-level-preserved c =
    let above = is-above c.args.marks.now c.args.width c.args.height c.loop-level.level c.requires.tree c.requires.width c.loop-level-test.true in
    let within = down-within c.args.marks.now c.args.sought.now _ c.args.width _ _ above c.loop-level.invariant in
    let next = row-double c.loop-level.level in
    let read = read-mark c.args.marks.now (2 * c.loop-level.node) c.index-marks-node.result c.index-marks-node.is (omega (arith, within)) in
    let told = c.is_told.ensures ∙ ap (tells c.args.sought.now) read in
    elim c.if-not-is_told.branch [
      | then-not-is_told w ↦
          let seen = ap (λ m. m.kept) (read-mark c.args.marks.now (2 * c.loop-level.node) w.index-marks-node-then-not-is_told.result w.index-marks-node-then-not-is_told.is (omega (arith, within))) in
          down-lands (mark_at c.args.marks.now) c.args.sought.now _ _ _ _ _ _ next (omega (arith, w.node-is)) (omega (arith, w.place-is, seen, ap (λ m. m.kept) w.index-marks-node-then-not-is_told.is))
          (down-right (mark_at c.args.marks.now) c.args.width c.args.sought.now _ _ _ c.requires.tree.summed above.pos above.above c.loop-level.invariant (grind (arith, w.if-not-is_told.true, told)))
      | else-not-is_told w ↦
          down-lands (mark_at c.args.marks.now) c.args.sought.now _ _ _ _ _ _ next (omega (arith, w.node-is)) (omega (arith, w.place-is))
          (down-left (mark_at c.args.marks.now) c.args.width c.args.sought.now _ _ _ c.requires.tree.summed above.pos above.above c.loop-level.invariant (grind (arith, w.if-not-is_told.false, told)))
    ]

pub returns-clause-leaf : goal.returns-clause-leaf
returns-clause-leaf c =
    let last = level-end c.loop-level.level c.args.height c.loop-level.auto.level-end c.loop-level-test.false ∙ sym c.requires.width in
    down-leaf c.args.marks.now c.args.sought.now c.args.width c.loop-level.node c.loop-level.place c.requires.tree.size
    (down-lands (mark_at c.args.marks.now) c.args.sought.now _ c.args.width _ _ _ _ (sym last) refl refl c.loop-level.invariant)

pub returns-clause-place : goal.returns-clause-place
returns-clause-place c =
    let last = level-end c.loop-level.level c.args.height c.loop-level.auto.level-end c.loop-level-test.false ∙ sym c.requires.width in
    down-place c.args.marks.now c.args.sought.now c.args.width c.loop-level.node c.loop-level.place
    (down-lands (mark_at c.args.marks.now) c.args.sought.now _ c.args.width _ _ _ _ (sym last) refl refl c.loop-level.invariant)
