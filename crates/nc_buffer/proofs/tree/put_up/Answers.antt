use Rattle.std.proofs.Common.{rules, ◌+◌, ◌<◌, ◌*◌, ◌/◌, length, set, refl, sym, ap, ◌∙◌, arith}
use Rattle.nc_buffer.specs.Marks.{mark_at, both}
use Rattle.nc_buffer.proofs.Leaves.{read-mark}
use Rattle.nc_buffer.proofs.Climb.{parent, row-lowest, row-above, climb-begins, climb-on, climb-lands}
use Rattle.nc_buffer.proofs.tree.put_up.Goals as goal

pub loop-level-init : goal.loop-level-init
loop-level-init c = climb-lands c.args.marks.now c.args.width c.args.leaf c.args.mark _ _ c.args.width _ _ _ refl (row-lowest c.args.height ∙ sym c.requires.width) refl (climb-begins c.args.marks.now c.args.width c.args.height c.args.leaf c.args.mark c.requires.tree c.requires.leaf c.requires.one)

pub offset_bounds-marks-node-in-loop-level : goal.offset_bounds-marks-node-in-loop-level
offset_bounds-marks-node-in-loop-level c =
    let p = parent c.args.marks.now c.loop-level.marks c.args.width c.args.height c.args.leaf c.args.mark c.loop-level.level c.loop-level.node c.requires.width c.loop-level-test.true c.loop-level.invariant in
    let low = p.low in
    let within = p.within in
    search rules

pub bounds-marks-node-in-loop-level : goal.bounds-marks-node-in-loop-level
bounds-marks-node-in-loop-level c =
    let p = parent c.args.marks.now c.loop-level.marks c.args.width c.args.height c.args.leaf c.args.mark c.loop-level.level c.loop-level.node c.requires.width c.loop-level-test.true c.loop-level.invariant in
    let low = p.low in
    let within = p.within in
    omega (arith, within)

pub offset_bounds-marks-node-in-loop-level-2 : goal.offset_bounds-marks-node-in-loop-level-2
offset_bounds-marks-node-in-loop-level-2 c =
    let p = parent c.args.marks.now c.loop-level.marks c.args.width c.args.height c.args.leaf c.args.mark c.loop-level.level c.loop-level.node c.requires.width c.loop-level-test.true c.loop-level.invariant in
    let low = p.low in
    let within = p.within in
    search rules

pub bounds-marks-node-in-loop-level-2 : goal.bounds-marks-node-in-loop-level-2
bounds-marks-node-in-loop-level-2 c =
    let p = parent c.args.marks.now c.loop-level.marks c.args.width c.args.height c.args.leaf c.args.mark c.loop-level.level c.loop-level.node c.requires.width c.loop-level-test.true c.loop-level.invariant in
    let low = p.low in
    let within = p.within in
    omega (arith, within)

pub offset_bounds-marks-node-in-loop-level-3 : goal.offset_bounds-marks-node-in-loop-level-3
offset_bounds-marks-node-in-loop-level-3 c =
    let p = parent c.args.marks.now c.loop-level.marks c.args.width c.args.height c.args.leaf c.args.mark c.loop-level.level c.loop-level.node c.requires.width c.loop-level-test.true c.loop-level.invariant in
    let low = p.low in
    let within = p.within in
    let near : c.loop-level.node / 2 < length c.loop-level.marks = omega (arith, within) in search rules

pub bounds-marks-node-in-loop-level-3 : goal.bounds-marks-node-in-loop-level-3
bounds-marks-node-in-loop-level-3 c =
    let p = parent c.args.marks.now c.loop-level.marks c.args.width c.args.height c.args.leaf c.args.mark c.loop-level.level c.loop-level.node c.requires.width c.loop-level-test.true c.loop-level.invariant in
    let low = p.low in
    let within = p.within in
    omega (arith, within)

pub both-requires : goal.both-requires
both-requires c =
    let p = parent c.args.marks.now c.loop-level.marks c.args.width c.args.height c.args.leaf c.args.mark c.loop-level.level c.loop-level.node c.requires.width c.loop-level-test.true c.loop-level.invariant in
    let low = p.low in
    let within = p.within in
    let a = read-mark c.loop-level.marks (2 * (c.loop-level.node / 2)) c.index-marks-node.result c.index-marks-node.is (omega (arith, within)) in
    let b = read-mark c.loop-level.marks (2 * (c.loop-level.node / 2) + 1) c.index-marks-node-in-loop-level.result c.index-marks-node-in-loop-level.is (omega (arith, within)) in
    let x = ap (λ m. m.kept) a in
    let y = ap (λ m. m.kept) b in
    let fits = p.fits in
    search rules

pub loop-level-preserved : goal.loop-level-preserved
loop-level-preserved c =
    let p = parent c.args.marks.now c.loop-level.marks c.args.width c.args.height c.args.leaf c.args.mark c.loop-level.level c.loop-level.node c.requires.width c.loop-level-test.true c.loop-level.invariant in
    let low = p.low in
    let within = p.within in
    let a = read-mark c.loop-level.marks (2 * (c.loop-level.node / 2)) c.index-marks-node.result c.index-marks-node.is (omega (arith, within)) in
    let b = read-mark c.loop-level.marks (2 * (c.loop-level.node / 2) + 1) c.index-marks-node-in-loop-level.result c.index-marks-node-in-loop-level.is (omega (arith, within)) in
    let new = c.both.ensures ∙ ap (λ m. both m c.index-marks-node-in-loop-level.result) a ∙ ap (both (mark_at c.loop-level.marks (2 * (c.loop-level.node / 2)))) b in
    climb-lands c.args.marks.now c.args.width c.args.leaf c.args.mark _ _ _ _ _ _ (ap (set c.loop-level.marks (c.loop-level.node / 2)) new) refl refl
    (climb-on c.args.marks.now c.loop-level.marks c.args.width c.args.leaf c.args.mark _ c.loop-level.node (c.loop-level.node / 2) p.row_is p.above
    (climb-lands c.args.marks.now c.args.width c.args.leaf c.args.mark _ _ _ _ _ _ refl (sym (row-above c.loop-level.level c.args.height c.loop-level-test.true)) refl c.loop-level.invariant)
    p.low p.high)
