use Rattle.std.proofs.Common.{length, ap, ◌∙◌, arith}
use Rattle.std.proofs.lemmas.List.{length-set}
use Rattle.nc_buffer.proofs.Slots.{shows-more}
use Rattle.nc_buffer.proofs.tree.Tree.filled.Goals as goal

pub loop-leaf-preserved : goal.loop-leaf-preserved
loop-leaf-preserved c =
    let len = c.loop-leaf.invariant.len in
    let room = c.requires.room in
    let lt = c.loop-leaf-test.true in
    record {
      shown = rw (c.put.ensures, c.of_slot.ensures) (shows-more c.args.slots.now c.loop-leaf.self c.loop-leaf.leaf c.index-slots-leaf.result c.loop-leaf.invariant.shown lt (omega (arith, len, room, lt)) c.index-slots-leaf.is);
      len = ap length c.put.ensures ∙ length-set c.loop-leaf.self c.loop-leaf.leaf c.of_slot.result ∙ len;
    }
