use Rattle.std.proofs.Common.{◌≡◌, length, take}
use Rattle.nc_buffer.specs.Marks.{Shows}
use Rattle.nc_buffer.proofs.tree.Tree.filled.Given as goal

abbrev pub invariant-loop-leaf : goal.invariant-loop-leaf
invariant-loop-leaf l = record {
  shown : Shows (take l.leaf l.slots) l.self;
  len : length l.self ≡ length l.fn.self;
}
