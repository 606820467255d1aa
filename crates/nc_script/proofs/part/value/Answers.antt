use Rattle.std.proofs.Common.{arith}
use Rattle.nc_script.proofs.Number.{few_digits}
use Rattle.nc_script.proofs.part.value.Goals as goal

pub overflow_mul-value : goal.overflow_mul-value
overflow_mul-value c = let few = few_digits c.loop-byte.value c.loop-byte.byte-index (omega arith) c.loop-byte.invariant.below in omega arith

pub overflow_add-value : goal.overflow_add-value
overflow_add-value c = let few = few_digits c.loop-byte.value c.loop-byte.byte-index (omega arith) c.loop-byte.invariant.below in grind arith
