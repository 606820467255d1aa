use Rattle.std.proofs.Common.{arith}
use Rattle.std.proofs.lemmas.Int.{ints}
use Rattle.nc_buffer.proofs.mark.Sought.past.Goals as goal

pub returns-clause-quiet : goal.returns-clause-quiet
returns-clause-quiet c =
    let least = c.id.invariant.1.0 in
    grind (arith, ints)
