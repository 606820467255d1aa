use Rattle.std.proofs.Common.{◌∙◌}
use Rattle.nc_buffer.specs.declared.mark.Sought.TheVariants.{Any}
use Rattle.nc_buffer.specs.Marks.{passes}
use Rattle.nc_buffer.proofs.Ops.{loses, any-oldest}
use Rattle.nc_buffer.proofs.buffer.Buffer.drop_oldest.Goals as goal

pub returns-clause-taken : goal.returns-clause-taken
returns-clause-taken c = c.take.ensures.taken ∙ any-oldest _

pub returns-clause-fewer : goal.returns-clause-fewer
returns-clause-fewer c = rw (c.take.ensures.taken, c.take.ensures.kept) (loses (passes Any) c.args.self.now)
