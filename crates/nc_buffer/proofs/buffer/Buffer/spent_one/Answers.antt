use Rattle.nc_buffer.specs.Buffer.{is_spent}
use Rattle.nc_buffer.proofs.Ops.{loses}
use Rattle.nc_buffer.proofs.buffer.Buffer.spent_one.Goals as goal

pub returns-clause-fewer : goal.returns-clause-fewer
returns-clause-fewer c = rw (c.take.ensures.taken, c.take.ensures.kept) (loses is_spent c.args.self.now)
