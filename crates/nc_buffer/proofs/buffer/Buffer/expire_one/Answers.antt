use Rattle.nc_buffer.specs.Buffer.{is_expired}
use Rattle.nc_buffer.proofs.Ops.{loses}
use Rattle.nc_buffer.proofs.buffer.Buffer.expire_one.Goals as goal

pub returns-clause-fewer : goal.returns-clause-fewer
returns-clause-fewer c = rw (c.take.ensures.taken, c.take.ensures.kept) (loses (is_expired c.args.now) c.args.self.now)
