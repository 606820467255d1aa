use Rattle.std.proofs.Common.{arith, ◌∙◌}
use Rattle.nc_types.proofs.Owner.{tells-owner}
use Rattle.nc_types.proofs.channel.ChanName.owner.Goals as goal

pub returns : goal.returns
returns c =
    tells-owner c.loop-byte.hash c.from-2.result c.args.workers c.loop-byte.byte-index c.as_slice-byte-items.result.now c.args.self.now c.loop-byte.invariant (omega arith) (c.as_slice-byte-items.ensures ∙ c.self.view_is) c.from-2.ensures
