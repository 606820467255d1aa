use Rattle.std.proofs.Common.{arith}
use Rattle.nc_slots.proofs.PlainRows.{release_held}
use Rattle.nc_slots.proofs.plain.PlainRow.release.Goals as goal

pub invariant_of-self : goal.invariant_of-self
invariant_of-self c = release_held c.self.inside.slots c.self.inside.holds.items c.args.slot c.index.result.now c.saturating_sub.result (omega (arith, c.if-slot-len.true, c.len.ensures)) c.index.ensures (omega (arith, c.saturating_sub.ensures)) c.self.invariant
