use Rattle.std.proofs.Common.{length, ap, ◌∙◌}
use Rattle.nc_buffer.proofs.Slots.{kept-length}
use Rattle.nc_buffer.proofs.buffer.Buffer.len.Goals as goal

pub returns-clause-count : goal.returns-clause-count
returns-clause-count c = c.kept.ensures ∙ kept-length c.self.inside.slots.items c.self.inside.tree c.self.invariant.shown ∙ ap length c.self.view_is
