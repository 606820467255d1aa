use Rattle.std.proofs.Common.{sym, ◌∙◌}
use Rattle.nc_http_in.proofs.Feeding as feeding
use Rattle.nc_http_in.proofs.reader.Reader.feed.Goals as goal

pub invariant_of-self : goal.invariant_of-self
invariant_of-self c = record { notes = feeding.notes_put c.put.result c.self.inside.stage c.self.inside.pending c.args.piece.now c.put.new.self c.put.ensures.ok c.put.ensures.err (sym c.is_over.ensures ∙ c.if-is_over.false) c.self.invariant.notes }
