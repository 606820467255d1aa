use Rattle.std.proofs.Common.{sym, ◌∙◌, ap, nat_lt}
use Rattle.std.specs.List.{list_any}
use Rattle.nc_spool_state.specs.Kept.{is_used}
use Rattle.nc_spool_state.specs.Uses.{tells_use}
use Rattle.nc_spool_state.proofs.Counting.{told_use, spool_use}
use Rattle.nc_spool_state.proofs.shelf.Shelf.uses.Goals as goal

pub returns : goal.returns
returns c =
    let o = c.args.owner in
    let n = c.args.g in
    c.tell_use.ensures ∙ ap (list_any (tells_use o n)) c.deref.ensures.value ∙ told_use o n _ ∙ ap (nat_lt 0) (c.self.invariant o n) ∙ sym (spool_use o n c.self.inside.spools.items) ∙ ap (is_used o n) c.self.view_is
