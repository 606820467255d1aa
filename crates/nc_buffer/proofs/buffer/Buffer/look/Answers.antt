use Rattle.std.proofs.Common.{◌<◌, List, length, Some, sym, ap, ◌∙◌, subst}
use Rattle.std.specs.List.{position}
use Rattle.nc_buffer.specs.declared.entry.Entry.{Entry}
use Rattle.nc_buffer.specs.Buffer.{first_past}
use Rattle.nc_buffer.specs.Marks.{passes, kept, kept_before}
use Rattle.nc_buffer.proofs.Firsts.{found-within}
use Rattle.nc_buffer.proofs.Slots.{found-place, missed-place, missed-none}
use Rattle.nc_buffer.proofs.buffer.Buffer.look.Goals as goal

pub returns-in_err-found-clause-place : goal.returns-in_err-found-clause-place
returns-in_err-found-clause-place c =
    let none = missed-none c.past-sought.result c.self.inside.slots.items c.self.inside.tree c.past-sought.ensures.quiet c.self.invariant.shown c.in_err-found.ensures.leaf in
    c.from_residual.ensures ∙ sym (missed-place (passes c.past-sought.result) (kept c.self.inside.slots.items) none)
    ∙ ap (λ s. position (passes s) (kept c.self.inside.slots.items)) c.past-sought.ensures.past ∙ ap (first_past c.args.after.now) c.self.view_is

pub returns-clause-place : goal.returns-clause-place
returns-clause-place c =
    ap Some c.in_ok-found.ensures.place
    ∙ sym (found-place c.past-sought.result c.self.inside.slots.items c.self.inside.tree c.in_ok-found.found.leaf c.past-sought.ensures.quiet c.self.invariant.shown c.in_ok-found.ensures.leaf)
    ∙ ap (λ s. position (passes s) (kept c.self.inside.slots.items)) c.past-sought.ensures.past ∙ ap (first_past c.args.after.now) c.self.view_is

pub returns-clause-within : goal.returns-clause-within
returns-clause-within c =
    let at = found-place c.past-sought.result c.self.inside.slots.items c.self.inside.tree c.in_ok-found.found.leaf c.past-sought.ensures.quiet c.self.invariant.shown c.in_ok-found.ensures.leaf in
    rw c.in_ok-found.ensures.place (subst (λ (l : List Entry). kept_before c.in_ok-found.found.leaf c.self.inside.tree < length l) c.self.view_is (found-within (passes c.past-sought.result) (kept c.self.inside.slots.items) _ at))
