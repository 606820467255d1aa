use Rattle.std.proofs.Common.{rules, ◌≡◌, List, Option, None, find, set, sym, ap, ◌∙◌, subst}
use Rattle.std.proofs.lemmas.List.{get_or_default}
use Rattle.nc_buffer.specs.declared.entry.Entry.{Entry}
use Rattle.nc_buffer.specs.Buffer.{StaysRising, without_first}
use Rattle.nc_buffer.specs.Marks.{passes, kept}
use Rattle.nc_buffer.proofs.Ops.{takes, misses}
use Rattle.nc_buffer.proofs.buffer.Buffer.take.Goals as goal

pub returns-in_err-found-clause-taken : goal.returns-in_err-found-clause-taken
returns-in_err-found-clause-taken c =
    let m = misses c.args.sought c.self.inside.slots.items c.self.inside.tree c.requires c.self.invariant c.in_err-found.ensures.leaf in
    c.from_residual.ensures ∙ sym (ap (find (passes c.args.sought)) (sym c.self.view_is) ∙ m.none)

pub returns-in_err-found-clause-kept : goal.returns-in_err-found-clause-kept
returns-in_err-found-clause-kept c =
    let m = misses c.args.sought c.self.inside.slots.items c.self.inside.tree c.requires c.self.invariant c.in_err-found.ensures.leaf in
    subst (λ (l : List Entry). l ≡ without_first (passes c.args.sought) l) c.self.view_is m.left

pub index_mut-requires : goal.index_mut-requires
index_mut-requires c =
    let t = takes c.args.sought c.self.inside.slots.items c.self.inside.tree c.in_ok-found.found.leaf c.requires c.self.invariant c.in_ok-found.ensures.leaf in
    let within = t.within in
    search rules

pub invariant_of-self : goal.invariant_of-self
invariant_of-self c =
    let t = takes c.args.sought c.self.inside.slots.items c.self.inside.tree c.in_ok-found.found.leaf c.requires c.self.invariant c.in_ok-found.ensures.leaf in
    rw (c.take.ensures.after, c.put.ensures, c.none.ensures) t.indexed

pub returns-clause-taken : goal.returns-clause-taken
returns-clause-taken c =
    let t = takes c.args.sought c.self.inside.slots.items c.self.inside.tree c.in_ok-found.found.leaf c.requires c.self.invariant c.in_ok-found.ensures.leaf in
    c.take.ensures.value ∙ c.index_mut.ensures.value ∙ get_or_default c.self.inside.slots.items c.in_ok-found.found.leaf _ None t.within ∙ t.taken ∙ ap (find (passes c.args.sought)) c.self.view_is

pub returns-clause-kept : goal.returns-clause-kept
returns-clause-kept c =
    let t = takes c.args.sought c.self.inside.slots.items c.self.inside.tree c.in_ok-found.found.leaf c.requires c.self.invariant c.in_ok-found.ensures.leaf in
    ap (λ x. kept (set c.self.inside.slots.items c.in_ok-found.found.leaf x)) c.take.ensures.after ∙ t.left ∙ ap (without_first (passes c.args.sought)) c.self.view_is

pub returns-clause-rising : goal.returns-clause-rising
returns-clause-rising c =
    let t = takes c.args.sought c.self.inside.slots.items c.self.inside.tree c.in_ok-found.found.leaf c.requires c.self.invariant c.in_ok-found.ensures.leaf in
    subst (λ (l : List Entry). StaysRising l (kept (set c.self.inside.slots.items c.in_ok-found.found.leaf c.take.new.self))) c.self.view_is
    (subst (λ (x : Option Entry). StaysRising (kept c.self.inside.slots.items) (kept (set c.self.inside.slots.items c.in_ok-found.found.leaf x))) (sym c.take.ensures.after) t.rising)
