use Rattle.std.proofs.Common.{◌≡◌, ℕ, List, cond, Some, sym, ap, subst, ◌∙◌}
use Rattle.std.specs.List.Sorted.{IsStrictlySortedBy}
use Rattle.std.specs.Ordering.{nat_cmp}
use Rattle.std.specs.Map.{keys_of}
use Rattle.std.specs.Map.Iter.{deref_pair}
use Rattle.std.proofs.lemmas.Map.Iter.{rest_more, rest_all}
use Rattle.nc_subs.specs.declared.sub.Sub.{Sub}
use Rattle.nc_subs.specs.Subs.{due_of}
use Rattle.nc_subs.proofs.Due.{none-due, least-due}
use Rattle.nc_subs.proofs.subs.Subs.due.Goals as goal

pub returns-then-is_due-clause-least : goal.returns-then-is_due-clause-least
returns-then-is_due-clause-least c =
    let at = rest_more deref_pair _ _ _ (c.in-Some.k, c.in-Some.sub) c.in-Some.is c.next.ensures.steps in
    let due : due_of c.args.now c.args.self.now ≡ Some c.in-Some.k.now = sym c.loop-k.invariant ∙ ap (due_of c.args.now) at ∙ ap (λ t. cond t (Some c.in-Some.k.now) (due_of c.args.now c.next.new.self)) (sym c.is_due.ensures ∙ c.if-is_due.true) in
    least-due c.args.now c.in-Some.k.now c.args.self.now (subst (λ (l : List (ℕ × Sub)). IsStrictlySortedBy nat_cmp (keys_of l)) c.self.view_is c.iter-k-items.ensures.ordered) due

pub returns-clause-none : goal.returns-clause-none
returns-clause-none c =
    let empty = rest_all deref_pair _ _ _ c.in-None.is c.next.ensures.steps in
    none-due c.args.now c.args.self.now (sym c.loop-k.invariant ∙ ap (due_of c.args.now) empty)
