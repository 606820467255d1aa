use Rattle.std.proofs.Common.{rules, ◌≡◌, List, [], ◌∷◌, ◌++◌, length, Option, sym, ap, ◌∙◌, subst}
use Rattle.nc_buffer.specs.declared.entry.Entry.{Entry}
use Rattle.nc_buffer.specs.Buffer.{IsRising, StaysRising, IsPastAll}
use Rattle.nc_buffer.specs.Marks.{kept}
use Rattle.nc_buffer.proofs.Ops.{stores}
use Rattle.nc_buffer.proofs.buffer.Buffer.store.Goals as goal

pub invariant_of-self-2 : goal.invariant_of-self-2
invariant_of-self-2 c =
    let s = stores c.make_room.new.slots.items c.make_room.new.tree c.args.entry c.in_ok-make_room.ensures.shown (subst IsRising (sym c.in_ok-make_room.ensures.kept) c.self.invariant.rising) c.in_ok-make_room.ensures.room (subst (IsPastAll c.args.entry.id) (sym (c.in_ok-make_room.ensures.kept ∙ c.self.view_is)) c.requires) in
    let same : c.len-leaf.result ≡ length c.make_room.new.slots.items = search rules in
    rw (c.in_ok-push.ensures.items, c.put.ensures, c.of.ensures, same) s.indexed

pub returns-clause-ok : goal.returns-clause-ok
returns-clause-ok c =
    let s = stores c.make_room.new.slots.items c.make_room.new.tree c.args.entry c.in_ok-make_room.ensures.shown (subst IsRising (sym c.in_ok-make_room.ensures.kept) c.self.invariant.rising) c.in_ok-make_room.ensures.room (subst (IsPastAll c.args.entry.id) (sym (c.in_ok-make_room.ensures.kept ∙ c.self.view_is)) c.requires) in
    ap kept c.in_ok-push.ensures.items ∙ s.more ∙ ap (λ l. l ++ c.args.entry ∷ []) (c.in_ok-make_room.ensures.kept ∙ c.self.view_is)

pub returns-clause-rising : goal.returns-clause-rising
returns-clause-rising c =
    let s = stores c.make_room.new.slots.items c.make_room.new.tree c.args.entry c.in_ok-make_room.ensures.shown (subst IsRising (sym c.in_ok-make_room.ensures.kept) c.self.invariant.rising) c.in_ok-make_room.ensures.room (subst (IsPastAll c.args.entry.id) (sym (c.in_ok-make_room.ensures.kept ∙ c.self.view_is)) c.requires) in
    subst (λ (l : List Entry). StaysRising l (kept c.push.new.self.items)) (c.in_ok-make_room.ensures.kept ∙ c.self.view_is)
    (subst (λ (l : List (Option Entry)). StaysRising (kept c.make_room.new.slots.items) (kept l)) (sym c.in_ok-push.ensures.items) s.rising)
