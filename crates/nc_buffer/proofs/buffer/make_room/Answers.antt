use Rattle.std.proofs.Common.{rules, ◌≡◌, length, filter, is_some, ap, ◌∙◌, arith}
use Rattle.std.proofs.lemmas.Fn.{filter_same}
use Rattle.nc_buffer.specs.Marks.{kept}
use Rattle.nc_buffer.proofs.Slots.{kept-length, kept-le, shows-le, kept-filter, length-filter}
use Rattle.nc_buffer.proofs.buffer.make_room.Goals as goal

pub fresh-requires : goal.fresh-requires
fresh-requires c =
    let count = c.kept.ensures ∙ kept-length c.args.slots.now.items c.args.tree.now c.requires in
    let few = kept-le c.args.slots.now.items in
    let le = shows-le c.args.slots.now.items c.args.tree.now c.requires in
    omega (arith, count, few, le)

pub filled-requires-clause-room : goal.filled-requires-clause-room
filled-requires-clause-room c =
    let left : c.retain.new.self.items ≡ filter is_some c.args.slots.now.items = filter_same _ _ _ (λ x b g k. search rules) _ _ c.retain.ensures.filtered in
    let count = c.kept.ensures ∙ kept-length c.args.slots.now.items c.args.tree.now c.requires in
    let len = ap length (c.deref.ensures.value ∙ left) ∙ length-filter c.args.slots.now.items in
    let room = c.in_ok-fresh.ensures.room in
    omega (arith, count, len, room)

pub returns-clause-kept : goal.returns-clause-kept
returns-clause-kept c =
    let left : c.retain.new.self.items ≡ filter is_some c.args.slots.now.items = filter_same _ _ _ (λ x b g k. search rules) _ _ c.retain.ensures.filtered in
    ap kept left ∙ kept-filter c.args.slots.now.items

pub returns-clause-room : goal.returns-clause-room
returns-clause-room c =
    let left : c.retain.new.self.items ≡ filter is_some c.args.slots.now.items = filter_same _ _ _ (λ x b g k. search rules) _ _ c.retain.ensures.filtered in
    let count = c.kept.ensures ∙ kept-length c.args.slots.now.items c.args.tree.now c.requires in
    let len = ap length left ∙ length-filter c.args.slots.now.items in
    let room = c.in_ok-fresh.ensures.room in
    let same = c.filled.ensures.len in
    omega (arith, count, len, room, same)
