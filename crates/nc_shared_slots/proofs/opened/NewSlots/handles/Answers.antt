use Rattle.std.proofs.Common.{◌∙◌, arith, ap}
use Rattle.nc_shared_slots.specs.Opened.{RestAt}
use Rattle.nc_shared_slots.proofs.Openings.{handles_next, next_cut}
use Rattle.nc_shared_slots.proofs.opened.NewSlots.handles.Goals as goal

pub loop-owner-preserved : goal.loop-owner-preserved
loop-owner-preserved g c =
    let inv = c.loop-owner.invariant in let rest = c.loop-owner.rest in let n = c.loop-owner.owner in
    let cut = c.in_ok-row.ensures.rest in
    let left = ap (λ (r : RestAt). r.left) cut in
    let next = next_cut c.args.self.workers n c.args.self.slots rest.left (omega (arith, c.loop-owner-test.true, inv.4)) inv.3 in (
      handles_next c.loop-owner.handles c.push.new.self n c.args.self.slots rest.per c.in_ok-row.row c.of.result inv.0 c.in_ok-push.ensures.ok c.of.ensures c.in_ok-row.ensures.row inv.2,
      ap (λ (r : RestAt). r.table) cut ∙ inv.1,
      ap (λ (r : RestAt). r.per) cut ∙ inv.2,
      omega (arith, next.1, left, inv.2),
      inv.4,
    )
