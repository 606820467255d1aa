use Rattle.std.proofs.Common.{refl, ap, ◌∙◌}
use Rattle.std.specs.Prelude.{replicate}
use Rattle.nc_types.specs.Config.{ConfigAt}
use Rattle.nc_slots.specs.Plain.{new_row}
use Rattle.nc_floor.proofs.Beginning.{begins, floor}
use Rattle.nc_floor.proofs.opening.open.Goals as goal

pub returns-clause-floor : goal.returns-clause-floor
returns-clause-floor g c = floor g.W.Hand.worker (record { alloc = c.args.alloc; conf = c.args.conf; first = c.args.first; hands = c.in_ok-hands.hands; slots = c.in_ok-slots.slots; rings = c.new-2.result; pending = 0; told = c.new-3.result }) c.in_ok-hands.ensures.hired
    (c.in_ok-slots.ensures ∙ ap (λ (x : ConfigAt). replicate x.workers (new_row x.slots)) c.conf.view_is) c.new-2.ensures g.W.Hand.sound _ (c.sets_up.ensures c.args.first) c.in_ok-hands.ensures.sound refl

pub returns-clause-new : goal.returns-clause-new
returns-clause-new g c = begins g.W.Hand.worker (record { alloc = c.args.alloc; conf = c.args.conf; first = c.args.first; hands = c.in_ok-hands.hands; slots = c.in_ok-slots.slots; rings = c.new-2.result; pending = 0; told = c.new-3.result }) c.in_ok-hands.ensures.hired
    (c.in_ok-slots.ensures ∙ ap (λ (x : ConfigAt). replicate x.workers (new_row x.slots)) c.conf.view_is) c.new-2.ensures c.new-3.ensures
