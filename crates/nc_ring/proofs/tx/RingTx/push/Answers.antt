use Rattle.std.proofs.Common.{◌∙◌, List, ap, sym, subst}
use Rattle.crossbeam_queue.specs.Passes.{view, ruled_capacity}
use Rattle.nc_alert.specs.declared.packet.Packet.{Packet}
use Rattle.nc_ring.specs.Ends.{TxAt}
use Rattle.nc_ring.specs.Packets.{Goes, IsAfter}
use Rattle.nc_ring.specs.declared.view.Route.{Route}
use Rattle.nc_ring.proofs.Steps.{pushes, few}
use Rattle.nc_ring.proofs.tx.RingTx.push.Goals as goal

pub push_as-requires-clause-rule : goal.push_as-requires-clause-rule
push_as-requires-clause-rule g c =
    let pass = c.self.inside.pass in
    let way = c.self.invariant.way ∙ ap (λ (tx : TxAt g.row.H.Denot). tx.route) c.self.view_is in
    let sent = ap (λ (tx : TxAt g.row.H.Denot). tx.sent) c.self.view_is in
    let goes = subst (λ (r : Route). Goes r c.args.packet) (sym way) c.requires.goes in
    let rises = subst (λ (l : List (Packet g.row.H.Denot)). IsAfter l c.args.packet) (sym sent) c.requires.rises in
    (pushes (ruled_capacity c.deref.result.now) pass.id (view pass) c.args.packet c.self.invariant.pushes goes rises, few pass.id (view pass) c.self.invariant.pushes)
