use Rattle.std.proofs.Common.{ℕ, ◌+◌, ◌*◌, sym, ap, ◌∙◌, subst}
use Rattle.nc_floor.specs.declared.floor.Floor.{Floor}
use Rattle.nc_settle.specs.Turns.{below}
use Rattle.nc_settle.specs.Settle.{settled, before_worn}
use Rattle.nc_settle.specs.Ends.{moves_made}
use Rattle.nc_turns.specs.Telling.{Telling, can_turn, worn_turn, turned, is_idle}
use Rattle.nc_turns.specs.Laws.{IsSettled}
use Rattle.nc_turns.proofs.Joining.{turns_settle, turns_meet_worn}
use Rattle.nc_floor.specs.Floor.{telling_of}
use Rattle.nc_floor.proofs.tries.settle.Goals as goal

pub returns-clause-worn : goal.returns-clause-worn
returns-clause-worn g c = c.in_ok-settled.ensures.worn
    ∙ ap (λ (k : ℕ). before_worn can_turn worn_turn turned is_idle c.args.n (below (k * k + k * k)) (telling_of g.W.Hand.worker c.args.floor.now)) (c.from-workers.ensures ∙ ap (λ (x : Floor g.row.W.Denot). x.conf.workers) c.floor.view_is)
    ∙ turns_meet_worn c.args.n (telling_of g.W.Hand.worker c.args.floor.now)

pub returns-clause-settled : goal.returns-clause-settled
returns-clause-settled g c =
    let m : ℕ = moves_made c.args.n c.in_ok-settled.settled in
    let t : Telling = telling_of g.W.Hand.worker c.args.floor.now in
    subst (λ (x : Telling). IsSettled m t x)
    (sym (c.in_ok-settled.ensures.leaves ∙ ap (λ (k : ℕ). settled can_turn turned is_idle m (below (k * k + k * k)) t) (c.from-workers.ensures ∙ ap (λ (x : Floor g.row.W.Denot). x.conf.workers) c.floor.view_is)))
    (turns_settle m t)
