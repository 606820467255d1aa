use Rattle.std.proofs.Common.{◌*◌, ◌-◌, ◌<◌, ◌/◌, ◌%◌, subst, sym, ap, ◌∙◌}
use Rattle.nc_turns.specs.Turns.{turn_move}
use Rattle.nc_turns.proofs.Numbers.{among, carry_turn, take_turn, no_turn}
use Rattle.nc_turns.proofs.transfer.transfer_at.Goals as goal

pub returns-then-turn-pairs-clause-moves : goal.returns-then-turn-pairs-clause-moves
returns-then-turn-pairs-clause-moves c = sym (carry_turn c.from-workers.result c.args.turn c.if-turn-pairs.true) ∙ ap (λ n. turn_move n c.args.turn) c.from-workers.ensures

pub returns-then-turn-pairs-2-clause-moves : goal.returns-then-turn-pairs-2-clause-moves
returns-then-turn-pairs-2-clause-moves c = sym (take_turn c.from-workers.result c.args.turn c.if-turn-pairs.false c.if-turn-pairs-2.true) ∙ ap (λ n. turn_move n c.args.turn) c.from-workers.ensures

pub returns-else-turn-pairs-2-clause-moves : goal.returns-else-turn-pairs-2-clause-moves
returns-else-turn-pairs-2-clause-moves c = sym (no_turn c.from-workers.result c.args.turn c.if-turn-pairs.false c.if-turn-pairs-2.false) ∙ ap (λ n. turn_move n c.args.turn) c.from-workers.ensures

pub returns-then-turn-pairs-clause-among : goal.returns-then-turn-pairs-clause-among
returns-then-turn-pairs-clause-among c = subst (λ n. (c.args.turn / c.from-workers.result < n) × (c.args.turn % c.from-workers.result < n)) c.from-workers.ensures (among c.from-workers.result c.args.turn c.if-turn-pairs.true)

pub returns-then-turn-pairs-2-clause-among : goal.returns-then-turn-pairs-2-clause-among
returns-then-turn-pairs-2-clause-among c = subst (λ n. ((c.args.turn - c.from-workers.result * c.from-workers.result) / c.from-workers.result < n) × ((c.args.turn - c.from-workers.result * c.from-workers.result) % c.from-workers.result < n)) c.from-workers.ensures
    (among c.from-workers.result (c.args.turn - c.from-workers.result * c.from-workers.result) c.if-turn-pairs-2.true)
