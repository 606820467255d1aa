use Rattle.std.proofs.Common.{◌≡◌, ◌⊎◌, inl, inr, ℕ, ◌+◌, ◌<◌, Bool, true, false, None, refl, sym, ap, ◌∙◌, subst, arith}
use Rattle.nc_settle.specs.Turns.{below, turn_told, turn_leaves}
use Rattle.nc_settle.specs.declared.machine.Turn.{Turn}
use Rattle.nc_settle.specs.declared.machine.Turn.TheVariants.{Nothing, Moved, Worn}
use Rattle.nc_settle.proofs.FromTurn.{from_turn, from_first, from_last, all_below}
use Rattle.nc_settle.proofs.GoesOn.{Ends, begins, goes_with, skip_on, move_on, ends_made, ends_idle, ends_stopped, ends_worn, lands}
use Rattle.nc_settle.proofs.rounds.settle.Goals as goal
use Rattle.nc_settle.proofs.rounds.settle.Goals.{then-made-n-via-then-made-n, then-made-n-via-else-made-n+then-is_idle, in-Nothing, in-Moved}

-- what a turn told says of it
record Told (can worn c w : Bool) : Type 0 where
  pub can_is : can ≡ c
  pub worn_is : can ≡ true → worn ≡ w

nothing_can : (can worn : Bool) (t : Turn) → t ≡ turn_told can worn → t ≡ Nothing → can ≡ false
nothing_can true true t e n = cc
nothing_can true false t e n = cc
nothing_can false worn t e n = refl

moved_can : (can worn : Bool) (t : Turn) → t ≡ turn_told can worn → t ≡ Moved → Told can worn true false
moved_can true true t e n = cc
moved_can true false t e n = record { can_is = refl; worn_is = λ _. refl }
moved_can false worn t e n = cc

worn_can : (can worn : Bool) (t : Turn) → t ≡ turn_told can worn → t ≡ Worn → Told can worn true true
worn_can true true t e n = record { can_is = refl; worn_is = λ _. refl }
worn_can true false t e n = cc
worn_can false worn t e n = cc

up_to : (P : ℕ → Type 0) (t : ℕ) → ((j : ℕ) → j < t → P j) → P t → (j : ℕ) → j < t + 1 → P j
up_to P t f p j lt = by (near j t lt)
  where
    near : (a b : ℕ) → a < b + 1 → (a < b) ⊎ (a ≡ b)
    near a b lt = grind arith

    by : (j < t) ⊎ (j ≡ t) → P j
    by (inl l) = f j l
    by (inr e) = subst P (sym e) p

pub loop-init : goal.loop-init
loop-init g c = record {
  sound = c.requires;
  goes_on = begins g.M.Machine.can g.M.Machine.worn g.M.Machine.moved g.M.Machine.idle (below c.args.turns) (g.M.Machine.seen c.args.machine.now);
  few = omega arith;
  each = omega arith;
}

pub loop-turn-init : goal.loop-turn-init
loop-turn-init g c = record {
  sound = c.loop.invariant.sound;
  goes_on = goes_with g.M.Machine.can g.M.Machine.worn g.M.Machine.moved g.M.Machine.idle (below c.args.turns) (g.M.Machine.seen c.args.machine.now) c.loop.made (g.M.Machine.seen c.loop.machine) (below c.args.turns) (from_turn 0 c.args.turns) (sym (from_first c.args.turns)) c.loop.invariant.goes_on;
  few = c.loop.invariant.few;
  more = omega arith;
  none = λ e j lt. absurd (omega (arith, lt));
}

pub returns-then-made-n : goal.returns-then-made-n
returns-then-made-n g c = elim c.then-made-n.branch [
  | then-made-n-via-then-made-n w ↦
      let e : Ends g.M.Machine.can g.M.Machine.worn g.M.Machine.moved g.M.Machine.idle (below c.args.turns) (g.M.Machine.seen c.args.machine.now) c.args.n c.args.n (g.M.Machine.seen c.loop-turn.machine) None = subst (λ (k : ℕ). Ends g.M.Machine.can g.M.Machine.worn g.M.Machine.moved g.M.Machine.idle (below c.args.turns) (g.M.Machine.seen c.args.machine.now) k k (g.M.Machine.seen c.loop-turn.machine) None) w.if-made-n.true
      (ends_made g.M.Machine.can g.M.Machine.worn g.M.Machine.moved g.M.Machine.idle (below c.args.turns) (g.M.Machine.seen c.args.machine.now) c.loop-turn.made (g.M.Machine.seen c.loop-turn.machine) (from_turn c.loop-turn.turn c.args.turns) c.loop-turn.invariant.goes_on) in
      record { sound = c.loop-turn.invariant.sound; worn = sym e.meets; leaves = sym e.leaves }
  | then-made-n-via-else-made-n+then-is_idle w ↦
      let e = ends_idle g.M.Machine.can g.M.Machine.worn g.M.Machine.moved g.M.Machine.idle (below c.args.turns) (g.M.Machine.seen c.args.machine.now) c.loop-turn.made (g.M.Machine.seen c.loop-turn.machine) c.args.n (from_turn c.loop-turn.turn c.args.turns) c.loop-turn.invariant.few (sym w.is_idle.ensures ∙ w.if-is_idle.true) c.loop-turn.invariant.goes_on in
      record { sound = c.loop-turn.invariant.sound; worn = sym e.meets; leaves = sym e.leaves }
]

pub returns-in-Worn : goal.returns-in-Worn
returns-in-Worn g c =
    let told = worn_can (g.M.Machine.can (g.M.Machine.seen c.loop-turn.machine) c.loop-turn.turn) (g.M.Machine.worn (g.M.Machine.seen c.loop-turn.machine) c.loop-turn.turn) c.in_ok-try_turn.field-0 c.in_ok-try_turn.ensures.told c.in-Worn.is in
    let e = ends_worn g.M.Machine.can g.M.Machine.worn g.M.Machine.moved g.M.Machine.idle (below c.args.turns) (g.M.Machine.seen c.args.machine.now) c.loop-turn.made (g.M.Machine.seen c.loop-turn.machine) c.args.n c.loop-turn.turn c.args.turns c.loop-turn.invariant.few c.if-made-n.false c.loop-turn-test.true (sym c.is_idle.ensures ∙ c.if-is_idle.false) told.can_is (told.worn_is told.can_is) c.loop-turn.invariant.goes_on in
    record {
      sound = c.in_ok-try_turn.ensures.sound;
      worn = sym e.meets;
      leaves = c.in_ok-try_turn.ensures.leaves ∙ ap (λ t. turn_leaves t (g.M.Machine.moved c.loop-turn.turn (g.M.Machine.seen c.loop-turn.machine)) (g.M.Machine.seen c.loop-turn.machine)) c.in-Worn.is ∙ sym e.leaves;
    }

pub loop-turn-preserved : goal.loop-turn-preserved
loop-turn-preserved g c = elim c.match-branch-2.branch [
  | in-Nothing w ↦
      let can = nothing_can (g.M.Machine.can (g.M.Machine.seen c.loop-turn.machine) c.loop-turn.turn) (g.M.Machine.worn (g.M.Machine.seen c.loop-turn.machine) c.loop-turn.turn) c.in_ok-try_turn.field-0 c.in_ok-try_turn.ensures.told w.in-Nothing.is in
      let next : g.M.Machine.seen c.try_turn.new.self ≡ g.M.Machine.seen c.loop-turn.machine = c.in_ok-try_turn.ensures.leaves ∙ ap (λ t. turn_leaves t (g.M.Machine.moved c.loop-turn.turn (g.M.Machine.seen c.loop-turn.machine)) (g.M.Machine.seen c.loop-turn.machine)) w.in-Nothing.is in
      record {
        sound = c.in_ok-try_turn.ensures.sound;
        goes_on = lands g.M.Machine.can g.M.Machine.worn g.M.Machine.moved g.M.Machine.idle (below c.args.turns) (g.M.Machine.seen c.args.machine.now) c.loop-turn.made c.match-branch-2.made (sym w.made-is) (g.M.Machine.seen c.loop-turn.machine) (g.M.Machine.seen c.try_turn.new.self) (sym next) (from_turn (c.loop-turn.turn + 1) c.args.turns)
            (skip_on g.M.Machine.can g.M.Machine.worn g.M.Machine.moved g.M.Machine.idle (below c.args.turns) (g.M.Machine.seen c.args.machine.now) c.loop-turn.made (g.M.Machine.seen c.loop-turn.machine) c.loop-turn.turn c.args.turns c.loop-turn-test.true can c.loop-turn.invariant.goes_on);
        few = omega (arith, c.loop-turn.invariant.few, w.made-is);
        more = omega (arith, c.loop-turn.invariant.more, w.made-is);
        none = λ e j lt. subst (λ (x : g.M.Machine.World). g.M.Machine.can x j ≡ false) (sym next) (up_to (λ k. g.M.Machine.can (g.M.Machine.seen c.loop-turn.machine) k ≡ false) c.loop-turn.turn (c.loop-turn.invariant.none (sym w.made-is ∙ e)) can j lt);
      }
  | in-Moved w ↦
      let told = moved_can (g.M.Machine.can (g.M.Machine.seen c.loop-turn.machine) c.loop-turn.turn) (g.M.Machine.worn (g.M.Machine.seen c.loop-turn.machine) c.loop-turn.turn) c.in_ok-try_turn.field-0 c.in_ok-try_turn.ensures.told w.in-Moved.is in
      let next : g.M.Machine.seen c.try_turn.new.self ≡ g.M.Machine.moved c.loop-turn.turn (g.M.Machine.seen c.loop-turn.machine) = c.in_ok-try_turn.ensures.leaves ∙ ap (λ t. turn_leaves t (g.M.Machine.moved c.loop-turn.turn (g.M.Machine.seen c.loop-turn.machine)) (g.M.Machine.seen c.loop-turn.machine)) w.in-Moved.is in
      record {
        sound = c.in_ok-try_turn.ensures.sound;
        goes_on = lands g.M.Machine.can g.M.Machine.worn g.M.Machine.moved g.M.Machine.idle (below c.args.turns) (g.M.Machine.seen c.args.machine.now) (c.loop-turn.made + 1) c.match-branch-2.made (sym w.made-is) (g.M.Machine.moved c.loop-turn.turn (g.M.Machine.seen c.loop-turn.machine)) (g.M.Machine.seen c.try_turn.new.self) (sym next) (from_turn (c.loop-turn.turn + 1) c.args.turns)
            (move_on g.M.Machine.can g.M.Machine.worn g.M.Machine.moved g.M.Machine.idle (below c.args.turns) (g.M.Machine.seen c.args.machine.now) c.loop-turn.made (g.M.Machine.seen c.loop-turn.machine) c.loop-turn.turn c.args.turns c.loop-turn-test.true (sym c.is_idle.ensures ∙ c.if-is_idle.false) told.can_is (told.worn_is told.can_is) c.loop-turn.invariant.goes_on);
        few = omega (arith, c.loop-turn.invariant.few, w.made-is, c.if-made-n.false);
        more = omega (arith, c.loop-turn.invariant.more, w.made-is);
        none = λ e j lt. absurd (omega (arith, c.loop-turn.invariant.more, w.made-is, e));
      }
]

pub returns-then-made-before : goal.returns-then-made-before
returns-then-made-before g c =
    let same : c.loop-turn.turn ≡ c.args.turns = omega (arith, c.loop-turn-test.false, c.loop-turn.auto.turn-end) in
    let e = ends_stopped g.M.Machine.can g.M.Machine.worn g.M.Machine.moved g.M.Machine.idle (below c.args.turns) (g.M.Machine.seen c.args.machine.now) c.loop-turn.made (g.M.Machine.seen c.loop-turn.machine) c.args.n (below c.args.turns) c.loop-turn.invariant.few
    (all_below (λ t. g.M.Machine.can (g.M.Machine.seen c.loop-turn.machine) t ≡ false) c.args.turns (λ j lt. c.loop-turn.invariant.none c.if-made-before.true j (omega (arith, lt, same))))
    (goes_with g.M.Machine.can g.M.Machine.worn g.M.Machine.moved g.M.Machine.idle (below c.args.turns) (g.M.Machine.seen c.args.machine.now) c.loop-turn.made (g.M.Machine.seen c.loop-turn.machine) (from_turn c.loop-turn.turn c.args.turns) (below c.args.turns) (ap (λ k. from_turn k c.args.turns) same ∙ from_last c.args.turns) c.loop-turn.invariant.goes_on) in
    record { sound = c.loop-turn.invariant.sound; worn = sym e.meets; leaves = sym e.leaves }

pub loop-preserved : goal.loop-preserved
loop-preserved g c =
    let same : c.loop-turn.turn ≡ c.args.turns = omega (arith, c.loop-turn-test.false, c.loop-turn.auto.turn-end) in
    record {
      sound = c.loop-turn.invariant.sound;
      goes_on = goes_with g.M.Machine.can g.M.Machine.worn g.M.Machine.moved g.M.Machine.idle (below c.args.turns) (g.M.Machine.seen c.args.machine.now) c.loop-turn.made (g.M.Machine.seen c.loop-turn.machine) (from_turn c.loop-turn.turn c.args.turns) (below c.args.turns) (ap (λ k. from_turn k c.args.turns) same ∙ from_last c.args.turns) c.loop-turn.invariant.goes_on;
      few = c.loop-turn.invariant.few;
      each = omega (arith, c.loop.invariant.each, c.loop-turn.invariant.more, c.if-made-before.false);
    }

pub returns : goal.returns
returns g c =
    let all : c.loop.made ≡ c.args.n = omega (arith, c.loop.invariant.few, c.loop.invariant.each, c.loop-test.false) in
    let e : Ends g.M.Machine.can g.M.Machine.worn g.M.Machine.moved g.M.Machine.idle (below c.args.turns) (g.M.Machine.seen c.args.machine.now) c.args.n c.args.n (g.M.Machine.seen c.loop.machine) None = subst (λ (k : ℕ). Ends g.M.Machine.can g.M.Machine.worn g.M.Machine.moved g.M.Machine.idle (below c.args.turns) (g.M.Machine.seen c.args.machine.now) k k (g.M.Machine.seen c.loop.machine) None) all
    (ends_made g.M.Machine.can g.M.Machine.worn g.M.Machine.moved g.M.Machine.idle (below c.args.turns) (g.M.Machine.seen c.args.machine.now) c.loop.made (g.M.Machine.seen c.loop.machine) (below c.args.turns) c.loop.invariant.goes_on) in
    record { sound = c.loop.invariant.sound; worn = sym e.meets; leaves = sym e.leaves }
