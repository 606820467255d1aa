-- No look is answered that wasn't asked for: each move keeps it.
use Rattle.std.proofs.Common.{◌≡◌, ℕ, ◌+◌, ◌≤◌, Bool, true, false, cond, List, [], ◌∷◌, refl, sym, ap, subst, arith, drop}
use Rattle.std.specs.Prelude.{◌==◌, ◌&&◌}
use Rattle.nc_journal.specs.History.{onto}
use Rattle.nc_journal.specs.declared.event.Event.{Event}
use Rattle.nc_journal.specs.declared.event.Event.TheVariants.{Took}
use Rattle.nc_history.specs.Packets.{Packet, kind_of, pending, sent_lines, lines_of}
use Rattle.nc_worker_state.specs.Setup.{Setup}
use Rattle.nc_worker_state.specs.Incoming.{Incoming, TakesPacket, ClockReads, Reaps, Posts, Subscribes, Removes, Informs}
use Rattle.nc_worker_state.specs.Worker.{sent_to}
use Rattle.nc_world.specs.World.{World, handled_events}
use Rattle.nc_world.specs.Moves.{with_ring}
use Rattle.nc_world.specs.Reached.{IsSetup, IsInput}
use Rattle.nc_world_laws.specs.Good.{Good}
use Rattle.nc_world_laws.proofs.WorldTheme.{IsWorldTheme}
use Rattle.nc_world_laws.proofs.Local.{eqb_self, eq_of}
use Rattle.nc_world_laws.proofs.Parts.{step_by, rest, rest_by, rest_untaken}
use Rattle.nc_world_laws.proofs.Queues.{pending_after}
use Rattle.nc_world_laws.proofs.Frames.{input_pending}
use Rattle.nc_world_laws.proofs.Taking.{first_pending, took_good}
use Rattle.nc_world_laws.proofs.WorldThemes.{world_theme_holds}
use Rattle.nc_world_requests.proofs.Weighing.{made_for}
use Rattle.nc_world_looks.specs.Looks.{looking, looked, weigh, AnswersAreAsked}
use Rattle.nc_world_looks.proofs.Making.{weigh_lines, weigh_cond, sent_weigh, sent_after}
use Rattle.nc_world_looks.proofs.Owning.{came, step_looks}

abbrev Bounded : List Event → World → Type 0
Bounded h world = (w o n : ℕ) → weigh (looked n) (sent_lines o w h) + weigh (looking n) (lines_of (pending w o h)) ≤ weigh (looking n) (sent_lines w o h)

-- nothing comes to be answered from outside
none_came : (n w x : ℕ) (incoming : Incoming) (h : List Event) → IsInput x h incoming → came n w incoming ≡ 0
none_came n w x (TakesPacket from p) h i = absurd i
none_came n w x (ClockReads t) h i = refl
none_came n w x Reaps h i = refl
none_came n w x (Posts c body) h i = refl
none_came n w x (Subscribes k list start) h i = refl
none_came n w x (Removes c) h i = refl
none_came n w x (Informs c) h i = refl

at_most : (b : Bool) (k m : ℕ) → k ≤ m → cond b k 0 ≤ m
at_most true k m l = l
at_most false k m l = omega arith

module _ (setup : Setup) (is : IsSetup setup) where
  handled_bounded : (x : ℕ) (incoming : Incoming) (h : List Event) (world : World) → Good setup h world → IsInput x h incoming → Bounded h world → Bounded (onto (handled_events setup x incoming world) h) world
  handled_bounded x incoming h world g i a w o n =
      let es = handled_events setup x incoming world in
      let old = a w o n in
      let made = step_looks n w setup is x h world g incoming in
      let none = none_came n w x incoming h i in
      let few = at_most (o == x) (made_for (looked n) w es) (came n w incoming) made in
      omega (
        arith,
        old,
        few,
        none,
        sent_after (looking n) w x o es h (step_by setup is x incoming h world g),
        sent_after (looked n) o x w es h (step_by setup is x incoming h world g),
        ap (λ (ps : List Packet). weigh (looking n) (lines_of ps)) (input_pending setup is x incoming h world g i w o),
        weigh_lines (looking n) (pending w o h) (cond (w == x) (sent_to o es) []),
        weigh_cond (looking n) (w == x) (sent_to o es),
        ap (λ (k : ℕ). cond (w == x) k 0) (sent_weigh (looking n) o es),
      )

  -- the packet that is taken: where it asks for a look, it isn't pending any more
  module _ (x v : ℕ) (p : Packet) (ps : List Packet) (h : List Event) (world : World) (g : Good setup h world) (at : world.rings v x ≡ p ∷ ps) (n : ℕ) where
    abbrev es : List Event
    es = handled_events setup x (TakesPacket v p) world

    dropped : (w o : ℕ) (b c : Bool) → (w == v) ≡ b → (o == x) ≡ c
        → weigh (looking n) (lines_of (cond (b && c) (drop 1 (pending w o h)) (pending w o h))) + cond c (made_for (looked n) w es) 0 ≤ weigh (looking n) (lines_of (pending w o h))
    dropped w o true true e f = here w o (eq_of w v e) (eq_of o x f)
      where
        first : weigh (looking n) (lines_of (drop 1 (pending v x h))) + made_for (looked n) v es ≤ weigh (looking n) (lines_of (pending v x h))
        first =
            let split = ap (λ (qs : List Packet). weigh (looking n) (lines_of qs)) (first_pending setup x v p ps h world g at) in
            let rest_of = ap (λ (qs : List Packet). weigh (looking n) (lines_of (drop 1 qs))) (first_pending setup x v p ps h world g at) in
            let made = step_looks n v setup is x h world g (TakesPacket v p) in
            let self = ap (λ (b : Bool). cond b (looking n p.line) 0) (eqb_self v) in
            omega (arith, split, rest_of, made, self)

        here : (w o : ℕ) → w ≡ v → o ≡ x → weigh (looking n) (lines_of (drop 1 (pending w o h))) + made_for (looked n) w es ≤ weigh (looking n) (lines_of (pending w o h))
        here w o e f = subst (λ (z : ℕ × ℕ). weigh (looking n) (lines_of (drop 1 (pending z.0 z.1 h))) + made_for (looked n) z.0 es ≤ weigh (looking n) (lines_of (pending z.0 z.1 h))) (λ i. (sym e i, sym f i)) first
    dropped w o b false e f = none b
      where
        none : (b : Bool) → weigh (looking n) (lines_of (cond (b && false) (drop 1 (pending w o h)) (pending w o h))) + 0 ≤ weigh (looking n) (lines_of (pending w o h))
        none true = omega arith
        none false = omega arith
    dropped w o false true e f =
        let made = step_looks n w setup is x h world g (TakesPacket v p) in
        let other = ap (λ (b : Bool). cond b (looking n p.line) 0) e in
        omega (arith, made, other)

  taken_bounded : (x v : ℕ) (p : Packet) (ps : List Packet) (h : List Event) (world : World) → Good setup h world → world.rings v x ≡ p ∷ ps → Bounded h world → Bounded (onto (handled_events setup x (TakesPacket v p) world) h) (with_ring v x ps world)
  taken_bounded x v p ps h world g at a w o n =
      let es = handled_events setup x (TakesPacket v p) world in
      let took = Took x v p.number (kind_of p.line) in
      let new = took_good setup x v p ps h world g at in
      let old = a w o n in
      omega (
        arith,
        old,
        dropped x v p ps h world g at n w o (w == v) (o == x) refl refl,
        sent_after (looking n) w x o es h (step_by setup is x (TakesPacket v p) h world g),
        sent_after (looked n) o x w es h (step_by setup is x (TakesPacket v p) h world g),
        ap (λ (qs : List Packet). weigh (looking n) (lines_of qs)) (pending_after x w o (rest setup x (TakesPacket v p) world) (took ∷ h) (rest_by setup is x (TakesPacket v p) h world g) (rest_untaken setup is x (TakesPacket v p) h world g)),
        weigh_lines (looking n) (cond ((w == v) && (o == x)) (drop 1 (pending w o h)) (pending w o h)) (cond (w == x) (sent_to o es) []),
        weigh_cond (looking n) (w == x) (sent_to o es),
        ap (λ (k : ℕ). cond (w == x) k 0) (sent_weigh (looking n) o es),
      )

  bounds_theme : IsWorldTheme setup Bounded
  bounds_theme = record {
    new = λ w o n. omega arith;
    handles = λ w incoming h world reached g here i a. handled_bounded w incoming h world g i a;
    takes = λ w v p ps h world reached g here there at a. taken_bounded w v p ps h world g at a;
    carries = λ w v p ps h world reached g here there at a. a;
    pending = λ n h world reached g same a. a;
    quiet = λ h world reached g same a. a;
  }

pub answers_are_asked : AnswersAreAsked
answers_are_asked setup h world is reached = world_theme_holds setup Bounded is (bounds_theme setup is) h world reached
