-- Each look is pending or answered: each move keeps it.
use Rattle.std.proofs.Common.{◌≡◌, ℕ, ◌+◌, ◌≤◌, Bool, true, false, cond, List, [], ◌∷◌, refl, sym, ap, subst, arith, drop}
use Rattle.std.specs.Prelude.{◌==◌, ◌&&◌}
use Rattle.nc_journal.specs.History.{onto}
use Rattle.nc_journal.specs.declared.event.Event.{Event}
use Rattle.nc_journal.specs.declared.event.Event.TheVariants.{Took}
use Rattle.nc_history.specs.Packets.{Packet, kind_of, pending, sent_lines, received, lines_of}
use Rattle.nc_history.proofs.Prefixes.{taken_is_prefix}
use Rattle.nc_worker_state.specs.Setup.{Setup}
use Rattle.nc_worker_state.specs.Incoming.{Incoming, TakesPacket}
use Rattle.nc_worker_state.specs.Worker.{sent_to}
use Rattle.nc_world.specs.World.{World, handled_events}
use Rattle.nc_world.specs.Moves.{with_ring}
use Rattle.nc_world.specs.Reached.{IsSetup, IsInput}
use Rattle.nc_world_laws.specs.Good.{Good}
use Rattle.nc_world_laws.proofs.WorldTheme.{IsWorldTheme}
use Rattle.nc_world_laws.proofs.Local.{eq_of}
use Rattle.nc_world_laws.proofs.Parts.{step_by, rest, rest_by, rest_untaken}
use Rattle.nc_world_laws.proofs.Queues.{pending_after}
use Rattle.nc_world_laws.proofs.Frames.{input_pending}
use Rattle.nc_world_laws.proofs.Taking.{first_pending, took_good}
use Rattle.nc_world_laws.proofs.WorldThemes.{world_theme_holds}
use Rattle.nc_world_requests.proofs.Weighing.{made_for}
use Rattle.nc_world_looks.specs.Looks.{looking, looked, weigh, LooksAreAnswered, RestedLooks}
use Rattle.nc_world_looks.proofs.Making.{weigh_append, weigh_lines, weigh_cond, sent_weigh, sent_after, step_looked}

abbrev Answered : List Event → World → Type 0
Answered h world = (w o n : ℕ) → weigh (looking n) (sent_lines w o h) ≤ weigh (looking n) (lines_of (pending w o h)) + weigh (looked n) (sent_lines o w h)

module _ (setup : Setup) (is : IsSetup setup) where
  handled_answered : (x : ℕ) (incoming : Incoming) (h : List Event) (world : World) → Good setup h world → IsInput x h incoming → Answered h world → Answered (onto (handled_events setup x incoming world) h) world
  handled_answered x incoming h world g i a w o n =
      let es = handled_events setup x incoming world in
      let old = a w o n in
      omega (
        arith,
        old,
        sent_after (looking n) w x o es h (step_by setup is x incoming h world g),
        sent_after (looked n) o x w es h (step_by setup is x incoming h world g),
        ap (λ (ps : List Packet). weigh (looking n) (lines_of ps)) (input_pending setup is x incoming h world g i w o),
        weigh_lines (looking n) (pending w o h) (cond (w == x) (sent_to o es) []),
        weigh_cond (looking n) (w == x) (sent_to o es),
        ap (λ (k : ℕ). cond (w == x) k 0) (sent_weigh (looking n) o es),
      )

  -- the packet that is taken: where it asks for a look, the look is answered
  module _ (x v : ℕ) (p : Packet) (ps : List Packet) (h : List Event) (world : World) (g : Good setup h world) (at : world.rings v x ≡ p ∷ ps) (n : ℕ) where
    abbrev es : List Event
    es = handled_events setup x (TakesPacket v p) world

    dropped : (w o : ℕ) (b c : Bool) → (w == v) ≡ b → (o == x) ≡ c
        → weigh (looking n) (lines_of (pending w o h)) ≤ weigh (looking n) (lines_of (cond (b && c) (drop 1 (pending w o h)) (pending w o h))) + cond c (made_for (looked n) w es) 0
    dropped w o true true e f = here w o (eq_of w v e) (eq_of o x f)
      where
        first : weigh (looking n) (lines_of (pending v x h)) ≤ weigh (looking n) (lines_of (drop 1 (pending v x h))) + made_for (looked n) v es
        first =
            let split = ap (λ (qs : List Packet). weigh (looking n) (lines_of qs)) (first_pending setup x v p ps h world g at) in
            let rest_of = ap (λ (qs : List Packet). weigh (looking n) (lines_of (drop 1 qs))) (first_pending setup x v p ps h world g at) in
            omega (arith, split, rest_of, step_looked setup is x v p h world g n)

        here : (w o : ℕ) → w ≡ v → o ≡ x → weigh (looking n) (lines_of (pending w o h)) ≤ weigh (looking n) (lines_of (drop 1 (pending w o h))) + made_for (looked n) w es
        here w o e f = subst (λ (z : ℕ × ℕ). weigh (looking n) (lines_of (pending z.0 z.1 h)) ≤ weigh (looking n) (lines_of (drop 1 (pending z.0 z.1 h))) + made_for (looked n) z.0 es) (λ i. (sym e i, sym f i)) first
    dropped w o true false e f = omega arith
    dropped w o false c e f = omega arith

  taken_answered : (x v : ℕ) (p : Packet) (ps : List Packet) (h : List Event) (world : World) → Good setup h world → world.rings v x ≡ p ∷ ps → Answered h world → Answered (onto (handled_events setup x (TakesPacket v p) world) h) (with_ring v x ps world)
  taken_answered x v p ps h world g at a w o n =
      let es = handled_events setup x (TakesPacket v p) world in
      let took = Took x v p.number (kind_of p.line) in
      let new = took_good setup x v p ps h world g at in
      let old = a w o n in
      omega (
        arith,
        old,
        dropped x v p ps h world g at n w o (w == v) (o == x) refl refl,
        sent_after (looking n) w x o es h (step_by setup is x (TakesPacket v p) h world g),
        sent_after (looked n) o x w es h (step_by setup is x (TakesPacket v p) h world g),
        ap (λ (qs : List Packet). weigh (looking n) (lines_of qs)) (pending_after x w o (rest setup x (TakesPacket v p) world) (took ∷ h) (rest_by setup is x (TakesPacket v p) h world g) (rest_untaken setup is x (TakesPacket v p) h world g)),
        weigh_lines (looking n) (cond ((w == v) && (o == x)) (drop 1 (pending w o h)) (pending w o h)) (cond (w == x) (sent_to o es) []),
        weigh_cond (looking n) (w == x) (sent_to o es),
        ap (λ (k : ℕ). cond (w == x) k 0) (sent_weigh (looking n) o es),
      )

  looks_theme : IsWorldTheme setup Answered
  looks_theme = record {
    new = λ w o n. omega arith;
    handles = λ w incoming h world reached g here i a. handled_answered w incoming h world g i a;
    takes = λ w v p ps h world reached g here there at a. taken_answered w v p ps h world g at a;
    carries = λ w v p ps h world reached g here there at a. a;
    pending = λ n h world reached g same a. a;
    quiet = λ h world reached g same a. a;
  }

pub looks_are_answered : LooksAreAnswered
looks_are_answered setup h world is reached = world_theme_holds setup Answered is (looks_theme setup is) h world reached

pub rested_looks : RestedLooks
rested_looks setup h world is reached w o n there back =
    let all = looks_are_answered setup h world is reached w o n in
    let none = ap (λ (ps : List Packet). weigh (looking n) (lines_of ps)) there in
    let taken = ap (weigh (looked n)) (taken_is_prefix o w h) in
    let parts = weigh_append (looked n) (received o w h) (lines_of (pending o w h)) in
    let rest = ap (λ (ps : List Packet). weigh (looked n) (lines_of ps)) back in
    omega (arith, all, none, taken, parts, rest)
