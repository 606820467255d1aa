-- Who was subscribed after some lines: those who came with them.
use Rattle.std.proofs.Common.{◌≡◌, ℕ, zero, suc, Bool, true, false, cond, List, [], ◌∷◌, ◌++◌, Option, Some, None, refl, sym, ap, ◌∙◌, subst, arith}
use Rattle.std.specs.Prelude.{◌==◌, ◌&&◌, ◌||◌}
use Rattle.std.specs.List.{AllByRecursion}
use Rattle.std.proofs.lemmas.Bool.Decides.{nat_tests}
use Rattle.nc_journal.specs.History.{own, onto}
use Rattle.nc_journal.specs.Standing.{is_subscribed}
use Rattle.nc_journal.specs.declared.event.Event.{Event}
use Rattle.nc_owner.specs.declared.member.Member.{Member}
use Rattle.nc_owner.specs.Members.{has_member}
use Rattle.nc_owner_laws.proofs.Sets.{any_inserted, member_total, member_is}
use Rattle.nc_history.specs.Packets.{Packet}
use Rattle.nc_worker_state.specs.Setup.{Setup}
use Rattle.nc_worker_state.specs.Incoming.{Incoming, TakesPacket}
use Rattle.nc_world.specs.World.{World, handled_events, pending_in}
use Rattle.nc_world.specs.Moves.{Move, Handles, Carries, Takes, Counts, Rests, move_events, moved, counted, rested, taken_events}
use Rattle.nc_world.specs.Lines.{Line, Blank, Clocks, Reap, Carry, Take, Settle, Post, Poll, Remove, Inform, round, does, first_turn, turn_with, settle_moves, moves_of, events_of, line_events}
use Rattle.nc_world.specs.Reached.{IsSetup, Reached, Moves}
use Rattle.nc_world.specs.Laws.{CanMove}
use Rattle.nc_world_laws.specs.Good.{Good}
use Rattle.nc_world_laws.proofs.Local.{eq_of}
use Rattle.nc_world_laws.proofs.Frames.{own_handled}
use Rattle.nc_world_laws.proofs.Moving.{reached_is_good}
use Rattle.nc_world_members.proofs.Desks.{comes}
use Rattle.nc_world_members.proofs.Stepping.{subscribed_here}
use Rattle.nc_world_follows.proofs.Fitting.{IsTurn, FirstCan, first_can, round_turns}
use Rattle.nc_cluster.specs.Comers.{with_line, noted, subscribed, rule_of}

none : (b : Bool) → (b && false) ≡ false
none true = refl
none false = refl

or_assoc : (a b c : Bool) → ((a || b) || c) ≡ (a || (b || c))
or_assoc true b c = refl
or_assoc false b c = refl

turned : (a b : ℕ) → (a == b) ≡ (b == a)
turned a b = grind (arith, nat_tests)

onto_append : (es fs h : List Event) → onto (es ++ fs) h ≡ onto fs (onto es h)
onto_append [] fs h = refl
onto_append (e ∷ es) fs h = onto_append es fs (e ∷ h)

-- the rule, where one comes
pub rule_broken : (ms : List Member) (o : Option Member) (m : Member) → o ≡ Some m → has_member m ms ≡ true → Some 10 ≡ rule_of (noted ms) o
rule_broken ms o m e has = sym (ap (rule_of (noted ms)) e ∙ ap (λ b. cond {A = Option ℕ} b (Some 10) None) has)

pub rule_kept : (ms : List Member) (o : Option Member) (m : Member) → o ≡ Some m → has_member m ms ≡ false → None ≡ rule_of (noted ms) o
rule_kept ms o m e has = sym (ap (rule_of (noted ms)) e ∙ ap (λ b. cond {A = Option ℕ} b (Some 10) None) has)

-- ---- moves

-- whether a subscriber comes to a worker with a move, and with one of some
abbrev brought : Move → ℕ → ℕ → Bool
brought (Handles x incoming) w k = (w == x) && comes incoming k
brought m w k = false

abbrev brought_by : List Move → ℕ → ℕ → Bool
brought_by [] w k = false
brought_by (m ∷ ms) w k = brought_by ms w k || brought m w k

counted_nobody : (n w k : ℕ) (h : List Event) → subscribed (onto (counted n) h) w k ≡ subscribed h w k
counted_nobody zero w k h = refl
counted_nobody (suc n) w k h = refl

rested_nobody : (n w k : ℕ) (h : List Event) → subscribed (onto (rested n) h) w k ≡ subscribed h w k
rested_nobody zero w k h = refl
rested_nobody (suc n) w k h = refl

module _ (setup : Setup) (is : IsSetup setup) where
  step_subscribed : (x : ℕ) (incoming : Incoming) (h : List Event) (world : World) → Good setup h world → (w k : ℕ) → subscribed (onto (handled_events setup x incoming world) h) w k ≡ (((w == x) && comes incoming k) || subscribed h w k)
  step_subscribed x incoming h world g w k = ap (is_subscribed k) (own_handled setup is x incoming h world g w) ∙ by (w == x) refl
    where
      here : (z : ℕ) → z ≡ x → is_subscribed k (onto (handled_events setup x incoming world) (own z h)) ≡ (comes incoming k || is_subscribed k (own z h))
      here z e = subst (λ (y : ℕ). is_subscribed k (onto (handled_events setup x incoming world) (own y h)) ≡ (comes incoming k || is_subscribed k (own y h))) (sym e) (subscribed_here setup is x incoming h world g k)

      by : (b : Bool) → (w == x) ≡ b → is_subscribed k (cond b (onto (handled_events setup x incoming world) (own w h)) (own w h)) ≡ ((b && comes incoming k) || is_subscribed k (own w h))
      by true e = here w (eq_of w x e)
      by false e = refl

  taken_nobody : (x v : ℕ) (ring : List Packet) (h : List Event) (world : World) → Good setup h world → (w k : ℕ) → subscribed (onto (taken_events setup x v ring world) h) w k ≡ subscribed h w k
  taken_nobody x v [] h world g w k = refl
  taken_nobody x v (p ∷ ps) h world g w k = step_subscribed x (TakesPacket v p) h world g w k ∙ ap (λ b. b || subscribed h w k) (none (w == x))

  move_subscribed : (m : Move) (h : List Event) (world : World) → Good setup h world → (w k : ℕ) → subscribed (onto (move_events setup m world) h) w k ≡ (brought m w k || subscribed h w k)
  move_subscribed (Handles x incoming) h world g w k = step_subscribed x incoming h world g w k
  move_subscribed (Carries x v) h world g w k = refl
  move_subscribed (Takes x v) h world g w k = taken_nobody x v (world.rings v x) h world g w k
  move_subscribed Counts h world g w k = counted_nobody (pending_in setup world) w k h
  move_subscribed Rests h world g w k = rested_nobody (pending_in setup world) w k h

  moves_subscribed : (ms : List Move) (h : List Event) (world : World) → Reached setup h world → CanMove setup ms h world → (w k : ℕ) → subscribed (onto (events_of setup ms world) h) w k ≡ (brought_by ms w k || subscribed h w k)
  moves_subscribed [] h world r can w k = refl
  moves_subscribed (m ∷ ms) h world r can w k =
      ap (λ (l : List Event). subscribed l w k) (onto_append (move_events setup m world) (events_of setup ms (moved setup m world)) h)
      ∙ moves_subscribed ms (onto (move_events setup m world) h) (moved setup m world) (Moves h world m r can.0) can.1 w k
      ∙ ap (λ b. brought_by ms w k || b) (move_subscribed m h world (reached_is_good setup h world is r) w k)
      ∙ sym (or_assoc (brought_by ms w k) (brought m w k) (subscribed h w k))

-- ---- lines

-- the moves of a settle are carries and takes
settle_turns : (setup : Setup) (n : ℕ) (turns : List Move) (world : World) → AllByRecursion (IsTurn setup) turns → AllByRecursion (IsTurn setup) (settle_moves setup n turns world)
settle_turns setup zero turns world a = tt
settle_turns setup (suc n) turns world a = by (pending_in setup world == 0) (first_turn (does world) [] turns) (first_can setup (does world) turns [] tt a) (λ rest m b. settle_turns setup n rest (moved setup m world) b)
  where
    by : (b : Bool) (o : Option (Move × List Move)) → FirstCan setup o → ((rest : List Move) (m : Move) → AllByRecursion (IsTurn setup) rest → AllByRecursion (IsTurn setup) (settle_moves setup n rest (moved setup m world)))
        → AllByRecursion (IsTurn setup) (cond b [] (turn_with o (λ m rest. settle_moves setup n rest (moved setup m world))))
    by true o f go = tt
    by false None f go = tt
    by false (Some turn) f go = (f.0, go turn.1 turn.0 f.1)

turn_brings : (setup : Setup) (m : Move) → IsTurn setup m → (w k : ℕ) → brought m w k ≡ false
turn_brings setup (Handles x incoming) i w k = absurd i
turn_brings setup (Carries x v) i w k = refl
turn_brings setup (Takes x v) i w k = refl
turn_brings setup Counts i w k = refl
turn_brings setup Rests i w k = refl

turns_bring : (setup : Setup) (ms : List Move) → AllByRecursion (IsTurn setup) ms → (w k : ℕ) → brought_by (ms ++ Counts ∷ []) w k ≡ false
turns_bring setup [] a w k = refl
turns_bring setup (m ∷ ms) a w k = λ i. turns_bring setup ms a.1 w k i || turn_brings setup m a.0 w k i

-- whether a subscriber comes to a worker with a line
abbrev pub brings : Line → ℕ → ℕ → Bool
brings (Poll x n list start) w k = (w == x) && (n == k)
brings line w k = false

line_brings : (setup : Setup) (line : Line) (world : World) (w k : ℕ) → brought_by (moves_of setup line world) w k ≡ brings line w k
line_brings setup Blank world w k = refl
line_brings setup (Clocks x t) world w k = none (w == x)
line_brings setup (Reap x) world w k = none (w == x)
line_brings setup (Carry x v) world w k = refl
line_brings setup (Take x v) world w k = refl
line_brings setup (Settle n) world w k = turns_bring setup (settle_moves setup n (round setup.workers) world) (settle_turns setup n (round setup.workers) world (round_turns setup)) w k
line_brings setup (Post x c body) world w k = none (w == x)
line_brings setup (Poll x n list start) world w k = refl
line_brings setup (Remove x c) world w k = none (w == x)
line_brings setup (Inform x c) world w k = none (w == x)

-- by the journal
pub line_subscribed : (setup : Setup) → IsSetup setup → (line : Line) (h : List Event) (world : World) → Reached setup h world → CanMove setup (moves_of setup line world) h world → (w k : ℕ) → subscribed (onto (line_events setup line world) h) w k ≡ (brings line w k || subscribed h w k)
line_subscribed setup is line h world r can w k = moves_subscribed setup is (moves_of setup line world) h world r can w k ∙ ap (λ b. b || subscribed h w k) (line_brings setup line world w k)

-- by the subscribers so far
pub line_noted : (line : Line) (ms : List Member) (w k : ℕ) → noted (with_line line ms) w k ≡ (brings line w k || noted ms w k)
line_noted Blank ms w k = refl
line_noted (Clocks x t) ms w k = refl
line_noted (Reap x) ms w k = refl
line_noted (Carry x v) ms w k = refl
line_noted (Take x v) ms w k = refl
line_noted (Settle n) ms w k = refl
line_noted (Post x c body) ms w k = refl
line_noted (Poll x n list start) ms w k =
    any_inserted member_total (record { from = w; k = k }) (record { from = x; k = n }) ms
    ∙ ap (λ b. b || noted ms w k) (member_is (record { from = w; k = k }) x n ∙ ap (λ b. (w == x) && b) (turned k n))
line_noted (Remove x c) ms w k = refl
line_noted (Inform x c) ms w k = refl
