-- The journal of a script follows its lines.
use Rattle.std.proofs.Common.{◌≡◌, ℕ, zero, suc, ◌+◌, ◌-◌, ◌<◌, Bool, true, false, cond, List, [], ◌∷◌, ◌++◌, Option, Some, None, refl, sym, ap, ◌∙◌, subst, arith, length}
use Rattle.std.specs.Prelude.{◌==◌, ◌&&◌, nat_lt}
use Rattle.std.proofs.lemmas.Bool.Decides.{nat_tests}
use Rattle.std.proofs.lemmas.List.{append-nil, append_assoc, length-append}
use Rattle.nc_journal.specs.History.{onto}
use Rattle.nc_journal.specs.declared.event.Event.{Event}
use Rattle.nc_journal.specs.declared.event.Event.TheVariants.{Clock, Took}
use Rattle.nc_history.specs.Packets.{Packet, kind_of, is_pair, pending, made_count, took_count}
use Rattle.nc_history.specs.Steps.{joined}
use Rattle.nc_worker_state.specs.Setup.{Setup}
use Rattle.nc_worker_state.specs.Incoming.{Incoming, TakesPacket, ClockReads, Reaps, Posts, Subscribes, Removes, Informs}
use Rattle.nc_worker_state.specs.Deed.{Deed, told}
use Rattle.nc_worker_state.specs.Spooled.{releases}
use Rattle.nc_worker_state.specs.Worker.{with_at}
use Rattle.nc_world.specs.World.{World, sum_pairs, pending_in, handled_events, handled}
use Rattle.nc_world.specs.Moves.{Move, Handles, Carries, Takes, Counts, Rests, ring_size, counted, rested, carried_one, carried, taken_events, taken, move_events, moved}
use Rattle.nc_world.specs.Lines.{Line, Blank, Clocks, Reap, Carry, Take, Settle, Post, Poll, Remove, Inform, is_some_packet, does, first_turn, turn_with, settle_moves, round, events_of, world_of, line_events, line_world, lines_world, journal_of}
use Rattle.nc_world.specs.Reached.{IsSetup, IsInput, IsMove, Reached, Moves}
use Rattle.nc_world.specs.Laws.{CanMove}
use Rattle.nc_world.specs.OwnersRule.{IsReapOf}
use Rattle.nc_world.specs.Follows.{pending_count, Carried, one_carried, can, IsStepFrom, TakesFirst, IsSame, Stops, IsMoveOf, Unless, MayMove, Turns, Settles, Ends, IsPost, IsRemove, IsInform, IsSegment, FollowsTo}
use Rattle.nc_world_laws.specs.Good.{Good}
use Rattle.nc_world_laws.proofs.Local.{eqb_self, eq_of}
use Rattle.nc_world_laws.proofs.Numbers.{posted_in_turn}
use Rattle.nc_world_laws.proofs.Queues.{took_same}
use Rattle.nc_world_laws.proofs.Moving.{reached_is_good}
use Rattle.nc_world_laws.proofs.Parts.{part, rest, rest_untaken}
use Rattle.nc_world_laws.proofs.Frames.{input_untaken}
use Rattle.nc_world_laws.proofs.Taking.{first_pending}
use Rattle.nc_world_follows.specs.Fitting.{IsLine, AreFit}
use Rattle.nc_world_follows.specs.Laws.{FitLinesReach, JournalFollows}
use Rattle.nc_world_follows.proofs.Busy.{reached_is_busy}
use Rattle.nc_world_follows.proofs.Fitting.{round_turns, settle_can}
use Rattle.nc_world_follows.proofs.Cutting.{rest_inner, told_inner, owners_step}

-- ---- what was carried, by a world and its history

abbrev pub carried_in : List Event → World → Carried
carried_in h world v w = took_count v w h + length (world.rings v w)

onto_append : (es fs h : List Event) → onto (es ++ fs) h ≡ onto fs (onto es h)
onto_append [] fs h = refl
onto_append (e ∷ es) fs h = onto_append es fs (e ∷ h)

some_length : (ps : List Packet) → is_some_packet ps ≡ nat_lt 0 (length ps)
some_length [] = grind (arith, nat_tests)
some_length (p ∷ ps) = grind (arith, nat_tests)

more_than : (a b c : ℕ) → c ≡ a + b → nat_lt a c ≡ nat_lt 0 b
more_than a b c e = grind (arith, nat_tests)

without_front : (a b c : ℕ) → c ≡ a + b → c - a ≡ b
without_front a b c e = omega (arith, e)

same_pending : (setup : Setup) (h : List Event) (world : World) → Good setup h world → pending_count setup.workers h ≡ pending_in setup world
same_pending setup h world g = ap (λ (f : ℕ → ℕ → ℕ). sum_pairs f setup.workers) (λ i v w. length (g.queues v w i))

module _ (setup : Setup) (h : List Event) (world : World) (g : Good setup h world) (c : Carried) (same : IsSame c (carried_in h world)) where
  made_sum : (v w : ℕ) → made_count v w h ≡ took_count v w h + length (world.rings v w) + length ((world.workers v).outbox w)
  made_sum v w =
      let n = (posted_in_turn setup.first h g.posted v w).count in
      omega (arith, n, ap length (g.queues v w), length-append (world.rings v w) ((world.workers v).outbox w))

  can_does : (m : Move) → can h c m ≡ does world m
  can_does (Carries w v) =
      let e = same w v in
      (λ i. more_than (c w v) (length ((world.workers w).outbox v)) (made_count w v h) (made_sum w v ∙ ap (λ n. n + length ((world.workers w).outbox v)) (sym e)) i && nat_lt (without_front (took_count w v h) (length (world.rings w v)) (c w v) e i) ring_size)
      ∙ ap (λ b. b && nat_lt (length (world.rings w v)) ring_size) (sym (some_length ((world.workers w).outbox v)))
  can_does (Takes w v) = more_than (took_count v w h) (length (world.rings v w)) (c v w) (same v w) ∙ sym (some_length (world.rings v w))
  can_does (Handles w incoming) = refl
  can_does Counts = refl
  can_does Rests = refl

-- ---- what a move does to it

module _ (setup : Setup) (is : IsSetup setup) (h : List Event) (world : World) (r : Reached setup h world) where
  good : Good setup h world
  good = reached_is_good setup h world is r

  input_same : (w : ℕ) (incoming : Incoming) → IsInput w h incoming → IsSame (carried_in (onto (handled_events setup w incoming world) h) (handled setup w incoming world)) (carried_in h world)
  input_same w incoming i x y = ap (λ n. n + length (world.rings x y)) (took_same x y (handled_events setup w incoming world) h (input_untaken setup is w incoming h world good i))

  taken_same : (w v : ℕ) (ring : List Packet) → world.rings v w ≡ ring → IsSame (carried_in (onto (taken_events setup w v ring world) h) (taken setup w v ring world)) (carried_in h world)
  taken_same w v [] at x y = refl
  taken_same w v (p ∷ ps) at x y =
      ap (λ n. n + length (with_at world.rings v (with_at (world.rings v) w ps) x y)) (took_same x y (rest setup w (TakesPacket v p) world) (Took w v p.number (kind_of p.line) ∷ h) (rest_untaken setup is w (TakesPacket v p) h world good))
      ∙ by (x == v) (y == w) refl refl
    where
      by : (b c : Bool) → (x == v) ≡ b → (y == w) ≡ c → cond (b && c) (took_count x y h + 1) (took_count x y h) + length (cond b (λ z. cond (z == w) ps (world.rings v z)) (world.rings x) y) ≡ took_count x y h + length (world.rings x y)
      by true true e f = subst (λ (z : ℕ × ℕ). took_count z.0 z.1 h + 1 + length (cond (z.1 == w) ps (world.rings v z.1)) ≡ took_count z.0 z.1 h + length (world.rings z.0 z.1)) (λ i. (sym (eq_of x v e) i, sym (eq_of y w f) i))
          (let l = ap length at in let n = ap (λ b. length (cond b ps (world.rings v w))) (eqb_self w) in omega (arith, l, n))
      by true false e f = subst (λ (z : ℕ). took_count z y h + length (cond (y == w) ps (world.rings v y)) ≡ took_count z y h + length (world.rings z y)) (sym (eq_of x v e)) (ap (λ b. took_count v y h + length (cond b ps (world.rings v y))) f)
      by false c e f = refl

  taken_first : (w v : ℕ) (ring : List Packet) → world.rings v w ≡ ring → is_some_packet ring ≡ true → TakesFirst w v (pending v w h) (taken_events setup w v ring world)
  taken_first w v [] at some = absurd cc
  taken_first w v (p ∷ ps) at some =
      subst (λ (q : List Packet). TakesFirst w v q (taken_events setup w v (p ∷ ps) world)) (sym (first_pending setup w v p ps h world good at)) (refl, rest_inner setup is h world r w (TakesPacket v p))

  one_more : (w v : ℕ) (p : Packet) (ps : List Packet) → IsSame (carried_in h (carried_one w v p ps world)) (one_carried w v (carried_in h world))
  one_more w v p ps x y = by (x == w) (y == v) (w == x) (v == y) refl refl (turned x w) (turned y v)
    where
      turned : (a b : ℕ) → (a == b) ≡ (b == a)
      turned a b = grind (arith, nat_tests)

      by : (b c d e : Bool) → (x == w) ≡ b → (y == v) ≡ c → (x == w) ≡ d → (y == v) ≡ e → took_count x y h + length (cond b (λ z. cond (z == v) (world.rings w v ++ p ∷ []) (world.rings w z)) (world.rings x) y) ≡ cond (d && e) (took_count x y h + length (world.rings x y) + 1) (took_count x y h + length (world.rings x y))
      by true true true true i j d e = subst (λ (z : ℕ × ℕ). took_count z.0 z.1 h + length (cond (z.1 == v) (world.rings w v ++ p ∷ []) (world.rings w z.1)) ≡ took_count z.0 z.1 h + length (world.rings z.0 z.1) + 1) (λ k. (sym (eq_of x w i) k, sym (eq_of y v j) k))
          (let l = length-append (world.rings w v) (p ∷ []) in let n = ap (λ b. length (cond b (world.rings w v ++ p ∷ []) (world.rings w v))) (eqb_self v) in omega (arith, l, n))
      by true false true false i j d e = subst (λ (z : ℕ). took_count z y h + length (cond (y == v) (world.rings w v ++ p ∷ []) (world.rings w y)) ≡ took_count z y h + length (world.rings z y)) (sym (eq_of x w i)) (ap (λ b. took_count w y h + length (cond b (world.rings w v ++ p ∷ []) (world.rings w y))) j)
      by false c false e' i j d e = refl
      by true c false e' i j d e = absurd cc
      by false c true e' i j d e = absurd cc
      by true true true false i j d e = absurd cc
      by true false true true i j d e = absurd cc

  carried_more : (w v : ℕ) (outbox : List Packet) → (is_some_packet outbox && nat_lt (length (world.rings w v)) ring_size) ≡ true → IsSame (carried_in h (carried w v outbox world)) (one_carried w v (carried_in h world))
  carried_more w v [] d = absurd cc
  carried_more w v (p ∷ ps) d = subst (λ (b : Bool). IsSame (carried_in h (cond b (carried_one w v p ps world) world)) (one_carried w v (carried_in h world))) (sym d) (one_more w v p ps)

  carried_none : (w v : ℕ) (outbox : List Packet) → (is_some_packet outbox && nat_lt (length (world.rings w v)) ring_size) ≡ false → carried w v outbox world ≡ world
  carried_none w v [] d = refl
  carried_none w v (p ∷ ps) d = ap (λ b. cond b (carried_one w v p ps world) world) d

  taken_none : (w v : ℕ) (ring : List Packet) → is_some_packet ring ≡ false → taken_events setup w v ring world ≡ []
  taken_none w v [] d = refl
  taken_none w v (p ∷ ps) d = absurd cc

  module _ (c : Carried) (same : IsSame c (carried_in h world)) where
    one_same : (w v : ℕ) (a : Carried) → IsSame a (one_carried w v (carried_in h world)) → IsSame a (one_carried w v c)
    one_same w v a s x y = s x y ∙ ap (λ n. cond (is_pair w v x y) (n + 1) n) (sym (same x y))

    -- a move that does something
    is_move : (m : Move) → does world m ≡ true → IsMoveOf m h c (move_events setup m world) (carried_in (onto (move_events setup m world) h) (moved setup m world))
    is_move (Carries w v) d = (refl, one_same w v (carried_in h (moved setup (Carries w v) world)) (carried_more w v ((world.workers w).outbox v) d))
    is_move (Takes w v) d = (taken_first w v (world.rings v w) refl d, λ x y. taken_same w v (world.rings v w) refl x y ∙ sym (same x y))
    is_move (Handles w incoming) d = absurd cc
    is_move Counts d = absurd cc
    is_move Rests d = absurd cc

    may_carry : (w v : ℕ) → MayMove (Carries w v) h c (carried_in h (moved setup (Carries w v) world)) []
    may_carry w v = subst (λ (b : Bool). Unless b (IsMoveOf (Carries w v) h c [] (carried_in h (moved setup (Carries w v) world))) (Stops c [] (carried_in h (moved setup (Carries w v) world)))) (sym (can_does setup h world good c same (Carries w v)))
        (by (does world (Carries w v)) refl)
      where
        by : (b : Bool) → does world (Carries w v) ≡ b → Unless b (IsMoveOf (Carries w v) h c [] (carried_in h (moved setup (Carries w v) world))) (Stops c [] (carried_in h (moved setup (Carries w v) world)))
        by true d = is_move (Carries w v) d
        by false d = (refl, λ x y. ap (λ (z : World). carried_in h z x y) (carried_none w v ((world.workers w).outbox v) d) ∙ sym (same x y))

    may_take : (w v : ℕ) → MayMove (Takes w v) h c (carried_in (onto (move_events setup (Takes w v) world) h) (moved setup (Takes w v) world)) (move_events setup (Takes w v) world)
    may_take w v = subst (λ (b : Bool). Unless b (IsMoveOf (Takes w v) h c (move_events setup (Takes w v) world) (carried_in (onto (move_events setup (Takes w v) world) h) (moved setup (Takes w v) world))) (Stops c (move_events setup (Takes w v) world) (carried_in (onto (move_events setup (Takes w v) world) h) (moved setup (Takes w v) world))))
        (sym (can_does setup h world good c same (Takes w v))) (by (does world (Takes w v)) refl)
      where
        by : (b : Bool) → does world (Takes w v) ≡ b → Unless b (IsMoveOf (Takes w v) h c (move_events setup (Takes w v) world) (carried_in (onto (move_events setup (Takes w v) world) h) (moved setup (Takes w v) world))) (Stops c (move_events setup (Takes w v) world) (carried_in (onto (move_events setup (Takes w v) world) h) (moved setup (Takes w v) world)))
        by true d = is_move (Takes w v) d
        by false d = (taken_none w v (world.rings v w) d, λ x y. taken_same w v (world.rings v w) refl x y ∙ sym (same x y))

-- ---- settling

some_same : (a b : Move × List Move) → Some a ≡ Some b → a ≡ b
some_same a b e = cc

first_case : (b : Bool) (test : Move → Bool) (m : Move) (ms : List Move) (o : Option (Move × List Move)) (turn : Move × List Move) → test m ≡ b → cond b (Some (m, ms)) o ≡ Some turn → (o ≡ Some turn → test turn.0 ≡ true) → test turn.0 ≡ true
first_case true test m ms o turn t e f = ap (λ (p : Move × List Move). test p.0) (sym (some_same (m, ms) turn e)) ∙ t
first_case false test m ms o turn t e f = f e

first_does : (test : Move → Bool) (ms before : List Move) (turn : Move × List Move) → first_turn test before ms ≡ Some turn → test turn.0 ≡ true
first_does test [] before turn e = absurd cc
first_does test (m ∷ ms) before turn e = first_case (test m) test m (ms ++ before ++ m ∷ []) (first_turn test (before ++ m ∷ []) ms) turn refl e (first_does test ms (before ++ m ∷ []) turn)

module _ (setup : Setup) (is : IsSetup setup) where
  abbrev after_moves : List Move → List Event → World → Carried
  after_moves ms h world = carried_in (onto (events_of setup ms world) h) (world_of setup ms world)

  abbrev SettlesSo : ℕ → Type 0
  SettlesSo n = (turns : List Move) (h : List Event) (world : World) (c : Carried) → Reached setup h world → CanMove setup (settle_moves setup n turns world) h world → IsSame c (carried_in h world)
      → Settles setup.workers n turns h c (events_of setup (settle_moves setup n turns world) world) (after_moves (settle_moves setup n turns world) h world)

  abbrev rest_of : ℕ → World → Bool → Option (Move × List Move) → List Move
  rest_of n world b o = cond b [] (turn_with o (λ m rest. settle_moves setup n rest (moved setup m world)))

  settle_by : (n : ℕ) → SettlesSo n → (h : List Event) (world : World) (c : Carried) → Reached setup h world → IsSame c (carried_in h world) → (b : Bool) (o : Option (Move × List Move)) → CanMove setup (rest_of n world b o) h world → ((turn : Move × List Move) → o ≡ Some turn → does world turn.0 ≡ true)
      → Unless b (Stops c (events_of setup (rest_of n world b o) world) (after_moves (rest_of n world b o) h world)) (Turns o (Settles setup.workers n) h c (events_of setup (rest_of n world b o) world) (after_moves (rest_of n world b o) h world))
  settle_by n go h world c r same true o cm d = (refl, λ x y. sym (same x y))
  settle_by n go h world c r same false None cm d = (refl, λ x y. sym (same x y))
  settle_by n go h world c r same false (Some turn) cm d =
      let next = moved setup turn.0 world in
      let step = move_events setup turn.0 world in
      let rest = settle_moves setup n turn.1 next in
      record {
        step = step;
        behind = events_of setup rest next;
        between = carried_in (onto step h) next;
        parts = refl;
        is_move = is_move setup is h world r c same turn.0 (d turn refl);
        goes = subst (λ (l : List Event). Settles setup.workers n turn.1 (onto step h) (carried_in (onto step h) next) (events_of setup rest next) (carried_in l (world_of setup rest next))) (sym (onto_append step (events_of setup rest next) h))
            (go turn.1 (onto step h) next (carried_in (onto step h) next) (Moves h world turn.0 r cm.0) cm.1 (λ x y. refl));
      }

  settles : (n : ℕ) → SettlesSo n
  settles zero turns h world c r cm same = (refl, λ x y. sym (same x y))
  settles (suc n) turns h world c r cm same =
      let ms = settle_moves setup (suc n) turns world in
      let g = reached_is_good setup h world is r in
      subst (λ (z : ℕ × Option (Move × List Move)). Unless (z.0 == 0) (Stops c (events_of setup ms world) (after_moves ms h world)) (Turns z.1 (Settles setup.workers n) h c (events_of setup ms world) (after_moves ms h world)))
      (λ i. (sym (same_pending setup h world g) i, first_turn (λ m. sym (can_does setup h world g c same m) i) [] turns))
      (settle_by n (settles n) h world c r same (pending_in setup world == 0) (first_turn (does world) [] turns) cm (λ turn e. first_does (does world) turns [] turn e))

  -- ---- lines

  abbrev Segment : Line → List Event → World → Carried → Type 0
  Segment line h world c = IsSegment setup line h c (line_events setup line world) (carried_in (onto (line_events setup line world) h) (line_world setup line world))

  rested_same : (n : ℕ) (h : List Event) (world : World) → IsSame (carried_in (onto (rested n) h) world) (carried_in h world)
  rested_same zero h world x y = refl
  rested_same (suc n) h world x y = refl

  counted_same : (n : ℕ) (h : List Event) (world : World) → IsSame (carried_in (onto (counted n) h) world) (carried_in h world)
  counted_same zero h world x y = refl
  counted_same (suc n) h world x y = refl

  -- the events of a move, and `quiet` where nothing is pending
  ends : (m : Move) (P : List Event → Type 0) (h : List Event) (world : World) → Reached setup h world → IsMove setup h m → P (move_events setup m world) → Ends setup.workers P h (events_of setup (m ∷ Rests ∷ []) world)
  ends m P h world r i p = record {
    body = move_events setup m world;
    is_body = p;
    whole = ap (λ (l : List Event). move_events setup m world ++ l)
        (append-nil (rested (pending_in setup (moved setup m world))) ∙ ap rested (sym (same_pending setup (onto (move_events setup m world) h) (moved setup m world) (reached_is_good setup (onto (move_events setup m world) h) (moved setup m world) is (Moves h world m r i)))));
  }

  -- what was carried once a move was made and it was told whether something is pending
  ends_carried : (m : Move) (h : List Event) (world : World) → IsSame (carried_in (onto (events_of setup (m ∷ Rests ∷ []) world) h) (moved setup m world)) (carried_in (onto (move_events setup m world) h) (moved setup m world))
  ends_carried m h world x y =
      let next = moved setup m world in
      ap (λ (l : List Event). carried_in (onto (move_events setup m world ++ l) h) next x y) (append-nil (rested (pending_in setup next)))
      ∙ ap (λ (l : List Event). carried_in l next x y) (onto_append (move_events setup m world) (rested (pending_in setup next)) h)
      ∙ rested_same (pending_in setup next) (onto (move_events setup m world) h) next x y

  input_line : (w : ℕ) (incoming : Incoming) (P : List Event → Type 0) (h : List Event) (world : World) (c : Carried) → Reached setup h world → (w < setup.workers) × IsInput w h incoming → IsSame c (carried_in h world) → P (handled_events setup w incoming world)
      → Ends setup.workers P h (events_of setup (Handles w incoming ∷ Rests ∷ []) world) × IsSame (carried_in (onto (events_of setup (Handles w incoming ∷ Rests ∷ []) world) h) (moved setup (Handles w incoming) world)) c
  input_line w incoming P h world c r i same p = (ends (Handles w incoming) P h world r i p, λ x y. ends_carried (Handles w incoming) h world x y ∙ input_same setup is h world r w incoming i.1 x y ∙ sym (same x y))

  -- one of the moves that are told by what was carried
  moved_line : (m : Move) (h : List Event) (world : World) (c : Carried) → Reached setup h world → IsMove setup h m → MayMove m h c (carried_in (onto (move_events setup m world) h) (moved setup m world)) (move_events setup m world)
      → Ends setup.workers (MayMove m h c (carried_in (onto (events_of setup (m ∷ Rests ∷ []) world) h) (moved setup m world))) h (events_of setup (m ∷ Rests ∷ []) world)
  moved_line m h world c r i p =
      ends m (MayMove m h c (carried_in (onto (events_of setup (m ∷ Rests ∷ []) world) h) (moved setup m world))) h world r i
      (subst (λ (a : Carried). MayMove m h c a (move_events setup m world)) (λ j x y. sym (ends_carried m h world x y) j) p)

  events_append : (xs ys : List Move) (world : World) → events_of setup (xs ++ ys) world ≡ events_of setup xs world ++ events_of setup ys (world_of setup xs world)
  events_append [] ys world = refl
  events_append (x ∷ xs) ys world = ap (λ (l : List Event). move_events setup x world ++ l) (events_append xs ys (moved setup x world)) ∙ sym (append_assoc (move_events setup x world) (events_of setup xs (moved setup x world)) (events_of setup ys (world_of setup xs (moved setup x world))))

  world_append : (xs ys : List Move) (world : World) → world_of setup (xs ++ ys) world ≡ world_of setup ys (world_of setup xs world)
  world_append [] ys world = refl
  world_append (x ∷ xs) ys world = world_append xs ys (moved setup x world)

  counts_carried : (ms : List Move) (h : List Event) (world : World) → IsSame (carried_in (onto (events_of setup (ms ++ Counts ∷ []) world) h) (world_of setup (ms ++ Counts ∷ []) world)) (after_moves ms h world)
  counts_carried ms h world x y =
      let next = world_of setup ms world in
      (λ i. carried_in (onto ((events_append ms (Counts ∷ []) world ∙ ap (λ (l : List Event). events_of setup ms world ++ l) (append-nil (counted (pending_in setup next)))) i) h) (world_append ms (Counts ∷ []) world i) x y)
      ∙ ap (λ (l : List Event). carried_in l next x y) (onto_append (events_of setup ms world) (counted (pending_in setup next)) h)
      ∙ counted_same (pending_in setup next) (onto (events_of setup ms world) h) next x y

  -- the world after moves that can be made is reached
  reached_by : (ms : List Move) (h : List Event) (world : World) → Reached setup h world → CanMove setup ms h world → Reached setup (onto (events_of setup ms world) h) (world_of setup ms world)
  reached_by [] h world r cm = r
  reached_by (m ∷ ms) h world r cm =
      subst (λ (l : List Event). Reached setup l (world_of setup ms (moved setup m world))) (sym (onto_append (move_events setup m world) (events_of setup ms (moved setup m world)) h))
      (reached_by ms (onto (move_events setup m world) h) (moved setup m world) (Moves h world m r cm.0) cm.1)

  -- a worker that keeps no idle hold releases none where its spools stay
  unreleased : (w : ℕ) (next : ℕ → ℕ) (h : List Event) (world : World) → Reached setup h world → (es : List Event) → es ++ told w next (releases w (world.workers w).desk.spools) ≡ es
  unreleased w next h world r es = ap (λ (deeds : List Deed). es ++ told w next deeds) (reached_is_busy setup h world r w) ∙ append-nil es

  segment : (line : Line) (h : List Event) (world : World) (c : Carried) → Reached setup h world → IsLine setup h line → IsSame c (carried_in h world) → Segment line h world c
  segment Blank h world c r i same = (refl, λ x y. sym (same x y))
  segment (Clocks w t) h world c r i same = input_line w (ClockReads t) (IsStepFrom (Clock w t)) h world c r i same (refl, told_inner setup is h world r w (ClockReads t) (world.workers w).next)
  segment (Reap w) h world c r i same = input_line w Reaps (IsReapOf setup w h) h world c r (i, tt) same (owners_step setup is h world r w Reaps (handled_events setup w Reaps world) (unreleased w _ h world r (part w Reaps world)))
  segment (Carry w v) h world c r i same = moved_line (Carries w v) h world c r i (may_carry setup is h world r c same w v)
  segment (Take w v) h world c r i same = moved_line (Takes w v) h world c r i (may_take setup is h world r c same w v)
  segment (Settle n) h world c r i same =
      let ms = settle_moves setup n (round setup.workers) world in
      let next = world_of setup ms world in
      let body = events_of setup ms world in
      let cm = settle_can setup n (round setup.workers) h world (round_turns setup) in
      let after = reached_is_good setup (onto body h) next is (reached_by ms h world r cm) in
      record {
        body = body;
        settles = subst (λ (a : Carried). Settles setup.workers n (round setup.workers) h c body a) (λ j x y. sym (counts_carried ms h world x y) j) (settles n (round setup.workers) h world c r cm same);
        whole = events_append ms (Counts ∷ []) world ∙ ap (λ (l : List Event). body ++ l) (append-nil (counted (pending_in setup next)) ∙ ap counted (sym (same_pending setup (onto body h) next after)));
      }
  segment (Post w d body) h world c r i same = input_line w (Posts d body) (IsPost setup w d body) h world c r (i, tt) same
      (record { r = (world.workers w).desk.requests; n = (world.workers w).next _; same = unreleased w _ h world r _ })
  segment (Poll w n list start) h world c r i same = input_line w (Subscribes n list start) _ h world c r i same (refl, told_inner setup is h world r w (Subscribes n list start) (world.workers w).next)
  segment (Remove w d) h world c r i same = input_line w (Removes d) (IsRemove setup w d) h world c r (i, tt) same
      (record { r = (world.workers w).desk.requests; n = (world.workers w).next _; same = unreleased w _ h world r _ })
  segment (Inform w d) h world c r i same = input_line w (Informs d) (IsInform setup w d) h world c r (i, tt) same
      (record { r = (world.workers w).desk.requests; n = (world.workers w).next _; same = unreleased w _ h world r _ })

  pub follows_to : FitLinesReach → (lines : List Line) → AreFit setup lines → FollowsTo setup lines (journal_of setup lines) (carried_in (joined (journal_of setup lines)) (lines_world setup lines))
  follows_to reach [] f = λ v w. refl
  follows_to reach (line ∷ lines) f = (
    carried_in (joined (journal_of setup lines)) (lines_world setup lines),
    follows_to reach lines f.0,
    segment line (joined (journal_of setup lines)) (lines_world setup lines) (carried_in (joined (journal_of setup lines)) (lines_world setup lines)) (reach setup lines f.0) f.1 (λ x y. refl),
  )

pub journal_follows : FitLinesReach → JournalFollows
journal_follows reach setup lines is f = (carried_in (joined (journal_of setup lines)) (lines_world setup lines), follows_to setup is reach lines f)
