-- In each reached world what a worker asked is on its way, or was answered.
use Rattle.std.proofs.Common.{◌≡◌, ℕ, zero, suc, ◌+◌, ◌<◌, ◌≤◌, Bool, true, false, cond, List, [], ◌∷◌, ◌++◌, refl, sym, ap, ◌∙◌, subst, arith, drop}
use Rattle.std.specs.Prelude.{◌==◌, ◌&&◌}
use Rattle.nc_journal.specs.History.{onto, Along}
use Rattle.nc_journal.specs.Holding.{times_so}
use Rattle.nc_journal.specs.declared.event.Event.{Event}
use Rattle.nc_journal.specs.declared.event.Event.TheVariants.{Asked, Quiet}
use Rattle.nc_journal.specs.declared.alert.AlertLine.{AlertLine}
use Rattle.nc_journal.specs.declared.alert.AlertLine.TheVariants as lines
use Rattle.nc_owner_laws.specs.Kinds.{IsOfOwner}
use Rattle.nc_history.specs.Packets.{Packet, pending}
use Rattle.nc_worker_state.specs.Setup.{Setup}
use Rattle.nc_worker_state.specs.Incoming.{Incoming, TakesPacket, ClockReads, Reaps, Posts, Subscribes, Removes, Informs}
use Rattle.nc_worker_state.specs.Desk.{Desk}
use Rattle.nc_worker_state.specs.Worker.{WorkerAt, with_at, sent_to, dealt_worker}
use Rattle.nc_world.specs.World.{World, handled_events, pending_in, sum_below}
use Rattle.nc_world.specs.Moves.{Counts, counted, with_ring}
use Rattle.nc_world.specs.Reached.{IsSetup, IsInput, Reached, Moves}
use Rattle.nc_world_laws.specs.Good.{Good}
use Rattle.nc_world_laws.proofs.WorkerKinds.{IsOfWorker}
use Rattle.nc_world_laws.proofs.WorldTheme.{WorldFact, IsWorldTheme}
use Rattle.nc_world_laws.proofs.Local.{eqb_self, eq_of}
use Rattle.nc_world_laws.proofs.Taking.{first_pending, took_good}
use Rattle.nc_world_laws.proofs.Parts.{owns, serves, before, part, behind, part_all, behind_all}
use Rattle.nc_world_laws.proofs.Frames.{handled_onto, input_pending, taken_pending}
use Rattle.nc_world_laws.proofs.WorldThemes.{world_theme_holds}
use Rattle.nc_world_holds.specs.Balance.{one_if}
use Rattle.nc_world_holds.proofs.Counting.{count, times_onto}
use Rattle.nc_world_owners.proofs.Between.{owner_there}
use Rattle.nc_world_owners.proofs.ReachedHistories.{counts_are_told}
use Rattle.nc_world_requests.specs.Requests.{asks, asks_under, answers_under, asking, answering, among, occurs, DrawnAt, AnsweredAt, RestedAt}
use Rattle.nc_world_requests.specs.Laws.{RequestsAreWaitedFor, WorkersWait, NumbersAreDrawn, AnswersAreTaken, QuietIsAnswered}
use Rattle.nc_world_requests.proofs.Weighing.{among_append, among_cond, made_for, sent_among}
use Rattle.nc_world_requests.proofs.Replying.{IsAwaited, gain, loss, aim, more, AwaitsIt, served_effect}
use Rattle.nc_world_requests.proofs.Following.{plain_along, input_answered, packet_answered}
use Rattle.nc_world_requests.proofs.Counted.{sum_more, sum_pair, sum_equal, term_within, came, step_asks, step_asks_under, step_answers, step_answering, step_asking, once_asked}

-- how much of a worker's number is on its way to an owner, or back
abbrev pub on_way : ℕ → ℕ → ℕ → List Event → ℕ
on_way v w r h = among (asking r) (pending w v h) + among (answering r) (pending v w h)

abbrev pub all_way : ℕ → ℕ → ℕ → List Event → ℕ
all_way workers w r h = sum_below (λ v. on_way v w r h) workers

-- ---- the moments

abbrev IsUnasked : Event → Type 0
IsUnasked (Asked w r conn act list status rule) = ⊥
IsUnasked _ = Unit {0}

unasked_drawn : (first : ℕ) (h : List Event) (e : Event) → IsUnasked e → DrawnAt first h e
unasked_drawn first h (Asked w r conn act list status rule) k = absurd k
unasked_drawn first h e k = tt

unasked_owner : (w : ℕ) (e : Event) → IsOfOwner w e → IsUnasked e
unasked_owner w (Asked v r conn act list status rule) p = absurd p
unasked_owner w e p = tt

unasked_worker : (w : ℕ) (e : Event) → IsOfWorker w e → IsUnasked e
unasked_worker w (Asked v r conn act list status rule) p = absurd p
unasked_worker w e p = tt

abbrev IsUnquiet : Event → Type 0
IsUnquiet Quiet = ⊥
IsUnquiet _ = Unit {0}

unquiet_rested : (h : List Event) (e : Event) → IsUnquiet e → RestedAt h e
unquiet_rested h Quiet k = absurd k
unquiet_rested h e k = tt

unquiet_owner : (w : ℕ) (e : Event) → IsOfOwner w e → IsUnquiet e
unquiet_owner w Quiet p = absurd p
unquiet_owner w e p = tt

unquiet_worker : (w : ℕ) (e : Event) → IsOfWorker w e → IsUnquiet e
unquiet_worker w Quiet p = absurd p
unquiet_worker w e p = tt

-- ---- the facts

pub record IsWaiting (setup : Setup) (h : List Event) (world : World) : Type 0 where
  pub drawn : Along (DrawnAt setup.first) h
  pub answered : Along AnsweredAt h
  pub rested : Along RestedAt h
  pub next : (x : ℕ) → (world.workers x).desk.requests ≡ setup.first + times_so (asks x) h
  pub waits : (x r : ℕ) → occurs r (world.workers x).desk.waiting ≡ all_way setup.workers x r h
  pub tells : (x r : ℕ) → times_so (asks_under x r) h ≡ occurs r (world.workers x).desk.waiting + times_so (answers_under x r) h

swap_cond : (a b : Bool) (n : ℕ) → cond (a && b) n 0 ≡ cond b (cond a n 0) 0
swap_cond true true n = refl
swap_cond true false n = refl
swap_cond false true n = refl
swap_cond false false n = refl

module _ (setup : Setup) (is : IsSetup setup) (w : ℕ) (incoming : Incoming) (h : List Event) (world : World) (g : Good setup h world) (k : IsWaiting setup h world) where
  abbrev es : List Event
  es = handled_events setup w incoming world

  abbrev desk : Desk
  desk = (world.workers w).desk

  abbrev after : ℕ → WorkerAt
  after = with_at world.workers w (dealt_worker es (owns w incoming world) (serves setup w incoming world) (world.workers w))

  -- what is on its way falls by what came back, and rises by what is asked
  abbrev pub WayMoves : Type 0
  WayMoves = (x r : ℕ) → all_way setup.workers x r (onto es h) + cond (x == w) (loss w r setup incoming) 0 ≡ all_way setup.workers x r h + cond (x == w) (gain w r setup incoming desk) 0

  opening_drawn : (i : Incoming) → Along (DrawnAt setup.first) (onto (before setup w i world) h)
  opening_drawn (TakesPacket from p) = (k.drawn, tt)
  opening_drawn (ClockReads t) = (k.drawn, tt)
  opening_drawn Reaps = k.drawn
  opening_drawn (Posts c body) = (k.drawn, k.next w)
  opening_drawn (Subscribes m list start) = (k.drawn, tt)
  opening_drawn (Removes c) = (k.drawn, k.next w)
  opening_drawn (Informs c) = (k.drawn, k.next w)

  step_drawn : Along (DrawnAt setup.first) (onto es h)
  step_drawn =
      let opened = onto (before setup w incoming world) h in
      subst (Along (DrawnAt setup.first)) (sym (handled_onto setup is w incoming h world g h))
      (plain_along (DrawnAt setup.first) IsUnasked (unasked_drawn setup.first) (behind setup w incoming world) (onto (part w incoming world) opened) (behind_all setup is w incoming h world g IsUnasked (unasked_worker w) (λ to n l. tt))
      (plain_along (DrawnAt setup.first) IsUnasked (unasked_drawn setup.first) (part w incoming world) opened (part_all setup is w incoming h world g IsUnasked (unasked_owner w) (λ to n l. tt)) (opening_drawn incoming)))

  opening_rested : (i : Incoming) → Along RestedAt (onto (before setup w i world) h)
  opening_rested (TakesPacket from p) = (k.rested, tt)
  opening_rested (ClockReads t) = (k.rested, tt)
  opening_rested Reaps = k.rested
  opening_rested (Posts c body) = (k.rested, tt)
  opening_rested (Subscribes m list start) = (k.rested, tt)
  opening_rested (Removes c) = (k.rested, tt)
  opening_rested (Informs c) = (k.rested, tt)

  step_rested : Along RestedAt (onto es h)
  step_rested =
      let opened = onto (before setup w incoming world) h in
      subst (Along RestedAt) (sym (handled_onto setup is w incoming h world g h))
      (plain_along RestedAt IsUnquiet unquiet_rested (behind setup w incoming world) (onto (part w incoming world) opened) (behind_all setup is w incoming h world g IsUnquiet (unquiet_worker w) (λ to n l. tt))
      (plain_along RestedAt IsUnquiet unquiet_rested (part w incoming world) opened (part_all setup is w incoming h world g IsUnquiet (unquiet_owner w) (λ to n l. tt)) (opening_rested incoming)))

  -- ---- what a worker waits for, before and after

  step_waits : (awaits : (r : ℕ) → AwaitsIt w r setup incoming desk) → WayMoves → (x r : ℕ) → occurs r (after x).desk.waiting ≡ all_way setup.workers x r (onto es h)
  step_waits awaits way x r = by (x == w) refl (way x r)
    where
      by : (b : Bool) → (x == w) ≡ b → all_way setup.workers x r (onto es h) + cond b (loss w r setup incoming) 0 ≡ all_way setup.workers x r h + cond b (gain w r setup incoming desk) 0
          → occurs r (cond b (dealt_worker es (owns w incoming world) (serves setup w incoming world) (world.workers w)) (world.workers x)).desk.waiting ≡ all_way setup.workers x r (onto es h)
      by true e q =
          let s = ap (λ z. all_way setup.workers z r h) (eq_of x w e) in
          omega (arith, q, s, k.waits w r, (served_effect w r setup incoming desk (awaits r)).waits)
      by false e q = omega (arith, q, k.waits x r)

  step_next : (awaits : (r : ℕ) → AwaitsIt w r setup incoming desk) → (x : ℕ) → (after x).desk.requests ≡ setup.first + times_so (asks x) (onto es h)
  step_next awaits x = by (x == w) refl (step_asks setup is w incoming h world g x 0)
    where
      by : (b : Bool) → (x == w) ≡ b → count (asks x) es ≡ cond b (more w 0 setup incoming) 0
          → (cond b (dealt_worker es (owns w incoming world) (serves setup w incoming world) (world.workers w)) (world.workers x)).desk.requests ≡ setup.first + times_so (asks x) (onto es h)
      by true e q =
          let s = ap (λ z. times_so (asks z) h) (eq_of x w e) in
          omega (arith, q, s, k.next w, times_onto (asks x) es h, (served_effect w 0 setup incoming desk (awaits 0)).draws)
      by false e q = omega (arith, q, k.next x, times_onto (asks x) es h)

  step_tells : (awaits : (r : ℕ) → AwaitsIt w r setup incoming desk) → (x r : ℕ) → times_so (asks_under x r) (onto es h) ≡ occurs r (after x).desk.waiting + times_so (answers_under x r) (onto es h)
  step_tells awaits x r = by (x == w) refl (step_asks_under setup is w incoming h world g x r) (step_answers setup is w incoming h world g x r (awaits r))
    where
      by : (b : Bool) → (x == w) ≡ b → count (asks_under x r) es ≡ cond b (gain w r setup incoming desk) 0 → count (answers_under x r) es ≡ cond b (loss w r setup incoming) 0
          → times_so (asks_under x r) (onto es h) ≡ occurs r (cond b (dealt_worker es (owns w incoming world) (serves setup w incoming world) (world.workers w)) (world.workers x)).desk.waiting + times_so (answers_under x r) (onto es h)
      by true e p q =
          let s = ap (λ z. times_so (asks_under z r) h) (eq_of x w e) in
          let t = ap (λ z. times_so (answers_under z r) h) (eq_of x w e) in
          omega (arith, p, q, s, t, k.tells w r, times_onto (asks_under x r) es h, times_onto (answers_under x r) es h, (served_effect w r setup incoming desk (awaits r)).waits)
      by false e p q = omega (arith, p, q, k.tells x r, times_onto (asks_under x r) es h, times_onto (answers_under x r) es h)

  pub step_waiting : (awaits : (r : ℕ) → AwaitsIt w r setup incoming desk) → WayMoves → Along AnsweredAt (onto es h) → (new : World) → new.workers ≡ after → IsWaiting setup (onto es h) new
  step_waiting awaits way answered new same = record {
    drawn = step_drawn;
    answered = answered;
    rested = step_rested;
    next = λ x. ap (λ (f : ℕ → WorkerAt). (f x).desk.requests) same ∙ step_next awaits x;
    waits = λ x r. ap (λ (f : ℕ → WorkerAt). occurs r (f x).desk.waiting) same ∙ step_waits awaits way x r;
    tells = λ x r. step_tells awaits x r ∙ ap (λ (f : ℕ → WorkerAt). occurs r (f x).desk.waiting + times_so (answers_under x r) (onto es h)) (sym same);
  }

-- ---- an input

module _ (setup : Setup) (is : IsSetup setup) (w : ℕ) (incoming : Incoming) (h : List Event) (world : World) (g : Good setup h world) (input : IsInput w h incoming) where
  abbrev input_es : List Event
  input_es = handled_events setup w incoming world

  input_awaits : (i : Incoming) → IsInput w h i → (r : ℕ) → AwaitsIt w r setup i (world.workers w).desk
  input_awaits (TakesPacket from p) k r = absurd k
  input_awaits (ClockReads t) k r = tt
  input_awaits Reaps k r = tt
  input_awaits (Posts c body) k r = tt
  input_awaits (Subscribes m list start) k r = tt
  input_awaits (Removes c) k r = tt
  input_awaits (Informs c) k r = tt

  input_came : (i : Incoming) → IsInput w h i → (r y : ℕ) → came setup is w i h world g r y i ≡ 0
  input_came (TakesPacket from p) k r y = absurd k
  input_came (ClockReads t) k r y = refl
  input_came Reaps k r y = refl
  input_came (Posts c body) k r y = refl
  input_came (Subscribes m list start) k r y = refl
  input_came (Removes c) k r y = refl
  input_came (Informs c) k r y = refl

  input_loss : (i : Incoming) → IsInput w h i → (r : ℕ) → loss w r setup i ≡ 0
  input_loss (TakesPacket from p) k r = absurd k
  input_loss (ClockReads t) k r = refl
  input_loss Reaps k r = refl
  input_loss (Posts c body) k r = refl
  input_loss (Subscribes m list start) k r = refl
  input_loss (Removes c) k r = refl
  input_loss (Informs c) k r = refl

  aim_there : (i : Incoming) (r : ℕ) → aim w r setup i < setup.workers
  aim_there (TakesPacket from p) r = is.0
  aim_there (ClockReads t) r = is.0
  aim_there Reaps r = is.0
  aim_there (Posts c body) r = owner_there setup.workers c is.0
  aim_there (Subscribes m list start) r = is.0
  aim_there (Removes c) r = owner_there setup.workers c is.0
  aim_there (Informs c) r = owner_there setup.workers c is.0

  -- what a queue has of a kind then
  queue_among : (f : AlertLine → ℕ) (x y : ℕ) → among f (pending x y (onto input_es h)) ≡ among f (pending x y h) + cond (x == w) (made_for f y input_es) 0
  queue_among f x y =
      ap (among f) (input_pending setup is w incoming h world g input x y)
      ∙ among_append f (pending x y h) (cond (x == w) (sent_to y input_es) [])
      ∙ ap (λ n. among f (pending x y h) + n) (among_cond f (x == w) (sent_to y input_es) ∙ ap (λ n. cond (x == w) n 0) (sent_among f y input_es))

  input_way : (x r : ℕ) → all_way setup.workers x r (onto input_es h) + cond (x == w) (loss w r setup incoming) 0 ≡ all_way setup.workers x r h + cond (x == w) (gain w r setup incoming (world.workers w).desk) 0
  input_way x r = by (x == w) refl
    where
      none_more : (b : Bool) (n : ℕ) → n ≡ 0 → cond b n 0 ≡ 0
      none_more true n e = e
      none_more false n e = refl

      back : (o : ℕ) → among (answering r) (pending o x (onto input_es h)) ≡ among (answering r) (pending o x h)
      back o = omega (arith, queue_among (answering r) o x, none_more (o == w) (made_for (answering r) x input_es) (step_answering setup is w incoming h world g r x ∙ input_came incoming input r x))

      by : (b : Bool) → (x == w) ≡ b → all_way setup.workers x r (onto input_es h) + cond b (loss w r setup incoming) 0 ≡ all_way setup.workers x r h + cond b (gain w r setup incoming (world.workers w).desk) 0
      by true e =
          let each : (o : ℕ) → on_way o x r (onto input_es h) ≡ on_way o x r h + cond (o == aim w r setup incoming) (gain w r setup incoming (world.workers w).desk) 0
          = λ o. omega (arith, back o, queue_among (asking r) x o, ap (λ b. cond b (made_for (asking r) o input_es) 0) e, step_asking setup is w incoming h world g r o (input_awaits incoming input r)) in
          let sum = sum_more (λ o. on_way o x r (onto input_es h)) (λ o. on_way o x r h) (aim w r setup incoming) (gain w r setup incoming (world.workers w).desk) setup.workers each (aim_there incoming r) in
          omega (arith, sum, input_loss incoming input r)
      by false e =
          let each : (o : ℕ) → on_way o x r (onto input_es h) ≡ on_way o x r h
          = λ o. omega (arith, back o, queue_among (asking r) x o, ap (λ b. cond b (made_for (asking r) o input_es) 0) e) in
          omega (arith, sum_equal (λ o. on_way o x r (onto input_es h)) (λ o. on_way o x r h) setup.workers each)

-- ---- a packet

awaited : (me r : ℕ) (line : AlertLine) (d : Desk) → ((n : ℕ) → answering n line ≤ occurs n d.waiting) → ((n : ℕ) → occurs n d.waiting ≤ 1) → IsAwaited me r line d
awaited me r (lines.PubAnswer n status info usage) d low high = omega (arith, low n, high n, ap one_if (eqb_self n))
awaited me r (lines.DelAnswer n status info) d low high = omega (arith, low n, high n, ap one_if (eqb_self n))
awaited me r (lines.InfoAnswer n status info) d low high = omega (arith, low n, high n, ap one_if (eqb_self n))
awaited me r line d low high = tt

module _ (setup : Setup) (is : IsSetup setup) (w v : ℕ) (p : Packet) (ps : List Packet) (h : List Event) (world : World) (g : Good setup h world) (at : world.rings v w ≡ p ∷ ps) (there : v < setup.workers) where
  abbrev packet_es : List Event
  packet_es = handled_events setup w (TakesPacket v p) world

  first : pending v w h ≡ p ∷ (ps ++ (world.workers v).outbox w)
  first = first_pending setup w v p ps h world g at

  packet_awaits : IsWaiting setup h world → (r : ℕ) → AwaitsIt w r setup (TakesPacket v p) (world.workers w).desk
  packet_awaits k r = awaited w r p.line (world.workers w).desk
      (λ n. omega (arith, ap (among (answering n)) first, term_within (λ o. on_way o w n h) v setup.workers there, k.waits w n))
      (λ n. omega (arith, k.tells w n, once_asked setup.first w n h k.drawn))

  -- a queue without its first packet, if that is the one
  drop_among : (f : AlertLine → ℕ) (a b : Bool) (q : List Packet) → ((a && b) ≡ true → q ≡ p ∷ (ps ++ (world.workers v).outbox w)) → among f (cond (a && b) (drop 1 q) q) + cond (a && b) (f p.line) 0 ≡ among f q
  drop_among f true true q e =
      let i = ap (among f) (e refl) in
      let j = ap (λ (l : List Packet). among f (drop 1 l)) (e refl) in
      omega (arith, i, j)
  drop_among f true false q e = omega arith
  drop_among f false b q e = omega arith

  both : (a b : Bool) → (a && b) ≡ true → (a ≡ true) × (b ≡ true)
  both true true e = (refl, refl)
  both true false e = absurd cc
  both false b e = absurd cc

  is_first : (x y : ℕ) → ((x == v) && (y == w)) ≡ true → pending x y h ≡ p ∷ (ps ++ (world.workers v).outbox w)
  is_first x y e = let q = both (x == v) (y == w) e in subst (λ (z : ℕ × ℕ). pending z.0 z.1 h ≡ p ∷ (ps ++ (world.workers v).outbox w)) (λ i. (sym (eq_of x v q.0) i, sym (eq_of y w q.1) i)) first

  packet_among : (f : AlertLine → ℕ) (x y : ℕ) → among f (pending x y (onto packet_es h)) + cond ((x == v) && (y == w)) (f p.line) 0 ≡ among f (pending x y h) + cond (x == w) (made_for f y packet_es) 0
  packet_among f x y =
      let q = pending x y h in
      let d = cond ((x == v) && (y == w)) (drop 1 q) q in
      let here : among f (pending x y (onto packet_es h)) ≡ among f d + cond (x == w) (made_for f y packet_es) 0
      = ap (among f) (taken_pending setup is w v p h (with_ring v w ps world) (took_good setup w v p ps h world g at) x y)
      ∙ among_append f d (cond (x == w) (sent_to y packet_es) [])
      ∙ ap (λ n. among f d + n) (among_cond f (x == w) (sent_to y packet_es) ∙ ap (λ n. cond (x == w) n 0) (sent_among f y packet_es)) in
      omega (arith, here, drop_among f (x == v) (y == w) q (is_first x y))

  packet_way : IsWaiting setup h world → (x r : ℕ) → all_way setup.workers x r (onto packet_es h) + cond (x == w) (loss w r setup (TakesPacket v p)) 0 ≡ all_way setup.workers x r h + cond (x == w) (gain w r setup (TakesPacket v p) (world.workers w).desk) 0
  packet_way k x r = by (x == w) refl
    where
      none_more : (b : Bool) → cond {A = ℕ} b 0 0 ≡ 0
      none_more true = refl
      none_more false = refl

      forth : (o : ℕ) → among (asking r) (pending x o (onto packet_es h)) + cond (o == w) (cond (x == v) (asking r p.line) 0) 0 ≡ among (asking r) (pending x o h)
      forth o = omega (
        arith,
        packet_among (asking r) x o,
        swap_cond (x == v) (o == w) (asking r p.line),
        ap (λ n. cond (x == w) n 0) (step_asking setup is w (TakesPacket v p) h world g r o (packet_awaits k r) ∙ none_more (o == 0)),
        none_more (x == w),
      )

      back : (o : ℕ) → among (answering r) (pending o x (onto packet_es h)) + cond ((o == v) && (x == w)) (answering r p.line) 0 ≡ among (answering r) (pending o x h) + cond (o == w) (cond (x == v) (asking r p.line) 0) 0
      back o = packet_among (answering r) o x ∙ ap (λ n. among (answering r) (pending o x h) + cond (o == w) n 0) (step_answering setup is w (TakesPacket v p) h world g r x)

      and_true : (a b : Bool) (n : ℕ) → b ≡ true → cond (a && b) n 0 ≡ cond a n 0
      and_true true true n e = refl
      and_true true false n e = absurd cc
      and_true false b n e = refl

      and_false : (a b : Bool) (n : ℕ) → b ≡ false → cond (a && b) n 0 ≡ 0
      and_false true true n e = absurd cc
      and_false true false n e = refl
      and_false false b n e = refl

      by : (b : Bool) → (x == w) ≡ b → all_way setup.workers x r (onto packet_es h) + cond b (answering r p.line) 0 ≡ all_way setup.workers x r h + cond {A = ℕ} b 0 0
      by true e =
          let each : (o : ℕ) → on_way o x r h ≡ on_way o x r (onto packet_es h) + cond (o == v) (answering r p.line) 0
          = λ o. omega (arith, forth o, back o, and_true (o == v) (x == w) (answering r p.line) e) in
          let sum = sum_more (λ o. on_way o x r h) (λ o. on_way o x r (onto packet_es h)) v (answering r p.line) setup.workers each there in
          omega (arith, sum)
      by false e =
          let each : (o : ℕ) → on_way o x r (onto packet_es h) ≡ on_way o x r h
          = λ o. omega (arith, forth o, back o, and_false (o == v) (x == w) (answering r p.line) e) in
          omega (arith, sum_equal (λ o. on_way o x r (onto packet_es h)) (λ o. on_way o x r h) setup.workers each)

-- ---- over each move

module _ (setup : Setup) (is : IsSetup setup) where
  abbrev pub WaitingFact : WorldFact
  WaitingFact h world = IsWaiting setup h world

  carried_desk : (w v : ℕ) (ps : List Packet) (world : World) (x : ℕ) → (with_at world.workers w (record (world.workers w) { outbox = with_at (world.workers w).outbox v ps }) x).desk ≡ (world.workers x).desk
  carried_desk w v ps world x = by (x == w) refl
    where
      by : (b : Bool) → (x == w) ≡ b → (cond b (record (world.workers w) { outbox = with_at (world.workers w).outbox v ps }) (world.workers x)).desk ≡ (world.workers x).desk
      by true e = ap (λ z. (world.workers z).desk) (sym (eq_of x w e))
      by false e = refl

  no_way : (n x r : ℕ) → 0 ≡ all_way n x r []
  no_way zero x r = refl
  no_way (suc n) x r = omega (arith, no_way n x r)

  none_way : (h : List Event) → ((v w : ℕ) → pending v w h ≡ []) → (n x r : ℕ) → all_way n x r h ≡ 0
  none_way h none zero x r = refl
  none_way h none (suc n) x r = omega (arith, none_way h none n x r, ap (among (asking r)) (none x n), ap (among (answering r)) (none n x))

  quiet_rest : (h : List Event) (world : World) → Reached setup h world → pending_in setup world ≡ 0 → IsWaiting setup h world → RestedAt h Quiet
  quiet_rest h world reached same k x r =
      let then : Reached setup (Quiet ∷ h) world = subst (λ n. Reached setup (onto (counted n) h) world) same (Moves h world Counts reached tt) in
      let none = (counts_are_told setup (Quiet ∷ h) world is then).1 in
      omega (arith, k.tells x r, k.waits x r, none_way h none setup.workers x r)

  waiting_theme : IsWorldTheme setup WaitingFact
  waiting_theme = record {
    new = record { drawn = tt; answered = tt; rested = tt; next = λ x. omega arith; waits = λ x r. no_way setup.workers x r; tells = λ x r. refl };
    handles = λ w incoming h world reached g here input k.
        step_waiting setup is w incoming h world g k (input_awaits setup is w incoming h world g input incoming input) (input_way setup is w incoming h world g input) (input_answered setup is w incoming h world g input k.answered) _ refl;
    takes = λ w v p ps h world reached g here there at k.
        step_waiting setup is w (TakesPacket v p) h world g k (packet_awaits setup is w v p ps h world g at there k) (packet_way setup is w v p ps h world g at there k)
        (packet_answered setup is w v p (ps ++ (world.workers v).outbox w) h world g (first_pending setup w v p ps h world g at) k.answered) _ refl;
    carries = λ w v p ps h world reached g here there at k. record {
      drawn = k.drawn;
      answered = k.answered;
      rested = k.rested;
      next = λ x. ap (λ (d : Desk). d.requests) (carried_desk w v ps world x) ∙ k.next x;
      waits = λ x r. ap (λ (d : Desk). occurs r d.waiting) (carried_desk w v ps world x) ∙ k.waits x r;
      tells = λ x r. k.tells x r ∙ ap (λ (d : Desk). occurs r d.waiting + times_so (answers_under x r) h) (sym (carried_desk w v ps world x));
    };
    pending = λ n h world reached g same k. record { drawn = (k.drawn, tt); answered = (k.answered, tt); rested = (k.rested, tt); next = k.next; waits = k.waits; tells = k.tells };
    quiet = λ h world reached g same k. record { drawn = (k.drawn, tt); answered = (k.answered, tt); rested = (k.rested, quiet_rest h world reached same k); next = k.next; waits = k.waits; tells = k.tells };
  }

  pub waiting : (h : List Event) (world : World) → Reached setup h world → IsWaiting setup h world
  waiting h world reached = world_theme_holds setup WaitingFact is waiting_theme h world reached

-- ---- the laws

pub workers_wait : WorkersWait
workers_wait setup h world is reached w r =
    (waiting setup is h world reached).waits w r ∙ sum_pair (λ v. among (asking r) (pending w v h)) (λ v. among (answering r) (pending v w h)) setup.workers

pub requests_are_waited_for : RequestsAreWaitedFor
requests_are_waited_for setup h world is reached w r =
    let k = waiting setup is h world reached in
    record {
      once = once_asked setup.first w r h k.drawn;
      one = omega (arith, k.tells w r, workers_wait setup h world is reached w r);
    }

pub numbers_are_drawn : NumbersAreDrawn
numbers_are_drawn setup h world is reached = (waiting setup is h world reached).drawn

pub answers_are_taken : AnswersAreTaken
answers_are_taken setup h world is reached = (waiting setup is h world reached).answered

pub quiet_is_answered : QuietIsAnswered
quiet_is_answered setup h world is reached = (waiting setup is h world reached).rested
