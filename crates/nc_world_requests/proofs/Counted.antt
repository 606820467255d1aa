-- How often a worker's step asks and answers, and what it makes for whom.
use Rattle.std.proofs.Common.{◌≡◌, ℕ, zero, suc, ◌+◌, ◌<◌, ◌≤◌, Bool, true, false, cond, List, [], ◌∷◌, ◌++◌, None, refl, ap, ◌∙◌, arith}
use Rattle.std.specs.Prelude.{◌==◌, ◌&&◌}
use Rattle.std.specs.List.{AllByRecursion}
use Rattle.std.proofs.lemmas.Bool.Decides.{nat_tests}
use Rattle.nc_journal.specs.History.{Along}
use Rattle.nc_journal.specs.Holding.{times_so}
use Rattle.nc_journal.specs.declared.event.Event.{Event}
use Rattle.nc_journal.specs.declared.event.Event.TheVariants.{Asked, Answered}
use Rattle.nc_journal.specs.declared.word.Act.TheVariants as acts
use Rattle.nc_journal.specs.declared.alert.AlertLine.{AlertLine}
use Rattle.nc_owner_laws.specs.Kinds.{IsOfOwner}
use Rattle.nc_owner_laws.proofs.Sweeping.{reaps_are}
use Rattle.nc_worker_state.specs.Setup.{Setup}
use Rattle.nc_worker_state.specs.Incoming.{Incoming, TakesPacket, ClockReads, Reaps, Posts, Subscribes, Removes, Informs}
use Rattle.nc_worker_state.specs.Deed.{next_after}
use Rattle.nc_worker_state.specs.Desk.{Desk}
use Rattle.nc_worker_state.specs.Owned.{line_polls, owned_by}
use Rattle.nc_worker_state.specs.Worker.{holding}
use Rattle.nc_world.specs.World.{World, seat, handled_events, sum_below}
use Rattle.nc_world.specs.Reached.{IsSetup}
use Rattle.nc_world_laws.specs.Good.{Good}
use Rattle.nc_world_laws.proofs.WorkerKinds.{IsOfWorker}
use Rattle.nc_world_laws.proofs.Local.{eq_of}
use Rattle.nc_world_laws.proofs.Parts.{owns, serves, before, part, behind, me, of, well, part_all, behind_all}
use Rattle.nc_world_holds.specs.Balance.{one_if}
use Rattle.nc_world_holds.proofs.Counting.{count, count_append}
use Rattle.nc_world_requests.specs.Requests.{asks, asks_under, answers_under, asking, answering, DrawnAt}
use Rattle.nc_world_requests.proofs.Weighing.{turned, made_for, part_for, made_append, part_out, told_out, deeds_answer_none, PartAnswers, sole_answers, reap_answers, owner_answers}
use Rattle.nc_world_requests.proofs.Replying.{told_answers, gain, loss, aim, more, AwaitsIt, served_effect}

-- ---- sums

sum_past : (f g : ℕ → ℕ) (v k n : ℕ) → ((o : ℕ) → f o ≡ g o + cond (o == v) k 0) → n ≤ v → sum_below f n ≡ sum_below g n
sum_past f g v k zero e le = refl
sum_past f g v k (suc n) e le = by (n == v) refl (e n) (sum_past f g v k n e (omega (arith, le)))
  where
    by : (b : Bool) → (n == v) ≡ b → f n ≡ g n + cond b k 0 → sum_below f n ≡ sum_below g n → sum_below f n + f n ≡ sum_below g n + g n
    by true i q s = let same = eq_of n v i in absurd (omega (arith, same, le))
    by false i q s = omega (arith, q, s)

-- one term is more
pub sum_more : (f g : ℕ → ℕ) (v k n : ℕ) → ((o : ℕ) → f o ≡ g o + cond (o == v) k 0) → v < n → sum_below f n ≡ sum_below g n + k
sum_more f g v k zero e lt = absurd (omega (arith, lt))
sum_more f g v k (suc n) e lt = by (n == v) refl (e n) (λ less_than. sum_more f g v k n e less_than)
  where
    less : (a b : ℕ) → (a == b) ≡ false → b < suc a → b < a
    less a b i l = grind (arith, nat_tests)

    by : (b : Bool) → (n == v) ≡ b → f n ≡ g n + cond b k 0 → (v < n → sum_below f n ≡ sum_below g n + k) → sum_below f n + f n ≡ sum_below g n + g n + k
    by true i q go = let same = eq_of n v i in omega (arith, q, sum_past f g v k n e (omega (arith, same)))
    by false i q go = omega (arith, q, go (less n v i lt))

pub sum_pair : (f g : ℕ → ℕ) (n : ℕ) → sum_below (λ v. f v + g v) n ≡ sum_below f n + sum_below g n
sum_pair f g zero = refl
sum_pair f g (suc n) = omega (arith, sum_pair f g n)

pub sum_equal : (f g : ℕ → ℕ) (n : ℕ) → ((o : ℕ) → f o ≡ g o) → sum_below f n ≡ sum_below g n
sum_equal f g zero e = refl
sum_equal f g (suc n) e = omega (arith, sum_equal f g n e, e n)

pub term_within : (f : ℕ → ℕ) (v n : ℕ) → v < n → f v ≤ sum_below f n
term_within f v zero lt = absurd (omega (arith, lt))
term_within f v (suc n) lt = by (n == v) refl (λ less_than. term_within f v n less_than)
  where
    less : (a b : ℕ) → (a == b) ≡ false → b < suc a → b < a
    less a b i l = grind (arith, nat_tests)

    by : (b : Bool) → (n == v) ≡ b → (v < n → f v ≤ sum_below f n) → f v ≤ sum_below f n + f n
    by true i go = let same = ap f (eq_of n v i) in omega (arith, same)
    by false i go = omega (arith, go (less n v i lt))

-- ---- counts

none_counted : (test : Event → Bool) (es : List Event) → AllByRecursion (λ e. test e ≡ false) es → count test es ≡ 0
none_counted test [] a = refl
none_counted test (e ∷ es) a = ap (λ b. cond b (count test es + 1) (count test es)) a.0 ∙ none_counted test es a.1

owner_asks : (x w : ℕ) (e : Event) → IsOfOwner w e → asks x e ≡ false
owner_asks x w (Asked v n conn act list status rule) p = absurd p
owner_asks x w e p = refl

worker_asks : (x w : ℕ) (e : Event) → IsOfWorker w e → asks x e ≡ false
worker_asks x w (Asked v n conn act list status rule) p = absurd p
worker_asks x w e p = refl

owner_asks_under : (x r w : ℕ) (e : Event) → IsOfOwner w e → asks_under x r e ≡ false
owner_asks_under x r w (Asked v n conn act list status rule) p = absurd p
owner_asks_under x r w e p = refl

worker_asks_under : (x r w : ℕ) (e : Event) → IsOfWorker w e → asks_under x r e ≡ false
worker_asks_under x r w (Asked v n conn act list status rule) p = absurd p
worker_asks_under x r w e p = refl

owner_answers_under : (x r w : ℕ) (e : Event) → IsOfOwner w e → answers_under x r e ≡ false
owner_answers_under x r w (Answered v n conn status info json close) p = absurd p
owner_answers_under x r w e p = refl

other_answers_under : (x r w : ℕ) → (x == w) ≡ false → (e : Event) → IsOfWorker w e → answers_under x r e ≡ false
other_answers_under x r w d (Answered v n conn status info json close) p = ap (λ b. b && (n == r)) (ap (λ z. z == x) p ∙ turned w x ∙ d)
other_answers_under x r w d e p = refl

module _ (setup : Setup) (is : IsSetup setup) (w : ℕ) (incoming : Incoming) (h : List Event) (world : World) (g : Good setup h world) where
  abbrev pub es : List Event
  es = handled_events setup w incoming world

  abbrev desk : Desk
  desk = (world.workers w).desk

  three : (test : Event → Bool) → count test es ≡ count test (before setup w incoming world) + count test (part w incoming world) + count test (behind setup w incoming world)
  three test = omega (arith, count_append test (before setup w incoming world ++ part w incoming world) (behind setup w incoming world), count_append test (before setup w incoming world) (part w incoming world))

  ask_case : (x : ℕ) (d : Bool) → cond {A = ℕ} ((w == x) && d) 1 0 ≡ cond (x == w) (one_if d) 0
  ask_case x d = by (w == x) d ∙ ap (λ b. cond b (one_if d) 0) (turned w x)
    where
      by : (b c : Bool) → cond {A = ℕ} (b && c) 1 0 ≡ cond b (one_if c) 0
      by true true = refl
      by true false = refl
      by false c = refl

  none_case : (b : Bool) → 0 ≡ cond {A = ℕ} b 0 0
  none_case true = refl
  none_case false = refl

  opening_under : (x r : ℕ) (i : Incoming) → count (asks_under x r) (before setup w i world) ≡ cond (x == w) (gain w r setup i desk) 0
  opening_under x r (TakesPacket from p) = none_case (x == w)
  opening_under x r (ClockReads t) = none_case (x == w)
  opening_under x r Reaps = none_case (x == w)
  opening_under x r (Posts c body) = ask_case x (desk.requests == r)
  opening_under x r (Subscribes k list start) = none_case (x == w)
  opening_under x r (Removes c) = ask_case x (desk.requests == r)
  opening_under x r (Informs c) = ask_case x (desk.requests == r)

  pub step_asks_under : (x r : ℕ) → count (asks_under x r) es ≡ cond (x == w) (gain w r setup incoming desk) 0
  step_asks_under x r = omega (
    arith,
    three (asks_under x r),
    opening_under x r incoming,
    none_counted (asks_under x r) (part w incoming world) (part_all setup is w incoming h world g (λ e. asks_under x r e ≡ false) (owner_asks_under x r w) (λ to n l. refl)),
    none_counted (asks_under x r) (behind setup w incoming world) (behind_all setup is w incoming h world g (λ e. asks_under x r e ≡ false) (worker_asks_under x r w) (λ to n l. refl)),
  )

  one_case : (x : ℕ) → cond {A = ℕ} (w == x) 1 0 ≡ cond (x == w) 1 0
  one_case x = ap (λ b. cond {A = ℕ} b 1 0) (turned w x)

  opening_asks : (x r : ℕ) (i : Incoming) → count (asks x) (before setup w i world) ≡ cond (x == w) (more w r setup i) 0
  opening_asks x r (TakesPacket from p) = none_case (x == w)
  opening_asks x r (ClockReads t) = none_case (x == w)
  opening_asks x r Reaps = none_case (x == w)
  opening_asks x r (Posts c body) = one_case x
  opening_asks x r (Subscribes k list start) = none_case (x == w)
  opening_asks x r (Removes c) = one_case x
  opening_asks x r (Informs c) = one_case x

  pub step_asks : (x r : ℕ) → count (asks x) es ≡ cond (x == w) (more w r setup incoming) 0
  step_asks x r = omega (
    arith,
    three (asks x),
    opening_asks x r incoming,
    none_counted (asks x) (part w incoming world) (part_all setup is w incoming h world g (λ e. asks x e ≡ false) (owner_asks x w) (λ to n l. refl)),
    none_counted (asks x) (behind setup w incoming world) (behind_all setup is w incoming h world g (λ e. asks x e ≡ false) (worker_asks x w) (λ to n l. refl)),
  )

  opening_answers : (x r : ℕ) (i : Incoming) → count (answers_under x r) (before setup w i world) ≡ 0
  opening_answers x r (TakesPacket from p) = refl
  opening_answers x r (ClockReads t) = refl
  opening_answers x r Reaps = refl
  opening_answers x r (Posts c body) = refl
  opening_answers x r (Subscribes k list start) = refl
  opening_answers x r (Removes c) = refl
  opening_answers x r (Informs c) = refl

  abbrev next : ℕ → ℕ
  next = next_after (world.workers w).next (part w incoming world)

  behind_answers : (x r : ℕ) → AwaitsIt w r setup incoming desk → count (answers_under x r) (behind setup w incoming world) ≡ cond (x == w) (loss w r setup incoming) 0
  behind_answers x r one = by (x == w) refl
    where
      mine : count (answers_under w r) (behind setup w incoming world) ≡ loss w r setup incoming
      mine = told_answers w r next (serves setup w incoming world).deeds ∙ (served_effect w r setup incoming desk one).answers

      by : (b : Bool) → (x == w) ≡ b → count (answers_under x r) (behind setup w incoming world) ≡ cond b (loss w r setup incoming) 0
      by true e = ap (λ z. count (answers_under z r) (behind setup w incoming world)) (eq_of x w e) ∙ mine
      by false e = none_counted (answers_under x r) (behind setup w incoming world) (behind_all setup is w incoming h world g (λ y. answers_under x r y ≡ false) (other_answers_under x r w e) (λ to n l. refl))

  pub step_answers : (x r : ℕ) → AwaitsIt w r setup incoming desk → count (answers_under x r) es ≡ cond (x == w) (loss w r setup incoming) 0
  step_answers x r one = omega (
    arith,
    three (answers_under x r),
    opening_answers x r incoming,
    none_counted (answers_under x r) (part w incoming world) (part_all setup is w incoming h world g (λ e. answers_under x r e ≡ false) (owner_answers_under x r w) (λ to n l. refl)),
    behind_answers x r one,
  )

  -- ---- what is made

  made_three : (f : AlertLine → ℕ) (y : ℕ) → made_for f y es ≡ made_for f y (before setup w incoming world) + part_for f y (owns w incoming world) + made_for f y (behind setup w incoming world)
  made_three f y = omega (
    arith,
    made_append f y (before setup w incoming world ++ part w incoming world) (behind setup w incoming world),
    made_append f y (before setup w incoming world) (part w incoming world),
    part_out f y w w (world.workers w).next (owns w incoming world) (of setup is w incoming h world g),
  )

  opening_made : (f : AlertLine → ℕ) (y : ℕ) (i : Incoming) → made_for f y (before setup w i world) ≡ 0
  opening_made f y (TakesPacket from p) = refl
  opening_made f y (ClockReads t) = refl
  opening_made f y Reaps = refl
  opening_made f y (Posts c body) = refl
  opening_made f y (Subscribes k list start) = refl
  opening_made f y (Removes c) = refl
  opening_made f y (Informs c) = refl

  -- what came to be answered
  abbrev pub came : ℕ → ℕ → Incoming → ℕ
  came r y (TakesPacket from p) = cond (y == from) (asking r p.line) 0
  came r y i = 0

  owner_made : (r y : ℕ) (i : Incoming) → PartAnswers r y (came r y i) (owns w i world)
  owner_made r y (TakesPacket from p) =
      let s = holding w (seat w world) in
      sole_answers r y (cond (y == from) (asking r p.line) 0) (owned_by (line_polls p.line s) from p.line s) (owner_answers r y (line_polls p.line s) from p.line s)
  owner_made r y (ClockReads t) = record { part_answered = refl; part_unasked = refl }
  owner_made r y Reaps =
      reap_answers r y setup.workers w (owns w Reaps world)
      (reaps_are setup.workers w (world.rows w) (world.workers w).owner (me setup is w Reaps h world g) (g.owns w)).alerts refl
  owner_made r y (Posts c body) = record { part_answered = refl; part_unasked = refl }
  owner_made r y (Subscribes k list start) = record { part_answered = refl; part_unasked = refl }
  owner_made r y (Removes c) = record { part_answered = refl; part_unasked = refl }
  owner_made r y (Informs c) = record { part_answered = refl; part_unasked = refl }

  pub step_answering : (r y : ℕ) → made_for (answering r) y es ≡ came r y incoming
  step_answering r y = omega (
    arith,
    made_three (answering r) y,
    opening_made (answering r) y incoming,
    (owner_made r y incoming).part_answered,
    told_out (answering r) y setup.workers w next (serves setup w incoming world).deeds (well setup is w incoming h world g),
    deeds_answer_none r y setup.workers w (serves setup w incoming world).deeds (well setup is w incoming h world g),
  )

  pub step_asking : (r y : ℕ) → AwaitsIt w r setup incoming desk → made_for (asking r) y es ≡ cond (y == aim w r setup incoming) (gain w r setup incoming desk) 0
  step_asking r y one = omega (
    arith,
    made_three (asking r) y,
    opening_made (asking r) y incoming,
    (owner_made r y incoming).part_unasked,
    told_out (asking r) y setup.workers w next (serves setup w incoming world).deeds (well setup is w incoming h world g),
    (served_effect w r setup incoming desk one).asks y,
  )

-- ---- numbers that were drawn

module _ (first x : ℕ) where
  abbrev Asks : List Event → ℕ
  Asks h = times_so (asks x) h

  drawn_case : (a b : Bool) (n r t k : ℕ) → (a ≡ true → b ≡ true → n ≡ r) → (a ≡ true → n ≡ first + t) → first + cond a (t + 1) t ≤ r → (first + t ≤ r → k ≡ 0) → cond (a && b) (k + 1) k ≡ 0
  drawn_case true true n r t k e d le go = let p = e refl refl in let q = d refl in absurd (omega (arith, p, q, le))
  drawn_case true false n r t k e d le go = go (omega (arith, le))
  drawn_case false b n r t k e d le go = go le

  -- a number that is still to be drawn was asked under by nobody
  pub never_asked : (r : ℕ) (h : List Event) → Along (DrawnAt first) h → first + Asks h ≤ r → times_so (asks_under x r) h ≡ 0
  never_asked r [] a le = refl
  never_asked r (Asked v n None acts.Publish list status rule ∷ h) a le =
      drawn_case (v == x) (n == r) n r (Asks h) (times_so (asks_under x r) h) (λ i j. eq_of n r j) (λ i. a.1 ∙ ap (λ z. first + times_so (asks z) h) (eq_of v x i)) le (never_asked r h a.0)
  never_asked r (Asked v n None acts.Info list status rule ∷ h) a le =
      drawn_case (v == x) (n == r) n r (Asks h) (times_so (asks_under x r) h) (λ i j. eq_of n r j) (λ i. a.1 ∙ ap (λ z. first + times_so (asks z) h) (eq_of v x i)) le (never_asked r h a.0)
  never_asked r (Asked v n None acts.Delete list status rule ∷ h) a le =
      drawn_case (v == x) (n == r) n r (Asks h) (times_so (asks_under x r) h) (λ i j. eq_of n r j) (λ i. a.1 ∙ ap (λ z. first + times_so (asks z) h) (eq_of v x i)) le (never_asked r h a.0)
  never_asked r (e ∷ h) a le = never_asked r h a.0 le

  once_case : (a b : Bool) (n r t k : ℕ) → (a ≡ true → b ≡ true → n ≡ r) → (a ≡ true → n ≡ first + t) → k ≤ 1 → (first + t ≤ r → k ≡ 0) → cond (a && b) (k + 1) k ≤ 1
  once_case true true n r t k e d le go = let p = e refl refl in let q = d refl in let z = go (omega (arith, p, q)) in omega (arith, z)
  once_case true false n r t k e d le go = le
  once_case false b n r t k e d le go = le

  -- and each is asked under once at most
  pub once_asked : (r : ℕ) (h : List Event) → Along (DrawnAt first) h → times_so (asks_under x r) h ≤ 1
  once_asked r [] a = omega arith
  once_asked r (Asked v n None acts.Publish list status rule ∷ h) a =
      once_case (v == x) (n == r) n r (Asks h) (times_so (asks_under x r) h) (λ i j. eq_of n r j) (λ i. a.1 ∙ ap (λ z. first + times_so (asks z) h) (eq_of v x i)) (once_asked r h a.0) (never_asked r h a.0)
  once_asked r (Asked v n None acts.Info list status rule ∷ h) a =
      once_case (v == x) (n == r) n r (Asks h) (times_so (asks_under x r) h) (λ i j. eq_of n r j) (λ i. a.1 ∙ ap (λ z. first + times_so (asks z) h) (eq_of v x i)) (once_asked r h a.0) (never_asked r h a.0)
  once_asked r (Asked v n None acts.Delete list status rule ∷ h) a =
      once_case (v == x) (n == r) n r (Asks h) (times_so (asks_under x r) h) (λ i j. eq_of n r j) (λ i. a.1 ∙ ap (λ z. first + times_so (asks z) h) (eq_of v x i)) (once_asked r h a.0) (never_asked r h a.0)
  once_asked r (e ∷ h) a = once_asked r h a.0
