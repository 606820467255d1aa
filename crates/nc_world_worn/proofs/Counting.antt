-- The journal shows each counter of a worker, and so where a worker is worn.
use Rattle.std.proofs.Common.{◌≡◌, ◌⊎◌, inl, inr, ℕ, zero, suc, ◌+◌, ◌^◌, ◌<◌, ◌≤◌, Bool, true, false, cond, List, [], ◌∷◌, refl, sym, ap, ◌∙◌, subst, arith}
use Rattle.std.specs.Prelude.{◌==◌, ◌||◌, nat_le}
use Rattle.std.specs.List.{list_any}
use Rattle.std.proofs.lemmas.Bool.Decides.{nat_tests}
use Rattle.nc_journal.specs.History.{own, is_by, Along}
use Rattle.nc_journal.specs.Holding.{times_so}
use Rattle.nc_journal.specs.declared.event.Event.{Event}
use Rattle.nc_journal.specs.declared.event.Event.TheVariants.{Asked, Looked, Edged, Granted, Made}
use Rattle.nc_journal.specs.declared.alert.AlertLine.{AlertLine}
use Rattle.nc_journal.specs.declared.alert.AlertLine.TheVariants as lines
use Rattle.nc_owner.specs.declared.desk.Desk.{Desk as OwnerDesk}
use Rattle.nc_owner_laws.specs.Filters.{new_desk}
use Rattle.nc_owner_laws.specs.InOrder.{next_look, next_grant, DrawsNext}
use Rattle.nc_owner_laws.proofs.InOrder.{looks_law, grants_law}
use Rattle.nc_spool_laws.specs.Numbers.{one, total}
use Rattle.nc_worker_state.specs.Setup.{Setup}
use Rattle.nc_worker_state.specs.Worker.{WorkerAt, is_worn_number, any_worn, is_worn}
use Rattle.nc_world.specs.World.{World}
use Rattle.nc_world.specs.Reached.{IsSetup, Reached}
use Rattle.nc_world_laws.proofs.Moving.{reached_is_good}
use Rattle.nc_world_worn.specs.Counters.{Counter, Requests, AskedLooks, MadeLooks, Grants, PacketsTo, is_request, asks_look, is_look, is_grant, IsCounter, IsWornIn}
use Rattle.nc_world_worn.specs.Laws.{counter_of, CountersAreTold, WornIsShown}
use Rattle.nc_world_worn.proofs.Asking.{line_asks, event_asks, event_requests}
use Rattle.nc_world_worn.proofs.Carrying.{reached_counted}

-- ---- what a worker did stands in its own history

turned : (a b : ℕ) (c : Bool) → (a == b) ≡ c → (b == a) ≡ c
turned a b c e = sym (same a b) ∙ e
  where
    same : (x y : ℕ) → (x == y) ≡ (y == x)
    same x y = grind (arith, nat_tests)

plus_one : (b : Bool) (n : ℕ) → cond b (n + 1) n ≡ one b + n
plus_one true n = omega arith
plus_one false n = omega arith

module _ (w : ℕ) where
  -- a test of what the worker does is a weight of events
  pub record Weighs (test : Event → Bool) (weight : Event → ℕ) : Type 0 where
    pub by : (e : Event) → is_by w e ≡ true → one (test e) ≡ weight e
    pub other : (e : Event) → is_by w e ≡ false → test e ≡ false

  times_own : (test : Event → Bool) (weight : Event → ℕ) → Weighs test weight → (h : List Event) → times_so test h ≡ total weight (own w h)
  times_own test weight k [] = refl
  times_own test weight k (e ∷ h) = cases (is_by w e) refl (times_own test weight k h)
    where
      cases : (b : Bool) → is_by w e ≡ b → times_so test h ≡ total weight (own w h) → cond (test e) (times_so test h + 1) (times_so test h) ≡ total weight (cond b (e ∷ own w h) (own w h))
      cases true i same = let p = plus_one (test e) (times_so test h) in let q = k.by e i in omega (arith, p, q, same)
      cases false i same = ap (λ (b : Bool). cond b (times_so test h + 1) (times_so test h)) (k.other e i) ∙ same

  is_one : (v : ℕ) → (w == v) ≡ true → one (v == w) ≡ 1
  is_one v e = ap one (turned w v true e)

  -- ---- requests

  requests_weigh : Weighs (is_request w) event_requests
  requests_weigh = record { by = mine; other = others }
    where
      mine : (e : Event) → is_by w e ≡ true → one (is_request w e) ≡ event_requests e
      mine (Asked v r conn act list status rule) i = is_one v i
      mine e i = refl

      others : (e : Event) → is_by w e ≡ false → is_request w e ≡ false
      others (Asked v r conn act list status rule) i = turned w v false i
      others e i = refl

  -- ---- looks and edges that are asked for

  line_mine : (v to n : ℕ) (a : AlertLine) → (w == v) ≡ true → one (asks_look w (Made v to n a)) ≡ line_asks a
  line_mine v to n (lines.Look number c after fence) i = is_one v i
  line_mine v to n (lines.Edge number k c fence) i = is_one v i
  line_mine v to n a i = refl

  line_other : (v to n : ℕ) (a : AlertLine) → (w == v) ≡ false → asks_look w (Made v to n a) ≡ false
  line_other v to n (lines.Look number c after fence) i = turned w v false i
  line_other v to n (lines.Edge number k c fence) i = turned w v false i
  line_other v to n a i = refl

  asks_weigh : Weighs (asks_look w) event_asks
  asks_weigh = record { by = mine; other = others }
    where
      mine : (e : Event) → is_by w e ≡ true → one (asks_look w e) ≡ event_asks e
      mine (Made v to n a) i = line_mine v to n a i
      mine e i = refl

      others : (e : Event) → is_by w e ≡ false → asks_look w e ≡ false
      others (Made v to n a) i = line_other v to n a i
      others e i = refl

  -- ---- looks and edges that are made, and grants

  abbrev look_weight : Event → ℕ
  look_weight (Looked v q from number c after floor found) = 1
  look_weight (Edged v q from number k c floor last) = 1
  look_weight e = 0

  looks_weigh : Weighs (is_look w) look_weight
  looks_weigh = record { by = mine; other = others }
    where
      mine : (e : Event) → is_by w e ≡ true → one (is_look w e) ≡ look_weight e
      mine (Looked v q from number c after floor found) i = is_one v i
      mine (Edged v q from number k c floor last) i = is_one v i
      mine e i = refl

      others : (e : Event) → is_by w e ≡ false → is_look w e ≡ false
      others (Looked v q from number c after floor found) i = turned w v false i
      others (Edged v q from number k c floor last) i = turned w v false i
      others e i = refl

  abbrev grant_weight : Event → ℕ
  grant_weight (Granted v g slot to) = 1
  grant_weight e = 0

  grants_weigh : Weighs (is_grant w) grant_weight
  grants_weigh = record { by = mine; other = others }
    where
      mine : (e : Event) → is_by w e ≡ true → one (is_grant w e) ≡ grant_weight e
      mine (Granted v g slot to) i = is_one v i
      mine e i = refl

      others : (e : Event) → is_by w e ≡ false → is_grant w e ≡ false
      others (Granted v g slot to) i = turned w v false i
      others e i = refl

  -- the next numbers are behind those that were drawn
  looks_counted : (first : ℕ) (l : List Event) → Along (DrawsNext first) l → next_look first l ≡ first + total look_weight l
  looks_counted first [] d = omega arith
  looks_counted first (Looked v q from number c after floor found ∷ l) d = let k = looks_counted first l d.0 in let same : q ≡ next_look first l = d.1 in omega (arith, k, same)
  looks_counted first (Edged v q from number n c floor last ∷ l) d = let k = looks_counted first l d.0 in let same : q ≡ next_look first l = d.1 in omega (arith, k, same)
  looks_counted first (e ∷ l) d = let k = looks_counted first l d.0 in omega (arith, k)

  grants_counted : (first : ℕ) (l : List Event) → Along (DrawsNext first) l → next_grant first l ≡ first + total grant_weight l
  grants_counted first [] d = omega arith
  grants_counted first (Granted v g slot to ∷ l) d = let k = grants_counted first l d.0 in let same : g ≡ next_grant first l = d.1 in omega (arith, k, same)
  grants_counted first (e ∷ l) d = let k = grants_counted first l d.0 in omega (arith, k)

-- ---- the counters

-- of a count by events and one by weights
by_weight : (first value times weight : ℕ) → value ≡ first + weight → times ≡ weight → value ≡ first + times
by_weight first value times weight e f = omega (arith, e, f)

pub counters_are_told : CountersAreTold
counters_are_told setup h world is reached w Requests =
    by_weight setup.first (world.workers w).desk.requests (times_so (is_request w) h) (total event_requests (own w h)) ((reached_counted setup h world is reached).requests w) (times_own w (is_request w) event_requests (requests_weigh w) h)
counters_are_told setup h world is reached w AskedLooks =
    by_weight setup.first (world.workers w).desk.spools.next (times_so (asks_look w) h) (total event_asks (own w h)) ((reached_counted setup h world is reached).asks w) (times_own w (asks_look w) event_asks (asks_weigh w) h)
counters_are_told setup h world is reached w MadeLooks =
    let k = (reached_is_good setup h world is reached).keeps w in
    let first = new_desk w setup.workers setup.slots setup.first in
    by_weight setup.first (world.workers w).owner.desk.looks (times_so (is_look w) h) (total (look_weight w) (own w h))
    (ap (λ (d : OwnerDesk). d.looks) k.stands.tells.desk ∙ looks_law first (own w h) ∙ looks_counted w setup.first (own w h) k.ordered.draws) (times_own w (is_look w) (look_weight w) (looks_weigh w) h)
counters_are_told setup h world is reached w Grants =
    let k = (reached_is_good setup h world is reached).keeps w in
    let first = new_desk w setup.workers setup.slots setup.first in
    by_weight setup.first (world.workers w).owner.desk.grants (times_so (is_grant w) h) (total (grant_weight w) (own w h))
    (ap (λ (d : OwnerDesk). d.grants) k.stands.tells.desk ∙ grants_law first (own w h) ∙ grants_counted w setup.first (own w h) k.ordered.draws) (times_own w (is_grant w) (grant_weight w) (grants_weigh w) h)
counters_are_told setup h world is reached w (PacketsTo to) = (reached_is_good setup h world is reached).follow w to

-- ---- worn workers

high_of : (m n : ℕ) → nat_le m n ≡ true → m ≤ n
high_of m n e = grind (arith, nat_tests)

is_high : (m n : ℕ) → m ≤ n → nat_le m n ≡ true
is_high m n e = grind (arith, nat_tests)

one_of : (a b : Bool) → (a || b) ≡ true → (a ≡ true) ⊎ (b ≡ true)
one_of true b e = inl refl
one_of false b e = inr e

first_of_two : (a b : Bool) → a ≡ true → (a || b) ≡ true
first_of_two true b e = refl
first_of_two false b e = absurd cc

second_of_two : (a b : Bool) → b ≡ true → (a || b) ≡ true
second_of_two true b e = refl
second_of_two false b e = e

-- a number of packets is worn
worn_packets : (n : ℕ) (next : ℕ → ℕ) → any_worn n next ≡ true → (to : ℕ) × (to < n) × (is_worn_number (next to) ≡ true)
worn_packets zero next e = absurd cc
worn_packets (suc n) next e = cases (one_of (any_worn n next) (is_worn_number (next n)) e) (worn_packets n next)
  where
    cases : (any_worn n next ≡ true) ⊎ (is_worn_number (next n) ≡ true) → (any_worn n next ≡ true → (to : ℕ) × (to < n) × (is_worn_number (next to) ≡ true)) → (to : ℕ) × (to < suc n) × (is_worn_number (next to) ≡ true)
    cases (inl a) go = let k = go a in let lt = k.1 in (k.0, omega (arith, lt), k.2)
    cases (inr b) go = (n, omega arith, b)

packets_worn : (n to : ℕ) (next : ℕ → ℕ) → to < n → is_worn_number (next to) ≡ true → any_worn n next ≡ true
packets_worn zero to next lt e = absurd (omega (arith, lt))
packets_worn (suc n) to next lt e = cases (near to n lt) (λ l. packets_worn n to next l e)
  where
    near : (a b : ℕ) → a < suc b → (a < b) ⊎ (a ≡ b)
    near a b lt = grind arith

    cases : (to < n) ⊎ (to ≡ n) → (to < n → any_worn n next ≡ true) → (any_worn n next || is_worn_number (next n)) ≡ true
    cases (inl l) go = first_of_two (any_worn n next) (is_worn_number (next n)) (go l)
    cases (inr same) go = second_of_two (any_worn n next) (is_worn_number (next n)) (subst (λ (x : ℕ). is_worn_number (next x) ≡ true) same e)

-- a worn worker has such a counter, and a worker with such a counter is worn
pub record HasWorn (workers : ℕ) (s : WorkerAt) : Type 0 where
  pub counter : Counter
  pub there : IsCounter workers counter
  pub worn : is_worn_number (counter_of counter s) ≡ true

has_worn : (workers : ℕ) (s : WorkerAt) → is_worn workers s ≡ true → HasWorn workers s
has_worn workers s e = whole (one_of (list_any is_worn_number (s.desk.spools.next ∷ s.owner.desk.looks ∷ s.owner.desk.grants ∷ s.desk.requests ∷ [])) (any_worn workers s.next) e)
  where
    fourth : (is_worn_number s.desk.requests ≡ true) ⊎ (false ≡ true) → HasWorn workers s
    fourth (inl a) = record { counter = Requests; there = tt; worn = a }
    fourth (inr b) = absurd cc

    third : (is_worn_number s.owner.desk.grants ≡ true) ⊎ (list_any is_worn_number (s.desk.requests ∷ []) ≡ true) → HasWorn workers s
    third (inl a) = record { counter = Grants; there = tt; worn = a }
    third (inr b) = fourth (one_of (is_worn_number s.desk.requests) false b)

    second : (is_worn_number s.owner.desk.looks ≡ true) ⊎ (list_any is_worn_number (s.owner.desk.grants ∷ s.desk.requests ∷ []) ≡ true) → HasWorn workers s
    second (inl a) = record { counter = MadeLooks; there = tt; worn = a }
    second (inr b) = third (one_of (is_worn_number s.owner.desk.grants) (list_any is_worn_number (s.desk.requests ∷ [])) b)

    front : (is_worn_number s.desk.spools.next ≡ true) ⊎ (list_any is_worn_number (s.owner.desk.looks ∷ s.owner.desk.grants ∷ s.desk.requests ∷ []) ≡ true) → HasWorn workers s
    front (inl a) = record { counter = AskedLooks; there = tt; worn = a }
    front (inr b) = second (one_of (is_worn_number s.owner.desk.looks) (list_any is_worn_number (s.owner.desk.grants ∷ s.desk.requests ∷ [])) b)

    whole : (list_any is_worn_number (s.desk.spools.next ∷ s.owner.desk.looks ∷ s.owner.desk.grants ∷ s.desk.requests ∷ []) ≡ true) ⊎ (any_worn workers s.next ≡ true) → HasWorn workers s
    whole (inl a) = front (one_of (is_worn_number s.desk.spools.next) (list_any is_worn_number (s.owner.desk.looks ∷ s.owner.desk.grants ∷ s.desk.requests ∷ [])) a)
    whole (inr b) = let k = worn_packets workers s.next b in record { counter = PacketsTo k.0; there = k.1; worn = k.2 }

worn_by : (workers : ℕ) (s : WorkerAt) (counter : Counter) → IsCounter workers counter → is_worn_number (counter_of counter s) ≡ true → is_worn workers s ≡ true
worn_by workers s AskedLooks there e = ap (λ (b : Bool). (b || list_any is_worn_number (s.owner.desk.looks ∷ s.owner.desk.grants ∷ s.desk.requests ∷ [])) || any_worn workers s.next) e
worn_by workers s MadeLooks there e =
    first_of_two (list_any is_worn_number (s.desk.spools.next ∷ s.owner.desk.looks ∷ s.owner.desk.grants ∷ s.desk.requests ∷ [])) (any_worn workers s.next)
    (second_of_two (is_worn_number s.desk.spools.next) (list_any is_worn_number (s.owner.desk.looks ∷ s.owner.desk.grants ∷ s.desk.requests ∷ []))
    (first_of_two (is_worn_number s.owner.desk.looks) (list_any is_worn_number (s.owner.desk.grants ∷ s.desk.requests ∷ [])) e))
worn_by workers s Grants there e =
    first_of_two (list_any is_worn_number (s.desk.spools.next ∷ s.owner.desk.looks ∷ s.owner.desk.grants ∷ s.desk.requests ∷ [])) (any_worn workers s.next)
    (second_of_two (is_worn_number s.desk.spools.next) (list_any is_worn_number (s.owner.desk.looks ∷ s.owner.desk.grants ∷ s.desk.requests ∷ []))
    (second_of_two (is_worn_number s.owner.desk.looks) (list_any is_worn_number (s.owner.desk.grants ∷ s.desk.requests ∷ []))
    (first_of_two (is_worn_number s.owner.desk.grants) (list_any is_worn_number (s.desk.requests ∷ [])) e)))
worn_by workers s Requests there e =
    first_of_two (list_any is_worn_number (s.desk.spools.next ∷ s.owner.desk.looks ∷ s.owner.desk.grants ∷ s.desk.requests ∷ [])) (any_worn workers s.next)
    (second_of_two (is_worn_number s.desk.spools.next) (list_any is_worn_number (s.owner.desk.looks ∷ s.owner.desk.grants ∷ s.desk.requests ∷ []))
    (second_of_two (is_worn_number s.owner.desk.looks) (list_any is_worn_number (s.owner.desk.grants ∷ s.desk.requests ∷ []))
    (second_of_two (is_worn_number s.owner.desk.grants) (list_any is_worn_number (s.desk.requests ∷ []))
    (first_of_two (is_worn_number s.desk.requests) false e))))
worn_by workers s (PacketsTo to) there e =
    second_of_two (list_any is_worn_number (s.desk.spools.next ∷ s.owner.desk.looks ∷ s.owner.desk.grants ∷ s.desk.requests ∷ [])) (any_worn workers s.next) (packets_worn workers to s.next there e)

pub shown_worn : (setup : Setup) (h : List Event) (world : World) → IsSetup setup → Reached setup h world → (w : ℕ) → is_worn setup.workers (world.workers w) ≡ true → IsWornIn setup w h
shown_worn setup h world is reached w e =
    let k = has_worn setup.workers (world.workers w) e in
    record {
      counter = k.counter;
      there = k.there;
      high = subst (λ (n : ℕ). 2 ^ 63 ≤ n) (counters_are_told setup h world is reached w k.counter) (high_of (2 ^ 63) (counter_of k.counter (world.workers w)) k.worn);
    }

worn_shown : (setup : Setup) (h : List Event) (world : World) → IsSetup setup → Reached setup h world → (w : ℕ) → IsWornIn setup w h → is_worn setup.workers (world.workers w) ≡ true
worn_shown setup h world is reached w k =
    worn_by setup.workers (world.workers w) k.counter k.there
    (is_high (2 ^ 63) (counter_of k.counter (world.workers w)) (subst (λ (n : ℕ). 2 ^ 63 ≤ n) (sym (counters_are_told setup h world is reached w k.counter)) k.high))

pub worn_is_shown : WornIsShown
worn_is_shown setup h world is reached w = (shown_worn setup h world is reached w, worn_shown setup h world is reached w)
