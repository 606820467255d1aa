-- Each move keeps the balance of holds.
use Rattle.std.proofs.Common.{◌≡◌, ℕ, ◌+◌, Bool, true, false, cond, List, [], ◌∷◌, ◌++◌, refl, sym, ap, ◌∙◌, arith}
use Rattle.std.specs.Prelude.{◌==◌, ◌&&◌}
use Rattle.std.specs.List.{AllByRecursion}
use Rattle.std.proofs.lemmas.Bool.Decides.{nat_tests}
use Rattle.std.proofs.lemmas.List.{map-append}
use Rattle.nc_journal.specs.History.{onto}
use Rattle.nc_journal.specs.declared.event.Event.{Event}
use Rattle.nc_journal.specs.declared.event.Event.TheVariants.{Granted, Released}
use Rattle.nc_journal.specs.declared.alert.AlertLine.{AlertLine}
use Rattle.nc_history.specs.Packets.{Packet, lines_of, pending}
use Rattle.nc_worker_state.specs.Worker.{WorkerAt, with_at, sent_to}
use Rattle.nc_world.specs.World.{World}
use Rattle.nc_world_holds.specs.Balance.{granted_to, released_by, carried_by, kept_by}
use Rattle.nc_world_holds.proofs.Granting.{grants_to}
use Rattle.nc_world_laws.proofs.WorkerKinds.{IsBy, IsUntaken}
use Rattle.nc_world_laws.proofs.Local.{eq_of}
use Rattle.nc_world_laws.proofs.Queues.{pending_after}

module _ (test : ℕ → ℕ → Bool) where
  -- ---- counts over the events of a worker

  carried_append : (xs ys : List AlertLine) → carried_by test (xs ++ ys) ≡ carried_by test xs + carried_by test ys
  carried_append [] ys = omega arith
  carried_append (l ∷ xs) ys = omega (arith, carried_append xs ys)

  pub packets_append : (ps qs : List Packet) → carried_by test (lines_of (ps ++ qs)) ≡ carried_by test (lines_of ps) + carried_by test (lines_of qs)
  packets_append ps qs = ap (carried_by test) (map-append (λ (p : Packet). p.line) ps qs) ∙ carried_append (lines_of ps) (lines_of qs)

  -- how many of an owner's holds some events release
  abbrev pub releases_in : ℕ → List Event → ℕ
  releases_in o [] = 0
  releases_in o (Released v owner g slot ∷ es) = cond ((owner == o) && test g slot) (releases_in o es + 1) (releases_in o es)
  releases_in o (e ∷ es) = releases_in o es

  grant_case : (a b c : Bool) (n m k : ℕ) → m ≡ cond ((a && b) && c) (n + 1) n + cond a k 0 → m ≡ n + cond a (cond (b && c) (k + 1) k) 0
  grant_case true true true n m k e = omega (arith, e)
  grant_case true true false n m k e = e
  grant_case true false c n m k e = e
  grant_case false b c n m k e = e

  granted_step : (o x w : ℕ) (es h : List Event) → AllByRecursion (IsBy w) es → granted_to test o x (onto es h) ≡ granted_to test o x h + cond (w == o) (grants_to test x es) 0
  granted_step o x w [] h by = none (w == o)
    where
      none : (b : Bool) → granted_to test o x h ≡ granted_to test o x h + cond {A = ℕ} b 0 0
      none true = omega arith
      none false = omega arith
  granted_step o x w (Granted v g slot to ∷ es) h by =
      let same : w ≡ v = eq_of w v by.0 in
      let e : granted_to test o x (onto es (Granted v g slot to ∷ h)) ≡ cond (((v == o) && (to == x)) && test g slot) (granted_to test o x h + 1) (granted_to test o x h) + cond (w == o) (grants_to test x es) 0 = granted_step o x w es (Granted v g slot to ∷ h) by.1 in
      grant_case (w == o) (to == x) (test g slot) (granted_to test o x h) _ (grants_to test x es)
      (e ∙ ap (λ (u : ℕ). cond (((u == o) && (to == x)) && test g slot) (granted_to test o x h + 1) (granted_to test o x h) + cond (w == o) (grants_to test x es) 0) (sym same))
  granted_step o x w (e ∷ es) h by = granted_step o x w es (e ∷ h) by.1

  release_case : (a b c : Bool) (n m k : ℕ) → m ≡ cond ((a && b) && c) (n + 1) n + cond b k 0 → m ≡ n + cond b (cond (a && c) (k + 1) k) 0
  release_case true true true n m k e = omega (arith, e)
  release_case true true false n m k e = e
  release_case true false c n m k e = e
  release_case false true c n m k e = e
  release_case false false c n m k e = e

  pub released_step : (o x w : ℕ) (es h : List Event) → AllByRecursion (IsBy w) es → released_by test o x (onto es h) ≡ released_by test o x h + cond (w == x) (releases_in o es) 0
  released_step o x w [] h by = none (w == x)
    where
      none : (b : Bool) → released_by test o x h ≡ released_by test o x h + cond {A = ℕ} b 0 0
      none true = omega arith
      none false = omega arith
  released_step o x w (Released v owner g slot ∷ es) h by =
      let same : w ≡ v = eq_of w v by.0 in
      let e : released_by test o x (onto es (Released v owner g slot ∷ h)) ≡ cond (((owner == o) && (v == x)) && test g slot) (released_by test o x h + 1) (released_by test o x h) + cond (w == x) (releases_in o es) 0 = released_step o x w es (Released v owner g slot ∷ h) by.1 in
      release_case (owner == o) (w == x) (test g slot) (released_by test o x h) _ (releases_in o es)
      (e ∙ ap (λ (u : ℕ). cond (((owner == o) && (u == x)) && test g slot) (released_by test o x h + 1) (released_by test o x h) + cond (w == x) (releases_in o es) 0) (sym same))
  released_step o x w (e ∷ es) h by = released_step o x w es (e ∷ h) by.1

  -- ---- one worker's step

  sum_case : (a b : Bool) (g r c k g1 r1 c1 k1 n : ℕ) → g ≡ r + c + k + cond b n 0 → (b ≡ true → r1 + k1 ≡ n + k) → g1 ≡ c1 → g + cond a g1 0 ≡ r + cond b r1 0 + (c + cond a c1 0) + cond b k1 k
  sum_case true true g r c k g1 r1 c1 k1 n e f s = let q = f refl in omega (arith, e, q, s)
  sum_case true false g r c k g1 r1 c1 k1 n e f s = omega (arith, e, s)
  sum_case false true g r c k g1 r1 c1 k1 n e f s = let q = f refl in omega (arith, e, q)
  sum_case false false g r c k g1 r1 c1 k1 n e f s = omega (arith, e)

  turned : (a b : ℕ) → (a == b) ≡ (b == a)
  turned a b = grind (arith, nat_tests)

  cond_carried : (b : Bool) (ps : List Packet) → carried_by test (lines_of (cond b ps [])) ≡ cond b (carried_by test (lines_of ps)) 0
  cond_carried true ps = refl
  cond_carried false ps = refl

  cond_kept : (b : Bool) (o : ℕ) (new old : WorkerAt) → kept_by test o (cond b new old).desk.spools.kept ≡ cond b (kept_by test o new.desk.spools.kept) (kept_by test o old.desk.spools.kept)
  cond_kept true o new old = refl
  cond_kept false o new old = refl

  -- what a worker does grants to others what it sends them, and releases and keeps what came to it
  pub record Balanced (w : ℕ) (came : ℕ → ℕ) (es : List Event) (old new : WorkerAt) : Type 0 where
    pub by : AllByRecursion (IsBy w) es
    pub untaken : AllByRecursion IsUntaken es
    pub sends : (x : ℕ) → grants_to test x es ≡ carried_by test (lines_of (sent_to x es))
    pub keeps : (o : ℕ) → releases_in o es + kept_by test o new.desk.spools.kept ≡ came o + kept_by test o old.desk.spools.kept

  pub step_balances : (w : ℕ) (came : ℕ → ℕ) (es h : List Event) (world : World) (new : WorkerAt) → Balanced w came es (world.workers w) new
      → ((o x : ℕ) → granted_to test o x h ≡ released_by test o x h + carried_by test (lines_of (pending o x h)) + kept_by test o (world.workers x).desk.spools.kept + cond (w == x) (came o) 0)
      → (o x : ℕ) → granted_to test o x (onto es h) ≡ released_by test o x (onto es h) + carried_by test (lines_of (pending o x (onto es h))) + kept_by test o (with_at world.workers w new x).desk.spools.kept
  step_balances w came es h world new k before o x =
      let sent : carried_by test (lines_of (pending o x (onto es h))) ≡ carried_by test (lines_of (pending o x h)) + cond (w == o) (carried_by test (lines_of (sent_to x es))) 0
      = ap (λ (ps : List Packet). carried_by test (lines_of ps)) (pending_after w o x es h k.by k.untaken) ∙ packets_append (pending o x h) (cond (o == w) (sent_to x es) [])
      ∙ ap (λ n. carried_by test (lines_of (pending o x h)) + n) (cond_carried (o == w) (sent_to x es) ∙ ap (λ b. cond b (carried_by test (lines_of (sent_to x es))) 0) (turned o w)) in
      let kept : kept_by test o (with_at world.workers w new x).desk.spools.kept ≡ cond (w == x) (kept_by test o new.desk.spools.kept) (kept_by test o (world.workers x).desk.spools.kept)
      = cond_kept (x == w) o new (world.workers x) ∙ ap (λ b. cond b (kept_by test o new.desk.spools.kept) (kept_by test o (world.workers x).desk.spools.kept)) (turned x w) in
      granted_step o x w es h k.by
      ∙ sum_case (w == o) (w == x) _ _ _ _ _ (releases_in o es) _ (kept_by test o new.desk.spools.kept) (came o) (before o x)
      (λ e. k.keeps o ∙ ap (λ (u : ℕ). came o + kept_by test o (world.workers u).desk.spools.kept) (eq_of w x e)) (k.sends x)
      ∙ (λ i. sym (released_step o x w es h k.by) i + sym sent i + sym kept i)
