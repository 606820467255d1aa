-- What all workers were granted and released of a slot: never more released than granted.
use Rattle.std.proofs.Common.{◌≡◌, ℕ, zero, suc, ◌+◌, ◌<◌, ◌≤◌, Bool, true, false, cond, List, [], ◌∷◌, refl, ap, ◌∙◌, arith}
use Rattle.std.specs.Prelude.{◌==◌, ◌&&◌}
use Rattle.std.specs.List.{AllByRecursion}
use Rattle.std.proofs.lemmas.Bool.Decides.{nat_tests}
use Rattle.nc_journal.specs.Holding.{times_so, grants_slot, releases_slot}
use Rattle.nc_journal.specs.declared.event.Event.{Event}
use Rattle.nc_journal.specs.declared.event.Event.TheVariants.{Granted, Released}
use Rattle.nc_world.specs.World.{World, sum_below}
use Rattle.nc_world_holds.specs.Balance.{granted_to, released_by, IsBalanced}

-- the grants and releases of some events are to and by workers below a number
abbrev pub IsBelow : ℕ → Event → Type 0
IsBelow n (Granted w g slot to) = to < n
IsBelow n (Released w owner g slot) = w < n
IsBelow n _ = Unit {0}

below_more : (n m : ℕ) (e : Event) → n ≤ m → IsBelow n e → IsBelow m e
below_more n m (Granted w g slot to) le b = omega (arith, le, b)
below_more n m (Released w owner g slot) le b = omega (arith, le, b)
below_more n m e le b = tt

all_more : (n m : ℕ) (h : List Event) → n ≤ m → AllByRecursion (IsBelow n) h → AllByRecursion (IsBelow m) h
all_more n m [] le a = tt
all_more n m (e ∷ h) le a = (below_more n m e le a.0, all_more n m h le a.1)

pub record Bounded (h : List Event) : Type 0 where
  pub bound : ℕ
  pub all : AllByRecursion (IsBelow bound) h

bounded_more : (h : List Event) (e : Event) (k : ℕ) → IsBelow (suc k) e → Bounded h → Bounded (e ∷ h)
bounded_more h e k b r = record {
  bound = suc k + r.bound;
  all = (below_more (suc k) (suc k + r.bound) e (omega arith) b, all_more r.bound (suc k + r.bound) h (omega arith) r.all);
}

-- each history has such a number
pub bounded : (h : List Event) → Bounded h
bounded [] = record { bound = 0; all = tt }
bounded (Granted w g slot to ∷ h) = bounded_more h (Granted w g slot to) to (omega arith) (bounded h)
bounded (Released w owner g slot ∷ h) = bounded_more h (Released w owner g slot) w (omega arith) (bounded h)
bounded (e ∷ h) = let r = bounded h in record { bound = r.bound; all = (tt, r.all) }

-- one term of a sum is one more
pub sum_same : (f g : ℕ → ℕ) (n : ℕ) → ((x : ℕ) → f x ≡ g x) → sum_below f n ≡ sum_below g n
sum_same f g zero s = refl
sum_same f g (suc n) s = omega (arith, sum_same f g n s, s n)

one_past : (f : ℕ → ℕ) (k n : ℕ) → n ≤ k → sum_below (λ x. cond (k == x) (f x + 1) (f x)) n ≡ sum_below f n
one_past f k zero le = refl
one_past f k (suc n) le = by (k == n) (one_past f k n (omega (arith, le))) (differs k n le)
  where
    differs : (a b : ℕ) → suc b ≤ a → (a == b) ≡ false
    differs a b le = grind (arith, nat_tests)

    by : (b : Bool) → sum_below (λ x. cond (k == x) (f x + 1) (f x)) n ≡ sum_below f n → b ≡ false → sum_below (λ x. cond (k == x) (f x + 1) (f x)) n + cond b (f n + 1) (f n) ≡ sum_below f n + f n
    by true e d = absurd cc
    by false e d = omega (arith, e)

one_more : (f : ℕ → ℕ) (k n : ℕ) → k < n → sum_below (λ x. cond (k == x) (f x + 1) (f x)) n ≡ sum_below f n + 1
one_more f k zero lt = absurd (omega (arith, lt))
one_more f k (suc n) lt = by (k == n) refl (one_more f k n)
  where
    same : (a b : ℕ) → (a == b) ≡ true → a ≡ b
    same a b e = grind (arith, nat_tests)

    less : (a b : ℕ) → (a == b) ≡ false → a < suc b → a < b
    less a b e l = grind (arith, nat_tests)

    at_most : (a b : ℕ) → a ≡ b → b ≤ a
    at_most a b e = omega (arith, e)

    by : (b : Bool) → (k == n) ≡ b → (k < n → sum_below (λ x. cond (k == x) (f x + 1) (f x)) n ≡ sum_below f n + 1)
        → sum_below (λ x. cond (k == x) (f x + 1) (f x)) n + cond b (f n + 1) (f n) ≡ sum_below f n + f n + 1
    by true e go = omega (arith, one_past f k n (at_most k n (same k n e)))
    by false e go = omega (arith, go (less k n e lt))

-- ---- all workers together

module _ (o s : ℕ) where
  abbrev of_slot : ℕ → ℕ → Bool
  of_slot g slot = slot == s

  pub grant_term : (f : ℕ → ℕ) (a c : Bool) (k n : ℕ) → k < n → sum_below (λ x. cond ((a && (k == x)) && c) (f x + 1) (f x)) n ≡ cond (a && c) (sum_below f n + 1) (sum_below f n)
  grant_term f true true k n lt = sum_same _ (λ x. cond (k == x) (f x + 1) (f x)) n (λ x. ap (λ b. cond b (f x + 1) (f x)) (and_true (k == x))) ∙ one_more f k n lt
    where
      and_true : (b : Bool) → ((true && b) && true) ≡ b
      and_true true = refl
      and_true false = refl
  grant_term f true false k n lt = sum_same _ f n (λ x. ap (λ b. cond b (f x + 1) (f x)) (and_false (k == x)))
    where
      and_false : (b : Bool) → ((true && b) && false) ≡ false
      and_false true = refl
      and_false false = refl
  grant_term f false c k n lt = refl

  pub granted_sum : (n : ℕ) (h : List Event) → AllByRecursion (IsBelow n) h → sum_below (λ x. granted_to of_slot o x h) n ≡ times_so (grants_slot o s) h
  granted_sum n [] a = zeros n
    where
      zeros : (k : ℕ) → sum_below (λ x. 0) k ≡ 0
      zeros zero = refl
      zeros (suc k) = omega (arith, zeros k)
  granted_sum n (Granted w g slot to ∷ h) a =
      grant_term (λ x. granted_to of_slot o x h) (w == o) (slot == s) to n a.0
      ∙ ap (λ m. cond ((w == o) && (slot == s)) (m + 1) m) (granted_sum n h a.1)
  granted_sum n (e ∷ h) a = granted_sum n h a.1

  pub released_sum : (n : ℕ) (h : List Event) → AllByRecursion (IsBelow n) h → sum_below (λ x. released_by of_slot o x h) n ≡ times_so (releases_slot o s) h
  released_sum n [] a = zeros n
    where
      zeros : (k : ℕ) → sum_below (λ x. 0) k ≡ 0
      zeros zero = refl
      zeros (suc k) = omega (arith, zeros k)
  released_sum n (Released w owner g slot ∷ h) a =
      grant_term (λ x. released_by of_slot o x h) (owner == o) (slot == s) w n a.0
      ∙ ap (λ m. cond ((owner == o) && (slot == s)) (m + 1) m) (released_sum n h a.1)
  released_sum n (e ∷ h) a = released_sum n h a.1

  pub sum_below_each : (f g : ℕ → ℕ) (n : ℕ) → ((x : ℕ) → f x ≤ g x) → sum_below f n ≤ sum_below g n
  sum_below_each f g zero le = omega arith
  sum_below_each f g (suc n) le = omega (arith, sum_below_each f g n le, le n)

  -- never more holds of a slot are released than were granted
  pub released_within : (h : List Event) (world : World) → IsBalanced h world → times_so (releases_slot o s) h ≤ times_so (grants_slot o s) h
  released_within h world k =
      let r = bounded h in
      let le = sum_below_each (λ x. released_by of_slot o x h) (λ x. granted_to of_slot o x h) r.bound (λ x. omega (arith, k of_slot o x)) in
      omega (arith, le, granted_sum r.bound h r.all, released_sum r.bound h r.all)
