-- A hold that is on its way or kept wasn't released.
use Rattle.std.proofs.Common.{◌≡◌, ◌⊎◌, inl, inr, ℕ, zero, suc, ◌+◌, ◌<◌, ◌≤◌, Bool, true, false, cond, List, [], ◌∷◌, refl, ap, ◌∙◌, subst, arith}
use Rattle.std.specs.Prelude.{◌==◌, ◌&&◌, ◌||◌, nat_lt}
use Rattle.std.specs.List.{AllByRecursion}
use Rattle.std.proofs.lemmas.Bool.Decides.{nat_tests}
use Rattle.nc_journal.specs.History.{Along}
use Rattle.nc_journal.specs.Holding.{times_so, grants_number, releases_number}
use Rattle.nc_journal.specs.declared.event.Event.{Event}
use Rattle.nc_journal.specs.declared.event.Event.TheVariants.{Granted, Released}
use Rattle.nc_spool_state.specs.declared.kept.Held.{Held}
use Rattle.nc_spool_state.specs.Kept.{is_kept}
use Rattle.nc_history.specs.Packets.{lines_of, pending}
use Rattle.nc_worker_state.specs.Spooled.{Hold}
use Rattle.nc_world.specs.World.{World, sum_below}
use Rattle.nc_world_laws.proofs.Local.{eq_of}
use Rattle.nc_world_holds.specs.Balance.{one_if, granted_to, released_by, carried_by, kept_by, IsBalanced}
use Rattle.nc_world_holds.proofs.Summing.{IsBelow, bounded, grant_term, sum_below_each}
use Rattle.nc_world_owners.specs.Pairs.{DrawnAt}

module _ (o n : ℕ) where
  -- the test of all grants of a number
  abbrev pub of_number : ℕ → ℕ → Bool
  of_number g slot = g == n

  zeros : (k : ℕ) → sum_below (λ x. 0) k ≡ 0
  zeros zero = refl
  zeros (suc k) = omega (arith, zeros k)

  granted_sum : (m : ℕ) (h : List Event) → AllByRecursion (IsBelow m) h → sum_below (λ x. granted_to of_number o x h) m ≡ times_so (grants_number o n) h
  granted_sum m [] a = zeros m
  granted_sum m (Granted w g slot to ∷ h) a =
      grant_term o n (λ x. granted_to of_number o x h) (w == o) (g == n) to m a.0
      ∙ ap (λ k. cond ((w == o) && (g == n)) (k + 1) k) (granted_sum m h a.1)
  granted_sum m (e ∷ h) a = granted_sum m h a.1

  released_sum : (m : ℕ) (h : List Event) → AllByRecursion (IsBelow m) h → sum_below (λ x. released_by of_number o x h) m ≡ times_so (releases_number o n) h
  released_sum m [] a = zeros m
  released_sum m (Released w owner g slot ∷ h) a =
      grant_term o n (λ x. released_by of_number o x h) (owner == o) (g == n) w m a.0
      ∙ ap (λ k. cond ((owner == o) && (g == n)) (k + 1) k) (released_sum m h a.1)
  released_sum m (e ∷ h) a = released_sum m h a.1

  -- each number is granted at most once
  granted_once : (h : List Event) → Along DrawnAt h → times_so (grants_number o n) h ≤ 1
  granted_once [] a = omega arith
  granted_once (Granted w g slot to ∷ h) a = by (w == o) (g == n) refl refl (granted_once h a.0)
    where
      by : (b d : Bool) → (w == o) ≡ b → (g == n) ≡ d → times_so (grants_number o n) h ≤ 1 → cond (b && d) (times_so (grants_number o n) h + 1) (times_so (grants_number o n) h) ≤ 1
      by true true i j le =
          let none : times_so (grants_number o n) h ≡ 0 = subst (λ (z : ℕ × ℕ). times_so (grants_number z.0 z.1) h ≡ 0) (λ k. (eq_of w o i k, eq_of g n j k)) a.1 in
          omega (arith, none)
      by true false i j le = le
      by false d i j le = le
  granted_once (e ∷ h) a = granted_once h a.0

  -- nobody beyond the workers of a history is granted anything
  none_beyond : (m w : ℕ) (h : List Event) → AllByRecursion (IsBelow m) h → m ≤ w → granted_to of_number o w h ≡ 0
  none_beyond m w [] a le = refl
  none_beyond m w (Granted v g slot to ∷ h) a le = by (v == o) (to == w) (g == n) (apart to w (omega (arith, a.0, le))) (none_beyond m w h a.1 le)
    where
      apart : (x y : ℕ) → x < y → (x == y) ≡ false
      apart x y lt = grind (arith, nat_tests)

      by : (b d t : Bool) → d ≡ false → granted_to of_number o w h ≡ 0 → cond ((b && d) && t) (granted_to of_number o w h + 1) (granted_to of_number o w h) ≡ 0
      by true true t i k = absurd cc
      by true false t i k = k
      by false d t i k = k
  none_beyond m w (e ∷ h) a le = none_beyond m w h a.1 le

-- a sum with one smaller term is smaller
less_sum : (f g : ℕ → ℕ) (w n : ℕ) → w < n → ((x : ℕ) → f x ≤ g x) → f w < g w → sum_below f n < sum_below g n
less_sum f g w zero lt le less = absurd (omega (arith, lt))
less_sum f g w (suc n) lt le less = by (w == n) refl (λ l. less_sum f g w n l le less)
  where
    behind : (a b : ℕ) → (a == b) ≡ false → a < suc b → a < b
    behind a b e l = grind (arith, nat_tests)

    by : (b : Bool) → (w == n) ≡ b → (w < n → sum_below f n < sum_below g n) → sum_below f n + f n < sum_below g n + g n
    by true e go = let last : f n < g n = subst (λ (z : ℕ). f z < g z) (eq_of w n e) less in omega (arith, last, sum_below_each 0 0 f g n le)
    by false e go = omega (arith, go (behind w n e lt), le n)

before_or_not : (x y : ℕ) → (x < y) ⊎ (y ≤ x)
before_or_not x y = by (nat_lt x y) refl
  where
    first : (a b : ℕ) → nat_lt a b ≡ true → a < b
    first a b e = grind (arith, nat_tests)

    second : (a b : ℕ) → nat_lt a b ≡ false → b ≤ a
    second a b e = grind (arith, nat_tests)

    by : (b : Bool) → nat_lt x y ≡ b → (x < y) ⊎ (y ≤ x)
    by true e = inl (first x y e)
    by false e = inr (second x y e)

-- what an owner granted to a worker and is on its way there, or kept, wasn't released
pub unreleased : (o n w : ℕ) (h : List Event) (world : World) → IsBalanced h world → Along DrawnAt h → 0 < carried_by (of_number o n) (lines_of (pending o w h)) + kept_by (of_number o n) o (world.workers w).desk.spools.kept → times_so (releases_number o n) h ≡ 0
unreleased o n w h world balanced drawn some =
    let r = bounded h in
    let here = balanced (of_number o n) o w in
    let less = less_sum (λ x. released_by (of_number o n) o x h) (λ x. granted_to (of_number o n) o x h) w r.bound (within r.bound r.all) (λ x. omega (arith, balanced (of_number o n) o x)) (omega (arith, here, some)) in
    omega (arith, less, granted_sum o n r.bound h r.all, released_sum o n r.bound h r.all, granted_once o n h drawn)
  where
    beyond : (b : ℕ) → AllByRecursion (IsBelow b) h → b ≤ w → ⊥
    beyond b a le = absurd (omega (arith, some, balanced (of_number o n) o w, none_beyond o n b w h a le))

    within : (b : ℕ) → AllByRecursion (IsBelow b) h → w < b
    within b a = by (before_or_not w b)
      where
        by : (w < b) ⊎ (b ≤ w) → w < b
        by (inl lt) = lt
        by (inr le) = absurd (beyond b a le)

-- a hold of a grant that is kept counts
pub kept_counts : (o n : ℕ) (kept : List (Held Hold)) → is_kept o n kept ≡ true → 0 < kept_by (of_number o n) o kept
kept_counts o n [] e = absurd cc
kept_counts o n (h ∷ kept) e = by (h.owner == o) (h.g == n) e (kept_counts o n kept)
  where
    by : (a b : Bool) → ((a && b) || is_kept o n kept) ≡ true → (is_kept o n kept ≡ true → 0 < kept_by (of_number o n) o kept) → 0 < one_if (a && b) + kept_by (of_number o n) o kept
    by true true i go = omega arith
    by true false i go = omega (arith, go i)
    by false b i go = omega (arith, go i)
