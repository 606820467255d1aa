-- Each grant is released at most once.
use Rattle.std.proofs.Common.{◌≡◌, ℕ, zero, suc, ◌+◌, ◌≤◌, Bool, true, false, cond, List, [], ◌∷◌, refl, ap, ◌∙◌, subst, arith}
use Rattle.std.specs.Prelude.{◌==◌, ◌&&◌}
use Rattle.std.specs.List.{AllByRecursion}
use Rattle.nc_journal.specs.History.{Along}
use Rattle.nc_journal.specs.Holding.{times_so, grants_number, releases_number}
use Rattle.nc_journal.specs.declared.event.Event.{Event}
use Rattle.nc_journal.specs.declared.event.Event.TheVariants.{Granted, Released}
use Rattle.nc_world.specs.World.{World, sum_below}
use Rattle.nc_world_laws.proofs.Local.{eqb_self, eq_of}
use Rattle.nc_world_holds.specs.Balance.{granted_to, released_by, IsBalanced}
use Rattle.nc_world_holds.proofs.Summing.{IsBelow, bounded, grant_term, sum_below_each}
use Rattle.nc_world_owners.specs.Pairs.{DrawnAt}

module _ (o n : ℕ) where
  abbrev of_number : ℕ → ℕ → Bool
  of_number g slot = g == n

  zeros : (k : ℕ) → sum_below (λ x. 0) k ≡ 0
  zeros zero = refl
  zeros (suc k) = omega (arith, zeros k)

  granted_sum : (m : ℕ) (h : List Event) → AllByRecursion (IsBelow m) h → sum_below (λ x. granted_to of_number o x h) m ≡ times_so (grants_number o n) h
  granted_sum m [] a = zeros m
  granted_sum m (Granted w g slot to ∷ h) a =
      grant_term o n (λ x. granted_to of_number o x h) (w == o) (g == n) to m a.0
      ∙ ap (λ k. cond ((w == o) && (g == n)) (k + 1) k) (granted_sum m h a.1)
  granted_sum m (e ∷ h) a = granted_sum m h a.1

  released_sum : (m : ℕ) (h : List Event) → AllByRecursion (IsBelow m) h → sum_below (λ x. released_by of_number o x h) m ≡ times_so (releases_number o n) h
  released_sum m [] a = zeros m
  released_sum m (Released w owner g slot ∷ h) a =
      grant_term o n (λ x. released_by of_number o x h) (owner == o) (g == n) w m a.0
      ∙ ap (λ k. cond ((owner == o) && (g == n)) (k + 1) k) (released_sum m h a.1)
  released_sum m (e ∷ h) a = released_sum m h a.1

  -- no grant is released more often than it was made
  released_granted : (h : List Event) (world : World) → IsBalanced h world → times_so (releases_number o n) h ≤ times_so (grants_number o n) h
  released_granted h world k =
      let r = bounded h in
      let le = sum_below_each o n (λ x. released_by of_number o x h) (λ x. granted_to of_number o x h) r.bound (λ x. omega (arith, k of_number o x)) in
      omega (arith, le, granted_sum r.bound h r.all, released_sum r.bound h r.all)

  -- and it was made at most once
  granted_once : (h : List Event) → Along DrawnAt h → times_so (grants_number o n) h ≤ 1
  granted_once [] a = omega arith
  granted_once (Granted w g slot to ∷ h) a = by (w == o) (g == n) refl refl (granted_once h a.0)
    where
      by : (b d : Bool) → (w == o) ≡ b → (g == n) ≡ d → times_so (grants_number o n) h ≤ 1 → cond (b && d) (times_so (grants_number o n) h + 1) (times_so (grants_number o n) h) ≤ 1
      by true true i j le =
          let none : times_so (grants_number o n) h ≡ 0 = subst (λ (z : ℕ × ℕ). times_so (grants_number z.0 z.1) h ≡ 0) (λ k. (eq_of w o i k, eq_of g n j k)) a.1 in
          omega (arith, none)
      by true false i j le = le
      by false d i j le = le
  granted_once (e ∷ h) a = granted_once h a.0

-- a hold is released that wasn't released before
abbrev pub OnceAt : List Event → Event → Type 0
OnceAt h (Released w owner g slot) = times_so (releases_number owner g) h ≡ 0
OnceAt h _ = Unit {0}

once_at : (e : Event) (h : List Event) → ((o n : ℕ) → times_so (releases_number o n) (e ∷ h) ≤ 1) → OnceAt h e
once_at (Released w owner g slot) h le = by (owner == owner) (g == g) (eqb_self owner) (eqb_self g) (le owner g)
  where
    by : (b d : Bool) → b ≡ true → d ≡ true → cond (b && d) (times_so (releases_number owner g) h + 1) (times_so (releases_number owner g) h) ≤ 1 → times_so (releases_number owner g) h ≡ 0
    by true true i j k = omega (arith, k)
    by true false i j k = absurd cc
    by false d i j k = absurd cc
once_at e h le = tt

once_rest : (e : Event) (h : List Event) (o n : ℕ) → times_so (releases_number o n) (e ∷ h) ≤ 1 → times_so (releases_number o n) h ≤ 1
once_rest e h o n le = by (releases_number o n e) le
  where
    by : (b : Bool) → cond b (times_so (releases_number o n) h + 1) (times_so (releases_number o n) h) ≤ 1 → times_so (releases_number o n) h ≤ 1
    by true k = omega (arith, k)
    by false k = k

once_along : (h : List Event) → ((o n : ℕ) → times_so (releases_number o n) h ≤ 1) → Along OnceAt h
once_along [] le = tt
once_along (e ∷ h) le = (once_along h (λ o n. once_rest e h o n (le o n)), once_at e h le)

pub released_once : (h : List Event) (world : World) → IsBalanced h world → Along DrawnAt h → Along OnceAt h
released_once h world k a = once_along h (λ o n. omega (arith, released_granted o n h world k, granted_once o n h a))
