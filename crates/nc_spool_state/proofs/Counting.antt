-- Counts of the uses of holds: one place more, one fewer, and whether they tell a use.
use Rattle.std.proofs.Common.{◌≡◌, ℕ, zero, suc, ◌+◌, ◌-◌, ◌<◌, ◌≤◌, Bool, true, false, cond, ◌&&◌, ◌||◌, List, [], ◌∷◌, ◌++◌, refl, sym, ◌∙◌, ap, ap₂, subst, length, get_or, set, take, drop, Some, None, arith, nat_lt, lt-ltb, ltb-true, ltb-false, eqb-true}
use Rattle.std.specs.Prelude.{Option, ◌==◌, find, count_by}
use Rattle.std.specs.List.{position, list_any, sum_by, remove}
use Rattle.std.proofs.lemmas.Bool.{and_parts}
use Rattle.std.proofs.lemmas.List.Quantifiers.{position-Some}
use Rattle.std.proofs.lemmas.List.Sums.{sum_by-cons, sum_by-append, sum_by-take-drop, sum_by-drop_more, sum_by-set}
use Rattle.nc_spool_state.specs.declared.place.Place.{Place}
use Rattle.nc_spool_state.specs.declared.uses.Use.{Use}
use Rattle.nc_spool_state.specs.Spool.{SpoolAt}
use Rattle.nc_spool_state.specs.Kept.{place_uses, spool_uses, is_used}
use Rattle.nc_spool_state.specs.Uses.{uses_among, uses_in, is_count, places_of, counted, tells_use}
use Rattle.nc_spool_state.proofs.Firsts.{missed-any}

-- what one count tells: a grant's places
abbrev pub as_count : ℕ → ℕ → ℕ → Use
as_count owner g places = record { owner = owner; g = g; places = places }

-- one use of a grant's hold, as another grant's counts see it
abbrev pub one_of : ℕ → ℕ → ℕ → ℕ → ℕ
one_of o n owner g = cond ((owner == o) && (g == n)) 1 0

either_some : (a b : ℕ) → (nat_lt 0 a || nat_lt 0 b) ≡ nat_lt 0 (a + b)
either_some zero b = let e : b ≡ 0 + b = omega arith in ap (nat_lt 0) e
either_some (suc a) b = let some : 0 < suc a + b = omega arith in
    let first : 0 < suc a = omega arith in
    ap (λ (x : Bool). x || nat_lt 0 b) (lt-ltb 0 (suc a) first) ∙ sym (lt-ltb 0 (suc a + b) some)

-- one item passes where the sum isn't 0
any_sum : {X : Type 0} (test : X → Bool) (f : X → ℕ) → ((x : X) → test x ≡ nat_lt 0 (f x)) → (xs : List X) → list_any test xs ≡ nat_lt 0 (sum_by f xs)
any_sum test f same [] = refl
any_sum test f same (x ∷ xs) =
    ap₂ (λ (a b : Bool). a || b) (same x) (any_sum test f same xs) ∙ either_some (f x) (sum_by f xs) ∙ ap (nat_lt 0) (sym (sum_by-cons f x xs))

pub told_use : (o n : ℕ) (counts : List Use) → list_any (tells_use o n) counts ≡ nat_lt 0 (counted o n counts)
told_use o n counts = any_sum (tells_use o n) (places_of o n) (λ u. by (is_count o n u) u.places) counts
  where
    by : (b : Bool) (p : ℕ) → (b && nat_lt 0 p) ≡ nat_lt 0 (cond b p 0)
    by true p = refl
    by false p = refl

place_use : (o n : ℕ) (places : List Place) → list_any (place_uses o n) places ≡ nat_lt 0 (uses_among o n places)
place_use o n places = any_sum (place_uses o n) (λ p. cond (place_uses o n p) 1 0) (λ p. by (place_uses o n p)) places
  where
    by : (b : Bool) → b ≡ nat_lt 0 (cond b 1 0)
    by true = refl
    by false = refl

pub spool_use : (o n : ℕ) (spools : List SpoolAt) → is_used o n spools ≡ nat_lt 0 (uses_in o n spools)
spool_use o n spools = any_sum (spool_uses o n) (λ s. uses_among o n s.places) (λ s. place_use o n s.places) spools

module _ (o n owner g : ℕ) (counts : List Use) where
  same_grant : (u : Use) → is_count owner g u ≡ true → places_of o n u ≡ cond ((owner == o) && (g == n)) u.places 0
  same_grant u is =
      let parts = and_parts (u.owner == owner) (u.g == g) is in
      ap₂ (λ (a b : ℕ). cond ((a == o) && (b == n)) u.places 0) (eqb-true u.owner owner parts.0) (eqb-true u.g g parts.1)

  -- one place more of a grant that has a count
  pub count_rises : (at : ℕ) (u : Use) → position (is_count owner g) counts ≡ Some at → u ≡ get_or counts at u
      → counted o n (set counts at (as_count owner g (u.places + 1))) ≡ counted o n counts + one_of o n owner g
  count_rises at u found is =
      let p = position-Some (is_count owner g) counts at u found in
      let same : is_count owner g u ≡ true = subst (λ (x : Use). is_count owner g x ≡ true) (sym is) p.1 in
      let here = same_grant u same in
      let more = by ((owner == o) && (g == n)) u.places in
      let whole = sum_by-set (places_of o n) counts at (as_count owner g (u.places + 1)) u p.0 in
      omega (arith, whole, more, here, ap (places_of o n) is)
    where
      by : (b : Bool) (p : ℕ) → cond b (p + 1) 0 ≡ cond b p 0 + cond b 1 0
      by true p = refl
      by false p = refl

  module _ (at : ℕ) (u : Use) (found : position (tells_use owner g) counts ≡ Some at) (is : u ≡ get_or counts at u) where
    told : (is_count owner g u ≡ true) × (nat_lt 0 u.places ≡ true)
    told =
        let p = position-Some (tells_use owner g) counts at u found in
        and_parts (is_count owner g u) (nat_lt 0 u.places) (subst (λ (x : Use). tells_use owner g x ≡ true) (sym is) p.1)

    pub some_place : 1 ≤ u.places
    some_place = let some = ltb-true 0 u.places told.1 in omega (arith, some)

    -- the last place of a grant goes, and its count with it
    pub count_goes : u.places ≡ 1 → counted o n (remove counts at) ≡ counted o n counts - one_of o n owner g
    count_goes last =
        let p = position-Some (tells_use owner g) counts at u found in
        let here = same_grant u told.0 in
        let one = ap (λ (m : ℕ). cond ((owner == o) && (g == n)) m 0) last in
        let whole = sum_by-take-drop (places_of o n) counts at in
        let behind = sum_by-drop_more (places_of o n) counts at u p.0 in
        let left = sum_by-append (places_of o n) (take at counts) (drop (suc at) counts) in
        let next : suc at ≡ at + 1 = omega arith in
        omega (arith, whole, behind, left, here, one, ap (places_of o n) is, ap (λ (m : ℕ). counted o n (drop m counts)) next)

    -- one place of several goes
    pub count_falls : counted o n (set counts at (as_count owner g (u.places - 1))) ≡ counted o n counts - one_of o n owner g
    count_falls =
        let p = position-Some (tells_use owner g) counts at u found in
        let here = same_grant u told.0 in
        let fewer = by ((owner == o) && (g == n)) u.places some_place in
        let whole = sum_by-set (places_of o n) counts at (as_count owner g (u.places - 1)) u p.0 in
        omega (arith, whole, fewer, here, ap (places_of o n) is)
      where
        by : (b : Bool) (p : ℕ) → 1 ≤ p → cond b (p - 1) 0 + cond b 1 0 ≡ cond b p 0
        by true p some = omega (arith, some)
        by false p some = refl

  -- where no count tells a use, there is none to take back
  pub none_goes : None ≡ position (tells_use owner g) counts → counted o n counts ≡ counted o n counts - one_of o n owner g
  none_goes none = by ((owner == o) && (g == n)) refl
    where
      by : (b : Bool) → ((owner == o) && (g == n)) ≡ b → counted o n counts ≡ counted o n counts - cond b 1 0
      by true e =
          let parts = and_parts (owner == o) (g == n) e in
          let no = sym (told_use owner g counts) ∙ missed-any (tells_use owner g) counts none in
          let none_told = ltb-false 0 (counted owner g counts) no in
          let there : counted owner g counts ≡ counted o n counts = ap₂ (λ (a b : ℕ). counted a b counts) (eqb-true owner o parts.0) (eqb-true g n parts.1) in
          omega (arith, none_told, there)
      by false e = omega arith
