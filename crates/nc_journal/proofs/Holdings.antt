-- Slots by the last event that names them, and holds by their numbers.
use Rattle.std.proofs.Common.{◌≡◌, ◌⊎◌, inl, inr, ℕ, suc, ◌+◌, Bool, true, false, cond, eqb, List, [], ◌∷◌, ◌++◌, length, refl, sym, ap, subst, ◌∙◌, arith}
use Rattle.std.specs.Prelude.{◌&&◌, ◌==◌, if◌then◌else◌}
use Rattle.std.specs.List.{AllByRecursion}
use Rattle.std.proofs.lemmas.Bool.{eqb-true, eq-eqb, true≢false}
use Rattle.nc_journal.specs.Holding.{Unused, Retired, stored_stage, slot_stage, times_so, grants_slot, releases_slot, releases_number, WasGranted, IsSlotRule}
use Rattle.nc_journal.specs.Slots.{names_slot, stage_after, IsByLastNaming, HoldsLaw}
use Rattle.nc_journal.specs.declared.event.Event.{Event}
use Rattle.nc_journal.specs.declared.event.Event.TheVariants.{Stored, Left, Freed, Granted, Released}

-- ---- slots

other_stays : (s : ℕ) (e : Event) (h : List Event) → names_slot s e ≡ false → slot_stage s (e ∷ h) ≡ slot_stage s h
other_stays s (Stored w c id slot len exp kept members from r ct body) h unnamed = ap (λ (b : Bool). cond b (stored_stage kept) (slot_stage s h)) unnamed
other_stays s (Left w c id slot cause) h unnamed = ap (λ (b : Bool). cond b Retired (slot_stage s h)) unnamed
other_stays s (Freed w slot) h unnamed = ap (λ (b : Bool). cond b Unused (slot_stage s h)) unnamed
other_stays s _ h unnamed = refl

named_tells : (s : ℕ) (e : Event) (h : List Event) → names_slot s e ≡ true → slot_stage s (e ∷ h) ≡ stage_after e
named_tells s (Stored w c id slot len exp kept members from r ct body) h is = ap (λ (b : Bool). cond b (stored_stage kept) (slot_stage s h)) is
named_tells s (Left w c id slot cause) h is = ap (λ (b : Bool). cond b Retired (slot_stage s h)) is
named_tells s (Freed w slot) h is = ap (λ (b : Bool). cond b Unused (slot_stage s h)) is
named_tells s _ h is = absurd cc

last_tells : (s : ℕ) (newer : List Event) (e : Event) (older : List Event) → AllByRecursion (λ x. names_slot s x ≡ false) newer → names_slot s e ≡ true → slot_stage s (newer ++ e ∷ older) ≡ stage_after e
last_tells s [] e older none is = named_tells s e older is
last_tells s (x ∷ newer) e older none is = other_stays s x (newer ++ e ∷ older) none.0 ∙ last_tells s newer e older none.1 is

none_unused : (s : ℕ) (h : List Event) → AllByRecursion (λ x. names_slot s x ≡ false) h → slot_stage s h ≡ Unused
none_unused s [] none = refl
none_unused s (e ∷ h) none = other_stays s e h none.0 ∙ none_unused s h none.1

pub by_last_naming : (s : ℕ) → IsByLastNaming s
by_last_naming s = record { last = last_tells s; none = none_unused s }

-- ---- holds

abbrev Has : ℕ → List ℕ → Type 0
Has n [] = ⊥
Has n (x ∷ xs) = (x ≡ n) ⊎ Has n xs

abbrev without_one : ℕ → List ℕ → List ℕ
without_one n [] = []
without_one n (x ∷ xs) = if x == n then xs else x ∷ without_one n xs

-- the numbers of an owner's holds of a slot that were granted and not released
abbrev held : (owner slot : ℕ) → List Event → List ℕ
held owner slot [] = []
held owner slot (Granted w n s to ∷ h) = if (w == owner) && (s == slot) then n ∷ held owner slot h else held owner slot h
held owner slot (Released w o n s ∷ h) = if (o == owner) && (s == slot) then without_one n (held owner slot h) else held owner slot h
held owner slot (e ∷ h) = held owner slot h

one_less : (n : ℕ) (xs : List ℕ) → Has n xs → length xs ≡ suc (length (without_one n xs))
one_less n [] h = absurd h
one_less n (x ∷ xs) (inl is) = ap (λ (b : Bool). suc (length (cond b xs (x ∷ without_one n xs)))) (sym (eq-eqb x n is))
one_less n (x ∷ xs) (inr there) = by_test (eqb x n) (one_less n xs there)
  where
    by_test : (b : Bool) → length xs ≡ suc (length (without_one n xs)) → suc (length xs) ≡ suc (length (cond b xs (x ∷ without_one n xs)))
    by_test true e = refl
    by_test false e = ap suc e

others_stay : (m n : ℕ) (xs : List ℕ) → (n == m) ≡ false → Has m xs → Has m (without_one n xs)
others_stay m n [] other h = h
others_stay m n (x ∷ xs) other h = by_test (eqb x n) refl h (λ there. others_stay m n xs other there)
  where
    by_test : (b : Bool) → eqb x n ≡ b → (x ≡ m) ⊎ Has m xs → (Has m xs → Has m (without_one n xs)) → Has m (cond b xs (x ∷ without_one n xs))
    by_test true is (inl same) later = absurd (true≢false (sym (eq-eqb n m (sym (eqb-true x n is) ∙ same)) ∙ other))
    by_test true is (inr there) later = there
    by_test false is (inl same) later = inl same
    by_test false is (inr there) later = inr (later there)

and_left : (a b : Bool) → (a && b) ≡ true → a ≡ true
and_left true b h = refl
and_left false b h = h

and_right : (a b : Bool) → (a && b) ≡ true → b ≡ true
and_right true b h = h
and_right false b h = absurd cc

and_second : (a b : Bool) → a ≡ true → (a && b) ≡ false → b ≡ false
and_second true b is h = h
and_second false b is h = absurd cc

-- what was granted and not released is held
pub is_held : (owner g slot to : ℕ) (h : List Event) → WasGranted owner g slot to h → times_so (releases_number owner g) h ≡ 0 → Has g (held owner slot h)
is_held owner g slot to [] granted none = granted
is_held owner g slot to (Granted w n s u ∷ h) (inl is) none =
    subst (λ (b : Bool). Has g (cond b (n ∷ held owner slot h) (held owner slot h))) (sym (ap (λ (k : ℕ). eqb k owner && eqb s slot) is.0 ∙ ap (λ (k : ℕ). eqb owner owner && eqb k slot) is.2 ∙ both)) (inl is.1)
  where
    both : (eqb owner owner && eqb slot slot) ≡ true
    both = ap (λ (b : Bool). b && eqb slot slot) (eq-eqb owner owner refl) ∙ eq-eqb slot slot refl
is_held owner g slot to (Granted w n s u ∷ h) (inr before) none = by_test (eqb w owner && eqb s slot) (is_held owner g slot to h before none)
  where
    by_test : (b : Bool) → Has g (held owner slot h) → Has g (cond b (n ∷ held owner slot h) (held owner slot h))
    by_test true k = inr k
    by_test false k = k
is_held owner g slot to (Released w o n s ∷ h) granted none = by_test (eqb o owner && eqb s slot) refl (eqb o owner && eqb n g) refl none (is_held owner g slot to h granted)
  where
    by_test : (b : Bool) → (eqb o owner && eqb s slot) ≡ b → (d : Bool) → (eqb o owner && eqb n g) ≡ d → cond d (times_so (releases_number owner g) h + 1) (times_so (releases_number owner g) h) ≡ 0
        → (times_so (releases_number owner g) h ≡ 0 → Has g (held owner slot h)) → Has g (cond b (without_one n (held owner slot h)) (held owner slot h))
    by_test b is true at some before = absurd (omega (arith, some))
    by_test true is false at some before = others_stay g n (held owner slot h) (and_second (eqb o owner) (eqb n g) (and_left (eqb o owner) (eqb s slot) is) at) (before some)
    by_test false is false at some before = before some
is_held owner g slot to (e ∷ h) granted none = is_held owner g slot to h granted none

counted_grant : (b : Bool) (grants releases n : ℕ) (xs : List ℕ) → grants ≡ releases + length xs → cond b (grants + 1) grants ≡ releases + length (cond b (n ∷ xs) xs)
counted_grant true grants releases n xs e = omega (arith, e)
counted_grant false grants releases n xs e = e

counted_release : (b : Bool) (grants releases n : ℕ) (xs : List ℕ) → (b ≡ true → Has n xs) → grants ≡ releases + length xs → grants ≡ cond b (releases + 1) releases + length (cond b (without_one n xs) xs)
counted_release true grants releases n xs has e = omega (arith, e, one_less n xs (has refl))
counted_release false grants releases n xs has e = e

-- the grants of a slot are its releases and the numbers that are held
pub counted : (workers slots : ℕ) (h : List Event) → IsSlotRule workers slots h → (owner slot : ℕ) → times_so (grants_slot owner slot) h ≡ times_so (releases_slot owner slot) h + length (held owner slot h)
counted workers slots [] rule owner slot = refl
counted workers slots (Granted w n s to ∷ h) rule owner slot = counted_grant (eqb w owner && eqb s slot) _ _ n (held owner slot h) (counted workers slots h rule.0 owner slot)
counted workers slots (Released w o n s ∷ h) rule owner slot =
    counted_release (eqb o owner && eqb s slot) _ _ n (held owner slot h) released (counted workers slots h rule.0 owner slot)
  where
    released : (eqb o owner && eqb s slot) ≡ true → Has n (held owner slot h)
    released is =
        let at : s ≡ slot = eqb-true s slot (and_right (eqb o owner) (eqb s slot) is) in
        let by : o ≡ owner = eqb-true o owner (and_left (eqb o owner) (eqb s slot) is) in
        subst (λ (k : ℕ). Has n (held owner k h)) at (subst (λ (k : ℕ). Has n (held k s h)) by (is_held o n s w h rule.1.granted rule.1.once))
counted workers slots (e ∷ h) rule owner slot = counted workers slots h rule.0 owner slot

pub holds_law : HoldsLaw
holds_law workers slots h rule owner slot = omega (arith, counted workers slots h rule owner slot)
