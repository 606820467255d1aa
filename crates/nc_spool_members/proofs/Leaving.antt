-- Readers of a spool once one of them left.
use Rattle.std.proofs.Common.{◌≡◌, ℕ, ◌+◌, ◌≤◌, Bool, true, false, cond, not, ◌||◌, List, [], ◌∷◌, refl, sym, ap, subst, length, filter, arith, ◌==◌}
use Rattle.std.specs.List.{AllByRecursion, list_any}
use Rattle.std.proofs.lemmas.Bool.Decides.{nat_tests}
use Rattle.nc_spool_state.specs.declared.spool.Reader.{Reader}
use Rattle.nc_spool_state.specs.Spool.{SpoolAt, is_reader, has_reader, without, without_reader}
use Rattle.nc_spool_laws.specs.Numbers.{one, total}
use Rattle.nc_spool_laws.specs.Tally.{reader_at, readers_of}

-- what holds of all holds of those that are kept
pub all-kept : {X : Type 0} (P : X → Type 0) (test : X → Bool) (xs : List X) → AllByRecursion P xs → AllByRecursion P (filter test xs)
all-kept P test [] a = tt
all-kept P test (x ∷ xs) a = by (test x) (all-kept P test xs a.1)
  where
    by : (t : Bool) → AllByRecursion P (filter test xs) → AllByRecursion P (cond t (x ∷ filter test xs) (filter test xs))
    by true rest = (a.0, rest)
    by false rest = rest

module _ (k : ℕ) where
  pub no-readers : (readers : List Reader) → (length readers == 0) ≡ true → total (reader_at k) readers ≡ 0
  no-readers [] e = refl
  no-readers (r ∷ readers) e = absurd (grind (arith, nat_tests))

  none-left : (readers : List Reader) → total (reader_at k) (without k readers) ≡ 0
  none-left [] = refl
  none-left (r ∷ readers) = by (is_reader k r) refl (none-left readers)
    where
      by : (t : Bool) → is_reader k r ≡ t → total (reader_at k) (without k readers) ≡ 0 → total (reader_at k) (cond (not t) (r ∷ without k readers) (without k readers)) ≡ 0
      by true was rest = rest
      by false was rest = omega (arith, ap one was, rest)

  other-reader : (j i : ℕ) → (i == j) ≡ true → (j == k) ≡ false → one (i == k) ≡ 0
  other-reader j i same other = ap one (differs j i same other)
    where
      differs : (j i : ℕ) → (i == j) ≡ true → (j == k) ≡ false → (i == k) ≡ false
      differs j i same other = grind (arith, nat_tests)

  others-left : (j : ℕ) (readers : List Reader) → (j == k) ≡ false → total (reader_at k) (without j readers) ≡ total (reader_at k) readers
  others-left j [] other = refl
  others-left j (r ∷ readers) other = by (is_reader j r) refl (others-left j readers other)
    where
      by : (t : Bool) → is_reader j r ≡ t → total (reader_at k) (without j readers) ≡ total (reader_at k) readers → total (reader_at k) (cond (not t) (r ∷ without j readers) (without j readers)) ≡ reader_at k r + total (reader_at k) readers
      by true was rest = omega (arith, other-reader j r.k was other, rest)
      by false was rest = omega (arith, rest)

  some-reader : (readers : List Reader) → list_any (is_reader k) readers ≡ true → 1 ≤ total (reader_at k) readers
  some-reader [] e = absurd cc
  some-reader (r ∷ readers) e = by (is_reader k r) refl e (λ h. some-reader readers h)
    where
      by : (t : Bool) → is_reader k r ≡ t → (t || list_any (is_reader k) readers) ≡ true → (list_any (is_reader k) readers ≡ true → 1 ≤ total (reader_at k) readers) → 1 ≤ reader_at k r + total (reader_at k) readers
      by true was e rest = omega (arith, ap one was)
      by false was e rest = let more = rest e in omega (arith, more)

  same : (j : ℕ) → (j == k) ≡ true → j ≡ k
  same j e = grind (arith, nat_tests)

  -- one that stands once takes itself along
  pub leaves-readers : (j : ℕ) (s : SpoolAt) → has_reader j s ≡ true → readers_of k s ≤ 1 → readers_of k (without_reader j s) + one (j == k) ≡ readers_of k s
  leaves-readers j s has few = by (j == k) refl
    where
      by : (t : Bool) → (j == k) ≡ t → readers_of k (without_reader j s) + one t ≡ readers_of k s
      by true was =
          let none : readers_of k (without_reader j s) ≡ 0 = subst (λ (i : ℕ). total (reader_at k) (without i s.readers) ≡ 0) (sym (same j was)) (none-left s.readers) in
          let some : 1 ≤ readers_of k s = some-reader s.readers (subst (λ (i : ℕ). has_reader i s ≡ true) (same j was) has) in
          omega (arith, none, some, few)
      by false was = omega (arith, others-left j s.readers was)
