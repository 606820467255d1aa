-- How often a subscriber stands with a channel, through changes of spools.
use Rattle.std.specs.Prelude.{bytes_eq}
use Rattle.std.proofs.Common.{◌≡◌, ℕ, ◌+◌, ◌≤◌, Bool, true, false, cond, not, ◌||◌, List, [], ◌∷◌, refl, sym, ap, subst, length, arith, ◌==◌}
use Rattle.std.specs.List.{list_any}
use Rattle.std.proofs.lemmas.Bool.Decides.{nat_tests}
use Rattle.nc_spool_state.specs.declared.spool.Reader.{Reader}
use Rattle.nc_spool_state.specs.Spool.{SpoolAt, is_reader, has_reader, without, with_reader, without_reader, place_above}
use Rattle.nc_spool_state.specs.Starting.{StartingAt}
use Rattle.nc_spool.specs.declared.board.Board.{Board}
use Rattle.nc_spool_laws.specs.Numbers.{one, total}
use Rattle.nc_spool_laws.specs.Tally.{reader_at, readers_of}
use Rattle.nc_spool_laws.proofs.Totals.{total-insert}

-- how often a list names a channel
abbrev pub named : List ℕ → List (List ℕ) → ℕ
named c names = total (λ name. one (bytes_eq name c)) names

module _ (c : List ℕ) (k : ℕ) where
  -- how often a subscriber with a list stands with it
  abbrev pub weight : List (List ℕ) → Reader → ℕ
  weight list r = cond (is_reader k r) (named c list) 0

  abbrev pub spool_weight : SpoolAt → ℕ
  spool_weight s = total (weight s.key.list) s.readers

  abbrev pub start_weight : StartingAt → ℕ
  start_weight s = weight s.list s.reader

  -- and among all
  abbrev pub weighed : Board → ℕ
  weighed b = total spool_weight b.shelf + total start_weight b.starts

  pub entered-weight : (r : Reader) (s : SpoolAt) → spool_weight (with_reader r s) ≡ weight s.key.list r + spool_weight s
  entered-weight r s = total-insert (weight s.key.list) s.readers (place_above r.k s.readers) r

  none-left : (list : List (List ℕ)) (readers : List Reader) → total (weight list) (without k readers) ≡ 0
  none-left list [] = refl
  none-left list (r ∷ readers) = by (is_reader k r) refl (none-left list readers)
    where
      by : (t : Bool) → is_reader k r ≡ t → total (weight list) (without k readers) ≡ 0 → total (weight list) (cond (not t) (r ∷ without k readers) (without k readers)) ≡ 0
      by true was rest = rest
      by false was rest = omega (arith, ap (λ b. cond b (named c list) 0) was, rest)

  other-weight : (list : List (List ℕ)) (j i : ℕ) → (i == j) ≡ true → (j == k) ≡ false → cond (i == k) (named c list) 0 ≡ 0
  other-weight list j i same other = ap (λ b. cond b (named c list) 0) (differs j i same other)
    where
      differs : (j i : ℕ) → (i == j) ≡ true → (j == k) ≡ false → (i == k) ≡ false
      differs j i same other = grind (arith, nat_tests)

  others-left : (list : List (List ℕ)) (j : ℕ) (readers : List Reader) → (j == k) ≡ false → total (weight list) (without j readers) ≡ total (weight list) readers
  others-left list j [] other = refl
  others-left list j (r ∷ readers) other = by (is_reader j r) refl (others-left list j readers other)
    where
      by : (t : Bool) → is_reader j r ≡ t → total (weight list) (without j readers) ≡ total (weight list) readers → total (weight list) (cond (not t) (r ∷ without j readers) (without j readers)) ≡ weight list r + total (weight list) readers
      by true was rest = omega (arith, other-weight list j r.k was other, rest)
      by false was rest = omega (arith, rest)

  no-weight : (list : List (List ℕ)) (readers : List Reader) → (length readers == 0) ≡ true → total (weight list) readers ≡ 0
  no-weight list [] e = refl
  no-weight list (r ∷ readers) e = absurd (grind (arith, nat_tests))

  -- who isn't among some weighs nothing, and who is there once weighs as often as the list names the channel
  pub no-reader : (list : List (List ℕ)) (readers : List Reader) → total (reader_at k) readers ≡ 0 → total (weight list) readers ≡ 0
  no-reader list [] e = refl
  no-reader list (r ∷ readers) e = by (is_reader k r) refl (λ h. no-reader list readers h)
    where
      by : (t : Bool) → is_reader k r ≡ t → (total (reader_at k) readers ≡ 0 → total (weight list) readers ≡ 0) → weight list r + total (weight list) readers ≡ 0
      by true was rest = absurd (omega (arith, ap one was, e))
      by false was rest = let none = rest (omega (arith, e)) in omega (arith, ap (λ b. cond b (named c list) 0) was, none)

  one-reader : (list : List (List ℕ)) (readers : List Reader) → list_any (is_reader k) readers ≡ true → total (reader_at k) readers ≤ 1 → total (weight list) readers ≡ named c list
  one-reader list [] e few = absurd cc
  one-reader list (r ∷ readers) e few = by (is_reader k r) refl e (λ h. one-reader list readers h (omega (arith, few)))
    where
      by : (t : Bool) → is_reader k r ≡ t → (t || list_any (is_reader k) readers) ≡ true → (list_any (is_reader k) readers ≡ true → total (weight list) readers ≡ named c list) → weight list r + total (weight list) readers ≡ named c list
      by true was e rest =
          let alone : total (reader_at k) readers ≡ 0 = omega (arith, ap one was, few) in
          omega (arith, ap (λ b. cond b (named c list) 0) was, no-reader list readers alone)
      by false was e rest = let once = rest e in omega (arith, ap (λ b. cond b (named c list) 0) was, once)

  same : (j : ℕ) → (j == k) ≡ true → j ≡ k
  same j e = grind (arith, nat_tests)

  -- one that leaves a spool takes its weight along
  pub leaves-weight : (j : ℕ) (s : SpoolAt) → has_reader j s ≡ true → readers_of k s ≤ 1 → spool_weight (without_reader j s) + cond (j == k) (named c s.key.list) 0 ≡ spool_weight s
  leaves-weight j s has few = by (j == k) refl
    where
      by : (t : Bool) → (j == k) ≡ t → spool_weight (without_reader j s) + cond t (named c s.key.list) 0 ≡ spool_weight s
      by true was =
          let none : spool_weight (without_reader j s) ≡ 0 = subst (λ (i : ℕ). total (weight s.key.list) (without i s.readers) ≡ 0) (sym (same j was)) (none-left s.key.list s.readers) in
          let some : spool_weight s ≡ named c s.key.list = one-reader s.key.list s.readers (subst (λ (i : ℕ). has_reader i s ≡ true) (same j was) has) few in
          omega (arith, none, some)
      by false was = omega (arith, others-left s.key.list j s.readers was)

  pub empty-weight : (s : SpoolAt) → (length s.readers == 0) ≡ true → spool_weight s ≡ 0
  empty-weight s e = no-weight s.key.list s.readers e
