-- Rows and their runs.
use Rattle.std.proofs.Common.{◌≡◌, ◌<◌, ◌≤◌, ◌*◌, ◌/◌, ◌%◌, ◌^◌, min, ℕ, zero, suc, ◌+◌, ◌-◌, Bool, true, false, List, [], ◌∷◌, refl, sym, ap, ◌∙◌, arith, ltb, ◌||◌, length, take, drop, set, get_or, replicate, subst}
use Rattle.std.specs.Prelude.{Some, None, position}
use Rattle.std.specs.List.{list_any}
use Rattle.std.proofs.lemmas.List.{length-drop, length-set, get_or-drop, drop-drop, length-replicate, take-set-le, drop-set-lt, drop-set-add, drop-replicate}
use Rattle.std.proofs.lemmas.Grind.{div_ceil_times}
use Rattle.nc_slots.specs.Slot.{is_unused, slot_at, granted, retired}
use Rattle.nc_slots.specs.Row.{AreRuns, IsRow}
use Rattle.nc_slots.specs.declared.slot.Slot.{Slot}
use Rattle.nc_slots.specs.declared.slot.Slot.TheVariants.{Unused, Buffered, Retired}
use Rattle.nc_slots.proofs.First.{first, position-first, found_next, missed_next, first_within, first_take, first_drop, none_drop, first_any}

abbrev pub told : Bool → Bool
told run = run

module _ {M : Type 0} where
  abbrev pub run_at : List (Slot M) → ℕ → List (Slot M)
  run_at slots r = take 64 (drop (r * 64) slots)

  run_next : (slots : List (Slot M)) (r j : ℕ) → r ≡ suc j → run_at (drop 64 slots) j ≡ run_at slots r
  run_next slots r j is = ap (take 64) (drop-drop (j * 64) 64 slots ∙ ap (λ (n : ℕ). drop n slots) (let n : 64 + j * 64 ≡ r * 64 = omega arith in n))

  some_slot : (xs : List (Slot M)) → true ≡ list_any is_unused (take 64 xs) → 0 < length xs
  some_slot [] e = absurd cc
  some_slot (x ∷ xs) e = omega arith

  -- a run with an unused slot begins within the row
  pub run_within : (slots : List (Slot M)) (runs : List Bool) (r : ℕ) → AreRuns slots runs → first told runs ≡ Some r → r * 64 < length slots
  run_within slots [] r are is = absurd cc
  run_within slots (true ∷ runs) r are is = let z : 0 ≡ r = cc in let l = some_slot slots are.0 in omega arith
  run_within slots (false ∷ runs) r are is =
      let f = found_next (first told runs) r is in let l = run_within (drop 64 slots) runs f.0 are.1 f.1 in
      let len = length-drop 64 slots in let s = f.2 in omega arith

  -- without such a run no slot is unused
  pub no_run : (slots : List (Slot M)) (runs : List Bool) → AreRuns slots runs → first told runs ≡ None → first is_unused slots ≡ None
  no_run slots [] are is = ap (first is_unused) are
  no_run slots (true ∷ runs) are is = absurd cc
  no_run slots (false ∷ runs) are is = none_drop is_unused 64 slots (sym are.0) (no_run (drop 64 slots) runs are.1 (missed_next (first told runs) is))

  -- the first unused slot of the first such run is the lowest of all
  pub run_found : (slots : List (Slot M)) (runs : List Bool) (r w : ℕ) → AreRuns slots runs → first told runs ≡ Some r → first is_unused (run_at slots r) ≡ Some w → first is_unused slots ≡ Some (r * 64 + w)
  run_found slots [] r w are is found = absurd cc
  run_found slots (true ∷ runs) zero w are is found = first_take is_unused 64 slots w found ∙ ap Some (let n : w ≡ 0 * 64 + w = omega arith in n)
  run_found slots (true ∷ runs) (suc r) w are is found = absurd cc
  run_found slots (false ∷ runs) r w are is found =
      let f = found_next (first told runs) r is in
      first_drop is_unused 64 slots (f.0 * 64 + w) (sym are.0) (run_found (drop 64 slots) runs f.0 w are.1 f.1 (ap (first is_unused) (run_next slots r f.0 f.2) ∙ found))
      ∙ ap Some (let s = f.2 in let n : 64 + (f.0 * 64 + w) ≡ r * 64 + w = omega arith in n)

  -- and there is one
  pub run_has : (slots : List (Slot M)) (runs : List Bool) (r : ℕ) → AreRuns slots runs → first told runs ≡ Some r → first is_unused (run_at slots r) ≡ None → ⊥
  run_has slots [] r are is none = absurd cc
  run_has slots (true ∷ runs) zero are is none = first_any is_unused (take 64 slots) (sym are.0) none
  run_has slots (true ∷ runs) (suc r) are is none = absurd cc
  run_has slots (false ∷ runs) r are is none =
      let f = found_next (first told runs) r is in
      run_has (drop 64 slots) runs f.0 are.1 f.1 (ap (first is_unused) (run_next slots r f.0 f.2) ∙ none)

  -- the same in std's word, by what the code found
  pub begins_within : (slots : List (Slot M)) (runs : List Bool) (r : ℕ) → AreRuns slots runs → position told runs ≡ Some r → r * 64 < length slots
  begins_within slots runs r are is = run_within slots runs r are (sym (position-first told runs) ∙ is)

  pub no_lowest : (slots : List (Slot M)) (runs : List Bool) → AreRuns slots runs → position told runs ≡ None → None ≡ position is_unused slots
  no_lowest slots runs are is = sym (position-first is_unused slots ∙ no_run slots runs are (sym (position-first told runs) ∙ is))

  pub lowest_found : (slots : List (Slot M)) (runs : List Bool) (r w : ℕ) → AreRuns slots runs → position told runs ≡ Some r → position is_unused (run_at slots r) ≡ Some w → Some (r * 64 + w) ≡ position is_unused slots
  lowest_found slots runs r w are is found =
      sym (position-first is_unused slots ∙ run_found slots runs r w are (sym (position-first told runs) ∙ is) (sym (position-first is_unused (run_at slots r)) ∙ found))

  pub never_none : (slots : List (Slot M)) (runs : List Bool) (r : ℕ) → AreRuns slots runs → position told runs ≡ Some r → position is_unused (run_at slots r) ≡ None → ⊥
  never_none slots runs r are is none = run_has slots runs r are (sym (position-first told runs) ∙ is) (sym (position-first is_unused (run_at slots r)) ∙ none)

  pub lowest_within : (slots : List (Slot M)) (k : ℕ) → Some k ≡ position is_unused slots → k < length slots
  lowest_within slots k is = first_within is_unused slots k (sym (position-first is_unused slots) ∙ sym is)

  first_written : (slots : List (Slot M)) (run : Bool) (runs : List Bool) (k : ℕ) (s : Slot M) → k < 64 → AreRuns slots (run ∷ runs)
      → AreRuns (set slots k s) (set (run ∷ runs) 0 (list_any is_unused (run_at (set slots k s) 0)))
  first_written slots run runs k s lt are = (refl, subst (λ (xs : List (Slot M)). AreRuns xs runs) (sym (drop-set-lt 64 slots k s lt)) are.1)

  later_written : (slots : List (Slot M)) (run : Bool) (runs : List Bool) (i j : ℕ) (s : Slot M) → AreRuns slots (run ∷ runs)
      → AreRuns (set (drop 64 slots) i s) (set runs j (list_any is_unused (run_at (set (drop 64 slots) i s) j)))
      → AreRuns (set slots (64 + i) s) (set (run ∷ runs) (suc j) (list_any is_unused (run_at (set slots (64 + i) s) (suc j))))
  later_written slots run runs i j s are rest =
      let xs = set slots (64 + i) s in
      let head : run ≡ list_any is_unused (take 64 xs) = are.0 ∙ ap (list_any is_unused) (sym (take-set-le 64 slots (64 + i) s (omega arith))) in
      let tail : AreRuns (drop 64 xs) (set runs j (list_any is_unused (run_at (drop 64 xs) j))) = subst (λ (zs : List (Slot M)). AreRuns zs (set runs j (list_any is_unused (run_at zs j)))) (sym (drop-set-add 64 slots i s)) rest in
      (head, subst (λ (zs : List (Slot M)). AreRuns (drop 64 xs) (set runs j (list_any is_unused zs))) (run_next xs (suc j) j refl) tail)

  -- the runs of a row in which one slot was written
  pub runs_written : (slots : List (Slot M)) (runs : List Bool) (k : ℕ) (s : Slot M) → AreRuns slots runs → AreRuns (set slots k s) (set runs (k / 64) (list_any is_unused (run_at (set slots k s) (k / 64))))
  runs_written slots [] k s are = ap (λ (xs : List (Slot M)). set xs k s) are
  runs_written slots (run ∷ runs) k s are = by (ltb k 64) refl (runs_written (drop 64 slots) runs (k - 64) s are.1)
    where
      by : (b : Bool) → ltb k 64 ≡ b
          → AreRuns (set (drop 64 slots) (k - 64) s) (set runs ((k - 64) / 64) (list_any is_unused (run_at (set (drop 64 slots) (k - 64) s) ((k - 64) / 64))))
          → AreRuns (set slots k s) (set (run ∷ runs) (k / 64) (list_any is_unused (run_at (set slots k s) (k / 64))))
      by true e rest =
          let lt : k < 64 = grind arith in let place : 0 ≡ k / 64 = omega arith in
          subst (λ (r : ℕ). AreRuns (set slots k s) (set (run ∷ runs) r (list_any is_unused (run_at (set slots k s) r)))) place (first_written slots run runs k s lt are)
      by false e rest =
          let le : 64 ≤ k = grind arith in let place : suc ((k - 64) / 64) ≡ k / 64 = omega arith in let number : 64 + (k - 64) ≡ k = omega arith in
          subst (λ (r : ℕ). AreRuns (set slots k s) (set (run ∷ runs) r (list_any is_unused (run_at (set slots k s) r)))) place
          (subst (λ (n : ℕ). AreRuns (set slots n s) (set (run ∷ runs) (suc ((k - 64) / 64)) (list_any is_unused (run_at (set slots n s) (suc ((k - 64) / 64)))))) number (later_written slots run runs (k - 64) ((k - 64) / 64) s are rest))

  -- there is a run for each slot
  pub run_there : (slots : List (Slot M)) (runs : List Bool) (k : ℕ) → AreRuns slots runs → k < length slots → k / 64 < length runs
  run_there slots [] k are lt = let len = ap length are in omega arith
  run_there slots (run ∷ runs) k are lt = by (ltb k 64) refl (run_there (drop 64 slots) runs (k - 64) are.1)
    where
      by : (b : Bool) → ltb k 64 ≡ b → (k - 64 < length (drop 64 slots) → (k - 64) / 64 < length runs) → k / 64 < suc (length runs)
      by true e rest = let l : k < 64 = grind arith in omega arith
      by false e rest = let le : 64 ≤ k = grind arith in let len = length-drop 64 slots in let there = rest (omega arith) in omega arith

  any_same : (n : ℕ) (slots : List (Slot M)) (k : ℕ) (s : Slot M) → is_unused s ≡ is_unused (slot_at slots k) → list_any is_unused (take n (set slots k s)) ≡ list_any is_unused (take n slots)
  any_same zero slots k s is = refl
  any_same (suc n) [] k s is = refl
  any_same (suc n) (x ∷ xs) zero s is = ap (λ (b : Bool). b || list_any is_unused (take n xs)) is
  any_same (suc n) (x ∷ xs) (suc k) s is = ap (λ (b : Bool). is_unused x || b) (any_same n xs k s is)

  -- a slot is written that is unused where it was
  pub runs_same : (slots : List (Slot M)) (runs : List Bool) (k : ℕ) (s : Slot M) → AreRuns slots runs → is_unused s ≡ is_unused (slot_at slots k) → AreRuns (set slots k s) runs
  runs_same slots [] k s are is = ap (λ (xs : List (Slot M)). set xs k s) are
  runs_same slots (run ∷ runs) k s are is = (are.0 ∙ sym (any_same 64 slots k s is), by (ltb k 64) refl (runs_same (drop 64 slots) runs (k - 64) s are.1))
    where
      by : (b : Bool) → ltb k 64 ≡ b → (is_unused s ≡ is_unused (slot_at (drop 64 slots) (k - 64)) → AreRuns (set (drop 64 slots) (k - 64) s) runs) → AreRuns (drop 64 (set slots k s)) runs
      by true e rest = subst (λ (xs : List (Slot M)). AreRuns xs runs) (sym (drop-set-lt 64 slots k s (grind arith))) are.1
      by false e rest =
          let le : 64 ≤ k = grind arith in let number : 64 + (k - 64) ≡ k = omega arith in
          let at : is_unused s ≡ is_unused (slot_at (drop 64 slots) (k - 64)) = is ∙ ap (λ (n : ℕ). is_unused (slot_at slots n)) (sym number) ∙ ap is_unused (sym (get_or-drop 64 slots (k - 64) Unused)) in
          let there : AreRuns (drop 64 (set slots (64 + (k - 64)) s)) runs = subst (λ (xs : List (Slot M)). AreRuns xs runs) (sym (drop-set-add 64 slots (k - 64) s)) (rest at) in
          subst (λ (n : ℕ). AreRuns (drop 64 (set slots n s)) runs) number there

  granted_unused : (s : Slot M) → is_unused (granted s) ≡ is_unused s
  granted_unused Unused = refl
  granted_unused (Buffered message clear grants) = refl
  granted_unused (Retired clear grants) = refl

  retired_unused : (s : Slot M) → is_unused (retired s) ≡ is_unused s
  retired_unused Unused = refl
  retired_unused (Buffered message clear grants) = refl
  retired_unused (Retired clear grants) = refl

  set_read : (f : Slot M → Slot M) (slots : List (Slot M)) (k : ℕ) (x : Slot M) → x ≡ get_or slots k x → set slots k (f x) ≡ set slots k (f (slot_at slots k))
  set_read f [] k x is = refl
  set_read f (y ∷ ys) zero x is = ap (λ (z : Slot M). f z ∷ ys) is
  set_read f (y ∷ ys) (suc k) x is = ap (λ (zs : List (Slot M)). y ∷ zs) (set_read f ys k x is)

  row_same : (f : Slot M → Slot M) → ((s : Slot M) → is_unused (f s) ≡ is_unused s) → (slots : List (Slot M)) (runs : List Bool) (k : ℕ) (x s : Slot M)
      → s ≡ f x → x ≡ get_or slots k x → IsRow slots runs → IsRow (set slots k s) runs
  row_same f keeps slots runs k x s is read row =
      let one : set slots k s ≡ set slots k (f (slot_at slots k)) = ap (set slots k) is ∙ set_read f slots k x read in
      let len = length-set slots k s in let few = row.few in
      let runs_are = runs_same slots runs k (f (slot_at slots k)) row.told (keeps (slot_at slots k)) in
      record { few = omega arith; told = subst (λ (xs : List (Slot M)). AreRuns xs runs) (sym one) runs_are }

  -- the rows after each call, where x is the slot that was read
  pub row_granted : (slots : List (Slot M)) (runs : List Bool) (k : ℕ) (x s : Slot M) → s ≡ granted x → x ≡ get_or slots k x → IsRow slots runs → IsRow (set slots k s) runs
  row_granted = row_same granted granted_unused

  pub row_retired : (slots : List (Slot M)) (runs : List Bool) (k : ℕ) (x s : Slot M) → s ≡ retired x → x ≡ get_or slots k x → IsRow slots runs → IsRow (set slots k s) runs
  row_retired = row_same retired retired_unused

  pub row_written : (slots after : List (Slot M)) (runs : List Bool) (k : ℕ) (s : Slot M) (run : Bool) → after ≡ set slots k s → run ≡ list_any is_unused (run_at after (k / 64))
      → IsRow slots runs → IsRow (set slots k s) (set runs (k / 64) run)
  row_written slots after runs k s run set_is is row =
      let told = is ∙ ap (λ (xs : List (Slot M)). list_any is_unused (run_at xs (k / 64))) set_is in
      let len = length-set slots k s in let few = row.few in
      record { few = omega arith; told = subst (λ (b : Bool). AreRuns (set slots k s) (set runs (k / 64) b)) (sym told) (runs_written slots runs k s row.told) }

-- slots that are all unused, with as many runs as they need
pub new_runs : (M : Type 0) (n m : ℕ) → n ≤ m * 64 → m * 64 < n + 64 → AreRuns {M = M} (replicate n Unused) (replicate m true)
new_runs M n zero most least = ap (λ (k : ℕ). replicate k Unused) (let z : n ≡ 0 = omega arith in z)
new_runs M zero (suc m) most least = absurd (omega arith)
new_runs M (suc n) (suc m) most least = (refl, subst (λ (xs : List (Slot M)). AreRuns xs (replicate m true)) (sym (drop-replicate 64 (suc n) Unused)) (new_runs M (suc n - 64) m (omega arith) (omega arith)))

pub new_row : {M : Type 0} (n m : ℕ) (slots : List (Slot M)) (runs : List Bool) → n < 2 ^ 32 → m ≡ n / 64 + min 1 (n % 64) → slots ≡ replicate n Unused → runs ≡ replicate m true → IsRow slots runs
new_row {M = M} n m slots runs few count slots_are runs_are =
    let len = ap length slots_are in let unused : Slot M = Unused in let len_is = length-replicate n unused in
    let times = div_ceil_times n 64 (omega arith) in
    let are = new_runs M n m (omega (arith, times.0, count)) (omega (arith, times.1, count)) in
    record { few = omega arith; told = subst (λ (xs : List (Slot M)). AreRuns xs runs) (sym slots_are) (subst (λ (bs : List Bool). AreRuns {M = M} (replicate n Unused) bs) (sym runs_are) are) }
