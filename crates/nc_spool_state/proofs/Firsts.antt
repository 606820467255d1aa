-- The first item that passes a test: where it stands, and what is left without it.
use Rattle.std.proofs.Common.{◌≡◌, ℕ, suc, ◌+◌, ◌<◌, ◌≤◌, Bool, true, false, cond, not, ltb, List, [], ◌∷◌, refl, sym, ◌∙◌, ap, length, get_or, Some, None, find, arith, ◌||◌}
use Rattle.std.specs.List.{position, position_or_len, remove, slice_get, list_any}
use Rattle.std.proofs.lemmas.List.Folds.{find_at}
use Rattle.std.proofs.lemmas.Option.{slice_get-get_or, slice_get_past}
use Rattle.nc_spool_state.specs.Shelf.{without_first}

place_found : (n m i : ℕ) (b : Bool) → ltb n m ≡ b → cond b (Some n) None ≡ Some i → (n ≡ i) × (n < m)
place_found n m i true lt h = (cc, grind arith)
place_found n m i false lt h = absurd cc

place_missed : (n m : ℕ) (b : Bool) → ltb n m ≡ b → cond b (Some n) None ≡ None → m ≤ n
place_missed n m true lt h = absurd cc
place_missed n m false lt h = grind arith

module _ {X : Type 0} (test : X → Bool) where
  -- at the place that is found stands the first item that passes
  found_first : (xs : List X) (place : ℕ) (d : X) → position test xs ≡ Some place → find test xs ≡ Some (get_or xs place d)
  found_first xs place d h =
      let at = place_found (position_or_len test xs) (length xs) place _ refl h in
      let within : place < length xs = omega (arith, at.0, at.1) in
      find_at test xs ∙ ap (λ n. slice_get xs n) at.0 ∙ slice_get-get_or xs place d within

  missed_first : (xs : List X) → position test xs ≡ None → find test xs ≡ None
  missed_first xs h = find_at test xs ∙ slice_get_past xs (position_or_len test xs) (place_missed (position_or_len test xs) (length xs) _ refl h)

  remove_behind : (x : X) (xs : List X) (n : ℕ) → remove (x ∷ xs) (1 + n) ≡ x ∷ remove xs n
  remove_behind x xs n = let next : 1 + n ≡ suc n = omega arith in ap (remove (x ∷ xs)) next

  remove_first : (xs : List X) → remove xs (position_or_len test xs) ≡ without_first test xs
  remove_first [] = refl
  remove_first (x ∷ xs) = by (test x) (remove_first xs)
    where
      by : (b : Bool) → remove xs (position_or_len test xs) ≡ without_first test xs → remove (x ∷ xs) (cond (not b) (1 + position_or_len test xs) 0) ≡ cond b xs (x ∷ without_first test xs)
      by true rest = refl
      by false rest = remove_behind x xs (position_or_len test xs) ∙ ap (λ l. x ∷ l) rest

  none_leaves : (xs : List X) → find test xs ≡ None → xs ≡ without_first test xs
  none_leaves [] h = refl
  none_leaves (x ∷ xs) h = by (test x) h (none_leaves xs)
    where
      by : (b : Bool) → cond b (Some x) (find test xs) ≡ None → (find test xs ≡ None → xs ≡ without_first test xs) → x ∷ xs ≡ cond b xs (x ∷ without_first test xs)
      by true none rest = absurd cc
      by false none rest = ap (λ l. x ∷ l) (rest none)

  none_any : (xs : List X) → find test xs ≡ None → list_any test xs ≡ false
  none_any [] h = refl
  none_any (x ∷ xs) h = by (test x) h (none_any xs)
    where
      by : (b : Bool) → cond b (Some x) (find test xs) ≡ None → (find test xs ≡ None → list_any test xs ≡ false) → (b || list_any test xs) ≡ false
      by true none rest = absurd cc
      by false none rest = rest none

  -- what stands there, and what is left without it, of a list that is read as `seen` and known as `old`
  pub found-taken : (seen xs old : List X) (place : ℕ) (x : X) → Some place ≡ position test seen → seen ≡ xs → xs ≡ old → x ≡ get_or xs place x → Some x ≡ find test old
  found-taken seen xs old place x at here known is =
      ap Some is ∙ sym (found_first xs place x (ap (position test) (sym here) ∙ sym at)) ∙ ap (find test) known

  pub found-left : (seen xs old rest : List X) (place : ℕ) → Some place ≡ position test seen → seen ≡ xs → xs ≡ old → rest ≡ remove xs place → rest ≡ without_first test old
  found-left seen xs old rest place at here known is =
      let found = place_found (position_or_len test xs) (length xs) place _ refl (ap (position test) (sym here) ∙ sym at) in
      is ∙ ap (remove xs) (sym found.0) ∙ remove_first xs ∙ ap (without_first test) known

  pub missed-taken : (seen xs old : List X) → None ≡ position test seen → seen ≡ xs → xs ≡ old → None ≡ find test old
  missed-taken seen xs old at here known = sym (missed_first old (ap (position test) (sym (here ∙ known)) ∙ sym at))

  pub missed-left : (seen xs old : List X) → None ≡ position test seen → seen ≡ xs → xs ≡ old → old ≡ without_first test old
  missed-left seen xs old at here known = none_leaves old (sym (missed-taken seen xs old at here known))

  -- where one passes, its place is found
  pub any-is_found : (seen xs old : List X) → None ≡ position test seen → seen ≡ xs → xs ≡ old → list_any test old ≡ true → ⊥
  any-is_found seen xs old at here known some = let none = none_any old (sym (missed-taken seen xs old at here known)) in cc

  -- where no place is found, none passes
  pub missed-any : (xs : List X) → None ≡ position test xs → list_any test xs ≡ false
  missed-any xs at = none_any xs (missed_first xs (sym at))
