-- The oldest entry that passes a test: where it stands, and what is left without it.
use Rattle.std.proofs.Common.{◌≡◌, ℕ, zero, suc, ◌+◌, ◌<◌, ◌≤◌, Bool, true, false, cond, not, ltb, List, [], ◌∷◌, refl, sym, ◌∙◌, ap, length, get_or, set, Some, None, find, arith}
use Rattle.std.specs.List.{position, position_or_len, remove, slice_get}
use Rattle.std.proofs.lemmas.List.Folds.{find_at}
use Rattle.std.proofs.lemmas.Option.{slice_get-get_or, slice_get_past}
use Rattle.nc_buffer.specs.declared.entry.Entry.{Entry}
use Rattle.nc_buffer.specs.Buffer.{without_first, granted, with_grant}

place_found : (n m i : ℕ) (b : Bool) → ltb n m ≡ b → cond b (Some n) None ≡ Some i → (n ≡ i) × (n < m)
place_found n m i true lt h = (cc, grind arith)
place_found n m i false lt h = absurd cc

place_missed : (n m : ℕ) (b : Bool) → ltb n m ≡ b → cond b (Some n) None ≡ None → m ≤ n
place_missed n m true lt h = absurd cc
place_missed n m false lt h = grind arith

-- a place that is found is within the list
pub found-within : (test : Entry → Bool) (es : List Entry) (place : ℕ) → position test es ≡ Some place → place < length es
found-within test es place h = let at = place_found (position_or_len test es) (length es) place _ refl h in omega (arith, at.0, at.1)

-- at the place that is found stands the oldest entry that passes
pub found-at : (test : Entry → Bool) (es : List Entry) (place : ℕ) → position test es ≡ Some place → slice_get es place ≡ find test es
found-at test es place h =
    let at = place_found (position_or_len test es) (length es) place _ refl h in
    ap (λ n. slice_get es n) (sym at.0) ∙ sym (find_at test es)

found-is_first : (test : Entry → Bool) (es : List Entry) (place : ℕ) (d : Entry) → position test es ≡ Some place → find test es ≡ Some (get_or es place d)
found-is_first test es place d h = sym (found-at test es place h) ∙ slice_get-get_or es place d (found-within test es place h)

pub missed-is_none : (test : Entry → Bool) (es : List Entry) → position test es ≡ None → find test es ≡ None
missed-is_none test es h = find_at test es ∙ slice_get_past es (position_or_len test es) (place_missed (position_or_len test es) (length es) _ refl h)

remove_behind : (e : Entry) (es : List Entry) (n : ℕ) → remove (e ∷ es) (1 + n) ≡ e ∷ remove es n
remove_behind e es n = let next : 1 + n ≡ suc n = omega arith in ap (remove (e ∷ es)) next

remove_first : (test : Entry → Bool) (es : List Entry) → remove es (position_or_len test es) ≡ without_first test es
remove_first test [] = refl
remove_first test (e ∷ es) = by (test e) (remove_first test es)
  where
    by : (b : Bool) → remove es (position_or_len test es) ≡ without_first test es → remove (e ∷ es) (cond (not b) (1 + position_or_len test es) 0) ≡ cond b es (e ∷ without_first test es)
    by true rest = refl
    by false rest = remove_behind e es (position_or_len test es) ∙ ap (λ l. e ∷ l) rest

-- the entries without the one at the place that is found
pub remove-found : (test : Entry → Bool) (es : List Entry) (place : ℕ) → position test es ≡ Some place → remove es place ≡ without_first test es
remove-found test es place h =
    let at = place_found (position_or_len test es) (length es) place _ refl h in
    ap (remove es) (sym at.0) ∙ remove_first test es

-- where none passes, nothing leaves
pub none-leaves : (test : Entry → Bool) (es : List Entry) → find test es ≡ None → es ≡ without_first test es
none-leaves test [] h = refl
none-leaves test (e ∷ es) h = by (test e) h (none-leaves test es)
  where
    by : (b : Bool) → cond b (Some e) (find test es) ≡ None → (find test es ≡ None → es ≡ without_first test es) → e ∷ es ≡ cond b es (e ∷ without_first test es)
    by true none rest = absurd cc
    by false none rest = ap (λ l. e ∷ l) (rest none)

-- an entry that is read and written back with one grant more
pub set-granted : (es : List Entry) (place : ℕ) (e : Entry) → place < length es → e ≡ get_or es place e → set es place (granted e) ≡ with_grant place es
set-granted [] place e within is = absurd (omega arith)
set-granted (x ∷ es) zero e within is = ap (λ y. granted y ∷ es) is
set-granted (x ∷ es) (suc place) e within is = ap (λ l. x ∷ l) (set-granted es place e (omega arith) is)

-- the same of a list that is read as `seen` and known as `old`
pub found-taken : (test : Entry → Bool) (seen es old : List Entry) (place : ℕ) (e : Entry) → Some place ≡ position test seen → seen ≡ es → es ≡ old → e ≡ get_or es place e → Some e ≡ find test old
found-taken test seen es old place e at here known is =
    ap Some is ∙ sym (found-is_first test es place e (ap (position test) (sym here) ∙ sym at)) ∙ ap (find test) known

pub found-kept : (test : Entry → Bool) (seen es old rest : List Entry) (place : ℕ) → Some place ≡ position test seen → seen ≡ es → es ≡ old → rest ≡ remove es place → rest ≡ without_first test old
found-kept test seen es old rest place at here known is =
    is ∙ remove-found test es place (ap (position test) (sym here) ∙ sym at) ∙ ap (without_first test) known

pub missed-old : (test : Entry → Bool) (seen es old : List Entry) → None ≡ position test seen → seen ≡ es → es ≡ old → find test old ≡ None
missed-old test seen es old at here known = ap (find test) (sym (here ∙ known)) ∙ missed-is_none test seen (sym at)
