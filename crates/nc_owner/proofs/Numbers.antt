-- Numbers in ascending lists: what is in them after one is put in.
use Rattle.std.proofs.Common.{◌≡◌, ℕ, Bool, true, false, List, [], ◌∷◌, ◌++◌, refl, ap, ◌∙◌, take, drop}
use Rattle.std.specs.Prelude.{◌||◌, nat_eq}
use Rattle.std.specs.List.{list_any}
use Rattle.std.proofs.lemmas.List.{take-append-drop}
use Rattle.nc_owner.specs.Ascending.{place_above, with_number, has_number}

swap : (a b c : Bool) → (a || (b || c)) ≡ (b || (a || c))
swap true true c = refl
swap true false c = refl
swap false b c = refl

any_between : (test : ℕ → Bool) (xs ys : List ℕ) (x : ℕ) → list_any test (xs ++ x ∷ ys) ≡ (test x || list_any test (xs ++ ys))
any_between test [] ys x = refl
any_between test (y ∷ xs) ys x = ap (λ b. test y || b) (any_between test xs ys x) ∙ swap (test y) (test x) (list_any test (xs ++ ys))

pub has_with : (u x : ℕ) (xs : List ℕ) → has_number u (with_number xs x) ≡ (nat_eq u x || has_number u xs)
has_with u x xs = any_between (nat_eq u) (take (place_above x xs) xs) (drop (place_above x xs) xs) x ∙ ap (λ l. nat_eq u x || list_any (nat_eq u) l) (take-append-drop (place_above x xs) xs)
