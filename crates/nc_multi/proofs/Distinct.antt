-- Each name at its first place.
use Rattle.std.proofs.Common.{ℕ, ◌<◌, List, [], ◌∷◌, ◌++◌, length, arith, ◌≡◌, ◌≢◌, ◌∙◌, refl, sym, ap, subst, Bool, true, false, cond, ◌+◌, take, get_or}
use Rattle.std.specs.Prelude.{not, filter, ◌||◌, bytes_eq}
use Rattle.std.specs.List.{AllByRecursion, list_any}
use Rattle.std.specs.Cmp.Lexicographic.{same_text, other_text}
use Rattle.std.proofs.lemmas.Bool.{both_ways}
use Rattle.std.proofs.lemmas.List.{take_more, append-nil}
use Rattle.std.proofs.lemmas.List.Elements.{filter-append}
use Rattle.nc_types.specs.Channel.{AreDistinct}
use Rattle.nc_multi.specs.Names.{distinct, with_name}

-- the names that differ from one
abbrev others : List ℕ → List (List ℕ) → List (List ℕ)
others name names = filter (λ other. not (bytes_eq name other)) names

-- ---- no name stands twice

differ : (name : List ℕ) (names : List (List ℕ)) → AllByRecursion (λ other. other ≢ name) (others name names)
differ name [] = tt
differ name (other ∷ names) =
    (elim (bytes_eq name other) as (λ b. bytes_eq name other ≡ b → AllByRecursion (λ o. o ≢ name) (cond (not b) (other ∷ others name names) (others name names))) [
      | true ↦ λ e. differ name names
      | false ↦ λ e. (λ f. other_text name other (sym e) (sym f), differ name names)
    ]) refl

all-others : (P : List ℕ → Type 0) (name : List ℕ) (names : List (List ℕ)) → AllByRecursion P names → AllByRecursion P (others name names)
all-others P name [] h = tt
all-others P name (other ∷ names) h =
    elim (bytes_eq name other) as (λ b. AllByRecursion P (cond (not b) (other ∷ others name names) (others name names))) [
      | true ↦ all-others P name names h.1
      | false ↦ (h.0, all-others P name names h.1)
    ]

distinct-others : (name : List ℕ) (names : List (List ℕ)) → AreDistinct names → AreDistinct (others name names)
distinct-others name [] h = tt
distinct-others name (other ∷ names) h =
    elim (bytes_eq name other) as (λ b. AreDistinct (cond (not b) (other ∷ others name names) (others name names))) [
      | true ↦ distinct-others name names h.1
      | false ↦ (all-others (λ o. o ≢ other) name names h.0, distinct-others name names h.1)
    ]

pub are-distinct : (names : List (List ℕ)) → AreDistinct (distinct names)
are-distinct [] = tt
are-distinct (name ∷ names) = (differ name (distinct names), distinct-others name (distinct names) (are-distinct names))

pub some-distinct : (names : List (List ℕ)) → 0 < length names → 0 < length (distinct names)
some-distinct [] h = h
some-distinct (name ∷ names) h = omega arith

-- ---- one name more

-- another name is among those that differ from one, where it is among all
any-others : (x y : List ℕ) (names : List (List ℕ)) → bytes_eq x y ≡ false → list_any (bytes_eq x) (others y names) ≡ list_any (bytes_eq x) names
any-others x y [] e = refl
any-others x y (d ∷ names) e =
    (elim (bytes_eq y d) as (λ b. bytes_eq y d ≡ b → list_any (bytes_eq x) (cond (not b) (d ∷ others y names) (others y names)) ≡ list_any (bytes_eq x) (d ∷ names)) [
      | true ↦ λ f. (let g = same_text y d (sym f) in
          let h : bytes_eq x d ≡ false = subst (λ (k : List ℕ). bytes_eq x k ≡ false) g e in
          any-others x y names e ∙ sym (rw h refl))
      | false ↦ λ f. ap (λ (b : Bool). bytes_eq x d || b) (any-others x y names e)
    ]) refl

turned : (x y : List ℕ) → bytes_eq x y ≡ true → bytes_eq y x ≡ true
turned x y e =
    let f = same_text x y (sym e) in
    let g = subst (λ (k : List ℕ). bytes_eq k y ≡ true) f e in
    subst (λ (k : List ℕ). bytes_eq y k ≡ true) (sym f) g

turned-other : (x y : List ℕ) → bytes_eq x y ≡ false → bytes_eq y x ≡ false
turned-other x y e =
    (elim (bytes_eq y x) as (λ b. bytes_eq y x ≡ b → b ≡ false) [
      | true ↦ λ f. absurd (both_ways (bytes_eq x y) e (turned y x f))
      | false ↦ λ f. refl
    ]) refl

-- the name is the first one once more
again : (names : List (List ℕ)) (x y : List ℕ) (b : Bool) → bytes_eq y x ≡ true → others y (cond b names (names ++ x ∷ [])) ≡ others y names
again names x y true e = refl
again names x y false e =
    filter-append (λ other. not (bytes_eq y other)) names (x ∷ [])
    ∙ subst (λ (b : Bool). others y names ++ cond (not b) (x ∷ []) [] ≡ others y names) (sym e) (append-nil (others y names))

-- the name is another one
new : (names : List (List ℕ)) (x y : List ℕ) (b : Bool) → bytes_eq y x ≡ false → y ∷ others y (cond b names (names ++ x ∷ [])) ≡ cond b (y ∷ others y names) (y ∷ others y names ++ x ∷ [])
new names x y true e = refl
new names x y false e =
    ap (λ (l : List (List ℕ)). y ∷ l)
    (filter-append (λ other. not (bytes_eq y other)) names (x ∷ [])
    ∙ subst (λ (b : Bool). others y names ++ cond (not b) (x ∷ []) [] ≡ others y names ++ x ∷ []) (sym e) refl)

one-more : (names : List (List ℕ)) (x y : List ℕ) → y ∷ others y (with_name names x) ≡ with_name (y ∷ others y names) x
one-more names x y =
    (elim (bytes_eq x y) as (λ b. bytes_eq x y ≡ b → y ∷ others y (with_name names x) ≡ cond (b || list_any (bytes_eq x) (others y names)) (y ∷ others y names) (y ∷ others y names ++ x ∷ [])) [
      | true ↦ λ e. ap (λ (l : List (List ℕ)). y ∷ l) (again names x y (list_any (bytes_eq x) names) (turned x y e))
      | false ↦ λ e. subst (λ (b : Bool). y ∷ others y (with_name names x) ≡ cond b (y ∷ others y names) (y ∷ others y names ++ x ∷ [])) (sym (any-others x y names e)) (new names x y (list_any (bytes_eq x) names) (turned-other x y e))
    ]) refl

pub distinct-push : (names : List (List ℕ)) (x : List ℕ) → distinct (names ++ x ∷ []) ≡ with_name (distinct names) x
distinct-push [] x = refl
distinct-push (y ∷ names) x = ap (λ (l : List (List ℕ)). y ∷ others y l) (distinct-push names x) ∙ one-more (distinct names) x y

-- what is kept of the first names, and of one name more
pub distinct-next : (names : List (List ℕ)) (i : ℕ) (name : List ℕ) (kept more : List (List ℕ)) → i < length names → name ≡ get_or names i name → kept ≡ distinct (take i names) → more ≡ with_name kept name → more ≡ distinct (take (i + 1) names)
distinct-next names i name kept more lt is e f =
    f ∙ ap (λ (l : List (List ℕ)). with_name l name) e ∙ sym (distinct-push (take i names) name)
    ∙ ap (λ (n : List ℕ). distinct (take i names ++ n ∷ [])) is ∙ ap distinct (sym (take_more names i name lt))
