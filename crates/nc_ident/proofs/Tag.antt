-- Reading one tag is right.
use Rattle.std.proofs.Common.{◌≡◌, ◌≢◌, ℕ, ℤ, pos, negsuc, Bool, true, false, cond, eqb, List, [], ◌∷◌, ◌++◌, Option, Some, None, refl, sym, ap, subst, ◌∙◌, arith, drop}
use Rattle.std.proofs.lemmas.Bool.{eqb-true, or_right}
use Rattle.nc_grammar.specs.Reading.{Read, Found, Stuck, map_read, go_on, with_first}
use Rattle.nc_grammar.specs.Number.{is_digit}
use Rattle.nc_grammar.specs.Digits.{IsDigits, digits_at}
use Rattle.nc_grammar.specs.Label.{label_at, field_at}
use Rattle.nc_grammar.specs.Maybe.{option_at, begins_with, if_first}
use Rattle.nc_grammar.proofs.Texts.{IsMaybe}
use Rattle.nc_grammar.proofs.Split.{head_is, not_nil}
use Rattle.nc_grammar.proofs.Exact.{IsExact, IsExact-same, IsExact-named, IsExact-read, IsSet-wider, Named}
use Rattle.nc_grammar.proofs.Seq.{Both, both_exact, read_both, either}
use Rattle.nc_grammar.proofs.Digits.{digits_exact, digits_first, digits_some}
use Rattle.nc_grammar.proofs.Maybe.{NoDash, maybe_exact}
use Rattle.nc_grammar.proofs.Label.{nothing, IsLabel, label_exact}
use Rattle.nc_grammar.proofs.Rows.{IsLabelled, labelled_exact}
use Rattle.nc_grammar.proofs.Two.{IsEither, on_left, on_right, IsChoice, choice_exact}
use Rattle.nc_ident.specs.Spelling.{SpellsTag}
use Rattle.nc_ident.specs.Reader.{spelled_tag_at, spelled_closed_tag_at, spelled_element_at}

-- ---- a tag

abbrev tag_of : Option ℕ → ℤ
tag_of None = negsuc 0
tag_of (Some g) = pos g

-- the texts of a tag, with the tag first
abbrev pub IsTagText : ℤ → List ℕ → Type 0
IsTagText g u = SpellsTag u g

digits_no_dash : NoDash (IsDigits 5 65535)
digits_no_dash = record { some = λ n m. digits_some 5 65535 n m; other = λ n s m. dash (digits_first 5 65535 n 45 s m) }
  where
    dash : is_digit 45 ≡ true → ⊥
    dash e = absurd cc

tag_there : (g : ℤ) (u : List ℕ) → Named tag_of (IsMaybe (IsDigits 5 65535)) g u → IsTagText g u
tag_there g u m = by_option m.0 m.1 m.2
  where
    by_option : (o : Option ℕ) → g ≡ tag_of o → IsMaybe (IsDigits 5 65535) o u → IsTagText g u
    by_option None e l = subst (λ (h : ℤ). IsTagText h u) (sym e) (refl, l)
    by_option (Some n) e l = subst (λ (h : ℤ). IsTagText h u) (sym e) l

tag_back : (g : ℤ) (u : List ℕ) → IsTagText g u → Named tag_of (IsMaybe (IsDigits 5 65535)) g u
tag_back (pos n) u m = (Some n, refl, m)
tag_back (negsuc n) u m = (None, ap negsuc m.0, m.1)

named_twice : (y : Read ℕ) → map_read tag_of (map_read Some y) ≡ map_read pos y
named_twice (Found n r) = refl
named_twice (Stuck r) = refl

tag_reads : (t : List ℕ) → map_read tag_of (option_at (digits_at 5 65535) t) ≡ spelled_tag_at t
tag_reads t =
    elim (begins_with 45 t) as (λ b. map_read tag_of (cond b (Found None (drop 1 t)) (map_read Some (digits_at 5 65535 t))) ≡ cond b (Found (negsuc 0) (drop 1 t)) (map_read pos (digits_at 5 65535 t))) [
      | true ↦ refl
      | false ↦ named_twice (digits_at 5 65535 t)
    ]

pub tag_exact : IsExact IsTagText is_digit spelled_tag_at
tag_exact =
    IsExact-read IsTagText is_digit (λ t. map_read tag_of (option_at (digits_at 5 65535) t)) spelled_tag_at tag_reads
    (IsExact-same (Named tag_of (IsMaybe (IsDigits 5 65535))) IsTagText is_digit _ tag_there tag_back
    (IsExact-named tag_of (IsMaybe (IsDigits 5 65535)) is_digit (option_at (digits_at 5 65535)) (maybe_exact (IsDigits 5 65535) is_digit (digits_at 5 65535) digits_no_dash (digits_exact 5 65535 (omega arith)))))

-- a tag's text isn't empty and doesn't begin with a bracket
tag_some : (g : ℤ) → IsTagText g [] → ⊥
tag_some (pos n) m = digits_some 5 65535 n m
tag_some (negsuc n) m = not_nil 45 [] (sym m.1)

tag_begins : (g : ℤ) (c : ℕ) (s : List ℕ) → IsTagText g (c ∷ s) → c ≢ 91
tag_begins (pos n) c s m = λ e. bracket (subst (λ (i : ℕ). is_digit i ≡ true) e (digits_first 5 65535 n c s m))
  where
    bracket : is_digit 91 ≡ true → ⊥
    bracket e = absurd cc
tag_begins (negsuc n) c s m = λ e. absurd (omega (arith, e, head_is c 45 s [] m.1))

-- ---- a tag in brackets

-- a tag and the closing bracket, behind which no later tag stands in brackets
abbrev IsClosed : ℤ × Bool → List ℕ → Type 0
IsClosed = Named (λ (p : ℤ × Unit {0}). (p.0, false)) (Both IsTagText (λ g. IsLabel (93 ∷ [])))

pub with_is : {A B C : Type 0} (to : A × B → C) (a : A) (y : Read B) → map_read to (with_first a y) ≡ map_read (λ b. to (a, b)) y
with_is to a (Found b r) = refl
with_is to a (Stuck r) = refl

pub both_is : {A B C : Type 0} (to : A × B → C) (y : Read A) (f : A → List ℕ → Read B) → map_read to (go_on y (λ a r. with_first a (f a r))) ≡ go_on y (λ a r. map_read (λ b. to (a, b)) (f a r))
both_is to (Found a r) f = with_is to a (f a r)
both_is to (Stuck r) f = refl

closed_exact : IsExact IsClosed (either is_digit nothing) spelled_closed_tag_at
closed_exact =
    IsExact-read IsClosed (either is_digit nothing) _ spelled_closed_tag_at (λ t. both_is (λ (p : ℤ × Unit {0}). (p.0, false)) (spelled_tag_at t) (λ g. label_at (93 ∷ [])))
    (IsExact-named (λ (p : ℤ × Unit {0}). (p.0, false)) (Both IsTagText (λ g. IsLabel (93 ∷ []))) (either is_digit nothing) (read_both spelled_tag_at (λ g. label_at (93 ∷ [])))
    (both_exact IsTagText (λ g. IsLabel (93 ∷ [])) is_digit nothing spelled_tag_at (λ g. label_at (93 ∷ [])) tag_exact (λ g u h. label_exact (93 ∷ []))
    (λ g x c v h. subst (λ (i : ℕ). is_digit i ≡ false) (sym (head_is c 93 v [] h)) refl)))

-- ---- a tag that may stand in brackets

-- a tag, in brackets where these are unused, and whether a later tag may stand in brackets
pub data IsElement (unused : Bool) (e : ℤ × Bool) (u : List ℕ) : Type 0 where
  bare : IsTagText e.0 u → e.1 ≡ unused → IsElement unused e u
  boxed : (v : List ℕ) → IsTagText e.0 v → unused ≡ true → e.1 ≡ false → u ≡ 91 ∷ v ++ 93 ∷ [] → IsElement unused e u

abbrev IsOpened : ℤ × Bool → List ℕ → Type 0
IsOpened = IsLabelled (91 ∷ []) IsClosed

abbrev IsBare : Bool → ℤ × Bool → List ℕ → Type 0
IsBare unused = Named (λ g. (g, unused)) IsTagText

bare_exact : (unused : Bool) → IsExact (IsBare unused) is_digit (λ t. map_read (λ g. (g, unused)) (spelled_tag_at t))
bare_exact unused = IsExact-named (λ g. (g, unused)) IsTagText is_digit spelled_tag_at tag_exact

pair_eq : {A B : Type 0} (x y : A × B) → x.0 ≡ y.0 → x.1 ≡ y.1 → x ≡ y
pair_eq {A} {B} x y e f = ap (λ (a : A). (a, x.1)) e ∙ ap (λ (b : B). (y.0, b)) f

bare_there : (unused : Bool) (e : ℤ × Bool) (u : List ℕ) → IsBare unused e u → IsElement unused e u
bare_there unused e u m = bare (subst (λ (g : ℤ). IsTagText g u) (sym (ap (λ (x : ℤ × Bool). x.0) m.1)) m.2) (ap (λ (x : ℤ × Bool). x.1) m.1)

opened_there : (e : ℤ × Bool) (u : List ℕ) → IsOpened e u → IsElement true e u
opened_there e u m =
    let closed = m.value in
    let b = closed.2 in
    boxed b.left (subst (λ (g : ℤ). IsTagText g b.left) (sym (ap (λ (x : ℤ × Bool). x.0) closed.1)) b.first) refl (ap (λ (x : ℤ × Bool). x.1) closed.1)
    (m.parts ∙ ap (λ (l : List ℕ). 91 ∷ l) (b.parts ∙ ap (λ (l : List ℕ). b.left ++ l) b.second))

is_choice : IsChoice 91 IsOpened (IsBare true)
is_choice =
    record {
      begins = λ e c s m. head_is c 91 s m.rest m.parts;
      others = λ e c s m. tag_begins m.0 c s m.2;
      some = λ e m. not_nil 91 m.rest (sym m.parts);
      some_others = λ e m. tag_some m.0 m.2;
    }

element_there : (e : ℤ × Bool) (u : List ℕ) → IsEither IsOpened (IsBare true) e u → IsElement true e u
element_there e u (on_left m) = opened_there e u m
element_there e u (on_right m) = bare_there true e u m

element_back : (e : ℤ × Bool) (u : List ℕ) → IsElement true e u → IsEither IsOpened (IsBare true) e u
element_back e u (bare m f) = on_right (e.0, pair_eq e (e.0, true) refl f, m)
element_back e u (boxed v m o f h) =
    on_left (record {
      rest = v ++ 93 ∷ [];
      value = ((e.0, tt), pair_eq e (e.0, false) refl f, record { left = v; right = 93 ∷ []; first = m; second = refl; parts = refl });
      parts = h;
    })

bare_back : (e : ℤ × Bool) (u : List ℕ) → IsElement false e u → IsBare false e u
bare_back e u (bare m f) = (e.0, pair_eq e (e.0, false) refl f, m)
bare_back e u (boxed v m o f h) = absurd cc

element_reads : (t : List ℕ) → if_first 91 (field_at (91 ∷ []) spelled_closed_tag_at) (λ t. map_read (λ g. (g, true)) (spelled_tag_at t)) t ≡ spelled_element_at true t
element_reads [] = refl
element_reads (c ∷ r) =
    (elim (eqb c 91) as (λ b. eqb c 91 ≡ b → cond b (field_at (91 ∷ []) spelled_closed_tag_at (c ∷ r)) (map_read (λ g. (g, true)) (spelled_tag_at (c ∷ r))) ≡ cond b (spelled_closed_tag_at r) (map_read (λ g. (g, true)) (spelled_tag_at (c ∷ r)))) [
      | true ↦ λ e. ap (λ (i : ℕ). field_at (91 ∷ []) spelled_closed_tag_at (i ∷ r)) (eqb-true c 91 e)
      | false ↦ λ e. refl
    ]) refl

-- which bytes can go on behind a tag
abbrev pub tag_stays : ℕ → Bool
tag_stays = either (either nothing (either is_digit nothing)) is_digit

pub element_exact : (unused : Bool) → IsExact (IsElement unused) tag_stays (spelled_element_at unused)
element_exact true =
    IsExact-read (IsElement true) tag_stays _ (spelled_element_at true) element_reads
    (IsExact-same (IsEither IsOpened (IsBare true)) (IsElement true) tag_stays _ element_there element_back
    (choice_exact 91 IsOpened (IsBare true) (either nothing (either is_digit nothing)) is_digit (field_at (91 ∷ []) spelled_closed_tag_at) (λ t. map_read (λ g. (g, true)) (spelled_tag_at t)) is_choice
    (labelled_exact (91 ∷ []) IsClosed (either is_digit nothing) spelled_closed_tag_at closed_exact) (bare_exact true)))
element_exact false =
    let x = IsExact-same (IsBare false) (IsElement false) is_digit _ (bare_there false) bare_back (bare_exact false) in
    record { set = IsSet-wider (IsElement false) is_digit tag_stays (λ c e. or_right _ (is_digit c) e) x.set; tells = x.tells }
