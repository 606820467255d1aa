-- Reading tags joined by commas is right.
use Rattle.std.proofs.Common.{◌≡◌, ℕ, ℤ, zero, suc, ◌≤◌, Bool, true, false, cond, eqb, List, [], ◌∷◌, ◌++◌, length, drop, refl, sym, ap, subst, ◌∙◌, append_assoc, arith, length-append}
use Rattle.std.proofs.lemmas.Bool.{eqb-true, eqb-false, eq-eqb, both_ways, or_left, or_right}
use Rattle.nc_grammar.specs.Reading.{Read, Found, Stuck, go_on, map_read, with_first}
use Rattle.nc_grammar.specs.Maybe.{begins_with}
use Rattle.nc_grammar.proofs.Split.{longer, shorter, same, split, head_is, tail_is, not_nil}
use Rattle.nc_grammar.proofs.Exact.{Blocked, IsRightReading, IsSet, IsExact, Named, IsSet-named, IsRightReading-named}
use Rattle.nc_grammar.proofs.Seq.{Both, IsSeq, both_set, both_tells, either}
use Rattle.nc_grammar.proofs.More.{or_comma, Shortens, shortens}
use Rattle.nc_ident.specs.Reader.{spelled_element_at, more_spelled_tags_at, spelled_tags_at, put_last}
use Rattle.nc_ident.proofs.Tag.{IsElement, tag_stays, element_exact, both_is}

-- tags each behind a comma, of which one may stand in brackets where these are unused
abbrev pub IsMore : Bool → List ℤ → List ℕ → Type 0
IsMore unused [] u = u ≡ []
IsMore unused (g ∷ gs) u = (still : Bool) × (v w : List ℕ) × IsElement unused (g, still) v × IsMore still gs w × (u ≡ 44 ∷ v ++ w)

more_comma : (unused : Bool) (gs : List ℤ) (c : ℕ) (v : List ℕ) → IsMore unused gs (c ∷ v) → c ≡ 44
more_comma unused [] c v m = absurd (not_nil c v m)
more_comma unused (g ∷ gs) c v m = head_is c 44 v (m.1 ++ m.2) m.5

-- what begins tags behind a comma does not go on with a tag
apart : (unused : Bool) (gs : List ℤ) (c : ℕ) (v : List ℕ) → IsMore unused gs (c ∷ v) → tag_stays c ≡ false
apart unused gs c v m = subst (λ (i : ℕ). tag_stays i ≡ false) (sym (more_comma unused gs c v m)) refl

clash : (unused : Bool) (e f : ℤ × Bool) (u : List ℕ) (d : ℕ) (z v : List ℕ) (still : Bool) (gs : List ℤ) → IsElement unused e u → IsElement unused f (u ++ d ∷ z) → IsMore still gs (d ∷ v) → ⊥
clash unused e f u d z v still gs l k m = both_ways (tag_stays d) (apart still gs d v m) ((element_exact unused).set.stay e f u d z l k)

one_element : (unused : Bool) (e f : ℤ × Bool) (u : List ℕ) → IsElement unused e u → IsElement unused f u → e ≡ f
one_element unused e f u l k = (element_exact unused).set.unique e f u l k

pub more_unique : (unused : Bool) (gs hs : List ℤ) (u : List ℕ) → IsMore unused gs u → IsMore unused hs u → gs ≡ hs
more_unique unused [] [] u m n = refl
more_unique unused [] (h ∷ hs) u m n = absurd (not_nil 44 (n.1 ++ n.2) (sym n.5 ∙ m))
more_unique unused (g ∷ gs) [] u m n = absurd (not_nil 44 (m.1 ++ m.2) (sym m.5 ∙ n))
more_unique unused (g ∷ gs) (h ∷ hs) u m n =
    elim (split m.1 m.2 n.1 n.2 (tail_is 44 44 (m.1 ++ m.2) (n.1 ++ n.2) (sym m.5 ∙ n.5))) as (λ _. g ∷ gs ≡ h ∷ hs) [
      | longer d z e k ↦ absurd (clash unused (h, n.0) (g, m.0) n.1 d z (z ++ m.2) n.0 hs n.3 (subst (IsElement unused (g, m.0)) e m.3) (subst (IsMore n.0 hs) k n.4))
      | shorter d z e k ↦ absurd (clash unused (g, m.0) (h, n.0) m.1 d z (z ++ n.2) m.0 gs m.3 (subst (IsElement unused (h, n.0)) e n.3) (subst (IsMore m.0 gs) k m.4))
      | same e k ↦ (let i = one_element unused (g, m.0) (h, n.0) n.1 (subst (IsElement unused (g, m.0)) e m.3) n.3 in
          let j = more_unique n.0 gs hs n.2 (subst (λ (b : Bool). IsMore b gs n.2) (ap (λ (x : ℤ × Bool). x.1) i) (subst (IsMore m.0 gs) k m.4)) n.4 in
          ap (λ (x : ℤ × Bool). x.0 ∷ gs) i ∙ ap (λ (l : List ℤ). h ∷ l) j)
    ]

more_stay : (unused : Bool) (gs hs : List ℤ) (u : List ℕ) (c : ℕ) (s : List ℕ) → IsMore unused gs u → IsMore unused hs (u ++ c ∷ s) → or_comma tag_stays c ≡ true
more_stay unused [] hs u c s m n = or_right _ _ (eq-eqb c 44 (more_comma unused hs c s (subst (λ (l : List ℕ). IsMore unused hs (l ++ c ∷ s)) m n)))
more_stay unused (g ∷ gs) [] u c s m n = absurd (not_nil 44 ((m.1 ++ m.2) ++ c ∷ s) (ap (λ (l : List ℕ). l ++ c ∷ s) (sym m.5) ∙ n))
more_stay unused (g ∷ gs) (h ∷ hs) u c s m n =
    let whole : m.1 ++ (m.2 ++ c ∷ s) ≡ n.1 ++ n.2 = sym (append_assoc m.1 m.2 (c ∷ s)) ∙ tail_is 44 44 ((m.1 ++ m.2) ++ c ∷ s) (n.1 ++ n.2) (ap (λ (l : List ℕ). l ++ c ∷ s) (sym m.5) ∙ n.5) in
    elim (split m.1 (m.2 ++ c ∷ s) n.1 n.2 whole) as (λ _. or_comma tag_stays c ≡ true) [
      | longer d z e k ↦ absurd (clash unused (h, n.0) (g, m.0) n.1 d z (z ++ (m.2 ++ c ∷ s)) n.0 hs n.3 (subst (IsElement unused (g, m.0)) e m.3) (subst (IsMore n.0 hs) k n.4))
      | shorter d z e k ↦ by_right m.2 d z e k m.4
      | same e k ↦ (let i = one_element unused (g, m.0) (h, n.0) n.1 (subst (IsElement unused (g, m.0)) e m.3) n.3 in
          more_stay n.0 gs hs m.2 c s (subst (λ (b : Bool). IsMore b gs m.2) (ap (λ (x : ℤ × Bool). x.1) i) m.4) (subst (IsMore n.0 hs) (sym k) n.4))
    ]
  where
    by_right : (w : List ℕ) (d : ℕ) (z : List ℕ) → n.1 ≡ m.1 ++ d ∷ z → w ++ c ∷ s ≡ d ∷ z ++ n.2 → IsMore m.0 gs w → or_comma tag_stays c ≡ true
    by_right [] d z e k l = or_left (tag_stays c) (eqb c 44) ((element_exact unused).set.stay (g, m.0) (h, n.0) m.1 c z m.3 (subst (λ (i : ℕ). IsElement unused (h, n.0) (m.1 ++ i ∷ z)) (sym (head_is c d s (z ++ n.2) k)) (subst (IsElement unused (h, n.0)) e n.3)))
    by_right (b ∷ w) d z e k l = absurd (clash unused (g, m.0) (h, n.0) m.1 d z w m.0 gs m.3 (subst (IsElement unused (h, n.0)) e n.3) (subst (λ (i : ℕ). IsMore m.0 gs (i ∷ w)) (head_is b d (w ++ c ∷ s) (z ++ n.2) k) l))

more_set : (unused : Bool) → IsSet (IsMore unused) (or_comma tag_stays)
more_set unused = record { unique = more_unique unused; stay = more_stay unused; some = []; some_text = []; has_some = refl }

-- a tag and more behind it
abbrev pub Pair : Bool → (ℤ × Bool) × List ℤ → List ℕ → Type 0
Pair unused = Both (IsElement unused) (λ e. IsMore e.1)

pair_seq : (unused : Bool) → IsSeq (IsElement unused) (λ e. IsMore e.1) tag_stays (or_comma tag_stays)
pair_seq unused = record { left = (element_exact unused).set; right = λ e u h. more_set e.1; apart = λ e gs c v h. apart e.1 gs c v h }

-- a tag in front of the others
abbrev pub put_first : (ℤ × Bool) × List ℤ → List ℤ
put_first p = p.0.0 ∷ p.1

comma_blocked : (unused : Bool) (p r : List ℕ) → Blocked (Pair unused) p r → Blocked (IsMore unused) (44 ∷ p) r
comma_blocked unused p [] b = tt
comma_blocked unused p (c ∷ r) b = λ gs s m. by_list gs s m
  where
    by_list : (gs : List ℤ) (s : List ℕ) → IsMore unused gs (44 ∷ p ++ c ∷ s) → ⊥
    by_list [] s m = not_nil 44 (p ++ c ∷ s) m
    by_list (g ∷ gs) s m = b ((g, m.0), gs) s (record { left = m.1; right = m.2; first = m.3; second = m.4; parts = tail_is 44 44 (p ++ c ∷ s) (m.1 ++ m.2) m.5 })

comma_none : (unused : Bool) (p : List ℕ) → ((y : (ℤ × Bool) × List ℤ) → Pair unused y p → ⊥) → (gs : List ℤ) → IsMore unused gs (44 ∷ p) → ⊥
comma_none unused p h [] m = not_nil 44 p m
comma_none unused p h (g ∷ gs) m = h ((g, m.0), gs) (record { left = m.1; right = m.2; first = m.3; second = m.4; parts = tail_is 44 44 p (m.1 ++ m.2) m.5 })

comma_text : (unused : Bool) (y : (ℤ × Bool) × List ℤ) (u : List ℕ) → Pair unused y u → IsMore unused (put_first y) (44 ∷ u)
comma_text unused y u m = (y.0.1, m.left, m.right, m.first, m.second, ap (λ (l : List ℕ). 44 ∷ l) m.parts)

comma_tells : (unused : Bool) (t : List ℕ) (x : Read ((ℤ × Bool) × List ℤ)) → IsRightReading (Pair unused) t x → IsRightReading (IsMore unused) (44 ∷ t) (map_read put_first x)
comma_tells unused t (Found y r) m = record { front = 44 ∷ m.front; text = comma_text unused y m.front m.text; parts = ap (λ (l : List ℕ). 44 ∷ l) m.parts; blocked = comma_blocked unused m.front r m.blocked }
comma_tells unused t (Stuck r) m =
    record {
      front = 44 ∷ m.front;
      begun = record { value = put_first m.begun.value; rest = m.begun.rest; text = comma_text unused m.begun.value (m.front ++ m.begun.rest) m.begun.text };
      parts = ap (λ (l : List ℕ). 44 ∷ l) m.parts;
      blocked = comma_blocked unused m.front r m.blocked;
      none = comma_none unused m.front m.none;
    }

pair_is : (n : (List ℕ → ℕ)) (y : Read (ℤ × Bool)) → map_read put_first (go_on y (λ e rest. with_first e (more_spelled_tags_at (n rest) e.1 rest))) ≡ go_on y (λ e rest. map_read (λ gs. e.0 ∷ gs) (more_spelled_tags_at (n rest) e.1 rest))
pair_is n y = both_is put_first y (λ e rest. more_spelled_tags_at (n rest) e.1 rest)

pub more_tells : (n : ℕ) (unused : Bool) (t : List ℕ) → length t ≤ n → IsRightReading (IsMore unused) t (more_spelled_tags_at n unused t)
more_tells zero unused [] le = record { front = []; text = refl; parts = refl; blocked = tt }
more_tells zero unused (c ∷ r) le = absurd (omega (arith, le))
more_tells (suc n) unused [] le = record { front = []; text = refl; parts = refl; blocked = tt }
more_tells (suc n) unused (c ∷ r) le =
    (elim (eqb c 44) as (λ b. eqb c 44 ≡ b → IsRightReading (IsMore unused) (c ∷ r) (cond b (go_on (spelled_element_at unused r) (λ e rest. map_read (λ gs. e.0 ∷ gs) (more_spelled_tags_at n e.1 rest))) (Found [] (c ∷ r)))) [
      | true ↦ λ g. subst (λ (k : ℕ). IsRightReading (IsMore unused) (k ∷ r) (go_on (spelled_element_at unused r) (λ e rest. map_read (λ gs. e.0 ∷ gs) (more_spelled_tags_at n e.1 rest)))) (sym (eqb-true c 44 g))
          (subst (λ (y : Read (List ℤ)). IsRightReading (IsMore unused) (44 ∷ r) y) (pair_is (λ rest. n) (spelled_element_at unused r))
          (comma_tells unused r (go_on (spelled_element_at unused r) (λ e rest. with_first e (more_spelled_tags_at n e.1 rest)))
          (both_tells (IsElement unused) (λ e. IsMore e.1) tag_stays (or_comma tag_stays) (pair_seq unused) (λ e. more_spelled_tags_at n e.1) r (spelled_element_at unused r)
          (λ e rest h. more_tells n e.1 rest (omega (arith, le, ap length h.parts, length-append h.front rest))) ((element_exact unused).tells r))))
      | false ↦ λ g. record { front = []; text = refl; parts = refl; blocked = λ gs s m. eqb-false c 44 g (more_comma unused gs c s m) }
    ]) refl

-- tags joined by commas, of which one may stand in brackets
abbrev pub AreTagTexts : List ℤ → List ℕ → Type 0
AreTagTexts = Named put_first (Pair true)

-- which bytes can go on behind tags
abbrev pub tags_stay : ℕ → Bool
tags_stay = either tag_stays (or_comma tag_stays)

pub joined_exact : IsExact AreTagTexts tags_stay spelled_tags_at
joined_exact =
    record {
      set = IsSet-named put_first (Pair true) tags_stay (both_set (IsElement true) (λ e. IsMore e.1) tag_stays (or_comma tag_stays) (pair_seq true));
      tells = λ t. subst (λ (y : Read (List ℤ)). IsRightReading AreTagTexts t y) (pair_is length (spelled_element_at true t))
          (IsRightReading-named put_first (Pair true) t (go_on (spelled_element_at true t) (λ e rest. with_first e (more_spelled_tags_at (length rest) e.1 rest)))
          (both_tells (IsElement true) (λ e. IsMore e.1) tag_stays (or_comma tag_stays) (pair_seq true) (λ e rest. more_spelled_tags_at (length rest) e.1 rest) t (spelled_element_at true t)
          (λ e rest h. more_tells (length rest) e.1 rest (omega arith)) ((element_exact true).tells t)));
    }

-- ---- a loop that reads them

pub element_shortens : (unused : Bool) → Shortens (spelled_element_at unused)
element_shortens unused = shortens (IsElement unused) tag_stays (spelled_element_at unused) (element_exact unused)

more_enough : (n m : ℕ) (unused : Bool) (t : List ℕ) → length t ≤ n → length t ≤ m → more_spelled_tags_at n unused t ≡ more_spelled_tags_at m unused t
more_enough zero zero unused t le ge = refl
more_enough zero (suc m) unused [] le ge = refl
more_enough zero (suc m) unused (c ∷ t) le ge = absurd (omega (arith, le))
more_enough (suc n) zero unused [] le ge = refl
more_enough (suc n) zero unused (c ∷ t) le ge = absurd (omega (arith, ge))
more_enough (suc n) (suc m) unused [] le ge = refl
more_enough (suc n) (suc m) unused (c ∷ t) le ge =
    elim (eqb c 44) as (λ b. cond b (go_on (spelled_element_at unused t) (λ e rest. map_read (λ gs. e.0 ∷ gs) (more_spelled_tags_at n e.1 rest))) (Found [] (c ∷ t)) ≡ cond b (go_on (spelled_element_at unused t) (λ e rest. map_read (λ gs. e.0 ∷ gs) (more_spelled_tags_at m e.1 rest))) (Found [] (c ∷ t))) [
      | true ↦ (elim (spelled_element_at unused t) as (λ y. spelled_element_at unused t ≡ y → go_on y (λ e rest. map_read (λ gs. e.0 ∷ gs) (more_spelled_tags_at n e.1 rest)) ≡ go_on y (λ e rest. map_read (λ gs. e.0 ∷ gs) (more_spelled_tags_at m e.1 rest))) [
        | Found e r ↦ λ h. ap (map_read (λ gs. e.0 ∷ gs)) (more_enough n m e.1 r (omega (arith, le, element_shortens unused t e r h)) (omega (arith, ge, element_shortens unused t e r h)))
        | Stuck r ↦ λ h. refl
      ]) refl
      | false ↦ refl
    ]

add_front : (gs : List ℤ) (g : ℤ) (y : Read (List ℤ)) → map_read (λ more. gs ++ more) (map_read (λ hs. g ∷ hs) y) ≡ map_read (λ more. (gs ++ g ∷ []) ++ more) y
add_front gs g (Found hs r) = ap (λ (l : List ℤ). Found l r) (sym (append_assoc gs (g ∷ []) hs))
add_front gs g (Stuck r) = refl

-- what a call read that found a tag and put it behind the others
record Put (unused : Bool) (gs hs : List ℤ) (u : List ℕ) (still : Bool) (r : List ℕ) : Type 0 where
  tag : ℤ
  found : spelled_element_at unused u ≡ Found (tag, still) r
  tags : hs ≡ gs ++ tag ∷ []

is_put : (unused : Bool) (gs hs : List ℤ) (u : List ℕ) (still : Bool) (r : List ℕ) → map_read (put_last gs) (spelled_element_at unused u) ≡ Found (hs, still) r → Put unused gs hs u still r
is_put unused gs hs u still r h =
    (elim (spelled_element_at unused u) as (λ y. spelled_element_at unused u ≡ y → map_read (put_last gs) y ≡ Found (hs, still) r → Put unused gs hs u still r) [
      | Found e q ↦ λ f g. (let i = value_is (put_last gs e) (hs, still) q r g in
          record { tag = e.0; found = f ∙ ap (λ (b : Bool). Found (e.0, b) q) (ap (λ (x : List ℤ × Bool). x.1) i) ∙ ap (λ (l : List ℕ). Found (e.0, still) l) (rest_is (put_last gs e) (hs, still) q r g); tags = sym (ap (λ (x : List ℤ × Bool). x.0) i) })
      | Stuck q ↦ λ f g. absurd cc
    ]) refl h
  where
    value_is : (x y : List ℤ × Bool) (q r : List ℕ) → (let z : Read (List ℤ × Bool) = Found x q in z) ≡ Found y r → x ≡ y
    value_is x y q r g = cc

    rest_is : (x y : List ℤ × Bool) (q r : List ℕ) → (let z : Read (List ℤ × Bool) = Found x q in z) ≡ Found y r → q ≡ r
    rest_is x y q r g = cc

-- the first tag
pub puts_first : (hs : List ℤ) (t : List ℕ) (still : Bool) (r : List ℕ) → map_read (put_last []) (spelled_element_at true t) ≡ Found (hs, still) r → map_read (λ more. hs ++ more) (more_spelled_tags_at (length r) still r) ≡ spelled_tags_at t
puts_first hs t still r h =
    let p = is_put true [] hs t still r h in
    ap (λ (l : List ℤ). map_read (λ more. l ++ more) (more_spelled_tags_at (length r) still r)) p.tags
    ∙ sym (ap (λ (y : Read (ℤ × Bool)). go_on y (λ e rest. map_read (λ gs. e.0 ∷ gs) (more_spelled_tags_at (length rest) e.1 rest))) p.found)

-- one more behind a comma
pub puts_more : (unused : Bool) (gs hs : List ℤ) (t u : List ℕ) (still : Bool) (r : List ℕ) (whole : Read (List ℤ)) → begins_with 44 t ≡ true → u ≡ cond (begins_with 44 t) (drop 1 t) t → map_read (put_last gs) (spelled_element_at unused u) ≡ Found (hs, still) r
    → map_read (λ more. gs ++ more) (more_spelled_tags_at (length t) unused t) ≡ whole → map_read (λ more. hs ++ more) (more_spelled_tags_at (length r) still r) ≡ whole
puts_more unused gs hs [] u still r whole b e h so_far = absurd cc
puts_more unused gs hs (c ∷ t) u still r whole b e h so_far =
    let p = is_put unused gs hs u still r h in
    let is : u ≡ t = e ∙ ap (λ (i : Bool). cond i t (c ∷ t)) b in
    let found : spelled_element_at unused t ≡ Found (p.tag, still) r = ap (spelled_element_at unused) (sym is) ∙ p.found in
    let one : more_spelled_tags_at (length (c ∷ t)) unused (c ∷ t) ≡ map_read (λ hs. p.tag ∷ hs) (more_spelled_tags_at (length t) still r) =
    ap (λ (i : Bool). cond i (go_on (spelled_element_at unused t) (λ e rest. map_read (λ gs. e.0 ∷ gs) (more_spelled_tags_at (length t) e.1 rest))) (Found [] (c ∷ t))) b
    ∙ ap (λ (y : Read (ℤ × Bool)). go_on y (λ e rest. map_read (λ gs. e.0 ∷ gs) (more_spelled_tags_at (length t) e.1 rest))) found in
    ap (λ (l : List ℤ). map_read (λ more. l ++ more) (more_spelled_tags_at (length r) still r)) p.tags
    ∙ sym (add_front gs p.tag (more_spelled_tags_at (length r) still r))
    ∙ ap (λ (y : Read (List ℤ)). map_read (λ more. gs ++ more) (map_read (λ hs. p.tag ∷ hs) y)) (more_enough (length r) (length t) still r (omega arith) (element_shortens unused t (p.tag, still) r found))
    ∙ ap (map_read (λ more. gs ++ more)) (sym one) ∙ so_far

pub puts_shorter : (unused : Bool) (gs hs : List ℤ) (u : List ℕ) (still : Bool) (r : List ℕ) → map_read (put_last gs) (spelled_element_at unused u) ≡ Found (hs, still) r → length r ≤ length u
puts_shorter unused gs hs u still r h = let p = is_put unused gs hs u still r h in element_shortens unused u (p.tag, still) r p.found
