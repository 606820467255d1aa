-- Reading one of some words is right.
use Rattle.std.proofs.Common.{◌≡◌, ◌⊎◌, inl, inr, ℕ, suc, ◌+◌, ◌<◌, ◌≤◌, true, false, cond, eqb, List, [], ◌∷◌, ◌++◌, length, take, drop, refl, sym, ap, subst, ◌∙◌, arith, length-append, Option, Some, None}
use Rattle.std.proofs.lemmas.Bool.{both_ways, cases_lt, eqb-true, eq-eqb, and_parts, and_from, or_left, or_right, or_parts}
use Rattle.std.proofs.lemmas.List.{append-nil, take-append-drop, length-take}
use Rattle.nc_grammar.specs.Reading.{Begins}
use Rattle.nc_grammar.specs.Label.{shared, reach, is_front, place_from, word_found, word_at, IsWordFrom, IsWord}
pub use Rattle.nc_grammar.specs.Label.{repeats, word_stays}
use Rattle.nc_grammar.specs.Label.{is_text, stands, goes_past, some_past, word_past}
use Rattle.nc_grammar.proofs.Exact.{Blocked, IsRightReading, IsExact}

eqb-refl : (n : ℕ) → eqb n n ≡ true
eqb-refl n = eq-eqb n n refl

-- what two texts share is the front of both
shared_front : (w t : List ℕ) → (s r : List ℕ) × (w ≡ take (shared w t) t ++ s) × (t ≡ take (shared w t) t ++ r)
shared_front [] t = ([], t, refl, refl)
shared_front (a ∷ w) [] = (a ∷ w, [], refl, refl)
shared_front (a ∷ w) (c ∷ t) =
    (elim (eqb a c) as (λ b. eqb a c ≡ b → (s r : List ℕ) × (a ∷ w ≡ take (cond b (shared w t + 1) 0) (c ∷ t) ++ s) × (c ∷ t ≡ take (cond b (shared w t + 1) 0) (c ∷ t) ++ r)) [
      | true ↦ λ e. (let h = shared_front w t in let i = eqb-true a c e in let n : shared w t + 1 ≡ suc (shared w t) = omega arith in
          (h.0, h.1, rw n (rw i (ap (λ (l : List ℕ). c ∷ l) h.2)), rw n (ap (λ (l : List ℕ). c ∷ l) h.3)))
      | false ↦ λ e. (a ∷ w, c ∷ t, refl, refl)
    ]) refl

shared_within : (w t : List ℕ) → shared w t ≤ length t
shared_within [] t = omega arith
shared_within (a ∷ w) [] = omega arith
shared_within (a ∷ w) (c ∷ t) =
    elim (eqb a c) as (λ b. cond b (shared w t + 1) 0 ≤ length (c ∷ t)) [
      | true ↦ (omega (arith, shared_within w t))
      | false ↦ (omega arith)
    ]

shared_more : (p : List ℕ) (c : ℕ) (s r : List ℕ) → length p < shared (p ++ c ∷ s) (p ++ c ∷ r)
shared_more [] c s r = rw (eqb-refl c) (omega arith)
shared_more (a ∷ p) c s r = rw (eqb-refl a) (omega (arith, shared_more p c s r))

shared_all : (p r : List ℕ) → shared p (p ++ r) ≡ length p
shared_all [] r = refl
shared_all (a ∷ p) r = rw (eqb-refl a) (omega (arith, shared_all p r))

pub reach_within : (ws : List (List ℕ)) (t : List ℕ) → reach ws t ≤ length t
reach_within [] t = omega arith
reach_within (w ∷ ws) t = omega (arith, shared_within w t, reach_within ws t)

reach_most : (k : ℕ) (ws : List (List ℕ)) (t : List ℕ) (i : ℕ) (u : List ℕ) → IsWordFrom k ws i u → shared u t ≤ reach ws t
reach_most k [] t i u h = absurd h
reach_most k (w ∷ ws) t i u (inl h) = rw h.1 (omega arith)
reach_most k (w ∷ ws) t i u (inr h) = omega (arith, reach_most (k + 1) ws t i u h)

-- some word shares that much
record Furthest (k : ℕ) (ws : List (List ℕ)) (t : List ℕ) : Type 0 where
  place : ℕ
  word : List ℕ
  is_word : IsWordFrom k ws place word
  far : shared word t ≡ reach ws t

furthest : (k : ℕ) (w : List ℕ) (ws : List (List ℕ)) (t : List ℕ) → Furthest k (w ∷ ws) t
furthest k w [] t = record { place = k; word = w; is_word = inl (refl, refl); far = omega arith }
furthest k w (v ∷ ws) t =
    let h = furthest (k + 1) v ws t in
    (elim (cases_lt (shared w t) (reach (v ∷ ws) t)) [
      | inl lt ↦ record { place = h.place; word = h.word; is_word = inr h.is_word; far = omega (arith, lt, h.far) }
      | inr le ↦ record { place = k; word = w; is_word = inl (refl, refl); far = omega (arith, le) }
    ])

length_front : (n : ℕ) (t : List ℕ) → n ≤ length t → length (take n t) ≡ n
length_front n t le = omega (arith, length-take n t, le)

-- a word that is just the front
front_is : (n : ℕ) (t w : List ℕ) → n ≤ length t → is_front n t w ≡ true → w ≡ take n t
front_is n t w le e =
    let a = and_parts (eqb (length w) n) _ e in
    let l = eqb-true _ _ a.0 in
    let m = eqb-true _ _ a.1 in
    let h = shared_front w t in
    let i : w ≡ take n t ++ h.0 = h.2 ∙ ap (λ (k : ℕ). take k t ++ h.0) m in
    no_more n t w h.0 le l i
  where
    no_more : (n : ℕ) (t w s : List ℕ) → n ≤ length t → length w ≡ n → w ≡ take n t ++ s → w ≡ take n t
    no_more n t w [] le l e = e ∙ append-nil (take n t)
    no_more n t w (c ∷ s) le l e = absurd (omega (arith, le, l, ap length e, length-append (take n t) (c ∷ s), length-take n t))

front_passes : (n : ℕ) (t : List ℕ) → n ≤ length t → is_front n t (take n t) ≡ true
front_passes n t le =
    let h : shared (take n t) t ≡ n = ap (λ (l : List ℕ). shared (take n t) l) (sym (take-append-drop n t)) ∙ shared_all (take n t) (drop n t) ∙ length_front n t le in
    and_from _ _ (eq-eqb _ _ (length_front n t le)) (eq-eqb _ _ h)

place_found : (k n : ℕ) (t : List ℕ) (ws : List (List ℕ)) (i : ℕ) → n ≤ length t → place_from k n t ws ≡ Some i → IsWordFrom k ws i (take n t)
place_found k n t [] i le e = absurd cc
place_found k n t (w ∷ ws) i le e =
    (elim (is_front n t w) as (λ b. is_front n t w ≡ b → cond b (Some k) (place_from (k + 1) n t ws) ≡ Some i → IsWordFrom k (w ∷ ws) i (take n t)) [
      | true ↦ λ g f. inl (some_is k i f, sym (front_is n t w le g))
      | false ↦ λ g f. inr (place_found (k + 1) n t ws i le f)
    ]) refl e
  where
    some_is : (a b : ℕ) → (let o : Option ℕ = Some a in o) ≡ Some b → b ≡ a
    some_is a b e = cc

place_none : (k n : ℕ) (t : List ℕ) (ws : List (List ℕ)) (i : ℕ) → n ≤ length t → place_from k n t ws ≡ None → IsWordFrom k ws i (take n t) → ⊥
place_none k n t [] i le e h = h
place_none k n t (w ∷ ws) i le e h =
    (elim (is_front n t w) as (λ b. is_front n t w ≡ b → cond b (Some k) (place_from (k + 1) n t ws) ≡ None → ⊥) [
      | true ↦ λ g f. absurd (some_none k f)
      | false ↦ λ g f. by_word (λ j. place_none (k + 1) n t ws i le f j) g h
    ]) refl e
  where
    some_none : (a : ℕ) → (let o : Option ℕ = Some a in o) ≡ None → ⊥
    some_none a e = absurd cc

    by_word : (IsWordFrom (k + 1) ws i (take n t) → ⊥) → is_front n t w ≡ false → ((i ≡ k) × (take n t ≡ w)) ⊎ IsWordFrom (k + 1) ws i (take n t) → ⊥
    by_word more g (inl j) = both_ways (is_front n t w) g (subst (λ (l : List ℕ). is_front n t l ≡ true) j.1 (front_passes n t le))
    by_word more g (inr j) = more j

word_blocked : (ws : List (List ℕ)) (t r : List ℕ) → drop (reach ws t) t ≡ r → Blocked (IsWord ws) (take (reach ws t) t) r
word_blocked ws t [] e = tt
word_blocked ws t (c ∷ r) e =
    λ i s h.
    let whole : t ≡ take (reach ws t) t ++ c ∷ r = sym (take-append-drop (reach ws t) t) ∙ ap (λ (l : List ℕ). take (reach ws t) t ++ l) e in
    let far = shared_more (take (reach ws t) t) c s r in
    let far_t : length (take (reach ws t) t) < shared (take (reach ws t) t ++ c ∷ s) t = subst (λ (l : List ℕ). length (take (reach ws t) t) < shared (take (reach ws t) t ++ c ∷ s) l) (sym whole) far in
    absurd (omega (arith, far_t, reach_most 0 ws t i (take (reach ws t) t ++ c ∷ s) h, length_front (reach ws t) t (reach_within ws t)))

word_begun : (w : List ℕ) (ws : List (List ℕ)) (t : List ℕ) → Begins (IsWord (w ∷ ws)) (take (reach (w ∷ ws) t) t)
word_begun w ws t =
    let f = furthest 0 w ws t in
    let h = shared_front f.word t in
    record { value = f.place; rest = h.0; text = subst (λ (l : List ℕ). IsWord (w ∷ ws) f.place l) (h.2 ∙ ap (λ (k : ℕ). take k t ++ h.0) f.far) f.is_word }

word_tells_of : (all : List (List ℕ)) (t : List ℕ) (n : ℕ) → n ≤ length t → Begins (IsWord all) (take n t) → Blocked (IsWord all) (take n t) (drop n t) → IsRightReading (IsWord all) t (word_found (place_from 0 n t all) (drop n t))
word_tells_of all t n le begun blocked =
    (elim (place_from 0 n t all) as (λ o. place_from 0 n t all ≡ o → IsRightReading (IsWord all) t (word_found o (drop n t))) [
      | Some i ↦ λ e. record { front = take n t; text = place_found 0 n t all i le e; parts = sym (take-append-drop n t); blocked = blocked }
      | None ↦ λ e. record { front = take n t; begun = begun; parts = sym (take-append-drop n t); blocked = blocked; none = λ i h. place_none 0 n t all i le e h }
    ]) refl

word_tells : (w : List ℕ) (ws : List (List ℕ)) (t : List ℕ) → IsRightReading (IsWord (w ∷ ws)) t (word_at (w ∷ ws) t)
word_tells w ws t = word_tells_of (w ∷ ws) t (reach (w ∷ ws) t) (reach_within (w ∷ ws) t) (word_begun w ws t) (word_blocked (w ∷ ws) t (drop (reach (w ∷ ws) t) t) refl)

is_text-refl : (w : List ℕ) → is_text w w ≡ true
is_text-refl [] = refl
is_text-refl (a ∷ w) = and_from _ _ (eqb-refl a) (is_text-refl w)

stands_from : (k : ℕ) (ws : List (List ℕ)) (i : ℕ) (u : List ℕ) → IsWordFrom k ws i u → stands u ws ≡ true
stands_from k [] i u h = absurd h
stands_from k (w ∷ ws) i u (inl h) = or_left _ _ (subst (λ (l : List ℕ). is_text u l ≡ true) h.1 (is_text-refl u))
stands_from k (w ∷ ws) i u (inr h) = or_right _ _ (stands_from (k + 1) ws i u h)

word_unique : (k : ℕ) (ws : List (List ℕ)) → repeats ws ≡ false → (i j : ℕ) (u : List ℕ) → IsWordFrom k ws i u → IsWordFrom k ws j u → i ≡ j
word_unique k [] e i j u h g = absurd h
word_unique k (w ∷ ws) e i j u (inl h) (inl g) = h.0 ∙ sym g.0
word_unique k (w ∷ ws) e i j u (inl h) (inr g) = absurd (both_ways (stands w ws) (or_parts (stands w ws) (repeats ws) e).0 (subst (λ (l : List ℕ). stands l ws ≡ true) h.1 (stands_from (k + 1) ws j u g)))
word_unique k (w ∷ ws) e i j u (inr h) (inl g) = absurd (both_ways (stands w ws) (or_parts (stands w ws) (repeats ws) e).0 (subst (λ (l : List ℕ). stands l ws ≡ true) g.1 (stands_from (k + 1) ws i u h)))
word_unique k (w ∷ ws) e i j u (inr h) (inr g) = word_unique (k + 1) ws (or_parts (stands w ws) (repeats ws) e).1 i j u h g

goes_past_from : (w : List ℕ) (c : ℕ) (s : List ℕ) → goes_past w (w ++ c ∷ s) c ≡ true
goes_past_from [] c s = eqb-refl c
goes_past_from (a ∷ w) c s = and_from _ _ (eqb-refl a) (goes_past_from w c s)

some_past_from : (w : List ℕ) (c : ℕ) (s : List ℕ) (k : ℕ) (ws : List (List ℕ)) (i : ℕ) → IsWordFrom k ws i (w ++ c ∷ s) → some_past w ws c ≡ true
some_past_from w c s k [] i h = absurd h
some_past_from w c s k (v ∷ ws) i (inl h) = or_left _ _ (subst (λ (l : List ℕ). goes_past w l c ≡ true) h.1 (goes_past_from w c s))
some_past_from w c s k (v ∷ ws) i (inr h) = or_right _ _ (some_past_from w c s (k + 1) ws i h)

word_past_from : (u : List ℕ) (c : ℕ) (all : List (List ℕ)) → some_past u all c ≡ true → (k : ℕ) (ws : List (List ℕ)) (i : ℕ) → IsWordFrom k ws i u → word_past ws all c ≡ true
word_past_from u c all e k [] i h = absurd h
word_past_from u c all e k (w ∷ ws) i (inl h) = or_left _ _ (subst (λ (l : List ℕ). some_past l all c ≡ true) h.1 e)
word_past_from u c all e k (w ∷ ws) i (inr h) = or_right _ _ (word_past_from u c all e (k + 1) ws i h)

pub word_exact : (w : List ℕ) (ws : List (List ℕ)) → repeats (w ∷ ws) ≡ false → IsExact (IsWord (w ∷ ws)) (word_stays (w ∷ ws)) (word_at (w ∷ ws))
word_exact w ws e =
    record {
      set = record {
        unique = λ i j u h g. word_unique 0 (w ∷ ws) e i j u h g;
        stay = λ i j u c s h g. word_past_from u c (w ∷ ws) (some_past_from u c s 0 (w ∷ ws) j g) 0 (w ∷ ws) i h;
        some = 0;
        some_text = w;
        has_some = inl (refl, refl);
      };
      tells = word_tells w ws;
    }
