-- Reading digits is right.
use Rattle.std.proofs.Common.{◌≡◌, ℕ, ◌+◌, ◌*◌, ◌-◌, ◌<◌, ◌≤◌, true, false, cond, List, [], ◌∷◌, ◌++◌, length, refl, sym, ap, subst, ◌∙◌, append_assoc, arith, length-append}
use Rattle.std.specs.Prelude.{nat_le, nat_lt}
use Rattle.std.specs.Char.{digit_value}
use Rattle.std.specs.Str.Parse.{AllDigits, digits_value_after, digits_value}
use Rattle.std.proofs.lemmas.Bool.{and_parts, leb-true, ltb-true, le-leb, lt-ltb, and_from, both_ways}
use Rattle.nc_grammar.specs.Reading.{Found, Stuck}
use Rattle.nc_grammar.specs.Number.{is_digit}
use Rattle.nc_grammar.specs.Digits.{IsDigits, digit_fits, digits_from, digits_at}
use Rattle.nc_grammar.proofs.Exact.{Blocked, IsRightReading, IsExact}

-- ---- digits and their value

value_of : (c : ℕ) → 48 ≤ c → c ≤ 57 → digit_value c ≡ c - 48
value_of c low high = grind (arith, low, high)

digit_range : (c : ℕ) → digit_value c < 10 → (48 ≤ c) × (c ≤ 57)
digit_range c lt = grind (arith, lt)

-- a digit in the words of both
record Digit (c : ℕ) : Type 0 where
  low : 48 ≤ c
  high : c ≤ 57
  value : digit_value c ≡ c - 48

digit_of : (c : ℕ) → digit_value c < 10 → Digit c
digit_of c lt = let h = digit_range c lt in record { low = h.0; high = h.1; value = value_of c h.0 h.1 }

digit_from_test : (c : ℕ) → is_digit c ≡ true → Digit c
digit_from_test c e =
    let a = and_parts (nat_le 48 c) _ e in
    let low = leb-true _ _ a.0 in
    let high = leb-true _ _ a.1 in
    record { low = low; high = high; value = value_of c low high }

digits_append : (p q : List ℕ) → AllDigits 10 p → AllDigits 10 q → AllDigits 10 (p ++ q)
digits_append [] q h k = k
digits_append (c ∷ p) q h k = (h.0, digits_append p q h.1 k)

digits_behind : (p q : List ℕ) → AllDigits 10 (p ++ q) → AllDigits 10 q
digits_behind [] q h = h
digits_behind (c ∷ p) q h = digits_behind p q h.1

value_append : (n : ℕ) (p q : List ℕ) → digits_value_after 10 n (p ++ q) ≡ digits_value_after 10 (digits_value_after 10 n p) q
value_append n [] q = refl
value_append n (c ∷ p) q = value_append (n * 10 + digit_value c) p q

value_grows : (n : ℕ) (ds : List ℕ) → n ≤ digits_value_after 10 n ds
value_grows n [] = omega arith
value_grows n (c ∷ ds) = omega (arith, value_grows (n * 10 + digit_value c) ds)

-- ---- reading

-- the digits that are read so far
record Digits (most limit : ℕ) (p : List ℕ) (k v : ℕ) : Type 0 where
  all : AllDigits 10 p
  count : length p ≡ k
  few : k ≤ most
  value : digits_value 10 p ≡ v
  within : v ≤ limit

no_digits : (most limit : ℕ) → Digits most limit [] 0 0
no_digits most limit = record { all = tt; count = refl; few = omega arith; value = refl; within = omega arith }

one_more : (most limit k v c : ℕ) (p : List ℕ) → digit_fits most limit k v c ≡ true → Digits most limit p k v → Digits most limit (p ++ c ∷ []) (k + 1) (v * 10 + (c - 48))
one_more most limit k v c p e d =
    let a = and_parts (is_digit c) _ e in
    let b = and_parts (nat_lt k most) _ a.1 in
    let g = digit_from_test c a.0 in
    record {
      all = digits_append p (c ∷ []) d.all (omega (arith, g.value, g.low, g.high), tt);
      count = omega (arith, length-append p (c ∷ []), d.count);
      few = omega (arith, ltb-true _ _ b.0);
      value = value_append 0 p (c ∷ []) ∙ omega (arith, d.value, g.value);
      within = leb-true _ _ b.1;
    }

first_one : (most limit c : ℕ) → digit_fits most limit 0 0 c ≡ true → Digits most limit (c ∷ []) 1 (c - 48)
first_one most limit c e =
    let is : 0 * 10 + (c - 48) ≡ c - 48 = omega arith in
    subst (λ (v : ℕ). Digits most limit (c ∷ []) 1 v) is (one_more most limit 0 0 c [] e (no_digits most limit))

digits_blocked : (most limit k v c : ℕ) (p : List ℕ) → Digits most limit p k v → digit_fits most limit k v c ≡ false → (n : ℕ) (s : List ℕ) → IsDigits most limit n (p ++ c ∷ s) → ⊥
digits_blocked most limit k v c p d e n s m =
    let g = digit_of c (digits_behind p (c ∷ s) m.numeral.1).0 in
    let short : k < most = omega (arith, m.few, length-append p (c ∷ s), d.count) in
    let whole : digits_value_after 10 (v * 10 + digit_value c) s ≡ n = ap (λ (i : ℕ). digits_value_after 10 (i * 10 + digit_value c) s) (sym d.value) ∙ sym (value_append 0 p (c ∷ s)) ∙ m.value in
    let small : v * 10 + (c - 48) ≤ limit = omega (arith, value_grows (v * 10 + digit_value c) s, whole, m.within, g.value) in
    both_ways (digit_fits most limit k v c) e (and_from _ _ (and_from _ _ (le-leb _ _ g.low) (le-leb _ _ g.high)) (and_from _ _ (lt-ltb _ _ short) (le-leb _ _ small)))

digits_found : (most limit k v : ℕ) (p r t : List ℕ) → 0 < k → Digits most limit p k v → t ≡ p ++ r → Blocked (IsDigits most limit) p r → IsRightReading (IsDigits most limit) t (Found v r)
digits_found most limit k v p r t some d e b =
    record {
      front = p;
      text = record { numeral = (omega (arith, some, d.count), d.all); few = omega (arith, d.count, d.few); value = d.value; within = d.within };
      parts = e;
      blocked = b;
    }

digits_tell : (most limit k v : ℕ) (p r t : List ℕ) → 0 < k → Digits most limit p k v → t ≡ p ++ r → IsRightReading (IsDigits most limit) t (digits_from most limit k v r)
digits_tell most limit k v p [] t some d e = digits_found most limit k v p [] t some d e tt
digits_tell most limit k v p (c ∷ r) t some d e =
    (elim (digit_fits most limit k v c) as (λ b. digit_fits most limit k v c ≡ b → IsRightReading (IsDigits most limit) t (cond b (digits_from most limit (k + 1) (v * 10 + (c - 48)) r) (Found v (c ∷ r)))) [
      | true ↦ λ g. digits_tell most limit (k + 1) (v * 10 + (c - 48)) (p ++ c ∷ []) r t (omega (arith, some)) (one_more most limit k v c p g d) (e ∙ sym (append_assoc p (c ∷ []) r))
      | false ↦ λ g. digits_found most limit k v p (c ∷ r) t some d e (digits_blocked most limit k v c p d g)
    ]) refl

digits_zero : (most limit : ℕ) → 0 < most → IsDigits most limit 0 (48 ∷ [])
digits_zero most limit some = record { numeral = (omega arith, (omega arith, tt)); few = omega (arith, some); value = refl; within = omega arith }

digits_stuck : (most limit : ℕ) (r : List ℕ) → 0 < most → Blocked (IsDigits most limit) [] r → IsRightReading (IsDigits most limit) r (Stuck r)
digits_stuck most limit r some b =
    record {
      front = [];
      begun = record { value = 0; rest = 48 ∷ []; text = digits_zero most limit some };
      parts = refl;
      blocked = b;
      none = λ n m. absurd (omega (arith, m.numeral.0));
    }

digits_tells : (most limit : ℕ) (t : List ℕ) → 0 < most → IsRightReading (IsDigits most limit) t (digits_at most limit t)
digits_tells most limit [] some = digits_stuck most limit [] some tt
digits_tells most limit (c ∷ r) some =
    (elim (digit_fits most limit 0 0 c) as (λ b. digit_fits most limit 0 0 c ≡ b → IsRightReading (IsDigits most limit) (c ∷ r) (cond b (digits_from most limit 1 (c - 48) r) (Stuck (c ∷ r)))) [
      | true ↦ λ g. digits_tell most limit 1 (c - 48) (c ∷ []) r (c ∷ r) (omega arith) (first_one most limit c g) refl
      | false ↦ λ g. digits_stuck most limit (c ∷ r) some (digits_blocked most limit 0 0 c [] (no_digits most limit) g)
    ]) refl

digit_stays : (most limit n c : ℕ) (u s : List ℕ) → IsDigits most limit n (u ++ c ∷ s) → is_digit c ≡ true
digit_stays most limit n c u s m = let g = digit_of c (digits_behind u (c ∷ s) m.numeral.1).0 in and_from _ _ (le-leb _ _ g.low) (le-leb _ _ g.high)

pub digits_exact : (most limit : ℕ) → 0 < most → IsExact (IsDigits most limit) is_digit (digits_at most limit)
digits_exact most limit some =
    record {
      set = record {
        unique = λ a b u m n. sym m.value ∙ n.value;
        stay = λ a b u c s m n. digit_stays most limit b c u s n;
        some = 0;
        some_text = 48 ∷ [];
        has_some = digits_zero most limit some;
      };
      tells = λ t. digits_tells most limit t some;
    }

-- each text begins with a digit
pub digits_first : (most limit n c : ℕ) (s : List ℕ) → IsDigits most limit n (c ∷ s) → is_digit c ≡ true
digits_first most limit n c s m = digit_stays most limit n c [] s m

pub digits_some : (most limit n : ℕ) → IsDigits most limit n [] → ⊥
digits_some most limit n m = absurd (omega (arith, m.numeral.0))
