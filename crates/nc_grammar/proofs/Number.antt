-- Reading a number is right.
use Rattle.std.proofs.Common.{◌≡◌, ℕ, ◌+◌, ◌*◌, ◌-◌, ◌/◌, ◌%◌, ◌^◌, ◌<◌, ◌≤◌, true, false, cond, List, [], ◌∷◌, ◌++◌, length, refl, sym, ap, ◌∙◌, append_assoc, arith, length-append}
use Rattle.std.specs.Prelude.{nat_le, nat_lt, ◌&&◌}
use Rattle.std.specs.Fmt.{decimal}
use Rattle.std.proofs.lemmas.Fmt.{decimal_digit, decimal_step, decimal_by_steps, decimal_nonempty, decimal_injective}
use Rattle.std.proofs.lemmas.Bool.{and_parts, leb-true, ltb-true, le-leb, lt-ltb, and_from, both_ways}
use Rattle.nc_grammar.specs.Reading.{Found, Stuck, Begins}
use Rattle.nc_grammar.specs.Number.{is_digit, IsNumber, goes_on, more_digits_at, number_at}
use Rattle.nc_grammar.proofs.Split.{longer, shorter, same, split, head_is}
use Rattle.nc_grammar.proofs.Exact.{Blocked, IsRightReading, IsExact}

-- what follows a front of a number's digits
pub record NextDigit (v c n : ℕ) : Type 0 where
  pub some : 0 < v
  pub low : 48 ≤ c
  pub high : c ≤ 57
  pub whole : v * 10 + (c - 48) ≤ n

abbrev Fronts : ℕ → List ℕ → Type 0
Fronts n ds = (ds ≡ decimal n) × (n < 2 ^ 64) × ((v c : ℕ) (s : List ℕ) → v < 2 ^ 64 → ds ≡ decimal v ++ c ∷ s → NextDigit v c n)

one_digit : (n v c : ℕ) (s : List ℕ) → v < 2 ^ 64 → (48 + n) ∷ [] ≡ decimal v ++ c ∷ s → ⊥
one_digit n v c s lt e = let h = ap length e in absurd (omega (arith, h, length-append (decimal v) (c ∷ s), decimal_nonempty v lt))

fronts_more : (n : ℕ) → 10 ≤ n → n < 2 ^ 64 → ((v c : ℕ) (s : List ℕ) → v < 2 ^ 64 → decimal (n / 10) ≡ decimal v ++ c ∷ s → NextDigit v c (n / 10)) → (v c : ℕ) (s : List ℕ) → v < 2 ^ 64 → decimal (n / 10) ++ (48 + n % 10) ∷ [] ≡ decimal v ++ c ∷ s → NextDigit v c n
fronts_more n ge lt h v c s vlt e =
    elim (split (decimal (n / 10)) ((48 + n % 10) ∷ []) (decimal v) (c ∷ s) e) [
      | longer d z f k ↦ (let i = h v d z vlt f in let j = head_is c d s (z ++ (48 + n % 10) ∷ []) k in
          record { some = i.some; low = omega (arith, i.low, j); high = omega (arith, i.high, j); whole = omega (arith, i.whole, j) })
      | shorter d z f k ↦ absurd (omega (arith, ap length k, length-append z (c ∷ s)))
      | same f k ↦ (let i = decimal_injective (n / 10) v (omega arith) vlt f in let j = head_is (48 + n % 10) c [] s k in
          record { some = omega (arith, i); low = omega (arith, j); high = omega (arith, j); whole = omega (arith, i, j) })
    ]

pub next_digit : (n v c : ℕ) (s : List ℕ) → n < 2 ^ 64 → v < 2 ^ 64 → decimal n ≡ decimal v ++ c ∷ s → NextDigit v c n
next_digit n v c s lt vlt e =
    decimal_by_steps (λ n ds. n < 2 ^ 64 → (v c : ℕ) (s : List ℕ) → v < 2 ^ 64 → decimal n ≡ decimal v ++ c ∷ s → NextDigit v c n)
    (λ n small lt v c s vlt e. absurd (one_digit n v c s vlt (sym (decimal_digit n small) ∙ e)))
    (λ n ds ge h lt v c s vlt e. fronts_more n ge lt (h (omega arith)) v c s vlt (sym (decimal_step n ge lt) ∙ e))
    n lt lt v c s vlt e

more_digits : (v c : ℕ) → 0 < v → 48 ≤ c → c ≤ 57 → v * 10 + (c - 48) < 2 ^ 64 → decimal (v * 10 + (c - 48)) ≡ decimal v ++ c ∷ []
more_digits v c some low high lt =
    let q : (v * 10 + (c - 48)) / 10 ≡ v = omega arith in
    let m : 48 + (v * 10 + (c - 48)) % 10 ≡ c = omega arith in
    decimal_step (v * 10 + (c - 48)) (omega arith) lt ∙ ap (λ (k : ℕ). decimal k ++ (48 + (v * 10 + (c - 48)) % 10) ∷ []) q ∙ ap (λ (k : ℕ). decimal v ++ k ∷ []) m

is_digit_from : (c : ℕ) → 48 ≤ c → c ≤ 57 → is_digit c ≡ true
is_digit_from c low high = and_from _ _ (le-leb _ _ low) (le-leb _ _ high)

digits_blocked : (limit v : ℕ) (c : ℕ) (r : List ℕ) → limit < 2 ^ 64 → v ≤ limit → goes_on limit v c ≡ false → (n : ℕ) (s : List ℕ) → IsNumber limit n (decimal v ++ c ∷ s) → ⊥
digits_blocked limit v c r lt le e n s m =
    let d = next_digit n v c s (omega (arith, m.within)) (omega arith) (sym m.text) in
    both_ways (goes_on limit v c) e (and_from _ _ (is_digit_from c d.low d.high) (and_from _ _ (lt-ltb _ _ d.some) (le-leb _ _ (omega (arith, d.whole, m.within)))))

digits_found : (limit v : ℕ) (r : List ℕ) → limit < 2 ^ 64 → v ≤ limit → (t : List ℕ) → t ≡ decimal v ++ r → Blocked (IsNumber limit) (decimal v) r → IsRightReading (IsNumber limit) t (Found v r)
digits_found limit v r lt le t e b = record { front = decimal v; text = record { within = le; text = refl }; parts = e; blocked = b }

digits_tell : (limit v : ℕ) (r : List ℕ) → limit < 2 ^ 64 → v ≤ limit → (t : List ℕ) → t ≡ decimal v ++ r → IsRightReading (IsNumber limit) t (more_digits_at limit v r)
digits_tell limit v [] lt le t e = digits_found limit v [] lt le t e tt
digits_tell limit v (c ∷ r) lt le t e =
    (elim (goes_on limit v c) as (λ b. goes_on limit v c ≡ b → IsRightReading (IsNumber limit) t (cond b (more_digits_at limit (v * 10 + (c - 48)) r) (Found v (c ∷ r)))) [
      | true ↦ λ g. (let a = and_parts (is_digit c) _ g in let l = and_parts (nat_le 48 c) _ a.0 in let h = and_parts (nat_lt 0 v) _ a.1 in
          let some = ltb-true _ _ h.0 in let within = leb-true _ _ h.1 in
          let m = more_digits v c some (leb-true _ _ l.0) (leb-true _ _ l.1) (omega (arith, within)) in
          digits_tell limit (v * 10 + (c - 48)) r lt within t (e ∙ sym (append_assoc (decimal v) (c ∷ []) r) ∙ ap (λ (k : List ℕ). k ++ r) (sym m)))
      | false ↦ λ g. digits_found limit v (c ∷ r) lt le t e (digits_blocked limit v c r lt le g)
    ]) refl

-- each number begins with a digit of its own
first_digit : (n : ℕ) → n < 2 ^ 64 → (c : ℕ) (s : List ℕ) → decimal n ≡ c ∷ s → (48 ≤ c) × (c ≤ 57) × (c - 48 ≤ n)
first_digit n lt c s e =
    decimal_by_steps (λ n ds. n < 2 ^ 64 → (c : ℕ) (s : List ℕ) → decimal n ≡ c ∷ s → (48 ≤ c) × (c ≤ 57) × (c - 48 ≤ n))
    (λ n small lt c s e. let j = head_is (48 + n) c [] s (sym (decimal_digit n small) ∙ e) in (omega (arith, j), omega (arith, j), omega (arith, j)))
    (λ n ds ge h lt c s e. first_more n ge lt (decimal (n / 10)) (h (omega arith)) (decimal_nonempty (n / 10) (omega arith)) c s (sym (decimal_step n ge lt) ∙ e))
    n lt lt c s e
  where
    first_more : (n : ℕ) → 10 ≤ n → n < 2 ^ 64 → (ds : List ℕ) → ((c : ℕ) (s : List ℕ) → ds ≡ c ∷ s → (48 ≤ c) × (c ≤ 57) × (c - 48 ≤ n / 10)) → 0 < length ds → (c : ℕ) (s : List ℕ) → ds ++ (48 + n % 10) ∷ [] ≡ c ∷ s → (48 ≤ c) × (c ≤ 57) × (c - 48 ≤ n)
    first_more n ge lt [] h some c s e = absurd (omega (arith, some))
    first_more n ge lt (d ∷ ds) h some c s e = let k = h d ds refl in let j = head_is d c (ds ++ (48 + n % 10) ∷ []) s e in (omega (arith, k.0, j), omega (arith, k.1, j), omega (arith, k.2, j))

digit_is : (c : ℕ) → 48 ≤ c → c ≤ 57 → decimal (c - 48) ≡ c ∷ []
digit_is c low high = let m : 48 + (c - 48) ≡ c = omega arith in decimal_digit (c - 48) (omega arith) ∙ ap (λ (k : ℕ). k ∷ []) m

no_number : (limit n : ℕ) → limit < 2 ^ 64 → IsNumber limit n [] → ⊥
no_number limit n lt m = absurd (omega (arith, ap length m.text, decimal_nonempty n (omega (arith, m.within))))

pub number_zero : (limit : ℕ) → IsNumber limit 0 (48 ∷ [])
number_zero limit = record { within = omega arith; text = sym (decimal_digit 0 (omega arith)) }

number_begins : (limit : ℕ) → Begins (IsNumber limit) []
number_begins limit = record { value = 0; rest = 48 ∷ []; text = number_zero limit }

number_blocked : (limit c : ℕ) (r : List ℕ) → limit < 2 ^ 64 → (is_digit c && nat_le (c - 48) limit) ≡ false → (n : ℕ) (s : List ℕ) → IsNumber limit n (c ∷ s) → ⊥
number_blocked limit c r lt e n s m =
    let d = first_digit n (omega (arith, m.within)) c s (sym m.text) in
    both_ways (is_digit c && nat_le (c - 48) limit) e (and_from _ _ (is_digit_from c d.0 d.1) (le-leb _ _ (omega (arith, d.2, m.within))))

number_tells : (limit : ℕ) (t : List ℕ) → limit < 2 ^ 64 → IsRightReading (IsNumber limit) t (number_at limit t)
number_tells limit [] lt = record { front = []; begun = number_begins limit; parts = refl; blocked = tt; none = λ n m. no_number limit n lt m }
number_tells limit (c ∷ r) lt =
    (elim (is_digit c && nat_le (c - 48) limit) as (λ b. (is_digit c && nat_le (c - 48) limit) ≡ b → IsRightReading (IsNumber limit) (c ∷ r) (cond b (more_digits_at limit (c - 48) r) (Stuck (c ∷ r)))) [
      | true ↦ λ g. (let a = and_parts (is_digit c) _ g in let l = and_parts (nat_le 48 c) _ a.0 in
          digits_tell limit (c - 48) r lt (leb-true _ _ a.1) (c ∷ r) (ap (λ (k : List ℕ). k ++ r) (sym (digit_is c (leb-true _ _ l.0) (leb-true _ _ l.1)))))
      | false ↦ λ g. record { front = []; begun = number_begins limit; parts = refl; blocked = number_blocked limit c r lt g; none = λ n m. no_number limit n lt m }
    ]) refl

pub number_exact : (limit : ℕ) → limit < 2 ^ 64 → IsExact (IsNumber limit) is_digit (number_at limit)
number_exact limit lt =
    record {
      tells = λ t. number_tells limit t lt;
      set = record {
        unique = λ a b u m n. decimal_injective a b (omega (arith, m.within)) (omega (arith, n.within)) (sym m.text ∙ n.text);
        stay = λ a b u c s m n. (let d = next_digit b a c s (omega (arith, n.within)) (omega (arith, m.within)) (sym n.text ∙ ap (λ (k : List ℕ). k ++ c ∷ s) m.text) in is_digit_from c d.low d.high);
        some = 0;
        some_text = 48 ∷ [];
        has_some = number_zero limit;
      };
    }

pub number_first : (limit n : ℕ) → limit < 2 ^ 64 → (c : ℕ) (s : List ℕ) → IsNumber limit n (c ∷ s) → is_digit c ≡ true
number_first limit n lt c s m = let d = first_digit n (omega (arith, m.within)) c s (sym m.text) in is_digit_from c d.0 d.1

pub number_some : (limit n : ℕ) → limit < 2 ^ 64 → IsNumber limit n [] → ⊥
number_some limit n lt m = no_number limit n lt m
