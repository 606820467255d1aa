-- Lengths of bodies: when a text is one, and when all agree.
use Rattle.std.proofs.Common.{◌≡◌, ℕ, zero, suc, ◌+◌, ◌<◌, ◌≤◌, ◌^◌, Bool, true, false, List, [], ◌∷◌, length, Option, Some, None, IfSome, IfNone, refl, sym, ap, ◌∙◌, arith}
use Rattle.std.specs.Prelude.{◌&&◌, ◌||◌, not, nat_le, nat_lt, map, cond, if◌then◌else◌}
use Rattle.std.specs.List.{list_all, filter}
use Rattle.std.specs.Str.Parse.{AllDigits, digits_value}
use Rattle.std.specs.Char.{digit_value}
use Rattle.std.proofs.lemmas.Grind.{common_steps}
use Rattle.std.proofs.lemmas.Bool.Decides.{nat_tests}
use Rattle.std.proofs.lemmas.Int.Digits.{digits_value-lt}
use Rattle.std.proofs.Math.Nat.{pow-le-pow_right, lt_of_lt_of_le}
use Rattle.nc_types.specs.Text.{IsDecimal}
use Rattle.nc_types.specs.declared.request.Field.{Field}
use Rattle.nc_accept.specs.Fields.{is_called, value_of, values, first}
use Rattle.nc_http_head.specs.Framing.{is_decimal_digit, is_length, has_length, limited, by_length}
use Rattle.nc_http_head.specs.declared.framing.Framing.{Framing}
use Rattle.nc_http_head.specs.declared.framing.Framing.TheVariants.{Long, Faulty}

-- the test of digits says that all are
digits_are : (text : List ℕ) → list_all is_decimal_digit text ≡ true → AllDigits 10 text
digits_are [] e = tt
digits_are (b ∷ text) e = by_digit (nat_lt (digit_value b) 10) refl (digits_are text) e where
  by_digit : (t : Bool) → nat_lt (digit_value b) 10 ≡ t → (list_all is_decimal_digit text ≡ true → AllDigits 10 text) → (t && list_all is_decimal_digit text) ≡ true → (digit_value b < 10) × AllDigits 10 text
  by_digit true small later e = (grind (arith, nat_tests), later e)
  by_digit false large later e = cc e

are_digits : (text : List ℕ) → AllDigits 10 text → list_all is_decimal_digit text ≡ true
are_digits [] d = refl
are_digits (b ∷ text) d = let small : nat_lt (digit_value b) 10 ≡ true = grind (arith, nat_tests, d.0) in rw small (are_digits text d.1)

short_value : (text : List ℕ) → AllDigits 10 text → length text ≤ 18 → digits_value 10 text < 10 ^ 18
short_value text digits short = let most : 10 ^ length text ≤ 10 ^ 18 = pow-le-pow_right (omega arith) short in omega (arith, digits_value-lt 10 text digits, most)

-- a text that is too long is no length
pub too_long : (text : List ℕ) → 18 < length text → is_length text ≡ false
too_long text long = let far : nat_le (length text) 18 ≡ false = grind (arith, nat_tests) in rw far (by_test (nat_le 1 (length text))) where
  by_test : (t : Bool) → (t && false && list_all is_decimal_digit text) ≡ false
  by_test true = refl
  by_test false = refl

-- what is read of a short text as a number is the length that it is
pub length_is : (text : List ℕ) (o : Option ℕ) → length text ≤ 18 → IfSome o (λ n. IsDecimal text n × (n ≤ 18446744073709551615)) → IfNone o ((n : ℕ) → IsDecimal text n → n ≤ 18446744073709551615 → ⊥) → o ≡ (if is_length text then Some (digits_value 10 text) else None)
length_is text (Some n) short some none =
    let d = some.0 in
    let least : nat_le 1 (length text) ≡ true = grind (arith, nat_tests, d.some) in
    let most : nat_le (length text) 18 ≡ true = grind (arith, nat_tests) in
    rw (least, most, are_digits text d.digits) (ap Some d.value)
length_is text None short some none = by_test (is_length text) refl where
  by_test : (t : Bool) → is_length text ≡ t → None ≡ (if t then Some (digits_value 10 text) else None)
  by_test false e = refl
  by_test true e = absurd (by_parts (nat_le 1 (length text)) refl (list_all is_decimal_digit text) refl e) where
    by_parts : (a : Bool) → nat_le 1 (length text) ≡ a → (c : Bool) → list_all is_decimal_digit text ≡ c → (a && nat_le (length text) 18 && c) ≡ true → ⊥
    by_parts true least true all e =
        let digits = digits_are text all in
        let value : digits_value 10 text < 10 ^ 18 = short_value text digits short in
        let some : 0 < length text = grind (arith, nat_tests, least) in
        none (digits_value 10 text) (record { some = some; short = omega arith; digits = digits; value = refl }) (omega (arith, value))
    by_parts true least false all e = by_middle (nat_le (length text) 18) e where
      by_middle : (m : Bool) → (true && m && false) ≡ true → ⊥
      by_middle true e = cc e
      by_middle false e = cc e
    by_parts false least c all e = by_rest (nat_le (length text) 18) c e where
      by_rest : (m c : Bool) → (false && m && c) ≡ true → ⊥
      by_rest m c e = cc e

-- ---- all lengths of a head

pub all_values : (n : ℕ) (name : List ℕ) (fields : List Field) → list_all (λ field. not (is_called name field) || has_length n field.value) fields ≡ list_all (has_length n) (values name fields)
all_values n name [] = refl
all_values n name (field ∷ fields) =
    (elim (is_called name field) as (λ b. ((not b || has_length n field.value) && list_all (λ field. not (is_called name field) || has_length n field.value) fields) ≡ list_all (has_length n) (map value_of (cond b (field ∷ filter (is_called name) fields) (filter (is_called name) fields)))) [
      | true ↦ ap (λ b. has_length n field.value && b) (all_values n name fields)
      | false ↦ all_values n name fields
    ])

pub by_none : (texts : List (List ℕ)) → None ≡ first texts → Long 0 ≡ by_length texts
by_none [] e = refl
by_none (text ∷ texts) e = cc e

pub by_bad : (texts : List (List ℕ)) (text : List ℕ) → Some text ≡ first texts → is_length text ≡ false → Faulty 400 ≡ by_length texts
by_bad [] text e bad = cc e
by_bad (one ∷ texts) text e bad =
    let same : text ≡ one = cc e in
    let no_length : is_length one ≡ false = ap is_length (sym same) ∙ bad in
    rw no_length refl

pub by_first : (texts : List (List ℕ)) (text : List ℕ) → Some text ≡ first texts → (if list_all (has_length (digits_value 10 text)) texts then limited (digits_value 10 text) else Faulty 400) ≡ by_length texts
by_first [] text e = cc e
by_first (one ∷ texts) text e =
    let same : text ≡ one = cc e in
    ap (λ (t : List ℕ). if list_all (has_length (digits_value 10 t)) (one ∷ texts) then limited (digits_value 10 t) else Faulty 400) same
