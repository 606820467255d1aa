-- Reading a quoted text is right.
use Rattle.std.proofs.Common.{◌≡◌, ◌≢◌, ℕ, ◌+◌, ◌*◌, ◌/◌, ◌%◌, ◌≤◌, ◌<◌, Bool, true, false, cond, eqb, List, [], ◌∷◌, ◌++◌, length, take, drop, suc, refl, sym, ap, subst, ◌∙◌, append_assoc, arith, length-append}
use Rattle.std.specs.Prelude.{◌||◌, ◌&&◌, not, nat_le, nat_lt}
use Rattle.std.specs.List.{flat_map}
use Rattle.std.proofs.lemmas.Bool.{eqb-true, eqb-false, ne_eqb, both_ways, or_from, and_parts, leb-true, ltb-true, ltb-false, lt-ltb, not-true}
use Rattle.std.proofs.lemmas.List.{append-nil}
use Rattle.nc_types.specs.Text.{hex_digit, quoted_byte, quoted}
use Rattle.nc_grammar.specs.Reading.{first_passes, Found, Stuck, Begins}
use Rattle.nc_grammar.specs.Label.{nothing}
use Rattle.nc_grammar.specs.Quoted.{AreBytes, IsQuoted, hex_value, is_short, is_plain, plain_run, is_coded, escape_of, first_fits, coded_by, second_fits, Mode, Plain, Slash, Hex, Digit, quote_at, quoted_at}
use Rattle.nc_grammar.proofs.Split.{head_is, tail_is, not_nil}
use Rattle.nc_grammar.proofs.Exact.{Blocked, IsRightReading, IsExact}

-- ---- how a byte is written

abbrev choice : Bool → Bool → Bool → Bool → Bool → ℕ → List ℕ
choice p q r s t b = cond p (92 ∷ 34 ∷ []) (cond q (92 ∷ 92 ∷ []) (cond r (92 ∷ 110 ∷ []) (cond s (92 ∷ 114 ∷ []) (cond t (b ∷ []) (92 ∷ 120 ∷ hex_digit (b / 16) ∷ hex_digit (b % 16) ∷ [])))))

plain_choice : (p q r s t : Bool) (b : ℕ) → (not (p || (q || (r || s))) && t) ≡ true → choice p q r s t b ≡ b ∷ []
plain_choice true q r s t b e = absurd cc
plain_choice false true r s t b e = absurd cc
plain_choice false false true s t b e = absurd cc
plain_choice false false false true t b e = absurd cc
plain_choice false false false false true b e = refl
plain_choice false false false false false b e = absurd cc

coded_choice : (p q r s t : Bool) (b : ℕ) → (not (p || (q || (r || s))) && not t) ≡ true → choice p q r s t b ≡ 92 ∷ 120 ∷ hex_digit (b / 16) ∷ hex_digit (b % 16) ∷ []
coded_choice true q r s t b e = absurd cc
coded_choice false true r s t b e = absurd cc
coded_choice false false true s t b e = absurd cc
coded_choice false false false true t b e = absurd cc
coded_choice false false false false true b e = absurd cc
coded_choice false false false false false b e = refl

plain_byte : (b : ℕ) → is_plain b ≡ true → quoted_byte b ≡ b ∷ []
plain_byte b e = plain_choice (eqb b 34) (eqb b 92) (eqb b 10) (eqb b 13) (nat_le 32 b && nat_le b 126) b e

coded_byte : (b : ℕ) → is_coded b ≡ true → quoted_byte b ≡ 92 ∷ 120 ∷ hex_digit (b / 16) ∷ hex_digit (b % 16) ∷ []
coded_byte b e = coded_choice (eqb b 34) (eqb b 92) (eqb b 10) (eqb b 13) (nat_le 32 b && nat_le b 126) b e

short_byte : (c : ℕ) → escape_of c < 256 → (quoted_byte (escape_of c) ≡ 92 ∷ c ∷ []) × (c ≢ 120)
short_byte c lt =
    (elim (eqb c 34) as (λ x. eqb c 34 ≡ x → let e = cond x 34 (cond (eqb c 92) 92 (cond (eqb c 110) 10 (cond (eqb c 114) 13 256))) in e < 256 → (quoted_byte e ≡ 92 ∷ c ∷ []) × (c ≢ 120)) [
      | true ↦ λ g lt. (ap (λ (k : ℕ). 92 ∷ k ∷ []) (sym (eqb-true c 34 g)), λ h. absurd (omega (arith, eqb-true c 34 g, h)))
      | false ↦ λ g lt. (elim (eqb c 92) as (λ x. eqb c 92 ≡ x → let e = cond x 92 (cond (eqb c 110) 10 (cond (eqb c 114) 13 256)) in e < 256 → (quoted_byte e ≡ 92 ∷ c ∷ []) × (c ≢ 120)) [
        | true ↦ λ g lt. (ap (λ (k : ℕ). 92 ∷ k ∷ []) (sym (eqb-true c 92 g)), λ h. absurd (omega (arith, eqb-true c 92 g, h)))
        | false ↦ λ g lt. (elim (eqb c 110) as (λ x. eqb c 110 ≡ x → let e = cond x 10 (cond (eqb c 114) 13 256) in e < 256 → (quoted_byte e ≡ 92 ∷ c ∷ []) × (c ≢ 120)) [
          | true ↦ λ g lt. (ap (λ (k : ℕ). 92 ∷ k ∷ []) (sym (eqb-true c 110 g)), λ h. absurd (omega (arith, eqb-true c 110 g, h)))
          | false ↦ λ g lt. (elim (eqb c 114) as (λ x. eqb c 114 ≡ x → let e = cond x 13 256 in e < 256 → (quoted_byte e ≡ 92 ∷ c ∷ []) × (c ≢ 120)) [
            | true ↦ λ g lt. (ap (λ (k : ℕ). 92 ∷ k ∷ []) (sym (eqb-true c 114 g)), λ h. absurd (omega (arith, eqb-true c 114 g, h)))
            | false ↦ λ g lt. absurd (omega (arith, lt))
          ]) refl lt
        ]) refl lt
      ]) refl lt
    ]) refl lt

pub data Written (b : ℕ) : Type 0 where
  by_itself : is_plain b ≡ true → quoted_byte b ≡ b ∷ [] → Written b
  by_letter : (c : ℕ) → escape_of c ≡ b → quoted_byte b ≡ 92 ∷ c ∷ [] → c ≢ 120 → Written b
  by_digits : is_coded b ≡ true → quoted_byte b ≡ 92 ∷ 120 ∷ hex_digit (b / 16) ∷ hex_digit (b % 16) ∷ [] → Written b

letter : (b c : ℕ) → escape_of c ≡ b → b < 256 → Written b
letter b c e lt = let h = short_byte c (omega (arith, e, lt)) in by_letter c e (ap quoted_byte (sym e) ∙ h.0) h.1

written : (b : ℕ) → b < 256 → Written b
written b lt =
    (elim (eqb b 34) as (λ x. eqb b 34 ≡ x → Written b) [
      | true ↦ λ g. letter b 34 (sym (eqb-true b 34 g)) lt
      | false ↦ λ g. (elim (eqb b 92) as (λ x. eqb b 92 ≡ x → Written b) [
        | true ↦ λ h. letter b 92 (sym (eqb-true b 92 h)) lt
        | false ↦ λ h. (elim (eqb b 10) as (λ x. eqb b 10 ≡ x → Written b) [
          | true ↦ λ i. letter b 110 (sym (eqb-true b 10 i)) lt
          | false ↦ λ i. (elim (eqb b 13) as (λ x. eqb b 13 ≡ x → Written b) [
            | true ↦ λ j. letter b 114 (sym (eqb-true b 13 j)) lt
            | false ↦ λ j. (let s : is_short b ≡ false = or_from _ _ g (or_from _ _ h (or_from _ _ i j)) in
                (elim (nat_le 32 b && nat_le b 126) as (λ x. (nat_le 32 b && nat_le b 126) ≡ x → Written b) [
                  | true ↦ λ k. (let p : is_plain b ≡ true = rw (s, k) refl in by_itself p (plain_byte b p))
                  | false ↦ λ k. (let p : is_coded b ≡ true = rw (s, k) refl in by_digits p (coded_byte b p))
                ]) refl)
          ]) refl
        ]) refl
      ]) refl
    ]) refl

-- ---- digits

value_of_digit : (n : ℕ) → n < 16 → hex_value (hex_digit n) ≡ n
value_of_digit n lt = grind (arith, lt)

digit_of_value : (c : ℕ) → hex_value c < 16 → hex_digit (hex_value c) ≡ c
digit_of_value c lt = grind (arith, lt)

is_byte_of : (b : ℕ) → b < 256 → (hex_value (hex_digit (b / 16)) ≡ b / 16) × (hex_value (hex_digit (b % 16)) ≡ b % 16)
is_byte_of b lt = (value_of_digit (b / 16) (omega (arith, lt)), value_of_digit (b % 16) (omega arith))

-- ---- one byte, and what follows it

plain_not : (b : ℕ) → is_plain b ≡ true → (b ≢ 92) × (b ≢ 34)
plain_not b e = (λ h. both_ways (is_plain b) (rw h refl) e, λ h. both_ways (is_plain b) (rw h refl) e)

two : (a b c d : ℕ) (x y : List ℕ) → a ∷ b ∷ x ≡ c ∷ d ∷ y → (b ≡ d) × (x ≡ y)
two a b c d x y e = let t = tail_is a c (b ∷ x) (d ∷ y) e in (head_is b d x y t, tail_is b d x y t)

front : (u v x : List ℕ) → u ≡ v → u ++ x ≡ v ++ x
front u v x e = ap (λ (l : List ℕ). l ++ x) e

same_byte : (b d : ℕ) (x y : List ℕ) → b < 256 → d < 256 → quoted_byte b ++ x ≡ quoted_byte d ++ y → (b ≡ d) × (x ≡ y)
same_byte b d x y blt dlt e = by_case (written b blt) (written d dlt)
  where
    by_case : Written b → Written d → (b ≡ d) × (x ≡ y)
    by_case (by_itself p f) (by_itself q g) = (let h = sym (front (quoted_byte b) (b ∷ []) x f) ∙ e ∙ front (quoted_byte d) (d ∷ []) y g in (head_is b d x y h, tail_is b d x y h))
    by_case (by_itself p f) (by_letter c i g n) = absurd ((plain_not b p).0 (head_is b 92 x (c ∷ y) (sym (front (quoted_byte b) (b ∷ []) x f) ∙ e ∙ front (quoted_byte d) (92 ∷ c ∷ []) y g)))
    by_case (by_itself p f) (by_digits q g) = absurd ((plain_not b p).0 (head_is b 92 x (120 ∷ hex_digit (d / 16) ∷ hex_digit (d % 16) ∷ y) (sym (front (quoted_byte b) (b ∷ []) x f) ∙ e ∙ front (quoted_byte d) (92 ∷ 120 ∷ hex_digit (d / 16) ∷ hex_digit (d % 16) ∷ []) y g)))
    by_case (by_letter c i f n) (by_itself q g) = absurd ((plain_not d q).0 (sym (head_is 92 d (c ∷ x) y (sym (front (quoted_byte b) (92 ∷ c ∷ []) x f) ∙ e ∙ front (quoted_byte d) (d ∷ []) y g))))
    by_case (by_letter c i f n) (by_letter k j g m) = (let h = two 92 c 92 k x y (sym (front (quoted_byte b) (92 ∷ c ∷ []) x f) ∙ e ∙ front (quoted_byte d) (92 ∷ k ∷ []) y g) in (sym i ∙ ap escape_of h.0 ∙ j, h.1))
    by_case (by_letter c i f n) (by_digits q g) = absurd (n (two 92 c 92 120 x (hex_digit (d / 16) ∷ hex_digit (d % 16) ∷ y) (sym (front (quoted_byte b) (92 ∷ c ∷ []) x f) ∙ e ∙ front (quoted_byte d) (92 ∷ 120 ∷ hex_digit (d / 16) ∷ hex_digit (d % 16) ∷ []) y g)).0)
    by_case (by_digits p f) (by_itself q g) = absurd ((plain_not d q).0 (sym (head_is 92 d (120 ∷ hex_digit (b / 16) ∷ hex_digit (b % 16) ∷ x) y (sym (front (quoted_byte b) (92 ∷ 120 ∷ hex_digit (b / 16) ∷ hex_digit (b % 16) ∷ []) x f) ∙ e ∙ front (quoted_byte d) (d ∷ []) y g))))
    by_case (by_digits p f) (by_letter k j g m) = absurd (m (sym (two 92 120 92 k (hex_digit (b / 16) ∷ hex_digit (b % 16) ∷ x) y (sym (front (quoted_byte b) (92 ∷ 120 ∷ hex_digit (b / 16) ∷ hex_digit (b % 16) ∷ []) x f) ∙ e ∙ front (quoted_byte d) (92 ∷ k ∷ []) y g)).0))
    by_case (by_digits p f) (by_digits q g) =
        (let h = two 92 120 92 120 (hex_digit (b / 16) ∷ hex_digit (b % 16) ∷ x) (hex_digit (d / 16) ∷ hex_digit (d % 16) ∷ y) (sym (front (quoted_byte b) (92 ∷ 120 ∷ hex_digit (b / 16) ∷ hex_digit (b % 16) ∷ []) x f) ∙ e ∙ front (quoted_byte d) (92 ∷ 120 ∷ hex_digit (d / 16) ∷ hex_digit (d % 16) ∷ []) y g) in
        let i = head_is (hex_digit (b / 16)) (hex_digit (d / 16)) (hex_digit (b % 16) ∷ x) (hex_digit (d % 16) ∷ y) h.1 in
        let j = two (hex_digit (b / 16)) (hex_digit (b % 16)) (hex_digit (d / 16)) (hex_digit (d % 16)) x y h.1 in
        let m = is_byte_of b blt in let n = is_byte_of d dlt in
        (omega (arith, sym m.0 ∙ ap hex_value i ∙ n.0, sym m.1 ∙ ap hex_value j.0 ∙ n.1), j.1))

-- a byte's text is not empty and does not begin with the closing sign
not_closing : (b : ℕ) (x y : List ℕ) → b < 256 → quoted_byte b ++ x ≡ 34 ∷ y → ⊥
not_closing b x y lt e = by_case (written b lt)
  where
    by_case : Written b → ⊥
    by_case (by_itself p f) = (plain_not b p).1 (head_is b 34 x y (sym (front (quoted_byte b) (b ∷ []) x f) ∙ e))
    by_case (by_letter c i f n) = absurd (omega (arith, head_is 92 34 (c ∷ x) y (sym (front (quoted_byte b) (92 ∷ c ∷ []) x f) ∙ e)))
    by_case (by_digits p f) = absurd (omega (arith, head_is 92 34 (120 ∷ hex_digit (b / 16) ∷ hex_digit (b % 16) ∷ x) y (sym (front (quoted_byte b) (92 ∷ 120 ∷ hex_digit (b / 16) ∷ hex_digit (b % 16) ∷ []) x f) ∙ e)))

-- ---- many bytes

-- the text behind the opening sign
abbrev body : List ℕ → List ℕ
body text = flat_map quoted_byte text ++ 34 ∷ []

-- the bytes that are left where some are read
pub record Left (a done y : List ℕ) : Type 0 where
  pub others : List ℕ
  pub is : a ≡ done ++ others
  pub text : body others ≡ y
  pub bytes : AreBytes others

body_cons : (b : ℕ) (bs : List ℕ) → body (b ∷ bs) ≡ quoted_byte b ++ body bs
body_cons b bs = append_assoc (quoted_byte b) (flat_map quoted_byte bs) (34 ∷ [])

left_over : (a done y : List ℕ) → AreBytes a → AreBytes done → body a ≡ flat_map quoted_byte done ++ y → Left a done y
left_over a [] y fa fd e = record { others = a; is = refl; text = e; bytes = fa }
left_over [] (d ∷ done) y fa fd e = absurd (not_closing d (flat_map quoted_byte done ++ y) [] fd.0 (sym (append_assoc (quoted_byte d) (flat_map quoted_byte done) y) ∙ sym e))
left_over (b ∷ a) (d ∷ done) y fa fd e =
    let h = same_byte b d (body a) (flat_map quoted_byte done ++ y) fa.0 fd.0 (sym (body_cons b a) ∙ e ∙ append_assoc (quoted_byte d) (flat_map quoted_byte done) y) in
    let l = left_over a done y fa.1 fd.1 h.1 in
    record { others = l.others; is = ap (λ (k : ℕ). k ∷ a) h.0 ∙ ap (λ (k : List ℕ). d ∷ k) l.is; text = l.text; bytes = l.bytes }

-- ---- where a reader stands

abbrev pending : Mode → List ℕ
pending Plain = []
pending Slash = 92 ∷ []
pending Hex = 92 ∷ 120 ∷ []
pending (Digit h) = 92 ∷ 120 ∷ h ∷ []

abbrev ModeFits : Mode → Type 0
ModeFits Plain = Unit {0}
ModeFits Slash = Unit {0}
ModeFits Hex = Unit {0}
ModeFits (Digit h) = first_fits h ≡ true

-- a byte with which a reader does not go on
abbrev Refuses : Mode → ℕ → Type 0
Refuses Plain c = (c ≢ 34) × (c ≢ 92) × (is_plain c ≡ false)
Refuses Slash c = (c ≢ 120) × (256 ≤ escape_of c)
Refuses Hex c = first_fits c ≡ false
Refuses (Digit h) c = second_fits h c ≡ false

abbrev at_mode : List ℕ → Mode → List ℕ
at_mode text mode = 34 ∷ (flat_map quoted_byte text ++ pending mode)

coded_first : (b : ℕ) → b < 256 → is_coded b ≡ true → first_fits (hex_digit (b / 16)) ≡ true
coded_first b lt e =
    let a = and_parts (not (is_short b)) _ e in
    let v = value_of_digit (b / 16) (omega (arith, lt)) in
    rw v (by_range (not-true (nat_le 32 b && nat_le b 126) a.1))
  where
    by_range : (nat_le 32 b && nat_le b 126) ≡ false → (nat_lt (b / 16) 2 || (nat_le 7 (b / 16) && nat_lt (b / 16) 16)) ≡ true
    by_range f = grind (arith, f, lt)

coded_second : (b : ℕ) → b < 256 → is_coded b ≡ true → second_fits (hex_digit (b / 16)) (hex_digit (b % 16)) ≡ true
coded_second b lt e =
    let v = is_byte_of b lt in
    let whole : b / 16 * 16 + b % 16 ≡ b = omega arith in
    rw (v.0, v.1, whole, lt-ltb (b % 16) 16 (omega arith)) e

byte_refused : (mode : Mode) (c : ℕ) (s : List ℕ) → Refuses mode c → (b : ℕ) (x : List ℕ) → b < 256 → quoted_byte b ++ x ≡ pending mode ++ c ∷ s → ⊥
byte_refused Plain c s n b x lt e = by_case (written b lt)
  where
    by_case : Written b → ⊥
    by_case (by_itself p f) = both_ways (is_plain c) n.2 (subst (λ (k : ℕ). is_plain k ≡ true) (head_is b c x s (sym (front (quoted_byte b) (b ∷ []) x f) ∙ e)) p)
    by_case (by_letter d i f m) = n.1 (sym (head_is 92 c (d ∷ x) s (sym (front (quoted_byte b) (92 ∷ d ∷ []) x f) ∙ e)))
    by_case (by_digits p f) = n.1 (sym (head_is 92 c (120 ∷ hex_digit (b / 16) ∷ hex_digit (b % 16) ∷ x) s (sym (front (quoted_byte b) (92 ∷ 120 ∷ hex_digit (b / 16) ∷ hex_digit (b % 16) ∷ []) x f) ∙ e)))
byte_refused Slash c s n b x lt e = by_case (written b lt)
  where
    by_case : Written b → ⊥
    by_case (by_itself p f) = (plain_not b p).0 (head_is b 92 x (c ∷ s) (sym (front (quoted_byte b) (b ∷ []) x f) ∙ e))
    by_case (by_letter d i f m) = (let h = (two 92 d 92 c x s (sym (front (quoted_byte b) (92 ∷ d ∷ []) x f) ∙ e)).0 in absurd (omega (arith, lt, n.1, sym (ap escape_of h) ∙ i)))
    by_case (by_digits p f) = n.0 (sym (two 92 120 92 c (hex_digit (b / 16) ∷ hex_digit (b % 16) ∷ x) s (sym (front (quoted_byte b) (92 ∷ 120 ∷ hex_digit (b / 16) ∷ hex_digit (b % 16) ∷ []) x f) ∙ e)).0)
byte_refused Hex c s n b x lt e = by_case (written b lt)
  where
    by_case : Written b → ⊥
    by_case (by_itself p f) = (plain_not b p).0 (head_is b 92 x (120 ∷ c ∷ s) (sym (front (quoted_byte b) (b ∷ []) x f) ∙ e))
    by_case (by_letter d i f m) = m (two 92 d 92 120 x (c ∷ s) (sym (front (quoted_byte b) (92 ∷ d ∷ []) x f) ∙ e)).0
    by_case (by_digits p f) =
        (let h = (two 92 120 92 120 (hex_digit (b / 16) ∷ hex_digit (b % 16) ∷ x) (c ∷ s) (sym (front (quoted_byte b) (92 ∷ 120 ∷ hex_digit (b / 16) ∷ hex_digit (b % 16) ∷ []) x f) ∙ e)).1 in
        both_ways (first_fits c) n (subst (λ (k : ℕ). first_fits k ≡ true) (head_is (hex_digit (b / 16)) c (hex_digit (b % 16) ∷ x) s h) (coded_first b lt p)))
byte_refused (Digit d) c s n b x lt e = by_case (written b lt)
  where
    by_case : Written b → ⊥
    by_case (by_itself p f) = (plain_not b p).0 (head_is b 92 x (120 ∷ d ∷ c ∷ s) (sym (front (quoted_byte b) (b ∷ []) x f) ∙ e))
    by_case (by_letter k i f m) = m (two 92 k 92 120 x (d ∷ c ∷ s) (sym (front (quoted_byte b) (92 ∷ k ∷ []) x f) ∙ e)).0
    by_case (by_digits p f) =
        (let h = (two 92 120 92 120 (hex_digit (b / 16) ∷ hex_digit (b % 16) ∷ x) (d ∷ c ∷ s) (sym (front (quoted_byte b) (92 ∷ 120 ∷ hex_digit (b / 16) ∷ hex_digit (b % 16) ∷ []) x f) ∙ e)).1 in
        let i = head_is (hex_digit (b / 16)) d (hex_digit (b % 16) ∷ x) (c ∷ s) h in
        let j = (two (hex_digit (b / 16)) (hex_digit (b % 16)) d c x s h).0 in
        both_ways (second_fits d c) n (subst (λ (k : ℕ). second_fits d k ≡ true) j (subst (λ (k : ℕ). second_fits k (hex_digit (b % 16)) ≡ true) i (coded_second b lt p))))

closing_refused : (mode : Mode) (c : ℕ) (s : List ℕ) → Refuses mode c → 34 ∷ [] ≡ pending mode ++ c ∷ s → ⊥
closing_refused Plain c s n e = n.0 (sym (head_is 34 c [] s e))
closing_refused Slash c s n e = absurd (omega (arith, head_is 34 92 [] (c ∷ s) e))
closing_refused Hex c s n e = absurd (omega (arith, head_is 34 92 [] (120 ∷ c ∷ s) e))
closing_refused (Digit d) c s n e = absurd (omega (arith, head_is 34 92 [] (120 ∷ d ∷ c ∷ s) e))

mode_blocked : (text : List ℕ) (mode : Mode) (c : ℕ) (s : List ℕ) → AreBytes text → Refuses mode c → (a : List ℕ) → IsQuoted a (at_mode text mode ++ c ∷ s) → ⊥
mode_blocked text mode c s fits n a m =
    let e : body a ≡ flat_map quoted_byte text ++ (pending mode ++ c ∷ s) = sym (tail_is 34 34 ((flat_map quoted_byte text ++ pending mode) ++ c ∷ s) (body a) m.spelled) ∙ append_assoc (flat_map quoted_byte text) (pending mode) (c ∷ s) in
    let l = left_over a text (pending mode ++ c ∷ s) m.bytes fits e in
    by_others l.others l.bytes l.text
  where
    by_others : (bs : List ℕ) → AreBytes bs → body bs ≡ pending mode ++ c ∷ s → ⊥
    by_others [] f e = closing_refused mode c s n e
    by_others (b ∷ bs) f e = byte_refused mode c s n b (body bs) f.0 (sym (body_cons b bs) ∙ e)

-- no byte's text is all that is pending
byte_pending : (mode : Mode) (b : ℕ) (x : List ℕ) → 0 < length x → b < 256 → quoted_byte b ++ x ≡ pending mode → ⊥
byte_pending mode b x some lt e = by_case (written b lt) mode e
  where
    by_case : Written b → (mode : Mode) → quoted_byte b ++ x ≡ pending mode → ⊥
    by_case (by_itself p f) Plain e = not_nil b x (sym (front (quoted_byte b) (b ∷ []) x f) ∙ e)
    by_case (by_itself p f) Slash e = (plain_not b p).0 (head_is b 92 x [] (sym (front (quoted_byte b) (b ∷ []) x f) ∙ e))
    by_case (by_itself p f) Hex e = (plain_not b p).0 (head_is b 92 x (120 ∷ []) (sym (front (quoted_byte b) (b ∷ []) x f) ∙ e))
    by_case (by_itself p f) (Digit d) e = (plain_not b p).0 (head_is b 92 x (120 ∷ d ∷ []) (sym (front (quoted_byte b) (b ∷ []) x f) ∙ e))
    by_case (by_letter c i f n) Plain e = not_nil 92 (c ∷ x) (sym (front (quoted_byte b) (92 ∷ c ∷ []) x f) ∙ e)
    by_case (by_letter c i f n) Slash e = not_nil c x (tail_is 92 92 (c ∷ x) [] (sym (front (quoted_byte b) (92 ∷ c ∷ []) x f) ∙ e))
    by_case (by_letter c i f n) Hex e = n (two 92 c 92 120 x [] (sym (front (quoted_byte b) (92 ∷ c ∷ []) x f) ∙ e)).0
    by_case (by_letter c i f n) (Digit d) e = n (two 92 c 92 120 x (d ∷ []) (sym (front (quoted_byte b) (92 ∷ c ∷ []) x f) ∙ e)).0
    by_case (by_digits p f) mode e = absurd (omega (arith, some, longest_pending mode, ap length (sym (front (quoted_byte b) (92 ∷ 120 ∷ hex_digit (b / 16) ∷ hex_digit (b % 16) ∷ []) x f) ∙ e)))
      where
        longest_pending : (mode : Mode) → length (pending mode) ≤ 3
        longest_pending Plain = omega arith
        longest_pending Slash = omega arith
        longest_pending Hex = omega arith
        longest_pending (Digit d) = omega arith

body_some : (bs : List ℕ) → 0 < length (body bs)
body_some bs = omega (arith, length-append (flat_map quoted_byte bs) (34 ∷ []))

mode_none : (text : List ℕ) (mode : Mode) → AreBytes text → (a : List ℕ) → IsQuoted a (at_mode text mode) → ⊥
mode_none text mode fits a m =
    let l = left_over a text (pending mode) m.bytes fits (sym (tail_is 34 34 (flat_map quoted_byte text ++ pending mode) (body a) m.spelled)) in
    by_others l.others l.bytes l.text
  where
    closing : (mode : Mode) → 34 ∷ [] ≡ pending mode → ⊥
    closing Plain e = not_nil 34 [] e
    closing Slash e = absurd (omega (arith, head_is 34 92 [] [] e))
    closing Hex e = absurd (omega (arith, head_is 34 92 [] (120 ∷ []) e))
    closing (Digit d) e = absurd (omega (arith, head_is 34 92 [] (120 ∷ d ∷ []) e))

    by_others : (bs : List ℕ) → AreBytes bs → body bs ≡ pending mode → ⊥
    by_others [] f e = closing mode e
    by_others (b ∷ bs) f e = byte_pending mode b (body bs) (body_some bs) f.0 (sym (body_cons b bs) ∙ e)

-- ---- each place goes on to some text

flat_push : (text : List ℕ) (b : ℕ) → flat_map quoted_byte (text ++ b ∷ []) ≡ flat_map quoted_byte text ++ quoted_byte b
flat_push [] b = append-nil (quoted_byte b)
flat_push (c ∷ text) b = ap (λ (l : List ℕ). quoted_byte c ++ l) (flat_push text b) ∙ sym (append_assoc (quoted_byte c) (flat_map quoted_byte text) (quoted_byte b))

bytes_push : (text : List ℕ) (b : ℕ) → AreBytes text → b < 256 → AreBytes (text ++ b ∷ [])
bytes_push [] b f lt = (lt, tt)
bytes_push (c ∷ text) b f lt = (f.0, bytes_push text b f.1 lt)

begins_by : (text : List ℕ) (mode : Mode) (b : ℕ) (s : List ℕ) → AreBytes text → b < 256 → quoted_byte b ≡ pending mode ++ s → Begins IsQuoted (at_mode text mode)
begins_by text mode b s f lt e =
    record {
      value = text ++ b ∷ [];
      rest = s ++ 34 ∷ [];
      text = record {
        bytes = bytes_push text b f lt;
        spelled = ap (λ (l : List ℕ). 34 ∷ l) (append_assoc (flat_map quoted_byte text) (pending mode) (s ++ 34 ∷ [])
            ∙ ap (λ (l : List ℕ). flat_map quoted_byte text ++ l) (sym (append_assoc (pending mode) s (34 ∷ [])) ∙ ap (λ (l : List ℕ). l ++ 34 ∷ []) (sym e))
            ∙ sym (append_assoc (flat_map quoted_byte text) (quoted_byte b) (34 ∷ []))
            ∙ ap (λ (l : List ℕ). l ++ 34 ∷ []) (sym (flat_push text b)));
      };
    }

digit_begins : (h : ℕ) → first_fits h ≡ true → (b : ℕ) × (b < 256) × (quoted_byte b ≡ 92 ∷ 120 ∷ h ∷ 102 ∷ [])
digit_begins h e =
    let small : hex_value h < 16 = fits_small (hex_value h) e in
    let b = hex_value h * 16 + 15 in
    let q : b / 16 ≡ hex_value h = omega arith in
    let r : b % 16 ≡ 15 = omega arith in
    let coded : is_coded b ≡ true = coded_15 (hex_value h) e in
    (b, omega (arith, small), coded_byte b coded ∙ ap (λ (k : ℕ). 92 ∷ 120 ∷ hex_digit k ∷ hex_digit (b % 16) ∷ []) q ∙ ap (λ (k : ℕ). 92 ∷ 120 ∷ k ∷ hex_digit (b % 16) ∷ []) (digit_of_value h small) ∙ ap (λ (k : ℕ). 92 ∷ 120 ∷ h ∷ hex_digit k ∷ []) r)
  where
    fits_small : (v : ℕ) → (nat_lt v 2 || (nat_le 7 v && nat_lt v 16)) ≡ true → v < 16
    fits_small v e = grind (arith, e)

    coded_15 : (v : ℕ) → (nat_lt v 2 || (nat_le 7 v && nat_lt v 16)) ≡ true → is_coded (v * 16 + 15) ≡ true
    coded_15 v e = grind (arith, e)

mode_begins : (text : List ℕ) (mode : Mode) → AreBytes text → ModeFits mode → Begins IsQuoted (at_mode text mode)
mode_begins text Plain f m = begins_by text Plain 97 (97 ∷ []) f (omega arith) refl
mode_begins text Slash f m = begins_by text Slash 34 (34 ∷ []) f (omega arith) refl
mode_begins text Hex f m = begins_by text Hex 0 (48 ∷ 48 ∷ []) f (omega arith) refl
mode_begins text (Digit h) f m = (let d = digit_begins h m in begins_by text (Digit h) d.0 (102 ∷ []) f d.1 d.2)

-- ---- plain bytes in a row

-- plain bytes are read as they stand
pub run_read : (text t : List ℕ) → quote_at text Plain t ≡ quote_at (text ++ take (plain_run t) t) Plain (drop (plain_run t) t)
run_read text [] = ap (λ (l : List ℕ). quote_at l Plain []) (sym (append-nil text))
run_read text (c ∷ r) =
    (elim (is_plain c) as (λ b. is_plain c ≡ b → quote_at text Plain (c ∷ r) ≡ quote_at (text ++ take (cond b (plain_run r + 1) 0) (c ∷ r)) Plain (drop (cond b (plain_run r + 1) 0) (c ∷ r))) [
      | true ↦ λ e. one_read text c r e ∙ run_read (text ++ c ∷ []) r ∙ ap (λ (l : List ℕ). quote_at l Plain (drop (plain_run r) r)) (append_assoc text (c ∷ []) (take (plain_run r) r)) ∙ one_more (plain_run r) text c r
      | false ↦ λ e. ap (λ (l : List ℕ). quote_at l Plain (c ∷ r)) (sym (append-nil text))
    ]) refl
  where
    one_read : (text : List ℕ) (c : ℕ) (r : List ℕ) → is_plain c ≡ true → quote_at text Plain (c ∷ r) ≡ quote_at (text ++ c ∷ []) Plain r
    one_read text c r e = let n = plain_not c e in rw (e, ne_eqb c 34 n.1, ne_eqb c 92 n.0) refl

    one_more : (n : ℕ) (text : List ℕ) (c : ℕ) (r : List ℕ) → quote_at (text ++ c ∷ take n r) Plain (drop n r) ≡ quote_at (text ++ take (n + 1) (c ∷ r)) Plain (drop (n + 1) (c ∷ r))
    one_more n text c r = let e : n + 1 ≡ suc n = omega arith in rw e refl

-- and the first byte behind them is not plain
pub run_stops : (t : List ℕ) → first_passes is_plain (drop (plain_run t) t) ≡ false
run_stops [] = refl
run_stops (c ∷ r) =
    (elim (is_plain c) as (λ b. is_plain c ≡ b → first_passes is_plain (drop (cond b (plain_run r + 1) 0) (c ∷ r)) ≡ false) [
      | true ↦ λ e. (let n : plain_run r + 1 ≡ suc (plain_run r) = omega arith in rw n (run_stops r))
      | false ↦ λ e. e
    ]) refl

-- ---- reading

quote_stuck : (text : List ℕ) (mode : Mode) (t r : List ℕ) → AreBytes text → ModeFits mode → t ≡ at_mode text mode ++ r → Blocked IsQuoted (at_mode text mode) r → IsRightReading IsQuoted t (Stuck r)
quote_stuck text mode t r f m e b = record { front = at_mode text mode; begun = mode_begins text mode f m; parts = e; blocked = b; none = mode_none text mode f }

-- one byte more behind what was read
next_mode : (text : List ℕ) (mode next : Mode) (c : ℕ) (r t : List ℕ) → pending next ≡ pending mode ++ c ∷ [] → t ≡ at_mode text mode ++ c ∷ r → t ≡ at_mode text next ++ r
next_mode text mode next c r t n e =
    e ∙ ap (λ (l : List ℕ). 34 ∷ l) (append_assoc (flat_map quoted_byte text) (pending mode) (c ∷ r)
    ∙ ap (λ (l : List ℕ). flat_map quoted_byte text ++ l) (sym (append_assoc (pending mode) (c ∷ []) r) ∙ ap (λ (l : List ℕ). l ++ r) (sym n))
    ∙ sym (append_assoc (flat_map quoted_byte text) (pending next) r))

-- one byte of the text is whole
next_byte : (text : List ℕ) (mode : Mode) (c b : ℕ) (r t : List ℕ) → quoted_byte b ≡ pending mode ++ c ∷ [] → t ≡ at_mode text mode ++ c ∷ r → t ≡ at_mode (text ++ b ∷ []) Plain ++ r
next_byte text mode c b r t n e =
    e ∙ ap (λ (l : List ℕ). 34 ∷ l) (append_assoc (flat_map quoted_byte text) (pending mode) (c ∷ r)
    ∙ ap (λ (l : List ℕ). flat_map quoted_byte text ++ l) (sym (append_assoc (pending mode) (c ∷ []) r) ∙ ap (λ (l : List ℕ). l ++ r) (sym n))
    ∙ sym (append_assoc (flat_map quoted_byte text) (quoted_byte b) r)
    ∙ ap (λ (l : List ℕ). l ++ r) (sym (flat_push text b))
    ∙ ap (λ (l : List ℕ). l ++ r) (sym (append-nil (flat_map quoted_byte (text ++ b ∷ [])))))

closed_blocked : (text : List ℕ) → AreBytes text → (r : List ℕ) → Blocked IsQuoted (quoted text) r
closed_blocked text f [] = tt
closed_blocked text f (c ∷ r) =
    λ a s m.
    let e : body a ≡ flat_map quoted_byte text ++ 34 ∷ c ∷ s = sym (tail_is 34 34 ((flat_map quoted_byte text ++ 34 ∷ []) ++ c ∷ s) (body a) m.spelled) ∙ append_assoc (flat_map quoted_byte text) (34 ∷ []) (c ∷ s) in
    let l = left_over a text (34 ∷ c ∷ s) m.bytes f e in
    by_others c s l.others l.bytes l.text
  where
    by_others : (c : ℕ) (s bs : List ℕ) → AreBytes bs → body bs ≡ 34 ∷ c ∷ s → ⊥
    by_others c s [] g e = not_nil c s (sym (tail_is 34 34 [] (c ∷ s) e))
    by_others c s (b ∷ bs) g e = not_closing b (body bs) (c ∷ s) g.0 (sym (body_cons b bs) ∙ e)

quote_closed : (text : List ℕ) (t r : List ℕ) (c : ℕ) → AreBytes text → c ≡ 34 → t ≡ at_mode text Plain ++ c ∷ r → IsRightReading IsQuoted t (Found text r)
quote_closed text t r c f is e =
    record {
      front = quoted text;
      text = record { bytes = f; spelled = refl };
      parts = e ∙ ap (λ (l : List ℕ). 34 ∷ l) (ap (λ (l : List ℕ). l ++ c ∷ r) (append-nil (flat_map quoted_byte text)) ∙ ap (λ (k : ℕ). flat_map quoted_byte text ++ k ∷ r) is ∙ sym (append_assoc (flat_map quoted_byte text) (34 ∷ []) r));
      blocked = closed_blocked text f r;
    }

plain_small : (c : ℕ) → is_plain c ≡ true → c < 256
plain_small c e = let a = and_parts (not (is_short c)) _ e in let b = and_parts (nat_le 32 c) _ a.1 in omega (arith, leb-true _ _ b.1)

coded_is : (h c : ℕ) → first_fits h ≡ true → second_fits h c ≡ true → (coded_by h c < 256) × (quoted_byte (coded_by h c) ≡ 92 ∷ 120 ∷ h ∷ c ∷ [])
coded_is h c f e =
    let a = and_parts (nat_lt (hex_value c) 16) _ e in
    let low = ltb-true _ _ a.0 in
    let high : hex_value h < 16 = fits_small (hex_value h) f in
    let small : coded_by h c < 256 = omega (arith, low, high) in
    let q : coded_by h c / 16 ≡ hex_value h = omega (arith, low) in
    let r : coded_by h c % 16 ≡ hex_value c = omega (arith, low) in (
      small,
      coded_byte (coded_by h c) a.1 ∙ ap (λ (k : ℕ). 92 ∷ 120 ∷ hex_digit k ∷ hex_digit (coded_by h c % 16) ∷ []) q ∙ ap (λ (k : ℕ). 92 ∷ 120 ∷ k ∷ hex_digit (coded_by h c % 16) ∷ []) (digit_of_value h high)
          ∙ ap (λ (k : ℕ). 92 ∷ 120 ∷ h ∷ hex_digit k ∷ []) r ∙ ap (λ (k : ℕ). 92 ∷ 120 ∷ h ∷ k ∷ []) (digit_of_value c low),
    )
  where
    fits_small : (v : ℕ) → (nat_lt v 2 || (nat_le 7 v && nat_lt v 16)) ≡ true → v < 16
    fits_small v e = grind (arith, e)

quote_tells : (text : List ℕ) (mode : Mode) (r t : List ℕ) → AreBytes text → ModeFits mode → t ≡ at_mode text mode ++ r → IsRightReading IsQuoted t (quote_at text mode r)
quote_tells text Plain [] t f m e = quote_stuck text Plain t [] f m e tt
quote_tells text Slash [] t f m e = quote_stuck text Slash t [] f m e tt
quote_tells text Hex [] t f m e = quote_stuck text Hex t [] f m e tt
quote_tells text (Digit h) [] t f m e = quote_stuck text (Digit h) t [] f m e tt
quote_tells text Plain (c ∷ r) t f m e =
    (elim (eqb c 34) as (λ x. eqb c 34 ≡ x → IsRightReading IsQuoted t (cond x (Found text r) (cond (eqb c 92) (quote_at text Slash r) (cond (is_plain c) (quote_at (text ++ c ∷ []) Plain r) (Stuck (c ∷ r)))))) [
      | true ↦ λ g. quote_closed text t r c f (eqb-true c 34 g) e
      | false ↦ λ g. (elim (eqb c 92) as (λ x. eqb c 92 ≡ x → IsRightReading IsQuoted t (cond x (quote_at text Slash r) (cond (is_plain c) (quote_at (text ++ c ∷ []) Plain r) (Stuck (c ∷ r))))) [
        | true ↦ λ h. quote_tells text Slash r t f tt (next_mode text Plain Slash c r t (ap (λ (k : ℕ). k ∷ []) (sym (eqb-true c 92 h))) e)
        | false ↦ λ h. (elim (is_plain c) as (λ x. is_plain c ≡ x → IsRightReading IsQuoted t (cond x (quote_at (text ++ c ∷ []) Plain r) (Stuck (c ∷ r)))) [
          | true ↦ λ i. quote_tells (text ++ c ∷ []) Plain r t (bytes_push text c f (plain_small c i)) tt (next_byte text Plain c c r t (plain_byte c i) e)
          | false ↦ λ i. quote_stuck text Plain t (c ∷ r) f m e (λ a s n. mode_blocked text Plain c s f (eqb-false c 34 g, eqb-false c 92 h, i) a n)
        ]) refl
      ]) refl
    ]) refl
quote_tells text Slash (c ∷ r) t f m e =
    (elim (eqb c 120) as (λ x. eqb c 120 ≡ x → IsRightReading IsQuoted t (cond x (quote_at text Hex r) (cond (nat_lt (escape_of c) 256) (quote_at (text ++ escape_of c ∷ []) Plain r) (Stuck (c ∷ r))))) [
      | true ↦ λ g. quote_tells text Hex r t f tt (next_mode text Slash Hex c r t (ap (λ (k : ℕ). 92 ∷ k ∷ []) (sym (eqb-true c 120 g))) e)
      | false ↦ λ g. (elim (nat_lt (escape_of c) 256) as (λ x. nat_lt (escape_of c) 256 ≡ x → IsRightReading IsQuoted t (cond x (quote_at (text ++ escape_of c ∷ []) Plain r) (Stuck (c ∷ r)))) [
        | true ↦ λ h. quote_tells (text ++ escape_of c ∷ []) Plain r t (bytes_push text (escape_of c) f (ltb-true _ _ h)) tt (next_byte text Slash c (escape_of c) r t (short_byte c (ltb-true _ _ h)).0 e)
        | false ↦ λ h. quote_stuck text Slash t (c ∷ r) f m e (λ a s n. mode_blocked text Slash c s f (eqb-false c 120 g, ltb-false _ _ h) a n)
      ]) refl
    ]) refl
quote_tells text Hex (c ∷ r) t f m e =
    (elim (first_fits c) as (λ x. first_fits c ≡ x → IsRightReading IsQuoted t (cond x (quote_at text (Digit c) r) (Stuck (c ∷ r)))) [
      | true ↦ λ g. quote_tells text (Digit c) r t f g (next_mode text Hex (Digit c) c r t refl e)
      | false ↦ λ g. quote_stuck text Hex t (c ∷ r) f m e (λ a s n. mode_blocked text Hex c s f g a n)
    ]) refl
quote_tells text (Digit h) (c ∷ r) t f m e =
    (elim (second_fits h c) as (λ x. second_fits h c ≡ x → IsRightReading IsQuoted t (cond x (quote_at (text ++ coded_by h c ∷ []) Plain r) (Stuck (c ∷ r)))) [
      | true ↦ λ g. (let d = coded_is h c m g in quote_tells (text ++ coded_by h c ∷ []) Plain r t (bytes_push text (coded_by h c) f d.0) tt (next_byte text (Digit h) c (coded_by h c) r t d.1 e))
      | false ↦ λ g. quote_stuck text (Digit h) t (c ∷ r) f m e (λ a s n. mode_blocked text (Digit h) c s f g a n)
    ]) refl

quoted_tells : (t : List ℕ) → IsRightReading IsQuoted t (quoted_at t)
quoted_tells [] = record { front = []; begun = record { value = []; rest = 34 ∷ 34 ∷ []; text = record { bytes = tt; spelled = refl } }; parts = refl; blocked = tt; none = λ a m. not_nil 34 (body a) (sym m.spelled) }
quoted_tells (c ∷ r) =
    (elim (eqb c 34) as (λ x. eqb c 34 ≡ x → IsRightReading IsQuoted (c ∷ r) (cond x (quote_at [] Plain r) (Stuck (c ∷ r)))) [
      | true ↦ λ g. quote_tells [] Plain r (c ∷ r) tt tt (ap (λ (k : ℕ). k ∷ r) (eqb-true c 34 g))
      | false ↦ λ g. record {
        front = [];
        begun = record { value = []; rest = 34 ∷ 34 ∷ []; text = record { bytes = tt; spelled = refl } };
        parts = refl;
        blocked = λ a s m. eqb-false c 34 g (head_is c 34 s (body a) m.spelled);
        none = λ a m. not_nil 34 (body a) (sym m.spelled);
      }
    ]) refl

pub quoted_unique : (a b u : List ℕ) → IsQuoted a u → IsQuoted b u → a ≡ b
quoted_unique a b u m n = by_others (left_over a b (34 ∷ []) m.bytes n.bytes (tail_is 34 34 (body a) (body b) (sym m.spelled ∙ n.spelled)))
  where
    none_left : (bs : List ℕ) → AreBytes bs → body bs ≡ 34 ∷ [] → bs ≡ []
    none_left [] g e = refl
    none_left (b ∷ bs) g e = absurd (not_closing b (body bs) [] g.0 (sym (body_cons b bs) ∙ e))

    by_others : Left a b (34 ∷ []) → a ≡ b
    by_others l = l.is ∙ ap (λ (k : List ℕ). b ++ k) (none_left l.others l.bytes l.text) ∙ append-nil b

pub quoted_exact : IsExact IsQuoted nothing quoted_at
quoted_exact =
    record {
      set = record {
        unique = quoted_unique;
        stay = λ a b u c s m n. absurd (closed_blocked a m.bytes (c ∷ []) b s (subst (λ (l : List ℕ). IsQuoted b (l ++ c ∷ s)) m.spelled n));
        some = [];
        some_text = 34 ∷ 34 ∷ [];
        has_some = record { bytes = tt; spelled = refl };
      };
      tells = quoted_tells;
    }
