-- What is written is read back, and a text is read in one way.
use Rattle.std.proofs.Common.{ℕ, ◌+◌, ◌/◌, ◌%◌, ◌<◌, List, [], ◌∷◌, ◌++◌, length, arith, ◌≡◌, ◌≢◌, refl, sym, ap, subst, eqb, true, false, cond, append_assoc, inl, inr}
use Rattle.std.specs.Prelude.{◌&&◌, nat_le}
use Rattle.std.specs.List.{AllByRecursion, flat_map}
use Rattle.std.proofs.lemmas.Bool.{eqb-true, eqb-false}
use Rattle.std.proofs.lemmas.Str.{digit_value-digit_char}
use Rattle.nc_types.specs.Text.{hex_digit, quoted_byte}
use Rattle.nc_types.specs.Unquote.{IsNext, itself, letter, digits, BeginsNoPiece, Spells, ReadsTo, left_at_fault, IsFaultAt, not_opened, bad_escape, more_follows, not_closed, QuoteIsRead, OneMeaning, OnePlace}
use Rattle.nc_types.proofs.Pieces.{none-nil, none-closing, same-reading}

-- ---- what is written is read back

next-coded : (b : ℕ) (rest : List ℕ) → b < 256 → IsNext (92 ∷ 120 ∷ hex_digit (b / 16) ∷ hex_digit (b % 16) ∷ rest) b rest
next-coded b rest lt =
    let high = digit_value-digit_char (b / 16) (omega (arith, lt)) in
    let low = digit_value-digit_char (b % 16) (omega arith) in
    digits (hex_digit (b / 16)) (hex_digit (b % 16)) (omega (arith, high, lt), (omega (arith, low), tt)) (omega (arith, high, low)) refl

quoted-next : (b : ℕ) (rest : List ℕ) → b < 256 → IsNext (quoted_byte b ++ rest) b rest
quoted-next b rest lt =
    (elim (eqb b 34) as (λ x. eqb b 34 ≡ x → IsNext (cond x (92 ∷ 34 ∷ []) (cond (eqb b 92) (92 ∷ 92 ∷ []) (cond (eqb b 10) (92 ∷ 110 ∷ []) (cond (eqb b 13) (92 ∷ 114 ∷ []) (cond (nat_le 32 b && nat_le b 126) (b ∷ []) (92 ∷ 120 ∷ hex_digit (b / 16) ∷ hex_digit (b % 16) ∷ []))))) ++ rest) b rest) [
      | true ↦ λ g. letter 34 (inl (refl, eqb-true b 34 g)) refl
      | false ↦ λ g. (elim (eqb b 92) as (λ x. eqb b 92 ≡ x → IsNext (cond x (92 ∷ 92 ∷ []) (cond (eqb b 10) (92 ∷ 110 ∷ []) (cond (eqb b 13) (92 ∷ 114 ∷ []) (cond (nat_le 32 b && nat_le b 126) (b ∷ []) (92 ∷ 120 ∷ hex_digit (b / 16) ∷ hex_digit (b % 16) ∷ [])))) ++ rest) b rest) [
        | true ↦ λ h. letter 92 (inr (inl (refl, eqb-true b 92 h))) refl
        | false ↦ λ h. (elim (eqb b 10) as (λ x. eqb b 10 ≡ x → IsNext (cond x (92 ∷ 110 ∷ []) (cond (eqb b 13) (92 ∷ 114 ∷ []) (cond (nat_le 32 b && nat_le b 126) (b ∷ []) (92 ∷ 120 ∷ hex_digit (b / 16) ∷ hex_digit (b % 16) ∷ []))) ++ rest) b rest) [
          | true ↦ λ i. letter 110 (inr (inr (inl (refl, eqb-true b 10 i)))) refl
          | false ↦ λ i. (elim (eqb b 13) as (λ x. eqb b 13 ≡ x → IsNext (cond x (92 ∷ 114 ∷ []) (cond (nat_le 32 b && nat_le b 126) (b ∷ []) (92 ∷ 120 ∷ hex_digit (b / 16) ∷ hex_digit (b % 16) ∷ [])) ++ rest) b rest) [
            | true ↦ λ j. letter 114 (inr (inr (inr (inl (refl, eqb-true b 13 j))))) refl
            | false ↦ λ j. (elim (nat_le 32 b && nat_le b 126) as (λ x. IsNext (cond x (b ∷ []) (92 ∷ 120 ∷ hex_digit (b / 16) ∷ hex_digit (b % 16) ∷ []) ++ rest) b rest) [
              | true ↦ itself (eqb-false b 34 g) (eqb-false b 92 h) refl
              | false ↦ next-coded b rest lt
            ])
          ]) refl
        ]) refl
      ]) refl
    ]) refl

quoted-spells : (bytes rest : List ℕ) → AllByRecursion (λ b. b < 256) bytes → Spells (flat_map quoted_byte bytes ++ rest) bytes rest
quoted-spells [] rest h = refl
quoted-spells (b ∷ bytes) rest h =
    (flat_map quoted_byte bytes ++ rest, subst (λ (t : List ℕ). IsNext t b (flat_map quoted_byte bytes ++ rest)) (sym (append_assoc (quoted_byte b) (flat_map quoted_byte bytes) rest)) (quoted-next b (flat_map quoted_byte bytes ++ rest) h.0), quoted-spells bytes rest h.1)

pub quote-is-read : (bytes : List ℕ) → QuoteIsRead bytes
quote-is-read bytes h = (flat_map quoted_byte bytes ++ 34 ∷ [], refl, quoted-spells bytes (34 ∷ []) h)

-- ---- one reading

pub one-meaning : (text : List ℕ) → OneMeaning text
one-meaning text a b h k = (same-reading text a b (34 ∷ []) (34 ∷ []) (none-closing []) (none-closing []) h k).0

-- how the reading of a text ends
data Ending (text : List ℕ) (at : ℕ) : Type 0 where
  unopened : ((rest : List ℕ) → text ≢ 34 ∷ rest) → at ≡ 0 → Ending text at
  opened : (bytes rest : List ℕ) → ReadsTo text bytes rest → BeginsNoPiece rest → at + left_at_fault rest ≡ length text → Ending text at

ending : (text : List ℕ) (at : ℕ) → IsFaultAt text at → Ending text at
ending text at (not_opened n e) = unopened n e
ending text at (bad_escape bytes escape h n e) = opened bytes (92 ∷ escape) h n (omega (arith, e))
ending text at (more_follows bytes more h n e) = opened bytes (34 ∷ more) h (none-closing more) e
ending text at (not_closed bytes h e) = opened bytes [] h none-nil (omega (arith, e))

one-ending : (text : List ℕ) (a b : ℕ) → Ending text a → Ending text b → a ≡ b
one-ending text a b (unopened n e) (unopened m f) = omega (arith, e, f)
one-ending text a b (unopened n e) (opened bytes rest h m f) = absurd (n h.0 h.1)
one-ending text a b (opened bytes rest h n e) (unopened m f) = absurd (m h.0 h.1)
one-ending text a b (opened bytes rest h n e) (opened others last k m f) = omega (arith, e, f, ap left_at_fault (same-reading text bytes others rest last n m h k).1)

pub one-place : (text : List ℕ) → OnePlace text
one-place text a b h k = one-ending text a b (ending text a h) (ending text b k)
