-- Numbers in decimal are read back, and what is read is in decimal.
use Rattle.std.proofs.Common.{ℕ, ◌<◌, List, [], ◌∷◌, length, get_or, arith, ◌≡◌, ◌∙◌, ap, sym}
use Rattle.std.specs.Fmt.{decimal}
use Rattle.std.specs.Str.Parse.{AllDigits, digits_value}
use Rattle.std.proofs.lemmas.Fmt.{decimal_nonempty, length-decimal-le, digits_value-decimal, decimal-digits_value, digits_decimal}
use Rattle.std.proofs.lemmas.Str.Parse.{IsNumeralModel, numerals_by_value, tells_digits}
use Rattle.nc_types.specs.Text.{DecimalIsRead, HasNoZeroBefore, ReadIsDecimal}

model : IsNumeralModel (AllDigits 10) (digits_value 10)
model = numerals_by_value (AllDigits 10) tells_digits

-- a text of one byte, where that byte is a zero
alone : (text : List ℕ) → HasNoZeroBefore text → get_or text 0 0 ≡ 48 → 0 < length text → length text ≡ 1
alone [] h e some = absurd (omega (arith, some))
alone (c ∷ text) h e some = omega (arith, ap length (h text (ap (λ (d : ℕ). d ∷ text) e)))

pub read-is-decimal : (text : List ℕ) (n : ℕ) → ReadIsDecimal text n
read-is-decimal text n lt is none =
    sym (decimal-digits_value model text is.digits is.some (λ e. alone text none e is.some) (omega (arith, lt, is.value))) ∙ ap decimal (sym is.value)

pub decimal-is-read : (n : ℕ) → DecimalIsRead n
decimal-is-read n lt = record {
  some = decimal_nonempty n lt;
  short = length-decimal-le 20 n (omega arith) (omega (arith, lt)) lt;
  digits = digits_decimal model n lt;
  value = sym (digits_value-decimal model n lt);
}
