-- Texts: what stands behind another, numbers in decimal, and bytes between quotation marks.
use Rattle.std.specs.Prelude.{◌≡◌, ◌<◌, ◌≤◌, length, ℕ, ◌+◌, ◌/◌, ◌%◌, List, [], ◌∷◌, ◌++◌, Bool, false, if◌then◌else◌, ◌==◌, ◌&&◌, nat_le, nat_lt, ◌^◌}
use Rattle.std.specs.List.{flat_map}
use Rattle.std.specs.Fmt.{decimal}
use Rattle.std.specs.Str.Parse.{AllDigits, digits_value}

-- a text is an older one with more behind it, or that one itself
abbrev pub IsBehind : List ℕ → List ℕ → Type 0
IsBehind older text = (more : List ℕ) × (text ≡ older ++ more)

-- a text begins with a slash
abbrev pub begins_slash : List ℕ → Bool
begins_slash [] = false
begins_slash (byte ∷ bytes) = byte == 47

-- a text is 1 to 20 decimal digits of this value, which may pass 2^64
pub record IsDecimal (text : List ℕ) (n : ℕ) : Type 0 where
  pub some : 0 < length text
  pub short : length text ≤ 20
  pub digits : AllDigits 10 text
  pub value : n ≡ digits_value 10 text

-- a number in decimal is read as that number
abbrev pub DecimalIsRead : ℕ → Type 0
DecimalIsRead n = n < 2 ^ 64 → IsDecimal (decimal n) n

-- a text has no zero before its other digits
abbrev pub HasNoZeroBefore : List ℕ → Type 0
HasNoZeroBefore text = (rest : List ℕ) → text ≡ 48 ∷ rest → rest ≡ []

-- a text without zeros before its other digits that is read as a number is that number in decimal
abbrev pub ReadIsDecimal : List ℕ → ℕ → Type 0
ReadIsDecimal text n = n < 2 ^ 64 → IsDecimal text n → HasNoZeroBefore text → text ≡ decimal n

-- a digit of base 16, with lower-case letters
abbrev pub hex_digit : ℕ → ℕ
hex_digit n = if nat_lt n 10 then 48 + n else 87 + n

-- a byte: `"`, `\`, LF and CR have escapes of their own, what isn't printable has `\x` and two digits
abbrev pub quoted_byte : ℕ → List ℕ
quoted_byte b =
    if b == 34 then 92 ∷ 34 ∷ []
    else (if b == 92 then 92 ∷ 92 ∷ []
    else (if b == 10 then 92 ∷ 110 ∷ []
    else (if b == 13 then 92 ∷ 114 ∷ []
    else (if nat_le 32 b && nat_le b 126 then b ∷ []
    else 92 ∷ 120 ∷ hex_digit (b / 16) ∷ hex_digit (b % 16) ∷ []))))

abbrev pub quoted : List ℕ → List ℕ
quoted bytes = 34 ∷ flat_map quoted_byte bytes ++ 34 ∷ []
