-- Reading bytes between quotation marks, as `quote` writes them.
use Rattle.std.specs.Prelude.{◌≡◌, ℕ, ◌+◌, ◌*◌, ◌-◌, ◌<◌, Bool, List, [], ◌∷◌, ◌++◌, nat_le, nat_lt, not, ◌&&◌, ◌||◌, ◌==◌, if◌then◌else◌}
use Rattle.std.specs.List.{AllByRecursion}
use Rattle.nc_types.specs.Text.{quoted}
use Rattle.nc_grammar.specs.Reading.{Read, Found, Stuck}

-- each is below 256
abbrev pub AreBytes : List ℕ → Type 0
AreBytes text = AllByRecursion (λ b. b < 256) text

-- the quoted text of some bytes
pub record IsQuoted (text u : List ℕ) : Type 0 where
  pub bytes : AreBytes text
  pub spelled : u ≡ quoted text

-- the value of a digit of base 16 in lower case, or 16
abbrev pub hex_value : ℕ → ℕ
hex_value c = if nat_le 48 c && nat_le c 57 then c - 48 else (if nat_le 97 c && nat_le c 102 then c - 87 else 16)

-- a byte that is written by one letter behind the backslash
abbrev pub is_short : ℕ → Bool
is_short b = (b == 34) || ((b == 92) || ((b == 10) || (b == 13)))

-- a byte that is written as it is
abbrev pub is_plain : ℕ → Bool
is_plain b = not (is_short b) && (nat_le 32 b && nat_le b 126)

-- how many plain bytes stand in front
abbrev pub plain_run : List ℕ → ℕ
plain_run [] = 0
plain_run (c ∷ r) = if is_plain c then plain_run r + 1 else 0

-- a byte that is written by two digits
abbrev pub is_coded : ℕ → Bool
is_coded b = not (is_short b) && not (nat_le 32 b && nat_le b 126)

-- the byte that a letter behind the backslash stands for, or 256
abbrev pub escape_of : ℕ → ℕ
escape_of c = if c == 34 then 34 else (if c == 92 then 92 else (if c == 110 then 10 else (if c == 114 then 13 else 256)))

-- some byte is written by two digits of which this is the first
abbrev pub first_fits : ℕ → Bool
first_fits c = nat_lt (hex_value c) 2 || (nat_le 7 (hex_value c) && nat_lt (hex_value c) 16)

-- the byte that two digits write
abbrev pub coded_by : ℕ → ℕ → ℕ
coded_by h c = hex_value h * 16 + hex_value c

-- two digits write a byte that is written so
abbrev pub second_fits : ℕ → ℕ → Bool
second_fits h c = nat_lt (hex_value c) 16 && is_coded (coded_by h c)

-- where a reader stands: between bytes, behind a backslash, behind `\x`, behind the first digit
pub data Mode : Type 0 where
  Plain : Mode
  Slash : Mode
  Hex : Mode
  Digit : ℕ → Mode

-- reads on behind the bytes read so far
abbrev pub quote_at : List ℕ → Mode → List ℕ → Read (List ℕ)
quote_at text mode [] = Stuck []
quote_at text Plain (c ∷ r) =
    if c == 34 then Found text r else (if c == 92 then quote_at text Slash r else (if is_plain c then quote_at (text ++ c ∷ []) Plain r else Stuck (c ∷ r)))
quote_at text Slash (c ∷ r) =
    if c == 120 then quote_at text Hex r else (if nat_lt (escape_of c) 256 then quote_at (text ++ escape_of c ∷ []) Plain r else Stuck (c ∷ r))
quote_at text Hex (c ∷ r) = if first_fits c then quote_at text (Digit c) r else Stuck (c ∷ r)
quote_at text (Digit h) (c ∷ r) = if second_fits h c then quote_at (text ++ coded_by h c ∷ []) Plain r else Stuck (c ∷ r)

-- reads a quoted text from its opening sign
abbrev pub quoted_at : List ℕ → Read (List ℕ)
quoted_at [] = Stuck []
quoted_at (c ∷ r) = if c == 34 then quote_at [] Plain r else Stuck (c ∷ r)
