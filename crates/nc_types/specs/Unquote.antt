-- What a quoted text stands for, and where a text stops being one.
use Rattle.std.specs.Prelude.{◌≡◌, ◌≢◌, ◌⊎◌, ℕ, ◌+◌, ◌<◌, List, [], ◌∷◌, length, if◌then◌else◌, ◌==◌}
use Rattle.std.specs.List.{AllByRecursion}
use Rattle.std.specs.Str.Parse.{AllDigits, digits_value}
use Rattle.nc_types.specs.Text.{quoted}
use Rattle.nc_types.specs.declared.unquote.UnquoteFault.{UnquoteFault}
use Rattle.nc_types.specs.declared.unquote.UnquoteFault.TheVariants as faults

-- a letter behind a backslash, and the byte that it stands for: `"` and `\` themselves, `n` LF, `r` CR, `t` TAB
abbrev pub IsLetterOf : ℕ → ℕ → Type 0
IsLetterOf byte c = ((c ≡ 34) × (byte ≡ 34)) ⊎ (((c ≡ 92) × (byte ≡ 92))
    ⊎ (((c ≡ 110) × (byte ≡ 10)) ⊎ (((c ≡ 114) × (byte ≡ 13)) ⊎ ((c ≡ 116) × (byte ≡ 9)))))

-- a text begins with a piece that stands for the byte, and the rest stands behind the piece:
-- the byte itself, a backslash and a letter, or a backslash, `x` and two digits of base 16 in either case
pub data IsNext (text : List ℕ) (byte : ℕ) (rest : List ℕ) : Type 0 where
  itself : byte ≢ 34 → byte ≢ 92 → text ≡ byte ∷ rest → IsNext text byte rest
  letter : (c : ℕ) → IsLetterOf byte c → text ≡ 92 ∷ c ∷ rest → IsNext text byte rest
  digits : (high low : ℕ) → AllDigits 16 (high ∷ low ∷ []) → byte ≡ digits_value 16 (high ∷ low ∷ [])
      → text ≡ 92 ∷ 120 ∷ high ∷ low ∷ rest → IsNext text byte rest

-- no piece begins a text
abbrev pub BeginsNoPiece : List ℕ → Type 0
BeginsNoPiece text = (byte : ℕ) (rest : List ℕ) → IsNext text byte rest → ⊥

-- a text is whole pieces that stand for the bytes, one by one, and then the rest
abbrev pub Spells : List ℕ → List ℕ → List ℕ → Type 0
Spells text [] rest = text ≡ rest
Spells text (byte ∷ bytes) rest = (behind : List ℕ) × IsNext text byte behind × Spells behind bytes rest

-- a text is an opening sign, whole pieces that stand for the bytes, and then the rest
abbrev pub ReadsTo : List ℕ → List ℕ → List ℕ → Type 0
ReadsTo text bytes rest = (pieces : List ℕ) × (text ≡ 34 ∷ pieces) × Spells pieces bytes rest

-- a text is a quoted text that stands for the bytes: the rest is the closing sign
abbrev pub IsQuoted : List ℕ → List ℕ → Type 0
IsQuoted text bytes = ReadsTo text bytes (34 ∷ [])

-- the place at which the last part of a text begins
abbrev pub IsPlaceOf : List ℕ → ℕ → List ℕ → Type 0
IsPlaceOf text at rest = at + length rest ≡ length text

-- the place at which a text stops being a quoted text: its first byte where that is no opening sign, the backslash of an escape that is none,
-- what follows the closing sign, or the text's end
pub data IsFaultAt (text : List ℕ) (at : ℕ) : Type 0 where
  not_opened : ((rest : List ℕ) → text ≢ 34 ∷ rest) → at ≡ 0 → IsFaultAt text at
  bad_escape : (bytes escape : List ℕ) → ReadsTo text bytes (92 ∷ escape) → BeginsNoPiece (92 ∷ escape)
      → IsPlaceOf text at (92 ∷ escape) → IsFaultAt text at
  more_follows : (bytes more : List ℕ) → ReadsTo text bytes (34 ∷ more) → more ≢ [] → IsPlaceOf text at more → IsFaultAt text at
  not_closed : (bytes : List ℕ) → ReadsTo text bytes [] → at ≡ length text → IsFaultAt text at

-- how many bytes are left at the place of a fault, of the rest of a text that no piece begins
abbrev pub left_at_fault : List ℕ → ℕ
left_at_fault [] = 0
left_at_fault (c ∷ behind) = if c == 34 then length behind else length behind + 1

-- a text is no quoted text, and the place at which it stops being one
pub record IsUnquotable (text : List ℕ) (at : ℕ) : Type 0 where
  pub none : (bytes : List ℕ) → IsQuoted text bytes → ⊥
  pub place : IsFaultAt text at

-- what a fault says of a text
abbrev pub IsFaultOf : List ℕ → UnquoteFault → Type 0
IsFaultOf text (faults.Bad at) = IsUnquotable text at
IsFaultOf text faults.NoMemory = Unit {0}

-- what is written of bytes is a quoted text that stands for them
abbrev pub QuoteIsRead : List ℕ → Type 0
QuoteIsRead bytes = AllByRecursion (λ b. b < 256) bytes → IsQuoted (quoted bytes) bytes

-- a text is quoted for one list of bytes at most
abbrev pub OneMeaning : List ℕ → Type 0
OneMeaning text = (a b : List ℕ) → IsQuoted text a → IsQuoted text b → a ≡ b

-- a text stops being a quoted text at one place at most
abbrev pub OnePlace : List ℕ → Type 0
OnePlace text = (a b : ℕ) → IsFaultAt text a → IsFaultAt text b → a ≡ b
