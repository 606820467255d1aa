-- How the tokens of a text are spelled, what stands between them, and how a text can break this.
use Rattle.std.specs.Prelude.{◌≡◌, ℕ, ◌+◌, Bool, true, false, not, List, [], ◌∷◌, ◌++◌, length, map, ◌==◌, ◌&&◌, ◌||◌, ◌⊎◌}
use Rattle.std.specs.List.{flat_map, list_all}
use Rattle.nc_conf_lex.specs.declared.token.Token.{Token}
use Rattle.nc_conf_lex.specs.declared.token.Token.TheVariants.{Word, Opening, Closing, End}
use Rattle.nc_conf_lex.specs.Byte.{is_blank, ends_word, goes_on, is_refused, is_allowed, is_quote, may_follow}

-- what may stand between tokens: a blank, or a comment, here without its `#` and the end of its line
pub data Filler : Type 0 where
  Blank : ℕ → Filler
  Comment : List ℕ → Filler

abbrev pub filler_text : Filler → List ℕ
filler_text (Blank b) = b ∷ []
filler_text (Comment line) = 35 ∷ (line ++ 10 ∷ [])

-- a byte that does not end its line
abbrev pub in_line : ℕ → Bool
in_line b = not (b == 10)

abbrev pub IsFiller : Filler → Type 0
IsFiller (Blank b) = is_blank b ≡ true
IsFiller (Comment line) = list_all in_line line ≡ true

abbrev pub fillers_text : List Filler → List ℕ
fillers_text fillers = flat_map filler_text fillers

-- a byte between quotation signs: itself, or behind a backslash
pub data Piece : Type 0 where
  Itself : ℕ → Piece
  Escaped : ℕ → Piece

abbrev pub piece_text : Piece → List ℕ
piece_text (Itself b) = b ∷ []
piece_text (Escaped b) = 92 ∷ b ∷ []

-- the byte that a piece stands for
abbrev pub piece_byte : Piece → ℕ
piece_byte (Itself b) = b
piece_byte (Escaped b) = b

abbrev pub pieces_text : List Piece → List ℕ
pieces_text pieces = flat_map piece_text pieces

-- a backslash escapes the sign of its word and a backslash
abbrev pub can_escape : ℕ → ℕ → Bool
can_escape sign b = (b == sign) || (b == 92)

-- what stands behind a backslash that stands for itself: a byte that it cannot escape
abbrev pub IsLone : List Piece → Type 0
IsLone [] = ⊥
IsLone (Escaped b ∷ pieces) = ⊥
IsLone (Itself b ∷ pieces) = (b == 92) ≡ false

-- the bytes of a word between two of its signs
abbrev pub ArePieces : ℕ → List Piece → Type 0
ArePieces sign [] = Unit {0}
ArePieces sign (Escaped b ∷ pieces) = (can_escape sign b ≡ true) × ArePieces sign pieces
ArePieces sign (Itself b ∷ pieces) = ((b == sign) ≡ false) × ((b == 92) ≡ true → IsLone pieces) × ArePieces sign pieces

-- how a token is spelled
pub data Spelling : Type 0 where
  Plain : List ℕ → Spelling
  Quoted : ℕ → List Piece → Spelling
  Semicolon : Spelling
  OpeningBrace : Spelling
  ClosingBrace : Spelling

abbrev pub spelling_text : Spelling → List ℕ
spelling_text (Plain word) = word
spelling_text (Quoted sign pieces) = sign ∷ (pieces_text pieces ++ sign ∷ [])
spelling_text Semicolon = 59 ∷ []
spelling_text OpeningBrace = 123 ∷ []
spelling_text ClosingBrace = 125 ∷ []

-- the token that a spelling gives at a place
abbrev pub token_of : ℕ → Spelling → Token
token_of at (Plain word) = Word at word
token_of at (Quoted sign pieces) = Word at (map piece_byte pieces)
token_of at Semicolon = End at
token_of at OpeningBrace = Opening at
token_of at ClosingBrace = Closing at

-- a byte of a plain word, where quotation signs and `#` are plain
abbrev pub is_plain : ℕ → Bool
is_plain b = goes_on b && is_allowed b

-- the first byte of a plain word
abbrev pub begins_plain : ℕ → Bool
begins_plain b = is_plain b && not (b == 35) && not (is_quote b)

-- a plain word up to some byte of it
abbrev pub IsPlainFront : List ℕ → Type 0
IsPlainFront [] = Unit {0}
IsPlainFront (b ∷ bs) = (begins_plain b ≡ true) × (list_all is_plain bs ≡ true)

-- a word of at least one byte
abbrev pub IsPlain : List ℕ → Type 0
IsPlain [] = ⊥
IsPlain (b ∷ bs) = IsPlainFront (b ∷ bs)

-- a spelling as it may stand before what follows
abbrev pub IsSpelling : Spelling → List ℕ → Type 0
IsSpelling (Plain word) after = IsPlain word × (may_follow after ≡ true)
IsSpelling (Quoted sign pieces) after =
    (is_quote sign ≡ true) × ArePieces sign pieces × (list_all is_allowed (pieces_text pieces) ≡ true) × (may_follow after ≡ true)
IsSpelling Semicolon after = Unit {0}
IsSpelling OpeningBrace after = Unit {0}
IsSpelling ClosingBrace after = Unit {0}

-- a plain word with a refused byte, n bytes behind the text's first
pub record IsRefusedInPlain (text : List ℕ) (n : ℕ) : Type 0 where
  pub word : List ℕ
  pub byte : ℕ
  pub after : List ℕ
  pub split : text ≡ word ++ byte ∷ after
  pub front : IsPlainFront word
  pub refused : is_refused byte ≡ true
  pub place : n ≡ length word

-- a quoted word that is not closed, whatever its pieces are; it stands at its opening sign
pub record IsOpen (text : List ℕ) (n : ℕ) : Type 0 where
  pub sign : ℕ
  pub inside : List ℕ
  pub split : text ≡ sign ∷ inside
  pub quote : is_quote sign ≡ true
  pub unclosed : (pieces : List Piece) (after : List ℕ) → ArePieces sign pieces → inside ≡ pieces_text pieces ++ sign ∷ after → ⊥
  pub place : n ≡ 0

-- a quoted word that is closed, with a refused byte inside
pub record IsRefusedInQuoted (text : List ℕ) (n : ℕ) : Type 0 where
  pub sign : ℕ
  pub pieces : List Piece
  pub after : List ℕ
  pub split : text ≡ spelling_text (Quoted sign pieces) ++ after
  pub quote : is_quote sign ≡ true
  pub are : ArePieces sign pieces
  pub before : List ℕ
  pub byte : ℕ
  pub later : List ℕ
  pub inside : pieces_text pieces ≡ before ++ byte ∷ later
  pub allowed : list_all is_allowed before ≡ true
  pub refused : is_refused byte ≡ true
  pub place : n ≡ 1 + length before

-- a quoted word that is closed, and behind it a byte that ends no word
pub record IsBadlyFollowed (text : List ℕ) (n : ℕ) : Type 0 where
  pub sign : ℕ
  pub pieces : List Piece
  pub byte : ℕ
  pub after : List ℕ
  pub split : text ≡ spelling_text (Quoted sign pieces) ++ byte ∷ after
  pub quote : is_quote sign ≡ true
  pub are : ArePieces sign pieces
  pub allowed : list_all is_allowed (pieces_text pieces) ≡ true
  pub follows : ends_word byte ≡ false
  pub place : n ≡ length (spelling_text (Quoted sign pieces))

-- no token begins a text, because of the byte that stands n bytes behind its first
abbrev pub IsFlaw : List ℕ → ℕ → Type 0
IsFlaw text n = IsRefusedInPlain text n ⊎ IsOpen text n ⊎ IsRefusedInQuoted text n ⊎ IsBadlyFollowed text n
