-- What the lexer's parts compute from the bytes before them.
use Rattle.std.specs.Prelude.{◌≡◌, ℕ, ◌+◌, Bool, true, false, not, List, [], ◌∷◌, length, take, drop, if◌then◌else◌, ◌==◌, ◌&&◌, Option, Some, None, position, Result, Ok, Err}
use Rattle.std.specs.List.{take_while}
use Rattle.std.specs.Option.{option_map}
use Rattle.nc_conf_lex.specs.declared.token.Token.{Token}
use Rattle.nc_conf_lex.specs.declared.token.Token.TheVariants.{Word, Opening, Closing, End}
use Rattle.nc_conf_lex.specs.declared.token.LexFault.{LexFault}
use Rattle.nc_conf_lex.specs.declared.token.LexFault.TheVariants.{Bad, NoMemory}
use Rattle.nc_conf_lex.specs.Byte.{is_blank, goes_on, is_refused, is_quote, may_follow}
use Rattle.nc_conf_lex.specs.Spelling.{can_escape}
use Rattle.nc_conf_lex.specs.Reading.{Next, Holds, Ends, Breaks}

-- how many bytes are blanks and comments, where a comment has begun or not
abbrev pub gap_len : Bool → List ℕ → ℕ
gap_len comment [] = 0
gap_len true (b ∷ bs) = 1 + gap_len (not (b == 10)) bs
gap_len false (b ∷ bs) = if b == 35 then 1 + gap_len true bs else (if is_blank b then 1 + gap_len false bs else 0)

abbrev pub next_place : ℕ → ℕ
next_place n = n + 1

-- the place of the sign that closes a quoted word, where a backslash stands before the bytes or not
abbrev pub closing : ℕ → Bool → List ℕ → Option ℕ
closing sign escaped [] = None
closing sign escaped (b ∷ bs) =
    if escaped && can_escape sign b then option_map next_place (closing sign false bs)
    else (if b == sign then Some 0
    else option_map next_place (closing sign (b == 92) bs))

abbrev pub is_backslash : ℕ → Bool
is_backslash b = b == 92

-- what the inside of a quoted word stands for, where a backslash stands before the bytes or not
abbrev pub unescape : ℕ → Bool → List ℕ → List ℕ
unescape sign true [] = 92 ∷ []
unescape sign false [] = []
unescape sign true (b ∷ bs) = if can_escape sign b then b ∷ unescape sign false bs else 92 ∷ b ∷ unescape sign false bs
unescape sign false (b ∷ bs) = if b == 92 then unescape sign true bs else b ∷ unescape sign false bs

-- a fault at the refused byte of a text at a place, else this
abbrev pub unless_refused : ℕ → Option ℕ → Next → Next
unless_refused at None next = next
unless_refused at (Some i) next = Breaks (at + i)

-- a plain word at a place
abbrev pub plain_at : ℕ → List ℕ → Next
plain_at at rest = let word = take_while goes_on rest in unless_refused at (position is_refused word) (Holds (Word at word) (at + length word))

-- a quoted word at a place, from the bytes behind its opening sign and the place of the closing one there
abbrev pub closed_at : ℕ → ℕ → List ℕ → Option ℕ → Next
closed_at at sign bytes None = Breaks at
closed_at at sign bytes (Some n) =
    let inside = take n bytes in
    unless_refused (at + 1) (position is_refused inside) (if may_follow (drop (n + 1) bytes)
    then Holds (Word at (unescape sign false inside)) (at + 2 + n) else Breaks (at + 2 + n))

abbrev pub quoted_at : ℕ → ℕ → List ℕ → Next
quoted_at at sign bytes = closed_at at sign bytes (closing sign false bytes)

-- what begins at a place, from the text there
abbrev pub token_at : ℕ → List ℕ → Next
token_at at [] = Ends
token_at at (b ∷ bs) =
    if b == 59 then Holds (End at) (at + 1)
    else (if b == 123 then Holds (Opening at) (at + 1)
    else (if b == 125 then Holds (Closing at) (at + 1)
    else (if is_quote b then quoted_at at b bs
    else plain_at at (b ∷ bs))))

-- what comes next from a place of a text on
abbrev pub next_at : List ℕ → ℕ → Next
next_at text at = let gap = gap_len false (drop at text) in token_at (at + gap) (drop (at + gap) text)

-- what the reader of one word answers
abbrev pub Gives : Result (Token × ℕ) LexFault → Next → Type 0
Gives (Ok word) next = next ≡ Holds word.0 word.1
Gives (Err (Bad at)) next = next ≡ Breaks at
Gives (Err NoMemory) next = Unit {0}
