-- A text as its tokens, one after the other, with their places.
use Rattle.std.specs.Prelude.{◌≡◌, ℕ, ◌+◌, true, List, [], ◌∷◌, ◌++◌, length, drop, Option, Some, None, Result, Ok, Err}
use Rattle.std.specs.List.{list_all, AllByRecursion}
use Rattle.nc_conf_lex.specs.declared.token.Token.{Token}
use Rattle.nc_conf_lex.specs.declared.token.LexFault.{LexFault}
use Rattle.nc_conf_lex.specs.declared.token.LexFault.TheVariants.{Bad, NoMemory}
use Rattle.nc_conf_lex.specs.Spelling.{Filler, IsFiller, fillers_text, in_line, Spelling, IsSpelling, spelling_text, token_of, IsFlaw}

-- a text, and the place up to which it was read
pub record LexerAt : Type 0 where
  pub text : List ℕ
  pub at : ℕ

-- from a place on a text is fillers, a spelling of the token, and what follows from the next place on
pub record IsTokenAt (text : List ℕ) (at : ℕ) (token : Token) (next : ℕ) : Type 0 where
  pub fillers : List Filler
  pub spelling : Spelling
  pub after : List ℕ
  pub are : AllByRecursion IsFiller fillers
  pub split : drop at text ≡ fillers_text fillers ++ (spelling_text spelling ++ after)
  pub spelled : IsSpelling spelling after
  pub is : token ≡ token_of (at + length (fillers_text fillers)) spelling
  pub behind : next ≡ at + length (fillers_text fillers) + length (spelling_text spelling)

-- the last line's comment, which the end of the text ends, or nothing
abbrev pub IsLastComment : List ℕ → Type 0
IsLastComment [] = Unit {0}
IsLastComment (b ∷ line) = (b ≡ 35) × (list_all in_line line ≡ true)

-- from a place on a text is fillers alone
pub record IsEndAt (text : List ℕ) (at : ℕ) : Type 0 where
  pub fillers : List Filler
  pub last : List ℕ
  pub are : AllByRecursion IsFiller fillers
  pub comment : IsLastComment last
  pub split : drop at text ≡ fillers_text fillers ++ last

-- from a place on a text is fillers, and then what no token begins, because of the byte at the place `bad`
pub record IsFaultAt (text : List ℕ) (at bad : ℕ) : Type 0 where
  pub fillers : List Filler
  pub rest : List ℕ
  pub count : ℕ
  pub are : AllByRecursion IsFiller fillers
  pub split : drop at text ≡ fillers_text fillers ++ rest
  pub flaw : IsFlaw rest count
  pub place : bad ≡ at + length (fillers_text fillers) + count

-- what comes next in a text: a token and the place behind it, nothing more, or a fault at a place
pub data Next : Type 0 where
  Holds : Token → ℕ → Next
  Ends : Next
  Breaks : ℕ → Next

abbrev pub Comes : List ℕ → ℕ → Next → Type 0
Comes text at (Holds token next) = IsTokenAt text at token next
Comes text at Ends = IsEndAt text at
Comes text at (Breaks bad) = IsFaultAt text at bad

-- what a lexer answered between two places is this; only a token moves it
abbrev pub Answers : Result (Option Token) LexFault → ℕ → ℕ → Next → Type 0
Answers (Ok (Some token)) old new next = next ≡ Holds token new
Answers (Ok None) old new next = (next ≡ Ends) × (new ≡ old)
Answers (Err (Bad at)) old new next = (next ≡ Breaks at) × (new ≡ old)
Answers (Err NoMemory) old new next = new ≡ old

-- what a lexer answered comes there
abbrev pub IsTold : List ℕ → ℕ → ℕ → Result (Option Token) LexFault → Type 0
IsTold text old new (Ok (Some token)) = Comes text old (Holds token new)
IsTold text old new (Ok None) = Comes text old Ends
IsTold text old new (Err (Bad at)) = Comes text old (Breaks at)
IsTold text old new (Err NoMemory) = Unit {0}

-- from a place on a text has these tokens, and then ends, or has its first fault at a place
abbrev pub Reads : List ℕ → ℕ → List Token → Option ℕ → Type 0
Reads text at [] None = Comes text at Ends
Reads text at [] (Some bad) = Comes text at (Breaks bad)
Reads text at (token ∷ tokens) stop = (next : ℕ) × Comes text at (Holds token next) × Reads text next tokens stop

-- at each place one thing comes next, and one alone
abbrev pub OneComes : Type 0
OneComes = (text : List ℕ) (at : ℕ) → (next : Next) × Comes text at next × ((other : Next) → Comes text at other → other ≡ next)

-- a text has one list of tokens, and one end or first fault
abbrev pub OneReading : Type 0
OneReading = (text : List ℕ) (at : ℕ) (tokens others : List Token) (stop other : Option ℕ) → Reads text at tokens stop
    → Reads text at others other → (tokens ≡ others) × (stop ≡ other)
