-- The reader of a text: what it holds behind some tokens.
use Rattle.std.specs.Prelude.{ℕ, Bool, true, false, List, [], ◌∷◌, ◌++◌, length, Option, Some, None}
use Rattle.nc_conf_lex.specs.declared.token.Token.{Token}
use Rattle.nc_conf_lex.specs.declared.token.Token.TheVariants as tokens
use Rattle.nc_conf.specs.declared.syntax.Word.{Word}
use Rattle.nc_conf.specs.declared.syntax.Directive.{Directive}
use Rattle.nc_conf.specs.declared.syntax.Close.{Close}
use Rattle.nc_conf.specs.declared.syntax.Begun.{Begun}
use Rattle.std.specs.List.{flat_map}
use Rattle.nc_conf.specs.declared.fault.Fault.{Fault}
use Rattle.nc_conf.specs.Syntax.{innermost}
use Rattle.nc_conf.specs.Faults.{each_directive, nameless, unended}

-- directives, ends of blocks, the open blocks, the innermost first, a directive that has begun, and the place of a sign that cannot stand
pub record SyntaxAt : Type 0 where
  pub directives : List Directive
  pub closes : List Close
  pub blocks : List ℕ
  pub begun : Option Begun
  pub broken : Option ℕ

abbrev pub empty : SyntaxAt
empty = record { directives = []; closes = []; blocks = []; begun = None; broken = None }

abbrev pub breaks_at : SyntaxAt → ℕ → SyntaxAt
breaks_at s at = record { directives = s.directives; closes = s.closes; blocks = s.blocks; begun = s.begun; broken = Some at }

abbrev pub begin : SyntaxAt → Option Begun → SyntaxAt
begin s begun = record { directives = s.directives; closes = s.closes; blocks = s.blocks; begun = begun; broken = s.broken }

abbrev pub after_word : SyntaxAt → Word → Option Begun → SyntaxAt
after_word s w None = begin s (Some (record { name = w; args = [] }))
after_word s w (Some b) = begin s (Some (record { name = b.name; args = b.args ++ w ∷ [] }))

abbrev pub directive : SyntaxAt → Begun → ℕ → Bool → Directive
directive s b at block = record { name = b.name; args = b.args; end = at; block = block; within = innermost s.blocks }

abbrev pub add : SyntaxAt → Directive → List ℕ → SyntaxAt
add s d blocks = record { directives = s.directives ++ d ∷ []; closes = s.closes; blocks = blocks; begun = None; broken = s.broken }

abbrev pub after_line : SyntaxAt → ℕ → Option Begun → SyntaxAt
after_line s at None = breaks_at s at
after_line s at (Some b) = add s (directive s b at false) s.blocks

abbrev pub after_opening : SyntaxAt → ℕ → Option Begun → SyntaxAt
after_opening s at None = breaks_at s at
after_opening s at (Some b) = add s (directive s b at true) (length s.directives ∷ s.blocks)

abbrev pub close : SyntaxAt → ℕ → List ℕ → SyntaxAt
close s at [] = breaks_at s at
close s at (block ∷ blocks) =
    record { directives = s.directives; closes = s.closes ++ record { of = block; at = at } ∷ []; blocks = blocks; begun = s.begun; broken = s.broken }

abbrev pub after_closing : SyntaxAt → ℕ → Option Begun → SyntaxAt
after_closing s at None = close s at s.blocks
after_closing s at (Some b) = breaks_at s at

abbrev pub after_token : SyntaxAt → Token → SyntaxAt
after_token s (tokens.Word at text) = after_word s (record { at = at; text = text }) s.begun
after_token s (tokens.End at) = after_line s at s.begun
after_token s (tokens.Opening at) = after_opening s at s.begun
after_token s (tokens.Closing at) = after_closing s at s.begun

abbrev pub unless_broken : SyntaxAt → Token → Option ℕ → SyntaxAt
unless_broken s t None = after_token s t
unless_broken s t (Some p) = s

-- what the reader holds behind one token more
abbrev pub after : SyntaxAt → Token → SyntaxAt
after s t = unless_broken s t s.broken

abbrev pub words_of : Option Begun → List Word
words_of None = []
words_of (Some b) = b.name ∷ b.args

-- all faults of a text of some bytes, by what the reader holds at its end
abbrev pub all_faults : ℕ → SyntaxAt → Option ℕ → List Fault
all_faults len s bad =
    each_directive s.directives [] s.directives ++ flat_map (nameless s.directives) s.closes ++ unended len s.blocks (words_of s.begun) s.broken bad
