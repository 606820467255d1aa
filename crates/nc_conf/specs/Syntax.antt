-- The grammar: a text's tokens as directives and the ends of their blocks.
use Rattle.std.specs.Prelude.{◌≡◌, ℕ, ◌+◌, ◌-◌, ◌<◌, true, false, List, [], ◌∷◌, ◌++◌, map, drop, Option, Some, None}
use Rattle.std.specs.List.{flat_map}
use Rattle.nc_conf_lex.specs.declared.token.Token.{Token}
use Rattle.nc_conf_lex.specs.declared.token.Token.TheVariants as tokens
use Rattle.nc_conf.specs.declared.syntax.Word.{Word}
use Rattle.nc_conf.specs.declared.syntax.Directive.{Directive}
use Rattle.nc_conf.specs.declared.syntax.Close.{Close}

-- a directive, by its name, its arguments and the place of its `;` or of the `{` of its block; or the `}` of a block
pub data Item : Type 0 where
  Line : Word → List Word → ℕ → Item
  Opens : Word → List Word → ℕ → Item
  Closes : ℕ → Item

abbrev pub word_token : Word → Token
word_token w = tokens.Word w.at w.text

abbrev pub words_tokens : List Word → List Token
words_tokens words = map word_token words

abbrev pub item_tokens : Item → List Token
item_tokens (Line name args at) = word_token name ∷ (words_tokens args ++ tokens.End at ∷ [])
item_tokens (Opens name args at) = word_token name ∷ (words_tokens args ++ tokens.Opening at ∷ [])
item_tokens (Closes at) = tokens.Closing at ∷ []

-- each `}` closes a block, where this many are open before
abbrev pub AreNested : ℕ → List Item → Type 0
AreNested depth [] = Unit {0}
AreNested depth (Line name args at ∷ items) = AreNested depth items
AreNested depth (Opens name args at ∷ items) = AreNested (depth + 1) items
AreNested depth (Closes at ∷ items) = (0 < depth) × AreNested (depth - 1) items

-- the numbers of the blocks that are open behind items, the innermost first; n directives and some open blocks stand before
abbrev pub open_behind : ℕ → List ℕ → List Item → List ℕ
open_behind n blocks [] = blocks
open_behind n blocks (Line name args at ∷ items) = open_behind (n + 1) blocks items
open_behind n blocks (Opens name args at ∷ items) = open_behind (n + 1) (n ∷ blocks) items
open_behind n blocks (Closes at ∷ items) = open_behind n (drop 1 blocks) items

abbrev pub innermost : List ℕ → Option ℕ
innermost [] = None
innermost (block ∷ blocks) = Some block

-- the directives of items, each with the number of the innermost block that is open there
abbrev pub directives_of : ℕ → List ℕ → List Item → List Directive
directives_of n blocks [] = []
directives_of n blocks (Line name args at ∷ items) =
    record { name = name; args = args; end = at; block = false; within = innermost blocks } ∷ directives_of (n + 1) blocks items
directives_of n blocks (Opens name args at ∷ items) =
    record { name = name; args = args; end = at; block = true; within = innermost blocks } ∷ directives_of (n + 1) (n ∷ blocks) items
directives_of n blocks (Closes at ∷ items) = directives_of n (drop 1 blocks) items

-- the ends of blocks, each with the number of its block
abbrev pub closes_of : ℕ → List ℕ → List Item → List Close
closes_of n blocks [] = []
closes_of n blocks (Line name args at ∷ items) = closes_of (n + 1) blocks items
closes_of n blocks (Opens name args at ∷ items) = closes_of (n + 1) (n ∷ blocks) items
closes_of n [] (Closes at ∷ items) = closes_of n [] items
closes_of n (block ∷ blocks) (Closes at ∷ items) = record { of = block; at = at } ∷ closes_of n blocks items

-- a sign that cannot stand behind the words of a directive that isn't ended, nor behind none, where some blocks are open
abbrev pub IsMisplaced : List ℕ → List Word → Token → ℕ → Type 0
IsMisplaced blocks words (tokens.Word at text) p = ⊥
IsMisplaced blocks [] (tokens.End at) p = p ≡ at
IsMisplaced blocks [] (tokens.Opening at) p = p ≡ at
IsMisplaced [] [] (tokens.Closing at) p = p ≡ at
IsMisplaced (block ∷ blocks) [] (tokens.Closing at) p = ⊥
IsMisplaced blocks (w ∷ words) (tokens.End at) p = ⊥
IsMisplaced blocks (w ∷ words) (tokens.Opening at) p = ⊥
IsMisplaced blocks (w ∷ words) (tokens.Closing at) p = p ≡ at

-- the grammar goes on to the last token, or up to a sign that cannot stand at its place
abbrev pub Stops : List ℕ → List Word → List Token → Option ℕ → Type 0
Stops blocks words [] None = Unit {0}
Stops blocks words [] (Some p) = ⊥
Stops blocks words (t ∷ more) None = ⊥
Stops blocks words (t ∷ more) (Some p) = IsMisplaced blocks words t p

-- tokens are items, the words of a directive that isn't ended, and what the grammar does not reach
pub record IsSyntax (tokens : List Token) (items : List Item) (words : List Word) (broken : Option ℕ) : Type 0 where
  pub more : List Token
  pub split : tokens ≡ flat_map item_tokens items ++ (words_tokens words ++ more)
  pub nested : AreNested 0 items
  pub stops : Stops (open_behind 0 [] items) words more broken
