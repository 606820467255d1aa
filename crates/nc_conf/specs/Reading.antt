-- What reading a text answers: its configuration, or its first fault.
use Rattle.std.specs.Prelude.{◌≡◌, ◌<◌, ℕ, List, [], length, Option, Some, None, Result, Ok, Err}
use Rattle.nc_types.specs.Config.{ConfigAt}
use Rattle.nc_conf_lex.specs.declared.token.Token.{Token}
use Rattle.nc_conf_lex.specs.Reading.{Reads}
use Rattle.nc_conf.specs.declared.syntax.Word.{Word}
use Rattle.nc_conf.specs.declared.fault.Fault.{Fault}
use Rattle.nc_conf.specs.declared.read.ConfFault.{ConfFault}
use Rattle.nc_conf.specs.declared.read.ConfFault.TheVariants.{Rule, NoMemory}
use Rattle.nc_conf.specs.Syntax.{Item, IsSyntax, directives_of, closes_of, open_behind}
use Rattle.nc_conf.specs.Reader.{SyntaxAt, words_of, all_faults}
use Rattle.nc_conf.specs.Faults.{faults_of}
use Rattle.nc_conf.specs.First.{IsFirstFault}
use Rattle.nc_conf.specs.Config.{config_of}

-- a text's tokens up to its end or a lexical fault, and their syntax
pub record HasSyntax (text : List ℕ) (items : List Item) (words : List Word) (broken bad : Option ℕ) : Type 0 where
  pub tokens : List Token
  pub reads : Reads text 0 tokens bad
  pub syntax : IsSyntax tokens items words broken

-- a text has this first fault, or none
pub record HasFirst (text : List ℕ) (first : Option Fault) : Type 0 where
  pub items : List Item
  pub words : List Word
  pub broken : Option ℕ
  pub bad : Option ℕ
  pub syntax : HasSyntax text items words broken bad
  pub is : IsFirstFault (faults_of (length text) items words broken bad) first

-- a text without faults has this configuration
pub record HasConfig (text : List ℕ) (config : ConfigAt) : Type 0 where
  pub items : List Item
  pub words : List Word
  pub broken : Option ℕ
  pub bad : Option ℕ
  pub syntax : HasSyntax text items words broken bad
  pub faultless : IsFirstFault (faults_of (length text) items words broken bad) None
  pub is : config ≡ config_of (directives_of 0 [] items)

-- what reading a text answers
abbrev pub IsRead : List ℕ → Result ConfigAt ConfFault → Type 0
IsRead text (Ok config) = HasConfig text config
IsRead text (Err (Rule rule at)) = HasFirst text (Some (record { at = at; rule = rule }))
IsRead text (Err NoMemory) = Unit {0}

-- a text's syntax is that of some items, with the place of a lexical fault
pub record IsReading (text : List ℕ) (s : SyntaxAt) (bad : Option ℕ) : Type 0 where
  pub items : List Item
  pub has : HasSyntax text items (words_of s.begun) s.broken bad
  pub directives : s.directives ≡ directives_of 0 [] items
  pub closes : s.closes ≡ closes_of 0 [] items
  pub blocks : s.blocks ≡ open_behind 0 [] items

-- what was read of a text up to a place settles its first fault, where that stands before the place, whatever follows
abbrev pub Settles : List ℕ → SyntaxAt → Option ℕ → ℕ → Type 0
Settles text s bad p = (f : Fault) → IsFirstFault (all_faults (length text) s bad) (Some f) → f.at < p → HasFirst text (Some f)

-- a text was read to its end or a lexical fault, or up to a place
abbrev pub IsPart : List ℕ → SyntaxAt → Option ℕ → Option ℕ → Type 0
IsPart text s bad None = IsReading text s bad
IsPart text s bad (Some p) = Settles text s bad p
