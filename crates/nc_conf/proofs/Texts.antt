-- From what the reader holds at the end of a text to the text.
use Rattle.std.proofs.Common.{◌≡◌, ℕ, List, [], ◌++◌, length, Option, None, ◌∙◌, subst, ap}
use Rattle.std.specs.List.{flat_map}
use Rattle.nc_types.specs.Config.{ConfigAt}
use Rattle.nc_conf.specs.declared.fault.Fault.{Fault}
use Rattle.nc_conf.specs.declared.syntax.Directive.{Directive}
use Rattle.nc_conf.specs.declared.syntax.Close.{Close}
use Rattle.nc_conf.specs.Syntax.{directives_of, closes_of}
use Rattle.nc_conf.specs.Faults.{each_directive, nameless, unended, faults_of}
use Rattle.nc_conf.specs.First.{IsFirstFault}
use Rattle.nc_conf.specs.Config.{config_of}
use Rattle.nc_conf.specs.Reader.{SyntaxAt, words_of, all_faults}
use Rattle.nc_conf.specs.Reading.{IsReading, HasFirst, HasConfig}

abbrev faults_by : ℕ → SyntaxAt → Option ℕ → List Directive → List Close → List ℕ → List Fault
faults_by len s bad ds cs bs = each_directive ds [] ds ++ flat_map (nameless ds) cs ++ unended len bs (words_of s.begun) s.broken bad

all_are : (text : List ℕ) (s : SyntaxAt) (bad : Option ℕ) (h : IsReading text s bad) → all_faults (length text) s bad ≡ faults_of (length text) h.items (words_of s.begun) s.broken bad
all_are text s bad h =
    ap (λ (ds : List Directive). faults_by (length text) s bad ds s.closes s.blocks) h.directives
    ∙ ap (λ (cs : List Close). faults_by (length text) s bad (directives_of 0 [] h.items) cs s.blocks) h.closes
    ∙ ap (λ (bs : List ℕ). faults_by (length text) s bad (directives_of 0 [] h.items) (closes_of 0 [] h.items) bs) h.blocks

first_in : (text : List ℕ) (s : SyntaxAt) (bad : Option ℕ) (first : Option Fault) (h : IsReading text s bad) → IsFirstFault (all_faults (length text) s bad) first → IsFirstFault (faults_of (length text) h.items (words_of s.begun) s.broken bad) first
first_in text s bad first h k = subst (λ (l : List Fault). IsFirstFault l first) (all_are text s bad h) k

pub has_first : (text : List ℕ) (s : SyntaxAt) (bad : Option ℕ) (first : Option Fault) → IsReading text s bad → IsFirstFault (all_faults (length text) s bad) first → HasFirst text first
has_first text s bad first h k = record { items = h.items; words = words_of s.begun; broken = s.broken; bad = bad; syntax = h.has; is = first_in text s bad first h k }

pub has_config : (text : List ℕ) (s : SyntaxAt) (bad : Option ℕ) (config : ConfigAt) → IsReading text s bad → IsFirstFault (all_faults (length text) s bad) None → config ≡ config_of s.directives → HasConfig text config
has_config text s bad config h k e = record {
  items = h.items;
  words = words_of s.begun;
  broken = s.broken;
  bad = bad;
  syntax = h.has;
  faultless = first_in text s bad None h k;
  is = e ∙ ap config_of h.directives;
}
