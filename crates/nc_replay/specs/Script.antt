-- The lines of a text, and the parts of a script: its configuration, a line `---`, and the lines that are made.
use Rattle.std.specs.Prelude.{◌≡◌, ◌≢◌, ◌⊎◌, ℕ, ◌<◌, List, [], ◌∷◌, ◌++◌, codes, length, if◌then◌else◌, ◌==◌, Ok, Err}
use Rattle.std.specs.List.{AllByRecursion, before_first, flat_map}
use Rattle.nc_types.specs.Config.{ConfigAt}
use Rattle.nc_conf.specs.declared.read.ConfFault.TheVariants.{Rule}
use Rattle.nc_conf.specs.Reading.{IsRead}

-- a text is cut into lines at each LF, and the last line may end with the text
abbrev pub onto_first : ℕ → List (List ℕ) → List (List ℕ)
onto_first b [] = (b ∷ []) ∷ []
onto_first b (line ∷ lines) = (b ∷ line) ∷ lines

abbrev pub lines_of : List ℕ → List (List ℕ)
lines_of [] = []
lines_of (b ∷ text) = if b == 10 then [] ∷ lines_of text else onto_first b (lines_of text)

-- the line between the configuration and the lines that are made
abbrev pub rule_line : List ℕ
rule_line = codes "---"

-- the first line of a text is that line
abbrev pub HasRule : List ℕ → Type 0
HasRule text = (0 < length text) × (before_first (λ b. b == 10) text ≡ rule_line)

-- a script has no such line
abbrev pub LacksRule : List ℕ → Type 0
LacksRule script = AllByRecursion (λ l. l ≢ rule_line) (lines_of script)

-- the text of whole lines, each with its LF
abbrev pub ended : List ℕ → List ℕ
ended line = line ++ 10 ∷ []

abbrev pub text_of_lines : List (List ℕ) → List ℕ
text_of_lines lines = flat_map ended lines

-- a line of a configuration: no LF stands in it, and it isn't the line `---`
pub record IsConfigLine (line : List ℕ) : Type 0 where
  pub whole : AllByRecursion (λ b. b ≢ 10) line
  pub other : line ≢ rule_line

-- the parts of a script: the whole lines of its configuration, the line `---`, and the lines that are made
pub record AreParts (script : List ℕ) (before made : List (List ℕ)) : Type 0 where
  pub rest : List ℕ
  pub cut : script ≡ text_of_lines before ++ rest
  pub each : AllByRecursion IsConfigLine before
  pub lines : lines_of rest ≡ rule_line ∷ made

-- the parts of a script and its configuration
pub record IsConfigured (script : List ℕ) (before made : List (List ℕ)) (config : ConfigAt) : Type 0 where
  pub parts : AreParts script before made
  pub read : IsRead (text_of_lines before) (Ok config)

-- a text breaks this rule of configurations first, at this place
abbrev pub IsFaulty : List ℕ → ℕ → ℕ → Type 0
IsFaulty text rule at = IsRead text (Err (Rule rule at))

-- the configuration of a script does
pub record HasFault (script : List ℕ) (rule at : ℕ) : Type 0 where
  pub before : List (List ℕ)
  pub made : List (List ℕ)
  pub parts : AreParts script before made
  pub read : IsFaulty (text_of_lines before) rule at

-- the rule of configurations that a script breaks first, and its place: without the line `---` its text isn't ended
abbrev pub IsMisconfigured : List ℕ → ℕ → ℕ → Type 0
IsMisconfigured script rule at = (LacksRule script × (rule ≡ 2) × (at ≡ length script)) ⊎ HasFault script rule at
