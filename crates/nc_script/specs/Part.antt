-- What the parts of a line say: numbers, workers, quoted texts, names, lists of names and starts.
use Rattle.std.specs.Prelude.{◌≡◌, ◌≢◌, ◌⊎◌, ℕ, ◌+◌, ◌-◌, ◌*◌, ◌<◌, ◌≤◌, List, [], ◌∷◌, codes, fold, length, map}
use Rattle.std.specs.List.{AllByRecursion}
use Rattle.nc_types.specs.Unquote.{IsQuoted, IsUnquotable}
use Rattle.nc_types.specs.declared.start.Start.{Start}
use Rattle.nc_types.specs.declared.start.Start.TheVariants.{Oldest, Newest, Given}
use Rattle.nc_multi.specs.Names.{distinct}
use Rattle.nc_ident.specs.Spelling.{SpellsId}
use Rattle.nc_ident.specs.declared.refusal.IdRefusal.{IdRefusal}
use Rattle.nc_ident.specs.declared.refusal.IdRefusal.TheVariants as id_refusals
use Rattle.nc_ident.specs.declared.refusal.IdRefusal.TheVariants.{Malformed, TagCount}
use Rattle.nc_script.specs.declared.fault.LineFault.{LineFault}
use Rattle.nc_script.specs.declared.fault.LineFault.TheVariants as line_faults
use Rattle.nc_script.specs.declared.fault.LineFault.TheVariants.{Rule}
use Rattle.nc_script.specs.Word.{Word, pieces_from}
use Rattle.nc_script.specs.Judge.{Judge, must, next}

abbrev pub IsDigit : ℕ → Type 0
IsDigit b = (48 ≤ b) × (b ≤ 57)

abbrev pub value_of : List ℕ → ℕ
value_of digits = fold (λ value digit. value * 10 + (digit - 48)) 0 digits

-- a number in 1 to 18 digits
pub record IsNumber (text : List ℕ) (n : ℕ) : Type 0 where
  pub digits : AllByRecursion IsDigit text
  pub some : 0 < length text
  pub few : length text ≤ 18
  pub value : n ≡ value_of text

-- rule 4: a number can be read, and isn't above its limit
abbrev pub number : ℕ → Word → Judge ℕ
number limit word = must 4 word.at (λ n. IsNumber word.bytes n × (n ≤ limit))

-- the greatest number of 18 digits
abbrev pub greatest_number : ℕ
greatest_number = 999999999999999999

-- rule 5: a worker is below the number of workers
abbrev pub worker : ℕ → Word → ℕ → Judge ℕ
worker workers word n = must 5 word.at (λ w. (w ≡ n) × (n < workers))

-- what a quoted text stands for, which has 65,536 bytes at most
pub record IsBody (text body : List ℕ) : Type 0 where
  pub quoted : IsQuoted text body
  pub few : length body ≤ 65536

-- a quoted text is malformed at a place of the line, or stands for too many bytes, which counts at its first sign
abbrev pub IsNoBody : Word → ℕ → Type 0
IsNoBody text at =
    ((place : ℕ) × IsUnquotable text.bytes place × (at ≡ text.at + place))
    ⊎ ((body : List ℕ) × IsQuoted text.bytes body × (65536 < length body) × (at ≡ text.at))

-- rule 6: a quoted text is well formed
abbrev pub body : Word → Judge (List ℕ)
body text = record { Says = IsBody text.bytes; Breaks = λ rule at. (rule ≡ 6) × IsNoBody text at }

-- a byte of a name: it is printable, but no space, `"`, `\` or comma
abbrev pub IsNameByte : ℕ → Type 0
IsNameByte b = (33 ≤ b) × (b ≤ 126) × (b ≢ 34) × (b ≢ 92) × (b ≢ 44)

-- the name of a channel in a script: 1 to 1,024 of these bytes
pub record IsName (name : List ℕ) : Type 0 where
  pub bytes : AllByRecursion IsNameByte name
  pub some : 0 < length name
  pub few : length name ≤ 1024

-- rule 7: a name is one
abbrev pub name : Word → Judge (List ℕ)
name word = must 7 word.at (λ c. (c ≡ word.bytes) × IsName c)

-- the names of a list, with their places
abbrev pub names_in : Word → List Word
names_in word = pieces_from 44 word.at word.bytes

-- the first of them that is no name stands at a place
abbrev pub IsFirstBad : List Word → ℕ → Type 0
IsFirstBad [] at = ⊥
IsFirstBad (word ∷ words) at = ((IsName word.bytes → ⊥) × (at ≡ word.at)) ⊎ (IsName word.bytes × IsFirstBad words at)

-- rule 7: each of the names of a list is one; the first that isn't counts
abbrev pub names : Word → Judge (List (List ℕ))
names word = record {
  Says = λ cs. (cs ≡ map (λ w. w.bytes) (names_in word)) × AllByRecursion IsName cs;
  Breaks = λ rule at. (rule ≡ 7) × IsFirstBad (names_in word) at;
}

-- how many distinct names a list may have
abbrev pub most_names : ℕ
most_names = 7

-- rule 8: a list has not too many distinct names
abbrev pub distinct_names : Word → List (List ℕ) → Judge (List (List ℕ))
distinct_names word cs = must 8 word.at (λ list. (list ≡ distinct cs) × (length list ≤ most_names))

-- the channels of a list
abbrev pub list : Word → Judge (List (List ℕ))
list word = next (names word) (distinct_names word)

-- where a subscriber of so many channels starts: before the oldest message, behind the newest, or behind the given ids
abbrev pub SpellsStart : ℕ → List ℕ → Start → Type 0
SpellsStart n text Oldest = text ≡ codes "oldest"
SpellsStart n text Newest = text ≡ codes "newest"
SpellsStart n text (Given cursor) = SpellsId text cursor × (length cursor.tags ≡ n)

-- rule 9: a start can be read
abbrev pub start : ℕ → Word → Judge Start
start n word = must 9 word.at (SpellsStart n word.bytes)

-- the fault of a word that is refused as an id
abbrev pub start_fault : ℕ → IdRefusal → LineFault
start_fault at (Malformed place) = Rule 9 at
start_fault at (TagCount found) = Rule 9 at
start_fault at id_refusals.NoMemory = line_faults.NoMemory
