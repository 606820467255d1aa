-- The texts of the values that stand in a line.
use Rattle.std.specs.Prelude.{ℕ, Bool, true, false, List, [], ◌∷◌, ◌++◌, codes, Option, Some, None}
use Rattle.std.specs.Fmt.{decimal}
use Rattle.nc_types.specs.Text.{quoted}
use Rattle.nc_types.specs.Written.{joined, id_text, cursor_text}
use Rattle.nc_types.specs.declared.info.Info.{Info as InfoOf}
use Rattle.nc_types.specs.declared.info.FullLine.{FullLine}
use Rattle.nc_types.specs.declared.start.Start.{Start}
use Rattle.nc_types.specs.declared.start.Start.TheVariants.{Oldest, Newest, Given}

-- a truth value is 0 or 1
abbrev pub truth_text : Bool → List ℕ
truth_text true = codes "1"
truth_text false = codes "0"

-- a value that may be absent: `-` where it is
abbrev pub optional : {X : Type 0} → (X → List ℕ) → Option X → List ℕ
optional text None = codes "-"
optional text (Some x) = text x

-- a list of channels is its quoted names joined by commas
abbrev pub list_text : List (List ℕ) → List ℕ
list_text names = joined quoted names

-- numbers joined by commas
abbrev pub numbers_text : List ℕ → List ℕ
numbers_text numbers = joined decimal numbers

-- the subscribers that a channel's end reaches: `-` where there is none
abbrev pub subs_text : List ℕ → List ℕ
subs_text [] = codes "-"
subs_text (k ∷ ks) = numbers_text (k ∷ ks)

-- where a subscriber begins
abbrev pub start_text : Start → List ℕ
start_text Oldest = codes "oldest"
start_text Newest = codes "newest"
start_text (Given cursor) = cursor_text None cursor

-- how many messages, how many members, and the last id, if any
abbrev pub info_text : InfoOf → List ℕ
info_text info = decimal info.messages ++ codes "/" ++ decimal info.members ++ codes "/" ++ optional id_text info.last

-- how many slots are buffered, and how many more are held
abbrev pub full_text : FullLine → List ℕ
full_text full = decimal full.buffered ++ codes "," ++ decimal full.held
