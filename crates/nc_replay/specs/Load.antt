-- A load: the script of a seed and a size is replayed, and how many lines of some kinds its journal has is written in place of it.
use Rattle.std.specs.Prelude.{◌≡◌, ◌≢◌, ℕ, Bool, nat_eq, List, [], ◌∷◌, ◌++◌, codes, length}
use Rattle.std.specs.List.{starts_with, filter}
use Rattle.std.specs.Fmt.{decimal}
use Rattle.nc_load.specs.Script.{script}
use Rattle.nc_journal.specs.declared.event.Event.{Event}
use Rattle.nc_journal.specs.Text.{text_of}
use Rattle.nc_replay.specs.declared.fault.Fault.{Fault}
use Rattle.nc_replay.specs.declared.fault.Misconfigured.{Misconfigured as ConfigFault}
use Rattle.nc_replay.specs.declared.load.Loaded.{Loaded}
use Rattle.nc_replay.specs.declared.load.Loaded.TheVariants.{Counted, Refused, Misconfigured, WornOut}
use Rattle.nc_replay.specs.Script.{lines_of, IsMisconfigured}
use Rattle.nc_replay.specs.Top.{Passes, Fails, Wears}
use Rattle.nc_replay.specs.Input.{Adds, AddsPrefix}

-- how many lines of a text begin with some bytes
abbrev pub begins : List ℕ → List ℕ → Bool
begins front line = starts_with nat_eq line front

abbrev pub lines_with : List ℕ → List ℕ → ℕ
lines_with front text = length (filter (begins front) (lines_of text))

-- the line that tells of a load with this journal
abbrev pub summary : ℕ → ℕ → List ℕ → List ℕ
summary seed size journal =
    codes "load seed=" ++ decimal seed
    ++ codes " size=" ++ decimal size
    ++ codes " stored=" ++ decimal (lines_with (codes "stored ") journal)
    ++ codes " sent=" ++ decimal (lines_with (codes "sent ") journal)
    ++ codes " left=" ++ decimal (lines_with (codes "left ") journal)
    ++ codes " ended=" ++ decimal (lines_with (codes "ended ") journal)
    ++ codes " quiet=" ++ decimal (lines_with (codes "quiet") journal)
    ++ 10 ∷ []

-- every line of the load's script was made, and its lawful journal was counted
pub record Counts (seed size : ℕ) (old new : List ℕ) : Type 0 where
  pub h : List Event
  pub passes : Passes 0 (script seed size) h
  pub written : Adds (summary seed size (text_of h)) old new

-- so it was, and a prefix of its line was written
pub record CutsOffCounts (seed size : ℕ) (old new : List ℕ) : Type 0 where
  pub h : List Event
  pub passes : Passes 0 (script seed size) h
  pub written : AddsPrefix (summary seed size (text_of h)) old new

-- a line of the script breaks a rule, its configuration is refused, or a line would call on a worn worker
abbrev pub Breaks : ℕ → ℕ → Type 0
Breaks seed size = (h : List Event) × (fault : Fault) × Fails 0 (script seed size) h fault

abbrev pub IsRefused : ℕ → ℕ → Type 0
IsRefused seed size = (fault : ConfigFault) × IsMisconfigured (script seed size) fault.rule fault.at

abbrev pub WearsOne : ℕ → ℕ → Type 0
WearsOne seed size = (h : List Event) × Wears 0 (script seed size) h

-- how a load ends; nothing is written where a line wasn't made
abbrev pub LoadsAs : Loaded → ℕ → ℕ → List ℕ → List ℕ → Type 0
LoadsAs Counted seed size old new = Counts seed size old new
LoadsAs Refused seed size old new = Breaks seed size × (new ≡ old)
LoadsAs Misconfigured seed size old new = IsRefused seed size × (new ≡ old)
LoadsAs WornOut seed size old new = WearsOne seed size × (new ≡ old)

-- what a load leaves, by its status: it reads no input, so 4 and 7 never come
pub record LoadEnds (status seed size : ℕ) (old new : List ℕ) : Type 0 where
  pub command : status ≢ 2
  pub unread : (status ≢ 4) × (status ≢ 7)
  pub counted : status ≡ 0 → Counts seed size old new
  pub refused : status ≡ 3 → Breaks seed size
  pub misconfigured : status ≡ 8 → IsRefused seed size
  pub worn : status ≡ 9 → WearsOne seed size
  pub cut_off : status ≡ 5 → CutsOffCounts seed size old new
  pub silent : status ≢ 0 → status ≢ 5 → new ≡ old
