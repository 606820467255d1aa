-- Laws of lines, what a line keeps, and the place of a subscriber's number.
use Rattle.std.specs.Prelude.{◌≡◌, ℕ, ◌<◌, ◌≤◌, List, ◌∷◌, [], length}
use Rattle.nc_types.specs.Id.{latest_clock}
use Rattle.nc_types.specs.Channel.{AreDistinct}
use Rattle.nc_types.specs.declared.start.Start.{Start}
use Rattle.nc_types.specs.declared.start.Start.TheVariants.{Oldest, Newest, Given}
use Rattle.nc_script.specs.Judge.{IsSure}
use Rattle.nc_script.specs.Part.{greatest_number}
use Rattle.nc_script.specs.Line.{line, Four, AreWords}
use Rattle.nc_script.specs.declared.line.Line.{Line}
use Rattle.nc_script.specs.declared.line.Line.TheVariants.{Blank, Clock, Reap, Post, Poll, Carry, Take, Settle, Remove, Inform}

-- a text says one line, or breaks one rule at one place
abbrev pub LinesAreSure : Type 0
LinesAreSure = (workers : ℕ) (text : List ℕ) → IsSure (line workers text)

-- a start fits the names of a list: a given one has a tag for each name
abbrev pub FitsNames : List (List ℕ) → Start → Type 0
FitsNames names Oldest = Unit {0}
FitsNames names Newest = Unit {0}
FitsNames names (Given cursor) = length cursor.tags ≡ length names

-- a list of channels has at least one, none of them twice, and a start that fits
pub record AreChannels (names : List (List ℕ)) (start : Start) : Type 0 where
  pub some : 0 < length names
  pub distinct : AreDistinct names
  pub fits : FitsNames names start

-- what a line keeps, for so many workers: its workers are there, and its numbers and its list are within their limits
abbrev pub Keeps : ℕ → Line → Type 0
Keeps workers Blank = Unit {0}
Keeps workers (Clock w t) = (w < workers) × (t ≤ latest_clock)
Keeps workers (Reap w) = w < workers
Keeps workers (Post w c body) = w < workers
Keeps workers (Poll w k names start) = (w < workers) × AreChannels names start
Keeps workers (Carry w to) = (w < workers) × (to < workers)
Keeps workers (Take w from) = (w < workers) × (from < workers)
Keeps workers (Settle n) = n ≤ greatest_number
Keeps workers (Remove w c) = w < workers
Keeps workers (Inform w c) = w < workers

-- what a text says keeps this
abbrev pub LinesFit : Type 0
LinesFit = (workers : ℕ) (text : List ℕ) (l : Line) → (line workers text).Says l → Keeps workers l

-- a text is read as a poll, for some number of workers
pub record IsPoll (text : List ℕ) : Type 0 where
  pub workers : ℕ
  pub w : ℕ
  pub k : ℕ
  pub names : List (List ℕ)
  pub start : Start
  pub says : (line workers text).Says (Poll w k names start)

-- a poll's number stands at this place
abbrev pub HasNumberAt : List ℕ → ℕ → Type 0
HasNumberAt text at = (p : Four) × AreWords text (p.first ∷ p.second ∷ p.third ∷ p.fourth ∷ []) × (at ≡ p.second.at)
