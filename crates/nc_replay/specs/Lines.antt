-- What the lines of a script say, one after the other: which numbers of subscribers were used is told by the lines before.
use Rattle.std.specs.Prelude.{◌≡◌, ℕ, Bool, false, ◌&&◌, ◌==◌, List, [], ◌∷◌}
use Rattle.std.specs.List.{list_any}
use Rattle.nc_script.specs.declared.line.Line.{Line as Said}
use Rattle.nc_script.specs.declared.line.Line.TheVariants as said
use Rattle.nc_script.specs.Judge.{Judge, next}
use Rattle.nc_script.specs.Line.{line}
use Rattle.nc_script.specs.Script.{HasNumberAt}
use Rattle.nc_world.specs.Lines.{Line, Poll}
use Rattle.nc_cluster.specs.PureLine.{pure_line}

-- a line is a poll of this number at this worker
abbrev pub polls : ℕ → ℕ → Line → Bool
polls w k (Poll v n list start) = (w == v) && (n == k)
polls w k line = false

-- some line of these is
abbrev pub is_used : ℕ → ℕ → List Line → Bool
is_used w k lines = list_any (polls w k) lines

-- a poll takes a number that no earlier line of its worker took
abbrev pub IsNew : List Line → Said → Type 0
IsNew lines (said.Poll w k list start) = is_used w k lines ≡ false
IsNew lines _ = Unit {0}

-- rule 10: so it does
abbrev pub new_number : List Line → List ℕ → Said → Judge Said
new_number lines text l = record {
  Says = λ x. (x ≡ l) × IsNew lines l;
  Breaks = λ rule at. (rule ≡ 10) × (IsNew lines l → ⊥) × HasNumberAt text at;
}

-- a line of a script of so many workers, behind other lines
abbrev pub line_after : ℕ → List Line → List ℕ → Judge Said
line_after workers lines text = next (line workers text) (new_number lines text)

-- some texts, read one after the other behind other lines, say lines, the last one first
abbrev pub Reads : ℕ → List Line → List (List ℕ) → List Line → Type 0
Reads workers before [] lines = lines ≡ before
Reads workers before (text ∷ texts) lines = (l : Said) × (line_after workers before text).Says l × Reads workers (pure_line l ∷ before) texts lines
