-- Lines as those of the pure world, and what a line keeps.
use Rattle.std.specs.Prelude.{ℕ, ◌<◌, List, length}
use Rattle.nc_types.specs.Channel.{AreDistinct}
use Rattle.nc_owner.specs.Moment.{IsClock}
use Rattle.nc_spool.specs.Arrive.{FitsList}
use Rattle.nc_world.specs.Lines as pure
use Rattle.nc_script.specs.declared.line.Line.{Line}
use Rattle.nc_script.specs.declared.line.Line.TheVariants as lines

abbrev pub pure_line : Line → pure.Line
pure_line lines.Blank = pure.Blank
pure_line (lines.Clock w t) = pure.Clocks w t
pure_line (lines.Reap w) = pure.Reap w
pure_line (lines.Carry w to) = pure.Carry w to
pure_line (lines.Take w from) = pure.Take w from
pure_line (lines.Settle n) = pure.Settle n
pure_line (lines.Post w c body) = pure.Post w c body
pure_line (lines.Poll w k list start) = pure.Poll w k list start
pure_line (lines.Remove w c) = pure.Remove w c
pure_line (lines.Inform w c) = pure.Inform w c

-- a list names channels, each once
pub record IsListed (list : List (List ℕ)) : Type 0 where
  pub distinct : AreDistinct list
  pub named : 0 < length list

-- its workers are there, a clock keeps its limit, and a subscriber's list and start are as they should be
abbrev pub CanMake : ℕ → Line → Type 0
CanMake workers lines.Blank = Unit {0}
CanMake workers (lines.Clock w t) = (w < workers) × IsClock t
CanMake workers (lines.Reap w) = w < workers
CanMake workers (lines.Carry w to) = (w < workers) × (to < workers)
CanMake workers (lines.Take w from) = (w < workers) × (from < workers)
CanMake workers (lines.Settle n) = Unit {0}
CanMake workers (lines.Post w c body) = w < workers
CanMake workers (lines.Poll w k list start) = (w < workers) × FitsList list start × IsListed list
CanMake workers (lines.Remove w c) = w < workers
CanMake workers (lines.Inform w c) = w < workers
