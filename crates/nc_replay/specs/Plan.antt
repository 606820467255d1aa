-- What is found of a script before its lines are made.
use Rattle.std.specs.Prelude.{◌≡◌, ℕ, ◌+◌, List, length}
use Rattle.nc_types.specs.Config.{ConfigAt}
use Rattle.nc_conf.specs.declared.read.ConfFault.{ConfFault}
use Rattle.nc_conf.specs.declared.read.ConfFault.TheVariants as faults
use Rattle.nc_replay.specs.declared.plan.PlanFault.{PlanFault}
use Rattle.nc_replay.specs.declared.plan.PlanFault.TheVariants.{Misconfigured, NoMemory}
use Rattle.nc_replay.specs.Script.{lines_of, text_of_lines, AreParts, IsConfigured, IsMisconfigured}

-- the text of a script's configuration, the text of the lines that are made, and how many lines stand before those
pub record HasParts (script config lines : List ℕ) (number : ℕ) : Type 0 where
  pub before : List (List ℕ)
  pub parts : AreParts script before (lines_of lines)
  pub text : config ≡ text_of_lines before
  pub counted : number ≡ length before + 1

-- a script is configured so, and these are the lines that are made
pub record IsPlan (script : List ℕ) (config : ConfigAt) (lines : List ℕ) (number : ℕ) : Type 0 where
  pub before : List (List ℕ)
  pub configured : IsConfigured script before (lines_of lines) config
  pub counted : number ≡ length before + 1

abbrev pub plan_fault : ConfFault → PlanFault
plan_fault (faults.Rule rule at) = Misconfigured (record { rule = rule; at = at })
plan_fault faults.NoMemory = NoMemory

-- why no line of a script is made
abbrev pub IsPlanFault : List ℕ → PlanFault → Type 0
IsPlanFault script (Misconfigured fault) = IsMisconfigured script fault.rule fault.at
IsPlanFault script NoMemory = Unit {0}
