-- What holds of every script: it is configured in one way or has one fault before its lines, and its lines pass, or one breaks a rule first, or one
-- comes to a worn worker first.
use Rattle.std.specs.Prelude.{◌≡◌, ℕ, List}
use Rattle.nc_types.specs.Config.{ConfigAt}
use Rattle.nc_journal.specs.declared.event.Event.{Event}
use Rattle.nc_script.specs.Judge.{IsSure}
use Rattle.nc_replay.specs.declared.fault.Fault.{Fault}
use Rattle.nc_replay.specs.Script.{AreParts, IsConfigured, IsMisconfigured}
use Rattle.nc_world.specs.Lines.{Line}
use Rattle.nc_replay.specs.Lines.{line_after}
use Rattle.nc_replay.specs.Top.{Passes, Fails, Wears}

-- a script has its parts in one way
abbrev pub HasOneFront : Type 0
HasOneFront = (script : List ℕ) (before made other rest : List (List ℕ)) → AreParts script before made → AreParts script other rest → before ≡ other

-- no script is both configured and refused
abbrev pub IsNeverBoth : Type 0
IsNeverBoth = (script : List ℕ) (before made : List (List ℕ)) (config : ConfigAt) (rule at : ℕ) → IsConfigured script before made config
    → IsMisconfigured script rule at → ⊥

-- behind other lines, a line says one thing or breaks one rule at one place
abbrev pub IsLineSure : Type 0
IsLineSure = (workers : ℕ) (lines : List Line) (text : List ℕ) → IsSure (line_after workers lines text)

-- a script whose lines are all made has no line that breaks a rule
abbrev pub NeverFails : Type 0
NeverFails = (first second : ℕ) (script : List ℕ) (h other : List Event) (fault : Fault) → Passes first script h → Fails second script other fault
    → ⊥

-- nor does it come to a worn worker
abbrev pub NeverWears : Type 0
NeverWears = (first : ℕ) (script : List ℕ) (h other : List Event) → Passes first script h → Wears first script other → ⊥

-- a script comes to a line that breaks a rule or to a worn worker first
abbrev pub FailsOrWears : Type 0
FailsOrWears = (first : ℕ) (script : List ℕ) (h other : List Event) (fault : Fault) → Fails first script h fault → Wears first script other → ⊥

-- one line of a script breaks a rule first, and one rule at one place
abbrev pub HasOneFault : Type 0
HasOneFault = (first second : ℕ) (script : List ℕ) (h other : List Event) (fault third : Fault) → Fails first script h fault
    → Fails second script other third → fault ≡ third
