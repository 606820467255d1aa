-- What holds of the answers for a text.
use Rattle.std.specs.Prelude.{◌≡◌, ℕ, List, Option, Some}
use Rattle.nc_types.specs.Config.{ConfigAt}
use Rattle.nc_conf.specs.declared.fault.Fault.{Fault}
use Rattle.nc_conf.specs.Reading.{HasFirst, HasConfig}

-- a text has one first fault, or none
abbrev pub OneFirst : Type 0
OneFirst = (text : List ℕ) (first other : Option Fault) → HasFirst text first → HasFirst text other → first ≡ other

-- a text has one configuration
abbrev pub OneConfig : Type 0
OneConfig = (text : List ℕ) (config other : ConfigAt) → HasConfig text config → HasConfig text other → config ≡ other

-- no text has both a configuration and a first fault
abbrev pub NeverBoth : Type 0
NeverBoth = (text : List ℕ) (config : ConfigAt) (f : Fault) → HasConfig text config → HasFirst text (Some f) → ⊥
