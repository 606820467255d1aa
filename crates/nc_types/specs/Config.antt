-- Configurations, and the ranges of their numbers.
use Rattle.std.specs.Prelude.{ℕ, ◌≤◌, List}
use Rattle.nc_types.specs.Settings.{SettingsAt}
use Rattle.nc_types.specs.declared.config.Location.{Location}

-- an address that is listened at
pub record ListenAt : Type 0 where
  pub host : List ℕ
  pub port : ℕ

abbrev pub IsPort : ℕ → Type 0
IsPort n = (1 ≤ n) × (n ≤ 65535)

pub record ConfigAt : Type 0 where
  pub workers : ℕ
  pub slots : ℕ
  pub listen : List ListenAt
  pub base : SettingsAt
  pub locations : List Location

abbrev pub IsWorkers : ℕ → Type 0
IsWorkers n = (1 ≤ n) × (n ≤ 16)

abbrev pub IsSlots : ℕ → Type 0
IsSlots n = (1 ≤ n) × (n ≤ 4096)
