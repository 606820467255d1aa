-- What a configuration may set in several of its blocks, and the ranges of its numbers.
use Rattle.std.specs.Prelude.{ℕ, ◌≤◌, Bool}

pub record SettingsAt : Type 0 where
  pub length : ℕ
  pub timeout : ℕ
  pub sub_timeout : ℕ
  pub newest : Bool
  pub max_name : ℕ
  pub max_body : ℕ

abbrev pub IsLength : ℕ → Type 0
IsLength n = n ≤ 1000000

-- about 31 years
abbrev pub IsSeconds : ℕ → Type 0
IsSeconds n = n ≤ 1000000000

abbrev pub IsNameLimit : ℕ → Type 0
IsNameLimit n = (1 ≤ n) × (n ≤ 1024)

abbrev pub IsBodyLimit : ℕ → Type 0
IsBodyLimit n = (1 ≤ n) × (n ≤ 65536)
