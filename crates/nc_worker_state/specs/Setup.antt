-- What a worker is set up with.
use Rattle.std.specs.Prelude.{ℕ}
use Rattle.nc_types.specs.Config.{ConfigAt}

-- the number of workers and of each one's slots, where its numbers begin, and the settings of direct posts and polls
pub record Setup : Type 0 where
  pub workers : ℕ
  pub slots : ℕ
  pub first : ℕ
  pub length : ℕ
  pub timeout : ℕ
  pub sub_timeout : ℕ

-- by a configuration, with numbers that begin with `first`
abbrev pub setup_of : ConfigAt → ℕ → Setup
setup_of conf first = record {
  workers = conf.workers;
  slots = conf.slots;
  first = first;
  length = conf.base.length;
  timeout = conf.base.timeout;
  sub_timeout = conf.base.sub_timeout;
}
