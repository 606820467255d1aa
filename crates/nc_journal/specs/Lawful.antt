-- A lawful history.
use Rattle.std.specs.Prelude.{ℕ, List}
use Rattle.nc_journal.specs.declared.event.Event.{Event}
use Rattle.nc_journal.specs.Stamp.{IsStamped}
use Rattle.nc_journal.specs.Leaving.{IsLeavingRule}
use Rattle.nc_journal.specs.Standing.{IsStandingRule}
use Rattle.nc_journal.specs.Sending.{IsSentLawfully, IsStartedLawfully, IsQuietRule}

-- the history of some workers is lawful
pub record IsLawful (workers : ℕ) (h : List Event) : Type 0 where
  pub stamped : IsStamped workers h
  pub leaving : IsLeavingRule workers h
  pub standing : IsStandingRule h
  pub sent : IsSentLawfully workers h
  pub started : IsStartedLawfully workers h
  pub quiet : IsQuietRule h
