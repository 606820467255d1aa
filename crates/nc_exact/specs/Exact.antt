-- Exact ids: each cursor that a subscriber has come to resumes exactly there.
use Rattle.std.specs.Prelude.{◌≡◌, ℕ, List, ◌++◌, Some}
use Rattle.nc_types.specs.Cursor.{CursorAt}
use Rattle.nc_journal.specs.History.{Along, own}
use Rattle.nc_journal.specs.Standing.{stage_of, IsStandingRule}
use Rattle.nc_journal.specs.Sending.{IsSentLawfully, IsStartedLawfully}
use Rattle.nc_journal.specs.declared.event.Event.{Event}
use Rattle.nc_exact.specs.Fares.{IsExact}
use Rattle.nc_exact.specs.Sent.{first_cursor, StandsAt, RisesFor}

-- a history in which all that is sent was sent lawfully
pub record SendsLawfully (workers : ℕ) (h : List Event) : Type 0 where
  pub sent : IsSentLawfully workers h
  pub started : IsStartedLawfully workers h
  pub standing : IsStandingRule h

-- whoever has come to a cursor has started somewhere, and the cursor is exact
pub record ResumesExactly (workers w k : ℕ) (list : List (List ℕ)) (cur : CursorAt) (newer older : List Event) : Type 0 where
  pub first : CursorAt
  pub started : first_cursor k (own w older) ≡ Some first
  pub exact : IsExact workers w k list first cur newer older

-- it is so however a history is cut
abbrev pub ExactLaw : Type 0
ExactLaw = (workers : ℕ) (newer older : List Event) → SendsLawfully workers (newer ++ older)
    → (w k : ℕ) (list : List (List ℕ)) (cur : CursorAt) → StandsAt list cur (stage_of k (own w older))
    → ResumesExactly workers w k list cur newer older

-- the ids of one channel that a subscriber is sent rise strictly
abbrev pub SentRisesLaw : Type 0
SentRisesLaw = (workers : ℕ) (h : List Event) → SendsLawfully workers h → Along RisesFor h
