-- What an induction carries of sends and starts, event by event, and what all histories then promise.
use Rattle.std.specs.Prelude.{◌≡◌, ℕ, List, ◌++◌}
use Rattle.nc_types.specs.Cursor.{CursorAt}
use Rattle.nc_journal.specs.History.{Along, own, AtEachCut}
use Rattle.nc_journal.specs.Standing.{stage_of, IsStandingRule}
use Rattle.nc_journal.specs.Sending.{IsSentLawfully, IsStartedLawfully}
use Rattle.nc_journal.specs.declared.event.Event.{Event}
use Rattle.nc_rests.specs.Owners.{Owners}
use Rattle.nc_sends.specs.Fences.{FencedSince}
use Rattle.nc_sends.specs.GoodSends.{IsGoodSend}
use Rattle.nc_sends.specs.Taken.{TakenAt}
use Rattle.nc_starts.specs.Starts.{StartedThen}
use Rattle.nc_exact.specs.Exact.{ResumesExactly}
use Rattle.nc_exact.specs.Sent.{StandsAt, RisesFor}

-- of each event, what holds of it by what stands before it
pub record Carried (workers : ℕ) (h : List Event) : Type 0 where
  pub owners : Owners workers h
  pub sent : Along (IsGoodSend workers) h
  pub started : Along (StartedThen workers) h
  pub standing : IsStandingRule h

-- sends and starts are lawful, whatever is stored later; each cursor that a send has made is fenced from then on;
-- what each send rests on was taken; ids rise; and each cursor that a subscriber has come to is exact
pub record Promised (workers : ℕ) (h : List Event) : Type 0 where
  pub sent : IsSentLawfully workers h
  pub started : IsStartedLawfully workers h
  pub fenced : AtEachCut (FencedSince workers) h
  pub taken : Along (TakenAt workers) h
  pub rises : Along RisesFor h
  pub exact : (newer older : List Event) → h ≡ newer ++ older → (w k : ℕ) (list : List (List ℕ)) (cur : CursorAt)
      → StandsAt list cur (stage_of k (own w older)) → ResumesExactly workers w k list cur newer older

abbrev pub CarriedPromises : Type 0
CarriedPromises = (workers : ℕ) (h : List Event) → Carried workers h → Promised workers h
