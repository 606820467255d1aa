-- What holds of the spools of a worker between two calls.
use Rattle.std.specs.Prelude.{◌≡◌, ℕ, ◌≤◌, Bool, false, List, Option, IfSome}
use Rattle.std.specs.List.{AllByRecursion}
use Rattle.nc_types.specs.Id.{Id}
use Rattle.nc_types.specs.declared.start.Start.{Start}
use Rattle.nc_spool.specs.declared.spools.Found.{Found}
use Rattle.nc_spool_state.specs.Kept.{is_kept}
use Rattle.nc_spool.specs.Calls.{SpoolsAt, new_spools, board_of, with_found, arrive_after, answer_facts, answer_after, edge_after, notice_facts, notice_after, gone_after, depart_after, without_idle}
use Rattle.nc_spool_state.specs.Kept.{with_hold}
use Rattle.nc_spool_laws.specs.Resting.{AllRest}
use Rattle.nc_spool_laws.specs.Order.{AreAscending}
use Rattle.nc_spool_laws.specs.Attended.{IsWhole, IsAttended, IsHeld}
use Rattle.nc_spool_laws.specs.Numbers.{AreApart}
use Rattle.nc_spool_laws.specs.Tally.{stands}
use Rattle.nc_spool_laws.specs.Holding.{FactHeld, AreRising}

-- the spools ascend by list and cursor, each with a place for each name and someone who stands there;
-- where a message was found a look is in flight; the awaited numbers are apart and below the next one;
-- each subscriber stands once at most; what is found is held, and the holds ascend by owner and grant
pub record IsSound {H : Type 0} (s : SpoolsAt H) : Type 0 where
  pub order : AreAscending s.shelf
  pub whole : AllByRecursion IsWhole s.shelf
  pub attended : AllByRecursion IsAttended s.shelf
  pub restful : AllRest s.shelf
  pub apart : AreApart (board_of s)
  pub once : (k : ℕ) → stands k (board_of s) ≤ 1
  pub held : AllByRecursion (IsHeld s.kept) s.shelf
  pub rising : AreRising s.kept

-- the grant of a message isn't kept yet
abbrev pub IsNew : {H : Type 0} → SpoolsAt H → Found H → Type 0
IsNew s found = is_kept found.held.owner found.held.g s.kept ≡ false

-- each call keeps it
pub record KeepsSound (H : Type 0) : Type 0 where
  pub empty : (workers first : ℕ) → IsSound {H = H} (new_spools workers first)
  pub arrive : (k : ℕ) (list : List (List ℕ)) (start : Start) (once : Bool) (s : SpoolsAt H) → stands k (board_of s) ≡ 0 → IsSound s
      → IsSound (arrive_after k list start once s)
  pub answer : (number q floor : ℕ) (found : Option (Found H)) (s : SpoolsAt H) → IfSome found (IsNew s) → IsSound s
      → IsSound (answer_after number q floor found s)
  pub edge_answer : (number floor : ℕ) (last : Id) (s : SpoolsAt H) → IsSound s → IsSound (edge_after number floor last s)
  pub notice : (c : List ℕ) (found : Found H) (s : SpoolsAt H) → IsNew s found → IsSound s → IsSound (notice_after c found s)
  pub removal : (c members : List ℕ) (s : SpoolsAt H) → IsSound s → IsSound (gone_after c members s)
  pub depart : (k : ℕ) (s : SpoolsAt H) → IsSound s → IsSound (depart_after k s)
  pub idle : (s : SpoolsAt H) → IsSound s → IsSound (without_idle s)
  -- the hold of each message that is sent is kept when the call is over
  pub answer_held : (number q floor : ℕ) (found : Option (Found H)) (s : SpoolsAt H) → IsSound s
      → AllByRecursion (FactHeld (with_found found s.kept)) (answer_facts number q floor found s)
  pub notice_held : (c : List ℕ) (found : Found H) (s : SpoolsAt H) → IsSound s
      → AllByRecursion (FactHeld (with_hold found.held s.kept)) (notice_facts c found s)
