-- Nobody stands twice, and no list names a channel twice.
use Rattle.std.specs.Prelude.{◌≡◌, ℕ, Bool, List, Option}
use Rattle.nc_types.specs.Id.{Id}
use Rattle.nc_types.specs.declared.start.Start.{Start}
use Rattle.nc_spool.specs.declared.spools.Found.{Found}
use Rattle.nc_spool.specs.Calls.{SpoolsAt, board_of, arrive_after, answer_after, edge_after, notice_after, gone_after, depart_after}
use Rattle.nc_spool_laws.specs.Closed.{first_key}
use Rattle.nc_spool_laws.specs.Keys.{IsFitting, AllFit}
use Rattle.nc_spool_laws.specs.Tally.{stands, StandOnce}

-- so it is between two calls
pub record StandSingly {H : Type 0} (s : SpoolsAt H) : Type 0 where
  pub once : StandOnce (board_of s)
  pub fit : AllFit (board_of s)

-- each call keeps it, where who comes is new and its list and start fit
pub record CallsKeepSingly {H : Type 0} (s : SpoolsAt H) : Type 0 where
  pub arrive : (k : ℕ) (list : List (List ℕ)) (start : Start) (once : Bool) → stands k (board_of s) ≡ 0 → IsFitting (first_key list start)
      → StandSingly (arrive_after k list start once s)
  pub answer : (number q floor : ℕ) (found : Option (Found H)) → StandSingly (answer_after number q floor found s)
  pub edge_answer : (number floor : ℕ) (last : Id) → StandSingly (edge_after number floor last s)
  pub notice : (d : List ℕ) (found : Found H) → StandSingly (notice_after d found s)
  pub removal : (d members : List ℕ) → StandSingly (gone_after d members s)
  pub depart : (n : ℕ) → StandSingly (depart_after n s)

abbrev pub KeepSingly : Type 0 → Type 0
KeepSingly H = (s : SpoolsAt H) → StandSingly s → CallsKeepSingly s
