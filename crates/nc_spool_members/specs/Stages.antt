-- Stages of subscribers, by the facts that calls tell and by the spools.
use Rattle.std.specs.Prelude.{◌≡◌, ℕ, ◌≤◌, Bool, true, false, List, Option, if◌then◌else◌, fold, ◌==◌}
use Rattle.std.specs.List.{AllByRecursion}
use Rattle.nc_types.specs.Id.{Id}
use Rattle.nc_types.specs.declared.start.Start.{Start}
use Rattle.nc_types.specs.declared.start.Start.TheVariants.{Newest}
use Rattle.nc_journal.specs.Standing.{Stage, Starting, Standing, Over, started, served}
use Rattle.nc_spool_state.specs.declared.spool.Reader.{Reader}
use Rattle.nc_spool_state.specs.Key.{KeyAt}
use Rattle.nc_spool_state.specs.Spool.{SpoolAt, is_reader}
use Rattle.nc_spool_state.specs.Starting.{StartingAt, starts_with}
use Rattle.nc_spool.specs.declared.fact.Fact.{Fact}
use Rattle.nc_spool.specs.declared.fact.Fact.TheVariants as facts
use Rattle.nc_spool.specs.declared.spools.Found.{Found}
use Rattle.nc_spool.specs.declared.board.Board.{Board}
use Rattle.nc_spool.specs.Calls.{SpoolsAt, board_of, arrive_facts, arrive_after, answer_facts, answer_after, edge_facts, edge_after, notice_facts, notice_after, gone_facts, gone_after, depart_facts, depart_after}
use Rattle.nc_spool_laws.specs.Tally.{stands}

-- the stage of a subscriber after a fact
abbrev pub stage_by : ℕ → Stage → Fact → Stage
stage_by k stage (facts.Out asking) = stage
stage_by k stage (facts.Started n cursor) = if n == k then started cursor stage else stage
stage_by k stage (facts.Sent s) = if s.k == k then served s.cursor stage else stage
stage_by k stage (facts.Ended n deleted) = if n == k then Over else stage

-- and after some of them, in their order
abbrev pub stage_told : ℕ → Stage → List Fact → Stage
stage_told k stage facts = fold (stage_by k) stage facts

-- one who reads in a spool stands with the spool's list at its cursor
abbrev pub ReaderStands : ℕ → Stage → KeyAt → Reader → Type 0
ReaderStands k stage key r = is_reader k r ≡ true → stage ≡ Standing key.list r.once key.cursor

abbrev pub SpoolStands : ℕ → Stage → SpoolAt → Type 0
SpoolStands k stage s = AllByRecursion (ReaderStands k stage s.key) s.readers

-- one who isn't started yet starts behind the newest message
abbrev pub StartStarts : ℕ → Stage → StartingAt → Type 0
StartStarts k stage s = starts_with k s ≡ true → stage ≡ Starting s.list s.reader.once Newest

-- a subscriber has the stage that the spools say: it stands once at most, stands or starts as they say, and is `out` where it does neither;
-- who stands or starts will be over then
pub record HasStage (k : ℕ) (out stage : Stage) (b : Board) : Type 0 where
  pub few : stands k b ≤ 1
  pub over : 1 ≤ stands k b → out ≡ Over
  pub standing : AllByRecursion (SpoolStands k stage) b.shelf
  pub starting : AllByRecursion (StartStarts k stage) b.starts
  pub away : stands k b ≡ 0 → stage ≡ out

-- so it is after each call, by the facts of the call
module _ {H : Type 0} (k : ℕ) (out stage : Stage) (s : SpoolsAt H) where
  abbrev pub StaysStaged : List Fact → SpoolsAt H → Type 0
  StaysStaged facts new = HasStage k out (stage_told k stage facts) (board_of new)

  pub record CallsStage : Type 0 where
    -- another one comes
    pub arrive : (n : ℕ) (list : List (List ℕ)) (start : Start) (once : Bool) → (n == k) ≡ false
        → StaysStaged (arrive_facts n list start once s) (arrive_after n list start once s)
    pub answer : (number q floor : ℕ) (found : Option (Found H)) → StaysStaged (answer_facts number q floor found s) (answer_after number q floor found s)
    pub edge_answer : (number floor : ℕ) (last : Id) → StaysStaged (edge_facts number floor last s) (edge_after number floor last s)
    pub notice : (d : List ℕ) (found : Found H) → StaysStaged (notice_facts d found s) (notice_after d found s)
    pub removal : (d members : List ℕ) → StaysStaged (gone_facts d members s) (gone_after d members s)
    pub depart : (n : ℕ) → StaysStaged (depart_facts n s) (depart_after n s)

-- each call leaves each subscriber the stage that the spools say; one that comes was subscribed before
pub record KeepStages (H : Type 0) : Type 0 where
  pub calls : (k : ℕ) (out stage : Stage) (s : SpoolsAt H) → HasStage k out stage (board_of s) → CallsStage k out stage s
  pub comes : (k : ℕ) (list : List (List ℕ)) (start : Start) (once : Bool) (s : SpoolsAt H) → stands k (board_of s) ≡ 0
      → HasStage k Over (stage_told k (Starting list once start) (arrive_facts k list start once s)) (board_of (arrive_after k list start once s))
