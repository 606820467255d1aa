-- The answer to an edge sends nothing.
use Rattle.std.proofs.Common.{ℕ, ◌+◌, Bool, true, false, cond, List, [], ◌∷◌, Option, Some, None, sym, subst, find}
use Rattle.std.specs.Prelude.{slice_index_or}
use Rattle.std.specs.List.{AllByRecursion}
use Rattle.nc_types.specs.Cursor.{CursorAt}
use Rattle.nc_journal.specs.History.{Along}
use Rattle.nc_journal.specs.declared.word.EndedCause.TheVariants.{Answered}
use Rattle.nc_spool_state.specs.declared.edge.Edge.{Edge}
use Rattle.nc_spool_state.specs.declared.edge.Edge.TheVariants.{Known}
use Rattle.nc_spool_state.specs.declared.spool.Reader.{Reader}
use Rattle.nc_spool_state.specs.Edge.{is_behind, is_any_awaited, is_any_behind, edge_awaiting, newest_cursor}
use Rattle.nc_spool_state.specs.Shelf.{without_first}
use Rattle.nc_spool_state.specs.Starting.{StartingAt, with_edge, start_awaits}
use Rattle.nc_spool.specs.declared.board.Board.{Board}
use Rattle.nc_spool.specs.Newest.{asked_edge, edge_behind, edges_behind, parked, second_by, answered_all, went_on, edge_heard_at, edge_answered_by, edge_answered}
use Rattle.nc_spool.specs.Calls.{board_of, edge_facts}
use Rattle.nc_sends.specs.GoodSends.{IsGoodSend}
use Rattle.nc_world_told.proofs.Written.{written_is, IsUnsent, unsent_written}
use Rattle.nc_world_told.proofs.Sends.{Appends, IsOut, same_facts, one_fact, then_facts}
use Rattle.nc_world_calls.specs.Edging.{EdgeSendsNothing}
use Rattle.nc_world_calls.proofs.Arriving.{unsent, begun_unsent}

-- second edges are asked
behind_outs : (time k : ℕ) (c : List ℕ) (e : Edge) (b : Board) → Appends IsOut b.facts (edge_behind time k c e b).facts
behind_outs time k c e b = by (is_behind time e)
  where
    by : (t : Bool) → Appends IsOut b.facts (cond t (asked_edge k c time b) b).facts
    by true = one_fact IsOut b.facts _ tt
    by false = same_facts IsOut b.facts

behinds_outs : (time k : ℕ) (list : List (List ℕ)) (j : ℕ) (edges : List Edge) (b : Board) → Appends IsOut b.facts (edges_behind time k list j edges b).facts
behinds_outs time k list j [] b = same_facts IsOut b.facts
behinds_outs time k list j (e ∷ edges) b =
    then_facts IsOut b.facts (edge_behind time k (slice_index_or list j []) e b).facts _ (behind_outs time k (slice_index_or list j []) e b) (behinds_outs time k list (j + 1) edges (edge_behind time k (slice_index_or list j []) e b))

-- each edge of a subscriber was answered
all_unsent : (cursor : Option CursorAt) (r : Reader) (list : List (List ℕ)) (edges : List Edge) (b : Board) → Appends IsUnsent b.facts (answered_all cursor r list edges b).facts
all_unsent None r list edges b = by (is_any_behind (newest_cursor edges).time edges)
  where
    by : (t : Bool) → Appends IsUnsent b.facts (second_by t r list edges (newest_cursor edges) b).facts
    by true = unsent b.facts (edges_behind (newest_cursor edges).time r.k list 0 edges b).facts (behinds_outs (newest_cursor edges).time r.k list 0 edges b)
    by false = begun_unsent r (record { list = list; cursor = newest_cursor edges }) b
all_unsent (Some cursor) r list edges b = begun_unsent r (record { list = list; cursor = cursor }) b

goes_unsent : (s : StartingAt) (b : Board) → Appends IsUnsent b.facts (went_on s b).facts
goes_unsent s b = by (is_any_awaited s.edges)
  where
    by : (t : Bool) → Appends IsUnsent b.facts (cond t (parked s b) (answered_all s.cursor s.reader s.list s.edges b)).facts
    by true = same_facts IsUnsent b.facts
    by false = all_unsent s.cursor s.reader s.list s.edges b

heard_unsent : (place : Option ℕ) (edge : Edge) (s : StartingAt) (b : Board) → Appends IsUnsent b.facts (edge_heard_at place edge s b).facts
heard_unsent None edge s b = same_facts IsUnsent b.facts
heard_unsent (Some j) edge s b = goes_unsent (with_edge j edge s) b

edge_unsent : (number : ℕ) (edge : Edge) (b : Board) → Appends IsUnsent b.facts (edge_answered number edge b).facts
edge_unsent number edge b = by (find (start_awaits number) b.starts)
  where
    by : (x : Option StartingAt) → Appends IsUnsent b.facts (edge_answered_by x number edge (record b { starts = without_first (start_awaits number) b.starts })).facts
    by None = same_facts IsUnsent b.facts
    by (Some x) = heard_unsent (edge_awaiting number x.edges) edge x (record b { starts = without_first (start_awaits number) b.starts })

pub edge_sends_nothing : EdgeSendsNothing
edge_sends_nothing workers me next number floor last s h good =
    let a = edge_unsent number (Known last floor) (board_of s) in
    subst (Along (IsGoodSend workers)) (written_is me Answered next (edge_facts number floor last s) h)
    (unsent_written workers me Answered next (edge_facts number floor last s) h (subst (AllByRecursion IsUnsent) (sym a.are) a.all) good)
