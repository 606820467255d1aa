-- Starts of subscribers keep the order, and so does the answer to an edge.
use Rattle.std.proofs.Common.{◌≡◌, ℕ, ◌+◌, Bool, true, false, cond, List, [], ◌∷◌, Option, Some, None, refl, sym, subst, find}
use Rattle.std.specs.Prelude.{slice_index_or}
use Rattle.nc_types.specs.Cursor.{CursorAt}
use Rattle.nc_types.specs.declared.start.Start.TheVariants.{Newest}
use Rattle.nc_journal.specs.History.{own}
use Rattle.nc_journal.specs.Standing.{Starting, IsStarting, stage_of}
use Rattle.nc_journal.specs.declared.event.Event.{Event}
use Rattle.nc_journal.specs.declared.word.EndedCause.TheVariants.{Answered}
use Rattle.nc_spool_state.specs.declared.edge.Edge.{Edge}
use Rattle.nc_spool_state.specs.declared.edge.Edge.TheVariants.{Known}
use Rattle.nc_spool_state.specs.declared.spool.Reader.{Reader}
use Rattle.nc_spool_state.specs.Edge.{is_behind, is_any_awaited, is_any_behind, edge_awaiting, newest_cursor}
use Rattle.nc_spool_state.specs.Key.{KeyAt}
use Rattle.nc_spool_state.specs.Shelf.{without_first}
use Rattle.nc_spool_state.specs.Starting.{StartingAt, with_edge, start_awaits}
use Rattle.nc_spool.specs.declared.fact.Fact.TheVariants as facts
use Rattle.nc_spool.specs.declared.board.Board.{Board}
use Rattle.nc_spool.specs.Board.{told as tells, entered}
use Rattle.nc_spool.specs.Newest.{asked_edge, edges_from, edge_behind, edges_behind, begun, parked, second_by, answered_all, went_on, edge_heard_at, edge_answered_by}
use Rattle.nc_spool.specs.Calls.{board_of, edge_facts}
use Rattle.nc_spool_laws.proofs.Lists.{all-found}
use Rattle.nc_world_told.specs.Written.{written, so_far}
use Rattle.nc_world_told.proofs.Written.{written_is, written_append}
use Rattle.nc_world_told.proofs.Sends.{Appends, IsOut, same_facts, one_fact, then_facts, entered_outs}
use Rattle.nc_world_ordered.specs.Orderly.{IsOrderly, EdgeOrderly}
use Rattle.nc_world_ordered.proofs.Orders.{started_orderly}
use Rattle.nc_world_ordered.proofs.Deciding.{outs_orderly}

-- ---- edges that are asked

pub edges_outs : (k : ℕ) (names : List (List ℕ)) (b : Board) → Appends IsOut b.facts (edges_from k names b).facts
edges_outs k [] b = same_facts IsOut b.facts
edges_outs k (c ∷ names) b = then_facts IsOut b.facts (asked_edge k c 0 b).facts _ (one_fact IsOut b.facts _ tt) (edges_outs k names (asked_edge k c 0 b))

behind_outs : (time k : ℕ) (c : List ℕ) (e : Edge) (b : Board) → Appends IsOut b.facts (edge_behind time k c e b).facts
behind_outs time k c e b = by (is_behind time e)
  where
    by : (t : Bool) → Appends IsOut b.facts (cond t (asked_edge k c time b) b).facts
    by true = one_fact IsOut b.facts _ tt
    by false = same_facts IsOut b.facts

behinds_outs : (time k : ℕ) (list : List (List ℕ)) (j : ℕ) (edges : List Edge) (b : Board) → Appends IsOut b.facts (edges_behind time k list j edges b).facts
behinds_outs time k list j [] b = same_facts IsOut b.facts
behinds_outs time k list j (e ∷ edges) b =
    then_facts IsOut b.facts (edge_behind time k (slice_index_or list j []) e b).facts _ (behind_outs time k (slice_index_or list j []) e b) (behinds_outs time k list (j + 1) edges (edge_behind time k (slice_index_or list j []) e b))

module _ (me : ℕ) (next : ℕ → ℕ) (h : List Event) where
  -- ---- one that is starting is started

  pub starts_orderly : (r : Reader) (key : KeyAt) (b : Board) → IsStarting (stage_of r.k (own me (so_far me Answered next h b))) → IsOrderly (so_far me Answered next h b) → IsOrderly (so_far me Answered next h (begun r key b))
  starts_orderly r key b starts o =
      outs_orderly me next h (tells (facts.Started r.k key.cursor) b).facts (entered key r (tells (facts.Started r.k key.cursor) b)).facts (entered_outs key r (tells (facts.Started r.k key.cursor) b))
      (subst IsOrderly (sym (written_append me Answered next b.facts (facts.Started r.k key.cursor ∷ []) h))
      (started_orderly me r.k key.cursor (written me Answered next b.facts h) starts o))

  -- ---- one of its edges was answered

  -- it is started once each was, or asks for second ones
  all_orderly : (cursor : Option CursorAt) (r : Reader) (list : List (List ℕ)) (edges : List Edge) (b : Board) → IsStarting (stage_of r.k (own me (so_far me Answered next h b))) → IsOrderly (so_far me Answered next h b)
      → IsOrderly (so_far me Answered next h (answered_all cursor r list edges b))
  all_orderly None r list edges b starts o = by (is_any_behind (newest_cursor edges).time edges)
    where
      by : (t : Bool) → IsOrderly (so_far me Answered next h (second_by t r list edges (newest_cursor edges) b))
      by true = outs_orderly me next h b.facts (edges_behind (newest_cursor edges).time r.k list 0 edges b).facts (behinds_outs (newest_cursor edges).time r.k list 0 edges b) o
      by false = starts_orderly r (record { list = list; cursor = newest_cursor edges }) b starts o
  all_orderly (Some cursor) r list edges b starts o = starts_orderly r (record { list = list; cursor = cursor }) b starts o

  goes_orderly : (s : StartingAt) (b : Board) → IsStarting (stage_of s.reader.k (own me (so_far me Answered next h b))) → IsOrderly (so_far me Answered next h b) → IsOrderly (so_far me Answered next h (went_on s b))
  goes_orderly s b starts o = by (is_any_awaited s.edges)
    where
      by : (t : Bool) → IsOrderly (so_far me Answered next h (cond t (parked s b) (answered_all s.cursor s.reader s.list s.edges b)))
      by true = o
      by false = all_orderly s.cursor s.reader s.list s.edges b starts o

  heard_orderly : (place : Option ℕ) (edge : Edge) (s : StartingAt) (b : Board) → IsStarting (stage_of s.reader.k (own me (so_far me Answered next h b))) → IsOrderly (so_far me Answered next h b)
      → IsOrderly (so_far me Answered next h (edge_heard_at place edge s b))
  heard_orderly None edge s b starts o = o
  heard_orderly (Some j) edge s b starts o = goes_orderly (with_edge j edge s) b starts o

pub edge_orderly : EdgeOrderly
edge_orderly me number floor last next h s start o = subst IsOrderly (written_is me Answered next (edge_facts number floor last s) h) (by (find (start_awaits number) s.starts) refl)
  where
    by : (x : Option StartingAt) → find (start_awaits number) s.starts ≡ x → IsOrderly (so_far me Answered next h (edge_answered_by x number (Known last floor) (record (board_of s) { starts = without_first (start_awaits number) s.starts })))
    by None was = o
    by (Some x) was =
        heard_orderly me next h (edge_awaiting number x.edges) (Known last floor) x (record (board_of s) { starts = without_first (start_awaits number) s.starts })
        (subst IsStarting (sym (all-found (λ (y : StartingAt). stage_of y.reader.k (own me h) ≡ Starting y.list y.reader.once Newest) (start_awaits number) s.starts x was start)) tt) o
