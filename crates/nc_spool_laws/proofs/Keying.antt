-- Each call leaves distinct names in each key, and a tag for each of them.
use Rattle.std.proofs.Common.{◌≡◌, ℕ, suc, ◌+◌, Bool, true, false, cond, List, [], ◌∷◌, refl, sym, subst, ap, ◌∙◌, Option, Some, IfSome, find, length, length-set, ◌==◌}
use Rattle.std.specs.Prelude.{slice_index_or}
use Rattle.std.specs.List.{AllByRecursion}
use Rattle.std.proofs.lemmas.List.{length-replicate, length-map}
use Rattle.nc_types.specs.Cursor.{CursorAt, tags_at, blank_tags}
use Rattle.nc_spool_state.specs.declared.choice.Find.{Find}
use Rattle.nc_spool_state.specs.declared.edge.Edge.{Edge}
use Rattle.nc_spool_state.specs.declared.edge.Edge.TheVariants.{Known}
use Rattle.nc_spool.specs.declared.board.Board.{Board}
use Rattle.nc_spool_state.specs.Key.{KeyAt}
use Rattle.nc_spool_state.specs.Shelf.{place_before}
use Rattle.nc_spool_state.specs.Edge.{edge_tag, newest_time, newest_cursor}
use Rattle.nc_spool_state.specs.Starting.{StartingAt}
use Rattle.nc_spool.specs.Board.{asked_from}
use Rattle.nc_spool.specs.Decide.{moved_key, fence_looks}
use Rattle.nc_spool.specs.Newest.{fresh_edges, edges_from, behind_edges, edge_behind, edges_behind}
use Rattle.nc_spool_laws.proofs.Closing.{IsClosed}
use Rattle.nc_spool_laws.specs.Attended.{AnyNews, AnyAnswer, AnyLast}
use Rattle.nc_spool_laws.specs.Keys.{IsFitting, SpoolFits, StartFits, AllFit, FitsBeside, FitsApart, FindFits, KeepsKeys}
use Rattle.nc_spool_laws.proofs.Lists.{all-append, all-insert, all-without, all-found}
use Rattle.nc_spool_laws.proofs.Same.{asked-shelf, asked-starts, fences-shelf, fences-starts, edges-shelf, edges-starts, behinds-shelf, behinds-starts}
use Rattle.nc_spool_laws.proofs.Walk.{all-kept}

-- a board with the same spools and starts
same-fit : (b c : Board) → c.shelf ≡ b.shelf → c.starts ≡ b.starts → AllFit b → AllFit c
same-fit b c shelf starts i = (subst (AllByRecursion SpoolFits) (sym shelf) i.0, subst (AllByRecursion StartFits) (sym starts) i.1)

-- a moved cursor has as many tags
tags_at-length : (cursor : CursorAt) (later : ℕ) → length (tags_at cursor.tags cursor.time later) ≡ length cursor.tags
tags_at-length cursor later = by (later == cursor.time)
  where
    by : (t : Bool) → length (cond t cursor.tags (blank_tags cursor.tags)) ≡ length cursor.tags
    by true = refl
    by false = length-replicate (length cursor.tags) _

moved-fits : (find : Find) (key : KeyAt) → IsFitting key → IsFitting (moved_key find key)
moved-fits find key i = record {
  distinct = i.distinct;
  tags = length-set (tags_at key.cursor.tags key.cursor.time find.id.time) find.place find.id.tag ∙ tags_at-length key.cursor find.id.time ∙ i.tags;
}

fresh-length : (n : ℕ) (names : List (List ℕ)) → length (fresh_edges n names) ≡ length names
fresh-length n [] = refl
fresh-length n (c ∷ names) = ap suc (fresh-length (n + 1) names)

behind-length : (time k : ℕ) (list : List (List ℕ)) (j : ℕ) (edges : List Edge) (b : Board) → length (behind_edges time k list j edges b) ≡ length edges
behind-length time k list j [] b = refl
behind-length time k list j (e ∷ edges) b = ap suc (behind-length time k list (j + 1) edges (edge_behind time k (slice_index_or list j []) e b))

newest-length : (s : StartingAt) → StartFits s → length (newest_cursor s.edges).tags ≡ length s.list
newest-length s i = length-map s.edges (edge_tag (newest_time s.edges)) ∙ i.edges

cursor-fits : (cursor : CursorAt) (s : StartingAt) → s.cursor ≡ Some cursor → StartFits s → IsFitting (record { list = s.list; cursor = cursor })
cursor-fits cursor s was i = record { distinct = i.distinct; tags = subst (λ (o : Option CursorAt). IfSome o (λ c. length c.tags ≡ length s.list)) was i.tags }

keys-closed : IsClosed AnyNews AnyAnswer AnyLast IsFitting FindFits AllFit FitsBeside FitsApart
keys-closed = record {
  sends = record {
    part = λ k c b i. i;
    end = λ k deleted b i. i;
    ready = λ find s b was i. i.0;
    send = λ find s r b ready i. i;
    take = λ test s b was i. (all-found SpoolFits test b.shelf s was i.0, (all-without SpoolFits test b.shelf i.0, i.1));
    put = λ s b i. (all-insert SpoolFits b.shelf (place_before s.key b.shelf) s i.0 i.1.0, i.1.1);
    drop = λ s b i. i.1;
    open_new = λ key r b none fits i. (fits, same-fit b (asked_from key 0 key.list b) (asked-shelf key 0 key.list b) (asked-starts key 0 key.list b) i);
    fits = λ find s ready. moved-fits find s.key ready;
    enter = λ r s b i. i;
    fence = λ time s b was unasked i. (i.0, same-fit b (fence_looks time s.key 0 s.places b) (fences-shelf time s.key 0 s.places b) (fences-starts time s.key 0 s.places b) i.1);
  };
  join = λ k c b i. i;
  start = λ k cursor b i. i;
  leave = λ k s b i some. i;
  look = λ c j s b at i. i;
  forget = λ c j n quiet s b at was i. i;
  quieten = λ number j quiet news s b at right nothing i. i;
  discover = λ number j quiet news s b at right past i. i;
  hear = λ c j quiet news s b at rests good past i. i;
  take_start = λ test s b was i. (all-found StartFits test b.starts s was i.1, (i.0, all-without StartFits test b.starts i.1));
  put_start = λ s b i. (i.1.0, all-append StartFits b.starts (s ∷ []) i.1.1 (i.0, tt));
  drop_start = λ s b i. i.1;
  new_start = λ r list b fits i. (record { distinct = fits.distinct; edges = fresh-length b.next list; tags = tt }, same-fit b (edges_from r.k list b) (edges-shelf r.k list b) (edges-starts r.k list b) i);
  hear_edge = λ j floor last s b told i. (record { distinct = i.0.distinct; edges = length-set s.edges j (Known last floor) ∙ i.0.edges; tags = i.0.tags }, i.1);
  newest_fits = λ s b i. record { distinct = i.0.distinct; tags = newest-length s i.0 };
  cursor_fits = λ cursor s b was i. cursor-fits cursor s was i.0;
  fence_edges = λ s b i. (
    record {
      distinct = i.0.distinct;
      edges = behind-length (newest_time s.edges) s.reader.k s.list 0 s.edges b ∙ i.0.edges;
      tags = newest-length s i.0;
    },
    same-fit b (edges_behind (newest_time s.edges) s.reader.k s.list 0 s.edges b) (behinds-shelf (newest_time s.edges) s.reader.k s.list 0 s.edges b) (behinds-starts (newest_time s.edges) s.reader.k s.list 0 s.edges b) i.1,
  );
}

pub keys-kept : KeepsKeys
keys-kept = all-kept AnyNews AnyAnswer AnyLast IsFitting FindFits AllFit FitsBeside FitsApart keys-closed
