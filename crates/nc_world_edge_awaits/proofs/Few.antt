-- A number that was drawn is awaited by edges no more often later.
use Rattle.std.proofs.Common.{◌≡◌, ℕ, ◌+◌, ◌<◌, ◌≤◌, Bool, true, false, cond, List, [], ◌∷◌, refl, ap, arith, ◌==◌}
use Rattle.std.specs.Prelude.{slice_index_or}
use Rattle.std.proofs.lemmas.Bool.Decides.{nat_tests}
use Rattle.nc_spool_state.specs.declared.place.Place.{Place}
use Rattle.nc_spool_state.specs.declared.edge.Edge.{Edge}
use Rattle.nc_spool_state.specs.declared.edge.Edge.TheVariants.{Awaited, Known}
use Rattle.nc_spool.specs.declared.board.Board.{Board}
use Rattle.nc_spool_state.specs.Key.{KeyAt, name_at, id_at}
use Rattle.nc_spool_state.specs.Spool.{SpoolAt}
use Rattle.nc_spool_state.specs.Edge.{is_behind, newest_time}
use Rattle.nc_spool_state.specs.Choice.{is_below}
use Rattle.nc_spool_state.specs.Starting.{StartingAt}
use Rattle.nc_spool.specs.Board.{looked, asked_from}
use Rattle.nc_spool.specs.Decide.{fence_look, fence_looks}
use Rattle.nc_spool.specs.Newest.{fresh_edges, edges_from, asked_edge, edge_behind, edges_behind, behind_edges}
use Rattle.nc_spool_laws.specs.Closed.{IsKept}
use Rattle.nc_spool_laws.proofs.Closing.{IsSending, IsClosed}
use Rattle.nc_spool_laws.specs.Attended.{AnyLast, AnyKey, AnyNews, AnyAnswer, AnyFind}
use Rattle.nc_spool_laws.specs.Numbers.{one, total, edge_at, edges_of}
use Rattle.nc_spool_laws.proofs.Totals.{total-push, total-without, total-set}
use Rattle.nc_spool_laws.proofs.Same.{asked-starts, fences-starts, edges-starts, behinds-starts}
use Rattle.nc_spool_laws.proofs.Walk.{all-kept}

-- the next number never falls
asked_next : (key : KeyAt) (j : ℕ) (names : List (List ℕ)) (b : Board) → b.next ≤ (asked_from key j names b).next
asked_next key j [] b = omega arith
asked_next key j (c ∷ names) b = omega (arith, asked_next key (j + 1) names (looked c (id_at key j) 0 b))

either_next : (t : Bool) (m : ℕ) (x y : Board) → m ≤ x.next → m ≤ y.next → m ≤ (cond t x y).next
either_next true m x y p q = p
either_next false m x y p q = q

fences_next : (time : ℕ) (key : KeyAt) (j : ℕ) (places : List Place) (b : Board) → b.next ≤ (fence_looks time key j places b).next
fences_next time key j [] b = omega arith
fences_next time key j (p ∷ places) b =
    omega (arith, fences_next time key (j + 1) places (fence_look time key j p b), either_next (is_below time p) b.next (looked (name_at key j) (id_at key j) time b) b (omega arith) (omega arith))

edges_next : (k : ℕ) (names : List (List ℕ)) (b : Board) → b.next ≤ (edges_from k names b).next
edges_next k [] b = omega arith
edges_next k (c ∷ names) b = omega (arith, edges_next k names (asked_edge k c 0 b))

behinds_next : (time k : ℕ) (list : List (List ℕ)) (j : ℕ) (edges : List Edge) (b : Board) → b.next ≤ (edges_behind time k list j edges b).next
behinds_next time k list j [] b = omega arith
behinds_next time k list j (e ∷ edges) b =
    omega (arith, behinds_next time k list (j + 1) edges (edge_behind time k (slice_index_or list j []) e b), either_next (is_behind time e) b.next (asked_edge k (slice_index_or list j []) time b) b (omega arith) (omega arith))

module _ (n : ℕ) where
  drawn_other : (m : ℕ) → n < m → one (m == n) ≡ 0
  drawn_other m l = by (m == n) refl
    where
      by : (b : Bool) → (m == n) ≡ b → one b ≡ 0
      by true e = absurd (grind (arith, nat_tests))
      by false e = refl

  -- first edges draw other numbers
  fresh_none : (m : ℕ) (names : List (List ℕ)) → n < m → total (edge_at n) (fresh_edges m names) ≡ 0
  fresh_none m [] l = refl
  fresh_none m (c ∷ names) l = omega (arith, drawn_other m l, fresh_none (m + 1) names (omega (arith, l)))

  -- and so do second ones
  behind_few : (time k : ℕ) (list : List (List ℕ)) (j : ℕ) (edges : List Edge) (b : Board) → n < b.next → total (edge_at n) (behind_edges time k list j edges b) ≤ total (edge_at n) edges
  behind_few time k list j [] b l = omega arith
  behind_few time k list j (e ∷ edges) b l = by (is_behind time e) (behind_few time k list (j + 1) edges (asked_edge k (slice_index_or list j []) time b) (omega (arith, l))) (behind_few time k list (j + 1) edges b l)
    where
      by : (t : Bool) → total (edge_at n) (behind_edges time k list (j + 1) edges (asked_edge k (slice_index_or list j []) time b)) ≤ total (edge_at n) edges → total (edge_at n) (behind_edges time k list (j + 1) edges b) ≤ total (edge_at n) edges
          → edge_at n (cond t (Awaited b.next) e) + total (edge_at n) (behind_edges time k list (j + 1) edges (cond t (asked_edge k (slice_index_or list j []) time b) b)) ≤ edge_at n e + total (edge_at n) edges
      by true some none = omega (arith, drawn_other b.next l, some)
      by false some none = omega (arith, none)

  module _ (k : ℕ) where
    -- the number was drawn, and so many edges have it at most
    abbrev pub IsFew : Board → Type 0
    IsFew b = (n < b.next) × (total (edges_of n) b.starts ≤ k)

    abbrev pub FewBeside : SpoolAt → Board → Type 0
    FewBeside s b = IsFew b

    abbrev pub FewApart : StartingAt → Board → Type 0
    FewApart s b = (n < b.next) × (edges_of n s + total (edges_of n) b.starts ≤ k)

    same_starts : (b c : Board) → b.next ≤ c.next → c.starts ≡ b.starts → IsFew b → IsFew c
    same_starts b c le same i = let e = ap (total (edges_of n)) same in let few = i.1 in let drawn = i.0 in (omega (arith, drawn, le), omega (arith, e, few))

    pub sends : IsSending AnyNews AnyAnswer AnyLast AnyKey AnyFind IsFew FewBeside FewApart
    sends = record {
      part = λ m c b i. i;
      end = λ m deleted b i. i;
      ready = λ find s b was i. tt;
      send = λ find s r b ready i. i;
      take = λ test s b was i. i;
      put = λ s b i. i;
      drop = λ s b i. i;
      open_new = λ key r b none fits i. same_starts b (asked_from key 0 key.list b) (asked_next key 0 key.list b) (asked-starts key 0 key.list b) i;
      fits = λ find s ready. tt;
      enter = λ r s b i. i;
      fence = λ time s b was unasked i. same_starts b (fence_looks time s.key 0 s.places b) (fences_next time s.key 0 s.places b) (fences-starts time s.key 0 s.places b) i;
    }

    pub closed : IsClosed AnyNews AnyAnswer AnyLast AnyKey AnyFind IsFew FewBeside FewApart
    closed = record {
      sends = sends;
      join = λ m c b i. i;
      start = λ m cursor b i. i;
      leave = λ m s b i some. i;
      look = λ c j s b at i. let drawn = i.0 in (omega (arith, drawn), i.1);
      forget = λ c j m quiet s b at was i. i;
      quieten = λ number j quiet news s b at right nothing i. i;
      discover = λ number j quiet news s b at right later i. i;
      hear = λ c j quiet news s b at rests good later i. i;
      take_start = λ test s b was i. let few = i.1 in (i.0, omega (arith, few, total-without (edges_of n) test b.starts s was));
      put_start = λ s b i. let few = i.1 in (i.0, omega (arith, few, total-push (edges_of n) b.starts s));
      drop_start = λ s b i. let few = i.1 in (i.0, omega (arith, few));
      new_start = λ r list b fits i.
          let few = i.1 in
          let drawn = i.0 in (
            omega (arith, drawn, edges_next r.k list b),
            omega (arith, few, fresh_none b.next list drawn, ap (total (edges_of n)) (edges-starts r.k list b)),
          );
      hear_edge = λ j floor last s b told i. let few = i.1 in (i.0, omega (arith, few, total-set (edge_at n) s.edges j (Known last floor)));
      newest_fits = λ s b i. tt;
      cursor_fits = λ cursor s b was i. tt;
      fence_edges = λ s b i.
          let few = i.1 in
          let drawn = i.0 in (
            omega (arith, drawn, behinds_next (newest_time s.edges) s.reader.k s.list 0 s.edges b),
            omega (arith, few, behind_few (newest_time s.edges) s.reader.k s.list 0 s.edges b drawn, ap (total (edges_of n)) (behinds-starts (newest_time s.edges) s.reader.k s.list 0 s.edges b)),
          );
    }

    pub few_kept : IsKept AnyNews AnyAnswer AnyLast AnyKey AnyFind IsFew FewBeside FewApart
    few_kept = all-kept AnyNews AnyAnswer AnyLast AnyKey AnyFind IsFew FewBeside FewApart closed
