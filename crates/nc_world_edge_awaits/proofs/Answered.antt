-- Nothing awaits an edge once its answer came.
use Rattle.std.proofs.Common.{◌≡◌, ℕ, suc, ◌+◌, ◌<◌, ◌≤◌, Bool, true, false, cond, ◌||◌, List, [], ◌∷◌, Option, refl, ap, subst, Some, None, find, set, not, length, nat_lt, arith}
use Rattle.std.proofs.lemmas.Bool.Decides.{nat_tests}
use Rattle.std.specs.List.{list_any, position_or_len}
use Rattle.nc_types.specs.Id.{Id}
use Rattle.nc_types.specs.Cursor.{CursorAt}
use Rattle.nc_spool_state.specs.declared.spool.Reader.{Reader}
use Rattle.nc_spool_state.specs.declared.edge.Edge.{Edge}
use Rattle.nc_spool_state.specs.declared.edge.Edge.TheVariants.{Known}
use Rattle.nc_spool.specs.declared.fact.Fact.TheVariants.{Started}
use Rattle.nc_spool.specs.declared.board.Board.{Board}
use Rattle.nc_spool_state.specs.Key.{KeyAt}
use Rattle.nc_spool_state.specs.Shelf.{without_first}
use Rattle.nc_spool_state.specs.Edge.{is_edge, is_any_awaited, is_any_behind, edge_awaiting, newest_time, newest_cursor}
use Rattle.nc_spool_state.specs.Starting.{StartingAt, with_edge, start_awaits}
use Rattle.nc_spool.specs.Board.{told}
use Rattle.nc_spool.specs.Newest.{edges_behind, behind_edges, begun, parked, second_by, answered_all, went_on, edge_heard_at, edge_answered, edge_answered_by}
use Rattle.nc_spool_laws.specs.Attended.{AnyLast, AnyKey, AnyNews, AnyAnswer, AnyFind}
use Rattle.nc_spool_laws.specs.Numbers.{one, total, edge_at, edges_of}
use Rattle.nc_spool_laws.proofs.Totals.{total-without}
use Rattle.nc_spool_laws.proofs.Lists.{none-without, found-passes}
use Rattle.nc_spool_laws.proofs.Walk.{entered-kept}
use Rattle.nc_world_edge_awaits.proofs.Few.{IsFew, FewBeside, FewApart, sends, closed}

module _ (n : ℕ) where
  none_here : (edges : List Edge) → list_any (is_edge n) edges ≡ false → total (edge_at n) edges ≡ 0
  none_here [] e = refl
  none_here (x ∷ edges) e = by (is_edge n x) e (none_here edges)
    where
      by : (t : Bool) → (t || list_any (is_edge n) edges) ≡ false → (list_any (is_edge n) edges ≡ false → total (edge_at n) edges ≡ 0) → one t + total (edge_at n) edges ≡ 0
      by true e rest = absurd cc
      by false e rest = let r = rest e in omega (arith, r)

  some_here : (edges : List Edge) → list_any (is_edge n) edges ≡ true → 1 ≤ total (edge_at n) edges
  some_here [] e = absurd cc
  some_here (x ∷ edges) e = by (is_edge n x) e (some_here edges)
    where
      by : (t : Bool) → (t || list_any (is_edge n) edges) ≡ true → (list_any (is_edge n) edges ≡ true → 1 ≤ total (edge_at n) edges) → 1 ≤ one t + total (edge_at n) edges
      by true e rest = omega arith
      by false e rest = let r = rest e in omega (arith, r)

  none_awaits : (starts : List StartingAt) → find (start_awaits n) starts ≡ None → total (edges_of n) starts ≡ 0
  none_awaits [] e = refl
  none_awaits (s ∷ starts) e = by (start_awaits n s) refl e (none_awaits starts)
    where
      by : (t : Bool) → start_awaits n s ≡ t → cond t (Some s) (find (start_awaits n) starts) ≡ None → (find (start_awaits n) starts ≡ None → total (edges_of n) starts ≡ 0) → edges_of n s + total (edges_of n) starts ≡ 0
      by true a e rest = absurd cc
      by false a e rest = let r = rest e in omega (arith, r, none_here s.edges a)

  abbrev first_of : List Edge → ℕ
  first_of edges = position_or_len (is_edge n) edges

  -- the edge that awaits it, once it awaits something else
  placed : (x : Edge) (edges : List Edge) → edge_at n x ≡ 0 → first_of edges < length edges → total (edge_at n) (set edges (first_of edges) x) + 1 ≡ total (edge_at n) edges
  placed x [] none l = absurd (omega (arith, l))
  placed x (y ∷ edges) none l = by (is_edge n y) refl l (placed x edges none)
    where
      by : (t : Bool) → is_edge n y ≡ t → cond (not t) (1 + first_of edges) 0 < suc (length edges) → (first_of edges < length edges → total (edge_at n) (set edges (first_of edges) x) + 1 ≡ total (edge_at n) edges)
          → total (edge_at n) (set (y ∷ edges) (cond (not t) (1 + first_of edges) 0) x) + 1 ≡ edge_at n y + total (edge_at n) edges
      by true a l go = let here : edge_at n y ≡ 1 = ap one a in omega (arith, none, here)
      by false a l go =
          let rest = go (omega (arith, l)) in
          let here : edge_at n y ≡ 0 = ap one a in
          let next : suc (first_of edges) ≡ 1 + first_of edges = omega arith in
          subst (λ (i : ℕ). total (edge_at n) (set (y ∷ edges) i x) + 1 ≡ edge_at n y + total (edge_at n) edges) next (omega (arith, rest, here))

  unplaced : (edges : List Edge) → (first_of edges < length edges → ⊥) → list_any (is_edge n) edges ≡ false
  unplaced [] out = refl
  unplaced (x ∷ edges) out = by (is_edge n x) out (unplaced edges)
    where
      by : (t : Bool) → (cond (not t) (1 + first_of edges) 0 < suc (length edges) → ⊥) → ((first_of edges < length edges → ⊥) → list_any (is_edge n) edges ≡ false) → (t || list_any (is_edge n) edges) ≡ false
      by true out go = absurd (out (omega arith))
      by false out go = go (λ l. out (omega (arith, l)))

  -- where the edge was found
  found_at : (first len j : ℕ) (b : Bool) → nat_lt first len ≡ b → cond b (Some first) None ≡ Some j → (first ≡ j) × (first < len)
  found_at first len j true a e = let same : first ≡ j = cc in let less : first < len = grind (arith, nat_tests) in (same, less)
  found_at first len j false a e = absurd cc

  missed_at : (first len : ℕ) (b : Bool) → nat_lt first len ≡ b → cond b (Some first) None ≡ None → first < len → ⊥
  missed_at first len true a e l = cc
  missed_at first len false a e l = grind (arith, nat_tests)

  -- a subscriber goes on
  module _ (k : ℕ) where
    begun_few : (r : Reader) (key : KeyAt) (b : Board) → IsFew n k b → IsFew n k (begun r key b)
    begun_few r key b i = entered-kept AnyNews AnyAnswer AnyLast AnyKey AnyFind (IsFew n k) (FewBeside n k) (FewApart n k) (sends n k) key r (told (Started r.k key.cursor) b) tt i

    second_few : (t : Bool) (s : StartingAt) (b : Board) → FewApart n k s b → IsFew n k (second_by t s.reader s.list s.edges (newest_cursor s.edges) b)
    second_few true s b i =
        (closed n k).put_start (record s { edges = behind_edges (newest_time s.edges) s.reader.k s.list 0 s.edges b; cursor = Some (newest_cursor s.edges) }) (edges_behind (newest_time s.edges) s.reader.k s.list 0 s.edges b)
        ((closed n k).fence_edges s b i)
    second_few false s b i = begun_few s.reader (record { list = s.list; cursor = newest_cursor s.edges }) b ((closed n k).drop_start s b i)

    went_on_few : (s : StartingAt) (b : Board) → FewApart n k s b → IsFew n k (went_on s b)
    went_on_few s b i = by (is_any_awaited s.edges)
      where
        all : (o : Option CursorAt) → IsFew n k (answered_all o s.reader s.list s.edges b)
        all None = second_few (is_any_behind (newest_cursor s.edges).time s.edges) s b i
        all (Some cursor) = begun_few s.reader (record { list = s.list; cursor = cursor }) b ((closed n k).drop_start s b i)

        by : (t : Bool) → IsFew n k (cond t (parked s b) (answered_all s.cursor s.reader s.list s.edges b))
        by true = (closed n k).put_start s b i
        by false = all s.cursor

  pub answered_few : (floor : ℕ) (last : Id) (b : Board) → n < b.next → total (edges_of n) b.starts ≤ 1 → total (edges_of n) (edge_answered n (Known last floor) b).starts ≤ 0
  answered_few floor last b drawn once = (by (find (start_awaits n) b.starts) refl).1
    where
      others : Board
      others = record b { starts = without_first (start_awaits n) b.starts }

      at : (s : StartingAt) → find (start_awaits n) b.starts ≡ Some s → (o : Option ℕ) → edge_awaiting n s.edges ≡ o → IsFew n 0 (edge_heard_at o (Known last floor) s others)
      at s was None e = absurd (clash (some_here s.edges (found-passes (start_awaits n) b.starts s was)) (none_here s.edges (unplaced s.edges (missed_at (first_of s.edges) (length s.edges) (nat_lt (first_of s.edges) (length s.edges)) refl e))))
        where
          clash : 1 ≤ total (edge_at n) s.edges → total (edge_at n) s.edges ≡ 0 → ⊥
          clash some none = absurd (omega (arith, some, none))
      at s was (Some j) e =
          let found = found_at (first_of s.edges) (length s.edges) j (nat_lt (first_of s.edges) (length s.edges)) refl e in
          let less = placed (Known last floor) s.edges refl found.1 in
          let few : total (edge_at n) (set s.edges j (Known last floor)) + total (edges_of n) others.starts ≤ 0
          = subst (λ (i : ℕ). total (edge_at n) (set s.edges i (Known last floor)) + total (edges_of n) others.starts ≤ 0) found.0 (omega (arith, less, once, total-without (edges_of n) (start_awaits n) b.starts s was)) in
          went_on_few 0 (with_edge j (Known last floor) s) others (drawn, few)

      by : (o : Option StartingAt) → find (start_awaits n) b.starts ≡ o → IsFew n 0 (edge_answered_by o n (Known last floor) others)
      by None was = (drawn, subst (λ (l : List StartingAt). total (edges_of n) l ≤ 0) (none-without (start_awaits n) b.starts was) (let none = none_awaits b.starts was in omega (arith, none)))
      by (Some s) was = at s was (edge_awaiting n s.edges) refl
