-- A number that was drawn is awaited no more often later.
use Rattle.std.proofs.Common.{◌≡◌, ℕ, zero, suc, ◌+◌, ◌<◌, ◌≤◌, Bool, true, false, cond, List, [], ◌∷◌, refl, sym, ap, ◌∙◌, Some, None, find, set, get_or, nat_lt, arith, ◌==◌}
use Rattle.std.specs.Prelude.{slice_index_or}
use Rattle.std.proofs.lemmas.Bool.Decides.{nat_tests}
use Rattle.nc_spool_state.specs.declared.place.Quiet.{Quiet}
use Rattle.nc_spool_state.specs.declared.place.Place.{Place}
use Rattle.nc_spool_state.specs.declared.place.Place.TheVariants.{Asked, Nothing, Found}
use Rattle.nc_spool_state.specs.declared.edge.Edge.{Edge}
use Rattle.nc_spool.specs.declared.board.Board.{Board}
use Rattle.nc_spool_state.specs.Key.{KeyAt, name_at, id_at}
use Rattle.nc_spool_state.specs.Spool.{SpoolAt, no_place, place_at, with_place}
use Rattle.nc_spool_state.specs.Shelf.{place_before}
use Rattle.nc_spool_state.specs.Edge.{is_behind, newest_time}
use Rattle.nc_spool_state.specs.Choice.{is_below}
use Rattle.nc_spool_state.specs.Starting.{StartingAt}
use Rattle.nc_spool.specs.Board.{looked, asked_from, fresh_places}
use Rattle.nc_spool.specs.Decide.{fenced_places, fence_look, fence_looks}
use Rattle.nc_spool.specs.Newest.{edges_from, asked_edge, edge_behind, edges_behind}
use Rattle.nc_spool_laws.specs.Closed.{IsKept}
use Rattle.nc_spool_laws.proofs.Closing.{IsSending, IsClosed}
use Rattle.nc_spool_laws.specs.Attended.{AnyLast, AnyKey, AnyNews, AnyAnswer, AnyFind}
use Rattle.nc_spool_laws.specs.Numbers.{one, total, look_at, looks_of}
use Rattle.nc_spool_laws.proofs.Totals.{total-insert, total-without, total-set, total-same}
use Rattle.nc_spool_laws.proofs.Same.{asked-shelf, fences-shelf, edges-shelf, behinds-shelf}
use Rattle.nc_spool_laws.proofs.Walk.{all-kept}

-- the next number never falls
asked_next : (key : KeyAt) (j : ℕ) (names : List (List ℕ)) (b : Board) → b.next ≤ (asked_from key j names b).next
asked_next key j [] b = omega arith
asked_next key j (c ∷ names) b = omega (arith, asked_next key (j + 1) names (looked c (id_at key j) 0 b))

either_next : (t : Bool) (m : ℕ) (x y : Board) → m ≤ x.next → m ≤ y.next → m ≤ (cond t x y).next
either_next true m x y p q = p
either_next false m x y p q = q

fences_next : (time : ℕ) (key : KeyAt) (j : ℕ) (places : List Place) (b : Board) → b.next ≤ (fence_looks time key j places b).next
fences_next time key j [] b = omega arith
fences_next time key j (p ∷ places) b =
    omega (arith, fences_next time key (j + 1) places (fence_look time key j p b), either_next (is_below time p) b.next (looked (name_at key j) (id_at key j) time b) b (omega arith) (omega arith))

edges_next : (k : ℕ) (names : List (List ℕ)) (b : Board) → b.next ≤ (edges_from k names b).next
edges_next k [] b = omega arith
edges_next k (c ∷ names) b = omega (arith, edges_next k names (asked_edge k c 0 b))

behinds_next : (time k : ℕ) (list : List (List ℕ)) (j : ℕ) (edges : List Edge) (b : Board) → b.next ≤ (edges_behind time k list j edges b).next
behinds_next time k list j [] b = omega arith
behinds_next time k list j (e ∷ edges) b =
    omega (arith, behinds_next time k list (j + 1) edges (edge_behind time k (slice_index_or list j []) e b), either_next (is_behind time e) b.next (asked_edge k (slice_index_or list j []) time b) b (omega arith) (omega arith))

module _ (n : ℕ) where
  drawn_other : (m : ℕ) → n < m → one (m == n) ≡ 0
  drawn_other m l = by (m == n) refl
    where
      by : (b : Bool) → (m == n) ≡ b → one b ≡ 0
      by true e = absurd (grind (arith, nat_tests))
      by false e = refl

  fresh_none : (m : ℕ) (names : List (List ℕ)) → n < m → total (look_at n) (fresh_places m names) ≡ 0
  fresh_none m [] l = refl
  fresh_none m (c ∷ names) l = omega (arith, drawn_other m l, fresh_none (m + 1) names (omega (arith, l)))

  fenced_few : (time : ℕ) (key : KeyAt) (j : ℕ) (places : List Place) (b : Board) → n < b.next → total (look_at n) (fenced_places time key j places b) ≤ total (look_at n) places
  fenced_few time key j [] b l = omega arith
  fenced_few time key j (Asked number earlier ∷ places) b l = omega (arith, fenced_few time key (j + 1) places b l)
  fenced_few time key j (Found q id owner g ∷ places) b l = omega (arith, fenced_few time key (j + 1) places b l)
  fenced_few time key j (Nothing quiet ∷ places) b l =
      by (nat_lt quiet.floor time) (fenced_few time key (j + 1) places (looked (name_at key j) (id_at key j) time b) (omega (arith, l))) (fenced_few time key (j + 1) places b l)
    where
      by : (t : Bool) → total (look_at n) (fenced_places time key (j + 1) places (looked (name_at key j) (id_at key j) time b)) ≤ total (look_at n) places → total (look_at n) (fenced_places time key (j + 1) places b) ≤ total (look_at n) places
          → look_at n (cond t (Asked b.next (Some quiet)) (Nothing quiet)) + total (look_at n) (fenced_places time key (j + 1) places (cond t (looked (name_at key j) (id_at key j) time b) b)) ≤ 0 + total (look_at n) places
      by true some none = omega (arith, drawn_other b.next l, some)
      by false some none = omega (arith, none)

  module _ (k : ℕ) where
    -- the number was drawn, and is awaited so often at most
    abbrev pub IsFew : Board → Type 0
    IsFew b = (n < b.next) × (total (looks_of n) b.shelf ≤ k)

    abbrev pub FewBeside : SpoolAt → Board → Type 0
    FewBeside s b = (n < b.next) × (looks_of n s + total (looks_of n) b.shelf ≤ k)

    abbrev pub FewApart : StartingAt → Board → Type 0
    FewApart s b = IsFew b

    on_shelf : (b c : Board) → b.next ≤ c.next → c.shelf ≡ b.shelf → IsFew b → IsFew c
    on_shelf b c le same i = let e = ap (total (looks_of n)) same in let few = i.1 in let drawn = i.0 in (omega (arith, drawn, le), omega (arith, e, few))

    set_few : (j : ℕ) (p : Place) (s : SpoolAt) (b : Board) → look_at n p ≡ 0 → FewBeside s b → FewBeside (with_place j p s) b
    set_few j p s b none i = let few = i.1 in (i.0, omega (arith, none, few, total-set (look_at n) s.places j p))

    pub sends : IsSending AnyNews AnyAnswer AnyLast AnyKey AnyFind IsFew FewBeside FewApart
    sends = record {
      part = λ m c b i. i;
      end = λ m deleted b i. i;
      ready = λ find s b was i. tt;
      send = λ find s r b ready i. i;
      take = λ test s b was i. let few = i.1 in (i.0, omega (arith, few, total-without (looks_of n) test b.shelf s was));
      put = λ s b i. let few = i.1 in (i.0, omega (arith, few, total-insert (looks_of n) b.shelf (place_before s.key b.shelf) s));
      drop = λ s b i. let few = i.1 in (i.0, omega (arith, few));
      open_new = λ key r b none fits i.
          let few = i.1 in
          let drawn = i.0 in (
            omega (arith, drawn, asked_next key 0 key.list b),
            omega (arith, few, fresh_none b.next key.list drawn, ap (total (looks_of n)) (asked-shelf key 0 key.list b)),
          );
      fits = λ find s ready. tt;
      enter = λ r s b i. i;
      fence = λ time s b was unasked i.
          let few = i.1 in
          let drawn = i.0 in (
            omega (arith, drawn, fences_next time s.key 0 s.places b),
            omega (arith, few, fenced_few time s.key 0 s.places b drawn, ap (total (looks_of n)) (fences-shelf time s.key 0 s.places b)),
          );
    }

    closed : IsClosed AnyNews AnyAnswer AnyLast AnyKey AnyFind IsFew FewBeside FewApart
    closed = record {
      sends = sends;
      join = λ m c b i. i;
      start = λ m cursor b i. i;
      leave = λ m s b i some. i;
      look = λ c j s b at i. let few = i.1 in let drawn = i.0 in (omega (arith, drawn), omega (arith, few, drawn_other b.next drawn, total-set (look_at n) s.places j (Asked b.next None)));
      forget = λ c j m quiet s b at was i.
          let few = i.1 in
          let stood : look_at n (get_or s.places j no_place) ≡ one (m == n) = ap (look_at n) was in
          (i.0, omega (arith, few, total-same (look_at n) s.places j (Asked m None) no_place (omega (arith, stood))));
      quieten = λ number j quiet news s b at right nothing i. set_few j _ s b refl i;
      discover = λ number j quiet news s b at right later i. set_few j _ s b refl i;
      hear = λ c j quiet news s b at rests good later i. set_few j _ s b refl i;
      take_start = λ test s b was i. i;
      put_start = λ s b i. i;
      drop_start = λ s b i. i;
      new_start = λ r list b fits i. on_shelf b (edges_from r.k list b) (edges_next r.k list b) (edges-shelf r.k list b) i;
      hear_edge = λ j floor last s b told i. i;
      newest_fits = λ s b i. tt;
      cursor_fits = λ cursor s b was i. tt;
      fence_edges = λ s b i.
          on_shelf b (edges_behind (newest_time s.edges) s.reader.k s.list 0 s.edges b) (behinds_next (newest_time s.edges) s.reader.k s.list 0 s.edges b) (behinds-shelf (newest_time s.edges) s.reader.k s.list 0 s.edges b) i;
    }

    pub few_kept : IsKept AnyNews AnyAnswer AnyLast AnyKey AnyFind IsFew FewBeside FewApart
    few_kept = all-kept AnyNews AnyAnswer AnyLast AnyKey AnyFind IsFew FewBeside FewApart closed
