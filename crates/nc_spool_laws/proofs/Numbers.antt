-- Each call keeps the awaited numbers apart and below the next one.
use Rattle.std.proofs.Common.{◌≡◌, ℕ, ◌+◌, ◌<◌, ◌≤◌, Bool, true, false, cond, List, [], ◌∷◌, refl, ap, ◌∙◌, Some, None, find, set, get_or, nat_lt, arith, ◌==◌}
use Rattle.std.specs.Prelude.{slice_index_or}
use Rattle.std.proofs.lemmas.Bool.Decides.{nat_tests}
use Rattle.nc_types.specs.Id.{Id}
use Rattle.nc_types.specs.Cursor.{CursorAt}
use Rattle.nc_spool_state.specs.declared.place.Quiet.{Quiet}
use Rattle.nc_spool_state.specs.declared.place.Place.{Place}
use Rattle.nc_spool_state.specs.declared.place.Place.TheVariants.{Asked, Nothing, Found}
use Rattle.nc_spool_state.specs.declared.spool.Reader.{Reader}
use Rattle.nc_spool_state.specs.declared.edge.Edge.{Edge}
use Rattle.nc_spool_state.specs.declared.edge.Edge.TheVariants.{Awaited, Known}
use Rattle.nc_spool.specs.declared.board.Board.{Board}
use Rattle.nc_spool_state.specs.Key.{KeyAt, name_at, id_at}
use Rattle.nc_spool_state.specs.Spool.{SpoolAt, no_place, place_at, with_place, with_reader}
use Rattle.nc_spool_state.specs.Shelf.{place_before}
use Rattle.nc_spool_state.specs.Edge.{is_behind, newest_cursor}
use Rattle.nc_spool_state.specs.Starting.{StartingAt, with_edge}
use Rattle.nc_spool.specs.Board.{looked, asked_from, fresh_places, fresh_spool, shelved}
use Rattle.nc_spool.specs.Decide.{fenced_places, fence_looks}
use Rattle.nc_spool_state.specs.Hear.{found_by}
use Rattle.nc_spool.specs.Hear.{looked_again}
use Rattle.nc_spool.specs.Newest.{fresh_edges, edges_from, asked_edge, behind_edges, edges_behind, parked}
use Rattle.nc_spool_laws.proofs.Closing.{IsClosed, out, out_start}
use Rattle.nc_spool_laws.specs.Attended.{AnyLast, AnyKey, AnyNews, AnyAnswer, AnyFind}
use Rattle.nc_spool_laws.specs.Numbers.{one, total, look_at, edge_at, looks_of, edges_of, awaited, IsOnce, AreApart, SpoolApart, StartApart, KeepsApart}
use Rattle.nc_spool_laws.proofs.Totals.{total-insert, total-push, total-without, total-set, total-same}
use Rattle.nc_spool_laws.proofs.Same.{asked-shelf, fences-shelf, edges-shelf, behinds-shelf, asked-starts, fences-starts, edges-starts, behinds-starts}
use Rattle.nc_spool_laws.proofs.Walk.{all-kept}

-- counts that grow only by numbers that were drawn, each once
record IsDrawn (m n : ℕ) (old new : ℕ → ℕ) : Type 0 where
  rise : m ≤ n
  low : (k : ℕ) → k < m → new k ≤ old k
  mid : (k : ℕ) → new k ≤ old k + 1
  high : (k : ℕ) → n ≤ k → new k ≤ old k

fewer : (m : ℕ) (f g : ℕ → ℕ) → IsOnce m f → ((k : ℕ) → g k ≤ f k) → IsOnce m g
fewer m f g o h = record {
  once = λ k. let a = o.once k in let b = h k in omega (arith, a, b);
  below = λ k l. let a = o.below k l in let b = h k in omega (arith, a, b);
}

at_most : (m k x y : ℕ) → (x ≤ 1) → (m ≤ k → x ≡ 0) → (k < m → y ≤ x) → y ≤ x + 1 → y ≤ 1
at_most m k x y a b c d = grind arith

drawn : (m n : ℕ) (f g : ℕ → ℕ) → IsOnce m f → IsDrawn m n f g → IsOnce n g
drawn m n f g o d = record {
  once = λ k. at_most m k (f k) (g k) (o.once k) (o.below k) (d.low k) (d.mid k);
  below = λ k l. let rise = d.rise in let a = o.below k (omega (arith, rise, l)) in let b = d.high k l in omega (arith, a, b);
}

-- nothing was drawn
none-drawn : (m : ℕ) (f : ℕ → ℕ) → IsDrawn m m f f
none-drawn m f = record { rise = omega arith; low = λ k l. omega arith; mid = λ k. omega arith; high = λ k l. omega arith }

-- the same beside a count that stays
beside : (m n : ℕ) (f g h : ℕ → ℕ) → IsDrawn m n f g → IsDrawn m n (λ k. h k + f k) (λ k. h k + g k)
beside m n f g h d = record {
  rise = d.rise;
  low = λ k l. let a = d.low k l in omega (arith, a);
  mid = λ k. let a = d.mid k in omega (arith, a);
  high = λ k l. let a = d.high k l in omega (arith, a);
}

behind : (m n : ℕ) (f g h : ℕ → ℕ) → IsDrawn m n f g → IsDrawn m n (λ k. f k + h k) (λ k. g k + h k)
behind m n f g h d = record {
  rise = d.rise;
  low = λ k l. let a = d.low k l in omega (arith, a);
  mid = λ k. let a = d.mid k in omega (arith, a);
  high = λ k l. let a = d.high k l in omega (arith, a);
}

one-low : (m k : ℕ) → k < m → one (m == k) ≡ 0
one-low m k l = by (m == k) refl
  where
    by : (b : Bool) → (m == k) ≡ b → one b ≡ 0
    by true e = absurd (grind (arith, nat_tests))
    by false e = refl

one-high : (m k : ℕ) → m < k → one (m == k) ≡ 0
one-high m k l = by (m == k) refl
  where
    by : (b : Bool) → (m == k) ≡ b → one b ≡ 0
    by true e = absurd (grind (arith, nat_tests))
    by false e = refl

one-most : (b : Bool) → one b ≤ 1
one-most true = omega arith
one-most false = omega arith

mid-drawn : (m k x y z : ℕ) → (k < m → x ≡ 0) → (m < k → x ≡ 0) → x ≤ 1 → (k < m + 1 → y ≤ z) → y ≤ z + 1 → x + y ≤ z + 1
mid-drawn m k x y z a b c d e = grind arith

-- a number is drawn, and then some more
one-drawn : (m n : ℕ) (f g h : ℕ → ℕ) → IsDrawn (m + 1) n f g → IsDrawn m n (λ k. h k + f k) (λ k. one (m == k) + g k)
one-drawn m n f g h d = record {
  rise = let a = d.rise in omega (arith, a);
  low = λ k l. let a = one-low m k l in let b = d.low k (omega (arith, l)) in omega (arith, a, b);
  mid = λ k. let a = mid-drawn m k (one (m == k)) (g k) (f k) (one-low m k) (one-high m k) (one-most (m == k)) (d.low k) (d.mid k) in omega (arith, a);
  high = λ k l. let rise = d.rise in let a = one-high m k (omega (arith, rise, l)) in let b = d.high k l in omega (arith, a, b);
}

fresh-drawn : (key : KeyAt) (j : ℕ) (names : List (List ℕ)) (b : Board) → IsDrawn b.next (asked_from key j names b).next (λ k. 0) (λ k. total (look_at k) (fresh_places b.next names))
fresh-drawn key j [] b = none-drawn b.next (λ k. 0)
fresh-drawn key j (c ∷ names) b = one-drawn b.next (asked_from key j (c ∷ names) b).next (λ k. 0) (λ k. total (look_at k) (fresh_places (b.next + 1) names)) (λ k. 0) (fresh-drawn key (j + 1) names (looked c (id_at key j) 0 b))

fenced-drawn : (time : ℕ) (key : KeyAt) (j : ℕ) (places : List Place) (b : Board) → IsDrawn b.next (fence_looks time key j places b).next (λ k. total (look_at k) places) (λ k. total (look_at k) (fenced_places time key j places b))
fenced-drawn time key j [] b = none-drawn b.next (λ k. 0)
fenced-drawn time key j (Asked number earlier ∷ places) b = beside b.next (fence_looks time key (j + 1) places b).next (λ k. total (look_at k) places) (λ k. total (look_at k) (fenced_places time key (j + 1) places b)) (λ k. look_at k (Asked number earlier)) (fenced-drawn time key (j + 1) places b)
fenced-drawn time key j (Found q id owner g ∷ places) b = beside b.next (fence_looks time key (j + 1) places b).next (λ k. total (look_at k) places) (λ k. total (look_at k) (fenced_places time key (j + 1) places b)) (λ k. 0) (fenced-drawn time key (j + 1) places b)
fenced-drawn time key j (Nothing quiet ∷ places) b = by (nat_lt quiet.floor time) (fenced-drawn time key (j + 1) places (looked (name_at key j) (id_at key j) time b)) (fenced-drawn time key (j + 1) places b)
  where
    by : (t : Bool) → IsDrawn (b.next + 1) (fence_looks time key (j + 1) places (looked (name_at key j) (id_at key j) time b)).next (λ k. total (look_at k) places) (λ k. total (look_at k) (fenced_places time key (j + 1) places (looked (name_at key j) (id_at key j) time b))) → IsDrawn b.next (fence_looks time key (j + 1) places b).next (λ k. total (look_at k) places) (λ k. total (look_at k) (fenced_places time key (j + 1) places b)) → IsDrawn b.next (fence_looks time key (j + 1) places (cond t (looked (name_at key j) (id_at key j) time b) b)).next (λ k. 0 + total (look_at k) places) (λ k. look_at k (cond t (Asked b.next (Some quiet)) (Nothing quiet)) + total (look_at k) (fenced_places time key (j + 1) places (cond t (looked (name_at key j) (id_at key j) time b) b)))
    by true some none = one-drawn b.next (fence_looks time key (j + 1) places (looked (name_at key j) (id_at key j) time b)).next (λ k. total (look_at k) places) (λ k. total (look_at k) (fenced_places time key (j + 1) places (looked (name_at key j) (id_at key j) time b))) (λ k. 0) some
    by false some none = beside b.next (fence_looks time key (j + 1) places b).next (λ k. total (look_at k) places) (λ k. total (look_at k) (fenced_places time key (j + 1) places b)) (λ k. 0) none

edges-drawn : (r : ℕ) (names : List (List ℕ)) (b : Board) → IsDrawn b.next (edges_from r names b).next (λ k. 0) (λ k. total (edge_at k) (fresh_edges b.next names))
edges-drawn r [] b = none-drawn b.next (λ k. 0)
edges-drawn r (c ∷ names) b = one-drawn b.next (edges_from r (c ∷ names) b).next (λ k. 0) (λ k. total (edge_at k) (fresh_edges (b.next + 1) names)) (λ k. 0) (edges-drawn r names (asked_edge r c 0 b))

behinds-drawn : (time r : ℕ) (list : List (List ℕ)) (j : ℕ) (edges : List Edge) (b : Board) → IsDrawn b.next (edges_behind time r list j edges b).next (λ k. total (edge_at k) edges) (λ k. total (edge_at k) (behind_edges time r list j edges b))
behinds-drawn time r list j [] b = none-drawn b.next (λ k. 0)
behinds-drawn time r list j (e ∷ edges) b = by (is_behind time e) (behinds-drawn time r list (j + 1) edges (asked_edge r (slice_index_or list j []) time b)) (behinds-drawn time r list (j + 1) edges b)
  where
    by : (t : Bool) → IsDrawn (b.next + 1) (edges_behind time r list (j + 1) edges (asked_edge r (slice_index_or list j []) time b)).next (λ k. total (edge_at k) edges) (λ k. total (edge_at k) (behind_edges time r list (j + 1) edges (asked_edge r (slice_index_or list j []) time b))) → IsDrawn b.next (edges_behind time r list (j + 1) edges b).next (λ k. total (edge_at k) edges) (λ k. total (edge_at k) (behind_edges time r list (j + 1) edges b)) → IsDrawn b.next (edges_behind time r list (j + 1) edges (cond t (asked_edge r (slice_index_or list j []) time b) b)).next (λ k. edge_at k e + total (edge_at k) edges) (λ k. edge_at k (cond t (Awaited b.next) e) + total (edge_at k) (behind_edges time r list (j + 1) edges (cond t (asked_edge r (slice_index_or list j []) time b) b)))
    by true some none = one-drawn b.next (edges_behind time r list (j + 1) edges (asked_edge r (slice_index_or list j []) time b)).next (λ k. total (edge_at k) edges) (λ k. total (edge_at k) (behind_edges time r list (j + 1) edges (asked_edge r (slice_index_or list j []) time b))) (λ k. edge_at k e) some
    by false some none = beside b.next (edges_behind time r list (j + 1) edges b).next (λ k. total (edge_at k) edges) (λ k. total (edge_at k) (behind_edges time r list (j + 1) edges b)) (λ k. edge_at k e) none

-- a board with the same spools and starts awaits the same
same-awaited : (b c : Board) → c.shelf ≡ b.shelf → c.starts ≡ b.starts → (n : ℕ) → awaited n c ≡ awaited n b
same-awaited b c e f n = ap (λ (l : List SpoolAt). total (looks_of n) l + total (edges_of n) c.starts) e ∙ ap (λ (l : List StartingAt). total (looks_of n) b.shelf + total (edges_of n) l) f

weaker : (m n : ℕ) (f g f' g' : ℕ → ℕ) → IsDrawn m n f g → ((k : ℕ) → f k ≤ f' k) → ((k : ℕ) → g' k ≤ g k) → IsDrawn m n f' g'
weaker m n f g f' g' d a b = record {
  rise = d.rise;
  low = λ k l. let x = d.low k l in let y = a k in let z = b k in omega (arith, x, y, z);
  mid = λ k. let x = d.mid k in let y = a k in let z = b k in omega (arith, x, y, z);
  high = λ k l. let x = d.high k l in let y = a k in let z = b k in omega (arith, x, y, z);
}

apart-take : (test : SpoolAt → Bool) (s : SpoolAt) (b : Board) → find test b.shelf ≡ Some s → AreApart b → SpoolApart s (out test b)
apart-take test s b was i = fewer b.next (λ n. awaited n b) (λ n. looks_of n s + awaited n (out test b)) i (λ n. omega (arith, total-without (looks_of n) test b.shelf s was))

apart-put : (s : SpoolAt) (b : Board) → SpoolApart s b → AreApart (shelved s b)
apart-put s b i = fewer b.next (λ n. looks_of n s + awaited n b) (λ n. awaited n (shelved s b)) i (λ n. omega (arith, total-insert (looks_of n) b.shelf (place_before s.key b.shelf) s))

apart-drop : (s : SpoolAt) (b : Board) → SpoolApart s b → AreApart b
apart-drop s b i = fewer b.next (λ n. looks_of n s + awaited n b) (λ n. awaited n b) i (λ n. omega arith)

apart-open : (key : KeyAt) (r : Reader) (b : Board) → AreApart b → SpoolApart (with_reader r (fresh_spool b.next key)) (asked_from key 0 key.list b)
apart-open key r b i =
    drawn b.next (asked_from key 0 key.list b).next (λ n. awaited n b) (λ n. total (look_at n) (fresh_places b.next key.list) + awaited n (asked_from key 0 key.list b)) i
    (weaker b.next (asked_from key 0 key.list b).next (λ n. 0 + awaited n b) (λ n. total (look_at n) (fresh_places b.next key.list) + awaited n b) (λ n. awaited n b) (λ n. total (look_at n) (fresh_places b.next key.list) + awaited n (asked_from key 0 key.list b))
    (behind b.next (asked_from key 0 key.list b).next (λ n. 0) (λ n. total (look_at n) (fresh_places b.next key.list)) (λ n. awaited n b) (fresh-drawn key 0 key.list b))
    (λ n. omega arith)
    (λ n. omega (arith, same-awaited b (asked_from key 0 key.list b) (asked-shelf key 0 key.list b) (asked-starts key 0 key.list b) n)))

apart-fence : (time : ℕ) (s : SpoolAt) (b : Board) → SpoolApart s b → SpoolApart (record s { places = fenced_places time s.key 0 s.places b }) (fence_looks time s.key 0 s.places b)
apart-fence time s b i =
    drawn b.next (fence_looks time s.key 0 s.places b).next (λ n. looks_of n s + awaited n b) (λ n. total (look_at n) (fenced_places time s.key 0 s.places b) + awaited n (fence_looks time s.key 0 s.places b)) i
    (weaker b.next (fence_looks time s.key 0 s.places b).next (λ n. looks_of n s + awaited n b) (λ n. total (look_at n) (fenced_places time s.key 0 s.places b) + awaited n b) (λ n. looks_of n s + awaited n b) (λ n. total (look_at n) (fenced_places time s.key 0 s.places b) + awaited n (fence_looks time s.key 0 s.places b))
    (behind b.next (fence_looks time s.key 0 s.places b).next (λ n. looks_of n s) (λ n. total (look_at n) (fenced_places time s.key 0 s.places b)) (λ n. awaited n b) (fenced-drawn time s.key 0 s.places b))
    (λ n. omega arith)
    (λ n. omega (arith, same-awaited b (fence_looks time s.key 0 s.places b) (fences-shelf time s.key 0 s.places b) (fences-starts time s.key 0 s.places b) n)))

apart-look : (j : ℕ) (s : SpoolAt) (b : Board) → SpoolApart s b → SpoolApart (with_place j (Asked b.next None) s) (looked_again s.key j b)
apart-look j s b i =
    drawn b.next (b.next + 1) (λ n. looks_of n s + awaited n b) (λ n. total (look_at n) (set s.places j (Asked b.next None)) + awaited n b) i
    (weaker b.next (b.next + 1) (λ n. 0 + (looks_of n s + awaited n b)) (λ n. one (b.next == n) + (looks_of n s + awaited n b)) (λ n. looks_of n s + awaited n b) (λ n. total (look_at n) (set s.places j (Asked b.next None)) + awaited n b)
    (one-drawn b.next (b.next + 1) (λ n. looks_of n s + awaited n b) (λ n. looks_of n s + awaited n b) (λ n. 0) (none-drawn (b.next + 1) (λ n. looks_of n s + awaited n b)))
    (λ n. omega arith)
    (λ n. omega (arith, total-set (look_at n) s.places j (Asked b.next None))))

apart-forget : (j m : ℕ) (quiet : Quiet) (s : SpoolAt) (b : Board) → place_at s j ≡ Asked m (Some quiet) → SpoolApart s b → SpoolApart (with_place j (Asked m None) s) b
apart-forget j m quiet s b was i =
    fewer b.next (λ n. looks_of n s + awaited n b) (λ n. total (look_at n) (set s.places j (Asked m None)) + awaited n b) i
    (λ n. let stood : look_at n (get_or s.places j no_place) ≡ one (m == n) = ap (look_at n) was in
    omega (arith, total-same (look_at n) s.places j (Asked m None) no_place (omega (arith, stood))))

-- a place that awaits nothing takes the place of another
apart-set : (j : ℕ) (p : Place) (s : SpoolAt) (b : Board) → ((n : ℕ) → look_at n p ≡ 0) → SpoolApart s b → SpoolApart (with_place j p s) b
apart-set j p s b quiet i =
    fewer b.next (λ n. looks_of n s + awaited n b) (λ n. total (look_at n) (set s.places j p) + awaited n b) i
    (λ n. let none = quiet n in omega (arith, none, total-set (look_at n) s.places j p))

apart-take_start : (test : StartingAt → Bool) (s : StartingAt) (b : Board) → find test b.starts ≡ Some s → AreApart b → StartApart s (out_start test b)
apart-take_start test s b was i = fewer b.next (λ n. awaited n b) (λ n. edges_of n s + awaited n (out_start test b)) i (λ n. omega (arith, total-without (edges_of n) test b.starts s was))

apart-put_start : (s : StartingAt) (b : Board) → StartApart s b → AreApart (parked s b)
apart-put_start s b i = fewer b.next (λ n. edges_of n s + awaited n b) (λ n. awaited n (parked s b)) i (λ n. omega (arith, total-push (edges_of n) b.starts s))

apart-drop_start : (s : StartingAt) (b : Board) → StartApart s b → AreApart b
apart-drop_start s b i = fewer b.next (λ n. edges_of n s + awaited n b) (λ n. awaited n b) i (λ n. omega arith)

apart-new_start : (k : ℕ) (list : List (List ℕ)) (s : StartingAt) (b : Board) → s.edges ≡ fresh_edges b.next list → AreApart b → StartApart s (edges_from k list b)
apart-new_start k list s b is i =
    drawn b.next (edges_from k list b).next (λ n. awaited n b) (λ n. edges_of n s + awaited n (edges_from k list b)) i
    (weaker b.next (edges_from k list b).next (λ n. 0 + awaited n b) (λ n. total (edge_at n) (fresh_edges b.next list) + awaited n b) (λ n. awaited n b) (λ n. edges_of n s + awaited n (edges_from k list b))
    (behind b.next (edges_from k list b).next (λ n. 0) (λ n. total (edge_at n) (fresh_edges b.next list)) (λ n. awaited n b) (edges-drawn k list b))
    (λ n. omega arith)
    (λ n. omega (arith, ap (total (edge_at n)) is, same-awaited b (edges_from k list b) (edges-shelf k list b) (edges-starts k list b) n)))

apart-hear : (j floor : ℕ) (last : Id) (s : StartingAt) (b : Board) → StartApart s b → StartApart (with_edge j (Known last floor) s) b
apart-hear j floor last s b i =
    fewer b.next (λ n. edges_of n s + awaited n b) (λ n. total (edge_at n) (set s.edges j (Known last floor)) + awaited n b) i
    (λ n. omega (arith, total-set (edge_at n) s.edges j (Known last floor)))

apart-behind : (cursor : CursorAt) (s : StartingAt) (b : Board) → StartApart s b → StartApart (record s { edges = behind_edges cursor.time s.reader.k s.list 0 s.edges b; cursor = Some cursor }) (edges_behind cursor.time s.reader.k s.list 0 s.edges b)
apart-behind cursor s b i =
    drawn b.next (edges_behind cursor.time s.reader.k s.list 0 s.edges b).next (λ n. edges_of n s + awaited n b) (λ n. total (edge_at n) (behind_edges cursor.time s.reader.k s.list 0 s.edges b) + awaited n (edges_behind cursor.time s.reader.k s.list 0 s.edges b)) i
    (weaker b.next (edges_behind cursor.time s.reader.k s.list 0 s.edges b).next (λ n. edges_of n s + awaited n b) (λ n. total (edge_at n) (behind_edges cursor.time s.reader.k s.list 0 s.edges b) + awaited n b) (λ n. edges_of n s + awaited n b) (λ n. total (edge_at n) (behind_edges cursor.time s.reader.k s.list 0 s.edges b) + awaited n (edges_behind cursor.time s.reader.k s.list 0 s.edges b))
    (behind b.next (edges_behind cursor.time s.reader.k s.list 0 s.edges b).next (λ n. edges_of n s) (λ n. total (edge_at n) (behind_edges cursor.time s.reader.k s.list 0 s.edges b)) (λ n. awaited n b) (behinds-drawn cursor.time s.reader.k s.list 0 s.edges b))
    (λ n. omega arith)
    (λ n. omega (arith, same-awaited b (edges_behind cursor.time s.reader.k s.list 0 s.edges b) (behinds-shelf cursor.time s.reader.k s.list 0 s.edges b) (behinds-starts cursor.time s.reader.k s.list 0 s.edges b) n)))

pub closed : IsClosed AnyNews AnyAnswer AnyLast AnyKey AnyFind AreApart SpoolApart StartApart
closed = record {
  sends = record {
    part = λ k c b i. i;
    end = λ k deleted b i. i;
    ready = λ find s b was i. tt;
    send = λ find s r b ready i. i;
    take = apart-take;
    put = apart-put;
    drop = apart-drop;
    open_new = λ key r b none fits i. apart-open key r b i;
    fits = λ find s ready. tt;
    enter = λ r s b i. i;
    fence = λ time s b was unasked i. apart-fence time s b i;
  };
  join = λ k c b i. i;
  start = λ k cursor b i. i;
  leave = λ k s b i some. i;
  look = λ c j s b at i. apart-look j s b i;
  forget = λ c j m quiet s b at was i. apart-forget j m quiet s b was i;
  quieten = λ number j quiet news s b at right nothing i. apart-set j (Nothing quiet) s b (λ n. refl) i;
  discover = λ number j quiet news s b at right later i. apart-set j (found_by quiet.q news) s b (λ n. refl) i;
  hear = λ c j quiet news s b at rests good later i. apart-set j (found_by quiet.q news) s b (λ n. refl) i;
  take_start = apart-take_start;
  put_start = apart-put_start;
  drop_start = apart-drop_start;
  new_start = λ r list b fits i. apart-new_start r.k list (record { reader = r; list = list; edges = fresh_edges b.next list; cursor = None }) b refl i;
  hear_edge = λ j floor last s b told i. apart-hear j floor last s b i;
  newest_fits = λ s b i. tt;
  cursor_fits = λ cursor s b was i. tt;
  fence_edges = λ s b i. apart-behind (newest_cursor s.edges) s b i;
}

pub apart-kept : KeepsApart
apart-kept = all-kept AnyNews AnyAnswer AnyLast AnyKey AnyFind AreApart SpoolApart StartApart closed
