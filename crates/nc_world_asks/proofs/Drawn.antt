-- Each call of spools draws each number once.
use Rattle.std.proofs.Common.{◌≡◌, ℕ, ◌+◌, ◌≤◌, Bool, true, false, cond, List, [], ◌∷◌, refl, arith}
use Rattle.std.specs.Prelude.{◌==◌, slice_index_or}
use Rattle.std.proofs.lemmas.Bool.Decides.{nat_tests}
use Rattle.nc_types.specs.Id.{Id}
use Rattle.nc_spool_state.specs.declared.edge.Edge.{Edge as EdgeState}
use Rattle.nc_spool_state.specs.declared.place.Place.{Place}
use Rattle.nc_spool_state.specs.Choice.{is_below}
use Rattle.nc_spool_state.specs.Edge.{is_behind, newest_time}
use Rattle.nc_spool_state.specs.Key.{KeyAt, name_at, id_at}
use Rattle.nc_spool.specs.declared.board.Board.{Board}
use Rattle.nc_spool.specs.declared.fact.Fact.{Fact}
use Rattle.nc_spool.specs.Board.{told, looked, asked_from}
use Rattle.nc_spool.specs.Decide.{fence_look, fence_looks}
use Rattle.nc_spool.specs.Newest.{asked_edge, edges_from, edge_behind, edges_behind}
use Rattle.nc_spool_laws.proofs.Closing.{IsClosed}
use Rattle.nc_spool_laws.specs.Numbers.{one}
use Rattle.nc_spool_laws.specs.Attended.{AnyNews, AnyAnswer, AnyLast, AnyKey, AnyFind}
use Rattle.nc_spool_laws.proofs.Totals.{total-push}
use Rattle.nc_spool_laws.proofs.Walk.{all-kept}
use Rattle.nc_world_asks.specs.Drawing.{draw_at, drawn, AreDrawn, DrawnBeside, DrawnApart, KeepsDrawn}

-- one number more
one_more : (next n x : ℕ) → (x ≤ 1) → (next ≤ n → x ≡ 0) → one (next == n) + x ≤ 1
one_more next n x few below = by (next == n) refl
  where
    same : (next == n) ≡ true → next ≤ n
    same e = grind (arith, nat_tests)

    by : (t : Bool) → (next == n) ≡ t → one t + x ≤ 1
    by true e = let none = below (same e) in omega (arith, none)
    by false e = omega (arith, few)

other_one : (next n : ℕ) → next + 1 ≤ n → one (next == n) ≡ 0
other_one next n l = by (next == n) refl
  where
    by : (t : Bool) → (next == n) ≡ t → one t ≡ 0
    by true e = absurd (let same : next ≡ n = grind (arith, nat_tests) in omega (arith, l, same))
    by false e = refl

module _ (base : ℕ → ℕ) where
  none_told : (f : Fact) (b : Board) → ((n : ℕ) → draw_at n f ≡ 0) → AreDrawn base b → AreDrawn base (told f b)
  none_told f b none i = record {
    once = λ n. let a = i.once n in let z = none n in let p = total-push (draw_at n) b.facts f in omega (arith, a, z, p);
    below = λ n l. let a = i.below n l in let z = none n in let p = total-push (draw_at n) b.facts f in omega (arith, a, z, p);
  }

  one_told : (f : Fact) (b : Board) → ((n : ℕ) → draw_at n f ≡ one (b.next == n)) → AreDrawn base b → AreDrawn base (told f (record b { next = b.next + 1 }))
  one_told f b same i = record {
    once = λ n. let m = one_more b.next n (base n + drawn n b.facts) (i.once n) (i.below n) in let z = same n in let p = total-push (draw_at n) b.facts f in omega (arith, m, z, p);
    below = λ n l. let a = i.below n (omega (arith, l)) in let z = same n in let o = other_one b.next n l in let p = total-push (draw_at n) b.facts f in omega (arith, a, z, o, p);
  }

  drawn_look : (c : List ℕ) (after : Id) (fence : ℕ) (b : Board) → AreDrawn base b → AreDrawn base (looked c after fence b)
  drawn_look c after fence b i = one_told _ b (λ n. refl) i

  drawn_asked : (key : KeyAt) (j : ℕ) (names : List (List ℕ)) (b : Board) → AreDrawn base b → AreDrawn base (asked_from key j names b)
  drawn_asked key j [] b i = i
  drawn_asked key j (c ∷ names) b i = drawn_asked key (j + 1) names (looked c (id_at key j) 0 b) (drawn_look c (id_at key j) 0 b i)

  drawn_fence : (time : ℕ) (key : KeyAt) (j : ℕ) (p : Place) (b : Board) → AreDrawn base b → AreDrawn base (fence_look time key j p b)
  drawn_fence time key j p b i = by (is_below time p)
    where
      by : (t : Bool) → AreDrawn base (cond t (looked (name_at key j) (id_at key j) time b) b)
      by true = drawn_look (name_at key j) (id_at key j) time b i
      by false = i

  drawn_fences : (time : ℕ) (key : KeyAt) (j : ℕ) (places : List Place) (b : Board) → AreDrawn base b → AreDrawn base (fence_looks time key j places b)
  drawn_fences time key j [] b i = i
  drawn_fences time key j (p ∷ places) b i = drawn_fences time key (j + 1) places (fence_look time key j p b) (drawn_fence time key j p b i)

  drawn_edge : (k : ℕ) (c : List ℕ) (fence : ℕ) (b : Board) → AreDrawn base b → AreDrawn base (asked_edge k c fence b)
  drawn_edge k c fence b i = one_told _ b (λ n. refl) i

  drawn_edges : (k : ℕ) (names : List (List ℕ)) (b : Board) → AreDrawn base b → AreDrawn base (edges_from k names b)
  drawn_edges k [] b i = i
  drawn_edges k (c ∷ names) b i = drawn_edges k names (asked_edge k c 0 b) (drawn_edge k c 0 b i)

  drawn_behind : (time k : ℕ) (c : List ℕ) (edge : EdgeState) (b : Board) → AreDrawn base b → AreDrawn base (edge_behind time k c edge b)
  drawn_behind time k c edge b i = by (is_behind time edge)
    where
      by : (t : Bool) → AreDrawn base (cond t (asked_edge k c time b) b)
      by true = drawn_edge k c time b i
      by false = i

  drawn_behinds : (time k : ℕ) (list : List (List ℕ)) (j : ℕ) (edges : List EdgeState) (b : Board) → AreDrawn base b → AreDrawn base (edges_behind time k list j edges b)
  drawn_behinds time k list j [] b i = i
  drawn_behinds time k list j (e ∷ edges) b i = drawn_behinds time k list (j + 1) edges (edge_behind time k (slice_index_or list j []) e b) (drawn_behind time k (slice_index_or list j []) e b i)

  drawn_closed : IsClosed AnyNews AnyAnswer AnyLast AnyKey AnyFind (AreDrawn base) (DrawnBeside base) (DrawnApart base)
  drawn_closed = record {
    sends = record {
      part = λ k c b i. none_told _ b (λ n. refl) i;
      end = λ k deleted b i. none_told _ b (λ n. refl) i;
      ready = λ find s b was i. tt;
      send = λ find s r b ready i. none_told _ b (λ n. refl) i;
      take = λ test s b was i. i;
      put = λ s b i. i;
      drop = λ s b i. i;
      open_new = λ key r b none fits i. drawn_asked key 0 key.list b i;
      fits = λ find s ready. tt;
      enter = λ r s b i. i;
      fence = λ time s b was unasked i. drawn_fences time s.key 0 s.places b i;
    };
    join = λ k c b i. none_told _ b (λ n. refl) i;
    start = λ k cursor b i. none_told _ b (λ n. refl) i;
    leave = λ k s b i some. i;
    look = λ c j s b at i. drawn_look (name_at s.key j) (id_at s.key j) 0 b i;
    forget = λ c j m quiet s b at was i. i;
    quieten = λ number j quiet news s b at right nothing i. i;
    discover = λ number j quiet news s b at right later i. i;
    hear = λ c j quiet news s b at rests good later i. i;
    take_start = λ test s b was i. i;
    put_start = λ s b i. i;
    drop_start = λ s b i. i;
    new_start = λ r list b fits i. drawn_edges r.k list b i;
    hear_edge = λ j floor last s b told i. i;
    newest_fits = λ s b i. tt;
    cursor_fits = λ cursor s b was i. tt;
    fence_edges = λ s b i. drawn_behinds (newest_time s.edges) s.reader.k s.list 0 s.edges b i;
  }

pub drawn_kept : KeepsDrawn
drawn_kept base = all-kept AnyNews AnyAnswer AnyLast AnyKey AnyFind (AreDrawn base) (DrawnBeside base) (DrawnApart base) (drawn_closed base)
