-- Each fence is 0, the time of a message that was found, or that of an id that an owner answered.
use Rattle.std.proofs.Common.{◌≡◌, ℕ, ◌+◌, Bool, true, false, cond, List, [], ◌∷◌, refl, sym, subst, Option, Some, None, IfSome, nat_lt, max, ◌≤◌, arith}
use Rattle.std.specs.Prelude.{fold, slice_index_or}
use Rattle.std.specs.List.{AllByRecursion}
use Rattle.std.proofs.Math.Nat.{max-eq_left, max-eq_right}
use Rattle.nc_spool_state.specs.declared.place.Place.{Place}
use Rattle.nc_spool_state.specs.declared.place.Place.TheVariants.{Asked, Nothing, Found}
use Rattle.nc_spool_state.specs.declared.choice.Find.{Find}
use Rattle.nc_spool_state.specs.declared.choice.Choice.TheVariants.{Fence, Send}
use Rattle.nc_spool_state.specs.declared.edge.Edge.{Edge}
use Rattle.nc_spool_state.specs.declared.edge.Edge.TheVariants.{Awaited, Known}
use Rattle.nc_spool_state.specs.Key.{KeyAt, name_at, id_at}
use Rattle.nc_spool_state.specs.Spool.{SpoolAt, with_place}
use Rattle.nc_spool_state.specs.Shelf.{place_before}
use Rattle.nc_spool_state.specs.Choice.{is_below, is_any_asked, is_any_below, find_at, sooner, soonest, choice, choice_by}
use Rattle.nc_spool_state.specs.Edge.{is_behind, later, newest_time}
use Rattle.nc_spool.specs.declared.fact.Fact.{Fact}
use Rattle.nc_spool.specs.declared.board.Board.{Board}
use Rattle.nc_spool.specs.Board.{told, looked, asked_from, fresh_places}
use Rattle.nc_spool.specs.Decide.{fenced, fence_look, fence_looks, fenced_places}
use Rattle.nc_spool.specs.Newest.{fresh_edges, behind_edge, edges_from, asked_edge, edge_behind, edges_behind, behind_edges}
use Rattle.nc_spool_laws.proofs.Closing.{IsClosed}
use Rattle.nc_spool_laws.specs.Attended.{AnyKey, AnyFind}
use Rattle.nc_spool_laws.specs.Fences.{FactFenced, PlaceFenced, SpoolFenced, EdgeFenced, StartFenced, BoardFenced, BesideFenced, ApartFenced, NewsFenced, AnswerFenced, LastFenced, KeepsFences}
use Rattle.nc_spool_laws.proofs.Lists.{all-append, all-insert, all-without, all-found, all-set}
use Rattle.nc_spool_laws.proofs.Guarding.{is-below, not-below}
use Rattle.nc_spool_laws.proofs.Walk.{all-kept}

module _ (Is : ℕ → Type 0) where
  -- a board that tells more, where spools and starts are those of before
  widened : (b c : Board) → c.shelf ≡ b.shelf → c.starts ≡ b.starts → AllByRecursion (FactFenced Is) c.facts → BoardFenced Is b → BoardFenced Is c
  widened b c shelf starts facts i = record {
    spools = subst (AllByRecursion (SpoolFenced Is)) (sym shelf) i.spools;
    starts = subst (AllByRecursion (StartFenced Is)) (sym starts) i.starts;
    facts = facts;
  }

  told-fenced : (fact : Fact) (b : Board) → FactFenced Is fact → BoardFenced Is b → BoardFenced Is (told fact b)
  told-fenced fact b f i = record { spools = i.spools; starts = i.starts; facts = all-append (FactFenced Is) b.facts (fact ∷ []) i.facts (f, tt) }

  -- the greater one of two such times
  greater-fenced : (m n : ℕ) → Is m → Is n → Is (max m n)
  greater-fenced m n a b = by (nat_lt n m) refl
    where
      by : (t : Bool) → nat_lt n m ≡ t → Is (max m n)
      by true was = let below = is-below n m was in let upto : n ≤ m = omega (arith, below) in subst Is (sym (max-eq_left upto)) a
      by false was = subst Is (sym (max-eq_right (not-below n m was))) b

  later-fenced : (time : ℕ) (edge : Edge) → Is 0 → Is time → EdgeFenced Is edge → Is (later time edge)
  later-fenced time (Awaited number) none i e = greater-fenced 0 time none i
  later-fenced time (Known last floor) none i e = greater-fenced last.time time e i

  newest-fenced : (time : ℕ) (edges : List Edge) → Is 0 → Is time → AllByRecursion (EdgeFenced Is) edges → Is (fold later time edges)
  newest-fenced time [] none i e = i
  newest-fenced time (edge ∷ edges) none i e = newest-fenced (later time edge) edges none (later-fenced time edge none i e.0) e.1

  -- the message with the least time has the time of one that was found
  sooner-fenced : (best : Option Find) (j : ℕ) (p : Place) → IfSome best (λ f. Is f.id.time) → PlaceFenced Is p → IfSome (sooner best (find_at j p)) (λ f. Is f.id.time)
  sooner-fenced None j (Asked n earlier) b p = tt
  sooner-fenced None j (Nothing quiet) b p = tt
  sooner-fenced None j (Found q id owner g) b p = p
  sooner-fenced (Some a) j (Asked n earlier) b p = b
  sooner-fenced (Some a) j (Nothing quiet) b p = b
  sooner-fenced (Some a) j (Found q id owner g) b p = by (nat_lt id.time a.id.time)
    where
      by : (t : Bool) → IfSome (cond t (find_at j (Found q id owner g)) (Some a)) (λ f. Is f.id.time)
      by true = p
      by false = b

  soonest-fenced : (best : Option Find) (j : ℕ) (places : List Place) → IfSome best (λ f. Is f.id.time) → AllByRecursion (PlaceFenced Is) places → IfSome (soonest best j places) (λ f. Is f.id.time)
  soonest-fenced best j [] b i = b
  soonest-fenced best j (p ∷ places) b i = soonest-fenced (sooner best (find_at j p)) (j + 1) places (sooner-fenced best j p b i.0) i.1

  fence-fenced : (time : ℕ) (places : List Place) → choice places ≡ Fence time → AllByRecursion (PlaceFenced Is) places → Is time
  fence-fenced time places e i = by (is_any_asked places) (soonest None 0 places) (soonest-fenced None 0 places tt i) e
    where
      at : (f : Find) (t : Bool) → Is f.id.time → cond t (Fence f.id.time) (Send f) ≡ Fence time → Is time
      at f true is e = let same : f.id.time ≡ time = cc in subst Is same is
      at f false is e = absurd cc

      by : (a : Bool) (o : Option Find) → IfSome o (λ f. Is f.id.time) → choice_by a o places ≡ Fence time → Is time
      by true o is e = absurd cc
      by false None is e = absurd cc
      by false (Some f) is e = at f (is_any_below f.id.time places) is e

  fresh-fenced : (n : ℕ) (names : List (List ℕ)) → AllByRecursion (PlaceFenced Is) (fresh_places n names)
  fresh-fenced n [] = tt
  fresh-fenced n (c ∷ names) = (tt, fresh-fenced (n + 1) names)

  asked-fenced : (key : KeyAt) (j : ℕ) (names : List (List ℕ)) (b : Board) → Is 0 → BoardFenced Is b → BoardFenced Is (asked_from key j names b)
  asked-fenced key j [] b none i = i
  asked-fenced key j (c ∷ names) b none i = asked-fenced key (j + 1) names (looked c (id_at key j) 0 b) none (told-fenced _ (record b { next = b.next + 1 }) none (record { spools = i.spools; starts = i.starts; facts = i.facts }))

  drawn-fenced : (b : Board) → BoardFenced Is b → BoardFenced Is (record b { next = b.next + 1 })
  drawn-fenced b i = record { spools = i.spools; starts = i.starts; facts = i.facts }

  place-fenced : (time n : ℕ) (p : Place) → PlaceFenced Is p → PlaceFenced Is (fenced time n p)
  place-fenced time n (Asked number earlier) i = tt
  place-fenced time n (Nothing quiet) i = by (nat_lt quiet.floor time)
    where
      by : (t : Bool) → PlaceFenced Is (cond t (Asked n (Some quiet)) (Nothing quiet))
      by true = tt
      by false = tt
  place-fenced time n (Found q id owner g) i = i

  places-fenced : (time : ℕ) (key : KeyAt) (j : ℕ) (places : List Place) (b : Board) → AllByRecursion (PlaceFenced Is) places → AllByRecursion (PlaceFenced Is) (fenced_places time key j places b)
  places-fenced time key j [] b i = tt
  places-fenced time key j (p ∷ places) b i = (place-fenced time b.next p i.0, places-fenced time key (j + 1) places (fence_look time key j p b) i.1)

  look-fenced : (time : ℕ) (key : KeyAt) (j : ℕ) (p : Place) (b : Board) → Is time → BoardFenced Is b → BoardFenced Is (fence_look time key j p b)
  look-fenced time key j p b is i = by (is_below time p)
    where
      by : (t : Bool) → BoardFenced Is (cond t (looked (name_at key j) (id_at key j) time b) b)
      by true = told-fenced _ (record b { next = b.next + 1 }) is (drawn-fenced b i)
      by false = i

  looks-fenced : (time : ℕ) (key : KeyAt) (j : ℕ) (places : List Place) (b : Board) → Is time → BoardFenced Is b → BoardFenced Is (fence_looks time key j places b)
  looks-fenced time key j [] b is i = i
  looks-fenced time key j (p ∷ places) b is i = looks-fenced time key (j + 1) places (fence_look time key j p b) is (look-fenced time key j p b is i)

  fresh-edges-fenced : (n : ℕ) (names : List (List ℕ)) → AllByRecursion (EdgeFenced Is) (fresh_edges n names)
  fresh-edges-fenced n [] = tt
  fresh-edges-fenced n (c ∷ names) = (tt, fresh-edges-fenced (n + 1) names)

  edges-fenced : (k : ℕ) (names : List (List ℕ)) (b : Board) → Is 0 → BoardFenced Is b → BoardFenced Is (edges_from k names b)
  edges-fenced k [] b none i = i
  edges-fenced k (c ∷ names) b none i = edges-fenced k names (asked_edge k c 0 b) none (told-fenced _ (record b { next = b.next + 1 }) none (drawn-fenced b i))

  edge-fenced : (time n : ℕ) (e : Edge) → EdgeFenced Is e → EdgeFenced Is (behind_edge time n e)
  edge-fenced time n e i = by (is_behind time e)
    where
      by : (t : Bool) → EdgeFenced Is (cond t (Awaited n) e)
      by true = tt
      by false = i

  behind-edges-fenced : (time k : ℕ) (list : List (List ℕ)) (j : ℕ) (edges : List Edge) (b : Board) → AllByRecursion (EdgeFenced Is) edges → AllByRecursion (EdgeFenced Is) (behind_edges time k list j edges b)
  behind-edges-fenced time k list j [] b i = tt
  behind-edges-fenced time k list j (e ∷ edges) b i = (edge-fenced time b.next e i.0, behind-edges-fenced time k list (j + 1) edges (edge_behind time k (slice_index_or list j []) e b) i.1)

  behind-fenced : (time k : ℕ) (c : List ℕ) (e : Edge) (b : Board) → Is time → BoardFenced Is b → BoardFenced Is (edge_behind time k c e b)
  behind-fenced time k c e b is i = by (is_behind time e)
    where
      by : (t : Bool) → BoardFenced Is (cond t (asked_edge k c time b) b)
      by true = told-fenced _ (record b { next = b.next + 1 }) is (drawn-fenced b i)
      by false = i

  behinds-fenced : (time k : ℕ) (list : List (List ℕ)) (j : ℕ) (edges : List Edge) (b : Board) → Is time → BoardFenced Is b → BoardFenced Is (edges_behind time k list j edges b)
  behinds-fenced time k list j [] b is i = i
  behinds-fenced time k list j (e ∷ edges) b is i = behinds-fenced time k list (j + 1) edges (edge_behind time k (slice_index_or list j []) e b) is (behind-fenced time k (slice_index_or list j []) e b is i)

  set-fenced : (j : ℕ) (p : Place) (s : SpoolAt) → PlaceFenced Is p → SpoolFenced Is s → SpoolFenced Is (with_place j p s)
  set-fenced j p s is i = all-set (PlaceFenced Is) s.places j p is i

  fenced-closed : Is 0 → IsClosed (NewsFenced Is) (AnswerFenced Is) (LastFenced Is) AnyKey AnyFind (BoardFenced Is) (BesideFenced Is) (ApartFenced Is)
  fenced-closed none = record {
    sends = record {
      part = λ k c b i. told-fenced _ b tt i;
      end = λ k deleted b i. told-fenced _ b tt i;
      ready = λ find s b was i. tt;
      send = λ find s r b ready i. told-fenced _ b tt i;
      take = λ test s b was i. (all-found (SpoolFenced Is) test b.shelf s was i.spools, record { spools = all-without (SpoolFenced Is) test b.shelf i.spools; starts = i.starts; facts = i.facts });
      put = λ s b i. record { spools = all-insert (SpoolFenced Is) b.shelf (place_before s.key b.shelf) s i.0 i.1.spools; starts = i.1.starts; facts = i.1.facts };
      drop = λ s b i. i.1;
      open_new = λ key r b none_there fits i. (fresh-fenced b.next key.list, asked-fenced key 0 key.list b none i);
      fits = λ find s ready. tt;
      enter = λ r s b i. i;
      fence = λ time s b was unasked i. (places-fenced time s.key 0 s.places b i.0, looks-fenced time s.key 0 s.places b (fence-fenced time s.places was i.0) i.1);
    };
    join = λ k c b i. told-fenced _ b tt i;
    start = λ k cursor b i. told-fenced _ b tt i;
    leave = λ k s b i some. i;
    look = λ c j s b at i. (set-fenced j (Asked b.next None) s tt i.0, told-fenced _ (record b { next = b.next + 1 }) none (drawn-fenced b i.1));
    forget = λ c j n quiet s b at was i. (set-fenced j (Asked n None) s tt i.0, i.1);
    quieten = λ number j quiet news s b at right nothing i. (set-fenced j (Nothing quiet) s tt i.0, i.1);
    discover = λ number j quiet news s b at right past i. (set-fenced j _ s right i.0, i.1);
    hear = λ c j quiet news s b at rests good past i. (set-fenced j _ s good i.0, i.1);
    take_start = λ test s b was i. (all-found (StartFenced Is) test b.starts s was i.starts, record { spools = i.spools; starts = all-without (StartFenced Is) test b.starts i.starts; facts = i.facts });
    put_start = λ s b i. record { spools = i.1.spools; starts = all-append (StartFenced Is) b.starts (s ∷ []) i.1.starts (i.0, tt); facts = i.1.facts };
    drop_start = λ s b i. i.1;
    new_start = λ r list b fits i. (fresh-edges-fenced b.next list, edges-fenced r.k list b none i);
    hear_edge = λ j floor last s b told i. (all-set (EdgeFenced Is) s.edges j (Known last floor) told i.0, i.1);
    newest_fits = λ s b i. tt;
    cursor_fits = λ cursor s b was i. tt;
    fence_edges = λ s b i. (
      behind-edges-fenced (newest_time s.edges) s.reader.k s.list 0 s.edges b i.0,
      behinds-fenced (newest_time s.edges) s.reader.k s.list 0 s.edges b (newest-fenced 0 s.edges none none i.0) i.1,
    );
  }

  pub fences-kept : KeepsFences Is
  fences-kept none = all-kept (NewsFenced Is) (AnswerFenced Is) (LastFenced Is) AnyKey AnyFind (BoardFenced Is) (BesideFenced Is) (ApartFenced Is) (fenced-closed none)
