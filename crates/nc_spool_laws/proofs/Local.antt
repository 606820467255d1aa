-- What holds of each spool by itself is kept by each call.
use Rattle.std.proofs.Common.{◌≡◌, ℕ, zero, suc, ◌+◌, ◌<◌, Bool, true, false, cond, List, [], ◌∷◌, refl, sym, subst, Option, Some, None, length, set, nat_lt, ap, ◌∙◌, length-set}
use Rattle.std.specs.List.{AllByRecursion}
use Rattle.nc_spool_state.specs.declared.place.Quiet.{Quiet}
use Rattle.nc_spool_state.specs.declared.place.Place.{Place}
use Rattle.nc_spool_state.specs.declared.place.Place.TheVariants.{Asked, Nothing, Found}
use Rattle.nc_spool_state.specs.declared.spool.Reader.{Reader}
use Rattle.nc_spool_state.specs.declared.hear.News.{News}
use Rattle.nc_spool_state.specs.declared.kept.Held.{Held}
use Rattle.nc_spool.specs.declared.board.Board.{Board}
use Rattle.nc_spool_state.specs.Key.{KeyAt}
use Rattle.nc_spool_state.specs.Spool.{SpoolAt, with_reader, without_reader, with_place, place_above}
use Rattle.nc_spool_state.specs.Shelf.{place_before}
use Rattle.nc_spool_state.specs.Edge.{newest_time}
use Rattle.nc_spool.specs.Board.{fresh_spool, fresh_places}
use Rattle.nc_spool.specs.Decide.{fenced, fenced_places, fence_look}
use Rattle.nc_spool_state.specs.Hear.{found_by}
use Rattle.nc_spool_laws.proofs.Closing.{IsClosed}
use Rattle.nc_spool_laws.specs.Attended.{AnyLast, AnyKey, AnyFind, InAll, BesideAll, ApartAll, KeepsAll, IsAttended, IsWhole, AnyNews, AnyAnswer, PlaceHeld, IsHeld, NewsHeld, AnswerHeld}
use Rattle.nc_spool_laws.proofs.Lists.{all-insert, all-without, all-found, length-insert_one}
use Rattle.nc_spool_laws.proofs.Same.{asked-shelf, fences-shelf, edges-shelf, behinds-shelf}
use Rattle.nc_spool_laws.proofs.Walk.{all-kept}

-- what it takes of one spool
pub record IsLocal (Good : List ℕ → News → Type 0) (Right : ℕ → Quiet → Option News → Type 0) (P : SpoolAt → Type 0) : Type 0 where
  pub fresh : (n : ℕ) (key : KeyAt) (r : Reader) → P (with_reader r (fresh_spool n key))
  pub enter : (r : Reader) (s : SpoolAt) → P s → P (with_reader r s)
  pub leave : (k : ℕ) (s : SpoolAt) → P s → 0 < length (without_reader k s).readers → P (without_reader k s)
  pub fence : (time : ℕ) (s : SpoolAt) (b : Board) → P s → P (record s { places = fenced_places time s.key 0 s.places b })
  pub ask : (j n : ℕ) (earlier : Option Quiet) (s : SpoolAt) → P s → P (with_place j (Asked n earlier) s)
  pub quieten : (j : ℕ) (quiet : Quiet) (s : SpoolAt) → P s → P (with_place j (Nothing quiet) s)
  pub discover : (number j : ℕ) (quiet : Quiet) (news : News) (s : SpoolAt) → Right number quiet (Some news) → P s → P (with_place j (found_by quiet.q news) s)
  pub hear : (c : List ℕ) (j q : ℕ) (news : News) (s : SpoolAt) → Good c news → P s → P (with_place j (found_by q news) s)

module _ (Good : List ℕ → News → Type 0) (Right : ℕ → Quiet → Option News → Type 0) (P : SpoolAt → Type 0) (local : IsLocal Good Right P) where
  pub local-closed : IsClosed Good Right AnyLast AnyKey AnyFind (InAll P) (BesideAll P) (ApartAll P)
  local-closed = record {
    sends = record {
      part = λ k c b i. i;
      end = λ k deleted b i. i;
      ready = λ find s b was i. tt;
      send = λ find s r b ready i. i;
      take = λ test s b was i. (all-found P test b.shelf s was i, all-without P test b.shelf i);
      put = λ s b i. all-insert P b.shelf (place_before s.key b.shelf) s i.0 i.1;
      drop = λ s b i. i.1;
      open_new = λ key r b none fits i. (local.fresh b.next key r, subst (AllByRecursion P) (sym (asked-shelf key 0 key.list b)) i);
      fits = λ find s ready. tt;
      enter = λ r s b i. (local.enter r s i.0, i.1);
      fence = λ time s b was unasked i. (local.fence time s b i.0, subst (AllByRecursion P) (sym (fences-shelf time s.key 0 s.places b)) i.1);
    };
    join = λ k c b i. i;
    start = λ k cursor b i. i;
    leave = λ k s b i some. (local.leave k s i.0 some, i.1);
    look = λ c j s b at i. (local.ask j b.next None s i.0, i.1);
    forget = λ c j n quiet s b at was i. (local.ask j n None s i.0, i.1);
    quieten = λ number j quiet news s b at right nothing i. (local.quieten j quiet s i.0, i.1);
    discover = λ number j quiet news s b at right later i. (local.discover number j quiet news s right i.0, i.1);
    hear = λ c j quiet news s b at rests good later i. (local.hear c j quiet.q news s good i.0, i.1);
    take_start = λ test s b was i. i;
    put_start = λ s b i. i;
    drop_start = λ s b i. i;
    new_start = λ r list b fits i. subst (AllByRecursion P) (sym (edges-shelf r.k list b)) i;
    hear_edge = λ j floor last s b told i. i;
    newest_fits = λ s b i. tt;
    cursor_fits = λ cursor s b was i. tt;
    fence_edges = λ s b i. subst (AllByRecursion P) (sym (behinds-shelf (newest_time s.edges) s.reader.k s.list 0 s.edges b)) i;
  }

  pub local-kept : KeepsAll Good Right P
  local-kept = all-kept Good Right AnyLast AnyKey AnyFind (InAll P) (BesideAll P) (ApartAll P) local-closed

-- someone stands in each spool
attended : IsLocal AnyNews AnyAnswer IsAttended
attended = record {
  fresh = λ n key r. length-insert_one [] 0 r;
  enter = λ r s i. length-insert_one s.readers (place_above r.k s.readers) r;
  leave = λ k s i some. some;
  fence = λ time s b i. i;
  ask = λ j n earlier s i. i;
  quieten = λ j quiet s i. i;
  discover = λ number j quiet news s right i. i;
  hear = λ c j q news s good i. i;
}

pub attended-kept : KeepsAll AnyNews AnyAnswer IsAttended
attended-kept = local-kept AnyNews AnyAnswer IsAttended attended

-- there is a place for each name
pub length-fresh : (n : ℕ) (names : List (List ℕ)) → length (fresh_places n names) ≡ length names
length-fresh n [] = refl
length-fresh n (c ∷ names) = ap suc (length-fresh (n + 1) names)

pub length-fenced : (time : ℕ) (key : KeyAt) (j : ℕ) (places : List Place) (b : Board) → length (fenced_places time key j places b) ≡ length places
length-fenced time key j [] b = refl
length-fenced time key j (p ∷ places) b = ap suc (length-fenced time key (j + 1) places (fence_look time key j p b))

pub whole : IsLocal AnyNews AnyAnswer IsWhole
whole = record {
  fresh = λ n key r. length-fresh n key.list;
  enter = λ r s i. i;
  leave = λ k s i some. i;
  fence = λ time s b i. length-fenced time s.key 0 s.places b ∙ i;
  ask = λ j n earlier s i. length-set s.places j (Asked n earlier) ∙ i;
  quieten = λ j quiet s i. length-set s.places j (Nothing quiet) ∙ i;
  discover = λ number j quiet news s right i. length-set s.places j (found_by quiet.q news) ∙ i;
  hear = λ c j q news s good i. length-set s.places j (found_by q news) ∙ i;
}

pub whole-kept : KeepsAll AnyNews AnyAnswer IsWhole
whole-kept = local-kept AnyNews AnyAnswer IsWhole whole

-- the hold of each message that was found is kept
module _ {H : Type 0} (kept : List (Held H)) where
  fresh-held : (n : ℕ) (names : List (List ℕ)) → AllByRecursion (PlaceHeld kept) (fresh_places n names)
  fresh-held n [] = tt
  fresh-held n (c ∷ names) = (tt, fresh-held (n + 1) names)

  set-held : (places : List Place) (j : ℕ) (p : Place) → PlaceHeld kept p → AllByRecursion (PlaceHeld kept) places → AllByRecursion (PlaceHeld kept) (set places j p)
  set-held [] j p h i = tt
  set-held (q ∷ places) zero p h i = (h, i.1)
  set-held (q ∷ places) (suc j) p h i = (i.0, set-held places j p h i.1)

  fenced-held : (time n : ℕ) (p : Place) → PlaceHeld kept p → PlaceHeld kept (fenced time n p)
  fenced-held time n (Asked number earlier) i = i
  fenced-held time n (Found q id owner g) i = i
  fenced-held time n (Nothing quiet) i = by (nat_lt quiet.floor time)
    where
      by : (t : Bool) → PlaceHeld kept (cond t (Asked n (Some quiet)) (Nothing quiet))
      by true = tt
      by false = tt

  fences-held : (time : ℕ) (key : KeyAt) (j : ℕ) (places : List Place) (b : Board) → AllByRecursion (PlaceHeld kept) places → AllByRecursion (PlaceHeld kept) (fenced_places time key j places b)
  fences-held time key j [] b i = tt
  fences-held time key j (p ∷ places) b i = (fenced-held time b.next p i.0, fences-held time key (j + 1) places (fence_look time key j p b) i.1)

  pub held : IsLocal (NewsHeld kept) (AnswerHeld kept) (IsHeld kept)
  held = record {
    fresh = λ n key r. fresh-held n key.list;
    enter = λ r s i. i;
    leave = λ k s i some. i;
    fence = λ time s b i. fences-held time s.key 0 s.places b i;
    ask = λ j n earlier s i. set-held s.places j (Asked n earlier) tt i;
    quieten = λ j quiet s i. set-held s.places j (Nothing quiet) tt i;
    discover = λ number j quiet news s right i. set-held s.places j (found_by quiet.q news) right i;
    hear = λ c j q news s good i. set-held s.places j (found_by q news) good i;
  }

  pub held-kept : KeepsAll (NewsHeld kept) (AnswerHeld kept) (IsHeld kept)
  held-kept = local-kept (NewsHeld kept) (AnswerHeld kept) (IsHeld kept) held
