-- The holds that are kept, and those that a call's facts name.
use Rattle.std.proofs.Common.{◌≡◌, ℕ, zero, suc, ◌+◌, Bool, true, false, cond, not, ◌||◌, ◌&&◌, List, [], ◌∷◌, refl, sym, ap, subst, ◌∙◌, Some, None, find, insert, get_or, nat_lt, ◌==◌, arith}
use Rattle.std.specs.Prelude.{slice_index_or}
use Rattle.std.specs.List.{AllByRecursion, list_any}
use Rattle.std.proofs.lemmas.Bool.Decides.{nat_tests}
use Rattle.nc_spool.specs.declared.fact.Fact.{Fact}
use Rattle.nc_spool.specs.declared.fact.Fact.TheVariants.{Started, Ended}
use Rattle.nc_spool_state.specs.declared.place.Place.{Place}
use Rattle.nc_spool_state.specs.declared.place.Place.TheVariants.{Asked, Nothing, Found}
use Rattle.nc_spool_state.specs.declared.choice.Find.{Find}
use Rattle.nc_spool_state.specs.declared.kept.Held.{Held}
use Rattle.nc_spool_state.specs.declared.edge.Edge.{Edge}
use Rattle.nc_spool.specs.declared.board.Board.{Board}
use Rattle.nc_spool_state.specs.Key.{KeyAt, name_at, id_at}
use Rattle.nc_spool_state.specs.Spool.{SpoolAt, no_place}
use Rattle.nc_spool_state.specs.Shelf.{place_before, without_first}
use Rattle.nc_spool_state.specs.Choice.{is_below}
use Rattle.nc_spool_state.specs.Edge.{is_behind, newest_time}
use Rattle.nc_spool.specs.Board.{told, looked, asked_from}
use Rattle.nc_spool.specs.Decide.{fence_look, fence_looks}
use Rattle.nc_spool.specs.Newest.{edges_from, asked_edge, edge_behind, edges_behind}
use Rattle.nc_spool_state.specs.Kept.{place_uses, spool_uses, is_used, is_grant, is_before, is_kept, is_idle, place_of_grant, with_hold}
use Rattle.nc_spool_laws.proofs.Closing.{IsClosed}
use Rattle.nc_spool_laws.specs.Attended.{AnyLast, AnyKey, PlaceHeld, IsHeld, NewsHeld, AnswerHeld}
use Rattle.nc_spool_laws.specs.Guards.{IsFind}
use Rattle.nc_spool_laws.specs.Holding.{FactHeld, BoardHeld, BesideHeld, ApartHeld, FindHeld, KeepsHeld, IsBefore, AreRising, HoldsRule}
use Rattle.nc_spool_laws.proofs.Lists.{all-insert, all-without, all-found, all-append, all-changed}
use Rattle.nc_spool_laws.proofs.Same.{asked-shelf, fences-shelf, edges-shelf, behinds-shelf}
use Rattle.nc_spool_laws.proofs.Walk.{all-kept}
use Rattle.nc_spool_laws.proofs.Local.{held}
use Rattle.nc_spool_laws.proofs.Guarding.{sends-guarded}

module _ {H : Type 0} (kept : List (Held H)) where
  told-held : (fact : Fact) (b : Board) → FactHeld kept fact → AllByRecursion (FactHeld kept) b.facts → AllByRecursion (FactHeld kept) (told fact b).facts
  told-held fact b h i = all-append (FactHeld kept) b.facts (fact ∷ []) i (h, tt)

  asked-held : (key : KeyAt) (j : ℕ) (names : List (List ℕ)) (b : Board) → AllByRecursion (FactHeld kept) b.facts → AllByRecursion (FactHeld kept) (asked_from key j names b).facts
  asked-held key j [] b i = i
  asked-held key j (c ∷ names) b i = asked-held key (j + 1) names (looked c (id_at key j) 0 b) (all-append (FactHeld kept) b.facts (_ ∷ []) i (tt, tt))

  fence-held : (time : ℕ) (key : KeyAt) (j : ℕ) (p : Place) (b : Board) → AllByRecursion (FactHeld kept) b.facts → AllByRecursion (FactHeld kept) (fence_look time key j p b).facts
  fence-held time key j p b i = by (is_below time p)
    where
      by : (t : Bool) → AllByRecursion (FactHeld kept) (cond t (looked (name_at key j) (id_at key j) time b) b).facts
      by true = all-append (FactHeld kept) b.facts (_ ∷ []) i (tt, tt)
      by false = i

  fences-held : (time : ℕ) (key : KeyAt) (j : ℕ) (places : List Place) (b : Board) → AllByRecursion (FactHeld kept) b.facts → AllByRecursion (FactHeld kept) (fence_looks time key j places b).facts
  fences-held time key j [] b i = i
  fences-held time key j (p ∷ places) b i = fences-held time key (j + 1) places (fence_look time key j p b) (fence-held time key j p b i)

  edges-held : (k : ℕ) (names : List (List ℕ)) (b : Board) → AllByRecursion (FactHeld kept) b.facts → AllByRecursion (FactHeld kept) (edges_from k names b).facts
  edges-held k [] b i = i
  edges-held k (c ∷ names) b i = edges-held k names (asked_edge k c 0 b) (all-append (FactHeld kept) b.facts (_ ∷ []) i (tt, tt))

  behind-held : (time k : ℕ) (c : List ℕ) (e : Edge) (b : Board) → AllByRecursion (FactHeld kept) b.facts → AllByRecursion (FactHeld kept) (edge_behind time k c e b).facts
  behind-held time k c e b i = by (is_behind time e)
    where
      by : (t : Bool) → AllByRecursion (FactHeld kept) (cond t (asked_edge k c time b) b).facts
      by true = all-append (FactHeld kept) b.facts (_ ∷ []) i (tt, tt)
      by false = i

  behinds-held : (time k : ℕ) (list : List (List ℕ)) (j : ℕ) (edges : List Edge) (b : Board) → AllByRecursion (FactHeld kept) b.facts → AllByRecursion (FactHeld kept) (edges_behind time k list j edges b).facts
  behinds-held time k list j [] b i = i
  behinds-held time k list j (e ∷ edges) b i = behinds-held time k list (j + 1) edges (edge_behind time k (slice_index_or list j []) e b) (behind-held time k (slice_index_or list j []) e b i)

  -- what is sent was found at a place, so its hold is kept
  place-held : (places : List Place) (i : ℕ) → AllByRecursion (PlaceHeld kept) places → PlaceHeld kept (get_or places i no_place)
  place-held [] i h = tt
  place-held (p ∷ places) zero h = h.0
  place-held (p ∷ places) (suc i) h = place-held places i h.1

  find-held : (find : Find) (p : Place) → IsFind find p → PlaceHeld kept p → is_kept find.owner find.g kept ≡ true
  find-held find (Asked number earlier) f h = absurd f
  find-held find (Nothing quiet) f h = absurd f
  find-held find (Found q id owner g) f h = ap (λ (o : ℕ). is_kept o find.g kept) (sym f.1) ∙ ap (λ (n : ℕ). is_kept owner n kept) (sym f.2) ∙ h

  pub closed : IsClosed (NewsHeld kept) (AnswerHeld kept) AnyLast AnyKey (FindHeld kept) (BoardHeld kept) (BesideHeld kept) (ApartHeld kept)
  closed =
      let one = held kept in
      record {
        sends = record {
          part = λ k c b i. (i.0, told-held _ b tt i.1);
          end = λ k deleted b i. (i.0, told-held (Ended k deleted) b tt i.1);
          ready = λ find s b was i. find-held find (get_or s.places find.place no_place) (sends-guarded s.places find was).place (place-held s.places find.place i.0);
          send = λ find s r b ready i. (i.0, told-held _ b ready i.1);
          take = λ test s b was i. (all-found (IsHeld kept) test b.shelf s was i.0, (all-without (IsHeld kept) test b.shelf i.0, i.1));
          put = λ s b i. (all-insert (IsHeld kept) b.shelf (place_before s.key b.shelf) s i.0 i.1.0, i.1.1);
          drop = λ s b i. i.1;
          open_new = λ key r b none fits i. (one.fresh b.next key r, (subst (AllByRecursion (IsHeld kept)) (sym (asked-shelf key 0 key.list b)) i.0, asked-held key 0 key.list b i.1));
          fits = λ find s ready. tt;
          enter = λ r s b i. (one.enter r s i.0, i.1);
          fence = λ time s b was unasked i. (one.fence time s b i.0, (subst (AllByRecursion (IsHeld kept)) (sym (fences-shelf time s.key 0 s.places b)) i.1.0, fences-held time s.key 0 s.places b i.1.1));
        };
        join = λ k c b i. (i.0, told-held _ b tt i.1);
        start = λ k cursor b i. (i.0, told-held (Started k cursor) b tt i.1);
        leave = λ k s b i some. (one.leave k s i.0 some, i.1);
        look = λ c j s b at i. (one.ask j b.next None s i.0, (i.1.0, all-append (FactHeld kept) b.facts (_ ∷ []) i.1.1 (tt, tt)));
        forget = λ c j n quiet s b at was i. (one.ask j n None s i.0, i.1);
        quieten = λ number j quiet news s b at right nothing i. (one.quieten j quiet s i.0, i.1);
        discover = λ number j quiet news s b at right later i. (one.discover number j quiet news s right i.0, i.1);
        hear = λ c j quiet news s b at rests good later i. (one.hear c j quiet.q news s good i.0, i.1);
        take_start = λ test s b was i. i;
        put_start = λ s b i. i;
        drop_start = λ s b i. i;
        new_start = λ r list b fits i. (subst (AllByRecursion (IsHeld kept)) (sym (edges-shelf r.k list b)) i.0, edges-held r.k list b i.1);
        hear_edge = λ j floor last s b told i. i;
        newest_fits = λ s b i. tt;
        cursor_fits = λ cursor s b was i. tt;
        fence_edges = λ s b i. (subst (AllByRecursion (IsHeld kept)) (sym (behinds-shelf (newest_time s.edges) s.reader.k s.list 0 s.edges b)) i.0, behinds-held (newest_time s.edges) s.reader.k s.list 0 s.edges b i.1);
      }

  pub sent-held : KeepsHeld kept
  sent-held = all-kept (NewsHeld kept) (AnswerHeld kept) AnyLast AnyKey (FindHeld kept) (BoardHeld kept) (BesideHeld kept) (ApartHeld kept) closed

-- the order of grants, on numbers
grant-after : (a b c d : ℕ) → (nat_lt a c || ((a == c) && nat_lt b d)) ≡ false → ((c == a) && (d == b)) ≡ false → (nat_lt c a || ((c == a) && nat_lt d b)) ≡ true
grant-after a b c d e f = grind (arith, nat_tests)

grant-trans : (a b c d e f : ℕ) → (nat_lt a c || ((a == c) && nat_lt b d)) ≡ true → (nat_lt c e || ((c == e) && nat_lt d f)) ≡ true → (nat_lt a e || ((a == e) && nat_lt b f)) ≡ true
grant-trans a b c d e f x y = grind (arith, nat_tests)

grant-owner : (a b c d : ℕ) → ((a == b) && (c == d)) ≡ true → a ≡ b
grant-owner a b c d e = grind (arith, nat_tests)

grant-number : (a b c d : ℕ) → ((a == b) && (c == d)) ≡ true → c ≡ d
grant-number a b c d e = grind (arith, nat_tests)

grant-itself : (a c : ℕ) → ((a == a) && (c == c)) ≡ true
grant-itself a c = grind (arith, nat_tests)

or-first : (a b : Bool) → (a || b) ≡ false → a ≡ false
or-first true b e = absurd cc
or-first false b e = refl

or-second : (a b : Bool) → (a || b) ≡ false → b ≡ false
or-second true b e = absurd cc
or-second false b e = e

late : (a b : Bool) → b ≡ true → (a || b) ≡ true
late true b e = refl
late false b e = e

early : (a b : Bool) → a ≡ true → (a || b) ≡ true
early true b e = refl
early false b e = absurd cc

module _ {X : Type 0} (p : X → Bool) where
  any-insert : (xs : List X) (i : ℕ) (x : X) → list_any p (insert xs i x) ≡ (p x || list_any p xs)
  any-insert xs zero x = refl
  any-insert [] (suc i) x = refl
  any-insert (y ∷ xs) (suc i) x = by (p y) (p x) (list_any p xs) (any-insert xs i x)
    where
      by : (a b c : Bool) → list_any p (insert xs i x) ≡ (b || c) → (a || list_any p (insert xs i x)) ≡ (b || (a || c))
      by true true c e = refl
      by true false c e = refl
      by false b c e = e

  any-without : (test : X → Bool) → ((x : X) → p x ≡ true → test x ≡ false) → (xs : List X) → list_any p xs ≡ true → list_any p (without_first test xs) ≡ true
  any-without test h [] e = e
  any-without test h (x ∷ xs) e = by (test x) refl (p x) refl e (λ f. any-without test h xs f)
    where
      by : (t : Bool) → test x ≡ t → (a : Bool) → p x ≡ a → (a || list_any p xs) ≡ true → (list_any p xs ≡ true → list_any p (without_first test xs) ≡ true) → list_any p (cond t xs (x ∷ without_first test xs)) ≡ true
      by true was true passes e rest = let clash : true ≡ false = sym was ∙ h x passes in absurd cc
      by true was false passes e rest = e
      by false was true passes e rest = early (p x) (list_any p (without_first test xs)) passes
      by false was false passes e rest = late (p x) (list_any p (without_first test xs)) (rest e)

none-pass : {X : Type 0} (test : X → Bool) (xs : List X) → find test xs ≡ None → AllByRecursion (λ x. test x ≡ false) xs
none-pass test [] e = tt
none-pass test (x ∷ xs) e = by (test x) refl e (λ h. none-pass test xs h)
  where
    by : (t : Bool) → test x ≡ t → cond t (Some x) (find test xs) ≡ None → (find test xs ≡ None → AllByRecursion (λ y. test y ≡ false) xs) → AllByRecursion (λ y. test y ≡ false) (x ∷ xs)
    by true was e rest = absurd cc
    by false was e rest = (was, rest e)

not-false : (b : Bool) → not b ≡ false → b ≡ true
not-false true e = refl
not-false false e = absurd cc

module _ {H : Type 0} where
  put-rising : (h : Held H) (kept : List (Held H)) → is_kept h.owner h.g kept ≡ false → AreRising kept → AreRising (with_hold h kept)
  put-rising h [] new i = (tt, tt)
  put-rising h (x ∷ kept) new i = by (is_before h.owner h.g x) refl (put-rising h kept (or-second (is_grant h.owner h.g x) (is_kept h.owner h.g kept) new) i.1)
    where
      by : (t : Bool) → is_before h.owner h.g x ≡ t → AreRising (with_hold h kept) → AreRising (insert (x ∷ kept) (cond t 0 (suc (place_of_grant h.owner h.g kept))) h)
      by true was rest = ((was, all-changed (IsBefore x) (IsBefore h) kept (λ y b. grant-trans h.owner h.g x.owner x.g y.owner y.g was b) i.0), i)
      by false was rest = (all-insert (IsBefore x) kept (place_of_grant h.owner h.g kept) h (grant-after h.owner h.g x.owner x.g was (or-first (is_grant h.owner h.g x) (is_kept h.owner h.g kept) new)) i.0, rest)

  take-rising : (test : Held H → Bool) (kept : List (Held H)) → AreRising kept → AreRising (without_first test kept)
  take-rising test [] i = tt
  take-rising test (x ∷ kept) i = by (test x) (take-rising test kept i.1)
    where
      by : (t : Bool) → AreRising (without_first test kept) → AreRising (cond t kept (x ∷ without_first test kept))
      by true rest = i.1
      by false rest = (all-without (IsBefore x) test kept i.0, rest)

  -- what is found stays held where each grant that is kept and meets a condition still is
  place-changed : (kept now : List (Held H)) (p : Place) → ((o g : ℕ) → place_uses o g p ≡ true → is_kept o g kept ≡ true → is_kept o g now ≡ true) → PlaceHeld kept p → PlaceHeld now p
  place-changed kept now (Asked number earlier) h i = tt
  place-changed kept now (Nothing quiet) h i = tt
  place-changed kept now (Found q id owner g) h i = h owner g (grant-itself owner g) i

  places-changed : (kept now : List (Held H)) (places : List Place) → ((o g : ℕ) → list_any (place_uses o g) places ≡ true → is_kept o g kept ≡ true → is_kept o g now ≡ true) → AllByRecursion (PlaceHeld kept) places → AllByRecursion (PlaceHeld now) places
  places-changed kept now [] h i = tt
  places-changed kept now (p ∷ places) h i = (
    place-changed kept now p (λ o g used k. h o g (early (place_uses o g p) (list_any (place_uses o g) places) used) k) i.0,
    places-changed kept now places (λ o g used k. h o g (late (place_uses o g p) (list_any (place_uses o g) places) used) k) i.1,
  )

  spools-changed : (kept now : List (Held H)) (spools : List SpoolAt) → ((o g : ℕ) → is_used o g spools ≡ true → is_kept o g kept ≡ true → is_kept o g now ≡ true) → AllByRecursion (IsHeld kept) spools → AllByRecursion (IsHeld now) spools
  spools-changed kept now [] h i = tt
  spools-changed kept now (s ∷ spools) h i = (
    places-changed kept now s.places (λ o g used k. h o g (early (spool_uses o g s) (is_used o g spools) used) k) i.0,
    spools-changed kept now spools (λ o g used k. h o g (late (spool_uses o g s) (is_used o g spools) used) k) i.1,
  )

  grant-busy : (spools : List SpoolAt) (o g : ℕ) (x : Held H) → is_used o g spools ≡ true → is_grant o g x ≡ true → is_idle spools x ≡ false
  grant-busy spools o g x used is =
      ap not (ap (λ (n : ℕ). is_used n x.g spools) (grant-owner x.owner o x.g g is) ∙ ap (λ (n : ℕ). is_used o n spools) (grant-number x.owner o x.g g is) ∙ used)

pub holds-rule : (H : Type 0) → HoldsRule H
holds-rule H = record {
  keep = λ h kept new i. put-rising h kept new i;
  keep_held = λ h kept spools i. spools-changed kept (with_hold h kept) spools (λ o g used k. any-insert (is_grant o g) kept (place_of_grant h.owner h.g kept) h ∙ late (is_grant o g h) (is_kept o g kept) k) i;
  new_held = λ h kept. any-insert (is_grant h.owner h.g) kept (place_of_grant h.owner h.g kept) h ∙ early (is_grant h.owner h.g h) (is_kept h.owner h.g kept) (grant-itself h.owner h.g);
  take = λ kept spools i. take-rising (is_idle spools) kept i;
  take_held = λ kept spools i. spools-changed kept (without_first (is_idle spools) kept) spools (λ o g used k. any-without (is_grant o g) (is_idle spools) (λ x is. grant-busy spools o g x used is) kept k) i;
  none_idle = λ kept spools e. all-changed (λ h. is_idle spools h ≡ false) (λ h. is_used h.owner h.g spools ≡ true) kept (λ h idle. not-false (is_used h.owner h.g spools) idle) (none-pass (is_idle spools) kept e);
}
