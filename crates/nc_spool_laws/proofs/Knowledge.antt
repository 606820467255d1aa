-- Each call keeps what the places know.
use Rattle.std.proofs.Common.{◌≡◌, ◌≢◌, ℕ, zero, suc, ◌+◌, ◌<◌, Bool, true, false, cond, not, ◌&&◌, ltb, List, [], ◌∷◌, ◌++◌, refl, sym, ap, subst, ◌∙◌, Option, Some, None, length, set, get_or, length-set, nat_lt, nat_eq, ◌==◌, arith}
use Rattle.std.specs.Prelude.{slice_index_or, bytes_eq}
use Rattle.std.specs.List.{AllByRecursion, position, position_or_len}
use Rattle.std.proofs.lemmas.Bool.Decides.{nat_tests}
use Rattle.std.proofs.lemmas.Grind.{get_or-set_at}
use Rattle.std.proofs.lemmas.List.{get_or-set_other}
use Rattle.nc_types.specs.Id.{Id, is_past}
use Rattle.nc_spool.specs.declared.fact.Fact.{Fact}
use Rattle.nc_spool_state.specs.declared.place.Quiet.{Quiet}
use Rattle.nc_spool_state.specs.declared.place.Place.{Place}
use Rattle.nc_spool_state.specs.declared.place.Place.TheVariants.{Asked, Nothing, Found}
use Rattle.nc_spool_state.specs.declared.spool.Reader.{Reader}
use Rattle.nc_spool_state.specs.declared.hear.News.{News}
use Rattle.nc_spool_state.specs.declared.edge.Edge.{Edge}
use Rattle.nc_spool.specs.declared.board.Board.{Board}
use Rattle.nc_spool_state.specs.Key.{KeyAt, name_at, id_at, place_of}
use Rattle.nc_spool_state.specs.Place.{awaits_number, place_awaiting}
use Rattle.nc_spool_state.specs.Spool.{SpoolAt, no_place, place_at, with_place, with_reader}
use Rattle.nc_spool_state.specs.Shelf.{place_before}
use Rattle.nc_spool_state.specs.Choice.{is_below}
use Rattle.nc_spool_state.specs.Edge.{is_behind, newest_time}
use Rattle.nc_spool.specs.Board.{looked, asked_from, fresh_places, fresh_spool}
use Rattle.nc_spool.specs.Decide.{fenced, fenced_places, fence_look, fence_looks}
use Rattle.nc_spool_state.specs.Hear.{found_by}
use Rattle.nc_spool.specs.Newest.{edges_from, asked_edge, edge_behind, edges_behind}
use Rattle.nc_spool_laws.proofs.Closing.{RestsOn, IsNothing, IsClosed}
use Rattle.nc_spool_laws.specs.Attended.{AnyLast, AnyKey, AnyFind}
use Rattle.nc_spool_laws.specs.Knowing.{Knows, IsKnowing, AllWere, FactWas, BoardKnows, BesideKnows, ApartKnows, Means, IsRight, IsGood, KeepsKnowing}
use Rattle.nc_spool_laws.proofs.Lists.{all-insert, all-without, all-found}
use Rattle.nc_spool_laws.proofs.Same.{asked-shelf, fences-shelf, edges-shelf, behinds-shelf}
use Rattle.nc_spool_laws.proofs.Local.{length-fresh, length-fenced}
use Rattle.nc_spool_laws.proofs.Walk.{all-kept}

all-front : {X : Type 0} (P : X → Type 0) (xs ys : List X) → AllByRecursion P (xs ++ ys) → AllByRecursion P xs
all-front P [] ys a = tt
all-front P (x ∷ xs) ys a = (a.0, all-front P xs ys a.1)

all-last : {X : Type 0} (P : X → Type 0) (xs : List X) (x : X) → AllByRecursion P (xs ++ x ∷ []) → P x
all-last P [] x a = a.0
all-last P (y ∷ xs) x a = all-last P xs x a.1

-- what stands at a place that is found
found-there : {X : Type 0} (test : X → Bool) (xs : List X) (j : ℕ) (d : X) → position_or_len test xs ≡ j → j < length xs → test (get_or xs j d) ≡ true
found-there test [] j d e l = absurd (omega arith)
found-there test (x ∷ xs) j d e l = by (test x) refl e (λ i f g. found-there test xs i d f g)
  where
    by : (t : Bool) → test x ≡ t → cond (not t) (1 + position_or_len test xs) 0 ≡ j → ((i : ℕ) → position_or_len test xs ≡ i → i < length xs → test (get_or xs i d) ≡ true) → test (get_or (x ∷ xs) j d) ≡ true
    by true was e rest = subst (λ (n : ℕ). test (get_or (x ∷ xs) n d) ≡ true) e was
    by false was e rest =
        let next : suc (position_or_len test xs) ≡ j = omega (arith, e) in
        subst (λ (n : ℕ). test (get_or (x ∷ xs) n d) ≡ true) next (rest (position_or_len test xs) refl (omega (arith, l, e)))

some-place : (n m j : ℕ) (b : Bool) → ltb n m ≡ b → cond b (Some n) None ≡ Some j → (n ≡ j) × (j < m)
some-place n m j true lt e = let same : n ≡ j = cc in (same, grind arith)
some-place n m j false lt e = absurd cc

pub position-there : {X : Type 0} (test : X → Bool) (xs : List X) (j : ℕ) (d : X) → position test xs ≡ Some j → test (get_or xs j d) ≡ true
position-there test xs j d e = let at = some-place (position_or_len test xs) (length xs) j (ltb (position_or_len test xs) (length xs)) refl e in found-there test xs j d at.0 at.1

and-first : (a b : Bool) → (a && b) ≡ true → a ≡ true
and-first true b e = refl
and-first false b e = absurd cc

and-second : (a b : Bool) → (a && b) ≡ true → b ≡ true
and-second true b e = e
and-second false b e = absurd cc

same-number : (a b : ℕ) → nat_eq a b ≡ true → a ≡ b
same-number a b e = grind (arith, nat_tests)

pub same-name : (a b : List ℕ) → bytes_eq a b ≡ true → a ≡ b
same-name [] [] e = refl
same-name [] (y ∷ b) e = absurd cc
same-name (x ∷ a) [] e = absurd cc
same-name (x ∷ a) (y ∷ b) e =
    ap (λ (n : ℕ). n ∷ a) (same-number x y (and-first (nat_eq x y) (bytes_eq a b) e)) ∙ ap (λ (l : List ℕ). y ∷ l) (same-name a b (and-second (nat_eq x y) (bytes_eq a b) e))

pub own-name : (c : List ℕ) (key : KeyAt) (j : ℕ) → place_of c key.list ≡ Some j → name_at key j ≡ c
own-name c key j e = same-name (name_at key j) c (position-there (λ name. bytes_eq name c) key.list j [] e)

module _ (Was : ℕ → List ℕ → Id → Type 0) (Rested : List ℕ → Id → Quiet → Type 0) (Came : List ℕ → Id → ℕ → News → Type 0) where
  abbrev Known : SpoolAt → Type 0
  Known = IsKnowing Was Rested Came

  -- a place that is changed
  set-knows : (s : SpoolAt) (j : ℕ) (p : Place) → (j < length s.places → Knows Was Rested Came (name_at s.key j) (id_at s.key j) p) → Known s → Known (with_place j p s)
  set-knows s j p new known i l = by (i == j) refl
    where
      within : i < length s.places
      within = omega (arith, l, length-set s.places j p)

      same : (i j : ℕ) → (i == j) ≡ true → i ≡ j
      same i j e = grind (arith, nat_tests)

      other : (i j : ℕ) → (i == j) ≡ false → i ≢ j
      other i j e f = grind (arith, nat_tests)

      by : (t : Bool) → (i == j) ≡ t → Knows Was Rested Came (name_at s.key i) (id_at s.key i) (get_or (set s.places j p) i no_place)
      by true e =
          let is = same i j e in
          subst (λ (q : Place). Knows Was Rested Came (name_at s.key i) (id_at s.key i) q) (sym (get_or-set_at s.places j i p no_place is (omega (arith, within, is))))
          (subst (λ (n : ℕ). Knows Was Rested Came (name_at s.key n) (id_at s.key n) p) (sym is) (new (omega (arith, within, is))))
      by false e =
          subst (λ (q : Place). Knows Was Rested Came (name_at s.key i) (id_at s.key i) q) (sym (get_or-set_other s.places j i p no_place (other i j e))) (known i within)

  -- what a place knows of its look, and of the answer on which it rests
  knows-look : (c : List ℕ) (after : Id) (number : ℕ) (p : Place) → awaits_number number p ≡ true → Knows Was Rested Came c after p → Was number c after
  knows-look c after number (Asked n None) e k = subst (λ (m : ℕ). Was m c after) (same-number n number e) k
  knows-look c after number (Asked n (Some quiet)) e k = subst (λ (m : ℕ). Was m c after) (same-number n number e) k.0
  knows-look c after number (Nothing quiet) e k = absurd cc
  knows-look c after number (Found q id owner g) e k = absurd cc

  knows-answer : (c : List ℕ) (after : Id) (quiet : Quiet) (p : Place) → RestsOn quiet p → Knows Was Rested Came c after p → Rested c after quiet
  knows-answer c after quiet (Asked n None) e k = absurd e
  knows-answer c after quiet (Asked n (Some earlier)) e k = subst (λ (q : Quiet). Rested c after q) e k.1
  knows-answer c after quiet (Nothing known) e k = subst (λ (q : Quiet). Rested c after q) e k
  knows-answer c after quiet (Found q id owner g) e k = absurd e

  knows-asked : (c : List ℕ) (after : Id) (n : ℕ) (quiet : Quiet) (p : Place) → p ≡ Asked n (Some quiet) → Knows Was Rested Came c after p → Was n c after
  knows-asked c after n quiet p e k = (subst (λ (q : Place). Knows Was Rested Came c after q) e k).0

  means-nothing : (c : List ℕ) (after : Id) (quiet : Quiet) (news : Option News) → IsNothing after news → Means Was Rested Came c after quiet news → Rested c after quiet
  means-nothing c after quiet None none m = m
  means-nothing c after quiet (Some news) none m = m.1 none

  spool-nothing : (number j : ℕ) (quiet : Quiet) (news : Option News) (s : SpoolAt) → place_awaiting number s.places ≡ Some j → IsRight Was Rested Came number quiet news → IsNothing (id_at s.key j) news → Known s → Known (with_place j (Nothing quiet) s)
  spool-nothing number j quiet news s at right none known =
      set-knows s j (Nothing quiet) (λ l. means-nothing (name_at s.key j) (id_at s.key j) quiet news none (right (name_at s.key j) (id_at s.key j) (knows-look (name_at s.key j) (id_at s.key j) number (place_at s j) (position-there (awaits_number number) s.places j no_place at) (known j l)))) known

  spool-found : (number j : ℕ) (quiet : Quiet) (news : News) (s : SpoolAt) → place_awaiting number s.places ≡ Some j → IsRight Was Rested Came number quiet (Some news) → is_past news.id (id_at s.key j) ≡ true → Known s → Known (with_place j (found_by quiet.q news) s)
  spool-found number j quiet news s at right past known =
      set-knows s j (found_by quiet.q news) (λ l. (right (name_at s.key j) (id_at s.key j) (knows-look (name_at s.key j) (id_at s.key j) number (place_at s j) (position-there (awaits_number number) s.places j no_place at) (known j l))).0 past) known

  spool-heard : (c : List ℕ) (j : ℕ) (quiet : Quiet) (news : News) (s : SpoolAt) → place_of c s.key.list ≡ Some j → RestsOn quiet (place_at s j) → IsGood Was Rested Came c news → is_past news.id (id_at s.key j) ≡ true → Known s → Known (with_place j (found_by quiet.q news) s)
  spool-heard c j quiet news s at rests good past known =
      set-knows s j (found_by quiet.q news) (λ l.
      let own = own-name c s.key j at in
      subst (λ (d : List ℕ). Came d (id_at s.key j) quiet.q news) (sym own)
      (good (id_at s.key j) quiet (subst (λ (d : List ℕ). Rested d (id_at s.key j) quiet) own (knows-answer (name_at s.key j) (id_at s.key j) quiet (place_at s j) rests (known j l))) past)) known

module _ (Was : ℕ → List ℕ → Id → Type 0) (Rested : List ℕ → Id → Quiet → Type 0) (Came : List ℕ → Id → ℕ → News → Type 0) where
  abbrev Were : Board → Type 0
  Were b = AllWere Was Rested Came b.facts

  abbrev Were_one : Fact → Type 0
  Were_one fact = FactWas Was Rested Came fact

  -- fewer looks were made before
  asked-front : (key : KeyAt) (j : ℕ) (names : List (List ℕ)) (b : Board) → Were (asked_from key j names b) → Were b
  asked-front key j [] b w = w
  asked-front key j (c ∷ names) b w = all-front Were_one b.facts (_ ∷ []) (asked-front key (j + 1) names (looked c (id_at key j) 0 b) w)

  fence-front : (time : ℕ) (key : KeyAt) (j : ℕ) (p : Place) (b : Board) → Were (fence_look time key j p b) → Were b
  fence-front time key j p b w = by (is_below time p) w
    where
      by : (t : Bool) → Were (cond t (looked (name_at key j) (id_at key j) time b) b) → Were b
      by true w = all-front Were_one b.facts (_ ∷ []) w
      by false w = w

  fences-front : (time : ℕ) (key : KeyAt) (j : ℕ) (places : List Place) (b : Board) → Were (fence_looks time key j places b) → Were b
  fences-front time key j [] b w = w
  fences-front time key j (p ∷ places) b w = fence-front time key j p b (fences-front time key (j + 1) places (fence_look time key j p b) w)

  edges-front : (k : ℕ) (names : List (List ℕ)) (b : Board) → Were (edges_from k names b) → Were b
  edges-front k [] b w = w
  edges-front k (c ∷ names) b w = all-front Were_one b.facts (_ ∷ []) (edges-front k names (asked_edge k c 0 b) w)

  behind-front : (time k : ℕ) (c : List ℕ) (e : Edge) (b : Board) → Were (edge_behind time k c e b) → Were b
  behind-front time k c e b w = by (is_behind time e) w
    where
      by : (t : Bool) → Were (cond t (asked_edge k c time b) b) → Were b
      by true w = all-front Were_one b.facts (_ ∷ []) w
      by false w = w

  behinds-front : (time k : ℕ) (list : List (List ℕ)) (j : ℕ) (edges : List Edge) (b : Board) → Were (edges_behind time k list j edges b) → Were b
  behinds-front time k list j [] b w = w
  behinds-front time k list j (e ∷ edges) b w = behind-front time k (slice_index_or list j []) e b (behinds-front time k list (j + 1) edges (edge_behind time k (slice_index_or list j []) e b) w)

  looked-was : (c : List ℕ) (after : Id) (fence : ℕ) (b : Board) → Were (looked c after fence b) → Was b.next c after
  looked-was c after fence b w = all-last Were_one b.facts _ w

  -- the places of a new spool
  fresh-knows : (key : KeyAt) (i : ℕ) (names : List (List ℕ)) (b : Board) → ((j : ℕ) → j < length names → name_at key (i + j) ≡ get_or names j []) → Were (asked_from key i names b) → (j : ℕ) → j < length names → Knows Was Rested Came (name_at key (i + j)) (id_at key (i + j)) (get_or (fresh_places b.next names) j no_place)
  fresh-knows key i [] b are w j l = absurd (omega arith)
  fresh-knows key i (c ∷ names) b are w zero l =
      let here : i + 0 ≡ i = omega arith in
      let made : Was b.next c (id_at key i) = looked-was c (id_at key i) 0 b (asked-front key (i + 1) names (looked c (id_at key i) 0 b) w) in
      subst (λ (d : List ℕ). Was b.next d (id_at key (i + 0))) (sym (are 0 l)) (subst (λ (n : ℕ). Was b.next c (id_at key n)) (sym here) made)
  fresh-knows key i (c ∷ names) b are w (suc j) l =
      let there : (i + 1) + j ≡ i + suc j = omega arith in
      subst (λ (n : ℕ). Knows Was Rested Came (name_at key n) (id_at key n) (get_or (fresh_places (b.next + 1) names) j no_place)) there
      (fresh-knows key (i + 1) names (looked c (id_at key i) 0 b) (λ m k. let here : (i + 1) + m ≡ i + suc m = omega arith in ap (name_at key) here ∙ are (suc m) (omega (arith, k))) w j (omega (arith, l)))

  -- the places behind a fence
  fence-knows : (time : ℕ) (key : KeyAt) (i : ℕ) (p : Place) (b : Board) → Knows Was Rested Came (name_at key i) (id_at key i) p → Were (fence_look time key i p b) → Knows Was Rested Came (name_at key i) (id_at key i) (fenced time b.next p)
  fence-knows time key i (Asked n earlier) b k w = k
  fence-knows time key i (Found q id owner g) b k w = k
  fence-knows time key i (Nothing quiet) b k w = by (nat_lt quiet.floor time) w
    where
      by : (t : Bool) → Were (cond t (looked (name_at key i) (id_at key i) time b) b) → Knows Was Rested Came (name_at key i) (id_at key i) (cond t (Asked b.next (Some quiet)) (Nothing quiet))
      by true w = (looked-was (name_at key i) (id_at key i) time b w, k)
      by false w = k

  fences-knows : (time : ℕ) (key : KeyAt) (i : ℕ) (places : List Place) (b : Board) → ((j : ℕ) → j < length places → Knows Was Rested Came (name_at key (i + j)) (id_at key (i + j)) (get_or places j no_place)) → Were (fence_looks time key i places b) → (j : ℕ) → j < length places → Knows Was Rested Came (name_at key (i + j)) (id_at key (i + j)) (get_or (fenced_places time key i places b) j no_place)
  fences-knows time key i [] b known w j l = absurd (omega arith)
  fences-knows time key i (p ∷ places) b known w zero l =
      let here : i + 0 ≡ i = omega arith in
      subst (λ (n : ℕ). Knows Was Rested Came (name_at key n) (id_at key n) (fenced time b.next p)) (sym here)
      (fence-knows time key i p b (subst (λ (n : ℕ). Knows Was Rested Came (name_at key n) (id_at key n) p) here (known 0 (omega arith))) (fences-front time key (i + 1) places (fence_look time key i p b) w))
  fences-knows time key i (p ∷ places) b known w (suc j) l =
      let there : (i + 1) + j ≡ i + suc j = omega arith in
      subst (λ (n : ℕ). Knows Was Rested Came (name_at key n) (id_at key n) (get_or (fenced_places time key (i + 1) places (fence_look time key i p b)) j no_place)) there
      (fences-knows time key (i + 1) places (fence_look time key i p b) (λ m k. let here : i + suc m ≡ (i + 1) + m = omega arith in subst (λ (n : ℕ). Knows Was Rested Came (name_at key n) (id_at key n) (get_or places m no_place)) here (known (suc m) (omega (arith, k)))) w j (omega (arith, l)))

  spool-fresh : (key : KeyAt) (r : Reader) (b : Board) → Were (asked_from key 0 key.list b) → Known Was Rested Came (with_reader r (fresh_spool b.next key))
  spool-fresh key r b w j l =
      let here : 0 + j ≡ j = omega arith in
      subst (λ (n : ℕ). Knows Was Rested Came (name_at key n) (id_at key n) (get_or (fresh_places b.next key.list) j no_place)) here
      (fresh-knows key 0 key.list b (λ m k. let at : 0 + m ≡ m = omega arith in ap (name_at key) at) w j (omega (arith, l, length-fresh b.next key.list)))

  spool-fenced : (time : ℕ) (s : SpoolAt) (b : Board) → Known Was Rested Came s → Were (fence_looks time s.key 0 s.places b) → Known Was Rested Came (record s { places = fenced_places time s.key 0 s.places b })
  spool-fenced time s b known w j l =
      let here : 0 + j ≡ j = omega arith in
      subst (λ (n : ℕ). Knows Was Rested Came (name_at s.key n) (id_at s.key n) (get_or (fenced_places time s.key 0 s.places b) j no_place)) here
      (fences-knows time s.key 0 s.places b (λ m k. let at : m ≡ 0 + m = omega arith in subst (λ (n : ℕ). Knows Was Rested Came (name_at s.key n) (id_at s.key n) (get_or s.places m no_place)) at (known m k)) w j (omega (arith, l, length-fenced time s.key 0 s.places b)))

  pub closed : IsClosed (IsGood Was Rested Came) (IsRight Was Rested Came) AnyLast AnyKey AnyFind (BoardKnows Was Rested Came) (BesideKnows Was Rested Came) (ApartKnows Was Rested Came)
  closed = record {
    sends = record {
      part = λ k c b i w. i (all-front Were_one b.facts (_ ∷ []) w);
      end = λ k deleted b i w. i (all-front Were_one b.facts (_ ∷ []) w);
      ready = λ find s b was i. tt;
      send = λ find s r b ready i w. i (all-front Were_one b.facts (_ ∷ []) w);
      take = λ test s b was i w. (all-found (Known Was Rested Came) test b.shelf s was (i w), all-without (Known Was Rested Came) test b.shelf (i w));
      put = λ s b i w. all-insert (Known Was Rested Came) b.shelf (place_before s.key b.shelf) s (i w).0 (i w).1;
      drop = λ s b i w. (i w).1;
      open_new = λ key r b none fits i w. (spool-fresh key r b w, subst (AllByRecursion (Known Was Rested Came)) (sym (asked-shelf key 0 key.list b)) (i (asked-front key 0 key.list b w)));
      fits = λ find s ready. tt;
      enter = λ r s b i. i;
      fence = λ time s b was unasked i w. let before = i (fences-front time s.key 0 s.places b w) in (spool-fenced time s b before.0 w, subst (AllByRecursion (Known Was Rested Came)) (sym (fences-shelf time s.key 0 s.places b)) before.1);
    };
    join = λ k c b i w. i (all-front Were_one b.facts (_ ∷ []) w);
    start = λ k cursor b i w. i (all-front Were_one b.facts (_ ∷ []) w);
    leave = λ k s b i some. i;
    look = λ c j s b at i w. let before = i (all-front Were_one b.facts (_ ∷ []) w) in (set-knows Was Rested Came s j (Asked b.next None) (λ l. looked-was (name_at s.key j) (id_at s.key j) 0 b w) before.0, before.1);
    forget = λ c j n quiet s b at was i w. let before = i w in (set-knows Was Rested Came s j (Asked n None) (λ l. knows-asked Was Rested Came (name_at s.key j) (id_at s.key j) n quiet (place_at s j) was (before.0 j l)) before.0, before.1);
    quieten = λ number j quiet news s b at right none i w. let before = i w in (spool-nothing Was Rested Came number j quiet news s at right none before.0, before.1);
    discover = λ number j quiet news s b at right past i w. let before = i w in (spool-found Was Rested Came number j quiet news s at right past before.0, before.1);
    hear = λ c j quiet news s b at rests good past i w. let before = i w in (spool-heard Was Rested Came c j quiet news s at rests good past before.0, before.1);
    take_start = λ test s b was i. i;
    put_start = λ s b i. i;
    drop_start = λ s b i. i;
    new_start = λ r list b fits i w. subst (AllByRecursion (Known Was Rested Came)) (sym (edges-shelf r.k list b)) (i (edges-front r.k list b w));
    hear_edge = λ j floor last s b told i. i;
    newest_fits = λ s b i. tt;
    cursor_fits = λ cursor s b was i. tt;
    fence_edges = λ s b i w. subst (AllByRecursion (Known Was Rested Came)) (sym (behinds-shelf (newest_time s.edges) s.reader.k s.list 0 s.edges b)) (i (behinds-front (newest_time s.edges) s.reader.k s.list 0 s.edges b w));
  }

  pub knowing-kept : KeepsKnowing Was Rested Came
  knowing-kept = all-kept (IsGood Was Rested Came) (IsRight Was Rested Came) AnyLast AnyKey AnyFind (BoardKnows Was Rested Came) (BesideKnows Was Rested Came) (ApartKnows Was Rested Came) closed
