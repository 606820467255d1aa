-- What a start knows of its edges: as the history goes on, and with the answer to one of them.
use Rattle.std.proofs.Common.{◌≡◌, ◌⊎◌, inl, inr, ℕ, zero, suc, ◌≤◌, Bool, true, false, List, [], ◌∷◌, length, Option, Some, None, refl, sym, ap, ◌∙◌, subst, arith, get_or, map}
use Rattle.std.specs.Prelude.{◌||◌, slice_get, slice_set}
use Rattle.std.specs.List.{list_any}
use Rattle.std.proofs.lemmas.Bool.{eqb-true}
use Rattle.std.proofs.lemmas.List.Quantifiers.{position-Some}
use Rattle.std.proofs.lemmas.Option.{slice_get-get_or}
use Rattle.nc_types.specs.Id.{Id}
use Rattle.nc_types.specs.Cursor.{CursorAt}
use Rattle.nc_journal.specs.Edges.{edge_told, edges_of}
use Rattle.nc_journal.specs.History.{own}
use Rattle.nc_journal.specs.declared.event.Event.{Event}
use Rattle.nc_spool_state.specs.declared.edge.Edge.{Edge}
use Rattle.nc_spool_state.specs.declared.edge.Edge.TheVariants.{Awaited, Known}
use Rattle.nc_spool_state.specs.Edge.{is_edge, edge_awaiting}
use Rattle.nc_spool_state.specs.Starting.{StartingAt}
use Rattle.nc_starts.specs.Asked.{HasTold, IsFirstEdge}
use Rattle.nc_world_edges.specs.Edges.{HasEdgeAsk, IsToldFor}
use Rattle.nc_world_begins.specs.Knowing.{asked_numbers, FirstEdge, FirstAwaited, FirstKnown, SecondEdge, StillKnown, SecondAwaited, SecondKnown, EdgesKnown, StartHolds}
use Rattle.nc_world_begins.specs.Calls.{EdgesGive}
use Rattle.nc_world_begins.proofs.EdgeNumbers.{IsGrown, IsSame}

-- ---- as the history goes on

pub first_kept : (workers me k : ℕ) (c : List ℕ) (old new : List Event) (e : Edge) → IsGrown me old new → asked_numbers workers me k c new ≡ asked_numbers workers me k c old → FirstEdge workers me k c old e → FirstEdge workers me k c new e
first_kept workers me k c old new (Awaited m) grown same (FirstAwaited n asks has) = FirstAwaited n (same ∙ asks) (grown.asked n k 0 c has)
first_kept workers me k c old new (Known l f) grown same (FirstKnown n floor last asks told) = FirstKnown n floor last (same ∙ asks) (subst (HasTold (edge_told n floor last)) (sym (grown.told k c)) told)

second_kept : (workers me k : ℕ) (c : List ℕ) (time : ℕ) (first : Id) (old new : List Event) (e : Edge) → IsGrown me old new → asked_numbers workers me k c new ≡ asked_numbers workers me k c old
    → SecondEdge workers me k c time first old e → SecondEdge workers me k c time first new e
second_kept workers me k c time first old new (Awaited x) grown same (SecondAwaited n floor m asks apart is below has) =
    SecondAwaited n floor m (same ∙ asks) apart (subst (IsFirstEdge (edge_told n floor first)) (sym (grown.told k c)) is) below (grown.asked m k time c has)
second_kept workers me k c time first old new (Known l f) grown same (StillKnown n floor asks told fence) = StillKnown n floor (same ∙ asks) (subst (HasTold (edge_told n floor first)) (sym (grown.told k c)) told) fence
second_kept workers me k c time first old new (Known l f) grown same (SecondKnown n floor m later last_later asks apart is below told fence) =
    SecondKnown n floor m later last_later (same ∙ asks) apart (subst (IsFirstEdge (edge_told n floor first)) (sym (grown.told k c)) is) below (subst (HasTold (edge_told m later last_later)) (sym (grown.told k c)) told) fence

known_kept : (workers me k : ℕ) (list : List (List ℕ)) (cursor : Option CursorAt) (edges : List Edge) (old new : List Event) → IsSame workers me k old new → EdgesKnown workers me k list cursor edges old → EdgesKnown workers me k list cursor edges new
known_kept workers me k list None edges old new same known = λ j c e at_list at_edges. first_kept workers me k c old new e same.grown (same.numbers c) (known j c e at_list at_edges)
known_kept workers me k list (Some cur) edges old new same known = record {
  lasts = known.lasts;
  lasts_each = known.lasts_each;
  cursor = known.cursor;
  each = λ j c last e at_list at_lasts at_edges. second_kept workers me k c cur.time last old new e same.grown (same.numbers c) (known.each j c last e at_list at_lasts at_edges);
}

pub start_kept : (workers me : ℕ) (old new : List Event) (s : StartingAt) → IsSame workers me s.reader.k old new → StartHolds workers me old s → StartHolds workers me new s
start_kept workers me old new s same holds = record { distinct = holds.distinct; each = holds.each; known = known_kept workers me s.reader.k s.list s.cursor s.edges old new same holds.known; awaits = holds.awaits }

-- ---- with an answer

-- it tells the edge that was asked for by the number
told_here : (workers me from number m k fence next floor : ℕ) (c : List ℕ) (last : Id) (h : List Event) → EdgesGive workers me next h → IsToldFor workers me from number floor last h → m ≡ number → HasEdgeAsk m k c fence (own me h)
    → HasTold (edge_told m floor last) (edges_of me k c h) × (fence ≤ floor)
told_here workers me from number m k fence next floor c last h give told_for is has =
    let same = give.once number told_for.k told_for.fence k fence told_for.chan c told_for.asked (subst (λ (x : ℕ). HasEdgeAsk x k c fence (own me h)) is has) in
    let at_chan : HasTold (edge_told number floor last) (edges_of me k told_for.chan h) = subst (λ (x : ℕ). HasTold (edge_told number floor last) (edges_of me x told_for.chan h)) same.0 told_for.told in
    let here : HasTold (edge_told number floor last) (edges_of me k c h) = subst (λ (d : List ℕ). HasTold (edge_told number floor last) (edges_of me k d h)) same.1 at_chan in
    (subst (λ (x : ℕ). HasTold (edge_told x floor last) (edges_of me k c h)) (sym is) here, omega (arith, same.2, told_for.fenced))

-- a list with another item at a place
pub set_at : {X : Type 0} (xs : List X) (j i : ℕ) (x y : X) → slice_get (slice_set xs j x) i ≡ Some y → ((i ≡ j) × (x ≡ y)) ⊎ (slice_get xs i ≡ Some y)
set_at [] j i x y at = inr at
set_at (z ∷ xs) zero zero x y at = inl (refl, cc)
set_at (z ∷ xs) zero (suc i) x y at = inr at
set_at (z ∷ xs) (suc j) zero x y at = inr at
set_at (z ∷ xs) (suc j) (suc i) x y at = next (set_at xs j i x y at)
  where
    next : ((i ≡ j) × (x ≡ y)) ⊎ (slice_get xs i ≡ Some y) → ((suc i ≡ suc j) × (x ≡ y)) ⊎ (slice_get xs i ≡ Some y)
    next (inl same) = inl (ap suc same.0, same.1)
    next (inr other) = inr other

pub set_length : {X : Type 0} (xs : List X) (j : ℕ) (x : X) → length (slice_set xs j x) ≡ length xs
set_length [] j x = refl
set_length (y ∷ xs) zero x = refl
set_length (y ∷ xs) (suc j) x = ap suc (set_length xs j x)

-- where an edge of the number is awaited
pub record IsAnswered (number : ℕ) (edges : List Edge) (j : ℕ) : Type 0 where
  pub edge : Edge
  pub at : slice_get edges j ≡ Some edge
  pub awaits : is_edge number edge ≡ true

pub answered_at : (number : ℕ) (edges : List Edge) (j : ℕ) → edge_awaiting number edges ≡ Some j → IsAnswered number edges j
answered_at number edges j was =
    let first = position-Some (is_edge number) edges j (Awaited 0) was in
    record { edge = get_or edges j (Awaited 0); at = slice_get-get_or edges j (Awaited 0) first.0; awaits = first.1 }

module _ (workers me from number next floor : ℕ) (answer : Id) (h : List Event) (give : EdgesGive workers me next h) (told_for : IsToldFor workers me from number floor answer h) where
  first_answered : (k : ℕ) (c : List ℕ) (e : Edge) → is_edge number e ≡ true → FirstEdge workers me k c h e → FirstEdge workers me k c h (Known answer floor)
  first_answered k c (Awaited x) is (FirstAwaited n asks has) =
      let told = told_here workers me from number n k 0 next floor c answer h give told_for (eqb-true n number is) has in
      FirstKnown n floor answer asks told.0
  first_answered k c (Known l f) is known = absurd cc

  second_answered : (k : ℕ) (c : List ℕ) (time : ℕ) (first : Id) (e : Edge) → is_edge number e ≡ true → SecondEdge workers me k c time first h e → SecondEdge workers me k c time first h (Known answer floor)
  second_answered k c time first (Awaited x) is (SecondAwaited n before m asks apart is_first below has) =
      let told = told_here workers me from number m k time next floor c answer h give told_for (eqb-true m number is) has in
      SecondKnown n before m floor answer asks apart is_first below told.0 told.1
  second_answered k c time first (Known l f) is known = absurd cc

  -- so does the whole start
  pub known_answered : (k : ℕ) (list : List (List ℕ)) (cursor : Option CursorAt) (edges : List Edge) (j : ℕ) → IsAnswered number edges j → EdgesKnown workers me k list cursor edges h
      → EdgesKnown workers me k list cursor (slice_set edges j (Known answer floor)) h
  known_answered k list None edges j answered known = λ i c e at_list at_edges. by i c e at_list (set_at edges j i (Known answer floor) e at_edges)
    where
      by : (i : ℕ) (c : List ℕ) (e : Edge) → slice_get list i ≡ Some c → ((i ≡ j) × (Known answer floor ≡ e)) ⊎ (slice_get edges i ≡ Some e) → FirstEdge workers me k c h e
      by i c e at_list (inl same) = subst (FirstEdge workers me k c h) same.1
          (first_answered k c answered.edge answered.awaits (known j c answered.edge (subst (λ (x : ℕ). slice_get list x ≡ Some c) same.0 at_list) answered.at))
      by i c e at_list (inr at) = known i c e at_list at
  known_answered k list (Some cur) edges j answered known = record {
    lasts = known.lasts;
    lasts_each = known.lasts_each;
    cursor = known.cursor;
    each = λ i c last e at_list at_lasts at_edges. by i c last e at_list at_lasts (set_at edges j i (Known answer floor) e at_edges);
  }
    where
      by : (i : ℕ) (c : List ℕ) (last : Id) (e : Edge) → slice_get list i ≡ Some c → slice_get known.lasts i ≡ Some last → ((i ≡ j) × (Known answer floor ≡ e)) ⊎ (slice_get edges i ≡ Some e) → SecondEdge workers me k c cur.time last h e
      by i c last e at_list at_lasts (inl same) = subst (SecondEdge workers me k c cur.time last h) same.1
          (second_answered k c cur.time last answered.edge answered.awaits
          (known.each j c last answered.edge (subst (λ (x : ℕ). slice_get list x ≡ Some c) same.0 at_list) (subst (λ (x : ℕ). slice_get known.lasts x ≡ Some last) same.0 at_lasts) answered.at))
      by i c last e at_list at_lasts (inr at) = known.each i c last e at_list at_lasts at

-- ---- each item fails a test where none passes it

or_first : (x y : Bool) → (x || y) ≡ false → x ≡ false
or_first true y none = absurd cc
or_first false y none = refl

or_rest : (x y : Bool) → (x || y) ≡ false → y ≡ false
or_rest true y none = absurd cc
or_rest false y none = none

pub fails_at : {X : Type 0} (test : X → Bool) (xs : List X) (i : ℕ) (x : X) → list_any test xs ≡ false → slice_get xs i ≡ Some x → test x ≡ false
fails_at test [] i x none at = absurd cc
fails_at test (y ∷ xs) zero x none at = let same : y ≡ x = cc in ap test (sym same) ∙ or_first (test y) (list_any test xs) none
fails_at test (y ∷ xs) (suc i) x none at = fails_at test xs i x (or_rest (test y) (list_any test xs) none) at

pub map_at : {X Y : Type 0} (f : X → Y) (xs : List X) (i : ℕ) (x : X) (y : Y) → slice_get xs i ≡ Some x → slice_get (map f xs) i ≡ Some y → f x ≡ y
map_at f [] i x y at at_map = absurd cc
map_at f (z ∷ xs) zero x y at at_map = let same : z ≡ x = cc in let here : f z ≡ y = cc in ap f (sym same) ∙ here
map_at f (z ∷ xs) (suc i) x y at at_map = map_at f xs i x y at at_map
