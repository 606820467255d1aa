-- What stays of the edges that a subscriber asked for, and of those that were told for it, as a history goes on; so what its start knows stays.
use Rattle.std.proofs.Common.{◌≡◌, inr, ℕ, Bool, true, false, cond, List, [], ◌∷◌, ◌++◌, Option, Some, None, refl, ap, ◌∙◌}
use Rattle.std.specs.Prelude.{◌==◌, ◌&&◌, bytes_eq}
use Rattle.std.specs.List.{AllByRecursion}
use Rattle.std.proofs.lemmas.List.{append-nil}
use Rattle.nc_types.specs.Id.{Id}
use Rattle.nc_types.specs.Cursor.{CursorAt}
use Rattle.nc_types.specs.Channel.{owner_of}
use Rattle.nc_journal.specs.Edges.{EdgeTold, edge_told, edges_of}
use Rattle.nc_journal.specs.History.{own, onto, is_by}
use Rattle.nc_journal.specs.declared.event.Event.{Event}
use Rattle.nc_journal.specs.declared.event.Event.TheVariants.{Edged, Made}
use Rattle.nc_journal.specs.declared.alert.AlertLine.{AlertLine}
use Rattle.nc_journal.specs.declared.alert.AlertLine.TheVariants as lines
use Rattle.nc_owner_laws.specs.Wake.{made_to}
use Rattle.nc_spool_state.specs.declared.edge.Edge.{Edge}
use Rattle.nc_spool_state.specs.Starting.{StartingAt}
use Rattle.nc_starts.specs.Asked.{edge_numbers, HasTold, IsFirstEdge}
use Rattle.nc_starts.proofs.Asked.{first_stays}
use Rattle.nc_world_laws.proofs.WorkerKinds.{IsBy}
use Rattle.nc_world_laws.proofs.Local.{either, other_by}
use Rattle.nc_world_edges.specs.Edges.{HasEdgeAsk}
use Rattle.nc_world_begins.specs.Knowing.{FirstEdge, FirstAwaited, FirstKnown, SecondEdge, StillKnown, SecondAwaited, SecondKnown, EdgesKnown, StartHolds}
use Rattle.nc_world_begins.specs.Calls.{Unasked}

-- ---- numbers by which edges were asked for

pub numbers_behind : (k : ℕ) (c : List ℕ) (xs ys : List AlertLine) → edge_numbers k c (xs ++ ys) ≡ edge_numbers k c xs ++ edge_numbers k c ys
numbers_behind k c [] ys = refl
numbers_behind k c (lines.Edge number n d fence ∷ xs) ys = by ((n == k) && bytes_eq d c) (numbers_behind k c xs ys)
  where
    by : (b : Bool) → edge_numbers k c (xs ++ ys) ≡ edge_numbers k c xs ++ edge_numbers k c ys → cond b (number ∷ edge_numbers k c (xs ++ ys)) (edge_numbers k c (xs ++ ys)) ≡ cond b (number ∷ edge_numbers k c xs) (edge_numbers k c xs) ++ edge_numbers k c ys
    by true is = ap (λ (l : List ℕ). number ∷ l) is
    by false is = is
numbers_behind k c (a ∷ xs) ys = numbers_behind k c xs ys

-- an event asks for no edge of a subscriber at a channel
abbrev pub AsksNone : ℕ → List ℕ → Event → Type 0
AsksNone k c (Made v to n a) = edge_numbers k c (a ∷ []) ≡ []
AsksNone k c _ = Unit {0}

-- an alert, and an event, that asks for no edge of a subscriber
abbrev pub IsBeside : ℕ → AlertLine → Type 0
IsBeside k (lines.Edge number j c fence) = (j == k) ≡ false
IsBeside k line = Unit {0}

abbrev pub MakesBeside : ℕ → Event → Type 0
MakesBeside k (Made v to n a) = IsBeside k a
MakesBeside k _ = Unit {0}

line_none : (k : ℕ) (c : List ℕ) (a : AlertLine) → IsBeside k a → edge_numbers k c (a ∷ []) ≡ []
line_none k c (lines.Edge number j d fence) p = ap (λ b. cond (b && bytes_eq d c) (number ∷ []) []) p
line_none k c a p = refl

beside_none : (k : ℕ) (c : List ℕ) (e : Event) → MakesBeside k e → AsksNone k c e
beside_none k c (Made v to n a) p = line_none k c a p
beside_none k c e p = tt

pub none_more : (k o : ℕ) (c : List ℕ) (e : Event) (l : List Event) → AsksNone k c e → edge_numbers k c (made_to o (e ∷ l)) ≡ edge_numbers k c (made_to o l)
none_more k o c (Made v to n a) l p = by (to == o)
  where
    by : (b : Bool) → edge_numbers k c (cond b (made_to o l ++ a ∷ []) (made_to o l)) ≡ edge_numbers k c (made_to o l)
    by true = numbers_behind k c (made_to o l) (a ∷ []) ∙ ap (λ (x : List ℕ). edge_numbers k c (made_to o l) ++ x) p ∙ append-nil (edge_numbers k c (made_to o l))
    by false = refl
none_more k o c e l p = refl

pub none_own : (w k o : ℕ) (c : List ℕ) (e : Event) (h : List Event) → AsksNone k c e → edge_numbers k c (made_to o (own w (e ∷ h))) ≡ edge_numbers k c (made_to o (own w h))
none_own w k o c e h p = either (λ (l : List Event). edge_numbers k c (made_to o l) ≡ edge_numbers k c (made_to o (own w h))) (is_by w e) (e ∷ own w h) (own w h) (none_more k o c e (own w h) p) refl

-- ---- an edge that was asked for

pub ask_more : (number k : ℕ) (c : List ℕ) (fence : ℕ) (e : Event) (l : List Event) → HasEdgeAsk number k c fence l → HasEdgeAsk number k c fence (e ∷ l)
ask_more number k c fence (Made v to n a) l p = by a
  where
    by : (x : AlertLine) → HasEdgeAsk number k c fence (Made v to n x ∷ l)
    by (lines.Edge m j d f) = inr p
    by x = p
ask_more number k c fence e l p = p

pub ask_own : (w number k : ℕ) (c : List ℕ) (fence : ℕ) (e : Event) (h : List Event) → HasEdgeAsk number k c fence (own w h) → HasEdgeAsk number k c fence (own w (e ∷ h))
ask_own w number k c fence e h p = either (HasEdgeAsk number k c fence) (is_by w e) (e ∷ own w h) (own w h) (ask_more number k c fence e (own w h) p) p

-- ---- an edge that was told

told_case : (b : Bool) (t x : EdgeTold) (ts : List EdgeTold) → HasTold t ts → HasTold t (cond b (x ∷ ts) ts)
told_case true t x ts has = inr has
told_case false t x ts has = has

pub told_stays : (w k : ℕ) (c : List ℕ) (t : EdgeTold) (e : Event) (h : List Event) → HasTold t (edges_of w k c h) → HasTold t (edges_of w k c (e ∷ h))
told_stays w k c t (Edged v q from number n d floor last) h has = told_case ((from == w) && ((n == k) && bytes_eq d c)) t (edge_told number floor last) (edges_of w k c h) has
told_stays w k c t e h has = has

-- ---- all three, for a subscriber of a worker

pub record Stays (w k : ℕ) (h l : List Event) : Type 0 where
  pub numbers : (o : ℕ) (c : List ℕ) → edge_numbers k c (made_to o (own w l)) ≡ edge_numbers k c (made_to o (own w h))
  pub told : (c : List ℕ) (t : EdgeTold) → HasTold t (edges_of w k c h) → HasTold t (edges_of w k c l)
  pub first : (c : List ℕ) (t : EdgeTold) → IsFirstEdge t (edges_of w k c h) → IsFirstEdge t (edges_of w k c l)
  pub asks : (number fence : ℕ) (c : List ℕ) → HasEdgeAsk number k c fence (own w h) → HasEdgeAsk number k c fence (own w l)

pub stays_same : (w k : ℕ) (h : List Event) → Stays w k h h
stays_same w k h = record { numbers = λ o c. refl; told = λ c t has. has; first = λ c t is. is; asks = λ number fence c has. has }

pub stays_then : (w k : ℕ) (h l m : List Event) → Stays w k h l → Stays w k l m → Stays w k h m
stays_then w k h l m a b = record {
  numbers = λ o c. b.numbers o c ∙ a.numbers o c;
  told = λ c t has. b.told c t (a.told c t has);
  first = λ c t is. b.first c t (a.first c t is);
  asks = λ number fence c has. b.asks number fence c (a.asks number fence c has);
}

pub stays_one : (w k : ℕ) (e : Event) (h : List Event) → MakesBeside k e → Stays w k h (e ∷ h)
stays_one w k e h p = record {
  numbers = λ o c. none_own w k o c e h (beside_none k c e p);
  told = λ c t has. told_stays w k c t e h has;
  first = λ c t is. first_stays w k c t e h is;
  asks = λ number fence c has. ask_own w number k c fence e h has;
}

pub stays_onto : (w k : ℕ) (es h : List Event) → AllByRecursion (MakesBeside k) es → Stays w k h (onto es h)
stays_onto w k [] h p = stays_same w k h
stays_onto w k (e ∷ es) h p = stays_then w k h (e ∷ h) (onto es (e ∷ h)) (stays_one w k e h p.0) (stays_onto w k es (e ∷ h) p.1)

-- what another worker does
other_one : (w k : ℕ) (e : Event) (h : List Event) → is_by w e ≡ false → Stays w k h (e ∷ h)
other_one w k e h other = record {
  numbers = λ o c. ap (λ (b : Bool). edge_numbers k c (made_to o (cond b (e ∷ own w h) (own w h)))) other;
  told = λ c t has. told_stays w k c t e h has;
  first = λ c t is. first_stays w k c t e h is;
  asks = λ number fence c has. ask_own w number k c fence e h has;
}

pub other_onto : (w k x : ℕ) (es h : List Event) → (w == x) ≡ false → AllByRecursion (IsBy x) es → Stays w k h (onto es h)
other_onto w k x [] h other by = stays_same w k h
other_onto w k x (e ∷ es) h other by = stays_then w k h (e ∷ h) (onto es (e ∷ h)) (other_one w k e h (other_by w x e other by.0)) (other_onto w k x es (e ∷ h) other by.1)

-- ---- what a start knows

module _ (workers w k : ℕ) (h l : List Event) (s : Stays w k h l) where
  first_stays_so : (c : List ℕ) (e : Edge) → FirstEdge workers w k c h e → FirstEdge workers w k c l e
  first_stays_so c e (FirstAwaited n numbers asks) = FirstAwaited n (s.numbers (owner_of workers c) c ∙ numbers) (s.asks n 0 c asks)
  first_stays_so c e (FirstKnown n floor last numbers told) = FirstKnown n floor last (s.numbers (owner_of workers c) c ∙ numbers) (s.told c (edge_told n floor last) told)

  second_stays_so : (c : List ℕ) (time : ℕ) (last : Id) (e : Edge) → SecondEdge workers w k c time last h e → SecondEdge workers w k c time last l e
  second_stays_so c time last e (StillKnown n floor numbers told not_below) = StillKnown n floor (s.numbers (owner_of workers c) c ∙ numbers) (s.told c (edge_told n floor last) told) not_below
  second_stays_so c time last e (SecondAwaited n floor m numbers other first below asks) =
      SecondAwaited n floor m (s.numbers (owner_of workers c) c ∙ numbers) other (s.first c (edge_told n floor last) first) below (s.asks m time c asks)
  second_stays_so c time last e (SecondKnown n floor m later last_later numbers other first below told not_below) =
      SecondKnown n floor m later last_later (s.numbers (owner_of workers c) c ∙ numbers) other (s.first c (edge_told n floor last) first) below (s.told c (edge_told m later last_later) told) not_below

  known_stays : (list : List (List ℕ)) (cursor : Option CursorAt) (edges : List Edge) → EdgesKnown workers w k list cursor edges h → EdgesKnown workers w k list cursor edges l
  known_stays list None edges known = λ j c e at_list at_edges. first_stays_so c e (known j c e at_list at_edges)
  known_stays list (Some cur) edges known = record {
    lasts = known.lasts;
    lasts_each = known.lasts_each;
    cursor = known.cursor;
    each = λ j c last e at_list at_lasts at_edges. second_stays_so c cur.time last e (known.each j c last e at_list at_lasts at_edges);
  }

pub start_stays : (workers w : ℕ) (h l : List Event) (s : StartingAt) → Stays w s.reader.k h l → StartHolds workers w h s → StartHolds workers w l s
start_stays workers w h l s stays holds = record { distinct = holds.distinct; each = holds.each; known = known_stays workers w s.reader.k h l stays s.list s.cursor s.edges holds.known; awaits = holds.awaits }

pub unasked_stays : (w k : ℕ) (h l : List Event) → Stays w k h l → Unasked w k h → Unasked w k l
unasked_stays w k h l stays none o c = stays.numbers o c ∙ none o c
