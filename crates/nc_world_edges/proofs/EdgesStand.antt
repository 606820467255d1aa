-- The asks for edges that an owner took of a worker, the edges that it told for it, and the answers that it made: as one event or alert follows another.
use Rattle.std.proofs.Common.{◌≡◌, inl, inr, ℕ, ◌≤◌, Bool, true, false, cond, List, [], ◌∷◌, ◌++◌, refl, sym, ap, ◌∙◌, subst, arith}
use Rattle.std.specs.Prelude.{◌&&◌, ◌==◌, nat_eq, bytes_eq}
use Rattle.std.specs.List.{AllByRecursion, list_any}
use Rattle.std.proofs.lemmas.Bool.{or_left, or_right}
use Rattle.std.proofs.lemmas.Bool.Decides.{nat_tests}
use Rattle.std.proofs.lemmas.List.{append-nil}
use Rattle.std.proofs.lemmas.List.Folds.{list_any-append}
use Rattle.nc_types.specs.Id.{Id}
use Rattle.nc_types.specs.Channel.{owner_of}
use Rattle.nc_journal.specs.Edges.{EdgeTold, edge_told, edges_of}
use Rattle.nc_journal.specs.History.{onto}
use Rattle.nc_journal.specs.declared.event.Event.{Event}
use Rattle.nc_journal.specs.declared.event.Event.TheVariants.{Edged, Made}
use Rattle.nc_journal.specs.declared.alert.AlertLine.{AlertLine}
use Rattle.nc_journal.specs.declared.alert.AlertLine.TheVariants as lines
use Rattle.nc_owner_laws.specs.Wake.{made_to}
use Rattle.nc_rests.proofs.Answered.{all_if}
use Rattle.nc_starts.specs.Asked.{edge_numbers, old_first, HasTold}
use Rattle.nc_starts.proofs.Edges.{edge_adds}
use Rattle.nc_world_laws.proofs.Local.{eqb_self, eq_of, all_of}
use Rattle.nc_world_edges.specs.Edges.{HasEdgeAsk, answers_edge, is_edge_answered}

-- a worker asked for an edge that was told, behind a fence that its floor isn't below
pub record IsAskedBehind (k : ℕ) (c : List ℕ) (asks : List Event) (t : EdgeTold) : Type 0 where
  pub fence : ℕ
  pub asked : HasEdgeAsk t.number k c fence asks
  pub fenced : fence ≤ t.floor

abbrev pub IsAnsweredTo : ℕ → List Event → EdgeTold → Type 0
IsAnsweredTo w l t = is_edge_answered t.number (made_to w l) ≡ true

-- an answer is that of an edge of a channel of this owner
pub record IsOfEdge (workers o w number floor : ℕ) (last : Id) (l : List Event) : Type 0 where
  pub k : ℕ
  pub chan : List ℕ
  pub owner : owner_of workers chan ≡ o
  pub told : HasTold (edge_told number floor last) (edges_of w k chan l)

abbrev pub AnswersEdge : (workers o w : ℕ) → List Event → AlertLine → Type 0
AnswersEdge workers o w l (lines.EdgeAnswer number q floor last) = IsOfEdge workers o w number floor last l
AnswersEdge workers o w l line = Unit {0}

-- by what a worker asked for, what an owner did and what it took of the worker: the edges are those whose asking it took, each was asked for and answered, and each answer is that of an edge
pub record EdgesStand (workers o w : ℕ) (asks l : List Event) (got : List AlertLine) : Type 0 where
  pub done : (k : ℕ) (c : List ℕ) → old_first (edges_of w k c l) ≡ edge_numbers k c got
  pub asked : (k : ℕ) (c : List ℕ) → AllByRecursion (IsAskedBehind k c asks) (edges_of w k c l)
  pub answered : (k : ℕ) (c : List ℕ) → AllByRecursion (IsAnsweredTo w l) (edges_of w k c l)
  pub answers : AllByRecursion (AnswersEdge workers o w l) (made_to w l)

-- ---- one event more

-- an edge that was told stays so
told_case : (b : Bool) (t x : EdgeTold) (ts : List EdgeTold) → HasTold t ts → HasTold t (cond b (x ∷ ts) ts)
told_case true t x ts has = inr has
told_case false t x ts has = has

told_more : (w k : ℕ) (c : List ℕ) (t : EdgeTold) (e : Event) (l : List Event) → HasTold t (edges_of w k c l) → HasTold t (edges_of w k c (e ∷ l))
told_more w k c t (Edged v q from number n d floor last) l has = told_case ((from == w) && ((n == k) && bytes_eq d c)) t (edge_told number floor last) (edges_of w k c l) has
told_more w k c t e l has = has

answers_more : (workers o w : ℕ) (e : Event) (l : List Event) (a : AlertLine) → AnswersEdge workers o w l a → AnswersEdge workers o w (e ∷ l) a
answers_more workers o w e l (lines.EdgeAnswer number q floor last) is = record { k = is.k; chan = is.chan; owner = is.owner; told = told_more w is.k is.chan (edge_told number floor last) e l is.told }
answers_more workers o w e l a is = tt

-- an answer that was made stays so
answered_case : (b : Bool) (n : ℕ) (ms : List AlertLine) (a : AlertLine) → is_edge_answered n ms ≡ true → is_edge_answered n (cond b (ms ++ a ∷ []) ms) ≡ true
answered_case true n ms a is = list_any-append (answers_edge n) ms (a ∷ []) ∙ or_left (list_any (answers_edge n) ms) (list_any (answers_edge n) (a ∷ [])) is
answered_case false n ms a is = is

answered_more : (w : ℕ) (e : Event) (l : List Event) (t : EdgeTold) → IsAnsweredTo w l t → IsAnsweredTo w (e ∷ l) t
answered_more w (Made v to n a) l t is = answered_case (to == w) t.number (made_to w l) a is
answered_more w e l t is = is

-- ---- events that tell no edge, and alerts that answer none

abbrev pub IsUnanswering : AlertLine → Type 0
IsUnanswering (lines.EdgeAnswer number q floor last) = ⊥
IsUnanswering line = Unit {0}

abbrev pub IsEdgeless : Event → Type 0
IsEdgeless (Edged v q from number k c floor last) = ⊥
IsEdgeless (Made v to n a) = IsUnanswering a
IsEdgeless _ = Unit {0}

edgeless_same : (w k : ℕ) (c : List ℕ) (e : Event) (l : List Event) → IsEdgeless e → edges_of w k c (e ∷ l) ≡ edges_of w k c l
edgeless_same w k c (Edged v q from number n d floor last) l p = absurd p
edgeless_same w k c e l p = refl

unanswering : (workers o w : ℕ) (l : List Event) (a : AlertLine) → IsUnanswering a → AnswersEdge workers o w l a
unanswering workers o w l (lines.EdgeAnswer number q floor last) p = absurd p
unanswering workers o w l a p = tt

edgeless_answers : (workers o w : ℕ) (e : Event) (l : List Event) → IsEdgeless e → AllByRecursion (AnswersEdge workers o w l) (made_to w l) → AllByRecursion (AnswersEdge workers o w (e ∷ l)) (made_to w (e ∷ l))
edgeless_answers workers o w (Made v to n a) l p all =
    all_if (AnswersEdge workers o w (Made v to n a ∷ l)) (to == w) (made_to w l) a (all_of (AnswersEdge workers o w l) (AnswersEdge workers o w (Made v to n a ∷ l)) (answers_more workers o w (Made v to n a) l) (made_to w l) all)
    (λ _. unanswering workers o w (Made v to n a ∷ l) a p)
edgeless_answers workers o w e l p all = all_of (AnswersEdge workers o w l) (AnswersEdge workers o w (e ∷ l)) (answers_more workers o w e l) (made_to w l) all

edgeless_one : (workers o w : ℕ) (asks : List Event) (got : List AlertLine) (e : Event) (l : List Event) → IsEdgeless e → EdgesStand workers o w asks l got → EdgesStand workers o w asks (e ∷ l) got
edgeless_one workers o w asks got e l p s = record {
  done = λ k c. ap old_first (edgeless_same w k c e l p) ∙ s.done k c;
  asked = λ k c. subst (AllByRecursion (IsAskedBehind k c asks)) (sym (edgeless_same w k c e l p)) (s.asked k c);
  answered = λ k c. subst (AllByRecursion (IsAnsweredTo w (e ∷ l))) (sym (edgeless_same w k c e l p)) (all_of (IsAnsweredTo w l) (IsAnsweredTo w (e ∷ l)) (answered_more w e l) (edges_of w k c l) (s.answered k c));
  answers = edgeless_answers workers o w e l p s.answers;
}

pub edgeless_onto : (workers o w : ℕ) (asks : List Event) (got : List AlertLine) (es l : List Event) → AllByRecursion IsEdgeless es → EdgesStand workers o w asks l got → EdgesStand workers o w asks (onto es l) got
edgeless_onto workers o w asks got [] l p s = s
edgeless_onto workers o w asks got (e ∷ es) l p s = edgeless_onto workers o w asks got es (e ∷ l) p.1 (edgeless_one workers o w asks got e l p.0 s)

-- ---- more asks, and more that was taken

asked_more : (k : ℕ) (c : List ℕ) (asks later : List Event) → ((number fence : ℕ) → HasEdgeAsk number k c fence asks → HasEdgeAsk number k c fence later) → (t : EdgeTold) → IsAskedBehind k c asks t → IsAskedBehind k c later t
asked_more k c asks later more t is = record { fence = is.fence; asked = more t.number is.fence is.asked; fenced = is.fenced }

pub asks_stand : (workers o w : ℕ) (asks later l : List Event) (got : List AlertLine) → ((number k fence : ℕ) (c : List ℕ) → HasEdgeAsk number k c fence asks → HasEdgeAsk number k c fence later) → EdgesStand workers o w asks l got → EdgesStand workers o w later l got
asks_stand workers o w asks later l got more s = record {
  done = s.done;
  asked = λ k c. all_of (IsAskedBehind k c asks) (IsAskedBehind k c later) (asked_more k c asks later (λ number fence has. more number k fence c has)) (edges_of w k c l) (s.asked k c);
  answered = s.answered;
  answers = s.answers;
}

numbers_append : (k : ℕ) (c : List ℕ) (xs ys : List AlertLine) → edge_numbers k c (xs ++ ys) ≡ edge_numbers k c xs ++ edge_numbers k c ys
numbers_append k c [] ys = refl
numbers_append k c (lines.Edge number n d fence ∷ xs) ys = by ((n == k) && bytes_eq d c) (numbers_append k c xs ys)
  where
    by : (b : Bool) → edge_numbers k c (xs ++ ys) ≡ edge_numbers k c xs ++ edge_numbers k c ys → cond b (number ∷ edge_numbers k c (xs ++ ys)) (edge_numbers k c (xs ++ ys)) ≡ cond b (number ∷ edge_numbers k c xs) (edge_numbers k c xs) ++ edge_numbers k c ys
    by true is = ap (λ (l : List ℕ). number ∷ l) is
    by false is = is
numbers_append k c (a ∷ xs) ys = numbers_append k c xs ys

-- an alert that asks for no edge
abbrev pub AsksNoEdge : AlertLine → Type 0
AsksNoEdge (lines.Edge number k c fence) = ⊥
AsksNoEdge line = Unit {0}

no_number : (k : ℕ) (c : List ℕ) (a : AlertLine) → AsksNoEdge a → edge_numbers k c (a ∷ []) ≡ []
no_number k c (lines.Edge number n d fence) p = absurd p
no_number k c a p = refl

pub got_stands : (workers o w : ℕ) (asks l : List Event) (got : List AlertLine) (a : AlertLine) → AsksNoEdge a → EdgesStand workers o w asks l got → EdgesStand workers o w asks l (got ++ a ∷ [])
got_stands workers o w asks l got a p s = record {
  done = λ k c. s.done k c ∙ sym (append-nil (edge_numbers k c got)) ∙ ap (λ (ns : List ℕ). edge_numbers k c got ++ ns) (sym (no_number k c a p)) ∙ sym (numbers_append k c got (a ∷ []));
  asked = s.asked;
  answered = s.answered;
  answers = s.answers;
}

-- ---- an edge is told and answered

and_first : (a b : Bool) → (a && b) ≡ true → a ≡ true
and_first true b e = refl
and_first false b e = absurd cc

and_second : (a b : Bool) → (a && b) ≡ true → b ≡ true
and_second true b e = e
and_second false b e = absurd cc

same_number : (a b : ℕ) → nat_eq a b ≡ true → a ≡ b
same_number a b e = grind (arith, nat_tests)

same_name : (a b : List ℕ) → bytes_eq a b ≡ true → a ≡ b
same_name [] [] e = refl
same_name [] (y ∷ b) e = absurd cc
same_name (x ∷ a) [] e = absurd cc
same_name (x ∷ a) (y ∷ b) e =
    ap (λ (n : ℕ). n ∷ a) (same_number x y (and_first (nat_eq x y) (bytes_eq a b) e)) ∙ ap (λ (l : List ℕ). y ∷ l) (same_name a b (and_second (nat_eq x y) (bytes_eq a b) e))

module _ (workers o w number k fence floor : ℕ) (c : List ℕ) (last : Id) (asks l : List Event) (got : List AlertLine) (u q v n p : ℕ) (owner : owner_of workers c ≡ o) (s : EdgesStand workers o w asks l got) where
  abbrev t : EdgeTold
  t = edge_told number floor last

  abbrev line : AlertLine
  line = lines.EdgeAnswer number p floor last

  -- for this worker
  module _ (ask : HasEdgeAsk number k c fence asks) (fenced : fence ≤ floor) where
    abbrev edge : Event
    edge = Edged u q w number k c floor last

    abbrev more : List Event
    more = Made v w n line ∷ edge ∷ l

    edges_more : (j : ℕ) (d : List ℕ) → edges_of w j d more ≡ cond ((k == j) && bytes_eq c d) (t ∷ edges_of w j d l) (edges_of w j d l)
    edges_more j d = ap (λ b. cond (b && ((k == j) && bytes_eq c d)) (t ∷ edges_of w j d l) (edges_of w j d l)) (eqb_self w)

    made_more : made_to w more ≡ made_to w l ++ line ∷ []
    made_more = ap (λ b. cond b (made_to w l ++ line ∷ []) (made_to w l)) (eqb_self w)

    edge_done : (j : ℕ) (d : List ℕ) → old_first (edges_of w j d more) ≡ edge_numbers j d (got ++ lines.Edge number k c fence ∷ [])
    edge_done j d = ap old_first (edges_more j d) ∙ by ((k == j) && bytes_eq c d) (s.done j d) ∙ sym (numbers_append j d got (lines.Edge number k c fence ∷ []))
      where
        by : (b : Bool) → old_first (edges_of w j d l) ≡ edge_numbers j d got → old_first (cond b (t ∷ edges_of w j d l) (edges_of w j d l)) ≡ edge_numbers j d got ++ cond b (number ∷ []) []
        by true is = ap (λ (ns : List ℕ). ns ++ number ∷ []) is
        by false is = is ∙ sym (append-nil (edge_numbers j d got))

    edge_asked : (j : ℕ) (d : List ℕ) → AllByRecursion (IsAskedBehind j d asks) (edges_of w j d more)
    edge_asked j d = subst (AllByRecursion (IsAskedBehind j d asks)) (sym (edges_more j d)) (by ((k == j) && bytes_eq c d) refl (s.asked j d))
      where
        here : k ≡ j → c ≡ d → HasEdgeAsk number j d fence asks
        here e f = subst (λ (i : ℕ). HasEdgeAsk number i d fence asks) e (subst (λ (x : List ℕ). HasEdgeAsk number k x fence asks) f ask)

        by : (b : Bool) → ((k == j) && bytes_eq c d) ≡ b → AllByRecursion (IsAskedBehind j d asks) (edges_of w j d l) → AllByRecursion (IsAskedBehind j d asks) (cond b (t ∷ edges_of w j d l) (edges_of w j d l))
        by true e all = (record { fence = fence; asked = here (eq_of k j (and_first (k == j) (bytes_eq c d) e)) (same_name c d (and_second (k == j) (bytes_eq c d) e)); fenced = fenced }, all)
        by false e all = all

    edge_here : IsAnsweredTo w more t
    edge_here =
        ap (is_edge_answered number) made_more
        ∙ list_any-append (answers_edge number) (made_to w l) (line ∷ [])
        ∙ or_right (list_any (answers_edge number) (made_to w l)) (list_any (answers_edge number) (line ∷ [])) (or_left (number == number) false (eqb_self number))

    edge_answered : (j : ℕ) (d : List ℕ) → AllByRecursion (IsAnsweredTo w more) (edges_of w j d more)
    edge_answered j d =
        subst (AllByRecursion (IsAnsweredTo w more)) (sym (edges_more j d))
        (by ((k == j) && bytes_eq c d) (all_of (IsAnsweredTo w l) (IsAnsweredTo w more) (λ x is. answered_more w (Made v w n line) (edge ∷ l) x (answered_more w edge l x is)) (edges_of w j d l) (s.answered j d)))
      where
        by : (b : Bool) → AllByRecursion (IsAnsweredTo w more) (edges_of w j d l) → AllByRecursion (IsAnsweredTo w more) (cond b (t ∷ edges_of w j d l) (edges_of w j d l))
        by true all = (edge_here, all)
        by false all = all

    edge_answers : AllByRecursion (AnswersEdge workers o w more) (made_to w more)
    edge_answers =
        all_if (AnswersEdge workers o w more) (w == w) (made_to w l) line
        (all_of (AnswersEdge workers o w l) (AnswersEdge workers o w more) (λ a is. answers_more workers o w (Made v w n line) (edge ∷ l) a (answers_more workers o w edge l a is)) (made_to w l) s.answers)
        (λ _. record { k = k; chan = c; owner = owner; told = subst (HasTold t) (sym (edge_adds u q w number k c floor last l)) (inl refl) })

    pub edge_stands : EdgesStand workers o w asks more (got ++ lines.Edge number k c fence ∷ [])
    edge_stands = record { done = edge_done; asked = edge_asked; answered = edge_answered; answers = edge_answers }

  -- for another worker
  module _ (x : ℕ) (other : (x == w) ≡ false) where
    abbrev beside : List Event
    beside = Made v x n line ∷ Edged u q x number k c floor last ∷ l

    edges_same : (j : ℕ) (d : List ℕ) → edges_of w j d beside ≡ edges_of w j d l
    edges_same j d = ap (λ b. cond (b && ((k == j) && bytes_eq c d)) (t ∷ edges_of w j d l) (edges_of w j d l)) other

    made_same : made_to w beside ≡ made_to w l
    made_same = ap (λ b. cond b (made_to w l ++ line ∷ []) (made_to w l)) other

    pub other_stands : EdgesStand workers o w asks beside got
    other_stands = record {
      done = λ j d. ap old_first (edges_same j d) ∙ s.done j d;
      asked = λ j d. subst (AllByRecursion (IsAskedBehind j d asks)) (sym (edges_same j d)) (s.asked j d);
      answered = λ j d. subst (AllByRecursion (IsAnsweredTo w beside)) (sym (edges_same j d))
          (all_of (IsAnsweredTo w l) (IsAnsweredTo w beside) (λ y is. answered_more w (Made v x n line) (Edged u q x number k c floor last ∷ l) y (answered_more w (Edged u q x number k c floor last) l y is)) (edges_of w j d l) (s.answered j d));
      answers = subst (AllByRecursion (AnswersEdge workers o w beside)) (sym made_same)
          (all_of (AnswersEdge workers o w l) (AnswersEdge workers o w beside) (λ a is. answers_more workers o w (Made v x n line) (Edged u q x number k c floor last ∷ l) a (answers_more workers o w (Edged u q x number k c floor last) l a is)) (made_to w l) s.answers);
    }
