-- The edges of subscribers, by those of owners and workers.
use Rattle.std.proofs.Common.{◌≡◌, inl, inr, ℕ, ◌<◌, ◌≤◌, Bool, true, false, List, [], ◌∷◌, refl, sym, ap, ◌∙◌, subst, arith}
use Rattle.std.specs.Prelude.{◌==◌, nat_le}
use Rattle.std.specs.List.{AllByRecursion, list_any}
use Rattle.std.proofs.lemmas.Bool.{eq-eqb, leb-true, leb-false, or_from, false_from_ne_true}
use Rattle.nc_types.specs.Id.{Id}
use Rattle.nc_types.specs.Channel.{owner_of}
use Rattle.nc_journal.specs.Edges.{EdgeTold, edge_told, edges_of}
use Rattle.nc_journal.specs.History.{own}
use Rattle.nc_journal.specs.declared.event.Event.{Event}
use Rattle.nc_journal.specs.declared.event.Event.TheVariants.{Made}
use Rattle.nc_journal.specs.declared.alert.AlertLine.{AlertLine}
use Rattle.nc_journal.specs.declared.alert.AlertLine.TheVariants as lines
use Rattle.nc_journal.proofs.Cuts.{all-left}
use Rattle.nc_owner_laws.specs.Used.{bit, times}
use Rattle.nc_owner_laws.specs.Wake.{made_to}
use Rattle.nc_history.specs.Packets.{pending, lines_of, received}
use Rattle.nc_rests.specs.Asking.{ask_numbers}
use Rattle.nc_rests.proofs.Received.{made_is, of_next}
use Rattle.nc_starts.specs.Asked.{old_first, HasTold}
use Rattle.nc_starts.proofs.Edges.{edges_own}
use Rattle.nc_worker_state.specs.Setup.{Setup}
use Rattle.nc_world.specs.World.{World}
use Rattle.nc_world.specs.Reached.{IsSetup, Reached}
use Rattle.nc_world_laws.proofs.Local.{eq_of, all_of}
use Rattle.nc_world_asks.proofs.Reaching.{reached_asks}
use Rattle.nc_world_places.proofs.Telling.{reached_owners_tell}
use Rattle.nc_world_edges.specs.Edges.{HasEdgeAsk, answers_edge, is_edge_answered, IsToldFor, ReachedTellsEdges, NextEdgeAnswers, EdgesAreAnswered, EdgeAskedOnce, EdgeAskedBelow, UndrawnUnanswered, UndrawnUnreceived}
use Rattle.nc_world_edges.proofs.EdgesStand.{IsAskedBehind, IsAnsweredTo, IsOfEdge, AnswersEdge}
use Rattle.nc_world_edges.proofs.Reaching.{edges_stand}

-- what is so of each edge is so of one that was told
of_told : (P : EdgeTold → Type 0) (t : EdgeTold) (ts : List EdgeTold) → AllByRecursion P ts → HasTold t ts → P t
of_told P t [] all has = absurd has
of_told P t (x ∷ ts) all (inl is) = subst P is all.0
of_told P t (x ∷ ts) all (inr has) = of_told P t ts all.1 has

-- ---- a number is drawn for one edge

ask_counts : (number k : ℕ) (c : List ℕ) (fence : ℕ) (l : List Event) → HasEdgeAsk number k c fence l → 1 ≤ times number (ask_numbers l)
ask_counts number k c fence [] has = absurd has
ask_counts number k c fence (Made v to n (lines.Edge m j d f) ∷ l) (inl is) = let here : bit (m == number) ≡ 1 = ap bit (eq-eqb m number is.0) in omega (arith, here)
ask_counts number k c fence (Made v to n (lines.Edge m j d f) ∷ l) (inr has) = omega (arith, ask_counts number k c fence l has)
ask_counts number k c fence (Made v to n (lines.Look m d a f) ∷ l) has = omega (arith, ask_counts number k c fence l has)
ask_counts number k c fence (e ∷ l) has = ask_counts number k c fence l has

-- two asks by one number are one
one_ask : (number k j fence behind : ℕ) (c d : List ℕ) (l : List Event) → times number (ask_numbers l) ≤ 1 → HasEdgeAsk number k c fence l → HasEdgeAsk number j d behind l → (k ≡ j) × (c ≡ d) × (fence ≡ behind)
one_ask number k j fence behind c d [] few has more = absurd has
one_ask number k j fence behind c d (Made v to n (lines.Edge m i x f) ∷ l) few (inl is) (inl too) = (sym is.1 ∙ too.1, sym is.2 ∙ too.2, sym is.3 ∙ too.3)
one_ask number k j fence behind c d (Made v to n (lines.Edge m i x f) ∷ l) few (inl is) (inr more) = let here : bit (m == number) ≡ 1 = ap bit (eq-eqb m number is.0) in absurd (omega (arith, few, here, ask_counts number j d behind l more))
one_ask number k j fence behind c d (Made v to n (lines.Edge m i x f) ∷ l) few (inr has) (inl too) = let here : bit (m == number) ≡ 1 = ap bit (eq-eqb m number too.0) in absurd (omega (arith, few, here, ask_counts number k c fence l has))
one_ask number k j fence behind c d (Made v to n (lines.Edge m i x f) ∷ l) few (inr has) (inr more) = one_ask number k j fence behind c d l (omega (arith, few)) has more
one_ask number k j fence behind c d (Made v to n (lines.Look m x a f) ∷ l) few has more = one_ask number k j fence behind c d l (omega (arith, few)) has more
one_ask number k j fence behind c d (e ∷ l) few has more = one_ask number k j fence behind c d l few has more

pub edge_asked_once : EdgeAskedOnce
edge_asked_once setup h world is r w number k fence k2 fence2 c c2 has more = one_ask number k k2 fence fence2 c c2 (own w h) (((reached_asks setup h world is r).drawn w).once number) has more

pub edge_asked_below : EdgeAskedBelow
edge_asked_below setup h world is r w number k fence c has = by (nat_le (world.workers w).desk.spools.next number) refl
  where
    by : (b : Bool) → nat_le (world.workers w).desk.spools.next number ≡ b → number < (world.workers w).desk.spools.next
    by true e =
        let none = ((reached_asks setup h world is r).drawn w).below number (leb-true (world.workers w).desk.spools.next number e) in
        absurd (omega (arith, none, ask_counts number k c fence (own w h) has))
    by false e = leb-false (world.workers w).desk.spools.next number e

-- ---- what is answered

module _ (setup : Setup) (h : List Event) (world : World) (is : IsSetup setup) (r : Reached setup h world) where
  -- the edges of a channel are told by its owner
  owners_edges : (o w k : ℕ) (c : List ℕ) → owner_of setup.workers c ≡ o → edges_of w k c (own o h) ≡ edges_of w k c h
  owners_edges o w k c e = ap (λ (z : ℕ). edges_of w k c (own z h)) (sym e) ∙ edges_own setup.workers w k c h (reached_owners_tell setup h world is r).owners.by_owner

  -- an answer is that of an edge that its worker asked for
  asked_for : (o w number floor : ℕ) (last : Id) → (a : IsOfEdge setup.workers o w number floor last (own o h)) → IsAskedBehind a.k a.chan (own w h) (edge_told number floor last)
  asked_for o w number floor last a =
      of_told (IsAskedBehind a.k a.chan (own w h)) (edge_told number floor last) (edges_of w a.k a.chan (own o h)) ((edges_stand setup h world is r o w).asked a.k a.chan) a.told

  told_for : (o w number floor : ℕ) (last : Id) → IsOfEdge setup.workers o w number floor last (own o h) → IsToldFor setup.workers w o number floor last h
  told_for o w number floor last a =
      let ask = asked_for o w number floor last a in
      record {
        k = a.k;
        chan = a.chan;
        fence = ask.fence;
        owner = a.owner;
        told = subst (HasTold (edge_told number floor last)) (owners_edges o w a.k a.chan a.owner) a.told;
        asked = ask.asked;
        fenced = ask.fenced;
      }

  -- no answer has a number that isn't drawn
  module _ (o w n : ℕ) (undrawn : (world.workers w).desk.spools.next ≤ n) where
    other_number : (number floor : ℕ) (last : Id) → IsOfEdge setup.workers o w number floor last (own o h) → number ≡ n → ⊥
    other_number number floor last a e =
        let ask = asked_for o w number floor last a in
        let below = edge_asked_below setup h world is r w number a.k ask.fence a.chan ask.asked in
        omega (arith, e, below, undrawn)

    answers_other : (a : AlertLine) → AnswersEdge setup.workers o w (own o h) a → answers_edge n a ≡ false
    answers_other (lines.EdgeAnswer number q floor last) a = false_from_ne_true (number == n) (λ e. other_number number floor last a (eq_of number n e))
    answers_other a is = refl

    none_answered : AllByRecursion (λ (a : AlertLine). answers_edge n a ≡ false) (made_to w (own o h))
    none_answered = all_of (AnswersEdge setup.workers o w (own o h)) (λ (a : AlertLine). answers_edge n a ≡ false) answers_other (made_to w (own o h)) (edges_stand setup h world is r o w).answers

none_of : (n : ℕ) (ms : List AlertLine) → AllByRecursion (λ (a : AlertLine). answers_edge n a ≡ false) ms → is_edge_answered n ms ≡ false
none_of n [] all = refl
none_of n (a ∷ ms) all = or_from (answers_edge n a) (list_any (answers_edge n) ms) all.0 (none_of n ms all.1)

pub reached_tells_edges : ReachedTellsEdges
reached_tells_edges setup h world is r w k c =
    let o = owner_of setup.workers c in
    ap old_first (sym (owners_edges setup h world is r o w k c refl)) ∙ (edges_stand setup h world is r o w).done k c

pub next_edge_answers : NextEdgeAnswers
next_edge_answers setup h world is r o w number q floor last next =
    told_for setup h world is r o w number floor last (of_next (AnswersEdge setup.workers o w (own o h)) o w (lines.EdgeAnswer number q floor last) h (edges_stand setup h world is r o w).answers next)

pub edges_are_answered : EdgesAreAnswered
edges_are_answered setup h world is r w k c t has =
    let o = owner_of setup.workers c in
    of_told (IsAnsweredTo w (own o h)) t (edges_of w k c (own o h)) ((edges_stand setup h world is r o w).answered k c) (subst (HasTold t) (sym (owners_edges setup h world is r o w k c refl)) has)

pub undrawn_unanswered : UndrawnUnanswered
undrawn_unanswered setup h world is r w o n undrawn = none_of n (made_to w (own o h)) (none_answered setup h world is r o w n undrawn)

pub undrawn_unreceived : UndrawnUnreceived
undrawn_unreceived setup h world is r w o n undrawn =
    none_of n (received o w h) (all-left (λ (a : AlertLine). answers_edge n a ≡ false) (received o w h) (lines_of (pending o w h)) (subst (AllByRecursion (λ (a : AlertLine). answers_edge n a ≡ false)) (made_is o w h) (none_answered setup h world is r o w n undrawn)))
