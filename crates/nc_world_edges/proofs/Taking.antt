-- An owner that takes an alert of a worker: where it asks for an edge, the edge is told and answered behind its fence.
use Rattle.std.proofs.Common.{◌≡◌, inl, inr, ℕ, ◌≤◌, Bool, true, false, cond, max, List, [], ◌∷◌, ◌++◌, refl, sym, ◌∙◌, subst, arith}
use Rattle.std.specs.Prelude.{◌==◌}
use Rattle.std.specs.List.{AllByRecursion}
use Rattle.std.proofs.lemmas.Bool.{cond_both}
use Rattle.std.proofs.lemmas.Bool.Decides.{nat_tests}
use Rattle.nc_types.specs.Id.{Id}
use Rattle.nc_types.specs.Channel.{owner_of}
use Rattle.nc_journal.specs.History.{own, onto, is_by}
use Rattle.nc_journal.specs.declared.event.Event.{Event}
use Rattle.nc_journal.specs.declared.event.Event.TheVariants.{Edged, Made, Took}
use Rattle.nc_journal.specs.declared.alert.AlertLine.{AlertLine}
use Rattle.nc_journal.specs.declared.alert.AlertLine.TheVariants as lines
use Rattle.nc_owner.specs.AlertLines.{OutLine}
use Rattle.nc_owner.specs.State.{OwnerAt}
use Rattle.nc_owner.specs.Publish.{Polls}
use Rattle.nc_owner.specs.Fence.{with_floor, raise_events}
use Rattle.nc_owner.specs.Edge.{last_in, edge_events, edge_alerts}
use Rattle.nc_owner.specs.OtherSteps.{touch_events_of, touch_after}
use Rattle.nc_owner_laws.specs.Wake.{made_to}
use Rattle.nc_owner_laws.specs.Weave.{weave}
use Rattle.nc_owner_laws.proofs.Fences.{onto_raised, onto_edge}
use Rattle.nc_history.specs.Packets.{takes, received, IsNext}
use Rattle.nc_worker_state.specs.Owned.{Holding, fenced, owned_by}
use Rattle.nc_worker_state.specs.Worker.{woven}
use Rattle.nc_rests.proofs.Answered.{all_if}
use Rattle.nc_rests.proofs.Received.{received_same, of_next}
use Rattle.nc_world_laws.specs.Good.{IsLineTo}
use Rattle.nc_world_laws.proofs.WorkerKinds.{IsUntaken}
use Rattle.nc_world_laws.proofs.Local.{eq_of, either, all_of}
use Rattle.nc_world_laws.proofs.Telling.{woven_made}
use Rattle.nc_world_edges.specs.Edges.{HasEdgeAsk}
use Rattle.nc_world_edges.proofs.EdgesStand.{EdgesStand, IsUnanswering, IsEdgeless, AsksNoEdge, edgeless_onto, got_stands, edge_stands, other_stands}
use Rattle.nc_world_edges.proofs.Edgeless.{less_touch, less_raise, less_line, unanswering_line}

-- ---- asks, as the history goes on

ask_case : (number k : ℕ) (c : List ℕ) (fence : ℕ) (e : Event) (l : List Event) → HasEdgeAsk number k c fence l → HasEdgeAsk number k c fence (e ∷ l)
ask_case number k c fence (Made v to n (lines.Edge m j d f)) l has = inr has
ask_case number k c fence e l has = has

ask_more : (w number k : ℕ) (c : List ℕ) (fence : ℕ) (e : Event) (h : List Event) → HasEdgeAsk number k c fence (own w h) → HasEdgeAsk number k c fence (own w (e ∷ h))
ask_more w number k c fence e h has = cond_both (is_by w e) (e ∷ own w h) (own w h) (HasEdgeAsk number k c fence) (λ _. ask_case number k c fence e (own w h) has) (λ _. has)

pub ask_onto : (w number k : ℕ) (c : List ℕ) (fence : ℕ) (es h : List Event) → HasEdgeAsk number k c fence (own w h) → HasEdgeAsk number k c fence (own w (onto es h))
ask_onto w number k c fence [] h has = has
ask_onto w number k c fence (e ∷ es) h has = ask_onto w number k c fence es (e ∷ h) (ask_more w number k c fence e h has)

-- an edge that an owner takes next was asked for
abbrev AskOf : List Event → AlertLine → Type 0
AskOf l (lines.Edge number k c fence) = HasEdgeAsk number k c fence l
AskOf l a = Unit {0}

ask_of_more : (e : Event) (l : List Event) (a : AlertLine) → AskOf l a → AskOf (e ∷ l) a
ask_of_more e l (lines.Edge number k c fence) has = ask_case number k c fence e l has
ask_of_more e l a has = tt

ask_here : (v to n : ℕ) (a : AlertLine) (l : List Event) → AskOf (Made v to n a ∷ l) a
ask_here v to n (lines.Edge number k c fence) l = inl (refl, refl, refl, refl)
ask_here v to n a l = tt

made_asks : (o : ℕ) (l : List Event) → AllByRecursion (AskOf l) (made_to o l)
made_asks o [] = tt
made_asks o (Made v to n a ∷ l) = all_if (AskOf (Made v to n a ∷ l)) (to == o) (made_to o l) a (all_of (AskOf l) (AskOf (Made v to n a ∷ l)) (λ y has. ask_of_more (Made v to n a) l y has) (made_to o l) (made_asks o l)) (λ _. ask_here v to n a l)
made_asks o (e ∷ l) = all_of (AskOf l) (AskOf (e ∷ l)) (λ y has. ask_of_more e l y has) (made_to o l) (made_asks o l)

next_asked : (w o number k : ℕ) (c : List ℕ) (fence : ℕ) (h : List Event) → IsNext w o (lines.Edge number k c fence) h → HasEdgeAsk number k c fence (own w h)
next_asked w o number k c fence h next = of_next (AskOf (own w h)) w o (lines.Edge number k c fence) h (made_asks o (own w h)) next

-- ---- what was taken

untaken : (w o : ℕ) (e : Event) → IsUntaken e → takes w o e ≡ false
untaken w o (Took y x n kind) p = absurd p
untaken w o e p = refl

pub received_onto : (w o : ℕ) (es h : List Event) → AllByRecursion IsUntaken es → received w o (onto es h) ≡ received w o h
received_onto w o [] h p = refl
received_onto w o (e ∷ es) h p = received_onto w o es (e ∷ h) p.1 ∙ received_same w o e h (untaken w o e p.0)

-- ---- an owner takes an alert

-- an edge is asked of its channel's owner, by a worker that asked for it
abbrev pub LineIs : (workers o w v : ℕ) → List Event → AlertLine → Type 0
LineIs workers o w v asks (lines.Edge number k c fence) = (owner_of workers c ≡ o) × (w ≡ v → HasEdgeAsk number k c fence asks)
LineIs workers o w v asks line = Unit {0}

pub line_is : (workers o w v x : ℕ) (h : List Event) (line : AlertLine) → o ≡ x → IsLineTo workers v x line → IsNext v x line h → LineIs workers o w v (own w h) line
line_is workers o w v x h (lines.Edge number k c fence) e to next = (to ∙ sym e, λ same. subst (λ (z : ℕ). HasEdgeAsk number k c fence (own z h)) (sym same) (next_asked v x number k c fence h next))
line_is workers o w v x h line e to next = tt

turned : (a b : ℕ) → (a == b) ≡ false → (b == a) ≡ false
turned a b e = grind (arith, nat_tests)

fence_low : (floor fence : ℕ) → fence ≤ max floor fence
fence_low floor fence = omega arith

module _ (workers o w v x : ℕ) (next : ℕ → ℕ) (asks l : List Event) (got : List AlertLine) (s : Holding) (e : EdgesStand workers o w asks l got) where
  plain_part : (polls : Polls) (line : AlertLine) → AsksNoEdge line → AllByRecursion IsEdgeless (woven x next (owned_by polls v line s))
  plain_part polls line plain =
      woven_made IsEdgeless (λ (a : OutLine). IsUnanswering a.line) x (λ n a p. p) next (owned_by polls v line s).events (owned_by polls v line s).alerts
      (less_line polls v line s plain) (unanswering_line polls v line s plain)

  plain_line : (polls : Polls) (line : AlertLine) → AsksNoEdge line → EdgesStand workers o w asks (onto (woven x next (owned_by polls v line s)) l) (cond (w == v) (got ++ line ∷ []) got)
  plain_line polls line plain =
      let there = onto (woven x next (owned_by polls v line s)) l in
      let k = edgeless_onto workers o w asks got (woven x next (owned_by polls v line s)) l (plain_part polls line plain) e in
      either (EdgesStand workers o w asks there) (w == v) (got ++ line ∷ []) got (got_stands workers o w asks there got line plain k) k

  module _ (number k : ℕ) (c : List ℕ) (fence : ℕ) (is : LineIs workers o w v asks (lines.Edge number k c fence)) where
    abbrev ready : OwnerAt
    ready = touch_after c s.row (with_floor fence s.owner)

    abbrev q : ℕ
    q = ready.desk.looks

    abbrev floor : ℕ
    floor = ready.desk.floor

    abbrev last : Id
    last = last_in c ready

    abbrev older : List Event
    older = onto (weave x next (touch_events_of c s.row (with_floor fence s.owner)) []) (onto (raise_events fence s.owner) l)

    abbrev told : ℕ → List Event
    told to = Made x to (next v) (lines.EdgeAnswer number q floor last) ∷ Edged ready.desk.me q to number k c floor last ∷ older

    edge_onto : (polls : Polls) → onto (woven x next (owned_by polls v (lines.Edge number k c fence) s)) l ≡ told v
    edge_onto polls =
        onto_raised x next fence s.owner (edge_events v number k c s.row (with_floor fence s.owner)) (edge_alerts v number c s.row (with_floor fence s.owner)) l
        ∙ onto_edge x next next v number k c s.row (with_floor fence s.owner) (onto (raise_events fence s.owner) l)

    older_stands : EdgesStand workers o w asks older got
    older_stands =
        edgeless_onto workers o w asks got (weave x next (touch_events_of c s.row (with_floor fence s.owner)) []) (onto (raise_events fence s.owner) l)
        (woven_made IsEdgeless (λ (a : OutLine). IsUnanswering a.line) x (λ n a p. p) next (touch_events_of c s.row (with_floor fence s.owner)) [] (less_touch c (fenced fence s)) tt)
        (edgeless_onto workers o w asks got (raise_events fence s.owner) l (less_raise fence s) e)

    told_stands : EdgesStand workers o w asks (told v) (cond (w == v) (got ++ lines.Edge number k c fence ∷ []) got)
    told_stands = by (w == v) refl
      where
        by : (b : Bool) → (w == v) ≡ b → EdgesStand workers o w asks (told v) (cond b (got ++ lines.Edge number k c fence ∷ []) got)
        by true b =
            let same = eq_of w v b in
            subst (λ (z : ℕ). EdgesStand workers o w asks (told z) (got ++ lines.Edge number k c fence ∷ [])) same
            (edge_stands workers o w number k fence floor c last asks older got ready.desk.me q x (next v) q is.0 older_stands (is.1 same) (fence_low s.owner.desk.floor fence))
        by false b = other_stands workers o w number k fence floor c last asks older got ready.desk.me q x (next v) q is.0 older_stands v (turned w v b)

    edge_line : (polls : Polls) → EdgesStand workers o w asks (onto (woven x next (owned_by polls v (lines.Edge number k c fence) s)) l) (cond (w == v) (got ++ lines.Edge number k c fence ∷ []) got)
    edge_line polls = subst (λ (m : List Event). EdgesStand workers o w asks m (cond (w == v) (got ++ lines.Edge number k c fence ∷ []) got)) (sym (edge_onto polls)) told_stands

  pub line_stands : (polls : Polls) (line : AlertLine) → LineIs workers o w v asks line → EdgesStand workers o w asks (onto (woven x next (owned_by polls v line s)) l) (cond (w == v) (got ++ line ∷ []) got)
  line_stands polls (lines.Edge number k c fence) is = edge_line number k c fence is polls
  line_stands polls (lines.Publish r c len timeout ct body) is = plain_line polls (lines.Publish r c len timeout ct body) tt
  line_stands polls (lines.PubAnswer r status info full) is = plain_line polls (lines.PubAnswer r status info full) tt
  line_stands polls (lines.Look number c after fence) is = plain_line polls (lines.Look number c after fence) tt
  line_stands polls (lines.LookAnswer number q floor found g slot) is = plain_line polls (lines.LookAnswer number q floor found g slot) tt
  line_stands polls (lines.Notice c id g slot) is = plain_line polls (lines.Notice c id g slot) tt
  line_stands polls (lines.EdgeAnswer number q floor last) is = plain_line polls (lines.EdgeAnswer number q floor last) tt
  line_stands polls (lines.Join c k) is = plain_line polls (lines.Join c k) tt
  line_stands polls (lines.Part c k) is = plain_line polls (lines.Part c k) tt
  line_stands polls (lines.Delete r c) is = plain_line polls (lines.Delete r c) tt
  line_stands polls (lines.DelAnswer r status info) is = plain_line polls (lines.DelAnswer r status info) tt
  line_stands polls (lines.Gone c subs) is = plain_line polls (lines.Gone c subs) tt
  line_stands polls (lines.Info r c) is = plain_line polls (lines.Info r c) tt
  line_stands polls (lines.InfoAnswer r status info) is = plain_line polls (lines.InfoAnswer r status info) tt
