-- In each reached world the edges that owners told are those whose asking they took, and they answered each.
use Rattle.std.proofs.Common.{◌≡◌, ℕ, Bool, true, false, cond, List, [], ◌∷◌, ◌++◌, refl, sym, ap, subst}
use Rattle.std.specs.Prelude.{◌&&◌, ◌==◌}
use Rattle.std.specs.List.{AllByRecursion}
use Rattle.std.proofs.lemmas.Bool.{and_right}
use Rattle.nc_journal.specs.History.{own, onto}
use Rattle.nc_journal.specs.declared.event.Event.{Event}
use Rattle.nc_journal.specs.declared.event.Event.TheVariants.{Edged, Made, Took}
use Rattle.nc_journal.specs.declared.alert.AlertLine.{AlertLine}
use Rattle.nc_journal.specs.declared.alert.AlertLine.TheVariants as lines
use Rattle.nc_owner.specs.AlertLines.{OutLine}
use Rattle.nc_history.specs.Packets.{Packet, kind_of, pending, first_line, received, IsNext}
use Rattle.nc_worker_state.specs.Setup.{Setup}
use Rattle.nc_worker_state.specs.Incoming.{Incoming, TakesPacket, ClockReads, Reaps, Posts, Subscribes, Removes, Informs}
use Rattle.nc_worker_state.specs.Deed.{next_after}
use Rattle.nc_worker_state.specs.Owned.{line_polls}
use Rattle.nc_worker_state.specs.Worker.{holding}
use Rattle.nc_world.specs.World.{World, seat, polls_of, handled_events}
use Rattle.nc_world.specs.Reached.{IsSetup, IsInput, Reached}
use Rattle.nc_world_laws.specs.Good.{Good}
use Rattle.nc_world_laws.proofs.WorkerKinds.{IsOfWorker, AsksOwner}
use Rattle.nc_world_laws.proofs.WorldTheme.{IsWorldTheme}
use Rattle.nc_world_laws.proofs.Local.{eq_of}
use Rattle.nc_world_laws.proofs.Frames.{own_handled, handled_onto, input_untaken}
use Rattle.nc_world_laws.proofs.Moving.{taken_right}
use Rattle.nc_world_laws.proofs.Parts.{owns, serves, before, part, behind, rest, part_events, part_alerts, well, rest_untaken}
use Rattle.nc_world_laws.proofs.Telling.{woven_part, told_made, deeds_do, deeds_make}
use Rattle.nc_world_laws.proofs.WorldThemes.{world_theme_holds}
use Rattle.nc_world_asks.proofs.Reaching.{ring_next}
use Rattle.nc_world_edges.proofs.EdgesStand.{EdgesStand, IsUnanswering, IsEdgeless, edgeless_onto, asks_stand}
use Rattle.nc_world_edges.proofs.Edgeless.{ComesEdgeless, less_line, less_removed, unanswering_line}
use Rattle.nc_world_edges.proofs.Taking.{ask_onto, received_onto, line_is, line_stands}

-- of each owner and each worker
abbrev pub AllEdgesStand : ℕ → List Event → Type 0
AllEdgesStand workers h = (o w : ℕ) → EdgesStand workers o w (own w h) (own o h) (received w o h)

-- what a worker does beside its owner tells no edge and answers none
worker_edgeless : (x : ℕ) (e : Event) → IsOfWorker x e → IsEdgeless e
worker_edgeless x (Edged v q from number k c floor last) p = absurd p
worker_edgeless x (Made v to n a) p = absurd p
worker_edgeless x e p = tt

asks_unanswering : (workers to : ℕ) (a : AlertLine) → AsksOwner workers to a → IsUnanswering a
asks_unanswering workers to (lines.EdgeAnswer number q floor last) p = absurd p
asks_unanswering workers to a p = tt

module _ (setup : Setup) (is : IsSetup setup) (x : ℕ) (h : List Event) (world : World) (g : Good setup h world) where
  opening_edgeless : (i : Incoming) → AllByRecursion IsEdgeless (before setup x i world)
  opening_edgeless (TakesPacket from p) = (tt, tt)
  opening_edgeless (ClockReads t) = (tt, tt)
  opening_edgeless Reaps = tt
  opening_edgeless (Posts c body) = (tt, tt)
  opening_edgeless (Subscribes k list start) = (tt, tt)
  opening_edgeless (Removes c) = (tt, tt)
  opening_edgeless (Informs c) = (tt, tt)

  behind_edgeless : (i : Incoming) → AllByRecursion IsEdgeless (behind setup x i world)
  behind_edgeless i =
      let deeds = (serves setup x i world).deeds in
      told_made IsEdgeless (AsksOwner setup.workers) x (next_after (world.workers x).next (part x i world)) (λ to n a p. asks_unanswering setup.workers to a p) deeds
      (deeds_do setup.workers x IsEdgeless (worker_edgeless x) deeds (well setup is x i h world g)) (deeds_make setup.workers x deeds (well setup is x i h world g))

  part_edgeless : (i : Incoming) → ComesEdgeless i → AllByRecursion IsEdgeless (part x i world)
  part_edgeless i plain =
      let polls = (polls_of x i world).publish in
      let s = holding x (seat x world) in
      woven_part IsEdgeless (λ (a : OutLine). IsUnanswering a.line) x (λ n a p. p) (world.workers x).next (owns x i world)
      (part_events setup is x i h world g IsEdgeless (λ from p e. less_line polls from p.line s (subst ComesEdgeless e plain)) (less_removed setup.workers x) (λ slot. tt))
      (part_alerts setup is x i h world g (λ (a : OutLine). IsUnanswering a.line) (λ from p e. unanswering_line polls from p.line s (subst ComesEdgeless e plain)) (λ c subs to mine. tt))

  -- ---- something comes from outside

  plain_step : (i : Incoming) → ComesEdgeless i → (o w : ℕ) (asks l : List Event) (got : List AlertLine) → EdgesStand setup.workers o w asks l got → EdgesStand setup.workers o w asks (onto (handled_events setup x i world) l) got
  plain_step i plain o w asks l got e =
      subst (λ (m : List Event). EdgesStand setup.workers o w asks m got) (sym (handled_onto setup is x i h world g l))
      (edgeless_onto setup.workers o w asks got (behind setup x i world) (onto (part x i world) (onto (before setup x i world) l)) (behind_edgeless i)
      (edgeless_onto setup.workers o w asks got (part x i world) (onto (before setup x i world) l) (part_edgeless i plain)
      (edgeless_onto setup.workers o w asks got (before setup x i world) l (opening_edgeless i) e)))

  input_edgeless : (i : Incoming) → IsInput x h i → ComesEdgeless i
  input_edgeless (TakesPacket from p) k = absurd k
  input_edgeless (ClockReads t) k = tt
  input_edgeless Reaps k = tt
  input_edgeless (Posts c body) k = tt
  input_edgeless (Subscribes k list start) comes = tt
  input_edgeless (Removes c) k = tt
  input_edgeless (Informs c) k = tt

  -- the worker asked for what it had asked for
  asks_after : (es : List Event) (o w : ℕ) → EdgesStand setup.workers o w (own w h) (own o (onto es h)) (received w o (onto es h)) → EdgesStand setup.workers o w (own w (onto es h)) (own o (onto es h)) (received w o (onto es h))
  asks_after es o w e = asks_stand setup.workers o w (own w h) (own w (onto es h)) (own o (onto es h)) (received w o (onto es h)) (λ number k fence c has. ask_onto w number k c fence es h has) e

  handled_edges : (i : Incoming) → IsInput x h i → AllEdgesStand setup.workers h → AllEdgesStand setup.workers (onto (handled_events setup x i world) h)
  handled_edges i input k o w =
      let es = handled_events setup x i world in
      asks_after es o w
      (subst (EdgesStand setup.workers o w (own w h) (own o (onto es h))) (sym (received_onto w o es h (input_untaken setup is x i h world g input)))
      (subst (λ (m : List Event). EdgesStand setup.workers o w (own w h) m (received w o h)) (sym (own_handled setup is x i h world g o)) (by (o == x) (k o w))))
    where
      by : (b : Bool) → EdgesStand setup.workers o w (own w h) (own o h) (received w o h) → EdgesStand setup.workers o w (own w h) (cond b (onto (handled_events setup x i world) (own o h)) (own o h)) (received w o h)
      by true e = plain_step i (input_edgeless i input) o w (own w h) (own o h) (received w o h) e
      by false e = e

  -- ---- an alert is taken

  module _ (v : ℕ) (p : Packet) (ps : List Packet) (at : world.rings v x ≡ p ∷ ps) (k : AllEdgesStand setup.workers h) (o w : ℕ) where
    abbrev taken : Incoming
    taken = TakesPacket v p

    abbrev es : List Event
    es = handled_events setup x taken world

    abbrev got : List AlertLine
    got = received w o h

    next : IsNext v x p.line h
    next = ring_next setup x v p ps h world g at

    taken_here : o ≡ x → EdgesStand setup.workers o w (own w h) (onto es (own o h)) (cond (w == v) (got ++ p.line ∷ []) got)
    taken_here e =
        let asks = own w h in
        let more = cond (w == v) (got ++ p.line ∷ []) got in
        subst (λ (m : List Event). EdgesStand setup.workers o w asks m more) (sym (handled_onto setup is x taken h world g (own o h)))
        (edgeless_onto setup.workers o w asks more (behind setup x taken world) (onto (part x taken world) (onto (before setup x taken world) (own o h))) (behind_edgeless taken)
        (line_stands setup.workers o w v x (world.workers x).next asks (onto (before setup x taken world) (own o h)) got (holding x (seat x world))
        (edgeless_onto setup.workers o w asks got (before setup x taken world) (own o h) (opening_edgeless taken) (k o w))
        (line_polls p.line (holding x (seat x world))) p.line (line_is setup.workers o w v x h p.line e (taken_right setup x v p ps h world g at) next)))

    -- what is taken of the worker is the alert
    got_same : o ≡ x → (b : Bool) → (w == v) ≡ b → cond b (got ++ p.line ∷ []) got ≡ cond (b && true) (got ++ first_line (pending w o h)) got
    got_same e true f = ap (λ (l : List AlertLine). got ++ l) (sym (subst (λ (z : ℕ × ℕ). first_line (pending z.0 z.1 h) ≡ p.line ∷ []) (λ i. (sym (eq_of w v f) i, sym e i)) next))
    got_same e false f = refl

    got_other : cond ((w == v) && false) (got ++ first_line (pending w o h)) got ≡ got
    got_other = ap (λ (b : Bool). cond b (got ++ first_line (pending w o h)) got) (and_right (w == v) false refl)

    taken_one : EdgesStand setup.workers o w (own w h) (cond (o == x) (onto es (own o h)) (own o h)) (cond ((w == v) && (o == x)) (got ++ first_line (pending w o h)) got)
    taken_one = by (o == x) refl
      where
        by : (b : Bool) → (o == x) ≡ b → EdgesStand setup.workers o w (own w h) (cond b (onto es (own o h)) (own o h)) (cond ((w == v) && b) (got ++ first_line (pending w o h)) got)
        by true f = subst (EdgesStand setup.workers o w (own w h) (onto es (own o h))) (got_same (eq_of o x f) (w == v) refl) (taken_here (eq_of o x f))
        by false f = subst (EdgesStand setup.workers o w (own w h) (own o h)) (sym got_other) (k o w)

    taken_edges : EdgesStand setup.workers o w (own w (onto es h)) (own o (onto es h)) (received w o (onto es h))
    taken_edges =
        asks_after es o w
        (subst (EdgesStand setup.workers o w (own w h) (own o (onto es h))) (sym (received_onto w o (rest setup x taken world) (Took x v p.number (kind_of p.line) ∷ h) (rest_untaken setup is x taken h world g)))
        (subst (λ (m : List Event). EdgesStand setup.workers o w (own w h) m (cond ((w == v) && (o == x)) (got ++ first_line (pending w o h)) got)) (sym (own_handled setup is x taken h world g o)) taken_one))

-- ---- the theme

edges_theme : (setup : Setup) → IsSetup setup → IsWorldTheme setup (λ h world. AllEdgesStand setup.workers h)
edges_theme setup is = record {
  new = λ o w. record { done = λ k c. refl; asked = λ k c. tt; answered = λ k c. tt; answers = tt };
  handles = λ w incoming h world r g here i k. handled_edges setup is w h world g incoming i k;
  takes = λ w v p ps h world r g here there at k o u. taken_edges setup is w h world g v p ps at k o u;
  carries = λ w v p ps h world r g here there at k. k;
  pending = λ n h world r g same k. k;
  quiet = λ h world r g same k. k;
}

pub edges_stand : (setup : Setup) (h : List Event) (world : World) → IsSetup setup → Reached setup h world → AllEdgesStand setup.workers h
edges_stand setup h world is r = world_theme_holds setup (λ h world. AllEdgesStand setup.workers h) is (edges_theme setup is) h world r
