-- In each reached world the numbers of looks, edges and requests that workers ask for are counted by what they did.
use Rattle.std.proofs.Common.{◌≡◌, ℕ, ◌+◌, false, List, [], ◌∷◌, refl, ap, arith}
use Rattle.std.specs.Prelude.{◌==◌}
use Rattle.std.specs.List.{AllByRecursion}
use Rattle.nc_journal.specs.History.{own, onto}
use Rattle.nc_journal.specs.declared.event.Event.{Event}
use Rattle.nc_journal.specs.declared.event.Event.TheVariants.{Asked, Made}
use Rattle.nc_journal.specs.declared.alert.AlertLine.{AlertLine}
use Rattle.nc_journal.specs.declared.alert.AlertLine.TheVariants as lines
use Rattle.nc_owner.specs.AlertLines.{OutLine}
use Rattle.nc_owner_laws.specs.Kinds.{IsOfOwner}
use Rattle.nc_spool_laws.specs.Numbers.{total}
use Rattle.nc_history.specs.Packets.{Packet}
use Rattle.nc_worker_state.specs.Setup.{Setup}
use Rattle.nc_worker_state.specs.Incoming.{Incoming, TakesPacket, ClockReads, Reaps, Posts, Subscribes, Removes, Informs}
use Rattle.nc_worker_state.specs.Deed.{next_after}
use Rattle.nc_worker_state.specs.Worker.{WorkerAt, with_at, dealt_worker, holding}
use Rattle.nc_world.specs.World.{World, seat, polls_of, handled_events, handled}
use Rattle.nc_world.specs.Moves.{carried_one}
use Rattle.nc_world.specs.Reached.{IsSetup, Reached}
use Rattle.nc_world_laws.specs.Good.{Good}
use Rattle.nc_world_laws.proofs.WorkerKinds.{IsUnmade, IsOfWorker}
use Rattle.nc_world_laws.proofs.WorldTheme.{WorldFact, IsWorldTheme}
use Rattle.nc_world_laws.proofs.Local.{all_of, own_onto, own_other}
use Rattle.nc_world_laws.proofs.Acting.{with_all}
use Rattle.nc_world_laws.proofs.Frames.{handled_onto}
use Rattle.nc_world_laws.proofs.Parts.{owns, serves, before, part, behind, part_all, part_made, part_alerts, behind_all, step_by}
use Rattle.nc_world_laws.proofs.Telling.{unmade_owner}
use Rattle.nc_world_laws.proofs.WorldThemes.{world_theme_holds}
use Rattle.nc_world_asks.proofs.Unlooked.{IsUnasking, MakesUnasking, unasking_line}
use Rattle.nc_world_worn.proofs.Asking.{event_asks, deed_asks, event_requests, told_asks, incoming_requests, served_rises}

-- ---- sums over events

total_onto : (f : Event → ℕ) (es l : List Event) → total f (onto es l) ≡ total f es + total f l
total_onto f [] l = omega arith
total_onto f (e ∷ es) l = let a = total_onto f es (e ∷ l) in omega (arith, a)

none_total : (f : Event → ℕ) (es : List Event) → AllByRecursion (λ e. f e ≡ 0) es → total f es ≡ 0
none_total f [] p = refl
none_total f (e ∷ es) p = let a : f e ≡ 0 = p.0 in let b = none_total f es p.1 in omega (arith, a, b)

-- ---- events that ask for nothing

made_none : (a : AlertLine) (v to m : ℕ) → IsUnasking a → event_asks (Made v to m a) ≡ 0
made_none (lines.Look number c after fence) v to m p = absurd p
made_none (lines.Edge number k c fence) v to m p = absurd p
made_none a v to m p = refl

none_asked : (e : Event) → MakesUnasking e → event_asks e ≡ 0
none_asked (Made v to m a) p = made_none a v to m p
none_asked e p = refl

unmade_unasking : (e : Event) → IsUnmade e → MakesUnasking e
unmade_unasking (Made v to n a) p = absurd p
unmade_unasking e p = tt

owner_requests : (w : ℕ) (e : Event) → IsOfOwner w e → event_requests e ≡ 0
owner_requests w (Asked v r conn act list status rule) p = absurd p
owner_requests w e p = refl

worker_requests : (w : ℕ) (e : Event) → IsOfWorker w e → event_requests e ≡ 0
worker_requests w (Asked v r conn act list status rule) p = absurd p
worker_requests w e p = refl

-- ---- a step

-- the next numbers of looks, edges and requests are so far behind the first one as was asked
pub record AreCounted (first : ℕ) (h : List Event) (world : World) : Type 0 where
  pub asks : (w : ℕ) → (world.workers w).desk.spools.next ≡ first + total event_asks (own w h)
  pub requests : (w : ℕ) → (world.workers w).desk.requests ≡ first + total event_requests (own w h)

module _ (setup : Setup) (is : IsSetup setup) (x : ℕ) (incoming : Incoming) (h : List Event) (world : World) (g : Good setup h world) where
  abbrev es : List Event
  es = handled_events setup x incoming world

  parts_count : (f : Event → ℕ) (l : List Event) → total f (onto es l) ≡ total f l + total f (before setup x incoming world) + total f (part x incoming world) + total f (behind setup x incoming world)
  parts_count f l =
      let a = ap (total f) (handled_onto setup is x incoming h world g l) in
      let b = total_onto f (behind setup x incoming world) (onto (part x incoming world) (onto (before setup x incoming world) l)) in
      let c = total_onto f (part x incoming world) (onto (before setup x incoming world) l) in
      let d = total_onto f (before setup x incoming world) l in
      omega (arith, a, b, c, d)

  opening_asks : (i : Incoming) → total event_asks (before setup x i world) ≡ 0
  opening_asks (TakesPacket from p) = refl
  opening_asks (ClockReads t) = refl
  opening_asks Reaps = refl
  opening_asks (Posts c body) = refl
  opening_asks (Subscribes k list start) = refl
  opening_asks (Removes c) = refl
  opening_asks (Informs c) = refl

  opening_requests : (i : Incoming) → total event_requests (before setup x i world) ≡ incoming_requests i
  opening_requests (TakesPacket from p) = refl
  opening_requests (ClockReads t) = refl
  opening_requests Reaps = refl
  opening_requests (Posts c body) = refl
  opening_requests (Subscribes k list start) = refl
  opening_requests (Removes c) = refl
  opening_requests (Informs c) = refl

  part_asks : total event_asks (part x incoming world) ≡ 0
  part_asks = none_total event_asks (part x incoming world) (all_of MakesUnasking (λ e. event_asks e ≡ 0) none_asked (part x incoming world)
      (part_made setup is x incoming h world g MakesUnasking (λ (a : OutLine). IsUnasking a.line) (λ e p. unmade_unasking e (unmade_owner x e p)) (λ n a p. p)
      (part_alerts setup is x incoming h world g (λ (a : OutLine). IsUnasking a.line) (λ from p e. unasking_line (polls_of x incoming world).publish from p.line (holding x (seat x world))) (λ c subs to mine. tt))))

  step_asks : (l : List Event) → total event_asks (onto es l) ≡ total event_asks l + total deed_asks (serves setup x incoming world).deeds
  step_asks l =
      let a = parts_count event_asks l in
      let b = opening_asks incoming in
      let c = part_asks in
      let d = told_asks x (next_after (world.workers x).next (part x incoming world)) (serves setup x incoming world).deeds in
      omega (arith, a, b, c, d)

  step_requests : (l : List Event) → total event_requests (onto es l) ≡ total event_requests l + incoming_requests incoming
  step_requests l =
      let a = parts_count event_requests l in
      let b = opening_requests incoming in
      let c = none_total event_requests (part x incoming world) (part_all setup is x incoming h world g (λ e. event_requests e ≡ 0) (owner_requests x) (λ to n a. refl)) in
      let d = none_total event_requests (behind setup x incoming world) (behind_all setup is x incoming h world g (λ e. event_requests e ≡ 0) (worker_requests x) (λ to n a. refl)) in
      omega (arith, a, b, c, d)

  module _ (k : AreCounted setup.first h world) where
    abbrev new : WorkerAt
    new = dealt_worker es (owns x incoming world) (serves setup x incoming world) (world.workers x)

    -- what a worker's own history tells after the step
    here : (f : Event → ℕ) → total f (own x (onto es h)) ≡ total f (onto es (own x h))
    here f = ap (total f) (own_onto x es h (step_by setup is x incoming h world g))

    there : (f : Event → ℕ) (z : ℕ) → (z == x) ≡ false → total f (own z (onto es h)) ≡ total f (own z h)
    there f z other = ap (total f) (own_other z x es h other (step_by setup is x incoming h world g))

    asks_after : (w : ℕ) → ((handled setup x incoming world).workers w).desk.spools.next ≡ setup.first + total event_asks (own w (onto es h))
    asks_after = with_all (λ w (s : WorkerAt). s.desk.spools.next ≡ setup.first + total event_asks (own w (onto es h))) world.workers x new
        (let a = (served_rises x (world.workers x).desk setup incoming).asks in let b = k.asks x in let c = step_asks (own x h) in let d = here event_asks in omega (arith, a, b, c, d))
        (λ z other. let b = k.asks z in let d = there event_asks z other in omega (arith, b, d))

    requests_after : (w : ℕ) → ((handled setup x incoming world).workers w).desk.requests ≡ setup.first + total event_requests (own w (onto es h))
    requests_after = with_all (λ w (s : WorkerAt). s.desk.requests ≡ setup.first + total event_requests (own w (onto es h))) world.workers x new
        (let a = (served_rises x (world.workers x).desk setup incoming).requests in let b = k.requests x in let c = step_requests (own x h) in let d = here event_requests in omega (arith, a, b, c, d))
        (λ z other. let b = k.requests z in let d = there event_requests z other in omega (arith, b, d))

    step_counted : AreCounted setup.first (onto es h) (handled setup x incoming world)
    step_counted = record { asks = asks_after; requests = requests_after }

-- ---- the theme

abbrev CountedFact : Setup → WorldFact
CountedFact setup h world = AreCounted setup.first h world

carried_counted : (first w v : ℕ) (p : Packet) (ps : List Packet) (h : List Event) (world : World) → AreCounted first h world → AreCounted first h (carried_one w v p ps world)
carried_counted first w v p ps h world k = record {
  asks = with_all (λ x (s : WorkerAt). s.desk.spools.next ≡ first + total event_asks (own x h)) world.workers w (record (world.workers w) { outbox = with_at (world.workers w).outbox v ps }) (k.asks w) (λ x e. k.asks x);
  requests = with_all (λ x (s : WorkerAt). s.desk.requests ≡ first + total event_requests (own x h)) world.workers w (record (world.workers w) { outbox = with_at (world.workers w).outbox v ps }) (k.requests w) (λ x e. k.requests x);
}

counted_theme : (setup : Setup) → IsSetup setup → IsWorldTheme setup (CountedFact setup)
counted_theme setup is = record {
  new = record { asks = λ w. omega arith; requests = λ w. omega arith };
  handles = λ w incoming h world r g here i k. step_counted setup is w incoming h world g k;
  takes = λ w v p ps h world r g here there at k. let s = step_counted setup is w (TakesPacket v p) h world g k in record { asks = s.asks; requests = s.requests };
  carries = λ w v p ps h world r g here there at k. carried_counted setup.first w v p ps h world k;
  pending = λ n h world r g same k. record { asks = k.asks; requests = k.requests };
  quiet = λ h world r g same k. record { asks = k.asks; requests = k.requests };
}

pub reached_counted : (setup : Setup) (h : List Event) (world : World) → IsSetup setup → Reached setup h world → AreCounted setup.first h world
reached_counted setup h world is r = world_theme_holds setup (CountedFact setup) is (counted_theme setup is) h world r
