-- In each reached world numbers are drawn once, and looks were asked for.
use Rattle.std.proofs.Common.{◌≡◌, ℕ, ◌+◌, Bool, true, false, cond, List, [], ◌∷◌, refl, sym, ap, ◌∙◌, subst, arith}
use Rattle.std.specs.Prelude.{◌==◌}
use Rattle.std.specs.List.{AllByRecursion}
use Rattle.nc_types.specs.Id.{Id}
use Rattle.nc_journal.specs.History.{own, onto}
use Rattle.nc_journal.specs.declared.event.Event.{Event}
use Rattle.nc_journal.specs.declared.event.Event.TheVariants.{Looked, Made}
use Rattle.nc_journal.specs.declared.alert.AlertLine.{AlertLine}
use Rattle.nc_journal.specs.declared.alert.AlertLine.TheVariants as lines
use Rattle.nc_owner.specs.AlertLines.{OutLine}
use Rattle.nc_owner_laws.specs.Used.{times}
use Rattle.nc_spool_laws.specs.Numbers.{total, IsOnce}
use Rattle.nc_history.specs.Packets.{Packet, first_line, IsNext}
use Rattle.nc_worker_state.specs.Setup.{Setup}
use Rattle.nc_worker_state.specs.Incoming.{Incoming, TakesPacket, ClockReads, Reaps, Posts, Subscribes, Removes, Informs}
use Rattle.nc_worker_state.specs.Deed.{next_after}
use Rattle.nc_worker_state.specs.Worker.{WorkerAt, with_at, dealt_worker, holding}
use Rattle.nc_world.specs.World.{World, seat, polls_of, handled_events, handled}
use Rattle.nc_world.specs.Moves.{carried_one}
use Rattle.nc_world.specs.Reached.{IsSetup, IsInput}
use Rattle.nc_world_laws.specs.Good.{Good}
use Rattle.nc_world_laws.proofs.WorkerKinds.{IsUnmade, IsOfWorker}
use Rattle.nc_world_laws.proofs.WorldTheme.{IsWorldTheme}
use Rattle.nc_world_laws.proofs.Local.{own_onto, own_other}
use Rattle.nc_world_laws.proofs.Acting.{with_all}
use Rattle.nc_world_laws.proofs.Frames.{own_step, handled_onto}
use Rattle.nc_world_laws.proofs.Parts.{owns, serves, before, part, behind, part_events, part_alerts, part_made, behind_all, step_by}
use Rattle.nc_world_laws.proofs.Taking.{first_pending}
use Rattle.nc_world_laws.proofs.Telling.{PartEvents, PartAlerts, woven_part_all, unmade_owner}
use Rattle.nc_world_laws.proofs.WorldThemes.{world_theme_holds}
use Rattle.nc_rests.specs.Asking.{HasAsk, ask_numbers, AreAsked}
use Rattle.nc_rests.proofs.Asks.{ask_more, asks_stay, next_asked}
use Rattle.nc_world_asks.specs.Asks.{AsksStand, ReachedAsks, ReachedAskWell}
use Rattle.nc_world_asks.proofs.Counted.{event_at, deed_at, numbers_onto, told_count, same_once, served_draws}
use Rattle.nc_world_asks.proofs.Unlooked.{IsUnasking, MakesUnasking, IsAskedFor, ComesAsked, LineAsks, looks_line, looks_removed, unasking_line}

-- ---- looks that were asked for

are_one : (w : ℕ) (asks : List Event) (e : Event) (l : List Event) → IsAskedFor w asks e → AreAsked w asks l → AreAsked w asks (e ∷ l)
are_one w asks (Looked v q from n d a floor found) l is k = (is, k)
are_one w asks e l is k = k

are_onto : (w : ℕ) (asks es l : List Event) → AllByRecursion (IsAskedFor w asks) es → AreAsked w asks l → AreAsked w asks (onto es l)
are_onto w asks [] l is k = k
are_onto w asks (e ∷ es) l is k = are_onto w asks es (e ∷ l) is.1 (are_one w asks e l is.0 k)

asks_onto : (w : ℕ) (es h l : List Event) → AreAsked w (own w h) l → AreAsked w (own w (onto es h)) l
asks_onto w [] h l k = k
asks_onto w (e ∷ es) h l k = asks_onto w es (e ∷ h) l (asks_stay w e h l k)

ask_onto : (w number : ℕ) (c : List ℕ) (after : Id) (es h : List Event) → HasAsk number c after (own w h) → HasAsk number c after (own w (onto es h))
ask_onto w number c after [] h k = k
ask_onto w number c after (e ∷ es) h k = ask_onto w number c after es (e ∷ h) (ask_more w number c after e h k)

line_onto : (w from : ℕ) (line : AlertLine) (es h : List Event) → LineAsks w (own w h) from line → LineAsks w (own w (onto es h)) from line
line_onto w from (lines.Look number c after fence) es h k = λ e. ask_onto w number c after es h (k e)
line_onto w from (lines.Publish r c len timeout ct body) es h k = tt
line_onto w from (lines.PubAnswer r status info full) es h k = tt
line_onto w from (lines.LookAnswer number q floor found g slot) es h k = tt
line_onto w from (lines.Notice c id g slot) es h k = tt
line_onto w from (lines.Edge number k c fence) es h q = tt
line_onto w from (lines.EdgeAnswer number q floor last) es h k = tt
line_onto w from (lines.Join c k) es h q = tt
line_onto w from (lines.Part c k) es h q = tt
line_onto w from (lines.Delete r c) es h k = tt
line_onto w from (lines.DelAnswer r status info) es h k = tt
line_onto w from (lines.Gone c subs) es h k = tt
line_onto w from (lines.Info r c) es h k = tt
line_onto w from (lines.InfoAnswer r status info) es h k = tt

comes_onto : (w : ℕ) (incoming : Incoming) (es h : List Event) → ComesAsked w (own w h) incoming → ComesAsked w (own w (onto es h)) incoming
comes_onto w (TakesPacket from p) es h k = line_onto w from p.line es h k
comes_onto w (ClockReads t) es h k = tt
comes_onto w Reaps es h k = tt
comes_onto w (Posts c body) es h k = tt
comes_onto w (Subscribes k list start) es h q = tt
comes_onto w (Removes c) es h k = tt
comes_onto w (Informs c) es h k = tt

-- ---- a worker's step

none_at : (n : ℕ) (e : Event) → MakesUnasking e → event_at n e ≡ 0
none_at n (Made v to m (lines.Look number c after fence)) p = absurd p
none_at n (Made v to m (lines.Edge number k c fence)) p = absurd p
none_at n (Made v to m (lines.Publish r c len timeout ct body)) p = refl
none_at n (Made v to m (lines.PubAnswer r status info full)) p = refl
none_at n (Made v to m (lines.LookAnswer number q floor found g slot)) p = refl
none_at n (Made v to m (lines.Notice c id g slot)) p = refl
none_at n (Made v to m (lines.EdgeAnswer number q floor last)) p = refl
none_at n (Made v to m (lines.Join c k)) p = refl
none_at n (Made v to m (lines.Part c k)) p = refl
none_at n (Made v to m (lines.Delete r c)) p = refl
none_at n (Made v to m (lines.DelAnswer r status info)) p = refl
none_at n (Made v to m (lines.Gone c subs)) p = refl
none_at n (Made v to m (lines.Info r c)) p = refl
none_at n (Made v to m (lines.InfoAnswer r status info)) p = refl
none_at n e p = refl

none_count : (n : ℕ) (es : List Event) → AllByRecursion MakesUnasking es → total (event_at n) es ≡ 0
none_count n [] p = refl
none_count n (e ∷ es) p = let a = none_at n e p.0 in let b = none_count n es p.1 in omega (arith, a, b)

unmade_unasking : (e : Event) → IsUnmade e → MakesUnasking e
unmade_unasking (Made v to n a) p = absurd p
unmade_unasking e p = tt

worker_looks : (w x : ℕ) (asks : List Event) (e : Event) → IsOfWorker x e → IsAskedFor w asks e
worker_looks w x asks (Looked v q from n d a floor found) p = absurd p
worker_looks w x asks e p = tt

module _ (setup : Setup) (is : IsSetup setup) (x : ℕ) (incoming : Incoming) (h : List Event) (world : World) (g : Good setup h world) where
  abbrev es : List Event
  es = handled_events setup x incoming world

  opening_unasking : AllByRecursion MakesUnasking (before setup x incoming world)
  opening_unasking = by incoming
    where
      by : (i : Incoming) → AllByRecursion MakesUnasking (before setup x i world)
      by (TakesPacket from p) = (tt, tt)
      by (ClockReads t) = (tt, tt)
      by Reaps = tt
      by (Posts c body) = (tt, tt)
      by (Subscribes k list start) = (tt, tt)
      by (Removes c) = (tt, tt)
      by (Informs c) = (tt, tt)

  opening_looks : (w : ℕ) (asks : List Event) → AllByRecursion (IsAskedFor w asks) (before setup x incoming world)
  opening_looks w asks = by incoming
    where
      by : (i : Incoming) → AllByRecursion (IsAskedFor w asks) (before setup x i world)
      by (TakesPacket from p) = (tt, tt)
      by (ClockReads t) = (tt, tt)
      by Reaps = tt
      by (Posts c body) = (tt, tt)
      by (Subscribes k list start) = (tt, tt)
      by (Removes c) = (tt, tt)
      by (Informs c) = (tt, tt)

  -- the owner asks nobody
  pub owner_unasking : PartAlerts (λ (a : OutLine). IsUnasking a.line) (owns x incoming world)
  owner_unasking = part_alerts setup is x incoming h world g (λ (a : OutLine). IsUnasking a.line) (λ from p e. unasking_line (polls_of x incoming world).publish from p.line (holding x (seat x world))) (λ c subs to mine. tt)

  pub part_unasking : AllByRecursion MakesUnasking (part x incoming world)
  part_unasking = part_made setup is x incoming h world g MakesUnasking (λ (a : OutLine). IsUnasking a.line) (λ e p. unmade_unasking e (unmade_owner x e p)) (λ n a p. p) owner_unasking

  -- the numbers that were drawn
  count_step : (n : ℕ) (l : List Event) → times n (ask_numbers (onto (handled_events setup x incoming world) l)) ≡ times n (ask_numbers l) + total (deed_at n) (serves setup x incoming world).deeds
  count_step n l =
      let a = ap (λ (k : List Event). times n (ask_numbers k)) (handled_onto setup is x incoming h world g l) in
      let b = numbers_onto n (behind setup x incoming world) (onto (part x incoming world) (onto (before setup x incoming world) l)) in
      let c = numbers_onto n (part x incoming world) (onto (before setup x incoming world) l) in
      let d = numbers_onto n (before setup x incoming world) l in
      let e = none_count n (part x incoming world) part_unasking in
      let f = none_count n (before setup x incoming world) opening_unasking in
      let t = told_count n x (next_after (world.workers x).next (part x incoming world)) (serves setup x incoming world).deeds in
      omega (arith, a, b, c, d, e, f, t)

  -- the looks that were made
  part_looks : (w : ℕ) (asks : List Event) → ComesAsked w asks incoming → PartEvents (IsAskedFor w asks) (owns x incoming world)
  part_looks w asks comes = part_events setup is x incoming h world g (IsAskedFor w asks)
      (λ from p e. looks_line w asks (polls_of x incoming world).publish from p.line (holding x (seat x world)) (subst (ComesAsked w asks) e comes)) (looks_removed w asks setup.workers x) (λ slot. tt)

  looks_step : (w : ℕ) (asks : List Event) → ComesAsked w asks incoming → (l : List Event) → AreAsked w asks l → AreAsked w asks (onto (handled_events setup x incoming world) l)
  looks_step w asks comes l k =
      subst (AreAsked w asks) (sym (handled_onto setup is x incoming h world g l))
      (are_onto w asks (behind setup x incoming world) _ (behind_all setup is x incoming h world g (IsAskedFor w asks) (worker_looks w x asks) (λ to n a. tt))
      (are_onto w asks (part x incoming world) _
      (woven_part_all (IsAskedFor w asks) x (world.workers x).next (λ to n a. tt) (owns x incoming world) (part_looks w asks comes))
      (are_onto w asks (before setup x incoming world) l (opening_looks w asks) k)))

  module _ (k : AsksStand h world) (comes : (w : ℕ) → ComesAsked w (own w h) incoming) where
    drawn_after : (w : ℕ) → IsOnce ((handled setup x incoming world).workers w).desk.spools.next (λ n. times n (ask_numbers (own w (onto (handled_events setup x incoming world) h))))
    drawn_after = with_all (λ w (s : WorkerAt). IsOnce s.desk.spools.next (λ n. times n (ask_numbers (own w (onto (handled_events setup x incoming world) h))))) world.workers x
        (dealt_worker (handled_events setup x incoming world) (owns x incoming world) (serves setup x incoming world) (world.workers x)) here there
      where
        here : IsOnce (serves setup x incoming world).after.spools.next (λ n. times n (ask_numbers (own x (onto (handled_events setup x incoming world) h))))
        here = same_once (serves setup x incoming world).after.spools.next (λ n. times n (ask_numbers (own x h)) + total (deed_at n) (serves setup x incoming world).deeds) (λ n. times n (ask_numbers (own x (onto (handled_events setup x incoming world) h))))
            (λ n. ap (λ (l : List Event). times n (ask_numbers l)) (own_onto x (handled_events setup x incoming world) h (step_by setup is x incoming h world g)) ∙ count_step n (own x h))
            (served_draws x (λ n. times n (ask_numbers (own x h))) (world.workers x).desk setup incoming (k.drawn x))

        there : (z : ℕ) → (z == x) ≡ false → IsOnce (world.workers z).desk.spools.next (λ n. times n (ask_numbers (own z (onto (handled_events setup x incoming world) h))))
        there z other = same_once (world.workers z).desk.spools.next (λ n. times n (ask_numbers (own z h))) (λ n. times n (ask_numbers (own z (onto (handled_events setup x incoming world) h))))
            (λ n. ap (λ (l : List Event). times n (ask_numbers l)) (own_other z x (handled_events setup x incoming world) h other (step_by setup is x incoming h world g))) (k.drawn z)

    asked_after : (w o : ℕ) → AreAsked w (own w (onto (handled_events setup x incoming world) h)) (own o (onto (handled_events setup x incoming world) h))
    asked_after w o =
        let asks = own w (onto (handled_events setup x incoming world) h) in
        subst (AreAsked w (own w (onto (handled_events setup x incoming world) h))) (sym (own_step o x (handled_events setup x incoming world) h (step_by setup is x incoming h world g)))
        (by (o == x) (asks_onto w (handled_events setup x incoming world) h (own o h) (k.asked w o)))
      where
        by : (b : Bool) → AreAsked w (own w (onto (handled_events setup x incoming world) h)) (own o h) → AreAsked w (own w (onto (handled_events setup x incoming world) h)) (cond b (onto (handled_events setup x incoming world) (own o h)) (own o h))
        by true a = looks_step w (own w (onto (handled_events setup x incoming world) h)) (comes_onto w incoming (handled_events setup x incoming world) h (comes w)) (own o h) a
        by false a = a

    step_asks : AsksStand (onto (handled_events setup x incoming world) h) (handled setup x incoming world)
    step_asks = record { drawn = drawn_after; asked = asked_after }

-- ---- the theme

input_comes : (x : ℕ) (incoming : Incoming) (h : List Event) → IsInput x h incoming → (w : ℕ) → ComesAsked w (own w h) incoming
input_comes x (TakesPacket from p) h i w = absurd i
input_comes x (ClockReads t) h i w = tt
input_comes x Reaps h i w = tt
input_comes x (Posts c body) h i w = tt
input_comes x (Subscribes k list start) h i w = tt
input_comes x (Removes c) h i w = tt
input_comes x (Informs c) h i w = tt

next_comes : (w v x : ℕ) (line : AlertLine) (h : List Event) → IsNext v x line h → LineAsks w (own w h) v line
next_comes w v x (lines.Look number c after fence) h next = λ e. subst (λ (z : ℕ). HasAsk number c after (own z h)) e (next_asked v x number c after fence h next)
next_comes w v x (lines.Publish r c len timeout ct body) h next = tt
next_comes w v x (lines.PubAnswer r status info full) h next = tt
next_comes w v x (lines.LookAnswer number q floor found g slot) h next = tt
next_comes w v x (lines.Notice c id g slot) h next = tt
next_comes w v x (lines.Edge number k c fence) h next = tt
next_comes w v x (lines.EdgeAnswer number q floor last) h next = tt
next_comes w v x (lines.Join c k) h next = tt
next_comes w v x (lines.Part c k) h next = tt
next_comes w v x (lines.Delete r c) h next = tt
next_comes w v x (lines.DelAnswer r status info) h next = tt
next_comes w v x (lines.Gone c subs) h next = tt
next_comes w v x (lines.Info r c) h next = tt
next_comes w v x (lines.InfoAnswer r status info) h next = tt

-- the first packet of a ring is what its worker takes next
pub ring_next : (setup : Setup) (w v : ℕ) (p : Packet) (ps : List Packet) (h : List Event) (world : World) → Good setup h world → world.rings v w ≡ p ∷ ps → IsNext v w p.line h
ring_next setup w v p ps h world g at = ap first_line (first_pending setup w v p ps h world g at)

carried_asks : (w v : ℕ) (p : Packet) (ps : List Packet) (h : List Event) (world : World) → AsksStand h world → AsksStand h (carried_one w v p ps world)
carried_asks w v p ps h world k = record {
  drawn = with_all (λ x (s : WorkerAt). IsOnce s.desk.spools.next (λ n. times n (ask_numbers (own x h)))) world.workers w (record (world.workers w) { outbox = with_at (world.workers w).outbox v ps }) (k.drawn w) (λ x e. k.drawn x);
  asked = k.asked;
}

asks_theme : (setup : Setup) → IsSetup setup → IsWorldTheme setup AsksStand
asks_theme setup is = record {
  new = record { drawn = λ w. record { once = λ n. omega arith; below = λ n l. refl }; asked = λ w o. tt };
  handles = λ w incoming h world r g here i k. step_asks setup is w incoming h world g k (input_comes w incoming h i);
  takes = λ w v p ps h world r g here there at k. let s = step_asks setup is w (TakesPacket v p) h world g k (λ u. next_comes u v w p.line h (ring_next setup w v p ps h world g at)) in record { drawn = s.drawn; asked = s.asked };
  carries = λ w v p ps h world r g here there at k. carried_asks w v p ps h world k;
  pending = λ n h world r g same k. record { drawn = k.drawn; asked = k.asked };
  quiet = λ h world r g same k. record { drawn = k.drawn; asked = k.asked };
}

pub reached_asks : ReachedAsks
reached_asks setup h world is r = world_theme_holds setup AsksStand is (asks_theme setup is) h world r

pub reached_ask_well : ReachedAskWell
reached_ask_well setup h world is r w = let k = reached_asks setup h world is r in record { once = λ n. (k.drawn w).once n; asked = λ o. k.asked w o }
