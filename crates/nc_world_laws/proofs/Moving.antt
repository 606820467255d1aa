-- Each move keeps what is good.
use Rattle.std.proofs.Common.{◌≡◌, ℕ, zero, suc, ◌<◌, List, [], ◌∷◌, refl, sym, subst, arith}
use Rattle.std.specs.List.{AllByRecursion}
use Rattle.nc_journal.specs.History.{own, onto}
use Rattle.nc_journal.specs.declared.event.Event.{Event}
use Rattle.nc_journal.specs.declared.event.Event.TheVariants.{Took}
use Rattle.nc_owner_laws.proofs.OwnerSteps as steps
use Rattle.nc_owner_laws.proofs.InOrder as order
use Rattle.nc_owner_laws.proofs.HoldsKept as holding_laws
use Rattle.nc_owner_laws.proofs.OwnChannels.{new_owns}
use Rattle.nc_history.specs.Packets.{Packet, kind_of}
use Rattle.nc_worker_state.specs.Setup.{Setup}
use Rattle.nc_worker_state.specs.Incoming.{Incoming, TakesPacket, ClockReads, Reaps, Posts, Subscribes, Removes, Informs}
use Rattle.nc_world.specs.World.{World, new_world, handled_events, handled, pending_in}
use Rattle.nc_world.specs.Moves.{Move, Handles, Carries, Takes, Counts, Rests, counted, rested, taken_events, taken, move_events, moved, with_ring}
use Rattle.nc_world.specs.Reached.{IsSetup, IsInput, IsMove, Begins, Moves}
use Rattle.nc_world_laws.specs.Good.{Good, IsLineTo, AreLinesTo}
use Rattle.nc_world_laws.proofs.WorkerKinds.{IsUntaken}
use Rattle.nc_world_laws.specs.Outside.{IsOutside}
use Rattle.nc_world_laws.proofs.OwnerTheme.{IsOwnerTheme}
use Rattle.nc_world_laws.specs.Laws.{ReachedIsGood}
use Rattle.nc_world_laws.proofs.Local.{eqb_self, own_one}
use Rattle.nc_world_laws.proofs.Numbers.{AreNumbered}
use Rattle.nc_world_laws.proofs.Stepping.{IsRight, KeepsFact, keeps_steps, Themed}
use Rattle.nc_world_laws.proofs.Acting.{MakesRightly, ActsWell, acts}
use Rattle.nc_world_laws.proofs.Taking.{first_pending, took_good, carried_good}
use Rattle.nc_world_laws.proofs.Parts.{owns, serves, rest, rest_by, rest_untaken, rest_numbered, rest_right, step_by, step_themed}
use Rattle.nc_world_laws.proofs.Serving.{served_well}

-- what an owner stands for is a theme itself
pub keeps_theme : (setup : Setup) (me : ℕ) → IsOwnerTheme setup me (KeepsFact setup me)
keeps_theme setup me = record {
  new = record { stands = steps.new_stands me setup.workers setup.slots setup.first; ordered = order.new_in_order setup.first; new_answers = tt };
  step = λ next row counts h s base fact. keeps_steps setup me next row counts h s base;
}

-- the packet that a worker takes next keeps what it counts on
pub taken_right : (setup : Setup) (w v : ℕ) (p : Packet) (ps : List Packet) (h : List Event) (world : World) → Good setup h world → world.rings v w ≡ p ∷ ps → IsLineTo setup.workers v w p.line
taken_right setup w v p ps h world g is = (subst (AreLinesTo setup.workers v w) (first_pending setup w v p ps h world g is) (g.lines v w)).0

outside : (w : ℕ) (incoming : Incoming) (h : List Event) → IsInput w h incoming → IsOutside incoming
outside w (TakesPacket from p) h i = i
outside w (ClockReads t) h i = tt
outside w Reaps h i = tt
outside w (Posts c body) h i = tt
outside w (Subscribes k list start) h i = tt
outside w (Removes c) h i = tt
outside w (Informs c) h i = tt

module _ (setup : Setup) (is : IsSetup setup) where
  -- ---- a worker handles something

  module _ (w : ℕ) (incoming : Incoming) (h : List Event) (world : World) (g : Good setup h world) (right : IsRight setup w incoming) where
    owner_after : Themed setup w (KeepsFact setup w) (keeps_theme setup w) (owns w incoming world).last.after.row (owns w incoming world).last.after.counts (onto (handled_events setup w incoming world) (own w h)) (owns w incoming world).last.after.owner
    owner_after = step_themed setup is w incoming h world g (KeepsFact setup w) (keeps_theme setup w) right (g.keeps w)

    whole : AllByRecursion IsUntaken (handled_events setup w incoming world) → AreNumbered (world.workers w).next (handled_events setup w incoming world) → AllByRecursion (MakesRightly setup.workers) (handled_events setup w incoming world)
        → ActsWell setup w h world (handled_events setup w incoming world) (owns w incoming world) (serves setup w incoming world)
    whole untaken numbered rightly = record {
      by = step_by setup is w incoming h world g;
      untaken = untaken;
      numbered = numbered;
      right = rightly;
      keeps = owner_after.base.keeps;
      owns = owner_after.base.own;
      holds = owner_after.base.holds;
      knows = (served_well setup is w incoming (world.workers w).desk (g.knows w)).1;
    }

  input_acts : (w : ℕ) (incoming : Incoming) (h : List Event) (world : World) → Good setup h world → IsOutside incoming → ActsWell setup w h world (handled_events setup w incoming world) (owns w incoming world) (serves setup w incoming world)
  input_acts w (TakesPacket from p) h world g i = absurd i
  input_acts w (ClockReads t) h world g i = whole w (ClockReads t) h world g tt (tt, rest_untaken setup is w (ClockReads t) h world g) (rest_numbered setup is w (ClockReads t) h world g) (tt, rest_right setup is w (ClockReads t) h world g tt)
  input_acts w Reaps h world g i = whole w Reaps h world g tt (rest_untaken setup is w Reaps h world g) (rest_numbered setup is w Reaps h world g) (rest_right setup is w Reaps h world g tt)
  input_acts w (Posts c body) h world g i = whole w (Posts c body) h world g tt (tt, rest_untaken setup is w (Posts c body) h world g) (rest_numbered setup is w (Posts c body) h world g) (tt, rest_right setup is w (Posts c body) h world g tt)
  input_acts w (Subscribes k list start) h world g i = whole w (Subscribes k list start) h world g tt (tt, rest_untaken setup is w (Subscribes k list start) h world g) (rest_numbered setup is w (Subscribes k list start) h world g) (tt, rest_right setup is w (Subscribes k list start) h world g tt)
  input_acts w (Removes c) h world g i = whole w (Removes c) h world g tt (tt, rest_untaken setup is w (Removes c) h world g) (rest_numbered setup is w (Removes c) h world g) (tt, rest_right setup is w (Removes c) h world g tt)
  input_acts w (Informs c) h world g i = whole w (Informs c) h world g tt (tt, rest_untaken setup is w (Informs c) h world g) (rest_numbered setup is w (Informs c) h world g) (tt, rest_right setup is w (Informs c) h world g tt)

  -- so what comes from outside keeps what is good, whatever it is
  pub outside_good : (w : ℕ) (incoming : Incoming) (h : List Event) (world : World) → Good setup h world → IsOutside incoming → Good setup (onto (handled_events setup w incoming world) h) (handled setup w incoming world)
  outside_good w incoming h world g o = acts setup w h world (handled_events setup w incoming world) (owns w incoming world) (serves setup w incoming world) g (input_acts w incoming h world g o)

  -- a worker takes a packet: behind the event that tells it
  packet_acts : (w v : ℕ) (p : Packet) (ps : List Packet) (h : List Event) (world : World) → v < setup.workers → world.rings v w ≡ p ∷ ps → Good setup h world
      → ActsWell setup w (Took w v p.number (kind_of p.line) ∷ h) (with_ring v w ps world) (rest setup w (TakesPacket v p) world) (owns w (TakesPacket v p) world) (serves setup w (TakesPacket v p) world)
  packet_acts w v p ps h world there at g =
      let took = Took w v p.number (kind_of p.line) in
      let new = took_good setup w v p ps h world g at in
      let ring = with_ring v w ps world in
      let right : IsRight setup w (TakesPacket v p) = (there, taken_right setup w v p ps h world g at) in
      let owner = owner_after w (TakesPacket v p) h world g right in
      record {
        by = rest_by setup is w (TakesPacket v p) (took ∷ h) ring new;
        untaken = rest_untaken setup is w (TakesPacket v p) (took ∷ h) ring new;
        numbered = rest_numbered setup is w (TakesPacket v p) (took ∷ h) ring new;
        right = rest_right setup is w (TakesPacket v p) (took ∷ h) ring new right;
        keeps = subst (λ (l : List Event). KeepsFact setup w (owns w (TakesPacket v p) world).last.after.row (onto (rest setup w (TakesPacket v p) world) l) (owns w (TakesPacket v p) world).last.after.owner)
            (sym (own_one w took h (eqb_self w))) owner.base.keeps;
        owns = owner.base.own;
        holds = owner.base.holds;
        knows = (served_well setup is w (TakesPacket v p) (world.workers w).desk (g.knows w)).1;
      }

  -- ---- the kinds of move

  taken_good : (w v : ℕ) (ring : List Packet) (h : List Event) (world : World) → v < setup.workers → world.rings v w ≡ ring → Good setup h world → Good setup (onto (taken_events setup w v ring world) h) (taken setup w v ring world)
  taken_good w v [] h world there at g = g
  taken_good w v (p ∷ ps) h world there at g =
      acts setup w (Took w v p.number (kind_of p.line) ∷ h) (with_ring v w ps world) (rest setup w (TakesPacket v p) world) (owns w (TakesPacket v p) world) (serves setup w (TakesPacket v p) world)
      (took_good setup w v p ps h world g at) (packet_acts w v p ps h world there at g)

  counts_good : (n : ℕ) (h : List Event) (world : World) → Good setup h world → Good setup (onto (counted n) h) world
  counts_good zero h world g = record { queues = g.queues; posted = (g.posted, tt); follow = g.follow; lines = g.lines; keeps = g.keeps; owns = g.owns; holds = g.holds; knows = g.knows }
  counts_good (suc n) h world g = record { queues = g.queues; posted = (g.posted, tt); follow = g.follow; lines = g.lines; keeps = g.keeps; owns = g.owns; holds = g.holds; knows = g.knows }

  rests_good : (n : ℕ) (h : List Event) (world : World) → Good setup h world → Good setup (onto (rested n) h) world
  rests_good zero h world g = record { queues = g.queues; posted = (g.posted, tt); follow = g.follow; lines = g.lines; keeps = g.keeps; owns = g.owns; holds = g.holds; knows = g.knows }
  rests_good (suc n) h world g = g

  pub move_good : (m : Move) (h : List Event) (world : World) → Good setup h world → IsMove setup h m → Good setup (onto (move_events setup m world) h) (moved setup m world)
  move_good (Handles w incoming) h world g i = outside_good w incoming h world g (outside w incoming h i.1)
  move_good (Carries w v) h world g i = carried_good setup w v ((world.workers w).outbox v) h world refl g
  move_good (Takes w v) h world g i = taken_good w v (world.rings v w) h world i.1 refl g
  move_good Counts h world g i = counts_good (pending_in setup world) h world g
  move_good Rests h world g i = rests_good (pending_in setup world) h world g

  pub new_good : Good setup [] (new_world setup)
  new_good = record {
    queues = λ v w. refl;
    posted = tt;
    follow = λ v to. omega arith;
    lines = λ v w. tt;
    keeps = λ v. (keeps_theme setup v).new;
    owns = λ v. new_owns v setup.workers setup.slots setup.first;
    holds = λ v. holding_laws.new_holds_fit setup.slots;
    knows = λ v. refl;
  }

pub reached_is_good : ReachedIsGood
reached_is_good setup h world is Begins = new_good setup is
reached_is_good setup h world is (Moves before world' m r i) = move_good setup is m before world' (reached_is_good setup before world' is r) i
