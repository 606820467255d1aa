-- A theme of owners holds in each reached world.
use Rattle.std.proofs.Common.{◌≡◌, ℕ, zero, suc, ◌<◌, Bool, true, false, cond, List, [], ◌∷◌, refl, sym, subst, length}
use Rattle.std.specs.Prelude.{◌==◌, nat_lt}
use Rattle.nc_journal.specs.History.{own, onto}
use Rattle.nc_journal.specs.declared.event.Event.{Event}
use Rattle.nc_history.specs.Packets.{Packet}
use Rattle.nc_worker_state.specs.Setup.{Setup}
use Rattle.nc_worker_state.specs.Incoming.{Incoming, TakesPacket, ClockReads, Reaps, Posts, Subscribes, Removes, Informs}
use Rattle.nc_worker_state.specs.Worker.{with_at, dealt_worker}
use Rattle.nc_world.specs.World.{World, handled_events, handled, pending_in}
use Rattle.nc_world.specs.Moves.{Move, Handles, Carries, Takes, Counts, Rests, counted, rested, taken_events, taken, carried, carried_one, ring_size, move_events, moved}
use Rattle.nc_world.specs.Reached.{IsSetup, IsInput, IsMove, Reached, Begins, Moves}
use Rattle.nc_world_laws.specs.Good.{Good}
use Rattle.nc_world_laws.proofs.OwnerTheme.{OwnerFact, IsOwnerTheme, OwnerThemeHolds}
use Rattle.nc_world_laws.proofs.Local.{eq_of, either, own_onto, own_other}
use Rattle.nc_world_laws.proofs.Stepping.{IsRight}
use Rattle.nc_world_laws.proofs.Parts.{owns, serves, step_by, step_themed}
use Rattle.nc_world_laws.proofs.Moving.{taken_right, reached_is_good}

-- what comes from outside keeps all
pub input_right : (setup : Setup) (w : ℕ) (h : List Event) (incoming : Incoming) → IsInput w h incoming → IsRight setup w incoming
input_right setup w h (TakesPacket from p) i = absurd i
input_right setup w h (ClockReads t) i = tt
input_right setup w h Reaps i = tt
input_right setup w h (Posts c body) i = tt
input_right setup w h (Subscribes k list start) i = tt
input_right setup w h (Removes c) i = tt
input_right setup w h (Informs c) i = tt

module _ (setup : Setup) (is : IsSetup setup) (me : ℕ) (P : OwnerFact) (theme : IsOwnerTheme setup me P) where
  abbrev Here : List Event → World → Type 0
  Here h world = P (world.rows me) (own me h) (world.workers me).owner

  -- the worker itself
  mine : (w : ℕ) (incoming : Incoming) (h : List Event) (world : World) → Good setup h world → IsRight setup w incoming → me ≡ w → Here h world
      → P (owns w incoming world).last.after.row (own me (onto (handled_events setup w incoming world) h)) (owns w incoming world).last.after.owner
  mine w incoming h world g right e p =
      let mine_right = subst (λ (x : ℕ). IsRight setup x incoming) (sym e) right in
      let t = step_themed setup is me incoming h world g P theme mine_right p in
      subst (λ (x : ℕ). P (owns x incoming world).last.after.row (own me (onto (handled_events setup x incoming world) h)) (owns x incoming world).last.after.owner) e
      (subst (λ (l : List Event). P (owns me incoming world).last.after.row l (owns me incoming world).last.after.owner) (sym (own_onto me (handled_events setup me incoming world) h (step_by setup is me incoming h world g))) t.fact)

  handled_here : (w : ℕ) (incoming : Incoming) (h : List Event) (world : World) → Good setup h world → IsRight setup w incoming → Here h world → Here (onto (handled_events setup w incoming world) h) (handled setup w incoming world)
  handled_here w incoming h world g right p = by (me == w) refl
    where
      by : (b : Bool) → (me == w) ≡ b → P (cond b (owns w incoming world).last.after.row (world.rows me)) (own me (onto (handled_events setup w incoming world) h))
          (cond b (dealt_worker (handled_events setup w incoming world) (owns w incoming world) (serves setup w incoming world) (world.workers w)) (world.workers me)).owner
      by true e = mine w incoming h world g right (eq_of me w e) p
      by false e = subst (λ (l : List Event). P (world.rows me) l (world.workers me).owner) (sym (own_other me w (handled_events setup w incoming world) h e (step_by setup is w incoming h world g))) p

  taken_here : (w v : ℕ) (ring : List Packet) (h : List Event) (world : World) → v < setup.workers → world.rings v w ≡ ring → Good setup h world → Here h world → Here (onto (taken_events setup w v ring world) h) (taken setup w v ring world)
  taken_here w v [] h world there at g p = p
  taken_here w v (q ∷ ps) h world there at g p = handled_here w (TakesPacket v q) h world g (there, taken_right setup w v q ps h world g at) p

  carried_here : (w v : ℕ) (outbox : List Packet) (h : List Event) (world : World) → Here h world → Here h (carried w v outbox world)
  carried_here w v [] h world p = p
  carried_here w v (q ∷ ps) h world p = either (Here h) (nat_lt (length (world.rings w v)) ring_size) (carried_one w v q ps world) world (by (me == w) refl) p
    where
      by : (b : Bool) → (me == w) ≡ b → P (world.rows me) (own me h) (cond b (record (world.workers w) { outbox = with_at (world.workers w).outbox v ps }) (world.workers me)).owner
      by true e = subst (λ (x : ℕ). P (world.rows me) (own me h) (world.workers x).owner) (eq_of me w e) p
      by false e = p

  counts_here : (n : ℕ) (h : List Event) (world : World) → Here h world → Here (onto (counted n) h) world
  counts_here zero h world p = p
  counts_here (suc n) h world p = p

  rests_here : (n : ℕ) (h : List Event) (world : World) → Here h world → Here (onto (rested n) h) world
  rests_here zero h world p = p
  rests_here (suc n) h world p = p

  move_here : (m : Move) (h : List Event) (world : World) → Good setup h world → IsMove setup h m → Here h world → Here (onto (move_events setup m world) h) (moved setup m world)
  move_here (Handles w incoming) h world g i p = handled_here w incoming h world g (input_right setup w h incoming i.1) p
  move_here (Carries w v) h world g i p = carried_here w v ((world.workers w).outbox v) h world p
  move_here (Takes w v) h world g i p = taken_here w v (world.rings v w) h world i.1 refl g p
  move_here Counts h world g i p = counts_here (pending_in setup world) h world p
  move_here Rests h world g i p = rests_here (pending_in setup world) h world p

  pub theme_holds : (h : List Event) (world : World) → Reached setup h world → Here h world
  theme_holds h world Begins = theme.new
  theme_holds h world (Moves before world' m r i) = move_here m before world' (reached_is_good setup before world' is r) i (theme_holds before world' r)

pub owner_theme_holds : (setup : Setup) (me : ℕ) (P : OwnerFact) → OwnerThemeHolds setup me P
owner_theme_holds setup me P is theme h world r = theme_holds setup is me P theme h world r
