-- In each reached world each place of each spool holds.
use Rattle.std.proofs.Common.{◌≡◌, ℕ, suc, ◌<◌, Bool, true, false, cond, List, [], ◌∷◌, ◌++◌, refl, subst}
use Rattle.std.specs.Prelude.{◌==◌}
use Rattle.std.specs.List.{AllByRecursion}
use Rattle.nc_journal.specs.History.{own, onto}
use Rattle.nc_journal.specs.declared.event.Event.{Event}
use Rattle.nc_journal.specs.declared.event.Event.TheVariants.{Made, Pending, Quiet}
use Rattle.nc_journal.specs.declared.alert.AlertLine.{AlertLine}
use Rattle.nc_spool_state.specs.Spool.{SpoolAt}
use Rattle.nc_spool_laws.specs.Keys.{SpoolFits}
use Rattle.nc_spool_laws.specs.Order.{AreAscending}
use Rattle.nc_spool_laws.specs.Resting.{AllRest}
use Rattle.nc_spool_laws.specs.Attended.{IsWhole}
use Rattle.nc_spool_laws.proofs.Lists.{all-changed}
use Rattle.nc_history.specs.Packets.{Packet}
use Rattle.nc_worker_state.specs.Setup.{Setup}
use Rattle.nc_worker_state.specs.Incoming.{Incoming, TakesPacket, ClockReads, Reaps, Posts, Subscribes, Removes, Informs}
use Rattle.nc_worker_state.specs.Worker.{WorkerAt, with_at, dealt_worker}
use Rattle.nc_world.specs.World.{World, handled_events, handled}
use Rattle.nc_world.specs.Moves.{Handles, Takes, carried_one, with_ring, taken_events, taken}
use Rattle.nc_world.specs.Reached.{IsSetup, IsInput, Reached, Moves}
use Rattle.nc_world_laws.specs.Good.{Good}
use Rattle.nc_world_laws.proofs.WorkerKinds.{IsBy}
use Rattle.nc_world_laws.proofs.WorldTheme.{IsWorldTheme}
use Rattle.nc_world_laws.proofs.Local.{all_of, all_append}
use Rattle.nc_world_laws.proofs.Acting.{with_all}
use Rattle.nc_world_laws.proofs.Moving.{taken_right}
use Rattle.nc_world_laws.proofs.Parts.{owns, serves, step_by}
use Rattle.nc_world_laws.proofs.Taking.{first_pending}
use Rattle.nc_world_laws.proofs.WorldThemes.{world_theme_holds}
use Rattle.nc_world_holds.specs.Balance.{AreWhole}
use Rattle.nc_world_holds.proofs.Holding.{reached_holds}
use Rattle.nc_world_members.proofs.Moving.{reached_has_members}
use Rattle.nc_rests.specs.Asking.{AsksWell}
use Rattle.nc_rests.proofs.Received.{of_next}
use Rattle.nc_owner_laws.specs.Wake.{made_to}
use Rattle.nc_world_told.specs.Known.{PlacesHold, SpoolKnows}
use Rattle.nc_world_told.proofs.Staying.{all_both}
use Rattle.nc_world_asks.proofs.Reaching.{ring_next, reached_ask_well}
use Rattle.nc_world_places.specs.Notices.{IsNoticeOf, MakesNoticeOf}
use Rattle.nc_world_places.specs.Places.{shelf_at, HasPlaces, ReachedHasPlaces, ReachedSpoolsKnow}
use Rattle.nc_world_places.proofs.Noticed.{reached_owners_notice}
use Rattle.nc_world_places.proofs.Telling.{reached_owners_tell}
use Rattle.nc_world_places.proofs.Framing.{other_none, TakesNone, shelf_onto}
use Rattle.nc_world_places.proofs.Shaping.{IsShaped, served_shaped}
use Rattle.nc_world_places.proofs.Stepping.{Comes, own_places}

-- ---- what is made for a worker by an owner

made_one : (P : AlertLine → Type 0) (b : Bool) (xs : List AlertLine) (a : AlertLine) → P a → AllByRecursion P xs → AllByRecursion P (cond b (xs ++ a ∷ []) xs)
made_one P true xs a p k = all_append P xs (a ∷ []) k (p, tt)
made_one P false xs a p k = k

pub made_notices : (workers v w : ℕ) (l : List Event) → AllByRecursion (MakesNoticeOf workers v) l → AllByRecursion (IsNoticeOf workers v) (made_to w l)
made_notices workers v w [] k = tt
made_notices workers v w (Made x to n a ∷ l) k = made_one (IsNoticeOf workers v) (to == w) (made_to w l) a k.0 (made_notices workers v w l k.1)
made_notices workers v w (e ∷ l) k = made_notices workers v w l k.1

-- ---- a worker's step

module _ (setup : Setup) (is : IsSetup setup) (x : ℕ) (incoming : Incoming) (h : List Event) (world : World) (r : Reached setup h world) (g : Good setup h world) (k : HasPlaces setup.workers h world)
    (comes : Comes setup is x h world g (reached_owners_tell setup h world is r) (reached_ask_well setup h world is r x) ((reached_has_members setup h world is r).singly x) (record { whole = k.whole x; order = k.order x; rest = k.rest x }) (k.holds x) incoming)
    (new : AsksWell x (onto (handled_events setup x incoming world) h)) where
  shaped : IsShaped (world.workers x).desk.spools.shelf
  shaped = record { whole = k.whole x; order = k.order x; rest = k.rest x }

  abbrev left : WorkerAt
  left = dealt_worker (handled_events setup x incoming world) (owns x incoming world) (serves setup x incoming world) (world.workers x)

  now_shaped : IsShaped (serves setup x incoming world).after.spools.shelf
  now_shaped = served_shaped x (world.workers x).desk shaped setup incoming

  step_places : HasPlaces setup.workers (onto (handled_events setup x incoming world) h) (handled setup x incoming world)
  step_places = record {
    holds = with_all (λ w (s : WorkerAt). AllByRecursion (PlacesHold setup.workers w (onto (handled_events setup x incoming world) h)) s.desk.spools.shelf) world.workers x left
        (own_places setup is x h world g (reached_owners_tell setup h world is r) (reached_ask_well setup h world is r x) ((reached_has_members setup h world is r).singly x) (record { whole = k.whole x; order = k.order x; rest = k.rest x }) (k.holds x) incoming comes new)
        (λ w other. shelf_onto setup.workers w (handled_events setup x incoming world) h (world.workers w).desk.spools.shelf (all_of (IsBy x) (TakesNone w) (λ e by. other_none w x e other by) (handled_events setup x incoming world) (step_by setup is x incoming h world g)) (k.holds w));
    whole = with_all (λ w (s : WorkerAt). AllByRecursion IsWhole s.desk.spools.shelf) world.workers x left now_shaped.whole (λ w other. k.whole w);
    order = with_all (λ w (s : WorkerAt). AreAscending s.desk.spools.shelf) world.workers x left now_shaped.order (λ w other. k.order w);
    rest = with_all (λ w (s : WorkerAt). AllRest s.desk.spools.shelf) world.workers x left now_shaped.rest (λ w other. k.rest w);
  }

-- ---- the theme

module _ (setup : Setup) (is : IsSetup setup) where
  handles_places : (w : ℕ) (incoming : Incoming) (h : List Event) (world : World) → Reached setup h world → Good setup h world → w < setup.workers → IsInput w h incoming → HasPlaces setup.workers h world
      → HasPlaces setup.workers (onto (handled_events setup w incoming world) h) (handled setup w incoming world)
  handles_places w incoming h world r g here i k = step_places setup is w incoming h world r g k (by incoming i) (reached_ask_well setup _ _ is (Moves h world (Handles w incoming) r (here, i)) w)
    where
      by : (c : Incoming) → IsInput w h c → Comes setup is w h world g (reached_owners_tell setup h world is r) (reached_ask_well setup h world is r w) ((reached_has_members setup h world is r).singly w) (record { whole = k.whole w; order = k.order w; rest = k.rest w }) (k.holds w) c
      by (TakesPacket from p) q = absurd q
      by (ClockReads t) q = tt
      by Reaps q = tt
      by (Posts c body) q = tt
      by (Subscribes n list start) q = tt
      by (Removes c) q = tt
      by (Informs c) q = tt

  taken_reached : (w v : ℕ) (p : Packet) (ps ring : List Packet) (h : List Event) (world : World) → ring ≡ p ∷ ps → Reached setup (onto (taken_events setup w v ring world) h) (taken setup w v ring world)
      → Reached setup (onto (handled_events setup w (TakesPacket v p) world) h) (handled setup w (TakesPacket v p) (with_ring v w ps world))
  taken_reached w v p ps ring h world at q = subst (λ (l : List Packet). Reached setup (onto (taken_events setup w v l world) h) (taken setup w v l world)) at q

  takes_places : (w v : ℕ) (p : Packet) (ps : List Packet) (h : List Event) (world : World) → Reached setup h world → Good setup h world → w < setup.workers → v < setup.workers → world.rings v w ≡ p ∷ ps → HasPlaces setup.workers h world
      → HasPlaces setup.workers (onto (handled_events setup w (TakesPacket v p) world) h) (handled setup w (TakesPacket v p) (with_ring v w ps world))
  takes_places w v p ps h world r g here there at k =
      let first = ring_next setup w v p ps h world g at in
      let step = step_places setup is w (TakesPacket v p) h world r g k (
        first,
        taken_right setup w v p ps h world g at,
        (subst AreWhole (first_pending setup w v p ps h world g at) ((reached_holds setup h world is r).whole v w)).0,
        of_next (IsNoticeOf setup.workers v) v w p.line h (made_notices setup.workers v w (own v h) (reached_owners_notice setup h world is r v)) first,
      )
      (reached_ask_well setup _ _ is (taken_reached w v p ps (world.rings v w) h world at (Moves h world (Takes w v) r (here, there))) w) in
      record { holds = step.holds; whole = step.whole; order = step.order; rest = step.rest }

  carries_places : (w v : ℕ) (p : Packet) (ps : List Packet) (h : List Event) (world : World) → HasPlaces setup.workers h world → HasPlaces setup.workers h (carried_one w v p ps world)
  carries_places w v p ps h world k =
      let left = record (world.workers w) { outbox = with_at (world.workers w).outbox v ps } in
      record {
        holds = with_all (λ y (s : WorkerAt). AllByRecursion (PlacesHold setup.workers y h) s.desk.spools.shelf) world.workers w left (k.holds w) (λ y e. k.holds y);
        whole = with_all (λ y (s : WorkerAt). AllByRecursion IsWhole s.desk.spools.shelf) world.workers w left (k.whole w) (λ y e. k.whole y);
        order = with_all (λ y (s : WorkerAt). AreAscending s.desk.spools.shelf) world.workers w left (k.order w) (λ y e. k.order y);
        rest = with_all (λ y (s : WorkerAt). AllRest s.desk.spools.shelf) world.workers w left (k.rest w) (λ y e. k.rest y);
      }

  told_places : (e : Event) (h : List Event) (world : World) → ((w : ℕ) → TakesNone w e) → HasPlaces setup.workers h world → HasPlaces setup.workers (e ∷ h) world
  told_places e h world none k = record { holds = λ w. shelf_onto setup.workers w (e ∷ []) h (world.workers w).desk.spools.shelf (none w, tt) (k.holds w); whole = k.whole; order = k.order; rest = k.rest }

  places_theme : IsWorldTheme setup (HasPlaces setup.workers)
  places_theme = record {
    new = record { holds = λ w. tt; whole = λ w. tt; order = λ w. tt; rest = λ w. tt };
    handles = handles_places;
    takes = takes_places;
    carries = λ w v p ps h world r g here there at k. carries_places w v p ps h world k;
    pending = λ n h world r g same k. told_places (Pending (suc n)) h world (λ w o. refl) k;
    quiet = λ h world r g same k. told_places Quiet h world (λ w o. refl) k;
  }

pub reached_has_places : ReachedHasPlaces
reached_has_places setup h world is r = world_theme_holds setup (HasPlaces setup.workers) is (places_theme setup is) h world r

pub reached_spools_know : ReachedSpoolsKnow
reached_spools_know setup h world is r w =
    let k = reached_has_places setup h world is r in
    let fit = ((reached_has_members setup h world is r).singly w).fit.0 in
    all-changed (λ (s : SpoolAt). PlacesHold setup.workers w h s × (IsWhole s × SpoolFits s)) (λ (s : SpoolAt). SpoolKnows setup.workers w s h) (shelf_at world w)
    (λ s q. record { distinct = q.1.1.distinct; each = q.1.0; tags = q.1.1.tags; knows = q.0 })
    (all_both (PlacesHold setup.workers w h) (λ (s : SpoolAt). IsWhole s × SpoolFits s) (shelf_at world w) (k.holds w) (all_both IsWhole SpoolFits (shelf_at world w) (k.whole w) fit))
