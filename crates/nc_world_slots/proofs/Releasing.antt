-- A hold is released by the worker that it was granted to, which took the alert that carries it.
use Rattle.std.proofs.Common.{◌≡◌, ◌⊎◌, inl, inr, ℕ, zero, suc, ◌+◌, ◌<◌, Bool, true, false, cond, List, [], ◌∷◌, ◌++◌, refl, sym, ap, subst, arith}
use Rattle.std.specs.Prelude.{◌==◌}
use Rattle.std.specs.List.{AllByRecursion}
use Rattle.nc_journal.specs.History.{onto, Along}
use Rattle.nc_journal.specs.Holding.{WasTaken}
use Rattle.nc_journal.specs.declared.event.Event.{Event}
use Rattle.nc_journal.specs.declared.event.Event.TheVariants.{Stored, Granted, Freed, Released, Took}
use Rattle.nc_owner_laws.specs.Kinds.{IsOfOwner}
use Rattle.nc_owner_laws.specs.SlotRule.{OwnersSlots}
use Rattle.nc_history.specs.Packets.{Packet, kind_of, pending, lines_of}
use Rattle.nc_worker_state.specs.Setup.{Setup}
use Rattle.nc_worker_state.specs.Incoming.{Incoming, TakesPacket, ClockReads, Reaps, Posts, Subscribes, Removes, Informs}
use Rattle.nc_worker_state.specs.Deed.{next_after}
use Rattle.nc_worker_state.specs.Worker.{WorkerAt, with_at, dealt_worker}
use Rattle.nc_world.specs.World.{World, handled_events}
use Rattle.nc_world.specs.Moves.{carried_one}
use Rattle.nc_world.specs.Reached.{IsSetup, IsInput, Reached}
use Rattle.nc_world_laws.specs.Good.{Good}
use Rattle.nc_world_laws.proofs.WorkerKinds.{IsBy}
use Rattle.nc_world_laws.proofs.WorldTheme.{WorldFact, IsWorldTheme}
use Rattle.nc_world_laws.proofs.Local.{eqb_self, eq_of}
use Rattle.nc_world_laws.proofs.Telling.{by_worker}
use Rattle.nc_world_laws.proofs.Taking.{first_pending}
use Rattle.nc_world_laws.proofs.Parts.{owns, serves, before, part, behind, part_all, behind_all}
use Rattle.nc_world_laws.proofs.Frames.{handled_onto}
use Rattle.nc_world_laws.proofs.WorldThemes.{world_theme_holds}
use Rattle.nc_world_holds.specs.Balance.{released_by, carries, carried_by, kept_by, brought, IsWholeLine, IsWholeIncoming, AreWhole}
use Rattle.nc_world_holds.proofs.Serving.{served_balances}
use Rattle.nc_world_holds.proofs.Holding.{reached_holds}
use Rattle.nc_world_owners.specs.Pairs.{DrawnAt}
use Rattle.nc_world_owners.proofs.ReachedHistories.{histories_take_slots, grants_are_drawn_once}
use Rattle.nc_world_slots.specs.Points.{FreedAt, ReleasedAt, HoldsAreReleased, HeldAt, HistoriesHold}
use Rattle.nc_world_slots.proofs.Carried.{exact, was_granted, IsHeldOnce, held_one, held_onto, taken_onto, carries_hold, WasMade, pending_made, IsReleaseOf, releases_are}
use Rattle.nc_world_slots.proofs.Freeing.{slots_are_freed}
use Rattle.nc_world_slots.proofs.Once.{OnceAt, released_once}

-- a hold is released that was granted to the worker, and taken by it
abbrev pub TakenAt : List Event → Event → Type 0
TakenAt h (Released w o g slot) = IsHeldOnce o g slot w h
TakenAt h _ = Unit {0}

-- what a worker keeps was taken
abbrev pub KeptTaken : List Event → (ℕ → WorkerAt) → Type 0
KeptTaken h workers = (x o g slot : ℕ) → 0 < kept_by (exact g slot) o (workers x).desk.spools.kept → WasTaken o g slot x h

abbrev IsUnreleased : Event → Type 0
IsUnreleased (Released w o g slot) = ⊥
IsUnreleased _ = Unit {0}

unreleased_owner : (w : ℕ) (e : Event) → IsOfOwner w e → IsUnreleased e
unreleased_owner w (Released v o g slot) p = absurd p
unreleased_owner w e p = tt

unreleased_along : (es h : List Event) → AllByRecursion IsUnreleased es → Along TakenAt h → Along TakenAt (onto es h)
unreleased_along [] h u a = a
unreleased_along (Released w o g slot ∷ es) h u a = absurd u.0
unreleased_along (e ∷ es) h u a = unreleased_along es (e ∷ h) u.1 (a, tt)

-- a worker released what it had at an earlier moment
released_along : (w : ℕ) (X : ℕ → ℕ → ℕ → Type 0) (es h : List Event) → ((o g slot : ℕ) → X o g slot → IsHeldOnce o g slot w h) → AllByRecursion (IsReleaseOf w X) es → Along TakenAt h → Along TakenAt (onto es h)
released_along w X [] h f r a = a
released_along w X (Released v o g slot ∷ es) h f r a =
    released_along w X es (Released v o g slot ∷ h) (λ p n s x. held_one p n s w (Released v o g slot) h (f p n s x)) r.1
    (a, subst (λ (z : ℕ). IsHeldOnce o g slot z h) (sym r.0.0) (f o g slot r.0.1))
released_along w X (e ∷ es) h f r a = released_along w X es (e ∷ h) (λ o g slot x. held_one o g slot w e h (f o g slot x)) r.1 (a, tt)

-- ---- a worker's step

module _ (setup : Setup) (is : IsSetup setup) (w : ℕ) (incoming : Incoming) (h : List Event) (world : World) (g : Good setup h world) (whole : IsWholeIncoming incoming) where
  abbrev opened : List Event
  opened = onto (before setup w incoming world) h

  abbrev owned : List Event
  owned = onto (part w incoming world) opened

  -- the holds that it has once it was opened
  abbrev pub HasThem : Type 0
  HasThem = (o n slot : ℕ) → 0 < brought (exact n slot) o incoming + kept_by (exact n slot) o (world.workers w).desk.spools.kept → IsHeldOnce o n slot w opened

  abbrev kept_after : ℕ → ℕ → ℕ → ℕ
  kept_after o n slot = kept_by (exact n slot) o (serves setup w incoming world).after.spools.kept

  served_all : (o n slot : ℕ) → released_by (exact n slot) o w (onto (behind setup w incoming world) []) + kept_after o n slot ≡ brought (exact n slot) o incoming + kept_by (exact n slot) o (world.workers w).desk.spools.kept
  served_all o n slot = omega (arith, served_balances (exact n slot) setup o w incoming (next_after (world.workers w).next (part w incoming world)) (world.workers w).desk [] whole)

  opening_unreleased : (i : Incoming) → AllByRecursion IsUnreleased (before setup w i world)
  opening_unreleased (TakesPacket from p) = (tt, tt)
  opening_unreleased (ClockReads t) = (tt, tt)
  opening_unreleased Reaps = tt
  opening_unreleased (Posts c body) = (tt, tt)
  opening_unreleased (Subscribes k list start) = (tt, tt)
  opening_unreleased (Removes c) = (tt, tt)
  opening_unreleased (Informs c) = (tt, tt)

  pub step_taken : HasThem → Along TakenAt h → Along TakenAt (onto (handled_events setup w incoming world) h)
  step_taken has a =
      subst (Along TakenAt) (sym (handled_onto setup is w incoming h world g h))
      (released_along w (λ o n slot. IsHeldOnce o n slot w opened) (behind setup w incoming world) owned
      (λ o n slot x. held_onto o n slot w (part w incoming world) opened x)
      (releases_are w (λ o n slot. IsHeldOnce o n slot w opened) (behind setup w incoming world) [] (behind_all setup is w incoming h world g (IsBy w) (by_worker w) (λ to n l. eqb_self w))
      (λ o n slot lt. has o n slot (omega (arith, lt, served_all o n slot))))
      (unreleased_along (part w incoming world) opened (part_all setup is w incoming h world g IsUnreleased (unreleased_owner w) (λ to n l. tt))
      (unreleased_along (before setup w incoming world) h (opening_unreleased incoming) a)))

  pub step_kept : HasThem → KeptTaken h world.workers → KeptTaken (onto (handled_events setup w incoming world) h) (with_at world.workers w (dealt_worker (handled_events setup w incoming world) (owns w incoming world) (serves setup w incoming world) (world.workers w)))
  step_kept has k x o n slot lt = by (x == w) refl lt
    where
      here : 0 < kept_after o n slot → WasTaken o n slot w (onto (handled_events setup w incoming world) h)
      here more = subst (WasTaken o n slot w) (sym (handled_onto setup is w incoming h world g h))
          (taken_onto o n slot w (behind setup w incoming world) owned (taken_onto o n slot w (part w incoming world) opened (has o n slot (omega (arith, more, served_all o n slot))).taken))

      by : (b : Bool) → (x == w) ≡ b → 0 < kept_by (exact n slot) o (cond b (dealt_worker (handled_events setup w incoming world) (owns w incoming world) (serves setup w incoming world) (world.workers w)) (world.workers x)).desk.spools.kept
          → WasTaken o n slot x (onto (handled_events setup w incoming world) h)
      by true e more = subst (λ (z : ℕ). WasTaken o n slot z (onto (handled_events setup w incoming world) h)) (sym (eq_of x w e)) (here more)
      by false e more = taken_onto o n slot x (handled_events setup w incoming world) h (k x o n slot more)

-- ---- over each move

module _ (setup : Setup) (is : IsSetup setup) where
  pub record Taken (h : List Event) (world : World) : Type 0 where
    pub along : Along TakenAt h
    pub kept : KeptTaken h world.workers

  abbrev pub TakenFact : WorldFact
  TakenFact h world = Taken h world

  -- what is kept was granted
  kept_held : (h : List Event) (world : World) → Reached setup h world → KeptTaken h world.workers → (w o n slot : ℕ) → 0 < kept_by (exact n slot) o (world.workers w).desk.spools.kept → IsHeldOnce o n slot w h
  kept_held h world r k w o n slot lt = record { granted = was_granted o n slot w h (omega (arith, lt, (reached_holds setup h world is r).balanced (exact n slot) o w)); taken = k w o n slot lt }

  input_has : (w : ℕ) (incoming : Incoming) (h : List Event) (world : World) → Reached setup h world → (g : Good setup h world) (whole : IsWholeIncoming incoming) → IsInput w h incoming → KeptTaken h world.workers → HasThem setup is w incoming h world g whole
  input_has w (TakesPacket from p) h world r g whole i k o n slot lt = absurd i
  input_has w (ClockReads t) h world r g whole i k o n slot lt = held_onto o n slot w (before setup w (ClockReads t) world) h (kept_held h world r k w o n slot (omega (arith, lt)))
  input_has w Reaps h world r g whole i k o n slot lt = kept_held h world r k w o n slot (omega (arith, lt))
  input_has w (Posts c body) h world r g whole i k o n slot lt = held_onto o n slot w (before setup w (Posts c body) world) h (kept_held h world r k w o n slot (omega (arith, lt)))
  input_has w (Subscribes m list start) h world r g whole i k o n slot lt = held_onto o n slot w (before setup w (Subscribes m list start) world) h (kept_held h world r k w o n slot (omega (arith, lt)))
  input_has w (Removes c) h world r g whole i k o n slot lt = held_onto o n slot w (before setup w (Removes c) world) h (kept_held h world r k w o n slot (omega (arith, lt)))
  input_has w (Informs c) h world r g whole i k o n slot lt = held_onto o n slot w (before setup w (Informs c) world) h (kept_held h world r k w o n slot (omega (arith, lt)))

  input_whole : (w : ℕ) (incoming : Incoming) (h : List Event) → IsInput w h incoming → IsWholeIncoming incoming
  input_whole w (TakesPacket from p) h i = absurd i
  input_whole w (ClockReads t) h i = tt
  input_whole w Reaps h i = tt
  input_whole w (Posts c body) h i = tt
  input_whole w (Subscribes k list start) h i = tt
  input_whole w (Removes c) h i = tt
  input_whole w (Informs c) h i = tt

  module _ (w v : ℕ) (p : Packet) (ps : List Packet) (h : List Event) (world : World) (r : Reached setup h world) (g : Good setup h world) (at : world.rings v w ≡ p ∷ ps) where
    first : pending v w h ≡ p ∷ (ps ++ (world.workers v).outbox w)
    first = first_pending setup w v p ps h world g at

    packet_whole : IsWholeLine p.line
    packet_whole = (subst AreWhole first ((reached_holds setup h world is r).whole v w)).0

    -- what a packet brings was granted, and its alert is taken
    packet_held : (n slot : ℕ) → 0 < carries (exact n slot) p.line → IsHeldOnce v n slot w (Took w v p.number (kind_of p.line) ∷ h)
    packet_held n slot lt =
        let carried = ap (λ (q : List Packet). carried_by (exact n slot) (lines_of q)) first in
        record {
          granted = was_granted v n slot w h (omega (arith, lt, carried, (reached_holds setup h world is r).balanced (exact n slot) v w));
          taken = inl (refl, refl, (subst (AllByRecursion (WasMade v w h)) first (pending_made v w h)).0 n slot (carries_hold n slot p.line lt));
        }

    packet_has : KeptTaken h world.workers → HasThem setup is w (TakesPacket v p) h world g packet_whole
    packet_has k o n slot lt = by (v == o) refl lt
      where
        kept_there : 0 < kept_by (exact n slot) o (world.workers w).desk.spools.kept → IsHeldOnce o n slot w (Took w v p.number (kind_of p.line) ∷ h)
        kept_there more = held_one o n slot w (Took w v p.number (kind_of p.line)) h (kept_held h world r k w o n slot more)

        both : (a b : ℕ) → 0 < a + b → (0 < a) ⊎ (0 < b)
        both zero b more = inr (omega (arith, more))
        both (suc a) b more = inl (omega arith)

        either_of : v ≡ o → (0 < carries (exact n slot) p.line) ⊎ (0 < kept_by (exact n slot) o (world.workers w).desk.spools.kept) → IsHeldOnce o n slot w (Took w v p.number (kind_of p.line) ∷ h)
        either_of same (inl more) = subst (λ (z : ℕ). IsHeldOnce z n slot w (Took w v p.number (kind_of p.line) ∷ h)) same (packet_held n slot more)
        either_of same (inr more) = kept_there more

        by : (b : Bool) → (v == o) ≡ b → 0 < cond b (carries (exact n slot) p.line) 0 + kept_by (exact n slot) o (world.workers w).desk.spools.kept → IsHeldOnce o n slot w (Took w v p.number (kind_of p.line) ∷ h)
        by true e more = either_of (eq_of v o e) (both _ _ more)
        by false e more = kept_there (omega (arith, more))

  carried_kept : (w v : ℕ) (p : Packet) (ps : List Packet) (h : List Event) (world : World) → KeptTaken h world.workers → KeptTaken h (carried_one w v p ps world).workers
  carried_kept w v p ps h world k x o n slot lt = by (x == w) refl lt
    where
      by : (b : Bool) → (x == w) ≡ b → 0 < kept_by (exact n slot) o (cond b (record (world.workers w) { outbox = with_at (world.workers w).outbox v ps }) (world.workers x)).desk.spools.kept → WasTaken o n slot x h
      by true e more = subst (λ (z : ℕ). WasTaken o n slot z h) (sym (eq_of x w e)) (k w o n slot more)
      by false e more = k x o n slot more

  taken_theme : IsWorldTheme setup TakenFact
  taken_theme = record {
    new = record { along = tt; kept = λ x o n slot lt. absurd (omega (arith, lt)) };
    handles = λ w incoming h world r g here input k.
        let whole = input_whole w incoming h input in
        let has = input_has w incoming h world r g whole input k.kept in
        record { along = step_taken setup is w incoming h world g whole has k.along; kept = step_kept setup is w incoming h world g whole has k.kept };
    takes = λ w v p ps h world r g here there at k.
        let whole = packet_whole w v p ps h world r g at in
        let has = packet_has w v p ps h world r g at k.kept in
        record { along = step_taken setup is w (TakesPacket v p) h world g whole has k.along; kept = step_kept setup is w (TakesPacket v p) h world g whole has k.kept };
    carries = λ w v p ps h world r g here there at k. record { along = k.along; kept = carried_kept w v p ps h world k.kept };
    pending = λ n h world r g same k. record { along = (k.along, tt); kept = k.kept };
    quiet = λ h world r g same k. record { along = (k.along, tt); kept = k.kept };
  }

released_whole : (h : List Event) → Along TakenAt h → Along OnceAt h → Along ReleasedAt h
released_whole [] a b = tt
released_whole (Released w o g slot ∷ h) a b = (released_whole h a.0 b.0, record { granted = a.1.granted; taken = a.1.taken; once = b.1 })
released_whole (e ∷ h) a b = (released_whole h a.0 b.0, tt)

pub holds_are_released : HoldsAreReleased
holds_are_released setup h world is r =
    released_whole h (world_theme_holds setup (TakenFact setup is) is (taken_theme setup is) h world r).along
    (released_once h world (reached_holds setup h world is r).balanced (grants_are_drawn_once setup h world is r))

-- ---- the points together

points : (slots : ℕ) (h : List Event) → Along (OwnersSlots slots) h → Along DrawnAt h → Along FreedAt h → Along ReleasedAt h → Along (HeldAt slots) h
points slots [] a b c d = tt
points slots (Stored w c id slot len exp kept members from r ct body ∷ h) a b f d = (points slots h a.0 b.0 f.0 d.0, a.1)
points slots (Granted w g slot to ∷ h) a b f d = (points slots h a.0 b.0 f.0 d.0, b.1)
points slots (Freed w slot ∷ h) a b f d = (points slots h a.0 b.0 f.0 d.0, f.1)
points slots (Released w o g slot ∷ h) a b f d = (points slots h a.0 b.0 f.0 d.0, d.1)
points slots (e ∷ h) a b f d = (points slots h a.0 b.0 f.0 d.0, tt)

pub histories_hold : HistoriesHold
histories_hold setup h world is r = points setup.slots h (histories_take_slots setup h world is r) (grants_are_drawn_once setup h world is r) (slots_are_freed setup h world is r) (holds_are_released setup h world is r)
