-- Lines of one move and a rest.
use Rattle.std.proofs.Common.{◌≡◌, ◌≢◌, ℕ, zero, suc, Bool, true, false, cond, List, [], ◌∷◌, ◌++◌, length, None, Some, refl, sym, ap, ◌∙◌, subst, append_assoc}
use Rattle.std.specs.Prelude.{◌&&◌, nat_lt}
use Rattle.std.proofs.lemmas.List.{append-nil}
use Rattle.nc_journal.specs.declared.event.Event.{Event}
use Rattle.nc_history.specs.Packets.{Packet}
use Rattle.nc_settle.specs.declared.machine.Turn.{Turn}
use Rattle.nc_settle.specs.declared.machine.Turn.TheVariants as turns
use Rattle.nc_settle.specs.declared.rounds.Settled.TheVariants.{Whole, Worn}
use Rattle.nc_settle.specs.Turns.{turn_told, turn_leaves}
use Rattle.nc_worker_state.specs.Setup.{Setup}
use Rattle.nc_worker_state.specs.Worker.{WorkerAt, is_worn}
use Rattle.nc_world.specs.World.{World, pending_in}
use Rattle.nc_world.specs.Moves.{Move, Handles, Carries, Takes, Counts, Rests, move_events, moved, carried, carried_one, taken, taken_events, rested, ring_size}
use Rattle.nc_world.specs.Lines.{Settle, does, is_some_packet, round, settle_moves, events_of, world_of as led_to}
use Rattle.nc_turns.specs.Telling.{Telling, telling}
use Rattle.nc_turns.specs.Laws.{IsSettled}
use Rattle.nc_turns.specs.Worn.{meets_worn}
use Rattle.nc_floor.specs.declared.floor.Floor.{Floor}
use Rattle.nc_floor.specs.Floor.{setup_in, world_of, telling_of, HasMoved, Tries}
use Rattle.nc_settle.specs.declared.rounds.Settled.{Settled}
use Rattle.nc_settle.specs.Ends.{moves_made, worn_told}
use Rattle.nc_turns.specs.Worn.{before_worn_in}
use Rattle.std.proofs.Common.{arith}
use Rattle.std.proofs.lemmas.Bool.Decides.{nat_tests}
use Rattle.nc_cluster.specs.Made.{has_moved, Made, Settling}

-- moves one after the other
events_append : (setup : Setup) (ms ns : List Move) (world : World) → events_of setup (ms ++ ns) world ≡ events_of setup ms world ++ events_of setup ns (led_to setup ms world)
events_append setup [] ns world = refl
events_append setup (m ∷ ms) ns world = ap (λ (l : List Event). move_events setup m world ++ l) (events_append setup ms ns (moved setup m world))
    ∙ sym (append_assoc (move_events setup m world) (events_of setup ms (moved setup m world)) (events_of setup ns (led_to setup ms (moved setup m world))))

led_append : (setup : Setup) (ms ns : List Move) (world : World) → led_to setup (ms ++ ns) world ≡ led_to setup ns (led_to setup ms world)
led_append setup [] ns world = refl
led_append setup (m ∷ ms) ns world = led_append setup ms ns (moved setup m world)

-- a carry or a take that does nothing
no_carry : (w v : ℕ) (outbox : List Packet) (world : World) → (is_some_packet outbox && nat_lt (length (world.rings w v)) ring_size) ≡ false → carried w v outbox world ≡ world
no_carry w v [] world e = refl
no_carry w v (p ∷ ps) world e = ap (λ b. cond b (carried_one w v p ps world) world) e

no_take : (setup : Setup) (w v : ℕ) (ring : List Packet) (world : World) → is_some_packet ring ≡ false → taken setup w v ring world ≡ world
no_take setup w v [] world e = refl
no_take setup w v (p ∷ ps) world e = cc

no_events : (setup : Setup) (w v : ℕ) (ring : List Packet) (world : World) → is_some_packet ring ≡ false → taken_events setup w v ring world ≡ []
no_events setup w v [] world e = refl
no_events setup w v (p ∷ ps) world e = cc

no_carrying : (w v : ℕ) (t : Telling) → does t.world (Carries w v) ≡ false → telling (Carries w v) t ≡ t
no_carrying w v t e = λ j. record { setup = t.setup; world = no_carry w v ((t.world.workers w).outbox v) t.world e j; told = append-nil t.told j }

no_taking : (w v : ℕ) (t : Telling) → does t.world (Takes w v) ≡ false → telling (Takes w v) t ≡ t
no_taking w v t e = λ j. record { setup = t.setup; world = no_take t.setup w v (t.world.rings v w) t.world e j; told = (ap (λ (l : List Event). t.told ++ l) (no_events t.setup w v (t.world.rings v w) t.world e) ∙ append-nil t.told) j }

-- a turn that didn't meet a worn worker made its move, or it had none to make
turned : (d b : Bool) (turn : Turn) (old new moved : Telling) → turn ≡ turn_told d b → turn ≢ turns.Worn → new ≡ turn_leaves turn moved old → (d ≡ false → moved ≡ old) → new ≡ moved
turned true true turn old new moved e ne l n = absurd (ne e)
turned true false turn old new moved e ne l n = l ∙ ap (λ t. turn_leaves t moved old) e
turned false b turn old new moved e ne l n = l ∙ ap (λ t. turn_leaves t moved old) e ∙ sym (n refl)

-- a turn that wasn't worn met nobody worn
not_met : (d x : Bool) (turn : Turn) → turn ≡ turn_told d (d && x) → turn ≢ turns.Worn → (d && x) ≡ false
not_met true true turn e ne = absurd (ne e)
not_met true false turn e ne = refl
not_met false x turn e ne = refl

module _ {W : Type 0} (worker : W → WorkerAt) where
  pub unmet : (w v : ℕ) (turn : Turn) (old new : Floor W) → Tries worker (Takes w v) turn old new → turn ≢ turns.Worn → meets_worn (setup_in old) (world_of worker old) (Takes w v) ≡ false
  unmet w v turn old new t ne = not_met (is_some_packet ((world_of worker old).rings v w)) (is_worn (setup_in old).workers ((world_of worker old).workers w)) turn t.told ne

  pub carried_so : (w v : ℕ) (turn : Turn) (old new : Floor W) → Tries worker (Carries w v) turn old new → HasMoved worker (Carries w v) old new
  carried_so w v turn old new t = turned (does (world_of worker old) (Carries w v)) false turn (telling_of worker old) (telling_of worker new) (telling (Carries w v) (telling_of worker old)) t.told
      (by (does (world_of worker old) (Carries w v)) turn t.told) t.leaves (no_carrying w v (telling_of worker old))
    where
      by : (d : Bool) (turn : Turn) → turn ≡ turn_told d false → turn ≢ turns.Worn
      by true turn e n = cc
      by false turn e n = cc

  pub taken_so : (w v : ℕ) (turn : Turn) (old new : Floor W) → Tries worker (Takes w v) turn old new → turn ≢ turns.Worn → HasMoved worker (Takes w v) old new
  taken_so w v turn old new t ne = turned (does (world_of worker old) (Takes w v)) (meets_worn (setup_in old) (world_of worker old) (Takes w v)) turn (telling_of worker old) (telling_of worker new) (telling (Takes w v) (telling_of worker old)) t.told
      ne t.leaves (no_taking w v (telling_of worker old))

  -- a move, and a rest behind it
  pub two : (m : Move) (old mid new : Floor W) → HasMoved worker m old mid → HasMoved worker Rests mid new → old.told ≡ [] → meets_worn (setup_in old) (world_of worker old) m ≡ false → Made worker (m ∷ Rests ∷ []) Whole old new
  two m old mid new e f told b =
      let t : Telling = telling_of worker old in
      let all : telling_of worker new ≡ telling Rests (telling m t) = f ∙ ap (telling Rests) e in
      let last : List Event = rested (pending_in t.setup (moved t.setup m t.world)) in (
        ap (λ x. x.setup) all,
        (
          ap (λ c. cond c (Some 0) None) b,
          ap (λ x. x.told) all ∙ ap (λ (l : List Event). l ++ move_events t.setup m t.world ++ last) told ∙ ap (λ (l : List Event). move_events t.setup m t.world ++ l) (sym (append-nil last)),
          ap (λ x. x.world) all,
        ),
      )

  -- a move that meets a worn worker
  pub none : (m : Move) (old new : Floor W) → telling_of worker new ≡ telling_of worker old → old.told ≡ [] → meets_worn (setup_in old) (world_of worker old) m ≡ true → Made worker (m ∷ Rests ∷ []) (Worn 0) old new
  none m old new e told b = (ap (λ x. x.setup) e, (ap (λ c. cond c (Some 0) None) b, ap (λ x. x.told) e ∙ told, ap (λ x. x.world) e))

  -- a settle, and a count behind it
  pub counted_behind : (n : ℕ) (old mid new : Floor W) → IsSettled n (telling_of worker old) (telling_of worker mid) → HasMoved worker Counts mid new → old.told ≡ []
      → (setup_in new ≡ setup_in old) × (new.told ≡ events_of (setup_in old) (settle_moves (setup_in old) n (round (setup_in old).workers) (world_of worker old) ++ Counts ∷ []) (world_of worker old))
      × (world_of worker new ≡ led_to (setup_in old) (settle_moves (setup_in old) n (round (setup_in old).workers) (world_of worker old) ++ Counts ∷ []) (world_of worker old))
  counted_behind n old mid new s f told =
      let setup : Setup = setup_in old in
      let world : World = world_of worker old in
      let ms : List Move = settle_moves setup n (round setup.workers) world in
      let now : Telling = record { setup = setup; world = led_to setup ms world; told = events_of setup ms world } in
      let settled : telling_of worker mid ≡ now = (λ j. record { setup = s.setup j; world = s.world j; told = (s.told ∙ ap (λ (l : List Event). l ++ events_of setup ms world) told) j }) in
      let all : telling_of worker new ≡ telling Counts now = f ∙ ap (telling Counts) settled in (
        ap (λ x. x.setup) all,
        ap (λ x. x.told) all ∙ ap (λ (l : List Event). events_of setup ms world ++ l) (sym (append-nil (move_events setup Counts (led_to setup ms world)))) ∙ sym (events_append setup ms (Counts ∷ []) world),
        ap (λ x. x.world) all ∙ sym (led_append setup ms (Counts ∷ []) world),
      )

  -- how a settle ends
  pub ends : (n : ℕ) (ended : Settled) (old mid new : Floor W) → worn_told ended ≡ before_worn_in (setup_in old) (Settle n) (world_of worker old) → IsSettled (moves_made n ended) (telling_of worker old) (telling_of worker mid)
      → HasMoved worker Counts mid new → old.told ≡ [] → has_moved ended ≡ true → Settling worker n ended old new
  ends n Whole old mid new e s f told h = let all = counted_behind n old mid new s f told in (all.0, (sym e, all.1, all.2))
  ends n (Worn zero) old mid new e s f told h = cc
  ends n (Worn (suc m)) old mid new e s f told h = let all = counted_behind (suc m) old mid new s f told in (all.0, (sym e, all.1, all.2))

  pub unmoved : (n : ℕ) (ended : Settled) (old new : Floor W) → worn_told ended ≡ before_worn_in (setup_in old) (Settle n) (world_of worker old) → IsSettled (moves_made n ended) (telling_of worker old) (telling_of worker new)
      → old.told ≡ [] → has_moved ended ≡ false → Settling worker n ended old new
  unmoved n Whole old new e s told h = cc
  unmoved n (Worn zero) old new e s told h = (s.setup, (sym e, s.told ∙ append-nil old.told ∙ told, s.world))
  unmoved n (Worn (suc m)) old new e s told h = absurd (no m h)
    where
      no : (m : ℕ) → nat_lt 0 (suc m) ≡ false → ⊥
      no m h = grind (arith, nat_tests)
