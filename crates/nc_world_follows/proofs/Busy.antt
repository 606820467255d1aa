-- At the end of each step the holds without a use are released.
use Rattle.std.proofs.Common.{◌≡◌, ℕ, Bool, true, false, cond, not, List, [], ◌∷◌, refl, ap, ◌∙◌, filter, map}
use Rattle.std.specs.Prelude.{◌==◌, length, nat_lt}
use Rattle.nc_spool_state.specs.declared.kept.Held.{Held}
use Rattle.nc_spool_state.specs.Kept.{is_idle}
use Rattle.nc_spool.specs.Calls.{SpoolsAt}
use Rattle.nc_history.specs.Packets.{Packet}
use Rattle.nc_worker_state.specs.Setup.{Setup}
use Rattle.nc_worker_state.specs.Incoming.{Incoming, TakesPacket}
use Rattle.nc_worker_state.specs.Spooled.{Hold, release, releases, without_idles}
use Rattle.nc_worker_state.specs.Desk.{begun}
use Rattle.nc_worker_state.specs.Worker.{WorkerAt, with_at, step_seat}
use Rattle.nc_world.specs.World.{World, seat, polls_of, handled}
use Rattle.nc_world.specs.Moves.{Move, Handles, Carries, Takes, Counts, Rests, ring_size, carried_one, carried, with_ring, taken, moved}
use Rattle.nc_world.specs.Reached.{Begins, Moves}
use Rattle.nc_world_laws.proofs.Local.{either}
use Rattle.nc_world_follows.specs.Laws.{IsBusy, ReachedIsBusy}

none_idle : (idle : Held Hold → Bool) (hs : List (Held Hold)) → filter idle (filter (λ h. not (idle h)) hs) ≡ []
none_idle idle [] = refl
none_idle idle (h ∷ hs) = by (idle h) refl (none_idle idle hs)
  where
    by : (b : Bool) → idle h ≡ b → filter idle (filter (λ x. not (idle x)) hs) ≡ [] → filter idle (cond (not b) (h ∷ filter (λ x. not (idle x)) hs) (filter (λ x. not (idle x)) hs)) ≡ []
    by true is e = e
    by false is e = ap (λ b. cond b (h ∷ filter idle (filter (λ x. not (idle x)) hs)) (filter idle (filter (λ x. not (idle x)) hs))) is ∙ e

settled_none : (w : ℕ) (s : SpoolsAt Hold) → releases w (without_idles s) ≡ []
settled_none w s = ap (map (release w)) (none_idle (is_idle s.shelf) s.kept)

with_busy : (w : ℕ) (world : World) (s : WorkerAt) → releases w s.desk.spools ≡ [] → IsBusy world → (v : ℕ) → releases v (with_at world.workers w s v).desk.spools ≡ []
with_busy w world s here busy v = by (v == w) here (busy v)
  where
    other : (x y : ℕ) (t : SpoolsAt Hold) → releases x t ≡ [] → releases y t ≡ []
    other x y t e = by_list (filter (is_idle t.shelf) t.kept) e
      where
        by_list : (hs : List (Held Hold)) → map (release x) hs ≡ [] → map (release y) hs ≡ []
        by_list [] f = refl
        by_list (h ∷ hs) f = absurd cc

    by : (b : Bool) → releases w s.desk.spools ≡ [] → releases v (world.workers v).desk.spools ≡ [] → releases v (cond b s (world.workers v)).desk.spools ≡ []
    by true e f = other w v s.desk.spools e
    by false e f = f

handled_busy : (setup : Setup) (w : ℕ) (incoming : Incoming) (world : World) → IsBusy world → IsBusy (handled setup w incoming world)
handled_busy setup w incoming world busy =
    with_busy w world (step_seat setup w (polls_of w incoming world) incoming (seat w world)).worker
    (settled_none w (begun setup w incoming (world.workers w).desk).after.spools) busy

taken_busy : (setup : Setup) (w v : ℕ) (ring : List Packet) (world : World) → IsBusy world → IsBusy (taken setup w v ring world)
taken_busy setup w v [] world busy = busy
taken_busy setup w v (p ∷ ps) world busy = handled_busy setup w (TakesPacket v p) (with_ring v w ps world) busy

carried_busy : (w v : ℕ) (outbox : List Packet) (world : World) → IsBusy world → IsBusy (carried w v outbox world)
carried_busy w v [] world busy = busy
carried_busy w v (p ∷ ps) world busy = either IsBusy (nat_lt (length (world.rings w v)) ring_size) (carried_one w v p ps world) world
    (with_busy w world (record (world.workers w) { outbox = with_at (world.workers w).outbox v ps }) (busy w) busy) busy

move_busy : (setup : Setup) (m : Move) (world : World) → IsBusy world → IsBusy (moved setup m world)
move_busy setup (Handles w incoming) world busy = handled_busy setup w incoming world busy
move_busy setup (Carries w v) world busy = carried_busy w v ((world.workers w).outbox v) world busy
move_busy setup (Takes w v) world busy = taken_busy setup w v (world.rings v w) world busy
move_busy setup Counts world busy = busy
move_busy setup Rests world busy = busy

pub reached_is_busy : ReachedIsBusy
reached_is_busy setup h world Begins = λ w. refl
reached_is_busy setup h world (Moves before last m r i) = move_busy setup m last (reached_is_busy setup before last r)
