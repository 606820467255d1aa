-- A theme of worlds holds in each reached world.
use Rattle.std.proofs.Common.{◌≡◌, ℕ, zero, suc, ◌<◌, List, [], ◌∷◌, refl, length}
use Rattle.std.specs.Prelude.{nat_lt}
use Rattle.nc_journal.specs.History.{onto}
use Rattle.nc_journal.specs.declared.event.Event.{Event}
use Rattle.nc_history.specs.Packets.{Packet}
use Rattle.nc_worker_state.specs.Setup.{Setup}
use Rattle.nc_world.specs.World.{World, pending_in}
use Rattle.nc_world.specs.Moves.{Move, Handles, Carries, Takes, Counts, Rests, counted, rested, taken_events, taken, carried, carried_one, ring_size, move_events, moved}
use Rattle.nc_world.specs.Reached.{IsSetup, IsMove, Reached, Begins, Moves}
use Rattle.nc_world_laws.specs.Good.{Good}
use Rattle.nc_world_laws.proofs.WorldTheme.{WorldFact, IsWorldTheme, WorldThemeHolds}
use Rattle.nc_world_laws.proofs.Local.{either}
use Rattle.nc_world_laws.proofs.Moving.{reached_is_good}

module _ (setup : Setup) (P : WorldFact) (theme : IsWorldTheme setup P) where
  taken_keeps : (w v : ℕ) (ring : List Packet) (h : List Event) (world : World) → Reached setup h world → Good setup h world → w < setup.workers → v < setup.workers → world.rings v w ≡ ring → P h world → P (onto (taken_events setup w v ring world) h) (taken setup w v ring world)
  taken_keeps w v [] h world r g here there at p = p
  taken_keeps w v (q ∷ ps) h world r g here there at p = theme.takes w v q ps h world r g here there at p

  carried_keeps : (w v : ℕ) (outbox : List Packet) (h : List Event) (world : World) → Reached setup h world → Good setup h world → w < setup.workers → v < setup.workers → (world.workers w).outbox v ≡ outbox → P h world → P h (carried w v outbox world)
  carried_keeps w v [] h world r g here there at p = p
  carried_keeps w v (q ∷ ps) h world r g here there at p = either (P h) (nat_lt (length (world.rings w v)) ring_size) (carried_one w v q ps world) world (theme.carries w v q ps h world r g here there at p) p

  counts_keep : (n : ℕ) (h : List Event) (world : World) → Reached setup h world → Good setup h world → pending_in setup world ≡ n → P h world → P (onto (counted n) h) world
  counts_keep zero h world r g same p = theme.quiet h world r g same p
  counts_keep (suc n) h world r g same p = theme.pending n h world r g same p

  rests_keep : (n : ℕ) (h : List Event) (world : World) → Reached setup h world → Good setup h world → pending_in setup world ≡ n → P h world → P (onto (rested n) h) world
  rests_keep zero h world r g same p = theme.quiet h world r g same p
  rests_keep (suc n) h world r g same p = p

  move_keeps : (m : Move) (h : List Event) (world : World) → Reached setup h world → Good setup h world → IsMove setup h m → P h world → P (onto (move_events setup m world) h) (moved setup m world)
  move_keeps (Handles w incoming) h world r g i p = theme.handles w incoming h world r g i.0 i.1 p
  move_keeps (Carries w v) h world r g i p = carried_keeps w v ((world.workers w).outbox v) h world r g i.0 i.1 refl p
  move_keeps (Takes w v) h world r g i p = taken_keeps w v (world.rings v w) h world r g i.0 i.1 refl p
  move_keeps Counts h world r g i p = counts_keep (pending_in setup world) h world r g refl p
  move_keeps Rests h world r g i p = rests_keep (pending_in setup world) h world r g refl p

  holds : IsSetup setup → (h : List Event) (world : World) → Reached setup h world → P h world
  holds is h world Begins = theme.new
  holds is h world (Moves before world' m r i) = move_keeps m before world' r (reached_is_good setup before world' is r) i (holds is before world' r)

pub world_theme_holds : (setup : Setup) (P : WorldFact) → WorldThemeHolds setup P
world_theme_holds setup P is theme h world r = holds setup P theme is h world r
