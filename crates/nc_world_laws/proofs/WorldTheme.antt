-- A theme of worlds: what each move keeps holds of each reached world with its history.
use Rattle.std.specs.Prelude.{◌≡◌, ℕ, suc, ◌<◌, List, [], ◌∷◌}
use Rattle.nc_journal.specs.History.{onto}
use Rattle.nc_journal.specs.declared.event.Event.{Event}
use Rattle.nc_journal.specs.declared.event.Event.TheVariants.{Pending, Quiet}
use Rattle.nc_history.specs.Packets.{Packet}
use Rattle.nc_worker_state.specs.Setup.{Setup}
use Rattle.nc_worker_state.specs.Incoming.{Incoming, TakesPacket}
use Rattle.nc_world.specs.World.{World, new_world, handled_events, handled, pending_in}
use Rattle.nc_world.specs.Moves.{carried_one, with_ring}
use Rattle.nc_world.specs.Reached.{IsSetup, IsInput, Reached}
use Rattle.nc_world_laws.specs.Good.{Good}

-- what is said of a history and a world
abbrev pub WorldFact : Type 1
WorldFact = List Event → World → Type 0

-- it holds of the new world; and in each reached world, of which what is good holds, it is kept as something comes from outside, as the first packet of a ring
-- is taken, as a packet is carried into a ring with room, and as it is told how many alerts are pending, or that none is
pub record IsWorldTheme (setup : Setup) (P : WorldFact) : Type 0 where
  pub new : P [] (new_world setup)
  pub handles : (w : ℕ) (incoming : Incoming) (h : List Event) (world : World) → Reached setup h world → Good setup h world → w < setup.workers
      → IsInput w h incoming → P h world → P (onto (handled_events setup w incoming world) h) (handled setup w incoming world)
  pub takes : (w v : ℕ) (p : Packet) (ps : List Packet) (h : List Event) (world : World) → Reached setup h world → Good setup h world
      → w < setup.workers → v < setup.workers → world.rings v w ≡ p ∷ ps → P h world
      → P (onto (handled_events setup w (TakesPacket v p) world) h) (handled setup w (TakesPacket v p) (with_ring v w ps world))
  pub carries : (w v : ℕ) (p : Packet) (ps : List Packet) (h : List Event) (world : World) → Reached setup h world → Good setup h world
      → w < setup.workers → v < setup.workers → (world.workers w).outbox v ≡ p ∷ ps → P h world → P h (carried_one w v p ps world)
  pub pending : (n : ℕ) (h : List Event) (world : World) → Reached setup h world → Good setup h world → pending_in setup world ≡ suc n → P h world
      → P (Pending (suc n) ∷ h) world
  pub quiet : (h : List Event) (world : World) → Reached setup h world → Good setup h world → pending_in setup world ≡ 0 → P h world
      → P (Quiet ∷ h) world

abbrev pub WorldThemeHolds : Setup → WorldFact → Type 0
WorldThemeHolds setup P = IsSetup setup → IsWorldTheme setup P → (h : List Event) (world : World) → Reached setup h world → P h world
