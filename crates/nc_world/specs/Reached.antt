-- Worlds that moves lead to, each with its history.
use Rattle.std.specs.Prelude.{◌≡◌, ℕ, ◌<◌, ◌≤◌, false, List, [], ◌∷◌, length}
use Rattle.nc_types.specs.Channel.{AreDistinct}
use Rattle.nc_types.specs.declared.start.Start.{Start}
use Rattle.nc_journal.specs.History.{own, onto}
use Rattle.nc_journal.specs.Standing.{StartFits, is_subscribed}
use Rattle.nc_journal.specs.declared.event.Event.{Event}
use Rattle.nc_owner.specs.Moment.{IsClock}
use Rattle.nc_worker_state.specs.Setup.{Setup}
use Rattle.nc_worker_state.specs.Incoming.{Incoming, TakesPacket, ClockReads, Reaps, Posts, Subscribes, Removes, Informs}
use Rattle.nc_world.specs.World.{World, new_world}
use Rattle.nc_world.specs.Moves.{Move, Handles, Carries, Takes, Counts, Rests, move_events, moved}

-- a setup: there are one to sixteen workers, and what is posted directly has a message's timeout
abbrev pub IsSetup : Setup → Type 0
IsSetup setup = (0 < setup.workers) × (setup.timeout ≤ 1000000000) × (setup.workers ≤ 16)

-- how a subscriber comes: its number is new, no channel is named twice, and the start fits the list
pub record Comes (w k : ℕ) (list : List (List ℕ)) (start : Start) (h : List Event) : Type 0 where
  pub new : is_subscribed k (own w h) ≡ false
  pub distinct : AreDistinct list
  pub named : 0 < length list
  pub fits : StartFits list start

-- what an input keeps at a worker, by the history; packets come by moves of their own
abbrev pub IsInput : ℕ → List Event → Incoming → Type 0
IsInput w h (TakesPacket from p) = ⊥
IsInput w h (ClockReads t) = IsClock t
IsInput w h Reaps = Unit {0}
IsInput w h (Posts c body) = Unit {0}
IsInput w h (Subscribes k list start) = Comes w k list start h
IsInput w h (Removes c) = Unit {0}
IsInput w h (Informs c) = Unit {0}

-- a move that can be made: its workers are there
abbrev pub IsMove : Setup → List Event → Move → Type 0
IsMove setup h (Handles w incoming) = (w < setup.workers) × IsInput w h incoming
IsMove setup h (Carries w v) = (w < setup.workers) × (v < setup.workers)
IsMove setup h (Takes w v) = (w < setup.workers) × (v < setup.workers)
IsMove setup h Counts = Unit {0}
IsMove setup h Rests = Unit {0}

-- moves lead from the new world to a world with a history
pub data Reached (setup : Setup) : List Event → World → Type 0 where
  Begins : Reached setup [] (new_world setup)
  Moves : (h : List Event) (world : World) (m : Move) → Reached setup h world → IsMove setup h m
      → Reached setup (onto (move_events setup m world) h) (moved setup m world)
