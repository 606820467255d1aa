-- Lines that were made, or met a worn worker.
use Rattle.std.specs.Prelude.{◌≡◌, ℕ, Bool, true, nat_lt, List, [], ◌∷◌, None, Some}
use Rattle.nc_journal.specs.declared.event.Event.{Event}
use Rattle.nc_settle.specs.declared.rounds.Settled.{Settled}
use Rattle.nc_settle.specs.declared.rounds.Settled.TheVariants.{Whole, Worn}
use Rattle.nc_worker_state.specs.Setup.{Setup}
use Rattle.nc_worker_state.specs.Incoming.{Incoming}
use Rattle.nc_worker_state.specs.Worker.{WorkerAt}
use Rattle.nc_world.specs.World.{World}
use Rattle.nc_world.specs.Moves.{Move, Handles, Carries, Takes, Rests}
use Rattle.nc_world.specs.Lines.{Line, Settle, moves_of, events_of, world_of as led_to}
use Rattle.nc_turns.specs.Worn.{moves_before_worn, worn_events, worn_world}
use Rattle.nc_floor.specs.declared.floor.Floor.{Floor}
use Rattle.nc_floor.specs.Floor.{setup_in, world_of}

-- moves were made, their events told; or so many came before a worn worker, and what is left is that of a settle of as many
abbrev pub IsMade : Setup → List Move → World → Settled → List Event → World → Type 0
IsMade setup ms world Whole told new = (moves_before_worn setup ms world ≡ None) × (told ≡ events_of setup ms world) × (new ≡ led_to setup ms world)
IsMade setup ms world (Worn m) told new = (moves_before_worn setup ms world ≡ Some m) × (told ≡ worn_events setup m world)
    × (new ≡ worn_world setup m world)

-- a move was made before a worn worker, or none was met
abbrev pub has_moved : Settled → Bool
has_moved Whole = true
has_moved (Worn m) = nat_lt 0 m

module _ {W : Type 0} (worker : W → WorkerAt) where
  -- the moves of a line, on the floor
  abbrev pub Made : List Move → Settled → Floor W → Floor W → Type 0
  Made ms ended old new = (setup_in new ≡ setup_in old) × IsMade (setup_in old) ms (world_of worker old) ended new.told (world_of worker new)

  abbrev pub HandsIn : ℕ → Incoming → Settled → Floor W → Floor W → Type 0
  HandsIn w incoming = Made (Handles w incoming ∷ Rests ∷ [])

  abbrev pub Carrying : ℕ → ℕ → Settled → Floor W → Floor W → Type 0
  Carrying w to = Made (Carries w to ∷ Rests ∷ [])

  abbrev pub Taking : ℕ → ℕ → Settled → Floor W → Floor W → Type 0
  Taking w from = Made (Takes w from ∷ Rests ∷ [])

  abbrev pub Makes : Line → Settled → Floor W → Floor W → Type 0
  Makes line ended old new = Made (moves_of (setup_in old) line (world_of worker old)) ended old new

  abbrev pub Settling : ℕ → Settled → Floor W → Floor W → Type 0
  Settling n = Makes (Settle n)
