-- Settling by turns and settling by moves.
use Rattle.std.specs.Prelude.{◌≡◌, ℕ, ◌++◌}
use Rattle.nc_settle.specs.Turns.{below}
use Rattle.nc_settle.specs.Settle.{settled, before_worn}
use Rattle.nc_world.specs.Lines.{Settle, round, settle_moves, events_of, world_of}
use Rattle.nc_turns.specs.Turns.{turn_count}
use Rattle.nc_turns.specs.Worn.{before_worn_in}
use Rattle.nc_turns.specs.Telling.{Telling, can_turn, worn_turn, turned, is_idle}

-- after at most so many turns that do something, a world is that after a settle's moves, and their events were told
pub record IsSettled (n : ℕ) (old new : Telling) : Type 0 where
  pub setup : new.setup ≡ old.setup
  pub world : new.world ≡ world_of old.setup (settle_moves old.setup n (round old.setup.workers) old.world) old.world
  pub told : new.told ≡ old.told ++ events_of old.setup (settle_moves old.setup n (round old.setup.workers) old.world) old.world

abbrev pub TurnsSettle : Type 0
TurnsSettle = (n : ℕ) (s : Telling) → IsSettled n s (settled can_turn turned is_idle n (below (turn_count s.setup.workers)) s)

-- as many turns come before a worn worker as moves of the line
abbrev pub TurnsMeetWorn : Type 0
TurnsMeetWorn = (n : ℕ) (s : Telling)
    → before_worn can_turn worn_turn turned is_idle n (below (turn_count s.setup.workers)) s ≡ before_worn_in s.setup (Settle n) s.world
