-- Looks that workers of reached worlds ask for, and those that owners make.
use Rattle.std.specs.Prelude.{ℕ, List}
use Rattle.nc_journal.specs.History.{own}
use Rattle.nc_journal.specs.declared.event.Event.{Event}
use Rattle.nc_owner_laws.specs.Used.{times}
use Rattle.nc_spool_laws.specs.Numbers.{IsOnce}
use Rattle.nc_rests.specs.Asking.{ask_numbers, AreAsked, AsksWell}
use Rattle.nc_worker_state.specs.Setup.{Setup}
use Rattle.nc_world.specs.World.{World}
use Rattle.nc_world.specs.Reached.{IsSetup, Reached}

-- each worker has drawn each number once, and none from its next one on; the looks that owners made for it are those that it asked for
pub record AsksStand (h : List Event) (world : World) : Type 0 where
  pub drawn : (w : ℕ) → IsOnce (world.workers w).desk.spools.next (λ n. times n (ask_numbers (own w h)))
  pub asked : (w o : ℕ) → AreAsked w (own w h) (own o h)

-- so it is in each reached world
abbrev pub ReachedAsks : Type 0
ReachedAsks = (setup : Setup) (h : List Event) (world : World) → IsSetup setup → Reached setup h world → AsksStand h world

-- hence its workers ask well
abbrev pub ReachedAskWell : Type 0
ReachedAskWell = (setup : Setup) (h : List Event) (world : World) → IsSetup setup → Reached setup h world → (w : ℕ) → AsksWell w h
