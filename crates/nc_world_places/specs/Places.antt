-- The places of the spools of reached worlds.
use Rattle.std.specs.Prelude.{ℕ, List}
use Rattle.std.specs.List.{AllByRecursion}
use Rattle.nc_journal.specs.History.{Along, own}
use Rattle.nc_journal.specs.declared.event.Event.{Event}
use Rattle.nc_owner_laws.specs.InOrder.{AnswersAt}
use Rattle.nc_spool_state.specs.Spool.{SpoolAt}
use Rattle.nc_spool_laws.specs.Order.{AreAscending}
use Rattle.nc_spool_laws.specs.Resting.{AllRest}
use Rattle.nc_spool_laws.specs.Attended.{IsWhole}
use Rattle.nc_worker_state.specs.Setup.{Setup}
use Rattle.nc_world.specs.World.{World}
use Rattle.nc_world.specs.Reached.{IsSetup, Reached}
use Rattle.nc_rests.specs.Owners.{Owners}
use Rattle.nc_rests.specs.Telling.{OwnerTells}
use Rattle.nc_world_told.specs.Known.{PlacesHold, SpoolKnows}

-- the spools of a worker
abbrev pub shelf_at : World → ℕ → List SpoolAt
shelf_at world w = (world.workers w).desk.spools.shelf

-- what owners tell and keep
pub record OwnersTell (workers : ℕ) (h : List Event) : Type 0 where
  pub owners : Owners workers h
  pub answers : (o : ℕ) → Along AnswersAt (own o h)
  pub tells : (o : ℕ) → OwnerTells o (own o h)

abbrev pub ReachedOwnersTell : Type 0
ReachedOwnersTell = (setup : Setup) (h : List Event) (world : World) → IsSetup setup → Reached setup h world → OwnersTell setup.workers h

-- of the spools of each worker: each place holds, there is a place for each name, the spools ascend, and where a message was found a look is in flight
pub record HasPlaces (workers : ℕ) (h : List Event) (world : World) : Type 0 where
  pub holds : (w : ℕ) → AllByRecursion (PlacesHold workers w h) (shelf_at world w)
  pub whole : (w : ℕ) → AllByRecursion IsWhole (shelf_at world w)
  pub order : (w : ℕ) → AreAscending (shelf_at world w)
  pub rest : (w : ℕ) → AllRest (shelf_at world w)

abbrev pub ReachedHasPlaces : Type 0
ReachedHasPlaces = (setup : Setup) (h : List Event) (world : World) → IsSetup setup → Reached setup h world → HasPlaces setup.workers h world

-- so all is so of each spool that its subscribers rely on
abbrev pub ReachedSpoolsKnow : Type 0
ReachedSpoolsKnow = (setup : Setup) (h : List Event) (world : World) → IsSetup setup → Reached setup h world → (w : ℕ)
    → AllByRecursion (λ s. SpoolKnows setup.workers w s h) (shelf_at world w)
