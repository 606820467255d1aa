-- Who makes notices.
use Rattle.std.specs.Prelude.{◌≡◌, ℕ, List}
use Rattle.std.specs.List.{AllByRecursion}
use Rattle.nc_types.specs.Channel.{owner_of}
use Rattle.nc_journal.specs.History.{own}
use Rattle.nc_journal.specs.declared.event.Event.{Event}
use Rattle.nc_journal.specs.declared.event.Event.TheVariants.{Made}
use Rattle.nc_journal.specs.declared.alert.AlertLine.{AlertLine}
use Rattle.nc_journal.specs.declared.alert.AlertLine.TheVariants.{Notice}
use Rattle.nc_worker_state.specs.Setup.{Setup}
use Rattle.nc_world.specs.World.{World}
use Rattle.nc_world.specs.Reached.{IsSetup, Reached}

-- a notice is of a channel of this owner
abbrev pub IsNoticeOf : ℕ → ℕ → AlertLine → Type 0
IsNoticeOf workers v (Notice c id g slot) = owner_of workers c ≡ v
IsNoticeOf workers v line = Unit {0}

abbrev pub MakesNoticeOf : ℕ → ℕ → Event → Type 0
MakesNoticeOf workers v (Made x to n a) = IsNoticeOf workers v a
MakesNoticeOf workers v _ = Unit {0}

-- each notice is made by the owner of its channel
abbrev pub OwnersNotice : ℕ → List Event → World → Type 0
OwnersNotice workers h world = (v : ℕ) → AllByRecursion (MakesNoticeOf workers v) (own v h)

abbrev pub ReachedOwnersNotice : Type 0
ReachedOwnersNotice = (setup : Setup) (h : List Event) (world : World) → IsSetup setup → Reached setup h world → OwnersNotice setup.workers h world
