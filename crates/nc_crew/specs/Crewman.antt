-- A worker that can handle what comes.
use Rattle.std.specs.Prelude.{◌≡◌, Bool, false}
use Rattle.nc_slots.specs.Slots.{HoldAt}
use Rattle.nc_worker.specs.declared.parts.Parts.{Parts}
use Rattle.nc_worker.specs.Worker.{IsWorker}

-- it isn't spent, and its parts fit each other
pub record IsReady {H : Type 0} (held : H → HoldAt) (spent : Bool) (p : Parts H) : Type 0 where
  pub unspent : spent ≡ false
  pub fit : IsWorker held p
