-- A worker as its callers see it.
use Rattle.std.specs.Prelude.{◌≡◌, Bool, true, false, []}
use Rattle.nc_slots.specs.Slots.{HoldAt}
use Rattle.nc_worker.specs.declared.parts.Parts.{Parts}
use Rattle.nc_worker.specs.declared.worker.HandleRefusal.{HandleRefusal}
use Rattle.nc_worker.specs.declared.worker.HandleRefusal.TheVariants as refusals
use Rattle.nc_worker.specs.Parts.{AreSound}

-- the parts of a worker between its steps: they are of one worker, and each event was told
pub record IsWorker {H : Type 0} (held : H → HoldAt) (p : Parts H) : Type 0 where
  pub sound : AreSound held p
  pub told : p.scribe.events ≡ []

-- they are so unless it is spent
abbrev pub IsKept : {H : Type 0} → (H → HoldAt) → Bool → Parts H → Type 0
IsKept held spent p = spent ≡ false → IsWorker held p

-- why a worker that is spent or worn, or neither, refuses
abbrev pub refused_as : Bool → Bool → HandleRefusal
refused_as true worn = refusals.Spent
refused_as false true = refusals.Worn
refused_as false false = refusals.NoMemory

-- want of memory leaves a worker spent, and another refusal leaves it and the slots as they were
module _ {W P : Type 0} where
  abbrev pub LeavesAs : HandleRefusal → Bool → W → W → P → P → Type 0
  LeavesAs refusals.NoMemory spent old new pool new_pool = spent ≡ true
  LeavesAs refusals.Spent spent old new pool new_pool = (new ≡ old) × (new_pool ≡ pool)
  LeavesAs refusals.Worn spent old new pool new_pool = (new ≡ old) × (new_pool ≡ pool)
