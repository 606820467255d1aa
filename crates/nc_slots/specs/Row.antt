-- What is kept beside a row of slots.
use Rattle.std.specs.Prelude.{◌≡◌, ◌<◌, ◌^◌, Bool, List, [], ◌∷◌, drop, length, take}
use Rattle.std.specs.List.{list_any}
use Rattle.nc_slots.specs.Slot.{is_unused}
use Rattle.nc_slots.specs.declared.slot.Slot.{Slot}

module _ {M : Type 0} where
  -- of each run of 64 slots, whether one is unused
  abbrev pub AreRuns : List (Slot M) → List Bool → Type 0
  AreRuns slots [] = slots ≡ []
  AreRuns slots (run ∷ runs) = (run ≡ list_any is_unused (take 64 slots)) × AreRuns (drop 64 slots) runs

  -- a row whose slots have numbers of 32 bits
  pub record IsRow (slots : List (Slot M)) (runs : List Bool) : Type 0 where
    pub few : length slots < 2 ^ 32
    pub told : AreRuns slots runs
