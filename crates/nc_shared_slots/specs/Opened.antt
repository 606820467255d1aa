-- New sets of slots, and the handles of their workers.
use Rattle.std.specs.Prelude.{◌≡◌, ℕ, zero, suc, ◌+◌, ◌-◌, ◌<◌, ◌≤◌, ◌^◌, List, [], ◌∷◌, ◌++◌, length, replicate, None}
use Rattle.atomic_table.specs.Seated.{TableId}
use Rattle.nc_slots.specs.declared.slot.Slot.TheVariants.{Unused}
use Rattle.nc_slot_rule.specs.declared.view.Seen.{Seen}
use Rattle.nc_shared_slots.specs.Shared.{SharedAt}

-- a new set: the table that names it, the workers, and the slots of each
pub record NewAt : Type 0 where
  pub table : TableId
  pub workers : ℕ
  pub slots : ℕ

-- the slots that no worker has yet
pub record RestAt : Type 0 where
  pub table : TableId
  pub per : ℕ
  pub left : ℕ

-- one worker's slots fewer
abbrev pub cut_once : RestAt → RestAt
cut_once rest = record { table = rest.table; per = rest.per; left = rest.left - rest.per }

-- the handles of so many workers, whose slots are unused
abbrev pub new_handles : ℕ → ℕ → List SharedAt
new_handles zero slots = []
new_handles (suc owner) slots = new_handles owner slots ++ record { owner = owner; slots = replicate slots Unused } ∷ []

-- a seat that has all slots from the word first on, which are unused
pub record IsRest (words seat : TableId) (v : Seen) (first per : ℕ) : Type 0 where
  pub sits : seat ≡ words
  pub begins : v.first ≡ first
  pub cuts : v.per ≡ per
  pub knows : v.row ≡ replicate (length v.row) Unused
  pub idle : v.granting ≡ None
  pub there : first + length v.row ≤ words.words
  pub some : 0 < words.words
  pub bound : words.words < 2 ^ 64
