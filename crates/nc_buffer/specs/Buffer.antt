-- Buffers: lists of entries, the oldest first.
use Rattle.std.specs.Prelude.{◌≡◌, ℕ, zero, suc, ◌+◌, Bool, nat_le, List, [], ◌∷◌, if◌then◌else◌, Option, None, Some, drop, length}
use Rattle.std.specs.List.{AllByRecursion, position, slice_get}
use Rattle.nc_types.specs.Id.{Id, IsPast, is_past, has_come}
use Rattle.nc_buffer.specs.declared.entry.Entry.{Entry}

-- an id is past each of the kept ones
abbrev pub IsPastAll : Id → List Entry → Type 0
IsPastAll id es = AllByRecursion (λ e. IsPast id e.id) es

-- each entry's id is past those of the ones before it
abbrev pub IsRising : List Entry → Type 0
IsRising [] = Unit {0}
IsRising (e ∷ es) = AllByRecursion (λ later. IsPast later.id e.id) es × IsRising es

-- the ids rise before and after a call
pub record StaysRising (old new : List Entry) : Type 0 where
  pub before : IsRising old
  pub after : IsRising new

-- a buffer has one entry fewer where one is taken out, and else stays as it was
abbrev pub LosesTaken : Option Entry → List Entry → List Entry → Type 0
LosesTaken None old new = new ≡ old
LosesTaken (Some e) old new = length old ≡ length new + 1

-- an entry that expires at or before a second; at 0 it never does
abbrev pub is_expired : ℕ → Entry → Bool
is_expired now e = has_come e.expires now

-- a spent entry: it has as many grants as one can have
abbrev pub is_spent : Entry → Bool
is_spent e = nat_le 4294967295 e.grants

-- the place of the oldest entry past an id
abbrev pub first_past : Id → List Entry → Option ℕ
first_past after es = position (λ e. is_past e.id after) es

-- the entries without the oldest one that passes a test
abbrev pub without_first : (Entry → Bool) → List Entry → List Entry
without_first test [] = []
without_first test (e ∷ es) = if test e then es else e ∷ without_first test es

-- the oldest entry, which stands first
abbrev pub oldest : List Entry → Option Entry
oldest es = slice_get es 0

abbrev pub without_oldest : List Entry → List Entry
without_oldest es = drop 1 es

-- an entry with one grant more
abbrev pub granted : Entry → Entry
granted e = record e { grants = e.grants + 1 }

-- the entries, with one grant more of the one at a place
abbrev pub with_grant : ℕ → List Entry → List Entry
with_grant place [] = []
with_grant zero (e ∷ es) = granted e ∷ es
with_grant (suc place) (e ∷ es) = e ∷ with_grant place es
