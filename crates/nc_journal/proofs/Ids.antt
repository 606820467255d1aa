-- The order of ids.
use Rattle.std.proofs.Common.{◌≡◌, ◌⊎◌, ℕ, ◌<◌, ◌≤ℤ◌, true, false, arith}
use Rattle.std.proofs.lemmas.Int.{ints}
use Rattle.nc_types.specs.Id.{Id, IsPast, is_past}
use Rattle.nc_journal.specs.Stamp.{greater_id, next_id}

-- an id isn't past another
abbrev pub IsAtMost : Id → Id → Type 0
IsAtMost a b = (a.time < b.time) ⊎ ((a.time ≡ b.time) × (a.tag ≤ℤ b.tag))

pub past_of_test : (a b : Id) → is_past a b ≡ true → IsPast a b
past_of_test a b h = grind (arith, ints)

pub test_of_past : (a b : Id) → IsPast a b → is_past a b ≡ true
test_of_past a b h = grind (arith, ints)

pub not_past_of_test : (a b : Id) → is_past a b ≡ false → IsPast a b → ⊥
not_past_of_test a b h k = grind (arith, ints)

pub past-trans : (a b d : Id) → IsPast b a → IsPast d b → IsPast d a
past-trans a b d h k = grind (arith, ints)

pub at_most-refl : (a : Id) → IsAtMost a a
at_most-refl a = grind (arith, ints)

pub at_most-trans : (a b d : Id) → IsAtMost a b → IsAtMost b d → IsAtMost a d
at_most-trans a b d h k = grind (arith, ints)

pub at_most_of_past : (a b : Id) → IsPast b a → IsAtMost a b
at_most_of_past a b h = grind (arith, ints)

-- what is past an id is past each id that is at most it
pub past_of_at_most : (a b d : Id) → IsAtMost a b → IsPast d b → IsPast d a
past_of_at_most a b d h k = grind (arith, ints)

pub greater-left : (a b : Id) → IsAtMost a (greater_id a b)
greater-left a b = grind (arith, ints)

pub greater-right : (a b : Id) → IsAtMost b (greater_id a b)
greater-right a b = grind (arith, ints)

-- the id that follows a last id is past it
pub next-past : (now : ℕ) (last : Id) → IsPast (next_id now last) last
next-past now last = grind (arith, ints)
