-- Subscribers by their numbers, and which of them are due.
use Rattle.std.specs.Prelude.{◌≡◌, ℕ, ◌+◌, ◌≤◌, Bool, true, false, not, ◌&&◌, List, [], ◌∷◌, Option, None, Some, if◌then◌else◌, nat_le, ◌==◌}
use Rattle.std.specs.List.{AllByRecursion}
use Rattle.std.specs.Ordering.{nat_cmp}
use Rattle.std.specs.Map.{lookup, remove_entry}
use Rattle.std.specs.BTreeMap.{insert_entry, is_at}
use Rattle.nc_subs.specs.declared.sub.Sub.{Sub}

-- a subscriber has a time-out, and the clock when it came with that time-out is at or below a moment
abbrev pub is_due : ℕ → Sub → Bool
is_due now sub = not (sub.timeout == 0) && nat_le (sub.start + sub.timeout) now

-- the subscriber of a number, if there is one
abbrev pub sub_of : ℕ → List (ℕ × Sub) → Option Sub
sub_of k subs = lookup (is_at (nat_cmp k)) subs

-- the subscribers with one more, or with another one under its number
abbrev pub with_sub : Sub → List (ℕ × Sub) → List (ℕ × Sub)
with_sub sub subs = insert_entry nat_cmp subs sub.k sub

-- the subscribers without that of a number
abbrev pub without_sub : ℕ → List (ℕ × Sub) → List (ℕ × Sub)
without_sub k subs = remove_entry (is_at (nat_cmp k)) subs

-- the number of the first one that is due at a moment, if there is one
abbrev pub due_of : ℕ → List (ℕ × Sub) → Option ℕ
due_of now [] = None
due_of now (sub ∷ subs) = if is_due now sub.1 then Some sub.0 else due_of now subs

-- nobody is due at a moment
abbrev pub NoneDue : ℕ → List (ℕ × Sub) → Type 0
NoneDue now subs = AllByRecursion (λ sub. is_due now sub.1 ≡ false) subs

-- whoever is due at a moment has this number or a greater one
abbrev pub IsLeastDue : ℕ → ℕ → List (ℕ × Sub) → Type 0
IsLeastDue now k subs = AllByRecursion (λ sub. is_due now sub.1 ≡ true → k ≤ sub.0) subs
