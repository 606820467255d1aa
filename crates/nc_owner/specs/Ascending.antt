-- Ascending lists of numbers.
use Rattle.std.specs.Prelude.{ℕ, suc, Bool, not, List, [], ◌∷◌, if◌then◌else◌, nat_eq, nat_lt, ◌==◌, filter, fold, insert}
use Rattle.std.specs.List.{list_any}

-- the place of a number: behind all that aren't greater
abbrev pub place_above : ℕ → List ℕ → ℕ
place_above x [] = 0
place_above x (y ∷ ys) = if nat_lt x y then 0 else suc (place_above x ys)

-- with a number more, at its place
abbrev pub with_number : List ℕ → ℕ → List ℕ
with_number xs x = insert xs (place_above x xs) x

-- without a number
abbrev pub without_number : List ℕ → ℕ → List ℕ
without_number xs x = filter (λ y. not (y == x)) xs

-- the numbers in ascending order
abbrev pub ascending : List ℕ → List ℕ
ascending xs = fold with_number [] xs

abbrev pub has_number : ℕ → List ℕ → Bool
has_number x xs = list_any (nat_eq x) xs

-- with a number more, unless it is there
abbrev pub with_new_number : List ℕ → ℕ → List ℕ
with_new_number xs x = if has_number x xs then xs else with_number xs x
