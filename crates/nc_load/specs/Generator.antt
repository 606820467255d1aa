-- The numbers that a seed draws, one behind the other.
use Rattle.std.specs.Prelude.{ℕ, zero, suc, ◌+◌, ◌*◌, ◌/◌, ◌%◌, ◌^◌}

abbrev pub multiplier : ℕ
multiplier = 6364136223846793005

abbrev pub increment : ℕ
increment = 1442695040888963407

-- the number that comes behind a number
abbrev pub next : ℕ → ℕ
next x = (x * multiplier + increment) % 2 ^ 64

-- the number to which a seed has come after so many steps
abbrev pub drawn : ℕ → ℕ → ℕ
drawn seed zero = seed
drawn seed (suc i) = next (drawn seed i)

-- the higher bits of a number, which say what a line does
abbrev pub high : ℕ → ℕ
high x = x / 2 ^ 33
