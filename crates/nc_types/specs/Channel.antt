-- Names of channels, and their owners.
use Rattle.std.specs.Prelude.{◌≡◌, ◌≢◌, ℕ, ◌+◌, ◌*◌, ◌%◌, ◌^◌, List, [], ◌∷◌, length, fold}
use Rattle.std.specs.List.{AllByRecursion}

-- no name stands twice
abbrev pub AreDistinct : List (List ℕ) → Type 0
AreDistinct [] = Unit {0}
AreDistinct (name ∷ names) = AllByRecursion (λ other. other ≢ name) names × AreDistinct names

-- the sum of a name's bytes, each times 31 to the power of the number of bytes behind it
abbrev pub sum_of_powers : List ℕ → ℕ
sum_of_powers [] = 0
sum_of_powers (byte ∷ behind) = byte * 31 ^ length behind + sum_of_powers behind

-- which of the workers owns a channel: that sum modulo 2^32, modulo their number
abbrev pub owner_of : ℕ → List ℕ → ℕ
owner_of workers name = sum_of_powers name % 2 ^ 32 % workers

-- a number that starts at 0 and is multiplied by 31 for each byte, which is added, in 32 bits
abbrev pub hash_of : List ℕ → ℕ
hash_of name = fold (λ h byte. (h * 31 + byte) % 2 ^ 32) 0 name

-- the number that a name's bytes are taken into one by one is that sum modulo 2^32
abbrev pub HashIsSum : List ℕ → Type 0
HashIsSum name = hash_of name ≡ sum_of_powers name % 2 ^ 32
