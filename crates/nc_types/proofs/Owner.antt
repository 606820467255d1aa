-- The number that a name's bytes are taken into one by one.
use Rattle.std.proofs.Common.{ℕ, suc, ◌+◌, ◌*◌, ◌/◌, ◌%◌, ◌^◌, ◌<◌, ◌≤◌, List, [], ◌∷◌, length, take, arith, ◌≡◌, ◌∙◌, ap, sym}
use Rattle.std.proofs.lemmas.List.{take_all}
use Rattle.std.proofs.Math.Nat.{add-mul-mod_self_right, mod-add-div', pow-succ'}
use Rattle.std.specs.Prelude.{fold}
use Rattle.nc_types.specs.Channel.{sum_of_powers, hash_of, owner_of, HashIsSum}

-- a factor may be taken modulo
inner : (x p s m : ℕ) → (x % m * p + s) % m ≡ (x * p + s) % m
inner x p s m =
    sym (add-mul-mod_self_right (x % m * p + s) (x / m * p) m)
    ∙ ap (λ (n : ℕ). n % m) (parts ∙ ap (λ (n : ℕ). n * p + s) (mod-add-div' x m))
  where
    parts : x % m * p + s + x / m * p * m ≡ (x % m + x / m * m) * p + s
    parts = omega arith

-- one byte before the others
more : (h byte p q s : ℕ) → q ≡ 31 * p → (h * 31 + byte) * p + s ≡ h * q + (byte * p + s)
more h byte p q s e = rw e (omega arith)

taken : (name : List ℕ) (h : ℕ) → h < 2 ^ 32 → fold (λ h byte. (h * 31 + byte) % 2 ^ 32) h name ≡ (h * 31 ^ length name + sum_of_powers name) % 2 ^ 32
taken [] h lt = omega (arith, lt)
taken (byte ∷ name) h lt =
    taken name ((h * 31 + byte) % 2 ^ 32) (omega arith)
    ∙ inner (h * 31 + byte) (31 ^ length name) (sum_of_powers name) (2 ^ 32)
    ∙ ap (λ (n : ℕ). n % 2 ^ 32) (more h byte (31 ^ length name) (31 ^ suc (length name)) (sum_of_powers name) (pow-succ' 31 (length name)))

pub hash-is-sum : (name : List ℕ) → HashIsSum name
hash-is-sum name = taken name 0 (omega arith) ∙ ap (λ (n : ℕ). n % 2 ^ 32) (alone (31 ^ length name) (sum_of_powers name))
  where
    alone : (p s : ℕ) → 0 * p + s ≡ s
    alone p s = omega arith

-- the number once each byte was taken, modulo the number of workers
pub tells-owner : (hash divisor workers i : ℕ) (items name : List ℕ) → hash ≡ hash_of (take i items) → length items ≤ i → items ≡ name → divisor ≡ workers → hash % divisor ≡ owner_of workers name
tells-owner hash divisor workers i items name is all same by =
    ap (λ (n : ℕ). n % divisor) (is ∙ ap hash_of (take_all i items all ∙ same) ∙ hash-is-sum name) ∙ ap (λ (n : ℕ). sum_of_powers name % 2 ^ 32 % n) by
