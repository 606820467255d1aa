-- Texts cut at a sign.
use Rattle.std.proofs.Common.{◌≡◌, ◌≤◌, ℕ, Bool, List, [], ◌∷◌, length, drop, arith, sym}
use Rattle.std.specs.List.{position_or_len, slice_split, before_first}
use Rattle.std.proofs.lemmas.Grind.{common_steps}
use Rattle.std.proofs.lemmas.List.Sums.{fails_before_first}
use Rattle.std.proofs.lemmas.List.Splits.{slice_split_none}

-- a text without the sign is one piece
pub slice_split_whole : {X : Type 0} (p : X → Bool) (xs : List X) → position_or_len p xs ≡ length xs → slice_split p xs ≡ xs ∷ []
slice_split_whole p xs is = slice_split_none p xs (λ k e m. let fails = fails_before_first p xs k e (grind (arith, common_steps)) in grind (arith, common_steps))

-- what stands before the first sign has the length of its place
pub length_before : {X : Type 0} (p : X → Bool) (xs : List X) (n : ℕ) → n ≡ position_or_len p xs → n ≤ length xs → length (before_first p xs) ≡ n
length_before p xs n is within = rw (sym is) (grind (arith, common_steps))

-- nothing stands behind a text without the sign
pub nothing_behind : {X : Type 0} (p : X → Bool) (xs : List X) → length xs ≡ position_or_len p xs → length (drop (length (before_first p xs)) xs) ≡ 0
nothing_behind p xs is = rw (length_before p xs (length xs) is (omega arith)) (grind (arith, common_steps))
