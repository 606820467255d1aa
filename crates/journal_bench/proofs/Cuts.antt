-- How a text is cut at the first LF.
use Rattle.std.proofs.Common.{◌≡◌, ◌==◌, ℕ, ◌≤◌, cond, not, ltb, List, length, Some, None, unwrap_or, position, arith}
use Rattle.std.specs.List.{position_or_len}
use Rattle.std.proofs.lemmas.Bool.Decides.{nat_tests}
use Rattle.std.proofs.lemmas.List.Sums.{prefix_len-le-length}

-- the length of the first line
pub len_of_first : (text : List ℕ) → unwrap_or (position (λ b. b == 10) text) (length text) ≡ position_or_len (λ b. b == 10) text
len_of_first text = by_test (position_or_len (λ b. b == 10) text) (length text) (prefix_len-le-length (λ b. not (b == 10)) text)
  where
    by_test : (n m : ℕ) → n ≤ m → unwrap_or (cond (ltb n m) (Some n) None) m ≡ n
    by_test n m le = grind (arith, nat_tests)
