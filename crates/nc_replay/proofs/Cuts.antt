-- How a text is cut at the first of a byte.
use Rattle.std.proofs.Common.{◌≡◌, ◌==◌, ℕ, suc, ◌+◌, ◌-◌, min, ◌<◌, ◌≤◌, Bool, true, false, cond, not, eqb, ltb, List, [], ◌∷◌, length, take, drop, Some, None, unwrap_or, position, refl, ◌∙◌, ap, arith}
use Rattle.std.specs.List.{before_first, after_first, position_or_len}
use Rattle.std.proofs.lemmas.Bool.Decides.{nat_tests}
use Rattle.std.proofs.lemmas.Grind.{common_steps}
use Rattle.std.proofs.lemmas.List.{take_rest}
use Rattle.std.proofs.lemmas.List.Sums.{prefix_len-le-length}
use Rattle.nc_replay.specs.Script.{lines_of, onto_first}

onto_line : (b : ℕ) (text : List ℕ) (n : ℕ) → lines_of text ≡ take n text ∷ lines_of (drop (n + 1) text) → onto_first b (lines_of text) ≡ take (1 + n) (b ∷ text) ∷ lines_of (drop (1 + n + 1) (b ∷ text))
onto_line b text n h =
    let front : 1 + n ≡ suc n = omega arith in
    let behind : suc n + 1 ≡ suc (n + 1) = omega arith in
    rw (front, behind, h) refl

-- the lines of a text are its first line and the lines behind it
pub first_and_rest : (text : List ℕ) → 0 < length text → lines_of text ≡ before_first (λ b. b == 10) text ∷ lines_of (after_first (λ b. b == 10) text)
first_and_rest [] some = absurd (omega arith)
first_and_rest (b ∷ []) some = by_test (eqb b 10)
  where
    by_test : (t : Bool) → cond t ([] ∷ []) ((b ∷ []) ∷ []) ≡ take (cond (not t) 1 0) (b ∷ []) ∷ lines_of (drop (cond (not t) 1 0 + 1) (b ∷ []))
    by_test true = refl
    by_test false = refl
first_and_rest (b ∷ (c ∷ text)) some = by_test (eqb b 10) (first_and_rest (c ∷ text) (omega arith))
  where
    by_test : (t : Bool) → lines_of (c ∷ text) ≡ before_first (λ b. b == 10) (c ∷ text) ∷ lines_of (after_first (λ b. b == 10) (c ∷ text)) → cond t ([] ∷ lines_of (c ∷ text)) (onto_first b (lines_of (c ∷ text))) ≡ take (cond (not t) (1 + position_or_len (λ b. b == 10) (c ∷ text)) 0) (b ∷ (c ∷ text)) ∷ lines_of (drop (cond (not t) (1 + position_or_len (λ b. b == 10) (c ∷ text)) 0 + 1) (b ∷ (c ∷ text)))
    by_test true h = refl
    by_test false h = onto_line b (c ∷ text) (position_or_len (λ b. b == 10) (c ∷ text)) h

-- the length of the first line
pub len_of_first : (text : List ℕ) → unwrap_or (position (λ b. b == 10) text) (length text) ≡ position_or_len (λ b. b == 10) text
len_of_first text = by_test (position_or_len (λ b. b == 10) text) (length text) (prefix_len-le-length (λ b. not (b == 10)) text)
  where
    by_test : (n m : ℕ) → n ≤ m → unwrap_or (cond (ltb n m) (Some n) None) m ≡ n
    by_test n m le = grind (arith, nat_tests)

-- the rest of a text behind its first line
pub rest_of_first : (text : List ℕ) (n m : ℕ) → n ≡ position_or_len (λ b. b == 10) text → m ≡ min (n + 1) (length text) → take (length text - m) (drop m text) ≡ after_first (λ b. b == 10) text
rest_of_first text n m first least = take_rest text m ∙ ap (λ (i : ℕ). drop i text) least ∙ drop_least (n + 1) text ∙ ap (λ (i : ℕ). drop (i + 1) text) first
  where
    drop_least : (n : ℕ) (text : List ℕ) → drop (min n (length text)) text ≡ drop n text
    drop_least n text = grind (arith, common_steps)
