-- Rounds of turns, from any turn on.
use Rattle.std.proofs.Common.{◌≡◌, ℕ, zero, suc, ◌+◌, ◌-◌, ◌<◌, Bool, true, false, cond, List, [], ◌∷◌, ◌++◌, Some, None, refl, sym, ap, ◌∙◌, arith, append_assoc}
use Rattle.std.proofs.lemmas.List.{append-nil}
use Rattle.std.specs.List.{AllByRecursion}
use Rattle.nc_settle.specs.Turns.{below, first_turn}

-- so many numbers from one on
abbrev pub up : ℕ → ℕ → List ℕ
up a zero = []
up a (suc n) = a ∷ up (suc a) n

up_more : (a n : ℕ) → up a (suc n) ≡ up a n ++ (n + a) ∷ []
up_more a zero = ap (λ x. x ∷ []) (omega arith)
up_more a (suc n) = ap (λ (l : List ℕ). a ∷ l) (up_more (suc a) n ∙ ap (λ x. up (suc a) n ++ x ∷ []) (omega arith))

pub up_below : (n : ℕ) → up 0 n ≡ below n
up_below zero = refl
up_below (suc n) = up_more 0 n ∙ (λ i. up_below n i ++ plus n i ∷ [])
  where
    plus : (n : ℕ) → n + 0 ≡ n
    plus n = omega arith

-- the turns of a round of so many, from one of them on
abbrev pub from_turn : ℕ → ℕ → List ℕ
from_turn t turns = up t (turns - t) ++ below t

pub from_first : (turns : ℕ) → from_turn 0 turns ≡ below turns
from_first turns = append-nil (up 0 (turns - 0)) ∙ ap (up 0) (omega arith) ∙ up_below turns

pub from_last : (turns : ℕ) → from_turn turns turns ≡ below turns
from_last turns = ap (λ n. up turns n ++ below turns) (none turns)
  where
    none : (a : ℕ) → a - a ≡ 0
    none a = omega arith

-- those behind one of them, before it comes again
abbrev pub rest_of : ℕ → ℕ → List ℕ
rest_of t turns = up (suc t) (turns - suc t) ++ below t

pub from_next : (t turns : ℕ) → t < turns → from_turn t turns ≡ t ∷ rest_of t turns
from_next t turns lt = ap (λ n. up t n ++ below t) (less t turns lt)
  where
    less : (a b : ℕ) → a < b → b - a ≡ suc (b - suc a)
    less a b lt = omega (arith, lt)

pub next_from : (t turns : ℕ) → rest_of t turns ++ t ∷ [] ≡ from_turn (t + 1) turns
next_from t turns = append_assoc (up (suc t) (turns - suc t)) (below t) (t ∷ []) ∙ ap (λ k. up k (turns - k) ++ below k) (one t)
  where
    one : (a : ℕ) → suc a ≡ a + 1
    one a = omega arith

-- a turn that has nothing to do may as well come last
pub comes_last : (can : ℕ → Bool) (t : ℕ) (ts before : List ℕ) → can t ≡ false → first_turn can (t ∷ before) ts ≡ first_turn can before (ts ++ t ∷ [])
comes_last can t [] before f = sym (ap (λ b. cond b (Some (t, [] ++ before ++ t ∷ [])) None) f)
comes_last can t (m ∷ ms) before f = by (can m) (comes_last can t ms (before ++ m ∷ []) f)
  where
    by : (b : Bool) → first_turn can (t ∷ (before ++ m ∷ [])) ms ≡ first_turn can (before ++ m ∷ []) (ms ++ t ∷ [])
        → cond b (Some (m, ms ++ (t ∷ before) ++ m ∷ [])) (first_turn can (t ∷ (before ++ m ∷ [])) ms) ≡ cond b (Some (m, (ms ++ t ∷ []) ++ before ++ m ∷ [])) (first_turn can (before ++ m ∷ []) (ms ++ t ∷ []))
    by true e = ap (λ (l : List ℕ). Some (m, l ++ m ∷ [])) (sym (append_assoc ms (t ∷ []) before))
    by false e = e

-- no turn comes where none has anything to do
pub none_first : (can : ℕ → Bool) (ts before : List ℕ) → AllByRecursion (λ t. can t ≡ false) ts → first_turn can before ts ≡ None
none_first can [] before a = refl
none_first can (m ∷ ms) before a = ap (λ b. cond b (Some (m, ms ++ before ++ m ∷ [])) (first_turn can (before ++ m ∷ []) ms)) a.0 ∙ none_first can ms (before ++ m ∷ []) a.1

-- what holds of each turn holds of all turns of a round
pub all_below : (P : ℕ → Type 0) (n : ℕ) → ((j : ℕ) → j < n → P j) → AllByRecursion P (below n)
all_below P zero f = tt
all_below P (suc n) f = append (below n) (all_below P n (λ j lt. f j (omega (arith, lt)))) (f n (omega arith))
  where
    append : (xs : List ℕ) → AllByRecursion P xs → P n → AllByRecursion P (xs ++ n ∷ [])
    append [] a p = (p, tt)
    append (x ∷ xs) a p = (a.0, append xs a.1 p)
