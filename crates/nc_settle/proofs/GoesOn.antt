-- How settling goes on behind the moves that were made.
use Rattle.std.proofs.Common.{◌≡◌, ◌≢◌, ℕ, zero, suc, ◌+◌, ◌-◌, ◌<◌, ◌≤◌, Bool, true, false, cond, List, [], ◌∷◌, ◌++◌, Option, Some, None, refl, sym, ap, ◌∙◌, subst, arith}
use Rattle.std.proofs.lemmas.List.{append-nil}
use Rattle.std.specs.List.{AllByRecursion}
use Rattle.nc_settle.specs.Turns.{first_turn}
use Rattle.nc_settle.specs.Settle.{turned, settled, one_more, turned_worn, before_worn}
use Rattle.nc_settle.proofs.FromTurn.{from_turn, rest_of, from_next, next_from, comes_last, none_first}

-- so many moves more
abbrev pub more : ℕ → Option ℕ → Option ℕ
more m None = None
more m (Some x) = Some (m + x)

more_none : (o : Option ℕ) → more 0 o ≡ o
more_none None = refl
more_none (Some x) = ap (λ (k : ℕ). Some k) (omega arith)

more_one : (m : ℕ) (o : Option ℕ) → more m (one_more o) ≡ more (m + 1) o
more_one m None = refl
more_one m (Some x) = ap (λ (k : ℕ). Some k) (plus m x)
  where
    plus : (m x : ℕ) → m + suc x ≡ m + 1 + x
    plus m x = omega arith

no_moves : (b : Bool) → (let o : Option ℕ = cond b None None in o) ≡ None
no_moves true = refl
no_moves false = refl

module _ {W : Type 0} (can worn : W → ℕ → Bool) (moved : ℕ → W → W) (idle : W → Bool) where
  -- ---- what comes first

  -- a turn that has nothing to do
  skips : (n t : ℕ) (rest : List ℕ) (w : W) → can w t ≡ false → settled can moved idle n (t ∷ rest) w ≡ settled can moved idle n (rest ++ t ∷ []) w
  skips zero t rest w f = refl
  skips (suc n) t rest w f = ap (λ (o : Option (ℕ × List ℕ)). cond (idle w) w (turned can moved idle o w (λ r x. settled can moved idle n r x)))
      (ap (λ b. cond b (Some (t, rest ++ [] ++ t ∷ [])) (first_turn (can w) (t ∷ []) rest)) f ∙ comes_last (can w) t rest [] f)

  skips_worn : (n t : ℕ) (rest : List ℕ) (w : W) → can w t ≡ false → before_worn can worn moved idle n (t ∷ rest) w ≡ before_worn can worn moved idle n (rest ++ t ∷ []) w
  skips_worn zero t rest w f = refl
  skips_worn (suc n) t rest w f = ap (λ (o : Option (ℕ × List ℕ)). cond (idle w) None (turned_worn can worn moved idle o w (λ r x. before_worn can worn moved idle n r x)))
      (ap (λ b. cond b (Some (t, rest ++ [] ++ t ∷ [])) (first_turn (can w) (t ∷ []) rest)) f ∙ comes_last (can w) t rest [] f)

  -- a turn that does something
  makes : (n t : ℕ) (rest : List ℕ) (w : W) → idle w ≡ false → can w t ≡ true → settled can moved idle (suc n) (t ∷ rest) w ≡ settled can moved idle n (rest ++ t ∷ []) (moved t w)
  makes n t rest w i c = ap (λ b. cond b w (turned can moved idle (first_turn (can w) [] (t ∷ rest)) w (λ r x. settled can moved idle n r x))) i
      ∙ ap (λ b. turned can moved idle (cond b (Some (t, rest ++ [] ++ t ∷ [])) (first_turn (can w) (t ∷ []) rest)) w (λ r x. settled can moved idle n r x)) c
      ∙ ap (λ (l : List ℕ). settled can moved idle n (l ++ t ∷ []) (moved t w)) (append-nil rest)

  first_worn : (n t : ℕ) (rest : List ℕ) (w : W) → idle w ≡ false → can w t ≡ true
      → before_worn can worn moved idle (suc n) (t ∷ rest) w ≡ cond (worn w t) (Some 0) (one_more (before_worn can worn moved idle n (rest ++ t ∷ []) (moved t w)))
  first_worn n t rest w i c = ap (λ b. cond b None (turned_worn can worn moved idle (first_turn (can w) [] (t ∷ rest)) w (λ r x. before_worn can worn moved idle n r x))) i
      ∙ ap (λ b. turned_worn can worn moved idle (cond b (Some (t, rest ++ [] ++ t ∷ [])) (first_turn (can w) (t ∷ []) rest)) w (λ r x. before_worn can worn moved idle n r x)) c
      ∙ ap (λ (l : List ℕ). cond (worn w t) (Some 0) (one_more (before_worn can worn moved idle n (l ++ t ∷ []) (moved t w)))) (append-nil rest)

  -- an idle machine
  rests : (n : ℕ) (turns : List ℕ) (w : W) → idle w ≡ true → settled can moved idle n turns w ≡ w
  rests zero turns w i = refl
  rests (suc n) turns w i = ap (λ b. cond b w (turned can moved idle (first_turn (can w) [] turns) w (λ r x. settled can moved idle n r x))) i

  rests_worn : (n : ℕ) (turns : List ℕ) (w : W) → idle w ≡ true → before_worn can worn moved idle n turns w ≡ None
  rests_worn zero turns w i = refl
  rests_worn (suc n) turns w i = ap (λ b. cond b None (turned_worn can worn moved idle (first_turn (can w) [] turns) w (λ r x. before_worn can worn moved idle n r x))) i

  -- no turn has anything to do
  stops : (n : ℕ) (turns : List ℕ) (w : W) → AllByRecursion (λ t. can w t ≡ false) turns → settled can moved idle n turns w ≡ w
  stops zero turns w a = refl
  stops (suc n) turns w a = ap (λ (o : Option (ℕ × List ℕ)). cond (idle w) w (turned can moved idle o w (λ r x. settled can moved idle n r x))) (none_first (can w) turns [] a) ∙ same (idle w)
    where
      same : (b : Bool) → cond b w w ≡ w
      same true = refl
      same false = refl

  stops_worn : (n : ℕ) (turns : List ℕ) (w : W) → AllByRecursion (λ t. can w t ≡ false) turns → before_worn can worn moved idle n turns w ≡ None
  stops_worn zero turns w a = refl
  stops_worn (suc n) turns w a = ap (λ (o : Option (ℕ × List ℕ)). cond (idle w) None (turned_worn can worn moved idle o w (λ r x. before_worn can worn moved idle n r x))) (none_first (can w) turns [] a) ∙ no_moves (idle w)

  -- ---- behind some moves

  -- so many moves led from a world and its turns to another: from there settling goes on, whatever its number
  pub record GoesOn (start : List ℕ) (first : W) (made : ℕ) (turns : List ℕ) (w : W) : Type 0 where
    pub leaves : (n k : ℕ) → n ≡ made + k → settled can moved idle n start first ≡ settled can moved idle k turns w
    pub meets : (n k : ℕ) → n ≡ made + k → before_worn can worn moved idle n start first ≡ more made (before_worn can worn moved idle k turns w)

  pub begins : (start : List ℕ) (first : W) → GoesOn start first 0 start first
  begins start first = record {
    leaves = λ n k e. ap (λ (m : ℕ). settled can moved idle m start first) (same n k e);
    meets = λ n k e. ap (λ (m : ℕ). before_worn can worn moved idle m start first) (same n k e) ∙ sym (more_none (before_worn can worn moved idle k start first));
  }
    where
      same : (n k : ℕ) → n ≡ 0 + k → n ≡ k
      same n k e = omega (arith, e)

  pub lands : (start : List ℕ) (first : W) (m n : ℕ) → m ≡ n → (w x : W) → w ≡ x → (turns : List ℕ) → GoesOn start first m turns w → GoesOn start first n turns x
  lands start first m n e w x f turns g = subst (λ (k : ℕ). GoesOn start first k turns x) e (subst (λ (y : W). GoesOn start first m turns y) f g)

  -- how settling of so many moves ends: the world, and how many moves came before a worn one
  pub record Ends (start : List ℕ) (first : W) (n made : ℕ) (w : W) (met : Option ℕ) : Type 0 where
    pub leaves : settled can moved idle made start first ≡ w
    pub meets : before_worn can worn moved idle n start first ≡ met

  module _ (start : List ℕ) (first : W) (made : ℕ) (w : W) where
    pub goes_with : (xs ys : List ℕ) → xs ≡ ys → GoesOn start first made xs w → GoesOn start first made ys w
    goes_with xs ys e g = subst (λ (l : List ℕ). GoesOn start first made l w) e g

    -- behind a turn that has nothing to do
    pub skip_on : (t turns : ℕ) → t < turns → can w t ≡ false → GoesOn start first made (from_turn t turns) w → GoesOn start first made (from_turn (t + 1) turns) w
    skip_on t turns lt f g = record {
      leaves = λ n k e. g.leaves n k e ∙ ap (λ (l : List ℕ). settled can moved idle k l w) (from_next t turns lt) ∙ skips k t (rest_of t turns) w f ∙ ap (λ (l : List ℕ). settled can moved idle k l w) (next_from t turns);
      meets = λ n k e. g.meets n k e ∙ ap (λ (l : List ℕ). more made (before_worn can worn moved idle k l w)) (from_next t turns lt) ∙ ap (more made) (skips_worn k t (rest_of t turns) w f) ∙ ap (λ (l : List ℕ). more made (before_worn can worn moved idle k l w)) (next_from t turns);
    }

    -- behind a turn that does something
    pub move_on : (t turns : ℕ) → t < turns → idle w ≡ false → can w t ≡ true → worn w t ≡ false → GoesOn start first made (from_turn t turns) w
        → GoesOn start first (made + 1) (from_turn (t + 1) turns) (moved t w)
    move_on t turns lt i c b g = record {
      leaves = λ n k e. g.leaves n (suc k) (one n k e) ∙ ap (λ (l : List ℕ). settled can moved idle (suc k) l w) (from_next t turns lt)
          ∙ makes k t (rest_of t turns) w i c ∙ ap (λ (l : List ℕ). settled can moved idle k l (moved t w)) (next_from t turns);
      meets = λ n k e. g.meets n (suc k) (one n k e) ∙ ap (λ (l : List ℕ). more made (before_worn can worn moved idle (suc k) l w)) (from_next t turns lt)
          ∙ ap (more made) (first_worn k t (rest_of t turns) w i c ∙ ap (λ x. cond x (Some 0) (one_more (before_worn can worn moved idle k (rest_of t turns ++ t ∷ []) (moved t w)))) b)
          ∙ more_one made (before_worn can worn moved idle k (rest_of t turns ++ t ∷ []) (moved t w))
          ∙ ap (λ (l : List ℕ). more (made + 1) (before_worn can worn moved idle k l (moved t w))) (next_from t turns);
    }
      where
        one : (n k : ℕ) → n ≡ made + 1 + k → n ≡ made + suc k
        one n k e = omega (arith, e)

    -- all moves were made
    pub ends_made : (turns : List ℕ) → GoesOn start first made turns w → Ends start first made made w None
    ends_made turns g = record { leaves = g.leaves made 0 (none made); meets = g.meets made 0 (none made) }
      where
        none : (m : ℕ) → m ≡ m + 0
        none m = omega arith

    -- nothing is left to do
    pub ends_idle : (n : ℕ) (turns : List ℕ) → made ≤ n → idle w ≡ true → GoesOn start first made turns w → Ends start first n n w None
    ends_idle n turns le i g = record {
      leaves = g.leaves n (n - made) (parts n made le) ∙ rests (n - made) turns w i;
      meets = g.meets n (n - made) (parts n made le) ∙ ap (more made) (rests_worn (n - made) turns w i);
    }
      where
        parts : (n m : ℕ) → m ≤ n → n ≡ m + (n - m)
        parts n m le = omega (arith, le)

    -- no turn of a round has anything to do
    pub ends_stopped : (n : ℕ) (turns : List ℕ) → made ≤ n → AllByRecursion (λ t. can w t ≡ false) turns → GoesOn start first made turns w → Ends start first n n w None
    ends_stopped n turns le a g = record {
      leaves = g.leaves n (n - made) (parts n made le) ∙ stops (n - made) turns w a;
      meets = g.meets n (n - made) (parts n made le) ∙ ap (more made) (stops_worn (n - made) turns w a);
    }
      where
        parts : (n m : ℕ) → m ≤ n → n ≡ m + (n - m)
        parts n m le = omega (arith, le)

    -- the next turn meets somebody worn
    pub ends_worn : (n t turns : ℕ) → made ≤ n → made ≢ n → t < turns → idle w ≡ false → can w t ≡ true → worn w t ≡ true → GoesOn start first made (from_turn t turns) w → Ends start first n made w (Some made)
    ends_worn n t turns le ne lt i c b g = record {
      leaves = g.leaves made 0 (none made);
      meets = g.meets n (suc (n - made - 1)) (parts n made le ne) ∙ ap (λ (l : List ℕ). more made (before_worn can worn moved idle (suc (n - made - 1)) l w)) (from_next t turns lt)
          ∙ ap (more made) (first_worn (n - made - 1) t (rest_of t turns) w i c ∙ ap (λ x. cond x (Some 0) (one_more (before_worn can worn moved idle (n - made - 1) (rest_of t turns ++ t ∷ []) (moved t w)))) b)
          ∙ ap (λ (k : ℕ). Some k) (sym (none made));
    }
      where
        none : (m : ℕ) → m ≡ m + 0
        none m = omega arith

        parts : (n m : ℕ) → m ≤ n → m ≢ n → n ≡ m + suc (n - m - 1)
        parts n m le ne = omega (arith, le, ne)
