-- The turns of a round by their numbers.
use Rattle.std.proofs.Common.{◌≡◌, ◌⊎◌, inl, inr, ℕ, zero, suc, ◌+◌, ◌-◌, ◌*◌, ◌/◌, ◌%◌, ◌<◌, ◌≤◌, List, [], ◌∷◌, ◌++◌, length, map, refl, sym, ap, ◌∙◌, subst, arith, get_or, length-append, append_assoc}
use Rattle.std.specs.List.{flat_map}
use Rattle.std.proofs.Math.ListN.{get_or-append}
use Rattle.std.proofs.Math.Seq.{get_or-append_seam}
use Rattle.std.proofs.Math.Nat.{suc-mul, zero-mul, div-lt_iff_lt-mul}
use Rattle.std.proofs.lemmas.List.{length-map, get_or-map, get_or-append_right}
use Rattle.std.proofs.lemmas.Nat.{div-add-mod'}
use Rattle.nc_settle.specs.Turns.{below as turns_below}
use Rattle.nc_settle.proofs.FromTurn.{up, up_below}
use Rattle.nc_world.specs.Moves.{Move, Carries, Takes, Rests}
use Rattle.nc_world.specs.Lines.{below, pairs, round}
use Rattle.nc_turns.specs.Turns.{turn_count, turn_move}

pub length_below : (n : ℕ) → length (below n) ≡ n
length_below zero = refl
length_below (suc n) = length-append (below n) (n ∷ []) ∙ ap (λ (k : ℕ). k + 1) (length_below n) ∙ one n
  where
    one : (a : ℕ) → a + 1 ≡ suc a
    one a = omega arith

-- the numbers below one are themselves
pub at_below : (n i : ℕ) → i < n → get_or (below n) i 0 ≡ i
at_below zero i lt = absurd (omega (arith, lt))
at_below (suc n) i lt = by (λ l. at_below n i l) (near i n lt)
  where
    near : (a b : ℕ) → a < suc b → (a < b) ⊎ (a ≡ b)
    near a b lt = grind arith

    within : i < n → i < length (below n)
    within l = subst (λ k. i < k) (sym (length_below n)) l

    by : (i < n → get_or (below n) i 0 ≡ i) → (i < n) ⊎ (i ≡ n) → get_or (below n ++ n ∷ []) i 0 ≡ i
    by before (inl l) = get_or-append (below n) (n ∷ []) 0 i (within l) ∙ before l
    by before (inr e) = ap (λ k. get_or (below n ++ n ∷ []) k 0) (e ∙ sym (length_below n)) ∙ get_or-append_seam (below n) n [] 0 ∙ sym e

abbrev row : ℕ → ℕ → List (ℕ × ℕ)
row n w = map (λ v. (w, v)) (below n)

length_row : (n w : ℕ) → length (row n w) ≡ n
length_row n w = length-map (below n) (λ v. (w, v)) ∙ length_below n

at_row : (n w j : ℕ) (d : ℕ × ℕ) → j < n → get_or (row n w) j d ≡ (w, j)
at_row n w j d lt = get_or-map (λ v. (w, v)) (below n) j 0 d (subst (λ k. j < k) (sym (length_below n)) lt) ∙ ap (λ (v : ℕ). (w, v)) (at_below n j lt)

length_rows : (n : ℕ) (ws : List ℕ) → length (flat_map (row n) ws) ≡ length ws * n
length_rows n [] = sym (zero-mul n)
length_rows n (w ∷ ws) = length-append (row n w) (flat_map (row n) ws) ∙ (λ i. length_row n w i + length_rows n ws i) ∙ plus n (length ws * n) ∙ sym (suc-mul (length ws) n)
  where
    plus : (a b : ℕ) → a + b ≡ b + a
    plus a b = omega arith

-- the pair of two places of lists of numbers
at_rows : (n : ℕ) (ws : List ℕ) (i j k : ℕ) (d : ℕ × ℕ) → i < length ws → j < n → k ≡ i * n + j → get_or (flat_map (row n) ws) k d ≡ (get_or ws i 0, j)
at_rows n [] i j k d lt below e = absurd (omega (arith, lt))
at_rows n (w ∷ ws) zero j k d lt below e = ap (λ x. get_or (row n w ++ flat_map (row n) ws) x d) same ∙ get_or-append (row n w) (flat_map (row n) ws) d j (subst (λ x. j < x) (sym (length_row n w)) below) ∙ at_row n w j d below
  where
    same : k ≡ j
    same = e ∙ ap (λ (x : ℕ). x + j) (zero-mul n) ∙ none j
      where
        none : (a : ℕ) → 0 + a ≡ a
        none a = omega arith
at_rows n (w ∷ ws) (suc i) j k d lt below e = get_or-append_right (row n w) (flat_map (row n) ws) n k d (length_row n w) (omega (arith, parts)) ∙ at_rows n ws i j (k - n) d (omega (arith, lt)) below (omega (arith, parts))
  where
    parts : k ≡ i * n + n + j
    parts = e ∙ ap (λ (x : ℕ). x + j) (suc-mul i n)

length_pairs : (n : ℕ) → length (pairs n) ≡ n * n
length_pairs n = length_rows n (below n) ∙ ap (λ (k : ℕ). k * n) (length_below n)

some : (t n : ℕ) → t < n * n → 0 < n
some t zero lt = absurd (no t (zero-mul 0) lt)
  where
    no : (a : ℕ) → 0 * 0 ≡ 0 → a < 0 * 0 → ⊥
    no a e lt = omega (arith, e, lt)
some t (suc n) lt = omega arith

pub among : (n t : ℕ) → t < n * n → (t / n < n) × (t % n < n)
among n t lt = ((div-lt_iff_lt-mul (some t n lt)).1 lt, omega (arith, some t n lt))

at_pairs : (n t : ℕ) (d : ℕ × ℕ) → t < n * n → get_or (pairs n) t d ≡ (t / n, t % n)
at_pairs n t d lt = at_rows n (below n) (t / n) (t % n) t d (subst (λ k. t / n < k) (sym (length_below n)) quotient) (omega (arith, some t n lt)) (sym (div-add-mod' t n)) ∙ ap (λ (w : ℕ). (w, t % n)) (at_below n (t / n) quotient)
  where
    quotient : t / n < n
    quotient = (div-lt_iff_lt-mul (some t n lt)).1 lt

-- ---- moves

abbrev carries : ℕ × ℕ → Move
carries p = Carries p.0 p.1

abbrev takes : ℕ × ℕ → Move
takes p = Takes p.0 p.1

length_half : (n : ℕ) (f : ℕ × ℕ → Move) → length (map f (pairs n)) ≡ n * n
length_half n f = length-map (pairs n) f ∙ length_pairs n

pub length_round : (n : ℕ) → length (round n) ≡ turn_count n
length_round n = length-append (map carries (pairs n)) (map takes (pairs n)) ∙ (λ i. length_half n carries i + length_half n takes i)

at_half : (n t : ℕ) (f : ℕ × ℕ → Move) → t < n * n → get_or (map f (pairs n)) t Rests ≡ f (t / n, t % n)
at_half n t f lt = get_or-map f (pairs n) t (0, 0) Rests (subst (λ k. t < k) (sym (length_pairs n)) lt) ∙ ap f (at_pairs n t (0, 0) lt)

pub carry_turn : (n t : ℕ) → t < n * n → turn_move n t ≡ Carries (t / n) (t % n)
carry_turn n t lt = get_or-append (map carries (pairs n)) (map takes (pairs n)) Rests t (subst (λ k. t < k) (sym (length_half n carries)) lt) ∙ at_half n t carries lt

pub take_turn : (n t : ℕ) → n * n ≤ t → t - n * n < n * n → turn_move n t ≡ Takes ((t - n * n) / n) ((t - n * n) % n)
take_turn n t le lt = get_or-append_right (map carries (pairs n)) (map takes (pairs n)) (n * n) t Rests (length_half n carries) le ∙ at_half n (t - n * n) takes lt

beyond : {X : Type 0} (xs : List X) (k : ℕ) (d : X) → length xs ≤ k → get_or xs k d ≡ d
beyond [] k d le = refl
beyond (x ∷ xs) zero d le = absurd (omega (arith, le))
beyond (x ∷ xs) (suc k) d le = beyond xs k d (omega (arith, le))

pub no_turn : (n t : ℕ) → n * n ≤ t → n * n ≤ t - n * n → turn_move n t ≡ Rests
no_turn n t le more = beyond (round n) t Rests (subst (λ k. k ≤ t) (sym (length_round n)) (omega (arith, le, more)))

-- ---- all turns of a round

at_all : {X : Type 0} (d : X) (before xs : List X) → map (λ t. get_or (before ++ xs) t d) (up (length before) (length xs)) ≡ xs
at_all d before [] = refl
at_all d before (x ∷ xs) = (λ i. get_or-append_seam before x xs d i ∷ (rest ∙ at_all d (before ++ x ∷ []) xs) i)
  where
    grown : before ++ x ∷ xs ≡ (before ++ x ∷ []) ++ xs
    grown = sym (append_assoc before (x ∷ []) xs)

    one : suc (length before) ≡ length (before ++ x ∷ [])
    one = plus (length before) ∙ sym (length-append before (x ∷ []))
      where
        plus : (a : ℕ) → suc a ≡ a + 1
        plus a = omega arith

    rest : map (λ t. get_or (before ++ x ∷ xs) t d) (up (suc (length before)) (length xs)) ≡ map (λ t. get_or ((before ++ x ∷ []) ++ xs) t d) (up (length (before ++ x ∷ [])) (length xs))
    rest = λ i. map (λ t. get_or (grown i) t d) (up (one i) (length xs))

-- the turns of a round are its moves
pub all_turns : (n : ℕ) → map (turn_move n) (turns_below (turn_count n)) ≡ round n
all_turns n = ap (map (turn_move n)) (ap turns_below (sym (length_round n)) ∙ sym (up_below (length (round n)))) ∙ at_all Rests [] (round n)
