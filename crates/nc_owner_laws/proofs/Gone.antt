-- Elements of a list that go one after the other leave the others.
use Rattle.std.proofs.Common.{◌≡◌, Bool, true, false, cond, not, List, [], ◌∷◌, ◌++◌, refl, ap, ◌∙◌, append_assoc, map, filter, fold}

module _ {X K : Type 0} (key : X → K) (same : K → K → Bool) where
  -- without the elements of a key
  abbrev pub without : List X → K → List X
  without xs k = filter (λ x. not (same (key x) k)) xs

  -- no element has this key, and no two have the same
  abbrev pub Lacks : K → List X → Type 0
  Lacks k [] = Unit {0}
  Lacks k (x ∷ xs) = ((same (key x) k ≡ false) × (same k (key x) ≡ false)) × Lacks k xs

  abbrev pub Apart : List X → Type 0
  Apart [] = Unit {0}
  Apart (x ∷ xs) = Lacks (key x) xs × Apart xs

  keep : (k : K) (x : X) (xs : List X) → same (key x) k ≡ false → without (x ∷ xs) k ≡ x ∷ without xs k
  keep k x xs n = ap (λ b. cond (not b) (x ∷ without xs k) (without xs k)) n

  pub kept_all : (k : K) (xs : List X) → Lacks k xs → without xs k ≡ xs
  kept_all k [] l = refl
  kept_all k (x ∷ xs) l = keep k x xs l.0.0 ∙ ap (λ (ys : List X). x ∷ ys) (kept_all k xs l.1)

  lacks_mid : (k : K) (front xs : List X) (x : X) → Lacks k (front ++ x ∷ xs) → ((same (key x) k ≡ false) × (same k (key x) ≡ false)) × Lacks k (front ++ xs)
  lacks_mid k [] xs x l = l
  lacks_mid k (f ∷ front) xs x l = let r = lacks_mid k front xs x l.1 in (r.0, (l.0, r.1))

  module _ (itself : (k : K) → same k k ≡ true) where
    pub one_gone : (front xs : List X) (x : X) → Apart (front ++ x ∷ xs) → (without (front ++ x ∷ xs) (key x) ≡ front ++ xs) × Apart (front ++ xs)
    one_gone [] xs x a = (ap (λ b. cond (not b) (x ∷ without xs (key x)) (without xs (key x))) (itself (key x)) ∙ kept_all (key x) xs a.0, a.1)
    one_gone (f ∷ front) xs x a =
        let r = one_gone front xs x a.1 in
        let m = lacks_mid (key f) front xs x a.0 in
        (keep (key x) f (front ++ x ∷ xs) m.0.1 ∙ ap (λ (ys : List X). f ∷ ys) r.0, (m.1, r.1))

    abbrev Gone : (X → Bool) → List X → List X → Type 0
    Gone p front xs = fold without (front ++ xs) (map key (filter p xs)) ≡ front ++ filter (λ x. not (p x)) xs

    gone_case : (p : X → Bool) (front xs : List X) (x : X) → Apart (front ++ x ∷ xs) → Gone p front xs → Gone p (front ++ x ∷ []) xs → (b : Bool) → p x ≡ b → Gone p front (x ∷ xs)
    gone_case p front xs x a leaves stays true y = rw y (ap (λ (l : List X). fold without l (map key (filter p xs))) (one_gone front xs x a).0 ∙ leaves)
    gone_case p front xs x a leaves stays false n = rw n (let stays' = simp append_assoc at stays in stays')

    pub gone : (p : X → Bool) (front xs : List X) → Apart (front ++ xs) → Gone p front xs
    gone p front [] a = refl
    gone p front (x ∷ xs) a = gone_case p front xs x a (gone p front xs (one_gone front xs x a).1) (gone p (front ++ x ∷ []) xs (rw append_assoc a)) (p x) refl

    pub front_gone : (xs ys : List X) → Apart (xs ++ ys) → fold without (xs ++ ys) (map key xs) ≡ ys
    front_gone [] ys a = refl
    front_gone (x ∷ xs) ys a = let r = one_gone [] (xs ++ ys) x a in ap (λ (l : List X). fold without l (map key xs)) r.0 ∙ front_gone xs ys r.1
