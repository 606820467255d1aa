-- Two values with a text between them, and a choice by the first byte.
use Rattle.std.proofs.Common.{◌≡◌, ◌≢◌, ℕ, Bool, true, false, cond, eqb, List, [], ◌∷◌, ◌++◌, refl, sym, ap, subst, ◌∙◌}
use Rattle.std.proofs.lemmas.Bool.{both_ways, eq-eqb, ne_eqb, or_left, or_right}
use Rattle.std.proofs.lemmas.List.{append-nil}
use Rattle.nc_grammar.specs.Reading.{Read, Found, Stuck}
use Rattle.nc_grammar.specs.Label.{field_at}
use Rattle.nc_grammar.specs.Maybe.{two_at, if_first, if_first_by}
use Rattle.nc_grammar.proofs.Split.{head_is, not_nil}
use Rattle.nc_grammar.proofs.Exact.{Blocked, IsRightReading, IsSet, IsExact, IsExact-same}
use Rattle.nc_grammar.proofs.Label.{nothing}
use Rattle.nc_grammar.proofs.Seq.{Both, both_exact, either}
use Rattle.nc_grammar.proofs.Rows.{IsLabelled, labelled_exact}

pub record IsTwo {A B : Type 0} (label : List ℕ) (L : A → List ℕ → Type 0) (M : B → List ℕ → Type 0) (x : A × B) (u : List ℕ) : Type 0 where
  pub left : List ℕ
  pub right : List ℕ
  pub first : L x.0 left
  pub second : M x.1 right
  pub parts : u ≡ left ++ (label ++ right)

pub two_exact : {A B : Type 0} (c : ℕ) (cs : List ℕ) (L : A → List ℕ → Type 0) (M : B → List ℕ → Type 0) (stays later : ℕ → Bool) (f : List ℕ → Read A) (g : List ℕ → Read B)
    → stays c ≡ false → IsExact L stays f → IsExact M later g → IsExact (IsTwo (c ∷ cs) L M) (either stays (either nothing later)) (two_at (c ∷ cs) f g)
two_exact c cs L M stays later f g apart x y =
    IsExact-same (Both L (λ a. IsLabelled (c ∷ cs) M)) (IsTwo (c ∷ cs) L M) (either stays (either nothing later)) (two_at (c ∷ cs) f g)
    (λ a u m. record { left = m.left; right = m.second.rest; first = m.first; second = m.second.value; parts = m.parts ∙ ap (λ (l : List ℕ). m.left ++ l) m.second.parts })
    (λ a u m. record { left = m.left; right = (c ∷ cs) ++ m.right; first = m.first; second = record { rest = m.right; value = m.second; parts = refl }; parts = m.parts })
    (both_exact L (λ a. IsLabelled (c ∷ cs) M) stays (either nothing later) f (λ a. field_at (c ∷ cs) g) x (λ a u h. labelled_exact (c ∷ cs) M later g y)
    (λ a b d v h. subst (λ (k : ℕ). stays k ≡ false) (sym (head_is d c v (cs ++ h.rest) h.parts)) apart))

-- ---- a choice by the first byte

pub data IsEither {A : Type 0} (L M : A → List ℕ → Type 0) (a : A) (u : List ℕ) : Type 0 where
  on_left : L a u → IsEither L M a u
  on_right : M a u → IsEither L M a u

-- the texts of the one begin with a byte that passes a test, those of the other with a byte that does not
pub record IsChoiceBy {A : Type 0} (test : ℕ → Bool) (L M : A → List ℕ → Type 0) : Type 0 where
  pub begins : (a : A) (c : ℕ) (s : List ℕ) → L a (c ∷ s) → test c ≡ true
  pub others : (a : A) (c : ℕ) (s : List ℕ) → M a (c ∷ s) → test c ≡ false
  pub some : (a : A) → L a [] → ⊥
  pub some_others : (a : A) → M a [] → ⊥

-- behind a byte that passes the test, none of the other set goes on
left_blocked : {A : Type 0} (test : ℕ → Bool) (L M : A → List ℕ → Type 0) → IsChoiceBy test L M → (c : ℕ) (r : List ℕ) → test c ≡ true → (p q : List ℕ) → c ∷ r ≡ p ++ q → Blocked L p q → Blocked (IsEither L M) p q
left_blocked test L M k c r passes p [] e h = tt
left_blocked {A = A} test L M k c r passes p (d ∷ q) e h = λ a s n. by_side p e h a s n
  where
    by_side : (p : List ℕ) → c ∷ r ≡ p ++ d ∷ q → Blocked L p (d ∷ q) → (a : A) (s : List ℕ) → IsEither L M a (p ++ d ∷ s) → ⊥
    by_side p e h a s (on_left l) = h a s l
    by_side [] e h a s (on_right l) = both_ways (test d) (k.others a d s l) (subst (λ (i : ℕ). test i ≡ true) (head_is c d r q e) passes)
    by_side (b ∷ p) e h a s (on_right l) = both_ways (test b) (k.others a b (p ++ d ∷ s) l) (subst (λ (i : ℕ). test i ≡ true) (head_is c b r (p ++ d ∷ q) e) passes)

left_none : {A : Type 0} (test : ℕ → Bool) (L M : A → List ℕ → Type 0) → IsChoiceBy test L M → (c : ℕ) (r : List ℕ) → test c ≡ true → (p q : List ℕ) → c ∷ r ≡ p ++ q → ((a : A) → L a p → ⊥) → (a : A) → IsEither L M a p → ⊥
left_none test L M k c r passes p q e h a (on_left l) = h a l
left_none test L M k c r passes [] q e h a (on_right l) = k.some_others a l
left_none test L M k c r passes (d ∷ p) q e h a (on_right l) = both_ways (test d) (k.others a d p l) (subst (λ (i : ℕ). test i ≡ true) (head_is c d r (p ++ q) e) passes)

left_tells : {A : Type 0} (test : ℕ → Bool) (L M : A → List ℕ → Type 0) → IsChoiceBy test L M → (c : ℕ) (r : List ℕ) → test c ≡ true → (x : Read A) → IsRightReading L (c ∷ r) x → IsRightReading (IsEither L M) (c ∷ r) x
left_tells test L M k c r passes (Found a q) m = record { front = m.front; text = on_left m.text; parts = m.parts; blocked = left_blocked test L M k c r passes m.front q m.parts m.blocked }
left_tells test L M k c r passes (Stuck q) m =
    record {
      front = m.front;
      begun = record { value = m.begun.value; rest = m.begun.rest; text = on_left m.begun.text };
      parts = m.parts;
      blocked = left_blocked test L M k c r passes m.front q m.parts m.blocked;
      none = left_none test L M k c r passes m.front q m.parts m.none;
    }

-- a text that is empty or begins with a byte that does not pass
abbrev NotBegun : (ℕ → Bool) → List ℕ → Type 0
NotBegun test t = (c : ℕ) (w : List ℕ) → t ≡ c ∷ w → test c ≡ true → ⊥

right_blocked : {A : Type 0} (test : ℕ → Bool) (L M : A → List ℕ → Type 0) → IsChoiceBy test L M → (t : List ℕ) → NotBegun test t → (p q : List ℕ) → t ≡ p ++ q → Blocked M p q → Blocked (IsEither L M) p q
right_blocked test L M k t other p [] e h = tt
right_blocked {A = A} test L M k t other p (c ∷ q) e h = λ a s n. by_side p e h a s n
  where
    by_side : (p : List ℕ) → t ≡ p ++ c ∷ q → Blocked M p (c ∷ q) → (a : A) (s : List ℕ) → IsEither L M a (p ++ c ∷ s) → ⊥
    by_side p e h a s (on_right l) = h a s l
    by_side [] e h a s (on_left l) = other c q e (k.begins a c s l)
    by_side (d ∷ p) e h a s (on_left l) = other d (p ++ c ∷ q) e (k.begins a d (p ++ c ∷ s) l)

right_none : {A : Type 0} (test : ℕ → Bool) (L M : A → List ℕ → Type 0) → IsChoiceBy test L M → (t : List ℕ) → NotBegun test t → (p q : List ℕ) → t ≡ p ++ q → ((a : A) → M a p → ⊥) → (a : A) → IsEither L M a p → ⊥
right_none test L M k t other p q e h a (on_right l) = h a l
right_none test L M k t other [] q e h a (on_left l) = k.some a l
right_none test L M k t other (d ∷ p) q e h a (on_left l) = other d (p ++ q) e (k.begins a d p l)

right_tells : {A : Type 0} (test : ℕ → Bool) (L M : A → List ℕ → Type 0) → IsChoiceBy test L M → (t : List ℕ) → NotBegun test t → (x : Read A) → IsRightReading M t x → IsRightReading (IsEither L M) t x
right_tells test L M k t other (Found a q) m = record { front = m.front; text = on_right m.text; parts = m.parts; blocked = right_blocked test L M k t other m.front q m.parts m.blocked }
right_tells test L M k t other (Stuck q) m =
    record {
      front = m.front;
      begun = record { value = m.begun.value; rest = m.begun.rest; text = on_right m.begun.text };
      parts = m.parts;
      blocked = right_blocked test L M k t other m.front q m.parts m.blocked;
      none = right_none test L M k t other m.front q m.parts m.none;
    }

choice_tells : {A : Type 0} (test : ℕ → Bool) (L M : A → List ℕ → Type 0) (f g : List ℕ → Read A) → IsChoiceBy test L M → ((t : List ℕ) → IsRightReading L t (f t)) → ((t : List ℕ) → IsRightReading M t (g t)) → (t : List ℕ) → IsRightReading (IsEither L M) t (if_first_by test f g t)
choice_tells test L M f g k x y [] = right_tells test L M k [] (λ c w e passes. not_nil c w (sym e)) (g []) (y [])
choice_tells test L M f g k x y (c ∷ r) =
    (elim (test c) as (λ i. test c ≡ i → IsRightReading (IsEither L M) (c ∷ r) (cond i (f (c ∷ r)) (g (c ∷ r)))) [
      | true ↦ λ e. left_tells test L M k c r e (f (c ∷ r)) (x (c ∷ r))
      | false ↦ λ e. right_tells test L M k (c ∷ r) (λ d w h passes. both_ways (test c) e (subst (λ (i : ℕ). test i ≡ true) (sym (head_is c d r w h)) passes)) (g (c ∷ r)) (y (c ∷ r))
    ]) refl

-- no text of one set is or begins a text of the other
choice_apart : {A : Type 0} (test : ℕ → Bool) (L M : A → List ℕ → Type 0) → IsChoiceBy test L M → (a d : A) (u s : List ℕ) → L a u → M d (u ++ s) → ⊥
choice_apart test L M k a d [] s l m = k.some a l
choice_apart test L M k a d (c ∷ u) s l m = both_ways (test c) (k.others d c (u ++ s) m) (k.begins a c u l)

choice_apart_back : {A : Type 0} (test : ℕ → Bool) (L M : A → List ℕ → Type 0) → IsChoiceBy test L M → (a d : A) (u s : List ℕ) → M a u → L d (u ++ s) → ⊥
choice_apart_back test L M k a d [] s m l = k.some_others a m
choice_apart_back test L M k a d (c ∷ u) s m l = both_ways (test c) (k.others a c u m) (k.begins d c (u ++ s) l)

choice_unique : {A : Type 0} (test : ℕ → Bool) (L M : A → List ℕ → Type 0) (stays later : ℕ → Bool) → IsChoiceBy test L M → IsSet L stays → IsSet M later → (a d : A) (u : List ℕ) → IsEither L M a u → IsEither L M d u → a ≡ d
choice_unique test L M stays later k x y a d u (on_left m) (on_left n) = x.unique a d u m n
choice_unique test L M stays later k x y a d u (on_left m) (on_right n) = absurd (choice_apart test L M k a d u [] m (subst (M d) (sym (append-nil u)) n))
choice_unique test L M stays later k x y a d u (on_right m) (on_left n) = absurd (choice_apart_back test L M k a d u [] m (subst (L d) (sym (append-nil u)) n))
choice_unique test L M stays later k x y a d u (on_right m) (on_right n) = y.unique a d u m n

choice_stay : {A : Type 0} (test : ℕ → Bool) (L M : A → List ℕ → Type 0) (stays later : ℕ → Bool) → IsChoiceBy test L M → IsSet L stays → IsSet M later → (a d : A) (u : List ℕ) (c : ℕ) (s : List ℕ) → IsEither L M a u → IsEither L M d (u ++ c ∷ s) → either stays later c ≡ true
choice_stay test L M stays later k x y a d u c s (on_left m) (on_left n) = or_left (stays c) (later c) (x.stay a d u c s m n)
choice_stay test L M stays later k x y a d u c s (on_left m) (on_right n) = absurd (choice_apart test L M k a d u (c ∷ s) m n)
choice_stay test L M stays later k x y a d u c s (on_right m) (on_left n) = absurd (choice_apart_back test L M k a d u (c ∷ s) m n)
choice_stay test L M stays later k x y a d u c s (on_right m) (on_right n) = or_right (stays c) (later c) (y.stay a d u c s m n)

-- Two readers that are right are right together, where a test of the first byte tells their texts apart.
pub choice_by_exact : {A : Type 0} (test : ℕ → Bool) (L M : A → List ℕ → Type 0) (stays later : ℕ → Bool) (f g : List ℕ → Read A) → IsChoiceBy test L M → IsExact L stays f → IsExact M later g → IsExact (IsEither L M) (either stays later) (if_first_by test f g)
choice_by_exact test L M stays later f g k x y =
    record {
      set = record {
        unique = choice_unique test L M stays later k x.set y.set;
        stay = choice_stay test L M stays later k x.set y.set;
        some = x.set.some;
        some_text = x.set.some_text;
        has_some = on_left x.set.has_some;
      };
      tells = choice_tells test L M f g k x.tells y.tells;
    }

-- the texts of the one begin with a byte, those of the other with another
pub record IsChoice {A : Type 0} (b : ℕ) (L M : A → List ℕ → Type 0) : Type 0 where
  pub begins : (a : A) (c : ℕ) (s : List ℕ) → L a (c ∷ s) → c ≡ b
  pub others : (a : A) (c : ℕ) (s : List ℕ) → M a (c ∷ s) → c ≢ b
  pub some : (a : A) → L a [] → ⊥
  pub some_others : (a : A) → M a [] → ⊥

by_byte : {A : Type 0} (b : ℕ) (L M : A → List ℕ → Type 0) → IsChoice b L M → IsChoiceBy (λ c. eqb c b) L M
by_byte b L M k = record { begins = λ a c s l. eq-eqb c b (k.begins a c s l); others = λ a c s m. ne_eqb c b (k.others a c s m); some = k.some; some_others = k.some_others }

pub choice_exact : {A : Type 0} (b : ℕ) (L M : A → List ℕ → Type 0) (stays later : ℕ → Bool) (f g : List ℕ → Read A) → IsChoice b L M → IsExact L stays f → IsExact M later g → IsExact (IsEither L M) (either stays later) (if_first b f g)
choice_exact b L M stays later f g k x y = choice_by_exact (λ c. eqb c b) L M stays later f g (by_byte b L M k) x y
