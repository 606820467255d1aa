-- One reader after another.
use Rattle.std.proofs.Common.{◌≡◌, ℕ, Bool, true, false, List, [], ◌∷◌, ◌++◌, refl, sym, ap, subst, ◌∙◌, append_assoc}
use Rattle.std.specs.Prelude.{◌||◌}
use Rattle.std.proofs.lemmas.Bool.{both_ways, or_left, or_right}
use Rattle.std.proofs.lemmas.List.{append-nil}
use Rattle.nc_grammar.specs.Reading.{Read, Found, Stuck, go_on, with_first, Begins}
use Rattle.nc_grammar.proofs.Split.{longer, shorter, same, split, head_is, not_nil}
use Rattle.nc_grammar.proofs.Exact.{Blocked, IsFound, IsRightReading, IsSet, IsExact}

pub record Both {A B : Type 0} (L : A → List ℕ → Type 0) (K : A → B → List ℕ → Type 0) (x : A × B) (t : List ℕ) : Type 0 where
  pub left : List ℕ
  pub right : List ℕ
  pub first : L x.0 left
  pub second : K x.0 x.1 right
  pub parts : t ≡ left ++ right

abbrev pub read_both : {A B : Type 0} → (List ℕ → Read A) → (A → List ℕ → Read B) → List ℕ → Read (A × B)
read_both f g t = go_on (f t) (λ a r. with_first a (g a r))

-- the next byte of a text is the same, whatever is behind it
same_next : (p : List ℕ) (c : ℕ) (s r : List ℕ) (d : ℕ) (w : List ℕ) → p ++ c ∷ s ≡ d ∷ w → (v : List ℕ) × (p ++ c ∷ r ≡ d ∷ v)
same_next [] c s r d w e = (r, ap (λ (k : ℕ). k ∷ r) (head_is c d s w e))
same_next (b ∷ p) c s r d w e = (p ++ c ∷ r, ap (λ (k : ℕ). k ∷ (p ++ c ∷ r)) (head_is b d (p ++ c ∷ s) w e))

blocked_at : {A : Type 0} (L : A → List ℕ → Type 0) (u r : List ℕ) (d : ℕ) (v z : List ℕ) (a : A) → Blocked L u r → r ≡ d ∷ v → L a (u ++ d ∷ z) → ⊥
blocked_at L u [] d v z a h e l = absurd (not_nil d v (sym e))
blocked_at L u (c ∷ r) d v z a h e l = h a z (subst (λ (k : ℕ). L a (u ++ k ∷ z)) (sym (head_is c d r v e)) l)

pub record IsSeq {A B : Type 0} (L : A → List ℕ → Type 0) (K : A → B → List ℕ → Type 0) (stays later : ℕ → Bool) : Type 0 where
  pub left : IsSet L stays
  pub right : (a : A) (u : List ℕ) → L a u → IsSet (K a) later
  pub apart : (a : A) (b : B) (c : ℕ) (v : List ℕ) → K a b (c ∷ v) → stays c ≡ false

-- where the second stands in t, behind u, and nothing goes on with c there, nothing goes on with c in the whole
blocked_both : {A B : Type 0} (L : A → List ℕ → Type 0) (K : A → B → List ℕ → Type 0) (stays later : ℕ → Bool) → IsSeq L K stays later
    → (a : A) (u r p q : List ℕ) → L a u → Blocked L u r → r ≡ p ++ q → Blocked (K a) p q → Blocked (Both L K) (u ++ p) q
blocked_both L K stays later x a u r p [] la bu e bp = tt
blocked_both {A = A} L K stays later x a u r p (c ∷ q) la bu e bp =
    λ y s m. elim (split u (p ++ c ∷ s) m.left m.right (sym (append_assoc u p (c ∷ s)) ∙ m.parts)) [
      | longer d z h k ↦ both_ways (stays d) (x.apart y.0 y.1 d (z ++ (p ++ c ∷ s)) (subst (K y.0 y.1) k m.second)) (x.left.stay y.0 a m.left d z m.first (subst (L a) h la))
      | shorter d z h k ↦ (let w = same_next p c s q d (z ++ m.right) k in blocked_at L u r d w.0 z y.0 bu (e ∙ w.1) (subst (L y.0) h m.first))
      | same h k ↦ (let i = x.left.unique y.0 a u (subst (L y.0) (sym h) m.first) la in bp y.1 s (subst (λ (b : A). K b y.1 (p ++ c ∷ s)) i (subst (K y.0 y.1) (sym k) m.second)))
    ]

none_both : {A B : Type 0} (L : A → List ℕ → Type 0) (K : A → B → List ℕ → Type 0) (stays later : ℕ → Bool) → IsSeq L K stays later
    → (a : A) (u r p q : List ℕ) → L a u → Blocked L u r → r ≡ p ++ q → ((b : B) → K a b p → ⊥) → (y : A × B) → Both L K y (u ++ p) → ⊥
none_both {A = A} L K stays later x a u r p q la bu e bp y m =
    elim (split u p m.left m.right m.parts) [
      | longer d z h k ↦ both_ways (stays d) (x.apart y.0 y.1 d (z ++ p) (subst (K y.0 y.1) k m.second)) (x.left.stay y.0 a m.left d z m.first (subst (L a) h la))
      | shorter d z h k ↦ blocked_at L u r d ((z ++ m.right) ++ q) z y.0 bu (e ∙ ap (λ (l : List ℕ). l ++ q) k) (subst (L y.0) h m.first)
      | same h k ↦ (let i = x.left.unique y.0 a u (subst (L y.0) (sym h) m.first) la in bp y.1 (subst (λ (b : A). K b y.1 p) i (subst (K y.0 y.1) (sym k) m.second)))
    ]

second_tells : {A B : Type 0} (L : A → List ℕ → Type 0) (K : A → B → List ℕ → Type 0) (stays later : ℕ → Bool) → IsSeq L K stays later
    → (t : List ℕ) (a : A) (r : List ℕ) → IsFound L t a r → (y : Read B) → IsRightReading (K a) r y → IsRightReading (Both L K) t (with_first a y)
second_tells L K stays later x t a r m (Found b q) h =
    record {
      front = m.front ++ h.front;
      text = record { left = m.front; right = h.front; first = m.text; second = h.text; parts = refl };
      parts = m.parts ∙ ap (λ (l : List ℕ). m.front ++ l) h.parts ∙ sym (append_assoc m.front h.front q);
      blocked = blocked_both L K stays later x a m.front r h.front q m.text m.blocked h.parts h.blocked;
    }
second_tells L K stays later x t a r m (Stuck q) h =
    record {
      front = m.front ++ h.front;
      begun = record {
        value = (a, h.begun.value);
        rest = h.begun.rest;
        text = record { left = m.front; right = h.front ++ h.begun.rest; first = m.text; second = h.begun.text; parts = append_assoc m.front h.front h.begun.rest };
      };
      parts = m.parts ∙ ap (λ (l : List ℕ). m.front ++ l) h.parts ∙ sym (append_assoc m.front h.front q);
      blocked = blocked_both L K stays later x a m.front r h.front q m.text m.blocked h.parts h.blocked;
      none = none_both L K stays later x a m.front r h.front q m.text m.blocked h.parts h.none;
    }

-- where the first is stuck
stuck_at : {A B : Type 0} (L : A → List ℕ → Type 0) (K : A → B → List ℕ → Type 0) (stays later : ℕ → Bool) → IsSeq L K stays later
    → (p : List ℕ) → Begins L p → ((a : A) → L a p → ⊥) → (y : A × B) (d : ℕ) (z w : List ℕ) → L y.0 (z) → p ≡ z ++ d ∷ w → (v : List ℕ) → K y.0 y.1 (d ∷ v) → ⊥
stuck_at L K stays later x p begun none y d z w l e v k =
    both_ways (stays d) (x.apart y.0 y.1 d v k) (x.left.stay y.0 begun.value z d (w ++ begun.rest) l (subst (L begun.value) (ap (λ (i : List ℕ). i ++ begun.rest) e ∙ append_assoc z (d ∷ w) begun.rest) begun.text))

stuck_blocked : {A B : Type 0} (L : A → List ℕ → Type 0) (K : A → B → List ℕ → Type 0) (stays later : ℕ → Bool) → IsSeq L K stays later
    → (p r : List ℕ) → Begins L p → Blocked L p r → ((a : A) → L a p → ⊥) → Blocked (Both L K) p r
stuck_blocked L K stays later x p [] begun blocked none = tt
stuck_blocked L K stays later x p (c ∷ r) begun blocked none =
    λ y s m. elim (split p (c ∷ s) m.left m.right m.parts) [
      | longer d z h k ↦ stuck_at L K stays later x p begun none y d m.left z m.first h (z ++ c ∷ s) (subst (K y.0 y.1) k m.second)
      | shorter d z h k ↦ blocked y.0 z (subst (λ (i : ℕ). L y.0 (p ++ i ∷ z)) (sym (head_is c d s (z ++ m.right) k)) (subst (L y.0) h m.first))
      | same h k ↦ none y.0 (subst (L y.0) (sym h) m.first)
    ]

stuck_none : {A B : Type 0} (L : A → List ℕ → Type 0) (K : A → B → List ℕ → Type 0) (stays later : ℕ → Bool) → IsSeq L K stays later
    → (p : List ℕ) → Begins L p → ((a : A) → L a p → ⊥) → (y : A × B) → Both L K y p → ⊥
stuck_none L K stays later x p begun none y m =
    elim (split p [] m.left m.right (append-nil p ∙ m.parts)) [
      | longer d z h k ↦ stuck_at L K stays later x p begun none y d m.left z m.first h (z ++ []) (subst (K y.0 y.1) k m.second)
      | shorter d z h k ↦ not_nil d (z ++ m.right) (sym k)
      | same h k ↦ none y.0 (subst (L y.0) (sym h) m.first)
    ]

pub both_tells : {A B : Type 0} (L : A → List ℕ → Type 0) (K : A → B → List ℕ → Type 0) (stays later : ℕ → Bool) → IsSeq L K stays later
    → (g : A → List ℕ → Read B) (t : List ℕ) (y : Read A) → ((a : A) (r : List ℕ) → IsFound L t a r → IsRightReading (K a) r (g a r)) → IsRightReading L t y → IsRightReading (Both L K) t (go_on y (λ a r. with_first a (g a r)))
both_tells L K stays later x g t (Found a r) h m = second_tells L K stays later x t a r m (g a r) (h a r m)
both_tells L K stays later x g t (Stuck r) h m =
    let k = x.right m.begun.value (m.front ++ m.begun.rest) m.begun.text in
    record {
      front = m.front;
      begun = record {
        value = (m.begun.value, k.some);
        rest = m.begun.rest ++ k.some_text;
        text = record { left = m.front ++ m.begun.rest; right = k.some_text; first = m.begun.text; second = k.has_some; parts = sym (append_assoc m.front m.begun.rest k.some_text) };
      };
      parts = m.parts;
      blocked = stuck_blocked L K stays later x m.front r m.begun m.blocked m.none;
      none = stuck_none L K stays later x m.front m.begun m.none;
    }

pair_eq : {A B : Type 0} (x y : A × B) → x.0 ≡ y.0 → x.1 ≡ y.1 → x ≡ y
pair_eq {A} {B} x y e f = ap (λ (a : A). (a, x.1)) e ∙ ap (λ (b : B). (y.0, b)) f

both_unique : {A B : Type 0} (L : A → List ℕ → Type 0) (K : A → B → List ℕ → Type 0) (stays later : ℕ → Bool) → IsSeq L K stays later
    → (y z : A × B) (u : List ℕ) → Both L K y u → Both L K z u → y ≡ z
both_unique {A = A} L K stays later x y z u m n =
    elim (split m.left m.right n.left n.right (sym m.parts ∙ n.parts)) as (λ _. y ≡ z) [
      | longer d w h k ↦ absurd (both_ways (stays d) (x.apart z.0 z.1 d (w ++ m.right) (subst (K z.0 z.1) k n.second)) (x.left.stay z.0 y.0 n.left d w n.first (subst (L y.0) h m.first)))
      | shorter d w h k ↦ absurd (both_ways (stays d) (x.apart y.0 y.1 d (w ++ n.right) (subst (K y.0 y.1) k m.second)) (x.left.stay y.0 z.0 m.left d w m.first (subst (L z.0) h n.first)))
      | same h k ↦ (let e = x.left.unique y.0 z.0 n.left (subst (L y.0) h m.first) n.first in
          pair_eq y z e ((x.right z.0 n.left n.first).unique y.1 z.1 n.right (subst (λ (b : A). K b y.1 n.right) e (subst (K y.0 y.1) k m.second)) n.second))
    ]

abbrev pub either : (ℕ → Bool) → (ℕ → Bool) → ℕ → Bool
either f g c = f c || g c

both_stay : {A B : Type 0} (L : A → List ℕ → Type 0) (K : A → B → List ℕ → Type 0) (stays later : ℕ → Bool) → IsSeq L K stays later
    → (y z : A × B) (u : List ℕ) (c : ℕ) (s : List ℕ) → Both L K y u → Both L K z (u ++ c ∷ s) → either stays later c ≡ true
both_stay {A = A} L K stays later x y z u c s m n =
    let whole : m.left ++ (m.right ++ c ∷ s) ≡ n.left ++ n.right = sym (append_assoc m.left m.right (c ∷ s)) ∙ ap (λ (l : List ℕ). l ++ c ∷ s) (sym m.parts) ∙ n.parts in
    elim (split m.left (m.right ++ c ∷ s) n.left n.right whole) as (λ _. either stays later c ≡ true) [
      | longer d w h k ↦ absurd (both_ways (stays d) (x.apart z.0 z.1 d (w ++ (m.right ++ c ∷ s)) (subst (K z.0 z.1) k n.second)) (x.left.stay z.0 y.0 n.left d w n.first (subst (L y.0) h m.first)))
      | shorter d w h k ↦ by_right m.right d w h k m.second
      | same h k ↦ (let e = x.left.unique y.0 z.0 n.left (subst (L y.0) h m.first) n.first in
          or_right (stays c) (later c) ((x.right z.0 n.left n.first).stay y.1 z.1 m.right c s (subst (λ (b : A). K b y.1 m.right) e m.second) (subst (K z.0 z.1) (sym k) n.second)))
    ]
  where
    by_right : (v : List ℕ) (d : ℕ) (w : List ℕ) → n.left ≡ m.left ++ d ∷ w → v ++ c ∷ s ≡ d ∷ w ++ n.right → K y.0 y.1 v → either stays later c ≡ true
    by_right [] d w h k l = or_left (stays c) (later c) (x.left.stay y.0 z.0 m.left c w m.first (subst (λ (i : ℕ). L z.0 (m.left ++ i ∷ w)) (sym (head_is c d s (w ++ n.right) k)) (subst (L z.0) h n.first)))
    by_right (e ∷ v) d w h k l = absurd (both_ways (stays d) (x.apart y.0 y.1 d v (subst (λ (i : ℕ). K y.0 y.1 (i ∷ v)) (head_is e d (v ++ c ∷ s) (w ++ n.right) k) l)) (x.left.stay y.0 z.0 m.left d w m.first (subst (L z.0) h n.first)))

pub both_set : {A B : Type 0} (L : A → List ℕ → Type 0) (K : A → B → List ℕ → Type 0) (stays later : ℕ → Bool) → IsSeq L K stays later → IsSet (Both L K) (either stays later)
both_set L K stays later x =
    let k = x.right x.left.some x.left.some_text x.left.has_some in
    record {
      unique = both_unique L K stays later x;
      stay = both_stay L K stays later x;
      some = (x.left.some, k.some);
      some_text = x.left.some_text ++ k.some_text;
      has_some = record { left = x.left.some_text; right = k.some_text; first = x.left.has_some; second = k.has_some; parts = refl };
    }

-- Two readers that are right, the second behind bytes with which the first does not go on, are right together.
pub both_exact : {A B : Type 0} (L : A → List ℕ → Type 0) (K : A → B → List ℕ → Type 0) (stays later : ℕ → Bool) (f : List ℕ → Read A) (g : A → List ℕ → Read B) → IsExact L stays f → ((a : A) (u : List ℕ) → L a u → IsExact (K a) later (g a)) → ((a : A) (b : B) (c : ℕ) (v : List ℕ) → K a b (c ∷ v) → stays c ≡ false) → IsExact (Both L K) (either stays later) (read_both f g)
both_exact L K stays later f g x y apart =
    let s : IsSeq L K stays later = record { left = x.set; right = λ a u h. (y a u h).set; apart = apart } in
    record {
      set = both_set L K stays later s;
      tells = λ t. both_tells L K stays later s g t (f t) (λ a r h. (y a h.front h.text).tells r) (x.tells t);
    }
