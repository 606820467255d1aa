-- What the slots of a row are used for, as one of them changes.
use Rattle.std.proofs.Common.{◌≡◌, ◌≢◌, ⊎_elim, ℕ, zero, suc, ◌+◌, ◌<◌, ◌≤◌, Bool, true, false, cond, List, [], ◌∷◌, ◌++◌, Some, None, refl, sym, ap, ◌∙◌, subst, arith, length, set, fold, eqb, true≢false}
use Rattle.std.specs.Prelude.{is_some}
use Rattle.std.specs.List.{position_or_len}
use Rattle.std.proofs.lemmas.Bool.{false≢true, cond_both, cases_eq, cases_lt, eq-eqb, ne_eqb, eqb-true, ltb-false}
use Rattle.std.proofs.lemmas.List.{get_or-set_same, get_or-set_other, get_or_past, set_past}
use Rattle.std.proofs.lemmas.List.Quantifiers.{position-Some}
use Rattle.std.proofs.lemmas.List.Sums.{fails_before_first}
use Rattle.nc_types.specs.Message.{Message}
use Rattle.nc_slots.specs.Slot.{slot_at, is_unused, is_buffered, lowest_unused, filled, granted, retired, polled, cleared}
use Rattle.nc_slots.specs.declared.slot.Slot.{Slot}
use Rattle.nc_slots.specs.declared.slot.Slot.TheVariants.{Unused, Buffered, Retired}
use Rattle.nc_owner_laws.specs.Used.{is_retired, bit, times, Agrees}

-- ---- numbers in a list

pub eqb_self : (k : ℕ) → eqb k k ≡ true
eqb_self k = eq-eqb k k refl

pub eqb_turn : (a b : ℕ) → eqb a b ≡ eqb b a
eqb_turn a b = ⊎_elim (λ (e : a ≡ b). eq-eqb a b e ∙ sym (eq-eqb b a (sym e))) (λ (n : a ≡ b → ⊥). ne_eqb a b n ∙ sym (ne_eqb b a (λ e. n (sym e)))) (cases_eq a b)

eqb_suc : (a b : ℕ) → eqb (suc a) (suc b) ≡ eqb a b
eqb_suc a b = ⊎_elim (λ (e : a ≡ b). eq-eqb (suc a) (suc b) (ap suc e) ∙ sym (eq-eqb a b e)) (λ (n : a ≡ b → ⊥). ne_eqb (suc a) (suc b) (λ e. n (omega (arith, e))) ∙ sym (ne_eqb a b n)) (cases_eq a b)

pub times-append : (s : ℕ) (xs ys : List ℕ) → times s (xs ++ ys) ≡ times s xs + times s ys
times-append s [] ys = omega arith
times-append s (x ∷ xs) ys = omega (arith, times-append s xs ys)

pub times_here : (x : ℕ) (xs : List ℕ) → times x (x ∷ xs) ≡ suc (times x xs)
times_here x xs = ap (λ b. bit b + times x xs) (eqb_self x) ∙ one_more (times x xs)
  where
    one_more : (n : ℕ) → 1 + n ≡ suc n
    one_more n = omega arith

-- ---- one slot

pub in_row : (row : List (Slot Message)) (k : ℕ) → is_unused (slot_at row k) ≡ false → k < length row
in_row row k used = ⊎_elim (λ (lt : k < length row). lt) (λ (ge : length row ≤ k). absurd (true≢false (sym (ap is_unused (get_or_past row k Unused ge)) ∙ used))) (cases_lt k (length row))

pub buffered_used : (x : Slot Message) → is_buffered x ≡ true → is_unused x ≡ false
buffered_used Unused e = absurd (false≢true e)
buffered_used (Buffered message clear grants) e = refl
buffered_used (Retired clear grants) e = absurd (false≢true e)

pub bit_true : (n : ℕ) (b : Bool) → suc n ≡ bit b → (b ≡ true) × (n ≡ 0)
bit_true n true e = (refl, omega arith)
bit_true n false e = absurd (omega arith)

-- the numbers told of slots are the same
pub agrees-same : (B R C Q : ℕ → ℕ) (row : List (Slot Message)) → ((s : ℕ) → B s ≡ C s) → ((s : ℕ) → R s ≡ Q s) → Agrees B R row → Agrees C Q row
agrees-same B R C Q row b r a = record { of_buffered = λ s. sym (b s) ∙ a.of_buffered s; of_retired = λ s. sym (r s) ∙ a.of_retired s }

-- one slot changes
pub changes : (B R C Q : ℕ → ℕ) (row : List (Slot Message)) (k : ℕ) (x : Slot Message) → k < length row → Agrees B R row
    → ((s : ℕ) → s ≢ k → C s ≡ B s) → ((s : ℕ) → s ≢ k → Q s ≡ R s) → C k ≡ bit (is_buffered x) → Q k ≡ bit (is_retired x) → Agrees C Q (set row k x)
changes B R C Q row k x lt a other_b other_r here_b here_r = record {
  of_buffered = λ s. ⊎_elim
      (λ (e : s ≡ k). rw e (here_b ∙ ap (λ y. bit (is_buffered y)) (sym (get_or-set_same row k x Unused lt))))
      (λ (n : s ≡ k → ⊥). other_b s n ∙ a.of_buffered s ∙ ap (λ y. bit (is_buffered y)) (sym (get_or-set_other row k s x Unused n)))
      (cases_eq s k);
  of_retired = λ s. ⊎_elim
      (λ (e : s ≡ k). rw e (here_r ∙ ap (λ y. bit (is_retired y)) (sym (get_or-set_same row k x Unused lt))))
      (λ (n : s ≡ k → ⊥). other_r s n ∙ a.of_retired s ∙ ap (λ y. bit (is_retired y)) (sym (get_or-set_other row k s x Unused n)))
      (cases_eq s k);
}

-- one slot changes, and what it is used for doesn't
pub changes_not : (B R : ℕ → ℕ) (row : List (Slot Message)) (k : ℕ) (x : Slot Message) → Agrees B R row → is_buffered x ≡ is_buffered (slot_at row k) → is_retired x ≡ is_retired (slot_at row k) → Agrees B R (set row k x)
changes_not B R row k x a b r = ⊎_elim
    (λ (lt : k < length row). changes B R B R row k x lt a (λ s n. refl) (λ s n. refl) (a.of_buffered k ∙ ap bit (sym b)) (a.of_retired k ∙ ap bit (sym r)))
    (λ (ge : length row ≤ k). subst (Agrees B R) (sym (set_past row k x ge)) a)
    (cases_lt k (length row))

other_bit : (k s : ℕ) → s ≢ k → bit (eqb k s) ≡ 0
other_bit k s n = ap bit (ne_eqb k s (λ e. n (sym e)))

-- ---- a message leaves

retired_is : (x : Slot Message) → is_buffered x ≡ true → (is_buffered (retired x) ≡ false) × (is_retired (retired x) ≡ true) × (is_retired x ≡ false)
retired_is Unused e = absurd (false≢true e)
retired_is (Buffered message clear grants) e = (refl, refl, refl)
retired_is (Retired clear grants) e = absurd (false≢true e)

abbrev pub leaves_row : List (Slot Message) → ℕ → List (Slot Message)
leaves_row row k = set row k (retired (slot_at row k))

pub left_one : (A R : ℕ → ℕ) (row : List (Slot Message)) (k : ℕ) → Agrees (λ s. A s + bit (eqb k s)) R row → Agrees A (λ s. R s + bit (eqb k s)) (leaves_row row k)
left_one A R row k a =
    let self : bit (eqb k k) ≡ 1 = ap bit (eqb_self k) in
    let one : suc (A k) ≡ bit (is_buffered (slot_at row k)) = (let f : A k + bit (eqb k k) ≡ bit (is_buffered (slot_at row k)) = a.of_buffered k in omega arith) in
    let is = bit_true (A k) (is_buffered (slot_at row k)) one in
    let t = retired_is (slot_at row k) is.0 in
    changes (λ s. A s + bit (eqb k s)) R A (λ s. R s + bit (eqb k s)) row k (retired (slot_at row k)) (in_row row k (buffered_used (slot_at row k) is.0)) a
    (λ s n. omega (arith, other_bit k s n))
    (λ s n. omega (arith, other_bit k s n))
    (is.1 ∙ ap bit (sym t.0))
    (omega (arith, self, a.of_retired k, ap bit t.1, ap bit t.2))

pub left_all : (A R : ℕ → ℕ) (row : List (Slot Message)) (ks : List ℕ) → Agrees (λ s. A s + times s ks) R row → Agrees A (λ s. R s + times s ks) (fold leaves_row row ks)
left_all A R row [] a = agrees-same _ _ A (λ s. R s + 0) row (λ s. omega arith) (λ s. omega arith) a
left_all A R row (k ∷ ks) a =
    let first = left_one (λ s. A s + times s ks) R row k (agrees-same _ _ (λ s. (A s + times s ks) + bit (eqb k s)) R row (λ s. omega arith) (λ s. refl) a) in
    let rest = left_all A (λ s. R s + bit (eqb k s)) (leaves_row row k) ks first in
    agrees-same _ _ A (λ s. R s + (bit (eqb k s) + times s ks)) (fold leaves_row (leaves_row row k) ks) (λ s. refl) (λ s. omega arith) rest

-- ---- a slot is polled

-- what a poll leaves of how often a slot is retired
abbrev pub unless_free : Bool → ℕ → ℕ → ℕ → ℕ
unless_free held k n s = cond held n (cond (eqb k s) 0 n)

cleared_is : (x : Slot Message) → (is_buffered (cleared x) ≡ is_buffered x) × (is_retired (cleared x) ≡ false)
cleared_is Unused = (refl, refl)
cleared_is (Buffered message clear grants) = (refl, refl)
cleared_is (Retired clear grants) = (refl, refl)

pub polled_one : (B R : ℕ → ℕ) (row : List (Slot Message)) (k : ℕ) (held : Bool) → Agrees B R row → Agrees B (λ s. unless_free held k (R s) s) (set row k (polled held (slot_at row k)))
polled_one B R row k true a = changes_not B R row k (slot_at row k) a refl refl
polled_one B R row k false a =
    let t = cleared_is (slot_at row k) in
    ⊎_elim
    (λ (lt : k < length row). changes B R B (λ s. cond (eqb k s) 0 (R s)) row k (cleared (slot_at row k)) lt a (λ s n. refl)
    (λ s n. ap (λ b. cond b 0 (R s)) (ne_eqb k s (λ e. n (sym e))))
    (a.of_buffered k ∙ ap bit (sym t.0))
    (ap (λ b. cond b 0 (R k)) (eqb_self k) ∙ ap bit (sym t.1)))
    (λ (ge : length row ≤ k). agrees-same B R B (λ s. cond (eqb k s) 0 (R s)) (set row k (cleared (slot_at row k))) (λ s. refl) (past ge) (subst (Agrees B R) (sym (set_past row k (cleared (slot_at row k)) ge)) a))
    (cases_lt k (length row))
  where
    past : length row ≤ k → (s : ℕ) → R s ≡ cond (eqb k s) 0 (R s)
    past ge s = cond_both (eqb k s) 0 (R s) (λ n. R s ≡ n) (λ e. a.of_retired s ∙ ap (λ y. bit (is_retired y)) (get_or_past row s Unused (let f : k ≡ s = eqb-true k s e in omega arith))) (λ _. refl)

-- ---- a message is put

pub put_one : (B R : ℕ → ℕ) (row : List (Slot Message)) (k : ℕ) (message : Message) → lowest_unused row ≡ Some k → Agrees B R row → Agrees (λ s. B s + bit (eqb k s)) R (set row k (filled message))
put_one B R row k message low a =
    let p = position-Some is_unused row k Unused low in
    let u = unused_is (slot_at row k) p.1 in
    changes B R (λ s. B s + bit (eqb k s)) R row k (filled message) p.0 a
    (λ s n. omega (arith, other_bit k s n))
    (λ s n. refl)
    (omega (arith, ap bit (eqb_self k), a.of_buffered k, ap bit u.0))
    (a.of_retired k ∙ ap bit u.1)
  where
    unused_is : (x : Slot Message) → is_unused x ≡ true → (is_buffered x ≡ false) × (is_retired x ≡ false)
    unused_is Unused e = (refl, refl)
    unused_is (Buffered message clear grants) e = absurd (false≢true e)
    unused_is (Retired clear grants) e = absurd (false≢true e)

-- ---- a slot is granted

pub granted_one : (B R : ℕ → ℕ) (row : List (Slot Message)) (k : ℕ) → Agrees B R row → Agrees B R (set row k (granted (slot_at row k)))
granted_one B R row k a = changes_not B R row k (granted (slot_at row k)) a (granted_is (slot_at row k)).0 (granted_is (slot_at row k)).1
  where
    granted_is : (x : Slot Message) → (is_buffered (granted x) ≡ is_buffered x) × (is_retired (granted x) ≡ is_retired x)
    granted_is Unused = (refl, refl)
    granted_is (Buffered message clear grants) = (refl, refl)
    granted_is (Retired clear grants) = (refl, refl)

-- ---- how many slots are used

abbrev pub count : (Slot Message → Bool) → List (Slot Message) → ℕ
count p [] = 0
count p (x ∷ row) = bit (p x) + count p row

-- the numbers above 0, each one less
abbrev lowered : List ℕ → List ℕ
lowered [] = []
lowered (zero ∷ xs) = lowered xs
lowered (suc x ∷ xs) = x ∷ lowered xs

times_lowered : (s : ℕ) (xs : List ℕ) → times s (lowered xs) ≡ times (suc s) xs
times_lowered s [] = refl
times_lowered s (zero ∷ xs) = omega (arith, times_lowered s xs, ap bit (ne_eqb zero (suc s) (λ e. omega (arith, e))))
times_lowered s (suc x ∷ xs) = omega (arith, times_lowered s xs, ap bit (eqb_suc x s))

length_lowered : (xs : List ℕ) → length xs ≡ times 0 xs + length (lowered xs)
length_lowered [] = refl
length_lowered (zero ∷ xs) = omega (arith, length_lowered xs, ap bit (eqb_self zero))
length_lowered (suc x ∷ xs) = omega (arith, length_lowered xs, ap bit (ne_eqb (suc x) 0 (λ e. omega (arith, e))))

no_times : (xs : List ℕ) → ((s : ℕ) → times s xs ≡ 0) → length xs ≡ 0
no_times [] f = refl
no_times (x ∷ xs) f = absurd (omega (arith, times_here x xs, f x))

-- as many as there are slots of a kind, where each slot of the kind stands once and no other does
pub length_is : (p : Slot Message → Bool) → p Unused ≡ false → (xs : List ℕ) (row : List (Slot Message)) → ((s : ℕ) → times s xs ≡ bit (p (slot_at row s))) → length xs ≡ count p row
length_is p none xs [] f = no_times xs (λ s. f s ∙ ap bit none)
length_is p none xs (x ∷ row) f = omega (arith, length_lowered xs, f 0, length_is p none (lowered xs) row (λ s. times_lowered s xs ∙ f (suc s)))

all_counted : (row : List (Slot Message)) → count is_buffered row + count is_retired row + count is_unused row ≡ length row
all_counted [] = refl
all_counted (Unused ∷ row) = omega (arith, all_counted row)
all_counted (Buffered message clear grants ∷ row) = omega (arith, all_counted row)
all_counted (Retired clear grants ∷ row) = omega (arith, all_counted row)

none_counted : (row : List (Slot Message)) → ((k : ℕ) → k < length row → is_unused (slot_at row k) ≡ false) → count is_unused row ≡ 0
none_counted [] f = refl
none_counted (x ∷ row) f = omega (arith, ap bit (f 0 (omega arith)), none_counted row (λ k lt. f (suc k) (omega (arith, lt))))

-- at most as many slots are used as there are
pub used_fit : (bs rs : List ℕ) (row : List (Slot Message)) → Agrees (λ s. times s bs) (λ s. times s rs) row → length bs + length rs ≤ length row
used_fit bs rs row a = omega (arith, all_counted row, length_is is_buffered refl bs row a.of_buffered, length_is is_retired refl rs row a.of_retired)

some_case : (b : Bool) (k n : ℕ) → (b ≡ false → ⊥) → is_some (cond b (Some k) None) ≡ true
some_case true k n f = refl
some_case false k n f = absurd (f refl)

-- where fewer are, one is unused
pub room : (bs rs : List ℕ) (row : List (Slot Message)) → Agrees (λ s. times s bs) (λ s. times s rs) row → length bs + length rs < length row → is_some (lowest_unused row) ≡ true
room bs rs row a lt = some_case _ (position_or_len is_unused row) 0
    (λ e. let ge : length row ≤ position_or_len is_unused row = ltb-false _ _ e in
    let zero_unused : count is_unused row ≡ 0 = none_counted row (λ k l. fails_before_first is_unused row k Unused (omega arith)) in
    omega (arith, all_counted row, length_is is_buffered refl bs row a.of_buffered, length_is is_retired refl rs row a.of_retired))
