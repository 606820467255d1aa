-- Entries and their slots, as one slot after the other changes.
use Rattle.std.proofs.Common.{◌≡◌, ⊎_elim, ℕ, ◌+◌, ◌<◌, ◌≤◌, Bool, true, false, cond, not, List, [], ◌∷◌, ◌++◌, refl, sym, ap, ◌∙◌, subst, arith, length, set, take, drop, map, filter, fold, eqb}
use Rattle.std.specs.Prelude.{insert}
use Rattle.std.specs.List.{AllByRecursion}
use Rattle.std.proofs.lemmas.Bool.{cond_both, cases_eq, cases_lt, eq-eqb, eqb-true}
use Rattle.std.proofs.lemmas.List.{get_or-set_same, get_or-set_other, set_past, length-set, take-append-drop}
use Rattle.nc_types.specs.Id.{IsPast}
use Rattle.nc_types.specs.Message.{Message}
use Rattle.nc_buffer.specs.declared.entry.Entry.{Entry}
use Rattle.nc_buffer.specs.Buffer.{IsRising, IsPastAll}
use Rattle.nc_slots.specs.Slot.{slot_at, retired, polled}
use Rattle.nc_slots.specs.declared.slot.Slot.{Slot}
use Rattle.nc_slots.specs.declared.slot.Slot.TheVariants.{Unused, Buffered, Retired}
use Rattle.nc_owner_laws.specs.Used.{bit, times}
use Rattle.nc_owner_laws.specs.Kept.{slots_in, IsIn, AreIn}
use Rattle.nc_owner_laws.proofs.Used.{leaves_row, times-append, times_here}

-- ---- numbers in lists

pub times-insert : (s : ℕ) (xs : List ℕ) (i x : ℕ) → times s (insert xs i x) ≡ times s xs + bit (eqb x s)
times-insert s xs i x =
    times-append s (take i xs) (x ∷ drop i xs)
    ∙ (let e : times s (take i xs) + times s (drop i xs) ≡ times s xs = sym (times-append s (take i xs) (drop i xs)) ∙ ap (times s) (take-append-drop i xs) in omega arith)

-- what a filter keeps and what it drops are all
pub times-filter : {X : Type 0} (key : X → ℕ) (test : X → Bool) (s : ℕ) (xs : List X) → times s (map key (filter (λ x. not (test x)) xs)) + times s (map key (filter test xs)) ≡ times s (map key xs)
times-filter key test s [] = refl
times-filter {X} key test s (x ∷ xs) = by (test x) (times-filter key test s xs)
  where
    by : (b : Bool) → times s (map key (filter (λ y. not (test y)) xs)) + times s (map key (filter test xs)) ≡ times s (map key xs)
        → times s (map key (cond (not b) (x ∷ filter (λ y. not (test y)) xs) (filter (λ y. not (test y)) xs))) + times s (map key (cond b (x ∷ filter test xs) (filter test xs))) ≡ times s (map key (x ∷ xs))
    by true e = omega arith
    by false e = omega arith

pub length-filter : {X : Type 0} (test : X → Bool) (xs : List X) → length (filter (λ x. not (test x)) xs) + length (filter test xs) ≡ length xs
length-filter test [] = refl
length-filter {X} test (x ∷ xs) = by (test x) (length-filter test xs)
  where
    by : (b : Bool) → length (filter (λ y. not (test y)) xs) + length (filter test xs) ≡ length xs
        → length (cond (not b) (x ∷ filter (λ y. not (test y)) xs) (filter (λ y. not (test y)) xs)) + length (cond b (x ∷ filter test xs) (filter test xs)) ≡ length (x ∷ xs)
    by true e = omega arith
    by false e = omega arith

-- a number that is taken out stands there no more
pub times-without : (s k : ℕ) (xs : List ℕ) → times s (filter (λ y. not (eqb y k)) xs) ≡ cond (eqb k s) 0 (times s xs)
times-without s k [] = cond_both (eqb k s) 0 0 (λ n. 0 ≡ n) (λ _. refl) (λ _. refl)
times-without s k (x ∷ xs) = by (eqb x k) refl (times-without s k xs)
  where
    by : (b : Bool) → eqb x k ≡ b → times s (filter (λ y. not (eqb y k)) xs) ≡ cond (eqb k s) 0 (times s xs) → times s (cond (not b) (x ∷ filter (λ y. not (eqb y k)) xs) (filter (λ y. not (eqb y k)) xs)) ≡ cond (eqb k s) 0 (bit (eqb x s) + times s xs)
    by true e f = f ∙ same (eqb k s) refl
      where
        same : (b : Bool) → eqb k s ≡ b → cond b 0 (times s xs) ≡ cond b 0 (bit (eqb x s) + times s xs)
        same true g = refl
        same false g = (let h : bit (eqb x s) ≡ 0 = ap bit (ap (λ y. eqb y s) (eqb-true x k e) ∙ g) in omega arith)
    by false e f = ap (λ n. bit (eqb x s) + n) f ∙ same (eqb k s) refl
      where
        same : (b : Bool) → eqb k s ≡ b → bit (eqb x s) + cond b 0 (times s xs) ≡ cond b 0 (bit (eqb x s) + times s xs)
        same true g = (let h : bit (eqb x s) ≡ 0 = ap bit (ap (eqb x) (sym (eqb-true k s g)) ∙ e) in omega arith)
        same false g = refl

-- ---- lists of entries

pub all_filtered : {X : Type 0} (P : X → Type 0) (test : X → Bool) (xs : List X) → AllByRecursion P xs → AllByRecursion P (filter test xs)
all_filtered P test [] h = tt
all_filtered P test (x ∷ xs) h = cond_both (test x) _ _ (AllByRecursion P) (λ _. (h.0, all_filtered P test xs h.1)) (λ _. all_filtered P test xs h.1)

pub all_append : {X : Type 0} (P : X → Type 0) (xs ys : List X) → AllByRecursion P xs → AllByRecursion P ys → AllByRecursion P (xs ++ ys)
all_append P [] ys a b = b
all_append P (x ∷ xs) ys a b = (a.0, all_append P xs ys a.1 b)

pub all_weaker : {X : Type 0} (P Q : X → Type 0) → ((x : X) → P x → Q x) → (xs : List X) → AllByRecursion P xs → AllByRecursion Q xs
all_weaker P Q f [] a = tt
all_weaker P Q f (x ∷ xs) a = (f x a.0, all_weaker P Q f xs a.1)

pub rising-filter : (test : Entry → Bool) (es : List Entry) → IsRising es → IsRising (filter test es)
rising-filter test [] r = tt
rising-filter test (e ∷ es) r = cond_both (test e) _ _ IsRising (λ _. (all_filtered (λ later. IsPast later.id e.id) test es r.0, rising-filter test es r.1)) (λ _. rising-filter test es r.1)

pub rising-push : (es : List Entry) (e : Entry) → IsRising es → IsPastAll e.id es → IsRising (es ++ e ∷ [])
rising-push [] e r p = (tt, tt)
rising-push (x ∷ es) e r p = (all_append (λ later. IsPast later.id x.id) es (e ∷ []) r.0 (p.0, tt), rising-push es e r.1 p.1)

-- ---- entries in their slots

-- where the slots of entries are as before, their messages still lie there
pub in_where : (old new : List (Slot Message)) (es : List Entry) → ((s : ℕ) → 0 < times s (slots_in es) → slot_at new s ≡ slot_at old s) → AreIn old es → AreIn new es
in_where old new [] same a = tt
in_where old new (e ∷ es) same a = (
  subst (λ (x : Slot Message). IsIn x e) (sym (same e.slot (omega (arith, times_here e.slot (slots_in es))))) a.0,
  in_where old new es (λ s lt. same s (omega (arith, lt))) a.1,
)

-- a slot changes, and what lies in it stays
pub in_changed : (row : List (Slot Message)) (k : ℕ) (x : Slot Message) → ((e : Entry) → IsIn (slot_at row k) e → IsIn x e) → (es : List Entry) → AreIn row es → AreIn (set row k x) es
in_changed row k x keeps es a = all_weaker (λ e. IsIn (slot_at row e.slot) e) (λ e. IsIn (slot_at (set row k x) e.slot) e) one es a
  where
    here : (e : Entry) → k < length row → e.slot ≡ k → IsIn (slot_at row e.slot) e → IsIn (slot_at (set row k x) e.slot) e
    here e lt is i = subst (λ (s : ℕ). IsIn (slot_at (set row k x) s) e) (sym is) (subst (λ (y : Slot Message). IsIn y e) (sym (get_or-set_same row k x Unused lt)) (keeps e (subst (λ (s : ℕ). IsIn (slot_at row s) e) is i)))

    one : (e : Entry) → IsIn (slot_at row e.slot) e → IsIn (slot_at (set row k x) e.slot) e
    one e i = ⊎_elim
        (λ (is : e.slot ≡ k). ⊎_elim
        (λ (lt : k < length row). here e lt is i)
        (λ (ge : length row ≤ k). subst (λ (r : List (Slot Message)). IsIn (slot_at r e.slot) e) (sym (set_past row k x ge)) i)
        (cases_lt k (length row)))
        (λ (n : e.slot ≡ k → ⊥). subst (λ (y : Slot Message). IsIn y e) (sym (get_or-set_other row k e.slot x Unused n)) i)
        (cases_eq e.slot k)

in_polled : (held : Bool) (x : Slot Message) (e : Entry) → IsIn x e → IsIn (polled held x) e
in_polled true x e i = i
in_polled false Unused e i = i
in_polled false (Buffered message clear grants) e i = i
in_polled false (Retired clear grants) e i = i

-- a poll leaves the messages where they lie
pub in_poll : (row : List (Slot Message)) (k : ℕ) (held : Bool) (es : List Entry) → AreIn row es → AreIn (set row k (polled held (slot_at row k))) es
in_poll row k held es a = in_changed row k (polled held (slot_at row k)) (in_polled held (slot_at row k)) es a

-- slots that don't leave stay as they are
pub stays_left : (row : List (Slot Message)) (ks : List ℕ) (s : ℕ) → times s ks ≡ 0 → slot_at (fold leaves_row row ks) s ≡ slot_at row s
stays_left row [] s none = refl
stays_left row (k ∷ ks) s none =
    stays_left (leaves_row row k) ks s (omega arith)
    ∙ get_or-set_other row k s (retired (slot_at row k)) Unused (λ (is : s ≡ k). absurd (omega (arith, ap bit (eq-eqb k s (sym is)))))

pub length_left : (row : List (Slot Message)) (ks : List ℕ) → length (fold leaves_row row ks) ≡ length row
length_left row [] = refl
length_left row (k ∷ ks) = length_left (leaves_row row k) ks ∙ length-set row k (retired (slot_at row k))

-- the bit of a test is at most 1
pub bit_le : (b : Bool) → bit b ≤ 1
bit_le true = omega arith
bit_le false = omega arith
