-- One owner's row of plain slots, as contracts see it.
use Rattle.std.proofs.Common.{◌≡◌, ◌<◌, ◌≤◌, ◌+◌, ◌-◌, ℕ, zero, suc, Bool, true, false, cond, eqb, ltb, List, ◌∷◌, refl, sym, ap, ◌∙◌, arith, subst, length, set, replicate, Global}
use Rattle.std.specs.Prelude.{Option, Some, slice_index, get_or}
use Rattle.std.specs.declared.rc.Rc.{Rc}
use Rattle.std.proofs.lemmas.List.{get_or_read}
use Rattle.std.proofs.lemmas.List.Quantifiers.{position-Some}
use Rattle.nc_types.specs.Message.{Message}
use Rattle.nc_slots.specs.Slot.{slot_at, is_unused, is_buffered, lowest_unused, most_holds, filled, granted, retired, polled, CanGrant}
use Rattle.nc_slots.specs.Slots.{answer, is_held, PollFits}
use Rattle.nc_slots.specs.Plain.{RowAt, new_row, told, AreHeld}
use Rattle.nc_slots.specs.declared.slot.Slot.{Slot}
use Rattle.nc_slots.specs.declared.slot.Slot.TheVariants.{Unused}
use Rattle.nc_slots.specs.declared.slots.Polled.{Polled}
use Rattle.nc_slots.specs.declared.slots.Polled.TheVariants.{Freed, Clear, Held}
use Rattle.nc_slots.proofs.Held.{held_at, held_there, held_few, held_put, held_granted, held_retired, held_polled, held_less, held_new}
use Rattle.nc_slots.proofs.Shown.{shown_granted, shown_retired, shown_polled, shown_put, shown_lowest, shown_buffered, shown_most}

abbrev Kept : Type 0
Kept = Slot (Rc Message Global)

abbrev value : Rc Message Global → Message
value kept = kept.value

abbrev row : List Kept → List ℕ → RowAt
row slots holds = record { slots = told slots; holds = holds }

-- what a read of a number gives
pub count_read : (holds : List ℕ) (k x : ℕ) → k < length holds → x ≡ get_or holds k x → x ≡ slice_index holds k
count_read holds k x lt read = get_or_read holds k x lt read 0

-- put
pub put_lowest : (slots : List Kept) (holds : List ℕ) (now : RowAt) (o : Option ℕ) → row slots holds ≡ now → o ≡ lowest_unused slots → lowest_unused now.slots ≡ o
put_lowest slots holds now o view is = ap (λ (r : RowAt). lowest_unused r.slots) (sym view) ∙ shown_lowest value slots ∙ sym is

pub put_held : (slots after : List Kept) (holds : List ℕ) (k : ℕ) (kept : Rc Message Global) → lowest_unused slots ≡ Some k → after ≡ set slots k (filled kept) → AreHeld slots holds → AreHeld after holds
put_held slots after holds k kept is after_is are =
    let at = position-Some is_unused slots k Unused is in
    subst (λ (xs : List Kept). AreHeld xs holds) (sym after_is) (held_put slots holds k kept are at.1)

pub put_shows : (slots after : List Kept) (holds : List ℕ) (now : RowAt) (k : ℕ) (kept : Rc Message Global) (msg : Message) → row slots holds ≡ now → kept.value ≡ msg → after ≡ set slots k (filled kept) → told after ≡ set now.slots k (filled msg)
put_shows slots after holds now k kept msg view is after_is =
    ap told after_is ∙ shown_put value slots k kept ∙ ap (λ (m : Message). set (told slots) k (filled m)) is ∙ ap (λ (r : RowAt). set r.slots k (filled msg)) view

-- grant
pub grant_held : (slots after : List Kept) (holds : List ℕ) (k x : ℕ) → CanGrant (slot_at slots k) → x ≡ get_or holds k x → after ≡ set slots k (granted (slot_at slots k)) → AreHeld slots holds → AreHeld after (set holds k (x + 1))
grant_held slots after holds k x can read after_is are =
    let x_is = count_read holds k x (held_there slots holds k are can) read in
    subst (λ (xs : List Kept). AreHeld xs (set holds k (x + 1))) (sym after_is) (held_granted slots holds k (x + 1) are can (ap (λ (n : ℕ). n + 1) x_is))

pub grant_few : (slots : List Kept) (holds : List ℕ) (k x : ℕ) → CanGrant (slot_at slots k) → x ≡ get_or holds k x → AreHeld slots holds → x < 4294967295
grant_few slots holds k x can read are =
    let x_is = count_read holds k x (held_there slots holds k are can) read in let few = held_few slots holds k are can in omega arith

pub grant_shows : (slots after : List Kept) (holds : List ℕ) (now : RowAt) (k : ℕ) → row slots holds ≡ now → after ≡ set slots k (granted (slot_at slots k)) → told after ≡ set now.slots k (granted (slot_at now.slots k))
grant_shows slots after holds now k view after_is = ap told after_is ∙ shown_granted value slots k ∙ ap (λ (r : RowAt). set r.slots k (granted (slot_at r.slots k))) view

-- retire
pub retire_held : (slots after : List Kept) (holds : List ℕ) (k : ℕ) → after ≡ set slots k (retired (slot_at slots k)) → AreHeld slots holds → AreHeld after holds
retire_held slots after holds k after_is are = subst (λ (xs : List Kept). AreHeld xs holds) (sym after_is) (held_retired slots holds k are)

pub retire_shows : (slots after : List Kept) (holds : List ℕ) (now : RowAt) (k : ℕ) → row slots holds ≡ now → after ≡ set slots k (retired (slot_at slots k)) → told after ≡ set now.slots k (retired (slot_at now.slots k))
retire_shows slots after holds now k view after_is = ap told after_is ∙ shown_retired value slots k ∙ ap (λ (r : RowAt). set r.slots k (retired (slot_at r.slots k))) view

-- poll
none_held : (n : ℕ) → ltb 0 n ≡ false → n ≡ 0
none_held zero is = refl
none_held (suc n) is = grind arith

pub poll_held : (slots after : List Kept) (holds : List ℕ) (now : RowAt) (k n : ℕ) → row slots holds ≡ now → n ≡ slice_index now.holds k → after ≡ set slots k (polled (ltb 0 n) (slot_at slots k)) → AreHeld slots holds → AreHeld after holds
poll_held slots after holds now k n view is after_is are =
    let n_is : n ≡ slice_index holds k = is ∙ ap (λ (r : RowAt). slice_index r.holds k) (sym view) in
    subst (λ (xs : List Kept). AreHeld xs holds) (sym after_is) (held_polled (ltb 0 n) slots holds k (λ none. sym n_is ∙ none_held n none) are)

answer_fits : (slot : Slot Message) (b : Bool) (n : ℕ) → b ≡ is_buffered slot → n ≤ most_holds slot → PollFits slot (answer b n)
answer_fits slot true zero is le = sym is
answer_fits slot false zero is le = sym is
answer_fits slot b (suc n) is le =
    let some : eqb (suc n) 0 ≡ false = grind arith in let held : PollFits slot (Held (suc n)) = (omega arith, le) in
    subst (λ (t : Bool). PollFits slot (cond t (cond b Clear Freed) (Held (suc n)))) (sym some) held

pub poll_fits : (slots : List Kept) (holds : List ℕ) (now : RowAt) (k n : ℕ) (b : Bool) (p : Polled) → row slots holds ≡ now → n ≡ slice_index now.holds k → b ≡ is_buffered (slot_at slots k) → p ≡ answer b n → AreHeld slots holds → PollFits (slot_at now.slots k) p
poll_fits slots holds now k n b p view is b_is p_is are =
    let n_is : n ≡ slice_index holds k = is ∙ ap (λ (r : RowAt). slice_index r.holds k) (sym view) in
    let at = held_at slots holds k are in let most = shown_most value slots k in
    let buffered : b ≡ is_buffered (slot_at (told slots) k) = b_is ∙ sym (shown_buffered value slots k) in
    subst (λ (r : RowAt). PollFits (slot_at r.slots k) p) view (subst (PollFits (slot_at (told slots) k)) (sym p_is) (answer_fits (slot_at (told slots) k) b n buffered (omega arith)))

answer_held : (b : Bool) (n : ℕ) → ltb 0 n ≡ is_held (answer b n)
answer_held true zero = grind arith
answer_held false zero = grind arith
answer_held b (suc n) = grind arith

pub poll_shows : (slots after : List Kept) (holds : List ℕ) (now : RowAt) (k n : ℕ) (b : Bool) (p : Polled) → row slots holds ≡ now → p ≡ answer b n → after ≡ set slots k (polled (ltb 0 n) (slot_at slots k)) → told after ≡ set now.slots k (polled (is_held p) (slot_at now.slots k))
poll_shows slots after holds now k n b p view p_is after_is =
    let held : ltb 0 n ≡ is_held p = answer_held b n ∙ ap is_held (sym p_is) in
    ap told after_is ∙ shown_polled value (ltb 0 n) slots k ∙ ap (λ (h : Bool). set (told slots) k (polled h (slot_at (told slots) k))) held
    ∙ ap (λ (r : RowAt). set r.slots k (polled (is_held p) (slot_at r.slots k))) view

-- release
pub release_held : (slots : List Kept) (holds : List ℕ) (k x n : ℕ) → k < length holds → x ≡ get_or holds k x → n ≤ x → AreHeld slots holds → AreHeld slots (set holds k n)
release_held slots holds k x n lt read is are = let x_is = count_read holds k x lt read in held_less slots holds k n are (omega arith)

-- a new row
shown_new : (n : ℕ) → told {Z = Global} (replicate n Unused) ≡ replicate n Unused
shown_new zero = refl
shown_new (suc n) = ap (λ (rest : List (Slot Message)). Unused ∷ rest) (shown_new n)

pub new_held : (n : ℕ) (slots : List Kept) (holds : List ℕ) → slots ≡ replicate n Unused → holds ≡ replicate n 0 → AreHeld slots holds
new_held n slots holds slots_are holds_are =
    subst (λ (xs : List Kept). AreHeld xs holds) (sym slots_are) (subst (λ (ns : List ℕ). AreHeld {M = Rc Message Global} (replicate n Unused) ns) (sym holds_are) (held_new (Rc Message Global) n))

pub new_shows : (n : ℕ) (slots : List Kept) (holds : List ℕ) → slots ≡ replicate n Unused → holds ≡ replicate n 0 → row slots holds ≡ new_row n
new_shows n slots holds slots_are holds_are = let told_are = ap told slots_are ∙ shown_new n in λ i. record { slots = told_are i; holds = holds_are i }
