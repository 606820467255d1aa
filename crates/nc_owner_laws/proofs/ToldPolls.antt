-- Where the numbers of holds are told and fit the slots, the answers of a publish's polls are those of its polls.
use Rattle.std.proofs.Common.{◌≡◌, ◌≢◌, ◌⊎◌, inl, inr, ℕ, zero, suc, ◌<◌, ◌≤◌, Bool, true, false, not, List, [], ◌∷◌, refl, sym, ap, subst, arith, map, fold, length}
use Rattle.std.specs.Prelude.{◌==◌, slice_index, slice_set}
use Rattle.std.proofs.lemmas.Bool.Decides.{nat_tests}
use Rattle.std.proofs.lemmas.List.{get_or-set_same, get_or-set_other}
use Rattle.nc_types.specs.Message.{Message}
use Rattle.nc_buffer.specs.declared.entry.Entry.{Entry}
use Rattle.nc_slots.specs.declared.slot.Slot.{Slot}
use Rattle.nc_slots.specs.declared.slot.Slot.TheVariants.{Unused, Buffered, Retired}
use Rattle.nc_slots.specs.Slot.{slot_at, most_holds, polled, retired}
use Rattle.nc_owner.specs.State.{bench_of}
use Rattle.nc_buffer.specs.Buffer.{is_expired}
use Rattle.nc_owner.specs.Leave.{left_row, touched, leavers}
use Rattle.nc_owner.specs.Ascending.{ascending}
use Rattle.nc_owner.specs.Poll.{polled_slot, polled_all, slot_of, told_answer, AnswersFit, PollsOf}
use Rattle.nc_owner.specs.Publish.{asked, leaving, slots_of, publish_cleared}
use Rattle.nc_owner_laws.specs.HoldsKept.{HoldsFit, told_polls, ToldPolls, ToldAnswersFit}

-- a slot is another that can have as many holds as this one has
set_out : (row : List (Slot Message)) (i k : ℕ) (x : Slot Message) → length row ≤ i → slot_at (slice_set row i x) k ≡ slot_at row k
set_out [] i k x le = refl
set_out (s ∷ row) zero k x le = absurd (omega (arith, le))
set_out (s ∷ row) (suc i) zero x le = refl
set_out (s ∷ row) (suc i) (suc k) x le = set_out row i k x (omega (arith, le))

pub set_fits : (row : List (Slot Message)) (counts : List ℕ) (i : ℕ) (x : Slot Message) → HoldsFit row counts → (slice_index counts i ≤ most_holds x) → HoldsFit (slice_set row i x) counts
set_fits row counts i x f le k = by (k == i) refl (within i (length row))
  where
    within : (a b : ℕ) → (a < b) ⊎ (b ≤ a)
    within a b = grind arith

    by : (b : Bool) → (k == i) ≡ b → (i < length row) ⊎ (length row ≤ i) → slice_index counts k ≤ most_holds (slot_at (slice_set row i x) k)
    by b e (inr out) = subst (λ (y : Slot Message). slice_index counts k ≤ most_holds y) (sym (set_out row i k x out)) (f k)
    by true e (inl lt) = let same : k ≡ i = grind (arith, nat_tests) in
        subst (λ (j : ℕ). slice_index counts j ≤ most_holds (slot_at (slice_set row i x) j)) (sym same) (subst (λ (y : Slot Message). slice_index counts i ≤ most_holds y) (sym (get_or-set_same row i x Unused lt)) le)
    by false e (inl lt) = let other : k ≢ i = grind (arith, nat_tests) in subst (λ (y : Slot Message). slice_index counts k ≤ most_holds y) (sym (get_or-set_other row i k x Unused other)) (f k)

retired_most : (x : Slot Message) → most_holds (retired x) ≡ most_holds x
retired_most Unused = refl
retired_most (Buffered m c g) = refl
retired_most (Retired c g) = refl

pub left_fits : (es : List Entry) (row : List (Slot Message)) (counts : List ℕ) → HoldsFit row counts → HoldsFit (fold left_row row es) counts
left_fits [] row counts f = f
left_fits (e ∷ es) row counts f = left_fits es (left_row row e) counts (set_fits row counts e.slot (retired (slot_at row e.slot)) f (subst (λ (n : ℕ). slice_index counts e.slot ≤ n) (sym (retired_most (slot_at row e.slot))) (f e.slot)))

polled_by : (b : Bool) (n : ℕ) (x : Slot Message) → (b ≡ false → n ≡ 0) → n ≤ most_holds x → n ≤ most_holds (polled b x)
polled_by true n x none le = le
polled_by false n Unused none le = let e : n ≡ 0 = none refl in omega (arith, e)
polled_by false n (Buffered m c g) none le = let e : n ≡ 0 = none refl in omega (arith, e)
polled_by false n (Retired c g) none le = let e : n ≡ 0 = none refl in omega (arith, e)

none_held : (n : ℕ) → not (n == 0) ≡ false → n ≡ 0
none_held n e = grind (arith, nat_tests)

polled_most : (n : ℕ) (x : Slot Message) → n ≤ most_holds x → n ≤ most_holds (polled (not (n == 0)) x)
polled_most n x le = polled_by (not (n == 0)) n x (none_held n) le

one_fits : (row : List (Slot Message)) (counts : List ℕ) (s : ℕ) → HoldsFit row counts → HoldsFit (polled_slot row (told_answer counts s)) counts
one_fits row counts s f = set_fits row counts s (polled (not (slice_index counts s == 0)) (slot_at row s)) f (polled_most (slice_index counts s) (slot_at row s) (f s))

pub polled_fits : (slots : List ℕ) (row : List (Slot Message)) (counts : List ℕ) → HoldsFit row counts → HoldsFit (polled_all (map (told_answer counts) slots) row) counts
polled_fits [] row counts f = f
polled_fits (s ∷ slots) row counts f = polled_fits slots (polled_slot row (told_answer counts s)) counts (one_fits row counts s f)

held_few : (n m : ℕ) → n ≤ m → not (n == 0) ≡ true → 0 < m
held_few n m le e = grind (arith, nat_tests)

answers_fit : (slots : List ℕ) (row : List (Slot Message)) (counts : List ℕ) → HoldsFit row counts → AnswersFit row (map (told_answer counts) slots)
answers_fit [] row counts f = tt
answers_fit (s ∷ slots) row counts f = (held_few (slice_index counts s) (most_holds (slot_at row s)) (f s), answers_fit slots (polled_slot row (told_answer counts s)) counts (one_fits row counts s f))

pub slots_told : (counts slots : List ℕ) → map slot_of (map (told_answer counts) slots) ≡ slots
slots_told counts [] = refl
slots_told counts (s ∷ slots) = ap (λ (l : List ℕ). s ∷ l) (slots_told counts slots)

polls_of : (counts slots : List ℕ) → PollsOf true counts slots (map (told_answer counts) slots)
polls_of counts slots = record { each = slots_told counts slots; told = λ e. refl }

pub told_are_polls : ToldPolls
told_are_polls row counts s o f =
    let b = bench_of o.chan row s in
    let p = told_polls counts o row s in
    let f1 : HoldsFit (touched b).row counts = left_fits (leavers (is_expired b.desk.clock) b) row counts f in
    let f2 : HoldsFit (publish_cleared o p row s).row counts = polled_fits (touched b).desk.retired (touched b).row counts f1 in
    let leave = slots_of (leaving o.length (publish_cleared o p row s)) in
    record {
      first = polls_of counts (touched b).desk.retired;
      first_fit = answers_fit (touched b).desk.retired (touched b).row counts f1;
      others = record {
        before = polls_of counts leave;
        after_leaving = polls_of counts (ascending leave);
        before_fit = λ e. answers_fit leave (publish_cleared o p row s).row counts f2;
        after_leaving_fit = λ e. answers_fit (ascending leave) _ counts (left_fits (leaving o.length (asked p.leaving (publish_cleared o p row s))) _ counts (polled_fits leave (publish_cleared o p row s).row counts f2));
      };
    }

pub told_answers_fit : ToldAnswersFit
told_answers_fit row counts slots f = answers_fit slots row counts f
