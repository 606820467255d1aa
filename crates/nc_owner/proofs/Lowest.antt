-- A stored message takes the lowest unused slot.
use Rattle.std.proofs.Common.{◌≡◌, ◌+◌, ◌<◌, ℕ, zero, suc, Bool, true, false, List, [], ◌∷◌, ◌++◌, refl, sym, ap, ◌∙◌, subst, cond, map, length, Some, None, arith}
use Rattle.std.specs.Prelude.{Option, fold, option_map, slice_set, unwrap_or, not, ◌==◌}
use Rattle.std.specs.List.{AllByRecursion}
use Rattle.nc_types.specs.Message.{Message}
use Rattle.nc_journal.specs.declared.event.Event.{Event}
use Rattle.nc_journal.specs.declared.word.LeftCause.{LeftCause}
use Rattle.nc_journal.specs.declared.word.LeftCause.TheVariants.{Length, Expired}
use Rattle.nc_buffer.specs.Buffer.{is_expired}
use Rattle.nc_buffer.specs.declared.entry.Entry.{Entry}
use Rattle.nc_slots.specs.declared.slot.Slot.{Slot}
use Rattle.nc_slots.specs.Slot.{slot_at, is_unused}
use Rattle.nc_slots.proofs.First.{first, position-first}
use Rattle.nc_owner.specs.declared.order.Order.{Order}
use Rattle.nc_owner.specs.declared.poll.PollAnswer.{PollAnswer}
use Rattle.nc_owner.specs.Leave.{left_event, leavers, touch_events}
use Rattle.nc_owner.specs.Poll.{freed_event, free_slots, freed_events}
use Rattle.nc_owner.specs.State.{Bench, OwnerAt, bench_of}
use Rattle.nc_owner.specs.Publish.{Polls, Outcome, late, full, stored, asked, cleared_events, granted_events, granted_slot, kept_row, leaving, lowest_slot, message_of_order, roomy, roomy_events, stamp, store_bench, store_events, stored_event, stored_events, told_row, post_bench, post_events, publish_events, publish_outcome, publish_cleared, publish_row, is_stored}
use Rattle.nc_owner.specs.PublishClauses.{HasRoom, TakesSlot}
use Rattle.nc_owner.specs.Rules.{IsLowest, TakesLowest}

used_below : (row : List (Slot Message)) (j : ℕ) → j < unwrap_or (first is_unused row) 0 → is_unused (slot_at row j) ≡ false
used_below [] j lt = absurd (omega arith)
used_below (x ∷ row) j lt = by (is_unused x) refl (first is_unused row) j lt (λ k. used_below row k)
  where
    by : (b : Bool) → is_unused x ≡ b → (f : Option ℕ) (k : ℕ) → k < unwrap_or (cond b (Some 0) (option_map suc f)) 0
        → ((i : ℕ) → i < unwrap_or f 0 → is_unused (slot_at row i) ≡ false) → is_unused (slot_at (x ∷ row) k) ≡ false
    by true is f k lt rest = absurd (omega arith)
    by false is None k lt rest = absurd (omega arith)
    by false is (Some n) zero lt rest = is
    by false is (Some n) (suc i) lt rest = rest i (omega arith)

lowest_below : (row : List (Slot Message)) (j : ℕ) → j < lowest_slot row → is_unused (slot_at row j) ≡ false
lowest_below row j lt = used_below row j (subst (λ (o : Option ℕ). j < unwrap_or o 0) (position-first is_unused row) lt)

-- what is written to a slot leaves those below it
below_same : (row : List (Slot Message)) (k j : ℕ) (x : Slot Message) → j < k → slot_at (slice_set row k x) j ≡ slot_at row j
below_same [] k j x lt = refl
below_same (y ∷ row) zero j x lt = absurd (omega arith)
below_same (y ∷ row) (suc k) zero x lt = refl
below_same (y ∷ row) (suc k) (suc j) x lt = below_same row k j x (omega arith)

granted_same : (row : List (Slot Message)) (k j : ℕ) (marks : List ℕ) → j < k → slot_at (fold (granted_slot k) row marks) j ≡ slot_at row j
granted_same row k j [] lt = refl
granted_same row k j (to ∷ marks) lt = granted_same (granted_slot k row to) k j marks lt ∙ below_same row k j _ lt

kept_same : (kept : Bool) (row : List (Slot Message)) (k j : ℕ) → j < k → slot_at (kept_row kept k row) j ≡ slot_at row j
kept_same true row k j lt = refl
kept_same false row k j lt = below_same row k j _ lt

stored_same : (kept : Bool) (m : Message) (row : List (Slot Message)) (k j : ℕ) (marks : List ℕ) → j < k → slot_at (kept_row kept k (told_row m k marks row)) j ≡ slot_at row j
stored_same kept m row k j marks lt = kept_same kept _ k j lt ∙ (granted_same _ k j marks lt ∙ below_same row k j _ lt)

within_row : (row : List (Slot Message)) (k : ℕ) → first is_unused row ≡ Some k → k < length row
within_row [] k is = absurd cc
within_row (x ∷ row) k is = by (is_unused x) (first is_unused row) is (within_row row)
  where
    by : (b : Bool) (f : Option ℕ) → cond b (Some 0) (option_map suc f) ≡ Some k → ((n : ℕ) → f ≡ Some n → n < length row) → k < length (x ∷ row)
    by true f is rest = let zero_is : 0 ≡ k = cc in omega (arith, zero_is)
    by false None is rest = absurd cc
    by false (Some n) is rest = let next : suc n ≡ k = cc in omega (arith, next, rest n refl)

set_length : (row : List (Slot Message)) (k : ℕ) (x : Slot Message) → length (slice_set row k x) ≡ length row
set_length [] k x = refl
set_length (y ∷ row) zero x = refl
set_length (y ∷ row) (suc k) x = ap suc (set_length row k x)

granted_length : (row : List (Slot Message)) (k : ℕ) (marks : List ℕ) → length (fold (granted_slot k) row marks) ≡ length row
granted_length row k [] = refl
granted_length row k (to ∷ marks) = granted_length (granted_slot k row to) k marks ∙ set_length row k _

kept_length : (kept : Bool) (row : List (Slot Message)) (k : ℕ) → length (kept_row kept k row) ≡ length row
kept_length true row k = refl
kept_length false row k = set_length row k _

stored_length : (kept : Bool) (m : Message) (row : List (Slot Message)) (k : ℕ) (marks : List ℕ) → length (kept_row kept k (told_row m k marks row)) ≡ length row
stored_length kept m row k marks = kept_length kept _ k ∙ (granted_length _ k marks ∙ set_length row k _)

-- a slot that is taken is one of the row
taken_within : (room : Bench) → TakesSlot room → lowest_slot room.row < length room.row
taken_within room taken = within_row room.row (lowest_slot room.row) (sym (position-first is_unused room.row) ∙ taken)

all_append : (P : Event → Type 0) (xs ys : List Event) → AllByRecursion P xs → AllByRecursion P ys → AllByRecursion P (xs ++ ys)
all_append P [] ys left right = right
all_append P (x ∷ xs) ys left right = (left.0, all_append P xs ys left.1 right)

lefts : (row : List (Slot Message)) (w : ℕ) (c : List ℕ) (cause : LeftCause) (es : List Entry) → TakesLowest row (map (left_event w c cause) es)
lefts row w c cause [] = tt
lefts row w c cause (e ∷ es) = (tt, lefts row w c cause es)

frees : (row : List (Slot Message)) (w : ℕ) (slots : List ℕ) → TakesLowest row (map (freed_event w) slots)
frees row w [] = tt
frees row w (s ∷ slots) = (tt, frees row w slots)

grants : (row : List (Slot Message)) (w slot g : ℕ) (marks : List ℕ) → TakesLowest row (granted_events w slot g marks)
grants row w slot g [] = tt
grants row w slot g (to ∷ marks) = (tt, grants row w slot (g + 1) marks)

store_lowest : (from : ℕ) (o : Order) (left : List PollAnswer) (b : Bench) → TakesSlot (roomy o.length left b) → TakesLowest (store_bench o left b).row (store_events from o left b)
store_lowest from o left b taken =
    let r = roomy o.length left b in
    let row = (store_bench o left b).row in
    let lowest : IsLowest row (stored_event from o (stamp r) (lowest_slot r.row) (length r.channel.members) r.desk) = (
      subst (λ (n : ℕ). lowest_slot r.row < n) (sym (stored_length (not (o.length == 0)) (message_of_order (stamp r) o r.desk.clock) r.row (lowest_slot r.row) r.channel.marks)) (taken_within r taken),
      λ j lt. ap is_unused (stored_same (not (o.length == 0)) (message_of_order (stamp r) o r.desk.clock) r.row (lowest_slot r.row) j r.channel.marks lt) ∙ lowest_below r.row j lt,
    ) in
    let tail : TakesLowest row (stored_events from o (lowest_slot r.row) r) = (lowest, grants row r.desk.me (lowest_slot r.row) r.desk.grants r.channel.marks) in
    all_append (IsLowest row) (roomy_events o.length left o.chan b) (stored_events from o (lowest_slot r.row) r)
    (all_append (IsLowest row) (map (left_event b.desk.me o.chan Length) (leaving o.length b)) (freed_events b.desk.me left) (lefts row b.desk.me o.chan Length (leaving o.length b)) (frees row b.desk.me (free_slots left)))
    tail

post_lowest : (x : Outcome) (from : ℕ) (o : Order) (polls : Polls) (b : Bench) → (is_stored x ≡ true → TakesSlot (roomy o.length polls.left (asked polls.leaving b))) → TakesLowest (post_bench x o polls b).row (post_events x from o polls b)
post_lowest late from o polls b room = tt
post_lowest (full usage) from o polls b room = tt
post_lowest stored from o polls b room = store_lowest from o polls.left (asked polls.leaving b) (room refl)

-- no slot below that of a stored message is unused
pub publish_lowest : (from : ℕ) (o : Order) (polls : Polls) (row : List (Slot Message)) (s : OwnerAt) → HasRoom o polls row s → TakesLowest (publish_row o polls row s) (publish_events from o polls row s)
publish_lowest from o polls row s room =
    let b = bench_of o.chan row s in
    let x = publish_outcome o polls row s in
    let c = publish_cleared o polls row s in
    let new_row = publish_row o polls row s in
    all_append (IsLowest new_row) (cleared_events polls.retired o.chan b) (post_events x from o polls c)
    (all_append (IsLowest new_row) (touch_events o.chan b) (freed_events b.desk.me polls.retired) (lefts new_row b.desk.me o.chan Expired (leavers (is_expired b.desk.clock) b)) (frees new_row b.desk.me (free_slots polls.retired)))
    (post_lowest x from o polls c room)
