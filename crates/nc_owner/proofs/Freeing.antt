-- Freed slots have no holds.
use Rattle.std.proofs.Common.{◌≡◌, ℕ, ◌+◌, Bool, true, false, List, [], ◌∷◌, ◌++◌, refl, sym, ap, ◌∙◌, subst, map, arith, filter, cond}
use Rattle.std.proofs.lemmas.Bool.Decides.{nat_tests}
use Rattle.std.specs.Prelude.{◌==◌, not, slice_index}
use Rattle.std.specs.List.{AllByRecursion}
use Rattle.nc_types.specs.Message.{Message}
use Rattle.nc_journal.specs.declared.event.Event.{Event}
use Rattle.nc_journal.specs.declared.event.Event.TheVariants.{Freed}
use Rattle.nc_journal.specs.declared.word.LeftCause.{LeftCause}
use Rattle.nc_journal.specs.declared.word.LeftCause.TheVariants.{Length, Expired}
use Rattle.nc_buffer.specs.Buffer.{is_expired}
use Rattle.nc_owner.specs.Ascending.{ascending}
use Rattle.nc_buffer.specs.declared.entry.Entry.{Entry}
use Rattle.nc_slots.specs.declared.slot.Slot.{Slot}
use Rattle.nc_owner.specs.declared.order.Order.{Order}
use Rattle.nc_owner.specs.declared.poll.PollAnswer.{PollAnswer}
use Rattle.nc_owner.specs.Leave.{left_event, leavers, touch_events, touched}
use Rattle.nc_owner.specs.Poll.{PollsOf, told_answer, is_free, slot_of, freed_events}
use Rattle.nc_owner.specs.State.{Bench, OwnerAt, bench_of}
use Rattle.nc_owner.specs.Publish.{Polls, Outcome, late, full, stored, asked, cleared_events, granted_events, leaving, lowest_slot, roomy, roomy_events, slots_of, store_events, stored_events, post_events, publish_events, publish_outcome, publish_cleared, PublishPolls}
use Rattle.nc_owner.specs.Rules.{IsUnheld, FreesUnheld}

pub all_append : (P : Event → Type 0) (xs ys : List Event) → AllByRecursion P xs → AllByRecursion P ys → AllByRecursion P (xs ++ ys)
all_append P [] ys left right = right
all_append P (x ∷ xs) ys left right = (left.0, all_append P xs ys left.1 right)

pub lefts_free : (counts : List ℕ) (w : ℕ) (c : List ℕ) (cause : LeftCause) (es : List Entry) → FreesUnheld counts (map (left_event w c cause) es)
lefts_free counts w c cause [] = tt
lefts_free counts w c cause (e ∷ es) = (tt, lefts_free counts w c cause es)

grants_free : (counts : List ℕ) (w slot g : ℕ) (marks : List ℕ) → FreesUnheld counts (granted_events w slot g marks)
grants_free counts w slot g [] = tt
grants_free counts w slot g (to ∷ marks) = (tt, grants_free counts w slot (g + 1) marks)

no_hold : (n : ℕ) → (n == 0) ≡ true → n ≡ 0
no_hold n is = grind (arith, nat_tests)

told_frees : (counts : List ℕ) (w : ℕ) (slots : List ℕ) → FreesUnheld counts (freed_events w (map (told_answer counts) slots))
told_frees counts w [] = tt
told_frees counts w (s ∷ slots) = by (slice_index counts s == 0) refl (told_frees counts w slots)
  where
    by : (b : Bool) → (slice_index counts s == 0) ≡ b → FreesUnheld counts (freed_events w (map (told_answer counts) slots))
        → FreesUnheld counts (map (λ slot. Freed w slot) (map slot_of (cond (not (not b)) (told_answer counts s ∷ filter is_free (map (told_answer counts) slots)) (filter is_free (map (told_answer counts) slots)))))
    by true is rest = (no_hold _ is, rest)
    by false is rest = rest

pub polls_free : (counts : List ℕ) (w : ℕ) (slots : List ℕ) (answers : List PollAnswer) → PollsOf true counts slots answers → FreesUnheld counts (freed_events w answers)
polls_free counts w slots answers p = subst (λ (a : List PollAnswer). FreesUnheld counts (freed_events w a)) (sym (p.told refl)) (told_frees counts w slots)

-- the slots that polls between steps free have no holds
pub frees_polled : (counts : List ℕ) (w : ℕ) (slots : List ℕ) (answers : List PollAnswer) (before events : List Event) → before ≡ [] → events ≡ before ++ freed_events w answers → answers ≡ map (told_answer counts) slots → FreesUnheld counts events
frees_polled counts w slots answers before events empty is told =
    subst (λ (es : List Event). FreesUnheld counts es) (sym (is ∙ ap (λ (es : List Event). es ++ freed_events w answers) empty))
    (subst (λ (a : List PollAnswer). FreesUnheld counts (freed_events w a)) (sym told) (told_frees counts w slots))

store_frees : (counts : List ℕ) (from : ℕ) (o : Order) (left : List PollAnswer) (slots : List ℕ) (b : Bench) → PollsOf true counts slots left → FreesUnheld counts (store_events from o left b)
store_frees counts from o left slots b p =
    let r = roomy o.length left b in
    let lefts = lefts_free counts b.desk.me o.chan Length (leaving o.length b) in
    let frees = polls_free counts b.desk.me slots left p in
    let tail : FreesUnheld counts (stored_events from o (lowest_slot r.row) r) = (tt, grants_free counts r.desk.me (lowest_slot r.row) r.desk.grants r.channel.marks) in
    all_append (IsUnheld counts) (roomy_events o.length left o.chan b) (stored_events from o (lowest_slot r.row) r)
    (all_append (IsUnheld counts) (map (left_event b.desk.me o.chan Length) (leaving o.length b)) (freed_events b.desk.me left) lefts frees)
    tail

post_frees : (counts : List ℕ) (x : Outcome) (from : ℕ) (o : Order) (polls : Polls) (slots : List ℕ) (b : Bench) → PollsOf true counts slots polls.left → FreesUnheld counts (post_events x from o polls b)
post_frees counts late from o polls slots b p = tt
post_frees counts (full usage) from o polls slots b p = tt
post_frees counts stored from o polls slots b p = store_frees counts from o polls.left slots (asked polls.leaving b) p

-- the slots that a publish frees have no holds
pub publish_frees : (from : ℕ) (o : Order) (polls : Polls) (row : List (Slot Message)) (s : OwnerAt) (counts : List ℕ) → PublishPolls true counts o row s polls → FreesUnheld counts (publish_events from o polls row s)
publish_frees from o polls row s counts p =
    let b = bench_of o.chan row s in
    let x = publish_outcome o polls row s in
    let c = publish_cleared o polls row s in
    let lefts = lefts_free counts b.desk.me o.chan Expired (leavers (is_expired b.desk.clock) b) in
    let frees = polls_free counts b.desk.me (touched b).desk.retired polls.retired p.first in
    all_append (IsUnheld counts) (cleared_events polls.retired o.chan b) (post_events x from o polls c)
    (all_append (IsUnheld counts) (touch_events o.chan b) (freed_events b.desk.me polls.retired) lefts frees)
    (post_frees counts x from o polls (ascending (slots_of (leaving o.length (touched b)))) c p.others.after_leaving)
