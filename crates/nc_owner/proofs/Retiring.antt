-- Freed slots were retired.
use Rattle.std.proofs.Common.{◌≡◌, ℕ, ◌+◌, Bool, true, false, cond, List, [], ◌∷◌, ◌++◌, refl, sym, ap, ◌∙◌, subst, map, fold, filter, append_assoc}
use Rattle.std.specs.Prelude.{◌||◌, nat_eq}
use Rattle.std.specs.List.{AllByRecursion}
use Rattle.std.proofs.lemmas.Bool.{eq-eqb}
use Rattle.nc_types.specs.Message.{Message}
use Rattle.nc_journal.specs.declared.event.Event.{Event}
use Rattle.nc_journal.specs.declared.event.Event.TheVariants.{Left, Freed}
use Rattle.nc_journal.specs.declared.word.LeftCause.{LeftCause}
use Rattle.nc_journal.specs.declared.word.LeftCause.TheVariants.{Length, Expired}
use Rattle.nc_buffer.specs.Buffer.{is_expired}
use Rattle.nc_buffer.specs.declared.entry.Entry.{Entry}
use Rattle.nc_slots.specs.declared.slot.Slot.{Slot}
use Rattle.nc_owner.specs.declared.order.Order.{Order}
use Rattle.nc_owner.specs.declared.poll.PollAnswer.{PollAnswer}
use Rattle.nc_owner.specs.Ascending.{ascending, has_number, with_number}
use Rattle.nc_owner.specs.Leave.{left_event, leavers, with_slot, touched}
use Rattle.nc_owner.specs.Poll.{PollsOf, is_free, slot_of, freed_event, free_slots, freed_events}
use Rattle.nc_owner.specs.State.{Bench, OwnerAt, bench_of}
use Rattle.nc_owner.specs.Publish.{Polls, Outcome, late, full, stored, asked, granted_events, leaving, lowest_slot, roomy, slots_of, stored_events, post_events, publish_events, publish_outcome, publish_cleared, PublishPolls}
use Rattle.nc_owner.specs.Rules.{FreesOnlyRetired}
use Rattle.nc_owner.proofs.Numbers.{has_with}

-- the slots that are retired or were left, after some events
abbrev pub retired_after : List ℕ → List Event → List ℕ
retired_after r [] = r
retired_after r (Left w c id slot cause ∷ events) = retired_after (slot ∷ r) events
retired_after r (e ∷ events) = retired_after r events

pub after_append : (r : List ℕ) (xs ys : List Event) → retired_after r (xs ++ ys) ≡ retired_after (retired_after r xs) ys
after_append r [] ys = refl
after_append r (Left w c id slot cause ∷ xs) ys = after_append (slot ∷ r) xs ys
after_append r (e ∷ xs) ys = after_append r xs ys

pub retired_append : (r : List ℕ) (xs ys : List Event) → FreesOnlyRetired r xs → FreesOnlyRetired (retired_after r xs) ys → FreesOnlyRetired r (xs ++ ys)
retired_append r [] ys front behind = behind
retired_append r (Left w c id slot cause ∷ xs) ys front behind = retired_append (slot ∷ r) xs ys front behind
retired_append r (Freed w slot ∷ xs) ys front behind = (front.0, retired_append r xs ys front.1 behind)
retired_append r (e ∷ xs) ys front behind = retired_append r xs ys front behind

-- numbers that are all among others
abbrev pub AreAmong : List ℕ → List ℕ → Type 0
AreAmong r slots = AllByRecursion (λ s. has_number s r ≡ true) slots

abbrev pub IsWithin : List ℕ → List ℕ → Type 0
IsWithin xs r = (u : ℕ) → has_number u xs ≡ true → has_number u r ≡ true

or_left : (a b : Bool) → a ≡ true → (a || b) ≡ true
or_left true b e = refl
or_left false b e = absurd cc

or_right : (a b : Bool) → b ≡ true → (a || b) ≡ true
or_right true b e = refl
or_right false b e = e

or_within : (a b c : Bool) → (b ≡ true → c ≡ true) → (a || b) ≡ true → (a || c) ≡ true
or_within true b c f e = refl
or_within false b c f e = f e

among_within : (xs r slots : List ℕ) → IsWithin xs r → AreAmong xs slots → AreAmong r slots
among_within xs r [] f a = tt
among_within xs r (s ∷ slots) f a = (f s a.0, among_within xs r slots f a.1)

among_self : (xs : List ℕ) → AreAmong xs xs
among_self [] = tt
among_self (x ∷ xs) = (or_left (nat_eq x x) (has_number x xs) (eq-eqb x x refl), among_within xs (x ∷ xs) xs (λ u h. or_right (nat_eq u x) (has_number u xs) h) (among_self xs))

pub lefts_retire : (r : List ℕ) (w : ℕ) (c : List ℕ) (cause : LeftCause) (es : List Entry) → FreesOnlyRetired r (map (left_event w c cause) es)
lefts_retire r w c cause [] = tt
lefts_retire r w c cause (e ∷ es) = lefts_retire (e.slot ∷ r) w c cause es

-- what leaves is retired
pub left_within : (xs r : List ℕ) (w : ℕ) (c : List ℕ) (cause : LeftCause) (es : List Entry) → IsWithin xs r → IsWithin (fold with_slot xs es) (retired_after r (map (left_event w c cause) es))
left_within xs r w c cause [] f = f
left_within xs r w c cause (e ∷ es) f = left_within (with_number xs e.slot) (e.slot ∷ r) w c cause es (λ u h. or_within (nat_eq u e.slot) (has_number u xs) (has_number u r) (f u) (sym (has_with u e.slot xs) ∙ h))

same_slots : (xs : List ℕ) (es : List Entry) → fold with_number xs (slots_of es) ≡ fold with_slot xs es
same_slots xs [] = refl
same_slots xs (e ∷ es) = same_slots (with_number xs e.slot) es

frees_among : (r : List ℕ) (w : ℕ) (slots : List ℕ) → AreAmong r slots → FreesOnlyRetired r (map (freed_event w) slots)
frees_among r w [] a = tt
frees_among r w (s ∷ slots) a = (a.0, frees_among r w slots a.1)

free_among : (r : List ℕ) (answers : List PollAnswer) → AreAmong r (map slot_of answers) → AreAmong r (free_slots answers)
free_among r [] a = tt
free_among r (x ∷ answers) a = by (is_free x) (free_among r answers a.1)
  where
    by : (b : Bool) → AreAmong r (map slot_of (filter is_free answers)) → AreAmong r (map slot_of (cond b (x ∷ filter is_free answers) (filter is_free answers)))
    by true h = (a.0, h)
    by false h = h

-- polls of slots that are retired or were left free such slots
pub polls_retired : (r xs : List ℕ) (w : ℕ) (answers : List PollAnswer) → map slot_of answers ≡ xs → IsWithin xs r → FreesOnlyRetired r (freed_events w answers)
polls_retired r xs w answers each f = frees_among r w (free_slots answers) (free_among r answers (subst (AreAmong r) (sym each) (among_within xs r xs f (among_self xs))))

-- the slots that polls between steps free were retired
pub retired_polled : (xs : List ℕ) (w : ℕ) (answers : List PollAnswer) (before events : List Event) → before ≡ [] → events ≡ before ++ freed_events w answers → map slot_of answers ≡ xs → FreesOnlyRetired xs events
retired_polled xs w answers before events empty is each =
    subst (FreesOnlyRetired xs) (sym (is ∙ ap (λ (es : List Event). es ++ freed_events w answers) empty)) (polls_retired xs xs w answers each (λ u h. h))

after_frees : (r : List ℕ) (w : ℕ) (slots : List ℕ) → retired_after r (map (freed_event w) slots) ≡ r
after_frees r w [] = refl
after_frees r w (s ∷ slots) = after_frees r w slots

grants_retire : (r : List ℕ) (w slot g : ℕ) (marks : List ℕ) → FreesOnlyRetired r (granted_events w slot g marks)
grants_retire r w slot g [] = tt
grants_retire r w slot g (to ∷ marks) = grants_retire r w slot (g + 1) marks

-- entries leave and slots are polled, and then something else happens
left_then : (xs r : List ℕ) (w : ℕ) (c : List ℕ) (cause : LeftCause) (es : List Entry) (answers : List PollAnswer) (more : List Event) → IsWithin xs r → map slot_of answers ≡ fold with_slot xs es
    → FreesOnlyRetired (retired_after r (map (left_event w c cause) es)) more → FreesOnlyRetired r ((map (left_event w c cause) es ++ freed_events w answers) ++ more)
left_then xs r w c cause es answers more f each rest =
    let lefts = map (left_event w c cause) es in
    subst (FreesOnlyRetired r) (sym (append_assoc lefts (freed_events w answers) more))
    (retired_append r lefts (freed_events w answers ++ more) (lefts_retire r w c cause es)
    (retired_append (retired_after r lefts) (freed_events w answers) more (polls_retired (retired_after r lefts) (fold with_slot xs es) w answers each (left_within xs r w c cause es f))
    (subst (λ (l : List ℕ). FreesOnlyRetired l more) (sym (after_frees (retired_after r lefts) w (free_slots answers))) rest)))

nothing_within : (r : List ℕ) → IsWithin [] r
nothing_within r u h = absurd cc

post_retired : (x : Outcome) (from : ℕ) (o : Order) (polls : Polls) (b : Bench) (r : List ℕ) → map slot_of polls.left ≡ ascending (slots_of (leaving o.length b)) → FreesOnlyRetired r (post_events x from o polls b)
post_retired late from o polls b r each = tt
post_retired (full usage) from o polls b r each = tt
post_retired stored from o polls b r each =
    let a = asked polls.leaving b in
    let room = roomy o.length polls.left a in
    left_then [] r b.desk.me o.chan Length (leaving o.length a) polls.left (stored_events from o (lowest_slot room.row) room) (nothing_within r) (each ∙ same_slots [] (leaving o.length b))
    (grants_retire (retired_after r (map (left_event b.desk.me o.chan Length) (leaving o.length a))) room.desk.me (lowest_slot room.row) room.desk.grants room.channel.marks)

-- the slots that a publish frees were retired, or left in it
pub publish_retired : (exact : Bool) (from : ℕ) (o : Order) (polls : Polls) (row : List (Slot Message)) (s : OwnerAt) (counts : List ℕ) → PublishPolls exact counts o row s polls → FreesOnlyRetired s.desk.retired (publish_events from o polls row s)
publish_retired exact from o polls row s counts p =
    let b = bench_of o.chan row s in
    let es = leavers (is_expired b.desk.clock) b in
    left_then s.desk.retired s.desk.retired b.desk.me o.chan Expired es polls.retired (post_events (publish_outcome o polls row s) from o polls (publish_cleared o polls row s)) (λ u h. h) p.first.each
    (post_retired (publish_outcome o polls row s) from o polls (publish_cleared o polls row s) (retired_after s.desk.retired (map (left_event b.desk.me o.chan Expired) es)) p.others.after_leaving.each)
