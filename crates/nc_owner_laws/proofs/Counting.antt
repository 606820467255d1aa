-- A buffered slot counts the grants since its message was stored, as the owner's history tells them.
use Rattle.std.proofs.Common.{◌≡◌, ◌≢◌, ℕ, zero, suc, ◌+◌, Bool, true, false, cond, not, List, [], ◌∷◌, ◌++◌, Option, Some, None, refl, sym, ap, ◌∙◌, subst, arith, length, map, fold}
use Rattle.std.specs.Prelude.{◌==◌, replicate, slice_set}
use Rattle.std.proofs.lemmas.Bool.{eqb-true}
use Rattle.std.proofs.lemmas.Bool.Decides.{nat_tests}
use Rattle.std.proofs.lemmas.List.{get_or-set_other}
use Rattle.nc_types.specs.Id.{Id}
use Rattle.nc_types.specs.Message.{Message}
use Rattle.nc_journal.specs.History.{onto}
use Rattle.nc_journal.specs.Leaving.{grants_since}
use Rattle.nc_journal.specs.declared.event.Event.{Event}
use Rattle.nc_journal.specs.declared.event.Event.TheVariants.{Stored, Granted, Joined, Parted, Removed}
use Rattle.nc_journal.specs.declared.word.LeftCause.{LeftCause}
use Rattle.nc_journal.specs.declared.word.LeftCause.TheVariants.{Length, Expired, Spent, Deleted}
use Rattle.nc_journal.specs.declared.word.RemovedCause.{RemovedCause}
use Rattle.nc_journal.proofs.Cuts.{all-weaker}
use Rattle.nc_buffer.specs.declared.entry.Entry.{Entry}
use Rattle.nc_buffer.specs.Buffer.{is_expired, is_spent}
use Rattle.nc_slots.specs.declared.slot.Slot.{Slot}
use Rattle.nc_slots.specs.declared.slot.Slot.TheVariants.{Unused, Buffered, Retired}
use Rattle.nc_slots.specs.Slot.{slot_at, filled, granted, retired, polled}
use Rattle.nc_owner.specs.declared.desk.Desk.{Desk}
use Rattle.nc_owner.specs.declared.member.Member.{Member}
use Rattle.nc_owner.specs.declared.order.Order.{Order}
use Rattle.nc_owner.specs.declared.poll.PollAnswer.{PollAnswer}
use Rattle.nc_owner.specs.Members.{has_member}
use Rattle.nc_owner.specs.AlertLines.{OutLine}
use Rattle.nc_owner.specs.State.{OwnerAt, Bench, entries_of, opened, bench_of}
use Rattle.nc_owner.specs.Leave.{left_event, left_row, leavers, spend_events}
use Rattle.nc_owner.specs.Poll.{polled_slot, polled_all, freed_event, free_slots, freed_events}
use Rattle.nc_owner.specs.Publish.{Polls, Outcome, late, full, stored, asked, roomy, leaving, lowest_slot, granted_slot, granted_events, told_row, kept_row, stamp, message_of_order, stored_event, stored_events, roomy_events, post_events, post_bench, cleared_events, publish_cleared, publish_outcome, publish_events, publish_alerts, publish_row}
use Rattle.nc_owner.specs.Look.{found_on, found_row, looked_event, found_events, answered_events, look_ready, look_events, look_alerts, look_row}
use Rattle.nc_owner.specs.Edge.{last_in}
use Rattle.nc_owner.specs.Remove.{removal_lefts, removal_events, removal_alerts, removed_row}
use Rattle.nc_owner.specs.OtherSteps.{touched_of, touch_events_of, touched_row, info_alerts, parted_events, polled_events, polled_row}
use Rattle.nc_owner_laws.specs.Kept.{IsIn}
use Rattle.nc_owner_laws.specs.Counted.{Counts, SlotsCount, NewCount, StepsKeepCount, EntriesCount}
use Rattle.nc_owner_laws.specs.Weave.{weave, makes, numbered}
use Rattle.nc_owner_laws.proofs.Opening.{opened_fits}

-- ---- the count of a slot after some events

abbrev next_count : ℕ → Event → ℕ → ℕ
next_count slot (Granted w g s to) n = cond (s == slot) (n + 1) n
next_count slot (Stored w c id s len exp kept members from r ct body) n = cond (s == slot) 0 n
next_count slot e n = n

abbrev count_after : ℕ → List Event → ℕ → ℕ
count_after slot [] n = n
count_after slot (e ∷ es) n = count_after slot es (next_count slot e n)

one_count : (slot : ℕ) (e : Event) (h : List Event) → grants_since slot (e ∷ h) ≡ next_count slot e (grants_since slot h)
one_count slot (Granted w g s to) h = refl
one_count slot (Stored w c id s len exp kept members from r ct body) h = refl
one_count slot e h = refl

count_onto : (slot : ℕ) (es h : List Event) → grants_since slot (onto es h) ≡ count_after slot es (grants_since slot h)
count_onto slot [] h = refl
count_onto slot (e ∷ es) h = count_onto slot es (e ∷ h) ∙ ap (count_after slot es) (one_count slot e h)

count_append : (slot : ℕ) (xs ys : List Event) (n : ℕ) → count_after slot (xs ++ ys) n ≡ count_after slot ys (count_after slot xs n)
count_append slot [] ys n = refl
count_append slot (e ∷ xs) ys n = count_append slot xs ys (next_count slot e n)

count_makes : (slot w : ℕ) (next : ℕ → ℕ) (alerts : List OutLine) (n : ℕ) → count_after slot (makes w next alerts) n ≡ n
count_makes slot w next [] n = refl
count_makes slot w next (a ∷ alerts) n = count_makes slot w (numbered next a.to) alerts n

count_weave : (slot w : ℕ) (next : ℕ → ℕ) (es : List Event) (alerts : List OutLine) (n : ℕ) → count_after slot (weave w next es alerts) n ≡ count_after slot es n
count_weave slot w next [] alerts n = count_makes slot w next alerts n
count_weave slot w next (Granted v g s to ∷ es) [] n = count_weave slot w next es [] (cond (s == slot) (n + 1) n)
count_weave slot w next (Granted v g s to ∷ es) (a ∷ alerts) n = count_weave slot w (numbered next a.to) es alerts (cond (s == slot) (n + 1) n)
count_weave slot w next (e ∷ es) alerts n = count_weave slot w next es alerts (next_count slot e n)

-- some events turn the counts of a row into those of another
abbrev CountedBy : List (Slot Message) → List Event → List (Slot Message) → Type 0
CountedBy row events new = (slot n : ℕ) → Counts (slot_at row slot) n → Counts (slot_at new slot) (count_after slot events n)

counted_then : (row middle new : List (Slot Message)) (xs ys : List Event) → CountedBy row xs middle → CountedBy middle ys new → CountedBy row (xs ++ ys) new
counted_then row middle new xs ys f g slot n a = subst (Counts (slot_at new slot)) (sym (count_append slot xs ys n)) (g slot (count_after slot xs n) (f slot n a))

counted_step : (w : ℕ) (next : ℕ → ℕ) (events : List Event) (alerts : List OutLine) (row new : List (Slot Message)) (h : List Event) → CountedBy row events new → SlotsCount row h → SlotsCount new (onto (weave w next events alerts) h)
counted_step w next events alerts row new h f a slot =
    subst (Counts (slot_at new slot)) (sym (count_onto slot (weave w next events alerts) h ∙ count_weave slot w next events alerts (grants_since slot h))) (f slot (grants_since slot h) (a slot))

-- ---- one slot of a row is written

write : (P : Slot Message → Type 0) (row : List (Slot Message)) (k : ℕ) (x : Slot Message) (slot : ℕ) → (k ≡ slot → P x) → P (slot_at row slot) → P (slot_at (slice_set row k x) slot)
write P [] k x slot f p = p
write P (y ∷ row) zero x zero f p = f refl
write P (y ∷ row) zero x (suc slot) f p = p
write P (y ∷ row) (suc k) x zero f p = p
write P (y ∷ row) (suc k) x (suc slot) f p = write P row k x slot (λ e. f (ap suc e)) p

-- the slot that is written, or an unused one where there is none
write_here : (P : Slot Message → Type 0) (row : List (Slot Message)) (k : ℕ) (x : Slot Message) → P x → P Unused → P (slot_at (slice_set row k x) k)
write_here P [] k x p q = q
write_here P (y ∷ row) zero x p q = p
write_here P (y ∷ row) (suc k) x p q = write_here P row k x p q

-- the slot that is written counts anew, and the others as before
write_counts : (row : List (Slot Message)) (k : ℕ) (x : Slot Message) (slot new n : ℕ) → (k ≡ slot → Counts x new) → Counts (slot_at row slot) n → Counts (slot_at (slice_set row k x) slot) (cond (k == slot) new n)
write_counts row k x slot new n f a = by (k == slot) refl
  where
    by : (b : Bool) → (k == slot) ≡ b → Counts (slot_at (slice_set row k x) slot) (cond b new n)
    by true e = let same : k ≡ slot = eqb-true k slot e in subst (λ (j : ℕ). Counts (slot_at (slice_set row k x) j) new) same (write_here (λ y. Counts y new) row k x (f same) tt)
    by false e = let other : slot ≢ k = grind (arith, nat_tests) in subst (λ (y : Slot Message). Counts y n) (sym (get_or-set_other row k slot x Unused other)) a

retired_counts : (x : Slot Message) (n : ℕ) → Counts (retired x) n
retired_counts Unused n = tt
retired_counts (Buffered message clear grants) n = tt
retired_counts (Retired clear grants) n = tt

polled_counts : (b : Bool) (x : Slot Message) (n : ℕ) → Counts x n → Counts (polled b x) n
polled_counts true x n a = a
polled_counts false Unused n a = tt
polled_counts false (Buffered message clear grants) n a = a
polled_counts false (Retired clear grants) n a = tt

granted_counts : (x : Slot Message) (n : ℕ) → Counts x n → Counts (granted x) (n + 1)
granted_counts Unused n a = tt
granted_counts (Buffered message clear grants) n a = ap (λ k. k + 1) a
granted_counts (Retired clear grants) n a = tt

-- ---- what leaves, polls, grants and a message that is stored

counted_lefts : (w : ℕ) (c : List ℕ) (cause : LeftCause) (es : List Entry) (row : List (Slot Message)) → CountedBy row (map (left_event w c cause) es) (fold left_row row es)
counted_lefts w c cause [] row slot n a = a
counted_lefts w c cause (e ∷ es) row slot n a = counted_lefts w c cause es (left_row row e) slot n (write (λ x. Counts x n) row e.slot (retired (slot_at row e.slot)) slot (λ same. retired_counts (slot_at row e.slot) n) a)

counted_polls : (answers : List PollAnswer) (row : List (Slot Message)) → CountedBy row [] (polled_all answers row)
counted_polls [] row slot n a = a
counted_polls (x ∷ answers) row slot n a =
    counted_polls answers (polled_slot row x) slot n
    (write (λ y. Counts y n) row x.slot (polled x.held (slot_at row x.slot)) slot (λ same. polled_counts x.held (slot_at row x.slot) n (subst (λ (j : ℕ). Counts (slot_at row j) n) (sym same) a)) a)

count_freed : (slot w : ℕ) (slots : List ℕ) (n : ℕ) → count_after slot (map (freed_event w) slots) n ≡ n
count_freed slot w [] n = refl
count_freed slot w (k ∷ slots) n = count_freed slot w slots n

counted_frees : (w : ℕ) (answers : List PollAnswer) (row : List (Slot Message)) → CountedBy row (freed_events w answers) (polled_all answers row)
counted_frees w answers row slot n a = subst (Counts (slot_at (polled_all answers row) slot)) (sym (count_freed slot w (free_slots answers) n)) (counted_polls answers row slot n a)

counted_grants : (w k g : ℕ) (marks : List ℕ) (row : List (Slot Message)) → CountedBy row (granted_events w k g marks) (fold (granted_slot k) row marks)
counted_grants w k g [] row slot n a = a
counted_grants w k g (to ∷ marks) row slot n a =
    counted_grants w k (g + 1) marks (granted_slot k row to) slot (cond (k == slot) (n + 1) n)
    (write_counts row k (granted (slot_at row k)) slot (n + 1) n (λ same. granted_counts (slot_at row k) n (subst (λ (j : ℕ). Counts (slot_at row j) n) (sym same) a)) a)

counted_kept : (kept : Bool) (k : ℕ) (row : List (Slot Message)) → CountedBy row [] (kept_row kept k row)
counted_kept true k row slot n a = a
counted_kept false k row slot n a = write (λ x. Counts x n) row k (retired (slot_at row k)) slot (λ same. retired_counts (slot_at row k) n) a

counted_stored : (from : ℕ) (o : Order) (id : Id) (k members : ℕ) (d : Desk) (kept : Bool) (m : Message) (g : ℕ) (marks : List ℕ) (row : List (Slot Message)) → CountedBy row (stored_event from o id k members d ∷ granted_events d.me k g marks) (kept_row kept k (told_row m k marks row))
counted_stored from o id k members d kept m g marks row slot n a =
    counted_kept kept k (told_row m k marks row) slot (count_after slot (granted_events d.me k g marks) (cond (k == slot) 0 n))
    (counted_grants d.me k g marks (slice_set row k (filled m)) slot (cond (k == slot) 0 n) (write_counts row k (filled m) slot 0 n (λ same. refl) a))

-- ---- the steps

unused_row : (slots k : ℕ) → slot_at (replicate slots (let x : Slot Message = Unused in x)) k ≡ Unused
unused_row zero k = refl
unused_row (suc slots) zero = refl
unused_row (suc slots) (suc k) = unused_row slots k

pub new_count : NewCount
new_count slots k = subst (λ (x : Slot Message). Counts x 0) (sym (unused_row slots k)) tt

counted_touch : (c : List ℕ) (row : List (Slot Message)) (s : OwnerAt) → CountedBy row (touch_events_of c row s) (touched_row c row s)
counted_touch c row s = counted_lefts s.desk.me c Expired (leavers (is_expired s.desk.clock) (bench_of c row s)) row

counted_removed : (c : List ℕ) (cause : RemovedCause) (row : List (Slot Message)) (s : OwnerAt) → CountedBy row (removal_events c cause s) (removed_row c row s)
counted_removed c cause row s =
    counted_then row (removed_row c row s) (removed_row c row s) (removal_lefts c Deleted s) (Removed s.desk.me c (last_in c s) cause ∷ []) (counted_lefts s.desk.me c Deleted (entries_of (opened c s)) row) (λ slot n told. told)

counted_parted : (b : Bool) (w : ℕ) (c : List ℕ) (m : Member) (row : List (Slot Message)) → CountedBy row (cond b (Parted w c m.from m.k ∷ []) []) row
counted_parted true w c m row slot n a = a
counted_parted false w c m row slot n a = a

counted_found : (from number : ℕ) (c : List ℕ) (id : Id) (x : Option Entry) (d : Desk) (row : List (Slot Message)) → CountedBy row (looked_event from number c id x d ∷ found_events from x d) (found_row from x row)
counted_found from number c id None d row slot n a = a
counted_found from number c id (Some e) d row slot n a = counted_grants d.me e.slot d.grants (from ∷ []) row slot n a

counted_look : (from number : ℕ) (c : List ℕ) (id : Id) (row : List (Slot Message)) (s : OwnerAt) → CountedBy row (look_events from number c id row s) (look_row from c id row s)
counted_look from number c id row s =
    let b = touched_of c row s in
    let ready = look_ready c row s in
    counted_then row ready.row (look_row from c id row s) (touch_events_of c row s ++ spend_events c b) (answered_events from number c id ready)
    (counted_then row b.row ready.row (touch_events_of c row s) (spend_events c b) (counted_touch c row s) (counted_lefts s.desk.me c Spent (leavers is_spent b) b.row))
    (counted_found from number c id (found_on id ready) ready.desk ready.row)

counted_post : (x : Outcome) (from : ℕ) (o : Order) (polls : Polls) (b : Bench) → CountedBy b.row (post_events x from o polls b) (post_bench x o polls b).row
counted_post late from o polls b = λ slot n a. a
counted_post (full usage) from o polls b = counted_polls polls.leaving b.row
counted_post stored from o polls b =
    let ready = asked polls.leaving b in
    let es = leaving o.length b in
    let gone = fold left_row ready.row es in
    let room = roomy o.length polls.left ready in
    let k = lowest_slot room.row in
    let new = (post_bench stored o polls b).row in
    let lefts = map (left_event b.desk.me o.chan Length) es in
    let frees = freed_events b.desk.me polls.left in
    counted_then b.row ready.row new [] (roomy_events o.length polls.left o.chan ready ++ stored_events from o k room) (counted_polls polls.leaving b.row)
    (counted_then ready.row room.row new (lefts ++ frees) (stored_events from o k room)
    (counted_then ready.row gone room.row lefts frees (counted_lefts b.desk.me o.chan Length es ready.row) (counted_frees b.desk.me polls.left gone))
    (counted_stored from o (stamp room) k (length room.channel.members) room.desk (not (o.length == 0)) (message_of_order (stamp room) o room.desk.clock) room.desk.grants room.channel.marks room.row))

counted_publish : (from : ℕ) (o : Order) (polls : Polls) (row : List (Slot Message)) (s : OwnerAt) → CountedBy row (publish_events from o polls row s) (publish_row o polls row s)
counted_publish from o polls row s =
    let b = touched_of o.chan row s in
    let ready = publish_cleared o polls row s in
    let x = publish_outcome o polls row s in
    let frees = freed_events s.desk.me polls.retired in
    counted_then row ready.row (publish_row o polls row s) (cleared_events polls.retired o.chan (bench_of o.chan row s)) (post_events x from o polls ready)
    (counted_then row b.row ready.row (touch_events_of o.chan row s) frees (counted_touch o.chan row s) (counted_frees s.desk.me polls.retired b.row))
    (counted_post x from o polls ready)

pub steps_keep_count : StepsKeepCount
steps_keep_count next row h s a = record {
  join = λ m c. counted_step s.desk.me next (touch_events_of c row s ++ Joined s.desk.me c m.from m.k ∷ []) [] row (touched_row c row s) h
      (counted_then row (touched_row c row s) (touched_row c row s) (touch_events_of c row s) (Joined s.desk.me c m.from m.k ∷ []) (counted_touch c row s) (λ slot n told. told)) a;
  part = λ m c. counted_step s.desk.me next (touch_events_of c row s ++ parted_events s.desk.me m c (opened c s)) [] row (touched_row c row s) h
      (counted_then row (touched_row c row s) (touched_row c row s) (touch_events_of c row s) (parted_events s.desk.me m c (opened c s)) (counted_touch c row s) (counted_parted (has_member m (opened c s).members) s.desk.me c m (touched_row c row s))) a;
  info = λ from r c. counted_step s.desk.me next (touch_events_of c row s) (info_alerts from r c row s) row (touched_row c row s) h (counted_touch c row s) a;
  sweep = λ c. counted_step s.desk.me next (touch_events_of c row s) [] row (touched_row c row s) h (counted_touch c row s) a;
  look = λ from number c id. counted_step s.desk.me next (look_events from number c id row s) (look_alerts from number c id row s) row (look_row from c id row s) h (counted_look from number c id row s) a;
  remove = λ c cause. counted_step s.desk.me next (removal_events c cause s) (removal_alerts c s) row (removed_row c row s) h (counted_removed c cause row s) a;
  polled = λ answers. counted_step s.desk.me next (polled_events answers s) [] row (polled_row answers row) h (counted_frees s.desk.me answers row) a;
  publish = λ from o polls. counted_step s.desk.me next (publish_events from o polls row s) (publish_alerts from o polls row s) row (publish_row o polls row s) h (counted_publish from o polls row s) a;
}

in_counts : (x : Slot Message) (e : Entry) (n : ℕ) → IsIn x e → Counts x n → e.grants ≡ n
in_counts Unused e n i a = absurd i
in_counts (Buffered message clear grants) e n i a = sym i.2 ∙ a
in_counts (Retired clear grants) e n i a = absurd i

pub entries_count : EntriesCount
entries_count row h s f a c = all-weaker (λ e. IsIn (slot_at row e.slot) e) (λ e. e.grants ≡ grants_since e.slot h) (λ e i. in_counts (slot_at row e.slot) e (grants_since e.slot h) i (a e.slot)) (entries_of (opened c s)) (opened_fits c row s f).kept
