-- An owner's step keeps that no slot has more holds than it can have.
use Rattle.std.proofs.Common.{◌≡◌, ◌≢◌, ℕ, zero, suc, ◌+◌, ◌<◌, ◌≤◌, Bool, true, false, cond, List, [], ◌∷◌, Option, Some, None, refl, sym, ap, subst, arith, fold, length, find, unwrap_or, replicate}
use Rattle.std.specs.Prelude.{◌==◌, slice_index, slice_set, is_some}
use Rattle.std.specs.List.{AllByRecursion}
use Rattle.std.proofs.lemmas.Bool.Decides.{nat_tests}
use Rattle.std.proofs.lemmas.List.{get_or-set_same, get_or-set_other}
use Rattle.std.proofs.lemmas.List.Quantifiers.{position-Some}
use Rattle.nc_types.specs.Id.{Id, is_past}
use Rattle.nc_types.specs.Message.{Message}
use Rattle.nc_buffer.specs.declared.entry.Entry.{Entry}
use Rattle.nc_buffer.specs.Buffer.{is_expired, is_spent}
use Rattle.nc_slots.specs.declared.slot.Slot.{Slot}
use Rattle.nc_slots.specs.declared.slot.Slot.TheVariants.{Unused, Buffered, Retired}
use Rattle.nc_slots.specs.Slot.{slot_at, most_holds, granted, retired, filled, is_unused, lowest_unused}
use Rattle.nc_owner.specs.declared.order.Order.{Order}
use Rattle.nc_owner.specs.State.{OwnerAt, Bench, bench_of, entries_of, opened}
use Rattle.nc_owner.specs.Leave.{leavers}
use Rattle.nc_owner.specs.Ascending.{ascending}
use Rattle.nc_owner.specs.Publish.{Polls, Outcome, late, stored, full as is_all, asked, roomy, leaving, slots_of, lowest_slot, granted_slot, one_hold, told_row, kept_row, post_bench, post_holds, publish_cleared, publish_outcome, publish_row, publish_holds, message_of_order, stamp, PublishPolls}
use Rattle.nc_owner.specs.Look.{found_on, found_row, found_holds, look_ready, look_row, look_holds}
use Rattle.nc_owner.specs.OtherSteps.{touched_of}
use Rattle.nc_owner_laws.specs.Kept.{IsIn, AreIn}
use Rattle.nc_owner_laws.specs.OwnerFits.{OwnerFits}
use Rattle.nc_owner_laws.specs.HoldsKept.{HoldsFit, told_polls, one_less, NewHoldsFit, HoldsKept}
use Rattle.nc_owner_laws.proofs.Opening.{rest_of}
use Rattle.nc_owner_laws.proofs.Leaving.{let_go_fits}
use Rattle.nc_owner_laws.proofs.Steps.{touched_fits, publish_finds}
use Rattle.nc_owner_laws.proofs.ToldPolls.{set_fits, left_fits, polled_fits, told_are_polls}

abbrev IsBuffered : Slot Message → Type 0
IsBuffered Unused = ⊥
IsBuffered (Buffered m c g) = Unit {0}
IsBuffered (Retired c g) = ⊥

within : (row : List (Slot Message)) (s : ℕ) → IsBuffered (slot_at row s) → s < length row
within [] s b = absurd b
within (x ∷ row) zero b = omega arith
within (x ∷ row) (suc s) b = let lt = within row s b in omega (arith, lt)

granted_is : (x : Slot Message) → IsBuffered x → IsBuffered (granted x)
granted_is (Buffered m c g) b = tt
granted_is Unused b = absurd b
granted_is (Retired c g) b = absurd b

granted_most : (x : Slot Message) (n : ℕ) → IsBuffered x → n ≤ most_holds x → n + 1 ≤ most_holds (granted x)
granted_most (Buffered m true g) n b le = omega (arith, le)
granted_most (Buffered m false g) n b le = omega (arith, le)
granted_most Unused n b le = absurd b
granted_most (Retired c g) n b le = absurd b

hold_more : (counts : List ℕ) (s k : ℕ) → (k ≢ s → slice_index (slice_set counts s (slice_index counts s + 1)) k ≤ slice_index counts k) × (slice_index (slice_set counts s (slice_index counts s + 1)) s ≤ slice_index counts s + 1)
hold_more [] s k = ((λ n. omega arith), omega arith)
hold_more (x ∷ xs) zero zero = ((λ n. absurd (n refl)), omega arith)
hold_more (x ∷ xs) zero (suc k) = ((λ n. omega arith), omega arith)
hold_more (x ∷ xs) (suc s) zero = let r = hold_more xs s 0 in ((λ n. omega arith), r.1)
hold_more (x ∷ xs) (suc s) (suc k) = let r = hold_more xs s k in ((λ n. r.0 (λ e. n (ap suc e))), r.1)

-- a slot that is buffered is granted once more
grant_fits : (row : List (Slot Message)) (counts : List ℕ) (s : ℕ) → IsBuffered (slot_at row s) → HoldsFit row counts → HoldsFit (slice_set row s (granted (slot_at row s))) (slice_set counts s (slice_index counts s + 1))
grant_fits row counts s b f k = by (k == s) refl
  where
    by : (c : Bool) → (k == s) ≡ c → slice_index (slice_set counts s (slice_index counts s + 1)) k ≤ most_holds (slot_at (slice_set row s (granted (slot_at row s))) k)
    by true e = let same : k ≡ s = grind (arith, nat_tests) in let le = (hold_more counts s s).1 in let m = granted_most (slot_at row s) (slice_index counts s) b (f s) in
        subst (λ (j : ℕ). slice_index (slice_set counts s (slice_index counts s + 1)) j ≤ most_holds (slot_at (slice_set row s (granted (slot_at row s))) j)) (sym same)
        (subst (λ (y : Slot Message). slice_index (slice_set counts s (slice_index counts s + 1)) s ≤ most_holds y) (sym (get_or-set_same row s (granted (slot_at row s)) Unused (within row s b))) (omega (arith, le, m)))
    by false e = let other : k ≢ s = grind (arith, nat_tests) in let le = (hold_more counts s k).0 other in let m = f k in
        subst (λ (y : Slot Message). slice_index (slice_set counts s (slice_index counts s + 1)) k ≤ most_holds y) (sym (get_or-set_other row s k (granted (slot_at row s)) Unused other)) (omega (arith, le, m))

grants_fit : (s : ℕ) (marks : List ℕ) (row : List (Slot Message)) (counts : List ℕ) → IsBuffered (slot_at row s) → HoldsFit row counts → HoldsFit (fold (granted_slot s) row marks) (fold (one_hold s) counts marks)
grants_fit s [] row counts b f = f
grants_fit s (m ∷ marks) row counts b f = grants_fit s marks (granted_slot s row m) (one_hold s counts m)
    (subst IsBuffered (sym (get_or-set_same row s (granted (slot_at row s)) Unused (within row s b))) (granted_is (slot_at row s) b)) (grant_fits row counts s b f)

unused_is : (x : Slot Message) → is_unused x ≡ true → x ≡ Unused
unused_is Unused e = refl
unused_is (Buffered m c g) e = absurd cc
unused_is (Retired c g) e = absurd cc

lowest_is : (row : List (Slot Message)) (s : ℕ) → lowest_unused row ≡ Some s → (slot_at row s ≡ Unused) × (s < length row)
lowest_is row s e = let p = position-Some is_unused row s Unused e in (unused_is (slot_at row s) p.1, p.0)

retired_most : (x : Slot Message) → most_holds (retired x) ≡ most_holds x
retired_most Unused = refl
retired_most (Buffered m c g) = refl
retired_most (Retired c g) = refl

kept_fits : (kept : Bool) (s : ℕ) (row : List (Slot Message)) (counts : List ℕ) → HoldsFit row counts → HoldsFit (kept_row kept s row) counts
kept_fits true s row counts f = f
kept_fits false s row counts f = set_fits row counts s (retired (slot_at row s)) f (subst (λ (n : ℕ). slice_index counts s ≤ n) (sym (retired_most (slot_at row s))) (f s))

-- a message is put into an unused slot and granted to each marked worker
told_fits : (m : Message) (s : ℕ) (marks : List ℕ) (row : List (Slot Message)) (counts : List ℕ) → lowest_unused row ≡ Some s → HoldsFit row counts → HoldsFit (told_row m s marks row) (fold (one_hold s) counts marks)
told_fits m s marks row counts low f =
    let l = lowest_is row s low in
    let none = subst (λ (y : Slot Message). slice_index counts s ≤ most_holds y) l.0 (f s) in
    grants_fit s marks (slice_set row s (filled m)) counts (subst IsBuffered (sym (get_or-set_same row s (filled m) Unused l.1)) tt) (set_fits row counts s (filled m) f none)

some_lowest : (o : Option ℕ) → is_some o ≡ true → o ≡ Some (unwrap_or o 0)
some_lowest None e = absurd cc
some_lowest (Some s) e = refl

post_fits : (x : Outcome) (o : Order) (polls : Polls) (counts : List ℕ) (b : Bench) → (x ≡ stored → is_some (lowest_unused (roomy o.length polls.left (asked polls.leaving b)).row) ≡ true) → HoldsFit b.row counts
    → HoldsFit (asked polls.leaving b).row counts → HoldsFit (roomy o.length polls.left (asked polls.leaving b)).row counts
    → HoldsFit (post_bench x o polls b).row (post_holds x o polls b counts)
post_fits late o polls counts b low f g r = f
post_fits (is_all usage) o polls counts b low f g r = g
post_fits stored o polls counts b low f g r =
    let room = roomy o.length polls.left (asked polls.leaving b) in
    let slot = lowest_slot room.row in
    let m = message_of_order (stamp room) o room.desk.clock in
    kept_fits _ slot (told_row m slot room.channel.marks room.row) (fold (one_hold slot) counts room.channel.marks)
    (told_fits m slot room.channel.marks room.row counts (some_lowest (lowest_unused room.row) (low refl)) r)

find_all : (P : Entry → Type 0) (test : Entry → Bool) (es : List Entry) (e : Entry) → AllByRecursion P es → find test es ≡ Some e → P e
find_all P test [] e a f = absurd cc
find_all P test (x ∷ es) e a f = by (test x) f (find_all P test es e a.1)
  where
    some_same : (y z : Entry) → Some y ≡ Some z → y ≡ z
    some_same y z q = cc

    by : (b : Bool) → cond b (Some x) (find test es) ≡ Some e → (find test es ≡ Some e → P e) → P e
    by true q g = subst P (some_same x e q) a.0
    by false q g = g q

is_buffered : (x : Slot Message) (e : Entry) → IsIn x e → IsBuffered x
is_buffered Unused e i = absurd i
is_buffered (Buffered m c g) e i = tt
is_buffered (Retired c g) e i = absurd i

found_fits : (from : ℕ) (x : Option Entry) (row : List (Slot Message)) (counts : List ℕ) → ((e : Entry) → x ≡ Some e → IsBuffered (slot_at row e.slot)) → HoldsFit row counts → HoldsFit (found_row from x row) (found_holds from x counts)
found_fits from None row counts b f = f
found_fits from (Some e) row counts b f = grant_fits row counts e.slot (b e refl) f

unused_holds : (slots k : ℕ) → slice_index (replicate slots 0) k ≡ 0
unused_holds zero k = refl
unused_holds (suc slots) zero = refl
unused_holds (suc slots) (suc k) = unused_holds slots k

pub new_holds_fit : NewHoldsFit
new_holds_fit slots k = omega (arith, unused_holds slots k)

touch_holds : (c : List ℕ) (row : List (Slot Message)) (counts : List ℕ) (s : OwnerAt) → HoldsFit row counts → HoldsFit (touched_of c row s).row counts
touch_holds c row counts s f = left_fits (leavers (is_expired s.desk.clock) (bench_of c row s)) row counts f

-- where a look is answered, the message of each entry lies in its slot
ready_kept : (c : List ℕ) (row : List (Slot Message)) (s : OwnerAt) → OwnerFits row s → AreIn (look_ready c row s).row (entries_of (look_ready c row s).channel)
ready_kept c row s f = (let_go_fits (rest_of c s) is_spent (touched_of c row s) (touched_fits c row s f)).kept

look_holds_fit : (from : ℕ) (c : List ℕ) (id : Id) (row : List (Slot Message)) (counts : List ℕ) (s : OwnerAt) → OwnerFits row s → HoldsFit row counts → HoldsFit (look_row from c id row s) (look_holds from c id row s counts)
look_holds_fit from c id row counts s k f =
    let b = look_ready c row s in
    found_fits from (found_on id b) b.row counts
    (λ e q. is_buffered (slot_at b.row e.slot) e (find_all (λ z. IsIn (slot_at b.row z.slot) z) (λ z. is_past z.id id) (entries_of b.channel) e (ready_kept c row s k) q))
    (left_fits (leavers is_spent (touched_of c row s)) (touched_of c row s).row counts (touch_holds c row counts s f))

one_less_low : (counts : List ℕ) (slot k : ℕ) → slice_index (one_less slot counts) k ≤ slice_index counts k
one_less_low [] slot k = omega arith
one_less_low (x ∷ xs) zero zero = omega arith
one_less_low (x ∷ xs) zero (suc k) = omega arith
one_less_low (x ∷ xs) (suc slot) zero = omega arith
one_less_low (x ∷ xs) (suc slot) (suc k) = one_less_low xs slot k

told_holds_fit : (o : Order) (row : List (Slot Message)) (counts : List ℕ) (s : OwnerAt) → OwnerFits row s → HoldsFit row counts → let p = told_polls counts o row s in HoldsFit (publish_row o p row s) (publish_holds o p row s counts)
told_holds_fit o row counts s k f =
    let p = told_polls counts o row s in
    let b = publish_cleared o p row s in
    let leave = slots_of (leaving o.length b) in
    let f1 : HoldsFit b.row counts = polled_fits (touched_of o.chan row s).desk.retired (touched_of o.chan row s).row counts (touch_holds o.chan row counts s f) in
    let f2 : HoldsFit (asked p.leaving b).row counts = polled_fits leave b.row counts f1 in
    post_fits (publish_outcome o p row s) o p counts b (λ e. publish_finds true counts o row s p (told_are_polls row counts s o f) k e) f1 f2
    (polled_fits (ascending leave) _ counts (left_fits (leaving o.length (asked p.leaving b)) (asked p.leaving b).row counts f2))

-- where numbers are told, the answers of a publish's polls are the told ones
polls_are_told : (counts : List ℕ) (o : Order) (row : List (Slot Message)) (s : OwnerAt) (polls : Polls) → PublishPolls true counts o row s polls → told_polls counts o row s ≡ polls
polls_are_told counts o row s polls p = λ i. record {
  retired = sym (p.first.told refl) i;
  leaving = sym (p.others.before.told refl) i;
  left = sym (p.others.after_leaving.told refl) i;
}

pub holds_kept : HoldsKept
holds_kept row counts s k f = record {
  touch = λ c. touch_holds c row counts s f;
  remove = λ c. left_fits (entries_of (opened c s)) row counts f;
  look = λ from c id. look_holds_fit from c id row counts s k f;
  polled = polled_fits s.desk.retired row counts f;
  release = λ slot n. let low = one_less_low counts slot n in let had = f n in omega (arith, low, had);
  publish = λ o polls p. subst (λ (x : Polls). HoldsFit (publish_row o x row s) (publish_holds o x row s counts)) (polls_are_told counts o row s polls p) (told_holds_fit o row counts s k f);
}
