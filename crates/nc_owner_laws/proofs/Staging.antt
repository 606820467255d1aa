-- The stages of an owner's slots, by the last event that names each, are those that its row shows.
use Rattle.std.proofs.Common.{◌≡◌, ◌≢◌, ℕ, zero, suc, ◌+◌, ◌<◌, ◌≤◌, Bool, true, false, cond, not, List, [], ◌∷◌, ◌++◌, Option, Some, None, refl, sym, ap, ◌∙◌, arith, length, map, filter, fold, take, drop}
use Rattle.std.specs.Prelude.{◌==◌, is_some, replicate, slice_set}
use Rattle.std.specs.List.{AllByRecursion}
use Rattle.std.proofs.lemmas.Bool.{eqb-true}
use Rattle.std.proofs.lemmas.Bool.Decides.{nat_tests}
use Rattle.std.proofs.lemmas.List.{get_or-set_same, get_or-set_other, take-append-drop}
use Rattle.std.proofs.lemmas.List.Quantifiers.{position-Some}
use Rattle.nc_types.specs.Id.{Id}
use Rattle.nc_types.specs.Message.{Message}
use Rattle.nc_journal.specs.History.{onto}
use Rattle.nc_journal.specs.Holding.{SlotStage, Unused as UnusedStage, Buffered as BufferedStage, Retired as RetiredStage, slot_stage, stored_stage}
use Rattle.nc_journal.specs.declared.event.Event.{Event}
use Rattle.nc_journal.specs.declared.event.Event.TheVariants.{Stored, Left, Granted, Freed, Joined, Parted, Removed}
use Rattle.nc_journal.specs.declared.word.LeftCause.{LeftCause}
use Rattle.nc_journal.specs.declared.word.LeftCause.TheVariants.{Length, Expired, Spent, Deleted}
use Rattle.nc_journal.specs.declared.word.RemovedCause.{RemovedCause}
use Rattle.nc_journal.proofs.Cuts.{all-weaker}
use Rattle.nc_buffer.specs.declared.entry.Entry.{Entry}
use Rattle.nc_buffer.specs.Buffer.{is_expired, is_spent}
use Rattle.nc_slots.specs.declared.slot.Slot.{Slot}
use Rattle.nc_slots.specs.declared.slot.Slot.TheVariants.{Unused, Buffered, Retired}
use Rattle.nc_slots.specs.Slot.{slot_at, is_unused, is_buffered, lowest_unused, filled, granted, retired, polled, cleared}
use Rattle.nc_owner.specs.declared.desk.Desk.{Desk}
use Rattle.nc_owner.specs.declared.member.Member.{Member}
use Rattle.nc_owner.specs.declared.order.Order.{Order}
use Rattle.nc_owner.specs.declared.poll.PollAnswer.{PollAnswer}
use Rattle.nc_owner.specs.Ascending.{ascending}
use Rattle.nc_owner.specs.Members.{has_member}
use Rattle.nc_owner.specs.AlertLines.{OutLine}
use Rattle.nc_owner.specs.State.{OwnerAt, Bench, entries_of, opened, bench_of}
use Rattle.nc_owner.specs.Leave.{left_event, left_row, leavers, spend_events}
use Rattle.nc_owner.specs.Poll.{polled_slot, polled_all, slot_of, is_free, freed_event, freed_events}
use Rattle.nc_owner.specs.Publish.{Polls, Outcome, late, full, stored, asked, roomy, leaving, leaving_count, slots_of, lowest_slot, granted_slot, granted_events, told_row, kept_row, stamp, message_of_order, stored_event, stored_events, roomy_events, post_events, post_bench, cleared_events, publish_cleared, publish_outcome, publish_events, publish_alerts, publish_row}
use Rattle.nc_owner.specs.Look.{found_on, found_row, looked_event, found_events, answered_events, look_ready, look_events, look_alerts, look_row}
use Rattle.nc_owner.specs.Edge.{last_in}
use Rattle.nc_owner.specs.Remove.{removal_lefts, removal_events, removal_alerts, removed_row}
use Rattle.nc_owner.specs.OtherSteps.{touched_of, touch_events_of, touched_row, info_alerts, parted_events, polled_events, polled_row}
use Rattle.nc_owner_laws.specs.Used.{is_retired, bit, times, Agrees}
use Rattle.nc_owner_laws.specs.Kept.{slots_in, IsIn, AreIn}
use Rattle.nc_owner_laws.specs.OwnerFits.{OwnerFits}
use Rattle.nc_owner_laws.proofs.Benches.{BenchFits}
use Rattle.nc_owner_laws.specs.Stages.{stage_in, AreStaged, NewStaged, OthersStaged, PublishStaged}
use Rattle.nc_owner_laws.specs.Weave.{weave, makes, numbered}
use Rattle.nc_owner_laws.proofs.Used.{times-append, times_here}
use Rattle.nc_owner_laws.proofs.Kept.{all_filtered}
use Rattle.nc_owner_laws.proofs.Leaving.{oldest_leave, slots_append, times-with_slot}
use Rattle.nc_owner_laws.proofs.Polling.{polled_fits}
use Rattle.nc_owner_laws.proofs.Opening.{rest_of, opened_fits}
use Rattle.nc_owner_laws.proofs.Room.{asked_fits, times-ascending}
use Rattle.nc_owner_laws.proofs.Steps.{touched_fits, publish_finds, some_is}

-- ---- the stage of a slot after some events

-- the stage after one event
abbrev next_stage : ℕ → Event → SlotStage → SlotStage
next_stage slot (Stored w c id s len exp kept members from r ct body) st = cond (s == slot) (stored_stage kept) st
next_stage slot (Left w c id s cause) st = cond (s == slot) RetiredStage st
next_stage slot (Freed w s) st = cond (s == slot) UnusedStage st
next_stage slot e st = st

abbrev pub stage_after : ℕ → List Event → SlotStage → SlotStage
stage_after slot [] st = st
stage_after slot (e ∷ es) st = stage_after slot es (next_stage slot e st)

one_stage : (slot : ℕ) (e : Event) (h : List Event) → slot_stage slot (e ∷ h) ≡ next_stage slot e (slot_stage slot h)
one_stage slot (Stored w c id s len exp kept members from r ct body) h = refl
one_stage slot (Left w c id s cause) h = refl
one_stage slot (Freed w s) h = refl
one_stage slot e h = refl

stage_onto : (slot : ℕ) (es h : List Event) → slot_stage slot (onto es h) ≡ stage_after slot es (slot_stage slot h)
stage_onto slot [] h = refl
stage_onto slot (e ∷ es) h = stage_onto slot es (e ∷ h) ∙ ap (stage_after slot es) (one_stage slot e h)

stage_append : (slot : ℕ) (xs ys : List Event) (st : SlotStage) → stage_after slot (xs ++ ys) st ≡ stage_after slot ys (stage_after slot xs st)
stage_append slot [] ys st = refl
stage_append slot (e ∷ xs) ys st = stage_append slot xs ys (next_stage slot e st)

stage_makes : (slot w : ℕ) (next : ℕ → ℕ) (alerts : List OutLine) (st : SlotStage) → stage_after slot (makes w next alerts) st ≡ st
stage_makes slot w next [] st = refl
stage_makes slot w next (a ∷ alerts) st = stage_makes slot w (numbered next a.to) alerts st

stage_weave : (slot w : ℕ) (next : ℕ → ℕ) (es : List Event) (alerts : List OutLine) (st : SlotStage) → stage_after slot (weave w next es alerts) st ≡ stage_after slot es st
stage_weave slot w next [] alerts st = stage_makes slot w next alerts st
stage_weave slot w next (Granted v g s to ∷ es) [] st = stage_weave slot w next es [] st
stage_weave slot w next (Granted v g s to ∷ es) (a ∷ alerts) st = stage_weave slot w (numbered next a.to) es alerts st
stage_weave slot w next (e ∷ es) alerts st = stage_weave slot w next es alerts (next_stage slot e st)

-- some events turn the stages of a row into those of another
abbrev pub StagedBy : List (Slot Message) → List Event → List (Slot Message) → Type 0
StagedBy row events new = (slot : ℕ) → stage_after slot events (stage_in (slot_at row slot)) ≡ stage_in (slot_at new slot)

pub staged_then : (row middle new : List (Slot Message)) (xs ys : List Event) → StagedBy row xs middle → StagedBy middle ys new → StagedBy row (xs ++ ys) new
staged_then row middle new xs ys f g slot = stage_append slot xs ys (stage_in (slot_at row slot)) ∙ ap (stage_after slot ys) (f slot) ∙ g slot

pub staged_onto : (events : List Event) (row new : List (Slot Message)) (h : List Event) → StagedBy row events new → AreStaged row h → AreStaged new (onto events h)
staged_onto events row new h f a slot = stage_onto slot events h ∙ ap (stage_after slot events) (a slot) ∙ f slot

staged_step : (w : ℕ) (next : ℕ → ℕ) (events : List Event) (alerts : List OutLine) (row new : List (Slot Message)) (h : List Event) → StagedBy row events new → AreStaged row h → AreStaged new (onto (weave w next events alerts) h)
staged_step w next events alerts row new h f a slot = stage_onto slot (weave w next events alerts) h ∙ stage_weave slot w next events alerts (slot_stage slot h) ∙ ap (stage_after slot events) (a slot) ∙ f slot

-- ---- one slot of a row is written

-- what is the same of the slot that is written is the same of each
pub keep : {Y : Type 0} → (f : Slot Message → Y) (row : List (Slot Message)) (k : ℕ) (x : Slot Message) (slot : ℕ) → f x ≡ f (slot_at row k) → f (slot_at (slice_set row k x) slot) ≡ f (slot_at row slot)
keep f [] k x slot e = refl
keep f (y ∷ row) zero x zero e = e
keep f (y ∷ row) zero x (suc slot) e = refl
keep f (y ∷ row) (suc k) x zero e = refl
keep f (y ∷ row) (suc k) x (suc slot) e = keep f row k x slot e

set_stage : (row : List (Slot Message)) (k : ℕ) (x : Slot Message) (slot : ℕ) → k < length row → stage_in (slot_at (slice_set row k x) slot) ≡ cond (k == slot) (stage_in x) (stage_in (slot_at row slot))
set_stage row k x slot lt = by (k == slot) refl
  where
    by : (b : Bool) → (k == slot) ≡ b → stage_in (slot_at (slice_set row k x) slot) ≡ cond b (stage_in x) (stage_in (slot_at row slot))
    by true e = ap (λ j. stage_in (slot_at (slice_set row k x) j)) (sym (eqb-true k slot e)) ∙ ap stage_in (get_or-set_same row k x Unused lt)
    by false e = let other : slot ≢ k = grind (arith, nat_tests) in ap stage_in (get_or-set_other row k slot x Unused other)

suc_suc : (k slot : ℕ) → (k == slot) ≡ (suc k == suc slot)
suc_suc k slot = grind (arith, nat_tests)

unused_both : (b : Bool) → UnusedStage ≡ cond b UnusedStage UnusedStage
unused_both true = refl
unused_both false = refl

-- a slot becomes unused
pub free_stage : (row : List (Slot Message)) (k : ℕ) (x : Slot Message) (slot : ℕ) → stage_in x ≡ UnusedStage → stage_in (slot_at (slice_set row k x) slot) ≡ cond (k == slot) UnusedStage (stage_in (slot_at row slot))
free_stage [] k x slot e = unused_both (k == slot)
free_stage (y ∷ row) zero x zero e = let same : (0 == 0) ≡ true = grind (arith, nat_tests) in e ∙ ap (λ b. cond b UnusedStage (stage_in y)) (sym same)
free_stage (y ∷ row) zero x (suc slot) e = let other : (0 == suc slot) ≡ false = grind (arith, nat_tests) in ap (λ b. cond b UnusedStage (stage_in (slot_at row slot))) (sym other)
free_stage (y ∷ row) (suc k) x zero e = let other : (suc k == 0) ≡ false = grind (arith, nat_tests) in ap (λ b. cond b UnusedStage (stage_in y)) (sym other)
free_stage (y ∷ row) (suc k) x (suc slot) e = free_stage row k x slot e ∙ ap (λ b. cond b UnusedStage (stage_in (slot_at row slot))) (suc_suc k slot)

within : (row : List (Slot Message)) (k : ℕ) → is_unused (slot_at row k) ≡ false → k < length row
within [] k used = absurd cc
within (y ∷ row) zero used = omega arith
within (y ∷ row) (suc k) used = let lt = within row k used in omega (arith, lt)

-- ---- entries leave

abbrev pub AllUsed : List (Slot Message) → List Entry → Type 0
AllUsed row es = AllByRecursion (λ e. is_unused (slot_at row e.slot) ≡ false) es

left_stage : (x : Slot Message) → is_unused x ≡ false → stage_in (retired x) ≡ RetiredStage
left_stage Unused used = absurd cc
left_stage (Buffered message clear grants) used = refl
left_stage (Retired clear grants) used = refl

left_used : (x : Slot Message) → is_unused (retired x) ≡ is_unused x
left_used Unused = refl
left_used (Buffered message clear grants) = refl
left_used (Retired clear grants) = refl

pub staged_lefts : (w : ℕ) (c : List ℕ) (cause : LeftCause) (es : List Entry) (row : List (Slot Message)) → AllUsed row es → StagedBy row (map (left_event w c cause) es) (fold left_row row es)
staged_lefts w c cause [] row u slot = refl
staged_lefts w c cause (e ∷ es) row u slot =
    let x = retired (slot_at row e.slot) in
    let here : stage_in (slot_at (left_row row e) slot) ≡ cond (e.slot == slot) RetiredStage (stage_in (slot_at row slot)) =
    set_stage row e.slot x slot (within row e.slot u.0) ∙ ap (λ st. cond (e.slot == slot) st (stage_in (slot_at row slot))) (left_stage (slot_at row e.slot) u.0) in
    ap (stage_after slot (map (left_event w c cause) es)) (sym here)
    ∙ staged_lefts w c cause es (left_row row e)
    (all-weaker (λ y. is_unused (slot_at row y.slot) ≡ false) (λ y. is_unused (slot_at (left_row row e) y.slot) ≡ false) (λ y used. keep is_unused row e.slot x y.slot (left_used (slot_at row e.slot)) ∙ used) es u.1) slot

in_used : (x : Slot Message) (e : Entry) → IsIn x e → is_unused x ≡ false
in_used Unused e i = absurd i
in_used (Buffered message clear grants) e i = refl
in_used (Retired clear grants) e i = absurd i

pub all_used : (row : List (Slot Message)) (es : List Entry) → AreIn row es → AllUsed row es
all_used row es a = all-weaker (λ e. IsIn (slot_at row e.slot) e) (λ e. is_unused (slot_at row e.slot) ≡ false) (λ e i. in_used (slot_at row e.slot) e i) es a

pub all_take : {X : Type 0} → (P : X → Type 0) (n : ℕ) (xs : List X) → AllByRecursion P xs → AllByRecursion P (take n xs)
all_take P zero xs a = tt
all_take P (suc n) [] a = tt
all_take P (suc n) (x ∷ xs) a = (a.0, all_take P n xs a.1)

pub staged_let_go : (w : ℕ) (c : List ℕ) (cause : LeftCause) (test : Entry → Bool) (rest : List Entry) (b : Bench) → BenchFits rest b → StagedBy b.row (map (left_event w c cause) (leavers test b)) (fold left_row b.row (leavers test b))
staged_let_go w c cause test rest b f =
    staged_lefts w c cause (leavers test b) b.row (all_filtered (λ e. is_unused (slot_at b.row e.slot) ≡ false) test (entries_of b.channel) (all_used b.row (entries_of b.channel) f.kept))

-- ---- retired slots are polled

abbrev pub AllUnbuffered : List (Slot Message) → List PollAnswer → Type 0
AllUnbuffered row answers = AllByRecursion (λ a. is_buffered (slot_at row a.slot) ≡ false) answers

pub cleared_stage : (x : Slot Message) → is_buffered x ≡ false → stage_in (cleared x) ≡ UnusedStage
cleared_stage Unused none = refl
cleared_stage (Buffered message clear grants) none = absurd cc
cleared_stage (Retired clear grants) none = refl

polled_unbuffered : (b : Bool) (x : Slot Message) → is_buffered x ≡ false → is_buffered (polled b x) ≡ is_buffered x
polled_unbuffered true x none = refl
polled_unbuffered false Unused none = refl
polled_unbuffered false (Buffered message clear grants) none = absurd cc
polled_unbuffered false (Retired clear grants) none = refl

pub staged_frees : (w : ℕ) (answers : List PollAnswer) (row : List (Slot Message)) → AllUnbuffered row answers → StagedBy row (freed_events w answers) (polled_all answers row)
staged_frees w [] row u slot = refl
staged_frees w (a ∷ answers) row u slot =
    by a.held (staged_frees w answers (polled_slot row a)
    (all-weaker (λ y. is_buffered (slot_at row y.slot) ≡ false) (λ y. is_buffered (slot_at (polled_slot row a) y.slot) ≡ false) (λ y none. keep is_buffered row a.slot (polled a.held (slot_at row a.slot)) y.slot (polled_unbuffered a.held (slot_at row a.slot) u.0) ∙ none) answers u.1) slot)
  where
    by : (b : Bool) → stage_after slot (freed_events w answers) (stage_in (slot_at (slice_set row a.slot (polled b (slot_at row a.slot))) slot)) ≡ stage_in (slot_at (polled_all answers (slice_set row a.slot (polled b (slot_at row a.slot)))) slot)
        → stage_after slot (map (freed_event w) (map slot_of (cond (not b) (a ∷ filter is_free answers) (filter is_free answers)))) (stage_in (slot_at row slot)) ≡ stage_in (slot_at (polled_all answers (slice_set row a.slot (polled b (slot_at row a.slot)))) slot)
    by true rest = ap (stage_after slot (freed_events w answers)) (sym (keep stage_in row a.slot (slot_at row a.slot) slot refl)) ∙ rest
    by false rest = ap (stage_after slot (freed_events w answers)) (sym (free_stage row a.slot (cleared (slot_at row a.slot)) slot (cleared_stage (slot_at row a.slot) u.0))) ∙ rest

retired_unbuffered : (x : Slot Message) → 0 < bit (is_retired x) → is_buffered x ≡ false
retired_unbuffered Unused lt = refl
retired_unbuffered (Buffered message clear grants) lt = absurd (omega arith)
retired_unbuffered (Retired clear grants) lt = refl

-- the polled slots are retired
pub all_unbuffered : (B R : ℕ → ℕ) (row : List (Slot Message)) (answers : List PollAnswer) → Agrees B R row → ((k : ℕ) → 0 < times k (map slot_of answers) → 0 < R k) → AllUnbuffered row answers
all_unbuffered B R row [] a f = tt
all_unbuffered B R row (x ∷ answers) a f = (
  retired_unbuffered (slot_at row x.slot) (let one = f x.slot (omega (arith, times_here x.slot (map slot_of answers))) in omega (arith, one, a.of_retired x.slot)),
  all_unbuffered B R row answers a (λ k lt. f k (omega (arith, lt))),
)

-- ---- buffered slots are polled

abbrev pub AllUnretired : List (Slot Message) → List PollAnswer → Type 0
AllUnretired row answers = AllByRecursion (λ a. is_retired (slot_at row a.slot) ≡ false) answers

polled_stage : (b : Bool) (x : Slot Message) → is_retired x ≡ false → stage_in (polled b x) ≡ stage_in x
polled_stage true x none = refl
polled_stage false Unused none = refl
polled_stage false (Buffered message clear grants) none = refl
polled_stage false (Retired clear grants) none = absurd cc

polled_unretired : (b : Bool) (x : Slot Message) → is_retired x ≡ false → is_retired (polled b x) ≡ is_retired x
polled_unretired true x none = refl
polled_unretired false Unused none = refl
polled_unretired false (Buffered message clear grants) none = refl
polled_unretired false (Retired clear grants) none = absurd cc

pub staged_asked : (answers : List PollAnswer) (row : List (Slot Message)) → AllUnretired row answers → StagedBy row [] (polled_all answers row)
staged_asked [] row u slot = refl
staged_asked (a ∷ answers) row u slot =
    let x = polled a.held (slot_at row a.slot) in
    sym (keep stage_in row a.slot x slot (polled_stage a.held (slot_at row a.slot) u.0))
    ∙ staged_asked answers (polled_slot row a)
    (all-weaker (λ y. is_retired (slot_at row y.slot) ≡ false) (λ y. is_retired (slot_at (polled_slot row a) y.slot) ≡ false) (λ y none. keep is_retired row a.slot x y.slot (polled_unretired a.held (slot_at row a.slot) u.0) ∙ none) answers u.1) slot

buffered_unretired : (x : Slot Message) → 0 < bit (is_buffered x) → is_retired x ≡ false
buffered_unretired Unused lt = refl
buffered_unretired (Buffered message clear grants) lt = refl
buffered_unretired (Retired clear grants) lt = absurd (omega arith)

pub all_unretired : (B R : ℕ → ℕ) (row : List (Slot Message)) (answers : List PollAnswer) → Agrees B R row → ((k : ℕ) → 0 < times k (map slot_of answers) → 0 < B k) → AllUnretired row answers
all_unretired B R row [] a f = tt
all_unretired B R row (x ∷ answers) a f = (
  buffered_unretired (slot_at row x.slot) (let one = f x.slot (omega (arith, times_here x.slot (map slot_of answers))) in omega (arith, one, a.of_buffered x.slot)),
  all_unretired B R row answers a (λ k lt. f k (omega (arith, lt))),
)

-- ---- a message is stored

granted_stage : (x : Slot Message) → stage_in (granted x) ≡ stage_in x
granted_stage Unused = refl
granted_stage (Buffered message clear grants) = refl
granted_stage (Retired clear grants) = refl

staged_grants : (k : ℕ) (marks : List ℕ) (row : List (Slot Message)) (slot : ℕ) → stage_in (slot_at (fold (granted_slot k) row marks) slot) ≡ stage_in (slot_at row slot)
staged_grants k [] row slot = refl
staged_grants k (to ∷ marks) row slot = staged_grants k marks (granted_slot k row to) slot ∙ keep stage_in row k (granted (slot_at row k)) slot (granted_stage (slot_at row k))

after_grants : (slot w k g : ℕ) (marks : List ℕ) (st : SlotStage) → stage_after slot (granted_events w k g marks) st ≡ st
after_grants slot w k g [] st = refl
after_grants slot w k g (to ∷ marks) st = after_grants slot w k (g + 1) marks st

buffered_used : (x : Slot Message) → stage_in x ≡ BufferedStage → is_unused x ≡ false
buffered_used Unused e = absurd cc
buffered_used (Buffered message clear grants) e = refl
buffered_used (Retired clear grants) e = refl

cond_same : (k : ℕ) (a b : SlotStage) → cond (k == k) a b ≡ a
cond_same k a b = let same : (k == k) ≡ true = grind (arith, nat_tests) in ap (λ t. cond t a b) same

cond_twice : (t : Bool) (a b c : SlotStage) → cond t a (cond t b c) ≡ cond t a c
cond_twice true a b c = refl
cond_twice false a b c = refl

told_stage : (m : Message) (k : ℕ) (marks : List ℕ) (row : List (Slot Message)) (slot : ℕ) → k < length row → stage_in (slot_at (told_row m k marks row) slot) ≡ cond (k == slot) BufferedStage (stage_in (slot_at row slot))
told_stage m k marks row slot lt = staged_grants k marks (slice_set row k (filled m)) slot ∙ set_stage row k (filled m) slot lt

kept_stage : (kept : Bool) (m : Message) (k : ℕ) (marks : List ℕ) (row : List (Slot Message)) (slot : ℕ) → k < length row
    → stage_in (slot_at (kept_row kept k (told_row m k marks row)) slot) ≡ cond (k == slot) (stored_stage kept) (stage_in (slot_at row slot))
kept_stage true m k marks row slot lt = told_stage m k marks row slot lt
kept_stage false m k marks row slot lt =
    let new = told_row m k marks row in
    let here : is_unused (slot_at new k) ≡ false = buffered_used (slot_at new k) (told_stage m k marks row k lt ∙ cond_same k BufferedStage (stage_in (slot_at row k))) in
    set_stage new k (retired (slot_at new k)) slot (within new k here)
    ∙ (λ i. cond (k == slot) (left_stage (slot_at new k) here i) (told_stage m k marks row slot lt i))
    ∙ cond_twice (k == slot) RetiredStage BufferedStage (stage_in (slot_at row slot))

staged_stored : (from : ℕ) (o : Order) (k : ℕ) (kept : Bool) (m : Message) (id : Id) (members : ℕ) (d : Desk) (g : ℕ) (marks : List ℕ) (row : List (Slot Message)) → kept ≡ not (o.length == 0) → k < length row
    → StagedBy row (stored_event from o id k members d ∷ granted_events d.me k g marks) (kept_row kept k (told_row m k marks row))
staged_stored from o k kept m id members d g marks row is lt slot =
    after_grants slot d.me k g marks (cond (k == slot) (stored_stage (not (o.length == 0))) (stage_in (slot_at row slot)))
    ∙ ap (λ b. cond (k == slot) (stored_stage b) (stage_in (slot_at row slot))) (sym is)
    ∙ sym (kept_stage kept m k marks row slot lt)

-- ---- the steps

unused_row : (slots k : ℕ) → slot_at (replicate slots (let x : Slot Message = Unused in x)) k ≡ Unused
unused_row zero k = refl
unused_row (suc slots) zero = refl
unused_row (suc slots) (suc k) = unused_row slots k

pub new_staged : NewStaged
new_staged slots k = ap stage_in (sym (unused_row slots k))

pub staged_touch : (c : List ℕ) (row : List (Slot Message)) (s : OwnerAt) → OwnerFits row s → StagedBy row (touch_events_of c row s) (touched_row c row s)
staged_touch c row s f = staged_let_go s.desk.me c Expired (is_expired s.desk.clock) (rest_of c s) (bench_of c row s) (opened_fits c row s f)

staged_removed : (c : List ℕ) (cause : RemovedCause) (row : List (Slot Message)) (s : OwnerAt) → OwnerFits row s → StagedBy row (removal_events c cause s) (removed_row c row s)
staged_removed c cause row s f =
    let es = entries_of (opened c s) in
    staged_then row (removed_row c row s) (removed_row c row s) (removal_lefts c Deleted s) (Removed s.desk.me c (last_in c s) cause ∷ [])
    (staged_lefts s.desk.me c Deleted es row (all_used row es (opened_fits c row s f).kept)) (λ slot. refl)

staged_parted : (b : Bool) (w : ℕ) (c : List ℕ) (m : Member) (row : List (Slot Message)) → StagedBy row (cond b (Parted w c m.from m.k ∷ []) []) row
staged_parted true w c m row slot = refl
staged_parted false w c m row slot = refl

staged_found : (from number : ℕ) (c : List ℕ) (id : Id) (x : Option Entry) (d : Desk) (row : List (Slot Message)) → StagedBy row (looked_event from number c id x d ∷ found_events from x d) (found_row from x row)
staged_found from number c id None d row slot = refl
staged_found from number c id (Some e) d row slot = sym (keep stage_in row e.slot (granted (slot_at row e.slot)) slot (granted_stage (slot_at row e.slot)))

staged_look : (from number : ℕ) (c : List ℕ) (id : Id) (row : List (Slot Message)) (s : OwnerAt) → OwnerFits row s → StagedBy row (look_events from number c id row s) (look_row from c id row s)
staged_look from number c id row s f =
    let b = touched_of c row s in
    let ready = look_ready c row s in
    staged_then row ready.row (look_row from c id row s) (touch_events_of c row s ++ spend_events c b) (answered_events from number c id ready)
    (staged_then row b.row ready.row (touch_events_of c row s) (spend_events c b) (staged_touch c row s f) (staged_let_go s.desk.me c Spent is_spent (rest_of c s) b (touched_fits c row s f)))
    (staged_found from number c id (found_on id ready) ready.desk ready.row)

pub others_staged : OthersStaged
others_staged next row h s f a = record {
  join = λ m c. staged_step s.desk.me next (touch_events_of c row s ++ Joined s.desk.me c m.from m.k ∷ []) [] row (touched_row c row s) h
      (staged_then row (touched_row c row s) (touched_row c row s) (touch_events_of c row s) (Joined s.desk.me c m.from m.k ∷ []) (staged_touch c row s f) (λ slot. refl)) a;
  part = λ m c. staged_step s.desk.me next (touch_events_of c row s ++ parted_events s.desk.me m c (opened c s)) [] row (touched_row c row s) h
      (staged_then row (touched_row c row s) (touched_row c row s) (touch_events_of c row s) (parted_events s.desk.me m c (opened c s)) (staged_touch c row s f) (staged_parted (has_member m (opened c s).members) s.desk.me c m (touched_row c row s))) a;
  info = λ from r c. staged_step s.desk.me next (touch_events_of c row s) (info_alerts from r c row s) row (touched_row c row s) h (staged_touch c row s f) a;
  sweep = λ c. staged_step s.desk.me next (touch_events_of c row s) [] row (touched_row c row s) h (staged_touch c row s f) a;
  look = λ from number c id. staged_step s.desk.me next (look_events from number c id row s) (look_alerts from number c id row s) row (look_row from c id row s) h (staged_look from number c id row s f) a;
  remove = λ c cause. staged_step s.desk.me next (removal_events c cause s) (removal_alerts c s) row (removed_row c row s) h (staged_removed c cause row s f) a;
  polled = λ answers each. staged_step s.desk.me next (polled_events answers s) [] row (polled_row answers row) h
      (staged_frees s.desk.me answers row (all_unbuffered _ _ row answers f.apart (λ k lt. omega (arith, lt, ap (times k) each)))) a;
}

-- what of the oldest entries stands among all
pub taken_few : (n k : ℕ) (es : List Entry) → times k (slots_in (take n es)) ≤ times k (slots_in es)
taken_few n k es = omega (arith, times-append k (slots_in (take n es)) (slots_in (drop n es)), ap (times k) (slots_append (take n es) (drop n es)), ap (λ l. times k (slots_in l)) (take-append-drop n es))

staged_store : (from : ℕ) (o : Order) (polls : Polls) (rest : List Entry) (b : Bench) → map slot_of polls.leaving ≡ slots_of (leaving o.length b) → map slot_of polls.left ≡ ascending (slots_of (leaving o.length b)) → BenchFits rest b
    → is_some (lowest_unused (roomy o.length polls.left (asked polls.leaving b)).row) ≡ true → StagedBy b.row (post_events stored from o polls b) (post_bench stored o polls b).row
staged_store from o polls rest b before left f some =
    let n = leaving_count o.length (entries_of b.channel) in
    let es = leaving o.length b in
    let ready = asked polls.leaving b in
    let f1 = asked_fits rest n polls.leaving b before f in
    let f2 = oldest_leave rest n ready f1 in
    let gone = fold left_row ready.row es in
    let room = roomy o.length polls.left ready in
    let k = lowest_slot room.row in
    let lefts = map (left_event b.desk.me o.chan Length) es in
    let frees = freed_events b.desk.me polls.left in
    let polls_fit : AllUnretired b.row polls.leaving = all_unretired _ _ b.row polls.leaving f.apart (λ s lt. omega (arith, lt, ap (times s) before, taken_few n s (entries_of b.channel))) in
    let gone_fit : AllUnbuffered gone polls.left = all_unbuffered _ _ gone polls.left f2.apart (λ s lt. omega (arith, lt, ap (times s) left, times-ascending s (slots_of es), times-with_slot s b.desk.retired es)) in
    let in_row : k < length room.row = (position-Some is_unused room.row k Unused (some_is (lowest_unused room.row) some)).0 in
    staged_then b.row ready.row (post_bench stored o polls b).row [] (roomy_events o.length polls.left o.chan ready ++ stored_events from o k room) (staged_asked polls.leaving b.row polls_fit)
    (staged_then ready.row room.row (post_bench stored o polls b).row (lefts ++ frees) (stored_events from o k room)
    (staged_then ready.row gone room.row lefts frees (staged_lefts b.desk.me o.chan Length es ready.row (all_take (λ e. is_unused (slot_at ready.row e.slot) ≡ false) n (entries_of b.channel) (all_used ready.row (entries_of b.channel) f1.kept)))
    (staged_frees b.desk.me polls.left gone gone_fit))
    (staged_stored from o k (not (o.length == 0)) (message_of_order (stamp room) o room.desk.clock) (stamp room) (length room.channel.members) room.desk room.desk.grants room.channel.marks room.row refl in_row))

staged_post : (x : Outcome) (from : ℕ) (o : Order) (polls : Polls) (rest : List Entry) (b : Bench) → map slot_of polls.leaving ≡ slots_of (leaving o.length b) → map slot_of polls.left ≡ ascending (slots_of (leaving o.length b)) → BenchFits rest b
    → (x ≡ stored → is_some (lowest_unused (roomy o.length polls.left (asked polls.leaving b)).row) ≡ true) → StagedBy b.row (post_events x from o polls b) (post_bench x o polls b).row
staged_post late from o polls rest b before left f some = λ slot. refl
staged_post (full usage) from o polls rest b before left f some =
    staged_asked polls.leaving b.row (all_unretired _ _ b.row polls.leaving f.apart (λ s lt. omega (arith, lt, ap (times s) before, taken_few (leaving_count o.length (entries_of b.channel)) s (entries_of b.channel))))
staged_post stored from o polls rest b before left f some = staged_store from o polls rest b before left f (some refl)

pub publish_staged : PublishStaged
publish_staged next exact counts from o polls row h s p f a =
    let b = touched_of o.chan row s in
    let ready = publish_cleared o polls row s in
    let x = publish_outcome o polls row s in
    let f1 = touched_fits o.chan row s f in
    let f2 = polled_fits (rest_of o.chan s) polls.retired b p.first.each f1 in
    let frees = freed_events s.desk.me polls.retired in
    staged_step s.desk.me next (publish_events from o polls row s) (publish_alerts from o polls row s) row (publish_row o polls row s) h
    (staged_then row ready.row (publish_row o polls row s) (cleared_events polls.retired o.chan (bench_of o.chan row s)) (post_events x from o polls ready)
    (staged_then row b.row ready.row (touch_events_of o.chan row s) frees (staged_touch o.chan row s f) (staged_frees s.desk.me polls.retired b.row (all_unbuffered _ _ b.row polls.retired f1.apart (λ k lt. omega (arith, lt, ap (times k) p.first.each)))))
    (staged_post x from o polls (rest_of o.chan s) ready p.others.before.each p.others.after_leaving.each f2 (λ e. publish_finds exact counts o row s polls p f e))) a
