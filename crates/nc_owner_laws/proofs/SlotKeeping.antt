-- Of the slot rule what an owner keeps by itself.
use Rattle.std.proofs.Common.{◌≡◌, ◌≢◌, ℕ, zero, suc, ◌+◌, ◌<◌, ◌≤◌, Bool, true, false, cond, not, List, [], ◌∷◌, ◌++◌, Option, Some, None, refl, sym, ap, ◌∙◌, subst, arith, length, map, filter, fold}
use Rattle.std.specs.Prelude.{◌==◌, is_some, slice_set, option_map}
use Rattle.std.specs.List.{AllByRecursion}
use Rattle.std.proofs.lemmas.Bool.Decides.{nat_tests}
use Rattle.std.proofs.lemmas.List.{get_or-set_other}
use Rattle.std.proofs.lemmas.List.Quantifiers.{position-Some}
use Rattle.nc_types.specs.Id.{Id}
use Rattle.nc_types.specs.Message.{Message}
use Rattle.nc_journal.specs.History.{own, onto, Along}
use Rattle.nc_journal.specs.Holding.{Unused as UnusedStage, Retired as RetiredStage, slot_stage, TakesLowestUnused}
use Rattle.nc_journal.specs.declared.event.Event.{Event}
use Rattle.nc_journal.specs.declared.event.Event.TheVariants.{Stored, Granted, Freed, Joined, Parted, Removed}
use Rattle.nc_journal.specs.declared.word.LeftCause.{LeftCause}
use Rattle.nc_journal.specs.declared.word.LeftCause.TheVariants.{Length, Expired, Spent, Deleted}
use Rattle.nc_buffer.specs.declared.entry.Entry.{Entry}
use Rattle.nc_buffer.specs.Buffer.{is_expired, is_spent}
use Rattle.nc_slots.specs.declared.slot.Slot.{Slot}
use Rattle.nc_slots.specs.declared.slot.Slot.TheVariants.{Unused, Buffered, Retired}
use Rattle.nc_slots.specs.Slot.{slot_at, is_unused, is_buffered, lowest_unused, polled}
use Rattle.nc_slots.proofs.First.{first, position-first}
use Rattle.nc_owner.specs.declared.desk.Desk.{Desk}
use Rattle.nc_owner.specs.declared.member.Member.{Member}
use Rattle.nc_owner.specs.declared.order.Order.{Order}
use Rattle.nc_owner.specs.declared.poll.PollAnswer.{PollAnswer}
use Rattle.nc_owner.specs.Ascending.{ascending}
use Rattle.nc_owner.specs.Members.{has_member}
use Rattle.nc_owner.specs.AlertLines.{OutLine}
use Rattle.nc_owner.specs.State.{OwnerAt, Bench, entries_of, opened, bench_of}
use Rattle.nc_owner.specs.Leave.{left_event, left_row, leavers, spend_events}
use Rattle.nc_owner.specs.Poll.{polled_slot, slot_of, is_free, freed_event, free_slots, freed_events}
use Rattle.nc_owner.specs.Publish.{Polls, Outcome, late, full, stored, asked, roomy, leaving, leaving_count, slots_of, lowest_slot, granted_events, stamp, stored_event, post_events, cleared_events, publish_cleared, publish_outcome, publish_alerts}
use Rattle.nc_owner.specs.Look.{found_on, looked_event, found_events, look_ready, look_events, look_alerts}
use Rattle.nc_owner.specs.Edge.{last_in}
use Rattle.nc_owner.specs.Remove.{removal_lefts, removal_events, removal_alerts}
use Rattle.nc_owner.specs.OtherSteps.{touched_of, touch_events_of, info_alerts, parted_events, polled_events}
use Rattle.nc_owner_laws.specs.Used.{is_retired, bit, times}
use Rattle.nc_owner_laws.specs.Filters.{new_desk}
use Rattle.nc_owner_laws.proofs.Benches.{BenchFits}
use Rattle.nc_owner_laws.specs.OwnerTold.{desk_of}
use Rattle.nc_owner_laws.specs.OwnerStanding.{Stands}
use Rattle.nc_owner_laws.specs.SlotRule.{OwnersSlots, OthersKeepSlots, PublishKeepsSlots}
use Rattle.nc_owner_laws.specs.Stages.{stage_in, AreStaged}
use Rattle.nc_owner_laws.specs.Weave.{weave, makes, numbered}
use Rattle.nc_owner_laws.proofs.Hearing as hearing
use Rattle.nc_owner_laws.proofs.Kept.{all_append}
use Rattle.nc_owner_laws.proofs.Leaving.{oldest_leave, times-with_slot}
use Rattle.nc_owner_laws.proofs.Opening.{rest_of}
use Rattle.nc_owner_laws.proofs.Owners.{own_onto, by_left, by_freed, by_is}
use Rattle.nc_owner_laws.proofs.OwnerSteps.{behind}
use Rattle.nc_owner_laws.proofs.Polling.{polled_fits}
use Rattle.nc_owner_laws.proofs.Room.{asked_fits, roomy_fits, times-ascending}
use Rattle.nc_owner_laws.proofs.Staging.{staged_onto, staged_lefts, staged_frees, staged_asked, staged_touch, all_used, all_take, all_unretired, taken_few, StagedBy}
use Rattle.nc_owner_laws.proofs.Stamping as stamping
use Rattle.nc_owner_laws.proofs.Steps.{touched_fits, publish_finds, some_is}
use Rattle.nc_owner_laws.proofs.Used.{times_here}

-- ---- events that neither store nor free

abbrev IsPlain : Event → Type 0
IsPlain (Stored w c id slot len exp kept members from r ct body) = ⊥
IsPlain (Freed w slot) = ⊥
IsPlain _ = Unit {0}

plain_one : (slots : ℕ) (h : List Event) (e : Event) → IsPlain e → OwnersSlots slots h e
plain_one slots h (Stored w c id slot len exp kept members from r ct body) p = absurd p
plain_one slots h (Freed w slot) p = absurd p
plain_one slots h e p = tt

plain_onto : (slots : ℕ) (es h : List Event) → AllByRecursion IsPlain es → Along (OwnersSlots slots) h → Along (OwnersSlots slots) (onto es h)
plain_onto slots [] h p a = a
plain_onto slots (e ∷ es) h p a = plain_onto slots es (e ∷ h) p.1 (a, plain_one slots h e p.0)

plain_makes : (w : ℕ) (next : ℕ → ℕ) (alerts : List OutLine) → AllByRecursion IsPlain (makes w next alerts)
plain_makes w next [] = tt
plain_makes w next (a ∷ alerts) = (tt, plain_makes w (numbered next a.to) alerts)

plain_weave : (w : ℕ) (next : ℕ → ℕ) (es : List Event) (alerts : List OutLine) → AllByRecursion IsPlain es → AllByRecursion IsPlain (weave w next es alerts)
plain_weave w next [] alerts p = plain_makes w next alerts
plain_weave w next (Granted v g s to ∷ es) [] p = (tt, plain_weave w next es [] p.1)
plain_weave w next (Granted v g s to ∷ es) (a ∷ alerts) p = (tt, (tt, plain_weave w (numbered next a.to) es alerts p.1))
plain_weave w next (e ∷ es) alerts p = (p.0, plain_weave w next es alerts p.1)

plain_left : (w : ℕ) (c : List ℕ) (cause : LeftCause) (es : List Entry) → AllByRecursion IsPlain (map (left_event w c cause) es)
plain_left w c cause [] = tt
plain_left w c cause (e ∷ es) = (tt, plain_left w c cause es)

plain_touch : (c : List ℕ) (row : List (Slot Message)) (s : OwnerAt) → AllByRecursion IsPlain (touch_events_of c row s)
plain_touch c row s = plain_left s.desk.me c Expired (leavers (is_expired s.desk.clock) (bench_of c row s))

plain_parted : (b : Bool) (w : ℕ) (c : List ℕ) (m : Member) → AllByRecursion IsPlain (cond b (Parted w c m.from m.k ∷ []) [])
plain_parted true w c m = (tt, tt)
plain_parted false w c m = tt

plain_granted : (w slot g : ℕ) (marks : List ℕ) → AllByRecursion IsPlain (granted_events w slot g marks)
plain_granted w slot g [] = tt
plain_granted w slot g (to ∷ marks) = (tt, plain_granted w slot (g + 1) marks)

plain_found : (from number : ℕ) (c : List ℕ) (id : Id) (x : Option Entry) (d : Desk) → AllByRecursion IsPlain (looked_event from number c id x d ∷ found_events from x d)
plain_found from number c id None d = (tt, tt)
plain_found from number c id (Some e) d = (tt, (tt, tt))

-- ---- retired slots are freed

retired_stage : (x : Slot Message) → 0 < bit (is_retired x) → stage_in x ≡ RetiredStage
retired_stage Unused lt = absurd (omega arith)
retired_stage (Buffered message clear grants) lt = absurd (omega arith)
retired_stage (Retired clear grants) lt = refl

retired_unbuffered : (x : Slot Message) → 0 < bit (is_retired x) → is_buffered x ≡ false
retired_unbuffered Unused lt = refl
retired_unbuffered (Buffered message clear grants) lt = absurd (omega arith)
retired_unbuffered (Retired clear grants) lt = refl

-- each of the polled slots is retired, and polled once
abbrev AreRetired : List PollAnswer → List (Slot Message) → Type 0
AreRetired answers row = (k : ℕ) → times k (map slot_of answers) ≤ bit (is_retired (slot_at row k))

-- so are the others, once one was polled
rest_retired : (a : PollAnswer) (held : Bool) (answers : List PollAnswer) (row : List (Slot Message)) → AreRetired (a ∷ answers) row → AreRetired answers (slice_set row a.slot (polled held (slot_at row a.slot)))
rest_retired a held answers row r k = by (k == a.slot) refl
  where
    by : (b : Bool) → (k == a.slot) ≡ b → times k (map slot_of answers) ≤ bit (is_retired (slot_at (slice_set row a.slot (polled held (slot_at row a.slot))) k))
    by true e = let same : k ≡ a.slot = grind (arith, nat_tests) in let one = r a.slot in let few : bit (is_retired (slot_at row a.slot)) ≤ 1 = bit_few (is_retired (slot_at row a.slot)) in
        let none : times a.slot (map slot_of answers) ≡ 0 = omega (arith, one, few, times_here a.slot (map slot_of answers)) in
        let here : times k (map slot_of answers) ≡ 0 = ap (λ n. times n (map slot_of answers)) same ∙ none in omega (arith, here)
      where
        bit_few : (b : Bool) → bit b ≤ 1
        bit_few true = omega arith
        bit_few false = omega arith
    by false e = let other : k ≢ a.slot = grind (arith, nat_tests) in let one = r k in
        let still : bit (is_retired (slot_at (slice_set row a.slot (polled held (slot_at row a.slot))) k)) ≡ bit (is_retired (slot_at row k)) = ap (λ x. bit (is_retired x)) (get_or-set_other row a.slot k (polled held (slot_at row a.slot)) Unused other) in
        omega (arith, one, still)

all_unbuffered_of : (answers : List PollAnswer) (row : List (Slot Message)) → AreRetired answers row → AllByRecursion (λ a. is_buffered (slot_at row a.slot) ≡ false) answers
all_unbuffered_of [] row r = tt
all_unbuffered_of (x ∷ answers) row r =
    (retired_unbuffered (slot_at row x.slot) (let one = r x.slot in omega (arith, one, times_here x.slot (map slot_of answers))), all_unbuffered_of answers row (λ k. omega (arith, r k)))

module _ (me slots : ℕ) where
  frees_kept : (answers : List PollAnswer) (row : List (Slot Message)) (h : List Event) → AreRetired answers row → AreStaged row h → own me h ≡ h → Along (OwnersSlots slots) h → Along (OwnersSlots slots) (onto (freed_events me answers) h)
  frees_kept [] row h r a local k = k
  frees_kept (x ∷ answers) row h r a local k =
      by x.held
      (λ held staged. frees_kept answers (slice_set row x.slot (polled held (slot_at row x.slot))) h (rest_retired x held answers row r) staged local k)
      (λ held staged stage. frees_kept answers (slice_set row x.slot (polled held (slot_at row x.slot))) (Freed me x.slot ∷ h) (rest_retired x held answers row r) staged (own_onto me (Freed me x.slot ∷ []) h (by_is me me refl, tt) local) (k, stage))
    where
      here : slot_stage x.slot (own me h) ≡ RetiredStage
      here = ap (slot_stage x.slot) local ∙ a x.slot ∙ retired_stage (slot_at row x.slot) (let one = r x.slot in omega (arith, one, times_here x.slot (map slot_of answers)))

      single : (held : Bool) → StagedBy row (freed_events me (record { slot = x.slot; held = held } ∷ [])) (polled_slot row (record { slot = x.slot; held = held }))
      single held = staged_frees me (record { slot = x.slot; held = held } ∷ []) row (retired_unbuffered (slot_at row x.slot) (let one = r x.slot in omega (arith, one, times_here x.slot (map slot_of answers))), tt)

      by : (b : Bool) → ((held : Bool) → AreStaged (slice_set row x.slot (polled held (slot_at row x.slot))) h → Along (OwnersSlots slots) (onto (freed_events me answers) h))
          → ((held : Bool) → AreStaged (slice_set row x.slot (polled held (slot_at row x.slot))) (Freed me x.slot ∷ h) → slot_stage x.slot (own me h) ≡ RetiredStage → Along (OwnersSlots slots) (onto (freed_events me answers) (Freed me x.slot ∷ h)))
          → Along (OwnersSlots slots) (onto (map (freed_event me) (map slot_of (cond (not b) (x ∷ filter is_free answers) (filter is_free answers)))) h)
      by true keeps frees = keeps true (staged_onto [] row (polled_slot row (record { slot = x.slot; held = true })) h (single true) a)
      by false keeps frees = frees false (staged_onto (Freed me x.slot ∷ []) row (polled_slot row (record { slot = x.slot; held = false })) h (single false) a) here

-- ---- a message is stored

used_before : (row : List (Slot Message)) (k j : ℕ) → first is_unused row ≡ Some k → j < k → is_unused (slot_at row j) ≡ false
used_before [] k j is lt = absurd cc
used_before (x ∷ row) k j is lt = by (is_unused x) refl (first is_unused row) k j is lt (λ n i. used_before row n i)
  where
    by : (b : Bool) → is_unused x ≡ b → (f : Option ℕ) (k j : ℕ) → cond b (Some 0) (option_map suc f) ≡ Some k → j < k → ((n i : ℕ) → f ≡ Some n → i < n → is_unused (slot_at row i) ≡ false) → is_unused (slot_at (x ∷ row) j) ≡ false
    by true e f k j is lt rest = let none : 0 ≡ k = cc in absurd (omega (arith, none, lt))
    by false e None k j is lt rest = absurd cc
    by false e (Some n) k zero is lt rest = e
    by false e (Some n) k (suc i) is lt rest = let next : suc n ≡ k = cc in rest n i refl (omega (arith, next, lt))

unused_stage : (x : Slot Message) → is_unused x ≡ true → stage_in x ≡ UnusedStage
unused_stage Unused e = refl
unused_stage (Buffered message clear grants) e = absurd cc
unused_stage (Retired clear grants) e = absurd cc

used_stage : (x : Slot Message) → is_unused x ≡ false → stage_in x ≢ UnusedStage
used_stage Unused e is = absurd cc
used_stage (Buffered message clear grants) e is = absurd cc
used_stage (Retired clear grants) e is = absurd cc

takes_lowest : (me slots : ℕ) (row : List (Slot Message)) (k : ℕ) (h : List Event) → lowest_unused row ≡ Some k → length row ≡ slots → AreStaged row h → own me h ≡ h → TakesLowestUnused slots me k h
takes_lowest me slots row k h low size a local =
    let p = position-Some is_unused row k Unused low in
    let f : first is_unused row ≡ Some k = sym (position-first is_unused row) ∙ low in
    record {
      within = omega (arith, p.0, size);
      unused = ap (slot_stage k) local ∙ a k ∙ unused_stage (slot_at row k) p.1;
      lowest = λ s lt is. used_stage (slot_at row s) (used_before row k s f lt) (sym (a s) ∙ ap (slot_stage s) (sym local) ∙ is);
    }

-- ---- the steps

stays_on : (me slots w : ℕ) (next : ℕ → ℕ) (es : List Event) (alerts : List OutLine) (h : List Event) → AllByRecursion IsPlain es → Along (OwnersSlots slots) h → Along (OwnersSlots slots) (onto (weave w next es alerts) h)
stays_on me slots w next es alerts h p a = plain_onto slots (weave w next es alerts) h (plain_weave w next es alerts p) a

module _ (me workers slots first_number : ℕ) (next : ℕ → ℕ) (row : List (Slot Message)) (h : List Event) (s : OwnerAt) (k : Stands me workers slots first_number row h s) (a : AreStaged row h) (rule : Along (OwnersSlots slots) h) where
  is_me : s.desk.me ≡ me
  is_me = ap (λ (d : Desk). d.me) k.tells.desk ∙ stamping.me_law (new_desk me workers slots first_number) h

  local_of : (v : ℕ) → v ≡ me → own v h ≡ h
  local_of v e = ap (λ n. own n h) e ∙ k.local

  polled_kept : (answers : List PollAnswer) → map slot_of answers ≡ s.desk.retired → Along (OwnersSlots slots) (onto (weave s.desk.me next (polled_events answers s) []) h)
  polled_kept answers each =
      subst (λ (es : List Event). Along (OwnersSlots slots) (onto (weave s.desk.me next es []) h)) (append_none (freed_events s.desk.me answers))
      (behind (Along (OwnersSlots slots)) s.desk.me next (freed_events s.desk.me answers) [] [] h (hearing.still_freed s.desk.me (free_slots answers))
      (frees_kept s.desk.me slots answers row h (λ n. omega (arith, ap (times n) each, k.fits.apart.of_retired n)) a (local_of s.desk.me is_me) rule))
    where
      append_none : (es : List Event) → es ++ [] ≡ es
      append_none [] = refl
      append_none (e ∷ es) = ap (λ (l : List Event). e ∷ l) (append_none es)

pub others_keep_slots : OthersKeepSlots
others_keep_slots me workers slots first_number next row h s k a rule = record {
  join = λ m c. stays_on me slots s.desk.me next (touch_events_of c row s ++ Joined s.desk.me c m.from m.k ∷ []) [] h (all_append IsPlain (touch_events_of c row s) (Joined s.desk.me c m.from m.k ∷ []) (plain_touch c row s) (tt, tt)) rule;
  part = λ m c. stays_on me slots s.desk.me next (touch_events_of c row s ++ parted_events s.desk.me m c (opened c s)) [] h
      (all_append IsPlain (touch_events_of c row s) (parted_events s.desk.me m c (opened c s)) (plain_touch c row s) (plain_parted (has_member m (opened c s).members) s.desk.me c m)) rule;
  info = λ from r c. stays_on me slots s.desk.me next (touch_events_of c row s) (info_alerts from r c row s) h (plain_touch c row s) rule;
  sweep = λ c. stays_on me slots s.desk.me next (touch_events_of c row s) [] h (plain_touch c row s) rule;
  look = λ from number c id. stays_on me slots s.desk.me next (look_events from number c id row s) (look_alerts from number c id row s) h
      (all_append IsPlain (touch_events_of c row s ++ spend_events c (touched_of c row s)) _
      (all_append IsPlain (touch_events_of c row s) (spend_events c (touched_of c row s)) (plain_touch c row s) (plain_left s.desk.me c Spent (leavers is_spent (touched_of c row s))))
      (plain_found from number c id (found_on id (look_ready c row s)) (look_ready c row s).desk)) rule;
  remove = λ c cause. stays_on me slots s.desk.me next (removal_events c cause s) (removal_alerts c s) h
      (all_append IsPlain (removal_lefts c Deleted s) (Removed s.desk.me c (last_in c s) cause ∷ []) (plain_left s.desk.me c Deleted (entries_of (opened c s))) (tt, tt)) rule;
  polled = λ answers each. polled_kept me workers slots first_number next row h s k a rule answers each;
}

module _ (me slots : ℕ) (next : ℕ → ℕ) (from : ℕ) (o : Order) (polls : Polls) (rest : List Entry) (b : Bench) (mine : b.desk.me ≡ me) (size : b.desk.slots ≡ slots) (before : map slot_of polls.leaving ≡ slots_of (leaving o.length b)) (left : map slot_of polls.left ≡ ascending (slots_of (leaving o.length b))) (f : BenchFits rest b) (h : List Event) (a : AreStaged b.row h) (local : own b.desk.me h ≡ h) (rule : Along (OwnersSlots slots) h) where
  store_kept : (alerts : List OutLine) → is_some (lowest_unused (roomy o.length polls.left (asked polls.leaving b)).row) ≡ true → Along (OwnersSlots slots) (onto (weave b.desk.me next (post_events stored from o polls b) alerts) h)
  store_kept alerts some =
      let v = b.desk.me in
      let n = leaving_count o.length (entries_of b.channel) in
      let es = leaving o.length b in
      let ready = asked polls.leaving b in
      let f1 = asked_fits rest n polls.leaving b before f in
      let f2 = oldest_leave rest n ready f1 in
      let f3 = roomy_fits rest o.length polls.left ready f1 in
      let gone = fold left_row ready.row es in
      let room = roomy o.length polls.left ready in
      let slot = lowest_slot room.row in
      let lefts = map (left_event v o.chan Length) es in
      let frees = freed_events v polls.left in
      let unretired = all_unretired _ _ b.row polls.leaving f.apart (λ x lt. omega (arith, lt, ap (times x) before, taken_few n x (entries_of b.channel))) in
      let a1 : AreStaged ready.row h = staged_onto [] b.row ready.row h (staged_asked polls.leaving b.row unretired) a in
      let lefts_staged = staged_lefts v o.chan Length es ready.row (all_take (λ e. is_unused (slot_at ready.row e.slot) ≡ false) n (entries_of b.channel) (all_used ready.row (entries_of b.channel) f1.kept)) in
      let h2 = onto lefts h in
      let a2 : AreStaged gone h2 = staged_onto lefts ready.row gone h lefts_staged a1 in
      let l2 : own v h2 ≡ h2 = own_onto v lefts h (by_left v v refl o.chan Length es) local in
      let once = λ (x : ℕ). (let le : times x (map slot_of polls.left) ≤ bit (is_retired (slot_at gone x)) = omega (arith, f2.apart.of_retired x, ap (times x) left, times-ascending x (slots_of es), times-with_slot x b.desk.retired es) in le) in
      let k2 = plain_onto slots lefts h (plain_left v o.chan Length es) rule in
      let k3 = frees_kept v slots polls.left gone h2 once a2 l2 k2 in
      let h3 = onto frees h2 in
      let a3 : AreStaged room.row h3 = staged_onto frees gone room.row h2 (staged_frees v polls.left gone (all_unbuffered_of polls.left gone once)) a2 in
      let l3 : own v h3 ≡ h3 = own_onto v frees h2 (by_freed v v refl (free_slots polls.left)) l2 in
      let event = stored_event from o (stamp room) slot (length room.channel.members) room.desk in
      let grants = granted_events v slot room.desk.grants room.channel.marks in
      behind (Along (OwnersSlots slots)) v next (lefts ++ frees) (event ∷ grants) alerts h
      (hearing.still_append lefts frees (hearing.still_left v o.chan Length es) (hearing.still_freed v (free_slots polls.left)))
      (plain_onto slots (weave v next grants alerts) (event ∷ onto (lefts ++ frees) h) (plain_weave v next grants alerts (plain_granted v slot room.desk.grants room.channel.marks)) (
        subst (Along (OwnersSlots slots)) (sym (stamping.onto_append lefts frees h)) k3,
        subst (TakesLowestUnused slots v slot) (sym (stamping.onto_append lefts frees h)) (takes_lowest v slots room.row slot h3 (some_is (lowest_unused room.row) some) (f3.slots ∙ size) a3 l3),
      ))

  post_kept : (x : Outcome) (alerts : List OutLine) → (x ≡ stored → is_some (lowest_unused (roomy o.length polls.left (asked polls.leaving b)).row) ≡ true) → Along (OwnersSlots slots) (onto (weave b.desk.me next (post_events x from o polls b) alerts) h)
  post_kept late alerts some = plain_onto slots (makes b.desk.me next alerts) h (plain_makes b.desk.me next alerts) rule
  post_kept (full usage) alerts some = plain_onto slots (makes b.desk.me next alerts) h (plain_makes b.desk.me next alerts) rule
  post_kept stored alerts some = store_kept alerts (some refl)

slots_law : (d : Desk) (h : List Event) → (desk_of d h).slots ≡ d.slots
slots_law d [] = refl
slots_law d (Stored w c id slot len exp true members from r ct body ∷ h) = slots_law d h
slots_law d (Stored w c id slot len exp false members from r ct body ∷ h) = slots_law d h
slots_law d (e ∷ h) = slots_law d h

pub publish_keeps_slots : PublishKeepsSlots
publish_keeps_slots me workers slots first_number next exact counts from o polls row h s p k a rule =
    let v = s.desk.me in
    let b = touched_of o.chan row s in
    let ready = publish_cleared o polls row s in
    let x = publish_outcome o polls row s in
    let f1 = touched_fits o.chan row s k.fits in
    let f2 = polled_fits (rest_of o.chan s) polls.retired b p.first.each f1 in
    let touch = touch_events_of o.chan row s in
    let frees = freed_events v polls.retired in
    let me_is = is_me me workers slots first_number next row h s k a rule in
    let local : own v h ≡ h = local_of me workers slots first_number next row h s k a rule v me_is in
    let h1 = onto touch h in
    let a1 : AreStaged b.row h1 = staged_onto touch row b.row h (staged_touch o.chan row s k.fits) a in
    let l1 : own v h1 ≡ h1 = own_onto v touch h (by_left v v refl o.chan Expired (leavers (is_expired s.desk.clock) (bench_of o.chan row s))) local in
    let once = λ (n : ℕ). (let le : times n (map slot_of polls.retired) ≤ bit (is_retired (slot_at b.row n)) = omega (arith, f1.apart.of_retired n, ap (times n) p.first.each) in le) in
    let k1 = plain_onto slots touch h (plain_touch o.chan row s) rule in
    let k2 = frees_kept v slots polls.retired b.row h1 once a1 l1 k1 in
    let h2 = onto frees h1 in
    let a2 : AreStaged ready.row h2 = staged_onto frees b.row ready.row h1 (staged_frees v polls.retired b.row (all_unbuffered_of polls.retired b.row once)) a1 in
    let l2 : own v h2 ≡ h2 = own_onto v frees h1 (by_freed v v refl (free_slots polls.retired)) l1 in
    let size : s.desk.slots ≡ slots = ap (λ (d : Desk). d.slots) k.tells.desk ∙ slots_law (new_desk me workers slots first_number) h in
    behind (Along (OwnersSlots slots)) v next (cleared_events polls.retired o.chan (bench_of o.chan row s)) (post_events x from o polls ready) (publish_alerts from o polls row s) h
    (hearing.still_append touch frees (hearing.still_touch o.chan row s) (hearing.still_freed v (free_slots polls.retired)))
    (subst (λ (l : List Event). Along (OwnersSlots slots) (onto (weave v next (post_events x from o polls ready) (publish_alerts from o polls row s)) l)) (sym (stamping.onto_append touch frees h))
    (post_kept me slots next from o polls (rest_of o.chan s) ready me_is size p.others.before.each p.others.after_leaving.each f2 h2 a2 l2 k2 x (publish_alerts from o polls row s) (λ e. publish_finds exact counts o row s polls p k.fits e)))
