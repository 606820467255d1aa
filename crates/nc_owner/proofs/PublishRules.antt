-- How a publish is answered.
use Rattle.std.proofs.Common.{◌≡◌, ◌↔◌, ◌⊎◌, inl, inr, cond, ℕ, ◌+◌, ◌<◌, ◌≤◌, Bool, true, false, List, [], ◌∷◌, ◌++◌, refl, sym, ap, ◌∙◌, subst, map, length, arith}
use Rattle.std.proofs.lemmas.Bool.Decides.{nat_tests}
use Rattle.std.specs.Prelude.{fold, nat_le, ◌==◌, not, if◌then◌else◌, slice_index, unwrap_or}
use Rattle.nc_types.specs.Id.{Id, last_second}
use Rattle.nc_types.specs.Message.{Message}
use Rattle.nc_types.specs.declared.info.FullLine.{FullLine}
use Rattle.nc_journal.specs.declared.event.Event.{Event}
use Rattle.nc_slots.specs.declared.slot.Slot.{Slot}
use Rattle.nc_owner.specs.declared.channel.Channel.{Channel}
use Rattle.nc_owner.specs.declared.member.Member.{Member}
use Rattle.nc_owner.specs.declared.order.Order.{Order}
use Rattle.nc_owner.specs.Leave.{touched}
use Rattle.nc_owner.specs.AlertLines.{OutLine}
use Rattle.nc_owner.specs.Poll.{told_answer, is_held, held_count}
use Rattle.nc_owner.specs.State.{Bench, OwnerAt, opened, bench_of}
use Rattle.nc_owner.specs.Publish.{Polls, Outcome, late, full, stored, outcome_by, usage_of, is_full, stamp, notices, post_alerts, stored_status, slots_of, leaving, publish_cleared, publish_outcome, publish_alerts, publish_row, PublishPolls}
use Rattle.nc_owner.specs.PublishClauses.{Publishes}
use Rattle.nc_owner.specs.Rules.{Answered, answers_of, with_status, with_usage, usage_by, held_among, FullExactly, IsAnswered, IsLateExactly, IsFullExactly, TellsMembers, FreesOnlyRetired, FreesUnheld, TakesLowest}
use Rattle.nc_owner.proofs.Freeing.{publish_frees}
use Rattle.nc_owner.proofs.Lowest.{publish_lowest}
use Rattle.nc_owner.proofs.Retiring.{publish_retired}

-- the answer by what the publish comes to
abbrev pub answer_to : Outcome → Channel → List Answered
answer_to late ch = with_status 503
answer_to (full usage) ch = with_usage usage
answer_to stored ch = with_status (stored_status ch)

notices_answer : (c : List ℕ) (id : Id) (slot g : ℕ) (marks : List ℕ) (rest : List OutLine) → answers_of (notices c id slot g marks ++ rest) ≡ answers_of rest
notices_answer c id slot g [] rest = refl
notices_answer c id slot g (to ∷ marks) rest = notices_answer c id slot (g + 1) marks rest

post_answers : (x : Outcome) (from : ℕ) (o : Order) (polls : Polls) (b : Bench) → answers_of (post_alerts x from o polls b) ≡ answer_to x b.channel
post_answers late from o polls b = refl
post_answers (full usage) from o polls b = refl
post_answers stored from o polls b = notices_answer o.chan _ _ _ b.channel.marks _

same_members : (x : Outcome) (ch other : Channel) → ch.members ≡ other.members → answer_to x ch ≡ answer_to x other
same_members late ch other same = refl
same_members (full usage) ch other same = refl
same_members stored ch other same = ap (λ (ms : List Member). with_status (if length ms == 0 then 202 else 201)) same

-- the first status, if there is one
abbrev status_in : List Answered → ℕ
status_in [] = 0
status_in (a ∷ rest) = a.status

stored_between : (none : Bool) (k : ℕ) → (if none then 202 else 201) ≡ k → (201 ≤ k) × (k ≤ 202)
stored_between true k is = (omega arith, omega arith)
stored_between false k is = (omega arith, omega arith)

no_such : (ch : Channel) (k : ℕ) → (k < 201) ⊎ (202 < k) → answer_to stored ch ≡ with_status k → ⊥
no_such ch k (inl low) is = let r = stored_between (length ch.members == 0) k (ap status_in is) in omega (arith, r.0, low)
no_such ch k (inr high) is = let r = stored_between (length ch.members == 0) k (ap status_in is) in omega (arith, r.1, high)

late_by : (fits no_slot : Bool) (usage : FullLine) (ch : Channel) (time : ℕ) → nat_le time last_second ≡ fits
    → (answer_to (outcome_by fits no_slot usage) ch ≡ with_status 503) ↔ (last_second < time)
late_by false no_slot usage ch time is = (λ _. grind (arith, nat_tests), λ _. refl)
late_by true true usage ch time is = (λ h. let e : 507 ≡ 503 = ap status_in h in absurd (omega arith), λ lt. absurd (grind (arith, nat_tests)))
late_by true false usage ch time is = (λ h. absurd (no_such ch 503 (inr (omega arith)) h), λ lt. absurd (grind (arith, nat_tests)))

full_by : (no_slot : Bool) (usage : FullLine) (ch : Channel) (slots : ℕ) → is_full slots usage ≡ no_slot
    → (answer_to (outcome_by true no_slot usage) ch ≡ with_usage usage) ↔ (usage.buffered + usage.held ≡ slots)
full_by true usage ch slots is = (λ _. grind (arith, nat_tests), λ _. refl)
full_by false usage ch slots is = (λ h. let r = stored_between (length ch.members == 0) 507 (ap status_in h) in absurd (omega (arith, r.1)), λ e. absurd (grind (arith, nat_tests)))

-- what is told to be in use, where it is told
abbrev usage_in : FullLine → List Answered → FullLine
usage_in other [] = other
usage_in other (a ∷ rest) = unwrap_or a.usage other

alone_by : (no_slot : Bool) (usage other : FullLine) (ch : Channel) → answer_to (outcome_by true no_slot usage) ch ≡ with_usage other → other ≡ usage
alone_by true usage other ch is = sym (ap (usage_in usage) is)
alone_by false usage other ch is = let r = stored_between (length ch.members == 0) 507 (ap status_in is) in absurd (omega (arith, r.1))

four_by : (none : Bool) → IsAnswered (with_status (if none then 202 else 201))
four_by true = inr (inl refl)
four_by false = inl refl

four : (x : Outcome) (ch : Channel) → IsAnswered (answer_to x ch)
four late ch = inr (inr (inl refl))
four (full usage) ch = inr (inr (inr (usage, refl)))
four stored ch = four_by (length ch.members == 0)

fits_time : (time : ℕ) → time ≤ last_second → nat_le time last_second ≡ true
fits_time time le = grind (arith, nat_tests)

held_from : (counts : List ℕ) (n : ℕ) (slots : List ℕ)
    → fold (λ a x. a + cond (is_held x) 1 0) n (map (told_answer counts) slots) ≡ fold (λ a slot. a + cond (not (slice_index counts slot == 0)) 1 0) n slots
held_from counts n [] = refl
held_from counts n (s ∷ slots) = held_from counts (n + cond (not (slice_index counts s == 0)) 1 0) slots

held_told : (counts slots : List ℕ) → held_count (map (told_answer counts) slots) ≡ held_among counts slots
held_told counts slots = held_from counts 0 slots

-- with the numbers of holds, the slots in use are those that the polls show
pub usage_told : (counts : List ℕ) (o : Order) (polls : Polls) (b : Bench) → polls.retired ≡ map (told_answer counts) b.desk.retired → polls.leaving ≡ map (told_answer counts) (slots_of (leaving o.length b))
    → usage_of o.length polls b ≡ usage_by counts o b
usage_told counts o polls b first asked = λ i. record {
  buffered = (usage_of o.length polls b).buffered;
  held = (ap held_count first ∙ held_told counts b.desk.retired) i + (ap held_count asked ∙ held_told counts (slots_of (leaving o.length b))) i;
}

abbrev status_by : ℕ → ℕ
status_by n = if n == 0 then 202 else 201

has_some : (n : ℕ) (b : Bool) → (n == 0) ≡ b → status_by n ≡ 201 → 0 < n
has_some n true is h = let e : ◌≡◌ {A = ℕ} 202 201 = rw is at h in absurd (omega arith)
has_some n false is h = grind (arith, nat_tests)

has_none : (n : ℕ) (b : Bool) → (n == 0) ≡ b → status_by n ≡ 202 → n ≡ 0
has_none n true is h = grind (arith, nat_tests)
has_none n false is h = let e : ◌≡◌ {A = ℕ} 201 202 = rw is at h in absurd (omega arith)

some_member : (x : Outcome) (ch : Channel) → answer_to x ch ≡ with_status 201 → 0 < length ch.members
some_member late ch h = absurd (let e : 503 ≡ 201 = ap status_in h in omega arith)
some_member (full usage) ch h = absurd (let e : 507 ≡ 201 = ap status_in h in omega arith)
some_member stored ch h = has_some (length ch.members) (length ch.members == 0) refl (ap status_in h)

no_member : (x : Outcome) (ch : Channel) → answer_to x ch ≡ with_status 202 → length ch.members ≡ 0
no_member late ch h = absurd (let e : 503 ≡ 202 = ap status_in h in omega arith)
no_member (full usage) ch h = absurd (let e : 507 ≡ 202 = ap status_in h in omega arith)
no_member stored ch h = has_none (length ch.members) (length ch.members == 0) refl (ap status_in h)

module _ (from : ℕ) (o : Order) (polls : Polls) (row : List (Slot Message)) (s : OwnerAt) (lines : List OutLine) (said : lines ≡ publish_alerts from o polls row s) where
  answered : answers_of lines ≡ answer_to (publish_outcome o polls row s) (opened o.chan s)
  answered =
      ap answers_of said ∙ (post_answers (publish_outcome o polls row s) from o polls (publish_cleared o polls row s)
      ∙ same_members (publish_outcome o polls row s) (publish_cleared o polls row s).channel (opened o.chan s) refl)

  pub is_late_exactly : IsLateExactly o row s lines
  is_late_exactly =
      let b = publish_cleared o polls row s in
      let r = late_by (nat_le (stamp b).time last_second) (is_full b.desk.slots (usage_of o.length polls b)) (usage_of o.length polls b) (opened o.chan s) (stamp b).time refl in
      (λ h. r.0 (sym answered ∙ h), λ lt. answered ∙ r.1 lt)

  pub is_full_exactly : (counts : List ℕ) → PublishPolls true counts o row s polls → IsFullExactly counts o row s lines
  is_full_exactly counts asked le =
      let b = publish_cleared o polls row s in
      let usage = usage_of o.length polls b in
      let same : usage ≡ usage_by counts o (touched (bench_of o.chan row s)) = usage_told counts o polls (touched (bench_of o.chan row s)) (asked.first.told refl) (asked.others.before.told refl) in
      let fits : answers_of lines ≡ answer_to (outcome_by true (is_full b.desk.slots usage) usage) (opened o.chan s) =
      answered ∙ ap (λ t. answer_to (outcome_by t (is_full b.desk.slots usage) usage) (opened o.chan s)) (fits_time (stamp b).time le) in
      let r = full_by (is_full b.desk.slots usage) usage (opened o.chan s) b.desk.slots refl in
      subst (λ (u : FullLine). FullExactly s.desk.slots u (answers_of lines)) same (record {
        exactly = (λ h. r.0 (sym fits ∙ h), λ e. fits ∙ r.1 e);
        alone = λ other h. alone_by (is_full b.desk.slots usage) usage other (opened o.chan s) (sym fits ∙ h);
      })

  pub is_answered : IsAnswered (answers_of lines)
  is_answered = subst IsAnswered (sym answered) (four (publish_outcome o polls row s) (opened o.chan s))

  pub tells_members : TellsMembers o s lines
  tells_members = record {
    some = λ h. some_member (publish_outcome o polls row s) (opened o.chan s) (sym answered ∙ h);
    none = λ h. no_member (publish_outcome o polls row s) (opened o.chan s) (sym answered ∙ h);
  }

-- the rules, from what is known of a publish
module _ (exact : Bool) (from : ℕ) (o : Order) (row : List (Slot Message)) (s : OwnerAt) (counts : List ℕ) (events : List Event) (lines : List OutLine) (new_row : List (Slot Message)) (new : OwnerAt) (new_counts : List ℕ) (q : Publishes exact from o row s counts events lines new_row new new_counts) where
  pub late_rule : IsLateExactly o row s lines
  late_rule = is_late_exactly from o q.0 row s lines q.2.said

  pub full_rule : exact ≡ true → IsFullExactly counts o row s lines
  full_rule h = is_full_exactly from o q.0 row s lines q.2.said counts (subst (λ (e : Bool). PublishPolls e counts o row s q.0) h q.1)

  pub members_rule : TellsMembers o s lines
  members_rule = tells_members from o q.0 row s lines q.2.said

  pub answered_rule : IsAnswered (answers_of lines)
  answered_rule = is_answered from o q.0 row s lines q.2.said

  pub retired_rule : FreesOnlyRetired s.desk.retired events
  retired_rule = subst (λ (es : List Event). FreesOnlyRetired s.desk.retired es) (sym q.2.happened) (publish_retired exact from o q.0 row s counts q.1)

  pub freed_rule : exact ≡ true → FreesUnheld counts events
  freed_rule h = subst (λ (es : List Event). FreesUnheld counts es) (sym q.2.happened) (publish_frees from o q.0 row s counts (subst (λ (e : Bool). PublishPolls e counts o row s q.0) h q.1))

  pub lowest_rule : TakesLowest new_row events
  lowest_rule = subst (λ (r : List (Slot Message)). TakesLowest r events) (sym q.2.slots) (subst (λ (es : List Event). TakesLowest (publish_row o q.0 row s) es) (sym q.2.happened) (publish_lowest from o q.0 row s q.4))
