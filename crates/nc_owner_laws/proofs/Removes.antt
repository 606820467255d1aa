-- A deletion and a sweep: a channel is touched, and removed or not.
use Rattle.std.proofs.Common.{◌≡◌, ℕ, ◌<◌, Bool, true, false, cond, List, [], ◌∷◌, ◌++◌, Option, Some, None, refl, sym, ap, ◌∙◌, subst, fold, map, filter, take, drop, length, suc, arith}
use Rattle.std.specs.Prelude.{◌==◌, ◌&&◌, ◌||◌, nat_eq, unwrap_or}
use Rattle.std.specs.List.{AllByRecursion}
use Rattle.std.specs.List.Sorted.{IsStrictlySortedBy}
use Rattle.std.specs.Map.{keys_of}
use Rattle.std.specs.Ordering.{nat_cmp}
use Rattle.std.specs.Cmp.Lexicographic.{slice_cmp}
use Rattle.std.proofs.lemmas.Bool.{true≢false, eq-eqb, eqb-true}
use Rattle.std.proofs.lemmas.Bool.Decides.{nat_tests}
use Rattle.nc_types.specs.Message.{Message}
use Rattle.nc_types.specs.declared.info.Info.{Info}
use Rattle.nc_journal.specs.History.{onto}
use Rattle.nc_journal.specs.declared.alert.AlertLine.TheVariants.{DelAnswer}
use Rattle.nc_journal.specs.declared.event.Event.{Event}
use Rattle.nc_journal.specs.declared.event.Event.TheVariants.{Removed, Made}
use Rattle.nc_journal.specs.declared.word.LeftCause.TheVariants.{Deleted}
use Rattle.nc_journal.specs.declared.word.RemovedCause.{RemovedCause}
use Rattle.nc_journal.specs.declared.word.RemovedCause.TheVariants.{Reaped, Deleted as ByDeletion}
use Rattle.nc_buffer.specs.declared.entry.Entry.{Entry}
use Rattle.nc_slots.specs.declared.slot.Slot.{Slot}
use Rattle.nc_owner.specs.declared.channel.Channel.{Channel}
use Rattle.nc_owner.specs.declared.desk.Desk.{Desk}
use Rattle.nc_owner.specs.declared.member.Member.{Member}
use Rattle.nc_owner.specs.Ascending.{place_above, with_number, has_number, with_new_number}
use Rattle.nc_owner.specs.Members.{has_member}
use Rattle.nc_owner.specs.AlertLines.{OutLine}
use Rattle.nc_owner.specs.Edge.{last_in}
use Rattle.nc_owner.specs.OtherSteps.{touch_events_of, touched_of, touched_row, touch_after}
use Rattle.nc_owner.specs.Publish.{info_of}
use Rattle.nc_owner.specs.Remove.{removal_lefts, removal_events, removal_alerts, removed_row, removed_after, with_worker, concerned, is_of, number_of, numbers_of, gone_line, delete_answer, delete_events, delete_alerts, delete_row, delete_after, events_of_removal, alerts_of_removal, row_of_removal, after_removal, is_idle, is_reaped, sweep_events, sweep_alerts, sweep_row, sweep_after}
use Rattle.nc_owner.specs.State.{OwnerAt, entries_of, exists, found, opened, new_channel}
use Rattle.nc_owner_laws.specs.Filters.{is_marked, is_same, marks_in, members_in, new_desk}
use Rattle.nc_owner_laws.specs.OwnerStanding.{Stands}
use Rattle.nc_owner_laws.specs.Reaping.{Keeps}
use Rattle.nc_owner_laws.specs.Removal.{IsLeft, IsOfRemoval, is_told_gone, TellsMarked}
use Rattle.nc_owner_laws.specs.Removing.{removed_onto, is_told_member, MembersTold, ToldAreThere, RemoveKeeps, DeleteKeeps, SweepKeeps}
use Rattle.nc_owner_laws.specs.Weave.{weave, makes, numbered, numbered_by}
use Rattle.nc_owner_laws.proofs.AnsweredOnce.{others_answer_new, removal_answers_new}
use Rattle.nc_owner_laws.proofs.After.{name_is, found_after}
use Rattle.nc_owner_laws.proofs.Aside.{aside_stands, aside_in_order, aside_answers_new}
use Rattle.nc_owner_laws.proofs.Events.{name_self}
use Rattle.nc_owner_laws.proofs.Fences.{is_last}
use Rattle.nc_owner_laws.proofs.Filtering.{channel_law, made_members, made_marks}
use Rattle.nc_owner_laws.proofs.Hearing.{still_touch}
use Rattle.nc_owner_laws.proofs.InOrder.{others_in_order, removal_in_order}
use Rattle.nc_owner_laws.proofs.Kept.{all_append}
use Rattle.nc_owner_laws.proofs.Leaving.{all_drop}
use Rattle.nc_owner_laws.proofs.OwnerSteps.{behind, sweep_stands}
use Rattle.nc_owner_laws.proofs.Owners.{by_is}
use Rattle.nc_owner_laws.proofs.Removal.{removal_is}
use Rattle.nc_owner_laws.proofs.RemovalKept.{are_left, removal_stands}
use Rattle.nc_owner_laws.proofs.Sets.{has_with_new, member_is}
use Rattle.nc_owner_laws.proofs.Staging.{all_take}
use Rattle.nc_owner_laws.proofs.Stamping as stamping
use Rattle.nc_owner_laws.proofs.Weaving.{weave_nothing}

-- ---- who is told that a channel is gone

or_true : (b : Bool) → (b || true) ≡ true
or_true true = refl
or_true false = refl

-- whoever is marked is concerned
stays_in : (w : ℕ) (ms : List Member) (ws : List ℕ) → has_number w ws ≡ true → has_number w (fold with_worker ws ms) ≡ true
stays_in w [] ws e = e
stays_in w (m ∷ ms) ws e = stays_in w ms (with_worker ws m) (has_with_new w m.from ws ∙ ap (λ b. nat_eq w m.from || b) e ∙ or_true (nat_eq w m.from))

-- whoever is concerned is told
told_gone : (w : ℕ) (c : List ℕ) (ms : List Member) (ws : List ℕ) → has_number w ws ≡ true → is_told_gone w (map (gone_line c ms) ws) ≡ true
told_gone w c ms [] e = absurd (true≢false (sym e))
told_gone w c ms (v ∷ ws) e = by (nat_eq w v) refl e (told_gone w c ms ws)
  where
    by : (b : Bool) → nat_eq w v ≡ b → (b || has_number w ws) ≡ true → (has_number w ws ≡ true → is_told_gone w (map (gone_line c ms) ws) ≡ true) → (((v == w) && true) || is_told_gone w (map (gone_line c ms) ws)) ≡ true
    by true is e rest = ap (λ b. (b && true) || is_told_gone w (map (gone_line c ms) ws)) (eq-eqb v w (sym (eqb-true w v is)))
    by false is e rest = ap (λ b. ((v == w) && true) || b) (rest e) ∙ or_true ((v == w) && true)

pub are_gone : (c : List ℕ) (ms : List Member) (ws : List ℕ) → AllByRecursion (λ a. IsOfRemoval c a.line) (map (gone_line c ms) ws)
are_gone c ms [] = tt
are_gone c ms (w ∷ ws) = (refl, are_gone c ms ws)

module _ (me workers slots first : ℕ) (row : List (Slot Message)) (h : List Event) (s : OwnerAt) (k : Stands me workers slots first row h s) where
  pub is_me : s.desk.me ≡ me
  is_me = ap (λ (d : Desk). d.me) k.tells.desk ∙ stamping.me_law (new_desk me workers slots first) h

  -- the marks of a channel are those of the history
  marks_are : (c : List ℕ) (w : ℕ) → has_number w (opened c s).marks ≡ is_marked c w h
  marks_are c w =
      ap (has_number w) (made_marks (found c s) s.desk.spent)
      ∙ ap (λ (o : Option Channel). has_number w (marks_in o)) (k.tells.channels c)
      ∙ (channel_law me workers slots first c h).marks w

  tells_marked : (c : List ℕ) → TellsMarked c h (removal_alerts c s)
  tells_marked c w m =
      let ch = opened c s in
      told_gone w c ch.members (concerned ch) (stays_in w ch.members ch.marks (marks_are c w ∙ m))

-- ---- which members are told

-- the numbers of a worker's members
numbers_are : (m : Member) (ms : List Member) → has_number m.k (numbers_of m.from ms) ≡ has_member m ms
numbers_are m [] = refl
numbers_are m (x ∷ ms) = by (x.from == m.from) refl (numbers_are m ms) ∙ ap (λ b. b || has_member m ms) (sym (member_is m x.from x.k))
  where
    turned : (a b : ℕ) → (a == b) ≡ (b == a)
    turned a b = grind (arith, nat_tests)

    rest : (b : Bool) → has_number m.k (map number_of (cond b (x ∷ filter (is_of m.from) ms) (filter (is_of m.from) ms))) ≡ ((b && (m.k == x.k)) || has_number m.k (numbers_of m.from ms))
    rest true = refl
    rest false = refl

    by : (b : Bool) → (x.from == m.from) ≡ b → has_number m.k (numbers_of m.from ms) ≡ has_member m ms → has_number m.k (map number_of (cond b (x ∷ filter (is_of m.from) ms) (filter (is_of m.from) ms))) ≡ (is_same m x.from x.k || has_member m ms)
    by b e later = rest b ∙ ap (λ d. (d && (m.k == x.k)) || has_number m.k (numbers_of m.from ms)) (sym e ∙ turned x.from m.from) ∙ ap (λ d. is_same m x.from x.k || d) later

-- the worker of a member is concerned
member_concerns : (m : Member) (ms : List Member) (ws : List ℕ) → has_member m ms ≡ true → has_number m.from (fold with_worker ws ms) ≡ true
member_concerns m [] ws e = absurd (true≢false (sym e))
member_concerns m (x ∷ ms) ws e = by (m.from == x.from) (m.k == x.k) refl (ap (λ b. b || has_member m ms) (sym (member_is m x.from x.k)) ∙ e) (member_concerns m ms (with_worker ws x))
  where
    by : (a b : Bool) → (m.from == x.from) ≡ a → ((a && b) || has_member m ms) ≡ true → (has_member m ms ≡ true → has_number m.from (fold with_worker (with_worker ws x) ms) ≡ true) → has_number m.from (fold with_worker (with_worker ws x) ms) ≡ true
    by true b is there rest = stays_in m.from ms (with_worker ws x) (has_with_new m.from x.from ws ∙ ap (λ d. d || has_number m.from ws) is)
    by false b is there rest = rest there

-- whoever is concerned is told its numbers
told_numbers : (m : Member) (c : List ℕ) (ms : List Member) (ws : List ℕ) → is_told_member m (map (gone_line c ms) ws) ≡ (has_number m.from ws && has_number m.k (numbers_of m.from ms))
told_numbers m c ms [] = refl
told_numbers m c ms (v ∷ ws) = ap (λ b. ((v == m.from) && has_number m.k (numbers_of v ms)) || b) (told_numbers m c ms ws) ∙ by (m.from == v) refl (has_number m.k (numbers_of m.from ms)) refl (has_number m.from ws)
  where
    twice : (x y : Bool) → (x || (y && x)) ≡ x
    twice true y = refl
    twice false true = refl
    twice false false = refl

    turned : (b : Bool) → (m.from == v) ≡ b → (v == m.from) ≡ b
    turned b e = (let same : (v == m.from) ≡ (m.from == v) = grind (arith, nat_tests) in same) ∙ e

    by : (b : Bool) → (m.from == v) ≡ b → (x : Bool) → has_number m.k (numbers_of m.from ms) ≡ x → (y : Bool) → (((v == m.from) && has_number m.k (numbers_of v ms)) || (y && has_number m.k (numbers_of m.from ms))) ≡ ((b || y) && has_number m.k (numbers_of m.from ms))
    by true e x is y =
        ap (λ d. (d && has_number m.k (numbers_of v ms)) || (y && has_number m.k (numbers_of m.from ms))) (turned true e)
        ∙ ap (λ w. has_number m.k (numbers_of w ms) || (y && has_number m.k (numbers_of m.from ms))) (sym (eqb-true m.from v e))
        ∙ twice (has_number m.k (numbers_of m.from ms)) y
    by false e x is y = ap (λ d. (d && has_number m.k (numbers_of v ms)) || (y && has_number m.k (numbers_of m.from ms))) (turned false e)

pub members_told : MembersTold
members_told me workers slots first c m row h s k =
    let ch = opened c s in
    told_numbers m c ch.members (concerned ch)
    ∙ ap (λ b. has_number m.from (concerned ch) && b) (numbers_are m ch.members)
    ∙ by (has_member m ch.members) refl
    ∙ ap (has_member m) (made_members (found c s) s.desk.spent)
    ∙ ap (λ (o : Option Channel). has_member m (members_in o)) (k.tells.channels c)
    ∙ (channel_law me workers slots first c h).members m
  where
    by : (b : Bool) → has_member m (opened c s).members ≡ b → (has_number m.from (concerned (opened c s)) && b) ≡ b
    by true e = ap (λ d. d && true) (member_concerns m (opened c s).members (opened c s).marks e)
    by false e = none (has_number m.from (concerned (opened c s)))
      where
        none : (d : Bool) → (d && false) ≡ false
        none true = refl
        none false = refl

-- ---- whoever is told is there

module _ (P : ℕ → Type 0) where
  all_with : (x : ℕ) (xs : List ℕ) → P x → AllByRecursion P xs → AllByRecursion P (with_new_number xs x)
  all_with x xs p a = by (has_number x xs)
    where
      by : (b : Bool) → AllByRecursion P (cond b xs (with_number xs x))
      by true = a
      by false = all_append P (take (place_above x xs) xs) (x ∷ drop (place_above x xs) xs) (all_take P (place_above x xs) xs a) (p, all_drop P (place_above x xs) xs a)

  all_concerned : (ms : List Member) (ws : List ℕ) → AllByRecursion P ws → AllByRecursion (λ m. P m.from) ms → AllByRecursion P (fold with_worker ws ms)
  all_concerned [] ws a b = a
  all_concerned (m ∷ ms) ws a b = all_concerned ms (with_worker ws m) (all_with m.from ws b.0 a) b.1

  all_told : (c : List ℕ) (ms : List Member) (ws : List ℕ) → AllByRecursion P ws → AllByRecursion (λ a. P a.to) (map (gone_line c ms) ws)
  all_told c ms [] a = tt
  all_told c ms (w ∷ ws) a = (a.0, all_told c ms ws a.1)

pub told_are_there : ToldAreThere
told_are_there workers c s marked joined =
    let ch = opened c s in
    all_told (λ w. w < workers) c ch.members (concerned ch) (all_concerned (λ w. w < workers) ch.members ch.marks marked joined)

-- ---- a removal

pub remove_keeps : RemoveKeeps
remove_keeps me workers slots first next c cause row h s mine k =
    let ch = opened c s in
    let alerts = removal_alerts c s in
    let lefts = removal_lefts c Deleted s in
    let are : AllByRecursion IsLeft lefts = are_left s.desk.me c Deleted (entries_of ch) in
    let gone : AllByRecursion (λ a. IsOfRemoval c a.line) alerts = are_gone c ch.members (concerned ch) in
    record {
      stands = removal_stands me workers slots first next c (last_in c s) Deleted cause alerts row h s mine (is_last me workers slots first row h s k.stands c) gone (tells_marked me workers slots first row h s k.stands c) k.stands;
      ordered = removal_in_order first h s.desk.me next c (last_in c s) cause lefts alerts are gone k.ordered;
      new_answers = removal_answers_new h s.desk.me next c (last_in c s) cause lefts alerts are gone k.new_answers;
    }

-- ---- a deletion and a sweep, by the touch, the removal and the answer

onto_makes : (w : ℕ) (next : ℕ → ℕ) (xs ys : List OutLine) (h : List Event) → onto (makes w next (xs ++ ys)) h ≡ onto (makes w (numbered_by next xs) ys) (onto (makes w next xs) h)
onto_makes w next [] ys h = refl
onto_makes w next (a ∷ xs) ys h = onto_makes w (numbered next a.to) xs ys (Made w a.to (next a.to) a.line ∷ h)

-- what more is made is put behind a removal
removed_more : (next : ℕ → ℕ) (c : List ℕ) (cause : RemovedCause) (more : List OutLine) (h : List Event) (s : OwnerAt)
    → onto (weave s.desk.me next (removal_events c cause s) (removal_alerts c s ++ more)) h ≡ onto (makes s.desk.me (numbered_by next (removal_alerts c s)) more) (removed_onto next c cause h s)
removed_more next c cause more h s =
    let w = s.desk.me in
    let lefts = removal_lefts c Deleted s in
    let gones = removal_alerts c s in
    let are : AllByRecursion IsLeft lefts = are_left w c Deleted (entries_of (opened c s)) in
    removal_is w next c (last_in c s) cause lefts (gones ++ more) h are
    ∙ onto_makes w next gones more (Removed w c (last_in c s) cause ∷ onto lefts h)
    ∙ ap (λ (l : List Event). onto (makes w (numbered_by next gones) more) l) (sym (removal_is w next c (last_in c s) cause lefts gones h are))

module _ (P : List (Slot Message) → List Event → OwnerAt → Type 0) (next : ℕ → ℕ) (c : List ℕ) (row : List (Slot Message)) (h : List Event) (s : OwnerAt) where
  -- the owner behind the touch, its slots and its history
  abbrev pub first_row : List (Slot Message)
  first_row = touched_row c row s

  abbrev pub first_after : OwnerAt
  first_after = touch_after c row s

  abbrev pub first_onto : List Event
  first_onto = onto (touch_events_of c row s) h

  -- what holds behind the touch, and behind a removal where there is one, holds behind a sweep
  pub swept_so : P first_row first_onto first_after → (is_reaped c row s ≡ true → P (removed_row c first_row first_after) (removed_onto next c Reaped first_onto first_after) (removed_after c (last_in c first_after) first_after))
      → P (sweep_row c row s) (onto (weave s.desk.me next (sweep_events c row s) (sweep_alerts c row s)) h) (sweep_after c row s)
  swept_so stays goes =
      behind (λ l. P (sweep_row c row s) l (sweep_after c row s)) s.desk.me next (touch_events_of c row s) (events_of_removal (is_reaped c row s) Reaped c first_after) (sweep_alerts c row s) h (still_touch c row s)
      (by (is_reaped c row s) refl)
    where
      by : (b : Bool) → is_reaped c row s ≡ b → P (row_of_removal b c first_row first_after) (onto (weave s.desk.me next (events_of_removal b Reaped c first_after) (alerts_of_removal b c first_after)) first_onto) (after_removal b c first_after)
      by true e = goes e
      by false e = stays

  -- what holds behind the touch and the answer that there is no such channel, and behind the touch, the removal and the answer, holds behind a deletion
  pub deleted_so : (from r : ℕ)
      → (exists c s ≡ false → P first_row (Made s.desk.me from (next from) (DelAnswer r 404 None) ∷ first_onto) first_after)
      → ((n : ℕ) (info : Option Info) → exists c s ≡ true → P (removed_row c first_row first_after) (Made s.desk.me from n (DelAnswer r 200 info) ∷ removed_onto next c ByDeletion first_onto first_after) (removed_after c (last_in c first_after) first_after))
      → P (delete_row c row s) (onto (weave s.desk.me next (delete_events c row s) (delete_alerts from r c row s)) h) (delete_after c row s)
  deleted_so from r stays goes =
      behind (λ l. P (delete_row c row s) l (delete_after c row s)) s.desk.me next (touch_events_of c row s) (events_of_removal (exists c s) ByDeletion c first_after) (delete_alerts from r c row s) h (still_touch c row s)
      (by (exists c s) refl)
    where
      info : Option Info
      info = Some (info_of (touched_of c row s).channel)

      by : (b : Bool) → exists c s ≡ b → P (row_of_removal b c first_row first_after) (onto (weave s.desk.me next (events_of_removal b ByDeletion c first_after) (alerts_of_removal b c first_after ++ cond b (delete_answer from r 200 info) (delete_answer from r 404 None) ∷ [])) first_onto) (after_removal b c first_after)
      by true e = subst (λ (l : List Event). P (removed_row c first_row first_after) l (removed_after c (last_in c first_after) first_after)) (sym (removed_more next c ByDeletion (delete_answer from r 200 info ∷ []) first_onto first_after)) (goes (numbered_by next (removal_alerts c first_after) from) info e)
      by false e = stays e

-- ---- a channel that was touched

pub opened_touched : (c : List ℕ) (row : List (Slot Message)) (s : OwnerAt) → IsStrictlySortedBy (slice_cmp nat_cmp) (keys_of s.channels) → exists c s ≡ true → opened c (touch_after c row s) ≡ (touched_of c row s).channel
opened_touched c row s sorted there =
    let b = touched_of c row s in
    ap (λ (o : Option Channel). unwrap_or o (new_channel b.desk))
    (found_after c c (exists c s) b s sorted ∙ ap (λ x. cond x (cond (exists c s) (Some b.channel) None) (found c s)) (name_is c c ∙ name_self c) ∙ ap (λ (x : Bool). cond x (Some b.channel) None) there)

-- where a sweep removes it, nothing is kept there
pub reaped_empty : (c : List ℕ) (row : List (Slot Message)) (s : OwnerAt) → IsStrictlySortedBy (slice_cmp nat_cmp) (keys_of s.channels) → is_reaped c row s ≡ true → entries_of (opened c (touch_after c row s)) ≡ []
reaped_empty c row s sorted goes =
    let ch = (touched_of c row s).channel in
    let parts = both (exists c s) (is_idle ch) goes in
    let idle = both (length (entries_of ch) == 0) (length ch.members == 0) parts.1 in
    ap entries_of (opened_touched c row s sorted parts.0) ∙ none (entries_of ch) idle.0
  where
    both : (a b : Bool) → (a && b) ≡ true → (a ≡ true) × (b ≡ true)
    both true true e = (refl, refl)
    both true false e = absurd cc
    both false b e = absurd cc

    none : (es : List Entry) → (length es == 0) ≡ true → es ≡ []
    none [] e = refl
    none (x ∷ es) e = let no : (suc (length es) == 0) ≡ false = grind (arith, nat_tests) in absurd (true≢false (sym e ∙ no))

-- ---- what they keep

none_next : ℕ → ℕ
none_next to = 0

pub touch_keeps : (me workers slots first : ℕ) (c : List ℕ) (row : List (Slot Message)) (h : List Event) (s : OwnerAt) → Keeps me workers slots first row h s
    → Keeps me workers slots first (touched_row c row s) (onto (touch_events_of c row s) h) (touch_after c row s)
touch_keeps me workers slots first c row h s k =
    subst (λ (l : List Event). Keeps me workers slots first (touched_row c row s) (onto l h) (touch_after c row s)) (weave_nothing s.desk.me none_next (touch_events_of c row s)) (record {
      stands = sweep_stands me workers slots first none_next c row h s k.stands;
      ordered = (others_in_order me workers slots first none_next row h s k.stands k.ordered).sweep c;
      new_answers = (others_answer_new me workers slots first none_next row h s k.stands k.ordered k.new_answers).sweep c;
    })

made_keeps : (me workers slots first v from n r status : ℕ) (info : Option Info) (row : List (Slot Message)) (h : List Event) (s : OwnerAt) → v ≡ me → Keeps me workers slots first row h s → Keeps me workers slots first row (Made v from n (DelAnswer r status info) ∷ h) s
made_keeps me workers slots first v from n r status info row h s is k =
    let e = Made v from n (DelAnswer r status info) in
    record {
      stands = aside_stands me workers slots first row h s e tt (by_is me v is) k.stands;
      ordered = aside_in_order first h e tt k.ordered;
      new_answers = aside_answers_new h e tt k.new_answers;
    }

pub delete_keeps : DeleteKeeps
delete_keeps me workers slots first from r next c row h s mine k =
    let x = touch_after c row s in
    let before = onto (touch_events_of c row s) h in
    let is = is_me me workers slots first row h s k.stands in
    let touch = touch_keeps me workers slots first c row h s k in
    deleted_so (Keeps me workers slots first) next c row h s from r
    (λ e. made_keeps me workers slots first s.desk.me from (next from) r 404 None (touched_row c row s) before x is touch)
    (λ n info e. made_keeps me workers slots first s.desk.me from n r 200 info (removed_row c (touched_row c row s) x) (removed_onto next c ByDeletion before x) (removed_after c (last_in c x) x) is
    (remove_keeps me workers slots first next c ByDeletion (touched_row c row s) before x mine touch))

pub sweep_keeps : SweepKeeps
sweep_keeps me workers slots first next c row h s mine k =
    let touch = touch_keeps me workers slots first c row h s k in
    swept_so (Keeps me workers slots first) next c row h s touch (λ e. remove_keeps me workers slots first next c Reaped (touched_row c row s) (onto (touch_events_of c row s) h) (touch_after c row s) mine touch)
