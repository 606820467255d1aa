-- No message is granted more often than one may be.
use Rattle.std.proofs.Common.{◌≡◌, ℕ, ◌+◌, ◌<◌, ◌≤◌, Bool, true, false, cond, not, List, [], ◌∷◌, ◌++◌, Option, Some, None, refl, sym, ap, ◌∙◌, subst, map, filter, length, arith, find, unwrap_or}
use Rattle.std.specs.Prelude.{◌==◌, ◌||◌, ◌&&◌, nat_le, bytes_eq}
use Rattle.std.specs.List.{AllByRecursion}
use Rattle.std.proofs.lemmas.Bool.Decides.{nat_tests}
use Rattle.nc_types.specs.Id.{Id, is_past}
use Rattle.nc_types.specs.Message.{Message}
use Rattle.nc_journal.specs.History.{onto}
use Rattle.nc_journal.specs.Leaving.{grants_since, most_grants}
use Rattle.nc_journal.specs.declared.event.Event.{Event}
use Rattle.nc_journal.specs.declared.event.Event.TheVariants.{Parted, Stored, Looked, Granted, Removed, Made}
use Rattle.nc_journal.specs.declared.word.LeftCause.{LeftCause}
use Rattle.nc_journal.specs.declared.word.LeftCause.TheVariants.{Expired, Spent, Length, Deleted}
use Rattle.nc_journal.specs.declared.word.RemovedCause.{RemovedCause}
use Rattle.nc_buffer.specs.declared.entry.Entry.{Entry}
use Rattle.nc_buffer.specs.Buffer.{is_expired, is_spent}
use Rattle.nc_slots.specs.declared.slot.Slot.{Slot}
use Rattle.nc_owner.specs.declared.channel.Channel.{Channel}
use Rattle.nc_owner.specs.declared.desk.Desk.{Desk}
use Rattle.nc_owner.specs.declared.member.Member.{Member}
use Rattle.nc_owner.specs.declared.order.Order.{Order}
use Rattle.nc_owner.specs.Ascending.{has_number}
use Rattle.nc_owner.specs.Members.{has_member}
use Rattle.nc_owner.specs.AlertLines.{OutLine}
use Rattle.nc_owner.specs.State.{OwnerAt, Bench, bench_of, entries_of, found, opened, new_channel}
use Rattle.nc_owner.specs.Leave.{left_event, leavers, touched, spend_events}
use Rattle.nc_owner.specs.Poll.{freed_event, freed_events, free_slots}
use Rattle.nc_owner.specs.Publish.{Polls, Outcome, late, stored, full, asked, roomy, leaving, lowest_slot, stamp, stored_event, granted_events, post_events, stored_events, roomy_events, cleared_events, publish_cleared, publish_outcome, publish_events, publish_alerts}
use Rattle.nc_owner.specs.Look.{found_on, found_line, looked_event, found_events, look_ready, look_events, look_alerts}
use Rattle.nc_owner.specs.OtherSteps.{touch_events_of, join_events, part_events, info_alerts, polled_events}
use Rattle.nc_owner.specs.Remove.{removal_lefts, removal_events, removal_alerts}
use Rattle.nc_owner_laws.specs.Ascends.{IsAscending}
use Rattle.nc_owner_laws.specs.Counted.{SlotsCount}
use Rattle.nc_owner_laws.specs.Filters.{is_marked, marks_in}
use Rattle.nc_owner_laws.specs.OwnerStanding.{Stands}
use Rattle.nc_owner_laws.specs.Weave.{weave, makes, numbered}
use Rattle.nc_owner_laws.proofs.Counting.{entries_count}
use Rattle.nc_owner_laws.proofs.Rising.{stands_ascends}
use Rattle.nc_owner_laws.proofs.Showing.{stands_shows}
use Rattle.nc_owner_laws.proofs.Weaving.{GrantsNot, weave_first}
use Rattle.nc_worker_state.specs.Setup.{Setup}
use Rattle.nc_world.specs.Reached.{IsSetup}
use Rattle.nc_owner_laws.proofs.Stamping.{onto_append}
use Rattle.nc_world_laws.proofs.OwnerTheme.{OwnerFact, IsOwnerTheme}
use Rattle.nc_world_laws.proofs.Local.{all_append, all_of}
use Rattle.nc_world_laws.proofs.Telling.{woven_all}
use Rattle.nc_world_laws.proofs.Stepping.{is_me, as_me}
use Rattle.nc_world_owners.specs.Grants.{AreFewGrants}
use Rattle.nc_world_owners.proofs.Slots.{aside_grants, counts_theme}
use Rattle.nc_world_owners.proofs.Asked.{IsAsked, asked_theme}

-- ---- events without grants

-- nothing is granted and nothing is stored
abbrev pub IsGrantless : Event → Type 0
IsGrantless (Granted w g slot to) = ⊥
IsGrantless (Stored w c id slot len exp kept members from r ct body) = ⊥
IsGrantless _ = Unit {0}

grantless_not : (e : Event) → IsGrantless e → GrantsNot e
grantless_not (Granted w g slot to) p = absurd p
grantless_not e p = tt

one_grantless : (slot : ℕ) (e : Event) (h : List Event) → IsGrantless e → grants_since slot (e ∷ h) ≡ grants_since slot h
one_grantless slot (Granted w g s to) h p = absurd p
one_grantless slot (Stored w c id s len exp kept members from r ct body) h p = absurd p
one_grantless slot e h p = refl

grantless_onto : (slot : ℕ) (es h : List Event) → AllByRecursion IsGrantless es → grants_since slot (onto es h) ≡ grants_since slot h
grantless_onto slot [] h a = refl
grantless_onto slot (e ∷ es) h a = grantless_onto slot es (e ∷ h) a.1 ∙ one_grantless slot e h a.0

no_lefts : (w : ℕ) (c : List ℕ) (cause : LeftCause) (es : List Entry) → AllByRecursion IsGrantless (map (left_event w c cause) es)
no_lefts w c cause [] = tt
no_lefts w c cause (e ∷ es) = (tt, no_lefts w c cause es)

no_freed : (w : ℕ) (slots : List ℕ) → AllByRecursion IsGrantless (map (freed_event w) slots)
no_freed w [] = tt
no_freed w (slot ∷ slots) = (tt, no_freed w slots)

no_parted : (b : Bool) (w : ℕ) (c : List ℕ) (m : Member) → AllByRecursion IsGrantless (cond b (Parted w c m.from m.k ∷ []) [])
no_parted true w c m = (tt, tt)
no_parted false w c m = tt

no_touch : (c : List ℕ) (row : List (Slot Message)) (s : OwnerAt) → AllByRecursion IsGrantless (touch_events_of c row s)
no_touch c row s = no_lefts s.desk.me c Expired (leavers (is_expired s.desk.clock) (bench_of c row s))

no_removal : (c : List ℕ) (cause : RemovedCause) (s : OwnerAt) → AllByRecursion IsGrantless (removal_events c cause s)
no_removal c cause s = all_append IsGrantless (removal_lefts c Deleted s) _ (no_lefts s.desk.me c Deleted (entries_of (opened c s))) (tt, tt)

few_same : (es h : List Event) → AllByRecursion IsGrantless es → AreFewGrants h → AreFewGrants (onto es h)
few_same es h a f slot = subst (λ (n : ℕ). n ≤ most_grants) (sym (grantless_onto slot es h a)) (f slot)

few_woven : (w : ℕ) (next : ℕ → ℕ) (es : List Event) (alerts : List OutLine) (h : List Event) → AllByRecursion IsGrantless es → AreFewGrants h → AreFewGrants (onto (weave w next es alerts) h)
few_woven w next es alerts h a f = few_same (weave w next es alerts) h (woven_all IsGrantless w next (λ to n l. tt) es alerts a) f

-- what is so behind a grantless front is so of the whole
few_behind : (w : ℕ) (next : ℕ → ℕ) (front rest : List Event) (alerts : List OutLine) (h : List Event) → AllByRecursion IsGrantless front → AreFewGrants (onto (weave w next rest alerts) (onto front h)) → AreFewGrants (onto (weave w next (front ++ rest) alerts) h)
few_behind w next front rest alerts h a f =
    subst (λ (l : List Event). AreFewGrants (onto l h)) (sym (weave_first w next front rest alerts (all_of IsGrantless GrantsNot grantless_not front a)))
    (subst AreFewGrants (sym (onto_append front (weave w next rest alerts) h)) f)

-- ---- a look

one_more : (b : Bool) (n most : ℕ) → (b ≡ true → n < most) → n ≤ most → cond b (n + 1) n ≤ most
one_more true n most f le = let lt : n < most = f refl in omega (arith, lt)
one_more false n most f le = le

few_granted : (w g slot to : ℕ) (h : List Event) → grants_since slot h < most_grants → AreFewGrants h → AreFewGrants (Granted w g slot to ∷ h)
few_granted w g slot to h lt f s = one_more (slot == s) (grants_since s h) most_grants (λ e. same s (slot == s) refl e) (f s)
  where
    same : (x : ℕ) (b : Bool) → (slot == x) ≡ b → b ≡ true → grants_since x h < most_grants
    same x b is e = subst (λ (k : ℕ). grants_since k h < most_grants) (let z : (slot == x) ≡ true = is ∙ e in grind (arith, nat_tests)) lt

-- the entry that a look finds may be granted once more
abbrev IsOpen : List Event → Entry → Type 0
IsOpen h e = grants_since e.slot h < most_grants

unspent : (h : List Event) (e : Entry) → e.grants ≡ grants_since e.slot h → is_spent e ≡ false → IsOpen h e
unspent h e same un = below e.grants (grants_since e.slot h) same un
  where
    below : (g n : ℕ) → g ≡ n → nat_le 4294967295 g ≡ false → n < 4294967295
    below g n e un = grind (arith, nat_tests)

keeps_test : (P : Entry → Type 0) (test : Entry → Bool) (es : List Entry) → AllByRecursion P es → AllByRecursion (λ e. P e × (test e ≡ false)) (filter (λ e. not (test e)) es)
keeps_test P test [] a = tt
keeps_test P test (e ∷ es) a = by (test e) refl (keeps_test P test es a.1)
  where
    by : (b : Bool) → test e ≡ b → AllByRecursion (λ e. P e × (test e ≡ false)) (filter (λ e. not (test e)) es) → AllByRecursion (λ e. P e × (test e ≡ false)) (cond (not b) (e ∷ filter (λ e. not (test e)) es) (filter (λ e. not (test e)) es))
    by true is rest = rest
    by false is rest = ((a.0, is), rest)

keeps_all : (P : Entry → Type 0) (test : Entry → Bool) (es : List Entry) → AllByRecursion P es → AllByRecursion P (filter test es)
keeps_all P test [] a = tt
keeps_all P test (e ∷ es) a = by (test e) (keeps_all P test es a.1)
  where
    by : (b : Bool) → AllByRecursion P (filter test es) → AllByRecursion P (cond b (e ∷ filter test es) (filter test es))
    by true rest = (a.0, rest)
    by false rest = rest

found_has : (P : Entry → Type 0) (test : Entry → Bool) (es : List Entry) (e : Entry) → AllByRecursion P es → find test es ≡ Some e → P e
found_has P test [] e a is = absurd cc
found_has P test (x ∷ es) e a is = by (test x) is (found_has P test es e a.1)
  where
    by : (b : Bool) → cond b (Some x) (find test es) ≡ Some e → (find test es ≡ Some e → P e) → P e
    by true i rest = subst P (let z : Some x ≡ Some e = i in cc) a.0
    by false i rest = rest i

module _ (c : List ℕ) (row : List (Slot Message)) (h : List Event) (s : OwnerAt) (count : AllByRecursion (λ e. e.grants ≡ grants_since e.slot h) (entries_of (opened c s))) where
  ready_open : AllByRecursion (IsOpen h) (entries_of (look_ready c row s).channel)
  ready_open = all_of (λ e. (e.grants ≡ grants_since e.slot h) × (is_spent e ≡ false)) (IsOpen h) (λ e a. unspent h e a.0 a.1) _
      (keeps_test (λ e. e.grants ≡ grants_since e.slot h) is_spent _ (keeps_all (λ e. e.grants ≡ grants_since e.slot h) (λ e. not (is_expired s.desk.clock e)) (entries_of (opened c s)) count))

few_found : (w : ℕ) (next : ℕ → ℕ) (from number : ℕ) (c : List ℕ) (id : Id) (x : Option Entry) (d : Desk) (h : List Event) → ((e : Entry) → x ≡ Some e → IsOpen h e) → AreFewGrants h
    → AreFewGrants (onto (weave w next (looked_event from number c id x d ∷ found_events from x d) (found_line from number x d ∷ [])) h)
few_found w next from number c id None d h may f = f
few_found w next from number c id (Some e) d h may f = few_granted d.me d.grants e.slot from (looked_event from number c id (Some e) d ∷ h) (may e refl) f

few_look : (w : ℕ) (next : ℕ → ℕ) (from number : ℕ) (c : List ℕ) (id : Id) (row : List (Slot Message)) (h : List Event) (s : OwnerAt) → AllByRecursion (λ e. e.grants ≡ grants_since e.slot h) (entries_of (opened c s)) → AreFewGrants h
    → AreFewGrants (onto (weave w next (look_events from number c id row s) (look_alerts from number c id row s)) h)
few_look w next from number c id row h s count f =
    let spends = spend_events c (touched (bench_of c row s)) in
    let front = touch_events_of c row s ++ spends in
    let ready = look_ready c row s in
    let quiet = all_append IsGrantless (touch_events_of c row s) spends (no_touch c row s) (no_lefts s.desk.me c Spent (leavers is_spent (touched (bench_of c row s)))) in
    few_behind w next front _ (look_alerts from number c id row s) h quiet
    (few_found w next from number c id (found_on id ready) ready.desk (onto front h)
    (λ e is. subst (λ (n : ℕ). n < most_grants) (sym (grantless_onto e.slot front h quiet)) (found_has (IsOpen h) (λ x. is_past x.id id) (entries_of ready.channel) e (ready_open c row h s count) is))
    (few_same front h quiet f))

-- ---- a publish

few_grants : (w slot : ℕ) (next : ℕ → ℕ) (g : ℕ) (marks : List ℕ) (alerts : List OutLine) (h : List Event) (s : ℕ) → cond (slot == s) (grants_since s h + length marks) (grants_since s h) ≤ most_grants
    → grants_since s (onto (weave w next (granted_events w slot g marks) alerts) h) ≤ most_grants
few_grants w slot next g [] alerts h s le =
    subst (λ (n : ℕ). n ≤ most_grants) (sym (grantless_onto s (makes w next alerts) h (woven_all IsGrantless w next (λ to n l. tt) [] alerts tt))) (by (slot == s) le)
  where
    by : (b : Bool) → cond b (grants_since s h + 0) (grants_since s h) ≤ most_grants → grants_since s h ≤ most_grants
    by true le = omega (arith, le)
    by false le = le
few_grants w slot next g (to ∷ marks) [] h s le = few_grants w slot next (g + 1) marks [] (Granted w g slot to ∷ h) s (by (slot == s) le)
  where
    by : (b : Bool) → cond b (grants_since s h + length (to ∷ marks)) (grants_since s h) ≤ most_grants → cond b (cond b (grants_since s h + 1) (grants_since s h) + length marks) (cond b (grants_since s h + 1) (grants_since s h)) ≤ most_grants
    by true le = omega (arith, le)
    by false le = le
few_grants w slot next g (to ∷ marks) (a ∷ alerts) h s le = few_grants w slot (numbered next a.to) (g + 1) marks alerts (Made w a.to (next a.to) a.line ∷ Granted w g slot to ∷ h) s (by (slot == s) le)
  where
    by : (b : Bool) → cond b (grants_since s h + length (to ∷ marks)) (grants_since s h) ≤ most_grants → cond b (cond b (grants_since s h + 1) (grants_since s h) + length marks) (cond b (grants_since s h + 1) (grants_since s h)) ≤ most_grants
    by true le = omega (arith, le)
    by false le = le

few_stored : (w : ℕ) (next : ℕ → ℕ) (from : ℕ) (o : Order) (id : Id) (slot members g : ℕ) (d : Desk) (marks : List ℕ) (alerts : List OutLine) (h : List Event) → length marks ≤ 16 → AreFewGrants h
    → AreFewGrants (onto (weave w next (stored_event from o id slot members d ∷ granted_events w slot g marks) alerts) h)
few_stored w next from o id slot members g d marks alerts h le f s =
    few_grants w slot next g marks alerts (stored_event from o id slot members d ∷ h) s (by (slot == s))
  where
    by : (b : Bool) → cond b (cond b 0 (grants_since s h) + length marks) (cond b 0 (grants_since s h)) ≤ most_grants
    by true = omega (arith, le)
    by false = f s

few_post : (next : ℕ → ℕ) (from : ℕ) (o : Order) (polls : Polls) (x : Outcome) (b : Bench) (alerts : List OutLine) (h : List Event) → length b.channel.marks ≤ 16 → AreFewGrants h → AreFewGrants (onto (weave b.desk.me next (post_events x from o polls b) alerts) h)
few_post next from o polls late b alerts h le f = few_woven b.desk.me next [] alerts h tt f
few_post next from o polls (full usage) b alerts h le f = few_woven b.desk.me next [] alerts h tt f
few_post next from o polls stored b alerts h le f =
    let a = asked polls.leaving b in
    let r = roomy o.length polls.left a in
    let front = roomy_events o.length polls.left o.chan a in
    let quiet = all_append IsGrantless (map (left_event b.desk.me o.chan Length) (leaving o.length a)) (freed_events b.desk.me polls.left) (no_lefts b.desk.me o.chan Length (leaving o.length a)) (no_freed b.desk.me (free_slots polls.left)) in
    few_behind b.desk.me next front (stored_events from o (lowest_slot r.row) r) alerts h quiet
    (few_stored b.desk.me next from o (stamp r) (lowest_slot r.row) (length r.channel.members) r.desk.grants r.desk r.channel.marks alerts (onto front h) le (few_same front h quiet f))

few_publish : (next : ℕ → ℕ) (from : ℕ) (o : Order) (polls : Polls) (row : List (Slot Message)) (h : List Event) (s : OwnerAt) → length (opened o.chan s).marks ≤ 16 → AreFewGrants h
    → AreFewGrants (onto (weave s.desk.me next (publish_events from o polls row s) (publish_alerts from o polls row s)) h)
few_publish next from o polls row h s le f =
    let front = cleared_events polls.retired o.chan (bench_of o.chan row s) in
    let quiet = all_append IsGrantless (touch_events_of o.chan row s) (freed_events s.desk.me polls.retired) (no_touch o.chan row s) (no_freed s.desk.me (free_slots polls.retired)) in
    few_behind s.desk.me next front (post_events (publish_outcome o polls row s) from o polls (publish_cleared o polls row s)) (publish_alerts from o polls row s) h quiet
    (few_post next from o polls (publish_outcome o polls row s) (publish_cleared o polls row s) (publish_alerts from o polls row s) (onto front h) le (few_same front h quiet f))

-- ---- marks

-- ascending numbers below another are no more than that
few_below : (lo hi : ℕ) (xs : List ℕ) → lo ≤ hi → AllByRecursion (λ x. lo ≤ x) xs → AllByRecursion (λ x. x < hi) xs → IsAscending xs → length xs + lo ≤ hi
few_below lo hi [] le low high up = omega (arith, le)
few_below lo hi (x ∷ xs) le low high up =
    let above = low.0 in
    let below = high.0 in
    let rest = few_below (x + 1) hi xs (omega (arith, below)) (next_low xs up.0) high.1 up.1 in
    omega (arith, rest, above)
  where
    next_low : (ys : List ℕ) → AllByRecursion (λ y. x < y) ys → AllByRecursion (λ y. x + 1 ≤ y) ys
    next_low [] a = tt
    next_low (y ∷ ys) a = (let lt = a.0 in omega (arith, lt), next_low ys a.1)

all_low : (xs : List ℕ) → AllByRecursion (λ x. 0 ≤ x) xs
all_low [] = tt
all_low (x ∷ xs) = (omega arith, all_low xs)

has_below : (hi : ℕ) (xs : List ℕ) → ((u : ℕ) → has_number u xs ≡ true → u < hi) → AllByRecursion (λ x. x < hi) xs
has_below hi [] f = tt
has_below hi (x ∷ xs) f = (f x (here x), has_below hi xs (λ u is. f u (more u is)))
  where
    here : (u : ℕ) → has_number u (u ∷ xs) ≡ true
    here u = ap (λ (b : Bool). b || has_number u xs) (let z : (u == u) ≡ true = grind (arith, nat_tests) in z)

    more : (u : ℕ) → has_number u xs ≡ true → has_number u (x ∷ xs) ≡ true
    more u is = by (u == x)
      where
        by : (b : Bool) → (b || has_number u xs) ≡ true
        by true = refl
        by false = is

-- who is marked looked, and is there
marked_below : (workers : ℕ) (c : List ℕ) (u : ℕ) (h : List Event) → AllByRecursion (IsAsked workers) h → is_marked c u h ≡ true → u < workers
marked_below workers c u [] a is = absurd cc
marked_below workers c u (Looked w q from number d after floor None ∷ h) a is = by (bytes_eq d c) (u == from) refl is (marked_below workers c u h a.1)
  where
    by : (n b : Bool) → (u == from) ≡ b → ((n && b) || is_marked c u h) ≡ true → (is_marked c u h ≡ true → u < workers) → u < workers
    by true true e i rest = let same : u ≡ from = grind (arith, nat_tests) in subst (λ (x : ℕ). x < workers) (sym same) a.0.1
    by true false e i rest = rest i
    by false b e i rest = rest i
marked_below workers c u (Stored w d id slot len exp kept members from r ct body ∷ h) a is = marked_below workers c u h a.1 (by (bytes_eq d c) is)
  where
    by : (n : Bool) → (not n && is_marked c u h) ≡ true → is_marked c u h ≡ true
    by true i = absurd cc
    by false i = i
marked_below workers c u (Removed w d last cause ∷ h) a is = marked_below workers c u h a.1 (by (bytes_eq d c) is)
  where
    by : (n : Bool) → (not n && is_marked c u h) ≡ true → is_marked c u h ≡ true
    by true i = absurd cc
    by false i = i
marked_below workers c u (e ∷ h) a is = marked_below workers c u h a.1 is

opened_marks : (o : Option Channel) (d : Desk) → (unwrap_or o (new_channel d)).marks ≡ marks_in o
opened_marks None d = refl
opened_marks (Some ch) d = refl

-- so each mark is of a worker that is there
pub marks_there : (setup : Setup) (me : ℕ) (row : List (Slot Message)) (h : List Event) (s : OwnerAt) → Stands me setup.workers setup.slots setup.first row h s → AllByRecursion (IsAsked setup.workers) h → (c : List ℕ) → AllByRecursion (λ u. u < setup.workers) (opened c s).marks
marks_there setup me row h s k a c =
    let marks = marks_in (found c s) in
    let shown = ((stands_shows me setup.workers setup.slots setup.first row h s k).channels c).marks in
    subst (λ (xs : List ℕ). AllByRecursion (λ u. u < setup.workers) xs) (sym (opened_marks (found c s) s.desk)) (has_below setup.workers marks (λ u i. marked_below setup.workers c u h a (sym (shown u) ∙ i)))

marks_few : (setup : Setup) (is : IsSetup setup) (me : ℕ) (row : List (Slot Message)) (h : List Event) (s : OwnerAt) → Stands me setup.workers setup.slots setup.first row h s → AllByRecursion (IsAsked setup.workers) h → (c : List ℕ) → length (opened c s).marks ≤ 16
marks_few setup is me row h s k a c =
    let marks = (opened c s).marks in
    let up = subst IsAscending (sym (opened_marks (found c s) s.desk)) ((stands_ascends me setup.workers setup.slots setup.first row h s k).marks c) in
    let few = few_below 0 setup.workers marks (omega arith) (all_low marks) (marks_there setup me row h s k a c) up in
    let sixteen = is.2 in
    omega (arith, few, sixteen)

-- ---- the theme

pub record GrantsKept (setup : Setup) (row : List (Slot Message)) (h : List Event) : Type 0 where
  pub counted : SlotsCount row h
  pub asked : AllByRecursion (IsAsked setup.workers) h
  pub few : AreFewGrants h

abbrev pub GrantsFact : Setup → OwnerFact
GrantsFact setup row h s = GrantsKept setup row h

pub grants_theme : (setup : Setup) (is : IsSetup setup) (me : ℕ) → IsOwnerTheme setup me (GrantsFact setup)
grants_theme setup ok me = record {
  new = record { counted = (counts_theme setup me).new; asked = tt; few = λ slot. omega arith };
  step = λ next row counts h s base fact.
      let is = is_me me setup.workers setup.slots setup.first row h s base.keeps.stands in
      let k = (counts_theme setup me).step next row counts h s base fact.counted in
      let a = (asked_theme setup me).step next row counts h s base fact.asked in
      record {
        aside = λ e p by. record { counted = k.aside e p by; asked = a.aside e p by; few = λ slot. subst (λ (n : ℕ). n ≤ most_grants) (sym (aside_grants slot h e p)) (fact.few slot) };
        clock = λ now. record { counted = k.clock now; asked = a.clock now; few = fact.few };
        raise = λ fence lt. record { counted = k.raise fence lt; asked = a.raise fence lt; few = fact.few };
        edge = λ from number n c owns there swept. record { counted = k.edge from number n c owns there swept; asked = a.edge from number n c owns there swept; few = fact.few };
        join = λ m c owns there. record { counted = k.join m c owns there; asked = a.join m c owns there; few = few_woven me next (join_events m c row s) [] h (all_append IsGrantless (touch_events_of c row s) _ (no_touch c row s) (tt, tt)) fact.few };
        part = λ m c owns there. record { counted = k.part m c owns there; asked = a.part m c owns there; few = few_woven me next (part_events m c row s) [] h (all_append IsGrantless (touch_events_of c row s) _ (no_touch c row s) (no_parted (has_member m (opened c s).members) s.desk.me c m)) fact.few };
        info = λ from r c owns there. record { counted = k.info from r c owns there; asked = a.info from r c owns there; few = few_woven me next (touch_events_of c row s) (info_alerts from r c row s) h (no_touch c row s) fact.few };
        touch = λ c owns. record { counted = k.touch c owns; asked = a.touch c owns; few = few_woven me next (touch_events_of c row s) [] h (no_touch c row s) fact.few };
        remove = λ c cause owns may. record { counted = k.remove c cause owns may; asked = a.remove c cause owns may; few = few_woven me next (removal_events c cause s) (removal_alerts c s) h (no_removal c cause s) fact.few };
        look = λ from number c id owns there. record { counted = k.look from number c id owns there; asked = a.look from number c id owns there; few = few_look me next from number c id row h s (entries_count row h s base.keeps.stands.fits fact.counted c) fact.few };
        polled = λ answers each. record { counted = k.polled answers each; asked = a.polled answers each; few = few_woven me next (polled_events answers s) [] h (no_freed s.desk.me (free_slots answers)) fact.few };
        publish = λ from o polls owns there fit. record {
          counted = k.publish from o polls owns there fit;
          asked = a.publish from o polls owns there fit;
          few = as_me AreFewGrants me next h s is (publish_events from o polls row s) (publish_alerts from o polls row s) (few_publish next from o polls row h s (marks_few setup ok me row h s base.keeps.stands fact.asked o.chan) fact.few);
        };
      };
}
