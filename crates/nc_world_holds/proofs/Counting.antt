-- The numbers of holds that the slots have are those that the history tells, over each move.
use Rattle.std.proofs.Common.{◌≡◌, ℕ, zero, suc, ◌+◌, ◌-◌, ◌<◌, ◌≤◌, Bool, true, false, cond, List, [], ◌∷◌, ◌++◌, Option, Some, None, refl, sym, ap, ◌∙◌, subst, arith, map}
use Rattle.std.specs.Prelude.{◌==◌, ◌&&◌, fold, length, nat_lt, replicate, slice_index, slice_set}
use Rattle.std.specs.List.{AllByRecursion}
use Rattle.std.proofs.lemmas.Bool.Decides.{nat_tests}
use Rattle.nc_journal.specs.History.{own, onto}
use Rattle.nc_journal.specs.Holding.{times_so, grants_slot, releases_slot}
use Rattle.nc_journal.specs.declared.event.Event.{Event}
use Rattle.nc_journal.specs.declared.event.Event.TheVariants.{Joined, Parted, Granted, Released}
use Rattle.nc_journal.specs.declared.word.LeftCause.{LeftCause}
use Rattle.nc_journal.specs.declared.word.LeftCause.TheVariants.{Expired, Spent, Length}
use Rattle.nc_journal.specs.declared.alert.AlertLine.{AlertLine}
use Rattle.nc_journal.specs.declared.alert.AlertLine.TheVariants as lines
use Rattle.nc_types.specs.Id.{Id}
use Rattle.nc_buffer.specs.Buffer.{is_expired, is_spent}
use Rattle.nc_buffer.specs.declared.entry.Entry.{Entry}
use Rattle.nc_owner.specs.declared.desk.Desk.{Desk as OwnerDesk}
use Rattle.nc_owner.specs.declared.order.Order.{Order}
use Rattle.nc_owner.specs.declared.member.Member.{Member}
use Rattle.nc_owner.specs.AlertLines.{OutLine}
use Rattle.nc_owner.specs.State.{Bench, bench_of, opened}
use Rattle.nc_owner.specs.Leave.{left_event, leavers, touched, spend_events}
use Rattle.nc_owner.specs.Members.{has_member}
use Rattle.nc_owner.specs.Poll.{freed_event, free_slots}
use Rattle.nc_owner.specs.Publish.{Polls, Outcome, late, full, stored, granted_events, one_hold, asked, roomy, roomy_events, stored_events, leaving, lowest_slot, post_events, post_holds, publish_outcome, publish_cleared, cleared_events}
use Rattle.nc_owner.specs.Look.{found_on, looked_event, found_events, found_holds, look_ready}
use Rattle.nc_owner.specs.Fence.{raise_events}
use Rattle.nc_owner.specs.Edge.{edged_event}
use Rattle.nc_owner.specs.OtherSteps.{touch_events_of, touch_after, parted_events}
use Rattle.nc_owner.specs.Remove.{delete_events}
use Rattle.nc_owner_laws.specs.HoldsKept.{one_less}
use Rattle.nc_owner_laws.specs.Kinds.{IsOfOwner}
use Rattle.nc_owner_laws.specs.Reaping.{steps_woven, next_behind}
use Rattle.nc_owner_laws.specs.Sweeping.{IsOfRemovals, IsLoss, SweepsAre}
use Rattle.nc_owner_laws.specs.Weave.{weave, makes, numbered}
use Rattle.nc_owner_laws.proofs.Fences.{raised_so}
use Rattle.nc_reaper.specs.Reap.{Step}
use Rattle.nc_history.specs.Packets.{Packet}
use Rattle.nc_worker_state.specs.Setup.{Setup}
use Rattle.nc_worker_state.specs.Incoming.{Incoming, TakesPacket, ClockReads, Reaps, Posts, Subscribes, Removes, Informs}
use Rattle.nc_worker_state.specs.Deed.{Deed, Does, Makes, told, next_after}
use Rattle.nc_worker_state.specs.Owned.{Holding, Owned, StepPolls, order_of, looked_by, edged_by, fenced, behind_fence, owned_in, owned_by, step_polls}
use Rattle.nc_worker_state.specs.Desk.{Desk, opening}
use Rattle.nc_worker_state.specs.Worker.{with_at, given_back, holding}
use Rattle.nc_world.specs.World.{World, seat, handled_events, handled, pending_in, new_world}
use Rattle.nc_world.specs.Moves.{Move, Handles, Carries, Takes, Counts, Rests, counted, rested, ring_size, carried_one, carried, with_ring, taken_events, taken, move_events, moved}
use Rattle.nc_world.specs.Reached.{IsSetup, Reached, Begins, Moves}
use Rattle.nc_world_laws.specs.Good.{Good}
use Rattle.nc_world_laws.proofs.WorkerKinds.{AreDeeds}
use Rattle.nc_world_laws.proofs.Local.{eq_of, either, all_of}
use Rattle.nc_world_laws.proofs.Moving.{reached_is_good}
use Rattle.nc_world_laws.proofs.Owning.{of_owned}
use Rattle.nc_world_laws.proofs.Parts.{owns, serves, before, part, behind}
use Rattle.nc_world_laws.proofs.Serving.{served_well}
use Rattle.nc_world_laws.proofs.Stepping.{is_me}
use Rattle.nc_world_laws.proofs.Telling.{steps_made}
use Rattle.nc_world_holds.specs.Balance.{one_if, IsBalanced}
use Rattle.nc_world_holds.specs.Counts.{ReachedCounts}
use Rattle.nc_world_holds.proofs.Holding.{move_holds, reached_holds}
use Rattle.nc_world_holds.proofs.Summing.{released_within}
use Rattle.nc_world_holds.proofs.Removals.{sweeps_are, IsUngranted, removal_ungranted, deletion_ungranted}

-- ---- how many of some events are so

abbrev pub count : (Event → Bool) → List Event → ℕ
count test [] = 0
count test (e ∷ es) = cond (test e) (count test es + 1) (count test es)

pub count_append : (test : Event → Bool) (es fs : List Event) → count test (es ++ fs) ≡ count test es + count test fs
count_append test [] fs = omega arith
count_append test (e ∷ es) fs = by (test e) (count_append test es fs)
  where
    by : (b : Bool) → count test (es ++ fs) ≡ count test es + count test fs → cond b (count test (es ++ fs) + 1) (count test (es ++ fs)) ≡ cond b (count test es + 1) (count test es) + count test fs
    by true e = omega (arith, e)
    by false e = e

pub times_onto : (test : Event → Bool) (es h : List Event) → times_so test (onto es h) ≡ times_so test h + count test es
times_onto test [] h = omega arith
times_onto test (e ∷ es) h = by (test e) refl (times_onto test es (e ∷ h))
  where
    by : (b : Bool) → test e ≡ b → times_so test (onto es (e ∷ h)) ≡ cond (test e) (times_so test h + 1) (times_so test h) + count test es → times_so test (onto es (e ∷ h)) ≡ times_so test h + cond b (count test es + 1) (count test es)
    by true is e = omega (arith, e, ap (λ b. cond b (times_so test h + 1) (times_so test h)) is)
    by false is e = omega (arith, e, ap (λ b. cond b (times_so test h + 1) (times_so test h)) is)

-- ---- one number of some

same_length : (xs : List ℕ) (p v : ℕ) → length (slice_set xs p v) ≡ length xs
same_length [] p v = refl
same_length (x ∷ xs) zero v = refl
same_length (x ∷ xs) (suc p) v = ap suc (same_length xs p v)

suc_test : (a b : ℕ) → (suc a == suc b) ≡ (a == b)
suc_test a b = grind (arith, nat_tests)

zero_suc : (b : ℕ) → (0 == suc b) ≡ false
zero_suc b = grind (arith, nat_tests)

suc_zero : (a : ℕ) → (suc a == 0) ≡ false
suc_zero a = grind (arith, nat_tests)

more_at : (xs : List ℕ) (p k : ℕ) → k < length xs → slice_index (slice_set xs p (slice_index xs p + 1)) k ≡ slice_index xs k + one_if (p == k)
more_at [] p k lt = absurd (omega (arith, lt))
more_at (x ∷ xs) zero zero lt = refl
more_at (x ∷ xs) zero (suc k) lt = omega (arith, ap one_if (zero_suc k))
more_at (x ∷ xs) (suc p) zero lt = omega (arith, ap one_if (suc_zero p))
more_at (x ∷ xs) (suc p) (suc k) lt = more_at xs p k (omega (arith, lt)) ∙ ap (λ b. slice_index xs k + one_if b) (sym (suc_test p k))

less_at : (xs : List ℕ) (p k : ℕ) → slice_index (slice_set xs p (slice_index xs p - 1)) k ≡ slice_index xs k - one_if (p == k)
less_at [] p k = omega arith
less_at (x ∷ xs) zero zero = refl
less_at (x ∷ xs) zero (suc k) = omega (arith, ap one_if (zero_suc k))
less_at (x ∷ xs) (suc p) zero = omega (arith, ap one_if (suc_zero p))
less_at (x ∷ xs) (suc p) (suc k) = less_at xs p k ∙ ap (λ b. slice_index xs k - one_if b) (sym (suc_test p k))

-- ---- an owner's step

module _ (me k : ℕ) where
  abbrev Grants : List Event → ℕ
  Grants es = count (grants_slot me k) es

  none_left : (v : ℕ) (c : List ℕ) (cause : LeftCause) (es : List Entry) → Grants (map (left_event v c cause) es) ≡ 0
  none_left v c cause [] = refl
  none_left v c cause (e ∷ es) = none_left v c cause es

  none_freed : (v : ℕ) (ks : List ℕ) → Grants (map (freed_event v) ks) ≡ 0
  none_freed v [] = refl
  none_freed v (x ∷ ks) = none_freed v ks

  none_parted : (b : Bool) (v : ℕ) (c : List ℕ) (m : Member) → Grants (cond b (Parted v c m.from m.k ∷ []) []) ≡ 0
  none_parted true v c m = refl
  none_parted false v c m = refl

  none_granted : (es : List Event) → AllByRecursion IsUngranted es → Grants es ≡ 0
  none_granted [] un = refl
  none_granted (Granted v g slot to ∷ es) un = absurd un.0
  none_granted (e ∷ es) un = none_granted es un.1

  none_touched : (c : List ℕ) (s : Holding) → Grants (touch_events_of c s.row s.owner) ≡ 0
  none_touched c s = none_left s.owner.desk.me c Expired (leavers (is_expired s.owner.desk.clock) (bench_of c s.row s.owner))

  behind_none : (front es : List Event) (n : ℕ) → Grants front ≡ 0 → Grants es ≡ n → Grants (front ++ es) ≡ n
  behind_none front es n a b = omega (arith, a, b, count_append (grants_slot me k) front es)

  -- the numbers after some events, of which each grant of slot k adds one
  pub record Adds (counts after : List ℕ) (es : List Event) : Type 0 where
    pub long : length after ≡ length counts
    pub each : k < length counts → slice_index after k ≡ slice_index counts k + Grants es

  adds_none : (counts : List ℕ) (es : List Event) → Grants es ≡ 0 → Adds counts counts es
  adds_none counts es none = record { long = refl; each = λ lt. omega (arith, none) }

  adds_same : (counts after : List ℕ) (es fs : List Event) → Grants fs ≡ Grants es → Adds counts after es → Adds counts after fs
  adds_same counts after es fs same a = record { long = a.long; each = λ lt. omega (arith, a.each lt, same) }

  self : (n : ℕ) → (n == n) ≡ true
  self n = grind (arith, nat_tests)

  one_granted : (b c : Bool) (n : ℕ) → b ≡ true → cond (b && c) (n + 1) n ≡ n + one_if c
  one_granted true true n e = refl
  one_granted true false n e = omega arith
  one_granted false c n e = absurd cc

  adds_marks : (v slot g : ℕ) (marks counts : List ℕ) → v ≡ me → Adds counts (fold (one_hold slot) counts marks) (granted_events v slot g marks)
  adds_marks v slot g [] counts is = record { long = refl; each = λ lt. omega arith }
  adds_marks v slot g (to ∷ marks) counts is =
      let a = adds_marks v slot (g + 1) marks (one_hold slot counts to) is in
      let long = same_length counts slot (slice_index counts slot + 1) in
      let mine : (v == me) ≡ true = ap (λ n. n == me) is ∙ self me in
      record {
        long = a.long ∙ long;
        each = λ lt. omega (arith, a.each (omega (arith, lt, long)), more_at counts slot k lt, one_granted (v == me) (slot == k) (Grants (granted_events v slot (g + 1) marks)) mine);
      }

  post_adds : (out : Outcome) (from : ℕ) (o : Order) (polls : Polls) (b : Bench) (counts : List ℕ) → b.desk.me ≡ me → Adds counts (post_holds out o polls b counts) (post_events out from o polls b)
  post_adds late from o polls b counts is = adds_none counts [] refl
  post_adds (full usage) from o polls b counts is = adds_none counts [] refl
  post_adds stored from o polls b counts is =
      let c = asked polls.leaving b in
      let r = roomy o.length polls.left c in
      let granted : List Event = granted_events b.desk.me (lowest_slot r.row) c.desk.grants c.channel.marks in
      let made : List Event = stored_events from o (lowest_slot r.row) r in
      adds_same counts _ granted (roomy_events o.length polls.left o.chan c ++ made)
      (behind_none (roomy_events o.length polls.left o.chan c) made (Grants granted)
      (behind_none (map (left_event b.desk.me o.chan Length) (leaving o.length c)) (map (freed_event b.desk.me) (free_slots polls.left)) 0 (none_left b.desk.me o.chan Length (leaving o.length c)) (none_freed b.desk.me (free_slots polls.left))) refl)
      (adds_marks b.desk.me (lowest_slot r.row) c.desk.grants c.channel.marks counts is)

  publish_adds : (from : ℕ) (o : Order) (polls : Polls) (s : Holding) → s.owner.desk.me ≡ me
      → Adds s.counts (post_holds (publish_outcome o polls s.row s.owner) o polls (publish_cleared o polls s.row s.owner) s.counts) (cleared_events polls.retired o.chan (bench_of o.chan s.row s.owner) ++ post_events (publish_outcome o polls s.row s.owner) from o polls (publish_cleared o polls s.row s.owner))
  publish_adds from o polls s is =
      let behind = post_events (publish_outcome o polls s.row s.owner) from o polls (publish_cleared o polls s.row s.owner) in
      adds_same s.counts _ behind (cleared_events polls.retired o.chan (bench_of o.chan s.row s.owner) ++ behind)
      (behind_none (cleared_events polls.retired o.chan (bench_of o.chan s.row s.owner)) behind (Grants behind)
      (behind_none (touch_events_of o.chan s.row s.owner) (map (freed_event s.owner.desk.me) (free_slots polls.retired)) 0 (none_touched o.chan s) (none_freed s.owner.desk.me (free_slots polls.retired))) refl)
      (post_adds (publish_outcome o polls s.row s.owner) from o polls (publish_cleared o polls s.row s.owner) s.counts is)

  found_adds : (from number : ℕ) (c : List ℕ) (id : Id) (entry : Option Entry) (d : OwnerDesk) (counts : List ℕ) → d.me ≡ me → Adds counts (found_holds from entry counts) (looked_event from number c id entry d ∷ found_events from entry d)
  found_adds from number c id None d counts is = adds_none counts _ refl
  found_adds from number c id (Some e) d counts is =
      let mine : (d.me == me) ≡ true = ap (λ n. n == me) is ∙ self me in
      record { long = same_length counts e.slot (slice_index counts e.slot + 1); each = λ lt. omega (arith, more_at counts e.slot k lt, one_granted (d.me == me) (e.slot == k) 0 mine) }

  look_adds : (from number : ℕ) (c : List ℕ) (after : Id) (s : Holding) → s.owner.desk.me ≡ me → Adds s.counts (looked_by from number c after s).after.counts (looked_by from number c after s).events
  look_adds from number c after s is =
      let ready = look_ready c s.row s.owner in
      let told : List Event = looked_event from number c after (found_on after ready) ready.desk ∷ found_events from (found_on after ready) ready.desk in
      adds_same s.counts _ told (touch_events_of c s.row s.owner ++ spend_events c (touched (bench_of c s.row s.owner)) ++ told)
      (behind_none (touch_events_of c s.row s.owner ++ spend_events c (touched (bench_of c s.row s.owner))) told (Grants told)
      (behind_none (touch_events_of c s.row s.owner) (spend_events c (touched (bench_of c s.row s.owner))) 0 (none_touched c s) (none_left s.owner.desk.me c Spent (leavers is_spent (touched (bench_of c s.row s.owner))))) refl)
      (found_adds from number c after (found_on after ready) ready.desk s.counts is)

  edge_adds : (from number n : ℕ) (c : List ℕ) (s : Holding) → Adds s.counts s.counts (edged_by from number n c s).events
  edge_adds from number n c s = adds_none s.counts _ (behind_none (touch_events_of c s.row s.owner) (edged_event from number n c (touch_after c s.row s.owner) ∷ []) 0 (none_touched c s) refl)

  -- a fence grants nothing
  none_raised : (fence : ℕ) (s : Holding) → Grants (raise_events fence s.owner) ≡ 0
  none_raised fence s = raised_so (λ es x. Grants es ≡ 0) fence s.owner refl (λ lt. refl)

  fenced_adds : (fence : ℕ) (s : Holding) (o : Owned) → Adds s.counts o.after.counts o.events → Adds s.counts (behind_fence fence s o).after.counts (behind_fence fence s o).events
  fenced_adds fence s o a = adds_same s.counts o.after.counts o.events (behind_fence fence s o).events (behind_none (raise_events fence s.owner) o.events (Grants o.events) (none_raised fence s) refl) a

  asked_adds : (polls : Polls) (from : ℕ) (line : AlertLine) (s : Holding) → s.owner.desk.me ≡ me → Adds s.counts (owned_by polls from line s).after.counts (owned_by polls from line s).events
  asked_adds polls from (lines.Publish r c len timeout ct body) s is = publish_adds from (order_of r c len timeout ct body) polls s is
  asked_adds polls from (lines.Look number c after fence) s is = fenced_adds fence s (looked_by from number c after (fenced fence s)) (look_adds from number c after (fenced fence s) is)
  asked_adds polls from (lines.Edge number n c fence) s is = fenced_adds fence s (edged_by from number n c (fenced fence s)) (edge_adds from number n c (fenced fence s))
  asked_adds polls from (lines.Join c n) s is = adds_none s.counts _ (behind_none (touch_events_of c s.row s.owner) (Joined s.owner.desk.me c from n ∷ []) 0 (none_touched c s) refl)
  asked_adds polls from (lines.Part c n) s is =
      let m : Member = record { from = from; k = n } in
      adds_none s.counts _ (behind_none (touch_events_of c s.row s.owner) (parted_events s.owner.desk.me m c (opened c s.owner)) 0 (none_touched c s) (none_parted (has_member m (opened c s.owner).members) s.owner.desk.me c m))
  asked_adds polls from (lines.Info r c) s is = adds_none s.counts _ (none_touched c s)
  asked_adds polls from (lines.PubAnswer r status info usage) s is = adds_none s.counts [] refl
  asked_adds polls from (lines.LookAnswer number q floor found g slot) s is = adds_none s.counts [] refl
  asked_adds polls from (lines.Notice c id g slot) s is = adds_none s.counts [] refl
  asked_adds polls from (lines.EdgeAnswer number q floor last) s is = adds_none s.counts [] refl
  asked_adds polls from (lines.Delete r c) s is = adds_none s.counts (delete_events c s.row s.owner) (none_granted (delete_events c s.row s.owner) (deletion_ungranted c s.row s.owner))
  asked_adds polls from (lines.DelAnswer r status info) s is = adds_none s.counts [] refl
  asked_adds polls from (lines.Gone c subs) s is = adds_none s.counts [] refl
  asked_adds polls from (lines.InfoAnswer r status info) s is = adds_none s.counts [] refl

  pub last_adds : (polls : StepPolls) (incoming : Incoming) (s : Holding) → s.owner.desk.me ≡ me → Adds s.counts (owned_in polls incoming s).last.after.counts (owned_in polls incoming s).last.events
  last_adds polls (TakesPacket from p) s is = asked_adds polls.publish from p.line s is
  last_adds polls (ClockReads t) s is = adds_none s.counts [] refl
  last_adds polls Reaps s is = adds_none s.counts _ (none_freed s.owner.desk.me (free_slots polls.reap))
  last_adds polls (Posts c body) s is = adds_none s.counts [] refl
  last_adds polls (Subscribes n list start) s is = adds_none s.counts [] refl
  last_adds polls (Removes c) s is = adds_none s.counts [] refl
  last_adds polls (Informs c) s is = adds_none s.counts [] refl

  -- ---- the other parts of a step

  makes_grant : (w : ℕ) (next : ℕ → ℕ) (alerts : List OutLine) → Grants (makes w next alerts) ≡ 0
  makes_grant w next [] = refl
  makes_grant w next (a ∷ alerts) = makes_grant w (numbered next a.to) alerts

  weave_grants : (w : ℕ) (next : ℕ → ℕ) (es : List Event) (alerts : List OutLine) → Grants (weave w next es alerts) ≡ Grants es
  weave_grants w next [] alerts = makes_grant w next alerts
  weave_grants w next (Granted v g slot to ∷ es) [] = ap (λ n. cond ((v == me) && (slot == k)) (n + 1) n) (weave_grants w next es [])
  weave_grants w next (Granted v g slot to ∷ es) (a ∷ alerts) = ap (λ n. cond ((v == me) && (slot == k)) (n + 1) n) (weave_grants w (numbered next a.to) es alerts)
  weave_grants w next (e ∷ es) alerts = ap (λ n. cond (grants_slot me k e) (n + 1) n) (weave_grants w next es alerts)

  -- sweeps grant nothing
  sweeps_grant : (workers w : ℕ) (next : ℕ → ℕ) (steps : List Step) → SweepsAre workers w steps → Grants (steps_woven w next steps) ≡ 0
  sweeps_grant workers w next steps are = none_granted (steps_woven w next steps)
      (steps_made IsUngranted (λ a. IsLoss workers w a.line) w (λ n a q. tt) next steps
      (all_of (λ x. AllByRecursion (IsOfRemovals workers w) x.events) (λ x. AllByRecursion IsUngranted x.events) (λ x a. all_of (IsOfRemovals workers w) IsUngranted (removal_ungranted workers w) x.events a) steps are.events) are.alerts)

  told_grants : (workers w : ℕ) (next : ℕ → ℕ) (deeds : List Deed) → AreDeeds workers w deeds → Grants (told w next deeds) ≡ 0
  told_grants workers w next [] d = refl
  told_grants workers w next (Does (Granted v g slot to) ∷ deeds) d = absurd d.0
  told_grants workers w next (Does e ∷ deeds) d = told_grants workers w next deeds d.1
  told_grants workers w next (Makes to a ∷ deeds) d = told_grants workers w (numbered next to) deeds d.1

  opening_grants : (setup : Setup) (w : ℕ) (incoming : Incoming) (d : Desk) → Grants (opening setup w incoming d) ≡ 0
  opening_grants setup w (TakesPacket from p) d = refl
  opening_grants setup w (ClockReads t) d = refl
  opening_grants setup w Reaps d = refl
  opening_grants setup w (Posts c body) d = refl
  opening_grants setup w (Subscribes n list start) d = refl
  opening_grants setup w (Removes c) d = refl
  opening_grants setup w (Informs c) d = refl

  -- what another owner does grants none of its slots
  others_grant : (w : ℕ) (es : List Event) → (w == me) ≡ false → AllByRecursion (IsOfOwner w) es → Grants es ≡ 0
  others_grant w [] d of = refl
  others_grant w (Granted v g slot to ∷ es) d of =
      ap (λ b. cond (b && (slot == k)) (Grants es + 1) (Grants es)) (ap (λ n. n == me) of.0 ∙ d) ∙ others_grant w es d of.1
  others_grant w (e ∷ es) d of = by (grants_slot me k e) (none_here e of.0) (others_grant w es d of.1)
    where
      none_here : (x : Event) → IsOfOwner w x → grants_slot me k x ≡ false
      none_here (Granted v g slot to) is = ap (λ b. b && (slot == k)) (ap (λ n. n == me) is ∙ d)
      none_here x is = refl

      by : (b : Bool) → b ≡ false → Grants es ≡ 0 → cond b (Grants es + 1) (Grants es) ≡ 0
      by true f e = absurd cc
      by false f e = e

-- ---- holds that are given back

given_case : (b : Bool) (n m c given : ℕ) → (b ≡ true → m ≡ c - 1) → (b ≡ false → m ≡ c) → (n ≤ m → given + n ≡ m) → cond b (n + 1) n ≤ c → given + cond b (n + 1) n ≡ c
given_case true n m c given f g go le = let e = f refl in let r = go (omega (arith, e, le)) in omega (arith, e, le, r)
given_case false n m c given f g go le = let e = g refl in let r = go (omega (arith, e, le)) in omega (arith, e, le, r)

-- one hold is given back
abbrev back_one : (ℕ → List ℕ) → ℕ → ℕ → ℕ → List ℕ
back_one c owner slot = with_at c owner (one_less slot (c owner))

back_here : (c : ℕ → List ℕ) (owner slot o s : ℕ) → ((owner == o) && (slot == s)) ≡ true → slice_index (back_one c owner slot o) s ≡ slice_index (c o) s - 1
back_here c owner slot o s e = by (owner == o) (slot == s) refl refl e
  where
    by : (a b : Bool) → (owner == o) ≡ a → (slot == s) ≡ b → (a && b) ≡ true → slice_index (back_one c owner slot o) s ≡ slice_index (c o) s - 1
    by true true p q r = subst (λ (n : ℕ). slice_index (back_one c owner slot n) s ≡ slice_index (c n) s - 1) (eq_of owner o p)
        (ap (λ b. slice_index (cond b (one_less slot (c owner)) (c owner)) s) (same owner) ∙ less_at (c owner) slot s ∙ ap (λ b. slice_index (c owner) s - one_if b) q)
      where
        same : (n : ℕ) → (n == n) ≡ true
        same n = grind (arith, nat_tests)
    by true false p q r = absurd cc
    by false b p q r = absurd cc

back_there : (c : ℕ → List ℕ) (owner slot o s : ℕ) → ((owner == o) && (slot == s)) ≡ false → slice_index (back_one c owner slot o) s ≡ slice_index (c o) s
back_there c owner slot o s e = by (owner == o) (slot == s) refl refl e
  where
    same : (n : ℕ) → (n == n) ≡ true
    same n = grind (arith, nat_tests)

    turned : (a b : ℕ) → (a == b) ≡ (b == a)
    turned a b = grind (arith, nat_tests)

    by : (a b : Bool) → (owner == o) ≡ a → (slot == s) ≡ b → (a && b) ≡ false → slice_index (back_one c owner slot o) s ≡ slice_index (c o) s
    by true true p q r = absurd cc
    by true false p q r = subst (λ (n : ℕ). slice_index (back_one c owner slot n) s ≡ slice_index (c n) s) (eq_of owner o p)
        (ap (λ b. slice_index (cond b (one_less slot (c owner)) (c owner)) s) (same owner) ∙ less_at (c owner) slot s ∙ ap (λ b. slice_index (c owner) s - one_if b) q ∙ minus_none (slice_index (c owner) s))
      where
        minus_none : (n : ℕ) → n - 0 ≡ n
        minus_none n = omega arith
    by false b p q r = ap (λ t. slice_index (cond t (one_less slot (c owner)) (c o)) s) (turned o owner ∙ p)

pub given_counts : (es : List Event) (c : ℕ → List ℕ) (o s : ℕ) → count (releases_slot o s) es ≤ slice_index (c o) s → slice_index (given_back c es o) s + count (releases_slot o s) es ≡ slice_index (c o) s
given_counts [] c o s le = omega arith
given_counts (Released v owner g slot ∷ es) c o s le =
    given_case ((owner == o) && (slot == s)) (count (releases_slot o s) es) (slice_index (back_one c owner slot o) s) (slice_index (c o) s) (slice_index (given_back (back_one c owner slot) es o) s)
    (back_here c owner slot o s) (back_there c owner slot o s) (given_counts es (back_one c owner slot) o s) le
given_counts (e ∷ es) c o s le = given_counts es c o s le

given_long : (es : List Event) (c : ℕ → List ℕ) (n : ℕ) → ((o : ℕ) → length (c o) ≡ n) → (o : ℕ) → length (given_back c es o) ≡ n
given_long [] c n l o = l o
given_long (Released v owner g slot ∷ es) c n l o = given_long es (back_one c owner slot) n (λ x. by x (x == owner)) o
  where
    by : (x : ℕ) (b : Bool) → length (cond b (one_less slot (c owner)) (c x)) ≡ n
    by x true = same_length (c owner) slot (slice_index (c owner) slot - 1) ∙ l owner
    by x false = l x
given_long (e ∷ es) c n l o = given_long es c n l o

-- ---- the moves

-- what is so of the numbers: what was released and what a slot has is what was granted
pub record Counted (setup : Setup) (h : List Event) (world : World) : Type 0 where
  pub long : (o : ℕ) → length (world.counts o) ≡ setup.slots
  pub sum : (o s : ℕ) → s < setup.slots → slice_index (world.counts o) s + times_so (releases_slot o s) h ≡ times_so (grants_slot o s) h

module _ (setup : Setup) (is : IsSetup setup) where
  module _ (w : ℕ) (incoming : Incoming) (h : List Event) (world : World) (g : Good setup h world) (k : Counted setup h world) where
    me : (world.workers w).owner.desk.me ≡ w
    me = is_me w setup.workers setup.slots setup.first (world.rows w) (own w h) (world.workers w).owner (g.keeps w).stands

    well : AreDeeds setup.workers w (serves setup w incoming world).deeds
    well = (served_well setup is w incoming (world.workers w).desk (g.knows w)).0

    abbrev es : List Event
    es = handled_events setup w incoming world

    abbrev mid : ℕ → List ℕ
    mid = with_at world.counts w (owns w incoming world).last.after.counts

    -- all grants of a step are the owner's
    grants_of : (o s : ℕ) → count (grants_slot o s) es ≡ count (grants_slot o s) (owns w incoming world).last.events
    grants_of o s =
        let first = before setup w incoming world in
        let second = part w incoming world in
        let third = behind setup w incoming world in
        let sweeps = (owns w incoming world).sweeps in
        omega (
          arith,
          count_append (grants_slot o s) (first ++ second) third,
          count_append (grants_slot o s) first second,
          opening_grants o s setup w incoming (world.workers w).desk,
          count_append (grants_slot o s) (steps_woven w (world.workers w).next sweeps) (weave w (next_behind (world.workers w).next sweeps) (owns w incoming world).last.events (owns w incoming world).last.alerts),
          sweeps_grant o s setup.workers w (world.workers w).next sweeps (sweeps_are setup.workers w (step_polls incoming (holding w (seat w world))) incoming (holding w (seat w world)) me (g.owns w)),
          weave_grants o s w (next_behind (world.workers w).next sweeps) (owns w incoming world).last.events (owns w incoming world).last.alerts,
          told_grants o s setup.workers w (next_after (world.workers w).next second) (serves setup w incoming world).deeds well,
        )

    -- the numbers before anything is given back
    mid_counts : (o s : ℕ) → s < setup.slots → slice_index (mid o) s ≡ slice_index (world.counts o) s + count (grants_slot o s) es
    mid_counts o s lt = by (o == w) refl
      where
        of : AllByRecursion (IsOfOwner w) (owns w incoming world).last.events
        of = (of_owned setup.workers w (step_polls incoming (holding w (seat w world))) incoming (holding w (seat w world)) me (g.owns w)).1

        turned : (a b : ℕ) → (a == b) ≡ (b == a)
        turned a b = grind (arith, nat_tests)

        by : (b : Bool) → (o == w) ≡ b → slice_index (cond b (owns w incoming world).last.after.counts (world.counts o)) s ≡ slice_index (world.counts o) s + count (grants_slot o s) es
        by true e = subst (λ (n : ℕ). slice_index (owns w incoming world).last.after.counts s ≡ slice_index (world.counts n) s + count (grants_slot n s) es) (sym (eq_of o w e))
            ((last_adds w s (step_polls incoming (holding w (seat w world))) incoming (holding w (seat w world)) me).each (subst (λ (n : ℕ). s < n) (sym (k.long w)) lt) ∙ ap (λ n. slice_index (world.counts w) s + n) (sym (grants_of w s)))
        by false e = omega (arith, grants_of o s, others_grant o s w (owns w incoming world).last.events (turned w o ∙ e) of)

    mid_long : (o : ℕ) → length (mid o) ≡ setup.slots
    mid_long o = by (o == w)
      where
        by : (b : Bool) → length (cond b (owns w incoming world).last.after.counts (world.counts o)) ≡ setup.slots
        by true = (last_adds w 0 (step_polls incoming (holding w (seat w world))) incoming (holding w (seat w world)) me).long ∙ k.long w
        by false = k.long o

    -- where the holds are balanced after the step, what it gives back was there
    step_counted : (new : World) → IsBalanced (onto es h) new → (c : ℕ → List ℕ) → c ≡ given_back mid es
        → ((o : ℕ) → length (c o) ≡ setup.slots) × ((o s : ℕ) → s < setup.slots → slice_index (c o) s + times_so (releases_slot o s) (onto es h) ≡ times_so (grants_slot o s) (onto es h))
    step_counted new balanced c same = (
      λ o. ap (λ (x : ℕ → List ℕ). length (x o)) same ∙ given_long es mid setup.slots mid_long o,
      λ o s lt.
          let within = released_within o s (onto es h) new balanced in
          let r = times_onto (releases_slot o s) es h in
          let a = times_onto (grants_slot o s) es h in
          let m = mid_counts o s lt in
          let e = k.sum o s lt in
          let back = given_counts es mid o s (omega (arith, within, r, a, m, e)) in
          let at = ap (λ (x : ℕ → List ℕ). slice_index (x o) s) same in
          omega (arith, back, r, a, m, e, at),
    )

  handled_counted : (w : ℕ) (incoming : Incoming) (h : List Event) (world other : World) → other ≡ record world { rings = other.rings } → Good setup h world → Counted setup h world → IsBalanced (onto (handled_events setup w incoming world) h) (handled setup w incoming other) → Counted setup (onto (handled_events setup w incoming world) h) (handled setup w incoming other)
  handled_counted w incoming h world other like g k balanced =
      let r = step_counted w incoming h world g k (handled setup w incoming other) balanced (handled setup w incoming other).counts (ap (λ (x : World). (handled setup w incoming x).counts) like) in
      record { long = r.0; sum = r.1 }

  taken_counted : (w v : ℕ) (ring : List Packet) (h : List Event) (world : World) → Good setup h world → Counted setup h world → IsBalanced (onto (taken_events setup w v ring world) h) (taken setup w v ring world) → Counted setup (onto (taken_events setup w v ring world) h) (taken setup w v ring world)
  taken_counted w v [] h world g k balanced = k
  taken_counted w v (p ∷ ps) h world g k balanced = handled_counted w (TakesPacket v p) h world (with_ring v w ps world) refl g k balanced

  carried_counted : (w v : ℕ) (outbox : List Packet) (h : List Event) (world : World) → Counted setup h world → Counted setup h (carried w v outbox world)
  carried_counted w v [] h world k = k
  carried_counted w v (p ∷ ps) h world k = either (Counted setup h) (nat_lt (length (world.rings w v)) ring_size) (carried_one w v p ps world) world (record { long = k.long; sum = k.sum }) k

  counts_counted : (n : ℕ) (h : List Event) (world : World) → Counted setup h world → Counted setup (onto (counted n) h) world
  counts_counted zero h world k = record { long = k.long; sum = k.sum }
  counts_counted (suc n) h world k = record { long = k.long; sum = k.sum }

  rests_counted : (n : ℕ) (h : List Event) (world : World) → Counted setup h world → Counted setup (onto (rested n) h) world
  rests_counted zero h world k = record { long = k.long; sum = k.sum }
  rests_counted (suc n) h world k = k

  move_counted : (m : Move) (h : List Event) (world : World) → Good setup h world → IsBalanced (onto (move_events setup m world) h) (moved setup m world) → Counted setup h world → Counted setup (onto (move_events setup m world) h) (moved setup m world)
  move_counted (Handles w incoming) h world g b k = handled_counted w incoming h world world refl g k b
  move_counted (Carries w v) h world g b k = carried_counted w v ((world.workers w).outbox v) h world k
  move_counted (Takes w v) h world g b k = taken_counted w v (world.rings v w) h world g k b
  move_counted Counts h world g b k = counts_counted (pending_in setup world) h world k
  move_counted Rests h world g b k = rests_counted (pending_in setup world) h world k

  new_counted : Counted setup [] (new_world setup)
  new_counted = record { long = λ o. long_new setup.slots; sum = λ o s lt. none setup.slots s }
    where
      long_new : (n : ℕ) → length {A = ℕ} (replicate n 0) ≡ n
      long_new zero = refl
      long_new (suc n) = ap suc (long_new n)

      none : (n s : ℕ) → slice_index (replicate n 0) s + 0 ≡ 0
      none zero s = refl
      none (suc n) zero = refl
      none (suc n) (suc s) = none n s

  pub reached_counted : (h : List Event) (world : World) → Reached setup h world → Counted setup h world
  reached_counted h world Begins = new_counted
  reached_counted h world (Moves before last m r i) =
      move_counted m before last (reached_is_good setup before last is r) (move_holds setup is m before last (reached_is_good setup before last is r) i (reached_holds setup before last is r)).balanced (reached_counted before last r)

pub reached_counts : ReachedCounts
reached_counts setup h world is r =
    let k = reached_counted setup is h world r in
    record { long = k.long; each = λ o s lt. omega (arith, k.sum o s lt) }
