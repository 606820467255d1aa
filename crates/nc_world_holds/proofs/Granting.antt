-- What an owner's step grants to a worker is what the alerts that it makes for the worker carry.
use Rattle.std.proofs.Common.{◌≡◌, ℕ, ◌+◌, Bool, true, false, cond, List, [], ◌∷◌, ◌++◌, Option, Some, None, refl, sym, ap, ◌∙◌, arith, map}
use Rattle.std.specs.Prelude.{◌==◌, ◌&&◌}
use Rattle.std.specs.List.{AllByRecursion}
use Rattle.std.proofs.lemmas.Bool.Decides.{nat_tests}
use Rattle.nc_types.specs.Id.{Id}
use Rattle.nc_types.specs.declared.info.Info.{Info}
use Rattle.nc_journal.specs.declared.event.Event.{Event}
use Rattle.nc_journal.specs.declared.event.Event.TheVariants.{Joined, Parted, Granted, Made}
use Rattle.nc_journal.specs.declared.word.LeftCause.{LeftCause}
use Rattle.nc_journal.specs.declared.word.LeftCause.TheVariants.{Expired, Spent, Length}
use Rattle.nc_journal.specs.declared.alert.AlertLine.{AlertLine}
use Rattle.nc_journal.specs.declared.alert.AlertLine.TheVariants as lines
use Rattle.nc_buffer.specs.declared.entry.Entry.{Entry}
use Rattle.nc_owner.specs.declared.desk.Desk.{Desk as OwnerDesk}
use Rattle.nc_owner.specs.declared.order.Order.{Order}
use Rattle.nc_owner.specs.declared.member.Member.{Member}
use Rattle.nc_owner.specs.AlertLines.{OutLine}
use Rattle.nc_owner.specs.State.{Bench, bench_of, exists, opened}
use Rattle.nc_buffer.specs.Buffer.{is_expired, is_spent}
use Rattle.nc_owner.specs.Leave.{left_event, leavers, touched, spend_events}
use Rattle.nc_owner.specs.Members.{has_member}
use Rattle.nc_owner.specs.Poll.{freed_event, free_slots}
use Rattle.nc_owner.specs.Publish.{Polls, Outcome, late, full, stored, notices, granted_events, answer, asked, roomy, roomy_events, stored_events, leaving, stamp, lowest_slot, stored_status, info_of, store_bench, post_events, post_alerts, publish_outcome, publish_cleared, cleared_events}
use Rattle.nc_owner.specs.Look.{found_on, looked_event, found_events, found_line, look_ready}
use Rattle.nc_owner.specs.Fence.{raise_events}
use Rattle.nc_owner.specs.Edge.{edged_event, edge_line}
use Rattle.nc_owner.specs.OtherSteps.{touch_events_of, touch_after, touched_of, parted_events}
use Rattle.nc_owner.specs.Remove.{delete_events, delete_alerts}
use Rattle.nc_owner_laws.specs.Kinds.{IsOfOwner}
use Rattle.nc_owner_laws.specs.Weave.{weave, makes, numbered}
use Rattle.nc_owner_laws.proofs.Fences.{raised_so}
use Rattle.nc_history.specs.Packets.{Packet, packet, lines_of}
use Rattle.nc_worker_state.specs.Incoming.{Incoming, TakesPacket, ClockReads, Reaps, Posts, Subscribes, Removes, Informs}
use Rattle.nc_worker_state.specs.Owned.{Holding, Owned, StepPolls, order_of, looked_by, edged_by, fenced, behind_fence, owned_in, owned_by}
use Rattle.nc_worker_state.specs.Worker.{sent_to}
use Rattle.nc_world_holds.specs.Balance.{one_if, carries, carried_by}
use Rattle.nc_world_holds.proofs.Removals.{deletion_tells, IsUngranted, deletion_ungranted}

module _ (test : ℕ → ℕ → Bool) (x : ℕ) where
  -- how many grants to the worker are among some events, and how many holds alerts to it carry
  abbrev pub grants_to : List Event → ℕ
  grants_to [] = 0
  grants_to (Granted v g slot to ∷ es) = cond ((to == x) && test g slot) (grants_to es + 1) (grants_to es)
  grants_to (e ∷ es) = grants_to es

  abbrev pub carried_out : List OutLine → ℕ
  carried_out [] = 0
  carried_out (a ∷ alerts) = cond (x == a.to) (carries test a.line) 0 + carried_out alerts

  pub grants_append : (es fs : List Event) → grants_to (es ++ fs) ≡ grants_to es + grants_to fs
  grants_append [] fs = omega arith
  grants_append (Granted v g slot to ∷ es) fs = by ((to == x) && test g slot) (grants_append es fs)
    where
      by : (b : Bool) → grants_to (es ++ fs) ≡ grants_to es + grants_to fs → cond b (grants_to (es ++ fs) + 1) (grants_to (es ++ fs)) ≡ cond b (grants_to es + 1) (grants_to es) + grants_to fs
      by true e = omega (arith, e)
      by false e = e
  grants_append (e ∷ es) fs = grants_append es fs

  out_append : (xs ys : List OutLine) → carried_out (xs ++ ys) ≡ carried_out xs + carried_out ys
  out_append [] ys = omega arith
  out_append (a ∷ xs) ys = omega (arith, out_append xs ys)

  turned : (a b : ℕ) → (a == b) ≡ (b == a)
  turned a b = grind (arith, nat_tests)

  -- ---- events that grant nothing

  none_left : (v : ℕ) (c : List ℕ) (cause : LeftCause) (es : List Entry) → grants_to (map (left_event v c cause) es) ≡ 0
  none_left v c cause [] = refl
  none_left v c cause (e ∷ es) = none_left v c cause es

  none_freed : (v : ℕ) (ks : List ℕ) → grants_to (map (freed_event v) ks) ≡ 0
  none_freed v [] = refl
  none_freed v (k ∷ ks) = none_freed v ks

  none_parted : (b : Bool) (v : ℕ) (c : List ℕ) (m : Member) → grants_to (cond b (Parted v c m.from m.k ∷ []) []) ≡ 0
  none_parted true v c m = refl
  none_parted false v c m = refl

  behind_none : (front es : List Event) (n : ℕ) → grants_to front ≡ 0 → grants_to es ≡ n → grants_to (front ++ es) ≡ n
  behind_none front es n a b = omega (arith, a, b, grants_append front es)

  none_granted : (es : List Event) → AllByRecursion IsUngranted es → grants_to es ≡ 0
  none_granted [] un = refl
  none_granted (Granted v g slot to ∷ es) un = absurd un.0
  none_granted (e ∷ es) un = none_granted es un.1

  none_carried : (alerts : List OutLine) → AllByRecursion (λ a. carries test a.line ≡ 0) alerts → carried_out alerts ≡ 0
  none_carried [] none = refl
  none_carried (a ∷ alerts) none = by (x == a.to) (none_carried alerts none.1)
    where
      by : (b : Bool) → carried_out alerts ≡ 0 → cond b (carries test a.line) 0 + carried_out alerts ≡ 0
      by true others = omega (arith, none.0, others)
      by false others = omega (arith, others)

  none_touched : (c : List ℕ) (s : Holding) → grants_to (touch_events_of c s.row s.owner) ≡ 0
  none_touched c s = none_left s.owner.desk.me c Expired (leavers (is_expired s.owner.desk.clock) (bench_of c s.row s.owner))

  -- an alert that carries nothing
  plain : (a : OutLine) → carries test a.line ≡ 0 → carried_out (a ∷ []) ≡ 0
  plain a none = by (x == a.to)
    where
      by : (b : Bool) → cond b (carries test a.line) 0 + 0 ≡ 0
      by true = omega (arith, none)
      by false = refl

  -- ---- publish

  put_case : (b c : Bool) (n m : ℕ) → n ≡ m → cond b (one_if c) 0 + n ≡ cond (b && c) (m + 1) m
  put_case true true n m e = omega (arith, e)
  put_case true false n m e = omega (arith, e)
  put_case false c n m e = omega (arith, e)

  noticed_grants : (v : ℕ) (c : List ℕ) (id : Id) (slot g : ℕ) (marks : List ℕ) → carried_out (notices c id slot g marks) ≡ grants_to (granted_events v slot g marks)
  noticed_grants v c id slot g [] = refl
  noticed_grants v c id slot g (to ∷ marks) =
      put_case (x == to) (test g slot) _ _ (noticed_grants v c id slot (g + 1) marks)
      ∙ ap (λ b. cond (b && test g slot) (grants_to (granted_events v slot (g + 1) marks) + 1) (grants_to (granted_events v slot (g + 1) marks))) (turned x to)

  abbrev pub Matches : List Event → List OutLine → Type 0
  Matches es alerts = carried_out alerts ≡ grants_to es

  post_matches : (out : Outcome) (from : ℕ) (o : Order) (polls : Polls) (b : Bench) → Matches (post_events out from o polls b) (post_alerts out from o polls b)
  post_matches late from o polls b = plain (answer from o.r 503 None None) refl
  post_matches (full usage) from o polls b = plain (answer from o.r 507 None (Some usage)) refl
  post_matches stored from o polls b =
      let c = asked polls.leaving b in
      let r = roomy o.length polls.left c in
      let last = answer from o.r (stored_status c.channel) (Some (info_of (store_bench o polls.left c).channel)) None in
      let told = notices o.chan (stamp c) (lowest_slot r.row) c.desk.grants c.channel.marks in
      let made : List Event = stored_events from o (lowest_slot r.row) r in
      let before = behind_none (roomy_events o.length polls.left o.chan c) made (grants_to made)
      (behind_none (map (left_event b.desk.me o.chan Length) (leaving o.length c)) (map (freed_event b.desk.me) (free_slots polls.left)) 0 (none_left b.desk.me o.chan Length (leaving o.length c)) (none_freed b.desk.me (free_slots polls.left))) refl in
      let each : carried_out told ≡ grants_to made = noticed_grants b.desk.me o.chan (stamp c) (lowest_slot r.row) c.desk.grants c.channel.marks in
      omega (arith, out_append told (last ∷ []), plain last refl, each, before)

  publish_matches : (from : ℕ) (o : Order) (polls : Polls) (s : Holding) → Matches (cleared_events polls.retired o.chan (bench_of o.chan s.row s.owner) ++ post_events (publish_outcome o polls s.row s.owner) from o polls (publish_cleared o polls s.row s.owner)) (post_alerts (publish_outcome o polls s.row s.owner) from o polls (publish_cleared o polls s.row s.owner))
  publish_matches from o polls s =
      let behind = post_events (publish_outcome o polls s.row s.owner) from o polls (publish_cleared o polls s.row s.owner) in
      post_matches (publish_outcome o polls s.row s.owner) from o polls (publish_cleared o polls s.row s.owner)
      ∙ sym (behind_none (cleared_events polls.retired o.chan (bench_of o.chan s.row s.owner)) behind (grants_to behind)
      (behind_none (touch_events_of o.chan s.row s.owner) (map (freed_event s.owner.desk.me) (free_slots polls.retired)) 0 (none_touched o.chan s) (none_freed s.owner.desk.me (free_slots polls.retired))) refl)

  -- ---- the other steps

  found_matches : (from number : ℕ) (c : List ℕ) (id : Id) (entry : Option Entry) (d : OwnerDesk) → Matches (looked_event from number c id entry d ∷ found_events from entry d) (found_line from number entry d ∷ [])
  found_matches from number c id None d = plain (found_line from number None d) refl
  found_matches from number c id (Some e) d = put_case (x == from) (test d.grants e.slot) 0 0 refl ∙ ap (λ b. cond (b && test d.grants e.slot) (0 + 1) 0) (turned x from)

  info_plain : (b : Bool) (r : ℕ) (info : Option Info) → carries test (cond b (lines.InfoAnswer r 200 info) (lines.InfoAnswer r 404 None)) ≡ 0
  info_plain true r info = refl
  info_plain false r info = refl

  look_matches : (from number : ℕ) (c : List ℕ) (after : Id) (s : Holding) → Matches (looked_by from number c after s).events (looked_by from number c after s).alerts
  look_matches from number c after s =
      let ready = look_ready c s.row s.owner in
      let told : List Event = looked_event from number c after (found_on after ready) ready.desk ∷ found_events from (found_on after ready) ready.desk in
      found_matches from number c after (found_on after ready) ready.desk
      ∙ sym (behind_none (touch_events_of c s.row s.owner ++ spend_events c (touched (bench_of c s.row s.owner))) told (grants_to told) (behind_none (touch_events_of c s.row s.owner) (spend_events c (touched (bench_of c s.row s.owner))) 0 (none_touched c s) (none_left s.owner.desk.me c Spent (leavers is_spent (touched (bench_of c s.row s.owner))))) refl)

  edge_matches : (from number k : ℕ) (c : List ℕ) (s : Holding) → Matches (edged_by from number k c s).events (edged_by from number k c s).alerts
  edge_matches from number k c s =
      let after = touch_after c s.row s.owner in
      plain (edge_line from number c after) refl ∙ sym (behind_none (touch_events_of c s.row s.owner) (edged_event from number k c after ∷ []) 0 (none_touched c s) refl)

  -- a fence grants nothing
  none_raised : (fence : ℕ) (s : Holding) → grants_to (raise_events fence s.owner) ≡ 0
  none_raised fence s = raised_so (λ es x. grants_to es ≡ 0) fence s.owner refl (λ lt. refl)

  fenced_matches : (fence : ℕ) (s : Holding) (o : Owned) → Matches o.events o.alerts → Matches (behind_fence fence s o).events (behind_fence fence s o).alerts
  fenced_matches fence s o m = m ∙ sym (behind_none (raise_events fence s.owner) o.events (grants_to o.events) (none_raised fence s) refl)

  asked_matches : (polls : Polls) (from : ℕ) (line : AlertLine) (s : Holding) → Matches (owned_by polls from line s).events (owned_by polls from line s).alerts
  asked_matches polls from (lines.Publish r c len timeout ct body) s = publish_matches from (order_of r c len timeout ct body) polls s
  asked_matches polls from (lines.Look number c after fence) s = fenced_matches fence s (looked_by from number c after (fenced fence s)) (look_matches from number c after (fenced fence s))
  asked_matches polls from (lines.Edge number k c fence) s = fenced_matches fence s (edged_by from number k c (fenced fence s)) (edge_matches from number k c (fenced fence s))
  asked_matches polls from (lines.Join c k) s = sym (behind_none (touch_events_of c s.row s.owner) (Joined s.owner.desk.me c from k ∷ []) 0 (none_touched c s) refl)
  asked_matches polls from (lines.Part c k) s =
      let m : Member = record { from = from; k = k } in
      sym (behind_none (touch_events_of c s.row s.owner) (parted_events s.owner.desk.me m c (opened c s.owner)) 0 (none_touched c s) (none_parted (has_member m (opened c s.owner).members) s.owner.desk.me c m))
  asked_matches polls from (lines.Info r c) s = plain _ (info_plain (exists c s.owner) r (Some (info_of (touched_of c s.row s.owner).channel))) ∙ sym (none_touched c s)
  asked_matches polls from (lines.PubAnswer r status info usage) s = refl
  asked_matches polls from (lines.LookAnswer number q floor found g slot) s = refl
  asked_matches polls from (lines.Notice c id g slot) s = refl
  asked_matches polls from (lines.EdgeAnswer number q floor last) s = refl
  asked_matches polls from (lines.Delete r c) s =
      none_carried (delete_alerts from r c s.row s.owner) (deletion_tells (λ a. carries test a.line ≡ 0) (λ to d subs. refl) (λ to n status info. refl) from r c s.row s.owner)
      ∙ sym (none_granted (delete_events c s.row s.owner) (deletion_ungranted c s.row s.owner))
  asked_matches polls from (lines.DelAnswer r status info) s = refl
  asked_matches polls from (lines.Gone c subs) s = refl
  asked_matches polls from (lines.InfoAnswer r status info) s = refl

  -- what an owner does last
  pub last_matches : (polls : StepPolls) (incoming : Incoming) (s : Holding) → Matches (owned_in polls incoming s).last.events (owned_in polls incoming s).last.alerts
  last_matches polls (TakesPacket from p) s = asked_matches polls.publish from p.line s
  last_matches polls (ClockReads t) s = refl
  last_matches polls Reaps s = sym (none_freed s.owner.desk.me (free_slots polls.reap))
  last_matches polls (Posts c body) s = refl
  last_matches polls (Subscribes k list start) s = refl
  last_matches polls (Removes c) s = refl
  last_matches polls (Informs c) s = refl

  -- ---- the owner's part of a step as events

  carried_case : (b : Bool) (n : ℕ) (a : AlertLine) (ps : List Packet) → carried_by test (lines_of (cond b (packet n a ∷ ps) ps)) ≡ cond b (carries test a) 0 + carried_by test (lines_of ps)
  carried_case true n a ps = refl
  carried_case false n a ps = omega arith

  one_made : (w n to : ℕ) (a : AlertLine) (es : List Event) (m : ℕ) → carried_by test (lines_of (sent_to x es)) ≡ m → carried_by test (lines_of (sent_to x (Made w to n a ∷ es))) ≡ cond (x == to) (carries test a) 0 + m
  one_made w n to a es m e = carried_case (x == to) n a (sent_to x es) ∙ ap (λ k. cond (x == to) (carries test a) 0 + k) e

  makes_carry : (w : ℕ) (next : ℕ → ℕ) (alerts : List OutLine) → carried_by test (lines_of (sent_to x (makes w next alerts))) ≡ carried_out alerts
  makes_carry w next [] = refl
  makes_carry w next (a ∷ alerts) = one_made w (next a.to) a.to a.line (makes w (numbered next a.to) alerts) (carried_out alerts) (makes_carry w (numbered next a.to) alerts)

  weave_carries : (w v : ℕ) (next : ℕ → ℕ) (es : List Event) (alerts : List OutLine) → AllByRecursion (IsOfOwner v) es → carried_by test (lines_of (sent_to x (weave w next es alerts))) ≡ carried_out alerts
  weave_carries w v next [] alerts of = makes_carry w next alerts
  weave_carries w v next (Granted u g slot to ∷ es) [] of = weave_carries w v next es [] of.1
  weave_carries w v next (Granted u g slot to ∷ es) (a ∷ alerts) of = one_made w (next a.to) a.to a.line (weave w (numbered next a.to) es alerts) (carried_out alerts) (weave_carries w v (numbered next a.to) es alerts of.1)
  weave_carries w v next (Made u to n a ∷ es) alerts of = absurd of.0
  weave_carries w v next (e ∷ es) alerts of = weave_carries w v next es alerts of.1

  makes_grant : (w : ℕ) (next : ℕ → ℕ) (alerts : List OutLine) → grants_to (makes w next alerts) ≡ 0
  makes_grant w next [] = refl
  makes_grant w next (a ∷ alerts) = makes_grant w (numbered next a.to) alerts

  weave_grants : (w : ℕ) (next : ℕ → ℕ) (es : List Event) (alerts : List OutLine) → grants_to (weave w next es alerts) ≡ grants_to es
  weave_grants w next [] alerts = makes_grant w next alerts
  weave_grants w next (Granted v g slot to ∷ es) [] = ap (λ n. cond ((to == x) && test g slot) (n + 1) n) (weave_grants w next es [])
  weave_grants w next (Granted v g slot to ∷ es) (a ∷ alerts) = ap (λ n. cond ((to == x) && test g slot) (n + 1) n) (weave_grants w (numbered next a.to) es alerts)
  weave_grants w next (e ∷ es) alerts = weave_grants w next es alerts

  -- what an owner sends to the worker with what it does at once carries what it grants
  pub woven_matches : (w v : ℕ) (next : ℕ → ℕ) (o : Owned) → AllByRecursion (IsOfOwner v) o.events → Matches o.events o.alerts → carried_by test (lines_of (sent_to x (weave w next o.events o.alerts))) ≡ grants_to (weave w next o.events o.alerts)
  woven_matches w v next o of m = weave_carries w v next o.events o.alerts of ∙ m ∙ sym (weave_grants w next o.events o.alerts)
