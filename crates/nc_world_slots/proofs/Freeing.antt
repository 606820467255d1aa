-- A slot is freed that nobody holds.
use Rattle.std.proofs.Common.{◌≡◌, ℕ, ◌<◌, ◌+◌, Bool, true, false, cond, not, List, [], ◌∷◌, ◌++◌, Option, Some, None, refl, sym, ap, ◌∙◌, subst, map, arith}
use Rattle.std.specs.Prelude.{◌==◌, slice_index}
use Rattle.std.specs.List.{AllByRecursion}
use Rattle.std.proofs.lemmas.Bool.Decides.{nat_tests}
use Rattle.nc_journal.specs.History.{own, onto, Along}
use Rattle.nc_journal.specs.Holding.{holds}
use Rattle.nc_journal.specs.declared.event.Event.{Event}
use Rattle.nc_journal.specs.declared.event.Event.TheVariants.{Joined, Parted, Granted, Released, Freed, Left, Removed}
use Rattle.nc_journal.specs.declared.word.LeftCause.{LeftCause}
use Rattle.nc_journal.specs.declared.word.LeftCause.TheVariants.{Expired, Spent, Length, Deleted}
use Rattle.nc_journal.specs.declared.word.RemovedCause.{RemovedCause}
use Rattle.nc_journal.specs.declared.word.RemovedCause.TheVariants.{Deleted as ByDeletion}
use Rattle.nc_journal.specs.declared.alert.AlertLine.{AlertLine}
use Rattle.nc_journal.specs.declared.alert.AlertLine.TheVariants as lines
use Rattle.nc_types.specs.Id.{Id}
use Rattle.nc_buffer.specs.Buffer.{is_expired, is_spent}
use Rattle.nc_buffer.specs.declared.entry.Entry.{Entry}
use Rattle.nc_owner.specs.declared.desk.Desk.{Desk as OwnerDesk}
use Rattle.nc_owner.specs.declared.order.Order.{Order}
use Rattle.nc_owner.specs.declared.member.Member.{Member}
use Rattle.nc_owner.specs.declared.poll.PollAnswer.{PollAnswer}
use Rattle.nc_owner.specs.AlertLines.{OutLine}
use Rattle.nc_owner.specs.Remove.{removal_lefts, events_of_removal}
use Rattle.nc_owner.specs.State.{OwnerAt, Bench, bench_of, entries_of, exists, opened}
use Rattle.nc_owner.specs.Ascending.{ascending}
use Rattle.nc_owner.specs.Leave.{left_event, leavers, touched, spend_events}
use Rattle.nc_owner.specs.Members.{has_member}
use Rattle.nc_owner.specs.Poll.{freed_events}
use Rattle.nc_owner.specs.Publish.{Polls, Outcome, late, full, stored, granted_events, asked, roomy, roomy_events, stored_events, leaving, lowest_slot, cleared, slots_of, post_events, publish_outcome, publish_cleared, cleared_events}
use Rattle.nc_owner.specs.Look.{found_on, looked_event, found_events, look_ready}
use Rattle.nc_owner.specs.Fence.{raise_events}
use Rattle.nc_owner.specs.Edge.{edged_event}
use Rattle.nc_owner.specs.OtherSteps.{touch_events_of, touch_after, parted_events}
use Rattle.nc_owner_laws.specs.HoldsKept.{told_answers, told_polls}
use Rattle.nc_owner_laws.specs.OwnChannels.{OwnsChannels}
use Rattle.nc_owner_laws.specs.Reaping.{steps_woven, next_behind}
use Rattle.nc_owner_laws.specs.Sweeping.{AllEvents, IsOfRemovals}
use Rattle.nc_owner_laws.specs.Weave.{weave, makes, numbered, numbered_by}
use Rattle.nc_owner_laws.proofs.Fences.{raise_are}
use Rattle.nc_owner_laws.proofs.Sweeping.{reaps_are}
use Rattle.nc_reaper.specs.Reap.{Step, swept_all}
use Rattle.nc_worker_state.specs.Setup.{Setup}
use Rattle.nc_worker_state.specs.Incoming.{Incoming, TakesPacket, ClockReads, Reaps, Posts, Subscribes, Removes, Informs}
use Rattle.nc_worker_state.specs.Owned.{Holding, OwnersPart, order_of, looked_by, edged_by, fenced, owned, owned_by, line_polls}
use Rattle.nc_worker_state.specs.Worker.{holding, woven, part_woven}
use Rattle.nc_world.specs.World.{World, seat, handled_events}
use Rattle.nc_world.specs.Reached.{IsSetup, Reached}
use Rattle.nc_world_laws.proofs.WorkerKinds.{IsOfWorker}
use Rattle.nc_world_laws.specs.Good.{Good}
use Rattle.nc_world_laws.proofs.WorldTheme.{WorldFact, IsWorldTheme}
use Rattle.nc_world_laws.proofs.Local.{all_append, all_of}
use Rattle.nc_world_laws.proofs.Telling.{woven_all}
use Rattle.nc_world_laws.proofs.Parts.{owns, before, part, behind, behind_all}
use Rattle.nc_world_laws.proofs.Frames.{handled_onto}
use Rattle.nc_world_laws.proofs.Stepping.{is_me}
use Rattle.nc_world_laws.proofs.WorldThemes.{world_theme_holds}
use Rattle.nc_world_holds.proofs.Counting.{reached_counts}
use Rattle.nc_world_owners.proofs.ReachedOwners.{histories_leave_by_rule}
use Rattle.nc_world_owners.proofs.ReachedHistories.{histories_take_slots}
use Rattle.nc_owner_laws.specs.SlotRule.{OwnersSlots}
use Rattle.nc_world_slots.specs.Points.{FreedAt, SlotsAreFreed}
use Rattle.nc_world_slots.proofs.Within.{WithinAt, freed_within}

-- a slot that is freed isn't held, if it is one of the owner's
abbrev pub UnheldAt : ℕ → List Event → Event → Type 0
UnheldAt slots h (Freed w slot) = slot < slots → holds w slot h ≡ 0
UnheldAt slots h _ = Unit {0}

abbrev IsUnfreed : Event → Type 0
IsUnfreed (Freed w slot) = ⊥
IsUnfreed _ = Unit {0}

module _ (me : ℕ) (counts : List ℕ) where
  -- an event that leaves all holds; a slot that it frees has none
  abbrev IsCalm : Event → Type 0
  IsCalm (Granted w g slot to) = ⊥
  IsCalm (Released w owner g slot) = ⊥
  IsCalm (Freed w slot) = (w ≡ me) × (slice_index counts slot ≡ 0)
  IsCalm _ = Unit {0}

  -- such events, and once something is granted none that frees a slot
  abbrev FreeFirst : List Event → Type 0
  FreeFirst [] = Unit {0}
  FreeFirst (Granted w g slot to ∷ es) = AllByRecursion IsUnfreed es
  FreeFirst (e ∷ es) = IsCalm e × FreeFirst es

  first_append : (es fs : List Event) → AllByRecursion IsCalm es → FreeFirst fs → FreeFirst (es ++ fs)
  first_append [] fs a f = f
  first_append (Granted w g slot to ∷ es) fs a f = absurd a.0
  first_append (e ∷ es) fs a f = (a.0, first_append es fs a.1 f)

  calm_first : (es : List Event) → AllByRecursion IsCalm es → FreeFirst es
  calm_first [] a = tt
  calm_first (Granted w g slot to ∷ es) a = absurd a.0
  calm_first (e ∷ es) a = (a.0, calm_first es a.1)

  -- ---- an owner's step

  left_calm : (v : ℕ) (c : List ℕ) (cause : LeftCause) (es : List Entry) → AllByRecursion IsCalm (map (left_event v c cause) es)
  left_calm v c cause [] = tt
  left_calm v c cause (e ∷ es) = (tt, left_calm v c cause es)

  freed_calm : (v : ℕ) (slots : List ℕ) → v ≡ me → AllByRecursion IsCalm (freed_events v (told_answers counts slots))
  freed_calm v [] is = tt
  freed_calm v (k ∷ slots) is = by (slice_index counts k == 0) refl (freed_calm v slots is)
    where
      none : (n : ℕ) → (n == 0) ≡ true → n ≡ 0
      none n e = grind (arith, nat_tests)

      by : (b : Bool) → (slice_index counts k == 0) ≡ b → AllByRecursion IsCalm (freed_events v (told_answers counts slots))
          → AllByRecursion IsCalm (freed_events v ((record { slot = k; held = not b }) ∷ told_answers counts slots))
      by true e a = ((is, none (slice_index counts k) e), a)
      by false e a = a

  removal_calm : (goes : Bool) (cause : RemovedCause) (c : List ℕ) (s : OwnerAt) → AllByRecursion IsCalm (events_of_removal goes cause c s)
  removal_calm true cause c s = all_append IsCalm (removal_lefts c Deleted s) _ (left_calm s.desk.me c Deleted (entries_of (opened c s))) (tt, tt)
  removal_calm false cause c s = tt

  parted_calm : (b : Bool) (v : ℕ) (c : List ℕ) (m : Member) → AllByRecursion IsCalm (cond b (Parted v c m.from m.k ∷ []) [])
  parted_calm true v c m = (tt, tt)
  parted_calm false v c m = tt

  touched_calm : (c : List ℕ) (s : Holding) → AllByRecursion IsCalm (touch_events_of c s.row s.owner)
  touched_calm c s = left_calm s.owner.desk.me c Expired (leavers (is_expired s.owner.desk.clock) (bench_of c s.row s.owner))

  grants_unfreed : (v slot g : ℕ) (marks : List ℕ) → AllByRecursion IsUnfreed (granted_events v slot g marks)
  grants_unfreed v slot g [] = tt
  grants_unfreed v slot g (to ∷ marks) = (tt, grants_unfreed v slot (g + 1) marks)

  grants_first : (v slot g : ℕ) (marks : List ℕ) → FreeFirst (granted_events v slot g marks)
  grants_first v slot g [] = tt
  grants_first v slot g (to ∷ marks) = grants_unfreed v slot (g + 1) marks

  post_first : (out : Outcome) (from : ℕ) (o : Order) (polls : Polls) (left : List ℕ) (b : Bench) → b.desk.me ≡ me → polls.left ≡ told_answers counts left → FreeFirst (post_events out from o polls b)
  post_first late from o polls left b is told = tt
  post_first (full usage) from o polls left b is told = tt
  post_first stored from o polls left b is told =
      let c = asked polls.leaving b in
      let r = roomy o.length polls.left c in
      first_append (roomy_events o.length polls.left o.chan c) (stored_events from o (lowest_slot r.row) r)
      (all_append IsCalm (map (left_event b.desk.me o.chan Length) (leaving o.length c)) (freed_events b.desk.me polls.left) (left_calm b.desk.me o.chan Length (leaving o.length c))
      (subst (λ (a : List PollAnswer). AllByRecursion IsCalm (freed_events b.desk.me a)) (sym told) (freed_calm b.desk.me left is)))
      (tt, grants_first b.desk.me (lowest_slot r.row) c.desk.grants c.channel.marks)

  publish_first : (from : ℕ) (o : Order) (s : Holding) → s.owner.desk.me ≡ me → (polls : Polls) → polls ≡ told_polls counts o s.row s.owner
      → FreeFirst (cleared_events polls.retired o.chan (bench_of o.chan s.row s.owner) ++ post_events (publish_outcome o polls s.row s.owner) from o polls (publish_cleared o polls s.row s.owner))
  publish_first from o s is polls told =
      let b = bench_of o.chan s.row s.owner in
      let retired = (touched b).desk.retired in
      first_append (cleared_events polls.retired o.chan b) (post_events (publish_outcome o polls s.row s.owner) from o polls (publish_cleared o polls s.row s.owner))
      (all_append IsCalm (touch_events_of o.chan s.row s.owner) (freed_events s.owner.desk.me polls.retired) (touched_calm o.chan s)
      (subst (λ (a : List PollAnswer). AllByRecursion IsCalm (freed_events s.owner.desk.me a)) (ap (λ (p : Polls). p.retired) (sym told)) (freed_calm s.owner.desk.me retired is)))
      (post_first (publish_outcome o polls s.row s.owner) from o polls (ascending (slots_of (leaving o.length (cleared (told_answers counts retired) b)))) (publish_cleared o polls s.row s.owner) is (ap (λ (p : Polls). p.left) told))

  found_first : (from number : ℕ) (c : List ℕ) (id : Id) (entry : Option Entry) (d : OwnerDesk) → FreeFirst (looked_event from number c id entry d ∷ found_events from entry d)
  found_first from number c id None d = (tt, tt)
  found_first from number c id (Some e) d = (tt, tt)

  look_first : (from number : ℕ) (c : List ℕ) (after : Id) (s : Holding) → FreeFirst (looked_by from number c after s).events
  look_first from number c after s =
      let ready = look_ready c s.row s.owner in
      first_append (touch_events_of c s.row s.owner ++ spend_events c (touched (bench_of c s.row s.owner))) (looked_event from number c after (found_on after ready) ready.desk ∷ found_events from (found_on after ready) ready.desk)
      (all_append IsCalm (touch_events_of c s.row s.owner) (spend_events c (touched (bench_of c s.row s.owner))) (touched_calm c s) (left_calm s.owner.desk.me c Spent (leavers is_spent (touched (bench_of c s.row s.owner)))))
      (found_first from number c after (found_on after ready) ready.desk)

  edge_first : (from number k : ℕ) (c : List ℕ) (s : Holding) → FreeFirst (edged_by from number k c s).events
  edge_first from number k c s = first_append (touch_events_of c s.row s.owner) (edged_event from number k c (touch_after c s.row s.owner) ∷ []) (touched_calm c s) (tt, tt)

  asked_first : (from : ℕ) (line : AlertLine) (s : Holding) → s.owner.desk.me ≡ me → s.counts ≡ counts → FreeFirst (owned_by (line_polls line s) from line s).events
  asked_first from (lines.Publish r c len timeout ct body) s is same = publish_first from (order_of r c len timeout ct body) s is (told_polls s.counts (order_of r c len timeout ct body) s.row s.owner) (ap (λ (k : List ℕ). told_polls k (order_of r c len timeout ct body) s.row s.owner) same)
  asked_first from (lines.Look number c after fence) s is same = first_append (raise_events fence s.owner) _ (raise_are IsCalm fence s.owner tt) (look_first from number c after (fenced fence s))
  asked_first from (lines.Edge number k c fence) s is same = first_append (raise_events fence s.owner) _ (raise_are IsCalm fence s.owner tt) (edge_first from number k c (fenced fence s))
  asked_first from (lines.Join c k) s is same = first_append (touch_events_of c s.row s.owner) (Joined s.owner.desk.me c from k ∷ []) (touched_calm c s) (tt, tt)
  asked_first from (lines.Part c k) s is same =
      let m : Member = record { from = from; k = k } in
      first_append (touch_events_of c s.row s.owner) (parted_events s.owner.desk.me m c (opened c s.owner)) (touched_calm c s) (calm_first (parted_events s.owner.desk.me m c (opened c s.owner)) (parted_calm (has_member m (opened c s.owner).members) s.owner.desk.me c m))
  asked_first from (lines.Info r c) s is same = calm_first (touch_events_of c s.row s.owner) (touched_calm c s)
  asked_first from (lines.PubAnswer r status info usage) s is same = tt
  asked_first from (lines.LookAnswer number q floor found g slot) s is same = tt
  asked_first from (lines.Notice c id g slot) s is same = tt
  asked_first from (lines.EdgeAnswer number q floor last) s is same = tt
  asked_first from (lines.Delete r c) s is same =
      calm_first _ (all_append IsCalm (touch_events_of c s.row s.owner) _ (touched_calm c s) (removal_calm (exists c s.owner) ByDeletion c (touch_after c s.row s.owner)))
  asked_first from (lines.DelAnswer r status info) s is same = tt
  asked_first from (lines.Gone c subs) s is same = tt
  asked_first from (lines.InfoAnswer r status info) s is same = tt

  -- what leaves, and what goes, in a sweep
  swept_calm : (workers : ℕ) (e : Event) → IsOfRemovals workers me e → IsCalm e
  swept_calm workers (Left w c id slot cause) r = tt
  swept_calm workers (Removed w c last cause) r = tt
  swept_calm workers e r = absurd r

  pub owned_first : (workers : ℕ) (incoming : Incoming) (s : Holding) → s.owner.desk.me ≡ me → OwnsChannels workers me s.owner → s.counts ≡ counts → AllEvents IsCalm (owned incoming s).sweeps × FreeFirst (owned incoming s).last.events
  owned_first workers (TakesPacket from p) s is owns same = (tt, asked_first from p.line s is same)
  owned_first workers (ClockReads t) s is owns same = (tt, tt)
  owned_first workers Reaps s is owns same =
      let retired = (swept_all s.row s.owner).owner.desk.retired in (
        all_of (λ x. AllByRecursion (IsOfRemovals workers me) x.events) (λ x. AllByRecursion IsCalm x.events) (λ x a. all_of (IsOfRemovals workers me) IsCalm (swept_calm workers) x.events a) _ (reaps_are workers me s.row s.owner is owns).events,
        calm_first (freed_events s.owner.desk.me (told_answers s.counts retired))
            (subst (λ (k : List ℕ). AllByRecursion IsCalm (freed_events s.owner.desk.me (told_answers k retired))) (sym same) (freed_calm s.owner.desk.me retired is)),
      )
  owned_first workers (Posts c body) s is owns same = (tt, tt)
  owned_first workers (Subscribes k list start) s is owns same = (tt, tt)
  owned_first workers (Removes c) s is owns same = (tt, tt)
  owned_first workers (Informs c) s is owns same = (tt, tt)

  -- ---- with the alerts that it makes

  makes_first : (w : ℕ) (next : ℕ → ℕ) (alerts : List OutLine) → FreeFirst (makes w next alerts)
  makes_first w next [] = tt
  makes_first w next (a ∷ alerts) = (tt, makes_first w (numbered next a.to) alerts)

  woven_unfreed : (w : ℕ) (next : ℕ → ℕ) (es : List Event) (alerts : List OutLine) → AllByRecursion IsUnfreed es → AllByRecursion IsUnfreed (weave w next es alerts)
  woven_unfreed w next es alerts a = woven_all IsUnfreed w next (λ to n l. tt) es alerts a

  woven_first : (w : ℕ) (next : ℕ → ℕ) (es : List Event) (alerts : List OutLine) → FreeFirst es → FreeFirst (weave w next es alerts)
  woven_first w next [] alerts f = makes_first w next alerts
  woven_first w next (Granted v g slot to ∷ es) [] f = woven_unfreed w next es [] f
  woven_first w next (Granted v g slot to ∷ es) (a ∷ alerts) f = (tt, woven_unfreed w (numbered next a.to) es alerts f)
  woven_first w next (e ∷ es) alerts f = (f.0, woven_first w next es alerts f.1)

  steps_calm : (w : ℕ) (next : ℕ → ℕ) (steps : List Step) → AllEvents IsCalm steps → AllByRecursion IsCalm (steps_woven w next steps)
  steps_calm w next [] a = tt
  steps_calm w next (x ∷ steps) a =
      let later = numbered_by next x.alerts in
      all_append IsCalm (weave w next x.events x.alerts) (steps_woven w later steps) (woven_all IsCalm w next (λ to n l. tt) x.events x.alerts a.0) (steps_calm w later steps a.1)

  -- steps that are calm, and behind them what frees first
  pub part_first : (w : ℕ) (next : ℕ → ℕ) (p : OwnersPart) → AllEvents IsCalm p.sweeps → FreeFirst p.last.events → FreeFirst (part_woven w next p)
  part_first w next p a f =
      first_append (steps_woven w next p.sweeps) (woven w (next_behind next p.sweeps) p.last)
      (steps_calm w next p.sweeps a) (woven_first w (next_behind next p.sweeps) p.last.events p.last.alerts f)

  -- ---- over a history

  module _ (slots : ℕ) where
    abbrev AreTold : List Event → Type 0
    AreTold h = (slot : ℕ) → slot < slots → slice_index counts slot ≡ holds me slot h

    unfreed_along : (es h : List Event) → AllByRecursion IsUnfreed es → Along (UnheldAt slots) h → Along (UnheldAt slots) (onto es h)
    unfreed_along [] h u a = a
    unfreed_along (Freed w slot ∷ es) h u a = absurd u.0
    unfreed_along (e ∷ es) h u a = unfreed_along es (e ∷ h) u.1 (a, tt)

    first_along : (es h : List Event) → FreeFirst es → AreTold h → Along (UnheldAt slots) h → Along (UnheldAt slots) (onto es h)
    first_along [] h f t a = a
    first_along (Granted w g slot to ∷ es) h f t a = unfreed_along es (Granted w g slot to ∷ h) f (a, tt)
    first_along (Released w owner g slot ∷ es) h f t a = absurd f.0
    first_along (Freed w slot ∷ es) h f t a =
        first_along es (Freed w slot ∷ h) f.1 t (a, λ lt. ap (λ (v : ℕ). holds v slot h) f.0.0 ∙ sym (t slot lt) ∙ f.0.1)
    first_along (e ∷ es) h f t a = first_along es (e ∷ h) f.1 t (a, tt)

-- ---- over each move

module _ (setup : Setup) (is : IsSetup setup) where
  abbrev pub UnheldFact : WorldFact
  UnheldFact h world = Along (UnheldAt setup.slots) h

  opening_first : (w : ℕ) (counts : List ℕ) (i : Incoming) (world : World) → FreeFirst w counts (before setup w i world)
  opening_first w counts (TakesPacket from p) world = (tt, tt)
  opening_first w counts (ClockReads t) world = (tt, tt)
  opening_first w counts Reaps world = tt
  opening_first w counts (Posts c body) world = (tt, tt)
  opening_first w counts (Subscribes k list start) world = (tt, tt)
  opening_first w counts (Removes c) world = (tt, tt)
  opening_first w counts (Informs c) world = (tt, tt)

  opening_told : (w : ℕ) (counts : List ℕ) (i : Incoming) (h : List Event) (world : World) → AreTold w counts setup.slots h → AreTold w counts setup.slots (onto (before setup w i world) h)
  opening_told w counts (TakesPacket from p) h world t = t
  opening_told w counts (ClockReads n) h world t = t
  opening_told w counts Reaps h world t = t
  opening_told w counts (Posts c body) h world t = t
  opening_told w counts (Subscribes k list start) h world t = t
  opening_told w counts (Removes c) h world t = t
  opening_told w counts (Informs c) h world t = t

  unfreed_worker : (w : ℕ) (e : Event) → IsOfWorker w e → IsUnfreed e
  unfreed_worker w (Freed v slot) p = absurd p
  unfreed_worker w e p = tt

  step_unheld : (w : ℕ) (incoming : Incoming) (h : List Event) (world : World) → Reached setup h world → Good setup h world → UnheldFact h world → Along (UnheldAt setup.slots) (onto (handled_events setup w incoming world) h)
  step_unheld w incoming h world r g a =
      let counts = world.counts w in
      let me = is_me w setup.workers setup.slots setup.first (world.rows w) (own w h) (world.workers w).owner (g.keeps w).stands in
      let told : AreTold w counts setup.slots h = (reached_counts setup h world is r).each w in
      let calm = owned_first w counts setup.workers incoming (holding w (seat w world)) me (g.owns w) refl in
      let first = first_along w counts setup.slots (before setup w incoming world) h (opening_first w counts incoming world) told a in
      let second = first_along w counts setup.slots (part w incoming world) (onto (before setup w incoming world) h)
      (part_first w counts w (world.workers w).next (owns w incoming world) calm.0 calm.1)
      (opening_told w counts incoming h world told) first in
      subst (Along (UnheldAt setup.slots)) (sym (handled_onto setup is w incoming h world g h))
      (unfreed_along w counts setup.slots (behind setup w incoming world) (onto (part w incoming world) (onto (before setup w incoming world) h))
      (behind_all setup is w incoming h world g IsUnfreed (unfreed_worker w) (λ to n l. tt)) second)

  unheld_theme : IsWorldTheme setup UnheldFact
  unheld_theme = record {
    new = tt;
    handles = λ w incoming h world r g here input a. step_unheld w incoming h world r g a;
    takes = λ w v p ps h world r g here there at a. step_unheld w (TakesPacket v p) h world r g a;
    carries = λ w v p ps h world r g here there at a. a;
    pending = λ n h world r g same a. (a, tt);
    quiet = λ h world r g same a. (a, tt);
  }

freed_along : (slots : ℕ) (h : List Event) → Along (OwnersSlots slots) h → Along (WithinAt slots) h → Along (UnheldAt slots) h → Along FreedAt h
freed_along slots [] a b c = tt
freed_along slots (Freed w slot ∷ h) a b c = (freed_along slots h a.0 b.0 c.0, record { retired = a.1; unheld = c.1 b.1 })
freed_along slots (e ∷ h) a b c = (freed_along slots h a.0 b.0 c.0, tt)

pub slots_are_freed : SlotsAreFreed
slots_are_freed setup h world is r =
    let taken = histories_take_slots setup h world is r in
    freed_along setup.slots h taken (freed_within setup.workers setup.slots h (histories_leave_by_rule setup h world is r).left taken)
    (world_theme_holds setup (UnheldFact setup is) is (unheld_theme setup is) h world r)
