-- An owner's step: the alert made behind a grant brings a message that the granted slot has then.
use Rattle.std.proofs.Common.{◌≡◌, inl, inr, ℕ, zero, suc, ◌+◌, Bool, true, false, cond, List, [], ◌∷◌, ◌++◌, Option, Some, None, refl, sym, ap, ◌∙◌, subst, length, map, find}
use Rattle.std.specs.List.{AllByRecursion}
use Rattle.nc_types.specs.Id.{Id, is_past}
use Rattle.nc_types.specs.Message.{Message}
use Rattle.nc_types.specs.declared.info.Info.{Info}
use Rattle.nc_journal.specs.History.{onto, Along}
use Rattle.nc_journal.specs.Stamp.{IsStamped}
use Rattle.nc_journal.specs.Message.{Message as KeptMessage, buffer}
use Rattle.nc_journal.specs.declared.event.Event.{Event}
use Rattle.nc_journal.specs.declared.event.Event.TheVariants.{Looked, Granted, Made}
use Rattle.nc_journal.specs.declared.word.LeftCause.{LeftCause}
use Rattle.nc_journal.specs.declared.word.LeftCause.TheVariants.{Spent, Length}
use Rattle.nc_journal.specs.declared.alert.AlertLine.{AlertLine}
use Rattle.nc_journal.specs.declared.alert.AlertLine.TheVariants as lines
use Rattle.nc_buffer.specs.declared.entry.Entry.{Entry}
use Rattle.nc_buffer.specs.Buffer.{is_spent, first_past, with_grant}
use Rattle.nc_slots.specs.declared.slot.Slot.{Slot}
use Rattle.nc_owner.specs.declared.channel.Channel.{Channel}
use Rattle.nc_owner.specs.declared.desk.Desk.{Desk}
use Rattle.nc_owner.specs.declared.order.Order.{Order}
use Rattle.nc_owner.specs.AlertLines.{OutLine}
use Rattle.nc_owner.specs.State.{OwnerAt, entries_of, found, opened, exists, bench_of}
use Rattle.nc_owner.specs.Leave.{left_event, leavers, spend_events}
use Rattle.nc_owner.specs.Poll.{free_slots, freed_events}
use Rattle.nc_owner.specs.Publish.{Polls, Outcome, late, full, stored, asked, roomy, leaving, lowest_slot, granted_events, notices, answer, stored_status, info_of, store_bench, stored_event, stamp, post_events, post_alerts, publish_events, publish_alerts, publish_cleared, publish_outcome, cleared_events}
use Rattle.nc_owner.specs.Look.{found_on, looked_event, found_events, found_line, look_ready, look_events, look_alerts, answered, counted_at}
use Rattle.nc_owner.specs.OtherSteps.{touched_of, touch_events_of, info_alerts, join_events, part_events, polled_events}
use Rattle.nc_owner.specs.Remove.{removal_events, removal_alerts}
use Rattle.nc_owner_laws.specs.Aside.{IsAside}
use Rattle.nc_owner_laws.specs.OwnerTold.{channel_of}
use Rattle.nc_owner_laws.specs.Filters.{new_desk}
use Rattle.nc_owner_laws.specs.Buffered.{Brief, brief_entry, brief_message, entries_in, LeavesStored}
use Rattle.nc_owner_laws.specs.Kinds.{IsOfOwner, AreOfOwner}
use Rattle.nc_owner_laws.specs.OwnerStanding.{Stands}
use Rattle.nc_owner_laws.specs.Weave.{weave, numbered}
use Rattle.nc_owner_laws.proofs.Events.{name_self}
use Rattle.nc_owner_laws.proofs.EventKinds.{of_removal, owners_kinds}
use Rattle.nc_owner_laws.proofs.Sweeping.{told_so}
use Rattle.nc_owner_laws.proofs.After.{name_is, found_after}
use Rattle.nc_owner_laws.proofs.StepEvents as telling
use Rattle.nc_owner_laws.proofs.Stamping as stamping
use Rattle.nc_owner_laws.proofs.Stamping.{onto_append}
use Rattle.nc_owner_laws.proofs.Buffering.{buffer_law}
use Rattle.nc_owner_laws.proofs.Hearing as hearing
use Rattle.nc_owner_laws.proofs.Hearing.{IsStill}
use Rattle.nc_owner_laws.proofs.Owners.{calm_onto}
use Rattle.nc_owner_laws.proofs.OwnerSteps.{behind, front_stored, calm_found, found_buffer}
use Rattle.nc_worker_state.specs.Setup.{Setup}
use Rattle.nc_world_laws.proofs.WorkerKinds.{IsBy}
use Rattle.nc_world_laws.proofs.OwnerTheme.{OwnerFact, IsOwnerTheme}
use Rattle.nc_world_laws.proofs.Local.{all_of, all_append, eq_of}
use Rattle.nc_world_laws.proofs.Telling.{woven_made}
use Rattle.nc_world_laws.proofs.Stepping.{is_me, as_me}
use Rattle.nc_world_sent_holds.proofs.Granted.{IsStored, IsGranted, IsLooked, Grants, GrantsAt}
use Rattle.nc_world_sent_holds.proofs.Keeping.{IsAmong, SlotsAt, buffered_kept, kept_stored}

-- an answer with a grant is made behind the grant, behind its look, at which the channel's buffer had the message in the granted slot
pub record TiedLook (v w number g slot : ℕ) (id : Id) (h : List Event) : Type 0 where
  pub chan : List ℕ
  pub q : ℕ
  pub after : Id
  pub floor : ℕ
  pub seen : List Event
  pub place : h ≡ Granted v g slot w ∷ Looked v q w number chan after floor (Some id) ∷ seen
  pub among : IsAmong (buffer chan seen) id slot

abbrev pub Tied : ℕ → ℕ → AlertLine → List Event → Type 0
Tied v w (lines.LookAnswer number q floor (Some id) (Some g) (Some slot)) h = TiedLook v w number g slot id h
Tied v w (lines.Notice c id g slot) h = IsGranted v g slot w c id h
Tied v w line h = Unit {0}

abbrev pub TiedAt : List Event → Event → Type 0
TiedAt h (Made v w n a) = Tied v w a h
TiedAt h _ = Unit {0}

-- ---- alerts that bring no message

abbrev BringsNothing : AlertLine → Type 0
BringsNothing (lines.LookAnswer number q floor past g slot) = ⊥
BringsNothing (lines.Notice c id g slot) = ⊥
BringsNothing line = Unit {0}

abbrev IsUntied : Event → Type 0
IsUntied (Made v w n a) = BringsNothing a
IsUntied _ = Unit {0}

nothing_tied : (v w : ℕ) (a : AlertLine) (h : List Event) → BringsNothing a → Tied v w a h
nothing_tied v w (lines.LookAnswer number q floor past g slot) h p = absurd p
nothing_tied v w (lines.Notice c id g slot) h p = absurd p
nothing_tied v w a h p = tt

untied_one : (e : Event) (h : List Event) → IsUntied e → TiedAt h e
untied_one (Made v w n a) h p = nothing_tied v w a h p
untied_one e h p = tt

untied_onto : (es h : List Event) → AllByRecursion IsUntied es → Along TiedAt h → Along TiedAt (onto es h)
untied_onto [] h p k = k
untied_onto (e ∷ es) h p k = untied_onto es (e ∷ h) p.1 (k, untied_one e h p.0)

untied_owner : (me : ℕ) (e : Event) → IsOfOwner me e → IsUntied e
untied_owner me (Made v w n a) p = absurd p
untied_owner me e p = tt

untied_left : (w : ℕ) (c : List ℕ) (cause : LeftCause) (es : List Entry) → AllByRecursion IsUntied (map (left_event w c cause) es)
untied_left w c cause [] = tt
untied_left w c cause (e ∷ es) = (tt, untied_left w c cause es)

aside_untied : (e : Event) → IsAside e → IsUntied e
aside_untied (Made w to n a) p = by a p
  where
    by : (a : AlertLine) → IsAside (Made w to n a) → BringsNothing a
    by (lines.LookAnswer number q floor past g slot) p = absurd p
    by (lines.Notice c id g slot) p = absurd p
    by a p = tt
aside_untied e p = tt

-- a step that makes only such alerts
module _ (me : ℕ) (next : ℕ → ℕ) (h : List Event) (fact : Along TiedAt h) where
  plain : (v : ℕ) (es : List Event) (alerts : List OutLine) → AreOfOwner v es → AllByRecursion (λ a. BringsNothing a.line) alerts → Along TiedAt (onto (weave me next es alerts) h)
  plain v es alerts of none =
      untied_onto (weave me next es alerts) h (woven_made IsUntied (λ (a : OutLine). BringsNothing a.line) me (λ n a q. q) next es alerts (all_of (IsOfOwner v) IsUntied (untied_owner v) es of) none) fact

info_none : (b : Bool) (r : ℕ) (info : Info) → BringsNothing (cond b (lines.InfoAnswer r 200 (Some info)) (lines.InfoAnswer r 404 None))
info_none true r info = tt
info_none false r info = tt

-- ---- a look

same_briefs : (place : ℕ) (es : List Entry) → map brief_entry (with_grant place es) ≡ map brief_entry es
same_briefs zero [] = refl
same_briefs (suc place) [] = refl
same_briefs zero (e ∷ es) = refl
same_briefs (suc place) (e ∷ es) = ap (λ (l : List Brief). brief_entry e ∷ l) (same_briefs place es)

counted_briefs : (place : Option ℕ) (es : List Entry) → map brief_entry (counted_at place es) ≡ map brief_entry es
counted_briefs None es = refl
counted_briefs (Some place) es = same_briefs place es

first_same : (x y : Brief) (xs ys : List Brief) → x ∷ xs ≡ y ∷ ys → x ≡ y
first_same x y xs ys e = cc

rest_same : (x y : Brief) (xs ys : List Brief) → x ∷ xs ≡ y ∷ ys → xs ≡ ys
rest_same x y xs ys e = cc

no_brief : (x : Brief) (xs : List Brief) → x ∷ xs ≡ [] → ⊥
no_brief x xs e = absurd cc

some_same : (x y : Entry) → Some x ≡ Some y → x ≡ y
some_same x y e = cc

-- an entry that was found is among the messages that have the same ids and slots
found_among : (test : Entry → Bool) (es : List Entry) (ms : List KeptMessage) (e : Entry) → find test es ≡ Some e → map brief_entry es ≡ map brief_message ms → IsAmong ms e.id e.slot
found_among test [] ms e is same = absurd cc
found_among test (x ∷ es) [] e is same = absurd (no_brief (brief_entry x) (map brief_entry es) same)
found_among test (x ∷ es) (m ∷ ms) e is same = by (test x) is (λ (i : find test es ≡ Some e). found_among test es ms e i (rest_same (brief_entry x) (brief_message m) (map brief_entry es) (map brief_message ms) same))
  where
    head : brief_entry x ≡ brief_message m
    head = first_same (brief_entry x) (brief_message m) (map brief_entry es) (map brief_message ms) same

    by : (b : Bool) → cond b (Some x) (find test es) ≡ Some e → (find test es ≡ Some e → IsAmong ms e.id e.slot) → IsAmong (m ∷ ms) e.id e.slot
    by true i go = let it = some_same x e i in inl (sym (ap (λ (y : Brief). y.id) head) ∙ ap (λ (y : Entry). y.id) it, sym (ap (λ (y : Brief). y.slot) head) ∙ ap (λ (y : Entry). y.slot) it, tt)
    by false i go = inr (go i)

found_tied : (v : ℕ) (next : ℕ → ℕ) (from number : ℕ) (c : List ℕ) (id : Id) (x : Option Entry) (d : Desk) (h : List Event) → ((e : Entry) → x ≡ Some e → IsAmong (buffer c h) e.id e.slot) → d.me ≡ v → Along TiedAt h
    → Along TiedAt (onto (weave v next (looked_event from number c id x d ∷ found_events from x d) (found_line from number x d ∷ [])) h)
found_tied v next from number c id None d h has me k = ((k, tt), tt)
found_tied v next from number c id (Some e) d h has me k = (
  ((k, tt), tt),
  record {
    chan = c;
    q = d.looks;
    after = id;
    floor = d.floor;
    seen = h;
    place = ap (λ (z : ℕ). Granted z d.grants e.slot from ∷ Looked z d.looks from number c id d.floor (Some e.id) ∷ h) me;
    among = has e refl;
  },
)

-- ---- the notices of a publish

told_tied : (v : ℕ) (next : ℕ → ℕ) (c : List ℕ) (id : Id) (slot g : ℕ) (marks : List ℕ) (out : OutLine) (h : List Event) → BringsNothing out.line → IsStored v slot c id h → Along TiedAt h
    → Along TiedAt (onto (weave v next (granted_events v slot g marks) (notices c id slot g marks ++ out ∷ [])) h)
told_tied v next c id slot g [] out h none there k = (k, nothing_tied v out.to out.line h none)
told_tied v next c id slot g (to ∷ marks) out h none there k =
    told_tied v (numbered next to) c id slot (g + 1) marks out (Made v to (next to) (lines.Notice c id g slot) ∷ Granted v g slot to ∷ h) none there ((k, tt), inl (refl, refl, refl, refl, there))

-- ---- an owner's steps

module _ (me workers slots first : ℕ) (next : ℕ → ℕ) (row : List (Slot Message)) (h : List Event) (s : OwnerAt) (k : Stands me workers slots first row h s) (fact : Along TiedAt h) where
  abbrev front : List ℕ → List Event
  front c = touch_events_of c row s ++ spend_events c (touched_of c row s)

  -- what a look finds is buffered in its slot
  look_among : (from number : ℕ) (c : List ℕ) (id : Id) (e : Entry) → found_on id (look_ready c row s) ≡ Some e → IsAmong (buffer c (onto (front c) h)) e.id e.slot
  look_among from number c id e there =
      let b = look_ready c row s in
      let x = found_on id b in
      let last = looked_event from number c id x b.desk ∷ found_events from x b.desk in
      let whole = look_events from number c id row s in
      let es = entries_of b.channel in
      let t = telling.look_tells (new_desk me workers slots first) h from number c id row s k.fits k.tells in
      let is : channel_of (new_desk me workers slots first) c (onto whole h) ≡ Some (answered from id b).channel =
      sym (t.channels c) ∙ found_after c c true (answered from id b) s k.fits.names ∙ ap (λ y. cond y (Some (answered from id b).channel) (found c s)) (name_is c c ∙ name_self c) in
      let lawful : Along LeavesStored (onto whole h) = subst (Along LeavesStored) (sym (onto_append (front c) last h)) (calm_onto last (onto (front c) h) (calm_found from number c id x b.desk) (front_stored me workers slots first next row h s k c)) in
      let stamped : IsStamped workers (onto whole h) = (stamping.others_stamped workers h c row s k.stamped).look from number id in
      let law : map brief_entry (entries_in (channel_of (new_desk me workers slots first) c (onto whole h))) ≡ map brief_message (buffer c (onto whole h)) = buffer_law me workers slots first c (onto whole h) stamped lawful in
      let has : map brief_entry (entries_in (channel_of (new_desk me workers slots first) c (onto whole h))) ≡ map brief_entry (counted_at (first_past id es) es) = ap (λ (o : Option Channel). map brief_entry (entries_in o)) is in
      let sees : buffer c (onto whole h) ≡ buffer c (onto (front c) h) = ap (buffer c) (onto_append (front c) last h) ∙ found_buffer from number c id x b.desk c (onto (front c) h) in
      found_among (λ (y : Entry). is_past y.id id) es (buffer c (onto (front c) h)) e there (sym (counted_briefs (first_past id es) es) ∙ sym has ∙ law ∙ ap (map brief_message) sees)

  front_still : (c : List ℕ) → AllByRecursion IsStill (front c)
  front_still c = hearing.still_append (touch_events_of c row s) (spend_events c (touched_of c row s)) (hearing.still_touch c row s) (hearing.still_left s.desk.me c Spent (leavers is_spent (touched_of c row s)))

  front_tied : (c : List ℕ) → Along TiedAt (onto (front c) h)
  front_tied c = untied_onto (front c) h
      (all_append IsUntied (touch_events_of c row s) (spend_events c (touched_of c row s)) (all_of (IsOfOwner s.desk.me) IsUntied (untied_owner s.desk.me) (touch_events_of c row s) ((owners_kinds row s).touch c)) (untied_left s.desk.me c Spent (leavers is_spent (touched_of c row s))))
      fact

  look_tied : (from number : ℕ) (c : List ℕ) (id : Id) → Along TiedAt (onto (weave s.desk.me next (look_events from number c id row s) (look_alerts from number c id row s)) h)
  look_tied from number c id =
      let b = look_ready c row s in
      let x = found_on id b in
      behind (Along TiedAt) s.desk.me next (front c) (looked_event from number c id x b.desk ∷ found_events from x b.desk) (found_line from number x b.desk ∷ []) h (front_still c)
      (found_tied s.desk.me next from number c id x b.desk (onto (front c) h) (look_among from number c id) refl (front_tied c))

  -- ---- a publish

  module _ (from : ℕ) (o : Order) (polls : Polls) where
    clear_tied : Along TiedAt (onto (cleared_events polls.retired o.chan (bench_of o.chan row s)) h)
    clear_tied = untied_onto (cleared_events polls.retired o.chan (bench_of o.chan row s)) h
        (all_append IsUntied (touch_events_of o.chan row s) (freed_events s.desk.me polls.retired) (all_of (IsOfOwner s.desk.me) IsUntied (untied_owner s.desk.me) (touch_events_of o.chan row s) ((owners_kinds row s).touch o.chan))
        (all_of (IsOfOwner s.desk.me) IsUntied (untied_owner s.desk.me) (freed_events s.desk.me polls.retired) ((owners_kinds row s).polled polls.retired)))
        fact

    post_tied : (y : Outcome) → Along TiedAt (onto (weave s.desk.me next (post_events y from o polls (publish_cleared o polls row s)) (post_alerts y from o polls (publish_cleared o polls row s))) (onto (cleared_events polls.retired o.chan (bench_of o.chan row s)) h))
    post_tied late = (clear_tied, tt)
    post_tied (full usage) = (clear_tied, tt)
    post_tied stored =
        let c = o.chan in
        let b = publish_cleared o polls row s in
        let a = asked polls.leaving b in
        let r = roomy o.length polls.left a in
        let slot = lowest_slot r.row in
        let marks = (opened c s).marks in
        let go = leaving o.length a in
        let lefts = map (left_event s.desk.me c Length) go in
        let freed = freed_events s.desk.me polls.left in
        let room = lefts ++ freed in
        let h1 = onto (cleared_events polls.retired c (bench_of c row s)) h in
        let event = stored_event from o (stamp r) slot (length (opened c s).members) r.desk in
        let grants = granted_events s.desk.me slot s.desk.grants marks in
        let out = answer from o.r (stored_status b.channel) (Some (info_of (store_bench o polls.left a).channel)) None in
        let alerts = notices c (stamp r) slot s.desk.grants marks ++ out ∷ [] in
        let still : AllByRecursion IsStill room = hearing.still_append lefts freed (hearing.still_left s.desk.me c Length go) (hearing.still_freed s.desk.me (free_slots polls.left)) in
        behind (Along TiedAt) s.desk.me next room (event ∷ grants) alerts h1 still
        (told_tied s.desk.me next c (stamp r) slot s.desk.grants marks out (event ∷ onto room h1) tt (inl (refl, refl, refl, refl))
        (untied_onto room h1 (all_append IsUntied lefts freed (untied_left s.desk.me c Length go) (all_of (IsOfOwner s.desk.me) IsUntied (untied_owner s.desk.me) freed ((owners_kinds row s).polled polls.left))) clear_tied, tt))

    publish_tied : Along TiedAt (onto (weave s.desk.me next (publish_events from o polls row s) (publish_alerts from o polls row s)) h)
    publish_tied =
        behind (Along TiedAt) s.desk.me next (cleared_events polls.retired o.chan (bench_of o.chan row s)) (post_events (publish_outcome o polls row s) from o polls (publish_cleared o polls row s)) (post_alerts (publish_outcome o polls row s) from o polls (publish_cleared o polls row s)) h
        (hearing.still_append (touch_events_of o.chan row s) (freed_events s.desk.me polls.retired) (hearing.still_touch o.chan row s) (hearing.still_freed s.desk.me (free_slots polls.retired)))
        (post_tied (publish_outcome o polls row s))

-- ---- the theme

abbrev pub TiedFact : OwnerFact
TiedFact row h s = Along TiedAt h

pub tied_theme : (setup : Setup) (me : ℕ) → IsOwnerTheme setup me TiedFact
tied_theme setup me = record {
  new = tt;
  step = λ next row counts h s base fact.
      let is = is_me me setup.workers setup.slots setup.first row h s base.keeps.stands in
      let kinds = owners_kinds row s in
      record {
        aside = λ e p by. (fact, untied_one e h (aside_untied e p));
        clock = λ now. (fact, tt);
        raise = λ fence lt. (fact, tt);
        edge = λ from number k c owns there swept. ((fact, tt), tt);
        join = λ m c owns there. plain me next h fact s.desk.me (join_events m c row s) [] (kinds.join m c) tt;
        part = λ m c owns there. plain me next h fact s.desk.me (part_events m c row s) [] (kinds.part m c) tt;
        info = λ from r c owns there. plain me next h fact s.desk.me (touch_events_of c row s) (info_alerts from r c row s) (kinds.touch c) (info_none (exists c s) r (info_of (touched_of c row s).channel), tt);
        touch = λ c owns. plain me next h fact s.desk.me (touch_events_of c row s) [] (kinds.touch c) tt;
        remove = λ c cause owns may. plain me next h fact s.desk.me (removal_events c cause s) (removal_alerts c s) (of_removal true cause c s) (told_so (λ a. BringsNothing a.line) c (λ ms to. tt) true s);
        look = λ from number c id owns there. as_me (Along TiedAt) me next h s is (look_events from number c id row s) (look_alerts from number c id row s) (look_tied me setup.workers setup.slots setup.first next row h s base.keeps.stands fact from number c id);
        polled = λ answers each. plain me next h fact s.desk.me (polled_events answers s) [] (kinds.polled answers) tt;
        publish = λ from o polls owns there fit. as_me (Along TiedAt) me next h s is (publish_events from o polls row s) (publish_alerts from o polls row s) (publish_tied me setup.workers setup.slots setup.first next row h s base.keeps.stands fact from o polls);
      };
}

-- ---- then each alert with a hold is of the message of that hold

module _ (v : ℕ) where
  line_grants : (w : ℕ) (a : AlertLine) (h : List Event) → AllByRecursion (IsBy v) h → Along SlotsAt h → Tied v w a h → Grants v w a h
  line_grants w (lines.LookAnswer number q floor (Some id) (Some g) (Some slot)) h b s t = record {
    chan = t.chan;
    looked = subst (IsLooked v w number t.chan) (sym t.place) (inl (refl, refl, refl, refl));
    granted = subst (IsGranted v g slot w t.chan id) (sym t.place) (inl (refl, refl, refl, refl, kept_stored v slot t.chan id t.seen (subst (AllByRecursion (IsBy v)) t.place b).1.1 (buffered_kept t.seen (subst (Along SlotsAt) t.place s).0.0 t.chan id slot t.among)));
  }
  line_grants w (lines.LookAnswer number q floor (Some id) (Some g) None) h b s t = tt
  line_grants w (lines.LookAnswer number q floor (Some id) None slot) h b s t = tt
  line_grants w (lines.LookAnswer number q floor None g slot) h b s t = tt
  line_grants w (lines.Notice c id g slot) h b s t = t
  line_grants w a h b s t = tt

  pub tied_grants : (h : List Event) → AllByRecursion (IsBy v) h → Along SlotsAt h → Along TiedAt h → Along GrantsAt h
  tied_grants [] b s t = tt
  tied_grants (Made x w n a ∷ h) b s t =
      (tied_grants h b.1 s.0 t.0, subst (λ (z : ℕ). Grants z w a h) (eq_of v x b.0) (line_grants w a h b.1 s.0 (subst (λ (z : ℕ). Tied z w a h) (sym (eq_of v x b.0)) t.1)))
  tied_grants (e ∷ h) b s t = (tied_grants h b.1 s.0 t.0, tt)
