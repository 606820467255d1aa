-- Each step of an owner keeps that it stands for its history.
use Rattle.std.proofs.Common.{◌≡◌, ℕ, zero, suc, ◌+◌, Bool, true, false, cond, not, List, [], ◌∷◌, ◌++◌, Option, Some, None, refl, sym, ap, ◌∙◌, subst, length, map, filter, take, find}
use Rattle.std.specs.Prelude.{◌==◌}
use Rattle.std.specs.List.{AllByRecursion}
use Rattle.std.proofs.lemmas.List.{append-nil}
use Rattle.nc_types.specs.Id.{Id, is_past}
use Rattle.nc_types.specs.Channel.{owner_of}
use Rattle.nc_types.specs.Message.{Message}
use Rattle.nc_journal.specs.History.{onto, Along}
use Rattle.nc_journal.specs.Stamp.{IsStamped, expiry}
use Rattle.nc_journal.specs.Message.{Message as Kept_message, published, buffer}
use Rattle.nc_journal.specs.Sending.{HasId}
use Rattle.nc_journal.specs.declared.event.Event.{Event}
use Rattle.nc_journal.specs.declared.event.Event.TheVariants.{Clock, Joined, Parted, Granted, Looked, Made}
use Rattle.nc_journal.specs.declared.word.LeftCause.{LeftCause}
use Rattle.nc_journal.specs.declared.word.LeftCause.TheVariants.{Expired, Spent, Length}
use Rattle.nc_buffer.specs.declared.entry.Entry.{Entry}
use Rattle.nc_buffer.specs.Buffer.{is_expired, is_spent, first_past}
use Rattle.nc_slots.specs.declared.slot.Slot.{Slot}
use Rattle.nc_owner.specs.declared.channel.Channel.{Channel}
use Rattle.nc_owner.specs.declared.desk.Desk.{Desk}
use Rattle.nc_owner.specs.declared.poll.PollAnswer.{PollAnswer}
use Rattle.nc_owner.specs.declared.member.Member.{Member}
use Rattle.nc_owner.specs.declared.order.Order.{Order}
use Rattle.nc_owner.specs.Members.{has_member}
use Rattle.nc_owner.specs.AlertLines.{OutLine}
use Rattle.nc_owner.specs.State.{OwnerAt, entries_of, found, opened, bench_of}
use Rattle.nc_owner.specs.Leave.{left_event, leavers, stayers, spend_events}
use Rattle.nc_owner.specs.Poll.{slot_of, free_slots, freed_event, freed_events}
use Rattle.nc_owner.specs.Publish.{Polls, Outcome, late, full, stored, asked, roomy, leaving, leaving_count, lowest_slot, granted_events, notices, answer, stored_status, info_of, store_bench, stored_event, stamp, post_events, post_alerts, publish_cleared, publish_outcome, publish_row, publish_after, cleared_events}
use Rattle.nc_owner.specs.Look.{found_on, looked_event, found_events, found_line, look_ready, look_events, look_alerts, look_row, look_after, answered, counted_at}
use Rattle.nc_owner.specs.OtherSteps.{touched_of, touched_row, touch_after, touch_events_of, join_events, join_after, part_events, part_after, parted_events, info_alerts, polled_events, polled_row, polled_after, with_clock}
use Rattle.nc_owner_laws.specs.OwnerFits.{OwnerFits}
use Rattle.nc_owner_laws.specs.OwnerTold.{channel_of, HistoryTells}
use Rattle.nc_owner_laws.specs.Filters.{new_desk}
use Rattle.nc_owner_laws.specs.Buffered.{entries_in, LeavesStored}
use Rattle.nc_owner_laws.specs.Weave.{weave}
use Rattle.nc_owner_laws.specs.Wake.{Wakes}
use Rattle.nc_owner_laws.specs.OwnerStanding.{NothingPast, Stands, NewStands, OthersStand, SweepStands, PublishStands}
use Rattle.nc_owner_laws.proofs.Kept.{all_append, all_filtered}
use Rattle.nc_owner_laws.proofs.Looking.{same_ids}
use Rattle.nc_owner_laws.proofs.Steps as keeping
use Rattle.nc_owner_laws.proofs.Events.{name_self}
use Rattle.nc_owner_laws.proofs.After.{Stays, name_is, found_after}
use Rattle.nc_owner_laws.proofs.StepEvents as telling
use Rattle.nc_owner_laws.proofs.Stamping as stamping
use Rattle.nc_owner_laws.proofs.Stamping.{IsPlain, onto_append}
use Rattle.nc_owner_laws.proofs.Buffering.{buffer_law}
use Rattle.nc_owner_laws.proofs.Weaving.{weave_first}
use Rattle.nc_owner_laws.proofs.Hearing as hearing
use Rattle.nc_owner_laws.proofs.Hearing.{IsStill}
use Rattle.nc_owner_laws.proofs.Owners.{all_woven, woven_tells, IsBy, own_onto, by_is, by_left, by_freed, by_granted, by_parted, by_found, IsCalm, calm_onto, left_onto, entries_stored, to_messages, IsIdle, idle_onto, found_past, none_past, stored_past}

pub new_stands : NewStands
new_stands me workers slots first = record {
  fits = keeping.new_fits me workers slots first;
  local = refl;
  tells = telling.new_tells me workers slots first;
  stamped = tt;
  stored = tt;
  wakes = hearing.new_wakes;
  past = λ w c q x. absurd cc;
}

-- ---- lists of events

calm_freed : (w : ℕ) (ks : List ℕ) → AllByRecursion IsCalm (map (freed_event w) ks)
calm_freed w [] = tt
calm_freed w (k ∷ ks) = (tt, calm_freed w ks)

calm_granted : (w slot g : ℕ) (marks : List ℕ) → AllByRecursion IsCalm (granted_events w slot g marks)
calm_granted w slot g [] = tt
calm_granted w slot g (to ∷ marks) = (tt, calm_granted w slot (g + 1) marks)

calm_parted : (b : Bool) (w : ℕ) (c : List ℕ) (m : Member) → AllByRecursion IsCalm (cond b (Parted w c m.from m.k ∷ []) [])
calm_parted true w c m = (tt, tt)
calm_parted false w c m = tt

pub calm_found : (from number : ℕ) (c : List ℕ) (id : Id) (x : Option Entry) (d : Desk) → AllByRecursion IsCalm (looked_event from number c id x d ∷ found_events from x d)
calm_found from number c id None d = (tt, tt)
calm_found from number c id (Some e) d = (tt, (tt, tt))

idle_left : (w : ℕ) (c : List ℕ) (cause : LeftCause) (es : List Entry) → AllByRecursion IsIdle (map (left_event w c cause) es)
idle_left w c cause [] = tt
idle_left w c cause (e ∷ es) = (tt, idle_left w c cause es)

idle_freed : (w : ℕ) (ks : List ℕ) → AllByRecursion IsIdle (map (freed_event w) ks)
idle_freed w [] = tt
idle_freed w (k ∷ ks) = (tt, idle_freed w ks)

idle_granted : (w slot g : ℕ) (marks : List ℕ) → AllByRecursion IsIdle (granted_events w slot g marks)
idle_granted w slot g [] = tt
idle_granted w slot g (to ∷ marks) = (tt, idle_granted w slot (g + 1) marks)

idle_parted : (b : Bool) (w : ℕ) (c : List ℕ) (m : Member) → AllByRecursion IsIdle (cond b (Parted w c m.from m.k ∷ []) [])
idle_parted true w c m = (tt, tt)
idle_parted false w c m = tt

same_left : (w : ℕ) (c d : List ℕ) (cause : LeftCause) (es : List Entry) (h : List Event) → published d (onto (map (left_event w c cause) es) h) ≡ published d h
same_left w c d cause [] h = refl
same_left w c d cause (e ∷ es) h = same_left w c d cause es _

same_freed : (w : ℕ) (d : List ℕ) (ks : List ℕ) (h : List Event) → published d (onto (map (freed_event w) ks) h) ≡ published d h
same_freed w d [] h = refl
same_freed w d (k ∷ ks) h = same_freed w d ks _

all_take : {X : Type 0} (P : X → Type 0) (n : ℕ) (xs : List X) → AllByRecursion P xs → AllByRecursion P (take n xs)
all_take P zero xs a = tt
all_take P (suc n) [] a = tt
all_take P (suc n) (x ∷ xs) a = (a.0, all_take P n xs a.1)

none_found : (test : Entry → Bool) (es : List Entry) → find test es ≡ None → AllByRecursion (λ e. test e ≡ false) es
none_found test [] n = tt
none_found test (e ∷ es) n = by (test e) refl n (none_found test es)
  where
    by : (b : Bool) → test e ≡ b → cond b (Some e) (find test es) ≡ None → (find test es ≡ None → AllByRecursion (λ x. test x ≡ false) es) → AllByRecursion (λ x. test x ≡ false) (e ∷ es)
    by true is m h = absurd cc
    by false is m h = (is, h m)

counted_ids : (P : Id → Type 0) (place : Option ℕ) (es : List Entry) → AllByRecursion (λ e. P e.id) es → AllByRecursion (λ e. P e.id) (counted_at place es)
counted_ids P None es a = a
counted_ids P (Some k) es a = same_ids P k es a

pub found_buffer : (from number : ℕ) (c : List ℕ) (id : Id) (x : Option Entry) (k : Desk) (d : List ℕ) (h : List Event) → buffer d (onto (looked_event from number c id x k ∷ found_events from x k) h) ≡ buffer d h
found_buffer from number c id None k d h = refl
found_buffer from number c id (Some e) k d h = refl

found_nothing : (v : ℕ) (next : ℕ → ℕ) (from number : ℕ) (c : List ℕ) (id : Id) (x : Option Entry) (d : Desk) (h : List Event) → (x ≡ None → AllByRecursion (λ m. is_past m.id id ≡ false) (buffer c h)) → NothingPast h
    → NothingPast (onto (weave v next (looked_event from number c id x d ∷ found_events from x d) (found_line from number x d ∷ [])) h)
found_nothing v next from number c id None d h none k = idle_onto (Made v from (next from) (found_line from number None d).line ∷ []) (Looked d.me d.looks from number c id d.floor None ∷ h) (tt, tt) (none_past d.me d.looks from number c id d.floor h (none refl) k)
found_nothing v next from number c id (Some e) d h none k =
    idle_onto (Granted d.me d.grants e.slot from ∷ Made v from (next from) (found_line from number (Some e) d).line ∷ []) (Looked d.me d.looks from number c id d.floor (Some e.id) ∷ h) (tt, (tt, tt)) (found_past d.me d.looks from number c id d.floor e.id h k)

-- a channel was found whose entries none are past an id
option_some : (o : Option Channel) (x : Channel) (P : Entry → Type 0) → o ≡ Some x → AllByRecursion P (entries_of x) → AllByRecursion P (entries_in o)
option_some o x P e a = subst (λ (y : Option Channel). AllByRecursion P (entries_in y)) (sym e) a

module _ (me workers slots first : ℕ) (next : ℕ → ℕ) (row : List (Slot Message)) (h : List Event) (s : OwnerAt) (k : Stands me workers slots first row h s) where
  is_me : s.desk.me ≡ me
  is_me = ap (λ (d : Desk). d.me) k.tells.desk ∙ stamping.me_law (new_desk me workers slots first) h

  -- a step from its parts
  assembled : (row' : List (Slot Message)) (s' : OwnerAt) (es : List Event) (alerts : List OutLine) → OwnerFits row' s' → AllByRecursion (IsBy me) es → AllByRecursion Stays es → HistoryTells (new_desk me workers slots first) (onto es h) s'
      → IsStamped workers (onto (weave s.desk.me next es alerts) h) → Along LeavesStored (onto (weave s.desk.me next es alerts) h) → Wakes (onto (weave s.desk.me next es alerts) h) → NothingPast (onto (weave s.desk.me next es alerts) h)
      → Stands me workers slots first row' (onto (weave s.desk.me next es alerts) h) s'
  assembled row' s' es alerts fits by keeps tells stamped were_stored wakes past = record {
    fits = fits;
    local = own_onto me (weave s.desk.me next es alerts) h (all_woven (IsBy me) s.desk.me next (λ to n a. by_is me s.desk.me is_me) es alerts by) k.local;
    tells = woven_tells (new_desk me workers slots first) s.desk.me next es alerts h s' keeps tells;
    stamped = stamped;
    stored = were_stored;
    wakes = wakes;
    past = past;
  }

  -- the entries of a channel that leave were stored
  leavers_stored : (c : List ℕ) → AllByRecursion (λ e. HasId (published c h) e.id) (entries_of (opened c s))
  leavers_stored c = entries_stored me workers slots first h c s k.tells k.stamped k.stored

  touch_stored : (c : List ℕ) → Along LeavesStored (onto (touch_events_of c row s) h)
  touch_stored c = left_onto s.desk.me c Expired (leavers (is_expired s.desk.clock) (bench_of c row s)) h (all_filtered (λ e. HasId (published c h) e.id) (is_expired s.desk.clock) (entries_of (opened c s)) (leavers_stored c)) k.stored

  -- a touch and calm events behind it
  calm_stored : (c : List ℕ) (rest : List Event) (alerts : List OutLine) → AllByRecursion IsCalm rest → Along LeavesStored (onto (weave s.desk.me next (touch_events_of c row s ++ rest) alerts) h)
  calm_stored c rest alerts calm =
      subst (λ (l : List Event). Along LeavesStored (onto l h)) (sym (weave_first s.desk.me next (touch_events_of c row s) rest alerts (hearing.stills (touch_events_of c row s) (hearing.still_touch c row s)).1))
      (subst (Along LeavesStored) (sym (onto_append (touch_events_of c row s) (weave s.desk.me next rest alerts) h))
      (calm_onto (weave s.desk.me next rest alerts) (onto (touch_events_of c row s) h) (all_woven IsCalm s.desk.me next (λ to n a. tt) rest alerts calm) (touch_stored c)))

  touch_by : (c : List ℕ) → AllByRecursion (IsBy me) (touch_events_of c row s)
  touch_by c = by_left me s.desk.me is_me c Expired (leavers (is_expired s.desk.clock) (bench_of c row s))

  touch_stays : (c : List ℕ) → AllByRecursion Stays (touch_events_of c row s)
  touch_stays c = telling.left_stays s.desk.me c Expired (leavers (is_expired s.desk.clock) (bench_of c row s))

  touch_idle : (c : List ℕ) → AllByRecursion IsIdle (touch_events_of c row s)
  touch_idle c = idle_left s.desk.me c Expired (leavers (is_expired s.desk.clock) (bench_of c row s))

  plain_woven : (es : List Event) (alerts : List OutLine) → AllByRecursion IsPlain es → IsStamped workers (onto (weave s.desk.me next es alerts) h)
  plain_woven es alerts p = stamping.plain_onto workers (weave s.desk.me next es alerts) h (all_woven IsPlain s.desk.me next (λ to n a. tt) es alerts p) k.stamped

  idle_woven : (es : List Event) (alerts : List OutLine) → AllByRecursion IsIdle es → NothingPast (onto (weave s.desk.me next es alerts) h)
  idle_woven es alerts i = idle_onto (weave s.desk.me next es alerts) h (all_woven IsIdle s.desk.me next (λ to n a. tt) es alerts i) k.past

  join_stands : (m : Member) (c : List ℕ) → Stands me workers slots first (touched_row c row s) (onto (weave s.desk.me next (join_events m c row s) []) h) (join_after m c row s)
  join_stands m c = let one = Joined s.desk.me c m.from m.k ∷ [] in assembled (touched_row c row s) (join_after m c row s) (touch_events_of c row s ++ one) []
      (keeping.join_fits m c row s k.fits)
      (all_append (IsBy me) (touch_events_of c row s) one (touch_by c) (by_is me s.desk.me is_me, tt))
      (all_append Stays (touch_events_of c row s) one (touch_stays c) (tt, tt))
      (telling.join_tells (new_desk me workers slots first) h m c row s k.fits k.tells)
      (plain_woven (touch_events_of c row s ++ one) [] (all_append IsPlain (touch_events_of c row s) one (stamping.plain_touch c row s) (tt, tt)))
      (calm_stored c one [] (tt, tt))
      ((hearing.others_wake h next c row s k.wakes).join m)
      (idle_woven (touch_events_of c row s ++ one) [] (all_append IsIdle (touch_events_of c row s) one (touch_idle c) (tt, tt)))

  part_stands : (m : Member) (c : List ℕ) → Stands me workers slots first (touched_row c row s) (onto (weave s.desk.me next (part_events m c row s) []) h) (part_after m c row s)
  part_stands m c = let more = parted_events s.desk.me m c (opened c s) in let b = has_member m (opened c s).members in assembled (touched_row c row s) (part_after m c row s) (touch_events_of c row s ++ more) []
      (keeping.part_fits m c row s k.fits)
      (all_append (IsBy me) (touch_events_of c row s) more (touch_by c) (by_parted me s.desk.me is_me b c m))
      (all_append Stays (touch_events_of c row s) more (touch_stays c) (telling.if_stays b s.desk.me c m))
      (telling.part_tells (new_desk me workers slots first) h m c row s k.fits k.tells)
      (plain_woven (touch_events_of c row s ++ more) [] (all_append IsPlain (touch_events_of c row s) more (stamping.plain_touch c row s) (stamping.plain_parted b s.desk.me c m)))
      (calm_stored c more [] (calm_parted b s.desk.me c m))
      ((hearing.others_wake h next c row s k.wakes).part m)
      (idle_woven (touch_events_of c row s ++ more) [] (all_append IsIdle (touch_events_of c row s) more (touch_idle c) (idle_parted b s.desk.me c m)))

  info_stands : (from r : ℕ) (c : List ℕ) → Stands me workers slots first (touched_row c row s) (onto (weave s.desk.me next (touch_events_of c row s) (info_alerts from r c row s)) h) (touch_after c row s)
  info_stands from r c = assembled (touched_row c row s) (touch_after c row s) (touch_events_of c row s) (info_alerts from r c row s)
      (keeping.touch_fits c row s k.fits)
      (touch_by c) (touch_stays c)
      (telling.touch_tells (new_desk me workers slots first) h c row s k.fits k.tells)
      (plain_woven (touch_events_of c row s) (info_alerts from r c row s) (stamping.plain_touch c row s))
      (subst (λ (l : List Event). Along LeavesStored (onto (weave s.desk.me next l (info_alerts from r c row s)) h)) (append-nil (touch_events_of c row s)) (calm_stored c [] (info_alerts from r c row s) tt))
      ((hearing.others_wake h next c row s k.wakes).info from r)
      (idle_woven (touch_events_of c row s) (info_alerts from r c row s) (touch_idle c))

  sweep_stands_at : (c : List ℕ) → Stands me workers slots first (touched_row c row s) (onto (weave s.desk.me next (touch_events_of c row s) []) h) (touch_after c row s)
  sweep_stands_at c = assembled (touched_row c row s) (touch_after c row s) (touch_events_of c row s) []
      (keeping.touch_fits c row s k.fits)
      (touch_by c) (touch_stays c)
      (telling.touch_tells (new_desk me workers slots first) h c row s k.fits k.tells)
      (plain_woven (touch_events_of c row s) [] (stamping.plain_touch c row s))
      (subst (λ (l : List Event). Along LeavesStored (onto (weave s.desk.me next l []) h)) (append-nil (touch_events_of c row s)) (calm_stored c [] [] tt))
      (hearing.sweep_wakes h next c row s k.wakes)
      (idle_woven (touch_events_of c row s) [] (touch_idle c))

  polled_stands : (answers : List PollAnswer) → map slot_of answers ≡ s.desk.retired → Stands me workers slots first (polled_row answers row) (onto (weave s.desk.me next (polled_events answers s) []) h) (polled_after answers s)
  polled_stands answers each = assembled (polled_row answers row) (polled_after answers s) (polled_events answers s) []
      (keeping.polled_all_fits answers row s each k.fits)
      (by_freed me s.desk.me is_me (free_slots answers))
      (telling.freed_stays s.desk.me (free_slots answers))
      (telling.polled_tells (new_desk me workers slots first) h answers row s each k.fits k.tells)
      (plain_woven (polled_events answers s) [] (stamping.plain_freed s.desk.me (free_slots answers)))
      (calm_onto (weave s.desk.me next (polled_events answers s) []) h (all_woven IsCalm s.desk.me next (λ to n a. tt) (polled_events answers s) [] (calm_freed s.desk.me (free_slots answers))) k.stored)
      ((hearing.others_wake h next [] row s k.wakes).polled answers)
      (idle_woven (polled_events answers s) [] (idle_freed s.desk.me (free_slots answers)))

  clock_stands : (now : ℕ) → Stands me workers slots first row (Clock s.desk.me now ∷ h) (with_clock now s)
  clock_stands now = record {
    fits = keeping.clock_fits now row s k.fits;
    local = own_onto me (Clock s.desk.me now ∷ []) h (by_is me s.desk.me is_me, tt) k.local;
    tells = telling.clock_tells (new_desk me workers slots first) h now s k.tells;
    stamped = (k.stamped, tt);
    stored = (k.stored, tt);
    wakes = record { same = k.wakes.same; waits = k.wakes.waits };
    past = λ w c q x. k.past w c q x;
  }

  -- ---- a look

  pub front_stored : (c : List ℕ) → Along LeavesStored (onto (touch_events_of c row s ++ spend_events c (touched_of c row s)) h)
  front_stored c =
      let go = leavers (is_expired s.desk.clock) (bench_of c row s) in
      let fresh = stayers (is_expired s.desk.clock) (entries_of (opened c s)) in
      subst (Along LeavesStored) (sym (onto_append (touch_events_of c row s) (spend_events c (touched_of c row s)) h))
      (left_onto s.desk.me c Spent (leavers is_spent (touched_of c row s)) (onto (touch_events_of c row s) h)
      (subst (λ (ms : List Kept_message). AllByRecursion (λ e. HasId ms e.id) (filter is_spent fresh)) (sym (same_left s.desk.me c c Expired go h))
      (all_filtered (λ e. HasId (published c h) e.id) is_spent fresh (all_filtered (λ e. HasId (published c h) e.id) (λ e. not (is_expired s.desk.clock e)) (entries_of (opened c s)) (leavers_stored c))))
      (touch_stored c))

  look_nothing : (from number : ℕ) (c : List ℕ) (id : Id) → found_on id (look_ready c row s) ≡ None → AllByRecursion (λ m. is_past m.id id ≡ false) (buffer c (onto (touch_events_of c row s ++ spend_events c (touched_of c row s)) h))
  look_nothing from number c id none =
      let b = look_ready c row s in
      let x = found_on id b in
      let front = touch_events_of c row s ++ spend_events c (touched_of c row s) in
      let last = looked_event from number c id x b.desk ∷ found_events from x b.desk in
      let whole = look_events from number c id row s in
      let es = entries_of b.channel in
      let t = telling.look_tells (new_desk me workers slots first) h from number c id row s k.fits k.tells in
      let is : channel_of (new_desk me workers slots first) c (onto whole h) ≡ Some (answered from id b).channel =
      sym (t.channels c) ∙ found_after c c true (answered from id b) s k.fits.names ∙ ap (λ y. cond y (Some (answered from id b).channel) (found c s)) (name_is c c ∙ name_self c) in
      let lawful : Along LeavesStored (onto whole h) = subst (Along LeavesStored) (sym (onto_append front last h)) (calm_onto last (onto front h) (calm_found from number c id x b.desk) (front_stored c)) in
      let stamped : IsStamped workers (onto whole h) = (stamping.others_stamped workers h c row s k.stamped).look from number id in
      let all : AllByRecursion (λ e. is_past e.id id ≡ false) (entries_in (channel_of (new_desk me workers slots first) c (onto whole h))) =
      option_some (channel_of (new_desk me workers slots first) c (onto whole h)) (answered from id b).channel (λ e. is_past e.id id ≡ false) is (counted_ids (λ i. is_past i id ≡ false) (first_past id es) es (none_found (λ e. is_past e.id id) es none)) in
      let seen : AllByRecursion (λ m. is_past m.id id ≡ false) (buffer c (onto whole h)) =
      to_messages (λ i. is_past i id ≡ false) (entries_in (channel_of (new_desk me workers slots first) c (onto whole h))) (buffer c (onto whole h)) (buffer_law me workers slots first c (onto whole h) stamped lawful) all in
      subst (AllByRecursion (λ m. is_past m.id id ≡ false)) (ap (buffer c) (onto_append front last h) ∙ found_buffer from number c id x b.desk c (onto front h)) seen

  look_stands : (from number : ℕ) (c : List ℕ) (id : Id) → Stands me workers slots first (look_row from c id row s) (onto (weave s.desk.me next (look_events from number c id row s) (look_alerts from number c id row s)) h) (look_after from c id row s)
  look_stands from number c id =
      let b = look_ready c row s in
      let x = found_on id b in
      let go = leavers is_spent (touched_of c row s) in
      let spend = spend_events c (touched_of c row s) in
      let front = touch_events_of c row s ++ spend in
      let last = looked_event from number c id x b.desk ∷ found_events from x b.desk in
      let line = found_line from number x b.desk ∷ [] in
      let r = hearing.stills front (hearing.still_append (touch_events_of c row s) spend (hearing.still_touch c row s) (hearing.still_left s.desk.me c Spent go)) in
      let woven : weave s.desk.me next (front ++ last) line ≡ front ++ weave s.desk.me next last line = weave_first s.desk.me next front last line r.1 in
      let history : onto (front ++ weave s.desk.me next last line) h ≡ onto (weave s.desk.me next last line) (onto front h) = onto_append front (weave s.desk.me next last line) h in
      assembled (look_row from c id row s) (look_after from c id row s) (front ++ last) line
      (keeping.look_fits from c id row s k.fits)
      (all_append (IsBy me) front last (all_append (IsBy me) (touch_events_of c row s) spend (touch_by c) (by_left me s.desk.me is_me c Spent go)) (by_found me from number c id x b.desk is_me))
      (all_append Stays front last (all_append Stays (touch_events_of c row s) spend (touch_stays c) (telling.left_stays s.desk.me c Spent go)) (telling.found_stays from number c id x b.desk))
      (telling.look_tells (new_desk me workers slots first) h from number c id row s k.fits k.tells)
      (plain_woven (front ++ last) line (all_append IsPlain front last (all_append IsPlain (touch_events_of c row s) spend (stamping.plain_touch c row s) (stamping.plain_left s.desk.me c Spent go)) (stamping.plain_found from number c id x b.desk)))
      (subst (λ (l : List Event). Along LeavesStored (onto l h)) (sym woven) (subst (Along LeavesStored) (sym history)
      (calm_onto (weave s.desk.me next last line) (onto front h) (all_woven IsCalm s.desk.me next (λ to n a. tt) last line (calm_found from number c id x b.desk)) (front_stored c))))
      (hearing.look_wakes h next from number c id row s k.wakes)
      (subst (λ (l : List Event). NothingPast (onto l h)) (sym woven) (subst NothingPast (sym history)
      (found_nothing s.desk.me next from number c id x b.desk (onto front h) (look_nothing from number c id)
      (idle_onto front h (all_append IsIdle (touch_events_of c row s) spend (touch_idle c) (idle_left s.desk.me c Spent go)) k.past))))

pub others_stand : OthersStand
others_stand me workers slots first next row h s k = record {
  join = join_stands me workers slots first next row h s k;
  part = part_stands me workers slots first next row h s k;
  info = info_stands me workers slots first next row h s k;
  look = look_stands me workers slots first next row h s k;
  polled = polled_stands me workers slots first next row h s k;
  clock = clock_stands me workers slots first next row h s k;
}

pub sweep_stands : SweepStands
sweep_stands me workers slots first next c row h s k = sweep_stands_at me workers slots first next row h s k c

-- ---- a publish

-- what holds behind a front without grants holds of the whole
pub behind : (P : List Event → Type 0) (v : ℕ) (next : ℕ → ℕ) (front rest : List Event) (alerts : List OutLine) (h : List Event) → AllByRecursion IsStill front → P (onto (weave v next rest alerts) (onto front h)) → P (onto (weave v next (front ++ rest) alerts) h)
behind P v next front rest alerts h still p =
    subst (λ (l : List Event). P (onto l h)) (sym (weave_first v next front rest alerts (hearing.stills front still).1)) (subst P (sym (onto_append front (weave v next rest alerts) h)) p)

-- what a publish does behind its first polls
pub record Behind (me workers : ℕ) (next : ℕ → ℕ) (v : ℕ) (es : List Event) (alerts : List OutLine) (h : List Event) : Type 0 where
  pub by : AllByRecursion (IsBy me) es
  pub stays : AllByRecursion Stays es
  pub stamped : IsStamped workers (onto (weave v next es alerts) h)
  pub stored : Along LeavesStored (onto (weave v next es alerts) h)
  pub past : NothingPast (onto (weave v next es alerts) h)

module _ (me workers slots first : ℕ) (next : ℕ → ℕ) (from : ℕ) (o : Order) (polls : Polls) (row : List (Slot Message)) (h : List Event) (s : OwnerAt) (owner : owner_of workers o.chan ≡ me) (k : Stands me workers slots first row h s) where
  own_me : s.desk.me ≡ me
  own_me = is_me me workers slots first next row h s k

  clear_still : AllByRecursion IsStill (cleared_events polls.retired o.chan (bench_of o.chan row s))
  clear_still = hearing.still_append (touch_events_of o.chan row s) (freed_events s.desk.me polls.retired) (hearing.still_touch o.chan row s) (hearing.still_freed s.desk.me (free_slots polls.retired))

  clear_stored : Along LeavesStored (onto (cleared_events polls.retired o.chan (bench_of o.chan row s)) h)
  clear_stored = subst (Along LeavesStored) (sym (onto_append (touch_events_of o.chan row s) (freed_events s.desk.me polls.retired) h))
      (calm_onto (freed_events s.desk.me polls.retired) (onto (touch_events_of o.chan row s) h) (calm_freed s.desk.me (free_slots polls.retired)) (touch_stored me workers slots first next row h s k o.chan))

  clear_past : NothingPast (onto (cleared_events polls.retired o.chan (bench_of o.chan row s)) h)
  clear_past = idle_onto (cleared_events polls.retired o.chan (bench_of o.chan row s)) h
      (all_append IsIdle (touch_events_of o.chan row s) (freed_events s.desk.me polls.retired) (touch_idle me workers slots first next row h s k o.chan) (idle_freed s.desk.me (free_slots polls.retired))) k.past

  clear_stamped : IsStamped workers (onto (cleared_events polls.retired o.chan (bench_of o.chan row s)) h)
  clear_stamped = stamping.plain_onto workers (cleared_events polls.retired o.chan (bench_of o.chan row s)) h
      (all_append IsPlain (touch_events_of o.chan row s) (freed_events s.desk.me polls.retired) (stamping.plain_touch o.chan row s) (stamping.plain_freed s.desk.me (free_slots polls.retired))) k.stamped

  same_published : published o.chan (onto (cleared_events polls.retired o.chan (bench_of o.chan row s)) h) ≡ published o.chan h
  same_published =
      ap (published o.chan) (onto_append (touch_events_of o.chan row s) (freed_events s.desk.me polls.retired) h)
      ∙ same_freed s.desk.me o.chan (free_slots polls.retired) (onto (touch_events_of o.chan row s) h)
      ∙ same_left s.desk.me o.chan o.chan Expired (leavers (is_expired s.desk.clock) (bench_of o.chan row s)) h

  room_stored : Along LeavesStored (onto (map (left_event s.desk.me o.chan Length) (leaving o.length (asked polls.leaving (publish_cleared o polls row s))) ++ freed_events s.desk.me polls.left) (onto (cleared_events polls.retired o.chan (bench_of o.chan row s)) h))
  room_stored =
      let go = leaving o.length (asked polls.leaving (publish_cleared o polls row s)) in
      let lefts = map (left_event s.desk.me o.chan Length) go in
      let h1 = onto (cleared_events polls.retired o.chan (bench_of o.chan row s)) h in
      let fresh = stayers (is_expired s.desk.clock) (entries_of (opened o.chan s)) in
      subst (Along LeavesStored) (sym (onto_append lefts (freed_events s.desk.me polls.left) h1))
      (calm_onto (freed_events s.desk.me polls.left) (onto lefts h1) (calm_freed s.desk.me (free_slots polls.left))
      (left_onto s.desk.me o.chan Length go h1
      (subst (λ (ms : List Kept_message). AllByRecursion (λ e. HasId ms e.id) go) (sym same_published)
      (all_take (λ e. HasId (published o.chan h) e.id) (leaving_count o.length fresh) fresh
      (all_filtered (λ e. HasId (published o.chan h) e.id) (λ e. not (is_expired s.desk.clock e)) (entries_of (opened o.chan s)) (leavers_stored me workers slots first next row h s k o.chan))))
      clear_stored))

  post_behind : (y : Outcome) → publish_outcome o polls row s ≡ y → Behind me workers next s.desk.me (post_events y from o polls (publish_cleared o polls row s)) (post_alerts y from o polls (publish_cleared o polls row s)) (onto (cleared_events polls.retired o.chan (bench_of o.chan row s)) h)
  post_behind late e = record { by = tt; stays = tt; stamped = (clear_stamped, tt); stored = (clear_stored, tt); past = idle_onto (weave s.desk.me next [] (answer from o.r 503 None None ∷ [])) (onto (cleared_events polls.retired o.chan (bench_of o.chan row s)) h) (tt, tt) clear_past }
  post_behind (full usage) e = record { by = tt; stays = tt; stamped = (clear_stamped, tt); stored = (clear_stored, tt); past = idle_onto (weave s.desk.me next [] (answer from o.r 507 None (Some usage) ∷ [])) (onto (cleared_events polls.retired o.chan (bench_of o.chan row s)) h) (tt, tt) clear_past }
  post_behind stored e =
      let c = o.chan in
      let b = publish_cleared o polls row s in
      let a = asked polls.leaving b in
      let r = roomy o.length polls.left a in
      let slot = lowest_slot r.row in
      let marks = (opened c s).marks in
      let go = leaving o.length a in
      let lefts = map (left_event s.desk.me c Length) go in
      let freed = freed_events s.desk.me polls.left in
      let room = lefts ++ freed in
      let h1 = onto (cleared_events polls.retired c (bench_of c row s)) h in
      let event = stored_event from o (stamp r) slot (length (opened c s).members) r.desk in
      let grants = granted_events s.desk.me slot s.desk.grants marks in
      let alerts = notices c (stamp r) slot s.desk.grants marks ++ answer from o.r (stored_status b.channel) (Some (info_of (store_bench o polls.left a).channel)) None ∷ [] in
      let told = weave s.desk.me next grants alerts in
      let still : AllByRecursion IsStill room = hearing.still_append lefts freed (hearing.still_left s.desk.me c Length go) (hearing.still_freed s.desk.me (free_slots polls.left)) in
      let idle : AllByRecursion IsIdle room = all_append IsIdle lefts freed (idle_left s.desk.me c Length go) (idle_freed s.desk.me (free_slots polls.left)) in
      record {
        by = all_append (IsBy me) room (event ∷ grants) (all_append (IsBy me) lefts freed (by_left me s.desk.me own_me c Length go) (by_freed me s.desk.me own_me (free_slots polls.left))) (by_is me s.desk.me own_me, by_granted me s.desk.me own_me slot s.desk.grants marks);
        stays = all_append Stays room (event ∷ grants) (all_append Stays lefts freed (telling.left_stays s.desk.me c Length go) (telling.freed_stays s.desk.me (free_slots polls.left))) (tt, telling.granted_stays s.desk.me slot s.desk.grants marks);
        stamped = behind (IsStamped workers) s.desk.me next room (event ∷ grants) alerts h1 still
            (stamping.plain_onto workers told (event ∷ onto room h1) (all_woven IsPlain s.desk.me next (λ to n x. tt) grants alerts (stamping.plain_granted s.desk.me slot s.desk.grants marks))
            (stamping.stored_stamped me workers slots first from h o row s polls (record { local = k.local; tells = k.tells }) owner k.stamped e own_me));
        stored = behind (Along LeavesStored) s.desk.me next room (event ∷ grants) alerts h1 still
            (calm_onto told (event ∷ onto room h1) (all_woven IsCalm s.desk.me next (λ to n x. tt) grants alerts (calm_granted s.desk.me slot s.desk.grants marks)) (room_stored, tt));
        past = behind NothingPast s.desk.me next room (event ∷ grants) alerts h1 still
            (idle_onto told (event ∷ onto room h1) (all_woven IsIdle s.desk.me next (λ to n x. tt) grants alerts (idle_granted s.desk.me slot s.desk.grants marks))
            (stored_past s.desk.me c (stamp r) slot o.length (expiry s.desk.clock o.timeout) (not (o.length == 0)) (length (opened c s).members) from o.r o.content_type o.body (onto room h1) (idle_onto room h1 idle clear_past)));
      }

pub publish_stands : PublishStands
publish_stands me workers slots first next exact counts from o polls row h s owner p k =
    let y = publish_outcome o polls row s in
    let clear = cleared_events polls.retired o.chan (bench_of o.chan row s) in
    let post = post_events y from o polls (publish_cleared o polls row s) in
    let alerts = post_alerts y from o polls (publish_cleared o polls row s) in
    let q = post_behind me workers slots first next from o polls row h s owner k y refl in
    let me_is = is_me me workers slots first next row h s k in
    let still = clear_still me workers slots first next from o polls row h s owner k in
    assembled me workers slots first next row h s k (publish_row o polls row s) (publish_after o polls row s) (clear ++ post) alerts
    (keeping.publish_fits exact counts o row s polls p k.fits)
    (all_append (IsBy me) clear post (all_append (IsBy me) (touch_events_of o.chan row s) (freed_events s.desk.me polls.retired) (touch_by me workers slots first next row h s k o.chan) (by_freed me s.desk.me me_is (free_slots polls.retired))) q.by)
    (all_append Stays clear post (all_append Stays (touch_events_of o.chan row s) (freed_events s.desk.me polls.retired) (touch_stays me workers slots first next row h s k o.chan) (telling.freed_stays s.desk.me (free_slots polls.retired))) q.stays)
    (telling.publish_tells (new_desk me workers slots first) h exact counts from o row s polls p k.fits k.tells)
    (behind (IsStamped workers) s.desk.me next clear post alerts h still q.stamped)
    (behind (Along LeavesStored) s.desk.me next clear post alerts h still q.stored)
    (hearing.publish_wakes me workers slots first h next from o row s polls k.tells k.wakes)
    (behind NothingPast s.desk.me next clear post alerts h still q.past)
