-- Each step of an owner keeps what stands at each place of its history.
use Rattle.std.proofs.Common.{◌≡◌, inl, ℕ, zero, suc, ◌+◌, Bool, true, false, cond, List, [], ◌∷◌, ◌++◌, Option, Some, None, refl, sym, ap, ◌∙◌, subst, length, map, find}
use Rattle.std.specs.Option.{option_map}
use Rattle.std.specs.List.{AllByRecursion}
use Rattle.nc_types.specs.Id.{Id, is_past}
use Rattle.nc_types.specs.Message.{Message}
use Rattle.nc_types.specs.declared.info.Info.{Info}
use Rattle.nc_journal.specs.History.{onto, Along}
use Rattle.nc_journal.specs.Stamp.{IsStamped, floor_of}
use Rattle.nc_journal.specs.Message.{Message as KeptMessage, buffer, first_past as first_message}
use Rattle.nc_journal.specs.declared.event.Event.{Event}
use Rattle.nc_journal.specs.declared.event.Event.TheVariants.{Stored, Left, Joined, Parted, Granted, Looked, Edged, Removed, Made}
use Rattle.nc_journal.specs.declared.word.LeftCause.{LeftCause}
use Rattle.nc_journal.specs.declared.word.LeftCause.TheVariants.{Expired, Spent, Length}
use Rattle.nc_journal.specs.declared.alert.AlertLine.{AlertLine}
use Rattle.nc_journal.specs.declared.alert.AlertLine.TheVariants as lines
use Rattle.nc_buffer.specs.declared.entry.Entry.{Entry}
use Rattle.nc_buffer.specs.Buffer.{is_expired, is_spent, first_past, with_grant}
use Rattle.nc_slots.specs.declared.slot.Slot.{Slot}
use Rattle.nc_owner.specs.declared.channel.Channel.{Channel}
use Rattle.nc_owner.specs.declared.desk.Desk.{Desk}
use Rattle.nc_owner.specs.declared.member.Member.{Member}
use Rattle.nc_owner.specs.declared.order.Order.{Order}
use Rattle.nc_owner.specs.Members.{has_member}
use Rattle.nc_owner.specs.AlertLines.{OutLine}
use Rattle.nc_owner.specs.State.{OwnerAt, entries_of, found, opened, exists, bench_of}
use Rattle.nc_owner.specs.Leave.{left_event, leavers, spend_events}
use Rattle.nc_owner.specs.Poll.{free_slots, freed_event, freed_events}
use Rattle.nc_owner.specs.Publish.{Polls, Outcome, late, full, stored, asked, roomy, leaving, lowest_slot, granted_events, notices, answer, stored_status, info_of, store_bench, stored_event, stamp, post_events, post_alerts, publish_cleared, publish_outcome, cleared_events}
use Rattle.nc_owner.specs.Look.{id_of, found_on, looked_event, found_events, found_line, look_ready, look_events, look_alerts, answered, counted_at}
use Rattle.nc_owner.specs.OtherSteps.{touched_of, touch_events_of, info_alerts, polled_events, parted_events}
use Rattle.nc_owner_laws.specs.OwnerTold.{desk_of, channel_of}
use Rattle.nc_owner_laws.specs.Filters.{new_desk}
use Rattle.nc_owner_laws.specs.Buffered.{Brief, brief_entry, brief_message, entries_in, LeavesStored}
use Rattle.nc_owner_laws.specs.Weave.{weave, makes, numbered}
use Rattle.nc_owner_laws.specs.OwnerStanding.{Stands}
use Rattle.nc_owner_laws.specs.Removal.{IsLeft, IsOfRemoval}
use Rattle.nc_owner_laws.specs.InOrder.{TellsThen, next_look, next_grant, AnswersLook, InOrder, NewInOrder, OthersInOrder, PublishInOrder, RemovalInOrder}
use Rattle.nc_owner_laws.proofs.Kept.{all_append}
use Rattle.nc_owner_laws.proofs.Events.{name_self}
use Rattle.nc_owner_laws.proofs.After.{name_is, found_after}
use Rattle.nc_owner_laws.proofs.StepEvents as telling
use Rattle.nc_owner_laws.proofs.Stamping as stamping
use Rattle.nc_owner_laws.proofs.Stamping.{onto_append}
use Rattle.nc_owner_laws.proofs.Filtering.{desk_law}
use Rattle.nc_owner_laws.proofs.Buffering.{buffer_law}
use Rattle.nc_owner_laws.proofs.Hearing as hearing
use Rattle.nc_owner_laws.proofs.Hearing.{IsStill, told_events}
use Rattle.nc_owner_laws.proofs.Owners.{calm_onto}
use Rattle.nc_owner_laws.proofs.Removal.{removal_is}
use Rattle.nc_owner_laws.proofs.OwnerSteps.{behind, front_stored, calm_found, found_buffer}

pub new_in_order : NewInOrder
new_in_order first = record { looks = tt; draws = tt; answers = tt }

-- ---- events that are neither looks, edges nor grants, nor answers to looks and edges

abbrev IsNoAnswer : AlertLine → Type 0
IsNoAnswer (lines.LookAnswer number q floor past g slot) = ⊥
IsNoAnswer (lines.EdgeAnswer number q floor last) = ⊥
IsNoAnswer _ = Unit {0}

abbrev pub IsPassive : Event → Type 0
IsPassive (Looked w q from number c after floor past) = ⊥
IsPassive (Edged w q from number k c floor last) = ⊥
IsPassive (Granted w g slot to) = ⊥
IsPassive (Made v to n a) = IsNoAnswer a
IsPassive _ = Unit {0}

no_answer : (v to : ℕ) (h : List Event) (a : AlertLine) → IsNoAnswer a → AnswersLook v to h a
no_answer v to h (lines.LookAnswer number q floor past g slot) p = absurd p
no_answer v to h (lines.EdgeAnswer number q floor last) p = absurd p
no_answer v to h a p = tt

passive_one : (first : ℕ) (e : Event) (h : List Event) → IsPassive e → InOrder first h → InOrder first (e ∷ h)
passive_one first (Looked w q from number c after floor past) h p k = absurd p
passive_one first (Edged w q from number n c floor last) h p k = absurd p
passive_one first (Granted w g slot to) h p k = absurd p
passive_one first (Made v to n a) h p k = record { looks = (k.looks, tt); draws = (k.draws, tt); answers = (k.answers, no_answer v to h a p) }
passive_one first e h p k = record { looks = (k.looks, tt); draws = (k.draws, tt); answers = (k.answers, tt) }

pub passive_onto : (first : ℕ) (es h : List Event) → AllByRecursion IsPassive es → InOrder first h → InOrder first (onto es h)
passive_onto first [] h p k = k
passive_onto first (e ∷ es) h p k = passive_onto first es (e ∷ h) p.1 (passive_one first e h p.0 k)

passive_makes : (v : ℕ) (next : ℕ → ℕ) (alerts : List OutLine) → AllByRecursion (λ a. IsNoAnswer a.line) alerts → AllByRecursion IsPassive (makes v next alerts)
passive_makes v next [] n = tt
passive_makes v next (a ∷ alerts) n = (n.0, passive_makes v (numbered next a.to) alerts n.1)

passive_weave : (v : ℕ) (next : ℕ → ℕ) (es : List Event) (alerts : List OutLine) → AllByRecursion IsPassive es → AllByRecursion (λ a. IsNoAnswer a.line) alerts → AllByRecursion IsPassive (weave v next es alerts)
passive_weave v next [] alerts p n = passive_makes v next alerts n
passive_weave v next (Granted w g slot to ∷ es) (a ∷ alerts) p n = absurd p.0
passive_weave v next (e ∷ es) alerts p n = (p.0, passive_weave v next es alerts p.1 n)

same_look : (first : ℕ) (e : Event) (h : List Event) → IsPassive e → next_look first (e ∷ h) ≡ next_look first h
same_look first (Looked w q from number c after floor past) h p = absurd p
same_look first (Edged w q from number n c floor last) h p = absurd p
same_look first (Granted w g slot to) h p = absurd p
same_look first e h p = refl

same_grant : (first : ℕ) (e : Event) (h : List Event) → IsPassive e → next_grant first (e ∷ h) ≡ next_grant first h
same_grant first (Looked w q from number c after floor past) h p = absurd p
same_grant first (Edged w q from number n c floor last) h p = absurd p
same_grant first (Granted w g slot to) h p = absurd p
same_grant first e h p = refl

passive_look : (first : ℕ) (es h : List Event) → AllByRecursion IsPassive es → next_look first (onto es h) ≡ next_look first h
passive_look first [] h p = refl
passive_look first (e ∷ es) h p = passive_look first es (e ∷ h) p.1 ∙ same_look first e h p.0

passive_grant : (first : ℕ) (es h : List Event) → AllByRecursion IsPassive es → next_grant first (onto es h) ≡ next_grant first h
passive_grant first [] h p = refl
passive_grant first (e ∷ es) h p = passive_grant first es (e ∷ h) p.1 ∙ same_grant first e h p.0

passive_left : (w : ℕ) (c : List ℕ) (cause : LeftCause) (es : List Entry) → AllByRecursion IsPassive (map (left_event w c cause) es)
passive_left w c cause [] = tt
passive_left w c cause (e ∷ es) = (tt, passive_left w c cause es)

passive_freed : (w : ℕ) (ks : List ℕ) → AllByRecursion IsPassive (map (freed_event w) ks)
passive_freed w [] = tt
passive_freed w (k ∷ ks) = (tt, passive_freed w ks)

passive_parted : (b : Bool) (w : ℕ) (c : List ℕ) (m : Member) → AllByRecursion IsPassive (cond b (Parted w c m.from m.k ∷ []) [])
passive_parted true w c m = (tt, tt)
passive_parted false w c m = tt

left_floor : (w : ℕ) (c : List ℕ) (cause : LeftCause) (es : List Entry) (h : List Event) → floor_of (onto (map (left_event w c cause) es) h) ≡ floor_of h
left_floor w c cause [] h = refl
left_floor w c cause (e ∷ es) h = left_floor w c cause es (left_event w c cause e ∷ h)

-- ---- the next numbers are those of the desk

pub looks_law : (d : Desk) (h : List Event) → (desk_of d h).looks ≡ next_look d.looks h
looks_law d [] = refl
looks_law d (Looked w q from number c after floor past ∷ h) = refl
looks_law d (Edged w q from number n c floor last ∷ h) = refl
looks_law d (Stored w c id slot len exp true members from r ct body ∷ h) = looks_law d h
looks_law d (Stored w c id slot len exp false members from r ct body ∷ h) = looks_law d h
looks_law d (e ∷ h) = looks_law d h

pub grants_law : (d : Desk) (h : List Event) → (desk_of d h).grants ≡ next_grant d.grants h
grants_law d [] = refl
grants_law d (Granted w g slot to ∷ h) = refl
grants_law d (Stored w c id slot len exp true members from r ct body ∷ h) = grants_law d h
grants_law d (Stored w c id slot len exp false members from r ct body ∷ h) = grants_law d h
grants_law d (e ∷ h) = grants_law d h

-- ---- what a look finds

same_briefs : (place : ℕ) (es : List Entry) → map brief_entry (with_grant place es) ≡ map brief_entry es
same_briefs zero [] = refl
same_briefs (suc place) [] = refl
same_briefs zero (e ∷ es) = refl
same_briefs (suc place) (e ∷ es) = ap (λ (l : List Brief). brief_entry e ∷ l) (same_briefs place es)

counted_briefs : (place : Option ℕ) (es : List Entry) → map brief_entry (counted_at place es) ≡ map brief_entry es
counted_briefs None es = refl
counted_briefs (Some place) es = same_briefs place es

ids_found : {X : Type 0} (id_in : X → Id) (test : Id → Bool) (xs : List X) → option_map id_in (find (λ x. test (id_in x)) xs) ≡ find test (map id_in xs)
ids_found id_in test [] = refl
ids_found {X} id_in test (x ∷ xs) = by (test (id_in x)) (ids_found id_in test xs)
  where
    by : (b : Bool) → option_map id_in (find (λ y. test (id_in y)) xs) ≡ find test (map id_in xs) → option_map id_in (cond b (Some x) (find (λ y. test (id_in y)) xs)) ≡ cond b (Some (id_in x)) (find test (map id_in xs))
    by true e = refl
    by false e = e

abbrev message_id : KeptMessage → Id
message_id m = m.id

abbrev brief_id : Brief → Id
brief_id y = y.id

entry_ids : (es : List Entry) → map brief_id (map brief_entry es) ≡ map id_of es
entry_ids [] = refl
entry_ids (e ∷ es) = ap (λ (l : List Id). e.id ∷ l) (entry_ids es)

message_ids : (ms : List KeptMessage) → map brief_id (map brief_message ms) ≡ map message_id ms
message_ids [] = refl
message_ids (m ∷ ms) = ap (λ (l : List Id). m.id ∷ l) (message_ids ms)

same_found : (after : Id) (es : List Entry) (ms : List KeptMessage) → map brief_entry es ≡ map brief_message ms → option_map id_of (find (λ e. is_past e.id after) es) ≡ option_map message_id (find (λ m. is_past m.id after) ms)
same_found after es ms same =
    ids_found id_of (λ i. is_past i after) es
    ∙ ap (find (λ (i : Id). is_past i after)) (sym (entry_ids es) ∙ ap (map brief_id) same ∙ message_ids ms)
    ∙ sym (ids_found message_id (λ i. is_past i after) ms)

found_places : (first v : ℕ) (next : ℕ → ℕ) (from number : ℕ) (c : List ℕ) (id : Id) (x : Option Entry) (d : Desk) (h : List Event) → TellsThen c id d.floor (option_map id_of x) h → d.me ≡ v → d.looks ≡ next_look first h → d.grants ≡ next_grant first h → InOrder first h
    → InOrder first (onto (weave v next (looked_event from number c id x d ∷ found_events from x d) (found_line from number x d ∷ [])) h)
found_places first v next from number c id None d h t me q g k = record { looks = ((k.looks, t), tt); draws = ((k.draws, q), tt); answers = ((k.answers, tt), inl (me, refl, refl, refl, refl, refl)) }
found_places first v next from number c id (Some e) d h t me q g k = record { looks = (((k.looks, t), tt), tt); draws = (((k.draws, q), g), tt); answers = (((k.answers, tt), tt), inl (me, refl, refl, refl, refl, refl)) }

-- ---- the notices of a publish

told_places : (first v v' : ℕ) (next : ℕ → ℕ) (c : List ℕ) (id : Id) (slot g : ℕ) (marks : List ℕ) (out : OutLine) (h : List Event) → IsNoAnswer out.line → g ≡ next_grant first h → InOrder first h → InOrder first (onto (told_events v v' next c id slot g marks out) h)
told_places first v v' next c id slot g [] out h n e k = passive_one first (Made v out.to (next out.to) out.line) h n k
told_places first v v' next c id slot g (to ∷ marks) out h n e k =
    told_places first v v' (numbered next to) c id slot (g + 1) marks out (Made v to (next to) (lines.Notice c id g slot) ∷ Granted v' g slot to ∷ h) n refl (record { looks = ((k.looks, tt), tt); draws = ((k.draws, e), tt); answers = ((k.answers, tt), tt) })

module _ (me workers slots first : ℕ) (next : ℕ → ℕ) (row : List (Slot Message)) (h : List Event) (s : OwnerAt) (k : Stands me workers slots first row h s) where
  is_look_number : s.desk.looks ≡ next_look first h
  is_look_number = ap (λ (d : Desk). d.looks) k.tells.desk ∙ looks_law (new_desk me workers slots first) h

  is_grant_number : s.desk.grants ≡ next_grant first h
  is_grant_number = ap (λ (d : Desk). d.grants) k.tells.desk ∙ grants_law (new_desk me workers slots first) h

  is_floor : s.desk.floor ≡ floor_of h
  is_floor = ap (λ (d : Desk). d.floor) k.tells.desk ∙ (desk_law me workers slots first h).floor

  passive_touch : (c : List ℕ) → AllByRecursion IsPassive (touch_events_of c row s)
  passive_touch c = passive_left s.desk.me c Expired (leavers (is_expired s.desk.clock) (bench_of c row s))

  passive_front : (c : List ℕ) → AllByRecursion IsPassive (touch_events_of c row s ++ spend_events c (touched_of c row s))
  passive_front c = all_append IsPassive (touch_events_of c row s) (spend_events c (touched_of c row s)) (passive_touch c) (passive_left s.desk.me c Spent (leavers is_spent (touched_of c row s)))

  front_floor : (c : List ℕ) → floor_of (onto (touch_events_of c row s ++ spend_events c (touched_of c row s)) h) ≡ floor_of h
  front_floor c =
      ap floor_of (onto_append (touch_events_of c row s) (spend_events c (touched_of c row s)) h)
      ∙ left_floor s.desk.me c Spent (leavers is_spent (touched_of c row s)) (onto (touch_events_of c row s) h)
      ∙ left_floor s.desk.me c Expired (leavers (is_expired s.desk.clock) (bench_of c row s)) h

  look_first : (from number : ℕ) (c : List ℕ) (id : Id) → option_map id_of (found_on id (look_ready c row s)) ≡ option_map message_id (first_message c id (onto (touch_events_of c row s ++ spend_events c (touched_of c row s)) h))
  look_first from number c id =
      let b = look_ready c row s in
      let x = found_on id b in
      let front = touch_events_of c row s ++ spend_events c (touched_of c row s) in
      let last = looked_event from number c id x b.desk ∷ found_events from x b.desk in
      let whole = look_events from number c id row s in
      let es = entries_of b.channel in
      let t = telling.look_tells (new_desk me workers slots first) h from number c id row s k.fits k.tells in
      let is : channel_of (new_desk me workers slots first) c (onto whole h) ≡ Some (answered from id b).channel =
      sym (t.channels c) ∙ found_after c c true (answered from id b) s k.fits.names ∙ ap (λ y. cond y (Some (answered from id b).channel) (found c s)) (name_is c c ∙ name_self c) in
      let lawful : Along LeavesStored (onto whole h) = subst (Along LeavesStored) (sym (onto_append front last h)) (calm_onto last (onto front h) (calm_found from number c id x b.desk) (front_stored me workers slots first next row h s k c)) in
      let stamped : IsStamped workers (onto whole h) = (stamping.others_stamped workers h c row s k.stamped).look from number id in
      let law : map brief_entry (entries_in (channel_of (new_desk me workers slots first) c (onto whole h))) ≡ map brief_message (buffer c (onto whole h)) = buffer_law me workers slots first c (onto whole h) stamped lawful in
      let has : map brief_entry (entries_in (channel_of (new_desk me workers slots first) c (onto whole h))) ≡ map brief_entry (counted_at (first_past id es) es) = ap (λ (o : Option Channel). map brief_entry (entries_in o)) is in
      let sees : buffer c (onto whole h) ≡ buffer c (onto front h) = ap (buffer c) (onto_append front last h) ∙ found_buffer from number c id x b.desk c (onto front h) in
      same_found id es (buffer c (onto front h)) (sym (counted_briefs (first_past id es) es) ∙ sym has ∙ law ∙ ap (map brief_message) sees)

  module _ (o : InOrder first h) where
    passive_woven : (es : List Event) (alerts : List OutLine) → AllByRecursion IsPassive es → AllByRecursion (λ a. IsNoAnswer a.line) alerts → InOrder first (onto (weave s.desk.me next es alerts) h)
    passive_woven es alerts p n = passive_onto first (weave s.desk.me next es alerts) h (passive_weave s.desk.me next es alerts p n) o

    look_places : (from number : ℕ) (c : List ℕ) (id : Id) → InOrder first (onto (weave s.desk.me next (look_events from number c id row s) (look_alerts from number c id row s)) h)
    look_places from number c id =
        let b = look_ready c row s in
        let x = found_on id b in
        let spend = spend_events c (touched_of c row s) in
        let front = touch_events_of c row s ++ spend in
        let last = looked_event from number c id x b.desk ∷ found_events from x b.desk in
        let line = found_line from number x b.desk ∷ [] in
        let p = passive_front c in
        behind (InOrder first) s.desk.me next front last line h
        (hearing.still_append (touch_events_of c row s) spend (hearing.still_touch c row s) (hearing.still_left s.desk.me c Spent (leavers is_spent (touched_of c row s))))
        (found_places first s.desk.me next from number c id x b.desk (onto front h)
        (record { floor_then = is_floor ∙ sym (front_floor c); first_then = look_first from number c id })
        refl
        (is_look_number ∙ sym (passive_look first front h p))
        (is_grant_number ∙ sym (passive_grant first front h p))
        (passive_onto first front h p o))

info_none : (b : Bool) (r : ℕ) (info : Info) → IsNoAnswer (cond b (lines.InfoAnswer r 200 (Some info)) (lines.InfoAnswer r 404 None))
info_none true r info = tt
info_none false r info = tt

pub others_in_order : OthersInOrder
others_in_order me workers slots first next row h s k o = record {
  join = λ m c. passive_woven me workers slots first next row h s k o (touch_events_of c row s ++ Joined s.desk.me c m.from m.k ∷ []) []
      (all_append IsPassive (touch_events_of c row s) (Joined s.desk.me c m.from m.k ∷ []) (passive_touch me workers slots first next row h s k c) (tt, tt)) tt;
  part = λ m c. passive_woven me workers slots first next row h s k o (touch_events_of c row s ++ parted_events s.desk.me m c (opened c s)) []
      (all_append IsPassive (touch_events_of c row s) (parted_events s.desk.me m c (opened c s)) (passive_touch me workers slots first next row h s k c) (passive_parted (has_member m (opened c s).members) s.desk.me c m)) tt;
  info = λ from r c. passive_woven me workers slots first next row h s k o (touch_events_of c row s) (info_alerts from r c row s) (passive_touch me workers slots first next row h s k c) (info_none (exists c s) r (info_of (touched_of c row s).channel), tt);
  sweep = λ c. passive_woven me workers slots first next row h s k o (touch_events_of c row s) [] (passive_touch me workers slots first next row h s k c) tt;
  look = look_places me workers slots first next row h s k o;
  polled = λ answers. passive_woven me workers slots first next row h s k o (polled_events answers s) [] (passive_freed s.desk.me (free_slots answers)) tt;
  clock = λ now. record { looks = (o.looks, tt); draws = (o.draws, tt); answers = (o.answers, tt) };
}

-- ---- a publish

module _ (me workers slots first : ℕ) (next : ℕ → ℕ) (from : ℕ) (o : Order) (polls : Polls) (row : List (Slot Message)) (h : List Event) (s : OwnerAt) (k : Stands me workers slots first row h s) (i : InOrder first h) where
  clear_passive : AllByRecursion IsPassive (cleared_events polls.retired o.chan (bench_of o.chan row s))
  clear_passive = all_append IsPassive (touch_events_of o.chan row s) (freed_events s.desk.me polls.retired) (passive_touch me workers slots first next row h s k o.chan) (passive_freed s.desk.me (free_slots polls.retired))

  clear_places : InOrder first (onto (cleared_events polls.retired o.chan (bench_of o.chan row s)) h)
  clear_places = passive_onto first (cleared_events polls.retired o.chan (bench_of o.chan row s)) h clear_passive i

  post_places : (y : Outcome) → InOrder first (onto (weave s.desk.me next (post_events y from o polls (publish_cleared o polls row s)) (post_alerts y from o polls (publish_cleared o polls row s))) (onto (cleared_events polls.retired o.chan (bench_of o.chan row s)) h))
  post_places late = passive_onto first (weave s.desk.me next [] (answer from o.r 503 None None ∷ [])) (onto (cleared_events polls.retired o.chan (bench_of o.chan row s)) h) (tt, tt) clear_places
  post_places (full usage) = passive_onto first (weave s.desk.me next [] (answer from o.r 507 None (Some usage) ∷ [])) (onto (cleared_events polls.retired o.chan (bench_of o.chan row s)) h) (tt, tt) clear_places
  post_places stored =
      let c = o.chan in
      let b = publish_cleared o polls row s in
      let a = asked polls.leaving b in
      let r = roomy o.length polls.left a in
      let slot = lowest_slot r.row in
      let marks = (opened c s).marks in
      let go = leaving o.length a in
      let lefts = map (left_event s.desk.me c Length) go in
      let freed = freed_events s.desk.me polls.left in
      let room = lefts ++ freed in
      let clear = cleared_events polls.retired c (bench_of c row s) in
      let h1 = onto clear h in
      let event = stored_event from o (stamp r) slot (length (opened c s).members) r.desk in
      let grants = granted_events s.desk.me slot s.desk.grants marks in
      let out = answer from o.r (stored_status b.channel) (Some (info_of (store_bench o polls.left a).channel)) None in
      let alerts = notices c (stamp r) slot s.desk.grants marks ++ out ∷ [] in
      let still : AllByRecursion IsStill room = hearing.still_append lefts freed (hearing.still_left s.desk.me c Length go) (hearing.still_freed s.desk.me (free_slots polls.left)) in
      let passive : AllByRecursion IsPassive room = all_append IsPassive lefts freed (passive_left s.desk.me c Length go) (passive_freed s.desk.me (free_slots polls.left)) in
      let stored_places : InOrder first (event ∷ onto room h1) = passive_one first event (onto room h1) tt (passive_onto first room h1 passive clear_places) in
      behind (InOrder first) s.desk.me next room (event ∷ grants) alerts h1 still
      (told_places first s.desk.me s.desk.me next c (stamp r) slot s.desk.grants marks out (event ∷ onto room h1) tt
      (is_grant_number me workers slots first next row h s k ∙ sym (passive_grant first clear h clear_passive) ∙ sym (passive_grant first room h1 passive))
      stored_places)

pub publish_in_order : PublishInOrder
publish_in_order me workers slots first next from o polls row h s k i =
    behind (InOrder first) s.desk.me next (cleared_events polls.retired o.chan (bench_of o.chan row s)) (post_events (publish_outcome o polls row s) from o polls (publish_cleared o polls row s)) (post_alerts (publish_outcome o polls row s) from o polls (publish_cleared o polls row s)) h
    (hearing.still_append (touch_events_of o.chan row s) (freed_events s.desk.me polls.retired) (hearing.still_touch o.chan row s) (hearing.still_freed s.desk.me (free_slots polls.retired)))
    (post_places me workers slots first next from o polls row h s k i (publish_outcome o polls row s))

-- ---- a removal

passive_lefts : (es : List Event) → AllByRecursion IsLeft es → AllByRecursion IsPassive es
passive_lefts [] l = tt
passive_lefts (e ∷ es) l = (by e l.0, passive_lefts es l.1)
  where
    by : (e : Event) → IsLeft e → IsPassive e
    by (Left w c id slot cause) l = tt
    by e l = absurd l

removal_none : (c : List ℕ) (alerts : List OutLine) → AllByRecursion (λ a. IsOfRemoval c a.line) alerts → AllByRecursion (λ a. IsNoAnswer a.line) alerts
removal_none c [] p = tt
removal_none c (a ∷ alerts) p = (by a.line p.0, removal_none c alerts p.1)
  where
    by : (line : AlertLine) → IsOfRemoval c line → IsNoAnswer line
    by (lines.LookAnswer number q floor past g slot) p = absurd p
    by (lines.EdgeAnswer number q floor last) p = absurd p
    by line p = tt

pub removal_in_order : RemovalInOrder
removal_in_order first h v next c last cause lefts alerts l p k = subst (InOrder first) (sym (removal_is v next c last cause lefts alerts h l))
    (passive_onto first (Removed v c last cause ∷ makes v next alerts) (onto lefts h) (tt, passive_makes v next alerts (removal_none c alerts p))
    (passive_onto first lefts h (passive_lefts lefts l) k))
