-- What the events of each step tell.
use Rattle.std.proofs.Common.{◌≡◌, ℕ, ◌+◌, ◌<◌, ◌≤◌, Bool, true, false, cond, not, max, List, [], ◌∷◌, ◌++◌, Option, Some, None, refl, sym, ap, ◌∙◌, arith, length, map, fold, drop}
use Rattle.std.specs.Prelude.{unwrap_or, is_some, ◌==◌, ◌||◌, MatchOption, bytes_eq}
use Rattle.std.specs.Option.{option_map}
use Rattle.std.specs.List.{AllByRecursion, slice_get, list_any}
use Rattle.std.specs.Set.{remove_key}
use Rattle.std.specs.BTreeMap.{is_at}
use Rattle.std.proofs.lemmas.Bool.{true≢false}
use Rattle.std.proofs.lemmas.List.Quantifiers.{position-Some}
use Rattle.std.proofs.lemmas.List.Sums.{fold-append}
use Rattle.nc_types.specs.Id.{Id}
use Rattle.nc_types.specs.Message.{Message}
use Rattle.nc_journal.specs.Stamp.{expiry}
use Rattle.nc_journal.specs.declared.event.Event.{Event}
use Rattle.nc_journal.specs.declared.event.Event.TheVariants.{Joined, Parted, Stored}
use Rattle.nc_journal.specs.declared.word.LeftCause.{LeftCause}
use Rattle.nc_journal.specs.declared.word.LeftCause.TheVariants.{Expired, Spent, Length}
use Rattle.nc_buffer.specs.declared.entry.Entry.{Entry}
use Rattle.nc_buffer.specs.Buffer.{is_expired, is_spent, first_past}
use Rattle.nc_buffer.proofs.BufferLaws.{look-finds}
use Rattle.nc_slots.specs.Slot.{slot_at, is_unused, is_buffered, lowest_unused}
use Rattle.nc_slots.specs.declared.slot.Slot.{Slot}
use Rattle.nc_slots.specs.declared.slot.Slot.TheVariants.{Unused}
use Rattle.nc_owner.specs.declared.channel.Channel.{Channel}
use Rattle.nc_owner.specs.declared.desk.Desk.{Desk}
use Rattle.nc_owner.specs.declared.poll.PollAnswer.{PollAnswer}
use Rattle.nc_owner.specs.declared.member.Member.{Member}
use Rattle.nc_owner.specs.declared.order.Order.{Order}
use Rattle.nc_owner.specs.Ascending.{with_number, without_number, with_new_number}
use Rattle.nc_owner.specs.Members.{has_member, member_cmp}
use Rattle.nc_owner.specs.State.{OwnerAt, Bench, entries_of, with_entries, found, exists, opened, new_channel, bench_of}
use Rattle.nc_owner.specs.Leave.{left_event, left_by, leavers, stayers, touch_events, spend_events}
use Rattle.nc_owner.specs.Poll.{slot_of, free_slots, freed_event, freed_events, polled_desk}
use Rattle.nc_owner.specs.Publish.{Polls, Outcome, late, full, stored, is_stored, outcome, stamp, asked, roomy, leaving, leaving_count, granted_events, granted_desk, stored_events, store_events, store_bench, post_events, post_bench, lowest_slot, kept_channel, kept_entries, kept_desk, publish_cleared, publish_outcome, publish_bench}
use Rattle.nc_owner.specs.Look.{found_on, counted_at, found_desk, found_marks, found_events, looked_event, answered, answered_events, look_ready}
use Rattle.nc_owner.specs.OtherSteps.{touched_of, touch_events_of, joined, parted, parted_events, polled_events}
use Rattle.nc_owner_laws.specs.Used.{is_retired, times}
use Rattle.nc_owner_laws.specs.Kept.{slots_in}
use Rattle.nc_owner_laws.specs.OwnerFits.{OwnerFits}
use Rattle.nc_owner_laws.proofs.Benches.{BenchFits}
use Rattle.nc_owner_laws.specs.OwnerTold.{desk_with, channel_with, made, with_look, with_grants, new_entry, joined_channel, parted_channel, desk_of, channel_of}
use Rattle.nc_owner_laws.specs.Telling.{NewTells, TouchTells, JoinTells, PartTells, LookTells, PolledTells, ClockTells, PublishTells}
use Rattle.nc_owner_laws.proofs.Kept.{bit_le}
use Rattle.nc_owner_laws.proofs.Leaving.{let_go_fits}
use Rattle.nc_owner_laws.proofs.Storing.{unused_not}
use Rattle.nc_owner_laws.proofs.Looking.{none_counted, stands}
use Rattle.nc_owner_laws.proofs.Opening.{rest_of, opened_fits}
use Rattle.nc_owner_laws.proofs.Room.{asked_fits, roomy_fits, Ready, room_of}
use Rattle.nc_owner_laws.proofs.Steps.{touched_fits, cleared_ready, some_is}
use Rattle.nc_owner_laws.proofs.Events as events
use Rattle.nc_owner_laws.proofs.Events.{IsWithout, counts}
use Rattle.nc_owner_laws.proofs.After.{Stays, after_tells, other_without, onto_desk, onto_channel}

pub new_tells : NewTells
new_tells me workers slots first = record { desk = refl; channels = λ c. refl }

-- ---- no step removes a channel

pub append_stays : (xs ys : List Event) → AllByRecursion Stays xs → AllByRecursion Stays ys → AllByRecursion Stays (xs ++ ys)
append_stays [] ys a b = b
append_stays (x ∷ xs) ys a b = (a.0, append_stays xs ys a.1 b)

pub left_stays : (w : ℕ) (c : List ℕ) (cause : LeftCause) (es : List Entry) → AllByRecursion Stays (map (left_event w c cause) es)
left_stays w c cause [] = tt
left_stays w c cause (e ∷ es) = (tt, left_stays w c cause es)

pub freed_stays : (w : ℕ) (ks : List ℕ) → AllByRecursion Stays (map (freed_event w) ks)
freed_stays w [] = tt
freed_stays w (k ∷ ks) = (tt, freed_stays w ks)

pub granted_stays : (w slot g : ℕ) (marks : List ℕ) → AllByRecursion Stays (granted_events w slot g marks)
granted_stays w slot g [] = tt
granted_stays w slot g (to ∷ marks) = (tt, granted_stays w slot (g + 1) marks)

-- ---- a touch

abbrev fresh_channel : ℕ → Channel → Channel
fresh_channel now ch = with_entries (stayers (is_expired now) (entries_of ch)) ch

abbrev unspent_channel : Channel → Channel
unspent_channel ch = with_entries (stayers is_spent (entries_of ch)) ch

map_some : (f : Channel → Channel) (o : Option Channel) (d : Channel) → option_map f o ≡ cond (is_some o) (Some (f (unwrap_or o d))) None
map_some f None d = refl
map_some f (Some ch) d = refl

own_touch : (c : List ℕ) (row : List (Slot Message)) (s : OwnerAt) → OwnerFits row s → fold (channel_with c s.desk.spent) (found c s) (touch_events_of c row s) ≡ option_map (fresh_channel s.desk.clock) (found c s)
own_touch c row s f = events.own_let_go Expired (is_expired s.desk.clock) c s.desk.spent (found c s) (bench_of c row s) refl (opened_fits c row s f).regular.rises

pub touch_tells : TouchTells
touch_tells first h c row s f t = after_tells first h (touch_events_of c row s) c (exists c s) (touched_of c row s) s f.names t
    (left_stays s.desk.me c Expired (leavers (is_expired s.desk.clock) (bench_of c row s)))
    (events.desk_left s.desk.me c Expired (leavers (is_expired s.desk.clock) (bench_of c row s)) s.desk)
    (own_touch c row s f ∙ map_some (fresh_channel s.desk.clock) (found c s) (new_channel s.desk))
    (λ d n. events.other_left s.desk.me c d Expired s.desk.spent (found d s) (leavers (is_expired s.desk.clock) (bench_of c row s)) n)

-- ---- members

joined_case : (b : Bool) (x y : Option Channel) → b ≡ true → cond b x y ≡ x
joined_case b x y e = ap (λ t. cond t x y) e

pub join_tells : JoinTells
join_tells first h m c row s f t =
    let go = leavers (is_expired s.desk.clock) (bench_of c row s) in
    let e = Joined s.desk.me c m.from m.k in
    let f1 = option_map (fresh_channel s.desk.clock) (found c s) in
    after_tells first h (touch_events_of c row s ++ e ∷ []) c true (joined m (touched_of c row s)) s f.names t
    (append_stays (touch_events_of c row s) (e ∷ []) (left_stays s.desk.me c Expired go) (tt, tt))
    (fold-append desk_with s.desk (touch_events_of c row s) (e ∷ []) ∙ ap (λ d. desk_with d e) (events.desk_left s.desk.me c Expired go s.desk))
    (fold-append (channel_with c s.desk.spent) (found c s) (touch_events_of c row s) (e ∷ [])
    ∙ ap (λ o. channel_with c s.desk.spent o e) (own_touch c row s f)
    ∙ joined_case (bytes_eq c c) (Some (joined_channel m (unwrap_or f1 (made s.desk.spent)))) f1 (events.name_self c)
    ∙ ap (λ ch. Some (joined_channel m ch)) (sym (events.opened_let_go (is_expired s.desk.clock) s.desk.spent (found c s) (opened c s) refl)))
    (λ d n. fold-append (channel_with d s.desk.spent) (found d s) (touch_events_of c row s) (e ∷ [])
    ∙ ap (λ o. channel_with d s.desk.spent o e) (events.other_left s.desk.me c d Expired s.desk.spent (found d s) go n)
    ∙ ap (λ b. cond b (Some (joined_channel m (unwrap_or (found d s) (made s.desk.spent)))) (found d s)) n)

if_fold : {X : Type 0} (g : X → Event → X) (a : X) (b : Bool) (e : Event) → fold g a (cond b (e ∷ []) []) ≡ cond b (g a e) a
if_fold g a true e = refl
if_fold g a false e = refl

cond_same : {X : Type 0} (b : Bool) (x : X) → cond b x x ≡ x
cond_same true x = refl
cond_same false x = refl

pub if_stays : (b : Bool) (w : ℕ) (c : List ℕ) (m : Member) → AllByRecursion Stays (cond b (Parted w c m.from m.k ∷ []) [])
if_stays true w c m = (tt, tt)
if_stays false w c m = tt

unremoved : (test : Member → Bool) (ms : List Member) → list_any test ms ≡ false → remove_key test ms ≡ ms
unremoved test [] e = refl
unremoved test (x ∷ ms) e = by (test x) e (unremoved test ms)
  where
    by : (b : Bool) → (b || list_any test ms) ≡ false → (list_any test ms ≡ false → remove_key test ms ≡ ms) → cond b ms (x ∷ remove_key test ms) ≡ x ∷ ms
    by true n h = absurd (true≢false n)
    by false n h = ap (λ (l : List Member). x ∷ l) (h n)

-- a part, where the channel is there and the member too, or not
parted_some : (m : Member) (now : ℕ) (o : Option Channel) (d : Channel) → option_map (parted_channel m) (option_map (fresh_channel now) o) ≡ cond (is_some o) (Some (parted_channel m (fresh_channel now (unwrap_or o d)))) None
parted_some m now None d = refl
parted_some m now (Some ch) d = refl

parted_none : (m : Member) (now : ℕ) (o : Option Channel) (d : Channel) → has_member m (unwrap_or o d).members ≡ false → option_map (fresh_channel now) o ≡ cond (is_some o) (Some (parted_channel m (fresh_channel now (unwrap_or o d)))) None
parted_none m now None d n = refl
parted_none m now (Some ch) d n = ap (λ ms. Some (record (fresh_channel now ch) { members = ms })) (sym (unremoved (is_at (member_cmp m)) ch.members n))

own_part : (m : Member) (c : List ℕ) (s : OwnerAt) (b : Bool) → has_member m (opened c s).members ≡ b
    → cond b (cond (bytes_eq c c) (option_map (parted_channel m) (option_map (fresh_channel s.desk.clock) (found c s))) (option_map (fresh_channel s.desk.clock) (found c s))) (option_map (fresh_channel s.desk.clock) (found c s))
    ≡ cond (exists c s) (Some (parted_channel m (fresh_channel s.desk.clock (opened c s)))) None
own_part m c s true is = joined_case (bytes_eq c c) _ _ (events.name_self c) ∙ parted_some m s.desk.clock (found c s) (new_channel s.desk)
own_part m c s false is = parted_none m s.desk.clock (found c s) (new_channel s.desk) is

pub part_tells : PartTells
part_tells first h m c row s f t =
    let go = leavers (is_expired s.desk.clock) (bench_of c row s) in
    let b = has_member m (opened c s).members in
    let e = Parted s.desk.me c m.from m.k in
    let more = parted_events s.desk.me m c (opened c s) in
    after_tells first h (touch_events_of c row s ++ more) c (exists c s) (parted m (touched_of c row s)) s f.names t
    (append_stays (touch_events_of c row s) more (left_stays s.desk.me c Expired go) (if_stays b s.desk.me c m))
    (fold-append desk_with s.desk (touch_events_of c row s) more ∙ ap (λ d. fold desk_with d more) (events.desk_left s.desk.me c Expired go s.desk)
    ∙ if_fold desk_with (left_by go s.desk) b e ∙ cond_same b (left_by go s.desk))
    (fold-append (channel_with c s.desk.spent) (found c s) (touch_events_of c row s) more
    ∙ ap (λ o. fold (channel_with c s.desk.spent) o more) (own_touch c row s f)
    ∙ if_fold (channel_with c s.desk.spent) (option_map (fresh_channel s.desk.clock) (found c s)) b e
    ∙ own_part m c s b refl)
    (λ d n. fold-append (channel_with d s.desk.spent) (found d s) (touch_events_of c row s) more
    ∙ ap (λ o. fold (channel_with d s.desk.spent) o more) (events.other_left s.desk.me c d Expired s.desk.spent (found d s) go n)
    ∙ if_fold (channel_with d s.desk.spent) (found d s) b e
    ∙ ap (λ x. cond b (cond x (option_map (parted_channel m) (found d s)) (found d s)) (found d s)) n ∙ cond_same b (found d s))

-- ---- polls, and the clock

once_retired : (row : List (Slot Message)) (s : OwnerAt) (answers : List PollAnswer) → map slot_of answers ≡ s.desk.retired → OwnerFits row s → (k : ℕ) → times k (map slot_of answers) ≤ 1
once_retired row s answers each f k = omega (arith, ap (times k) each, f.apart.of_retired k, bit_le (is_retired (slot_at row k)))

-- all retired slots were polled
desk_polled : (w : ℕ) (answers : List PollAnswer) (d : Desk) → map slot_of answers ≡ d.retired → ((k : ℕ) → times k (map slot_of answers) ≤ 1) → fold desk_with d (freed_events w answers) ≡ polled_desk answers d
desk_polled w answers d each once = events.desk_freed w (free_slots answers) d ∙ (λ i. record d { retired = (ap (λ l. fold without_number l (free_slots answers)) (sym each) ∙ events.held_stay answers once) i })

pub polled_tells : PolledTells
polled_tells first h answers row s each f t = record {
  desk = sym (desk_polled s.desk.me answers s.desk each (once_retired row s answers each f)) ∙ ap (λ d. fold desk_with d (polled_events answers s)) t.desk ∙ sym (onto_desk first (polled_events answers s) h);
  channels = λ c. t.channels c ∙ sym (events.own_freed s.desk.me c (desk_of first h).spent (channel_of first c h) (free_slots answers))
      ∙ sym (onto_channel first c (polled_events answers s) h (freed_stays s.desk.me (free_slots answers)));
}

pub clock_tells : ClockTells
clock_tells first h now s t = record { desk = λ i. record (t.desk i) { clock = now }; channels = t.channels }

-- ---- a look

-- what a look finds on a bench, and what that tells of the channel
found_tells : (from number : ℕ) (c : List ℕ) (id : Id) (o : Option Channel) (b : Bench) (place : Option ℕ) (x : Option Entry) → MatchOption place (x ≡ None) (λ k. slice_get (entries_of b.channel) k ≡ x) → b.channel ≡ unwrap_or o (made b.desk.spent)
    → ((e : Entry) → times e.slot (slots_in (entries_of b.channel)) ≤ 1)
    → fold (channel_with c b.desk.spent) o (looked_event from number c id x b.desk ∷ found_events from x b.desk) ≡ Some (record (with_entries (counted_at place (entries_of b.channel)) b.channel) { marks = found_marks from x b.channel.marks })
found_tells from number c id o b None None p is once = joined_case (bytes_eq c c) (Some (with_look from None (unwrap_or o (made b.desk.spent)))) o (events.name_self c) ∙ ap (λ (ch : Channel). Some (record ch { marks = with_new_number ch.marks from })) (sym is)
found_tells from number c id o b None (Some e) p is once = absurd cc
found_tells from number c id o b (Some k) None p is once =
    joined_case (bytes_eq c c) (Some (with_look from None (unwrap_or o (made b.desk.spent)))) o (events.name_self c) ∙ ap (λ (ch : Channel). Some (record ch { marks = with_new_number ch.marks from })) (sym is)
    ∙ ap (λ (es : List Entry). Some (record (with_entries es b.channel) { marks = with_new_number b.channel.marks from })) (sym (none_counted k (entries_of b.channel) p))
found_tells from number c id o b (Some k) (Some e) p is once =
    ap (λ (y : Option Channel). option_map (with_grants e.slot) y) (joined_case (bytes_eq c c) (Some (unwrap_or o (made b.desk.spent))) o (events.name_self c)) ∙ ap (λ (ch : Channel). option_map (with_grants e.slot) (Some ch)) (sym is)
    ∙ ap (λ (es : List Entry). Some (with_entries es b.channel)) (events.counted_at_place k (entries_of b.channel) e p (once e))

found_desk_is : (from number : ℕ) (c : List ℕ) (id : Id) (x : Option Entry) (d : Desk) → fold desk_with d (looked_event from number c id x d ∷ found_events from x d) ≡ found_desk x d
found_desk_is from number c id None d = refl
found_desk_is from number c id (Some e) d = refl

pub found_stays : (from number : ℕ) (c : List ℕ) (id : Id) (x : Option Entry) (d : Desk) → AllByRecursion Stays (looked_event from number c id x d ∷ found_events from x d)
found_stays from number c id None d = (tt, tt)
found_stays from number c id (Some e) d = (tt, (tt, tt))

-- another channel has no entry in the slot of the entry that was found
found_others : (from number : ℕ) (c d : List ℕ) (id : Id) (o : Option Channel) (x : Option Entry) (k : Desk) (sp : Id) → bytes_eq c d ≡ false → ((e : Entry) → x ≡ Some e → IsWithout e.slot o)
    → fold (channel_with d sp) o (looked_event from number c id x k ∷ found_events from x k) ≡ o
found_others from number c d id o None k sp n without = ap (λ b. cond b (Some (with_look from None (unwrap_or o (made sp)))) o) n
found_others from number c d id o (Some e) k sp n without =
    ap (λ b. option_map (with_grants e.slot) (cond b (Some (unwrap_or o (made sp))) o)) n ∙ one o (without e refl)
  where
    one : (o : Option Channel) → IsWithout e.slot o → option_map (with_grants e.slot) o ≡ o
    one None w = refl
    one (Some ch) w = ap (λ es. Some (with_entries es ch)) (events.counted_none e.slot (entries_of ch) w)

found_place : (es : List Entry) (place : Option ℕ) (x : Option Entry) (e : Entry) → MatchOption place (x ≡ None) (λ k. slice_get es k ≡ x) → x ≡ Some e → 0 < times e.slot (slots_in es)
found_place es None x e p is = absurd cc
found_place es (Some k) x e p is = stands k es e (p ∙ is)

pub look_tells : LookTells
look_tells first h from number c id row s f t =
    let b0 = bench_of c row s in
    let b1 = touched_of c row s in
    let b2 = look_ready c row s in
    let o0 = found c s in
    let o1 = option_map (fresh_channel s.desk.clock) o0 in
    let o2 = option_map unspent_channel o1 in
    let f1 = touched_fits c row s f in
    let f2 = let_go_fits (rest_of c s) is_spent b1 f1 in
    let go = leavers (is_expired s.desk.clock) b0 in
    let gone = leavers is_spent b1 in
    let es1 = touch_events c b0 in
    let es2 = spend_events c b1 in
    let es3 = answered_events from number c id b2 in
    let x = found_on id b2 in
    let place = first_past id (entries_of b2.channel) in
    let p = look-finds id (entries_of b2.channel) in
    let is1 : b1.channel ≡ unwrap_or o1 (made s.desk.spent) = events.opened_let_go (is_expired s.desk.clock) s.desk.spent o0 (opened c s) refl in
    let is2 : b2.channel ≡ unwrap_or o2 (made s.desk.spent) = events.opened_let_go is_spent s.desk.spent o1 b1.channel is1 in
    let most : (k : ℕ) → times k (slots_in (rest_of c s)) + times k (slots_in (entries_of b2.channel)) ≤ 1 = λ k. omega (arith, f2.apart.of_buffered k, bit_le (is_buffered (slot_at b2.row k))) in
    after_tells first h ((es1 ++ es2) ++ es3) c true (answered from id b2) s f.names t
    (append_stays (es1 ++ es2) es3 (append_stays es1 es2 (left_stays s.desk.me c Expired go) (left_stays s.desk.me c Spent gone)) (found_stays from number c id x b2.desk))
    (fold-append desk_with s.desk (es1 ++ es2) es3 ∙ ap (λ d. fold desk_with d es3) (fold-append desk_with s.desk es1 es2 ∙ ap (λ d. fold desk_with d es2) (events.desk_left s.desk.me c Expired go s.desk) ∙ events.desk_left s.desk.me c Spent gone b1.desk)
    ∙ found_desk_is from number c id x b2.desk)
    (fold-append (channel_with c s.desk.spent) o0 (es1 ++ es2) es3
    ∙ ap (λ o. fold (channel_with c s.desk.spent) o es3) (fold-append (channel_with c s.desk.spent) o0 es1 es2 ∙ ap (λ o. fold (channel_with c s.desk.spent) o es2) (own_touch c row s f) ∙ events.own_let_go Spent is_spent c s.desk.spent o1 b1 is1 f1.regular.rises)
    ∙ found_tells from number c id o2 b2 place x p is2 (λ e. omega (arith, most e.slot)))
    (λ d n. fold-append (channel_with d s.desk.spent) (found d s) (es1 ++ es2) es3
    ∙ ap (λ o. fold (channel_with d s.desk.spent) o es3) (fold-append (channel_with d s.desk.spent) (found d s) es1 es2
    ∙ ap (λ o. fold (channel_with d s.desk.spent) o es2) (events.other_left s.desk.me c d Expired s.desk.spent (found d s) go n) ∙ events.other_left s.desk.me c d Spent s.desk.spent (found d s) gone n)
    ∙ found_others from number c d id (found d s) x b2.desk s.desk.spent n (λ e is. other_without c d e.slot s f.names n (omega (arith, most e.slot, found_place (entries_of b2.channel) place x e p is))))

-- ---- a message is stored

none_plus : (n : ℕ) → 0 + n ≡ n
none_plus n = omega arith

stored_desk : (w : ℕ) (c : List ℕ) (id : Id) (slot len exp : ℕ) (kept : Bool) (members from r : ℕ) (ct : Option (List ℕ)) (body : List ℕ) (marks : List ℕ) (d : Desk)
    → fold desk_with d (Stored w c id slot len exp kept members from r ct body ∷ granted_events w slot d.grants marks) ≡ record (kept_desk kept slot (granted_desk marks d)) { floor = max d.floor id.time }
stored_desk w c id slot len exp true members from r ct body marks d = events.desk_granted w slot marks d.grants (record d { floor = max d.floor id.time; buffered = d.buffered + 1 }) refl
stored_desk w c id slot len exp false members from r ct body marks d = events.desk_granted w slot marks d.grants (record d { floor = max d.floor id.time; retired = with_number d.retired slot }) refl

abbrev told_entry : Id → ℕ → ℕ → ℕ → Entry
told_entry id slot exp grants = record { id = id; slot = slot; expires = exp; grants = grants }

stored_counts : (kept : Bool) (id : Id) (slot exp : ℕ) (marks : List ℕ) (es : List Entry) → times slot (slots_in es) ≡ 0 → counts slot marks (kept_entries kept (new_entry id slot exp) es) ≡ kept_entries kept (told_entry id slot exp (length marks)) es
stored_counts true id slot exp marks es none = events.counts_last slot marks es (new_entry id slot exp) none refl ∙ ap (λ n. es ++ told_entry id slot exp n ∷ []) (none_plus (length marks))
stored_counts false id slot exp marks es none = events.counts_none slot marks es none

stored_own : (w : ℕ) (c : List ℕ) (id : Id) (slot len exp : ℕ) (kept : Bool) (members from r : ℕ) (ct : Option (List ℕ)) (body : List ℕ) (g : ℕ) (marks : List ℕ) (sp : Id) (o : Option Channel) (ch : Channel) → ch ≡ unwrap_or o (made sp) → times slot (slots_in (entries_of ch)) ≡ 0
    → fold (channel_with c sp) o (Stored w c id slot len exp kept members from r ct body ∷ granted_events w slot g marks) ≡ Some (kept_channel kept (told_entry id slot exp (length marks)) ch)
stored_own w c id slot len exp kept members from r ct body g marks sp o ch is none =
    ap (λ (x : Option Channel). fold (channel_with c sp) x (granted_events w slot g marks)) (joined_case (bytes_eq c c) (Some (kept_channel kept (new_entry id slot exp) (unwrap_or o (made sp)))) o (events.name_self c))
    ∙ ap (λ (x : Channel). fold (channel_with c sp) (Some (kept_channel kept (new_entry id slot exp) x)) (granted_events w slot g marks)) (sym is)
    ∙ events.own_granted w slot g c sp (kept_channel kept (new_entry id slot exp) ch) marks
    ∙ ap (λ (es : List Entry). Some (with_entries es (kept_channel kept (new_entry id slot exp) ch))) (stored_counts kept id slot exp marks (entries_of ch) none)

stored_others : (w : ℕ) (c d : List ℕ) (id : Id) (slot len exp : ℕ) (kept : Bool) (members from r : ℕ) (ct : Option (List ℕ)) (body : List ℕ) (g : ℕ) (marks : List ℕ) (sp : Id) (o : Option Channel) → bytes_eq c d ≡ false → IsWithout slot o
    → fold (channel_with d sp) o (Stored w c id slot len exp kept members from r ct body ∷ granted_events w slot g marks) ≡ o
stored_others w c d id slot len exp kept members from r ct body g marks sp o n without =
    ap (λ b. fold (channel_with d sp) (cond b (Some (kept_channel kept (new_entry id slot exp) (unwrap_or o (made sp)))) o) (granted_events w slot g marks)) n
    ∙ events.other_granted w slot g d sp o marks without

-- an unused slot is no entry's
pub unused_slot : (rest : List Entry) (slot : ℕ) (b : Bench) → lowest_unused b.row ≡ Some slot → BenchFits rest b → times slot (slots_in rest) + times slot (slots_in (entries_of b.channel)) ≡ 0
unused_slot rest slot b low f = f.apart.of_buffered slot ∙ unused_not (slot_at b.row slot) (position-Some is_unused b.row slot Unused low).1

-- what the events behind the first polls tell of the desk, of the channel and of the others
pub record Posts (c : List ℕ) (sp : Id) (o : Option Channel) (b new : Bench) (stays : Bool) (es : List Event) : Type 0 where
  pub keeps : AllByRecursion Stays es
  pub desk : fold desk_with b.desk es ≡ new.desk
  pub own : fold (channel_with c sp) o es ≡ cond stays (Some new.channel) None

stored_posts : (rest : List Entry) (from : ℕ) (o : Order) (left : List PollAnswer) (sp : Id) (x : Option Channel) (b : Bench) → BenchFits rest b → b.channel ≡ unwrap_or x (made sp) → lowest_unused (roomy o.length left b).row ≡ Some (lowest_slot (roomy o.length left b).row)
    → Posts o.chan sp x b (store_bench o left b) true (store_events from o left b)
stored_posts rest from o left sp x b f is low =
    let r = roomy o.length left b in
    let g = roomy_fits rest o.length left b f in
    let slot = lowest_slot r.row in
    let go = leaving o.length b in
    let n = leaving_count o.length (entries_of b.channel) in
    let lefts = map (left_event b.desk.me o.chan Length) go in
    let freed = freed_events b.desk.me left in
    let es = stored_events from o slot r in
    let x2 = option_map (λ ch. with_entries (drop n (entries_of ch)) ch) x in
    let none : times slot (slots_in (entries_of r.channel)) ≡ 0 = omega (arith, unused_slot rest slot r low g) in
    record {
      keeps = append_stays (lefts ++ freed) es (append_stays lefts freed (left_stays b.desk.me o.chan Length go) (freed_stays b.desk.me (free_slots left))) (tt, granted_stays b.desk.me slot b.desk.grants b.channel.marks);
      desk = fold-append desk_with b.desk (lefts ++ freed) es
          ∙ ap (λ d. fold desk_with d es) (fold-append desk_with b.desk lefts freed ∙ ap (λ d. fold desk_with d freed) (events.desk_left b.desk.me o.chan Length go b.desk) ∙ events.desk_freed b.desk.me (free_slots left) (left_by go b.desk))
          ∙ stored_desk b.desk.me o.chan (stamp r) slot o.length (expiry b.desk.clock o.timeout) (not (o.length == 0)) (length b.channel.members) from o.r o.content_type o.body b.channel.marks r.desk;
      own = fold-append (channel_with o.chan sp) x (lefts ++ freed) es
          ∙ ap (λ y. fold (channel_with o.chan sp) y es) (fold-append (channel_with o.chan sp) x lefts freed ∙ ap (λ y. fold (channel_with o.chan sp) y freed) (events.own_oldest Length n b.desk.me o.chan sp x b.channel is f.regular.rises) ∙ events.own_freed b.desk.me o.chan sp x2 (free_slots left))
          ∙ stored_own b.desk.me o.chan (stamp r) slot o.length (expiry b.desk.clock o.timeout) (not (o.length == 0)) (length b.channel.members) from o.r o.content_type o.body b.desk.grants b.channel.marks sp x2 r.channel (events.opened_oldest n sp x b.channel is) none;
    }

stored_elsewhere : (rest : List Entry) (from : ℕ) (o : Order) (left : List PollAnswer) (sp : Id) (d : List ℕ) (x : Option Channel) (b : Bench) → bytes_eq o.chan d ≡ false → IsWithout (lowest_slot (roomy o.length left b).row) x → fold (channel_with d sp) x (store_events from o left b) ≡ x
stored_elsewhere rest from o left sp d x b n without =
    let r = roomy o.length left b in
    let slot = lowest_slot r.row in
    let go = leaving o.length b in
    let lefts = map (left_event b.desk.me o.chan Length) go in
    let freed = freed_events b.desk.me left in
    let es = stored_events from o slot r in
    fold-append (channel_with d sp) x (lefts ++ freed) es
    ∙ ap (λ y. fold (channel_with d sp) y es) (fold-append (channel_with d sp) x lefts freed ∙ ap (λ y. fold (channel_with d sp) y freed) (events.other_left b.desk.me o.chan d Length sp x go n) ∙ events.own_freed b.desk.me d sp x (free_slots left))
    ∙ stored_others b.desk.me o.chan d (stamp r) slot o.length (expiry b.desk.clock o.timeout) (not (o.length == 0)) (length b.channel.members) from o.r o.content_type o.body b.desk.grants b.channel.marks sp x n without

or_false : (b : Bool) → (b || false) ≡ b
or_false true = refl
or_false false = refl

or_true : (b : Bool) → (b || true) ≡ true
or_true true = refl
or_true false = refl

-- ---- a publish

some_same : (b : Bool) (o : Option Channel) (ch : Channel) → o ≡ cond b (Some ch) None → o ≡ cond (b || false) (Some ch) None
some_same b o ch e = e ∙ ap (λ t. cond t (Some ch) None) (sym (or_false b))

post_case : (y : Outcome) (rest : List Entry) (from : ℕ) (o : Order) (polls : Polls) (sp : Id) (x : Option Channel) (there : Bool) (b : Bench) → Ready rest o.length polls b → outcome o.length polls b ≡ y → b.channel ≡ unwrap_or x (made sp) → x ≡ cond there (Some b.channel) None
    → Posts o.chan sp x b (post_bench y o polls b) (there || is_stored y) (post_events y from o polls b)
post_case late rest from o polls sp x there b r e is so = record { keeps = tt; desk = refl; own = some_same there x b.channel so }
post_case (full usage) rest from o polls sp x there b r e is so = record { keeps = tt; desk = refl; own = some_same there x b.channel so }
post_case stored rest from o polls sp x there b r e is so =
    let a = asked polls.leaving b in
    let p = stored_posts rest from o polls.left sp x a (asked_fits rest _ polls.leaving b r.before r.fits) is (some_is (lowest_unused (roomy o.length polls.left a).row) (room_of rest o.length polls b r e)) in
    record { keeps = p.keeps; desk = p.desk; own = p.own ∙ ap (λ t. cond t (Some (store_bench o polls.left a).channel) None) (sym (or_true there)) }

post_elsewhere : (y : Outcome) (rest : List Entry) (from : ℕ) (o : Order) (polls : Polls) (sp : Id) (d : List ℕ) (x : Option Channel) (b : Bench) → Ready rest o.length polls b → outcome o.length polls b ≡ y → bytes_eq o.chan d ≡ false
    → ((slot : ℕ) → times slot (slots_in rest) ≡ 0 → IsWithout slot x) → fold (channel_with d sp) x (post_events y from o polls b) ≡ x
post_elsewhere late rest from o polls sp d x b r e n without = refl
post_elsewhere (full usage) rest from o polls sp d x b r e n without = refl
post_elsewhere stored rest from o polls sp d x b r e n without =
    let a = asked polls.leaving b in
    let room = roomy o.length polls.left a in
    let low = some_is (lowest_unused room.row) (room_of rest o.length polls b r e) in
    stored_elsewhere rest from o polls.left sp d x a n (without (lowest_slot room.row) (omega (arith, unused_slot rest (lowest_slot room.row) room low (roomy_fits rest o.length polls.left a (asked_fits rest _ polls.leaving b r.before r.fits)))))

pub publish_tells : PublishTells
publish_tells first h exact told from o row s polls p f t =
    let c = o.chan in
    let b1 = touched_of c row s in
    let b = publish_cleared o polls row s in
    let y = publish_outcome o polls row s in
    let r = cleared_ready exact told o row s polls p f in
    let f1 = touched_fits c row s f in
    let x1 = option_map (fresh_channel s.desk.clock) (found c s) in
    let go = leavers (is_expired s.desk.clock) (bench_of c row s) in
    let touch = touch_events c (bench_of c row s) in
    let freed = freed_events s.desk.me polls.retired in
    let more = post_events y from o polls b in
    let once : (k : ℕ) → times k (map slot_of polls.retired) ≤ 1 = λ k. omega (arith, ap (times k) p.first.each, f1.apart.of_retired k, bit_le (is_retired (slot_at b1.row k))) in
    let q = post_case y (rest_of c s) from o polls s.desk.spent x1 (exists c s) b r refl (events.opened_let_go (is_expired s.desk.clock) s.desk.spent (found c s) (opened c s) refl) (map_some (fresh_channel s.desk.clock) (found c s) (new_channel s.desk)) in
    after_tells first h ((touch ++ freed) ++ more) c (exists c s || is_stored y) (publish_bench o polls row s) s f.names t
    (append_stays (touch ++ freed) more (append_stays touch freed (left_stays s.desk.me c Expired go) (freed_stays s.desk.me (free_slots polls.retired))) q.keeps)
    (fold-append desk_with s.desk (touch ++ freed) more
    ∙ ap (λ d. fold desk_with d more) (fold-append desk_with s.desk touch freed ∙ ap (λ d. fold desk_with d freed) (events.desk_left s.desk.me c Expired go s.desk) ∙ desk_polled s.desk.me polls.retired b1.desk p.first.each once)
    ∙ q.desk)
    (fold-append (channel_with c s.desk.spent) (found c s) (touch ++ freed) more
    ∙ ap (λ z. fold (channel_with c s.desk.spent) z more) (fold-append (channel_with c s.desk.spent) (found c s) touch freed ∙ ap (λ z. fold (channel_with c s.desk.spent) z freed) (own_touch c row s f) ∙ events.own_freed s.desk.me c s.desk.spent x1 (free_slots polls.retired))
    ∙ q.own)
    (λ d n. fold-append (channel_with d s.desk.spent) (found d s) (touch ++ freed) more
    ∙ ap (λ z. fold (channel_with d s.desk.spent) z more) (fold-append (channel_with d s.desk.spent) (found d s) touch freed
    ∙ ap (λ z. fold (channel_with d s.desk.spent) z freed) (events.other_left s.desk.me c d Expired s.desk.spent (found d s) go n) ∙ events.own_freed s.desk.me d s.desk.spent (found d s) (free_slots polls.retired))
    ∙ post_elsewhere y (rest_of c s) from o polls s.desk.spent d (found d s) b r refl n (λ slot none. other_without c d slot s f.names n none))
