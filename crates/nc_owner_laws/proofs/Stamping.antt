-- A history under the stamp rule stays so over an owner's steps.
use Rattle.std.proofs.Common.{◌≡◌, ℕ, ◌+◌, ◌≤◌, Bool, true, false, cond, max, List, [], ◌∷◌, ◌++◌, Option, Some, None, refl, sym, ap, ◌∙◌, subst, arith, length, map}
use Rattle.std.specs.Prelude.{unwrap_or, nat_le, ◌==◌}
use Rattle.std.specs.List.{AllByRecursion}
use Rattle.std.proofs.lemmas.Bool.{leb-true}
use Rattle.nc_types.specs.Id.{Id, last_second}
use Rattle.nc_types.specs.Channel.{owner_of}
use Rattle.nc_types.specs.Message.{Message}
use Rattle.nc_types.specs.declared.info.FullLine.{FullLine}
use Rattle.nc_journal.specs.History.{own, onto}
use Rattle.nc_journal.specs.Stamp.{floor_of, spent_of, made_last, next_id, IsStamp, StampedAt, IsStamped, stamp as stamp_of}
use Rattle.nc_journal.specs.declared.event.Event.{Event}
use Rattle.nc_journal.specs.declared.event.Event.TheVariants.{Raised, Stored, Left, Freed, Joined, Parted, Removed}
use Rattle.nc_journal.specs.declared.word.LeftCause.{LeftCause}
use Rattle.nc_journal.specs.declared.word.LeftCause.TheVariants.{Expired, Spent, Length}
use Rattle.nc_buffer.specs.declared.entry.Entry.{Entry}
use Rattle.nc_buffer.specs.Buffer.{is_expired, is_spent}
use Rattle.nc_slots.specs.declared.slot.Slot.{Slot}
use Rattle.nc_owner.specs.declared.channel.Channel.{Channel}
use Rattle.nc_owner.specs.declared.desk.Desk.{Desk}
use Rattle.nc_owner.specs.declared.member.Member.{Member}
use Rattle.nc_owner.specs.declared.order.Order.{Order}
use Rattle.nc_owner.specs.Members.{has_member}
use Rattle.nc_owner.specs.State.{OwnerAt, found, opened, bench_of}
use Rattle.nc_owner.specs.Leave.{left_event, leavers}
use Rattle.nc_owner.specs.Poll.{free_slots, freed_event, freed_events}
use Rattle.nc_owner.specs.Publish.{Polls, Outcome, late, full, stored, outcome_by, usage_of, is_full, stamp, asked, roomy, leaving, lowest_slot, granted_events, stored_event, stored_events, post_events, publish_cleared, publish_outcome, cleared_events}
use Rattle.nc_owner.specs.Look.{found_on, looked_event, found_events, look_ready}
use Rattle.nc_owner.specs.OtherSteps.{touched_of, touch_events_of}
use Rattle.nc_owner_laws.specs.OwnerTold.{desk_of, channel_of, made, HistoryTells}
use Rattle.nc_owner_laws.specs.Filters.{new_desk}
use Rattle.nc_owner_laws.specs.Stamped.{IsHistoryOf, PublishStamped, OthersStamped, FloorLaw}
use Rattle.nc_owner_laws.proofs.Used.{eqb_self}
use Rattle.nc_owner_laws.proofs.Filtering.{desk_law, last_law, last_made}

pub onto_append : (xs ys h : List Event) → onto (xs ++ ys) h ≡ onto ys (onto xs h)
onto_append [] ys h = refl
onto_append (x ∷ xs) ys h = onto_append xs ys (x ∷ h)

-- ---- events that the stamp rule doesn't speak of

abbrev pub IsPlain : Event → Type 0
IsPlain (Stored w c id slot len exp kept members from r ct body) = ⊥
IsPlain (Raised w t) = ⊥
IsPlain (Removed w c last cause) = ⊥
IsPlain _ = Unit {0}

plain_at : (workers : ℕ) (h : List Event) (e : Event) → IsPlain e → StampedAt workers h e
plain_at workers h (Stored w c id slot len exp kept members from r ct body) p = absurd p
plain_at workers h (Raised w t) p = absurd p
plain_at workers h (Removed w c last cause) p = absurd p
plain_at workers h e p = tt

pub plain_onto : (workers : ℕ) (es h : List Event) → AllByRecursion IsPlain es → IsStamped workers h → IsStamped workers (onto es h)
plain_onto workers [] h p s = s
plain_onto workers (e ∷ es) h p s = plain_onto workers es (e ∷ h) p.1 (s, plain_at workers h e p.0)

pub plain_append : (xs ys : List Event) → AllByRecursion IsPlain xs → AllByRecursion IsPlain ys → AllByRecursion IsPlain (xs ++ ys)
plain_append [] ys a b = b
plain_append (x ∷ xs) ys a b = (a.0, plain_append xs ys a.1 b)

pub plain_left : (w : ℕ) (c : List ℕ) (cause : LeftCause) (es : List Entry) → AllByRecursion IsPlain (map (left_event w c cause) es)
plain_left w c cause [] = tt
plain_left w c cause (e ∷ es) = (tt, plain_left w c cause es)

pub plain_freed : (w : ℕ) (ks : List ℕ) → AllByRecursion IsPlain (map (freed_event w) ks)
plain_freed w [] = tt
plain_freed w (k ∷ ks) = (tt, plain_freed w ks)

pub plain_granted : (w slot g : ℕ) (marks : List ℕ) → AllByRecursion IsPlain (granted_events w slot g marks)
plain_granted w slot g [] = tt
plain_granted w slot g (to ∷ marks) = (tt, plain_granted w slot (g + 1) marks)

pub plain_found : (from number : ℕ) (c : List ℕ) (id : Id) (x : Option Entry) (d : Desk) → AllByRecursion IsPlain (looked_event from number c id x d ∷ found_events from x d)
plain_found from number c id None d = (tt, tt)
plain_found from number c id (Some e) d = (tt, (tt, tt))

pub plain_parted : (b : Bool) (w : ℕ) (c : List ℕ) (m : Member) → AllByRecursion IsPlain (cond b (Parted w c m.from m.k ∷ []) [])
plain_parted true w c m = (tt, tt)
plain_parted false w c m = tt

pub plain_touch : (c : List ℕ) (row : List (Slot Message)) (s : OwnerAt) → AllByRecursion IsPlain (touch_events_of c row s)
plain_touch c row s = plain_left s.desk.me c Expired (leavers (is_expired s.desk.clock) (bench_of c row s))

pub others_stamped : OthersStamped
others_stamped workers h c row s t = record {
  touch = plain_onto workers _ h (plain_touch c row s) t;
  join = λ m. plain_onto workers _ h (plain_append (touch_events_of c row s) (Joined s.desk.me c m.from m.k ∷ []) (plain_touch c row s) (tt, tt)) t;
  part = λ m. plain_onto workers _ h (plain_append (touch_events_of c row s) _ (plain_touch c row s) (plain_parted (has_member m (opened c s).members) s.desk.me c m)) t;
  look = λ from number id. plain_onto workers _ h (plain_append _ _ (plain_append (touch_events_of c row s) _ (plain_touch c row s) (plain_left s.desk.me c Spent (leavers is_spent (touched_of c row s)))) (plain_found from number c id (found_on id (look_ready c row s)) (look_ready c row s).desk)) t;
  polled = λ answers. plain_onto workers _ h (plain_freed s.desk.me (free_slots answers)) t;
}

-- ---- what leaves or is freed changes no stamp

abbrev Leaves : ℕ → Event → Type 0
Leaves me (Left w c id slot cause) = w ≡ me
Leaves me (Freed w slot) = w ≡ me
Leaves me _ = ⊥

leaves_plain : (me : ℕ) (e : Event) → Leaves me e → IsPlain e
leaves_plain me (Left w c id slot cause) l = tt
leaves_plain me (Freed w slot) l = tt
leaves_plain me e l = absurd l

leaves_all : (me : ℕ) (es : List Event) → AllByRecursion (Leaves me) es → AllByRecursion IsPlain es
leaves_all me [] l = tt
leaves_all me (e ∷ es) l = (leaves_plain me e l.0, leaves_all me es l.1)

by_me : (w me : ℕ) (e : Event) (h : List Event) → w ≡ me → cond (me == w) (e ∷ own me h) (own me h) ≡ e ∷ own me h
by_me w me e h is = ap (λ b. cond b (e ∷ own me h) (own me h)) (ap (λ k. me == k) is ∙ eqb_self me)

leaves_own : (me : ℕ) (e : Event) (h : List Event) → Leaves me e → own me h ≡ h → own me (e ∷ h) ≡ e ∷ h
leaves_own me (Left w c id slot cause) h l o = by_me w me (Left w c id slot cause) h l ∙ ap (λ (t : List Event). Left w c id slot cause ∷ t) o
leaves_own me (Freed w slot) h l o = by_me w me (Freed w slot) h l ∙ ap (λ (t : List Event). Freed w slot ∷ t) o
leaves_own me e h l o = absurd l

leaves_stamp : (me : ℕ) (c : List ℕ) (e : Event) (h : List Event) → Leaves me e → stamp_of c (e ∷ h) ≡ stamp_of c h
leaves_stamp me c (Left w d id slot cause) h l = refl
leaves_stamp me c (Freed w slot) h l = refl
leaves_stamp me c e h l = absurd l

onto_own : (me : ℕ) (es h : List Event) → AllByRecursion (Leaves me) es → own me h ≡ h → own me (onto es h) ≡ onto es h
onto_own me [] h l o = o
onto_own me (e ∷ es) h l o = onto_own me es (e ∷ h) l.1 (leaves_own me e h l.0 o)

onto_stamp : (me : ℕ) (c : List ℕ) (es h : List Event) → AllByRecursion (Leaves me) es → stamp_of c (onto es h) ≡ stamp_of c h
onto_stamp me c [] h l = refl
onto_stamp me c (e ∷ es) h l = onto_stamp me c es (e ∷ h) l.1 ∙ leaves_stamp me c e h l.0

leaves_append : (me : ℕ) (xs ys : List Event) → AllByRecursion (Leaves me) xs → AllByRecursion (Leaves me) ys → AllByRecursion (Leaves me) (xs ++ ys)
leaves_append me [] ys a b = b
leaves_append me (x ∷ xs) ys a b = (a.0, leaves_append me xs ys a.1 b)

leaves_left : (w me : ℕ) (c : List ℕ) (cause : LeftCause) (es : List Entry) → w ≡ me → AllByRecursion (Leaves me) (map (left_event w c cause) es)
leaves_left w me c cause [] is = tt
leaves_left w me c cause (e ∷ es) is = (is, leaves_left w me c cause es is)

leaves_freed : (w me : ℕ) (ks : List ℕ) → w ≡ me → AllByRecursion (Leaves me) (map (freed_event w) ks)
leaves_freed w me [] is = tt
leaves_freed w me (k ∷ ks) is = (is, leaves_freed w me ks is)

-- ---- the owner's own number, and the stamp

pub me_law : (d : Desk) (h : List Event) → (desk_of d h).me ≡ d.me
me_law d [] = refl
me_law d (Stored w c id slot len exp true members from r ct body ∷ h) = me_law d h
me_law d (Stored w c id slot len exp false members from r ct body ∷ h) = me_law d h
me_law d (e ∷ h) = me_law d h

-- an owner stamps as its history tells
pub stamp_law : (me workers slots first : ℕ) (h : List Event) (c : List ℕ) (s : OwnerAt) → HistoryTells (new_desk me workers slots first) h s → next_id (max s.desk.clock s.desk.floor) (opened c s).backlog.last ≡ stamp_of c h
stamp_law me workers slots first h c s t =
    let d = desk_law me workers slots first h in
    let k = desk_of (new_desk me workers slots first) h in
    ap (λ (x : Desk). next_id (max x.clock x.floor) (unwrap_or (found c s) (made x.spent)).backlog.last) t.desk
    ∙ ap (λ (o : Option Channel). next_id (max k.clock k.floor) (unwrap_or o (made k.spent)).backlog.last) (t.channels c)
    ∙ (λ i. next_id (max (d.clock i) (d.floor i)) ((last_made (channel_of (new_desk me workers slots first) c h) (made_last c h) k.spent (spent_of h) (last_law me workers slots first c h) d.spent) i))

in_time : (t f : Bool) (usage : FullLine) → outcome_by t f usage ≡ stored → t ≡ true
in_time false f usage e = absurd cc
in_time true f usage e = refl

-- a publish that stores: up to its stored event the history is under the stamp rule
pub stored_stamped : (me workers slots first from : ℕ) (h : List Event) (o : Order) (row : List (Slot Message)) (s : OwnerAt) (polls : Polls) → IsHistoryOf me workers slots first h s → owner_of workers o.chan ≡ me → IsStamped workers h
    → publish_outcome o polls row s ≡ stored → s.desk.me ≡ me
    → (let a = asked polls.leaving (publish_cleared o polls row s) in
    let r = roomy o.length polls.left a in
    IsStamped workers (stored_event from o (stamp r) (lowest_slot r.row) (length (opened o.chan s).members) r.desk ∷ onto (map (left_event s.desk.me o.chan Length) (leaving o.length a) ++ freed_events s.desk.me polls.left) (onto (cleared_events polls.retired o.chan (bench_of o.chan row s)) h)))
stored_stamped me workers slots first from h o row s polls g owner t e is =
    let c = o.chan in
    let b = publish_cleared o polls row s in
    let a = asked polls.leaving b in
    let r = roomy o.length polls.left a in
    let clear = cleared_events polls.retired c (bench_of c row s) in
    let room = map (left_event s.desk.me c Length) (leaving o.length a) ++ freed_events s.desk.me polls.left in
    let l1 : AllByRecursion (Leaves me) clear = leaves_append me (touch_events_of c row s) (freed_events s.desk.me polls.retired) (leaves_left s.desk.me me c Expired (leavers (is_expired s.desk.clock) (bench_of c row s)) is) (leaves_freed s.desk.me me (free_slots polls.retired) is) in
    let l2 : AllByRecursion (Leaves me) room = leaves_append me (map (left_event s.desk.me c Length) (leaving o.length a)) (freed_events s.desk.me polls.left) (leaves_left s.desk.me me c Length (leaving o.length a) is) (leaves_freed s.desk.me me (free_slots polls.left) is) in
    let h2 = onto room (onto clear h) in
    let t2 : IsStamped workers h2 = plain_onto workers room (onto clear h) (leaves_all me room l2) (plain_onto workers clear h (leaves_all me clear l1) t) in
    let at : IsStamp workers s.desk.me c (stamp r) h2 = record {
      owner = is ∙ sym owner;
      stamped = stamp_law me workers slots first h c s g.tells ∙ sym (onto_stamp me c clear h l1) ∙ sym (onto_stamp me c room (onto clear h) l2)
          ∙ ap (stamp_of c) (sym (ap (λ k. own k h2) is ∙ onto_own me room (onto clear h) l2 (onto_own me clear h l1 g.local)));
      time = leb-true (stamp r).time last_second (in_time (nat_le (stamp r).time last_second) (is_full b.desk.slots (usage_of o.length polls b)) (usage_of o.length polls b) e);
    } in
    (t2, at)

posted_stamped : (y : Outcome) (me workers slots first from : ℕ) (h : List Event) (o : Order) (row : List (Slot Message)) (s : OwnerAt) (polls : Polls) → IsHistoryOf me workers slots first h s → owner_of workers o.chan ≡ me → IsStamped workers h
    → publish_outcome o polls row s ≡ y → s.desk.me ≡ me → IsStamped workers (onto (post_events y from o polls (publish_cleared o polls row s)) (onto (cleared_events polls.retired o.chan (bench_of o.chan row s)) h))
posted_stamped late me workers slots first from h o row s polls g owner t e is = plain_onto workers _ h (plain_append (touch_events_of o.chan row s) _ (plain_touch o.chan row s) (plain_freed s.desk.me (free_slots polls.retired))) t
posted_stamped (full usage) me workers slots first from h o row s polls g owner t e is = plain_onto workers _ h (plain_append (touch_events_of o.chan row s) _ (plain_touch o.chan row s) (plain_freed s.desk.me (free_slots polls.retired))) t
posted_stamped stored me workers slots first from h o row s polls g owner t e is =
    let c = o.chan in
    let a = asked polls.leaving (publish_cleared o polls row s) in
    let r = roomy o.length polls.left a in
    let room = map (left_event s.desk.me c Length) (leaving o.length a) ++ freed_events s.desk.me polls.left in
    let clear = cleared_events polls.retired c (bench_of c row s) in
    let marks = (opened c s).marks in
    subst (IsStamped workers) (sym (onto_append room (stored_events from o (lowest_slot r.row) r) (onto clear h)))
    (plain_onto workers (granted_events s.desk.me (lowest_slot r.row) s.desk.grants marks) (stored_event from o (stamp r) (lowest_slot r.row) (length (opened c s).members) r.desk ∷ onto room (onto clear h)) (plain_granted s.desk.me (lowest_slot r.row) s.desk.grants marks) (stored_stamped me workers slots first from h o row s polls g owner t e is))

pub publish_stamped : PublishStamped
publish_stamped me workers slots first from h o row s polls g owner t =
    subst (IsStamped workers) (sym (onto_append (cleared_events polls.retired o.chan (bench_of o.chan row s)) (post_events (publish_outcome o polls row s) from o polls (publish_cleared o polls row s)) h))
    (posted_stamped (publish_outcome o polls row s) me workers slots first from h o row s polls g owner t refl (ap (λ (d : Desk). d.me) g.tells.desk ∙ me_law (new_desk me workers slots first) h))

-- ---- the floor

pub floor_step : (e : Event) (h : List Event) → floor_of h ≤ floor_of (e ∷ h)
floor_step (Raised w t) h = omega arith
floor_step (Stored w c id slot len exp kept members from r ct body) h = omega arith
floor_step e h = omega arith

pub floor_law : FloorLaw
floor_law [] h = omega arith
floor_law (e ∷ es) h = omega (arith, floor_law es (e ∷ h), floor_step e h)
