-- Of which kinds the events of an owner's steps are.
use Rattle.std.proofs.Common.{ℕ, ◌+◌, Bool, true, false, cond, List, [], ◌∷◌, ◌++◌, Option, Some, None, refl, map}
use Rattle.nc_types.specs.Id.{Id}
use Rattle.nc_types.specs.Message.{Message}
use Rattle.nc_journal.specs.declared.event.Event.TheVariants.{Parted}
use Rattle.nc_journal.specs.declared.word.LeftCause.{LeftCause}
use Rattle.nc_journal.specs.declared.word.LeftCause.TheVariants.{Expired, Spent, Length, Deleted}
use Rattle.nc_journal.specs.declared.word.RemovedCause.{RemovedCause}
use Rattle.nc_journal.specs.declared.word.RemovedCause.TheVariants.{Reaped, Deleted as ByDeletion}
use Rattle.nc_buffer.specs.declared.entry.Entry.{Entry}
use Rattle.nc_buffer.specs.Buffer.{is_expired, is_spent}
use Rattle.nc_slots.specs.declared.slot.Slot.{Slot}
use Rattle.nc_owner.specs.declared.order.Order.{Order}
use Rattle.nc_owner.specs.declared.member.Member.{Member}
use Rattle.nc_owner.specs.declared.desk.Desk.{Desk}
use Rattle.nc_owner.specs.Members.{has_member}
use Rattle.nc_owner.specs.State.{OwnerAt, Bench, entries_of, exists, bench_of, opened}
use Rattle.nc_owner.specs.Leave.{left_event, leavers, touched}
use Rattle.nc_owner.specs.Poll.{freed_event, free_slots}
use Rattle.nc_owner.specs.Publish.{Polls, Outcome, late, stored, full, asked, roomy, leaving, lowest_slot, granted_events, post_events, stored_events, roomy_events, cleared_events, publish_cleared, publish_outcome, publish_events}
use Rattle.nc_owner.specs.Look.{found_on, looked_event, found_events, look_ready, look_events}
use Rattle.nc_owner.specs.Remove.{removal_lefts, events_of_removal, is_reaped}
use Rattle.nc_owner.specs.OtherSteps.{touch_events_of, touch_after}
use Rattle.nc_owner_laws.specs.Kinds.{IsOfOwner, AreOfOwner, OwnersKinds}
use Rattle.nc_owner_laws.proofs.Kept.{all_append}
use Rattle.nc_owner_laws.proofs.Fences.{raise_are}

module _ (me : ℕ) where
  of_left : (c : List ℕ) (cause : LeftCause) (es : List Entry) → AreOfOwner me (map (left_event me c cause) es)
  of_left c cause [] = tt
  of_left c cause (e ∷ es) = (refl, of_left c cause es)

  of_freed : (slots : List ℕ) → AreOfOwner me (map (freed_event me) slots)
  of_freed [] = tt
  of_freed (slot ∷ slots) = (refl, of_freed slots)

  of_granted : (slot g : ℕ) (marks : List ℕ) → AreOfOwner me (granted_events me slot g marks)
  of_granted slot g [] = tt
  of_granted slot g (to ∷ marks) = (refl, of_granted slot (g + 1) marks)

  of_parted : (b : Bool) (c : List ℕ) (m : Member) → AreOfOwner me (cond b (Parted me c m.from m.k ∷ []) [])
  of_parted true c m = (refl, tt)
  of_parted false c m = tt

of_found : (from number : ℕ) (c : List ℕ) (id : Id) (x : Option Entry) (d : Desk) → AreOfOwner d.me (looked_event from number c id x d ∷ found_events from x d)
of_found from number c id None d = (refl, tt)
of_found from number c id (Some e) d = (refl, (refl, tt))

of_touch : (c : List ℕ) (row : List (Slot Message)) (s : OwnerAt) → AreOfOwner s.desk.me (touch_events_of c row s)
of_touch c row s = of_left s.desk.me c Expired (leavers (is_expired s.desk.clock) (bench_of c row s))

pub of_removal : (goes : Bool) (cause : RemovedCause) (c : List ℕ) (s : OwnerAt) → AreOfOwner s.desk.me (events_of_removal goes cause c s)
of_removal true cause c s = all_append (IsOfOwner s.desk.me) (removal_lefts c Deleted s) _ (of_left s.desk.me c Deleted (entries_of (opened c s))) (refl, tt)
of_removal false cause c s = tt

of_post : (from : ℕ) (o : Order) (polls : Polls) (x : Outcome) (b : Bench) → AreOfOwner b.desk.me (post_events x from o polls b)
of_post from o polls late b = tt
of_post from o polls (full usage) b = tt
of_post from o polls stored b =
    let a = asked polls.leaving b in
    let r = roomy o.length polls.left a in
    all_append (IsOfOwner b.desk.me) (roomy_events o.length polls.left o.chan a) (stored_events from o (lowest_slot r.row) r)
    (all_append (IsOfOwner b.desk.me) (map (left_event b.desk.me o.chan Length) (leaving o.length a)) (map (freed_event b.desk.me) (free_slots polls.left)) (of_left b.desk.me o.chan Length (leaving o.length a)) (of_freed b.desk.me (free_slots polls.left)))
    (refl, of_granted b.desk.me (lowest_slot r.row) r.desk.grants r.channel.marks)

of_publish : (row : List (Slot Message)) (s : OwnerAt) (from : ℕ) (o : Order) (polls : Polls) → AreOfOwner s.desk.me (publish_events from o polls row s)
of_publish row s from o polls =
    all_append (IsOfOwner s.desk.me) (cleared_events polls.retired o.chan (bench_of o.chan row s)) (post_events (publish_outcome o polls row s) from o polls (publish_cleared o polls row s))
    (all_append (IsOfOwner s.desk.me) (touch_events_of o.chan row s) (map (freed_event s.desk.me) (free_slots polls.retired)) (of_touch o.chan row s) (of_freed s.desk.me (free_slots polls.retired)))
    (of_post from o polls (publish_outcome o polls row s) (publish_cleared o polls row s))

of_look : (row : List (Slot Message)) (s : OwnerAt) (from number : ℕ) (c : List ℕ) (id : Id) → AreOfOwner s.desk.me (look_events from number c id row s)
of_look row s from number c id =
    let b = bench_of c row s in
    let spends = map (left_event s.desk.me c Spent) (leavers is_spent (touched b)) in
    all_append (IsOfOwner s.desk.me) (touch_events_of c row s ++ spends) _
    (all_append (IsOfOwner s.desk.me) (touch_events_of c row s) spends (of_touch c row s) (of_left s.desk.me c Spent (leavers is_spent (touched b))))
    (of_found from number c id (found_on id (look_ready c row s)) (look_ready c row s).desk)

pub owners_kinds : OwnersKinds
owners_kinds row s = record {
  touch = λ c. of_touch c row s;
  join = λ m c. all_append (IsOfOwner s.desk.me) (touch_events_of c row s) _ (of_touch c row s) (refl, tt);
  part = λ m c. all_append (IsOfOwner s.desk.me) (touch_events_of c row s) _ (of_touch c row s) (of_parted s.desk.me (has_member m (opened c s).members) c m);
  look = of_look row s;
  raise = λ fence. raise_are (IsOfOwner s.desk.me) fence s refl;
  delete = λ c. all_append (IsOfOwner s.desk.me) (touch_events_of c row s) _ (of_touch c row s) (of_removal (exists c s) ByDeletion c (touch_after c row s));
  sweep = λ c. all_append (IsOfOwner s.desk.me) (touch_events_of c row s) _ (of_touch c row s) (of_removal (is_reaped c row s) Reaped c (touch_after c row s));
  edge = λ from number k c. all_append (IsOfOwner s.desk.me) (touch_events_of c row s) _ (of_touch c row s) (refl, tt);
  polled = λ answers. of_freed s.desk.me (free_slots answers);
  publish = of_publish row s;
}
