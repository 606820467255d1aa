-- Owners are asked on channels that they own, by workers that are there.
use Rattle.std.proofs.Common.{◌≡◌, ℕ, ◌+◌, ◌<◌, Bool, true, false, cond, List, [], ◌∷◌, ◌++◌, Option, Some, None, refl, sym, ap, ◌∙◌, subst, map}
use Rattle.std.specs.List.{AllByRecursion}
use Rattle.nc_types.specs.Id.{Id}
use Rattle.nc_types.specs.Channel.{owner_of}
use Rattle.nc_types.specs.Message.{Message}
use Rattle.nc_journal.specs.History.{onto}
use Rattle.nc_journal.specs.declared.event.Event.{Event}
use Rattle.nc_journal.specs.declared.event.Event.TheVariants.{Joined, Parted, Stored, Left, Looked, Edged, Granted, Freed, Made}
use Rattle.nc_journal.specs.declared.word.LeftCause.{LeftCause}
use Rattle.nc_journal.specs.declared.word.LeftCause.TheVariants.{Expired, Spent, Length, Deleted}
use Rattle.nc_journal.specs.declared.word.RemovedCause.{RemovedCause}
use Rattle.nc_buffer.specs.declared.entry.Entry.{Entry}
use Rattle.nc_buffer.specs.Buffer.{is_expired, is_spent}
use Rattle.nc_slots.specs.declared.slot.Slot.{Slot}
use Rattle.nc_owner.specs.declared.desk.Desk.{Desk}
use Rattle.nc_owner.specs.declared.member.Member.{Member}
use Rattle.nc_owner.specs.declared.order.Order.{Order}
use Rattle.nc_owner.specs.Members.{has_member}
use Rattle.nc_owner.specs.AlertLines.{OutLine}
use Rattle.nc_owner.specs.State.{OwnerAt, Bench, bench_of, entries_of, opened}
use Rattle.nc_owner.specs.Leave.{left_event, leavers, touched}
use Rattle.nc_owner.specs.Poll.{freed_event, free_slots}
use Rattle.nc_owner.specs.Publish.{Polls, Outcome, late, stored, full, asked, roomy, leaving, lowest_slot, granted_events, post_events, stored_events, roomy_events, cleared_events, publish_cleared, publish_outcome, publish_events, publish_alerts}
use Rattle.nc_owner.specs.Look.{found_on, looked_event, found_events, look_ready, look_events, look_alerts}
use Rattle.nc_owner.specs.OtherSteps.{touch_events_of, join_events, part_events, info_alerts, polled_events}
use Rattle.nc_owner.specs.Remove.{removal_lefts, removal_events, removal_alerts}
use Rattle.nc_owner_laws.specs.Aside.{IsAside}
use Rattle.nc_owner_laws.specs.Weave.{weave}
use Rattle.nc_worker_state.specs.Setup.{Setup}
use Rattle.nc_world_laws.proofs.OwnerTheme.{OwnerFact, IsOwnerTheme}
use Rattle.nc_world_laws.proofs.Local.{all_append}
use Rattle.nc_world_laws.proofs.Telling.{woven_all}
use Rattle.nc_world_laws.proofs.Stepping.{is_me}

-- ---- events of an owner's step on a channel, for a worker

-- an event of a step of owner w on channel c, asked by worker `from`
abbrev pub IsOnChannel : ℕ → List ℕ → ℕ → Event → Type 0
IsOnChannel w c from (Joined v d u k) = (v ≡ w) × (d ≡ c) × (u ≡ from)
IsOnChannel w c from (Parted v d u k) = (v ≡ w) × (d ≡ c) × (u ≡ from)
IsOnChannel w c from (Stored v d id slot len exp kept members u r ct body) = (v ≡ w) × (d ≡ c) × (u ≡ from)
IsOnChannel w c from (Left v d id slot cause) = (v ≡ w) × (d ≡ c)
IsOnChannel w c from (Looked v q u number d after floor found) = (v ≡ w) × (d ≡ c) × (u ≡ from)
IsOnChannel w c from (Granted v g slot to) = v ≡ w
IsOnChannel w c from (Freed v slot) = v ≡ w
IsOnChannel w c from (Made v to n a) = v ≡ w
IsOnChannel w c from _ = ⊥

abbrev pub AreOnChannel : ℕ → List ℕ → ℕ → List Event → Type 0
AreOnChannel w c from es = AllByRecursion (IsOnChannel w c from) es

module _ (w : ℕ) (c : List ℕ) (from : ℕ) where
  on_left : (cause : LeftCause) (es : List Entry) → AreOnChannel w c from (map (left_event w c cause) es)
  on_left cause [] = tt
  on_left cause (e ∷ es) = ((refl, refl), on_left cause es)

  on_freed : (slots : List ℕ) → AreOnChannel w c from (map (freed_event w) slots)
  on_freed [] = tt
  on_freed (slot ∷ slots) = (refl, on_freed slots)

  on_granted : (slot g : ℕ) (marks : List ℕ) → AreOnChannel w c from (granted_events w slot g marks)
  on_granted slot g [] = tt
  on_granted slot g (to ∷ marks) = (refl, on_granted slot (g + 1) marks)

  on_parted : (b : Bool) (k : ℕ) → AreOnChannel w c from (cond b (Parted w c from k ∷ []) [])
  on_parted true k = ((refl, refl, refl), tt)
  on_parted false k = tt

on_found : (from number : ℕ) (c : List ℕ) (id : Id) (x : Option Entry) (d : Desk) → AreOnChannel d.me c from (looked_event from number c id x d ∷ found_events from x d)
on_found from number c id None d = ((refl, refl, refl), tt)
on_found from number c id (Some e) d = ((refl, refl, refl), (refl, tt))

pub on_touch : (c : List ℕ) (from : ℕ) (row : List (Slot Message)) (s : OwnerAt) → AreOnChannel s.desk.me c from (touch_events_of c row s)
on_touch c from row s = on_left s.desk.me c from Expired (leavers (is_expired s.desk.clock) (bench_of c row s))

pub on_join : (m : Member) (c : List ℕ) (row : List (Slot Message)) (s : OwnerAt) → AreOnChannel s.desk.me c m.from (join_events m c row s)
on_join m c row s = all_append (IsOnChannel s.desk.me c m.from) (touch_events_of c row s) _ (on_touch c m.from row s) ((refl, refl, refl), tt)

pub on_part : (m : Member) (c : List ℕ) (row : List (Slot Message)) (s : OwnerAt) → AreOnChannel s.desk.me c m.from (part_events m c row s)
on_part m c row s = all_append (IsOnChannel s.desk.me c m.from) (touch_events_of c row s) _ (on_touch c m.from row s) (on_parted s.desk.me c m.from (has_member m (opened c s).members) m.k)

pub on_look : (from number : ℕ) (c : List ℕ) (id : Id) (row : List (Slot Message)) (s : OwnerAt) → AreOnChannel s.desk.me c from (look_events from number c id row s)
on_look from number c id row s =
    let spends = map (left_event s.desk.me c Spent) (leavers is_spent (touched (bench_of c row s))) in
    all_append (IsOnChannel s.desk.me c from) (touch_events_of c row s ++ spends) _
    (all_append (IsOnChannel s.desk.me c from) (touch_events_of c row s) spends (on_touch c from row s) (on_left s.desk.me c from Spent (leavers is_spent (touched (bench_of c row s)))))
    (on_found from number c id (found_on id (look_ready c row s)) (look_ready c row s).desk)

on_post : (from : ℕ) (o : Order) (polls : Polls) (x : Outcome) (b : Bench) → AreOnChannel b.desk.me o.chan from (post_events x from o polls b)
on_post from o polls late b = tt
on_post from o polls (full usage) b = tt
on_post from o polls stored b =
    let a = asked polls.leaving b in
    let r = roomy o.length polls.left a in
    all_append (IsOnChannel b.desk.me o.chan from) (roomy_events o.length polls.left o.chan a) (stored_events from o (lowest_slot r.row) r)
    (all_append (IsOnChannel b.desk.me o.chan from) (map (left_event b.desk.me o.chan Length) (leaving o.length a)) (map (freed_event b.desk.me) (free_slots polls.left)) (on_left b.desk.me o.chan from Length (leaving o.length a)) (on_freed b.desk.me o.chan from (free_slots polls.left)))
    ((refl, refl, refl), on_granted b.desk.me o.chan from (lowest_slot r.row) r.desk.grants r.channel.marks)

pub on_publish : (from : ℕ) (o : Order) (polls : Polls) (row : List (Slot Message)) (s : OwnerAt) → AreOnChannel s.desk.me o.chan from (publish_events from o polls row s)
on_publish from o polls row s =
    all_append (IsOnChannel s.desk.me o.chan from) (cleared_events polls.retired o.chan (bench_of o.chan row s)) (post_events (publish_outcome o polls row s) from o polls (publish_cleared o polls row s))
    (all_append (IsOnChannel s.desk.me o.chan from) (touch_events_of o.chan row s) (map (freed_event s.desk.me) (free_slots polls.retired)) (on_touch o.chan from row s) (on_freed s.desk.me o.chan from (free_slots polls.retired)))
    (on_post from o polls (publish_outcome o polls row s) (publish_cleared o polls row s))

-- ---- the theme

-- what is asked of an owner is on a channel that it owns, by a worker that is there
abbrev pub IsAsked : ℕ → Event → Type 0
IsAsked workers (Joined w c from k) = (w ≡ owner_of workers c) × (from < workers)
IsAsked workers (Parted w c from k) = (w ≡ owner_of workers c) × (from < workers)
IsAsked workers (Looked w q from number c after floor found) = (w ≡ owner_of workers c) × (from < workers)
IsAsked workers (Edged w q from number k c floor last) = (w ≡ owner_of workers c) × (from < workers)
IsAsked workers _ = Unit {0}

module _ (workers w : ℕ) (c : List ℕ) (from : ℕ) (owns : owner_of workers c ≡ w) (there : from < workers) where
  here : (v : ℕ) (d : List ℕ) (u : ℕ) → (v ≡ w) × (d ≡ c) × (u ≡ from) → (v ≡ owner_of workers d) × (u < workers)
  here v d u is = (is.0 ∙ sym owns ∙ ap (owner_of workers) (sym is.1), subst (λ (x : ℕ). x < workers) (sym is.2) there)

  asked_on : (e : Event) → IsOnChannel w c from e → IsAsked workers e
  asked_on (Joined v d u k) is = here v d u is
  asked_on (Parted v d u k) is = here v d u is
  asked_on (Looked v q u number d after floor found) is = here v d u is
  asked_on (Edged v q u number k d floor last) is = absurd is
  asked_on e is = tt

-- an event that nobody asks for
abbrev pub IsUnasked : Event → Type 0
IsUnasked (Joined w c from k) = ⊥
IsUnasked (Parted w c from k) = ⊥
IsUnasked (Looked w q from number c after floor found) = ⊥
IsUnasked (Edged w q from number k c floor last) = ⊥
IsUnasked _ = Unit {0}

pub unasked : (workers : ℕ) (e : Event) → IsUnasked e → IsAsked workers e
unasked workers (Joined w c from k) p = absurd p
unasked workers (Parted w c from k) p = absurd p
unasked workers (Looked w q from number c after floor found) p = absurd p
unasked workers (Edged w q from number k c floor last) p = absurd p
unasked workers e p = tt

aside_unasked : (e : Event) → IsAside e → IsUnasked e
aside_unasked (Joined w c from k) p = absurd p
aside_unasked (Parted w c from k) p = absurd p
aside_unasked (Looked w q from number c after floor found) p = absurd p
aside_unasked (Edged w q from number k c floor last) p = absurd p
aside_unasked e p = tt

-- events put on a history
pub all_onto : (P : Event → Type 0) (es h : List Event) → AllByRecursion P es → AllByRecursion P h → AllByRecursion P (onto es h)
all_onto P [] h a b = b
all_onto P (e ∷ es) h a b = all_onto P es (e ∷ h) a.1 (a.0, b)

abbrev pub AskedFact : Setup → OwnerFact
AskedFact setup row h s = AllByRecursion (IsAsked setup.workers) h

module _ (setup : Setup) (me : ℕ) (next : ℕ → ℕ) (h : List Event) (w : ℕ) (is : w ≡ me) (fact : AllByRecursion (IsAsked setup.workers) h) where
  -- a step on a channel
  on : (c : List ℕ) (from : ℕ) (es : List Event) (alerts : List OutLine) → owner_of setup.workers c ≡ me → from < setup.workers → AreOnChannel w c from es → AllByRecursion (IsAsked setup.workers) (onto (weave me next es alerts) h)
  on c from es alerts owns there a = all_onto (IsAsked setup.workers) (weave me next es alerts) h (woven_all (IsAsked setup.workers) me next (λ to n l. tt) es alerts (changed es a)) fact
    where
      changed : (xs : List Event) → AreOnChannel w c from xs → AllByRecursion (IsAsked setup.workers) xs
      changed [] b = tt
      changed (e ∷ xs) b = (asked_on setup.workers w c from (owns ∙ sym is) there e b.0, changed xs b.1)

  -- a step that nobody asks for
  alone : (es : List Event) (alerts : List OutLine) → AllByRecursion IsUnasked es → AllByRecursion (IsAsked setup.workers) (onto (weave me next es alerts) h)
  alone es alerts a = all_onto (IsAsked setup.workers) (weave me next es alerts) h (woven_all (IsAsked setup.workers) me next (λ to n l. tt) es alerts (changed es a)) fact
    where
      changed : (xs : List Event) → AllByRecursion IsUnasked xs → AllByRecursion (IsAsked setup.workers) xs
      changed [] b = tt
      changed (e ∷ xs) b = (unasked setup.workers e b.0, changed xs b.1)

unasked_lefts : (w : ℕ) (c : List ℕ) (cause : LeftCause) (es : List Entry) → AllByRecursion IsUnasked (map (left_event w c cause) es)
unasked_lefts w c cause [] = tt
unasked_lefts w c cause (e ∷ es) = (tt, unasked_lefts w c cause es)

pub unasked_touch : (c : List ℕ) (row : List (Slot Message)) (s : OwnerAt) → AllByRecursion IsUnasked (touch_events_of c row s)
unasked_touch c row s = unasked_lefts s.desk.me c Expired (leavers (is_expired s.desk.clock) (bench_of c row s))

pub unasked_removal : (c : List ℕ) (cause : RemovedCause) (s : OwnerAt) → AllByRecursion IsUnasked (removal_events c cause s)
unasked_removal c cause s = all_append IsUnasked (removal_lefts c Deleted s) _ (unasked_lefts s.desk.me c Deleted (entries_of (opened c s))) (tt, tt)

unasked_freed : (w : ℕ) (slots : List ℕ) → AllByRecursion IsUnasked (map (freed_event w) slots)
unasked_freed w [] = tt
unasked_freed w (slot ∷ slots) = (tt, unasked_freed w slots)

pub asked_theme : (setup : Setup) (me : ℕ) → IsOwnerTheme setup me (AskedFact setup)
asked_theme setup me = record {
  new = tt;
  step = λ next row counts h s base fact.
      let is = is_me me setup.workers setup.slots setup.first row h s base.keeps.stands in
      let step = on setup me next h s.desk.me is fact in
      record {
        aside = λ e p by. (unasked setup.workers e (aside_unasked e p), fact);
        clock = λ now. (tt, fact);
        raise = λ fence lt. (tt, fact);
        edge = λ from number k c owns there swept. (tt, ((sym owns, there), fact));
        join = λ m c owns there. step c m.from (join_events m c row s) [] owns there (on_join m c row s);
        part = λ m c owns there. step c m.from (part_events m c row s) [] owns there (on_part m c row s);
        info = λ from r c owns there. step c from (touch_events_of c row s) (info_alerts from r c row s) owns there (on_touch c from row s);
        touch = λ c owns. alone setup me next h s.desk.me is fact (touch_events_of c row s) [] (unasked_touch c row s);
        remove = λ c cause owns may. alone setup me next h s.desk.me is fact (removal_events c cause s) (removal_alerts c s) (unasked_removal c cause s);
        look = λ from number c id owns there. step c from (look_events from number c id row s) (look_alerts from number c id row s) owns there (on_look from number c id row s);
        polled = λ answers each. alone setup me next h s.desk.me is fact (polled_events answers s) [] (unasked_freed s.desk.me (free_slots answers));
        publish = λ from o polls owns there fit. step o.chan from (publish_events from o polls row s) (publish_alerts from o polls row s) owns there (on_publish from o polls row s);
      };
}
