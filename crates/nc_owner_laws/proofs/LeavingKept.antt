-- The leaving rule over an owner's steps.
use Rattle.std.proofs.Common.{◌≡◌, inl, inr, ℕ, zero, suc, ◌+◌, ◌-◌, ◌<◌, ◌≤◌, Bool, true, false, cond, not, List, [], ◌∷◌, ◌++◌, Option, Some, None, refl, sym, ap, ◌∙◌, subst, arith, length, map, filter, take, drop, append_assoc, ◌⊎◌}
use Rattle.std.specs.Prelude.{◌==◌, ◌&&◌, ◌||◌, nat_le, bytes_eq}
use Rattle.std.specs.List.{AllByRecursion}
use Rattle.std.proofs.lemmas.Bool.{cond_both}
use Rattle.std.proofs.lemmas.Bool.Decides.{nat_tests}
use Rattle.std.proofs.lemmas.List.{length-drop, length-map}
use Rattle.nc_types.specs.Id.{Id, IsPast, id_eq}
use Rattle.nc_types.specs.Channel.{owner_of}
use Rattle.nc_types.specs.Message.{Message as SlotMessage}
use Rattle.nc_journal.specs.History.{own, onto, Along, AtEachCut, is_by}
use Rattle.nc_journal.specs.Stamp.{clock_of}
use Rattle.nc_journal.specs.Message.{Message, buffer, published, is_gone, stored_message, IsRising}
use Rattle.nc_journal.specs.Leaving.{has_expired, HasMessage, StandsFirst, MakesWay, MakesRoom, GoesToo, GoesNext, grants_since, most_grants, LeavesBy, LeftAt, NoneExpired, FindsAt, IsLeavingRule}
use Rattle.nc_journal.specs.declared.event.Event.{Event}
use Rattle.nc_journal.specs.declared.event.Event.TheVariants.{Stored, Left, Looked, Edged, Granted, Freed, Joined, Parted, Removed}
use Rattle.nc_journal.specs.declared.word.LeftCause.{LeftCause}
use Rattle.nc_journal.specs.declared.word.LeftCause.TheVariants.{Length, Expired, Spent, Deleted}
use Rattle.nc_journal.specs.declared.word.RemovedCause.{RemovedCause}
use Rattle.nc_journal.specs.declared.word.RemovedCause.TheVariants.{Deleted as ByDeletion}
use Rattle.nc_journal.proofs.Buffers.{rising-filtered}
use Rattle.nc_journal.proofs.Cuts.{cut-turn, cut-weaker, onto-append, all-weaker, all-both}
use Rattle.nc_journal.proofs.Leavings.{without, without_all, without-first, buffer-left, without_all-filter, without_all-take, has-still, has-passed, left-more, id_eq-self}
use Rattle.nc_journal.proofs.Rising.{ids-rise}
use Rattle.nc_buffer.specs.declared.entry.Entry.{Entry}
use Rattle.nc_buffer.specs.Buffer.{is_expired, is_spent}
use Rattle.nc_slots.specs.declared.slot.Slot.{Slot}
use Rattle.nc_owner.specs.declared.desk.Desk.{Desk}
use Rattle.nc_owner.specs.declared.member.Member.{Member}
use Rattle.nc_owner.specs.Members.{has_member}
use Rattle.nc_owner.specs.AlertLines.{OutLine}
use Rattle.nc_owner.specs.State.{OwnerAt, entries_of, found, opened}
use Rattle.nc_owner.specs.Leave.{left_event, leavers, spend_events}
use Rattle.nc_owner.specs.Poll.{freed_event, free_slots, freed_events}
use Rattle.nc_owner.specs.Publish.{Outcome, late, full, stored, asked, roomy, leaving, leaving_count, lowest_slot, granted_events, stamp, stored_event, post_events, post_alerts, publish_cleared, publish_outcome}
use Rattle.nc_owner.specs.Edge.{last_in}
use Rattle.nc_owner.specs.Remove.{removal_alerts}
use Rattle.nc_owner.specs.Look.{found_on, looked_event, found_events, look_ready, look_events, look_alerts}
use Rattle.nc_owner.specs.OtherSteps.{touched_of, touch_events_of, info_alerts, polled_events}
use Rattle.nc_owner_laws.specs.Filters.{new_desk}
use Rattle.nc_owner_laws.specs.Buffered.{Brief, brief_entry, brief_message}
use Rattle.nc_owner_laws.specs.OwnerStanding.{Stands}
use Rattle.nc_owner_laws.specs.LeavingKept.{AreCounted, OthersLeave, PublishLeaves}
use Rattle.nc_owner_laws.specs.Removing.{removed_onto}
use Rattle.nc_owner_laws.specs.Weave.{weave, makes, numbered}
use Rattle.nc_owner_laws.proofs.Buffering.{made_entries}
use Rattle.nc_owner_laws.proofs.Events.{name_self}
use Rattle.nc_owner_laws.proofs.Hearing as hearing
use Rattle.nc_owner_laws.proofs.Owners.{own_onto, by_is}
use Rattle.nc_owner_laws.proofs.Showing.{stands_shows}
use Rattle.nc_owner_laws.proofs.Stamping as stamping
use Rattle.nc_owner_laws.proofs.Weaving.{weave_first}

-- ---- the events of a step, and what stands behind each of them

onto_on : (es h : List Event) → onto es h ≡ onto es [] ++ h
onto_on [] h = refl
onto_on (e ∷ es) h = onto_on es (e ∷ h) ∙ sym (append_assoc (onto es []) (e ∷ []) h) ∙ ap (λ (l : List Event). l ++ h) (sym (onto_on es (e ∷ [])))

append_none : (es : List Event) → es ++ [] ≡ es
append_none [] = refl
append_none (e ∷ es) = ap (λ (l : List Event). e ∷ l) (append_none es)

module _ (workers : ℕ) where
  -- each event leaves by the rule, where these come behind it
  abbrev Leave : List Event → List Event → Type 0
  Leave [] h = Unit {0}
  Leave (e ∷ es) h = LeftAt workers (onto es []) e h × Leave es (e ∷ h)

  -- whatever comes behind it
  abbrev LeaveAlways : List Event → List Event → Type 0
  LeaveAlways [] h = Unit {0}
  LeaveAlways (e ∷ es) h = ((newer : List Event) → LeftAt workers newer e h) × LeaveAlways es (e ∷ h)

  leave_then : (xs ys h : List Event) → LeaveAlways xs h → Leave ys (onto xs h) → Leave (xs ++ ys) h
  leave_then [] ys h a b = b
  leave_then (e ∷ xs) ys h a b = (a.0 (onto (xs ++ ys) []), leave_then xs ys (e ∷ h) a.1 b)

  always_append : (xs ys h : List Event) → LeaveAlways xs h → LeaveAlways ys (onto xs h) → LeaveAlways (xs ++ ys) h
  always_append [] ys h a b = b
  always_append (e ∷ xs) ys h a b = (a.0, always_append xs ys (e ∷ h) a.1 b)

  leave_always : (es h : List Event) → LeaveAlways es h → Leave es h
  leave_always [] h a = tt
  leave_always (e ∷ es) h a = (a.0 (onto es []), leave_always es (e ∷ h) a.1)

  left_later : (top newer : List Event) (x : Event) (older : List Event) → LeftAt workers newer x older → LeftAt workers (top ++ newer) x older
  left_later [] newer x older at = at
  left_later (e ∷ top) newer x older at = left-more workers e (top ++ newer) x older (left_later top newer x older at)

  cuts_onto : (es h : List Event) → AtEachCut (λ newer x older. LeftAt workers (onto es [] ++ newer) x older) h → Leave es h → AtEachCut (LeftAt workers) (onto es h)
  cuts_onto [] h a t = a
  cuts_onto (e ∷ es) h a t =
      cuts_onto es (e ∷ h)
      (cut-turn (λ newer x older. LeftAt workers (onto (e ∷ es) [] ++ newer) x older) (λ newer x older. LeftAt workers (onto es [] ++ newer) x older) h e a
      (subst (λ (l : List Event). LeftAt workers l e h) (sym (append_none (onto es []))) t.0)
      (λ newer x older is p. subst (λ (l : List Event). LeftAt workers l x older) (ap (λ (l : List Event). l ++ newer) (onto_on es (e ∷ [])) ∙ append_assoc (onto es []) (e ∷ []) newer) p))
      t.1

  left_onto : (es h : List Event) → AtEachCut (LeftAt workers) h → Leave es h → AtEachCut (LeftAt workers) (onto es h)
  left_onto es h a t = cuts_onto es h (cut-weaker (LeftAt workers) (λ newer x older. LeftAt workers (onto es [] ++ newer) x older) h (λ newer x older is p. left_later (onto es []) newer x older p) a) t

-- each event finds what it should
abbrev Find : List Event → List Event → Type 0
Find [] h = Unit {0}
Find (e ∷ es) h = FindsAt h e × Find es (e ∷ h)

find_append : (xs ys h : List Event) → Find xs h → Find ys (onto xs h) → Find (xs ++ ys) h
find_append [] ys h a b = b
find_append (e ∷ xs) ys h a b = (a.0, find_append xs ys (e ∷ h) a.1 b)

finds_onto : (es h : List Event) → Along FindsAt h → Find es h → Along FindsAt (onto es h)
finds_onto [] h a f = a
finds_onto (e ∷ es) h a f = finds_onto es (e ∷ h) (a, f.0) f.1

-- events on which the rule says nothing
abbrev IsMute : Event → Type 0
IsMute (Left w c id slot cause) = ⊥
IsMute (Stored w c id slot len exp kept members from r ct body) = ⊥
IsMute (Looked w q from number c after floor found) = ⊥
IsMute (Edged w q from number k c floor last) = ⊥
IsMute (Joined w c from k) = ⊥
IsMute (Parted w c from k) = ⊥
IsMute (Removed w c last cause) = ⊥
IsMute _ = Unit {0}

mute_left : (workers : ℕ) (e : Event) (newer h : List Event) → IsMute e → LeftAt workers newer e h
mute_left workers (Left w c id slot cause) newer h p = absurd p
mute_left workers e newer h p = tt

mute_finds : (e : Event) (h : List Event) → IsMute e → FindsAt h e
mute_finds (Stored w c id slot len exp kept members from r ct body) h p = absurd p
mute_finds (Looked w q from number c after floor found) h p = absurd p
mute_finds (Edged w q from number k c floor last) h p = absurd p
mute_finds (Joined w c from k) h p = absurd p
mute_finds (Parted w c from k) h p = absurd p
mute_finds (Removed w c last cause) h p = absurd p
mute_finds e h p = tt

mute_leave : (workers : ℕ) (es h : List Event) → AllByRecursion IsMute es → LeaveAlways workers es h
mute_leave workers [] h p = tt
mute_leave workers (e ∷ es) h p = ((λ newer. mute_left workers e newer h p.0), mute_leave workers es (e ∷ h) p.1)

mute_find : (es h : List Event) → AllByRecursion IsMute es → Find es h
mute_find [] h p = tt
mute_find (e ∷ es) h p = (mute_finds e h p.0, mute_find es (e ∷ h) p.1)

mute_makes : (w : ℕ) (next : ℕ → ℕ) (alerts : List OutLine) → AllByRecursion IsMute (makes w next alerts)
mute_makes w next [] = tt
mute_makes w next (a ∷ alerts) = (tt, mute_makes w (numbered next a.to) alerts)

mute_weave : (w : ℕ) (next : ℕ → ℕ) (es : List Event) (alerts : List OutLine) → AllByRecursion IsMute es → AllByRecursion IsMute (weave w next es alerts)
mute_weave w next [] alerts p = mute_makes w next alerts
mute_weave w next (Granted v g s to ∷ es) [] p = (tt, mute_weave w next es [] p.1)
mute_weave w next (Granted v g s to ∷ es) (a ∷ alerts) p = (tt, (tt, mute_weave w (numbered next a.to) es alerts p.1))
mute_weave w next (e ∷ es) alerts p = (p.0, mute_weave w next es alerts p.1)

mute_freed : (w : ℕ) (slots : List ℕ) → AllByRecursion IsMute (map (freed_event w) slots)
mute_freed w [] = tt
mute_freed w (slot ∷ slots) = (tt, mute_freed w slots)

mute_granted : (w slot g : ℕ) (marks : List ℕ) → AllByRecursion IsMute (granted_events w slot g marks)
mute_granted w slot g [] = tt
mute_granted w slot g (to ∷ marks) = (tt, mute_granted w slot (g + 1) marks)

mute_found : (from : ℕ) (x : Option Entry) (d : Desk) → AllByRecursion IsMute (found_events from x d)
mute_found from None d = tt
mute_found from (Some e) d = (tt, tt)

-- the rule from its two parts, over a step
kept : (workers : ℕ) (es h : List Event) → IsLeavingRule workers h → Leave workers es h → Find es h → IsLeavingRule workers (onto es h)
kept workers es h k l f = record { left = left_onto workers es h k.left l; finds = finds_onto es h k.finds f }

-- ---- entries and messages

-- the events of entries that leave are those of their messages
abbrev pub lefts_of : ℕ → List ℕ → LeftCause → List Message → List Event
lefts_of w c cause ms = map (λ m. Left w c m.id m.slot cause) ms

abbrev left_of : ℕ → List ℕ → LeftCause → Brief → Event
left_of w c cause b = Left w c b.id b.slot cause

entries_left : (w : ℕ) (c : List ℕ) (cause : LeftCause) (es : List Entry) → map (left_event w c cause) es ≡ map (left_of w c cause) (map brief_entry es)
entries_left w c cause [] = refl
entries_left w c cause (e ∷ es) = ap (λ (l : List Event). left_event w c cause e ∷ l) (entries_left w c cause es)

messages_left : (w : ℕ) (c : List ℕ) (cause : LeftCause) (ms : List Message) → lefts_of w c cause ms ≡ map (left_of w c cause) (map brief_message ms)
messages_left w c cause [] = refl
messages_left w c cause (m ∷ ms) = ap (λ (l : List Event). Left w c m.id m.slot cause ∷ l) (messages_left w c cause ms)

pub same_lefts : (w : ℕ) (c : List ℕ) (cause : LeftCause) (es : List Entry) (ms : List Message) → map brief_entry es ≡ map brief_message ms → map (left_event w c cause) es ≡ lefts_of w c cause ms
same_lefts w c cause es ms same = entries_left w c cause es ∙ ap (map (left_of w c cause)) same ∙ sym (messages_left w c cause ms)

map_filter : {X : Type 0} → (f : X → Brief) (test : Brief → Bool) (xs : List X) → map f (filter (λ x. test (f x)) xs) ≡ filter test (map f xs)
map_filter f test [] = refl
map_filter f test (x ∷ xs) = by (test (f x)) (map_filter f test xs)
  where
    by : (b : Bool) → map f (filter (λ y. test (f y)) xs) ≡ filter test (map f xs) → map f (cond b (x ∷ filter (λ y. test (f y)) xs) (filter (λ y. test (f y)) xs)) ≡ cond b (f x ∷ filter test (map f xs)) (filter test (map f xs))
    by true h = ap (λ l. f x ∷ l) h
    by false h = h

same_filter : (test : Brief → Bool) (es : List Entry) (ms : List Message) → map brief_entry es ≡ map brief_message ms → map brief_entry (filter (λ e. test (brief_entry e)) es) ≡ map brief_message (filter (λ m. test (brief_message m)) ms)
same_filter test es ms same = map_filter brief_entry test es ∙ ap (filter test) same ∙ sym (map_filter brief_message test ms)

map_take : {X : Type 0} → (f : X → Brief) (n : ℕ) (xs : List X) → map f (take n xs) ≡ take n (map f xs)
map_take f zero xs = refl
map_take f (suc n) [] = refl
map_take f (suc n) (x ∷ xs) = ap (λ l. f x ∷ l) (map_take f n xs)

-- ---- some messages leave, by a cause that needs nothing behind it

module _ (workers w : ℕ) (c : List ℕ) (mine : w ≡ owner_of workers c) where
  buffer_first : (id : Id) (slot : ℕ) (cause : LeftCause) (h : List Event) → buffer c (Left w c id slot cause ∷ h) ≡ without id (buffer c h)
  buffer_first id slot cause h = buffer-left c w c id slot cause h ∙ ap (λ b. cond b (without id (buffer c h)) (buffer c h)) (name_self c)

  own_left : (id : Id) (slot : ℕ) (cause : LeftCause) (h : List Event) → own w h ≡ h → own w (Left w c id slot cause ∷ h) ≡ Left w c id slot cause ∷ h
  own_left id slot cause h local = own_onto w (Left w c id slot cause ∷ []) h (by_is w w refl, tt) local

  -- the test on a message, and that the cause holds where it does, in a history as it stands then
  leave_some : (cause : LeftCause) (Same : List Event → Type 0) (P : Message → Type 0)
      → ((h : List Event) (id : Id) (slot : ℕ) → Same h → Same (Left w c id slot cause ∷ h))
      → ((h newer : List Event) (id : Id) (slot : ℕ) → Same h → HasMessage P (buffer c h) id slot → LeavesBy cause w c id slot newer h)
      → (ms : List Message) (h : List Event) → Same h → IsRising ms → AllByRecursion (λ x. HasMessage P (buffer c h) x.id x.slot) ms → LeaveAlways workers (lefts_of w c cause ms) h
  leave_some cause Same P stays why [] h s rises there = tt
  leave_some cause Same P stays why (m ∷ ms) h s rises there = (
    λ newer. record { owner = mine; why = why h newer m.id m.slot s there.0 },
    leave_some cause Same P stays why ms (Left w c m.id m.slot cause ∷ h) (stays h m.id m.slot s) rises.1
        (all-both (λ later. IsPast later.id m.id) (λ x. HasMessage P (buffer c h) x.id x.slot) (λ x. HasMessage P (buffer c (Left w c m.id m.slot cause ∷ h)) x.id x.slot)
        (λ x later at. subst (λ l. HasMessage P l x.id x.slot) (sym (buffer_first m.id m.slot cause h)) (has-still P (buffer c h) x.id m.id x.slot later at)) ms rises.0 there.1),
  )

  pub buffer_lefts : (cause : LeftCause) (ms : List Message) (h : List Event) → buffer c (onto (lefts_of w c cause ms) h) ≡ without_all ms (buffer c h)
  buffer_lefts cause [] h = refl
  buffer_lefts cause (m ∷ ms) h = buffer_lefts cause ms (Left w c m.id m.slot cause ∷ h) ∙ ap (without_all ms) (buffer_first m.id m.slot cause h)

  lefts_find : (cause : LeftCause) (ms : List Message) (h : List Event) → Find (lefts_of w c cause ms) h
  lefts_find cause [] h = tt
  lefts_find cause (m ∷ ms) h = (tt, lefts_find cause ms (Left w c m.id m.slot cause ∷ h))

  -- ---- what has expired leaves

  abbrev AtClock : ℕ → List Event → Type 0
  AtClock now h = clock_of (own w h) ≡ now

  clock_left : (now : ℕ) (cause : LeftCause) (h : List Event) (id : Id) (slot : ℕ) → AtClock now h → AtClock now (Left w c id slot cause ∷ h)
  clock_left now cause h id slot at = by (w == w) at
    where
      by : (b : Bool) → clock_of (own w h) ≡ now → clock_of (cond b (Left w c id slot cause ∷ own w h) (own w h)) ≡ now
      by true e = e
      by false e = e

  clock_lefts : (now : ℕ) (cause : LeftCause) (ms : List Message) (h : List Event) → AtClock now h → AtClock now (onto (lefts_of w c cause ms) h)
  clock_lefts now cause [] h at = at
  clock_lefts now cause (m ∷ ms) h at = clock_lefts now cause ms (Left w c m.id m.slot cause ∷ h) (clock_left now cause h m.id m.slot at)

  expired_leave : (now : ℕ) (h : List Event) → AtClock now h → IsRising (buffer c h) → LeaveAlways workers (lefts_of w c Expired (filter (has_expired now) (buffer c h))) h
  expired_leave now h at rises =
      leave_some Expired (AtClock now) (λ m. has_expired now m ≡ true) (clock_left now Expired)
      (λ l newer id slot same has. subst (λ (n : ℕ). HasMessage (λ m. has_expired n m ≡ true) (buffer c l) id slot) (sym same) has)
      (filter (has_expired now) (buffer c h)) h at (rising-filtered (has_expired now) (buffer c h) rises) (has-passed (has_expired now) (buffer c h))

  buffer_touched : (now : ℕ) (h : List Event) → IsRising (buffer c h) → buffer c (onto (lefts_of w c Expired (filter (has_expired now) (buffer c h))) h) ≡ filter (λ m. not (has_expired now m)) (buffer c h)
  buffer_touched now h rises = buffer_lefts Expired (filter (has_expired now) (buffer c h)) h ∙ without_all-filter (has_expired now) (buffer c h) rises

  none_pass : (test : Message → Bool) (ms : List Message) → AllByRecursion (λ m. test m ≡ false) (filter (λ m. not (test m)) ms)
  none_pass test [] = tt
  none_pass test (m ∷ ms) = by (none_pass test ms) (test m) refl
    where
      by : AllByRecursion (λ x. test x ≡ false) (filter (λ x. not (test x)) ms) → (b : Bool) → test m ≡ b → AllByRecursion (λ x. test x ≡ false) (cond (not b) (m ∷ filter (λ x. not (test x)) ms) (filter (λ x. not (test x)) ms))
      by rest true is = rest
      by rest false is = (is, rest)

  -- none of the buffer has expired, by this clock
  record IsFresh (now : ℕ) (h : List Event) : Type 0 where
    clock : AtClock now h
    none : AllByRecursion (λ m. has_expired now m ≡ false) (buffer c h)
    rises : IsRising (buffer c h)

  fresh_finds : (now : ℕ) (h : List Event) → IsFresh now h → NoneExpired w c h
  fresh_finds now h f = subst (λ (n : ℕ). AllByRecursion (λ m. has_expired n m ≡ false) (buffer c h)) (sym f.clock) f.none

  touched_fresh : (now : ℕ) (h : List Event) → AtClock now h → IsRising (buffer c h) → IsFresh now (onto (lefts_of w c Expired (filter (has_expired now) (buffer c h))) h)
  touched_fresh now h at rises = record {
    clock = clock_lefts now Expired (filter (has_expired now) (buffer c h)) h at;
    none = subst (AllByRecursion (λ m. has_expired now m ≡ false)) (sym (buffer_touched now h rises)) (none_pass (has_expired now) (buffer c h));
    rises = subst IsRising (sym (buffer_touched now h rises)) (rising-filtered (λ m. not (has_expired now m)) (buffer c h) rises);
  }

  -- ---- what was granted as often as it may be leaves

  abbrev AtCounts : List Event → List Event → Type 0
  AtCounts first h = (slot : ℕ) → grants_since slot (own w h) ≡ grants_since slot first

  counts_left : (cause : LeftCause) (first : List Event) (h : List Event) (id : Id) (slot : ℕ) → AtCounts first h → AtCounts first (Left w c id slot cause ∷ h)
  counts_left cause first h id slot at k = by (w == w) (at k)
    where
      by : (b : Bool) → grants_since k (own w h) ≡ grants_since k first → grants_since k (cond b (Left w c id slot cause ∷ own w h) (own w h)) ≡ grants_since k first
      by true e = e
      by false e = e

  counts_lefts : (cause : LeftCause) (first : List Event) (ms : List Message) (h : List Event) → AtCounts first h → AtCounts first (onto (lefts_of w c cause ms) h)
  counts_lefts cause first [] h at = at
  counts_lefts cause first (m ∷ ms) h at = counts_lefts cause first ms (Left w c m.id m.slot cause ∷ h) (counts_left cause first h m.id m.slot at)

  abbrev is_used_up : List Event → Message → Bool
  is_used_up first m = grants_since m.slot first == most_grants

  used_up : (first h : List Event) (ms : List Message) (id : Id) (slot : ℕ) → AtCounts first h → HasMessage (λ m. is_used_up first m ≡ true) ms id slot → HasMessage (λ m. grants_since m.slot (own w h) ≡ most_grants) ms id slot
  used_up first h [] id slot at has = has
  used_up first h (m ∷ ms) id slot at (inl is) = inl (is.0, is.1, at m.slot ∙ (let all : (grants_since m.slot first == most_grants) ≡ true = is.2 in grind (arith, nat_tests, all)))
  used_up first h (m ∷ ms) id slot at (inr has) = inr (used_up first h ms id slot at has)

  spent_leave : (first h : List Event) → AtCounts first h → IsRising (buffer c h) → LeaveAlways workers (lefts_of w c Spent (filter (is_used_up first) (buffer c h))) h
  spent_leave first h at rises =
      leave_some Spent (AtCounts first) (λ m. is_used_up first m ≡ true) (counts_left Spent first)
      (λ l newer id slot same has. used_up first l (buffer c l) id slot same has)
      (filter (is_used_up first) (buffer c h)) h at (rising-filtered (is_used_up first) (buffer c h) rises) (has-passed (is_used_up first) (buffer c h))

  all_stay : (P : Message → Type 0) (test : Message → Bool) (ms : List Message) → AllByRecursion P ms → AllByRecursion P (filter test ms)
  all_stay P test [] a = tt
  all_stay P test (m ∷ ms) a = cond_both (test m) _ _ (AllByRecursion P) (λ _. (a.0, all_stay P test ms a.1)) (λ _. all_stay P test ms a.1)

  spent_fresh : (now : ℕ) (first h : List Event) → IsFresh now h → IsFresh now (onto (lefts_of w c Spent (filter (is_used_up first) (buffer c h))) h)
  spent_fresh now first h f =
      let is = buffer_lefts Spent (filter (is_used_up first) (buffer c h)) h ∙ without_all-filter (is_used_up first) (buffer c h) f.rises in
      record {
        clock = clock_lefts now Spent (filter (is_used_up first) (buffer c h)) h f.clock;
        none = subst (AllByRecursion (λ m. has_expired now m ≡ false)) (sym is) (all_stay (λ m. has_expired now m ≡ false) (λ m. not (is_used_up first m)) (buffer c h) f.none);
        rises = subst IsRising (sym is) (rising-filtered (λ m. not (is_used_up first m)) (buffer c h) f.rises);
      }

  -- ---- the oldest make room

  abbrev IsWay : List Event → Type 0
  IsWay es = AllByRecursion MakesWay es

  way_onto : (es h : List Event) → IsWay es → IsWay h → IsWay (onto es h)
  way_onto [] h a b = b
  way_onto (e ∷ es) h a b = way_onto es (e ∷ h) a.1 (a.0, b)

  way_own : (h : List Event) → IsWay h → IsWay (own w h)
  way_own [] a = tt
  way_own (e ∷ h) a = by (is_by w e) (way_own h a.1)
    where
      by : (b : Bool) → IsWay (own w h) → IsWay (cond b (e ∷ own w h) (own w h))
      by true rest = (a.0, rest)
      by false rest = rest

  way_lefts : (ms : List Message) → IsWay (lefts_of w c Length ms)
  way_lefts [] = tt
  way_lefts (m ∷ ms) = (tt, way_lefts ms)

  way_freed : (slots : List ℕ) → IsWay (map (freed_event w) slots)
  way_freed [] = tt
  way_freed (slot ∷ slots) = (tt, way_freed slots)

  way_append : (xs ys : List Event) → IsWay xs → IsWay ys → IsWay (xs ++ ys)
  way_append [] ys a b = b
  way_append (e ∷ xs) ys a b = (a.0, way_append xs ys a.1 b)

  -- a message that is stored behind what makes way has room made for it
  room_made : (id : Id) (slot len exp : ℕ) (kept : Bool) (members from r : ℕ) (ct : Option (List ℕ)) (body : List ℕ) (way after h : List Event) → IsWay way → len - 1 < length (buffer c h)
      → MakesRoom w c (onto (way ++ Stored w c id slot len exp kept members from r ct body ∷ after) []) h
  room_made id slot len exp kept members from r ct body way after h is many = record {
    after = onto after [];
    id = id;
    slot = slot;
    len = len;
    exp = exp;
    kept = kept;
    members = members;
    from = from;
    r = r;
    ct = ct;
    body = body;
    between = onto way [];
    next = onto-append way (Stored w c id slot len exp kept members from r ct body ∷ after) [] ∙ onto_on after (Stored w c id slot len exp kept members from r ct body ∷ onto way []);
    way = way_own (onto way []) (way_onto way [] is tt);
    full = many;
  }

  -- the first n of some messages leave
  length_leave : (id : Id) (slot len exp : ℕ) (kept : Bool) (members from r : ℕ) (ct : Option (List ℕ)) (body : List ℕ) (slots : List ℕ) (after : List Event) (n : ℕ) (ms : List Message) (h : List Event) → buffer c h ≡ ms → IsRising ms
      → (n ≡ 0) ⊎ (n + (len - 1) ≤ length ms) → Leave workers (map (freed_event w) slots ++ Stored w c id slot len exp kept members from r ct body ∷ after) (onto (lefts_of w c Length (take n ms)) h)
      → Leave workers ((lefts_of w c Length (take n ms) ++ map (freed_event w) slots) ++ Stored w c id slot len exp kept members from r ct body ∷ after) h
  length_leave id slot len exp kept members from r ct body slots after zero ms h are rises many rest = rest
  length_leave id slot len exp kept members from r ct body slots after (suc n) [] h are rises many rest = rest
  length_leave id slot len exp kept members from r ct body slots after (suc n) (m ∷ ms) h are rises many rest = (
    record {
      owner = mine;
      why = (
        subst (λ l. StandsFirst l m.id m.slot) (sym are) (refl, refl),
        room_made id slot len exp kept members from r ct body (lefts_of w c Length (take n ms) ++ map (freed_event w) slots) after h (way_append (lefts_of w c Length (take n ms)) (map (freed_event w) slots) (way_lefts (take n ms)) (way_freed slots))
            (subst (λ l. len - 1 < length l) (sym are) (enough many)),
      );
    },
    length_leave id slot len exp kept members from r ct body slots after n ms (Left w c m.id m.slot Length ∷ h) (buffer_first m.id m.slot Length h ∙ ap (without m.id) are ∙ without-first m ms rises) rises.1 (inr (fewer many)) rest,
  )
    where
      enough : (suc n ≡ 0) ⊎ (suc n + (len - 1) ≤ length (m ∷ ms)) → len - 1 < length (m ∷ ms)
      enough (inl none) = omega arith
      enough (inr at) = omega arith

      fewer : (suc n ≡ 0) ⊎ (suc n + (len - 1) ≤ length (m ∷ ms)) → n + (len - 1) ≤ length ms
      fewer (inl none) = omega arith
      fewer (inr at) = omega arith

  buffer_taken : (n : ℕ) (ms : List Message) (h : List Event) → buffer c h ≡ ms → IsRising ms → buffer c (onto (lefts_of w c Length (take n ms)) h) ≡ drop n ms
  buffer_taken n ms h are rises = buffer_lefts Length (take n ms) h ∙ ap (without_all (take n ms)) are ∙ without_all-take n ms rises

  all_drop : (P : Message → Type 0) (n : ℕ) (ms : List Message) → AllByRecursion P ms → AllByRecursion P (drop n ms)
  all_drop P zero ms a = a
  all_drop P (suc n) [] a = tt
  all_drop P (suc n) (m ∷ ms) a = all_drop P n ms a.1

  rising_drop : (n : ℕ) (ms : List Message) → IsRising ms → IsRising (drop n ms)
  rising_drop zero ms r = r
  rising_drop (suc n) [] r = tt
  rising_drop (suc n) (m ∷ ms) r = rising_drop n ms r.1

  taken_fresh : (now n : ℕ) (h : List Event) → IsFresh now h → IsFresh now (onto (lefts_of w c Length (take n (buffer c h))) h)
  taken_fresh now n h f =
      let is = buffer_taken n (buffer c h) h refl f.rises in
      record {
        clock = clock_lefts now Length (take n (buffer c h)) h f.clock;
        none = subst (AllByRecursion (λ m. has_expired now m ≡ false)) (sym is) (all_drop (λ m. has_expired now m ≡ false) n (buffer c h) f.none);
        rises = subst IsRising (sym is) (rising_drop n (buffer c h) f.rises);
      }

  -- freed slots change neither clock nor buffer
  freed_fresh : (now : ℕ) (slots : List ℕ) (h : List Event) → IsFresh now h → IsFresh now (onto (map (freed_event w) slots) h)
  freed_fresh now [] h f = f
  freed_fresh now (slot ∷ slots) h f = freed_fresh now slots (Freed w slot ∷ h) (record { clock = by (w == w) f.clock; none = f.none; rises = f.rises })
    where
      by : (b : Bool) → clock_of (own w h) ≡ now → clock_of (cond b (Freed w slot ∷ own w h) (own w h)) ≡ now
      by true e = e
      by false e = e

  buffer_freed : (slots : List ℕ) (h : List Event) → buffer c (onto (map (freed_event w) slots) h) ≡ buffer c h
  buffer_freed [] h = refl
  buffer_freed (slot ∷ slots) h = buffer_freed slots (Freed w slot ∷ h)

  -- ---- all leave, and the channel is deleted

  abbrev AreToo : List Event → Type 0
  AreToo es = AllByRecursion (GoesToo c) es

  too_onto : (es h : List Event) → AreToo es → AreToo h → AreToo (onto es h)
  too_onto [] h a b = b
  too_onto (e ∷ es) h a b = too_onto es (e ∷ h) a.1 (a.0, b)

  too_own : (h : List Event) → AreToo h → AreToo (own w h)
  too_own [] a = tt
  too_own (e ∷ h) a = by (is_by w e) (too_own h a.1)
    where
      by : (b : Bool) → AreToo (own w h) → AreToo (cond b (e ∷ own w h) (own w h))
      by true rest = (a.0, rest)
      by false rest = rest

  too_lefts : (ms : List Message) → AreToo (lefts_of w c Deleted ms)
  too_lefts [] = tt
  too_lefts (m ∷ ms) = (refl, too_lefts ms)

  goes_next : (last : Id) (too after : List Event) → AreToo too → GoesNext w c (onto (too ++ Removed w c last ByDeletion ∷ after) [])
  goes_next last too after are = record {
    after = onto after [];
    last = last;
    between = onto too [];
    next = onto-append too (Removed w c last ByDeletion ∷ after) [] ∙ onto_on after (Removed w c last ByDeletion ∷ onto too []);
    too = too_own (onto too []) (too_onto too [] are tt);
  }

  deleted_leave : (last : Id) (after : List Event) (ms : List Message) (h : List Event) → buffer c h ≡ ms → IsRising ms → Leave workers (Removed w c last ByDeletion ∷ after) (onto (lefts_of w c Deleted ms) h)
      → Leave workers (lefts_of w c Deleted ms ++ Removed w c last ByDeletion ∷ after) h
  deleted_leave last after [] h are rises rest = rest
  deleted_leave last after (m ∷ ms) h are rises rest = (
    record { owner = mine; why = (subst (λ l. StandsFirst l m.id m.slot) (sym are) (refl, refl), goes_next last (lefts_of w c Deleted ms) after (too_lefts ms)) },
    deleted_leave last after ms (Left w c m.id m.slot Deleted ∷ h) (buffer_first m.id m.slot Deleted h ∙ ap (without m.id) are ∙ without-first m ms rises) rises.1 rest,
  )

  all_pass : (ms : List Message) → filter (λ m. true) ms ≡ ms
  all_pass [] = refl
  all_pass (m ∷ ms) = ap (λ l. m ∷ l) (all_pass ms)

  none_passes : (ms : List Message) → filter (λ m. not true) ms ≡ []
  none_passes [] = refl
  none_passes (m ∷ ms) = none_passes ms

  -- then nothing is kept
  deleted_buffer : (h : List Event) → IsRising (buffer c h) → buffer c (onto (lefts_of w c Deleted (buffer c h)) h) ≡ []
  deleted_buffer h rises =
      let ms = buffer c h in
      buffer_lefts Deleted ms h ∙ ap (λ l. without_all l ms) (sym (all_pass ms)) ∙ without_all-filter (λ m. true) ms rises ∙ none_passes ms

  -- ---- one more is stored

  filter_fewer : (p q : Message → Bool) → ((m : Message) → p m ≡ true → q m ≡ true) → (ms : List Message) → length (filter p ms) ≤ length (filter q ms)
  filter_fewer p q f [] = omega arith
  filter_fewer p q f (m ∷ ms) = by (p m) (q m) (f m) (filter_fewer p q f ms)
    where
      by : (a b : Bool) → (a ≡ true → b ≡ true) → length (filter p ms) ≤ length (filter q ms) → length (cond a (m ∷ filter p ms) (filter p ms)) ≤ length (cond b (m ∷ filter q ms) (filter q ms))
      by true true g le = omega (arith, le)
      by true false g le = absurd (let no : false ≡ true = g refl in cc)
      by false true g le = omega (arith, le)
      by false false g le = le

  filter_one : (p : Message → Bool) (ms : List Message) (m : Message) (b : Bool) → p m ≡ b → length (filter p (ms ++ m ∷ [])) ≤ length (filter p ms) + cond b 1 0
  filter_one p [] m b is = by b is
    where
      by : (x : Bool) → p m ≡ x → length (cond (p m) (m ∷ []) []) ≤ length (filter p []) + cond x 1 0
      by true e = omega (arith, ap (λ t. length (cond t (m ∷ []) [])) e)
      by false e = omega (arith, ap (λ t. length (cond t (m ∷ []) [])) e)
  filter_one p (x ∷ ms) m b is = by (p x) (filter_one p ms m b is)
    where
      by : (t : Bool) → length (filter p (ms ++ m ∷ [])) ≤ length (filter p ms) + cond b 1 0 → length (cond t (x ∷ filter p (ms ++ m ∷ [])) (filter p (ms ++ m ∷ []))) ≤ length (cond t (x ∷ filter p ms) (filter p ms)) + cond b 1 0
      by true le = omega (arith, le)
      by false le = le

  stays_true : (a g : Bool) → not (a || g) ≡ true → not g ≡ true
  stays_true true g e = absurd cc
  stays_true false g e = e

  own_gone : (a b g : Bool) → a ≡ true → b ≡ true → not ((not false && (a && b)) || g) ≡ false
  own_gone true true g e f = refl
  own_gone true false g e f = absurd cc
  own_gone false b g e f = absurd cc

  -- a message that is kept is one more, and one that isn't is none
  stored_more : (id : Id) (slot len exp : ℕ) (kept : Bool) (members from r : ℕ) (ct : Option (List ℕ)) (body : List ℕ) (h : List Event)
      → length (buffer c (Stored w c id slot len exp kept members from r ct body ∷ h)) ≤ length (buffer c h) + cond kept 1 0
  stored_more id slot len exp kept members from r ct body h =
      let m = stored_message id slot exp ct body in
      let goes : Message → Bool = λ x. not ((not kept && (bytes_eq c c && id_eq id x.id)) || is_gone c x.id h) in
      let one : length (filter goes (published c h ++ m ∷ [])) ≤ length (filter goes (published c h)) + cond kept 1 0 = last kept in
      let fewer : length (filter goes (published c h)) ≤ length (buffer c h) = filter_fewer goes (λ x. not (is_gone c x.id h)) (λ x e. stays_true (not kept && (bytes_eq c c && id_eq id x.id)) (is_gone c x.id h) e) (published c h) in
      let is : length (buffer c (Stored w c id slot len exp kept members from r ct body ∷ h)) ≡ length (filter goes (published c h ++ m ∷ [])) = ap (λ b. length (filter goes (cond b (published c h ++ m ∷ []) (published c h)))) (name_self c) in
      omega (arith, one, fewer, is)
    where
      last : (k : Bool) → length (filter (λ x. not ((not k && (bytes_eq c c && id_eq id x.id)) || is_gone c x.id h)) (published c h ++ stored_message id slot exp ct body ∷ []))
          ≤ length (filter (λ x. not ((not k && (bytes_eq c c && id_eq id x.id)) || is_gone c x.id h)) (published c h)) + cond k 1 0
      last true = by (not (is_gone c id h)) _ _ (filter_one (λ x. not ((not true && (bytes_eq c c && id_eq id x.id)) || is_gone c x.id h)) (published c h) (stored_message id slot exp ct body) (not (is_gone c id h)) refl)
        where
          by : (b : Bool) (n m : ℕ) → n ≤ m + cond b 1 0 → n ≤ m + 1
          by true n m le = le
          by false n m le = omega (arith, le)
      last false = filter_one (λ x. not ((not false && (bytes_eq c c && id_eq id x.id)) || is_gone c x.id h)) (published c h) (stored_message id slot exp ct body) false
          (own_gone (bytes_eq c c) (id_eq id id) (is_gone c id h) (name_self c) (id_eq-self id))

-- ---- the steps

counted_spent : (h : List Event) (es : List Entry) → AreCounted h es → AllByRecursion (λ e. is_spent e ≡ (grants_since e.slot h == most_grants)) es
counted_spent h es a = all-weaker (λ e. (e.grants ≡ grants_since e.slot h) × (e.grants ≤ most_grants)) (λ e. is_spent e ≡ (grants_since e.slot h == most_grants)) (λ e p. one e.grants (grants_since e.slot h) p.0 p.1) es a
  where
    one : (g n : ℕ) → g ≡ n → g ≤ 4294967295 → nat_le 4294967295 g ≡ (n == 4294967295)
    one g n e le = grind (arith, nat_tests, e, le)

same_tests : (p q : Entry → Bool) (es : List Entry) → AllByRecursion (λ e. p e ≡ q e) es → filter p es ≡ filter q es
same_tests p q [] a = refl
same_tests p q (e ∷ es) a = (λ i. cond (a.0 i) (e ∷ same_tests p q es a.1 i) (same_tests p q es a.1 i))

all_filter : (P : Entry → Type 0) (test : Entry → Bool) (es : List Entry) → AllByRecursion P es → AllByRecursion P (filter test es)
all_filter P test [] a = tt
all_filter P test (e ∷ es) a = cond_both (test e) _ _ (AllByRecursion P) (λ _. (a.0, all_filter P test es a.1)) (λ _. all_filter P test es a.1)

module _ (me workers slots first : ℕ) (next : ℕ → ℕ) (row : List (Slot SlotMessage)) (h : List Event) (s : OwnerAt) (k : Stands me workers slots first row h s) (rule : IsLeavingRule workers h) where
  is_me : s.desk.me ≡ me
  is_me = ap (λ (d : Desk). d.me) k.tells.desk ∙ stamping.me_law (new_desk me workers slots first) h

  local : own s.desk.me h ≡ h
  local = ap (λ n. own n h) is_me ∙ k.local

  at_clock : clock_of (own s.desk.me h) ≡ s.desk.clock
  at_clock = ap clock_of local ∙ sym (stands_shows me workers slots first row h s k).desk.clock

  module _ (c : List ℕ) (owned : owner_of workers c ≡ s.desk.me) where
    abbrev v : ℕ
    v = s.desk.me

    abbrev es : List Entry
    es = entries_of (opened c s)

    abbrev touch : List Event
    touch = touch_events_of c row s

    abbrev gone : List Event
    gone = lefts_of v c Expired (filter (has_expired s.desk.clock) (buffer c h))

    same : map brief_entry es ≡ map brief_message (buffer c h)
    same = ap (map brief_entry) (made_entries (found c s) s.desk.spent) ∙ (stands_shows me workers slots first row h s k).buffers c

    rises : IsRising (buffer c h)
    rises = rising-filtered (λ m. not (is_gone c m.id h)) (published c h) (ids-rise workers h k.stamped c)

    abbrev now_test : Brief → Bool
    now_test b = not (b.expires == 0) && nat_le b.expires s.desk.clock

    touch_is : touch ≡ gone
    touch_is = same_lefts v c Expired (filter (is_expired s.desk.clock) es) (filter (has_expired s.desk.clock) (buffer c h)) (same_filter now_test es (buffer c h) same)

    touch_leave : LeaveAlways workers touch h
    touch_leave = subst (λ (l : List Event). LeaveAlways workers l h) (sym touch_is) (expired_leave workers v c (sym owned) s.desk.clock h at_clock rises)

    touch_find : Find touch h
    touch_find = subst (λ (l : List Event). Find l h) (sym touch_is) (lefts_find workers v c (sym owned) Expired (filter (has_expired s.desk.clock) (buffer c h)) h)

    fresh : IsFresh workers v c (sym owned) s.desk.clock (onto touch h)
    fresh = subst (λ (l : List Event). IsFresh workers v c (sym owned) s.desk.clock (onto l h)) (sym touch_is) (touched_fresh workers v c (sym owned) s.desk.clock h at_clock rises)

    finds : NoneExpired v c (onto touch h)
    finds = fresh_finds workers v c (sym owned) s.desk.clock (onto touch h) fresh

    -- what a step does behind the touch
    behind_touch : (rest : List Event) (alerts : List OutLine) → Leave workers (weave v next rest alerts) (onto touch h) → Find (weave v next rest alerts) (onto touch h) → IsLeavingRule workers (onto (weave v next (touch ++ rest) alerts) h)
    behind_touch rest alerts l f =
        let woven = weave v next rest alerts in
        subst (λ (es : List Event). IsLeavingRule workers (onto es h)) (sym (weave_first v next touch rest alerts (hearing.stills touch (hearing.still_touch c row s)).1))
        (kept workers (touch ++ woven) h rule (leave_then workers touch woven h touch_leave l) (find_append touch woven h touch_find f))

    behind_touch_alone : (alerts : List OutLine) → IsLeavingRule workers (onto (weave v next touch alerts) h)
    behind_touch_alone alerts =
        subst (λ (es : List Event). IsLeavingRule workers (onto (weave v next es alerts) h)) (append_none touch)
        (behind_touch [] alerts (leave_always workers (makes v next alerts) (onto touch h) (mute_leave workers (makes v next alerts) (onto touch h) (mute_makes v next alerts))) (mute_find (makes v next alerts) (onto touch h) (mute_makes v next alerts)))

    part_leaves : (m : Member) (b : Bool) → IsLeavingRule workers (onto (weave v next (touch ++ cond b (Parted v c m.from m.k ∷ []) []) []) h)
    part_leaves m true = behind_touch (Parted v c m.from m.k ∷ []) [] (tt, tt) (finds, tt)
    part_leaves m false = behind_touch [] [] tt tt

    -- ---- a removal where nothing is kept

    none_there : (P : Message → Type 0) (ms : List Message) → [] ≡ map brief_message ms → AllByRecursion P ms
    none_there P [] e = tt
    none_there P (m ∷ ms) e = absurd cc

    empty_leaves : (cause : RemovedCause) → es ≡ [] → IsLeavingRule workers (removed_onto next c cause h s)
    empty_leaves cause none =
        let last = Removed v c (last_in c s) cause in
        let made = makes v next (removal_alerts c s) in
        let mute = mute_makes v next (removal_alerts c s) in
        subst (λ (l : List Entry). IsLeavingRule workers (onto (weave v next (map (left_event v c Deleted) l ++ last ∷ []) (removal_alerts c s)) h)) (sym none)
        (kept workers (last ∷ made) h rule (tt, leave_always workers made (last ∷ h) (mute_leave workers made (last ∷ h) mute))
        (none_there (λ m. has_expired (clock_of (own v h)) m ≡ false) (buffer c h) (ap (map brief_entry) (sym none) ∙ same), mute_find made (last ∷ h) mute))

    -- ---- a deletion

    delete_leaves : IsLeavingRule workers (removed_onto next c ByDeletion h s)
    delete_leaves =
        let alerts = removal_alerts c s in
        let last = Removed v c (last_in c s) ByDeletion in
        let made = makes v next alerts in
        let mute = mute_makes v next alerts in
        let ms = buffer c h in
        let lefts = lefts_of v c Deleted ms in
        let h1 = onto lefts h in
        let lefts_are : map (left_event v c Deleted) es ≡ lefts = same_lefts v c Deleted es ms same in
        let empty : buffer c h1 ≡ [] = deleted_buffer workers v c (sym owned) h rises in
        let none : NoneExpired v c h1 = subst (AllByRecursion (λ m. has_expired (clock_of (own v h1)) m ≡ false)) (sym empty) tt in
        let leave : Leave workers (lefts ++ last ∷ made) h =
        deleted_leave workers v c (sym owned) (last_in c s) made ms h refl rises (tt, leave_always workers made (last ∷ h1) (mute_leave workers made (last ∷ h1) mute)) in
        let find : Find (lefts ++ last ∷ made) h = find_append lefts (last ∷ made) h (lefts_find workers v c (sym owned) Deleted ms h) (none, mute_find made (last ∷ h1) mute) in
        let all : IsLeavingRule workers (onto (lefts ++ last ∷ made) h) = kept workers (lefts ++ last ∷ made) h rule leave find in
        subst (λ (l : List Event). IsLeavingRule workers (onto l h)) (sym (weave_first v next (map (left_event v c Deleted) es) (last ∷ []) alerts (hearing.stills (map (left_event v c Deleted) es) (hearing.still_left v c Deleted es)).1))
        (subst (λ (l : List Event). IsLeavingRule workers (onto (l ++ last ∷ made) h)) (sym lefts_are) all)

    -- ---- a look

    abbrev stay : List Entry
    stay = filter (λ e. not (is_expired s.desk.clock e)) es

    buffer_is : buffer c (onto touch h) ≡ filter (λ m. not (has_expired s.desk.clock m)) (buffer c h)
    buffer_is = ap (λ (l : List Event). buffer c (onto l h)) touch_is ∙ buffer_touched workers v c (sym owned) s.desk.clock h rises

    same_stay : map brief_entry stay ≡ map brief_message (buffer c (onto touch h))
    same_stay = same_filter (λ b. not (now_test b)) es (buffer c h) same ∙ ap (map brief_message) (sym buffer_is)

    spend_is : AreCounted h es → spend_events c (touched_of c row s) ≡ lefts_of v c Spent (filter (is_used_up workers v c (sym owned) h) (buffer c (onto touch h)))
    spend_is counted =
        ap (map (left_event v c Spent)) (same_tests is_spent (λ e. grants_since e.slot h == most_grants) stay (all_filter _ (λ e. not (is_expired s.desk.clock e)) es (counted_spent h es counted)))
        ∙ same_lefts v c Spent (filter (λ e. grants_since e.slot h == most_grants) stay) (filter (λ m. grants_since m.slot h == most_grants) (buffer c (onto touch h))) (same_filter (λ b. grants_since b.slot h == most_grants) stay (buffer c (onto touch h)) same_stay)

    counts : AtCounts workers v c (sym owned) h (onto touch h)
    counts = subst (λ (l : List Event). AtCounts workers v c (sym owned) h (onto l h)) (sym touch_is) (counts_lefts workers v c (sym owned) Expired h (filter (has_expired s.desk.clock) (buffer c h)) h (λ slot. ap (grants_since slot) local))

    look_leaves : (from number : ℕ) (id : Id) → AreCounted h es → IsLeavingRule workers (onto (weave v next (look_events from number c id row s) (look_alerts from number c id row s)) h)
    look_leaves from number id counted =
        let h1 = onto touch h in
        let spends = spend_events c (touched_of c row s) in
        let used = filter (is_used_up workers v c (sym owned) h) (buffer c h1) in
        let is = spend_is counted in
        let b = look_ready c row s in
        let x = found_on id b in
        let event = looked_event from number c id x b.desk in
        let alerts = look_alerts from number c id row s in
        let woven = weave v next (found_events from x b.desk) alerts in
        let mute = mute_weave v next (found_events from x b.desk) alerts (mute_found from x b.desk) in
        let spent_always : LeaveAlways workers spends h1 = subst (λ (l : List Event). LeaveAlways workers l h1) (sym is) (spent_leave workers v c (sym owned) h h1 counts fresh.rises) in
        let spent_find : Find spends h1 = subst (λ (l : List Event). Find l h1) (sym is) (lefts_find workers v c (sym owned) Spent used h1) in
        let ready : NoneExpired v c (onto spends h1) = subst (λ (l : List Event). NoneExpired v c (onto l h1)) (sym is) (fresh_finds workers v c (sym owned) s.desk.clock _ (spent_fresh workers v c (sym owned) s.desk.clock h h1 fresh)) in
        subst (λ (es : List Event). IsLeavingRule workers (onto es h)) (sym (weave_first v next (touch ++ spends) (event ∷ found_events from x b.desk) alerts
        (hearing.stills (touch ++ spends) (hearing.still_append touch spends (hearing.still_touch c row s) (hearing.still_left v c Spent (leavers is_spent (touched_of c row s))))).1))
        (kept workers ((touch ++ spends) ++ event ∷ woven) h rule
        (leave_then workers (touch ++ spends) (event ∷ woven) h (always_append workers touch spends h touch_leave spent_always) (tt, leave_always workers woven _ (mute_leave workers woven _ mute)))
        (find_append (touch ++ spends) (event ∷ woven) h (find_append touch spends h touch_find spent_find)
        (subst (NoneExpired v c) (sym (onto-append touch spends h)) ready, mute_find woven _ mute)))

    -- ---- a publish

    -- room is made, slots are freed and a message is stored, behind a buffer in which nothing has expired
    publish_stored : (id : Id) (slot len exp members from r : ℕ) (ct : Option (List ℕ)) (body : List ℕ) (freed : List ℕ) (after : List Event) → AllByRecursion IsMute after → (h2 : List Event) → IsFresh workers v c (sym owned) s.desk.clock h2 → buffer c h2 ≡ buffer c (onto touch h)
        → (let more = (map (left_event v c Length) (take (leaving_count len stay) stay) ++ map (freed_event v) freed) ++ Stored v c id slot len exp (not (len == 0)) members from r ct body ∷ after in Leave workers more h2 × Find more h2)
    publish_stored id slot len exp members from r ct body freed after mute h2 f2 same2 =
        let event = Stored v c id slot len exp (not (len == 0)) members from r ct body in
        let n = leaving_count len stay in
        let ms = buffer c h2 in
        let briefs : map brief_entry stay ≡ map brief_message ms = same_stay ∙ ap (map brief_message) (sym same2) in
        let sizes : length stay ≡ length ms = sym (length-map stay brief_entry) ∙ ap length briefs ∙ length-map ms brief_message in
        let lefts = lefts_of v c Length (take n ms) in
        let lefts_are : map (left_event v c Length) (take n stay) ≡ lefts = same_lefts v c Length (take n stay) (take n ms) (map_take brief_entry n stay ∙ ap (take n) briefs ∙ sym (map_take brief_message n ms)) in
        let frees = map (freed_event v) freed in
        let many : (n ≡ 0) ⊎ (n + (len - 1) ≤ length ms) = subst (λ (x : ℕ). (n ≡ 0) ⊎ (n + (len - 1) ≤ x)) sizes (none_or_many (length stay) (len - 1)) in
        let h3 = onto lefts h2 in
        let h4 = onto frees h3 in
        let f3 = taken_fresh workers v c (sym owned) s.desk.clock n h2 f2 in
        let f4 = freed_fresh workers v c (sym owned) s.desk.clock freed h3 f3 in
        let left4 : buffer c h4 ≡ drop n ms = buffer_freed workers v c (sym owned) freed h3 ∙ buffer_taken workers v c (sym owned) n ms h2 refl f2.rises in
        let few : length (buffer c (event ∷ h4)) ≤ len =
        fits_in len (not (len == 0)) n (length ms) (length (buffer c h4)) (length (buffer c (event ∷ h4))) refl (ap (λ x. x - (len - 1)) sizes) (ap length left4 ∙ length-drop n ms)
        (stored_more workers v c (sym owned) id slot len exp (not (len == 0)) members from r ct body h4) in
        let leave : Leave workers ((lefts ++ frees) ++ event ∷ after) h2 =
        length_leave workers v c (sym owned) id slot len exp (not (len == 0)) members from r ct body freed after n ms h2 refl f2.rises many
        (leave_then workers frees (event ∷ after) h3 (mute_leave workers frees h3 (mute_freed v freed)) (tt, leave_always workers after (event ∷ h4) (mute_leave workers after (event ∷ h4) mute))) in
        let find : Find ((lefts ++ frees) ++ event ∷ after) h2 =
        find_append (lefts ++ frees) (event ∷ after) h2 (find_append lefts frees h2 (lefts_find workers v c (sym owned) Length (take n ms) h2) (mute_find frees h3 (mute_freed v freed)))
        (subst (λ (l : List Event). Find (event ∷ after) l) (sym (onto-append lefts frees h2)) ((fresh_finds workers v c (sym owned) s.desk.clock h4 f4, few), mute_find after (event ∷ h4) mute)) in
        subst (λ (l : List Event). Leave workers ((l ++ frees) ++ event ∷ after) h2 × Find ((l ++ frees) ++ event ∷ after) h2) (sym lefts_are) (leave, find)
      where
        none_or_many : (n most : ℕ) → (n - most ≡ 0) ⊎ (n - most + most ≤ n)
        none_or_many n most = grind arith

        fits_in : (len : ℕ) (kept : Bool) (n l b more : ℕ) → kept ≡ not (len == 0) → n ≡ l - (len - 1) → b ≡ l - n → more ≤ b + cond kept 1 0 → more ≤ len
        fits_in zero true n l b more is e d le = let no : (0 == 0) ≡ true = grind (arith, nat_tests) in absurd (let bad : true ≡ not true = is ∙ ap not no in cc)
        fits_in zero false n l b more is e d le = omega (arith, e, d, le)
        fits_in (suc len) true n l b more is e d le = omega (arith, e, d, le)
        fits_in (suc len) false n l b more is e d le = omega (arith, e, d, le)

    -- the retired slots that were polled are freed, and then a message is stored or refused
    posted_leaves : (freed : List ℕ) (rest : List Event) (alerts : List OutLine) → (let h2 = onto (map (freed_event v) freed) (onto touch h) in IsFresh workers v c (sym owned) s.desk.clock h2 → buffer c h2 ≡ buffer c (onto touch h) → Leave workers (weave v next rest alerts) h2 × Find (weave v next rest alerts) h2)
        → IsLeavingRule workers (onto (weave v next ((touch ++ map (freed_event v) freed) ++ rest) alerts) h)
    posted_leaves freed rest alerts then =
        let frees = map (freed_event v) freed in
        let h1 = onto touch h in
        let h2 = onto frees h1 in
        let woven = weave v next rest alerts in
        let r = then (freed_fresh workers v c (sym owned) s.desk.clock freed h1 fresh) (buffer_freed workers v c (sym owned) freed h1) in
        let front = touch ++ frees in
        let same_place : onto front h ≡ h2 = onto-append touch frees h in
        subst (λ (es : List Event). IsLeavingRule workers (onto es h)) (sym (weave_first v next front rest alerts (hearing.stills front (hearing.still_append touch frees (hearing.still_touch c row s) (hearing.still_freed v freed))).1))
        (kept workers (front ++ woven) h rule
        (leave_then workers front woven h (always_append workers touch frees h touch_leave (mute_leave workers frees h1 (mute_freed v freed))) (subst (Leave workers woven) (sym same_place) r.0))
        (find_append front woven h (find_append touch frees h touch_find (mute_find frees h1 (mute_freed v freed))) (subst (Find woven) (sym same_place) r.1)))

pub others_leave : OthersLeave
others_leave me workers slots first next row h s k rule = record {
  join = λ m c owned. behind_touch me workers slots first next row h s k rule c owned (Joined s.desk.me c m.from m.k ∷ []) [] (tt, tt) (finds me workers slots first next row h s k rule c owned, tt);
  part = λ m c owned. part_leaves me workers slots first next row h s k rule c owned m (has_member m (opened c s).members);
  info = λ from r c owned. behind_touch_alone me workers slots first next row h s k rule c owned (info_alerts from r c row s);
  sweep = λ c owned. behind_touch_alone me workers slots first next row h s k rule c owned [];
  look = λ from number c id owned counted. look_leaves me workers slots first next row h s k rule c owned from number id counted;
  delete = λ c owned. delete_leaves me workers slots first next row h s k rule c owned;
  remove_empty = λ c cause owned none. empty_leaves me workers slots first next row h s k rule c owned cause none;
  polled = λ answers.
      let es = polled_events answers s in
      let mute = mute_weave s.desk.me next es [] (mute_freed s.desk.me (free_slots answers)) in
      kept workers (weave s.desk.me next es []) h rule (leave_always workers (weave s.desk.me next es []) h (mute_leave workers (weave s.desk.me next es []) h mute)) (mute_find (weave s.desk.me next es []) h mute);
}

pub publish_leaves : PublishLeaves
publish_leaves me workers slots first next from o polls row h s owned k rule =
    posted_leaves me workers slots first next row h s k rule o.chan owned (free_slots polls.retired) (post_events (publish_outcome o polls row s) from o polls (publish_cleared o polls row s)) (post_alerts (publish_outcome o polls row s) from o polls (publish_cleared o polls row s)) (posted (publish_outcome o polls row s))
  where
    none : (alerts : List OutLine) → Leave workers (makes s.desk.me next alerts) (onto (map (freed_event s.desk.me) (free_slots polls.retired)) (onto (touch_events_of o.chan row s) h)) × Find (makes s.desk.me next alerts) (onto (map (freed_event s.desk.me) (free_slots polls.retired)) (onto (touch_events_of o.chan row s) h))
    none alerts =
        let made = makes s.desk.me next alerts in
        (leave_always workers made (onto (map (freed_event s.desk.me) (free_slots polls.retired)) (onto (touch_events_of o.chan row s) h)) (mute_leave workers made (onto (map (freed_event s.desk.me) (free_slots polls.retired)) (onto (touch_events_of o.chan row s) h)) (mute_makes s.desk.me next alerts)), mute_find made (onto (map (freed_event s.desk.me) (free_slots polls.retired)) (onto (touch_events_of o.chan row s) h)) (mute_makes s.desk.me next alerts))

    posted : (y : Outcome) → IsFresh workers s.desk.me o.chan (sym owned) s.desk.clock (onto (map (freed_event s.desk.me) (free_slots polls.retired)) (onto (touch_events_of o.chan row s) h)) → buffer o.chan (onto (map (freed_event s.desk.me) (free_slots polls.retired)) (onto (touch_events_of o.chan row s) h)) ≡ buffer o.chan (onto (touch_events_of o.chan row s) h)
        → Leave workers (weave s.desk.me next (post_events y from o polls (publish_cleared o polls row s)) (post_alerts y from o polls (publish_cleared o polls row s))) (onto (map (freed_event s.desk.me) (free_slots polls.retired)) (onto (touch_events_of o.chan row s) h)) × Find (weave s.desk.me next (post_events y from o polls (publish_cleared o polls row s)) (post_alerts y from o polls (publish_cleared o polls row s))) (onto (map (freed_event s.desk.me) (free_slots polls.retired)) (onto (touch_events_of o.chan row s) h))
    posted late f same = none (post_alerts late from o polls (publish_cleared o polls row s))
    posted (full usage) f same = none (post_alerts (full usage) from o polls (publish_cleared o polls row s))
    posted stored f same =
        let a = asked polls.leaving (publish_cleared o polls row s) in
        let room = roomy o.length polls.left a in
        let slot = lowest_slot room.row in
        let lefts = map (left_event s.desk.me o.chan Length) (leaving o.length a) in
        let frees = freed_events s.desk.me polls.left in
        let grants = granted_events s.desk.me slot room.desk.grants room.channel.marks in
        let event = stored_event from o (stamp room) slot (length room.channel.members) room.desk in
        let alerts = post_alerts stored from o polls (publish_cleared o polls row s) in
        let after = weave s.desk.me next grants alerts in
        let r = publish_stored me workers slots first next row h s k rule o.chan owned (stamp room) slot o.length _ (length room.channel.members) from o.r o.content_type o.body (free_slots polls.left) after (mute_weave s.desk.me next grants alerts (mute_granted s.desk.me slot room.desk.grants room.channel.marks)) (onto (map (freed_event s.desk.me) (free_slots polls.retired)) (onto (touch_events_of o.chan row s) h)) f same in
        subst (λ (l : List Event). Leave workers l (onto (map (freed_event s.desk.me) (free_slots polls.retired)) (onto (touch_events_of o.chan row s) h)) × Find l (onto (map (freed_event s.desk.me) (free_slots polls.retired)) (onto (touch_events_of o.chan row s) h)))
        (sym (weave_first s.desk.me next (lefts ++ frees) (event ∷ grants) alerts (hearing.stills (lefts ++ frees) (hearing.still_append lefts frees (hearing.still_left s.desk.me o.chan Length (leaving o.length a)) (hearing.still_freed s.desk.me (free_slots polls.left)))).1)) r
