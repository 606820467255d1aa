-- What an owner's part of a step makes of a member, and which members it tells that a channel is gone.
use Rattle.std.proofs.Common.{◌≡◌, ℕ, Bool, true, false, cond, not, List, [], ◌∷◌, ◌++◌, Option, Some, None, refl, sym, ap, ◌∙◌, subst, map, fold, length, suc, arith}
use Rattle.std.proofs.lemmas.Bool.{true≢false}
use Rattle.std.proofs.lemmas.Bool.Decides.{nat_tests}
use Rattle.std.specs.Prelude.{◌==◌, ◌&&◌, ◌||◌, nat_eq, is_some, unwrap_or, bytes_eq}
use Rattle.std.specs.List.{AllByRecursion, list_any}
use Rattle.std.specs.Cmp.Lexicographic.{same_text}
use Rattle.nc_types.specs.Channel.{owner_of}
use Rattle.nc_types.specs.Message.{Message}
use Rattle.nc_journal.specs.History.{onto}
use Rattle.nc_journal.specs.declared.event.Event.{Event}
use Rattle.nc_journal.specs.declared.event.Event.TheVariants.{Joined, Parted, Removed, Granted, Made}
use Rattle.nc_journal.specs.declared.word.LeftCause.TheVariants.{Deleted}
use Rattle.nc_journal.specs.declared.word.RemovedCause.{RemovedCause}
use Rattle.nc_journal.specs.declared.word.RemovedCause.TheVariants.{Reaped, Deleted as ByDeletion}
use Rattle.nc_journal.specs.declared.alert.AlertLine.{AlertLine}
use Rattle.nc_journal.specs.declared.alert.AlertLine.TheVariants as lines
use Rattle.nc_slots.specs.declared.slot.Slot.{Slot}
use Rattle.nc_owner.specs.declared.channel.Channel.{Channel}
use Rattle.nc_owner.specs.declared.member.Member.{Member}
use Rattle.nc_owner.specs.Ascending.{has_number}
use Rattle.nc_owner.specs.Members.{has_member}
use Rattle.nc_owner.specs.AlertLines.{OutLine}
use Rattle.nc_owner.specs.Edge.{last_in}
use Rattle.nc_owner.specs.OtherSteps.{touch_events_of, touch_after, touched_of, touched_row, parted_events, names_of}
use Rattle.nc_owner.specs.Poll.{free_slots, freed_events}
use Rattle.nc_owner.specs.Publish.{Polls, info_of}
use Rattle.nc_owner.specs.Remove.{removal_lefts, removal_events, removal_alerts, concerned, numbers_of, gone_line, alerts_of_removal, events_of_removal, is_idle, is_reaped, delete_events, delete_alerts, delete_answer, sweep_events, sweep_alerts, sweep_row, sweep_after}
use Rattle.nc_owner.specs.State.{OwnerAt, entries_of, exists, found, opened, new_channel}
use Rattle.nc_reaper.specs.Reap.{Step, Swept, state, swept, swept_all, sweep_step}
use Rattle.nc_owner_laws.specs.Filters.{is_same, is_member, members_in}
use Rattle.nc_owner_laws.specs.OwnChannels.{OwnsChannels}
use Rattle.nc_owner_laws.specs.OwnerStanding.{Stands}
use Rattle.nc_owner_laws.specs.Reaping.{Keeps, steps_woven, next_behind}
use Rattle.nc_owner_laws.specs.Removing.{is_told_member}
use Rattle.nc_owner_laws.specs.Weave.{weave, makes, numbered, numbered_by}
use Rattle.nc_owner_laws.proofs.Reaps.{step_more}
use Rattle.nc_owner_laws.proofs.Removes.{is_me, members_told, opened_touched, sweep_keeps, touch_keeps}
use Rattle.nc_owner_laws.proofs.Showing.{stands_shows}
use Rattle.nc_owner_laws.proofs.Stamping.{onto_append}
use Rattle.nc_history.specs.Packets.{lines_of, packet}
use Rattle.nc_spool_members.specs.Members.{is_named}
use Rattle.nc_worker_state.specs.Incoming.{Incoming, TakesPacket, ClockReads, Reaps, Posts, Subscribes, Removes, Informs}
use Rattle.nc_worker_state.specs.Owned.{Holding, OwnersPart, StepPolls, fenced, owned_by, owned_in, order_of, member_of}
use Rattle.nc_worker_state.specs.Worker.{sent_to, woven, part_woven}
use Rattle.nc_world_laws.proofs.WorkerKinds.{IsUnmade}
use Rattle.nc_world_laws.proofs.Local.{eq_of}
use Rattle.nc_world_laws.proofs.Telling.{PartEvents}
use Rattle.nc_world_members.specs.Members.{loses, is_lost}
use Rattle.nc_world_members.proofs.Memberless.{AreMemberless, memberless_onto, less_left, less_freed, less_touch, less_publish, less_look, less_edge, less_behind, member_by, member_in, lost_by, lost_in, IsOther, AreOther, other_line}
use Rattle.nc_world_members.proofs.Hearing.{lost_sent, lost_more_events}

both : (a b : Bool) → (a && b) ≡ true → (a ≡ true) × (b ≡ true)
both true true e = (refl, refl)
both true false e = absurd cc
both false b e = absurd cc

none_of : (b : Bool) → (b && false) ≡ false
none_of true = refl
none_of false = refl

-- a fact of one name is a fact of the other, where they are the same
by_name : (d c : List ℕ) (is : List ℕ → Bool) → (bytes_eq d c && is d) ≡ (bytes_eq d c && is c)
by_name d c is = by (bytes_eq d c) refl
  where
    by : (t : Bool) → bytes_eq d c ≡ t → (t && is d) ≡ (t && is c)
    by true e = ap is (same_text d c (sym e))
    by false e = refl

-- ---- members, without the alerts that are made

module _ (c : List ℕ) (m : Member) where
  same_onto : (es h l : List Event) → is_member c m h ≡ is_member c m l → is_member c m (onto es h) ≡ is_member c m (onto es l)
  same_onto [] h l e = e
  same_onto (Joined w d from k ∷ es) h l e = same_onto es _ _ (ap (λ b. (bytes_eq d c && is_same m from k) || b) e)
  same_onto (Parted w d from k ∷ es) h l e = same_onto es _ _ (ap (λ b. not (bytes_eq d c && is_same m from k) && b) e)
  same_onto (Removed w d last cause ∷ es) h l e = same_onto es _ _ (ap (λ b. not (bytes_eq d c) && b) e)
  same_onto (e ∷ es) h l same = same_onto es (e ∷ h) (e ∷ l) same

  made_members : (v : ℕ) (next : ℕ → ℕ) (alerts : List OutLine) (l : List Event) → is_member c m (onto (makes v next alerts) l) ≡ is_member c m l
  made_members v next [] l = refl
  made_members v next (a ∷ alerts) l = made_members v (numbered next a.to) alerts (Made v a.to (next a.to) a.line ∷ l)

  -- an owner's events tell of members what they tell with its alerts
  unwoven : (v : ℕ) (next : ℕ → ℕ) (es : List Event) (alerts : List OutLine) (l : List Event) → is_member c m (onto (weave v next es alerts) l) ≡ is_member c m (onto es l)
  unwoven v next [] alerts l = made_members v next alerts l
  unwoven v next (Granted w g slot to ∷ es) [] l = unwoven v next es [] (Granted w g slot to ∷ l)
  unwoven v next (Granted w g slot to ∷ es) (a ∷ alerts) l =
      unwoven v (numbered next a.to) es alerts (Made v a.to (next a.to) a.line ∷ Granted w g slot to ∷ l)
      ∙ same_onto es (Made v a.to (next a.to) a.line ∷ Granted w g slot to ∷ l) (Granted w g slot to ∷ l) refl
  unwoven v next (e ∷ es) alerts l = unwoven v next es alerts (e ∷ l)

  -- a removed channel has no members
  removal_members : (d : List ℕ) (cause : RemovedCause) (s : OwnerAt) (l : List Event) → is_member c m (onto (removal_events d cause s) l) ≡ not (bytes_eq d c) && is_member c m l
  removal_members d cause s l =
      let lefts = removal_lefts d Deleted s in
      ap (is_member c m) (onto_append lefts (Removed s.desk.me d (last_in d s) cause ∷ []) l)
      ∙ ap (λ b. not (bytes_eq d c) && b) (memberless_onto c m lefts l (less_left s.desk.me d Deleted (entries_of (opened d s))))

-- ---- what an owner knows of members

module _ (me workers slots first : ℕ) (row : List (Slot Message)) (h : List Event) (s : OwnerAt) (stands : Stands me workers slots first row h s) where
  kept_in : (d : List ℕ) (n : Member) → has_member n (members_in (found d s)) ≡ is_member d n h
  kept_in d n = ((stands_shows me workers slots first row h s stands).channels d).members n

  knows_members : (d : List ℕ) (n : Member) → has_member n (opened d s).members ≡ is_member d n h
  knows_members d n = by (found d s) ∙ kept_in d n
    where
      by : (o : Option Channel) → has_member n (unwrap_or o (new_channel s.desk)).members ≡ has_member n (members_in o)
      by None = refl
      by (Some ch) = refl

  -- a channel that isn't there has none
  no_members : (d : List ℕ) (n : Member) → exists d s ≡ false → is_member d n h ≡ false
  no_members d n e = sym (kept_in d n) ∙ by (found d s) e
    where
      by : (o : Option Channel) → is_some o ≡ false → has_member n (members_in o) ≡ false
      by None e = refl
      by (Some ch) e = absurd (true≢false e)

-- ---- whom alerts tell that the channel is gone

module _ (c : List ℕ) (k w : ℕ) where
  abbrev pub loses_by : OutLine → Bool
  loses_by a = (w == a.to) && loses c k a.line

  abbrev pub loses_all : List OutLine → Bool
  loses_all alerts = list_any loses_by alerts

  abbrev pub loses_steps : List Step → Bool
  loses_steps steps = list_any (λ x. loses_all x.alerts) steps

  one_made : (a : OutLine) (v n : ℕ) (es : List Event) (rest : Bool) → lost_sent c k w es ≡ rest → lost_sent c k w (Made v a.to n a.line ∷ es) ≡ loses_by a || rest
  one_made a v n es rest e = by (w == a.to)
    where
      by : (b : Bool) → is_lost c k (lines_of (cond b (packet n a.line ∷ sent_to w es) (sent_to w es))) ≡ (b && loses c k a.line) || rest
      by true = ap (λ z. loses c k a.line || z) e
      by false = e

  made_lost : (v : ℕ) (next : ℕ → ℕ) (alerts : List OutLine) → lost_sent c k w (makes v next alerts) ≡ loses_all alerts
  made_lost v next [] = refl
  made_lost v next (a ∷ alerts) = one_made a v (next a.to) (makes v (numbered next a.to) alerts) (loses_all alerts) (made_lost v (numbered next a.to) alerts)

  unmade_lost : (e : Event) (es : List Event) → IsUnmade e → lost_sent c k w (e ∷ es) ≡ lost_sent c k w es
  unmade_lost (Made v x n a) es p = absurd p
  unmade_lost e es p = refl

  woven_lost : (v : ℕ) (next : ℕ → ℕ) (es : List Event) (alerts : List OutLine) → AllByRecursion IsUnmade es → lost_sent c k w (weave v next es alerts) ≡ loses_all alerts
  woven_lost v next [] alerts p = made_lost v next alerts
  woven_lost v next (Granted u g slot to ∷ es) [] p = woven_lost v next es [] p.1
  woven_lost v next (Granted u g slot to ∷ es) (a ∷ alerts) p = one_made a v (next a.to) (weave v (numbered next a.to) es alerts) (loses_all alerts) (woven_lost v (numbered next a.to) es alerts p.1)
  woven_lost v next (e ∷ es) alerts p = unmade_lost e (weave v next es alerts) p.0 ∙ woven_lost v next es alerts p.1

  steps_lost : (v : ℕ) (next : ℕ → ℕ) (steps : List Step) → AllByRecursion (λ x. AllByRecursion IsUnmade x.events) steps → lost_sent c k w (steps_woven v next steps) ≡ loses_steps steps
  steps_lost v next [] p = refl
  steps_lost v next (x ∷ steps) p =
      lost_more_events c k w (weave v next x.events x.alerts) (steps_woven v (numbered_by next x.alerts) steps)
      ∙ ap (λ z. z || lost_sent c k w (steps_woven v (numbered_by next x.alerts) steps)) (woven_lost v next x.events x.alerts p.0)
      ∙ ap (λ z. loses_all x.alerts || z) (steps_lost v (numbered_by next x.alerts) steps p.1)

  -- so it is of an owner's part
  pub part_lost : (v : ℕ) (next : ℕ → ℕ) (p : OwnersPart) → PartEvents IsUnmade p → lost_sent c k w (part_woven v next p) ≡ loses_steps p.sweeps || loses_all p.last.alerts
  part_lost v next p a =
      lost_more_events c k w (steps_woven v next p.sweeps) (woven v (next_behind next p.sweeps) p.last)
      ∙ ap (λ z. z || lost_sent c k w (woven v (next_behind next p.sweeps) p.last)) (steps_lost v next p.sweeps a.0)
      ∙ ap (λ z. loses_steps p.sweeps || z) (woven_lost v (next_behind next p.sweeps) p.last.events p.last.alerts a.1)

  -- other alerts tell nobody
  other_lost : (alerts : List OutLine) → AreOther alerts → loses_all alerts ≡ false
  other_lost [] p = refl
  other_lost (a ∷ alerts) p = ap (λ z. ((w == a.to) && z) || loses_all alerts) (by a.line p.0) ∙ ap (λ z. z || loses_all alerts) (none_of (w == a.to)) ∙ other_lost alerts p.1
    where
      by : (line : AlertLine) → IsOther line → loses c k line ≡ false
      by (lines.Gone d subs) q = absurd q
      by line q = refl

  more_lost : (xs ys : List OutLine) → loses_all (xs ++ ys) ≡ loses_all xs || loses_all ys
  more_lost [] ys = refl
  more_lost (a ∷ xs) ys = by (loses_by a) (more_lost xs ys)
    where
      by : (b : Bool) → loses_all (xs ++ ys) ≡ loses_all xs || loses_all ys → (b || loses_all (xs ++ ys)) ≡ (b || loses_all xs) || loses_all ys
      by true e = refl
      by false e = e

  named_number : (ns : List ℕ) → is_named k ns ≡ has_number k ns
  named_number [] = refl
  named_number (n ∷ ns) = (λ i. same i || named_number ns i)
    where
      same : (n == k) ≡ nat_eq k n
      same = grind (arith, nat_tests)

  -- the removal of a channel tells its members
  gones_lost : (d : List ℕ) (ms : List Member) (ws : List ℕ) → loses_all (map (gone_line d ms) ws) ≡ bytes_eq d c && is_told_member (member_of w k) (map (gone_line d ms) ws)
  gones_lost d ms [] = sym (none_of (bytes_eq d c))
  gones_lost d ms (v ∷ ws) =
      (λ i. (turned i && (bytes_eq d c && named_number (numbers_of v ms) i)) || gones_lost d ms ws i)
      ∙ by (bytes_eq d c) (v == w) (has_number k (numbers_of v ms)) (is_told_member (member_of w k) (map (gone_line d ms) ws))
    where
      turned : (w == v) ≡ (v == w)
      turned = grind (arith, nat_tests)

      by : (t here has rest : Bool) → ((here && (t && has)) || (t && rest)) ≡ t && ((here && has) || rest)
      by true here has rest = refl
      by false true has rest = refl
      by false false has rest = refl

-- ---- a deletion

module _ (me workers slots first : ℕ) (row : List (Slot Message)) (l : List Event) (s : OwnerAt) (k : Keeps me workers slots first row l s) where
  -- where the channel isn't there it has no members
  gone_already : (d c : List ℕ) (m : Member) → exists d s ≡ false → is_member c m l ≡ not (bytes_eq d c) && is_member c m l
  gone_already d c m e = by (bytes_eq d c) refl
    where
      by : (t : Bool) → bytes_eq d c ≡ t → is_member c m l ≡ not t && is_member c m l
      by true same = ap (λ (x : List ℕ). is_member x m l) (sym (same_text d c (sym same))) ∙ no_members me workers slots first row l s k.stands d m e
      by false same = refl

  less_touched : (d : List ℕ) → AreMemberless (touch_events_of d row s)
  less_touched d = less_touch d (record { owner = s; row = row; counts = [] })

  touched_member : (d c : List ℕ) (m : Member) → is_member c m (onto (touch_events_of d row s) l) ≡ is_member c m l
  touched_member d c m = memberless_onto c m (touch_events_of d row s) l (less_touched d)

  -- it takes all members of the channel
  pub delete_members : (d c : List ℕ) (m : Member) → is_member c m (onto (delete_events d row s) l) ≡ not (bytes_eq d c) && is_member c m l
  delete_members d c m = ap (is_member c m) (onto_append (touch_events_of d row s) (events_of_removal (exists d s) ByDeletion d (touch_after d row s)) l) ∙ by (exists d s) refl
    where
      by : (b : Bool) → exists d s ≡ b → is_member c m (onto (events_of_removal b ByDeletion d (touch_after d row s)) (onto (touch_events_of d row s) l)) ≡ not (bytes_eq d c) && is_member c m l
      by true e = removal_members c m d ByDeletion (touch_after d row s) (onto (touch_events_of d row s) l) ∙ ap (λ b. not (bytes_eq d c) && b) (touched_member d c m)
      by false e = touched_member d c m ∙ gone_already d c m e

  -- and tells them
  pub delete_lost : (from r : ℕ) (d c : List ℕ) (n w : ℕ) → loses_all c n w (delete_alerts from r d row s) ≡ bytes_eq d c && is_member c (member_of w n) l
  delete_lost from r d c n w =
      more_lost c n w (alerts_of_removal (exists d s) d (touch_after d row s)) (cond (exists d s) (delete_answer from r 200 (Some (info_of (touched_of d row s).channel))) (delete_answer from r 404 None) ∷ [])
      ∙ by (exists d s) refl
    where
      with_none : (b : Bool) → (b || false) ≡ b
      with_none true = refl
      with_none false = refl

      none_told : (v : ℕ) → (((w == v) && false) || false) ≡ false
      none_told v = with_none ((w == v) && false) ∙ none_of (w == v)

      ready : Keeps me workers slots first (touched_row d row s) (onto (touch_events_of d row s) l) (touch_after d row s)
      ready = touch_keeps me workers slots first d row l s k

      by : (b : Bool) → exists d s ≡ b
          → loses_all c n w (alerts_of_removal b d (touch_after d row s)) || loses_all c n w (cond b (delete_answer from r 200 (Some (info_of (touched_of d row s).channel))) (delete_answer from r 404 None) ∷ []) ≡ bytes_eq d c && is_member c (member_of w n) l
      by true e =
          ap (λ z. loses_all c n w (removal_alerts d (touch_after d row s)) || z) (none_told from)
          ∙ with_none (loses_all c n w (removal_alerts d (touch_after d row s)))
          ∙ (let ch = opened d (touch_after d row s) in gones_lost c n w d ch.members (concerned ch))
          ∙ ap (λ z. bytes_eq d c && z) (members_told me workers slots first d (member_of w n) (touched_row d row s) (onto (touch_events_of d row s) l) (touch_after d row s) ready.stands ∙ touched_member d d (member_of w n))
          ∙ by_name d c (λ x. is_member x (member_of w n) l)
      by false e = none_told from ∙ sym (ap (λ z. bytes_eq d c && z) (no_members me workers slots first row l s k.stands d (member_of w n) e) ∙ none_of (bytes_eq d c)) ∙ by_name d c (λ x. is_member x (member_of w n) l)

  -- ---- a sweep of a channel that is removed where it has no member

  module _ (d : List ℕ) (goes : is_reaped d row s ≡ true) where
    nobody_left : (opened d (touch_after d row s)).members ≡ []
    nobody_left =
        let ch = (touched_of d row s).channel in
        let parts = both (exists d s) (is_idle ch) goes in
        ap (λ (x : Channel). x.members) (opened_touched d row s k.stands.fits.names parts.0) ∙ none ch.members (both (length (entries_of ch) == 0) (length ch.members == 0) parts.1).1
      where
        none : (ms : List Member) → (length ms == 0) ≡ true → ms ≡ []
        none [] e = refl
        none (x ∷ ms) e = let no : (suc (length ms) == 0) ≡ false = grind (arith, nat_tests) in absurd (true≢false (sym e ∙ no))

    reaped_members : (c : List ℕ) (m : Member) → is_member c m (onto (removal_events d Reaped (touch_after d row s)) (onto (touch_events_of d row s) l)) ≡ is_member c m l
    reaped_members c m = removal_members c m d Reaped (touch_after d row s) (onto (touch_events_of d row s) l) ∙ ap (λ b. not (bytes_eq d c) && b) (touched_member d c m) ∙ by (bytes_eq d c) refl
      where
        ready : Keeps me workers slots first (touched_row d row s) (onto (touch_events_of d row s) l) (touch_after d row s)
        ready = touch_keeps me workers slots first d row l s k

        nobody : is_member d m l ≡ false
        nobody = sym (touched_member d d m) ∙ sym (knows_members me workers slots first (touched_row d row s) (onto (touch_events_of d row s) l) (touch_after d row s) ready.stands d m) ∙ ap (has_member m) nobody_left

        by : (t : Bool) → bytes_eq d c ≡ t → not t && is_member c m l ≡ is_member c m l
        by true same = sym (ap (λ (x : List ℕ). is_member x m l) (sym (same_text d c (sym same))) ∙ nobody)
        by false same = refl

  sweep_members : (d c : List ℕ) (m : Member) → is_member c m (onto (sweep_events d row s) l) ≡ is_member c m l
  sweep_members d c m = ap (is_member c m) (onto_append (touch_events_of d row s) (events_of_removal (is_reaped d row s) Reaped d (touch_after d row s)) l) ∙ by (is_reaped d row s) refl
    where
      by : (b : Bool) → is_reaped d row s ≡ b → is_member c m (onto (events_of_removal b Reaped d (touch_after d row s)) (onto (touch_events_of d row s) l)) ≡ is_member c m l
      by true e = reaped_members d e c m
      by false e = touched_member d c m

  -- nobody is told
  sweep_lost : (d c : List ℕ) (n w : ℕ) → loses_all c n w (sweep_alerts d row s) ≡ false
  sweep_lost d c n w = by (is_reaped d row s) refl
    where
      nobody : (ws : List ℕ) → loses_all c n w (map (gone_line d []) ws) ≡ false
      nobody [] = refl
      nobody (v ∷ ws) = ap (λ z. ((w == v) && z) || loses_all c n w (map (gone_line d []) ws)) (none_of (bytes_eq d c)) ∙ ap (λ z. z || loses_all c n w (map (gone_line d []) ws)) (none_of (w == v)) ∙ nobody ws

      by : (b : Bool) → is_reaped d row s ≡ b → loses_all c n w (alerts_of_removal b d (touch_after d row s)) ≡ false
      by true e = ap (λ ms. loses_all c n w (map (gone_line d ms) (concerned (opened d (touch_after d row s))))) (nobody_left d e) ∙ nobody (concerned (opened d (touch_after d row s)))
      by false e = refl

-- ---- a reap

module _ (c : List ℕ) (n w me workers slots first : ℕ) (next : ℕ → ℕ) (l : List Event) where
  -- its sweeps leave the members, and tell nobody
  record Sweeping (x : Swept) : Type 0 where
    keeps : Keeps me workers slots first x.row (onto (steps_woven me next x.steps) l) x.owner
    same : is_member c (member_of w n) (onto (steps_woven me next x.steps) l) ≡ is_member c (member_of w n) l
    nobody : loses_steps c n w x.steps ≡ false

  more_steps : (xs : List Step) (x : Step) → loses_steps c n w xs ≡ false → loses_all c n w x.alerts ≡ false → loses_steps c n w (xs ++ x ∷ []) ≡ false
  more_steps [] x e f = ap (λ z. z || false) f
  more_steps (y ∷ xs) x e f = by (loses_all c n w y.alerts) e (λ g. more_steps xs x g f)
    where
      by : (b : Bool) → (b || loses_steps c n w xs) ≡ false → (loses_steps c n w xs ≡ false → loses_steps c n w (xs ++ x ∷ []) ≡ false) → (b || loses_steps c n w (xs ++ x ∷ [])) ≡ false
      by true e rest = absurd (true≢false e)
      by false e rest = rest e

  sweep : (x : Swept) (d : List ℕ) → owner_of workers d ≡ me → Sweeping x → Sweeping (swept x d)
  sweep x d mine z =
      let before = onto (steps_woven me next x.steps) l in
      let numbers = next_behind next x.steps in
      let one = sweep_step d x.row x.owner in
      let here = is_me me workers slots first x.row before x.owner z.keeps.stands in
      let put : (v : ℕ) → v ≡ me → onto (weave v numbers one.events one.alerts) before ≡ onto (steps_woven me next (x.steps ++ one ∷ [])) l =
      (λ v is. ap (λ (u : ℕ). onto (weave u numbers one.events one.alerts) before) is ∙ step_more me next x.steps one l) in
      record {
        keeps = subst (λ (h : List Event). Keeps me workers slots first (sweep_row d x.row x.owner) h (sweep_after d x.row x.owner)) (put x.owner.desk.me here) (sweep_keeps me workers slots first numbers d x.row before x.owner mine z.keeps);
        same = ap (is_member c (member_of w n)) (sym (put x.owner.desk.me here)) ∙ unwoven c (member_of w n) x.owner.desk.me numbers one.events one.alerts before ∙ sweep_members me workers slots first x.row before x.owner z.keeps d c (member_of w n) ∙ z.same;
        nobody = more_steps x.steps one z.nobody (sweep_lost me workers slots first x.row before x.owner z.keeps d c n w);
      }

  sweep_all : (names : List (List ℕ)) (x : Swept) → AllByRecursion (λ d. owner_of workers d ≡ me) names → Sweeping x → Sweeping (fold swept x names)
  sweep_all [] x mine z = z
  sweep_all (d ∷ names) x mine z = sweep_all names (swept x d) mine.1 (sweep x d mine.0 z)

  sweeps_leave : (s : Holding) → Keeps me workers slots first s.row l s.owner → OwnsChannels workers me s.owner → Sweeping (swept_all s.row s.owner)
  sweeps_leave s k owns = sweep_all (names_of s.owner) (state s.owner s.row []) owns (record { keeps = k; same = refl; nobody = refl })

-- ---- an owner's part of a step

module _ (me workers slots first : ℕ) (next : ℕ → ℕ) (l : List Event) where
  -- what is known of the owner where it does something with members
  abbrev pub Knows : Incoming → Holding → Type 0
  Knows (TakesPacket from p) s = Keeps me workers slots first s.row l s.owner
  Knows Reaps s = Keeps me workers slots first s.row l s.owner × OwnsChannels workers me s.owner
  Knows incoming s = Unit {0}

  module _ (c : List ℕ) (m : Member) where
    parts_case : (has t is : Bool) (w from n : ℕ) (d : List ℕ) (before : List Event) → t ≡ (bytes_eq d c && is_same m from n) → is_member c m before ≡ is → (t ≡ true → has ≡ is) → is_member c m (onto (cond has (Parted w d from n ∷ []) []) before) ≡ not t && is
    parts_case true t is w from n d before e f k = ap (λ z. not z && is_member c m before) (sym e) ∙ ap (λ z. not t && z) f
    parts_case false true is w from n d before e f k = f ∙ sym (k refl)
    parts_case false false is w from n d before e f k = f

    module _ (polls : Polls) (from : ℕ) (s : Holding) (k : Keeps me workers slots first s.row l s.owner) where
      -- its events alone
      abbrev After : AlertLine → Type 0
      After line = is_member c m (onto (owned_by polls from line s).events l) ≡ member_by c m from line (is_member c m l)

      -- a touched channel, and then one event or none
      then_member : (d : List ℕ) (es : List Event) → is_member c m (onto (touch_events_of d s.row s.owner ++ es) l) ≡ is_member c m (onto es (onto (touch_events_of d s.row s.owner) l))
      then_member d es = ap (is_member c m) (onto_append (touch_events_of d s.row s.owner) es l)

      touched : (d : List ℕ) → is_member c m (onto (touch_events_of d s.row s.owner) l) ≡ is_member c m l
      touched d = memberless_onto c m (touch_events_of d s.row s.owner) l (less_touch d s)

      kept : (d : List ℕ) (n : ℕ) → (bytes_eq d c && is_same m from n) ≡ true → has_member (member_of from n) (opened d s.owner).members ≡ is_member c m l
      kept d n e =
          let q = both (bytes_eq d c) (is_same m from n) e in
          let r = both (m.from == from) (m.k == n) q.1 in
          knows_members me workers slots first s.row l s.owner k.stands d (member_of from n)
          ∙ (λ i. is_member (same_text d c (sym q.0) i) (member_of (sym (eq_of m.from from r.0) i) (sym (eq_of m.k n r.1) i)) l)

      less : (es : List Event) → AreMemberless es → is_member c m (onto es l) ≡ is_member c m l
      less es p = memberless_onto c m es l p

      by_line : (line : AlertLine) → After line
      by_line (lines.Join d n) = then_member d _ ∙ ap (λ z. (bytes_eq d c && is_same m from n) || z) (touched d)
      by_line (lines.Part d n) = then_member d (parted_events s.owner.desk.me (member_of from n) d (opened d s.owner))
          ∙ parts_case (has_member (member_of from n) (opened d s.owner).members) (bytes_eq d c && is_same m from n) (is_member c m l) s.owner.desk.me from n d (onto (touch_events_of d s.row s.owner) l) refl (touched d) (kept d n)
      by_line (lines.Publish r d len timeout ct body) = less _ (less_publish polls from (order_of r d len timeout ct body) s)
      by_line (lines.Look number d after fence) = less _ (less_behind fence s _ (less_look from number d after (fenced fence s)))
      by_line (lines.Info r d) = less _ (less_touch d s)
      by_line (lines.PubAnswer r status info full) = refl
      by_line (lines.LookAnswer number q floor past g slot) = refl
      by_line (lines.Notice d id g slot) = refl
      by_line (lines.Edge number k d fence) = less _ (less_behind fence s _ (less_edge from number k d (fenced fence s)))
      by_line (lines.EdgeAnswer number q floor last) = refl
      by_line (lines.Delete r d) = delete_members me workers slots first s.row l s.owner k d c m
      by_line (lines.DelAnswer r status info) = refl
      by_line (lines.Gone d subs) = refl
      by_line (lines.InfoAnswer r status info) = refl

  -- the members that it knows after its part
  pub owned_member : (c : List ℕ) (w n : ℕ) (polls : StepPolls) (incoming : Incoming) (s : Holding) → Knows incoming s → is_member c (member_of w n) (onto (part_woven me next (owned_in polls incoming s)) l) ≡ member_in c (member_of w n) incoming (is_member c (member_of w n) l)
  owned_member c w n polls (TakesPacket from p) s k =
      let o = owned_by polls.publish from p.line s in
      unwoven c (member_of w n) me next o.events o.alerts l ∙ by_line c (member_of w n) polls.publish from s k p.line
  owned_member c w n polls (ClockReads t) s k = refl
  owned_member c w n polls Reaps s k =
      let x = swept_all s.row s.owner in
      let z = sweeps_leave c n w me workers slots first next l s k.0 k.1 in
      let freed = freed_events s.owner.desk.me polls.reap in
      ap (is_member c (member_of w n)) (onto_append (steps_woven me next x.steps) (weave me (next_behind next x.steps) freed []) l)
      ∙ unwoven c (member_of w n) me (next_behind next x.steps) freed [] (onto (steps_woven me next x.steps) l)
      ∙ memberless_onto c (member_of w n) freed (onto (steps_woven me next x.steps) l) (less_freed s.owner.desk.me (free_slots polls.reap))
      ∙ z.same
  owned_member c w n polls (Posts d body) s k = refl
  owned_member c w n polls (Subscribes j list start) s k = refl
  owned_member c w n polls (Removes d) s k = refl
  owned_member c w n polls (Informs d) s k = refl

  line_lost : (c : List ℕ) (w n : ℕ) (polls : Polls) (from : ℕ) (line : AlertLine) (s : Holding) → Keeps me workers slots first s.row l s.owner → loses_all c n w (owned_by polls from line s).alerts ≡ lost_by c line (is_member c (member_of w n) l)
  line_lost c w n polls from (lines.Delete r d) s k = delete_lost me workers slots first s.row l s.owner k from r d c n w
  line_lost c w n polls from line s k = other_lost c n w (owned_by polls from line s).alerts (other_line polls from line s tt)

  -- and whom it tells that a channel is gone
  pub owned_lost : (c : List ℕ) (w n : ℕ) (polls : StepPolls) (incoming : Incoming) (s : Holding) → Knows incoming s
      → (let p = owned_in polls incoming s in loses_steps c n w p.sweeps || loses_all c n w p.last.alerts) ≡ lost_in c incoming (is_member c (member_of w n) l)
  owned_lost c w n polls (TakesPacket from p) s k = line_lost c w n polls.publish from p.line s k
  owned_lost c w n polls (ClockReads t) s k = refl
  owned_lost c w n polls Reaps s k = ap (λ b. b || false) (sweeps_leave c n w me workers slots first next l s k.0 k.1).nobody
  owned_lost c w n polls (Posts d body) s k = refl
  owned_lost c w n polls (Subscribes j list start) s k = refl
  owned_lost c w n polls (Removes d) s k = refl
  owned_lost c w n polls (Informs d) s k = refl
