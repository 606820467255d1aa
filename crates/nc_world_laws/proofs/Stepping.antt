-- A theme of owners over one step of its worker: what opens the step, the owner's part, and the rest.
use Rattle.std.proofs.Common.{◌≡◌, ℕ, ◌<◌, true, List, [], ◌∷◌, None, sym, ap, ◌∙◌, subst, fold}
use Rattle.std.specs.List.{AllByRecursion}
use Rattle.nc_types.specs.Id.{Id}
use Rattle.nc_types.specs.Channel.{owner_of}
use Rattle.nc_types.specs.Message.{Message}
use Rattle.nc_journal.specs.History.{onto}
use Rattle.nc_journal.specs.declared.event.Event.{Event}
use Rattle.nc_journal.specs.declared.event.Event.TheVariants.{Clock, Raised, Edged, Made}
use Rattle.nc_journal.specs.declared.word.RemovedCause.{RemovedCause}
use Rattle.nc_journal.specs.declared.word.RemovedCause.TheVariants.{Deleted, Reaped}
use Rattle.nc_journal.specs.declared.alert.AlertLine.{AlertLine}
use Rattle.nc_journal.specs.declared.alert.AlertLine.TheVariants as lines
use Rattle.nc_slots.specs.declared.slot.Slot.{Slot}
use Rattle.nc_owner.specs.declared.desk.Desk.{Desk as OwnerDesk}
use Rattle.nc_owner.specs.AlertLines.{OutLine}
use Rattle.nc_owner.specs.State.{OwnerAt}
use Rattle.nc_owner.specs.Poll.{freed_events}
use Rattle.nc_owner.specs.Publish.{publish_events, publish_alerts, publish_row, publish_after}
use Rattle.nc_owner.specs.Look.{look_events, look_alerts, look_row, look_after}
use Rattle.nc_owner.specs.Fence.{with_floor, raise_events}
use Rattle.nc_owner.specs.Edge.{last_in, edged}
use Rattle.nc_owner.specs.Remove.{removal_events, removal_alerts, removed_row, removed_after, delete_events, delete_alerts, delete_row, delete_after, sweep_events, sweep_alerts, sweep_row, sweep_after}
use Rattle.nc_owner.specs.OtherSteps.{touch_events_of, touched_row, touch_after, join_events, join_after, part_events, part_after, info_alerts, polled_events, polled_row, polled_after, with_clock, names_of}
use Rattle.nc_reaper.specs.Reap.{Swept, state, swept, swept_all, sweep_step}
use Rattle.nc_owner_laws.specs.Aside.{IsAside}
use Rattle.nc_owner_laws.specs.Filters.{new_desk}
use Rattle.nc_owner_laws.specs.OwnerStanding.{Stands, StepsStand}
use Rattle.nc_owner_laws.specs.InOrder.{StepsInOrder}
use Rattle.nc_owner_laws.specs.AnsweredOnce.{StepsAnswerNew}
use Rattle.nc_owner_laws.specs.HoldsKept.{StepsHold, told_polls, told_answers}
use Rattle.nc_owner_laws.specs.OwnChannels.{StepsOwn}
use Rattle.nc_owner_laws.specs.Reaping.{Keeps, steps_woven, next_behind}
use Rattle.nc_owner_laws.specs.Removing.{removed_onto}
use Rattle.nc_owner_laws.specs.Weave.{weave, numbered}
use Rattle.nc_owner_laws.proofs.Stamping as stamping
use Rattle.nc_owner_laws.proofs.OwnerSteps as steps
use Rattle.nc_owner_laws.proofs.InOrder as order
use Rattle.nc_owner_laws.proofs.AnsweredOnce as answers
use Rattle.nc_owner_laws.proofs.Aside as beside
use Rattle.nc_owner_laws.proofs.HoldsKept as holding_laws
use Rattle.nc_owner_laws.proofs.ToldPolls.{told_are_polls, slots_told}
use Rattle.nc_owner_laws.proofs.OwnChannels.{steps_keep_own}
use Rattle.nc_owner_laws.proofs.Reaps.{step_more}
use Rattle.nc_owner_laws.proofs.Removes.{remove_keeps, swept_so, deleted_so, reaped_empty}
use Rattle.nc_owner_laws.proofs.Fences.{raise_keeps, edge_keeps, raised_so, onto_raised, onto_edge}
use Rattle.nc_worker_state.specs.Setup.{Setup}
use Rattle.nc_worker_state.specs.Incoming.{Incoming, TakesPacket, ClockReads, Reaps, Posts, Subscribes, Removes, Informs}
use Rattle.nc_worker_state.specs.Deed.{Deed, Does, Makes, told}
use Rattle.nc_worker_state.specs.Owned.{Holding, Owned, owned, owned_by, looked_by, edged_by, fenced, behind_fence, line_polls, order_of, member_of}
use Rattle.nc_worker_state.specs.Desk.{Desk, opening}
use Rattle.nc_worker_state.specs.Worker.{woven, part_woven}
use Rattle.nc_owner_laws.proofs.Stamping.{onto_append}
use Rattle.nc_world_laws.specs.Good.{IsLineTo}
use Rattle.nc_world_laws.proofs.WorkerKinds.{IsBy, AreDeeds}
use Rattle.nc_world_laws.proofs.OwnerTheme.{OwnerFact, MayGo, StepBase, StepsKeep, IsOwnerTheme}
use Rattle.nc_world_laws.proofs.Local.{eqb_self, eqb_of}
use Rattle.nc_world_laws.proofs.Telling.{weave_nothing, by_worker, aside_worker, plain_asked}
use Rattle.nc_world_laws.proofs.Touching.{touched_once, reaped_memberless}

-- an owner has its worker's number
pub is_me : (me workers slots first : ℕ) (row : List (Slot Message)) (h : List Event) (s : OwnerAt) → Stands me workers slots first row h s → s.desk.me ≡ me
is_me me workers slots first row h s k = ap (λ (d : OwnerDesk). d.me) k.tells.desk ∙ stamping.me_law (new_desk me workers slots first) h

-- what is said of an owner's events by its number, and by the worker's
pub as_me : (Q : List Event → Type 0) (me : ℕ) (next : ℕ → ℕ) (h : List Event) (s : OwnerAt) → s.desk.me ≡ me → (es : List Event) (alerts : List OutLine) → Q (onto (weave s.desk.me next es alerts) h) → Q (onto (weave me next es alerts) h)
as_me Q me next h s is es alerts q = subst (λ (w : ℕ). Q (onto (weave w next es alerts) h)) is q

module _ (setup : Setup) (me : ℕ) where
  abbrev pub KeepsFact : OwnerFact
  KeepsFact row h s = Keeps me setup.workers setup.slots setup.first row h s

  pub aside_keeps : (row : List (Slot Message)) (h : List Event) (s : OwnerAt) (e : Event) → IsAside e → IsBy me e → KeepsFact row h s → KeepsFact row (e ∷ h) s
  aside_keeps row h s e p by k = record {
    stands = beside.aside_stands me setup.workers setup.slots setup.first row h s e p by k.stands;
    ordered = beside.aside_in_order setup.first h e p k.ordered;
    new_answers = beside.aside_answers_new h e p k.new_answers;
  }

  module _ (next : ℕ → ℕ) (row : List (Slot Message)) (counts : List ℕ) (h : List Event) (s : OwnerAt) (base : StepBase setup me row counts h s) where
    is : s.desk.me ≡ me
    is = is_me me setup.workers setup.slots setup.first row h s base.keeps.stands

    stand : StepsStand me setup.workers setup.slots setup.first next row h s
    stand = steps.others_stand me setup.workers setup.slots setup.first next row h s base.keeps.stands

    in_order : StepsInOrder setup.first next row h s
    in_order = order.others_in_order me setup.workers setup.slots setup.first next row h s base.keeps.stands base.keeps.ordered

    new : StepsAnswerNew next row h s
    new = answers.others_answer_new me setup.workers setup.slots setup.first next row h s base.keeps.stands base.keeps.ordered base.keeps.new_answers

    mine : (r : List (Slot Message)) (x : OwnerAt) (es : List Event) (alerts : List OutLine) → KeepsFact r (onto (weave s.desk.me next es alerts) h) x → KeepsFact r (onto (weave me next es alerts) h) x
    mine r x es alerts k = as_me (λ l. KeepsFact r l x) me next h s is es alerts k

    -- an owner stands for its history over each of its steps
    pub keeps_steps : StepsKeep setup me KeepsFact next row counts h s
    keeps_steps = record {
      aside = λ e p by. aside_keeps row h s e p by base.keeps;
      clock = λ now. subst (λ (w : ℕ). KeepsFact row (Clock w now ∷ h) (with_clock now s)) is (record { stands = stand.clock now; ordered = in_order.clock now; new_answers = new.clock now });
      raise = λ fence lt. raise_keeps me setup.workers setup.slots setup.first fence row h s lt base.keeps;
      edge = λ from number k c owns there swept. edge_keeps me setup.workers setup.slots setup.first from number k (next from) c row h s base.keeps;
      join = λ m c owns there. mine (touched_row c row s) (join_after m c row s) (join_events m c row s) [] (record { stands = stand.join m c; ordered = in_order.join m c; new_answers = new.join m c });
      part = λ m c owns there. mine (touched_row c row s) (part_after m c row s) (part_events m c row s) [] (record { stands = stand.part m c; ordered = in_order.part m c; new_answers = new.part m c });
      info = λ from r c owns there. mine (touched_row c row s) (touch_after c row s) (touch_events_of c row s) (info_alerts from r c row s) (record { stands = stand.info from r c; ordered = in_order.info from r c; new_answers = new.info from r c });
      touch = λ c owns. mine (touched_row c row s) (touch_after c row s) (touch_events_of c row s) [] (record { stands = steps.sweep_stands me setup.workers setup.slots setup.first next c row h s base.keeps.stands; ordered = in_order.sweep c; new_answers = new.sweep c });
      remove = λ c cause owns goes. mine (removed_row c row s) (removed_after c (last_in c s) s) (removal_events c cause s) (removal_alerts c s) (remove_keeps me setup.workers setup.slots setup.first next c cause row h s owns base.keeps);
      look = λ from number c id owns there. mine (look_row from c id row s) (look_after from c id row s) (look_events from number c id row s) (look_alerts from number c id row s) (record { stands = stand.look from number c id; ordered = in_order.look from number c id; new_answers = new.look from number c id });
      polled = λ polls each. mine (polled_row polls row) (polled_after polls s) (polled_events polls s) [] (record { stands = stand.polled polls each; ordered = in_order.polled polls; new_answers = new.polled polls });
      publish = λ from o polls owns there fit. mine (publish_row o polls row s) (publish_after o polls row s) (publish_events from o polls row s) (publish_alerts from o polls row s) (record {
        stands = steps.publish_stands me setup.workers setup.slots setup.first next true counts from o polls row h s owns fit base.keeps.stands;
        ordered = order.publish_in_order me setup.workers setup.slots setup.first next from o polls row h s base.keeps.stands base.keeps.ordered;
        new_answers = answers.publish_answers_new next from o polls row h s base.keeps.new_answers;
      });
    }

    pub holds_steps : StepsHold row counts s
    holds_steps = holding_laws.holds_kept row counts s base.keeps.stands.fits base.holds

    pub owns_steps : StepsOwn setup.workers me row s
    owns_steps = steps_keep_own setup.workers me row s base.own

  -- ---- a theme over the parts of a step

  -- what an incoming packet keeps: its sender is there, and its line keeps what a receiver counts on
  abbrev pub IsRight : Incoming → Type 0
  IsRight (TakesPacket from p) = (from < setup.workers) × IsLineTo setup.workers from me p.line
  IsRight incoming = Unit {0}

  module _ (P : OwnerFact) (theme : IsOwnerTheme setup me P) where
    -- an owner at which steps may begin, and its theme
    pub record Themed (row : List (Slot Message)) (counts : List ℕ) (h : List Event) (s : OwnerAt) : Type 0 where
      pub base : StepBase setup me row counts h s
      pub fact : P row h s

    aside_themed : (row : List (Slot Message)) (counts : List ℕ) (h : List Event) (s : OwnerAt) (e : Event) → IsAside e → IsBy me e → Themed row counts h s → Themed row counts (e ∷ h) s
    aside_themed row counts h s e p by t = record {
      base = record { keeps = aside_keeps row h s e p by t.base.keeps; own = t.base.own; holds = t.base.holds };
      fact = (theme.step (λ v. 0) row counts h s t.base t.fact).aside e p by;
    }

    pub told_themed : (row : List (Slot Message)) (counts : List ℕ) (s : OwnerAt) (next : ℕ → ℕ) (deeds : List Deed) (h : List Event) → AreDeeds setup.workers me deeds → Themed row counts h s → Themed row counts (onto (told me next deeds) h) s
    told_themed row counts s next [] h d t = t
    told_themed row counts s next (Does e ∷ deeds) h d t = told_themed row counts s next deeds (e ∷ h) d.1 (aside_themed row counts h s e (aside_worker me e d.0) (by_worker me e d.0) t)
    told_themed row counts s next (Makes to a ∷ deeds) h d t = told_themed row counts s (numbered next to) deeds (Made me to (next to) a ∷ h) d.1 (aside_themed row counts h s (Made me to (next to) a) (plain_asked setup.workers to a d.0) (eqb_self me) t)

    -- ---- a touch, and a removal

    module _ (next : ℕ → ℕ) (c : List ℕ) (owns : owner_of setup.workers c ≡ me) (row : List (Slot Message)) (counts : List ℕ) (h : List Event) (s : OwnerAt) (t : Themed row counts h s) where
      touched_themed : Themed (touched_row c row s) counts (onto (weave me next (touch_events_of c row s) []) h) (touch_after c row s)
      touched_themed = record {
        base = record { keeps = (keeps_steps next row counts h s t.base).touch c owns; own = (owns_steps next row counts h s t.base).touch c owns; holds = (holds_steps next row counts h s t.base).touch c };
        fact = (theme.step next row counts h s t.base t.fact).touch c owns;
      }

      -- the same, where nothing is made
      first_themed : Themed (touched_row c row s) counts (onto (touch_events_of c row s) h) (touch_after c row s)
      first_themed = subst (λ (l : List Event). Themed (touched_row c row s) counts (onto l h) (touch_after c row s)) (weave_nothing me next (touch_events_of c row s)) touched_themed

      removed_themed : (cause : RemovedCause) → MayGo cause c s → Themed (removed_row c row s) counts (removed_onto next c cause h s) (removed_after c (last_in c s) s)
      removed_themed cause goes = subst (λ (w : ℕ). Themed (removed_row c row s) counts (onto (weave w next (removal_events c cause s) (removal_alerts c s)) h) (removed_after c (last_in c s) s))
          (sym (is_me me setup.workers setup.slots setup.first row h s t.base.keeps.stands)) (record {
            base = record { keeps = (keeps_steps next row counts h s t.base).remove c cause owns goes; own = (owns_steps next row counts h s t.base).remove c (last_in c s); holds = (holds_steps next row counts h s t.base).remove c };
            fact = (theme.step next row counts h s t.base t.fact).remove c cause owns goes;
          })

    -- a deletion: a touch, a removal where the channel is there, and an answer beside the owner
    deleted_themed : (next : ℕ → ℕ) (from r : ℕ) (c : List ℕ) → owner_of setup.workers c ≡ me → (row : List (Slot Message)) (counts : List ℕ) (h : List Event) (s : OwnerAt) → Themed row counts h s
        → Themed (delete_row c row s) counts (onto (weave me next (delete_events c row s) (delete_alerts from r c row s)) h) (delete_after c row s)
    deleted_themed next from r c owns row counts h s t =
        let is = is_me me setup.workers setup.slots setup.first row h s t.base.keeps.stands in
        let z = first_themed next c owns row counts h s t in
        let x = touch_after c row s in
        let before = onto (touch_events_of c row s) h in
        subst (λ (w : ℕ). Themed (delete_row c row s) counts (onto (weave w next (delete_events c row s) (delete_alerts from r c row s)) h) (delete_after c row s)) is
        (deleted_so (λ y l o. Themed y counts l o) next c row h s from r
        (λ e. aside_themed (touched_row c row s) counts before x (Made s.desk.me from (next from) (lines.DelAnswer r 404 None)) tt (eqb_of me s.desk.me is) z)
        (λ n info e. aside_themed (removed_row c (touched_row c row s) x) counts (removed_onto next c Deleted before x) (removed_after c (last_in c x) x) (Made s.desk.me from n (lines.DelAnswer r 200 info)) tt (eqb_of me s.desk.me is)
        (removed_themed next c owns (touched_row c row s) counts before x z Deleted tt)))

    -- a sweep: a touch, and a removal where the channel then keeps nothing and nobody
    swept_themed : (next : ℕ → ℕ) (c : List ℕ) → owner_of setup.workers c ≡ me → (row : List (Slot Message)) (counts : List ℕ) (h : List Event) (s : OwnerAt) → Themed row counts h s
        → Themed (sweep_row c row s) counts (onto (weave me next (sweep_events c row s) (sweep_alerts c row s)) h) (sweep_after c row s)
    swept_themed next c owns row counts h s t =
        let z = first_themed next c owns row counts h s t in
        let names = t.base.keeps.stands.fits.names in
        subst (λ (w : ℕ). Themed (sweep_row c row s) counts (onto (weave w next (sweep_events c row s) (sweep_alerts c row s)) h) (sweep_after c row s))
        (is_me me setup.workers setup.slots setup.first row h s t.base.keeps.stands)
        (swept_so (λ y l o. Themed y counts l o) next c row h s z
        (λ e. removed_themed next c owns (touched_row c row s) counts (onto (touch_events_of c row s) h) (touch_after c row s) z Reaped (reaped_empty c row s names e, reaped_memberless c row s names e)))

    -- ---- what an owner does with an alert

    -- a theme behind what an owner does with an alert
    abbrev After : (ℕ → ℕ) → List Event → Owned → Type 0
    After next h o = Themed o.after.row o.after.counts (onto (woven me next o) h) o.after.owner

    module _ (next : ℕ → ℕ) (h : List Event) (s : Holding) (t : Themed s.row s.counts h s.owner) where
      here : s.owner.desk.me ≡ me
      here = is_me me setup.workers setup.slots setup.first s.row h s.owner t.base.keeps.stands

      kept : StepsKeep setup me KeepsFact next s.row s.counts h s.owner
      kept = keeps_steps next s.row s.counts h s.owner t.base

      held : StepsHold s.row s.counts s.owner
      held = holds_steps next s.row s.counts h s.owner t.base

      own : StepsOwn setup.workers me s.row s.owner
      own = owns_steps next s.row s.counts h s.owner t.base

      facts : StepsKeep setup me P next s.row s.counts h s.owner
      facts = theme.step next s.row s.counts h s.owner t.base t.fact

      -- a fence raises the floor, or leaves all as it is
      raised_themed : (fence : ℕ) → Themed s.row s.counts (onto (raise_events fence s.owner) h) (with_floor fence s.owner)
      raised_themed fence = raised_so (λ es x. Themed s.row s.counts (onto es h) x) fence s.owner t (λ lt.
          subst (λ (w : ℕ). Themed s.row s.counts (Raised w fence ∷ h) (with_floor fence s.owner)) (sym here) (record {
            base = record { keeps = kept.raise fence lt; own = own.raise fence; holds = t.base.holds };
            fact = facts.raise fence lt;
          }))

      -- what is done behind a fence is done on the history behind it
      fenced_themed : (fence : ℕ) (o : Owned) → After next (onto (raise_events fence s.owner) h) o → After next h (behind_fence fence s o)
      fenced_themed fence o z = subst (λ (l : List Event). Themed o.after.row o.after.counts l o.after.owner) (sym (onto_raised me next fence s.owner o.events o.alerts h)) z

      looked_themed : (from number : ℕ) (c : List ℕ) (after : Id) → owner_of setup.workers c ≡ me → from < setup.workers → After next h (looked_by from number c after s)
      looked_themed from number c after owns there = record { base = record { keeps = kept.look from number c after owns there; own = own.look from c after owns; holds = held.look from c after }; fact = facts.look from number c after owns there }

      -- a touch, and then an edge that is told and answered
      edged_themed : (from number k : ℕ) (c : List ℕ) → owner_of setup.workers c ≡ me → from < setup.workers → After next h (edged_by from number k c s)
      edged_themed from number k c owns there =
          let z = touched_themed next c owns s.row s.counts h s.owner t in
          let row = touched_row c s.row s.owner in
          let before = onto (weave me next (touch_events_of c s.row s.owner) []) h in
          let x = touch_after c s.row s.owner in
          let swept = touched_once c s.row s.owner t.base.keeps.stands.fits.names in
          let told_by : ℕ → List Event = (λ w. Made me from (next from) (lines.EdgeAnswer number x.desk.looks x.desk.floor (last_in c x)) ∷ Edged w x.desk.looks from number k c x.desk.floor (last_in c x) ∷ before) in
          let last : Themed row s.counts (told_by me) (edged x) = record {
            base = record { keeps = (keeps_steps next row s.counts before x z.base).edge from number k c owns there swept; own = (owns_steps next row s.counts before x z.base).edge; holds = z.base.holds };
            fact = (theme.step next row s.counts before x z.base z.fact).edge from number k c owns there swept;
          } in
          subst (λ (l : List Event). Themed row s.counts l (edged x)) (sym (onto_edge me next next from number k c s.row s.owner h))
          (subst (λ (w : ℕ). Themed row s.counts (told_by w) (edged x)) (sym here) last)

    module _ (next : ℕ → ℕ) (h : List Event) (s : Holding) (t : Themed s.row s.counts h s.owner) where
      line_themed : (from : ℕ) (line : AlertLine) → from < setup.workers → IsLineTo setup.workers from me line → After next h (owned_by (line_polls line s) from line s)
      line_themed from (lines.Publish r c len timeout ct body) there owns =
          let o = order_of r c len timeout ct body in
          let polls = told_polls s.counts o s.row s.owner in
          let fit = told_are_polls s.row s.counts s.owner o t.base.holds in
          record { base = record { keeps = (kept next h s t).publish from o polls owns.0 there fit; own = (own next h s t).publish o polls owns.0; holds = (held next h s t).publish o polls fit }; fact = (facts next h s t).publish from o polls owns.0 there fit }
      line_themed from (lines.Look number c after fence) there owns =
          fenced_themed next h s t fence (looked_by from number c after (fenced fence s)) (looked_themed next (onto (raise_events fence s.owner) h) (fenced fence s) (raised_themed next h s t fence) from number c after owns there)
      line_themed from (lines.Edge number k c fence) there owns =
          fenced_themed next h s t fence (edged_by from number k c (fenced fence s)) (edged_themed next (onto (raise_events fence s.owner) h) (fenced fence s) (raised_themed next h s t fence) from number k c owns there)
      line_themed from (lines.Join c k) there owns = record { base = record { keeps = (kept next h s t).join (member_of from k) c owns there; own = (own next h s t).join (member_of from k) c owns; holds = (held next h s t).touch c }; fact = (facts next h s t).join (member_of from k) c owns there }
      line_themed from (lines.Part c k) there owns = record { base = record { keeps = (kept next h s t).part (member_of from k) c owns there; own = (own next h s t).part (member_of from k) c owns; holds = (held next h s t).touch c }; fact = (facts next h s t).part (member_of from k) c owns there }
      line_themed from (lines.Info r c) there owns = record { base = record { keeps = (kept next h s t).info from r c owns there; own = (own next h s t).touch c owns; holds = (held next h s t).touch c }; fact = (facts next h s t).info from r c owns there }
      line_themed from (lines.PubAnswer r status info full) there owns = t
      line_themed from (lines.LookAnswer number q floor found g slot) there owns = t
      line_themed from (lines.Notice c id g slot) there owns = t
      line_themed from (lines.EdgeAnswer number q floor last) there owns = t
      line_themed from (lines.Delete r c) there owns = deleted_themed next from r c owns s.row s.counts h s.owner t
      line_themed from (lines.DelAnswer r status info) there owns = t
      line_themed from (lines.Gone c subs) there owns = t
      line_themed from (lines.InfoAnswer r status info) there owns = t

    -- ---- a reap

    abbrev SweptThemed : (ℕ → ℕ) → List ℕ → List Event → Swept → Type 0
    SweptThemed next counts h x = Themed x.row counts (onto (steps_woven me next x.steps) h) x.owner

    sweep_themed : (next : ℕ → ℕ) (counts : List ℕ) (h : List Event) (x : Swept) (c : List ℕ) → owner_of setup.workers c ≡ me → SweptThemed next counts h x → SweptThemed next counts h (swept x c)
    sweep_themed next counts h x c owns t =
        subst (λ (l : List Event). Themed (sweep_row c x.row x.owner) counts l (sweep_after c x.row x.owner)) (step_more me next x.steps (sweep_step c x.row x.owner) h)
        (swept_themed (next_behind next x.steps) c owns x.row counts (onto (steps_woven me next x.steps) h) x.owner t)

    sweeps_themed : (next : ℕ → ℕ) (counts : List ℕ) (h : List Event) (names : List (List ℕ)) (x : Swept) → AllByRecursion (λ c. owner_of setup.workers c ≡ me) names → SweptThemed next counts h x → SweptThemed next counts h (fold swept x names)
    sweeps_themed next counts h [] x owns t = t
    sweeps_themed next counts h (c ∷ names) x owns t = sweeps_themed next counts h names (swept x c) owns.1 (sweep_themed next counts h x c owns.0 t)

    -- the sweeps, one after the other, and the polls
    reap_themed : (next : ℕ → ℕ) (h : List Event) (s : Holding) → Themed s.row s.counts h s.owner
        → (let p = owned Reaps s in Themed p.last.after.row p.last.after.counts (onto (part_woven me next p) h) p.last.after.owner)
    reap_themed next h s t =
        let x = swept_all s.row s.owner in
        let polls = told_answers s.counts x.owner.desk.retired in
        let z = sweeps_themed next s.counts h (names_of s.owner) (state s.owner s.row []) t.base.own t in
        let before = onto (steps_woven me next x.steps) h in
        let later = next_behind next x.steps in
        let last : Themed (polled_row polls x.row) s.counts (onto (weave me later (polled_events polls x.owner) []) before) (polled_after polls x.owner) = record {
          base = record {
            keeps = (keeps_steps later x.row s.counts before x.owner z.base).polled polls (slots_told s.counts x.owner.desk.retired);
            own = (owns_steps later x.row s.counts before x.owner z.base).polled polls;
            holds = (holds_steps later x.row s.counts before x.owner z.base).polled;
          };
          fact = (theme.step later x.row s.counts before x.owner z.base z.fact).polled polls (slots_told s.counts x.owner.desk.retired);
        } in
        let here = is_me me setup.workers setup.slots setup.first s.row h s.owner t.base.keeps.stands in
        let there = is_me me setup.workers setup.slots setup.first x.row before x.owner z.base.keeps.stands in
        subst (λ (l : List Event). Themed (polled_row polls x.row) s.counts l (polled_after polls x.owner))
        (ap (λ (v : ℕ). onto (weave me later (freed_events v polls) []) before) (there ∙ sym here) ∙ sym (onto_append (steps_woven me next x.steps) (weave me later (freed_events s.owner.desk.me polls) []) h)) last

    -- ---- what opens a step, and the owner's part

    pub part_themed : (incoming : Incoming) (next : ℕ → ℕ) (d : Desk) (h : List Event) (s : Holding) → IsRight incoming → Themed s.row s.counts h s.owner
        → (let p = owned incoming s in Themed p.last.after.row p.last.after.counts (onto (part_woven me next p) (onto (opening setup me incoming d) h)) p.last.after.owner)
    part_themed (TakesPacket from p) next d h s right t = line_themed next _ s (aside_themed s.row s.counts h s.owner _ tt (eqb_self me) t) from p.line right.0 right.1
    part_themed (ClockReads now) next d h s right t = record {
      base = record { keeps = (keeps_steps next s.row s.counts h s.owner t.base).clock now; own = (owns_steps next s.row s.counts h s.owner t.base).clock now; holds = t.base.holds };
      fact = (theme.step next s.row s.counts h s.owner t.base t.fact).clock now;
    }
    part_themed Reaps next d h s right t = reap_themed next h s t
    part_themed (Posts c body) next d h s right t = aside_themed s.row s.counts h s.owner _ tt (eqb_self me) t
    part_themed (Subscribes k list start) next d h s right t = aside_themed s.row s.counts h s.owner _ tt (eqb_self me) t
    part_themed (Removes c) next d h s right t = aside_themed s.row s.counts h s.owner _ tt (eqb_self me) t
    part_themed (Informs c) next d h s right t = aside_themed s.row s.counts h s.owner _ tt (eqb_self me) t
