-- A message is stored: the parts give the whole.
use Rattle.std.proofs.Common.{◌≡◌, ℕ, Bool, true, List, [], ◌∷◌, ◌++◌, sym, ap, ◌∙◌, subst, append_assoc, Some, None}
use Rattle.std.specs.Prelude.{fold}
use Rattle.nc_types.specs.Id.{Id}
use Rattle.nc_types.specs.Message.{Message}
use Rattle.nc_types.specs.declared.info.Info.{Info}
use Rattle.nc_journal.specs.declared.event.Event.{Event}
use Rattle.nc_alert.specs.declared.packet.Outgoing.{Outgoing}
use Rattle.nc_slots.specs.declared.slot.Slot.{Slot}
use Rattle.nc_slots.specs.Slot.{lowest_unused}
use Rattle.nc_slots.specs.Slots.{HoldAt}
use Rattle.nc_owner.specs.declared.channel.Channel.{Channel}
use Rattle.nc_owner.specs.declared.desk.Desk.{Desk}
use Rattle.nc_owner.specs.declared.order.Order.{Order}
use Rattle.nc_owner.specs.declared.poll.PollAnswer.{PollAnswer}
use Rattle.nc_owner.specs.Holds.{Carries, AllCarry}
use Rattle.nc_owner.specs.AlertLines.{OutLine, out_lines}
use Rattle.nc_owner.specs.Pool.{except, SameOthers}
use Rattle.nc_owner.specs.PublishClauses.{IsStored}
use Rattle.nc_owner.specs.State.{Bench, bench_from}
use Rattle.nc_owner.specs.Publish.{roomy, roomy_events, stored_events, stored_bench, notices, lowest_slot, stamp, answer, stored_status, info_of, message_of_order, one_hold}
use Rattle.nc_owner.proofs.Carried.{all_carry-push}

-- what is known once the message has its slot, with the slots and holds of owner m
pub record Told {H : Type 0} (held : H → HoldAt) (exact : Bool) (from : ℕ) (o : Order) (id : Id) (slots1 slots2 : ℕ → List (Slot Message)) (holds1 holds2 : ℕ → List ℕ) (d1 d2 : Desk) (ch1 ch2 : Channel) (e1 e2 : List Event) (a1 a2 : List (Outgoing H)) (m : ℕ) : Type 0 where
  pub happened : e2 ≡ e1 ++ stored_events from o (lowest_slot (slots1 m)) (bench_from d1 (slots1 m) ch1)
  pub said : out_lines a2 ≡ out_lines a1 ++ notices o.chan id (lowest_slot (slots1 m)) d1.grants ch1.marks
  pub bench : bench_from d2 (slots2 m) ch2 ≡ stored_bench o (lowest_slot (slots1 m)) (bench_from d1 (slots1 m) ch1)
  pub carried : AllCarry held m (message_of_order id o d1.clock) a1 → AllCarry held m (message_of_order id o d1.clock) a2
  pub others : SameOthers m slots1 slots2
  pub counts : exact ≡ true → holds2 m ≡ fold (one_hold (lowest_slot (slots1 m))) (holds1 m) ch1.marks
  pub other_counts : exact ≡ true → SameOthers m holds1 holds2
  pub slot_taken : lowest_unused (slots1 m) ≡ Some (lowest_slot (slots1 m))

module _ {H : Type 0} (held : H → HoldAt) (exact : Bool) (from me : ℕ) (o : Order) (left : List PollAnswer) (b : Bench) (id : Id) (slots0 slots1 slots2 : ℕ → List (Slot Message)) (holds0 holds1 holds2 : ℕ → List ℕ) (d1 d2 : Desk) (ch1 ch2 : Channel) (before e1 e2 : List Event) (a1 a2 a3 : List (Outgoing H)) (last : Outgoing H) (info : Info) where
  -- what is known of the room that was made, and of the answer
  pub record Parts : Type 0 where
    pub is_me : b.desk.me ≡ me
    pub is_id : id ≡ stamp b
    pub none : a1 ≡ []
    pub room : bench_from d1 (slots1 me) ch1 ≡ roomy o.length left b
    pub left_events : e1 ≡ before ++ roomy_events o.length left o.chan b
    pub room_others : SameOthers me slots0 slots1
    pub room_counts : exact ≡ true → holds1 ≡ holds0
    pub told : Told held exact from o id slots1 slots2 holds1 holds2 d1 d2 ch1 ch2 e1 e2 a1 a2 d1.me
    pub is_info : info ≡ info_of ch2
    pub pushed : a3 ≡ a2 ++ last ∷ []
    pub line : out_lines a3 ≡ out_lines a2 ++ answer from o.r (stored_status b.channel) (Some info) None ∷ []
    pub no_hold : (m : Message) → Carries held me m last

  -- the whole
  pub whole : Parts → IsStored held exact from me o left b slots0 slots2 holds0 holds2 before e2 a3 (bench_from d2 (slots2 me) ch2)
  whole p =
      let r = roomy o.length left b in
      let x = bench_from d1 (slots1 me) ch1 in
      let e : d1.me ≡ me = ap (λ (y : Bench). y.desk.me) p.room ∙ p.is_me in
      let t : Told held exact from o id slots1 slots2 holds1 holds2 d1 d2 ch1 ch2 e1 e2 a1 a2 me = subst (Told held exact from o id slots1 slots2 holds1 holds2 d1 d2 ch1 ch2 e1 e2 a1 a2) e p.told in
      let ev : e2 ≡ e1 ++ stored_events from o (lowest_slot r.row) r = t.happened ∙ ap (λ (y : Bench). e1 ++ stored_events from o (lowest_slot y.row) y) p.room in
      let be : bench_from d2 (slots2 me) ch2 ≡ stored_bench o (lowest_slot r.row) r = t.bench ∙ ap (λ (y : Bench). stored_bench o (lowest_slot y.row) y) p.room in
      let al : out_lines a2 ≡ notices o.chan id (lowest_slot r.row) b.desk.grants b.channel.marks =
      t.said ∙ (ap (λ (l : List (Outgoing H)). out_lines l ++ notices o.chan id (lowest_slot x.row) x.desk.grants x.channel.marks) p.none
      ∙ ap (λ (y : Bench). notices o.chan id (lowest_slot y.row) y.desk.grants y.channel.marks) p.room) in
      let clock : d1.clock ≡ b.desk.clock = ap (λ (y : Bench). y.desk.clock) p.room in
      let first : AllCarry held me (message_of_order id o d1.clock) a1 = subst (λ (l : List (Outgoing H)). AllCarry held me (message_of_order id o d1.clock) l) (sym p.none) tt in
      let second : AllCarry held me (message_of_order (stamp b) o b.desk.clock) a2 = subst (λ (i : Id). AllCarry held me (message_of_order i o b.desk.clock) a2) p.is_id (subst (λ (n : ℕ). AllCarry held me (message_of_order id o n) a2) clock (t.carried first)) in
      record {
        happened = ev ∙ (ap (λ (l : List Event). l ++ stored_events from o (lowest_slot r.row) r) p.left_events ∙ append_assoc before _ _);
        said = p.line ∙ (ap (λ (l : List OutLine). l ++ answer from o.r (stored_status b.channel) (Some info) None ∷ []) al
            ∙ (ap (λ (i : Id). notices o.chan i (lowest_slot r.row) b.desk.grants b.channel.marks ++ answer from o.r (stored_status b.channel) (Some info) None ∷ []) p.is_id
            ∙ ap (λ (i : Info). notices o.chan (stamp b) (lowest_slot r.row) b.desk.grants b.channel.marks ++ answer from o.r (stored_status b.channel) (Some i) None ∷ []) (p.is_info ∙ ap (λ (y : Bench). info_of y.channel) be)));
        after_store = be;
        taken = subst (λ (y : Bench). lowest_unused y.row ≡ Some (lowest_slot y.row)) p.room t.slot_taken;
        carried = subst (λ (l : List (Outgoing H)). AllCarry held me (message_of_order (stamp b) o b.desk.clock) l) (sym p.pushed) (all_carry-push held me (message_of_order (stamp b) o b.desk.clock) a2 last second (p.no_hold (message_of_order (stamp b) o b.desk.clock)));
        others = t.others ∙ p.room_others;
        counts = λ h. t.counts h ∙ (ap (λ (f : ℕ → List ℕ). fold (one_hold (lowest_slot x.row)) (f me) x.channel.marks) (p.room_counts h) ∙ ap (λ (y : Bench). fold (one_hold (lowest_slot y.row)) (holds0 me) y.channel.marks) p.room);
        other_counts = λ h. t.other_counts h ∙ ap (λ (f : ℕ → List ℕ). except me f) (p.room_counts h);
      }
