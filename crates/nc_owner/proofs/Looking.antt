-- A look in two steps: spent entries leave, then it is answered.
use Rattle.std.proofs.Common.{◌≡◌, ℕ, Bool, true, List, ◌++◌, ap, ◌∙◌, subst, append_assoc}
use Rattle.nc_types.specs.Id.{Id}
use Rattle.nc_types.specs.Message.{Message}
use Rattle.nc_journal.specs.declared.event.Event.{Event}
use Rattle.nc_alert.specs.declared.packet.Outgoing.{Outgoing}
use Rattle.nc_buffer.specs.Laws.{entry_past}
use Rattle.nc_slots.specs.declared.slot.Slot.{Slot}
use Rattle.nc_slots.specs.Slots.{HoldAt}
use Rattle.nc_owner.specs.declared.channel.Channel.{Channel}
use Rattle.nc_owner.specs.declared.desk.Desk.{Desk}
use Rattle.nc_owner.specs.State.{Bench, bench_from}
use Rattle.nc_owner.specs.AlertLines.{OutLine}
use Rattle.nc_owner.specs.Leave.{spend_events, without_spent}
use Rattle.nc_owner.specs.Look.{found_line, found_holds, answered, answered_events}
use Rattle.nc_owner.specs.Pool.{SameOthers, except}
use Rattle.nc_owner.specs.TouchedLook.{CarriesFound, CarriesSeen, seen, seen_events, seen_line, seen_holds}

-- what an answer says of a bench, by its owner's number
pub record Answers {H : Type 0} (held : H → HoldAt) (exact : Bool) (me from number : ℕ) (c : List ℕ) (id : Id) (d : Desk) (slots1 slots2 : ℕ → List (Slot Message)) (ch : Channel) (events1 events2 : List Event) (line : OutLine) (out : Outgoing H) (d2 : Desk) (ch2 : Channel) (holds1 holds2 : ℕ → List ℕ) : Type 0 where
  pub happened : events2 ≡ events1 ++ answered_events from number c id (bench_from d (slots1 me) ch)
  pub said : line ≡ found_line from number (entry_past id ch.backlog.entries) d
  pub bench : bench_from d2 (slots2 me) ch2 ≡ answered from id (bench_from d (slots1 me) ch)
  pub carries : CarriesFound held me (slots1 me) (entry_past id ch.backlog.entries) out
  pub others : SameOthers me slots1 slots2
  pub counts : exact ≡ true → holds2 me ≡ found_holds from (entry_past id ch.backlog.entries) (holds1 me)
  pub other_counts : exact ≡ true → SameOthers me holds1 holds2

-- what the two steps say together
pub record Sees {H : Type 0} (held : H → HoldAt) (exact : Bool) (me from number : ℕ) (c : List ℕ) (id : Id) (b : Bench) (events0 events2 : List Event) (line : OutLine) (out : Outgoing H) (b2 : Bench) (slots0 slots2 : ℕ → List (Slot Message)) (holds0 holds2 : ℕ → List ℕ) : Type 0 where
  pub happened : events2 ≡ events0 ++ seen_events from number c id b
  pub said : line ≡ seen_line from number id b
  pub bench : b2 ≡ seen from id b
  pub carries : CarriesSeen held id b out
  pub others : SameOthers me slots0 slots2
  pub counts : exact ≡ true → holds2 me ≡ seen_holds from id b (holds0 me)
  pub other_counts : exact ≡ true → SameOthers me holds0 holds2

pub sees : {H : Type 0} → (held : H → HoldAt) (exact : Bool) (from number : ℕ) (c : List ℕ) (id : Id) (d d1 d2 : Desk) (slots0 slots1 slots2 : ℕ → List (Slot Message)) (ch ch1 ch2 : Channel) (events0 events1 events2 : List Event) (line : OutLine) (out : Outgoing H) (holds0 holds1 holds2 : ℕ → List ℕ)
    → events1 ≡ events0 ++ spend_events c (bench_from d (slots0 d.me) ch)
    → bench_from d1 (slots1 d.me) ch1 ≡ without_spent (bench_from d (slots0 d.me) ch)
    → SameOthers d.me slots0 slots1
    → (exact ≡ true → holds1 ≡ holds0)
    → Answers held exact d1.me from number c id d1 slots1 slots2 ch1 events1 events2 line out d2 ch2 holds1 holds2
    → Sees held exact d.me from number c id (bench_from d (slots0 d.me) ch) events0 events2 line out (bench_from d2 (slots2 d.me) ch2) slots0 slots2 holds0 holds2
sees held exact from number c id d d1 d2 slots0 slots1 slots2 ch ch1 ch2 events0 events1 events2 line out holds0 holds1 holds2 left bench same still answers =
    let me : d1.me ≡ d.me = ap (λ (b : Bench). b.desk.me) bench in
    let a = subst (λ (m : ℕ). Answers held exact m from number c id d1 slots1 slots2 ch1 events1 events2 line out d2 ch2 holds1 holds2) me answers in
    let b = bench_from d (slots0 d.me) ch in
    record {
      happened = a.happened ∙ (ap (λ (l : List Event). l ++ answered_events from number c id (bench_from d1 (slots1 d.me) ch1)) left ∙ (append_assoc events0 (spend_events c b) (answered_events from number c id (bench_from d1 (slots1 d.me) ch1)) ∙ ap (λ (x : Bench). events0 ++ (spend_events c b ++ answered_events from number c id x)) bench));
      said = a.said ∙ ap (λ (x : Bench). found_line from number (entry_past id x.channel.backlog.entries) x.desk) bench;
      bench = a.bench ∙ ap (λ (x : Bench). answered from id x) bench;
      carries = subst (λ (x : Bench). CarriesFound held d.me x.row (entry_past id x.channel.backlog.entries) out) bench a.carries;
      others = a.others ∙ same;
      counts = λ x. a.counts x ∙ (ap (λ (y : Bench). found_holds from (entry_past id y.channel.backlog.entries) (holds1 d.me)) bench ∙ ap (λ (f : ℕ → List ℕ). seen_holds from id b (f d.me)) (still x));
      other_counts = λ x. a.other_counts x ∙ ap (λ (f : ℕ → List ℕ). except d.me f) (still x);
    }
