-- What a publish comes to.
use Rattle.std.proofs.Common.{◌≡◌, ℕ, List, [], ◌∷◌, ◌++◌, Bool, true, false, refl, sym, ap, ◌∙◌, subst, map, Some, None}
use Rattle.std.proofs.lemmas.List.{append-nil}
use Rattle.std.specs.Prelude.{nat_le}
use Rattle.nc_types.specs.Id.{last_second}
use Rattle.nc_types.specs.declared.info.FullLine.{FullLine}
use Rattle.nc_journal.specs.declared.event.Event.{Event}
use Rattle.nc_owner.specs.declared.order.Order.{Order}
use Rattle.nc_owner.specs.declared.poll.PollAnswer.{PollAnswer}
use Rattle.nc_owner.specs.Ascending.{ascending}
use Rattle.nc_owner.specs.AlertLines.{OutLine}
use Rattle.nc_owner.specs.Poll.{PollsOf, AnswersFit, told_answer}
use Rattle.nc_owner.specs.PublishClauses.{IsPosted, Posts, TakesSlot}
use Rattle.nc_owner.specs.State.{Bench}
use Rattle.nc_owner.specs.Publish.{Polls, Outcome, late, full, stored, outcome, outcome_by, usage_of, is_full, stamp, leaving, left_slots, slots_of, is_late, is_stored, post_events, post_alerts, post_bench, post_holds, answer, asked, store_events, store_alerts, store_bench, store_holds, roomy}
use Rattle.nc_owner.proofs.Polls.{polls_told}

false_true : false ≡ true → ⊥
false_true is = cc

posted_by : (exact : Bool) (from : ℕ) (o : Order) (polls : Polls) (b : Bench) (counts : List ℕ) (done : Bool) (before events : List Event) (lines : List OutLine) (bench : Bench) (new_counts : List ℕ) (x : Outcome) → outcome o.length polls b ≡ x
    → done ≡ is_stored x → events ≡ before ++ post_events x from o polls b → lines ≡ post_alerts x from o polls b → bench ≡ post_bench x o polls b → (exact ≡ true → new_counts ≡ post_holds x o polls b counts)
    → (done ≡ true → TakesSlot (roomy o.length polls.left (asked polls.leaving b)))
    → IsPosted exact from o polls b counts done before events lines bench new_counts
posted_by exact from o polls b counts done before events lines bench new_counts x is d e a t h r = record {
  taken = r;
  kind = d ∙ ap is_stored (sym is);
  happened = e ∙ ap (λ (y : Outcome). before ++ post_events y from o polls b) (sym is);
  said = a ∙ ap (λ (y : Outcome). post_alerts y from o polls b) (sym is);
  after_post = t ∙ ap (λ (y : Outcome). post_bench y o polls b) (sym is);
  held = λ k. h k ∙ ap (λ (y : Outcome). post_holds y o polls b counts) (sym is);
}

pub late_posts : (exact : Bool) (from : ℕ) (o : Order) (first : List PollAnswer) (b : Bench) (counts : List ℕ) (done : Bool) (before events : List Event) (lines : List OutLine)
    → nat_le (stamp b).time last_second ≡ false → done ≡ false → events ≡ before → lines ≡ answer from o.r 503 None None ∷ []
    → Posts exact from o first b counts done before events lines b counts
late_posts exact from o first b counts done before events lines is d e a =
    let slots = slots_of (leaving o.length b) in
    let polls : Polls = record { retired = first; leaving = map (told_answer counts) slots; left = map (told_answer counts) (ascending slots) } in
    let usage = usage_of o.length polls b in
    let x : outcome o.length polls b ≡ late = ap (λ (t : Bool). outcome_by t (is_full b.desk.slots usage) usage) is in (
      polls,
      refl,
      record {
        before = polls_told exact counts slots;
        after_leaving = polls_told exact counts (ascending slots);
        before_fit = λ h. absurd (false_true (sym h ∙ ap is_late x));
        after_leaving_fit = λ h. absurd (false_true (sym (ap is_stored x) ∙ h));
      },
      posted_by exact from o polls b counts done before events lines b counts late x d (e ∙ sym (append-nil before)) a refl (λ k. refl) (λ yes_done. absurd (false_true (sym d ∙ yes_done))),
    )

pub full_posts : (exact : Bool) (from : ℕ) (o : Order) (first asked_answers : List PollAnswer) (b : Bench) (counts new_counts : List ℕ) (done : Bool) (before events : List Event) (lines : List OutLine) (usage : FullLine) (bench : Bench)
    → nat_le (stamp b).time last_second ≡ true → usage ≡ usage_of o.length (record { retired = first; leaving = asked_answers; left = [] }) b → is_full b.desk.slots usage ≡ true
    → PollsOf exact counts (slots_of (leaving o.length b)) asked_answers → AnswersFit b.row asked_answers → bench ≡ asked asked_answers b → (exact ≡ true → new_counts ≡ counts)
    → done ≡ false → events ≡ before → lines ≡ answer from o.r 507 None (Some usage) ∷ []
    → Posts exact from o first b counts done before events lines bench new_counts
full_posts exact from o first asked_answers b counts new_counts done before events lines usage bench is is_usage is_full_usage p fit t h d e a =
    let slots = slots_of (leaving o.length b) in
    let polls : Polls = record { retired = first; leaving = asked_answers; left = map (told_answer counts) (ascending slots) } in
    let x : outcome o.length polls b ≡ full usage =
    ap (λ (y : Bool). outcome_by y (is_full b.desk.slots (usage_of o.length polls b)) (usage_of o.length polls b)) is
    ∙ (ap (λ (u : FullLine). outcome_by true (is_full b.desk.slots u) u) (sym is_usage) ∙ ap (λ (y : Bool). outcome_by true y usage) is_full_usage) in (
      polls,
      refl,
      record { before = p; after_leaving = polls_told exact counts (ascending slots); before_fit = λ _. fit; after_leaving_fit = λ h. absurd (false_true (sym (ap is_stored x) ∙ h)) },
      posted_by exact from o polls b counts done before events lines bench new_counts (full usage) x d (e ∙ sym (append-nil before)) a t h (λ yes_done. absurd (false_true (sym d ∙ yes_done))),
    )

pub stored_posts : (exact : Bool) (from : ℕ) (o : Order) (first asked_answers left : List PollAnswer) (b b2 : Bench) (counts new_counts : List ℕ) (done : Bool) (before events : List Event) (lines : List OutLine) (usage : FullLine) (bench : Bench)
    → nat_le (stamp b).time last_second ≡ true → usage ≡ usage_of o.length (record { retired = first; leaving = asked_answers; left = [] }) b → is_full b.desk.slots usage ≡ false
    → PollsOf exact counts (slots_of (leaving o.length b)) asked_answers → AnswersFit b.row asked_answers → PollsOf exact counts (ascending (slots_of (leaving o.length b))) left → AnswersFit (left_slots o.length b2) left → b2 ≡ asked asked_answers b
    → TakesSlot (roomy o.length left b2) → done ≡ true → events ≡ before ++ store_events from o left b2 → lines ≡ store_alerts from o left b2 → bench ≡ store_bench o left b2 → (exact ≡ true → new_counts ≡ store_holds o left b2 counts)
    → Posts exact from o first b counts done before events lines bench new_counts
stored_posts exact from o first asked_answers left b b2 counts new_counts done before events lines usage bench is is_usage is_full_usage p fit q left_fit t taken d e a be h =
    let polls : Polls = record { retired = first; leaving = asked_answers; left = left } in
    let x : outcome o.length polls b ≡ stored =
    ap (λ (y : Bool). outcome_by y (is_full b.desk.slots (usage_of o.length polls b)) (usage_of o.length polls b)) is
    ∙ (ap (λ (u : FullLine). outcome_by true (is_full b.desk.slots u) u) (sym is_usage) ∙ ap (λ (y : Bool). outcome_by true y usage) is_full_usage) in (
      polls,
      refl,
      record { before = p; after_leaving = q; before_fit = λ _. fit; after_leaving_fit = λ _. subst (λ (y : Bench). AnswersFit (left_slots o.length y) left) t left_fit },
      posted_by exact from o polls b counts done before events lines bench new_counts stored x d
          (e ∙ ap (λ (y : Bench). before ++ store_events from o left y) t) (a ∙ ap (λ (y : Bench). store_alerts from o left y) t) (be ∙ ap (λ (y : Bench). store_bench o left y) t) (λ k. h k ∙ ap (λ (y : Bench). store_holds o left y counts) t) (λ k. subst (λ (y : Bench). TakesSlot (roomy o.length left y)) t taken),
    )
