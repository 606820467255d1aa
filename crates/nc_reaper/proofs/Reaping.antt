-- A reap: its steps give the whole.
use Rattle.std.proofs.Common.{◌≡◌, ℕ, Bool, true, List, [], ◌∷◌, ◌++◌, ap, ◌∙◌, subst, map}
use Rattle.std.specs.Prelude.{fold}
use Rattle.nc_types.specs.Message.{Message}
use Rattle.nc_journal.specs.declared.event.Event.{Event}
use Rattle.nc_slots.specs.declared.slot.Slot.{Slot}
use Rattle.nc_owner.specs.declared.poll.PollAnswer.{PollAnswer}
use Rattle.nc_owner.specs.State.{OwnerAt}
use Rattle.nc_owner.specs.Poll.{PollsOf, AnswersFit, told_answer, freed_events}
use Rattle.nc_owner.specs.OtherSteps.{polled_after, polled_row, names_of}
use Rattle.nc_owner.specs.Sweep.{IsPolled}
use Rattle.nc_reaper.specs.Reap.{Step, step, Swept, state, swept, swept_all, IsReaped}

pub reaped_by : (exact : Bool) (s s1 s2 : OwnerAt) (slots0 slots1 slots2 : ℕ → List (Slot Message)) (holds0 holds1 : ℕ → List ℕ) (names : List (List ℕ)) (steps0 steps1 steps2 : List Step) (more : List Event) (answers : List PollAnswer)
    → steps0 ≡ [] → names ≡ names_of s → s1.desk.me ≡ s.desk.me
    → state s1 (slots1 s.desk.me) steps1 ≡ fold swept (state s (slots0 s.desk.me) steps0) names
    → (exact ≡ true → holds1 ≡ holds0)
    → IsPolled exact (holds1 s1.desk.me) answers (slots1 s1.desk.me) s1 more (slots2 s1.desk.me) s2
    → steps2 ≡ steps1 ++ step more [] ∷ []
    → IsReaped exact (holds0 s.desk.me) answers (slots0 s.desk.me) s steps2 (slots2 s.desk.me) s2
reaped_by exact s s1 s2 slots0 slots1 slots2 holds0 holds1 names steps0 steps1 steps2 more answers empty all me sweep still polled end =
    let p = subst (λ (m : ℕ). IsPolled exact (holds1 m) answers (slots1 m) s1 more (slots2 m) s2) me polled in
    let w : state s1 (slots1 s.desk.me) steps1 ≡ swept_all (slots0 s.desk.me) s = sweep ∙ (ap (λ (x : List Step). fold swept (state s (slots0 s.desk.me) x) names) empty ∙ ap (fold swept (state s (slots0 s.desk.me) [])) all) in
    record {
      polls = subst (λ (x : Swept). PollsOf exact (holds0 s.desk.me) x.owner.desk.retired answers) w (record { each = p.polls.each; told = λ x. subst (λ (f : ℕ → List ℕ). answers ≡ map (told_answer (f s.desk.me)) s1.desk.retired) (still x) (p.polls.told x) });
      fit = subst (λ (x : Swept). AnswersFit x.row answers) w p.fit;
      happened = end ∙ (ap (λ (x : List Step). x ++ step more [] ∷ []) (ap (λ (x : Swept). x.steps) w) ∙ ap (λ (x : List Event). (swept_all (slots0 s.desk.me) s).steps ++ step x [] ∷ []) (p.happened ∙ ap (λ (k : ℕ). freed_events k answers) me));
      owner = p.owner ∙ ap (λ (x : Swept). polled_after answers x.owner) w;
      slots = p.slots ∙ ap (λ (x : Swept). polled_row answers x.row) w;
    }
