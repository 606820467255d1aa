-- The slots that a reap frees have no holds.
use Rattle.std.proofs.Common.{◌≡◌, ℕ, Bool, true, List, [], ◌∷◌, sym, subst, ap, ◌∙◌}
use Rattle.std.specs.Prelude.{fold}
use Rattle.nc_types.specs.Message.{Message}
use Rattle.nc_journal.specs.declared.event.Event.{Event}
use Rattle.nc_slots.specs.declared.slot.Slot.{Slot}
use Rattle.nc_owner.specs.declared.poll.PollAnswer.{PollAnswer}
use Rattle.nc_owner.specs.State.{OwnerAt}
use Rattle.nc_owner.specs.Poll.{PollsOf, freed_events}
use Rattle.nc_owner.specs.OtherSteps.{names_of}
use Rattle.nc_owner.specs.Remove.{sweep_events}
use Rattle.nc_owner.specs.Rules.{IsUnheld, FreesUnheld}
use Rattle.nc_owner.proofs.Freeing.{all_append, polls_free}
use Rattle.nc_owner.proofs.Removals.{sweep_frees}
use Rattle.nc_reaper.specs.Reap.{Step, Swept, state, events_of, sweep_step, swept, swept_all, polled_step, IsReaped}
use Rattle.nc_reaper.proofs.Steps.{events_push}

sweeps_free : (counts : List ℕ) (names : List (List ℕ)) (x : Swept) → FreesUnheld counts (events_of x.steps) → FreesUnheld counts (events_of (fold swept x names).steps)
sweeps_free counts [] x none = none
sweeps_free counts (c ∷ names) x none = sweeps_free counts names (swept x c)
    (subst (λ (es : List Event). FreesUnheld counts es) (sym (events_push x.steps (sweep_step c x.row x.owner)))
    (all_append (IsUnheld counts) (events_of x.steps) (sweep_events c x.row x.owner) none (sweep_frees counts c x.row x.owner)))

-- what a reap frees
pub reap_frees : (exact : Bool) (counts : List ℕ) (answers : List PollAnswer) (row : List (Slot Message)) (s : OwnerAt) (steps : List Step) (new_row : List (Slot Message)) (new : OwnerAt)
    → IsReaped exact counts answers row s steps new_row new → exact ≡ true → FreesUnheld counts (events_of steps)
reap_frees exact counts answers row s steps new_row new r told =
    let x = swept_all row s in
    let slots = x.owner.desk.retired in
    subst (λ (es : List Event). FreesUnheld counts es) (sym (ap events_of r.happened ∙ events_push x.steps (polled_step s.desk.me answers)))
    (all_append (IsUnheld counts) (events_of x.steps) (freed_events s.desk.me answers)
    (sweeps_free counts (names_of s) (state s row []) tt)
    (polls_free counts s.desk.me slots answers (subst (λ (e : Bool). PollsOf e counts slots answers) told r.polls)))
