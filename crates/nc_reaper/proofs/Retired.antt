-- The slots that a reap frees were retired, or left in it.
use Rattle.std.proofs.Common.{ℕ, Bool, List, [], ◌∷◌, sym, subst, ap, ◌∙◌, fold}
use Rattle.nc_types.specs.Message.{Message}
use Rattle.nc_slots.specs.declared.slot.Slot.{Slot}
use Rattle.nc_owner.specs.declared.poll.PollAnswer.{PollAnswer}
use Rattle.nc_owner.specs.State.{OwnerAt}
use Rattle.nc_owner.specs.Poll.{freed_events}
use Rattle.nc_owner.specs.OtherSteps.{names_of}
use Rattle.nc_owner.specs.Remove.{sweep_events}
use Rattle.nc_owner.specs.Rules.{FreesOnlyRetired}
use Rattle.nc_owner.proofs.Retiring.{retired_after, after_append, retired_append, IsWithin, polls_retired}
use Rattle.nc_owner.proofs.Removals.{sweep_retires, sweep_within}
use Rattle.nc_reaper.specs.Reap.{Step, Swept, state, events_of, sweep_step, swept, swept_all, polled_step, IsReaped}
use Rattle.nc_reaper.proofs.Steps.{events_push}

-- a reap that has come so far frees nothing yet, and what is retired now was retired at first, or left since
record Sweeping (r : List ℕ) (x : Swept) : Type 0 where
  frees : FreesOnlyRetired r (events_of x.steps)
  within : IsWithin x.owner.desk.retired (retired_after r (events_of x.steps))

sweep : (r : List ℕ) (x : Swept) (c : List ℕ) → Sweeping r x → Sweeping r (swept x c)
sweep r x c k =
    let before = events_of x.steps in
    let more = sweep_events c x.row x.owner in
    let all = sym (events_push x.steps (sweep_step c x.row x.owner)) in
    record {
      frees = subst (FreesOnlyRetired r) all (retired_append r before more k.frees (sweep_retires c x.row x.owner (retired_after r before)));
      within = subst (IsWithin (swept x c).owner.desk.retired) (sym (after_append r before more) ∙ ap (retired_after r) all) (sweep_within c x.row x.owner (retired_after r before) k.within);
    }

sweep_all : (r : List ℕ) (names : List (List ℕ)) (x : Swept) → Sweeping r x → Sweeping r (fold swept x names)
sweep_all r [] x k = k
sweep_all r (c ∷ names) x k = sweep_all r names (swept x c) (sweep r x c k)

-- what a reap frees
pub reap_retired : (exact : Bool) (counts : List ℕ) (answers : List PollAnswer) (row : List (Slot Message)) (s : OwnerAt) (steps : List Step) (new_row : List (Slot Message)) (new : OwnerAt)
    → IsReaped exact counts answers row s steps new_row new → FreesOnlyRetired s.desk.retired (events_of steps)
reap_retired exact counts answers row s steps new_row new reaped =
    let x = swept_all row s in
    let before = events_of x.steps in
    let k = sweep_all s.desk.retired (names_of s) (state s row []) (record { frees = tt; within = λ u h. h }) in
    subst (FreesOnlyRetired s.desk.retired) (sym (ap events_of reaped.happened ∙ events_push x.steps (polled_step s.desk.me answers)))
    (retired_append s.desk.retired before (freed_events s.desk.me answers) k.frees (polls_retired (retired_after s.desk.retired before) x.owner.desk.retired s.desk.me answers reaped.polls.each k.within))
