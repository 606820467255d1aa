-- A worker's step beside the counts of its own slots alone.
use Rattle.std.proofs.Common.{◌≡◌, ◌≢◌, ℕ, ◌<◌, true, false, cond, List, refl, sym, ap, ◌∙◌, subst, arith}
use Rattle.std.specs.Prelude.{◌==◌, nat_lt, replicate}
use Rattle.std.proofs.lemmas.Bool.Decides.{nat_tests}
use Rattle.nc_types.specs.Message.{Message}
use Rattle.nc_slots.specs.declared.slot.Slot.{Slot}
use Rattle.nc_journal.specs.declared.event.Event.{Event}
use Rattle.nc_worker_state.specs.Setup.{Setup}
use Rattle.nc_worker_state.specs.Incoming.{Incoming}
use Rattle.nc_worker_state.specs.Desk.{opening, served}
use Rattle.nc_worker_state.specs.Owned.{OwnersPart, StepPolls, StepPollsFit, owned_in}
use Rattle.nc_worker_state.specs.Worker.{WorkerAt, Seat, IsHandled, with_at, given_back, dealt_events, dealt_worker}
use Rattle.nc_world_views.specs.Seen.{seen_below}
use Rattle.nc_world_views.proofs.Seeing.{write_seen, given_back_shows}

pub below_is : (w n : ℕ) → w < n → nat_lt w n ≡ true
below_is w n lt = grind (arith, nat_tests)

pub is_self : (w : ℕ) → (w == w) ≡ true
is_self w = grind (arith, nat_tests)

pub is_other : (v w : ℕ) → v ≢ w → (v == w) ≡ false
is_other v w ne = grind (arith, nat_tests)

module _ (setup : Setup) (w : ℕ) (incoming : Incoming) (a : WorkerAt) (b : List (Slot Message)) where
  abbrev seat_with : (ℕ → List ℕ) → Seat
  seat_with counts = record { worker = a; row = b; counts = counts }

  abbrev part : StepPolls → List ℕ → OwnersPart
  part polls k = owned_in polls incoming (record { owner = a.owner; row = b; counts = k })

  abbrev tells : StepPolls → List ℕ → List Event
  tells polls k = dealt_events w a.next (opening setup w incoming a.desk) (part polls k) (served setup w incoming a.desk)

  module _ (n slots : ℕ) (old new : ℕ → List ℕ) (lt : w < n) (events : List Event) (a2 : WorkerAt) (b2 : List (Slot Message)) where
    abbrev none : ℕ → List ℕ
    none v = replicate slots 0

    same : old w ≡ seen_below n old none w
    same = sym (ap (λ c. cond c (old w) (none w)) (below_is w n lt))

    counts_of : (polls : StepPolls) → new ≡ given_back (with_at old w (part polls (old w)).last.after.counts) (tells polls (old w))
        → seen_below n new none ≡ given_back (with_at (seen_below n old none) w (part polls (seen_below n old none w)).last.after.counts) (tells polls (seen_below n old none w))
    counts_of polls e =
        let x : List ℕ = (part polls (old w)).last.after.counts in
        let others : (o : ℕ) → o ≢ w → with_at old w x o ≡ old o = λ o ne. ap (λ c. cond c x (old o)) (is_other o w ne) in
        let here : with_at old w x w ≡ x = ap (λ c. cond c x (old w)) (is_self w) in
        ap (λ (f : ℕ → List ℕ). seen_below n f none) e
        ∙ given_back_shows n slots (with_at old w x) (tells polls (old w))
        ∙ ap (λ (f : ℕ → List ℕ). given_back f (tells polls (old w))) (write_seen n old (with_at old w x) none w lt others ∙ ap (λ (l : List ℕ). with_at (seen_below n old none) w l) here)
        ∙ ap (λ k. given_back (with_at (seen_below n old none) w (part polls k).last.after.counts) (tells polls k)) same

    -- the step with all counts is that with those of the workers below a number
    pub shared : IsHandled true setup w incoming (seat_with old) events (record { worker = a2; row = b2; counts = new })
        → IsHandled true setup w incoming (seat_with (seen_below n old none)) events (record { worker = a2; row = b2; counts = seen_below n new none })
    shared f = record {
      polls = f.polls;
      fit = subst (λ k. StepPollsFit true incoming (record { owner = a.owner; row = b; counts = k }) f.polls) same f.fit;
      happened = f.happened ∙ ap (tells f.polls) same;
      worker = f.worker ∙ ap (λ k. dealt_worker (tells f.polls k) (part f.polls k) (served setup w incoming a.desk) a) same;
      slots = f.slots ∙ ap (λ k. (part f.polls k).last.after.row) same;
      holds = λ _. counts_of f.polls (f.holds refl);
    }
