-- What is carried promises what a user relies on.
use Rattle.std.proofs.Common.{List, [], ◌∷◌, subst}
use Rattle.nc_journal.specs.History.{Along}
use Rattle.nc_journal.specs.Sending.{IsSentLawfully, IsStartedLawfully}
use Rattle.nc_journal.specs.declared.event.Event.{Event}
use Rattle.nc_sends.specs.Fences.{FencedAt}
use Rattle.nc_sends.specs.GoodSends.{IsGoodSend}
use Rattle.nc_sends.specs.Stays.{SentThen}
use Rattle.nc_sends.specs.Taken.{TakenAt}
use Rattle.nc_sends.proofs.Later.{fences_stay, sends_stay}
use Rattle.nc_starts.proofs.Starts.{starts_stay}
use Rattle.nc_exact.specs.Carried.{CarriedPromises}
use Rattle.nc_exact.specs.Exact.{SendsLawfully}
use Rattle.nc_exact.proofs.Exacts.{resumes_exactly}
use Rattle.nc_exact.proofs.Rises.{sent_rises}

along_weaker : (P Q : List Event → Event → Type 0) → ((h : List Event) (e : Event) → P h e → Q h e) → (h : List Event) → Along P h → Along Q h
along_weaker P Q f [] a = tt
along_weaker P Q f (e ∷ h) a = (along_weaker P Q f h a.0, f h e a.1)

pub carried_promises : CarriedPromises
carried_promises workers h k =
    let fenced : Along (FencedAt workers) h = along_weaker (IsGoodSend workers) (FencedAt workers) (λ g e x. x.fenced) h k.sent in
    let sent : IsSentLawfully workers h = sends_stay workers h k.owners.stamped (along_weaker (IsGoodSend workers) (SentThen workers) (λ g e x. x.sent) h k.sent) fenced in
    let started : IsStartedLawfully workers h = starts_stay workers h k.owners.stamped k.owners.looks k.started in
    let all : SendsLawfully workers h = record { sent = sent; started = started; standing = k.standing } in
    record {
      sent = sent;
      started = started;
      fenced = fences_stay workers h fenced;
      taken = along_weaker (IsGoodSend workers) (TakenAt workers) (λ g e x. x.taken) h k.sent;
      rises = sent_rises workers h all;
      exact = λ newer older is. resumes_exactly workers newer older (subst (SendsLawfully workers) is all);
    }
