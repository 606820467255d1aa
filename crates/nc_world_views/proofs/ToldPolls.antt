-- Answers of polls that agree with the told numbers are the told answers.
use Rattle.std.proofs.Common.{◌≡◌, ℕ, true, List, Option, refl, ap, ◌∙◌}
use Rattle.nc_journal.specs.declared.event.Event.{Event}
use Rattle.nc_journal.specs.declared.alert.AlertLine.{AlertLine}
use Rattle.nc_journal.specs.declared.alert.AlertLine.TheVariants as lines
use Rattle.nc_owner.specs.Publish.{Polls, PublishPolls}
use Rattle.nc_owner_laws.specs.HoldsKept.{told_polls}
use Rattle.nc_worker_state.specs.Setup.{Setup}
use Rattle.nc_worker_state.specs.Incoming.{Incoming, TakesPacket, ClockReads, Reaps, Posts, Subscribes, Removes, Informs}
use Rattle.nc_worker_state.specs.Desk.{opening, served}
use Rattle.nc_worker_state.specs.Owned.{Holding, OwnersPart, at_once, StepPolls, StepPollsFit, AskedPolls, owned_by, reaped_by, owned_in, line_polls, owned, order_of, published_by}
use Rattle.nc_worker_state.specs.Worker.{Seat, IsHandled, holding, dealt_events, dealt_worker, dealt_counts}
use Rattle.nc_world.specs.World.{World, seat, with_seat}
use Rattle.nc_world_views.specs.Laws.{IsStepIn, ToldIsHandled}

polls_are_told : (from r : ℕ) (c : List ℕ) (len timeout : ℕ) (ct : Option (List ℕ)) (body : List ℕ) (s : Holding) (polls : Polls) → PublishPolls true s.counts (order_of r c len timeout ct body) s.row s.owner polls
    → polls ≡ told_polls s.counts (order_of r c len timeout ct body) s.row s.owner
polls_are_told from r c len timeout ct body s polls p = λ i. record {
  retired = p.first.told refl i;
  leaving = p.others.before.told refl i;
  left = p.others.after_leaving.told refl i;
}

line_told : (from : ℕ) (line : AlertLine) (s : Holding) (polls : Polls) → AskedPolls true line s polls → owned_by polls from line s ≡ owned_by (line_polls line s) from line s
line_told from (lines.Publish r c len timeout ct body) s polls p = ap (λ (x : Polls). published_by from (order_of r c len timeout ct body) x s) (polls_are_told from r c len timeout ct body s polls p)
line_told from (lines.PubAnswer r status info full) s polls p = refl
line_told from (lines.Look number c after fence) s polls p = refl
line_told from (lines.LookAnswer number q floor found g slot) s polls p = refl
line_told from (lines.Notice c id g slot) s polls p = refl
line_told from (lines.Edge number k c fence) s polls p = refl
line_told from (lines.EdgeAnswer number q floor last) s polls p = refl
line_told from (lines.Join c k) s polls p = refl
line_told from (lines.Part c k) s polls p = refl
line_told from (lines.Delete r c) s polls p = refl
line_told from (lines.DelAnswer r status info) s polls p = refl
line_told from (lines.Gone c subs) s polls p = refl
line_told from (lines.Info r c) s polls p = refl
line_told from (lines.InfoAnswer r status info) s polls p = refl

-- the owner's part of a step is that by the told answers
part_told : (incoming : Incoming) (s : Holding) (polls : StepPolls) → StepPollsFit true incoming s polls → owned_in polls incoming s ≡ owned incoming s
part_told (TakesPacket from p) s polls f = ap at_once (line_told from p.line s polls.publish f)
part_told (ClockReads t) s polls f = refl
part_told Reaps s polls f = ap (λ answers. reaped_by answers s) (f.each.told refl)
part_told (Posts c body) s polls f = refl
part_told (Subscribes k list start) s polls f = refl
part_told (Removes c) s polls f = refl
part_told (Informs c) s polls f = refl

module _ (setup : Setup) (w : ℕ) (incoming : Incoming) (world : World) where
  abbrev before : List Event
  before = opening setup w incoming (world.workers w).desk

  abbrev events_by : OwnersPart → List Event
  events_by p = dealt_events w (world.workers w).next before p (served setup w incoming (world.workers w).desk)

  abbrev seat_by : OwnersPart → Seat
  seat_by p = record {
    worker = dealt_worker (events_by p) p (served setup w incoming (world.workers w).desk) (world.workers w);
    row = p.last.after.row;
    counts = dealt_counts w (events_by p) p world.counts;
  }

  as_told : (events : List Event) (new : Seat) → (f : IsHandled true setup w incoming (seat w world) events new) → IsStepIn setup w incoming world events new
  as_told events new f =
      let told : owned_in f.polls incoming (holding w (seat w world)) ≡ owned incoming (holding w (seat w world)) = part_told incoming (holding w (seat w world)) f.polls f.fit in
      record {
        happened = f.happened ∙ ap events_by told;
        leaves = (λ i. with_seat w (record { worker = f.worker i; row = f.slots i; counts = f.holds refl i }) world) ∙ ap (λ (p : OwnersPart). with_seat w (seat_by p) world) told;
      }

pub told_is_handled : ToldIsHandled
told_is_handled setup w incoming world events new f = as_told setup w incoming world events new f
