-- The requests of workers in reached worlds.
use Rattle.std.specs.Prelude.{◌≡◌, ℕ, ◌+◌, List}
use Rattle.nc_journal.specs.History.{Along}
use Rattle.nc_journal.specs.declared.event.Event.{Event}
use Rattle.nc_worker_state.specs.Setup.{Setup}
use Rattle.nc_world.specs.World.{World}
use Rattle.nc_world.specs.Reached.{Reached, IsSetup}
use Rattle.nc_world_owners.specs.WholeLaws.{OfHistories}
use Rattle.nc_world_requests.specs.Requests.{IsWaitedFor, asking_pending, answering_pending, occurs, DrawnAt, AnsweredAt, RestedAt}

-- each request is pending to an owner, or its answer is pending, or it was answered, and one of the three
abbrev pub RequestsAreWaitedFor : Type 0
RequestsAreWaitedFor = OfHistories (λ setup h. (w r : ℕ) → IsWaitedFor setup.workers w r h)

-- a worker waits for exactly those that are pending, or whose answer is
abbrev pub WorkersWait : Type 0
WorkersWait = (setup : Setup) (h : List Event) (world : World) → IsSetup setup → Reached setup h world → (w r : ℕ)
    → occurs r (world.workers w).desk.waiting ≡ asking_pending setup.workers w r h + answering_pending setup.workers w r h

-- a worker's requests have the numbers from the first one on
abbrev pub NumbersAreDrawn : Type 0
NumbersAreDrawn = OfHistories (λ setup h. Along (DrawnAt setup.first) h)

-- each answer stands directly behind the taking of the alert that brings it
abbrev pub AnswersAreTaken : Type 0
AnswersAreTaken = OfHistories (λ setup h. Along AnsweredAt h)

-- at quiet each request was answered, once
abbrev pub QuietIsAnswered : Type 0
QuietIsAnswered = OfHistories (λ setup h. Along RestedAt h)
