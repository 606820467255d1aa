-- What holds of each owner of a reached world, and of its local history.
use Rattle.std.specs.Prelude.{ℕ, List}
use Rattle.nc_journal.specs.History.{own, Along}
use Rattle.nc_journal.specs.Leaving.{IsLeavingRule}
use Rattle.nc_journal.specs.declared.event.Event.{Event}
use Rattle.nc_owner_laws.specs.AnsweredOnce.{AnswersNew}
use Rattle.nc_owner_laws.specs.Counted.{SlotsCount}
use Rattle.nc_owner_laws.specs.SlotRule.{OwnersSlots}
use Rattle.nc_owner_laws.specs.Stages.{AreStaged}
use Rattle.nc_worker_state.specs.Setup.{Setup}
use Rattle.nc_world.specs.World.{World}
use Rattle.nc_world.specs.Reached.{Reached, IsSetup}
use Rattle.nc_world_owners.specs.ByOwner.{AreByChannelOwners, AreAskedFrom}
use Rattle.nc_world_owners.specs.Grants.{AreFewGrants}

-- so of each worker of each reached world
abbrev pub OfEach : (Setup → ℕ → List Event → World → Type 0) → Type 0
OfEach P = (setup : Setup) (h : List Event) (world : World) → IsSetup setup → Reached setup h world → (v : ℕ) → P setup v h world

-- each slot has the stage that the history tells
abbrev pub SlotsAreStaged : Type 0
SlotsAreStaged = OfEach (λ setup v h world. AreStaged (world.rows v) (own v h))

-- a message takes the lowest unused slot, and a slot is freed that is retired
abbrev pub SlotsAreTaken : Type 0
SlotsAreTaken = OfEach (λ setup v h world. Along (OwnersSlots setup.slots) (own v h))

-- a buffered slot counts the grants since its message was stored
abbrev pub SlotsAreCounted : Type 0
SlotsAreCounted = OfEach (λ setup v h world. SlotsCount (world.rows v) (own v h))

-- no message is granted more often than one may be
abbrev pub GrantsAreFew : Type 0
GrantsAreFew = OfEach (λ setup v h world. AreFewGrants (own v h))

-- each look is answered once
abbrev pub AnswersAreNew : Type 0
AnswersAreNew = OfEach (λ setup v h world. Along AnswersNew (own v h))

-- an owner's events are on channels that it owns, and asked for by workers that are there
abbrev pub ChannelsAreOwned : Type 0
ChannelsAreOwned = OfEach (λ setup v h world. AreByChannelOwners setup.workers (own v h))

abbrev pub AsksAreFromWorkers : Type 0
AsksAreFromWorkers = OfEach (λ setup v h world. AreAskedFrom setup.workers (own v h))

-- what leaves a buffer leaves by the rule
abbrev pub MessagesLeaveByRule : Type 0
MessagesLeaveByRule = OfEach (λ setup v h world. IsLeavingRule setup.workers (own v h))
