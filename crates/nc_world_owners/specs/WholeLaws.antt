-- What holds of the whole history of a reached world.
use Rattle.std.specs.Prelude.{◌≡◌, ℕ, ◌++◌, List}
use Rattle.nc_types.specs.Channel.{owner_of}
use Rattle.nc_journal.specs.History.{own}
use Rattle.nc_journal.specs.Leaving.{IsLeavingRule}
use Rattle.nc_journal.specs.Message.{published, buffer}
use Rattle.nc_journal.specs.Stamp.{IsStamped}
use Rattle.nc_journal.specs.declared.event.Event.{Event}
use Rattle.nc_history.specs.Packets.{pending, lines_of, sent_lines, received, IsPosted}
use Rattle.nc_worker_state.specs.Setup.{Setup}
use Rattle.nc_world.specs.World.{World}
use Rattle.nc_world.specs.Reached.{Reached, IsSetup}
use Rattle.nc_world_owners.specs.ByOwner.{AreByChannelOwners, AreAskedFrom}

-- so of the history of each reached world
abbrev pub OfHistories : (Setup → List Event → Type 0) → Type 0
OfHistories P = (setup : Setup) (h : List Event) (world : World) → IsSetup setup → Reached setup h world → P setup h

-- the stamp rule
abbrev pub HistoriesAreStamped : Type 0
HistoriesAreStamped = OfHistories (λ setup h. IsStamped setup.workers h)

-- the leaving rule
abbrev pub HistoriesLeaveByRule : Type 0
HistoriesLeaveByRule = OfHistories (λ setup h. IsLeavingRule setup.workers h)

-- what is done on a channel is done by its owner, asked for by workers that are there
abbrev pub HistoriesAreOfOwners : Type 0
HistoriesAreOfOwners = OfHistories (λ setup h. AreByChannelOwners setup.workers h × AreAskedFrom setup.workers h)

-- the messages of a channel, and those that are buffered, are told by its owner's history alone
abbrev pub OwnersTellBuffers : Type 0
OwnersTellBuffers = OfHistories (λ setup h. (c : List ℕ) → (published c h ≡ published c (own (owner_of setup.workers c) h))
    × (buffer c h ≡ buffer c (own (owner_of setup.workers c) h)))

-- packets are numbered and taken in their order: what a worker took from another and what it hasn't taken yet are what that one made for it
abbrev pub HistoriesArePosted : Type 0
HistoriesArePosted = OfHistories (λ setup h. IsPosted setup.first h × ((v w : ℕ) → sent_lines v w h ≡ received v w h ++ lines_of (pending v w h)))
