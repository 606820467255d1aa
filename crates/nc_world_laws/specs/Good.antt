-- What holds of each world that moves lead to, with its history.
use Rattle.std.specs.Prelude.{◌≡◌, ℕ, ◌+◌, List}
use Rattle.std.specs.List.{AllByRecursion}
use Rattle.nc_types.specs.Channel.{owner_of}
use Rattle.nc_types.specs.Message.{IsContentType}
use Rattle.nc_journal.specs.History.{own}
use Rattle.nc_journal.specs.declared.event.Event.{Event}
use Rattle.nc_journal.specs.declared.alert.AlertLine.{AlertLine}
use Rattle.nc_journal.specs.declared.alert.AlertLine.TheVariants as lines
use Rattle.nc_alert.specs.Packet.{IsTimeout, IsPublishStatus, IsChannelStatus}
use Rattle.nc_owner_laws.specs.HoldsKept.{HoldsFit}
use Rattle.nc_owner_laws.specs.OwnChannels.{OwnsChannels}
use Rattle.nc_owner_laws.specs.Reaping.{Keeps}
use Rattle.nc_history.specs.Packets.{Packet, pending, made_count, IsPosted}
use Rattle.nc_worker_state.specs.Setup.{Setup}
use Rattle.nc_world.specs.World.{World, waiting_packets}

-- what an alert of one worker to another keeps: what is asked of an owner goes to the channel's owner, an answer has a status of its kind,
-- and that a channel is gone its owner tells
abbrev pub IsLineTo : (workers from to : ℕ) → AlertLine → Type 0
IsLineTo workers from to (lines.Publish r c len timeout ct body) = (owner_of workers c ≡ to) × IsTimeout timeout × IsContentType ct
IsLineTo workers from to (lines.PubAnswer r status info full) = IsPublishStatus status
IsLineTo workers from to (lines.Look number c after fence) = owner_of workers c ≡ to
IsLineTo workers from to (lines.Edge number k c fence) = owner_of workers c ≡ to
IsLineTo workers from to (lines.Join c k) = owner_of workers c ≡ to
IsLineTo workers from to (lines.Part c k) = owner_of workers c ≡ to
IsLineTo workers from to (lines.Delete r c) = owner_of workers c ≡ to
IsLineTo workers from to (lines.DelAnswer r status info) = IsChannelStatus status
IsLineTo workers from to (lines.Gone c subs) = owner_of workers c ≡ from
IsLineTo workers from to (lines.Info r c) = owner_of workers c ≡ to
IsLineTo workers from to (lines.InfoAnswer r status info) = IsChannelStatus status
IsLineTo workers from to line = Unit {0}

abbrev pub AreLinesTo : (workers from to : ℕ) → List Packet → Type 0
AreLinesTo workers from to ps = AllByRecursion (λ p. IsLineTo workers from to p.line) ps

-- the numbers of a worker's next packets are behind those that it made
abbrev pub NumbersFollow : ℕ → ℕ → (ℕ → ℕ) → List Event → Type 0
NumbersFollow first w next h = (to : ℕ) → next to ≡ first + made_count w to h

-- what was made and isn't taken is in the ring, and behind it in the outbox; packets are numbered and taken in turn; each keeps what its receiver
-- counts on; each owner stands for its local history, in which all is in order, and keeps channels of its own; no slot has more holds than it can have;
-- and the spools know how many workers there are
pub record Good (setup : Setup) (h : List Event) (world : World) : Type 0 where
  pub queues : (v w : ℕ) → pending v w h ≡ waiting_packets world v w
  pub posted : IsPosted setup.first h
  pub follow : (v : ℕ) → NumbersFollow setup.first v (world.workers v).next h
  pub lines : (v w : ℕ) → AreLinesTo setup.workers v w (pending v w h)
  pub keeps : (v : ℕ) → Keeps v setup.workers setup.slots setup.first (world.rows v) (own v h) (world.workers v).owner
  pub owns : (v : ℕ) → OwnsChannels setup.workers v (world.workers v).owner
  pub holds : (v : ℕ) → HoldsFit (world.rows v) (world.counts v)
  pub knows : (v : ℕ) → (world.workers v).desk.spools.workers ≡ setup.workers
