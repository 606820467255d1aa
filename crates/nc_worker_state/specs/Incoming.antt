-- What comes to a worker, as the journal tells it.
use Rattle.std.specs.Prelude.{ℕ, List}
use Rattle.nc_types.specs.declared.start.Start.{Start}
use Rattle.nc_alert.specs.declared.packet.Packet.{Packet as Carried}
use Rattle.nc_owner.specs.AlertLines.{alert_line}
use Rattle.nc_history.specs.Packets.{Packet, packet}
use Rattle.nc_worker_state.specs.declared.input.Input.{Input}
use Rattle.nc_worker_state.specs.declared.input.Input.TheVariants as inputs

-- a packet of a worker; what its clock reads; a reap; a direct post, subscriber, deletion or question for information
pub data Incoming : Type 0 where
  TakesPacket : ℕ → Packet → Incoming
  ClockReads : ℕ → Incoming
  Reaps : Incoming
  Posts : List ℕ → List ℕ → Incoming
  Subscribes : ℕ → List (List ℕ) → Start → Incoming
  Removes : List ℕ → Incoming
  Informs : List ℕ → Incoming

module _ {H : Type 0} where
  -- a packet without its hold
  abbrev pub told_packet : Carried H → Packet
  told_packet p = packet p.number (alert_line p.alert)

  abbrev pub incoming_of : Input H → Incoming
  incoming_of (inputs.Packet p) = TakesPacket p.from (told_packet p)
  incoming_of (inputs.Clock t) = ClockReads t
  incoming_of inputs.Reap = Reaps
  incoming_of (inputs.Post c body) = Posts c body
  incoming_of (inputs.Poll k list start) = Subscribes k list start
  incoming_of (inputs.Remove c) = Removes c
  incoming_of (inputs.Inform c) = Informs c
