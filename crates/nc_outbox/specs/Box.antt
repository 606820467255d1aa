-- The packets to one worker.
use Rattle.std.specs.Prelude.{ℕ, ◌+◌, List, [], ◌∷◌, ◌++◌, Option, None, Some, drop}
use Rattle.nc_alert.specs.declared.packet.Outgoing.{Outgoing}
use Rattle.nc_alert.specs.declared.packet.Packet.{Packet}
use Rattle.nc_alert.specs.Packet.{packet_of}

-- the number of the next packet, and those that weren't carried yet, the oldest first
pub record BoxAt (H : Type 0) : Type 0 where
  pub next : ℕ
  pub packets : List (Packet H)

module _ {H : Type 0} where
  -- nothing was put into it
  abbrev pub new_box : ℕ → BoxAt H
  new_box first = record { next = first; packets = [] }

  -- the packet of an alert is put behind the others
  abbrev pub boxed : ℕ → Outgoing H → BoxAt H → BoxAt H
  boxed from outgoing b = record { next = b.next + 1; packets = b.packets ++ packet_of from b.next outgoing ∷ [] }

  -- the first packet, if there is one
  abbrev pub first_packet : List (Packet H) → Option (Packet H)
  first_packet [] = None
  first_packet (p ∷ packets) = Some p

  -- the first packet is taken
  abbrev pub unboxed : BoxAt H → BoxAt H
  unboxed b = record b { packets = drop 1 b.packets }
