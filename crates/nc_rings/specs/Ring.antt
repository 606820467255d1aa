-- Rings by their numbers.
use Rattle.std.specs.Prelude.{ℕ, List, [], ◌∷◌, Option, None, Some, slice_index_or}
use Rattle.nc_alert.specs.declared.packet.Packet.{Packet}

module _ {H : Type 0} where
  -- the first packet, if there is one
  abbrev pub first_packet : List (Packet H) → Option (Packet H)
  first_packet [] = None
  first_packet (p ∷ packets) = Some p

  -- the ring to a receiver, which is empty where none was made
  abbrev pub ring_in : List (List (Packet H)) → ℕ → List (Packet H)
  ring_in rings w = slice_index_or rings w []

  -- the rings of a sender
  abbrev pub row_of : List (List (List (Packet H))) → ℕ → List (List (Packet H))
  row_of rows v = slice_index_or rows v []

  -- the packets from one worker to another
  abbrev pub ring_of : List (List (List (Packet H))) → ℕ → ℕ → List (Packet H)
  ring_of rows v w = ring_in (row_of rows v) w
