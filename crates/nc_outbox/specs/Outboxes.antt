-- The packets to all workers.
use Rattle.std.specs.Prelude.{◌≡◌, ℕ, List, [], map, IfSome, slice_index_or}
use Rattle.std.specs.List.{AllByRecursion}
use Rattle.nc_alert.specs.declared.alert.Grant.{Grant}
use Rattle.nc_alert.specs.declared.packet.Packet.{Packet}
use Rattle.nc_alert.specs.Packet.{grant_of}
use Rattle.nc_slots.specs.Slots.{HoldAt}
use Rattle.nc_history.specs.Packets.{Packet as Told}
use Rattle.nc_worker_state.specs.Incoming.{told_packet}
use Rattle.nc_outbox.specs.Box.{BoxAt, new_box}

-- the number with which each box begins, and the boxes that were made
pub record OutboxesAt (H : Type 0) : Type 0 where
  pub first : ℕ
  pub boxes : List (BoxAt H)

module _ {H : Type 0} where
  -- no box was made yet
  abbrev pub new_outboxes : ℕ → OutboxesAt H
  new_outboxes first = record { first = first; boxes = [] }

  -- the box of a receiver, which is new where none was made
  abbrev pub box_of : ℕ → List (BoxAt H) → ℕ → BoxAt H
  box_of first boxes to = slice_index_or boxes to (new_box first)

  -- the number of the next packet to each receiver
  abbrev pub next_in : (ℕ → BoxAt H) → ℕ → ℕ
  next_in boxes to = (boxes to).next

  abbrev pub next_of : OutboxesAt H → ℕ → ℕ
  next_of s = next_in (box_of s.first s.boxes)

  -- the packets to each receiver
  abbrev pub packets_in : (ℕ → BoxAt H) → ℕ → List (Packet H)
  packets_in boxes to = (boxes to).packets

  abbrev pub packets_of : OutboxesAt H → ℕ → List (Packet H)
  packets_of s = packets_in (box_of s.first s.boxes)

  -- the same without their holds
  abbrev pub outbox_of : OutboxesAt H → ℕ → List Told
  outbox_of s to = map told_packet (packets_of s to)

-- whose packets they are, and what a hold is of
module _ {H : Type 0} (held : H → HoldAt) (me : ℕ) where
  -- a grant's hold is of the worker's slot that the grant names
  pub record IsGranted (grant : Grant H) : Type 0 where
    pub owner : (held grant.hold).owner ≡ me
    pub place : (held grant.hold).slot ≡ grant.slot

  -- a packet is from the worker to a receiver, and carries no other hold
  pub record IsOwn (to : ℕ) (packet : Packet H) : Type 0 where
    pub sender : packet.from ≡ me
    pub receiver : packet.to ≡ to
    pub granted : IfSome (grant_of packet.alert) IsGranted

  -- each packet that waits is so
  abbrev pub AreOwn : OutboxesAt H → Type 0
  AreOwn s = (to : ℕ) → AllByRecursion (IsOwn to) (packets_of s to)
