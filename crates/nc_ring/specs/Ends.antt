-- The ends of a ring as contracts see them.
use Rattle.std.specs.Prelude.{◌≡◌, ℕ, ◌+◌, min, true, Option, List, [], ◌∷◌, ◌++◌}
use Rattle.crossbeam_queue.specs.Passes.{Pass, view, IsPassOf, ruled_capacity}
use Rattle.crossbeam_queue.specs.declared.array_queue.Doing.{Doing}
use Rattle.crossbeam_queue.specs.declared.array_queue.Slotted.{Slotted}
use Rattle.nc_alert.specs.declared.packet.Packet.{Packet}
use Rattle.nc_ring.specs.declared.view.Log.{Log}
use Rattle.nc_ring.specs.declared.view.Route.{Route}

-- the way, what was pushed, and how often the ring was full
pub record TxAt (H : Type 0) : Type 0 where
  pub route : Route
  pub sent : List (Packet H)
  pub full : ℕ

-- the way, what was taken, and how often there was nothing
pub record RxAt (H : Type 0) : Type 0 where
  pub route : Route
  pub got : List (Packet H)
  pub nones : ℕ

-- one higher, up to the last number of 64 bits
abbrev counted : ℕ → ℕ
counted n = min (n + 1) 18446744073709551615

module _ {H : Type 0} where
  -- the ends of a new ring
  abbrev pub new_tx : Route → TxAt H
  new_tx route = record { route = route; sent = []; full = 0 }

  abbrev pub new_rx : Route → RxAt H
  new_rx route = record { route = route; got = []; nones = 0 }

  -- after a push, and after one that found the ring full
  abbrev pub pushed : TxAt H → Packet H → TxAt H
  pushed tx packet = record { route = tx.route; sent = tx.sent ++ packet ∷ []; full = tx.full }

  abbrev pub found_full : TxAt H → TxAt H
  found_full tx = record { route = tx.route; sent = tx.sent; full = counted tx.full }

  -- after a take, and after one that found nothing
  abbrev pub took : RxAt H → Packet H → RxAt H
  took rx packet = record { route = rx.route; got = rx.got ++ packet ∷ []; nones = rx.nones }

  abbrev pub found_none : RxAt H → RxAt H
  found_none rx = record { route = rx.route; got = rx.got; nones = counted rx.nones }

module _ {H Q A : Type 0} where
  -- a pass that pushes into this queue of 256 packets, on this way
  pub record IsTx (line : Slotted (Option (Packet H)) (Doing (Packet H) (Log H)) Q A) (pass : Pass (Packet H) (Log H)) (route : Route) : Type 0 where
    pub own : IsPassOf line pass
    pub room : ruled_capacity line ≡ 256
    pub pushes : (view pass).pushes ≡ true
    pub way : (view pass).route ≡ route

  -- a pass that takes from it
  pub record IsRx (line : Slotted (Option (Packet H)) (Doing (Packet H) (Log H)) Q A) (pass : Pass (Packet H) (Log H)) (route : Route) : Type 0 where
    pub own : IsPassOf line pass
    pub room : ruled_capacity line ≡ 256
    pub takes : (view pass).takes ≡ true
    pub way : (view pass).route ≡ route
