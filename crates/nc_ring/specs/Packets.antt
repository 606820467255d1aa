-- What a ring asks of its packets.
use Rattle.std.specs.Prelude.{◌≡◌, ◌<◌, Option, Some, List, [], ◌∷◌, All}
use Rattle.nc_alert.specs.Packet.{IsPacket, grant_of}
use Rattle.nc_alert.specs.declared.alert.Grant.{Grant}
use Rattle.nc_alert.specs.declared.packet.Packet.{Packet}
use Rattle.nc_ring.specs.declared.view.Route.{Route}

module _ {H : Type 0} where
  -- a packet that goes the ring's way, and is as its receiver may count on
  pub record Goes (route : Route) (packet : Packet H) : Type 0 where
    pub from : packet.from ≡ route.from
    pub to : packet.to ≡ route.to
    pub keeps : IsPacket route.workers packet

  -- where there are two grants, the first one's number is the lower
  abbrev pub AreRising : Option (Grant H) → Option (Grant H) → Type 0
  AreRising (Some first) (Some second) = first.g < second.g
  AreRising first second = Unit {0}

  -- where both packets carry a hold, the number of the first one's grant is the lower
  abbrev pub Precedes : Packet H → Packet H → Type 0
  Precedes first second = AreRising (grant_of first.alert) (grant_of second.alert)

  -- a packet that all of these precede
  abbrev pub IsAfter : List (Packet H) → Packet H → Type 0
  IsAfter before packet = All (λ p. Precedes p packet) before

  -- the grant numbers of these packets rise
  abbrev pub Rises : List (Packet H) → Type 0
  Rises [] = Unit {0}
  Rises (packet ∷ packets) = All (Precedes packet) packets × Rises packets
