-- The packets that are carried.
use Rattle.std.specs.Prelude.{ℕ}
use Rattle.nc_types.specs.Id.{no_id}
use Rattle.nc_alert.specs.declared.alert.Alert.TheVariants.{EdgeAnswer}
use Rattle.nc_alert.specs.declared.packet.Packet.{Packet}
use Rattle.nc_ring.specs.declared.view.Route.{Route}

-- a packet of a number that carries no hold
abbrev pub plain_packet : {H : Type 0} → Route → ℕ → Packet H
plain_packet route number = record { from = route.from; to = route.to; number = number; alert = EdgeAnswer 0 0 0 no_id }
