-- What rings ask of the packets that are carried.
use Rattle.std.proofs.Common.{◌≡◌, ◌<◌, ℕ, List, refl, sym, ap, subst, Some, None}
use Rattle.nc_alert.specs.Packet.{grant_of}
use Rattle.nc_alert.specs.declared.packet.Packet.{Packet}
use Rattle.nc_ring.specs.Packets.{Goes, IsAfter}
use Rattle.nc_ring.specs.declared.view.Route.{Route}
use Rattle.nc_ring.proofs.Steps.{plain_after}
use Rattle.nc_threads_rows.specs.Packets.{plain_packet}

module _ {H : Type 0} where
  pub plain_goes : (route way : Route) (number : ℕ) (packet : Packet H) → route ≡ way → route.from < route.workers → packet ≡ plain_packet {H = H} route number → Goes {H = H} way packet
  plain_goes route way number packet same sender is =
      let own : Goes {H = H} route (plain_packet {H = H} route number) = record { from = refl; to = refl; keeps = record { sender = sender; keeps = tt } } in
      subst (λ (p : Packet H). Goes {H = H} way p) (sym is) (subst (λ (r : Route). Goes {H = H} r (plain_packet {H = H} route number)) same own)

  pub plain_rises : (sent : List (Packet H)) (route : Route) (number : ℕ) (packet : Packet H) → packet ≡ plain_packet {H = H} route number → IsAfter sent packet
  plain_rises sent route number packet is = plain_after sent packet (ap (λ (p : Packet H). grant_of p.alert) is)
