-- The messages that are published, and whether one was stored.
use Rattle.std.specs.Prelude.{ℕ, Bool, false, nat_lt, [], ◌∷◌, None}
use Rattle.std.specs.Fmt.{decimal}
use Rattle.nc_alert.specs.declared.alert.Alert.{Alert}
use Rattle.nc_alert.specs.declared.alert.Alert.TheVariants.{PubAnswer}
use Rattle.nc_alert.specs.declared.packet.Outgoing.{Outgoing}
use Rattle.nc_owner.specs.declared.order.Order.{Order}

-- a message of one byte that never expires, on the channel of a number
abbrev pub order_of : ℕ → ℕ → ℕ → Order
order_of r channel len = record { r = r; chan = decimal channel; length = len; timeout = 0; content_type = None; body = 120 ∷ [] }

module _ {H : Type 0} where
  abbrev pub tells_stored : Alert H → Bool
  tells_stored (PubAnswer r status info full) = nat_lt status 300
  tells_stored _ = false

  -- an alert that answers that a message was stored
  abbrev pub is_stored : Outgoing H → Bool
  is_stored out = tells_stored out.alert
