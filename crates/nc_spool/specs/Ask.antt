-- What a spool asks of the owner of a channel, as an alert.
use Rattle.nc_alert.specs.declared.alert.Alert.{Alert}
use Rattle.nc_alert.specs.declared.alert.Alert.TheVariants as alerts
use Rattle.nc_alert.specs.declared.packet.Outgoing.{Outgoing}
use Rattle.nc_spool.specs.declared.ask.Ask.{Ask}
use Rattle.nc_spool.specs.declared.ask.Ask.TheVariants.{Look, Edge, Join, Part}
use Rattle.nc_spool.specs.declared.ask.Asking.{Asking}

module _ {H : Type 0} where
  -- the alert that asks it
  abbrev pub alert_of : Ask → Alert H
  alert_of (Look number c after fence) = alerts.Look number c after fence
  alert_of (Edge number k c fence) = alerts.Edge number k c fence
  alert_of (Join c k) = alerts.Join c k
  alert_of (Part c k) = alerts.Part c k

  -- the alert to the owner
  abbrev pub outgoing_of : Asking → Outgoing H
  outgoing_of asking = record { to = asking.to; alert = alert_of asking.ask }
