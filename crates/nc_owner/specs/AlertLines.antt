-- What the journal tells of an alert: all but its hold.
use Rattle.std.specs.Prelude.{ℕ, Option, None, Some, List, map}
use Rattle.nc_journal.specs.declared.alert.AlertLine.{AlertLine}
use Rattle.nc_journal.specs.declared.alert.AlertLine.TheVariants as lines
use Rattle.nc_alert.specs.declared.alert.Grant.{Grant}
use Rattle.nc_alert.specs.declared.alert.Alert.{Alert}
use Rattle.nc_alert.specs.declared.alert.Alert.TheVariants as alerts
use Rattle.nc_alert.specs.declared.packet.Outgoing.{Outgoing}

-- an alert as the journal tells it, with its receiver
pub record OutLine : Type 0 where
  pub to : ℕ
  pub line : AlertLine

module _ {H : Type 0} where
  abbrev pub answer_line : ℕ → ℕ → ℕ → Option (Grant H) → AlertLine
  answer_line number q floor None = lines.LookAnswer number q floor None None None
  answer_line number q floor (Some found) = lines.LookAnswer number q floor (Some found.id) (Some found.g) (Some found.slot)

  abbrev pub alert_line : Alert H → AlertLine
  alert_line (alerts.Publish r c len timeout ct body) = lines.Publish r c len timeout ct body
  alert_line (alerts.PubAnswer r status info full) = lines.PubAnswer r status info full
  alert_line (alerts.Look number c after fence) = lines.Look number c after fence
  alert_line (alerts.LookAnswer number q floor found) = answer_line number q floor found
  alert_line (alerts.Notice c found) = lines.Notice c found.id found.g found.slot
  alert_line (alerts.Edge number k c fence) = lines.Edge number k c fence
  alert_line (alerts.EdgeAnswer number q floor last) = lines.EdgeAnswer number q floor last
  alert_line (alerts.Join c k) = lines.Join c k
  alert_line (alerts.Part c k) = lines.Part c k
  alert_line (alerts.Delete r c) = lines.Delete r c
  alert_line (alerts.DelAnswer r status info) = lines.DelAnswer r status info
  alert_line (alerts.Gone c subs) = lines.Gone c subs
  alert_line (alerts.Info r c) = lines.Info r c
  alert_line (alerts.InfoAnswer r status info) = lines.InfoAnswer r status info

  abbrev pub out_line : Outgoing H → OutLine
  out_line o = record { to = o.to; line = alert_line o.alert }

  -- some alerts as the journal tells them
  abbrev pub out_lines : List (Outgoing H) → List OutLine
  out_lines os = map out_line os
