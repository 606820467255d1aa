-- Packets, and what their receiver may count on.
use Rattle.std.specs.Prelude.{◌≡◌, ◌⊎◌, ℕ, ◌<◌, ◌≤◌, Option, None, Some}
use Rattle.nc_types.specs.Channel.{owner_of}
use Rattle.nc_types.specs.Id.{IsTime}
use Rattle.nc_types.specs.Message.{IsContentType}
use Rattle.nc_alert.specs.declared.alert.Alert.{Alert}
use Rattle.nc_alert.specs.declared.alert.Alert.TheVariants as alerts
use Rattle.nc_alert.specs.declared.alert.Grant.{Grant}
use Rattle.nc_alert.specs.declared.packet.Outgoing.{Outgoing}
use Rattle.nc_alert.specs.declared.packet.Packet.{Packet}

-- up to 1,000,000,000 seconds
abbrev pub IsTimeout : ℕ → Type 0
IsTimeout seconds = seconds ≤ 1000000000

-- the status of a publish: stored with and without members, no time left, no slot left
abbrev pub IsPublishStatus : ℕ → Type 0
IsPublishStatus status = (status ≡ 201) ⊎ (status ≡ 202) ⊎ (status ≡ 503) ⊎ (status ≡ 507)

-- the status of a question about a channel, or of its deletion: it is there, or it isn't
abbrev pub IsChannelStatus : ℕ → Type 0
IsChannelStatus status = (status ≡ 200) ⊎ (status ≡ 404)

module _ {H : Type 0} where
  -- the grant that an alert carries, if it carries one
  abbrev pub grant_of : Alert H → Option (Grant H)
  grant_of (alerts.LookAnswer number q floor found) = found
  grant_of (alerts.Notice c found) = Some found
  grant_of alert = None

  -- what an alert to a worker keeps, of so many workers: what is asked of an owner goes to the channel's owner,
  -- with a time that can be a message's as its fence, and an answer has a status of its kind
  abbrev pub IsAlertTo : ℕ → ℕ → Alert H → Type 0
  IsAlertTo workers to (alerts.Publish r c len timeout ct body) = (owner_of workers c ≡ to) × IsTimeout timeout × IsContentType ct
  IsAlertTo workers to (alerts.PubAnswer r status info full) = IsPublishStatus status
  IsAlertTo workers to (alerts.Look number c after fence) = (owner_of workers c ≡ to) × IsTime fence
  IsAlertTo workers to (alerts.Edge number k c fence) = (owner_of workers c ≡ to) × IsTime fence
  IsAlertTo workers to (alerts.Join c k) = owner_of workers c ≡ to
  IsAlertTo workers to (alerts.Part c k) = owner_of workers c ≡ to
  IsAlertTo workers to (alerts.Delete r c) = owner_of workers c ≡ to
  IsAlertTo workers to (alerts.DelAnswer r status info) = IsChannelStatus status
  IsAlertTo workers to (alerts.Info r c) = owner_of workers c ≡ to
  IsAlertTo workers to (alerts.InfoAnswer r status info) = IsChannelStatus status
  IsAlertTo workers to alert = Unit {0}

  -- what the receiver may count on in a packet, of so many workers
  pub record IsPacket (workers : ℕ) (packet : Packet H) : Type 0 where
    pub sender : packet.from < workers
    pub keeps : IsAlertTo workers packet.to packet.alert

  -- the packet of an alert, by its sender and number
  abbrev pub packet_of : ℕ → ℕ → Outgoing H → Packet H
  packet_of from number outgoing = record { from = from; to = outgoing.to; number = number; alert = outgoing.alert }
