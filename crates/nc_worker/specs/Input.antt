-- What a worker may count on in what comes to it.
use Rattle.std.specs.Prelude.{◌≡◌, ◌<◌, ℕ, IfSome}
use Rattle.nc_types.specs.Message.{IsContentType}
use Rattle.nc_alert.specs.declared.alert.Alert.{Alert}
use Rattle.nc_alert.specs.declared.alert.Alert.TheVariants as alerts
use Rattle.nc_alert.specs.Packet.{IsTimeout, grant_of}
use Rattle.nc_slots.specs.Slots.{HoldAt}
use Rattle.nc_owner.specs.Moment.{IsClock}
use Rattle.nc_spool.specs.Arrive.{FitsList}
use Rattle.nc_worker_state.specs.declared.input.Input.{Input}
use Rattle.nc_worker_state.specs.declared.input.Input.TheVariants as inputs
use Rattle.nc_outbox.specs.Outboxes.{IsGranted}

module _ {H : Type 0} where
  -- what an owner asks of an order: its time-out and its content type keep their limits
  abbrev pub CanHear : Alert H → Type 0
  CanHear (alerts.Publish r c len timeout ct body) = IsTimeout timeout × IsContentType ct
  CanHear alert = Unit {0}

module _ {H : Type 0} (held : H → HoldAt) (workers me : ℕ) where
  -- a packet is to the worker, from one that is there, it keeps the limits of what is asked, and its hold, if it has one, is of the sender's slot that the grant names;
  -- a clock keeps its limit; a given start has a tag for each name of its list
  abbrev pub IsInput : Input H → Type 0
  IsInput (inputs.Packet p) = (p.to ≡ me) × (p.from < workers) × CanHear p.alert × IfSome (grant_of p.alert) (IsGranted held p.from)
  IsInput (inputs.Clock t) = IsClock t
  IsInput inputs.Reap = Unit {0}
  IsInput (inputs.Post c body) = Unit {0}
  IsInput (inputs.Poll k list start) = FitsList list start
  IsInput (inputs.Remove c) = Unit {0}
  IsInput (inputs.Inform c) = Unit {0}
