-- What a scribe has, and what it tells.
use Rattle.std.specs.Prelude.{◌≡◌, ℕ, List, [], IfSome}
use Rattle.std.specs.List.{AllByRecursion}
use Rattle.nc_journal.specs.declared.event.Event.{Event}
use Rattle.nc_journal.specs.declared.event.Event.TheVariants as events
use Rattle.nc_alert.specs.declared.packet.Outgoing.{Outgoing}
use Rattle.nc_alert.specs.Packet.{grant_of}
use Rattle.nc_slots.specs.Slots.{HoldAt}
use Rattle.nc_owner.specs.AlertLines.{alert_line}
use Rattle.nc_spool.specs.declared.fact.Sending.{Sending}
use Rattle.nc_outbox.specs.Outboxes.{OutboxesAt, new_outboxes, next_of, outbox_of, IsGranted, AreOwn}
use Rattle.nc_scribe.specs.Story.{Story, went_on}

-- the worker, the events of the step so far, and its packets
pub record ScribeAt (H : Type 0) : Type 0 where
  pub me : ℕ
  pub events : List Event
  pub outboxes : OutboxesAt H

-- the event that a message is sent
abbrev pub sent_event : ℕ → Sending → Event
sent_event me s = events.Sent me s.k s.place s.chan s.id s.cursor s.looks

module _ {H : Type 0} where
  -- nothing was told yet
  abbrev pub new_scribe : ℕ → ℕ → ScribeAt H
  new_scribe me first = record { me = me; events = []; outboxes = new_outboxes first }

  -- the event that an alert is made
  abbrev pub made_event : ℕ → (ℕ → ℕ) → Outgoing H → Event
  made_event me next o = events.Made me o.to (next o.to) (alert_line o.alert)

  -- what it told
  abbrev pub story_of : ScribeAt H → Story
  story_of s = record { events = s.events; next = next_of s.outboxes; outbox = outbox_of s.outboxes }

  -- each hold that some alerts carry is of the worker's slot that its grant names
  abbrev pub AllGranted : (H → HoldAt) → ℕ → List (Outgoing H) → Type 0
  AllGranted held me alerts = AllByRecursion (λ o. IfSome (grant_of o.alert) (IsGranted held me)) alerts

  -- it told some events more
  pub record TellsMore (old new : ScribeAt H) (es : List Event) : Type 0 where
    pub me : new.me ≡ old.me
    pub story : story_of new ≡ went_on (story_of old) es

  -- its packets are its own, by what holds are of; and they still are
  abbrev pub IsOwnScribe : (H → HoldAt) → ScribeAt H → Type 0
  IsOwnScribe held s = AreOwn held s.me s.outboxes

  abbrev pub KeepsOwn : (H → HoldAt) → ScribeAt H → ScribeAt H → Type 0
  KeepsOwn held old new = IsOwnScribe held old → IsOwnScribe held new
