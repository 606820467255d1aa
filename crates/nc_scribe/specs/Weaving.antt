-- A weave, as far as it has come.
use Rattle.std.specs.Prelude.{◌≡◌, ℕ, List, [], ◌∷◌, ◌++◌}
use Rattle.nc_journal.specs.declared.event.Event.{Event}
use Rattle.nc_alert.specs.declared.packet.Outgoing.{Outgoing}
use Rattle.nc_owner.specs.AlertLines.{out_lines}
use Rattle.nc_owner_laws.specs.Weave.{weave}
use Rattle.nc_slots.specs.Slots.{HoldAt}
use Rattle.nc_outbox.specs.Outboxes.{next_of}
use Rattle.nc_scribe.specs.Scribe.{ScribeAt, made_event, TellsMore, KeepsOwn, AllGranted}

module _ {H : Type 0} where
  -- the making of the first of some alerts, if there is one
  abbrev pub first_made : ℕ → (ℕ → ℕ) → List (Outgoing H) → List Event
  first_made me next [] = []
  first_made me next (o ∷ alerts) = made_event me next o ∷ []

  abbrev pub behind_first : List (Outgoing H) → List (Outgoing H)
  behind_first [] = []
  behind_first (o ∷ alerts) = alerts

  -- the next alert was made, and the rest is left
  pub record TellsNext (old new : ScribeAt H) (alerts rest : List (Outgoing H)) : Type 0 where
    pub left : rest ≡ behind_first alerts
    pub tells : TellsMore old new (first_made old.me (next_of old.outboxes) alerts)
    pub own : (held : H → HoldAt) → AllGranted held old.me alerts → KeepsOwn held old new

  -- some events were told, and of a whole weave the rest is left
  pub record TellsPart (old new : ScribeAt H) (events left : List Event) (alerts rest : List (Outgoing H)) : Type 0 where
    pub part : List Event
    pub woven : part ++ weave new.me (next_of new.outboxes) left (out_lines rest) ≡ weave old.me (next_of old.outboxes) events (out_lines alerts)
    pub tells : TellsMore old new part
    pub own : (held : H → HoldAt) → AllGranted held old.me alerts → KeepsOwn held old new
    pub granted : (held : H → HoldAt) → AllGranted held old.me alerts → AllGranted held new.me rest
