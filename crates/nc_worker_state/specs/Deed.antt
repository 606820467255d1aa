-- What a worker does beside its owner, and the events that this is.
use Rattle.std.specs.Prelude.{ℕ, List, [], ◌∷◌}
use Rattle.nc_journal.specs.declared.event.Event.{Event}
use Rattle.nc_journal.specs.declared.event.Event.TheVariants.{Made}
use Rattle.nc_journal.specs.declared.alert.AlertLine.{AlertLine}
use Rattle.nc_owner_laws.specs.Weave.{numbered}

-- an event, or the making of an alert to a worker, which has no number yet
pub data Deed : Type 0 where
  Does : Event → Deed
  Makes : ℕ → AlertLine → Deed

-- deeds as events: each alert that is made draws the next number to its receiver
abbrev pub told : ℕ → (ℕ → ℕ) → List Deed → List Event
told me next [] = []
told me next (Does e ∷ deeds) = e ∷ told me next deeds
told me next (Makes to a ∷ deeds) = Made me to (next to) a ∷ told me (numbered next to) deeds

-- the number of the next packet to each worker after some events
abbrev pub next_after : (ℕ → ℕ) → List Event → ℕ → ℕ
next_after next [] = next
next_after next (Made v to n a ∷ es) = next_after (numbered next to) es
next_after next (e ∷ es) = next_after next es
