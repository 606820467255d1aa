-- The holds that nobody uses go back.
use Rattle.std.specs.Prelude.{ℕ, Bool, not, List, map, filter}
use Rattle.nc_journal.specs.declared.event.Event.{Event}
use Rattle.nc_journal.specs.declared.event.Event.TheVariants as events
use Rattle.nc_spool_state.specs.declared.kept.Held.{Held}
use Rattle.nc_spool_state.specs.Kept.{is_idle}
use Rattle.nc_spool.specs.Calls.{SpoolsAt}
use Rattle.nc_desk.specs.declared.desk.Desk.{Desk as DeskAt}

module _ {H : Type 0} where
  -- the event that a hold goes back
  abbrev pub released : ℕ → Held H → Event
  released me h = events.Released me h.owner h.g h.slot

  -- the events that those go back which no spool uses
  abbrev pub idle_events : ℕ → SpoolsAt H → List Event
  idle_events me s = map (released me) (filter (is_idle s.shelf) s.kept)

  -- a spool uses a hold
  abbrev pub is_used_in : SpoolsAt H → Held H → Bool
  is_used_in s h = not (is_idle s.shelf h)

  -- the spools with the holds alone that they use
  abbrev pub busy_spools : SpoolsAt H → SpoolsAt H
  busy_spools s = record s { kept = filter (is_used_in s) s.kept }

  abbrev pub busy_desk : DeskAt H → DeskAt H
  busy_desk d = record d { spools = busy_spools d.spools }
