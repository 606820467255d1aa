-- The events and the alerts of a step in one list: behind each granted hold stands the making of the alert that carries it,
-- and the other alerts are made last.
use Rattle.std.specs.Prelude.{ℕ, ◌+◌, List, [], ◌∷◌, ◌==◌, if◌then◌else◌}
use Rattle.nc_journal.specs.declared.event.Event.{Event}
use Rattle.nc_journal.specs.declared.event.Event.TheVariants.{Granted, Made}
use Rattle.nc_owner.specs.AlertLines.{OutLine}

-- the number of the next packet to each worker, once one to this worker was made
abbrev pub numbered : (ℕ → ℕ) → ℕ → ℕ → ℕ
numbered next to v = if v == to then next v + 1 else next v

-- and once some alerts were made
abbrev pub numbered_by : (ℕ → ℕ) → List OutLine → ℕ → ℕ
numbered_by next [] = next
numbered_by next (a ∷ alerts) = numbered_by (numbered next a.to) alerts

-- alerts are made one after the other
abbrev pub makes : ℕ → (ℕ → ℕ) → List OutLine → List Event
makes w next [] = []
makes w next (a ∷ alerts) = Made w a.to (next a.to) a.line ∷ makes w (numbered next a.to) alerts

abbrev pub weave : ℕ → (ℕ → ℕ) → List Event → List OutLine → List Event
weave w next [] alerts = makes w next alerts
weave w next (Granted v g slot to ∷ es) (a ∷ alerts) = Granted v g slot to ∷ Made w a.to (next a.to) a.line ∷ weave w (numbered next a.to) es alerts
weave w next (e ∷ es) alerts = e ∷ weave w next es alerts
