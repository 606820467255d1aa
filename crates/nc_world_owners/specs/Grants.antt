-- No message is granted more often than one may be.
use Rattle.std.specs.Prelude.{ℕ, ◌≤◌, List}
use Rattle.nc_journal.specs.Leaving.{grants_since, most_grants}
use Rattle.nc_journal.specs.declared.event.Event.{Event}

-- since the last message was stored there, each slot was granted at most as often as one may be
abbrev pub AreFewGrants : List Event → Type 0
AreFewGrants h = (slot : ℕ) → grants_since slot h ≤ most_grants
