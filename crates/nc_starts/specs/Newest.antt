-- A start by its edges is lawful.
use Rattle.std.specs.Prelude.{ℕ, List, ◌++◌}
use Rattle.nc_types.specs.Cursor.{CursorAt}
use Rattle.nc_journal.specs.History.{Along, own}
use Rattle.nc_journal.specs.Stamp.{IsStamped}
use Rattle.nc_journal.specs.Newest.{StartsByEdges, StartsNewest}
use Rattle.nc_journal.specs.declared.event.Event.{Event}
use Rattle.nc_owner_laws.specs.InOrder.{LooksAt}

-- under the stamp rule, where edges tell what they should, a start by its edges is lawful, whatever is stored later
abbrev pub NewestStarts : Type 0
NewestStarts = (workers w k : ℕ) (list : List (List ℕ)) (cur : CursorAt) (newer older : List Event) → IsStamped workers (newer ++ older)
    → ((o : ℕ) → Along LooksAt (own o older))
    → StartsByEdges workers w k list cur older → StartsNewest workers w k list cur newer older
