-- What is so of each start when it is made, and that it stays lawful.
use Rattle.std.specs.Prelude.{ℕ, List, []}
use Rattle.nc_types.specs.declared.start.Start.TheVariants.{Newest}
use Rattle.nc_types.specs.Cursor.{CursorAt}
use Rattle.nc_journal.specs.History.{Along, own}
use Rattle.nc_journal.specs.Stamp.{IsStamped}
use Rattle.nc_journal.specs.Standing.{stage_of, Stage, Starting}
use Rattle.nc_journal.specs.Newest.{StartsByEdges}
use Rattle.nc_journal.specs.Sending.{StartsFrom, IsStartedLawfully}
use Rattle.nc_journal.specs.declared.event.Event.{Event}
use Rattle.nc_journal.specs.declared.event.Event.TheVariants.{Started}
use Rattle.nc_owner_laws.specs.InOrder.{LooksAt}

-- what is so when it starts: no message is looked at, and nothing later
abbrev pub StartsThen : (workers w k : ℕ) → CursorAt → List Event → Stage → Type 0
StartsThen workers w k cur older (Starting list once Newest) = StartsByEdges workers w k list cur older
StartsThen workers w k cur older s = StartsFrom workers w k cur [] older s

abbrev pub StartedThen : ℕ → List Event → Event → Type 0
StartedThen workers older (Started w k cur) = StartsThen workers w k cur older (stage_of k (own w older))
StartedThen workers older _ = Unit {0}

-- under the stamp rule, starts that were so when they were made are lawful
abbrev pub StartsStay : Type 0
StartsStay = (workers : ℕ) (h : List Event) → IsStamped workers h → ((o : ℕ) → Along LooksAt (own o h)) → Along (StartedThen workers) h
    → IsStartedLawfully workers h
