-- What holds along a history holds at each event of it, and of the older ones.
use Rattle.std.proofs.Common.{List, [], ◌∷◌, ◌++◌}
use Rattle.nc_journal.specs.History.{Along}
use Rattle.nc_journal.specs.declared.event.Event.{Event}

-- what holds along a history holds at each event of it
pub along_at : (P : List Event → Event → Type 0) (newer : List Event) (e : Event) (older : List Event) → Along P (newer ++ e ∷ older) → P older e
along_at P [] e older a = a.1
along_at P (x ∷ newer) e older a = along_at P newer e older a.0

pub along_older : (P : List Event → Event → Type 0) (newer older : List Event) → Along P (newer ++ older) → Along P older
along_older P [] older a = a
along_older P (x ∷ newer) older a = along_older P newer older a.0
