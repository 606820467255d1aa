-- A fence raises an owner's floor: whatever it stores from then on isn't before that time.
use Rattle.std.specs.Prelude.{ℕ, max, List, [], ◌∷◌, if◌then◌else◌, nat_le}
use Rattle.nc_journal.specs.declared.event.Event.{Event}
use Rattle.nc_journal.specs.declared.event.Event.TheVariants.{Raised}
use Rattle.nc_owner.specs.State.{OwnerAt}

-- the floor is at least the fence
abbrev pub with_floor : ℕ → OwnerAt → OwnerAt
with_floor fence s = record s { desk = record s.desk { floor = max s.desk.floor fence } }

-- which is told where it rises
abbrev pub raise_events : ℕ → OwnerAt → List Event
raise_events fence s = if nat_le fence s.desk.floor then [] else Raised s.desk.me fence ∷ []
