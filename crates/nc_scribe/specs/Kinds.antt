-- Events that make nothing.
use Rattle.std.specs.Prelude.{◌≡◌, Bool, true, false, List}
use Rattle.std.specs.List.{AllByRecursion}
use Rattle.nc_journal.specs.declared.event.Event.{Event}
use Rattle.nc_journal.specs.declared.event.Event.TheVariants.{Made, Granted}

-- an event isn't the making of an alert
abbrev pub is_aside : Event → Bool
is_aside (Made w to n a) = false
is_aside e = true

abbrev pub IsAside : Event → Type 0
IsAside e = is_aside e ≡ true

abbrev pub AreAside : List Event → Type 0
AreAside es = AllByRecursion IsAside es

-- an event grants a hold
abbrev pub is_grant : Event → Bool
is_grant (Granted w g slot to) = true
is_grant e = false
