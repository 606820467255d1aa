-- Whoever subscribes does so as it should.
use Rattle.std.proofs.Common.{List, [], ◌∷◌}
use Rattle.std.specs.List.{AllByRecursion}
use Rattle.nc_journal.specs.History.{onto, Along}
use Rattle.nc_journal.specs.Standing.{SubscribesAt}
use Rattle.nc_journal.specs.declared.event.Event.{Event}
use Rattle.nc_journal.specs.declared.event.Event.TheVariants.{Subscribed}

-- no subscriber subscribes here
abbrev pub IsUnsubscribed : Event → Type 0
IsUnsubscribed (Subscribed w k conn list mode start timeout close) = ⊥
IsUnsubscribed _ = Unit {0}

opens_one : (e : Event) (h : List Event) → IsUnsubscribed e → SubscribesAt h e
opens_one (Subscribed w k conn list mode start timeout close) h p = absurd p
opens_one e h p = tt

pub opens_onto : (es h : List Event) → AllByRecursion IsUnsubscribed es → Along SubscribesAt h → Along SubscribesAt (onto es h)
opens_onto [] h p a = a
opens_onto (e ∷ es) h p a = opens_onto es (e ∷ h) p.1 (a, opens_one e h p.0)
