-- A journal cut into lines, and the events of each line cut into steps.
use Rattle.std.specs.Prelude.{ℕ, Bool, true, false, List, [], ◌∷◌, None, if◌then◌else◌}
use Rattle.nc_journal.specs.History.{onto}
use Rattle.nc_journal.specs.declared.event.Event.{Event}
use Rattle.nc_journal.specs.declared.event.Event.TheVariants.{Clock, Opened, Got, Asked, Subscribed, Took, Pending, Quiet}

-- an event with which a step begins: what comes to a worker from outside, a packet that is taken, and what is told of all alerts
abbrev pub begins : Event → Bool
begins (Clock w t) = true
begins (Opened w conn) = true
begins (Got w conn bytes) = true
begins (Asked w r None act list status rule) = true
begins (Subscribed w k None list mode start timeout close) = true
begins (Took w from n kind) = true
begins (Pending n) = true
begins Quiet = true
begins e = false

-- the longest front of some events in which no step begins
abbrev pub step_front : List Event → List Event
step_front [] = []
step_front (e ∷ es) = if begins e then [] else e ∷ step_front es

-- some events were put on a history: at each of them what stands before it, the event, and the events of its step behind it are in this relation
abbrev pub AtEachStep : (List Event → Event → List Event → Type 0) → List Event → List Event → Type 0
AtEachStep P h [] = Unit {0}
AtEachStep P h (e ∷ es) = P h e (step_front es) × AtEachStep P (e ∷ h) es

-- the events of each line, in their order, the newest line first; as one history
abbrev pub joined : List (List Event) → List Event
joined [] = []
joined (es ∷ lines) = onto es (joined lines)

-- at each step of each line
abbrev pub AtEachStepOf : (List Event → Event → List Event → Type 0) → List (List Event) → Type 0
AtEachStepOf P [] = Unit {0}
AtEachStepOf P (es ∷ lines) = AtEachStepOf P lines × AtEachStep P (joined lines) es
