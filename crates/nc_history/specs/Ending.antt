-- The ending rule: a subscriber is ended as its channel is deleted where its worker takes the alert that tells so, and nowhere else.
use Rattle.std.specs.Prelude.{◌≡◌, ℕ, Bool, true, false, None, List, [], ◌∷◌, ◌==◌, ◌&&◌}
use Rattle.std.specs.List.{list_any}
use Rattle.nc_journal.specs.History.{own}
use Rattle.nc_journal.specs.Standing.{Stage, Starting, Standing, stage_of}
use Rattle.nc_journal.specs.declared.event.Event.{Event}
use Rattle.nc_journal.specs.declared.event.Event.TheVariants.{Clock, Asked, Subscribed, Ended, Took, Pending, Quiet}
use Rattle.nc_journal.specs.declared.alert.AlertLine.{AlertLine}
use Rattle.nc_journal.specs.declared.alert.AlertLine.TheVariants.{Gone}
use Rattle.nc_journal.specs.declared.word.EndedCause.TheVariants.{Deleted}
use Rattle.nc_history.specs.Packets.{Packet, pending}
use Rattle.nc_history.specs.Steps.{AtEachStepOf}

-- one of this stage starts or stands
abbrev pub is_there : Stage → Bool
is_there (Starting list once start) = true
is_there (Standing list once cur) = true
is_there stage = false

-- an event ends a subscriber of a worker because its channel is deleted, and one of some events does
abbrev pub ends_deleted : ℕ → ℕ → Event → Bool
ends_deleted w k (Ended v n Deleted) = (v == w) && (n == k)
ends_deleted w k e = false

abbrev pub is_ended : ℕ → ℕ → List Event → Bool
is_ended w k events = list_any (ends_deleted w k) events

-- an alert names a subscriber whose channel is gone, and the first of some packets does
abbrev pub names : ℕ → AlertLine → Bool
names k (Gone c subs) = list_any (λ n. n == k) subs
names k line = false

abbrev pub is_first_named : ℕ → List Packet → Bool
is_first_named k [] = false
is_first_named k (p ∷ ps) = names k p.line

-- nobody is ended so
abbrev pub NobodyIsEnded : List Event → Type 0
NobodyIsEnded events = (v k : ℕ) → is_ended v k events ≡ false

-- in a step in which a worker takes an alert, exactly those of its subscribers are ended so that the alert names and that start or stand;
-- in a step that begins otherwise nobody is
abbrev pub EndingAt : List Event → Event → List Event → Type 0
EndingAt h (Took w from n kind) events = (v k : ℕ)
    → is_ended v k events ≡ (v == w) && (is_first_named k (pending from w h) && is_there (stage_of k (own w h)))
EndingAt h (Clock w t) events = NobodyIsEnded events
EndingAt h (Asked w r None act list status rule) events = NobodyIsEnded events
EndingAt h (Subscribed w k None list mode start timeout close) events = NobodyIsEnded events
EndingAt h (Pending n) events = NobodyIsEnded events
EndingAt h Quiet events = NobodyIsEnded events
EndingAt h e events = Unit {0}

-- the ending rule
abbrev pub IsEndingRule : List (List Event) → Type 0
IsEndingRule lines = AtEachStepOf EndingAt lines
