-- The step of a worker to which a subscriber comes.
use Rattle.std.specs.Prelude.{◌≡◌, ℕ, Bool, List}
use Rattle.std.specs.List.{AllByRecursion}
use Rattle.nc_types.specs.declared.start.Start.{Start}
use Rattle.nc_journal.specs.History.{own, onto, Along}
use Rattle.nc_journal.specs.Standing.{Starting, stage_of}
use Rattle.nc_journal.specs.declared.event.Event.{Event}
use Rattle.nc_spool.specs.Calls.{SpoolsAt, board_of, arrive_after}
use Rattle.nc_spool_laws.specs.Tally.{stands}
use Rattle.nc_worker_state.specs.Deed.{told}
use Rattle.nc_worker_state.specs.Spooled.{Hold, arrives}
use Rattle.nc_sends.specs.GoodSends.{IsGoodSend}
use Rattle.nc_world_told.specs.Readers.{StandHere}
use Rattle.nc_world_told.specs.Known.{PlacesHold}

-- the history after the step, whose base has its subscription
abbrev pub after_arrival : ℕ → (ℕ → ℕ) → ℕ → List (List ℕ) → Start → Bool → SpoolsAt Hold → List Event → List Event
after_arrival me next k list start once s h = onto (told me next (arrives me k list start once s).deeds) h

-- it writes no sends
abbrev pub ArrivalSendsNothing : Type 0
ArrivalSendsNothing =
    (workers me : ℕ) (next : ℕ → ℕ) (k : ℕ) (list : List (List ℕ)) (start : Start) (once : Bool) (s : SpoolsAt Hold) (h : List Event)
    → Along (IsGoodSend workers) h → Along (IsGoodSend workers) (after_arrival me next k list start once s h)

-- where it stood nowhere, each subscriber of a spool stands then at its key: also the one that came, unless it begins behind the newest messages
abbrev pub ArrivalStands : Type 0
ArrivalStands = (me : ℕ) (next : ℕ → ℕ) (k : ℕ) (list : List (List ℕ)) (start : Start) (once : Bool) (s : SpoolsAt Hold) (h : List Event)
    → stands k (board_of s) ≡ 0 → stage_of k (own me h) ≡ Starting list once start
    → AllByRecursion (λ x. StandHere me x h) s.shelf
    → AllByRecursion (λ x. StandHere me x (after_arrival me next k list start once s h)) (arrive_after k list start once s).shelf

-- and each place of each spool holds
abbrev pub ArrivalKnows : Type 0
ArrivalKnows = (workers me : ℕ) (next : ℕ → ℕ) (k : ℕ) (list : List (List ℕ)) (start : Start) (once : Bool) (s : SpoolsAt Hold) (h : List Event)
    → AllByRecursion (PlacesHold workers me h) s.shelf
    → AllByRecursion (PlacesHold workers me (after_arrival me next k list start once s h)) (arrive_after k list start once s).shelf
