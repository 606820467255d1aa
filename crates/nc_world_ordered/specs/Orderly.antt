-- The order of subscribers' events, over the steps of a worker's spools.
use Rattle.std.specs.Prelude.{◌≡◌, ℕ, Bool, List, Option}
use Rattle.std.specs.List.{AllByRecursion}
use Rattle.nc_types.specs.Id.{Id}
use Rattle.nc_types.specs.declared.start.Start.{Start}
use Rattle.nc_types.specs.declared.start.Start.TheVariants.{Newest}
use Rattle.nc_journal.specs.History.{own, onto}
use Rattle.nc_journal.specs.Standing.{Starting, stage_of, AreOrdered, NobodyServed}
use Rattle.nc_journal.specs.declared.event.Event.{Event}
use Rattle.nc_spool_state.specs.Starting.{StartingAt}
use Rattle.nc_spool.specs.declared.spools.Found.{Found}
use Rattle.nc_spool.specs.Calls.{SpoolsAt, board_of}
use Rattle.nc_spool_laws.specs.Tally.{StandOnce}
use Rattle.nc_worker_state.specs.Deed.{told}
use Rattle.nc_worker_state.specs.Spooled.{Hold, arrives, answers, edges, notices, loses}
use Rattle.nc_world_told.specs.Readers.{StandHere}

-- the events stand in order, and nobody was served without having ended
pub record IsOrderly (h : List Event) : Type 0 where
  pub ordered : AreOrdered h
  pub ended : NobodyServed h

-- each subscriber of a worker's spools stands by the history at the key of its spool
abbrev pub AllStand : ℕ → List Event → SpoolsAt Hold → Type 0
AllStand me h s = AllByRecursion (λ x. StandHere me x h) s.shelf

-- an answer, behind what stands before
abbrev pub AnswerOrderly : Type 0
AnswerOrderly = (me number q floor : ℕ) (found : Option (Found Hold)) (next : ℕ → ℕ) (h : List Event) (s : SpoolsAt Hold) → StandOnce (board_of s)
    → AllStand me h s
    → IsOrderly h → IsOrderly (onto (told me next (answers me number q floor found s).deeds) h)

abbrev pub NoticeOrderly : Type 0
NoticeOrderly = (me : ℕ) (c : List ℕ) (found : Found Hold) (next : ℕ → ℕ) (h : List Event) (s : SpoolsAt Hold) → StandOnce (board_of s)
    → AllStand me h s
    → IsOrderly h → IsOrderly (onto (told me next (notices me c found s).deeds) h)

-- each subscriber that isn't started yet is starting by the history, behind the newest messages of its list
abbrev pub AllStart : ℕ → List Event → SpoolsAt Hold → Type 0
AllStart me h s = AllByRecursion (λ (x : StartingAt). stage_of x.reader.k (own me h) ≡ Starting x.list x.reader.once Newest) s.starts

-- the answer to an edge
abbrev pub EdgeOrderly : Type 0
EdgeOrderly = (me number floor : ℕ) (last : Id) (next : ℕ → ℕ) (h : List Event) (s : SpoolsAt Hold) → AllStart me h s
    → IsOrderly h → IsOrderly (onto (told me next (edges me number floor last s).deeds) h)

-- a channel is gone: each subscriber that is ended starts or stands by the history
abbrev pub LossOrderly : Type 0
LossOrderly = (me : ℕ) (c subs : List ℕ) (next : ℕ → ℕ) (h : List Event) (s : SpoolsAt Hold) → StandOnce (board_of s) → AllStand me h s
    → AllStart me h s
    → IsOrderly h → IsOrderly (onto (told me next (loses me c subs s).deeds) h)

-- a subscriber that subscribed comes
abbrev pub ArrivalOrderly : Type 0
ArrivalOrderly = (me k : ℕ) (list : List (List ℕ)) (start : Start) (once : Bool) (next : ℕ → ℕ) (h : List Event) (s : SpoolsAt Hold)
    → stage_of k (own me h) ≡ Starting list once start
    → IsOrderly h → IsOrderly (onto (told me next (arrives me k list start once s).deeds) h)
