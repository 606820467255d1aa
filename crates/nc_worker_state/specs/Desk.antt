-- The rest of a worker: its own requests and subscribers.
use Rattle.std.specs.Prelude.{ℕ, ◌+◌, Bool, true, false, not, List, [], ◌∷◌, ◌++◌, Option, None, Some, if◌then◌else◌, ◌==◌, filter}
use Rattle.std.specs.List.{list_any}
use Rattle.nc_types.specs.Channel.{owner_of}
use Rattle.nc_types.specs.declared.info.Info.{Info}
use Rattle.nc_journal.specs.declared.event.Event.{Event}
use Rattle.nc_journal.specs.declared.event.Event.TheVariants.{Clock, Asked, Answered, Subscribed, Took}
use Rattle.nc_journal.specs.declared.word.Act.TheVariants as acts
use Rattle.nc_journal.specs.declared.word.ModeLine.TheVariants.{Direct}
use Rattle.nc_journal.specs.declared.alert.AlertLine.{AlertLine}
use Rattle.nc_journal.specs.declared.alert.AlertLine.TheVariants as lines
use Rattle.nc_spool.specs.Calls.{SpoolsAt, new_spools}
use Rattle.nc_history.specs.Packets.{kind_of}
use Rattle.nc_worker_state.specs.Setup.{Setup}
use Rattle.nc_worker_state.specs.Incoming.{Incoming, TakesPacket, ClockReads, Reaps, Posts, Subscribes, Removes, Informs}
use Rattle.nc_worker_state.specs.Deed.{Deed, Does, Makes}
use Rattle.nc_worker_state.specs.Spooled.{Spooled, Hold, found_by, found_in, arrives, answers, edges, notices, loses, releases, without_idles}

-- the spools, the requests that wait for an answer, the newest first, and the number of the next request
pub record Desk : Type 0 where
  pub spools : SpoolsAt Hold
  pub waiting : List ℕ
  pub requests : ℕ

abbrev pub new_desk : Setup → Desk
new_desk setup = record { spools = new_spools setup.workers setup.first; waiting = []; requests = setup.first }

-- what it does, and what is left
pub record Served : Type 0 where
  pub deeds : List Deed
  pub after : Desk

abbrev pub unserved : Desk → Served
unserved d = record { deeds = []; after = d }

-- ---- packets

abbrev pub is_waiting : ℕ → List ℕ → Bool
is_waiting r waiting = list_any (λ x. x == r) waiting

abbrev pub without : ℕ → List ℕ → List ℕ
without r waiting = filter (λ x. not (x == r)) waiting

-- the answer to a request that waits goes on to who asked; another answer is dropped
abbrev pub replied : ℕ → ℕ → ℕ → Option Info → Desk → Served
replied me r status info d = if is_waiting r d.waiting then (record {
  deeds = Does (Answered me r None status info false false) ∷ [];
  after = record d { waiting = without r d.waiting };
}) else unserved d

-- a call of the spools
abbrev pub with_spooled : Spooled → Desk → Served
with_spooled r d = record { deeds = r.deeds; after = record d { spools = r.after } }

-- what it does with an alert, before the releases
abbrev pub handled : ℕ → ℕ → AlertLine → Desk → Served
handled me from (lines.PubAnswer r status info full) d = replied me r status info d
handled me from (lines.InfoAnswer r status info) d = replied me r status info d
handled me from (lines.DelAnswer r status info) d = replied me r status info d
handled me from (lines.LookAnswer number q floor found g slot) d = with_spooled (answers me number q floor (found_in from found g slot) d.spools) d
handled me from (lines.Notice c id g slot) d = with_spooled (notices me c (found_by from id g slot) d.spools) d
handled me from (lines.EdgeAnswer number q floor last) d = with_spooled (edges me number floor last d.spools) d
handled me from (lines.Gone c subs) d = with_spooled (loses me c subs d.spools) d
handled me from line d = unserved d

-- at the end of a step the holds that nobody uses are released
abbrev pub settled : ℕ → Served → Served
settled me r = record { deeds = r.deeds ++ releases me r.after.spools; after = record r.after { spools = without_idles r.after.spools } }

-- ---- what comes from outside

-- the event with which a step begins; a reap has none
abbrev pub opening : Setup → ℕ → Incoming → Desk → List Event
opening setup me (TakesPacket from p) d = Took me from p.number (kind_of p.line) ∷ []
opening setup me (ClockReads t) d = Clock me t ∷ []
opening setup me Reaps d = []
opening setup me (Posts c body) d = Asked me d.requests None acts.Publish (Some (c ∷ [])) 0 0 ∷ []
opening setup me (Subscribes k list start) d = Subscribed me k None list Direct start setup.sub_timeout false ∷ []
opening setup me (Removes c) d = Asked me d.requests None acts.Delete (Some (c ∷ [])) 0 0 ∷ []
opening setup me (Informs c) d = Asked me d.requests None acts.Info (Some (c ∷ [])) 0 0 ∷ []

-- a request more waits, for which an owner is asked
abbrev pub asked : ℕ → AlertLine → Desk → Served
asked to line d = record { deeds = Makes to line ∷ []; after = record d { waiting = d.requests ∷ d.waiting; requests = d.requests + 1 } }

-- what it does behind that event and behind its owner's part, before the releases
abbrev pub begun : Setup → ℕ → Incoming → Desk → Served
begun setup me (TakesPacket from p) d = handled me from p.line d
begun setup me (ClockReads t) d = unserved d
begun setup me Reaps d = unserved d
begun setup me (Posts c body) d = asked (owner_of setup.workers c) (lines.Publish d.requests c setup.length setup.timeout None body) d
begun setup me (Subscribes k list start) d = with_spooled (arrives me k list start true d.spools) d
begun setup me (Removes c) d = asked (owner_of setup.workers c) (lines.Delete d.requests c) d
begun setup me (Informs c) d = asked (owner_of setup.workers c) (lines.Info d.requests c) d

abbrev pub served : Setup → ℕ → Incoming → Desk → Served
served setup me incoming d = settled me (begun setup me incoming d)
