-- The calls of a worker's spools as its deeds, and the release of holds that nobody uses.
use Rattle.std.specs.Prelude.{ℕ, Bool, not, List, Option, None, Some, if◌then◌else◌, map, filter}
use Rattle.nc_types.specs.Id.{Id}
use Rattle.nc_types.specs.declared.start.Start.{Start}
use Rattle.nc_journal.specs.declared.event.Event.TheVariants as events
use Rattle.nc_journal.specs.declared.word.EndedCause.{EndedCause}
use Rattle.nc_journal.specs.declared.word.EndedCause.TheVariants.{Answered, Deleted}
use Rattle.nc_journal.specs.declared.alert.AlertLine.{AlertLine}
use Rattle.nc_journal.specs.declared.alert.AlertLine.TheVariants as lines
use Rattle.nc_spool_state.specs.declared.kept.Held.{Held}
use Rattle.nc_spool_state.specs.Kept.{is_idle}
use Rattle.nc_spool.specs.declared.ask.Ask.{Ask}
use Rattle.nc_spool.specs.declared.ask.Ask.TheVariants as asks
use Rattle.nc_spool.specs.declared.fact.Fact.{Fact}
use Rattle.nc_spool.specs.declared.fact.Fact.TheVariants as facts
use Rattle.nc_spool.specs.declared.spools.Found.{Found}
use Rattle.nc_spool.specs.Calls.{SpoolsAt, arrive_facts, arrive_after, answer_facts, answer_after, edge_facts, edge_after, notice_facts, notice_after, gone_facts, gone_after}
use Rattle.nc_worker_state.specs.Deed.{Deed, Does, Makes}

-- what the pure step keeps of a hold: nothing beside its grant and slot
abbrev pub Hold : Type 0
Hold = Unit {0}

-- what a spool asks of an owner, as the journal tells it
abbrev pub ask_line : Ask → AlertLine
ask_line (asks.Look number c after fence) = lines.Look number c after fence
ask_line (asks.Edge number k c fence) = lines.Edge number k c fence
ask_line (asks.Join c k) = lines.Join c k
ask_line (asks.Part c k) = lines.Part c k

-- why a subscriber is ended: its channel was deleted, or what the call is for
abbrev pub ended_cause : EndedCause → Bool → EndedCause
ended_cause cause deleted = if deleted then Deleted else cause

-- a fact of spools as a deed
abbrev pub fact_deed : ℕ → EndedCause → Fact → Deed
fact_deed me cause (facts.Out o) = Makes o.to (ask_line o.ask)
fact_deed me cause (facts.Started k cursor) = Does (events.Started me k cursor)
fact_deed me cause (facts.Sent s) = Does (events.Sent me s.k s.place s.chan s.id s.cursor s.looks)
fact_deed me cause (facts.Ended k deleted) = Does (events.Ended me k (ended_cause cause deleted))

abbrev pub facts_deeds : ℕ → EndedCause → List Fact → List Deed
facts_deeds me cause fs = map (fact_deed me cause) fs

-- the deeds of a call, and the spools after it
pub record Spooled : Type 0 where
  pub deeds : List Deed
  pub after : SpoolsAt Hold

-- a message that came with a grant of an owner
abbrev pub found_by : ℕ → Id → ℕ → ℕ → Found Hold
found_by owner id g slot = record { id = id; held = record { owner = owner; g = g; slot = slot; hold = tt } }

abbrev pub found_in : ℕ → Option Id → Option ℕ → Option ℕ → Option (Found Hold)
found_in owner (Some id) (Some g) (Some slot) = Some (found_by owner id g slot)
found_in owner id g slot = None

abbrev pub arrives : ℕ → ℕ → List (List ℕ) → Start → Bool → SpoolsAt Hold → Spooled
arrives me k list start once s = record { deeds = facts_deeds me Answered (arrive_facts k list start once s); after = arrive_after k list start once s }

abbrev pub answers : ℕ → ℕ → ℕ → ℕ → Option (Found Hold) → SpoolsAt Hold → Spooled
answers me number q floor found s =
    record { deeds = facts_deeds me Answered (answer_facts number q floor found s); after = answer_after number q floor found s }

abbrev pub edges : ℕ → ℕ → ℕ → Id → SpoolsAt Hold → Spooled
edges me number floor last s = record { deeds = facts_deeds me Answered (edge_facts number floor last s); after = edge_after number floor last s }

abbrev pub notices : ℕ → List ℕ → Found Hold → SpoolsAt Hold → Spooled
notices me c found s = record { deeds = facts_deeds me Answered (notice_facts c found s); after = notice_after c found s }

abbrev pub loses : ℕ → List ℕ → List ℕ → SpoolsAt Hold → Spooled
loses me c members s = record { deeds = facts_deeds me Deleted (gone_facts c members s); after = gone_after c members s }

-- the holds that no spool uses, in ascending order of owner and grant, are released at the end of a step
abbrev pub release : ℕ → Held Hold → Deed
release me h = Does (events.Released me h.owner h.g h.slot)

abbrev pub releases : ℕ → SpoolsAt Hold → List Deed
releases me s = map (release me) (filter (is_idle s.shelf) s.kept)

abbrev pub is_busy : SpoolsAt Hold → Held Hold → Bool
is_busy s h = not (is_idle s.shelf h)

abbrev pub without_idles : SpoolsAt Hold → SpoolsAt Hold
without_idles s = record s { kept = filter (is_busy s) s.kept }
