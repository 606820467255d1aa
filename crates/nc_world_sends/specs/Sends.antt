-- Lawful sends and starts of reached worlds.
use Rattle.std.specs.Prelude.{ℕ, List}
use Rattle.nc_journal.specs.History.{Along}
use Rattle.nc_journal.specs.Sending.{IsSentLawfully, IsStartedLawfully}
use Rattle.nc_journal.specs.declared.event.Event.{Event}
use Rattle.nc_worker_state.specs.Setup.{Setup}
use Rattle.nc_world.specs.World.{World}
use Rattle.nc_world.specs.Reached.{IsSetup, Reached}
use Rattle.nc_sends.specs.GoodSends.{IsGoodSend}
use Rattle.nc_starts.specs.Starts.{StartedThen}
use Rattle.nc_exact.specs.Carried.{Carried, Promised}

-- each send and each start was lawful when it was made
pub record SendsSo (workers : ℕ) (h : List Event) : Type 0 where
  pub sent : Along (IsGoodSend workers) h
  pub started : Along (StartedThen workers) h

abbrev pub HistoriesSendSo : Type 0
HistoriesSendSo = (setup : Setup) (h : List Event) (world : World) → IsSetup setup → Reached setup h world → SendsSo setup.workers h

-- so all that promises rest on is carried by each history
abbrev pub HistoriesCarry : Type 0
HistoriesCarry = (setup : Setup) (h : List Event) (world : World) → IsSetup setup → Reached setup h world → Carried setup.workers h

-- and each history keeps its promises: sends and starts are lawful, fences stay, what sends rest on was taken, ids rise, and cursors are exact
abbrev pub HistoriesPromise : Type 0
HistoriesPromise = (setup : Setup) (h : List Event) (world : World) → IsSetup setup → Reached setup h world → Promised setup.workers h

-- in one word of the journal's rules: what is sent is sent lawfully
abbrev pub HistoriesSendLawfully : Type 0
HistoriesSendLawfully = (setup : Setup) (h : List Event) (world : World) → IsSetup setup → Reached setup h world → IsSentLawfully setup.workers h

-- and so is each start, before the oldest message, behind the newest ones or behind a given id
abbrev pub HistoriesStartLawfully : Type 0
HistoriesStartLawfully = (setup : Setup) (h : List Event) (world : World) → IsSetup setup → Reached setup h world → IsStartedLawfully setup.workers h
