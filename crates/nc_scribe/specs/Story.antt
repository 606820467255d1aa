-- What a worker tells in a step.
use Rattle.std.specs.Prelude.{ℕ, List, ◌++◌}
use Rattle.nc_journal.specs.declared.event.Event.{Event}
use Rattle.nc_history.specs.Packets.{Packet}
use Rattle.nc_worker_state.specs.Deed.{next_after}
use Rattle.nc_worker_state.specs.Worker.{sent_to}

-- the events so far, the number of the next packet to each worker, and the packets to each that weren't carried yet
pub record Story : Type 0 where
  pub events : List Event
  pub next : ℕ → ℕ
  pub outbox : ℕ → List Packet

-- what some events make waits behind the rest
abbrev pub sent_on : (ℕ → List Packet) → List Event → ℕ → List Packet
sent_on outbox es to = outbox to ++ sent_to to es

-- some events more
abbrev pub went_on : Story → List Event → Story
went_on s es = record { events = s.events ++ es; next = next_after s.next es; outbox = sent_on s.outbox es }
