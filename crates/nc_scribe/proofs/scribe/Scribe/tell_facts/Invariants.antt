use Rattle.nc_slots.specs.Slots.{HoldAt}
use Rattle.nc_worker_state.specs.Deed.{told}
use Rattle.nc_worker_state.specs.Spooled.{facts_deeds}
use Rattle.nc_outbox.specs.Outboxes.{next_of}
use Rattle.nc_scribe.specs.Scribe.{TellsMore, KeepsOwn}
use Rattle.nc_scribe.proofs.scribe.Scribe.tell_facts.Given as goal

abbrev pub invariant-loop-fact : goal.invariant-loop-fact
invariant-loop-fact g l = record {
  tells : TellsMore l.fn.self l.self (told l.fn.self.me (next_of l.fn.self.outboxes) (facts_deeds l.fn.self.me l.cause l.yielded));
  own : (held : g.row.H.Denot → HoldAt) → KeepsOwn held l.fn.self l.self;
}
