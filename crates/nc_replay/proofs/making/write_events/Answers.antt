use Rattle.nc_journal.specs.Text.{lines_text}
use Rattle.nc_replay.proofs.Flows.{adds-none, always-err}
use Rattle.nc_replay.proofs.making.write_events.Goals as goal

pub returns-in_err-text-clause-prefix : goal.returns-in_err-text-clause-prefix
returns-in_err-text-clause-prefix g c = always-err _ _ (adds-none (lines_text c.args.events.now.events) (g.K.Sink.taken c.args.out.now))
