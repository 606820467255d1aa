use Rattle.nc_replay.specs.Top.{accepted_text}
use Rattle.nc_replay.proofs.Flows.{always-err, adds-none}
use Rattle.nc_replay.proofs.answer.write_accepted.Goals as goal

pub returns-in_err-text-clause-prefix : goal.returns-in_err-text-clause-prefix
returns-in_err-text-clause-prefix g c = always-err _ _ (adds-none (accepted_text c.args.config.now) (g.K.Sink.taken c.args.out.now))
