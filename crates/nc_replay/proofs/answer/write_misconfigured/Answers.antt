use Rattle.nc_replay.specs.Top.{misconfigured_text}
use Rattle.nc_replay.proofs.Flows.{always-err, adds-none}
use Rattle.nc_replay.proofs.answer.write_misconfigured.Goals as goal

pub returns-in_err-text-clause-prefix : goal.returns-in_err-text-clause-prefix
returns-in_err-text-clause-prefix g c = always-err _ _ (adds-none (misconfigured_text c.args.fault) (g.K.Sink.taken c.args.out.now))
