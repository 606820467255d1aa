use Rattle.std.proofs.Common.{inl, subst}
use Rattle.nc_worker_state.specs.Setup.{setup_of}
use Rattle.nc_replay.specs.Script.{lines_of}
use Rattle.nc_replay.specs.Run.{EndsLines}
use Rattle.nc_replay.specs.declared.making.Ending.{Ending}
use Rattle.nc_replay.proofs.Flows.{always-err}
use Rattle.nc_replay.proofs.Ends.{cuts-off, stops-later, fault-cut, fault-written}
use Rattle.nc_replay.proofs.command.replay_text.Goals as goal

pub returns-in_err-replay_lines-clause-some : goal.returns-in_err-replay_lines-clause-some
returns-in_err-replay_lines-clause-some g c =
    always-err _ _ (inl (cuts-off c.args.first c.args.script.now c.in-Ok.plan.lines.now c.in-Ok.plan.config c.in-Ok.plan.before _ _ c.in-Ok.ensures.plan c.in_err-replay_lines.ensures.some))

pub returns-in_err-write_fault-in-Faulty-clause-some : goal.returns-in_err-write_fault-in-Faulty-clause-some
returns-in_err-write_fault-in-Faulty-clause-some g c =
    let until = subst (EndsLines (setup_of c.in-Ok.plan.config c.args.first) c.in-Ok.plan.before (lines_of c.in-Ok.plan.lines.now) (g.K.Sink.taken c.args.out.now) (g.K.Sink.taken c.replay_lines.new.out)) c.in-Faulty.is c.in_ok-replay_lines.ensures.ends in
    let stops = stops-later c.args.first c.args.script.now c.in-Ok.plan.lines.now c.in-Ok.plan.config c.in-Ok.plan.before _ _ c.in-Ok.ensures.plan c.in-Faulty.fault until in
    always-err _ _ (fault-cut c.args.first _ _ _ _ c.in-Faulty.fault stops c.in_err-write_fault-in-Faulty.ensures.prefix)

pub returns-in_ok-write_fault-in-Faulty-clause-end : goal.returns-in_ok-write_fault-in-Faulty-clause-end
returns-in_ok-write_fault-in-Faulty-clause-end g c =
    let until = subst (EndsLines (setup_of c.in-Ok.plan.config c.args.first) c.in-Ok.plan.before (lines_of c.in-Ok.plan.lines.now) (g.K.Sink.taken c.args.out.now) (g.K.Sink.taken c.replay_lines.new.out)) c.in-Faulty.is c.in_ok-replay_lines.ensures.ends in
    let stops = stops-later c.args.first c.args.script.now c.in-Ok.plan.lines.now c.in-Ok.plan.config c.in-Ok.plan.before _ _ c.in-Ok.ensures.plan c.in-Faulty.fault until in
    fault-written c.args.first _ _ _ _ c.in-Faulty.fault stops c.in_ok-write_fault-in-Faulty.ensures.whole
