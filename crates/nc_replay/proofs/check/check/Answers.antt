use Rattle.std.proofs.Common.{Err, ap}
use Rattle.nc_replay.specs.declared.making.Stop.{Stop}
use Rattle.nc_replay.proofs.Verdicts.{cut-off}
use Rattle.nc_replay.proofs.check.check.Goals as goal

pub returns-in-Err-Sink-clause-cut_off : goal.returns-in-Err-Sink-clause-cut_off
returns-in-Err-Sink-clause-cut_off g c = λ e. cut-off c.in-Ok.text.items c.deref.result.now _ _ _ _ _ _ c.in-Ok.ensures.whole c.deref.ensures.value (c.in-Err-Sink.ensures.cut_off (ap (λ (s : Stop). Err s) c.in-Err-Sink.field-0-is))
