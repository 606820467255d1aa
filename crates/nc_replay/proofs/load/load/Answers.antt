use Rattle.std.proofs.Common.{Err, ap}
use Rattle.nc_replay.specs.declared.making.Stop.{Stop}
use Rattle.nc_replay.proofs.Loads.{counted_ends, refused_ends, misconfigured_ends, worn_ends, cut_ends, lacking_ends}
use Rattle.nc_replay.proofs.load.load.Goals as goal

pub returns-in-Ok-Counted-clause-ends : goal.returns-in-Ok-Counted-clause-ends
returns-in-Ok-Counted-clause-ends g c = counted_ends c.args.seed c.args.size _ _ c.in-Ok-Counted.field-0 c.in-Ok-Counted.field-0-is c.in-Ok-Counted.ensures.loaded

pub returns-in-Ok-Refused-clause-ends : goal.returns-in-Ok-Refused-clause-ends
returns-in-Ok-Refused-clause-ends g c = refused_ends c.args.seed c.args.size _ _ c.in-Ok-Refused.field-0 c.in-Ok-Refused.field-0-is c.in-Ok-Refused.ensures.loaded

pub returns-in-Ok-Misconfigured-clause-ends : goal.returns-in-Ok-Misconfigured-clause-ends
returns-in-Ok-Misconfigured-clause-ends g c = misconfigured_ends c.args.seed c.args.size _ _ c.in-Ok-Misconfigured.field-0 c.in-Ok-Misconfigured.field-0-is c.in-Ok-Misconfigured.ensures.loaded

pub returns-in-Ok-WornOut-clause-ends : goal.returns-in-Ok-WornOut-clause-ends
returns-in-Ok-WornOut-clause-ends g c = worn_ends c.args.seed c.args.size _ _ c.in-Ok-WornOut.field-0 c.in-Ok-WornOut.field-0-is c.in-Ok-WornOut.ensures.loaded

pub returns-in-Err-Sink-clause-ends : goal.returns-in-Err-Sink-clause-ends
returns-in-Err-Sink-clause-ends g c = cut_ends c.args.seed c.args.size _ _ (c.in-Err-Sink.ensures.cut_off (ap (λ (s : Stop). Err s) c.in-Err-Sink.field-0-is))

pub returns-in-Err-NoMemory-clause-ends : goal.returns-in-Err-NoMemory-clause-ends
returns-in-Err-NoMemory-clause-ends g c = lacking_ends c.args.seed c.args.size _ _ (c.in-Err-NoMemory.ensures.unwritten (ap (λ (s : Stop). Err s) c.in-Err-NoMemory.field-0-is))
