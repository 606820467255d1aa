use Rattle.nc_scribe.proofs.Deeds.{facts_more}
use Rattle.nc_scribe.proofs.scribe.Scribe.tell_facts.Goals as goal

pub loop-fact-preserved : goal.loop-fact-preserved
loop-fact-preserved g c = record {
  tells = facts_more c.args.cause c.loop-fact.yielded c.in-Some.fact c.args.self.now c.loop-fact.self c.tell_fact.new.self c.loop-fact.invariant.tells c.in_ok-tell_fact.ensures.tells;
  own = λ held own. c.in_ok-tell_fact.ensures.own held (c.loop-fact.invariant.own held own);
}
