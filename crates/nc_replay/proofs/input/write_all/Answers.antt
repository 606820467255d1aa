use Rattle.std.proofs.Common.{inl, ◌∙◌, arith}
use Rattle.nc_replay.proofs.Flows.{adds_before_more}
use Rattle.nc_replay.proofs.input.write_all.Goals as goal

pub loop-rest-preserved : goal.loop-rest-preserved
loop-rest-preserved g c = record {
  written = adds_before_more c.loop-rest.rest.now c.args.text.now c.min.result c.in_ok-n.n _ _ _ c.loop-rest.invariant.written c.in_ok-n.ensures.within c.in_ok-n.ensures.added;
  no_fault = c.in_ok-n.ensures.no_fault ∙ c.loop-rest.invariant.no_fault;
  no_refusal = c.in_ok-n.ensures.something (inl (omega arith)) ∙ c.loop-rest.invariant.no_refusal;
}
