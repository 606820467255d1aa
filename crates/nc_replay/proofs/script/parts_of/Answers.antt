use Rattle.std.proofs.Common.{refl, arith}
use Rattle.nc_replay.proofs.Parted.{so-far-next, lacks-next, not-by-test}
use Rattle.nc_replay.proofs.script.parts_of.Goals as goal

pub loop-rest-preserved : goal.loop-rest-preserved
loop-rest-preserved c =
    let not = not-by-test c.has_rule.result c.has_rule.ensures c.if-has_rule.false in
    record {
      lacks = lacks-next c.args.script.now c.loop-rest.rest.now c.rest_after-rest.result.now c.loop-rest-test.true not (c.rest_after-rest.ensures.lines c.loop-rest-test.true) c.loop-rest.invariant.lacks;
      so_far = so-far-next c.args.script.now c.loop-rest.rest.now c.rest_after-rest.result.now c.loop-rest.before _ c.loop-rest-test.true not c.rest_after-rest.ensures.rest refl c.loop-rest.invariant.so_far;
      few = omega (arith, c.rest_after-rest.ensures.shorter c.loop-rest-test.true, c.loop-rest.invariant.few);
    }
