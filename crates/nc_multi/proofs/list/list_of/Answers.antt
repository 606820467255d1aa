use Rattle.std.proofs.Common.{arith, ap, sym, subst, length}
use Rattle.std.proofs.lemmas.Bool.{eqb-false}
use Rattle.nc_types.specs.Channel.{AreDistinct}
use Rattle.nc_multi.proofs.Distinct.{are-distinct, some-distinct}
use Rattle.nc_multi.proofs.list.list_of.Goals as goal

pub invariant_of-result : goal.invariant_of-result
invariant_of-result c =
    let e = c.in_ok-names.ensures in
    let some = eqb-false (length c.args.names.now) 0 (sym c.if-is_empty.ensures) in
    (omega (arith, ap length e, some-distinct c.args.names.now (omega (arith, some))), subst AreDistinct (sym e) (are-distinct c.args.names.now))
