use Rattle.std.proofs.Common.{length, not, ◌||◌, is_some, slice_get}
use Rattle.std.specs.Prelude.{nat_lt}
use Rattle.nc_conf.specs.Faults.{fault_if, same_bool, too_many}
use Rattle.nc_conf.proofs.First.{in_two}
use Rattle.nc_conf.proofs.judge.miscounted.Goals as goal

pub returns : goal.returns
returns c =
    let row = c.args.row in
    let d = c.args.d.now in
    let many = rw c.as_slice.ensures at c.too_many-first.ensures in
    let few = rw c.is_short.ensures at c.first_if.ensures in
    in_two c.args.first c.too_many-first.result c.first_if.result (too_many (slice_get d.args row.most)) (fault_if (nat_lt (length d.args) row.least || not (same_bool (is_some row.opens) d.block)) 6 d.end) many few
