use Rattle.std.proofs.Common.{sym, ◌∙◌, ap}
use Rattle.nc_conf.specs.First.{first_with}
use Rattle.nc_conf.specs.Faults.{fault_if, is_path}
use Rattle.nc_conf.proofs.Known.{again_is}
use Rattle.nc_conf.proofs.judge.again.Goals as goal

pub returns-in-Some : goal.returns-in-Some
returns-in-Some c =
    let broken = rw (c.is_exact.ensures, c.as_slice-args.ensures, c.as_slice.ensures) at c.has_location-broken.ensures in
    let path = rw c.as_slice-args.ensures at c.in-Some.ensures in
    c.first_if.ensures
    ∙ ap (λ b. first_with c.args.first (fault_if b 13 c.in-Some.path.now.at)) broken
    ∙ ap (first_with c.args.first) (sym (again_is c.args.before.now c.args.d.now c.args.row c.in-Some.path.now c.requires (ap is_path c.in-Path.is) (sym path)))
