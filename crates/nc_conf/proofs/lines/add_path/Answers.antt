use Rattle.std.proofs.Common.{refl, sym}
use Rattle.nc_conf.proofs.Known.{path_with}
use Rattle.nc_conf.proofs.lines.add_path.Goals as goal

pub returns-in_ok-insert : goal.returns-in_ok-insert
returns-in_ok-insert c = λ ds h. path_with c.args.exact ds c.args.d.now c.in-Some.path.now (record { block = c.args.d.now.within; text = c.as_slice.result }) c.args.paths.now c.insert.new.self (sym c.in-Some.ensures) refl c.as_slice.ensures c.in_ok-insert.ensures.updates h
