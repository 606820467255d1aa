use Rattle.std.proofs.Common.{inl, inr}
use Rattle.std.proofs.lemmas.Result.{err_from_is_err_and}
use Rattle.nc_types.specs.Id.{latest_clock}
use Rattle.nc_script.specs.Line.{clock_line}
use Rattle.nc_script.specs.Part.{number, worker}
use Rattle.nc_script.proofs.Judging.{by_rule, broken}
use Rattle.nc_script.proofs.read.clock_line.Goals as goal

pub returns-in_err-t : goal.returns-in_err-t
returns-in_err-t c =
    let p = err_from_is_err_and c.from_residual-in_err-t.result c.from_residual-in_err-t.ensures.1 in
    rw (p.1, p.2) (by_rule (clock_line c.args.workers c.args.text.now) _ (λ rule at is.
    inr ((c.in_ok-first.first, c.in_ok-first.second), c.in_ok-first.ensures, inr (c.in_ok-n.n, c.in_ok-n.ensures, inl (broken (number latest_clock c.in_ok-first.second) _ rule at is c.in_err-t.ensures)))))

pub returns-in_err-w : goal.returns-in_err-w
returns-in_err-w c =
    let p = err_from_is_err_and c.from_residual-in_err-w.result c.from_residual-in_err-w.ensures.1 in
    rw (p.1, p.2) (by_rule (clock_line c.args.workers c.args.text.now) _ (λ rule at is.
    inr ((c.in_ok-first.first, c.in_ok-first.second), c.in_ok-first.ensures, inr (c.in_ok-n.n, c.in_ok-n.ensures, inr (c.in_ok-t.t, c.in_ok-t.ensures, inl (broken (worker c.args.workers c.in_ok-first.first c.in_ok-n.n) _ rule at is c.in_err-w.ensures))))))
