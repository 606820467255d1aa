use Rattle.std.proofs.Common.{inl, inr}
use Rattle.std.proofs.lemmas.Result.{err_from_is_err_and}
use Rattle.nc_script.specs.Line.{two_workers}
use Rattle.nc_script.specs.Part.{number, greatest_number, worker}
use Rattle.nc_script.proofs.Judging.{by_rule, broken}
use Rattle.nc_script.proofs.read.two_workers.Goals as goal

pub returns-in_err-m : goal.returns-in_err-m
returns-in_err-m c =
    let p = err_from_is_err_and c.from_residual-in_err-m.result c.from_residual-in_err-m.ensures.1 in
    rw (p.1, p.2) (by_rule (two_workers c.args.workers c.args.text.now) _ (λ rule at is.
    inr ((c.in_ok-first.first, c.in_ok-first.second), c.in_ok-first.ensures, inr (c.in_ok-n.n, c.in_ok-n.ensures, inl (broken (number greatest_number c.in_ok-first.second) _ rule at is c.in_err-m.ensures)))))

pub returns-in_err-w : goal.returns-in_err-w
returns-in_err-w c =
    let p = err_from_is_err_and c.from_residual-in_err-w.result c.from_residual-in_err-w.ensures.1 in
    rw (p.1, p.2) (by_rule (two_workers c.args.workers c.args.text.now) _ (λ rule at is.
    inr ((c.in_ok-first.first, c.in_ok-first.second), c.in_ok-first.ensures, inr (c.in_ok-n.n, c.in_ok-n.ensures, inr (c.in_ok-m.m, c.in_ok-m.ensures, inl (broken (worker c.args.workers c.in_ok-first.first c.in_ok-n.n) _ rule at is c.in_err-w.ensures))))))

pub returns-in_err-v : goal.returns-in_err-v
returns-in_err-v c =
    let p = err_from_is_err_and c.from_residual-in_err-v.result c.from_residual-in_err-v.ensures.1 in
    rw (p.1, p.2) (by_rule (two_workers c.args.workers c.args.text.now) _ (λ rule at is.
    inr ((c.in_ok-first.first, c.in_ok-first.second), c.in_ok-first.ensures, inr (c.in_ok-n.n, c.in_ok-n.ensures, inr (c.in_ok-m.m, c.in_ok-m.ensures, inr (c.in_ok-w.w, c.in_ok-w.ensures, inl (broken (worker c.args.workers c.in_ok-first.second c.in_ok-m.m) _ rule at is c.in_err-v.ensures)))))))
