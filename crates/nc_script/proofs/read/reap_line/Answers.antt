use Rattle.std.proofs.Common.{inl, inr}
use Rattle.std.proofs.lemmas.Result.{err_from_is_err_and}
use Rattle.nc_script.specs.Line.{reap_line}
use Rattle.nc_script.specs.Part.{worker}
use Rattle.nc_script.proofs.Judging.{by_rule, broken}
use Rattle.nc_script.proofs.read.reap_line.Goals as goal

pub returns-in_err-w : goal.returns-in_err-w
returns-in_err-w c =
    let p = err_from_is_err_and c.from_residual-in_err-w.result c.from_residual-in_err-w.ensures.1 in
    rw (p.1, p.2) (by_rule (reap_line c.args.workers c.args.text.now) _ (λ rule at is.
    inr (c.in_ok-word.word, c.in_ok-word.ensures, inr (c.in_ok-n.n, c.in_ok-n.ensures, inl (broken (worker c.args.workers c.in_ok-word.word c.in_ok-n.n) _ rule at is c.in_err-w.ensures)))))
