use Rattle.std.proofs.Common.{ℕ, length, inl, inr, subst, sym, ap, ◌∙◌}
use Rattle.std.proofs.lemmas.Result.{err_from_is_err_and}
use Rattle.nc_script.specs.Line.{poll_line, four_words, Four}
use Rattle.nc_script.specs.Part.{number, worker, list, start}
use Rattle.nc_script.proofs.Judging.{by_rule, broken}
use Rattle.nc_script.proofs.read.poll_line.Goals as goal

pub returns-in_err-k : goal.returns-in_err-k
returns-in_err-k c =
    let p = err_from_is_err_and c.from_residual-in_err-k.result c.from_residual-in_err-k.ensures.1 in
    let says = subst (λ (words : Four). (four_words c.args.text.now).Says words) (sym c.words.view_is) c.in_ok-words.ensures in
    rw (p.1, p.2) (by_rule (poll_line c.args.workers c.args.text.now) _ (λ rule at is.
    inr (record { first = c.words.inside.first; second = c.words.inside.second; third = c.words.inside.third; fourth = c.words.inside.fourth }, says, inr (c.in_ok-n.n, c.in_ok-n.ensures, inl (broken (number 65535 c.words.inside.second) _ rule at is c.in_err-k.ensures)))))

pub returns-in_err-w : goal.returns-in_err-w
returns-in_err-w c =
    let p = err_from_is_err_and c.from_residual-in_err-w.result c.from_residual-in_err-w.ensures.1 in
    let says = subst (λ (words : Four). (four_words c.args.text.now).Says words) (sym c.words.view_is) c.in_ok-words.ensures in
    rw (p.1, p.2) (by_rule (poll_line c.args.workers c.args.text.now) _ (λ rule at is.
    inr (record { first = c.words.inside.first; second = c.words.inside.second; third = c.words.inside.third; fourth = c.words.inside.fourth }, says, inr (c.in_ok-n.n, c.in_ok-n.ensures, inr (c.in_ok-k.k, c.in_ok-k.ensures, inl (broken (worker c.args.workers c.words.inside.first c.in_ok-n.n) _ rule at is c.in_err-w.ensures))))))

pub returns-in_err-list : goal.returns-in_err-list
returns-in_err-list c =
    let p = err_from_is_err_and c.from_residual-in_err-list.result c.from_residual-in_err-list.ensures.1 in
    let says = subst (λ (words : Four). (four_words c.args.text.now).Says words) (sym c.words.view_is) c.in_ok-words.ensures in
    rw (p.1, p.2) (by_rule (poll_line c.args.workers c.args.text.now) _ (λ rule at is.
    inr (record { first = c.words.inside.first; second = c.words.inside.second; third = c.words.inside.third; fourth = c.words.inside.fourth }, says, inr (c.in_ok-n.n, c.in_ok-n.ensures, inr (c.in_ok-k.k, c.in_ok-k.ensures, inr (c.in_ok-w.w, c.in_ok-w.ensures, inl (broken (list c.words.inside.third) _ rule at is c.in_err-list.ensures)))))))

pub returns-in_err-start : goal.returns-in_err-start
returns-in_err-start c =
    let p = err_from_is_err_and c.from_residual-in_err-start.result c.from_residual-in_err-start.ensures.1 in
    let says = subst (λ (words : Four). (four_words c.args.text.now).Says words) (sym c.words.view_is) c.in_ok-words.ensures in
    rw (p.1, p.2) (by_rule (poll_line c.args.workers c.args.text.now) _ (λ rule at is.
    let broke = subst (λ (n : ℕ). (start n c.words.inside.fourth).Breaks rule at) (c.len.ensures ∙ ap length c.list-2.view_is) (broken (start c.len.result c.words.inside.fourth) _ rule at is c.in_err-start.ensures) in
    inr (record { first = c.words.inside.first; second = c.words.inside.second; third = c.words.inside.third; fourth = c.words.inside.fourth }, says, inr (c.in_ok-n.n, c.in_ok-n.ensures, inr (c.in_ok-k.k, c.in_ok-k.ensures, inr (c.in_ok-w.w, c.in_ok-w.ensures, inr (c.in_ok-list.list, c.in_ok-list.ensures, inl broke)))))))
