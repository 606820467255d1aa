use Rattle.std.proofs.Common.{inl, inr, subst, sym}
use Rattle.std.proofs.lemmas.Result.{err_from_is_err_and}
use Rattle.nc_script.specs.Line.{post_line, two_words_and_text, Quoting}
use Rattle.nc_script.specs.Part.{worker, body, name}
use Rattle.nc_script.proofs.Judging.{by_rule, broken}
use Rattle.nc_script.proofs.read.post_line.Goals as goal

pub returns-in_err-w : goal.returns-in_err-w
returns-in_err-w c =
    let p = err_from_is_err_and c.from_residual-in_err-w.result c.from_residual-in_err-w.ensures.1 in
    let says = subst (λ (words : Quoting). (two_words_and_text c.args.text.now).Says words) (sym c.words.view_is) c.in_ok-words.ensures in
    rw (p.1, p.2) (by_rule (post_line c.args.workers c.args.text.now) _ (λ rule at is.
    inr (record { first = c.words.inside.first; second = c.words.inside.second; quoted = c.words.inside.quoted }, says, inr (c.in_ok-n.n, c.in_ok-n.ensures, inl (broken (worker c.args.workers c.words.inside.first c.in_ok-n.n) _ rule at is c.in_err-w.ensures)))))

pub returns-in_err-body : goal.returns-in_err-body
returns-in_err-body c =
    let p = err_from_is_err_and c.from_residual-in_err-body.result c.from_residual-in_err-body.ensures.1 in
    let says = subst (λ (words : Quoting). (two_words_and_text c.args.text.now).Says words) (sym c.words.view_is) c.in_ok-words.ensures in
    rw (p.1, p.2) (by_rule (post_line c.args.workers c.args.text.now) _ (λ rule at is.
    inr (record { first = c.words.inside.first; second = c.words.inside.second; quoted = c.words.inside.quoted }, says, inr (c.in_ok-n.n, c.in_ok-n.ensures, inr (c.in_ok-w.w, c.in_ok-w.ensures, inl (broken (body c.words.inside.quoted) _ rule at is c.in_err-body.ensures))))))

pub returns-in_err-bytes : goal.returns-in_err-bytes
returns-in_err-bytes c =
    let p = err_from_is_err_and c.from_residual-in_err-bytes.result c.from_residual-in_err-bytes.ensures.1 in
    let says = subst (λ (words : Quoting). (two_words_and_text c.args.text.now).Says words) (sym c.words.view_is) c.in_ok-words.ensures in
    rw (p.1, p.2) (by_rule (post_line c.args.workers c.args.text.now) _ (λ rule at is.
    inr (record { first = c.words.inside.first; second = c.words.inside.second; quoted = c.words.inside.quoted }, says, inr (c.in_ok-n.n, c.in_ok-n.ensures, inr (c.in_ok-w.w, c.in_ok-w.ensures, inr (c.in_ok-body.body, c.in_ok-body.ensures, inl (broken (name c.words.inside.second) _ rule at is c.in_err-bytes.ensures)))))))
