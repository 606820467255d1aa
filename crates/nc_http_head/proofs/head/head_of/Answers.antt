use Rattle.std.proofs.Common.{sym, subst}
use Rattle.nc_types.specs.declared.request.Request.{Request}
use Rattle.nc_http_head.specs.Heads.{AreOneLine}
use Rattle.nc_http_head.proofs.Lines.{head_lines}
use Rattle.nc_http_head.proofs.head.head_of.Goals as goal

pub returns-in_ok-request_at-in-Some-clause-lines : goal.returns-in_ok-request_at-in-Some-clause-lines
returns-in_ok-request_at-in-Some-clause-lines c =
    let h = c.in-Some.ensures.some in
    subst (λ (q : Request). AreOneLine q.fields) (sym (c.in_ok-request_at-in-Some.ensures h.0 h.2)) (head_lines c.args.text.now h.0 h.1)
