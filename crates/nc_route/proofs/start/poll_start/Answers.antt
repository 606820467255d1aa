use Rattle.std.proofs.Common.{sym, ◌∙◌, ap, subst, ◌≡◌, Some}
use Rattle.std.specs.Prelude.{codes, IfOk}
use Rattle.std.specs.Option.{option_copied}
use Rattle.nc_types.specs.declared.start.Start.{Start}
use Rattle.nc_accept.specs.Fields.{first, values}
use Rattle.nc_route.specs.Begin.{Given, given_by_date, given_by_poll, poll_given, IsGivenStart}
use Rattle.nc_route.proofs.start.poll_start.Goals as goal

pub returns-clause-ok : goal.returns-clause-ok
returns-clause-ok c =
    let settings = c.args.settings.now in
    let fields = c.as_slice-fields.result.now in
    let dates : Some c.in-Some.date.now ≡ first (values (codes "If-Modified-Since") fields) = sym (ap option_copied c.in-Some.is) ∙ c.first_value.ensures in
    let given : given_by_date c.in-Some.date.now (option_copied c.first_value-2.result) ≡ poll_given c.args.request.now =
    ap (given_by_date c.in-Some.date.now) c.first_value-2.ensures
    ∙ ap (λ o. given_by_poll o (first (values (codes "If-None-Match") fields))) dates
    ∙ ap (λ f. given_by_poll (first (values (codes "If-Modified-Since") f)) (first (values (codes "If-None-Match") f))) c.as_slice-fields.ensures in
    subst (λ (g : Given). IfOk c.dated.result (λ (start : Start). IsGivenStart settings c.args.n g start)) given (c.dated.ensures.ok settings)
