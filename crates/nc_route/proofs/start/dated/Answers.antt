use Rattle.std.proofs.Common.{sym, ◌∙◌, ap, subst, ◌≡◌}
use Rattle.std.specs.Option.{option_copied}
use Rattle.std.proofs.lemmas.Result.{err_from_is_err_and}
use Rattle.nc_types.specs.declared.start.Start.TheVariants as starts
use Rattle.nc_route.specs.Begin.{Given, given_by_date, IsGivenStart}
use Rattle.nc_route.specs.Begin.Given.{DateAndTags}
use Rattle.nc_route.specs.declared.start.StartRefusal.{StartRefusal}
use Rattle.nc_route.proofs.Starts.{told, no_date, tags_refused, tags_started}
use Rattle.nc_route.proofs.start.dated.Goals as goal
use Rattle.nc_route.specs.Steps.{IsNoStart, unread}

pub returns-in_default-clause-err : goal.returns-in_default-clause-err
returns-in_default-clause-err c = no_date c.args.n c.args.date.now (option_copied c.args.tags) (c.in_default.ensures.none)

pub blank-requires-clause-time : goal.blank-requires-clause-time
blank-requires-clause-time c = c.in-Some.ensures.within

pub read_tags-requires : goal.read_tags-requires
read_tags-requires c = c.in-Some.ensures.within

pub returns-in_err-read_tags-in-Some-tags-clause-err : goal.returns-in_err-read_tags-in-Some-tags-clause-err
returns-in_err-read_tags-in-Some-tags-clause-err c =
    let n = c.args.n in
    let date = c.args.date.now in
    let text = c.tags_in.result.now in
    let refusal = c.in_err-read_tags-in-Some-tags.field-0.0 in
    let r = c.from_residual-in_err-read_tags-in-Some-tags in
    let p = err_from_is_err_and r.result r.ensures.1 in
    let given : DateAndTags date text ≡ given_by_date date (option_copied c.args.tags) = ap (DateAndTags date) c.tags_in.ensures ∙ sym (ap (λ o. given_by_date date (option_copied o)) c.in-Some-tags.is) in
    told (λ (x : StartRefusal). IsNoStart n (given_by_date date (option_copied c.args.tags)) x) r.result p.0 (unread refusal) p.1 p.2
    (subst (λ (g : Given). IsNoStart n g (unread refusal)) given (tags_refused n date text c.in-Some.time refusal c.in-Some.ensures.some c.in_err-read_tags-in-Some-tags.ensures.err))

pub returns-in_ok-read_tags-in-Some-tags-clause-ok : goal.returns-in_ok-read_tags-in-Some-tags-clause-ok
returns-in_ok-read_tags-in-Some-tags-clause-ok c settings =
    let n = c.args.n in
    let date = c.args.date.now in
    let text = c.tags_in.result.now in
    let cursor = c.in_ok-read_tags-in-Some-tags.field-0 in
    let ok = c.in_ok-read_tags-in-Some-tags.ensures.ok in
    let given : DateAndTags date text ≡ given_by_date date (option_copied c.args.tags) = ap (DateAndTags date) c.tags_in.ensures ∙ sym (ap (λ o. given_by_date date (option_copied o)) c.in-Some-tags.is) in
    subst (λ (g : Given). IsGivenStart settings n g (starts.Given cursor)) given (tags_started settings n date text c.in-Some.time cursor c.in-Some.ensures.some ok.0 ok.1 ok.2)
