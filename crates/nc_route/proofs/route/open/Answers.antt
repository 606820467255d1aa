use Rattle.std.proofs.Common.{rules, sym, ◌∙◌, ap, subst, ◌≡◌, ℕ, true, length, List, Option}
use Rattle.nc_accept.specs.declared.opening.Opening.{Opening}
use Rattle.nc_accept.specs.Opening.{IsOpening}
use Rattle.nc_route.specs.declared.decision.Decision.TheVariants as decisions
use Rattle.nc_route.specs.Begin.{given, IsGivenStart}
use Rattle.nc_route.specs.Rules.{names_of, subscription_rules}
use Rattle.nc_route.proofs.Steps.{socket_started, socket_refused}
use Rattle.nc_route.proofs.route.open.Goals as goal
use Rattle.nc_route.specs.Steps.{IsNoStart, Opens, DecidesAt}

pub returns-in-Ok : goal.returns-in-Ok
returns-in-Ok c =
    let l = c.args.location.now in
    let q = c.args.request.now in
    let n : c.len.result ≡ length (names_of l q) = c.len.ensures ∙ ap length (c.list.view_is ∙ c.requires.list) in
    let has : l.socket ≡ true = search rules in
    let fit : IsOpening q.fields c.in-Some.opening = subst (λ (o : Option Opening). Opens q o) c.in-Some.is c.in_ok-opening.ensures in
    let is : IsGivenStart l.settings (length (names_of l q)) (given q) c.in-Ok.start = subst (λ (k : ℕ). IsGivenStart l.settings k (given q) c.in-Ok.start) n c.in-Ok.ensures.ok in
    subst (λ (names : List (List ℕ)). DecidesAt subscription_rules l q (decisions.Socket names c.in-Ok.start l.settings c.in-Some.opening)) (sym c.requires.list)
    (socket_started l q c.in-Some.opening c.in-Ok.start c.requires.kind c.requires.way has fit is)

pub returns-in-Err : goal.returns-in-Err
returns-in-Err c =
    let l = c.args.location.now in
    let q = c.args.request.now in
    let n : c.len.result ≡ length (names_of l q) = c.len.ensures ∙ ap length (c.list.view_is ∙ c.requires.list) in
    let has : l.socket ≡ true = search rules in
    let fit : IsOpening q.fields c.in-Some.opening = subst (λ (o : Option Opening). Opens q o) c.in-Some.is c.in_ok-opening.ensures in
    let bad : IsNoStart (length (names_of l q)) (given q) c.in-Err.refusal = subst (λ (k : ℕ). IsNoStart k (given q) c.in-Err.refusal) n c.in-Err.ensures.err in
    socket_refused l q c.in-Some.opening c.in-Err.refusal c.refuse_start.result c.requires.kind c.requires.way has fit bad c.refuse_start.ensures
