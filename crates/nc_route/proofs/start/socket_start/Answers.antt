use Rattle.std.proofs.Common.{sym, ◌∙◌, ap, subst, ◌≡◌}
use Rattle.std.specs.Prelude.{codes}
use Rattle.std.proofs.lemmas.Result.{err_from_is_err_and}
use Rattle.nc_route.specs.Begin.{Given, given_by_socket, socket_given}
use Rattle.nc_route.specs.Begin.Given.{Id}
use Rattle.nc_route.specs.Query.{argument}
use Rattle.nc_route.specs.declared.start.StartRefusal.{StartRefusal}
use Rattle.nc_route.proofs.Starts.{told, id_given, id_refused}
use Rattle.nc_route.proofs.start.socket_start.Goals as goal
use Rattle.nc_route.specs.Steps.{IsNoStart, unread}

pub returns-in_err-read_id-clause-err : goal.returns-in_err-read_id-clause-err
returns-in_err-read_id-clause-err c =
    let n = c.args.n in
    let q = c.args.request.now in
    let id = c.argument-id.result.now in
    let refusal = c.in_err-read_id.field-0.0 in
    let p = err_from_is_err_and c.from_residual.result c.from_residual.ensures.1 in
    let given : Id id ≡ socket_given q = sym (id_given id (c.if-is_empty.ensures)) ∙ ap given_by_socket (c.argument-id.ensures ∙ ap (argument (codes "last_event_id")) c.query_of.ensures) in
    told (λ (x : StartRefusal). IsNoStart n (socket_given q) x) c.from_residual.result p.0 (unread refusal) p.1 p.2
    (subst (λ (g : Given). IsNoStart n g (unread refusal)) given (id_refused n id refusal c.in_err-read_id.ensures.err))
