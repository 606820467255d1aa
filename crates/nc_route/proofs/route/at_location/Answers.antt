use Rattle.std.proofs.Common.{rules, sym, ◌∙◌, ap, subst, ◌≡◌, ℕ, length, List, Some, false}
use Rattle.std.specs.Prelude.{nat_lt}
use Rattle.nc_multi.specs.Names.{IsListOf, IsRefused}
use Rattle.nc_route.specs.Query.{ids_of}
use Rattle.nc_route.specs.Rules.{kind_of}
use Rattle.nc_route.proofs.Steps.{listed, ids_refused, a_kind, not_more, fits, err_of}
use Rattle.nc_route.specs.Steps.{KeepsBodyAndMethod}
use Rattle.nc_route.proofs.route.at_location.Goals as goal

pub returns-in-Ok-clause-decided : goal.returns-in-Ok-clause-decided
returns-in-Ok-clause-decided c =
    let l = c.args.location.now in
    let q = c.args.request.now in
    let short : nat_lt l.settings.max_body (length q.body) ≡ false = search rules in
    let kind : kind_of l q.method ≡ Some c.in-Some.kind = sym (c.kind_of.ensures ∙ ap (kind_of l) c.as_slice.ensures) ∙ c.in-Some.is in
    let ids : c.as_slice-2.result.now ≡ ids_of l q = search rules in
    listed l q c.in-Ok.list c.with_list.result (not_more l.settings.max_body (length q.body) short) (a_kind (kind_of l q.method) c.in-Some.kind kind)
    (subst (λ (names : List (List ℕ)). IsListOf names l.settings.max_name 7 c.in-Ok.list) ids c.in-Ok.ensures.ok) c.with_list.ensures

pub returns-clause-decided : goal.returns-clause-decided
returns-clause-decided c =
    let l = c.args.location.now in
    let q = c.args.request.now in
    let short : nat_lt l.settings.max_body (length q.body) ≡ false = search rules in
    let kind : kind_of l q.method ≡ Some c.in-Some.kind = sym (c.kind_of.ensures ∙ ap (kind_of l) c.as_slice.ensures) ∙ c.in-Some.is in
    let ids : c.as_slice-2.result.now ≡ ids_of l q = search rules in
    ids_refused l q c.in-Err.refusal c.refuse_ids.result (not_more l.settings.max_body (length q.body) short) (a_kind (kind_of l q.method) c.in-Some.kind kind)
    (subst (λ (names : List (List ℕ)). IsRefused names l.settings.max_name 7 c.in-Err.refusal) ids c.in-Err.ensures.err) c.refuse_ids.ensures

pub returns-in-Ok-clause-wanting : goal.returns-in-Ok-clause-wanting
returns-in-Ok-clause-wanting c =
    let l = c.args.location.now in
    let q = c.args.request.now in
    let short : nat_lt l.settings.max_body (length q.body) ≡ false = search rules in
    let kind : kind_of l q.method ≡ Some c.in-Some.kind = sym (c.kind_of.ensures ∙ ap (kind_of l) c.as_slice.ensures) ∙ c.in-Some.is in
    err_of (KeepsBodyAndMethod l q) c.with_list.result (fits l q c.in-Some.kind short kind)

pub returns-clause-wanting : goal.returns-clause-wanting
returns-clause-wanting c =
    let l = c.args.location.now in
    let q = c.args.request.now in
    let short : nat_lt l.settings.max_body (length q.body) ≡ false = search rules in
    let kind : kind_of l q.method ≡ Some c.in-Some.kind = sym (c.kind_of.ensures ∙ ap (kind_of l) c.as_slice.ensures) ∙ c.in-Some.is in
    err_of (KeepsBodyAndMethod l q) c.refuse_ids.result (fits l q c.in-Some.kind short kind)
