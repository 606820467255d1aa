use Rattle.std.proofs.Common.{◌≡◌, ℕ, List, take, ap, ◌∙◌}
use Rattle.nc_http_head.specs.Heads.{query_of, path_len}
use Rattle.nc_http_head.proofs.Requests as requests
use Rattle.nc_http_head.proofs.head.request_at.Goals as goal

pub returns : goal.returns
returns c h at =
    let target : c.of-target.result.now ≡ h.target = c.of-target.ensures ∙ at.path in
    requests.same_request h _ _ _ _ _ _ (c.in_ok-copy_of.ensures ∙ (c.of.ensures ∙ at.method))
    (c.in_ok-copy_of-2.ensures ∙ (ap (λ (n : ℕ). take n c.of-target.result.now) c.path_len.ensures.count ∙ ap (λ (t : List ℕ). take (path_len t) t) target))
    (c.in_ok-query_of.ensures ∙ ap query_of target) at.version
    (c.in_ok-fields_at.ensures ∙ requests.same_fields c.args.text.now _ h.fields at.fields) c.new.ensures
