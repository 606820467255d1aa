use Rattle.std.proofs.Common.{◌≡◌, ◌++◌, ap, ◌∙◌, codes}
use Rattle.std.specs.Fmt.{decimal}
use Rattle.nc_info.specs.Information.{json_id}
use Rattle.nc_info.proofs.Parts.{json_parts}
use Rattle.nc_info.proofs.json_text.Goals as goal

pub returns : goal.returns
returns c =
    json_parts (codes "{\"messages\": ") (decimal c.args.info.now.messages) (codes ", \"subscribers\": ") (decimal c.args.info.now.members)
    (codes ", \"last_message_id\": ") (json_id c.args.info.now.last) (codes "}") _ _ _ _ _ _
    (c.in_ok-put_number.ensures ∙ (ap (λ out. out ++ codes "{\"messages\": " ++ decimal c.from.result) c.new-out.ensures.items ∙ ap (λ n. codes "{\"messages\": " ++ decimal n) c.from.ensures)) c.in_ok-put_number-2.ensures c.in_ok-put.ensures
    c.in_ok-put_json_id.ensures c.in_ok-put-2.ensures c.of.ensures
