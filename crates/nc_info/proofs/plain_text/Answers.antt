use Rattle.std.proofs.Common.{◌≡◌, ◌++◌, ap, ◌∙◌, codes}
use Rattle.std.specs.Fmt.{decimal}
use Rattle.nc_info.specs.Information.{line_feed, plain_id}
use Rattle.nc_info.proofs.Parts.{plain_parts}
use Rattle.nc_info.proofs.plain_text.Goals as goal

pub returns : goal.returns
returns c =
    plain_parts (codes "queued messages: ") (decimal c.args.info.now.messages) line_feed (codes "active subscribers: ") (decimal c.args.info.now.members) line_feed
    (codes "last message id: ") (plain_id c.args.info.now.last) line_feed _ _ _ _ _ _
    (c.in_ok-put_line.ensures ∙ (ap (λ out. out ++ codes "queued messages: " ++ decimal c.from.result ++ line_feed) c.new-out.ensures.items ∙ ap (λ n. codes "queued messages: " ++ decimal n ++ line_feed) c.from.ensures)) c.in_ok-put_line-2.ensures c.in_ok-put.ensures
    c.in_ok-put_plain_id.ensures c.in_ok-put-2.ensures c.of.ensures
