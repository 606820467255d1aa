use Rattle.nc_scribe.proofs.Making.{waits_more, own_made}
use Rattle.nc_scribe.proofs.scribe.make_into.Goals as goal

pub returns-clause-waits : goal.returns-clause-waits
returns-clause-waits g c = waits_more c.args.me c.args.outgoing c.args.outboxes.now c.post.new.self c.in_ok-event.ensures.packets

pub returns-clause-own : goal.returns-clause-own
returns-clause-own g c = λ held granted own. own_made held c.args.me c.args.outgoing c.args.outboxes.now c.post.new.self c.in_ok-event.ensures.packets granted own
