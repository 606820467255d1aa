use Rattle.nc_slot_rule.proofs.Allowed.{poll_allowed}
use Rattle.nc_slot_rule.proofs.steps.load.Goals as goal

pub load-requires : goal.load-requires
load-requires c = (c.requires.at.0, c.requires.at.1, poll_allowed c.args.words.now.shared.table_id.slots c.args.pass.now.id c.args.word c.args.pass.now.me c.requires.slot)
