use Rattle.nc_slot_rule.proofs.Allowed.{unbuffer_allowed}
use Rattle.nc_slot_rule.proofs.steps.unbuffer.Goals as goal

pub fetch_sub-requires : goal.fetch_sub-requires
fetch_sub-requires c = (c.requires.at.0, c.requires.at.1, unbuffer_allowed c.args.words.now.shared.table_id.slots c.args.pass.now.id c.args.word c.args.pass.now.me c.requires.slot.0 c.requires.slot.1)
