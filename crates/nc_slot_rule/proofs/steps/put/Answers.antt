use Rattle.nc_slot_rule.proofs.Allowed.{put_allowed}
use Rattle.nc_slot_rule.proofs.steps.put.Goals as goal

pub swap-requires : goal.swap-requires
swap-requires c = (c.requires.at.0, c.requires.at.1, put_allowed c.args.words.now.shared.table_id.slots c.args.pass.now.id c.args.word c.args.pass.now.me c.requires.slot.0 c.requires.slot.1)
