use Rattle.std.proofs.Common.{◌∙◌}
use Rattle.nc_slot_rule.proofs.Allowed.{grant_allowed, to_hold, at_least_one}
use Rattle.nc_slot_rule.proofs.steps.grant.Goals as goal

pub fetch_add-requires : goal.fetch_add-requires
fetch_add-requires c = (c.requires.at.0, c.requires.at.1, grant_allowed c.args.words.now.shared.table_id.slots c.args.pass.now.id c.args.word c.args.pass.now.me c.requires.slot.0 c.requires.slot.1 c.requires.idle)

pub split_seat-requires : goal.split_seat-requires
split_seat-requires c = (c.fetch_add.ensures.0 ∙ c.requires.at.0, at_least_one _ _ c.requires.at.1, to_hold c.fetch_add.new.seat.id c.fetch_add.new.seat.me.0)
