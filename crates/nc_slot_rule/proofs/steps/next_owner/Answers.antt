use Rattle.nc_slot_rule.proofs.Allowed.{to_owner}
use Rattle.nc_slot_rule.proofs.steps.next_owner.Goals as goal

pub split_seat-requires : goal.split_seat-requires
split_seat-requires c = (c.requires.at.0, c.requires.at.1, to_owner c.args.rest.now.id c.args.rest.now.me.0)
