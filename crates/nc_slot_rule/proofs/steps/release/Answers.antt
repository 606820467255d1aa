use Rattle.nc_slot_rule.proofs.Allowed.{release_allowed}
use Rattle.nc_slot_rule.proofs.steps.release.Goals as goal

pub fetch_sub-requires : goal.fetch_sub-requires
fetch_sub-requires c = (c.requires.at.0, c.requires.at.1, release_allowed c.args.words.now.shared.table_id.slots c.args.hold.id c.args.word c.args.hold.me c.requires.live)
