use Rattle.nc_slot_rule.proofs.Allowed as allowed
use Rattle.nc_slot_rule.proofs.laws.word_counts_holds.Goals as goal

pub returns : goal.returns
returns c = allowed.word_counts
