use Rattle.nc_journal.proofs.TextLaws as laws
use Rattle.nc_journal.proofs.laws.text_grows.Goals as goal

pub returns : goal.returns
returns c = laws.text_grows
