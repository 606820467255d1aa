use Rattle.nc_world_asks.proofs.Drawn.{drawn_kept}
use Rattle.nc_world_asks.proofs.asks.numbers_are_drawn_once.Goals as goal

pub returns : goal.returns
returns c = drawn_kept
