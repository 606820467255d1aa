-- Who starts, starts lawfully.
use Rattle.nc_world_sends.specs.Sends.{HistoriesStartLawfully}
use Rattle.nc_world_sends.proofs.Sending.{histories_promise}

pub histories_start_lawfully : HistoriesStartLawfully
histories_start_lawfully setup h world is r = (histories_promise setup h world is r).started
