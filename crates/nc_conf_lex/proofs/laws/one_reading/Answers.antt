use Rattle.nc_conf_lex.proofs.Readings as readings
use Rattle.nc_conf_lex.proofs.laws.one_reading.Goals as goal

pub returns : goal.returns
returns c = readings.one_reading
