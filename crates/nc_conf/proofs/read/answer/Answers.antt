use Rattle.nc_conf.proofs.Texts.{has_first, has_config}
use Rattle.nc_conf.proofs.read.answer.Goals as goal

pub returns-in-Some : goal.returns-in-Some
returns-in-Some c = has_first _ _ _ _ c.requires (rw c.in-Some.is at c.in_ok-first.ensures.first)

pub returns : goal.returns
returns c = has_config _ _ _ _ c.requires (rw c.in-None.is at c.in_ok-first.ensures.first) (rw c.directives.ensures at c.in_ok-config_of-in-None.ensures)
