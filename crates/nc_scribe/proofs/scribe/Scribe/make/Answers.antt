use Rattle.nc_scribe.proofs.scribe.Scribe.make.Goals as goal

pub returns-clause-own : goal.returns-clause-own
returns-clause-own g c = λ held granted own. c.in_ok-make_into.ensures.own held (rw (← c.self.view_is) at granted) (rw (← c.self.view_is) at own)
