use Rattle.nc_grammar.proofs.Quoted.{run_read, run_stops}
use Rattle.nc_grammar.proofs.reader.Reader.plain.Goals as goal

pub returns-clause-read : goal.returns-clause-read
returns-clause-read c = λ text. rw (c.split_at.ensures.front, c.split_at.ensures.back, c.plain_run.ensures.count, c.self.view_is) (run_read text c.args.self.now)

pub returns-clause-stops : goal.returns-clause-stops
returns-clause-stops c = rw (c.split_at.ensures.back, c.plain_run.ensures.count) (run_stops c.self.inside.rest.now)
