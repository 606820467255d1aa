use Rattle.nc_replay.proofs.Cuts.{first_and_rest}
use Rattle.nc_replay.proofs.script.first_line.Goals as goal

pub returns-clause-lines : goal.returns-clause-lines
returns-clause-lines c = λ some. rw c.first_line_len.ensures.len (first_and_rest c.args.text.now some)
