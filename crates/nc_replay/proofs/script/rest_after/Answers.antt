use Rattle.nc_replay.proofs.Cuts.{first_and_rest, rest_of_first}
use Rattle.nc_replay.proofs.script.rest_after.Goals as goal

pub returns-clause-lines : goal.returns-clause-lines
returns-clause-lines c = λ some. rw (rest_of_first c.args.text.now c.first_line_len-len.result c.min.result c.first_line_len-len.ensures.len c.min.ensures) (first_and_rest c.args.text.now some)
