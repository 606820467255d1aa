use Rattle.std.proofs.Common.{◌∙◌, unwrap_or, length, ap, ℕ, Option}
use Rattle.journal_bench.proofs.Cuts.{len_of_first}
use Rattle.journal_bench.proofs.walk.first_line_len.Goals as goal

pub returns-clause-len : goal.returns-clause-len
returns-clause-len c = c.unwrap_or.ensures ∙ ap (λ (o : Option ℕ). unwrap_or o (length c.args.text.now)) c.place_of_lf.ensures.place ∙ len_of_first c.args.text.now
