use Rattle.std.proofs.Common.{sym, arith, ◌∙◌}
use Rattle.std.proofs.lemmas.List.{take_rest}
use Rattle.std.proofs.lemmas.List.Splits.{slice_split_first}
use Rattle.nc_script.proofs.Words.{slice_split_whole}
use Rattle.nc_script.proofs.word.cut.Goals as goal

pub returns-then-end-text-clause-split : goal.returns-then-end-text-clause-split
returns-then-end-text-clause-split c = slice_split_whole _ _ (sym c.place_of_sign-end.ensures.first ∙ c.if-end-text.true)

pub returns-clause-split : goal.returns-clause-split
returns-clause-split c = rw (take_rest, c.place_of_sign-end.ensures.first) (slice_split_first _ c.args.text.now 0 (omega (arith, c.place_of_sign-end.ensures.first)))
