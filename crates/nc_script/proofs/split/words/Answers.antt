use Rattle.std.proofs.Common.{refl, sym}
use Rattle.std.proofs.lemmas.List.{take_rest}
use Rattle.nc_script.proofs.split.words.Goals as goal

pub returns-then-ends_in_space : goal.returns-then-ends_in_space
returns-then-ends_in_space c = λ words h. h.1 (c.if-ends_in_space.ensures.0 refl)

pub returns : goal.returns
returns c = (sym (rw (take_rest, c.first_word-end.ensures) at c.of.ensures), λ ends. let clash = c.if-ends_in_space.ensures.1 ends in cc)
