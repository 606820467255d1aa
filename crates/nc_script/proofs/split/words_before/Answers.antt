use Rattle.std.proofs.Common.{sym, ap, ◌∙◌, arith, length, refl}
use Rattle.std.proofs.lemmas.List.{take_rest}
use Rattle.nc_script.specs.Line.{behind_first}
use Rattle.nc_script.proofs.Words.{length_before, nothing_behind}
use Rattle.nc_script.proofs.split.words_before.Goals as goal

pub returns-then-len-behind : goal.returns-then-len-behind
returns-then-len-behind c = λ p h.
    let none = rw (take_rest, c.first_word-end.ensures) at (sym c.if-len-behind.true ∙ c.place_of_sign-len.ensures.first) in
    omega (arith, h.some, ap length h.bytes, nothing_behind _ (behind_first c.args.text.now) none)

pub returns : goal.returns
returns c =
    let place = rw (take_rest, c.first_word-end.ensures) at c.place_of_sign-len.ensures.first in
    let within = rw (take_rest, c.first_word-end.ensures) at c.place_of_sign-len.ensures.within in
    let len = length_before _ (behind_first c.args.text.now) c.place_of_sign-len.result place within in
    record {
      front = sym (rw (c.split_at.ensures.front, take_rest, c.first_word-end.ensures, place) at c.of.ensures);
      at = rw (c.first_word-end.ensures, len) refl;
      bytes = rw (c.split_at.ensures.back, take_rest, c.first_word-end.ensures, len) refl;
      some = omega arith;
    }
