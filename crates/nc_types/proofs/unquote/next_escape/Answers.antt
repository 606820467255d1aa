use Rattle.std.proofs.Common.{◌∷◌, ◌∙◌, ap, sym, subst, List, ℕ}
use Rattle.std.specs.Prelude.{IfNone}
use Rattle.nc_types.specs.Unquote.{letter, BeginsNoPiece}
use Rattle.nc_types.proofs.Pieces.{none-letter}
use Rattle.nc_types.proofs.unquote.next_escape.Goals as goal

pub returns-then-letter-eq120-clause-none : goal.returns-then-letter-eq120-clause-none
returns-then-letter-eq120-clause-none c =
    let e = sym (c.in_ok-letter.ensures.some ∙ ap (λ (k : ℕ). k ∷ c.in_ok-letter.rest.now) c.if-letter-eq120.true) in
    subst (λ (t : List ℕ). IfNone c.next_digits.result (BeginsNoPiece (92 ∷ t))) e c.next_digits.ensures.none

pub returns-in_err-byte-clause-none : goal.returns-in_err-byte-clause-none
returns-in_err-byte-clause-none c =
    rw c.from_residual-in_err-byte.ensures
    (subst (λ (t : List ℕ). BeginsNoPiece (92 ∷ t)) (sym c.in_ok-letter.ensures.some)
    (none-letter c.in_ok-letter.letter c.in_ok-letter.rest.now c.if-letter-eq120.false c.in_err-byte.ensures.none))

pub returns-clause-some : goal.returns-clause-some
returns-clause-some c = letter c.in_ok-letter.letter c.in_ok-byte.ensures.some (ap (λ (t : List ℕ). 92 ∷ t) c.in_ok-letter.ensures.some)
