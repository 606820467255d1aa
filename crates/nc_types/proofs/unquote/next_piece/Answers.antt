use Rattle.std.proofs.Common.{◌∷◌, ◌∙◌, ap, sym, subst, List, ℕ}
use Rattle.std.specs.Prelude.{IfNone}
use Rattle.nc_types.specs.Unquote.{BeginsNoPiece}
use Rattle.nc_types.proofs.unquote.next_piece.Goals as goal

pub returns-in-92-clause-none : goal.returns-in-92-clause-none
returns-in-92-clause-none c =
    let e = sym (c.in_ok-byte.ensures.some ∙ ap (λ (k : ℕ). k ∷ c.in_ok-byte.rest.now) c.in-92.is) in
    subst (λ (t : List ℕ). IfNone c.next_escape.result (BeginsNoPiece t)) e c.next_escape.ensures.none
