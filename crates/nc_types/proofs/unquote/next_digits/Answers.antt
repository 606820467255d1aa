use Rattle.std.proofs.Common.{arith, ap, ◌∙◌, List, ℕ, ◌∷◌}
use Rattle.nc_types.specs.Unquote.{digits}
use Rattle.nc_types.proofs.unquote.next_digits.Goals as goal

pub returns-clause-some : goal.returns-clause-some
returns-clause-some c =
    let high = c.in_ok-high-2.ensures.some in
    let low = c.in_ok-low-2.ensures.some in
    digits c.in_ok-high.high c.in_ok-low.low (omega (arith, high.0, high.1), (omega (arith, low.0, low.1), tt)) (omega (arith, high.0, low.0))
    (ap (λ (t : List ℕ). 92 ∷ 120 ∷ t) (c.in_ok-high.ensures.some ∙ ap (λ (t : List ℕ). c.in_ok-high.high ∷ t) c.in_ok-low.ensures.some))
