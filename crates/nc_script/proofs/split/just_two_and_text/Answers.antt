use Rattle.std.proofs.Common.{◌∷◌, []}
use Rattle.nc_script.proofs.split.just_two_and_text.Goals as goal

pub returns-in_err-words : goal.returns-in_err-words
returns-in_err-words c = rw c.from_residual.ensures (λ p h. c.in_err-words.ensures (p.first ∷ p.second ∷ [], p.quoted) h)
