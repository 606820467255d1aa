-- A text that was put part by part.
use Rattle.std.proofs.Common.{◌≡◌, ℕ, List, [], ◌++◌, ap, ◌∙◌}

pub plain_parts : (a m f b n g c l h out out' out'' out''' made text : List ℕ) → out ≡ a ++ m ++ f → out' ≡ out ++ b ++ n ++ g → out'' ≡ out' ++ c → out''' ≡ out'' ++ l → made ≡ out''' ++ h → text ≡ made → text ≡ a ++ m ++ f ++ b ++ n ++ g ++ c ++ l ++ h
plain_parts a m f b n g c l h out out' out'' out''' made text e e' e'' e''' em et =
    et ∙ (em ∙ (ap (λ x. x ++ h) (e''' ∙ ap (λ x. x ++ l) (e'' ∙ ap (λ x. x ++ c) (e' ∙ ap (λ x. x ++ b ++ n ++ g) e)))))

pub json_parts : (a m b n c l d out out' out'' out''' made text : List ℕ) → out ≡ a ++ m → out' ≡ out ++ b ++ n → out'' ≡ out' ++ c → out''' ≡ out'' ++ l → made ≡ out''' ++ d → text ≡ made → text ≡ a ++ m ++ b ++ n ++ c ++ l ++ d
json_parts a m b n c l d out out' out'' out''' made text e e' e'' e''' em et =
    et ∙ (em ∙ (ap (λ x. x ++ d) (e''' ∙ ap (λ x. x ++ l) (e'' ∙ ap (λ x. x ++ c) (e' ∙ ap (λ x. x ++ b ++ n) e)))))
