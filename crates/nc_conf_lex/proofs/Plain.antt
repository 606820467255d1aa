-- A quoted word without a backslash stands for itself.
use Rattle.std.proofs.Common.{◌≡◌, ℕ, Bool, true, false, List, [], ◌∷◌, refl, ◌∙◌, ap}
use Rattle.std.specs.Prelude.{◌==◌, ◌||◌, if◌then◌else◌}
use Rattle.std.specs.List.{list_any}
use Rattle.nc_conf_lex.specs.Scan.{is_backslash, unescape}

neither : (v w : Bool) → (v || w) ≡ false → (v ≡ false) × (w ≡ false)
neither false w h = (refl, h)
neither true w h = absurd (cc)

pub stands : (sign : ℕ) (inside : List ℕ) → list_any is_backslash inside ≡ false → unescape sign false inside ≡ inside
stands sign [] none = refl
stands sign (b ∷ bs) none =
    let parts = neither (b == 92) (list_any is_backslash bs) none in
    ap (λ (v : Bool). if v then unescape sign true bs else b ∷ unescape sign false bs) parts.0
    ∙ ap (λ (l : List ℕ). b ∷ l) (stands sign bs parts.1)
