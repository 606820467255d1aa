-- The test for UTF-8.
use Rattle.std.proofs.Common.{◌≡◌, Bool, true, false, ℕ, List, Result, Ok, Err, refl, sym}
use Rattle.std.specs.Prelude.{MatchResult, IsUtf8, is_ok}
use Rattle.std.specs.Str.{is_utf8}
use Rattle.std.proofs.lemmas.Str.{IsUtf8-from_is_utf8, is_utf8-from_IsUtf8}

not_true : (b : Bool) → (b ≡ true → ⊥) → false ≡ b
not_true true h = absurd (h refl)
not_true false h = refl

-- bytes that were found to be UTF-8, or not to be it, are tested so
pub tested : {A E : Type 0} (P : A → Type 0) (Q : E → Type 0) (bytes : List ℕ) (r : Result A E) → MatchResult r (λ s. P s × IsUtf8 bytes) (λ e. ¬ (IsUtf8 bytes) × Q e) → is_ok r ≡ is_utf8 bytes
tested P Q bytes (Ok s) found = sym (is_utf8-from_IsUtf8 bytes found.1)
tested P Q bytes (Err e) found = not_true (is_utf8 bytes) (λ is. found.0 (IsUtf8-from_is_utf8 bytes is))
