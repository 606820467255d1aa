-- CR and LF bytes before a request.
use Rattle.std.proofs.Common.{◌≡◌, ℕ, zero, suc, ◌-◌, ◌<◌, ◌≤◌, Bool, true, false, if◌then◌else◌, List, [], ◌∷◌, ◌++◌, length, drop, refl, sym, ap, ◌∙◌, arith}
use Rattle.std.proofs.lemmas.List.{append-nil}
use Rattle.nc_http_head.specs.Ends.{is_blank, unblanked}

pub length-unblanked : (bytes : List ℕ) → length (unblanked bytes) ≤ length bytes
length-unblanked [] = omega arith
length-unblanked (b ∷ bytes) = by_test (is_blank b) (length-unblanked bytes) where
  by_test : (t : Bool) → length (unblanked bytes) ≤ length bytes → length (if t then unblanked bytes else b ∷ bytes) ≤ suc (length bytes)
  by_test true le = omega (arith, le)
  by_test false le = omega arith

-- they are those in front
pub unblanked_is_drop : (bytes : List ℕ) → unblanked bytes ≡ drop (length bytes - length (unblanked bytes)) bytes
unblanked_is_drop [] = refl
unblanked_is_drop (b ∷ bytes) = by_test (is_blank b) (length-unblanked bytes) (unblanked_is_drop bytes) where
  by_test : (t : Bool) → length (unblanked bytes) ≤ length bytes → unblanked bytes ≡ drop (length bytes - length (unblanked bytes)) bytes → (if t then unblanked bytes else b ∷ bytes) ≡ drop (suc (length bytes) - length (if t then unblanked bytes else b ∷ bytes)) (b ∷ bytes)
  by_test true le later =
      let n : suc (length bytes) - length (unblanked bytes) ≡ suc (length bytes - length (unblanked bytes)) = omega (arith, le) in
      later ∙ ap (λ k. drop k (b ∷ bytes)) (sym n)
  by_test false le later = let n : suc (length bytes) - suc (length bytes) ≡ zero = omega arith in ap (λ k. drop k (b ∷ bytes)) (sym n)

-- those of a text are passed before more comes
pub unblanked-append : (bytes more : List ℕ) → unblanked (bytes ++ more) ≡ unblanked (unblanked bytes ++ more)
unblanked-append [] more = refl
unblanked-append (b ∷ bytes) more = by_test (is_blank b) refl (unblanked-append bytes more) where
  by_test : (t : Bool) → is_blank b ≡ t → unblanked (bytes ++ more) ≡ unblanked (unblanked bytes ++ more) → (if t then unblanked (bytes ++ more) else b ∷ (bytes ++ more)) ≡ unblanked ((if t then unblanked bytes else b ∷ bytes) ++ more)
  by_test true e later = later
  by_test false e later = rw e refl

pub no_bytes : (bytes : List ℕ) → length bytes ≡ 0 → bytes ≡ []
no_bytes [] e = refl
no_bytes (b ∷ bytes) e = absurd (omega (arith, e))

pub unblanked-twice : (bytes : List ℕ) → unblanked (unblanked bytes) ≡ unblanked bytes
unblanked-twice bytes = ap unblanked (sym (append-nil (unblanked bytes))) ∙ (sym (unblanked-append bytes []) ∙ ap unblanked (append-nil bytes))

-- a text that begins with another byte still does when more comes
pub begun-append : (bytes more : List ℕ) → 0 < length bytes → unblanked bytes ≡ bytes → unblanked (bytes ++ more) ≡ bytes ++ more
begun-append [] more some is = absurd (omega arith)
begun-append (b ∷ bytes) more some is = by_test (is_blank b) is where
  by_test : (t : Bool) → (if t then unblanked bytes else b ∷ bytes) ≡ b ∷ bytes → (if t then unblanked (bytes ++ more) else b ∷ (bytes ++ more)) ≡ b ∷ (bytes ++ more)
  by_test true e = absurd (omega (arith, ap length e, length-unblanked bytes))
  by_test false e = refl
