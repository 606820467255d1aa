-- Pieces of quoted texts: a text begins with one at most, and so it is read in one way.
use Rattle.std.proofs.Common.{ℕ, ◌+◌, ◌<◌, ◌≤◌, List, [], ◌∷◌, ◌++◌, length, arith, ◌≡◌, ◌≢◌, ◌∙◌, refl, sym, ap, subst, eqb, true, false, cond}
use Rattle.std.specs.Char.{digit_value}
use Rattle.std.proofs.lemmas.Bool.{eqb-true, eqb-false}
use Rattle.nc_types.specs.Unquote.{IsLetterOf, IsNext, itself, letter, digits, BeginsNoPiece, Spells, ReadsTo, IsQuoted, left_at_fault, IsFaultAt, not_opened, bad_escape, more_follows, not_closed, IsUnquotable}

-- ---- no piece begins a text

pub none-nil : BeginsNoPiece []
none-nil byte rest (itself a b e) = absurd cc
none-nil byte rest (letter c h e) = absurd cc
none-nil byte rest (digits h l a v e) = absurd cc

head-is : (c d : ℕ) (a b : List ℕ) → c ∷ a ≡ d ∷ b → c ≡ d
head-is c d a b e = cc

tail-is : (c d : ℕ) (a b : List ℕ) → c ∷ a ≡ d ∷ b → a ≡ b
tail-is c d a b e = cc

pub none-closing : (more : List ℕ) → BeginsNoPiece (34 ∷ more)
none-closing more byte rest (itself a b e) = a (sym (head-is 34 byte more rest e))
none-closing more byte rest (letter c h e) = absurd (omega (arith, head-is 34 92 more (c ∷ rest) e))
none-closing more byte rest (digits h l a v e) = absurd (omega (arith, head-is 34 92 more (120 ∷ h ∷ l ∷ rest) e))

pub none-slash : BeginsNoPiece (92 ∷ [])
none-slash byte rest (itself a b e) = let f : byte ≡ 92 = cc in b f
none-slash byte rest (letter c h e) = absurd cc
none-slash byte rest (digits h l a v e) = absurd cc

no-x : (byte c : ℕ) → c ≡ 120 → IsLetterOf byte c → ⊥
no-x byte c e h = absurd (grind arith)

pub none-letter : (c : ℕ) (rest : List ℕ) → c ≢ 120 → ((byte : ℕ) → IsLetterOf byte c → ⊥) → BeginsNoPiece (92 ∷ c ∷ rest)
none-letter c rest n m byte behind (itself a b e) = let f : byte ≡ 92 = cc in b f
none-letter c rest n m byte behind (letter d h e) = let f : d ≡ c = cc in m byte (subst (λ (k : ℕ). IsLetterOf byte k) f h)
none-letter c rest n m byte behind (digits h l a v e) = let f : c ≡ 120 = cc in n f

-- what two digits have to be
pub none-digits : (text : List ℕ) → ((high low : ℕ) (rest : List ℕ) → text ≡ high ∷ low ∷ rest → digit_value high < 16 → digit_value low < 16 → ⊥) → BeginsNoPiece (92 ∷ 120 ∷ text)
none-digits text n byte rest (itself a b e) = let f : byte ≡ 92 = cc in b f
none-digits text n byte rest (letter c h e) = let f : c ≡ 120 = cc in no-x byte c f h
none-digits text n byte rest (digits h l a v e) = let f : text ≡ h ∷ l ∷ rest = cc in n h l rest f a.0 a.1.0

-- ---- one piece alone begins a text

same-letter : (b d c : ℕ) → IsLetterOf b c → IsLetterOf d c → b ≡ d
same-letter b d c h k = grind arith

abbrev Same : ℕ → ℕ → List ℕ → List ℕ → Type 0
Same b d r s = (b ≡ d) × (r ≡ s)

same-next : (text : List ℕ) (b d : ℕ) (r s : List ℕ) → IsNext text b r → IsNext text d s → Same b d r s
same-next text b d r s (itself p q e) (itself u v f) = (cc, cc)
same-next text b d r s (itself p q e) (letter k n f) = let g : b ≡ 92 = cc in absurd (q g)
same-next text b d r s (itself p q e) (digits k m n v f) = let g : b ≡ 92 = cc in absurd (q g)
same-next text b d r s (letter c h e) (itself u v f) = let g : d ≡ 92 = cc in absurd (v g)
same-next text b d r s (letter c h e) (letter k n f) = let g : k ≡ c = cc in (same-letter b d c h (subst (λ (x : ℕ). IsLetterOf d x) g n), cc)
same-next text b d r s (letter c h e) (digits k m n v f) = let g : c ≡ 120 = cc in absurd (no-x b c g h)
same-next text b d r s (digits h l a w e) (itself u v f) = let g : d ≡ 92 = cc in absurd (v g)
same-next text b d r s (digits h l a w e) (letter k n f) = let g : k ≡ 120 = cc in absurd (no-x d k g n)
same-next text b d r s (digits h l a w e) (digits k m n v f) = let g : h ≡ k = cc in let i : l ≡ m = cc in (omega (arith, w, v, ap digit_value g, ap digit_value i), cc)

-- ---- many pieces

pub same-spelling : (text a b r s : List ℕ) → BeginsNoPiece r → BeginsNoPiece s → Spells text a r → Spells text b s → (a ≡ b) × (r ≡ s)
same-spelling text [] [] r s n m h k = (refl, sym h ∙ k)
same-spelling text [] (d ∷ b) r s n m h k = absurd (n d k.0 (subst (λ (t : List ℕ). IsNext t d k.0) h k.1))
same-spelling text (c ∷ a) [] r s n m h k = absurd (m c h.0 (subst (λ (t : List ℕ). IsNext t c h.0) k h.1))
same-spelling text (c ∷ a) (d ∷ b) r s n m h k =
    let e = same-next text c d h.0 k.0 h.1 k.1 in
    let f = same-spelling k.0 a b r s n m (subst (λ (t : List ℕ). Spells t a r) e.1 h.2) k.2 in
    (cc, f.1)

pub spells-push : (text bytes rest : List ℕ) (byte : ℕ) (behind : List ℕ) → Spells text bytes rest → IsNext rest byte behind → Spells text (bytes ++ byte ∷ []) behind
spells-push text [] rest byte behind h n = (behind, subst (λ (t : List ℕ). IsNext t byte behind) (sym h) n, refl)
spells-push text (c ∷ bytes) rest byte behind h n = (h.0, h.1, spells-push h.0 bytes rest byte behind h.2 n)

pub next-shorter : (text : List ℕ) (byte : ℕ) (rest : List ℕ) → IsNext text byte rest → length rest < length text
next-shorter text byte rest (itself a b e) = omega (arith, ap length e)
next-shorter text byte rest (letter c h e) = omega (arith, ap length e)
next-shorter text byte rest (digits h l a v e) = omega (arith, ap length e)

spells-within : (text bytes rest : List ℕ) → Spells text bytes rest → length rest ≤ length text
spells-within text [] rest h = omega (arith, ap length h)
spells-within text (c ∷ bytes) rest h = omega (arith, spells-within h.0 bytes rest h.2, next-shorter text c h.0 h.1)

-- ---- whole texts

pub reads-push : (text bytes rest : List ℕ) (byte : ℕ) (behind : List ℕ) → ReadsTo text bytes rest → IsNext rest byte behind → ReadsTo text (bytes ++ byte ∷ []) behind
reads-push text bytes rest byte behind h n = (h.0, h.1, spells-push h.0 bytes rest byte behind h.2 n)

pub reads-within : (text bytes rest : List ℕ) → ReadsTo text bytes rest → length rest < length text
reads-within text bytes rest h = omega (arith, ap length h.1, spells-within h.0 bytes rest h.2)

pub same-reading : (text a b r s : List ℕ) → BeginsNoPiece r → BeginsNoPiece s → ReadsTo text a r → ReadsTo text b s → (a ≡ b) × (r ≡ s)
same-reading text a b r s n m h k =
    let e : h.0 ≡ k.0 = cc in
    same-spelling k.0 a b r s n m (subst (λ (t : List ℕ). Spells t a r) e h.2) k.2

pub fault-excludes : (text : List ℕ) (at : ℕ) → IsFaultAt text at → (bytes : List ℕ) → IsQuoted text bytes → ⊥
fault-excludes text at (not_opened n e) bytes q = n q.0 q.1
fault-excludes text at (bad_escape a escape h n e) bytes q = absurd (omega (arith, head-is 92 34 escape [] (same-reading text a bytes (92 ∷ escape) (34 ∷ []) n (none-closing []) h q).1))
fault-excludes text at (more_follows a more h n e) bytes q = n (tail-is 34 34 more [] (same-reading text a bytes (34 ∷ more) (34 ∷ []) (none-closing more) (none-closing []) h q).1)
fault-excludes text at (not_closed a h e) bytes q = absurd (omega (arith, ap length (same-reading text a bytes [] (34 ∷ []) none-nil (none-closing []) h q).1))

pub unquotable : (text : List ℕ) (at : ℕ) → IsFaultAt text at → IsUnquotable text at
unquotable text at h = record { none = fault-excludes text at h; place = h }

-- ---- one place

ends-before : (text bytes : List ℕ) (c : ℕ) (behind : List ℕ) (at : ℕ) → ReadsTo text bytes (c ∷ behind) → BeginsNoPiece (c ∷ behind) → c ∷ behind ≢ 34 ∷ [] → at + left_at_fault (c ∷ behind) ≡ length text → IsFaultAt text at
ends-before text bytes c behind at h n more e =
    (elim (eqb c 34) as (λ x. eqb c 34 ≡ x → at + cond x (length behind) (length behind + 1) ≡ length text → IsFaultAt text at) [
      | true ↦ λ g e. (let i = eqb-true c 34 g in
          more_follows bytes behind (subst (λ (k : ℕ). ReadsTo text bytes (k ∷ behind)) i h) (λ f. more (ap (λ (k : ℕ). k ∷ behind) i ∙ ap (λ (l : List ℕ). 34 ∷ l) f)) e)
      | false ↦ λ g e. (elim (eqb c 92) as (λ x. eqb c 92 ≡ x → IsFaultAt text at) [
        | true ↦ λ k. (let i = eqb-true c 92 k in
            bad_escape bytes behind (subst (λ (k : ℕ). ReadsTo text bytes (k ∷ behind)) i h) (subst (λ (k : ℕ). BeginsNoPiece (k ∷ behind)) i n) (omega (arith, e)))
        | false ↦ λ k. absurd (n c behind (itself (eqb-false c 34 g) (eqb-false c 92 k) refl))
      ]) refl
    ]) refl e

-- a text whose reading ends before a rest that isn't the closing sign
pub ends : (text bytes rest : List ℕ) (at : ℕ) → ReadsTo text bytes rest → BeginsNoPiece rest → rest ≢ 34 ∷ [] → at + left_at_fault rest ≡ length text → IsFaultAt text at
ends text bytes [] at h n more e = not_closed bytes h (omega (arith, e))
ends text bytes (c ∷ behind) at h n more e = ends-before text bytes c behind at h n more e
