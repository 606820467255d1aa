-- The text of lines that go on.
use Rattle.std.proofs.Common.{ℕ, suc, ◌+◌, List, [], ◌∷◌, ◌++◌, ◌≡◌, ◌∙◌, ap, sym, append_assoc, arith}
use Rattle.std.proofs.lemmas.List.{append-nil}
use Rattle.std.proofs.lemmas.List.Concat.{flat_map-append}
use Rattle.nc_load.specs.declared.draw.Draw.{Draw}
use Rattle.nc_load.specs.Generator.{drawn, next, high}
use Rattle.nc_load.specs.DrawnLine.{draw_of, line}
use Rattle.nc_load.specs.Script.{lines_drawn, settled_after, settled_at_end, ended, text_of}

-- lines behind others have their text behind the text of those
pub grows : (start lines more : List (List ℕ)) → text_of (start ++ lines) ++ text_of more ≡ text_of (start ++ (lines ++ more))
grows start lines more = sym (flat_map-append ended (start ++ lines) more) ∙ ap text_of (append_assoc start lines more)

one_more : (i : ℕ) → i + 1 ≡ suc i
one_more i = omega arith

-- the number that is drawn next
pub stepped : (seed i x y : ℕ) → x ≡ drawn seed i → y ≡ next x → y ≡ drawn seed (i + 1)
stepped seed i x y number step = step ∙ ap next number ∙ ap (λ (n : ℕ). drawn seed n) (sym (one_more i))

-- its line, and what settles behind it
pub grown : (start : List (List ℕ)) (seed i x y : ℕ) (draw : Draw) (old new : List ℕ) → x ≡ drawn seed i → y ≡ next x → draw ≡ draw_of (high y) → old ≡ text_of (start ++ lines_drawn seed i) → new ≡ old ++ text_of (line draw i ∷ settled_after (i + 1)) → new ≡ text_of (start ++ lines_drawn seed (i + 1))
grown start seed i x y draw old new number step says text e =
    e
    ∙ ap (λ (l : List ℕ). l ++ text_of (line draw i ∷ settled_after (i + 1))) text
    ∙ grows start (lines_drawn seed i) (line draw i ∷ settled_after (i + 1))
    ∙ ap (λ (n : ℕ). text_of (start ++ (lines_drawn seed i ++ line draw i ∷ settled_after n))) (one_more i)
    ∙ ap (λ (d : Draw). text_of (start ++ (lines_drawn seed i ++ line d i ∷ settled_after (suc i)))) (says ∙ ap (λ (n : ℕ). draw_of (high n)) (step ∙ ap next number))
    ∙ ap (λ (n : ℕ). text_of (start ++ lines_drawn seed n)) (sym (one_more i))

-- the line that settles behind the last one
pub settled : (start : List (List ℕ)) (seed i size : ℕ) (old new : List ℕ) → i ≡ size → old ≡ text_of (start ++ lines_drawn seed i) → new ≡ old ++ text_of (settled_at_end size) → new ≡ text_of (start ++ lines_drawn seed size ++ settled_at_end size)
settled start seed i size old new all text e =
    e
    ∙ ap (λ (l : List ℕ). l ++ text_of (settled_at_end size)) (text ∙ ap (λ (n : ℕ). text_of (start ++ lines_drawn seed n)) all)
    ∙ sym (flat_map-append ended (start ++ lines_drawn seed size) (settled_at_end size))

-- a text and five more, one behind the other
pub five_more : (old a b c d e : List ℕ) → old ++ a ++ b ++ c ++ d ++ e ≡ old ++ (a ++ (b ++ (c ++ (d ++ (e ++ [])))))
five_more old a b c d e = simp (append_assoc, append-nil)
