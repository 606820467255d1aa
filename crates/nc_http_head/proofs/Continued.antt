-- A search that goes on behind what was looked at finds what one from the front finds.
use Rattle.std.proofs.Common.{◌≡◌, ℕ, suc, zero, ◌+◌, ◌≤◌, ◌==◌, Bool, true, false, if◌then◌else◌, List, [], ◌∷◌, ◌++◌, length, take, drop, Option, Some, None, refl, sym, ap, ◌∙◌, arith, length-append, length-take}
use Rattle.std.proofs.lemmas.List.{take-append-drop, take-append-le}
use Rattle.nc_http_head.specs.declared.ends.Place.{Place}
use Rattle.nc_http_head.specs.Ends.{end_from, ends_here, place_after, place_over, line_from, Seen, SeenLine}

end_over : (k : ℕ) (place : Place) (xs ys : List ℕ) → end_from k place xs ≡ None → end_from k place (xs ++ ys) ≡ end_from (k + length xs) (place_over place xs) ys
end_over k place [] ys e = ap (λ n. end_from n place ys) (omega arith)
end_over k place (b ∷ xs) ys e = by_test (ends_here place b) (end_over (k + 1) (place_after place b) xs ys) e where
  by_test : (t : Bool) → (end_from (k + 1) (place_after place b) xs ≡ None → end_from (k + 1) (place_after place b) (xs ++ ys) ≡ end_from (k + 1 + length xs) (place_over (place_after place b) xs) ys) → (if t then Some (k + 1) else end_from (k + 1) (place_after place b) xs) ≡ None → (if t then Some (k + 1) else end_from (k + 1) (place_after place b) (xs ++ ys)) ≡ end_from (k + suc (length xs)) (place_over (place_after place b) xs) ys
  by_test true later e = cc e
  by_test false later e = later e ∙ ap (λ n. end_from n (place_over (place_after place b) xs) ys) (omega arith)

place_over_append : (place : Place) (xs ys : List ℕ) → place_over place (xs ++ ys) ≡ place_over (place_over place xs) ys
place_over_append place [] ys = refl
place_over_append place (b ∷ xs) ys = place_over_append (place_after place b) xs ys

line_over : (k : ℕ) (xs ys : List ℕ) → line_from k xs ≡ None → line_from k (xs ++ ys) ≡ line_from (k + length xs) ys
line_over k [] ys e = ap (λ n. line_from n ys) (omega arith)
line_over k (b ∷ xs) ys e = by_test (b == 10) (line_over (k + 1) xs ys) e where
  by_test : (t : Bool) → (line_from (k + 1) xs ≡ None → line_from (k + 1) (xs ++ ys) ≡ line_from (k + 1 + length xs) ys) → (if t then Some (k + 1) else line_from (k + 1) xs) ≡ None → (if t then Some (k + 1) else line_from (k + 1) (xs ++ ys)) ≡ line_from (k + suc (length xs)) ys
  by_test true later e = cc e
  by_test false later e = later e ∙ ap (λ n. line_from n ys) (omega arith)

pub seen_on : (first : Place) (seen : ℕ) (place : Place) (bytes : List ℕ) → Seen first seen place bytes → end_from 0 first bytes ≡ end_from seen place (drop seen bytes)
seen_on first seen place bytes s =
    let l : length (take seen bytes) ≡ seen = omega (arith, length-take seen bytes, s.0) in
    ap (end_from 0 first) (sym (take-append-drop seen bytes))
    ∙ (end_over 0 first (take seen bytes) (drop seen bytes) s.1
    ∙ (ap (λ n. end_from n (place_over first (take seen bytes)) (drop seen bytes)) (omega (arith, l))
    ∙ ap (λ t. end_from seen t (drop seen bytes)) (sym s.2)))

pub place_on : (first : Place) (seen : ℕ) (place : Place) (bytes : List ℕ) → Seen first seen place bytes → place_over first bytes ≡ place_over place (drop seen bytes)
place_on first seen place bytes s =
    ap (place_over first) (sym (take-append-drop seen bytes))
    ∙ (place_over_append first (take seen bytes) (drop seen bytes)
    ∙ ap (λ t. place_over t (drop seen bytes)) (sym s.2))

pub line_on : (seen : ℕ) (bytes : List ℕ) → SeenLine seen bytes → line_from 0 bytes ≡ line_from seen (drop seen bytes)
line_on seen bytes s =
    let l : length (take seen bytes) ≡ seen = omega (arith, length-take seen bytes, s.0) in
    ap (line_from 0) (sym (take-append-drop seen bytes))
    ∙ (line_over 0 (take seen bytes) (drop seen bytes) s.1
    ∙ ap (λ n. line_from n (drop seen bytes)) (omega (arith, l)))

take_all : (bytes : List ℕ) (n : ℕ) → n ≡ length bytes → take n bytes ≡ bytes
take_all [] zero e = refl
take_all [] (suc n) e = absurd (omega (arith, e))
take_all (b ∷ bytes) zero e = absurd (omega (arith, e))
take_all (b ∷ bytes) (suc n) e = ap (λ l. b ∷ l) (take_all bytes n (omega (arith, e)))

-- all was looked at
pub seen_all : (first : Place) (n : ℕ) (place : Place) (bytes : List ℕ) → n ≡ length bytes → end_from 0 first bytes ≡ None → place ≡ place_over first bytes → Seen first n place bytes
seen_all first n place bytes l e s = (omega (arith, l), ap (end_from 0 first) (take_all bytes n l) ∙ e, s ∙ ap (place_over first) (sym (take_all bytes n l)))

pub seen_line_all : (n : ℕ) (bytes : List ℕ) → n ≡ length bytes → line_from 0 bytes ≡ None → SeenLine n bytes
seen_line_all n bytes l e = (omega (arith, l), ap (line_from 0) (take_all bytes n l) ∙ e)

-- what was looked at stays so when more comes
pub seen_stays : (first : Place) (seen : ℕ) (place : Place) (bytes more : List ℕ) → Seen first seen place bytes → Seen first seen place (bytes ++ more)
seen_stays first seen place bytes more s =
    let same = take-append-le seen bytes more s.0 in
    (omega (arith, s.0, length-append bytes more), ap (end_from 0 first) same ∙ s.1, s.2 ∙ ap (place_over first) (sym same))

pub seen_line_stays : (seen : ℕ) (bytes more : List ℕ) → SeenLine seen bytes → SeenLine seen (bytes ++ more)
seen_line_stays seen bytes more s = (omega (arith, s.0, length-append bytes more), ap (line_from 0) (take-append-le seen bytes more s.0) ∙ s.1)
