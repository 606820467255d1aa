-- The script of a load is short.
use Rattle.std.proofs.Common.{ℕ, zero, suc, ◌+◌, ◌*◌, ◌<◌, ◌≤◌, ◌%◌, ◌/◌, ◌==◌, Bool, true, false, cond, List, [], ◌∷◌, ◌++◌, ap, arith, length, length-append}
use Rattle.std.specs.Prelude.{codes}
use Rattle.std.specs.Fmt.{decimal}
use Rattle.std.proofs.lemmas.Grind.{flat_map-append}
use Rattle.std.proofs.lemmas.Fmt.{length-decimal-le}
use Rattle.nc_load.specs.declared.draw.Draw.{Draw}
use Rattle.nc_load.specs.declared.draw.Kind.{Kind}
use Rattle.nc_load.specs.declared.draw.Kind.TheVariants.{Post, Poll, Clock, Reap, Remove}
use Rattle.nc_load.specs.Generator.{drawn, high}
use Rattle.nc_load.specs.DrawnLine.{draw_of, line, line_at, line_of_kind, clock_line}
use Rattle.nc_load.specs.Script.{configuration, clocks, rule_line, front, settle_line, settled_after, settled_at_end, lines_drawn, ended, text_of, script, longest_script}

-- the bound of what stands behind something
behind : (xs ys : List ℕ) (a b c : ℕ) → length xs ≤ a → length ys ≤ b → a + b ≤ c → length (xs ++ ys) ≤ c
behind xs ys a b c first second sum = omega (arith, first, second, sum, length-append xs ys)

one_digit : (n : ℕ) → n < 10 → length (decimal n) ≤ 1
one_digit n few = length-decimal-le 1 n (omega arith) (omega (arith, few)) (omega (arith, few))

five_digits : (n : ℕ) → n < 100000 → length (decimal n) ≤ 5
five_digits n few = length-decimal-le 5 n (omega arith) (omega (arith, few)) (omega (arith, few))

channel_short : (n : ℕ) → n < 10 → length (codes "c" ++ decimal n) ≤ 2
channel_short n few = behind (codes "c") (decimal n) 1 1 2 (omega arith) (one_digit n few) (omega arith)

module _ (d : Draw) (i : ℕ) (worker : d.worker < 10) (channel : d.channel < 10) (other : d.other < 10) (few : i < 65536) where
  kind_short : (k : Kind) → length (line_of_kind k d i) ≤ 40
  kind_short Post =
      let w = one_digit d.worker worker in
      let c = channel_short d.channel channel in
      let n = five_digits i (omega (arith, few)) in
      grind (arith, length-append, w, c, n)
  kind_short Poll =
      let w = one_digit d.worker worker in
      let c = channel_short d.channel channel in
      let o = channel_short d.other other in
      let n = five_digits i (omega (arith, few)) in
      grind (arith, length-append, w, c, o, n)
  kind_short Clock =
      let w = one_digit d.worker worker in
      let n = five_digits (1000 + i / 16) (omega (arith, few)) in
      grind (arith, length-append, w, n)
  kind_short Reap = let w = one_digit d.worker worker in grind (arith, length-append, w)
  kind_short Remove =
      let w = one_digit d.worker worker in
      let c = channel_short d.channel channel in
      grind (arith, length-append, w, c)

drawn_short : (r i : ℕ) → i < 65536 → length (line (draw_of r) i) ≤ 40
drawn_short r i few = kind_short (draw_of r) i (omega arith) (omega arith) (omega arith) few (draw_of r).kind

ended_short : (l : List ℕ) (a b : ℕ) → length l ≤ a → a + 1 ≤ b → length (ended l) ≤ b
ended_short l a b few sum = behind l (10 ∷ []) a 1 b few (omega arith) sum

settled_short : (b : Bool) → length (text_of (cond b (settle_line ∷ []) [])) ≤ 16
settled_short true = omega arith
settled_short false = omega arith

unsettled_short : (b : Bool) → length (text_of (cond b [] (settle_line ∷ []))) ≤ 16
unsettled_short true = omega arith
unsettled_short false = omega arith

lines_short : (seed i : ℕ) → i ≤ 65535 → length (text_of (lines_drawn seed i)) ≤ 64 * i
lines_short seed zero few = omega arith
lines_short seed (suc i) few =
    let before = lines_short seed i (omega (arith, few)) in
    let l = line_at seed i in
    let next = behind (ended l) (text_of (settled_after (suc i))) 41 16 57 (ended_short l 40 41 (drawn_short (high (drawn seed (suc i))) i (omega (arith, few))) (omega arith)) (settled_short (suc i % 64 == 0)) (omega arith) in
    let both = flat_map-append ended (lines_drawn seed i) (l ∷ settled_after (suc i)) in
    omega (arith, before, next, ap (λ (t : List ℕ). length t) both, length-append (text_of (lines_drawn seed i)) (text_of (l ∷ settled_after (suc i))))

clock_short : (w t : ℕ) → w < 10 → t < 100000 → length (ended (clock_line w t)) ≤ 17
clock_short w t few late =
    let a = one_digit w few in
    let b = five_digits t late in
    grind (arith, length-append, a, b)

four_short : (a b c d : List ℕ) → length a ≤ 17 → length b ≤ 17 → length c ≤ 17 → length d ≤ 17 → length (a ++ (b ++ (c ++ (d ++ [])))) ≤ 68
four_short a b c d one two three four = behind a _ 17 51 68 one (behind b _ 17 34 51 two (behind c (d ++ []) 17 17 34 three (behind d [] 17 0 17 four (omega arith) (omega arith)) (omega arith)) (omega arith)) (omega arith)

clocks_short : length (text_of clocks) ≤ 68
clocks_short = four_short (ended (clock_line 0 1000)) (ended (clock_line 1 1000)) (ended (clock_line 2 1000)) (ended (clock_line 3 1000))
    (clock_short 0 1000 (omega arith) (omega arith)) (clock_short 1 1000 (omega arith) (omega arith)) (clock_short 2 1000 (omega arith) (omega arith)) (clock_short 3 1000 (omega arith) (omega arith))

front_short : length (text_of front) ≤ 160
front_short =
    let both = flat_map-append ended (configuration ++ rule_line ∷ []) clocks in
    let first : length (text_of (configuration ++ rule_line ∷ [])) ≤ 90 = omega arith in
    omega (arith, first, clocks_short, ap (λ (t : List ℕ). length t) both, length-append (text_of (configuration ++ rule_line ∷ [])) (text_of clocks))

pub script_short : (seed size : ℕ) → size ≤ 65535 → length (script seed size) ≤ longest_script
script_short seed size few =
    let drawn_lines = lines_drawn seed size in
    let last = settled_at_end size in
    let one = flat_map-append ended front (drawn_lines ++ last) in
    let two = flat_map-append ended drawn_lines last in
    omega (
      arith,
      few,
      front_short,
      lines_short seed size few,
      unsettled_short (size % 64 == 0),
      ap (λ (t : List ℕ). length t) one,
      length-append (text_of front) (text_of (drawn_lines ++ last)),
      ap (λ (t : List ℕ). length t) two,
      length-append (text_of drawn_lines) (text_of last),
    )
