-- A script has its parts in one way.
use Rattle.std.proofs.Common.{◌≡◌, ◌≢◌, inl, inr, ℕ, Bool, true, false, eqb, cond, List, [], ◌∷◌, ◌++◌, refl, sym, ◌∙◌, subst, ap, append_assoc}
use Rattle.std.specs.List.{AllByRecursion}
use Rattle.std.proofs.lemmas.Bool.{eqb-true}
use Rattle.nc_conf.specs.Answer.{NeverBoth}
use Rattle.nc_replay.specs.Script.{lines_of, onto_first, rule_line, ended, text_of_lines, IsConfigLine, AreParts, IsFaulty}
use Rattle.nc_replay.specs.Sure.{HasOneFront, IsNeverBoth}

-- a whole line comes first
one-line : (line rest : List ℕ) → AllByRecursion (λ b. b ≢ 10) line → lines_of (line ++ 10 ∷ rest) ≡ line ∷ lines_of rest
one-line [] rest whole = refl
one-line (b ∷ line) rest whole = by_test (eqb b 10) refl (one-line line rest whole.1)
  where
    by_test : (t : Bool) → eqb b 10 ≡ t → lines_of (line ++ 10 ∷ rest) ≡ line ∷ lines_of rest → cond t ([] ∷ lines_of (line ++ 10 ∷ rest)) (onto_first b (lines_of (line ++ 10 ∷ rest))) ≡ (b ∷ line) ∷ lines_of rest
    by_test true is behind = absurd (whole.0 (eqb-true b 10 is))
    by_test false is behind = ap (onto_first b) behind

whole-lines : (before : List (List ℕ)) (rest : List ℕ) → AllByRecursion IsConfigLine before → lines_of (text_of_lines before ++ rest) ≡ before ++ lines_of rest
whole-lines [] rest each = refl
whole-lines (line ∷ before) rest each =
    ap lines_of (append_assoc (ended line) (text_of_lines before) rest ∙ append_assoc line (10 ∷ []) (text_of_lines before ++ rest))
    ∙ one-line line (text_of_lines before ++ rest) each.0.whole
    ∙ ap (λ (l : List (List ℕ)). line ∷ l) (whole-lines before rest each.1)

pub lines-parted : (script : List ℕ) (before made : List (List ℕ)) → AreParts script before made → lines_of script ≡ before ++ rule_line ∷ made
lines-parted script before made parts = ap lines_of parts.cut ∙ whole-lines before parts.rest parts.each ∙ ap (λ (l : List (List ℕ)). before ++ l) parts.lines

first-of : (a b : List ℕ) (xs ys : List (List ℕ)) → a ∷ xs ≡ b ∷ ys → a ≡ b
first-of a b xs ys is = cc

others-of : (a b : List ℕ) (xs ys : List (List ℕ)) → a ∷ xs ≡ b ∷ ys → xs ≡ ys
others-of a b xs ys is = cc

-- what stands before the first line `---` is told by the lines
one-front : (before made other rest : List (List ℕ)) → AllByRecursion IsConfigLine before → AllByRecursion IsConfigLine other → before ++ rule_line ∷ made ≡ other ++ rule_line ∷ rest → before ≡ other
one-front [] made [] rest each all is = refl
one-front [] made (l ∷ other) rest each all is = absurd (all.0.other (sym (first-of rule_line l made (other ++ rule_line ∷ rest) is)))
one-front (l ∷ before) made [] rest each all is = absurd (each.0.other (first-of l rule_line (before ++ rule_line ∷ made) rest is))
one-front (l ∷ before) made (k ∷ other) rest each all is =
    let xs = before ++ rule_line ∷ made in
    let ys = other ++ rule_line ∷ rest in
    ap (λ (a : List ℕ). a ∷ before) (first-of l k xs ys is) ∙ ap (λ (b : List (List ℕ)). k ∷ b) (one-front before made other rest each.1 all.1 (others-of l k xs ys is))

pub has-one-front : HasOneFront
has-one-front script before made other rest parts others = one-front before made other rest parts.each others.each (sym (lines-parted script before made parts) ∙ lines-parted script other rest others)

-- a script that has the line `---` doesn't lack it
has-it : (before made : List (List ℕ)) → AllByRecursion (λ l. l ≢ rule_line) (before ++ rule_line ∷ made) → ⊥
has-it [] made all = all.0 refl
has-it (l ∷ before) made all = has-it before made all.1

pub never-both : NeverBoth → IsNeverBoth
never-both apart script before made config rule at configured (inl lacks) =
    has-it before made (subst (λ (ls : List (List ℕ)). AllByRecursion (λ l. l ≢ rule_line) ls) (lines-parted script before made configured.parts) lacks.0)
never-both apart script before made config rule at configured (inr fault) =
    let same = has-one-front script before made fault.before fault.made configured.parts fault.parts in
    apart (text_of_lines before) config (record { at = at; rule = rule }) configured.read (subst (λ (b : List (List ℕ)). IsFaulty (text_of_lines b) rule at) (sym same) fault.read)
