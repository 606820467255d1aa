-- Where the lines of a script begin.
use Rattle.std.proofs.Common.{◌≡◌, ◌≢◌, ◌⊎◌, inl, inr, ℕ, suc, ◌+◌, ◌<◌, ◌≤◌, ◌==◌, Bool, true, false, cond, eqb, not, List, [], ◌∷◌, ◌++◌, length, take, get_or, refl, sym, ◌∙◌, subst, ap, arith, append_assoc, length-append, true≢false}
use Rattle.std.specs.Prelude.{◌↔◌, IsTrue}
use Rattle.std.specs.List.{AllByRecursion, before_first, after_first, position_or_len}
use Rattle.std.proofs.lemmas.Bool.{eqb-true, eqb-false}
use Rattle.std.proofs.lemmas.List.{flat_map_more, drop_all}
use Rattle.std.proofs.lemmas.List.Sums.{split_at_first, passes_at_first}
use Rattle.nc_journal.proofs.Cuts.{all-append}
use Rattle.nc_replay.specs.Script.{lines_of, rule_line, ended, text_of_lines, HasRule, LacksRule, IsConfigLine}
use Rattle.nc_replay.proofs.Cuts.{first_and_rest}

-- a text whose first line is the line `---`
pub has-rule : (text : List ℕ) → HasRule text → lines_of text ≡ rule_line ∷ lines_of (after_first (λ x. x == 10) text)
has-rule text has = first_and_rest text has.0 ∙ ap (λ (line : List ℕ). line ∷ lines_of (after_first (λ x. x == 10) text)) has.1

pub not-lacking : (text : List ℕ) → HasRule text → LacksRule text → ⊥
not-lacking text has lacks = (subst (λ (ls : List (List ℕ)). AllByRecursion (λ l. l ≢ rule_line) ls) (has-rule text has) lacks).0 refl

-- no LF stands in the first line
one-more : (b : ℕ) (text : List ℕ) (n : ℕ) → (eqb b 10) ≡ false → AllByRecursion (λ c. c ≢ 10) (take n text) → AllByRecursion (λ c. c ≢ 10) (take (1 + n) (b ∷ text))
one-more b text n other all =
    let front : 1 + n ≡ suc n = omega arith in
    subst (λ (m : ℕ). AllByRecursion (λ c. c ≢ 10) (take m (b ∷ text))) (sym front) (eqb-false b 10 other, all)

no-lf : (text : List ℕ) → AllByRecursion (λ b. b ≢ 10) (before_first (λ b. b == 10) text)
no-lf [] = tt
no-lf (b ∷ text) = by_test (eqb b 10) refl (no-lf text)
  where
    by_test : (t : Bool) → eqb b 10 ≡ t → AllByRecursion (λ c. c ≢ 10) (before_first (λ c. c == 10) text) → AllByRecursion (λ c. c ≢ 10) (take (cond (not t) (1 + position_or_len (λ c. c == 10) text) 0) (b ∷ text))
    by_test true is all = tt
    by_test false is all = one-more b text (position_or_len (λ c. c == 10) text) is all

-- the first line with its LF and the rest, where it has one
cut-at : (text : List ℕ) → position_or_len (λ b. b == 10) text < length text → text ≡ ended (before_first (λ b. b == 10) text) ++ after_first (λ b. b == 10) text
cut-at text within =
    let line = before_first (λ b. b == 10) text in
    let rest = after_first (λ b. b == 10) text in
    split_at_first (λ b. b == 10) text 0 within
    ∙ ap (λ (b : ℕ). line ++ b ∷ rest) (eqb-true (get_or text (position_or_len (λ b. b == 10) text) 0) 10 (passes_at_first (λ b. b == 10) text 0 within))
    ∙ sym (append_assoc line (10 ∷ []) rest)

nothing-behind : (text : List ℕ) → length text ≤ position_or_len (λ b. b == 10) text → after_first (λ b. b == 10) text ≡ []
nothing-behind text past = drop_all (position_or_len (λ b. b == 10) text + 1) text (omega (arith, past))

-- while the lines before the line `---` are gone over
pub record SoFar (script rest : List ℕ) (count : ℕ) : Type 0 where
  pub before : List (List ℕ)
  pub cut : script ≡ text_of_lines before ++ rest
  pub each : AllByRecursion IsConfigLine before
  pub counted : count ≡ length before

pub so-far-start : (script : List ℕ) → SoFar script script 0
so-far-start script = record { before = []; cut = refl; each = tt; counted = refl }

one-line : (script rest : List ℕ) (count : ℕ) → 0 < length rest → (HasRule rest → ⊥) → rest ≡ ended (before_first (λ b. b == 10) rest) ++ after_first (λ b. b == 10) rest → SoFar script rest count → SoFar script (after_first (λ b. b == 10) rest) (count + 1)
one-line script rest count some not is so =
    let line = before_first (λ b. b == 10) rest in
    let behind = after_first (λ b. b == 10) rest in
    record {
      before = so.before ++ line ∷ [];
      cut = so.cut ∙ ap (λ (r : List ℕ). text_of_lines so.before ++ r) is ∙ sym (append_assoc (text_of_lines so.before) (ended line) behind) ∙ ap (λ (t : List ℕ). t ++ behind) (flat_map_more ended [] so.before line);
      each = all-append IsConfigLine so.before (line ∷ []) so.each (record { whole = no-lf rest; other = λ same. not (some, same) }, tt);
      counted = omega (arith, so.counted, length-append so.before (line ∷ []));
    }

pub so-far-next : (script rest behind : List ℕ) (count next : ℕ) → 0 < length rest → (HasRule rest → ⊥) → behind ≡ after_first (λ b. b == 10) rest → next ≡ count + 1 → (rest ≡ []) ⊎ SoFar script rest count → (behind ≡ []) ⊎ SoFar script behind next
so-far-next script rest behind count next some not is counts (inl none) = absurd (omega (arith, some, ap length none))
so-far-next script rest behind count next some not is counts (inr so) =
    elim (or-past (position_or_len (λ b. b == 10) rest) (length rest)) [
      | inl within ↦ inr (subst (λ (b : List ℕ). SoFar script b next) (sym is) (subst (λ (n : ℕ). SoFar script (after_first (λ b. b == 10) rest) n) (sym counts) (one-line script rest count some not (cut-at rest within) so)))
      | inr past ↦ inl (is ∙ nothing-behind rest past)
    ]
  where
    or-past : (n m : ℕ) → (n < m) ⊎ (m ≤ n)
    or-past n m = grind arith

pub lacks-next : (script rest behind : List ℕ) → 0 < length rest → (HasRule rest → ⊥) → lines_of rest ≡ before_first (λ b. b == 10) rest ∷ lines_of behind → LacksRule script ↔ LacksRule rest → LacksRule script ↔ LacksRule behind
lacks-next script rest behind some not lines both =
    let other : before_first (λ b. b == 10) rest ≢ rule_line = λ same. not (some, same) in (
      λ lacks. (subst (λ (ls : List (List ℕ)). AllByRecursion (λ l. l ≢ rule_line) ls) lines (both.0 lacks)).1,
      λ lacks. both.1 (subst (λ (ls : List (List ℕ)). AllByRecursion (λ l. l ≢ rule_line) ls) (sym lines) (other, lacks)),
    )

pub not-by-test : {P : Type 0} (b : Bool) → IsTrue b ↔ P → b ≡ false → P → ⊥
not-by-test b both is p = true≢false (sym (both.1 p) ∙ is)

pub by-test : {P : Type 0} (b : Bool) → IsTrue b ↔ P → b ≡ true → P
by-test b both is = both.0 is
