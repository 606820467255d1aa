-- The lines of a script are all made, or one of them breaks one rule first, or one comes to a worn worker first.
use Rattle.std.proofs.Common.{◌≡◌, inl, inr, ℕ, suc, ◌+◌, List, [], ◌∷◌, ◌++◌, length, refl, sym, ◌∙◌, subst, ap, Some, None, Ok}
use Rattle.std.proofs.lemmas.List.{append_cancel_left}
use Rattle.nc_types.specs.Config.{ConfigAt}
use Rattle.nc_conf.specs.Answer.{OneConfig}
use Rattle.nc_conf.specs.Reading.{IsRead}
use Rattle.nc_script.specs.declared.line.Line.{Line as Said}
use Rattle.nc_script.specs.Judge.{IsSure}
use Rattle.nc_script.specs.Line.{line, AreWords, Four}
use Rattle.nc_script.specs.Script.{LinesAreSure, HasNumberAt}
use Rattle.nc_script.specs.Word.{Word}
use Rattle.nc_script.proofs.Sure.{next_sure}
use Rattle.nc_worker_state.specs.Setup.{Setup, setup_of}
use Rattle.nc_world.specs.Lines.{Line, lines_world}
use Rattle.nc_turns.specs.Worn.{before_worn_in}
use Rattle.nc_cluster.specs.PureLine.{pure_line}
use Rattle.nc_replay.specs.declared.fault.Fault.{Fault}
use Rattle.nc_replay.specs.Script.{rule_line, text_of_lines, AreParts, IsConfigured}
use Rattle.nc_replay.specs.Lines.{new_number, line_after, Reads}
use Rattle.nc_replay.specs.Run.{AreUnworn, Made, Worn}
use Rattle.nc_replay.specs.Sure.{IsLineSure, NeverFails, NeverWears, FailsOrWears, HasOneFault}
use Rattle.nc_replay.proofs.OneFront.{has-one-front, lines-parted}

-- ---- a line says one thing, or breaks one rule

same-second : (p q : Four) (text : List ℕ) → AreWords text (p.first ∷ p.second ∷ p.third ∷ p.fourth ∷ []) → AreWords text (q.first ∷ q.second ∷ q.third ∷ q.fourth ∷ []) → p.second ≡ q.second
same-second p q text h k = second p.first q.first p.second q.second _ _ (sym h.0 ∙ k.0)
  where
    second : (a b c d : Word) (xs ys : List Word) → a ∷ c ∷ xs ≡ b ∷ d ∷ ys → c ≡ d
    second a b c d xs ys is = cc

same-place : (text : List ℕ) (at place : ℕ) → HasNumberAt text at → HasNumberAt text place → at ≡ place
same-place text at place h k = h.2 ∙ ap (λ (w : Word). w.at) (same-second h.0 k.0 text h.1 k.1) ∙ sym k.2

number-sure : (lines : List Line) (text : List ℕ) (l : Said) → IsSure (new_number lines text l)
number-sure lines text l = record {
  one = λ x y says also. says.0 ∙ sym also.0;
  either = λ x rule at says breaks. breaks.1 says.1;
  first = λ rule at other place breaks also. (breaks.0 ∙ sym also.0, same-place text at place breaks.2 also.2);
}

pub line-sure : LinesAreSure → IsLineSure
line-sure sure workers lines text = next_sure (line workers text) (new_number lines text) (sure workers text) (number-sure lines text)

-- ---- some texts say the same lines

same-said : LinesAreSure → (workers : ℕ) (before : List Line) (text : List ℕ) (l m : Said) → (line_after workers before text).Says l → (line_after workers before text).Says m → l ≡ m
same-said sure workers before text l m says also = (line-sure sure workers before text).one l m says also

never-breaks : LinesAreSure → (workers : ℕ) (before : List Line) (text bad : List ℕ) (l : Said) (rule at : ℕ) → text ≡ bad → (line_after workers before text).Says l → (line_after workers before bad).Breaks rule at → ⊥
never-breaks sure workers before text bad l rule at same says breaks =
    (line-sure sure workers before bad).either l rule at (subst (λ (t : List ℕ). (line_after workers before t).Says l) same says) breaks

-- no line behind which others stand calls on a worn worker, where none of all does
unworn-before : (setup : Setup) (before : List Line) (texts : List (List ℕ)) (lines : List Line) → Reads setup.workers before texts lines → AreUnworn setup lines → AreUnworn setup before
unworn-before setup before [] lines read unworn = subst (AreUnworn setup) read unworn
unworn-before setup before (text ∷ texts) lines read unworn = (unworn-before setup (pure_line read.0 ∷ before) texts lines read.2 unworn).0

some-not-none : (setup : Setup) (lines : List Line) (l m : Said) (n : ℕ) → l ≡ m → before_worn_in setup (pure_line l) (lines_world setup lines) ≡ None → before_worn_in setup (pure_line m) (lines_world setup lines) ≡ Some n → ⊥
some-not-none setup lines l m n same none some =
    absurd-some n (sym (ap (λ (x : Said). before_worn_in setup (pure_line x) (lines_world setup lines)) same ∙ some) ∙ none)
  where
    absurd-some : (n : ℕ) → Some n ≡ None → ⊥
    absurd-some n is = absurd (cc)

first-of : (a b : List ℕ) (xs ys : List (List ℕ)) → a ∷ xs ≡ b ∷ ys → a ≡ b
first-of a b xs ys is = cc

behind-of : (a b : List ℕ) (xs ys : List (List ℕ)) → a ∷ xs ≡ b ∷ ys → xs ≡ ys
behind-of a b xs ys is = cc

-- behind a line that both read, the others are read behind the same lines
read-on : LinesAreSure → (workers : ℕ) (before : List Line) (text also : List ℕ) (texts : List (List ℕ)) (end : List Line) (l : Said)
    → text ≡ also → (line_after workers before text).Says l → Reads workers before (also ∷ texts) end → Reads workers (pure_line l ∷ before) texts end
read-on sure workers before text also texts end l same says read =
    let one = same-said sure workers before also read.0 l read.1 (subst (λ (t : List ℕ). (line_after workers before t).Says l) same says) in
    subst (λ (x : Said). Reads workers (pure_line x ∷ before) texts end) one read.2

-- all lines were read, and one of them breaks a rule
all-or-fault : LinesAreSure → (workers : ℕ) (before : List Line) (texts : List (List ℕ)) (bad : List ℕ) (rest : List (List ℕ)) (end lines : List Line) (rule at : ℕ)
    → Reads workers before (texts ++ bad ∷ rest) end → Reads workers before texts lines → (line_after workers lines bad).Breaks rule at → ⊥
all-or-fault sure workers before [] bad rest end lines rule at all read breaks =
    never-breaks sure workers lines bad bad all.0 rule at refl (subst (λ (ls : List Line). (line_after workers ls bad).Says all.0) (sym read) all.1) breaks
all-or-fault sure workers before (text ∷ texts) bad rest end lines rule at all read breaks =
    all-or-fault sure workers (pure_line read.0 ∷ before) texts bad rest end lines rule at (read-on sure workers before text text (texts ++ bad ∷ rest) end read.0 refl read.1 all) read.2 breaks

-- all lines were read, and one of them would call on a worn worker
all-or-worn : LinesAreSure → (setup : Setup) (before : List Line) (texts : List (List ℕ)) (next : List ℕ) (rest : List (List ℕ)) (end lines : List Line) (said : Said) (n : ℕ)
    → Reads setup.workers before (texts ++ next ∷ rest) end → AreUnworn setup end → Reads setup.workers before texts lines
    → (line_after setup.workers lines next).Says said → before_worn_in setup (pure_line said) (lines_world setup lines) ≡ Some n → ⊥
all-or-worn sure setup before [] next rest end lines said n all unworn read says met =
    let is : lines ≡ before = read in
    let here = subst (λ (ls : List Line). (line_after setup.workers ls next).Says said) is says in
    let none = (unworn-before setup (pure_line all.0 ∷ before) rest end all.2 unworn).1 in
    some-not-none setup before all.0 said n (same-said sure setup.workers before next all.0 said all.1 here) none
    (subst (λ (ls : List Line). before_worn_in setup (pure_line said) (lines_world setup ls) ≡ Some n) is met)
all-or-worn sure setup before (text ∷ texts) next rest end lines said n all unworn read says met =
    all-or-worn sure setup (pure_line read.0 ∷ before) texts next rest end lines said n (read-on sure setup.workers before text text (texts ++ next ∷ rest) end read.0 refl read.1 all) unworn read.2 says met

-- one of the lines breaks a rule, and one would call on a worn worker
fault-or-worn : LinesAreSure → (setup : Setup) (before : List Line) (texts more : List (List ℕ)) (bad next : List ℕ) (rest behind : List (List ℕ)) (lines others : List Line) (rule at : ℕ) (said : Said) (n : ℕ)
    → texts ++ bad ∷ rest ≡ more ++ next ∷ behind
    → Reads setup.workers before texts lines → AreUnworn setup lines → (line_after setup.workers lines bad).Breaks rule at
    → Reads setup.workers before more others → (line_after setup.workers others next).Says said → before_worn_in setup (pure_line said) (lines_world setup others) ≡ Some n → ⊥
fault-or-worn sure setup before [] [] bad next rest behind lines others rule at said n is read unworn breaks also says met =
    never-breaks sure setup.workers before next bad said rule at (sym (first-of bad next rest behind is))
    (subst (λ (ls : List Line). (line_after setup.workers ls next).Says said) also says)
    (subst (λ (ls : List Line). (line_after setup.workers ls bad).Breaks rule at) read breaks)
fault-or-worn sure setup before [] (text ∷ more) bad next rest behind lines others rule at said n is read unworn breaks also says met =
    never-breaks sure setup.workers before text bad also.0 rule at (sym (first-of bad text rest (more ++ next ∷ behind) is)) also.1
    (subst (λ (ls : List Line). (line_after setup.workers ls bad).Breaks rule at) read breaks)
fault-or-worn sure setup before (text ∷ texts) [] bad next rest behind lines others rule at said n is read unworn breaks also says met =
    let none = (unworn-before setup (pure_line read.0 ∷ before) texts lines read.2 unworn).1 in
    let here = subst (λ (ls : List Line). (line_after setup.workers ls next).Says said) also says in
    let same = first-of text next (texts ++ bad ∷ rest) behind is in
    let one = same-said sure setup.workers before next read.0 said (subst (λ (t : List ℕ). (line_after setup.workers before t).Says read.0) same read.1) here in
    some-not-none setup before read.0 said n one none (subst (λ (ls : List Line). before_worn_in setup (pure_line said) (lines_world setup ls) ≡ Some n) also met)
fault-or-worn sure setup before (text ∷ texts) (other ∷ more) bad next rest behind lines others rule at said n is read unworn breaks also says met =
    fault-or-worn sure setup (pure_line read.0 ∷ before) texts more bad next rest behind lines others rule at said n
    (behind-of text other (texts ++ bad ∷ rest) (more ++ next ∷ behind) is) read.2 unworn breaks
    (read-on sure setup.workers before text other more others read.0 (first-of text other (texts ++ bad ∷ rest) (more ++ next ∷ behind) is) read.1 also) says met

abbrev AreOne : List (List ℕ) → List (List ℕ) → (rule at other place : ℕ) → Type 0
AreOne texts more rule at other place = (length texts ≡ length more) × (rule ≡ other) × (at ≡ place)

-- of the same lines the same one breaks a rule first
one-fault : LinesAreSure → (workers : ℕ) (before : List Line) (texts more : List (List ℕ)) (bad worse : List ℕ) (rest behind : List (List ℕ)) (lines others : List Line) (rule at second place : ℕ)
    → texts ++ bad ∷ rest ≡ more ++ worse ∷ behind → Reads workers before texts lines → Reads workers before more others
    → (line_after workers lines bad).Breaks rule at → (line_after workers others worse).Breaks second place → AreOne texts more rule at second place
one-fault sure workers before [] [] bad worse rest behind lines others rule at second place is read also breaks broken =
    let here = subst (λ (ls : List Line). (line_after workers ls bad).Breaks rule at) read breaks in
    let there = subst (λ (t : List ℕ). (line_after workers before t).Breaks second place) (sym (first-of bad worse rest behind is)) (subst (λ (ls : List Line). (line_after workers ls worse).Breaks second place) also broken) in
    let same = (line-sure sure workers before bad).first rule at second place here there in
    (refl, same.0, same.1)
one-fault sure workers before [] (text ∷ more) bad worse rest behind lines others rule at second place is read also breaks broken =
    absurd (never-breaks sure workers before text bad also.0 rule at (sym (first-of bad text rest (more ++ worse ∷ behind) is)) also.1 (subst (λ (ls : List Line). (line_after workers ls bad).Breaks rule at) read breaks))
one-fault sure workers before (text ∷ texts) [] bad worse rest behind lines others rule at second place is read also breaks broken =
    absurd (never-breaks sure workers before text worse read.0 second place (first-of text worse (texts ++ bad ∷ rest) behind is) read.1 (subst (λ (ls : List Line). (line_after workers ls worse).Breaks second place) also broken))
one-fault sure workers before (text ∷ texts) (other ∷ more) bad worse rest behind lines others rule at second place is read also breaks broken =
    let further = one-fault sure workers (pure_line read.0 ∷ before) texts more bad worse rest behind lines others rule at second place
    (behind-of text other (texts ++ bad ∷ rest) (more ++ worse ∷ behind) is) read.2
    (read-on sure workers before text other more others read.0 (first-of text other (texts ++ bad ∷ rest) (more ++ worse ∷ behind) is) read.1 also) breaks broken in
    (ap suc further.0, further.1, further.2)

-- ---- a script

others-of : (a : List ℕ) (xs ys : List (List ℕ)) → a ∷ xs ≡ a ∷ ys → xs ≡ ys
others-of a xs ys is = cc

same-texts : (script : List ℕ) (before texts other rest : List (List ℕ)) → AreParts script before texts → AreParts script other rest → texts ≡ rest
same-texts script before texts other rest parts others =
    others-of rule_line texts rest (append_cancel_left before (rule_line ∷ texts) (rule_line ∷ rest)
    (sym (lines-parted script before texts parts) ∙ lines-parted script other rest others
    ∙ ap (λ (b : List (List ℕ)). b ++ rule_line ∷ rest) (sym (has-one-front script before texts other rest parts others))))

same-config : OneConfig → (script : List ℕ) (before texts other rest : List (List ℕ)) (config second : ConfigAt) → IsConfigured script before texts config → IsConfigured script other rest second → config ≡ second
same-config one script before texts other rest config second configured also =
    one (text_of_lines before) config second configured.read
    (subst (λ (b : List (List ℕ)). IsRead (text_of_lines b) (Ok second)) (sym (has-one-front script before texts other rest configured.parts also.parts)) also.read)

pub never-fails : LinesAreSure → OneConfig → NeverFails
never-fails sure one first second script h other fault passes fails =
    let lines = fails.texts ++ fails.bad ∷ fails.rest in
    let texts = same-texts script passes.before passes.texts fails.before lines passes.configured.parts fails.configured.parts in
    let config = same-config one script passes.before passes.texts fails.before lines passes.config fails.config passes.configured fails.configured in
    all-or-fault sure fails.config.workers [] fails.texts fails.bad fails.rest passes.made.lines fails.made.lines fault.rule fault.at
    (subst (λ (c : ConfigAt). Reads c.workers [] lines passes.made.lines) config (subst (λ (l : List (List ℕ)). Reads passes.config.workers [] l passes.made.lines) texts passes.made.read))
    fails.made.read fails.breaks

pub never-wears : LinesAreSure → OneConfig → NeverWears
never-wears sure one first script h other passes wears =
    let lines = wears.texts ++ wears.text ∷ wears.rest in
    let texts = same-texts script passes.before passes.texts wears.before lines passes.configured.parts wears.configured.parts in
    let config = same-config one script passes.before passes.texts wears.before lines passes.config wears.config passes.configured wears.configured in
    all-or-worn sure (setup_of wears.config first) [] wears.texts wears.text wears.rest passes.made.lines wears.worn.lines wears.worn.said wears.worn.moves
    (subst (λ (c : ConfigAt). Reads c.workers [] lines passes.made.lines) config (subst (λ (l : List (List ℕ)). Reads passes.config.workers [] l passes.made.lines) texts passes.made.read))
    (subst (λ (c : ConfigAt). AreUnworn (setup_of c first) passes.made.lines) config passes.made.unworn)
    wears.worn.read wears.worn.says wears.worn.met

pub fails-or-wears : LinesAreSure → OneConfig → FailsOrWears
fails-or-wears sure one first script h other fault fails wears =
    let lines = fails.texts ++ fails.bad ∷ fails.rest in
    let others = wears.texts ++ wears.text ∷ wears.rest in
    let texts = same-texts script fails.before lines wears.before others fails.configured.parts wears.configured.parts in
    let config = same-config one script fails.before lines wears.before others fails.config wears.config fails.configured wears.configured in
    fault-or-worn sure (setup_of wears.config first) [] fails.texts wears.texts fails.bad wears.text fails.rest wears.rest fails.made.lines wears.worn.lines fault.rule fault.at wears.worn.said wears.worn.moves texts
    (subst (λ (c : ConfigAt). Reads c.workers [] fails.texts fails.made.lines) config fails.made.read)
    (subst (λ (c : ConfigAt). AreUnworn (setup_of c first) fails.made.lines) config fails.made.unworn)
    (subst (λ (c : ConfigAt). (line_after c.workers fails.made.lines fails.bad).Breaks fault.rule fault.at) config fails.breaks)
    wears.worn.read wears.worn.says wears.worn.met

fault-is : (fault second : Fault) → fault.line ≡ second.line → fault.rule ≡ second.rule → fault.at ≡ second.at → fault ≡ second
fault-is fault second line rule at =
    ap (λ n. let f : Fault = record { line = n; rule = fault.rule; at = fault.at } in f) line
    ∙ ap (λ n. let f : Fault = record { line = second.line; rule = n; at = fault.at } in f) rule
    ∙ ap (λ n. let f : Fault = record { line = second.line; rule = second.rule; at = n } in f) at

pub has-one-fault : LinesAreSure → OneConfig → HasOneFault
has-one-fault sure one first other script h history fault second fails also =
    let lines = fails.texts ++ fails.bad ∷ fails.rest in
    let others = also.texts ++ also.bad ∷ also.rest in
    let front = has-one-front script fails.before lines also.before others fails.configured.parts also.configured.parts in
    let config = same-config one script fails.before lines also.before others fails.config also.config fails.configured also.configured in
    let same = same-texts script fails.before lines also.before others fails.configured.parts also.configured.parts in
    let is = one-fault sure also.config.workers [] fails.texts also.texts fails.bad also.bad fails.rest also.rest fails.made.lines also.made.lines fault.rule fault.at second.rule second.at same
    (subst (λ (c : ConfigAt). Reads c.workers [] fails.texts fails.made.lines) config fails.made.read) also.made.read
    (subst (λ (c : ConfigAt). (line_after c.workers fails.made.lines fails.bad).Breaks fault.rule fault.at) config fails.breaks) also.breaks in
    fault-is fault second
    (fails.counted ∙ ap (λ n. n + length fails.texts + 2) (ap (λ (l : List (List ℕ)). length l) front) ∙ ap (λ n. length also.before + n + 2) is.0 ∙ sym also.counted)
    is.1 is.2
