-- What each line of a script says, and which rule it breaks where.
use Rattle.std.specs.Prelude.{◌≡◌, ℕ, ◌+◌, ◌<◌, ◌≤◌, List, [], ◌∷◌, ◌++◌, codes, length, ◌==◌, Bool, true, drop}
use Rattle.std.specs.List.{before_first}
use Rattle.nc_types.specs.Id.{latest_clock}
use Rattle.nc_script.specs.declared.command.Command.{Command}
use Rattle.nc_script.specs.declared.command.Command.TheVariants.{Clock as ClockCommand, Reap as ReapCommand, Post as PostCommand, Poll as PollCommand, Carry as CarryCommand, Take as TakeCommand, Settle as SettleCommand, Drop as DropCommand, Info as InfoCommand}
use Rattle.nc_script.specs.declared.line.Line.{Line}
use Rattle.nc_script.specs.declared.line.Line.TheVariants.{Blank, Clock, Reap, Post, Poll, Carry, Take, Settle, Remove, Inform}
use Rattle.nc_script.specs.Word.{Word, words_from}
use Rattle.nc_script.specs.Judge.{Judge, says, must, next, chosen}
use Rattle.nc_script.specs.Part.{number, greatest_number, worker, body, name, list, start}

abbrev pub longest_line : ℕ
longest_line = 262144

-- rule 1: a line isn't too long
abbrev pub short_enough : List ℕ → Judge (Unit {0})
short_enough text = must 1 longest_line (λ u. length text ≤ longest_line)

-- the first word of a line, which is empty where the line begins with a space
abbrev pub first_word : List ℕ → List ℕ
first_word text = before_first (λ b. b == 32) text

-- what stands behind the first word
abbrev pub behind_first : List ℕ → List ℕ
behind_first text = drop (length (first_word text)) text

abbrev pub command_word : Command → List ℕ
command_word ClockCommand = codes "clock"
command_word ReapCommand = codes "reap"
command_word PostCommand = codes "post"
command_word PollCommand = codes "poll"
command_word CarryCommand = codes "carry"
command_word TakeCommand = codes "take"
command_word SettleCommand = codes "settle"
command_word DropCommand = codes "drop"
command_word InfoCommand = codes "info"

-- rule 2: the first word is a command
abbrev pub command : List ℕ → Judge Command
command text = must 2 0 (λ c. first_word text ≡ command_word c)

-- a text ends with a space
abbrev pub EndsInSpace : List ℕ → Type 0
EndsInSpace text = (front : List ℕ) × (text ≡ front ++ 32 ∷ [])

-- rule 3: these are the words behind the command, and nothing stands behind the last one
abbrev pub AreWords : List ℕ → List Word → Type 0
AreWords text words = (words_from (length (first_word text)) (behind_first text) ≡ words) × (EndsInSpace text → ⊥)

abbrev pub one_word : List ℕ → Judge Word
one_word text = must 3 (length text) (λ word. AreWords text (word ∷ []))

abbrev pub two_words : List ℕ → Judge (Word × Word)
two_words text = must 3 (length text) (λ p. AreWords text (p.0 ∷ p.1 ∷ []))

-- the four words of a poll
pub record Four : Type 0 where
  pub first : Word
  pub second : Word
  pub third : Word
  pub fourth : Word

abbrev pub four_words : List ℕ → Judge Four
four_words text = must 3 (length text) (λ p. AreWords text (p.first ∷ p.second ∷ p.third ∷ p.fourth ∷ []))

-- what stands between the command and the first `"` behind it
abbrev pub before_quote : List ℕ → List ℕ
before_quote text = before_first (λ b. b == 34) (behind_first text)

-- the words before a quoted text, which begins at the first `"` and counts as the last word
pub record AreWordsBefore (text : List ℕ) (words : List Word) (quoted : Word) : Type 0 where
  pub front : words_from (length (first_word text)) (before_quote text) ≡ words
  pub at : quoted.at ≡ length (first_word text) + length (before_quote text)
  pub bytes : quoted.bytes ≡ drop (length (before_quote text)) (behind_first text)
  pub some : 0 < length quoted.bytes

-- the words of a line that has a quoted text
pub record Quoting : Type 0 where
  pub first : Word
  pub second : Word
  pub quoted : Word

abbrev pub two_words_and_text : List ℕ → Judge Quoting
two_words_and_text text = must 3 (length text) (λ p. AreWordsBefore text (p.first ∷ p.second ∷ []) p.quoted)

-- `clock W T`: the time is at most 4,102,444,800 seconds
abbrev pub clock_line : ℕ → List ℕ → Judge Line
clock_line workers text =
    next (two_words text) (λ p.
    next (number greatest_number p.0) (λ n.
    next (number latest_clock p.1) (λ t.
    next (worker workers p.0 n) (λ w.
    says (Clock w t)))))

-- `reap W`
abbrev pub reap_line : ℕ → List ℕ → Judge Line
reap_line workers text =
    next (one_word text) (λ p.
    next (number greatest_number p) (λ n.
    next (worker workers p n) (λ w.
    says (Reap w))))

-- `post W NAME "TEXT"`
abbrev pub post_line : ℕ → List ℕ → Judge Line
post_line workers text =
    next (two_words_and_text text) (λ p.
    next (number greatest_number p.first) (λ n.
    next (worker workers p.first n) (λ w.
    next (body p.quoted) (λ b.
    next (name p.second) (λ c.
    says (Post w c b))))))

-- `poll W S LIST START`: the number is at most 65,535
abbrev pub poll_line : ℕ → List ℕ → Judge Line
poll_line workers text =
    next (four_words text) (λ p.
    next (number greatest_number p.first) (λ n.
    next (number 65535 p.second) (λ k.
    next (worker workers p.first n) (λ w.
    next (list p.third) (λ cs.
    next (start (length cs) p.fourth) (λ s.
    says (Poll w k cs s)))))))

-- two workers and nothing else: both numbers are judged before the workers, and of these the first one first
abbrev pub two_workers : ℕ → List ℕ → Judge (ℕ × ℕ)
two_workers workers text =
    next (two_words text) (λ p.
    next (number greatest_number p.0) (λ n.
    next (number greatest_number p.1) (λ m.
    next (worker workers p.0 n) (λ w.
    next (worker workers p.1 m) (λ v.
    says (w, v))))))

-- `carry W V`
abbrev pub carry_line : ℕ → List ℕ → Judge Line
carry_line workers text = next (two_workers workers text) (λ p. says (Carry p.0 p.1))

-- `take W V`
abbrev pub take_line : ℕ → List ℕ → Judge Line
take_line workers text = next (two_workers workers text) (λ p. says (Take p.0 p.1))

-- `settle N`
abbrev pub settle_line : List ℕ → Judge Line
settle_line text =
    next (one_word text) (λ p.
    next (number greatest_number p) (λ n.
    says (Settle n)))

-- `drop W NAME`
abbrev pub drop_line : ℕ → List ℕ → Judge Line
drop_line workers text =
    next (two_words text) (λ p.
    next (number greatest_number p.0) (λ n.
    next (worker workers p.0 n) (λ w.
    next (name p.1) (λ c.
    says (Remove w c)))))

-- `info W NAME`
abbrev pub info_line : ℕ → List ℕ → Judge Line
info_line workers text =
    next (two_words text) (λ p.
    next (number greatest_number p.0) (λ n.
    next (worker workers p.0 n) (λ w.
    next (name p.1) (λ c.
    says (Inform w c)))))

abbrev pub command_line : ℕ → List ℕ → Command → Judge Line
command_line workers text ClockCommand = clock_line workers text
command_line workers text ReapCommand = reap_line workers text
command_line workers text PostCommand = post_line workers text
command_line workers text PollCommand = poll_line workers text
command_line workers text CarryCommand = carry_line workers text
command_line workers text TakeCommand = take_line workers text
command_line workers text SettleCommand = settle_line text
command_line workers text DropCommand = drop_line workers text
command_line workers text InfoCommand = info_line workers text

-- a line that isn't blank begins with a command
abbrev pub full_line : ℕ → List ℕ → Judge Line
full_line workers text = next (command text) (command_line workers text)

-- an empty line and a comment are blank
abbrev pub is_blank : List ℕ → Bool
is_blank [] = true
is_blank (b ∷ text) = b == 35

abbrev pub written_line : ℕ → List ℕ → Judge Line
written_line workers text = chosen (is_blank text) (says Blank) (full_line workers text)

-- a line of a script: which rules it keeps is judged in their order
abbrev pub line : ℕ → List ℕ → Judge Line
line workers text = next (short_enough text) (λ u. written_line workers text)
