-- A line says one thing, or breaks one rule at one place.
use Rattle.std.proofs.Common.{◌≡◌, ℕ, ◌+◌, ◌*◌, ◌==◌, if◌then◌else◌, List, [], ◌∷◌, length, get_or, sym, ap, ◌∙◌, refl}
use Rattle.nc_types.specs.Id.{latest_clock}
use Rattle.nc_script.specs.declared.command.Command.{Command}
use Rattle.nc_script.specs.declared.command.Command.TheVariants.{Clock, Reap, Post, Poll, Carry, Take, Settle, Drop, Info}
use Rattle.nc_types.specs.Unquote.{OneMeaning, OnePlace}
use Rattle.nc_script.specs.Word.{Word}
use Rattle.nc_script.specs.Judge.{IsSure}
use Rattle.nc_script.specs.Part.{greatest_number}
use Rattle.nc_script.specs.Line.{command_word, command, short_enough, longest_line, one_word, two_words, four_words, two_words_and_text, Four, Quoting, clock_line, reap_line, post_line, poll_line, two_workers, carry_line, take_line, settle_line, drop_line, info_line, command_line, full_line, is_blank}
use Rattle.nc_script.specs.Script.{LinesAreSure}
use Rattle.nc_script.proofs.Sure.{says_sure, must_sure, next_sure, chosen_sure}
use Rattle.nc_script.proofs.Parts.{number_sure, worker_sure, name_sure, body_sure, list_sure, start_sure}

-- the first and the third byte of a command's word tell the command
abbrev told_by : ℕ → Command
told_by key =
    if key == 99111 then Clock else
    (if key == 114097 then Reap else
    (if key == 112115 then Post else
    (if key == 112108 then Poll else
    (if key == 99114 then Carry else
    (if key == 116107 then Take else
    (if key == 115116 then Settle else
    (if key == 100111 then Drop else Info)))))))

abbrev told : List ℕ → Command
told word = told_by (get_or word 0 0 * 1000 + get_or word 2 0)

told_is : (c : Command) → told (command_word c) ≡ c
told_is Clock = refl
told_is Reap = refl
told_is Post = refl
told_is Poll = refl
told_is Carry = refl
told_is Take = refl
told_is Settle = refl
told_is Drop = refl
told_is Info = refl

same_command : (c d : Command) → command_word c ≡ command_word d → c ≡ d
same_command c d h = sym (told_is c) ∙ ap told h ∙ told_is d

command_sure : (text : List ℕ) → IsSure (command text)
command_sure text = must_sure 2 0 _ (λ c d h k. same_command c d (sym h ∙ k))

one_word_sure : (text : List ℕ) → IsSure (one_word text)
one_word_sure text = must_sure 3 (length text) _ (λ a b h k. let same = sym h.0 ∙ k.0 in cc)

same_two : (p q : Word × Word) → p.0 ∷ p.1 ∷ [] ≡ q.0 ∷ q.1 ∷ [] → p ≡ q
same_two (a, b) (c, d) same = cc

two_words_sure : (text : List ℕ) → IsSure (two_words text)
two_words_sure text = must_sure 3 (length text) _ (λ p q h k. same_two p q (sym h.0 ∙ k.0))

abbrev four : Word → Word → Word → Word → Four
four a b c d = record { first = a; second = b; third = c; fourth = d }

same_parts : (a b c d e f g h : Word) → a ∷ b ∷ c ∷ d ∷ [] ≡ e ∷ f ∷ g ∷ h ∷ [] → four a b c d ≡ four e f g h
same_parts a b c d e f g h same = cc

same_four : (p q : Four) → p.first ∷ p.second ∷ p.third ∷ p.fourth ∷ [] ≡ q.first ∷ q.second ∷ q.third ∷ q.fourth ∷ [] → p ≡ q
same_four p q same = same_parts p.first p.second p.third p.fourth q.first q.second q.third q.fourth same

four_words_sure : (text : List ℕ) → IsSure (four_words text)
four_words_sure text = must_sure 3 (length text) _ (λ a b h k. same_four a b (sym h.0 ∙ k.0))

abbrev word_at : ℕ → List ℕ → Word
word_at at bytes = record { at = at; bytes = bytes }

same_word : (a b : Word) → a.at ≡ b.at → a.bytes ≡ b.bytes → a ≡ b
same_word a b h k = let e : word_at a.at a.bytes ≡ word_at b.at b.bytes = cc in e

abbrev quoting : Word → Word → Word → Quoting
quoting a b quoted = record { first = a; second = b; quoted = quoted }

same_ends : (a b c d e f : Word) → a ∷ b ∷ [] ≡ d ∷ e ∷ [] → c ≡ f → quoting a b c ≡ quoting d e f
same_ends a b c d e f same quoted = cc

same_quoting : (p q : Quoting) → p.first ∷ p.second ∷ [] ≡ q.first ∷ q.second ∷ [] → p.quoted ≡ q.quoted → p ≡ q
same_quoting p q same quoted = same_ends p.first p.second p.quoted q.first q.second q.quoted same quoted

two_words_and_text_sure : (text : List ℕ) → IsSure (two_words_and_text text)
two_words_and_text_sure text = must_sure 3 (length text) _ (λ p q h k.
    same_quoting p q (sym h.front ∙ k.front) (same_word p.quoted q.quoted (h.at ∙ sym k.at) (h.bytes ∙ sym k.bytes)))

clock_line_sure : (workers : ℕ) (text : List ℕ) → IsSure (clock_line workers text)
clock_line_sure workers text =
    next_sure _ _ (two_words_sure text) (λ p.
    next_sure _ _ (number_sure greatest_number p.0) (λ n.
    next_sure _ _ (number_sure latest_clock p.1) (λ t.
    next_sure _ _ (worker_sure workers p.0 n) (λ w. says_sure _))))

reap_line_sure : (workers : ℕ) (text : List ℕ) → IsSure (reap_line workers text)
reap_line_sure workers text =
    next_sure _ _ (one_word_sure text) (λ p.
    next_sure _ _ (number_sure greatest_number p) (λ n.
    next_sure _ _ (worker_sure workers p n) (λ w. says_sure _)))

two_workers_sure : (workers : ℕ) (text : List ℕ) → IsSure (two_workers workers text)
two_workers_sure workers text =
    next_sure _ _ (two_words_sure text) (λ p.
    next_sure _ _ (number_sure greatest_number p.0) (λ n.
    next_sure _ _ (number_sure greatest_number p.1) (λ m.
    next_sure _ _ (worker_sure workers p.0 n) (λ w.
    next_sure _ _ (worker_sure workers p.1 m) (λ v. says_sure _)))))

carry_line_sure : (workers : ℕ) (text : List ℕ) → IsSure (carry_line workers text)
carry_line_sure workers text = next_sure _ _ (two_workers_sure workers text) (λ p. says_sure _)

take_line_sure : (workers : ℕ) (text : List ℕ) → IsSure (take_line workers text)
take_line_sure workers text = next_sure _ _ (two_workers_sure workers text) (λ p. says_sure _)

settle_line_sure : (text : List ℕ) → IsSure (settle_line text)
settle_line_sure text =
    next_sure _ _ (one_word_sure text) (λ p.
    next_sure _ _ (number_sure greatest_number p) (λ n. says_sure _))

drop_line_sure : (workers : ℕ) (text : List ℕ) → IsSure (drop_line workers text)
drop_line_sure workers text =
    next_sure _ _ (two_words_sure text) (λ p.
    next_sure _ _ (number_sure greatest_number p.0) (λ n.
    next_sure _ _ (worker_sure workers p.0 n) (λ w.
    next_sure _ _ (name_sure p.1) (λ c. says_sure _))))

info_line_sure : (workers : ℕ) (text : List ℕ) → IsSure (info_line workers text)
info_line_sure workers text =
    next_sure _ _ (two_words_sure text) (λ p.
    next_sure _ _ (number_sure greatest_number p.0) (λ n.
    next_sure _ _ (worker_sure workers p.0 n) (λ w.
    next_sure _ _ (name_sure p.1) (λ c. says_sure _))))

module _ (one_meaning : (text : List ℕ) → OneMeaning text) (one_place : (text : List ℕ) → OnePlace text) where
  post_line_sure : (workers : ℕ) (text : List ℕ) → IsSure (post_line workers text)
  post_line_sure workers text =
      next_sure _ _ (two_words_and_text_sure text) (λ p.
      next_sure _ _ (number_sure greatest_number p.first) (λ n.
      next_sure _ _ (worker_sure workers p.first n) (λ w.
      next_sure _ _ (body_sure one_meaning one_place p.quoted) (λ b.
      next_sure _ _ (name_sure p.second) (λ c. says_sure _)))))

  poll_line_sure : (workers : ℕ) (text : List ℕ) → IsSure (poll_line workers text)
  poll_line_sure workers text =
      next_sure _ _ (four_words_sure text) (λ p.
      next_sure _ _ (number_sure greatest_number p.first) (λ n.
      next_sure _ _ (number_sure 65535 p.second) (λ k.
      next_sure _ _ (worker_sure workers p.first n) (λ w.
      next_sure _ _ (list_sure p.third) (λ cs.
      next_sure _ _ (start_sure (length cs) p.fourth) (λ s. says_sure _))))))

  command_line_sure : (workers : ℕ) (text : List ℕ) (c : Command) → IsSure (command_line workers text c)
  command_line_sure workers text Clock = clock_line_sure workers text
  command_line_sure workers text Reap = reap_line_sure workers text
  command_line_sure workers text Post = post_line_sure workers text
  command_line_sure workers text Poll = poll_line_sure workers text
  command_line_sure workers text Carry = carry_line_sure workers text
  command_line_sure workers text Take = take_line_sure workers text
  command_line_sure workers text Settle = settle_line_sure text
  command_line_sure workers text Drop = drop_line_sure workers text
  command_line_sure workers text Info = info_line_sure workers text

  pub lines_sure : LinesAreSure
  lines_sure workers text =
      next_sure (short_enough text) _ (must_sure 1 longest_line _ (λ u v h k. refl)) (λ u.
      chosen_sure (is_blank text) _ (full_line workers text) (says_sure _)
      (next_sure (command text) (command_line workers text) (command_sure text) (command_line_sure workers text)))
