-- The words of a line as tables: what each word stands for.
use Rattle.std.specs.Prelude.{ℕ, List, [], ◌∷◌}
use Rattle.nc_grammar.specs.Reading.{Read}
use Rattle.nc_grammar.specs.Rows.{Row, line_at}
use Rattle.nc_journal_read.specs.Shape.{kit}
use Rattle.nc_journal.specs.Word.{act_word, mode_word, left_word, removed_word, ended_word, shut_word, kind_word}
use Rattle.nc_journal.specs.declared.word.Act.{Act}
use Rattle.nc_journal.specs.declared.word.Act.TheVariants as acts
use Rattle.nc_journal.specs.declared.word.ModeLine.{ModeLine}
use Rattle.nc_journal.specs.declared.word.ModeLine.TheVariants as modes
use Rattle.nc_journal.specs.declared.word.LeftCause.{LeftCause}
use Rattle.nc_journal.specs.declared.word.LeftCause.TheVariants as lefts
use Rattle.nc_journal.specs.declared.word.RemovedCause.{RemovedCause}
use Rattle.nc_journal.specs.declared.word.RemovedCause.TheVariants as removals
use Rattle.nc_journal.specs.declared.word.EndedCause.{EndedCause}
use Rattle.nc_journal.specs.declared.word.EndedCause.TheVariants as endings
use Rattle.nc_journal.specs.declared.word.ShutCause.{ShutCause}
use Rattle.nc_journal.specs.declared.word.ShutCause.TheVariants as shuts
use Rattle.nc_journal.specs.declared.word.AlertKind.{AlertKind}
use Rattle.nc_journal.specs.declared.word.AlertKind.TheVariants as kinds

-- a word without fields
abbrev pub word_row : {A : Type 0} → (A → List ℕ) → A → Row kit A
word_row word value = record { word = word value; fields = []; make = λ x. value }

-- the words behind the first
abbrev pub act_rows : List (Row kit Act)
act_rows = word_row act_word acts.Info ∷ word_row act_word acts.Delete ∷ word_row act_word acts.LongPoll ∷ word_row act_word acts.Socket
    ∷ word_row act_word acts.Refuse ∷ word_row act_word acts.Bad ∷ []

-- reads such a word
abbrev pub act_at : List ℕ → Read Act
act_at t = line_at kit (word_row act_word acts.Publish) act_rows t

-- the words behind the first
abbrev pub mode_rows : List (Row kit ModeLine)
mode_rows = word_row mode_word modes.LongPoll ∷ word_row mode_word modes.Socket ∷ word_row mode_word modes.Meta ∷ []

-- reads such a word
abbrev pub mode_at : List ℕ → Read ModeLine
mode_at t = line_at kit (word_row mode_word modes.Direct) mode_rows t

-- the words behind the first
abbrev pub left_rows : List (Row kit LeftCause)
left_rows = word_row left_word lefts.Expired ∷ word_row left_word lefts.Deleted ∷ word_row left_word lefts.Spent ∷ []

-- reads such a word
abbrev pub left_at : List ℕ → Read LeftCause
left_at t = line_at kit (word_row left_word lefts.Length) left_rows t

-- the words behind the first
abbrev pub removed_rows : List (Row kit RemovedCause)
removed_rows = word_row removed_word removals.Reaped ∷ []

-- reads such a word
abbrev pub removed_at : List ℕ → Read RemovedCause
removed_at t = line_at kit (word_row removed_word removals.Deleted) removed_rows t

-- the words behind the first
abbrev pub ended_rows : List (Row kit EndedCause)
ended_rows = word_row ended_word endings.Timeout ∷ word_row ended_word endings.Deleted ∷ word_row ended_word endings.Peer
    ∷ word_row ended_word endings.Closed ∷ word_row ended_word endings.Frame ∷ []

-- reads such a word
abbrev pub ended_at : List ℕ → Read EndedCause
ended_at t = line_at kit (word_row ended_word endings.Answered) ended_rows t

-- the words behind the first
abbrev pub shut_rows : List (Row kit ShutCause)
shut_rows = word_row shut_word shuts.Refused ∷ word_row shut_word shuts.Peer ∷ word_row shut_word shuts.Closed
    ∷ word_row shut_word shuts.Deleted ∷ word_row shut_word shuts.Timeout ∷ word_row shut_word shuts.Frame ∷ []

-- reads such a word
abbrev pub shut_at : List ℕ → Read ShutCause
shut_at t = line_at kit (word_row shut_word shuts.Asked) shut_rows t

-- the words behind the first
abbrev pub kind_rows : List (Row kit AlertKind)
kind_rows = word_row kind_word kinds.PubAnswer ∷ word_row kind_word kinds.Look ∷ word_row kind_word kinds.LookAnswer
    ∷ word_row kind_word kinds.Notice ∷ word_row kind_word kinds.Edge ∷ word_row kind_word kinds.EdgeAnswer ∷ word_row kind_word kinds.Join
    ∷ word_row kind_word kinds.Part ∷ word_row kind_word kinds.Delete ∷ word_row kind_word kinds.DelAnswer ∷ word_row kind_word kinds.Gone
    ∷ word_row kind_word kinds.Info ∷ word_row kind_word kinds.InfoAnswer ∷ []

-- reads such a word
abbrev pub kind_at : List ℕ → Read AlertKind
kind_at t = line_at kit (word_row kind_word kinds.Publish) kind_rows t
