-- The text of a journal: a line for each event, ended by LF.
use Rattle.std.specs.Prelude.{◌≡◌, ℕ, List, [], ◌∷◌, ◌++◌, take}
use Rattle.std.specs.List.{flat_map}
use Rattle.nc_journal.specs.declared.event.Event.{Event}
use Rattle.nc_journal.specs.EventLine.{line}
use Rattle.nc_journal.specs.History.{onto}

-- a line and its end
abbrev pub ended_line : Event → List ℕ
ended_line e = line e ++ 10 ∷ []

-- the text of a history, whose newest event comes first and has the last line
abbrev pub text_of : List Event → List ℕ
text_of [] = []
text_of (e ∷ older) = text_of older ++ line e ++ 10 ∷ []

-- the lines of some events, in the order in which they happened
abbrev pub lines_text : List Event → List ℕ
lines_text events = flat_map ended_line events

-- a new text is an old one with the lines of some first events behind it, each whole
abbrev pub HasFirstLines : List Event → List ℕ → List ℕ → Type 0
HasFirstLines events old new = (n : ℕ) × (new ≡ old ++ lines_text (take n events))

-- the text of a history on which events were put is its text and then their lines
abbrev pub TextGrows : List Event → List Event → Type 0
TextGrows events history = text_of (onto events history) ≡ text_of history ++ lines_text events
