-- The text of a history that grows.
use Rattle.std.proofs.Common.{◌≡◌, ℕ, List, [], ◌∷◌, ◌++◌, sym, ◌∙◌, append_assoc}
use Rattle.std.proofs.lemmas.List.{append-nil}
use Rattle.nc_journal.specs.declared.event.Event.{Event}
use Rattle.nc_journal.specs.EventLine.{line}
use Rattle.nc_journal.specs.Text.{text_of, lines_text, TextGrows}

-- the line of one event more, and then the others
one_more : (text line rest : List ℕ) → text ++ line ++ 10 ∷ [] ++ rest ≡ text ++ (line ++ 10 ∷ [] ++ rest)
one_more text line rest = simp append_assoc

pub text_grows : (events history : List Event) → TextGrows events history
text_grows [] history = sym (append-nil (text_of history))
text_grows (e ∷ events) history = text_grows events (e ∷ history) ∙ one_more (text_of history) (line e) (lines_text events)
