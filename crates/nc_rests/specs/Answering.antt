-- The answer to a look lets a place rest.
use Rattle.std.specs.Prelude.{ℕ, List, ◌∷◌, Option, None, Some}
use Rattle.nc_types.specs.Id.{Id}
use Rattle.nc_types.specs.Channel.{owner_of}
use Rattle.nc_journal.specs.History.{Along, own}
use Rattle.nc_journal.specs.declared.event.Event.{Event}
use Rattle.nc_journal.specs.declared.alert.AlertLine.TheVariants.{LookAnswer}
use Rattle.nc_journal.specs.declared.event.Event.TheVariants.{Took}
use Rattle.nc_journal.specs.declared.word.AlertKind.{AlertKind}
use Rattle.nc_owner_laws.specs.InOrder.{HasLook, AnswersAt}
use Rattle.nc_history.specs.Packets.{IsNext}
use Rattle.nc_rests.specs.Asking.{IsAsked}
use Rattle.nc_rests.specs.Rests.{Rest, Nothing, Found, RestsAt}

-- the answer to a look that a worker takes next is that of a look in its owner's history
abbrev pub NextAnswers : Type 0
NextAnswers = (o w number q floor : ℕ) (found : Option Id) (g slot : Option ℕ) (h : List Event)
    → Along AnswersAt (own o h) → IsNext o w (LookAnswer number q floor found g slot) h → HasLook o q w number floor found (own o h)

-- where a place rests once the answer to its look was taken
abbrev pub answered : ℕ → ℕ → Option Id → Rest
answered q floor None = Nothing q floor
answered q floor (Some id) = Found q id

abbrev pub AnswerRests : Type 0
AnswerRests = (workers w : ℕ) (c : List ℕ) (after : Id) (number q floor : ℕ) (found : Option Id) (g slot : Option ℕ) (n : ℕ)
    (kind : AlertKind) (h : List Event) → let o = owner_of workers c in
    IsNext o w (LookAnswer number q floor found g slot) h → HasLook o q w number floor found (own o h) → IsAsked w number c after (own o h)
    → RestsAt workers w c after (answered q floor found) (Took w o n kind ∷ h)
