-- The answer that a place awaits.
use Rattle.std.specs.Prelude.{◌≡◌, ℕ, List, ◌∷◌, Option}
use Rattle.std.specs.Option.{option_map}
use Rattle.nc_types.specs.Id.{Id}
use Rattle.nc_types.specs.Channel.{owner_of}
use Rattle.nc_journal.specs.History.{Along, own}
use Rattle.nc_journal.specs.declared.event.Event.{Event}
use Rattle.nc_journal.specs.declared.alert.AlertLine.TheVariants.{LookAnswer}
use Rattle.nc_journal.specs.declared.event.Event.TheVariants.{Took}
use Rattle.nc_journal.specs.declared.word.AlertKind.{AlertKind}
use Rattle.nc_owner_laws.specs.InOrder.{AnswersAt}
use Rattle.nc_spool_state.specs.declared.place.Quiet.{Quiet}
use Rattle.nc_spool_state.specs.declared.hear.News.{News}
use Rattle.nc_spool_state.specs.Hear.{learned}
use Rattle.nc_spool_state.specs.declared.place.Place.TheVariants as places
use Rattle.nc_history.specs.Packets.{IsNext}
use Rattle.nc_rests.specs.Asking.{AsksWell}
use Rattle.nc_rests.specs.Owners.{Owners}
use Rattle.nc_rests.specs.Places.{PlaceHolds}

-- it comes from the owner of the place's channel, and the place learns from it
pub record LearnsFrom (workers w : ℕ) (c : List ℕ) (after : Id) (from q floor n : ℕ) (kind : AlertKind) (news : Option News)
    (h : List Event) : Type 0 where
  pub owner : from ≡ owner_of workers c
  pub holds : PlaceHolds workers w c after (learned after (record { q = q; floor = floor }) news) (Took w from n kind ∷ h)

abbrev pub PlaceAnswered : Type 0
PlaceAnswered = (workers w : ℕ) (c : List ℕ) (after : Id) (number : ℕ) (earlier : Option Quiet) (from q floor : ℕ) (news : Option News)
    (g slot : Option ℕ) (n : ℕ) (kind : AlertKind) (h : List Event)
    → Owners workers h → ((o : ℕ) → Along AnswersAt (own o h)) → AsksWell w h
    → IsNext from w (LookAnswer number q floor (option_map (λ (x : News). x.id) news) g slot) h
    → PlaceHolds workers w c after (places.Asked number earlier) h → LearnsFrom workers w c after from q floor n kind news h
