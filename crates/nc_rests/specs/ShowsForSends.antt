-- What an owner that stands for its local history tells and keeps.
use Rattle.std.specs.Prelude.{◌≡◌, ℕ, List}
use Rattle.std.specs.List.{AllByRecursion}
use Rattle.nc_types.specs.Message.{Message}
use Rattle.nc_types.specs.Channel.{owner_of}
use Rattle.nc_journal.specs.History.{Along}
use Rattle.nc_journal.specs.declared.event.Event.{Event}
use Rattle.nc_journal.specs.declared.event.Event.TheVariants.{Looked, Edged}
use Rattle.nc_slots.specs.declared.slot.Slot.{Slot}
use Rattle.nc_owner.specs.State.{OwnerAt}
use Rattle.nc_owner_laws.specs.AnsweredOnce.{AnswersNew}
use Rattle.nc_owner_laws.specs.InOrder.{InOrder}
use Rattle.nc_owner_laws.specs.OwnerStanding.{Stands}
use Rattle.nc_rests.specs.Owners.{OwnerKeeps}
use Rattle.nc_rests.specs.Telling.{OwnerTells}

-- a look or an edge is made by the owner of its channel
abbrev pub AskIsOfOwner : ℕ → Event → Type 0
AskIsOfOwner workers (Looked w q from number c after floor found) = w ≡ owner_of workers c
AskIsOfOwner workers (Edged w q from number k c floor last) = w ≡ owner_of workers c
AskIsOfOwner workers _ = Unit {0}

-- it tells what places need, and keeps what sends need
pub record ShowsForSends (me workers : ℕ) (l : List Event) : Type 0 where
  pub tells : OwnerTells me l
  pub keeps : OwnerKeeps workers l

abbrev pub StandsForSends : Type 0
StandsForSends = (me workers slots first : ℕ) (row : List (Slot Message)) (l : List Event) (s : OwnerAt) → Stands me workers slots first row l s
    → InOrder first l → Along AnswersNew l → AllByRecursion (AskIsOfOwner workers) l
    → ShowsForSends me workers l
