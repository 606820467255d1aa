-- What an event is when it is made, if it is a sent: lawful, fenced, and resting on what was taken.
use Rattle.std.specs.Prelude.{◌≡◌, ℕ, Bool, List, [], map, slice_index_or}
use Rattle.nc_types.specs.Cursor.{CursorAt, moved}
use Rattle.nc_journal.specs.History.{own}
use Rattle.nc_journal.specs.Standing.{stage_of, Standing}
use Rattle.nc_journal.specs.declared.event.Event.{Event}
use Rattle.nc_journal.specs.declared.event.Event.TheVariants.{Sent}
use Rattle.nc_spool_state.specs.declared.place.Place.{Place}
use Rattle.nc_spool_state.specs.declared.choice.Find.{Find}
use Rattle.nc_spool_state.specs.declared.choice.Choice.TheVariants.{Send}
use Rattle.nc_spool_state.specs.Place.{look_number}
use Rattle.nc_spool_state.specs.Choice.{choice}
use Rattle.nc_rests.specs.Owners.{Owners}
use Rattle.nc_rests.specs.Spools.{SpoolHolds}
use Rattle.nc_sends.specs.Fences.{FencedAt}
use Rattle.nc_sends.specs.Stays.{SentThen}
use Rattle.nc_sends.specs.Taken.{TakenAt}

pub record IsGoodSend (workers : ℕ) (h : List Event) (e : Event) : Type 0 where
  pub sent : SentThen workers h e
  pub fenced : FencedAt workers h e
  pub taken : TakenAt workers h e

-- what a spool chooses to send is so for each of its subscribers
abbrev pub ChoiceSends : Type 0
ChoiceSends = (workers w k : ℕ) (list : List (List ℕ)) (once : Bool) (cur : CursorAt) (places : List Place) (h : List Event) → Owners workers h
    → SpoolHolds workers w list cur places h → stage_of k (own w h) ≡ Standing list once cur
    → (find : Find) → choice places ≡ Send find
    → IsGoodSend workers h (Sent w k find.place (slice_index_or list find.place []) find.id (moved cur find.place find.id) (map look_number places))
