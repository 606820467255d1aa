-- Whole spools: what is so of each place, and what those who wait there lack.
use Rattle.std.specs.Prelude.{◌≡◌, ℕ, Bool, List, length, slice_get, Some}
use Rattle.std.specs.List.{AllByRecursion}
use Rattle.nc_types.specs.Cursor.{CursorAt, cursor_id}
use Rattle.nc_types.specs.Channel.{AreDistinct}
use Rattle.nc_journal.specs.History.{own}
use Rattle.nc_journal.specs.Standing.{Standing}
use Rattle.nc_journal.specs.Sending.{LacksNothing}
use Rattle.nc_journal.specs.declared.event.Event.{Event}
use Rattle.nc_spool_state.specs.declared.place.Place.{Place}
use Rattle.nc_rests.specs.Owners.{Owners}
use Rattle.nc_rests.specs.Places.{PlaceHolds}
use Rattle.nc_rests.specs.Rests.{Rest, Nothing, Found, RestsAt}
use Rattle.nc_rests.specs.Telling.{OwnerTells, TookAll}

-- each place of a spool with a list and a cursor, as it is kept
pub record SpoolHolds (workers w : ℕ) (list : List (List ℕ)) (cur : CursorAt) (places : List Place) (h : List Event) : Type 0 where
  pub distinct : AreDistinct list
  pub each : length places ≡ length list
  pub tags : length cur.tags ≡ length list
  pub holds : (j : ℕ) (c : List ℕ) (p : Place) → slice_get list j ≡ Some c → slice_get places j ≡ Some p
      → PlaceHolds workers w c (cursor_id cur j) p h

-- each place of a list rests
abbrev pub PlacesRest : (workers w : ℕ) → List (List ℕ) → CursorAt → List Rest → List Event → Type 0
PlacesRest workers w list cur rests h = (j : ℕ) (c : List ℕ) (r : Rest) → slice_get list j ≡ Some c → slice_get rests j ≡ Some r
    → RestsAt workers w c (cursor_id cur j) r h

-- a spool of a list and a cursor, none of whose places is asked
pub record IsSpool (workers w : ℕ) (list : List (List ℕ)) (cur : CursorAt) (rests : List Rest) (h : List Event) : Type 0 where
  pub distinct : AreDistinct list
  pub places : length rests ≡ length list
  pub tags : length cur.tags ≡ length list
  pub rest : PlacesRest workers w list cur rests h

-- nothing was found at a place
abbrev pub FoundNothing : Rest → Type 0
FoundNothing (Nothing q floor) = Unit {0}
FoundNothing (Found q id) = ⊥

-- where all was taken and no place of a spool is asked or found something, those who stand there lack nothing
abbrev pub QuietSpools : Type 0
QuietSpools = (workers w : ℕ) (list : List (List ℕ)) (once : Bool) (cur : CursorAt) (rests : List Rest) (h : List Event) → Owners workers h
    → ((o : ℕ) → OwnerTells o (own o h)) → ((o : ℕ) → TookAll o w h)
    → IsSpool workers w list cur rests h → AllByRecursion FoundNothing rests → LacksNothing h (Standing list once cur)
