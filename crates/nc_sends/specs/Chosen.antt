-- A spool that is ready sends lawfully: what its places rest on is what the definition of a lawful sent asks.
use Rattle.std.specs.Prelude.{◌≡◌, ℕ, ◌≤◌, List, [], map, slice_get, Some}
use Rattle.std.specs.List.{AllByRecursion}
use Rattle.nc_types.specs.Id.{Id}
use Rattle.nc_types.specs.Cursor.{CursorAt, moved}
use Rattle.nc_journal.specs.Sending.{IsSentFrom}
use Rattle.nc_journal.specs.declared.event.Event.{Event}
use Rattle.nc_rests.specs.Owners.{Owners}
use Rattle.nc_rests.specs.Rests.{Rest, Nothing, Found, look_of}
use Rattle.nc_rests.specs.Spools.{IsSpool}
use Rattle.nc_sends.specs.Fences.{AreFenced}
use Rattle.nc_sends.specs.Taken.{IsTakenFor}

-- a place isn't behind a time: what it found has that time or a later one, or the floor of its look has
abbrev pub IsReady : ℕ → Rest → Type 0
IsReady time (Nothing q floor) = time ≤ floor
IsReady time (Found q id) = time ≤ id.time

-- place i found the id, and no place is behind its time
pub record IsChosen (i : ℕ) (id : Id) (rests : List Rest) : Type 0 where
  pub look : ℕ
  pub found : slice_get rests i ≡ Some (Found look id)
  pub ready : AllByRecursion (IsReady id.time) rests

-- the message of a place is sent lawfully, the new cursor is fenced, and what it rests on was taken
pub record SendsWell (workers w i : ℕ) (c : List ℕ) (id : Id) (list : List (List ℕ)) (old : CursorAt) (looks : List ℕ) (h : List Event) : Type 0 where
  pub sent : IsSentFrom workers w i c id (moved old i id) looks list old [] h
  pub fenced : AreFenced workers id.time list h
  pub taken : IsTakenFor workers w i c id looks list h

abbrev pub SpoolsSend : Type 0
SpoolsSend = (workers w : ℕ) (list : List (List ℕ)) (old : CursorAt) (rests : List Rest) (h : List Event) → Owners workers h
    → IsSpool workers w list old rests h
    → (i : ℕ) (c : List ℕ) (id : Id) → slice_get list i ≡ Some c → IsChosen i id rests → SendsWell workers w i c id list old (map look_of rests) h
