-- Between two calls a spool with a message that was found still waits for a look.
use Rattle.std.specs.Prelude.{◌≡◌, ℕ, Bool, true, false, List, Option}
use Rattle.std.specs.List.{AllByRecursion, list_any}
use Rattle.nc_types.specs.declared.start.Start.{Start}
use Rattle.nc_spool_state.specs.declared.place.Quiet.{Quiet}
use Rattle.nc_spool_state.specs.declared.place.Place.{Place}
use Rattle.nc_spool_state.specs.declared.place.Place.TheVariants.{Asked, Nothing, Found}
use Rattle.nc_spool_state.specs.declared.spool.Reader.{Reader}
use Rattle.nc_spool_state.specs.declared.hear.News.{News}
use Rattle.nc_spool_state.specs.declared.edge.Edge.{Edge}
use Rattle.nc_spool.specs.declared.board.Board.{Board}
use Rattle.nc_spool_state.specs.Spool.{SpoolAt}
use Rattle.nc_spool_state.specs.Choice.{is_any_asked}
use Rattle.nc_spool.specs.Hear.{answered, noticed}
use Rattle.nc_spool.specs.Depart.{departed, gone}
use Rattle.nc_spool.specs.Arrive.{arrived}
use Rattle.nc_spool.specs.Newest.{edge_answered}

-- a message was found
abbrev pub is_found : Place → Bool
is_found (Asked number earlier) = false
is_found (Nothing quiet) = false
is_found (Found q id owner g) = true

-- a message was found at one of some places
abbrev pub is_any_found : List Place → Bool
is_any_found places = list_any is_found places

-- where a message was found, a look is in flight
abbrev pub PlacesRest : List Place → Type 0
PlacesRest places = is_any_found places ≡ true → is_any_asked places ≡ true

-- so it is with the places of a spool
abbrev pub Rests : SpoolAt → Type 0
Rests s = PlacesRest s.places

-- and of each spool
abbrev pub AllRest : List SpoolAt → Type 0
AllRest spools = AllByRecursion Rests spools

-- and of a board
abbrev pub BoardRests : Board → Type 0
BoardRests b = AllRest b.shelf

-- each call leaves it so
pub record Restful : Type 0 where
  pub arrive : (r : Reader) (list : List (List ℕ)) (start : Start) (b : Board) → BoardRests b → BoardRests (arrived r list start b)
  pub answer : (number : ℕ) (quiet : Quiet) (news : Option News) (b : Board) → BoardRests b → BoardRests (answered number quiet news b)
  pub edge_answer : (number : ℕ) (edge : Edge) (b : Board) → BoardRests b → BoardRests (edge_answered number edge b)
  pub notice : (c : List ℕ) (news : News) (b : Board) → BoardRests b → BoardRests (noticed c news b)
  pub removal : (c members : List ℕ) (b : Board) → BoardRests b → BoardRests (gone c members b)
  pub depart : (k : ℕ) (b : Board) → BoardRests b → BoardRests (departed k b)
