-- Who has heard of a channel's news, or of its removal.
use Rattle.std.specs.Prelude.{◌≡◌, ℕ, Bool, true, false, List, None, Some}
use Rattle.std.specs.List.{AllByRecursion}
use Rattle.nc_spool_state.specs.declared.place.Place.{Place}
use Rattle.nc_spool_state.specs.declared.place.Place.TheVariants.{Asked, Nothing, Found}
use Rattle.nc_spool_state.specs.declared.hear.News.{News}
use Rattle.nc_spool.specs.declared.board.Board.{Board}
use Rattle.nc_spool_state.specs.Key.{place_of}
use Rattle.nc_spool_state.specs.Spool.{SpoolAt, place_at}
use Rattle.nc_spool.specs.Hear.{noticed}
use Rattle.nc_spool.specs.Depart.{gone}
use Rattle.nc_spool_laws.specs.Order.{AreAscending}
use Rattle.nc_spool_laws.specs.Attended.{IsWhole}

-- a place rests on an answer of "nothing"
abbrev pub has_answer : Place → Bool
has_answer (Asked number None) = false
has_answer (Asked number (Some quiet)) = true
has_answer (Nothing quiet) = true
has_answer (Found q id owner g) = false

-- where a spool has the channel, its place rests on no such answer
abbrev pub Heard : List ℕ → SpoolAt → Type 0
Heard c s = (j : ℕ) → place_of c s.key.list ≡ Some j → has_answer (place_at s j) ≡ false

-- after a notice, and after a removal, no spool rests on an older answer
pub record AreHeard : Type 0 where
  pub notice : (c : List ℕ) (news : News) (b : Board) → AreAscending b.shelf → AllByRecursion IsWhole b.shelf
      → AllByRecursion (Heard c) (noticed c news b).shelf
  pub removal : (c members : List ℕ) (b : Board) → AreAscending b.shelf → AllByRecursion IsWhole b.shelf
      → AllByRecursion (Heard c) (gone c members b).shelf
