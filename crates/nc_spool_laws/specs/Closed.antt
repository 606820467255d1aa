-- What each call keeps.
use Rattle.std.specs.Prelude.{ℕ, List, Option, length}
use Rattle.nc_types.specs.Id.{Id}
use Rattle.nc_types.specs.declared.start.Start.{Start}
use Rattle.nc_types.specs.declared.start.Start.TheVariants.{Oldest, Newest, Given}
use Rattle.nc_spool_state.specs.declared.choice.Find.{Find}
use Rattle.nc_spool_state.specs.declared.place.Quiet.{Quiet}
use Rattle.nc_spool_state.specs.declared.spool.Reader.{Reader}
use Rattle.nc_spool_state.specs.declared.hear.News.{News}
use Rattle.nc_spool_state.specs.declared.edge.Edge.TheVariants.{Known}
use Rattle.nc_spool.specs.declared.board.Board.{Board}
use Rattle.nc_spool_state.specs.Key.{KeyAt}
use Rattle.nc_spool_state.specs.Spool.{SpoolAt}
use Rattle.nc_spool_state.specs.Starting.{StartingAt}
use Rattle.nc_spool.specs.Hear.{answered, noticed}
use Rattle.nc_spool.specs.Depart.{departed, gone}
use Rattle.nc_spool.specs.Arrive.{oldest_cursor, arrived}
use Rattle.nc_spool.specs.Newest.{edge_answered}

-- the key of the spool that a subscriber enters first; behind the newest message it is not known yet, and stands for the list
abbrev pub first_key : List (List ℕ) → Start → KeyAt
first_key list Oldest = record { list = list; cursor = oldest_cursor (length list) }
first_key list Newest = record { list = list; cursor = oldest_cursor (length list) }
first_key list (Given cursor) = record { list = list; cursor = cursor }

-- each call keeps `In` of a board, where what a channel's notice brings is `Good`, what the answer to a look brings is `Right`, the id that an edge brings
-- is a `Last` one, and the key of each spool `Fits`; between the small steps of a call, what is sent is `Ready`, and a spool and a start that were taken
-- from the board are `Beside` and `Apart`
module _ (Good : List ℕ → News → Type 0) (Right : ℕ → Quiet → Option News → Type 0) (Last : Id → Type 0) (Fits : KeyAt → Type 0)
    (Ready : Find → SpoolAt → Type 0) (In : Board → Type 0) (Beside : SpoolAt → Board → Type 0) (Apart : StartingAt → Board → Type 0) where
  pub record IsKept : Type 0 where
    pub arrive : (r : Reader) (list : List (List ℕ)) (start : Start) (b : Board) → Fits (first_key list start) → In b → In (arrived r list start b)
    pub answer : (number : ℕ) (quiet : Quiet) (news : Option News) (b : Board) → Right number quiet news → In b → In (answered number quiet news b)
    pub edge_answer : (number floor : ℕ) (last : Id) (b : Board) → Last last → In b → In (edge_answered number (Known last floor) b)
    pub notice : (c : List ℕ) (news : News) (b : Board) → Good c news → In b → In (noticed c news b)
    pub removal : (c members : List ℕ) (b : Board) → In b → In (gone c members b)
    pub depart : (k : ℕ) (b : Board) → In b → In (departed k b)
