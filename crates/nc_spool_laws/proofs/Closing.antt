-- The small steps that each call is made of, and what each of them keeps.
use Rattle.std.specs.Prelude.{◌≡◌, ℕ, ◌<◌, Bool, true, false, List, Option, None, Some, find, length}
use Rattle.nc_types.specs.Id.{Id, is_past}
use Rattle.nc_types.specs.Cursor.{CursorAt}
use Rattle.nc_types.specs.declared.start.Start.TheVariants.{Newest}
use Rattle.nc_spool.specs.declared.fact.Fact.TheVariants.{Started, Sent, Ended}
use Rattle.nc_spool_state.specs.declared.choice.Find.{Find}
use Rattle.nc_spool_state.specs.declared.choice.Choice.TheVariants.{Fence, Send}
use Rattle.nc_spool_state.specs.declared.place.Quiet.{Quiet}
use Rattle.nc_spool_state.specs.declared.place.Place.{Place}
use Rattle.nc_spool_state.specs.declared.place.Place.TheVariants.{Asked, Nothing, Found}
use Rattle.nc_spool_state.specs.declared.spool.Reader.{Reader}
use Rattle.nc_spool_state.specs.declared.hear.News.{News}
use Rattle.nc_spool_state.specs.declared.edge.Edge.TheVariants.{Known}
use Rattle.nc_spool.specs.declared.board.Board.{Board}
use Rattle.nc_spool_state.specs.Key.{KeyAt, id_at, place_of}
use Rattle.nc_spool_state.specs.Place.{place_awaiting}
use Rattle.nc_spool_state.specs.Spool.{SpoolAt, is_of, with_reader, without_reader, place_at, with_place}
use Rattle.nc_spool_state.specs.Shelf.{without_first}
use Rattle.nc_spool_state.specs.Edge.{newest_time, newest_cursor}
use Rattle.nc_spool_state.specs.Starting.{StartingAt, with_edge}
use Rattle.nc_spool_state.specs.Choice.{is_any_asked, choice}
use Rattle.nc_spool.specs.Board.{told, parted, shelved, asked_from, fresh_spool}
use Rattle.nc_spool.specs.Decide.{moved_key, delivery, sending, fenced_places, fence_looks}
use Rattle.nc_spool_state.specs.Hear.{found_by}
use Rattle.nc_spool.specs.Hear.{looked_again}
use Rattle.nc_spool.specs.Arrive.{joined}
use Rattle.nc_spool.specs.Newest.{fresh_edges, edges_from, behind_edges, edges_behind, parked}
use Rattle.nc_spool_laws.specs.Closed.{first_key}

-- the board without the first spool that passes a test
abbrev pub out : (SpoolAt → Bool) → Board → Board
out test b = record b { shelf = without_first test b.shelf }

-- the board without the first start that passes a test
abbrev pub out_start : (StartingAt → Bool) → Board → Board
out_start test b = record b { starts = without_first test b.starts }

-- a place rests on an answer of "nothing"
abbrev pub RestsOn : Quiet → Place → Type 0
RestsOn quiet (Asked number None) = ⊥
RestsOn quiet (Asked number (Some earlier)) = earlier ≡ quiet
RestsOn quiet (Nothing known) = known ≡ quiet
RestsOn quiet (Found q id owner g) = ⊥

-- an answer brings nothing past an id
abbrev pub IsNothing : Id → Option News → Type 0
IsNothing after None = Unit {0}
IsNothing after (Some news) = is_past news.id after ≡ false

-- the small steps keep `In` of a board, `Beside` of a spool that was taken from it and the board,
-- and `Apart` of a start that was taken from it and the board; what a channel's notice brings is `Good`,
-- what the answer to a look brings is `Right`, the id that an edge brings is a `Last` one, the key of each spool `Fits`,
-- and what is sent is `Ready`
module _ (Good : List ℕ → News → Type 0) (Right : ℕ → Quiet → Option News → Type 0) (Last : Id → Type 0) (Fits : KeyAt → Type 0) (Ready : Find → SpoolAt → Type 0) (In : Board → Type 0) (Beside : SpoolAt → Board → Type 0) (Apart : StartingAt → Board → Type 0) where
  -- what entering, ending, sending and deciding are made of
  pub record IsSending : Type 0 where
    pub part : (k : ℕ) (c : List ℕ) (b : Board) → In b → In (parted k b c)
    pub end : (k : ℕ) (deleted : Bool) (b : Board) → In b → In (told (Ended k deleted) b)
    pub ready : (find : Find) (s : SpoolAt) (b : Board) → choice s.places ≡ Send find → Beside s b → Ready find s
    pub send : (find : Find) (s : SpoolAt) (r : Reader) (b : Board) → Ready find s → In b → In (told (Sent (sending (delivery find s) r)) b)
    pub take : (test : SpoolAt → Bool) (s : SpoolAt) (b : Board) → find test b.shelf ≡ Some s → In b → Beside s (out test b)
    pub put : (s : SpoolAt) (b : Board) → Beside s b → In (shelved s b)
    pub drop : (s : SpoolAt) (b : Board) → Beside s b → In b
    pub open_new : (key : KeyAt) (r : Reader) (b : Board) → find (is_of key) b.shelf ≡ None → Fits key → In b → Beside (with_reader r (fresh_spool b.next key)) (asked_from key 0 key.list b)
    pub fits : (find : Find) (s : SpoolAt) → Ready find s → Fits (moved_key find s.key)
    pub enter : (r : Reader) (s : SpoolAt) (b : Board) → Beside s b → Beside (with_reader r s) b
    pub fence : (time : ℕ) (s : SpoolAt) (b : Board) → choice s.places ≡ Fence time → is_any_asked s.places ≡ false → Beside s b → Beside (record s { places = fenced_places time s.key 0 s.places b }) (fence_looks time s.key 0 s.places b)

  -- what all calls are made of
  pub record IsClosed : Type 0 where
    pub sends : IsSending
    pub join : (k : ℕ) (c : List ℕ) (b : Board) → In b → In (joined k b c)
    pub start : (k : ℕ) (cursor : CursorAt) (b : Board) → In b → In (told (Started k cursor) b)
    pub leave : (k : ℕ) (s : SpoolAt) (b : Board) → Beside s b → 0 < length (without_reader k s).readers → Beside (without_reader k s) b
    pub look : (c : List ℕ) (j : ℕ) (s : SpoolAt) (b : Board) → place_of c s.key.list ≡ Some j → Beside s b → Beside (with_place j (Asked b.next None) s) (looked_again s.key j b)
    pub forget : (c : List ℕ) (j n : ℕ) (quiet : Quiet) (s : SpoolAt) (b : Board) → place_of c s.key.list ≡ Some j → place_at s j ≡ Asked n (Some quiet) → Beside s b → Beside (with_place j (Asked n None) s) b
    pub quieten : (number j : ℕ) (quiet : Quiet) (news : Option News) (s : SpoolAt) (b : Board) → place_awaiting number s.places ≡ Some j → Right number quiet news → IsNothing (id_at s.key j) news → Beside s b → Beside (with_place j (Nothing quiet) s) b
    pub discover : (number j : ℕ) (quiet : Quiet) (news : News) (s : SpoolAt) (b : Board) → place_awaiting number s.places ≡ Some j → Right number quiet (Some news) → is_past news.id (id_at s.key j) ≡ true → Beside s b → Beside (with_place j (found_by quiet.q news) s) b
    pub hear : (c : List ℕ) (j : ℕ) (quiet : Quiet) (news : News) (s : SpoolAt) (b : Board) → place_of c s.key.list ≡ Some j → RestsOn quiet (place_at s j) → Good c news → is_past news.id (id_at s.key j) ≡ true → Beside s b → Beside (with_place j (found_by quiet.q news) s) b
    pub take_start : (test : StartingAt → Bool) (s : StartingAt) (b : Board) → find test b.starts ≡ Some s → In b → Apart s (out_start test b)
    pub put_start : (s : StartingAt) (b : Board) → Apart s b → In (parked s b)
    pub drop_start : (s : StartingAt) (b : Board) → Apart s b → In b
    pub new_start : (r : Reader) (list : List (List ℕ)) (b : Board) → Fits (first_key list Newest) → In b → Apart (record { reader = r; list = list; edges = fresh_edges b.next list; cursor = None }) (edges_from r.k list b)
    pub hear_edge : (j : ℕ) (floor : ℕ) (last : Id) (s : StartingAt) (b : Board) → Last last → Apart s b → Apart (with_edge j (Known last floor) s) b
    pub newest_fits : (s : StartingAt) (b : Board) → Apart s b → Fits (record { list = s.list; cursor = newest_cursor s.edges })
    pub cursor_fits : (cursor : CursorAt) (s : StartingAt) (b : Board) → s.cursor ≡ Some cursor → Apart s b → Fits (record { list = s.list; cursor = cursor })
    pub fence_edges : (s : StartingAt) (b : Board) → Apart s b → Apart (record s { edges = behind_edges (newest_time s.edges) s.reader.k s.list 0 s.edges b; cursor = Some (newest_cursor s.edges) }) (edges_behind (newest_time s.edges) s.reader.k s.list 0 s.edges b)
