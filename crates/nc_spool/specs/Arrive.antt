-- Subscribers that come.
use Rattle.std.specs.Prelude.{◌≡◌, ℕ, negsuc, List, None, fold, length, replicate}
use Rattle.nc_types.specs.Cursor.{CursorAt}
use Rattle.nc_types.specs.declared.start.Start.{Start}
use Rattle.nc_types.specs.declared.start.Start.TheVariants.{Oldest, Newest, Given}
use Rattle.nc_spool_state.specs.declared.spool.Reader.{Reader}
use Rattle.nc_spool.specs.declared.ask.Ask.TheVariants.{Join}
use Rattle.nc_spool.specs.declared.board.Board.{Board}
use Rattle.nc_spool.specs.Board.{made}
use Rattle.nc_spool.specs.Newest.{begun, parked, fresh_edges, edges_from}

-- the cursor before every message, with so many tags
abbrev pub oldest_cursor : ℕ → CursorAt
oldest_cursor n = record { time = 0; tags = replicate n (negsuc 0) }

-- a given cursor has a tag for each name of a list
abbrev pub FitsList : List (List ℕ) → Start → Type 0
FitsList list Oldest = Unit {0}
FitsList list Newest = Unit {0}
FitsList list (Given cursor) = length cursor.tags ≡ length list

-- a subscriber becomes a member of a channel
abbrev pub joined : ℕ → Board → List ℕ → Board
joined k b c = made c (Join c k) b

-- a subscriber begins: before the oldest message or behind a given id it is started, and behind the newest it asks for edges
abbrev pub started_by : Start → Reader → List (List ℕ) → Board → Board
started_by Oldest r list b = begun r (record { list = list; cursor = oldest_cursor (length list) }) b
started_by Newest r list b = parked (record { reader = r; list = list; edges = fresh_edges b.next list; cursor = None }) (edges_from r.k list b)
started_by (Given cursor) r list b = begun r (record { list = list; cursor = cursor }) b

-- a subscriber comes: it joins each channel of its list, and begins where it wants to
abbrev pub arrived : Reader → List (List ℕ) → Start → Board → Board
arrived r list start b = started_by start r list (fold (joined r.k) b list)
