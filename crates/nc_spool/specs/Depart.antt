-- Subscribers that go, by themselves or with a channel.
use Rattle.std.specs.Prelude.{ℕ, true, false, not, List, Option, None, Some, filter, fold, find, bytes_eq}
use Rattle.nc_spool.specs.declared.board.Board.{Board}
use Rattle.nc_spool_state.specs.Spool.{SpoolAt, has_reader, without_reader}
use Rattle.nc_spool_state.specs.Shelf.{without_first, with_read_spool}
use Rattle.nc_spool_state.specs.Starting.{StartingAt, starts_with}
use Rattle.nc_spool.specs.Board.{ended}
use Rattle.nc_spool.specs.Hear.{emptied}

-- the names without one of them
abbrev pub other_names : List ℕ → List (List ℕ) → List (List ℕ)
other_names c names = filter (λ name. not (bytes_eq name c)) names

-- the list of a subscriber that starts
abbrev pub start_names : Option StartingAt → Option (List (List ℕ))
start_names None = None
start_names (Some s) = Some s.list

-- the list of one that stands in a spool, or else starts
abbrev pub names_by : Option SpoolAt → Option StartingAt → Option (List (List ℕ))
names_by None start = start_names start
names_by (Some s) start = Some s.key.list

-- the list of a subscriber, if it is there
abbrev pub names_with : ℕ → Board → Option (List (List ℕ))
names_with k b = names_by (find (has_reader k) b.shelf) (find (starts_with k) b.starts)

-- a subscriber leaves the spool that was taken from the shelf, or else the starts; a spool without subscribers is gone
abbrev pub left_by : Option SpoolAt → ℕ → Board → Board
left_by None k b = record b { starts = without_first (starts_with k) b.starts }
left_by (Some s) k b = record b { shelf = with_read_spool (without_reader k s) b.shelf }

-- a subscriber leaves
abbrev pub left : ℕ → Board → Board
left k b = left_by (find (has_reader k) b.shelf) k (record b { shelf = without_first (has_reader k) b.shelf })

-- a subscriber that left is ended
abbrev pub departed_by : Option (List (List ℕ)) → ℕ → Board → Board
departed_by None k b = b
departed_by (Some names) k b = ended k false names b

-- a subscriber is ended, if it is there
abbrev pub departed : ℕ → Board → Board
departed k b = departed_by (names_with k b) k (left k b)

-- a member that left is ended by the removal, and parts from its other channels
abbrev pub member_gone_by : Option (List (List ℕ)) → List ℕ → ℕ → Board → Board
member_gone_by None c k b = b
member_gone_by (Some names) c k b = ended k true (other_names c names) b

-- a member of a channel that is gone is ended, if it is there
abbrev pub member_gone : List ℕ → Board → ℕ → Board
member_gone c b k = member_gone_by (names_with k b) c k (left k b)

-- a channel is gone: each of its members is ended, then each spool that has the channel hears of it
abbrev pub gone : List ℕ → List ℕ → Board → Board
gone c members b = emptied c (fold (member_gone c) b members)
