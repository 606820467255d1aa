-- The calls of spools: the facts of each, and the spools after it.
use Rattle.std.specs.Prelude.{ℕ, Bool, List, [], Option, None, Some}
use Rattle.std.specs.Option.{option_map}
use Rattle.nc_types.specs.Id.{Id}
use Rattle.nc_types.specs.declared.start.Start.{Start}
use Rattle.nc_spool.specs.declared.fact.Fact.{Fact}
use Rattle.nc_spool_state.specs.declared.hear.News.{News}
use Rattle.nc_spool_state.specs.declared.kept.Held.{Held}
use Rattle.nc_spool.specs.declared.spools.Found.{Found}
use Rattle.nc_spool_state.specs.declared.edge.Edge.TheVariants.{Known}
use Rattle.nc_spool.specs.declared.board.Board.{Board}
use Rattle.nc_spool_state.specs.Spool.{SpoolAt}
use Rattle.nc_spool_state.specs.Shelf.{without_first}
use Rattle.nc_spool_state.specs.Starting.{StartingAt}
use Rattle.nc_spool_state.specs.Kept.{with_hold, is_idle}
use Rattle.nc_spool.specs.Hear.{answered, noticed}
use Rattle.nc_spool.specs.Depart.{departed, gone}
use Rattle.nc_spool.specs.Newest.{edge_answered}
use Rattle.nc_spool.specs.Arrive.{arrived}

-- the spools of a worker: the number of workers, the number that the next look or edge draws,
-- the spools in ascending order of list and cursor, the subscribers that aren't started yet, and the holds
pub record SpoolsAt (H : Type 0) : Type 0 where
  pub workers : ℕ
  pub next : ℕ
  pub shelf : List SpoolAt
  pub starts : List StartingAt
  pub kept : List (Held H)

module _ {H : Type 0} where
  -- no subscribers
  abbrev pub new_spools : ℕ → ℕ → SpoolsAt H
  new_spools workers first = record { workers = workers; next = first; shelf = []; starts = []; kept = [] }

  -- what a step works on, before it told anything
  abbrev pub board_of : SpoolsAt H → Board
  board_of s = record { workers = s.workers; next = s.next; shelf = s.shelf; starts = s.starts; facts = [] }

  -- the spools after a step
  abbrev pub after : Board → List (Held H) → SpoolsAt H
  after b kept = record { workers = b.workers; next = b.next; shelf = b.shelf; starts = b.starts; kept = kept }

  -- a message that was found, without its hold
  abbrev pub news_of : Found H → News
  news_of found = record { id = found.id; owner = found.held.owner; g = found.held.g }

  -- the holds with that of a message, if one was found
  abbrev pub with_found : Option (Found H) → List (Held H) → List (Held H)
  with_found None kept = kept
  with_found (Some found) kept = with_hold found.held kept

  -- a subscriber comes: the board at the end, the facts, and the spools after it
  abbrev pub arrive_board : ℕ → List (List ℕ) → Start → Bool → SpoolsAt H → Board
  arrive_board k list start once s = arrived (record { k = k; once = once }) list start (board_of s)

  abbrev pub arrive_facts : ℕ → List (List ℕ) → Start → Bool → SpoolsAt H → List (Fact)
  arrive_facts k list start once s = (arrive_board k list start once s).facts

  abbrev pub arrive_after : ℕ → List (List ℕ) → Start → Bool → SpoolsAt H → SpoolsAt H
  arrive_after k list start once s = after (arrive_board k list start once s) s.kept

  -- the answer to a look
  abbrev pub answer_board : ℕ → ℕ → ℕ → Option (Found H) → SpoolsAt H → Board
  answer_board number q floor found s = answered number (record { q = q; floor = floor }) (option_map news_of found) (board_of s)

  abbrev pub answer_facts : ℕ → ℕ → ℕ → Option (Found H) → SpoolsAt H → List (Fact)
  answer_facts number q floor found s = (answer_board number q floor found s).facts

  abbrev pub answer_after : ℕ → ℕ → ℕ → Option (Found H) → SpoolsAt H → SpoolsAt H
  answer_after number q floor found s = after (answer_board number q floor found s) (with_found found s.kept)

  -- the answer to an edge
  abbrev pub edge_board : ℕ → ℕ → Id → SpoolsAt H → Board
  edge_board number floor last s = edge_answered number (Known last floor) (board_of s)

  abbrev pub edge_facts : ℕ → ℕ → Id → SpoolsAt H → List (Fact)
  edge_facts number floor last s = (edge_board number floor last s).facts

  abbrev pub edge_after : ℕ → ℕ → Id → SpoolsAt H → SpoolsAt H
  edge_after number floor last s = after (edge_board number floor last s) s.kept

  -- a message was stored
  abbrev pub notice_board : List ℕ → Found H → SpoolsAt H → Board
  notice_board c found s = noticed c (news_of found) (board_of s)

  abbrev pub notice_facts : List ℕ → Found H → SpoolsAt H → List (Fact)
  notice_facts c found s = (notice_board c found s).facts

  abbrev pub notice_after : List ℕ → Found H → SpoolsAt H → SpoolsAt H
  notice_after c found s = after (notice_board c found s) (with_hold found.held s.kept)

  -- a channel is gone
  abbrev pub gone_board : List ℕ → List ℕ → SpoolsAt H → Board
  gone_board c members s = gone c members (board_of s)

  abbrev pub gone_facts : List ℕ → List ℕ → SpoolsAt H → List (Fact)
  gone_facts c members s = (gone_board c members s).facts

  abbrev pub gone_after : List ℕ → List ℕ → SpoolsAt H → SpoolsAt H
  gone_after c members s = after (gone_board c members s) s.kept

  -- a subscriber is ended
  abbrev pub depart_board : ℕ → SpoolsAt H → Board
  depart_board k s = departed k (board_of s)

  abbrev pub depart_facts : ℕ → SpoolsAt H → List (Fact)
  depart_facts k s = (depart_board k s).facts

  abbrev pub depart_after : ℕ → SpoolsAt H → SpoolsAt H
  depart_after k s = after (depart_board k s) s.kept

  -- without the first hold that has no use
  abbrev pub without_idle : SpoolsAt H → SpoolsAt H
  without_idle s = record s { kept = without_first (is_idle s.shelf) s.kept }
