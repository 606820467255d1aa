-- Who stands, and who was ended.
use Rattle.std.specs.Prelude.{◌≡◌, ℕ, ◌+◌, ◌≤◌, List, Option, ◌==◌}
use Rattle.nc_types.specs.declared.start.Start.{Start}
use Rattle.nc_spool.specs.declared.fact.Fact.{Fact}
use Rattle.nc_spool.specs.declared.fact.Fact.TheVariants.{Out, Started, Sent, Ended}
use Rattle.nc_spool_state.specs.declared.place.Quiet.{Quiet}
use Rattle.nc_spool_state.specs.declared.spool.Reader.{Reader}
use Rattle.nc_spool_state.specs.declared.hear.News.{News}
use Rattle.nc_spool_state.specs.declared.edge.Edge.{Edge}
use Rattle.nc_spool.specs.declared.board.Board.{Board}
use Rattle.nc_spool_state.specs.Spool.{SpoolAt, is_reader}
use Rattle.nc_spool_state.specs.Starting.{StartingAt, starts_with}
use Rattle.nc_spool.specs.Hear.{answered, noticed}
use Rattle.nc_spool.specs.Depart.{departed, gone}
use Rattle.nc_spool.specs.Arrive.{arrived}
use Rattle.nc_spool.specs.Newest.{edge_answered}
use Rattle.nc_spool_laws.specs.Numbers.{one, total}

-- how often a reader is the subscriber of a number
abbrev pub reader_at : ℕ → Reader → ℕ
reader_at k r = one (is_reader k r)

-- how often a subscriber stands in a spool
abbrev pub readers_of : ℕ → SpoolAt → ℕ
readers_of k s = total (reader_at k) s.readers

-- how often it is a start
abbrev pub start_at : ℕ → StartingAt → ℕ
start_at k s = one (starts_with k s)

-- how often it stands in the spools and starts of a board
abbrev pub stands : ℕ → Board → ℕ
stands k b = total (readers_of k) b.shelf + total (start_at k) b.starts

-- how often it is told that a subscriber is ended
abbrev pub end_at : ℕ → Fact → ℕ
end_at k (Out outgoing) = 0
end_at k (Started j cursor) = 0
end_at k (Sent sending) = 0
end_at k (Ended j deleted) = one (j == k)

-- how often some facts tell its end
abbrev pub ends : ℕ → List Fact → ℕ
ends k facts = total (end_at k) facts

-- both together
abbrev pub tally : ℕ → Board → ℕ
tally k b = stands k b + ends k b.facts

-- each subscriber stands once at most
abbrev pub StandOnce : Board → Type 0
StandOnce b = (k : ℕ) → stands k b ≤ 1

-- who comes stands from then on, and who stands no longer was ended
pub record KeepsTally : Type 0 where
  pub arrive : (k : ℕ) (r : Reader) (list : List (List ℕ)) (start : Start) (b : Board) → tally k (arrived r list start b) ≡ reader_at k r + tally k b
  pub answer : (k number : ℕ) (quiet : Quiet) (news : Option News) (b : Board) → tally k (answered number quiet news b) ≡ tally k b
  pub edge_answer : (k number : ℕ) (now : Edge) (b : Board) → tally k (edge_answered number now b) ≡ tally k b
  pub notice : (k : ℕ) (c : List ℕ) (news : News) (b : Board) → tally k (noticed c news b) ≡ tally k b
  pub removal : (k : ℕ) (c members : List ℕ) (b : Board) → StandOnce b → tally k (gone c members b) ≡ tally k b
  pub depart : (k j : ℕ) (b : Board) → StandOnce b → tally k (departed j b) ≡ tally k b
