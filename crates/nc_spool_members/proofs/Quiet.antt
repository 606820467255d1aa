-- What is asked changes nothing that facts tell beside it.
use Rattle.std.proofs.Common.{◌≡◌, ℕ, ◌+◌, Bool, true, false, cond, List, [], ◌∷◌, ◌++◌, Option, Some, None, refl, ◌∙◌}
use Rattle.std.specs.Prelude.{fold, slice_index_or}
use Rattle.nc_types.specs.Id.{Id}
use Rattle.nc_spool_state.specs.declared.place.Place.{Place}
use Rattle.nc_spool_state.specs.declared.spool.Reader.{Reader}
use Rattle.nc_spool_state.specs.declared.edge.Edge.{Edge}
use Rattle.nc_spool_state.specs.Key.{KeyAt, name_at, id_at}
use Rattle.nc_spool_state.specs.Spool.{SpoolAt, is_of, with_reader}
use Rattle.nc_spool_state.specs.Shelf.{spool_of}
use Rattle.nc_spool_state.specs.Choice.{is_below}
use Rattle.nc_spool_state.specs.Edge.{is_behind}
use Rattle.nc_spool.specs.declared.ask.Asking.{Asking}
use Rattle.nc_spool.specs.declared.fact.Fact.{Fact}
use Rattle.nc_spool.specs.declared.fact.Fact.TheVariants.{Out}
use Rattle.nc_spool.specs.declared.board.Board.{Board}
use Rattle.nc_spool.specs.Board.{looked, asked_from, parted, shelved, standing, opened, entered}
use Rattle.nc_spool.specs.Decide.{fence_look, fence_looks}
use Rattle.nc_spool.specs.Arrive.{joined}
use Rattle.nc_spool.specs.Newest.{edges_from, asked_edge, edge_behind, edges_behind}
use Rattle.nc_spool_laws.proofs.Closing.{out}

-- `read` reads some facts, and nothing that is asked
module _ {X : Type 0} (read : List Fact → X) (quiet : (fs : List Fact) (asking : Asking) → read (fs ++ Out asking ∷ []) ≡ read fs) where
  pub looked-read : (c : List ℕ) (after : Id) (fence : ℕ) (b : Board) → read (looked c after fence b).facts ≡ read b.facts
  looked-read c after fence b = quiet b.facts _

  pub asked-read : (key : KeyAt) (j : ℕ) (names : List (List ℕ)) (b : Board) → read (asked_from key j names b).facts ≡ read b.facts
  asked-read key j [] b = refl
  asked-read key j (c ∷ names) b = asked-read key (j + 1) names (looked c (id_at key j) 0 b) ∙ looked-read c (id_at key j) 0 b

  pub parted-read : (j : ℕ) (names : List (List ℕ)) (b : Board) → read (fold (parted j) b names).facts ≡ read b.facts
  parted-read j [] b = refl
  parted-read j (c ∷ names) b = parted-read j names (parted j b c) ∙ quiet b.facts _

  pub joined-read : (j : ℕ) (names : List (List ℕ)) (b : Board) → read (fold (joined j) b names).facts ≡ read b.facts
  joined-read j [] b = refl
  joined-read j (c ∷ names) b = joined-read j names (joined j b c) ∙ quiet b.facts _

  fence-read : (time : ℕ) (key : KeyAt) (j : ℕ) (p : Place) (b : Board) → read (fence_look time key j p b).facts ≡ read b.facts
  fence-read time key j p b = by (is_below time p)
    where
      by : (t : Bool) → read (cond t (looked (name_at key j) (id_at key j) time b) b).facts ≡ read b.facts
      by true = looked-read (name_at key j) (id_at key j) time b
      by false = refl

  pub fences-read : (time : ℕ) (key : KeyAt) (j : ℕ) (places : List Place) (b : Board) → read (fence_looks time key j places b).facts ≡ read b.facts
  fences-read time key j [] b = refl
  fences-read time key j (p ∷ places) b = fences-read time key (j + 1) places (fence_look time key j p b) ∙ fence-read time key j p b

  pub edges-read : (j : ℕ) (names : List (List ℕ)) (b : Board) → read (edges_from j names b).facts ≡ read b.facts
  edges-read j [] b = refl
  edges-read j (c ∷ names) b = edges-read j names (asked_edge j c 0 b) ∙ quiet b.facts _

  behind-read : (time j : ℕ) (c : List ℕ) (e : Edge) (b : Board) → read (edge_behind time j c e b).facts ≡ read b.facts
  behind-read time j c e b = by (is_behind time e)
    where
      by : (t : Bool) → read (cond t (asked_edge j c time b) b).facts ≡ read b.facts
      by true = quiet b.facts _
      by false = refl

  pub behinds-read : (time j : ℕ) (list : List (List ℕ)) (i : ℕ) (edges : List Edge) (b : Board) → read (edges_behind time j list i edges b).facts ≡ read b.facts
  behinds-read time j list i [] b = refl
  behinds-read time j list i (e ∷ edges) b = behinds-read time j list (i + 1) edges (edge_behind time j (slice_index_or list i []) e b) ∙ behind-read time j (slice_index_or list i []) e b

  pub entered-read : (key : KeyAt) (r : Reader) (b : Board) → read (entered key r b).facts ≡ read b.facts
  entered-read key r b = by (spool_of key b.shelf)
    where
      by : (o : Option SpoolAt) → read (shelved (with_reader r (standing o key b)) (opened o key (out (is_of key) b))).facts ≡ read b.facts
      by None = asked-read key 0 key.list (out (is_of key) b)
      by (Some s) = refl
