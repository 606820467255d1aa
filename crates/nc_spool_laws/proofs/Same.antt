-- Steps that leave the shelf as it was, and the starts.
use Rattle.std.proofs.Common.{◌≡◌, ℕ, ◌+◌, Bool, true, false, cond, List, [], ◌∷◌, refl, ◌∙◌}
use Rattle.std.specs.Prelude.{fold, slice_index_or}
use Rattle.nc_spool_state.specs.declared.place.Place.{Place}
use Rattle.nc_spool_state.specs.declared.edge.Edge.{Edge}
use Rattle.nc_spool.specs.declared.board.Board.{Board}
use Rattle.nc_spool_state.specs.Key.{KeyAt, name_at, id_at}
use Rattle.nc_spool_state.specs.Choice.{is_below}
use Rattle.nc_spool_state.specs.Edge.{is_behind}
use Rattle.nc_spool.specs.Board.{looked, asked_from, parted}
use Rattle.nc_spool.specs.Decide.{fence_look, fence_looks}
use Rattle.nc_spool.specs.Arrive.{joined}
use Rattle.nc_spool.specs.Newest.{edges_from, asked_edge, edge_behind, edges_behind}

pub asked-shelf : (key : KeyAt) (j : ℕ) (names : List (List ℕ)) (b : Board) → (asked_from key j names b).shelf ≡ b.shelf
asked-shelf key j [] b = refl
asked-shelf key j (c ∷ names) b = asked-shelf key (j + 1) names (looked c (id_at key j) 0 b)

pub parted-shelf : (k : ℕ) (names : List (List ℕ)) (b : Board) → (fold (parted k) b names).shelf ≡ b.shelf
parted-shelf k [] b = refl
parted-shelf k (c ∷ names) b = parted-shelf k names (parted k b c)

pub joined-shelf : (k : ℕ) (names : List (List ℕ)) (b : Board) → (fold (joined k) b names).shelf ≡ b.shelf
joined-shelf k [] b = refl
joined-shelf k (c ∷ names) b = joined-shelf k names (joined k b c)

fence-shelf : (time : ℕ) (key : KeyAt) (j : ℕ) (p : Place) (b : Board) → (fence_look time key j p b).shelf ≡ b.shelf
fence-shelf time key j p b = by (is_below time p)
  where
    by : (t : Bool) → (cond t (looked (name_at key j) (id_at key j) time b) b).shelf ≡ b.shelf
    by true = refl
    by false = refl

pub fences-shelf : (time : ℕ) (key : KeyAt) (j : ℕ) (places : List Place) (b : Board) → (fence_looks time key j places b).shelf ≡ b.shelf
fences-shelf time key j [] b = refl
fences-shelf time key j (p ∷ places) b = fences-shelf time key (j + 1) places (fence_look time key j p b) ∙ fence-shelf time key j p b

pub edges-shelf : (k : ℕ) (names : List (List ℕ)) (b : Board) → (edges_from k names b).shelf ≡ b.shelf
edges-shelf k [] b = refl
edges-shelf k (c ∷ names) b = edges-shelf k names (asked_edge k c 0 b)

behind-shelf : (time k : ℕ) (c : List ℕ) (e : Edge) (b : Board) → (edge_behind time k c e b).shelf ≡ b.shelf
behind-shelf time k c e b = by (is_behind time e)
  where
    by : (t : Bool) → (cond t (asked_edge k c time b) b).shelf ≡ b.shelf
    by true = refl
    by false = refl

pub behinds-shelf : (time k : ℕ) (list : List (List ℕ)) (j : ℕ) (edges : List Edge) (b : Board) → (edges_behind time k list j edges b).shelf ≡ b.shelf
behinds-shelf time k list j [] b = refl
behinds-shelf time k list j (e ∷ edges) b = behinds-shelf time k list (j + 1) edges (edge_behind time k (slice_index_or list j []) e b) ∙ behind-shelf time k (slice_index_or list j []) e b

pub asked-starts : (key : KeyAt) (j : ℕ) (names : List (List ℕ)) (b : Board) → (asked_from key j names b).starts ≡ b.starts
asked-starts key j [] b = refl
asked-starts key j (c ∷ names) b = asked-starts key (j + 1) names (looked c (id_at key j) 0 b)

pub parted-starts : (k : ℕ) (names : List (List ℕ)) (b : Board) → (fold (parted k) b names).starts ≡ b.starts
parted-starts k [] b = refl
parted-starts k (c ∷ names) b = parted-starts k names (parted k b c)

pub joined-starts : (k : ℕ) (names : List (List ℕ)) (b : Board) → (fold (joined k) b names).starts ≡ b.starts
joined-starts k [] b = refl
joined-starts k (c ∷ names) b = joined-starts k names (joined k b c)

fence-starts : (time : ℕ) (key : KeyAt) (j : ℕ) (p : Place) (b : Board) → (fence_look time key j p b).starts ≡ b.starts
fence-starts time key j p b = by (is_below time p)
  where
    by : (t : Bool) → (cond t (looked (name_at key j) (id_at key j) time b) b).starts ≡ b.starts
    by true = refl
    by false = refl

pub fences-starts : (time : ℕ) (key : KeyAt) (j : ℕ) (places : List Place) (b : Board) → (fence_looks time key j places b).starts ≡ b.starts
fences-starts time key j [] b = refl
fences-starts time key j (p ∷ places) b = fences-starts time key (j + 1) places (fence_look time key j p b) ∙ fence-starts time key j p b

pub edges-starts : (k : ℕ) (names : List (List ℕ)) (b : Board) → (edges_from k names b).starts ≡ b.starts
edges-starts k [] b = refl
edges-starts k (c ∷ names) b = edges-starts k names (asked_edge k c 0 b)

behind-starts : (time k : ℕ) (c : List ℕ) (e : Edge) (b : Board) → (edge_behind time k c e b).starts ≡ b.starts
behind-starts time k c e b = by (is_behind time e)
  where
    by : (t : Bool) → (cond t (asked_edge k c time b) b).starts ≡ b.starts
    by true = refl
    by false = refl

pub behinds-starts : (time k : ℕ) (list : List (List ℕ)) (j : ℕ) (edges : List Edge) (b : Board) → (edges_behind time k list j edges b).starts ≡ b.starts
behinds-starts time k list j [] b = refl
behinds-starts time k list j (e ∷ edges) b = behinds-starts time k list (j + 1) edges (edge_behind time k (slice_index_or list j []) e b) ∙ behind-starts time k (slice_index_or list j []) e b
