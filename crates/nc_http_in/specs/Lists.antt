-- All items of the bytes of a connection.
use Rattle.std.specs.Prelude.{◌≡◌, ℕ, List, [], ◌∷◌}
use Rattle.nc_types.specs.declared.request.Request.{Request}
use Rattle.nc_http_in.specs.Items.{whole, refused, neither, IsItem}

-- the bytes begin with these whole requests, one behind the other, and this rest follows
abbrev pub Begins : List ℕ → List Request → List ℕ → Type 0
Begins bytes [] rest = bytes ≡ rest
Begins bytes (q ∷ requests) rest = (behind : List ℕ) × IsItem bytes (whole q behind) × Begins behind requests rest

-- what follows the last whole request: a refusal with its status, or bytes that are neither yet
pub data End : Type 0 where
  bad : ℕ → End
  unended : End

abbrev pub IsEnd : List ℕ → End → Type 0
IsEnd rest (bad status) = IsItem rest (refused status)
IsEnd rest unended = IsItem rest neither

-- the items of the bytes: whole requests, up to a refusal or a rest
abbrev pub Items : List ℕ → List Request → End → Type 0
Items bytes requests end = (rest : List ℕ) × Begins bytes requests rest × IsEnd rest end
