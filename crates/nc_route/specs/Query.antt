-- The arguments of a query, and the channel ids that a request gives.
use Rattle.std.specs.Prelude.{ℕ, Bool, List, [], ◌==◌, ◌&&◌, Option, Some, None, map, bytes_eq}
use Rattle.std.specs.List.{find, list_any, flat_map, slice_split, before_first, after_first}
use Rattle.nc_types.specs.declared.request.Request.{Request}
use Rattle.nc_types.specs.declared.config.IdPart.{IdPart}
use Rattle.nc_types.specs.declared.config.IdPart.TheVariants.{Plain, Arg}
use Rattle.nc_types.specs.declared.config.IdText.{IdText}
use Rattle.nc_types.specs.declared.config.Location.{Location}

-- `&`
abbrev pub is_and : ℕ → Bool
is_and b = b == 38

-- `=`
abbrev pub is_equals : ℕ → Bool
is_equals b = b == 61

-- a piece of a query gives an argument: it has a `=`, and the name stands before the first
abbrev pub gives : List ℕ → List ℕ → Bool
gives name piece = list_any is_equals piece && bytes_eq (before_first is_equals piece) name

abbrev pub value_in : Option (List ℕ) → List ℕ
value_in None = []
value_in (Some piece) = after_first is_equals piece

-- the value of an argument, which is what stands behind the first `=` of the first piece that gives it; without such a piece it is empty
abbrev pub argument : List ℕ → List ℕ → List ℕ
argument name query = value_in (find (gives name) (slice_split is_and query))

-- a query that is not there is an empty one
abbrev pub query_of : Option (List ℕ) → List ℕ
query_of None = []
query_of (Some query) = query

-- what a part of a word stands for
abbrev pub part_value : List ℕ → IdPart → List ℕ
part_value query (Plain text) = text
part_value query (Arg name) = argument name query

-- the channel id that a word gives: what its parts stand for, one after the other
abbrev pub id_value : List ℕ → IdText → List ℕ
id_value query id = flat_map (part_value query) id.parts

-- the channel ids of a request
abbrev pub ids_of : Location → Request → List (List ℕ)
ids_of l q = map (id_value (query_of q.query)) l.ids
