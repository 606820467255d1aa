-- How far a part was looked through, and what a step of reading finds out.
use Rattle.std.specs.Prelude.{◌≡◌, ℕ, ◌+◌, ◌<◌, ◌≤◌, List, [], length, drop, ⊤, if◌then◌else◌, ◌==◌, nat_le}
use Rattle.nc_types.specs.declared.request.Request.{Request}
use Rattle.nc_http_head.specs.declared.ends.Place.TheVariants.{Start as LineStart, Inside}
use Rattle.nc_http_head.specs.Ends.{unblanked, Seen, SeenLine}
use Rattle.nc_http_head.specs.Heads.{AreOneLine}
use Rattle.nc_http_head.specs.declared.framing.Framing.{Framing}
use Rattle.nc_http_head.specs.declared.framing.Framing.TheVariants.{Chunked, Long, Faulty}
use Rattle.nc_http_in.specs.Items.{whole, refused, neither}
use Rattle.nc_http_in.specs.Held.{Part, begun, counted, line, chunk, trailer, over, IsItemFrom, LeadsFrom}
use Rattle.nc_http_in.specs.declared.stage.Stage.{Stage}
use Rattle.nc_http_in.specs.declared.stage.Stage.TheVariants as stages
use Rattle.nc_http_in.specs.declared.stage.Found.{Found}
use Rattle.nc_http_in.specs.declared.stage.Found.TheVariants as founds
use Rattle.nc_http_in.specs.declared.stage.Turn.{Turn}

-- the part that a stage reads
abbrev pub part_of : Stage → Part
part_of stages.Start = begun
part_of (stages.Head seen place) = begun
part_of (stages.Body q need) = counted q need
part_of (stages.Line q seen) = line q
part_of (stages.Data q size) = chunk q size
part_of (stages.Trailer q seen place) = trailer q
part_of (stages.Bad status) = over status

-- the bytes begin with one that is no CR and no LF
abbrev pub IsBegun : List ℕ → Type 0
IsBegun bytes = (0 < length bytes) × (unblanked bytes ≡ bytes)

-- what the stage notes of the bytes is so
abbrev pub Notes : Stage → List ℕ → Type 0
Notes stages.Start bytes = ⊤
Notes (stages.Head seen place) bytes = IsBegun bytes × Seen Inside seen place bytes
Notes (stages.Body q need) bytes = ⊤
Notes (stages.Line q seen) bytes = SeenLine seen bytes × (length q.body ≤ 65536)
Notes (stages.Data q size) bytes = length q.body + size ≤ 65536
Notes (stages.Trailer q seen place) bytes = Seen LineStart seen place bytes
Notes (stages.Bad status) bytes = bytes ≡ []

-- the same as one fact, which nothing looks into by itself
pub record IsNoted (stage : Stage) (bytes : List ℕ) : Type 0 where
  pub notes : Notes stage bytes

-- from a part with these bytes a stage with a rest is reached
abbrev pub Reaches : Part → List ℕ → Stage → List ℕ → Type 0
Reaches part bytes stage rest = Notes stage rest × LeadsFrom part bytes (part_of stage) rest

-- what was found of a part with these bytes, of which the rest is left
abbrev pub IsFound : Part → List ℕ → List ℕ → Found → Type 0
IsFound part bytes rest (founds.On stage) = Reaches part bytes stage rest × (length rest < length bytes)
IsFound part bytes rest (founds.Waits stage) = Reaches part bytes stage rest × IsItemFrom part bytes neither
IsFound part bytes rest (founds.Whole q) = IsItemFrom part bytes (whole q rest) × AreOneLine q.fields
IsFound part bytes rest (founds.Refused status) = IsItemFrom part bytes (refused status)
IsFound part bytes rest (founds.Short stage) = Reaches part bytes stage rest

-- a step takes bytes off, and finds something out of the part
abbrev pub IsTurn : Part → List ℕ → Turn → Type 0
IsTurn part bytes turn = (turn.taken ≤ length bytes) × IsFound part bytes (drop turn.taken bytes) turn.found

-- the part with these bytes was read to its end
abbrev pub IsSettled : Part → List ℕ → List ℕ → Found → Type 0
IsSettled part bytes rest (founds.On stage) = ⊥
IsSettled part bytes rest (founds.Waits stage) = Reaches part bytes stage rest × IsItemFrom part bytes neither
IsSettled part bytes rest (founds.Whole q) = IsItemFrom part bytes (whole q rest) × AreOneLine q.fields
IsSettled part bytes rest (founds.Refused status) = IsItemFrom part bytes (refused status)
IsSettled part bytes rest (founds.Short stage) = Reaches part bytes stage rest

abbrev pub IsEndOfTurns : Part → List ℕ → Turn → Type 0
IsEndOfTurns part bytes turn = (turn.taken ≤ length bytes) × IsSettled part bytes (drop turn.taken bytes) turn.found

-- the same part is next, of which these bytes are not all, and what the stage notes of them is so
abbrev pub StillWaits : Stage → Stage → List ℕ → Type 0
StillWaits old new bytes = Notes new bytes × (part_of new ≡ part_of old) × IsItemFrom (part_of old) bytes neither

-- ---- what is done behind a head and behind a chunk line, of so many bytes

abbrev pub turn_on : ℕ → Stage → Turn
turn_on n stage = record { taken = n; found = founds.On stage }

abbrev pub turn_refused : ℕ → Turn
turn_refused status = record { taken = 0; found = founds.Refused status }

abbrev pub turn_behind_head : ℕ → Request → Framing → Turn
turn_behind_head n q Chunked = turn_on n (stages.Line q 0)
turn_behind_head n q (Long need) = turn_on n (stages.Body q need)
turn_behind_head n q (Faulty status) = turn_refused status

abbrev pub turn_behind_line : ℕ → Request → ℕ → Turn
turn_behind_line n q size =
    if size == 0 then turn_on n (stages.Trailer q 0 LineStart)
    else (if nat_le (length q.body + size) 65536 then turn_on n (stages.Data q size) else turn_refused 413)
