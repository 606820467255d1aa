-- The turns of a round by their numbers.
use Rattle.std.specs.Prelude.{ℕ, ◌+◌, ◌*◌, slice_index_or}
use Rattle.nc_world.specs.Moves.{Move, Rests}
use Rattle.nc_world.specs.Lines.{round}

-- how many turns a round has, of so many workers: a carry and a take of each pair
abbrev pub turn_count : ℕ → ℕ
turn_count workers = workers * workers + workers * workers

-- the move that a turn of a round tries; a number that is none moves nothing
abbrev pub turn_move : ℕ → ℕ → Move
turn_move workers turn = slice_index_or (round workers) turn Rests
