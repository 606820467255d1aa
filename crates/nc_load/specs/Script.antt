-- The lines of a load, and their text.
use Rattle.std.specs.Prelude.{ℕ, zero, suc, ◌%◌, List, [], ◌∷◌, ◌++◌, codes, if◌then◌else◌, ◌==◌}
use Rattle.std.specs.List.{flat_map}
use Rattle.nc_load.specs.DrawnLine.{clock_line, line_at}

-- the configuration: four workers, each with 256 slots, and channels that keep 8 messages
abbrev pub configuration : List (List ℕ)
configuration = codes "worker_processes 4;" ∷ codes "http { nchan_slots 256; nchan_message_buffer_length 8; }" ∷ []

-- the clock of each worker reads 1000 when the load begins
abbrev pub clocks : List (List ℕ)
clocks = clock_line 0 1000 ∷ clock_line 1 1000 ∷ clock_line 2 1000 ∷ clock_line 3 1000 ∷ []

-- the line between a configuration and the lines that are made
abbrev pub rule_line : List ℕ
rule_line = codes "---"

abbrev pub front : List (List ℕ)
front = configuration ++ rule_line ∷ clocks

-- alerts go from worker to worker until none is left
abbrev pub settle_line : List ℕ
settle_line = codes "settle 1000000"

-- behind so many lines the load settles where their number is a multiple of 64
abbrev pub settled_after : ℕ → List (List ℕ)
settled_after n = if n % 64 == 0 then settle_line ∷ [] else []

-- the first so many lines that a seed draws
abbrev pub lines_drawn : ℕ → ℕ → List (List ℕ)
lines_drawn seed zero = []
lines_drawn seed (suc i) = lines_drawn seed i ++ line_at seed i ∷ settled_after (suc i)

-- behind the last line it settles where it hasn't yet
abbrev pub settled_at_end : ℕ → List (List ℕ)
settled_at_end size = if size % 64 == 0 then [] else settle_line ∷ []

abbrev pub script_lines : ℕ → ℕ → List (List ℕ)
script_lines seed size = front ++ lines_drawn seed size ++ settled_at_end size

-- a line ends with LF
abbrev pub ended : List ℕ → List ℕ
ended line = line ++ 10 ∷ []

abbrev pub text_of : List (List ℕ) → List ℕ
text_of lines = flat_map ended lines

-- the script of a seed and a size
abbrev pub script : ℕ → ℕ → List ℕ
script seed size = text_of (script_lines seed size)

-- the most bytes of a load's script, as of any input of a replay
abbrev pub longest_script : ℕ
longest_script = 67108864
