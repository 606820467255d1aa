-- The spools of a worker, in ascending order of list and cursor.
use Rattle.std.specs.Prelude.{ℕ, suc, Bool, List, [], ◌∷◌, Option, if◌then◌else◌, find, filter, map, insert, length, ◌==◌}
use Rattle.std.specs.Ordering.{is_lt}
use Rattle.nc_spool_state.specs.Key.{KeyAt, key_cmp}
use Rattle.nc_spool_state.specs.Spool.{SpoolAt, is_of, has_channel}

-- the list without the first item that passes a test
abbrev pub without_first : {X : Type 0} → (X → Bool) → List X → List X
without_first test [] = []
without_first test (x ∷ xs) = if test x then xs else x ∷ without_first test xs

-- the spool of a key, if there is one
abbrev pub spool_of : KeyAt → List SpoolAt → Option SpoolAt
spool_of key spools = find (is_of key) spools

-- the spools without that of a key
abbrev pub others : KeyAt → List SpoolAt → List SpoolAt
others key spools = without_first (is_of key) spools

-- the place of a spool: before the first with a greater key
abbrev pub place_before : KeyAt → List SpoolAt → ℕ
place_before key [] = 0
place_before key (s ∷ spools) = if is_lt (key_cmp key s.key) then 0 else suc (place_before key spools)

-- the spools with one more, at its place
abbrev pub with_spool : SpoolAt → List SpoolAt → List SpoolAt
with_spool s spools = insert spools (place_before s.key spools) s

-- the same, unless nobody stands there
abbrev pub with_read_spool : SpoolAt → List SpoolAt → List SpoolAt
with_read_spool s spools = if length s.readers == 0 then spools else with_spool s spools

-- the key of a spool
abbrev pub key_of : SpoolAt → KeyAt
key_of s = s.key

-- the keys of the spools that have a channel, in ascending order
abbrev pub keys_with : List ℕ → List SpoolAt → List KeyAt
keys_with c spools = map key_of (filter (has_channel c) spools)
