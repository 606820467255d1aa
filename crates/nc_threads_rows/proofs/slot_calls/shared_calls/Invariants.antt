use Rattle.nc_threads_rows.proofs.slot_calls.shared_calls.Given as goal

-- the set of these slots
abbrev pub ghosts-make_on : goal.ghosts-make_on
ghosts-make_on a = record { table = a.set.table }
