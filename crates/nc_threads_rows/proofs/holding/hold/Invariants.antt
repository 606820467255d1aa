use Rattle.nc_threads_rows.proofs.holding.hold.Given as goal

-- the set of these slots
abbrev pub ghosts-hold_by_two : goal.ghosts-hold_by_two
ghosts-hold_by_two g a = record { table = a.set.table }
