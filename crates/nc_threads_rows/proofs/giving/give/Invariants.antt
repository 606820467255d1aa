use Rattle.nc_threads_rows.proofs.giving.give.Given as goal

-- the set of these slots
abbrev pub ghosts-give_by_two : goal.ghosts-give_by_two
ghosts-give_by_two g a = record { table = a.set.table }
