use Rattle.threads_bench.proofs.holds.release_all.Given as goal

-- the set of these slots
abbrev pub ghosts-rounds : goal.ghosts-rounds
ghosts-rounds g a = record { table = a.set.table }
