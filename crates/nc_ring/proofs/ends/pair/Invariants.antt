use Rattle.nc_ring.proofs.ends.pair.Given as goal

-- the way of this ring
abbrev pub ghosts-pair_of : goal.ghosts-pair_of
ghosts-pair_of g a = record { route = a.route }
