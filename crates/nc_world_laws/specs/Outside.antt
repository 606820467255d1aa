-- What comes to a worker from outside.
use Rattle.nc_worker_state.specs.Incoming.{Incoming, TakesPacket}

-- all but packets, which are taken by moves of their own
abbrev pub IsOutside : Incoming → Type 0
IsOutside (TakesPacket from p) = ⊥
IsOutside _ = Unit {0}
