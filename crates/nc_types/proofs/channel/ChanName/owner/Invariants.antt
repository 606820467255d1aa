use Rattle.std.proofs.Common.{◌≡◌, take}
use Rattle.nc_types.specs.Channel.{hash_of}
use Rattle.nc_types.proofs.channel.ChanName.owner.Given as goal

abbrev pub invariant-loop-byte : goal.invariant-loop-byte
invariant-loop-byte l = l.hash ≡ hash_of (take l.byte-index l.byte-items)
