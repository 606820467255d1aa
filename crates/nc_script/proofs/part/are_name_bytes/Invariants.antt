use Rattle.std.proofs.Common.{take}
use Rattle.std.specs.List.{AllByRecursion}
use Rattle.nc_script.specs.Part.{IsNameByte}
use Rattle.nc_script.proofs.part.are_name_bytes.Given as goal

abbrev pub invariant-loop-byte : goal.invariant-loop-byte
invariant-loop-byte l = AllByRecursion IsNameByte (take l.byte-index l.bytes)
