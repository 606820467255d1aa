use Rattle.std.proofs.Common.{◌≡◌, ◌<◌, ◌^◌, take}
use Rattle.std.specs.List.{AllByRecursion}
use Rattle.nc_script.specs.Part.{IsDigit, value_of}
use Rattle.nc_script.proofs.part.value.Given as goal

abbrev pub invariant-loop-byte : goal.invariant-loop-byte
invariant-loop-byte l = record {
  digits : AllByRecursion IsDigit (take l.byte-index l.digits);
  value : l.value ≡ value_of (take l.byte-index l.digits);
  below : l.value < 10 ^ l.byte-index;
}
