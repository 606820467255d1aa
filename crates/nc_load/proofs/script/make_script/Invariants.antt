use Rattle.std.proofs.Common.{◌≡◌, ◌++◌}
use Rattle.nc_load.specs.Generator.{drawn}
use Rattle.nc_load.specs.Script.{front, lines_drawn, text_of}
use Rattle.nc_load.proofs.script.make_script.Given as goal

abbrev pub invariant-loop-i : goal.invariant-loop-i
invariant-loop-i l = record { text : l.out.items ≡ text_of (front ++ lines_drawn l.fn.seed l.i); number : l.x ≡ drawn l.fn.seed l.i }
