use Rattle.std.proofs.Common.{◌≡◌, ◌+◌, false, drop}
use Rattle.std.specs.Option.{option_map}
use Rattle.nc_conf_lex.specs.Scan.{closing}
use Rattle.nc_conf_lex.proofs.scan.closing.Given as goal

abbrev pub invariant-loop-i : goal.invariant-loop-i
invariant-loop-i l = closing l.sign false l.text ≡ option_map (λ n. l.i + n) (closing l.sign l.escaped (drop l.i l.text))
