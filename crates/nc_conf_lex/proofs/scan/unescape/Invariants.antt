use Rattle.std.proofs.Common.{◌≡◌, ◌++◌, false, drop}
use Rattle.nc_conf_lex.specs.Scan.{unescape}
use Rattle.nc_conf_lex.proofs.scan.unescape.Given as goal

abbrev pub invariant-loop-byte : goal.invariant-loop-byte
invariant-loop-byte l = unescape l.sign false l.inside ≡ l.word.items ++ unescape l.sign l.escaped (drop l.byte-index l.inside)
