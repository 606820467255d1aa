use Rattle.std.proofs.Common.{◌≡◌, ◌++◌, ℕ, map, length}
use Rattle.std.specs.List.{AllByRecursion}
use Rattle.nc_script.specs.Part.{IsName, IsFirstBad, names_in}
use Rattle.nc_script.proofs.part.names.Given as goal

abbrev pub invariant-loop-piece : goal.invariant-loop-piece
invariant-loop-piece l = record {
  names : l.names ++ map (λ w. w.bytes) l.pieces ≡ map (λ w. w.bytes) (names_in l.word);
  each : AllByRecursion IsName l.names;
  bad : (at : ℕ) → IsFirstBad l.pieces at → IsFirstBad (names_in l.word) at;
}

abbrev pub decreases-loop-piece : goal.decreases-loop-piece
decreases-loop-piece l = length l.pieces
