-- What the real source gave and the real sink took in this run.
use Rattle.std.specs.Prelude.{ℕ, List}
use Rattle.nc_outside.specs.Pieces.{joined}
use Rattle.nchan.specs.declared.standard.StdSource.{StdSource}
use Rattle.nchan.specs.declared.standard.StdSink.{StdSink}

-- what each read gave that didn't fail, the newest first
abbrev pub given_by : {R : Type 0} → StdSource R → List (List ℕ)
given_by s = s.trace.pieces

-- the bytes taken
abbrev pub taken_by : {W : Type 0} → StdSink W → List ℕ
taken_by s = joined s.trace.pieces
