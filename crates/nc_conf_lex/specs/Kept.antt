-- What a word keeps of its text.
use Rattle.std.specs.Prelude.{ℕ, List}
use Rattle.nc_conf_lex.specs.declared.word.Kept.{Kept}
use Rattle.nc_conf_lex.specs.declared.word.Kept.TheVariants.{Short, Standing, Written}

abbrev pub kept_bytes : Kept → List ℕ
kept_bytes (Short bytes) = bytes
kept_bytes (Standing bytes) = bytes.value.now
kept_bytes (Written bytes) = bytes.value.items
