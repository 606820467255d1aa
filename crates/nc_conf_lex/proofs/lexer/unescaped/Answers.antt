use Rattle.std.proofs.Common.{rules}
use Rattle.nc_conf_lex.proofs.Plain.{stands}
use Rattle.nc_conf_lex.proofs.lexer.unescaped.Goals as goal

pub returns-else-has_backslash : goal.returns-else-has_backslash
returns-else-has_backslash c = rw (stands c.args.sign c.args.inside.now (search rules)) c.standing.ensures
