use Rattle.std.proofs.Common.{sym, rules}
use Rattle.nc_accept.proofs.Keys.{no_long_key}
use Rattle.nc_accept.proofs.opening.is_key.Goals as goal

pub returns-then-text-gt-KEY_LEN : goal.returns-then-text-gt-KEY_LEN
returns-then-text-gt-KEY_LEN c = sym (no_long_key c.args.text.now (search rules))
