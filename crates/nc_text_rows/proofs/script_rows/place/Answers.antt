use Rattle.std.proofs.Common.{subst}
use Rattle.nc_script.specs.declared.line.Line.{Line}
use Rattle.nc_script.specs.Line.{line}
use Rattle.nc_text_rows.proofs.script_rows.place.Goals as goal

pub place_of-requires-clause-poll : goal.place_of-requires-clause-poll
place_of-requires-clause-poll c = record {
  workers = 1;
  w = c.in-Ok-Poll.field-0-0;
  k = c.in-Ok-Poll.field-0-1;
  names = c.in-Ok-Poll.field-0-2;
  start = c.in-Ok-Poll.field-0-3;
  says = subst (λ (l : Line). (line 1 c.as_bytes-text.result.now).Says l) c.in-Ok-Poll.field-0-is c.in-Ok-Poll.ensures;
}
