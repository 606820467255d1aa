use Rattle.std.proofs.Common.{◌≡◌, ap, sym, Option, Some, None, if◌then◌else◌}
use Rattle.std.specs.Str.Parse.{digits_value}
use Rattle.nc_http_head.proofs.Lengths as lengths
use Rattle.nc_http_head.proofs.framing.length_of.Goals as goal

pub returns-then-text-gt18 : goal.returns-then-text-gt18
returns-then-text-gt18 c = sym (ap (λ b. if b then Some (digits_value 10 c.args.text.now) else None) (lengths.too_long c.args.text.now c.if-text-gt18.true))

pub returns : goal.returns
returns c = lengths.length_is c.args.text.now c.read_decimal.result c.if-text-gt18.false c.read_decimal.ensures.some c.read_decimal.ensures.none
