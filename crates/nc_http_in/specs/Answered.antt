-- The requests that a reader answers.
use Rattle.std.specs.Prelude.{⊤}
use Rattle.nc_http_head.specs.Heads.{AreOneLine}
use Rattle.nc_http_in.specs.declared.next.Next.{Next}
use Rattle.nc_http_in.specs.declared.next.Next.TheVariants.{Request as Asked, More, Bad}

-- no value of the request has a CR or an LF
abbrev pub HasOneLines : Next → Type 0
HasOneLines (Asked q) = AreOneLine q.fields
HasOneLines More = ⊤
HasOneLines (Bad status) = ⊤
