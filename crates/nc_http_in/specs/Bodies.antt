-- Requests with other bodies.
use Rattle.std.specs.Prelude.{ℕ, List}
use Rattle.nc_types.specs.declared.request.Request.{Request}

-- the request with this body
abbrev pub with_body : Request → List ℕ → Request
with_body q body = record { method = q.method; path = q.path; query = q.query; minor = q.minor; fields = q.fields; body = body }
