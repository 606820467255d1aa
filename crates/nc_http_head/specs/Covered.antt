-- What the spans of a head cover.
use Rattle.std.specs.Prelude.{ℕ, List}
use Rattle.httparse.specs.Spans.{span_bytes}
use Rattle.httparse.specs.declared.spans.HeaderSpan.{HeaderSpan}
use Rattle.nc_types.specs.declared.request.Field.{Field}

-- the field that a span covers
abbrev pub field_at : List ℕ → HeaderSpan → Field
field_at text span = record { name = span_bytes text span.name; value = span_bytes text span.value }
