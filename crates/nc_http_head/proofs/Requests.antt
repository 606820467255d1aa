-- The request of a head, from its parts.
use Rattle.std.proofs.Common.{◌≡◌, ℕ, ◌+◌, ◌==◌, if◌then◌else◌, List, [], ◌∷◌, length, take, drop, map, Option, Some, None, refl, sym, ap, ◌∙◌}
use Rattle.httparse.specs.Grammar.{RequestHead, Field as FieldLine}
use Rattle.httparse.specs.Spans.{header_bytes, name_and_value}
use Rattle.httparse.specs.declared.spans.HeaderSpan.{HeaderSpan}
use Rattle.nc_types.specs.declared.request.Field.{Field}
use Rattle.nc_types.specs.declared.request.Request.{Request}
use Rattle.nc_http_head.specs.Heads.{request_of, query_of, path_len, field_of, fields_of}
use Rattle.nc_http_head.specs.Covered.{field_at}

abbrev to_field : (List ℕ × List ℕ) → Field
to_field p = record { name = p.0; value = p.1 }

left : (text : List ℕ) (spans : List HeaderSpan) → map (field_at text) spans ≡ map to_field (map (header_bytes text) spans)
left text [] = refl
left text (s ∷ spans) = ap (λ l. field_at text s ∷ l) (left text spans)

right : (fields : List FieldLine) → map to_field (map name_and_value fields) ≡ map field_of fields
right [] = refl
right (f ∷ fields) = ap (λ l. field_of f ∷ l) (right fields)

pub same_fields : (text : List ℕ) (spans : List HeaderSpan) (fields : List FieldLine) → map (header_bytes text) spans ≡ map name_and_value fields → map (field_at text) spans ≡ map field_of fields
same_fields text spans fields e = left text spans ∙ (ap (map to_field) e ∙ right fields)

pub same_request : (h : RequestHead) (m p : List ℕ) (q : Option (List ℕ)) (v : ℕ) (fs : List Field) (b : List ℕ) → m ≡ h.method → p ≡ take (path_len h.target) h.target → q ≡ query_of h.target → v ≡ h.minor → fs ≡ fields_of h → b ≡ []
    → record { method = m; path = p; query = q; minor = v; fields = fs; body = b } ≡ request_of h
same_request h m p q v fs b em ep eq ev ef eb = rw (em, ep, eq, ev, ef, eb) refl
