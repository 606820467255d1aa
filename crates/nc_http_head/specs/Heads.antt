-- What one whole text is by the grammar of httparse, and the request of a head.
use Rattle.std.specs.Prelude.{◌≡◌, ℕ, ◌≤◌, ◌+◌, List, [], length, take, drop, map, Option, Some, None, Bool, if◌then◌else◌, ◌==◌, not}
use Rattle.std.specs.List.{AllByRecursion, prefix_len}
use Rattle.httparse.specs.Grammar as http
use Rattle.nc_types.specs.Message.{IsOneLine}
use Rattle.nc_types.specs.declared.request.Field.{Field}
use Rattle.nc_types.specs.declared.request.Request.{Request}

-- the text is one head with at most 64 fields (RFC 9112, sections 2 to 5)
abbrev pub IsHead : List ℕ → http.RequestHead → Type 0
IsHead text h = http.ReadsRequest text h [] × (length h.fields ≤ 64)

-- the text is one chunk-size line, of this size (RFC 9112, section 7.1)
abbrev pub IsLineOf : List ℕ → ℕ → Type 0
IsLineOf text size = (l : http.ChunkLine) × http.ReadsChunkLine text l [] × (size ≡ http.chunk_size l)

abbrev pub is_no_mark : ℕ → Bool
is_no_mark b = not (b == 63)

-- how many bytes stand before the first `?`
abbrev pub path_len : List ℕ → ℕ
path_len target = prefix_len is_no_mark target

-- what stands behind the first `?`, if there is one
abbrev pub query_of : List ℕ → Option (List ℕ)
query_of target = if path_len target == length target then None else Some (drop (path_len target + 1) target)

-- a field without the white space round its value
abbrev pub field_of : http.Field → Field
field_of f = record { name = f.name; value = http.field_value f }

abbrev pub fields_of : http.RequestHead → List Field
fields_of h = map field_of h.fields

-- the request of a head, without its body
abbrev pub request_of : http.RequestHead → Request
request_of h =
    record { method = h.method; path = take (path_len h.target) h.target; query = query_of h.target; minor = h.minor; fields = fields_of h; body = [] }

-- no value has a CR or an LF
abbrev pub AreOneLine : List Field → Type 0
AreOneLine fields = AllByRecursion (λ field. IsOneLine field.value) fields
