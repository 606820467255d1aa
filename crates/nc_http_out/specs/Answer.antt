-- The bytes of an answer: a status line, the lines of its fields, an empty line and the body.
use Rattle.std.specs.Prelude.{ℕ, Bool, List, ◌++◌, codes, Option}
use Rattle.nc_types.specs.declared.request.Allow.{Allow}
use Rattle.nc_http_out.specs.Head.{line_end, status_line, field_line, allow_line, type_line, length_line, close_line}

-- the fields that every answer may have, the empty line and the body
abbrev pub framed : Option (List ℕ) → List ℕ → Bool → List ℕ
framed content_type body close = type_line content_type ++ length_line body ++ close_line close ++ line_end ++ body

-- an answer of a status
abbrev pub plain : ℕ → Allow → Option (List ℕ) → List ℕ → Bool → List ℕ
plain status allow content_type body close = status_line status ++ allow_line status allow ++ framed content_type body close

-- a message, with its date and the tags of its id
abbrev pub message : List ℕ → List ℕ → Option (List ℕ) → List ℕ → Bool → List ℕ
message date tags content_type body close =
    status_line 200 ++ field_line (codes "Last-Modified") date ++ field_line (codes "Etag") tags ++ framed content_type body close
