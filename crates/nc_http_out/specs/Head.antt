-- The lines of an answer's head (RFC 9112, sections 4 and 5).
use Rattle.std.specs.Prelude.{ℕ, Bool, List, [], ◌∷◌, ◌++◌, length, codes, Option, Some, None, if◌then◌else◌, ◌==◌}
use Rattle.std.specs.List.{list_any}
use Rattle.std.specs.Fmt.{decimal}
use Rattle.nc_types.specs.declared.request.Allow.{Allow}
use Rattle.nc_types.specs.declared.request.Allow.TheVariants.{Nothing, Subscriber, Publisher}

-- CR LF
abbrev pub line_end : List ℕ
line_end = 13 ∷ 10 ∷ []

-- the statuses that answers have
abbrev pub statuses : List ℕ
statuses = 200 ∷ 201 ∷ 202 ∷ 400 ∷ 403 ∷ 404 ∷ 405 ∷ 408 ∷ 410 ∷ 413 ∷ 503 ∷ 507 ∷ []

abbrev pub is_status : ℕ → Bool
is_status status = list_any (λ known. status == known) statuses

-- what a status means, in words (RFC 9110, section 15; RFC 4918, section 11.5)
abbrev pub reason : ℕ → List ℕ
reason status =
    if status == 200 then codes "OK"
    else (if status == 201 then codes "Created"
    else (if status == 202 then codes "Accepted"
    else (if status == 400 then codes "Bad Request"
    else (if status == 403 then codes "Forbidden"
    else (if status == 404 then codes "Not Found"
    else (if status == 405 then codes "Method Not Allowed"
    else (if status == 408 then codes "Request Timeout"
    else (if status == 410 then codes "Gone"
    else (if status == 413 then codes "Content Too Large"
    else (if status == 503 then codes "Service Unavailable"
    else (if status == 507 then codes "Insufficient Storage"
    else [])))))))))))

abbrev pub status_line : ℕ → List ℕ
status_line status = codes "HTTP/1.1 " ++ decimal status ++ codes " " ++ reason status ++ line_end

-- a field with its value
abbrev pub field_line : List ℕ → List ℕ → List ℕ
field_line name value = name ++ codes ": " ++ value ++ line_end

-- the methods that may be used
abbrev pub methods_line : Allow → List ℕ
methods_line Nothing = []
methods_line Subscriber = field_line (codes "Allow") (codes "GET")
methods_line Publisher = field_line (codes "Allow") (codes "GET, POST, PUT, DELETE")

-- the methods are told where another one was used, and nowhere else
abbrev pub allow_line : ℕ → Allow → List ℕ
allow_line status allow = if status == 405 then methods_line allow else []

abbrev pub type_line : Option (List ℕ) → List ℕ
type_line None = []
type_line (Some content_type) = field_line (codes "Content-Type") content_type

-- how many bytes the body has
abbrev pub length_line : List ℕ → List ℕ
length_line body = field_line (codes "Content-Length") (decimal (length body))

abbrev pub close_line : Bool → List ℕ
close_line close = if close then field_line (codes "Connection") (codes "close") else []
