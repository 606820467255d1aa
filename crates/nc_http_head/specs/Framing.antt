-- How a head frames the body behind it (RFC 9112, section 6).
use Rattle.std.specs.Prelude.{ℕ, List, [], ◌∷◌, length, codes, Bool, false, not, Option, Some, None, is_some, if◌then◌else◌, ◌==◌, ◌&&◌, nat_le}
use Rattle.std.specs.List.{list_all}
use Rattle.std.specs.Char.{is_digit}
use Rattle.std.specs.Str.Parse.{digits_value}
use Rattle.nc_types.specs.declared.request.Field.{Field}
use Rattle.nc_accept.specs.Fields.{is_same_word, values, only, first}
use Rattle.nc_http_head.specs.declared.framing.Framing.{Framing}
use Rattle.nc_http_head.specs.declared.framing.Framing.TheVariants.{Chunked, Long, Faulty}

abbrev pub is_decimal_digit : ℕ → Bool
is_decimal_digit b = is_digit b 10

-- 1 to 18 digits
abbrev pub is_length : List ℕ → Bool
is_length text = nat_le 1 (length text) && nat_le (length text) 18 && list_all is_decimal_digit text

-- a length of this value
abbrev pub has_length : ℕ → List ℕ → Bool
has_length n text = is_length text && (digits_value 10 text == n)

-- a body has at most 65,536 bytes
abbrev pub limited : ℕ → Framing
limited n = if nat_le n 65536 then Long n else Faulty 413

-- without a length there is no body; else each one is a length, and all have one value
abbrev pub by_length : List (List ℕ) → Framing
by_length [] = Long 0
by_length (text ∷ texts) =
    if list_all (has_length (digits_value 10 text)) (text ∷ texts) then limited (digits_value 10 text) else Faulty 400

-- the coding is `chunked`, and this is HTTP/1.1
abbrev pub is_chunked : ℕ → Option (List ℕ) → Bool
is_chunked minor None = false
is_chunked minor (Some coding) = is_same_word coding (codes "chunked") && (minor == 1)

-- a coding stands alone, beside no length
abbrev pub by_coding : ℕ → List (List ℕ) → List (List ℕ) → Framing
by_coding minor codings lengths = if is_chunked minor (only codings) && not (is_some (first lengths)) then Chunked else Faulty 400

-- of the codings and the lengths that a head of HTTP/1.minor tells
abbrev pub framed_by : ℕ → List (List ℕ) → List (List ℕ) → Framing
framed_by minor codings lengths = if is_some (first codings) then by_coding minor codings lengths else by_length lengths

-- how the fields of a head of HTTP/1.minor frame its body
abbrev pub framing_of : ℕ → List Field → Framing
framing_of minor fields = framed_by minor (values (codes "Transfer-Encoding") fields) (values (codes "Content-Length") fields)
