-- What the arguments of directives stand for.
use Rattle.std.specs.Prelude.{ℕ, ◌+◌, ◌*◌, ◌-◌, Bool, true, false, not, List, [], ◌∷◌, ◌++◌, length, take, drop, codes, if◌then◌else◌, ◌==◌, ◌&&◌, ◌||◌, nat_le, nat_lt, Option, Some, None, fold, slice_index, bytes_eq}
use Rattle.std.specs.List.{list_all, take_while, prefix_len, suffix_len, flat_map, slice_split}
use Rattle.std.specs.Option.{option_map, option_and_then}
use Rattle.std.specs.Char.{is_ascii_digit, is_ascii_alphanumeric}
use Rattle.nc_types.specs.Config.{ListenAt}
use Rattle.nc_types.specs.declared.config.IdPart.{IdPart}
use Rattle.nc_types.specs.declared.config.IdPart.TheVariants.{Plain, Arg}
use Rattle.nc_types.specs.declared.config.IdText.{IdText}

-- numbers

abbrev pub digits_value : List ℕ → ℕ
digits_value digits = fold (λ v d. v * 10 + (d - 48)) 0 digits

abbrev pub are_digits : List ℕ → Bool
are_digits text = nat_lt 0 (length text) && list_all is_ascii_digit text

-- the value of a text of digits, however many
abbrev pub whole : List ℕ → Option ℕ
whole text = if are_digits text then Some (digits_value text) else None

abbrev pub if_within : ℕ → ℕ → ℕ → Option ℕ
if_within low high n = if nat_le low n && nat_le n high then Some n else None

abbrev pub within : ℕ → ℕ → Option ℕ → Option ℕ
within low high value = option_and_then (if_within low high) value

-- a number has 1 to 20 digits
abbrev pub number : ℕ → ℕ → List ℕ → Option ℕ
number low high text = if nat_le (length text) 20 then within low high (whole text) else None

-- times and sizes

-- how many seconds a unit has
abbrev pub time_unit : ℕ → Option ℕ
time_unit b =
    if b == 115 then Some 1
    else (if b == 109 then Some 60
    else (if b == 104 then Some 3600
    else (if b == 100 then Some 86400
    else (if b == 119 then Some 604800
    else None))))

-- how many bytes a unit has, whose letter may be of either case
abbrev pub size_unit : ℕ → Option ℕ
size_unit b =
    if (b == 107) || (b == 75) then Some 1024
    else (if (b == 109) || (b == 77) then Some 1048576
    else None)

abbrev pub last_byte : List ℕ → ℕ
last_byte text = slice_index text (length text - 1)

abbrev pub times : ℕ → ℕ → ℕ
times unit n = n * unit

abbrev pub in_unit : List ℕ → Option ℕ → Option ℕ
in_unit text None = whole text
in_unit text (Some unit) = option_map (times unit) (whole (take (length text - 1) text))

-- digits, of the unit that the last byte names, or of 1
abbrev pub measured : (ℕ → Option ℕ) → List ℕ → Option ℕ
measured unit text = in_unit text (unit (last_byte text))

abbrev pub seconds : List ℕ → Option ℕ
seconds text = within 0 1000000000 (measured time_unit text)

abbrev pub size : List ℕ → Option ℕ
size text = within 1 65536 (measured size_unit text)

-- addresses

abbrev pub is_no_colon : ℕ → Bool
is_no_colon b = not (b == 58)

-- how many bytes stand behind the last colon, or all
abbrev pub port_len : List ℕ → ℕ
port_len text = suffix_len is_no_colon text

abbrev pub port : List ℕ → Option ℕ
port text = number 1 65535 text

abbrev pub address_at : List ℕ → ℕ → ListenAt
address_at host n = record { host = host; port = n }

-- the host up to the last colon, which has at least one byte
abbrev pub host_and_port : ℕ → List ℕ → Option ListenAt
host_and_port host_len text = if host_len == 0 then None else option_map (address_at (take host_len text)) (port (drop (host_len + 1) text))

-- a port, or a host, a colon and a port
abbrev pub address : List ℕ → Option ListenAt
address text =
    if port_len text == length text then option_map (address_at (codes "0.0.0.0")) (port text)
    else host_and_port (length text - port_len text - 1) text

-- channel ids

abbrev pub is_dollar : ℕ → Bool
is_dollar b = b == 36

abbrev pub is_name_byte : ℕ → Bool
is_name_byte b = is_ascii_alphanumeric b || (b == 95)

abbrev pub begins_name : List ℕ → Bool
begins_name [] = false
begins_name (b ∷ bs) = is_name_byte b

-- `arg_`, and at least one byte of a name
abbrev pub begins_arg : List ℕ → Bool
begins_arg text = bytes_eq (take 4 text) (codes "arg_") && begins_name (drop 4 text)

-- each `$` stands before an argument
abbrev pub is_id : List ℕ → Bool
is_id [] = true
is_id (b ∷ bs) = (not (is_dollar b) || begins_arg bs) && is_id bs

abbrev pub plain_part : List ℕ → List IdPart
plain_part [] = []
plain_part (b ∷ bs) = Plain (b ∷ bs) ∷ []

-- what stands behind a `$`: `arg_`, the longest name, and plain text
abbrev pub arg_parts : List ℕ → List IdPart
arg_parts piece = let rest = drop 4 piece in Arg (take_while is_name_byte rest) ∷ plain_part (drop (prefix_len is_name_byte rest) rest)

abbrev pub parts_of : List (List ℕ) → List IdPart
parts_of [] = []
parts_of (first ∷ others) = plain_part first ++ flat_map arg_parts others

-- the parts of a word, which is cut at each `$`
abbrev pub id_text : List ℕ → IdText
id_text text = record { parts = parts_of (slice_split is_dollar text) }
