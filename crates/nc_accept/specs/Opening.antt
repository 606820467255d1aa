-- Openings of WebSocket connections (RFC 6455, section 4.2.1).
use Rattle.std.specs.Prelude.{◌≡◌, ℕ, Bool, true, false, List, length, codes, ◌==◌, ◌&&◌, Option, Some, None, Result, Ok, Err, bytes_eq}
use Rattle.base64.specs.Engines.{standard}
use Rattle.base64.specs.GeneralPurpose.{decode_of}
use Rattle.base64.specs.declared.decode.DecodeError.{DecodeError}
use Rattle.nc_types.specs.declared.request.Field.{Field}
use Rattle.nc_accept.specs.declared.opening.Opening.{Opening}
use Rattle.nc_accept.specs.declared.opening.HandRefusal.{HandRefusal}
use Rattle.nc_accept.specs.declared.opening.HandRefusal.TheVariants.{Connection, Version, Key, NoMemory}
use Rattle.nc_accept.specs.Fields.{values, items, is_among, is_word_among, only}

-- an item of a `Connection` field is `upgrade`
abbrev pub asks_upgrade : List Field → Bool
asks_upgrade fields = is_word_among (codes "upgrade") (items (codes "Connection") fields)

abbrev pub is_version : Option (List ℕ) → Bool
is_version None = false
is_version (Some value) = bytes_eq value (codes "13")

-- there is one `Sec-WebSocket-Version` field alone, and its value is `13`
abbrev pub has_version : List Field → Bool
has_version fields = is_version (only (values (codes "Sec-WebSocket-Version") fields))

abbrev pub is_nonce : Result (List ℕ) DecodeError → Bool
is_nonce (Ok nonce) = length nonce == 16
is_nonce (Err error) = false

-- base64 decodes a text to 16 bytes (RFC 4648, section 4)
abbrev pub is_key : List ℕ → Bool
is_key text = is_nonce (decode_of standard text)

abbrev pub is_some_key : Option (List ℕ) → Bool
is_some_key None = false
is_some_key (Some text) = is_key text

-- the value of the one `Sec-WebSocket-Key` field
abbrev pub key_value : List Field → Option (List ℕ)
key_value fields = only (values (codes "Sec-WebSocket-Key") fields)

-- there is one `Sec-WebSocket-Key` field alone, and its value is a key
abbrev pub has_key : List Field → Bool
has_key fields = is_some_key (key_value fields)

-- an item of a `Sec-WebSocket-Protocol` field is exactly `ws+meta.nchan`
abbrev pub asks_meta : List Field → Bool
asks_meta fields = is_among (codes "ws+meta.nchan") (items (codes "Sec-WebSocket-Protocol") fields)

-- the fields of a request open a connection
abbrev pub opens : List Field → Bool
opens fields = asks_upgrade fields && has_version fields && has_key fields

-- the fields open a connection, and this is its opening
pub record IsOpening (fields : List Field) (opening : Opening) : Type 0 where
  pub opened : opens fields ≡ true
  pub key : key_value fields ≡ Some opening.key
  pub meta : opening.meta ≡ asks_meta fields

-- the first condition of an opening that the fields break; memory is wanted only where they break none
abbrev pub IsRefused : List Field → HandRefusal → Type 0
IsRefused fields Connection = asks_upgrade fields ≡ false
IsRefused fields Version = (asks_upgrade fields ≡ true) × (has_version fields ≡ false)
IsRefused fields Key = (asks_upgrade fields ≡ true) × (has_version fields ≡ true) × (has_key fields ≡ false)
IsRefused fields NoMemory = opens fields ≡ true
