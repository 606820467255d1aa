-- Frames of a server as a client reads them (RFC 6455, section 5.2).
use Rattle.std.specs.Prelude.{ℕ, ◌/◌, ◌%◌, ◌^◌, Bool, List, [], ◌∷◌, length, drop, Option, None, Some, nat_le, nat_lt, ◌==◌, ◌&&◌, if◌then◌else◌}
use Rattle.std.specs.Int.{w16, w64, from_be_bytes}

-- what a frame says: FIN, the bits RSV1 to RSV3 as one number, the opcode and the payload
pub record Frame : Type 0 where
  pub is_final : Bool
  pub reserved : ℕ
  pub opcode : ℕ
  pub payload : List ℕ

-- a payload of this length, and nothing behind it
abbrev pub payload_of : ℕ → List ℕ → Option (List ℕ)
payload_of n rest = if length rest == n then Some rest else None

-- a payload behind its length in 16 bits, which must be needed
abbrev pub payload_in_16 : List ℕ → Option (List ℕ)
payload_in_16 rest =
    if nat_le 2 (length rest) && nat_le 126 (from_be_bytes w16 rest)
    then payload_of (from_be_bytes w16 rest) (drop 2 rest) else None

-- a payload behind its length in 64 bits, which must be needed, and whose most significant bit must be 0
abbrev pub payload_in_64 : List ℕ → Option (List ℕ)
payload_in_64 rest =
    if nat_le 8 (length rest) && nat_le 65536 (from_be_bytes w64 rest) && nat_lt (from_be_bytes w64 rest) (2 ^ 63)
    then payload_of (from_be_bytes w64 rest) (drop 8 rest) else None

-- a payload behind MASK, which must be 0, and 7 bits: its length, or which longer form follows
abbrev pub payload_behind : ℕ → List ℕ → Option (List ℕ)
payload_behind second rest =
    if nat_le 128 second then None
    else (if second == 127 then payload_in_64 rest
    else (if second == 126 then payload_in_16 rest else payload_of second rest))

abbrev pub with_payload : ℕ → Option (List ℕ) → Option Frame
with_payload first None = None
with_payload first (Some payload) =
    Some (record { is_final = first / 128 == 1; reserved = first / 16 % 8; opcode = first % 16; payload = payload })

-- the frame that all of the bytes are, if they are one
abbrev pub read_frame : List ℕ → Option Frame
read_frame [] = None
read_frame (first ∷ []) = None
read_frame (first ∷ second ∷ rest) = with_payload first (payload_behind second rest)
