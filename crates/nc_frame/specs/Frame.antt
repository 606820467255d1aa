-- The frames that a server sends (RFC 6455, section 5.2).
use Rattle.std.specs.Prelude.{ℕ, ◌+◌, List, [], ◌∷◌, ◌++◌, length, nat_le, if◌then◌else◌}
use Rattle.std.specs.Int.{w16, w64, to_be_bytes}
use Rattle.std.specs.Str.{is_utf8}

-- the opcodes of a text, a binary and a close frame
abbrev pub text_opcode : ℕ
text_opcode = 1

abbrev pub binary_opcode : ℕ
binary_opcode = 2

abbrev pub close_opcode : ℕ
close_opcode = 8

-- the first byte: FIN is set, RSV1 to RSV3 are not, and the opcode follows
abbrev pub first_byte : ℕ → ℕ
first_byte opcode = 128 + opcode

-- MASK is not set, and the length of the payload follows in 7 bits, or as 126 and 16 bits, or as 127 and 64 bits,
-- whichever of them is the first to hold it; the most significant byte comes first
abbrev pub length_bytes : ℕ → List ℕ
length_bytes n =
    if nat_le n 125 then n ∷ []
    else (if nat_le n 65535 then 126 ∷ to_be_bytes w16 n else 127 ∷ to_be_bytes w64 n)

-- the one final, unmasked frame of an opcode and a payload
abbrev pub frame : ℕ → List ℕ → List ℕ
frame opcode payload = first_byte opcode ∷ (length_bytes (length payload) ++ payload)

-- a payload that is UTF-8 is a text, any other is binary
abbrev pub opcode_of : List ℕ → ℕ
opcode_of payload = if is_utf8 payload then text_opcode else binary_opcode

-- the frame of a payload
abbrev pub frame_of : List ℕ → List ℕ
frame_of payload = frame (opcode_of payload) payload

-- the close frame of the status code 1000, which is a normal closure (sections 5.5.1 and 7.4.1)
abbrev pub close_frame : List ℕ
close_frame = frame close_opcode (to_be_bytes w16 1000)
