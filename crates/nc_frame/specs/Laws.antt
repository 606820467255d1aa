-- What holds of the frames of payloads.
use Rattle.std.specs.Prelude.{◌≡◌, ℕ, ◌<◌, ◌^◌, true, List, [], ◌∷◌, length, Some}
use Rattle.nc_frame.specs.Frame.{frame_of, opcode_of, close_opcode, close_frame}
use Rattle.nc_frame.specs.Reading.{Frame, read_frame}

-- a final frame whose reserved bits are 0
abbrev pub whole_frame : ℕ → List ℕ → Frame
whole_frame opcode payload = record { is_final = true; reserved = 0; opcode = opcode; payload = payload }

-- the frame of a payload is read as that payload, final, as text where it is UTF-8 and else as binary
abbrev pub FrameIsRead : Type 0
FrameIsRead = (payload : List ℕ) → length payload < 2 ^ 63 → read_frame (frame_of payload) ≡ Some (whole_frame (opcode_of payload) payload)

-- payloads with one frame are one payload
abbrev pub OnePayload : Type 0
OnePayload = (payload other : List ℕ) → length payload < 2 ^ 63 → length other < 2 ^ 63 → frame_of payload ≡ frame_of other → payload ≡ other

-- the close frame is read as the two bytes of its status code, 3 and 232
abbrev pub CloseIsRead : Type 0
CloseIsRead = read_frame close_frame ≡ Some (whole_frame close_opcode (3 ∷ 232 ∷ []))
