-- A frame that is read gives its payload back.
use Rattle.std.proofs.Common.{◌≡◌, ℕ, ◌<◌, ◌≤◌, ◌^◌, Bool, true, false, List, [], ◌∷◌, ◌++◌, Option, None, Some, length, drop, refl, sym, ap, ◌∙◌, inl, inr, arith}
use Rattle.std.specs.Prelude.{nat_le, if◌then◌else◌}
use Rattle.std.specs.Int.{w16, w64, to_be_bytes, from_be_bytes}
use Rattle.std.specs.Str.{is_utf8}
use Rattle.std.proofs.lemmas.Nat.{from_be_bytes-to_be_bytes_2, from_be_bytes-to_be_bytes_8}
use Rattle.std.proofs.lemmas.Bool.Decides.{leb_tells, nat_tests}
use Rattle.nc_frame.specs.Frame.{first_byte, length_bytes, frame_of, opcode_of, text_opcode, binary_opcode}
use Rattle.nc_frame.specs.Reading.{Frame, payload_of, payload_in_16, payload_in_64, payload_behind, with_payload, read_frame}
use Rattle.nc_frame.specs.Laws.{whole_frame}

whole : (payload : List ℕ) → payload_of (length payload) payload ≡ Some payload
whole payload = grind (arith, nat_tests)

in_16 : (rest payload : List ℕ) → from_be_bytes w16 rest ≡ length payload → drop 2 rest ≡ payload → 2 ≤ length rest → 126 ≤ length payload → payload_in_16 rest ≡ Some payload
in_16 rest payload says behind long needed = rw says (rw behind (grind (arith, nat_tests)))

in_64 : (rest payload : List ℕ) → from_be_bytes w64 rest ≡ length payload → drop 8 rest ≡ payload → 8 ≤ length rest → 65536 ≤ length payload → length payload < 2 ^ 63 → payload_in_64 rest ≡ Some payload
in_64 rest payload says behind long needed fits = rw says (rw behind (grind (arith, nat_tests)))

short : (first : ℕ) (payload : List ℕ) → length payload ≤ 125 → read_frame (first ∷ length payload ∷ payload) ≡ with_payload first (Some payload)
short first payload within =
    let behind : payload_behind (length payload) payload ≡ Some payload = grind (arith, nat_tests) in
    ap (with_payload first) behind

pub read_of : (first : ℕ) (payload : List ℕ) → length payload < 2 ^ 63 → read_frame (first ∷ (length_bytes (length payload) ++ payload)) ≡ with_payload first (Some payload)
read_of first payload fits =
    elim (leb_tells (length payload) 125) [
      | inl is ↦ rw is.0 (short first payload is.1)
      | inr isnt ↦ rw isnt.0 (longer first payload fits isnt.1)
    ]
  where
    longer : (first : ℕ) (payload : List ℕ) → length payload < 2 ^ 63 → 125 < length payload → read_frame (first ∷ ((if nat_le (length payload) 65535 then 126 ∷ to_be_bytes w16 (length payload) else 127 ∷ to_be_bytes w64 (length payload)) ++ payload)) ≡ with_payload first (Some payload)
    longer first payload fits more =
        elim (leb_tells (length payload) 65535) [
          | inl is ↦ rw is.0 (ap (with_payload first) (in_16 (to_be_bytes w16 (length payload) ++ payload) payload (from_be_bytes-to_be_bytes_2 (length payload) (omega (arith, is.1))) refl (omega arith) (omega (arith, more))))
          | inr isnt ↦ rw isnt.0 (ap (with_payload first) (in_64 (to_be_bytes w64 (length payload) ++ payload) payload (from_be_bytes-to_be_bytes_8 (length payload) (omega (arith, fits))) refl (omega arith) (omega (arith, isnt.1)) fits))
        ]

-- which opcode a payload has
by_opcode : (is : Bool) (payload : List ℕ) → with_payload (first_byte (if is then text_opcode else binary_opcode)) (Some payload) ≡ Some (whole_frame (if is then text_opcode else binary_opcode) payload)
by_opcode true payload = refl
by_opcode false payload = refl

pub frame_is_read : (payload : List ℕ) → length payload < 2 ^ 63 → read_frame (frame_of payload) ≡ Some (whole_frame (opcode_of payload) payload)
frame_is_read payload fits = read_of (first_byte (opcode_of payload)) payload fits ∙ by_opcode (is_utf8 payload) payload

payload_or_none : Option Frame → List ℕ
payload_or_none None = []
payload_or_none (Some f) = f.payload

pub one_payload : (payload other : List ℕ) → length payload < 2 ^ 63 → length other < 2 ^ 63 → frame_of payload ≡ frame_of other → payload ≡ other
unfolding payload_or_none
one_payload payload other fits fits_too same =
    ap payload_or_none (sym (frame_is_read payload fits) ∙ ap read_frame same ∙ frame_is_read other fits_too)
