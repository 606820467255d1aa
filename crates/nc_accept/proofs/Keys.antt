-- A text of more than 24 bytes is no base64 of 16 bytes.
use Rattle.std.proofs.Common.{◌≡◌, ℕ, zero, suc, ◌*◌, ◌<◌, ◌≤◌, List, Option, Some, None, false, refl, length, length-append, arith}
use Rattle.std.specs.Prelude.{◌==◌}
use Rattle.std.proofs.lemmas.Bool.Decides.{nat_tests}
use Rattle.base64.specs.Decode.{groups_bytes, group_bytes, groups_before_last, suffix_bytes, decode_error, decoded_bytes, decode_outcome}
use Rattle.base64.specs.declared.decode.DecodeError.{DecodeError}
use Rattle.base64.specs.Engines.{standard}
use Rattle.nc_accept.specs.Opening.{is_nonce, is_key}

-- a group of four gives three bytes
grouped : (dec s : List ℕ) (q : ℕ) → length (groups_bytes dec s q) ≡ 3 * q
unfolding groups_bytes
grouped dec s zero = refl
grouped dec s (suc q) = let ih = grouped dec s q in omega (arith, ih, length-append (groups_bytes dec s q) (group_bytes dec s (4 * q)))

six_groups : (n : ℕ) → 24 < n → 6 ≤ groups_before_last n
six_groups n long = omega (arith, long)

many : (dec : List ℕ) (pad : ℕ) (s : List ℕ) → 24 < length s → 16 < length (decoded_bytes dec pad s)
many dec pad s long =
    let q = groups_before_last (length s) in
    let six : 6 ≤ q = six_groups (length s) long in
    omega (arith, six, grouped dec s q, length-append (groups_bytes dec s q) (suffix_bytes dec pad (4 * q) s))

no_sixteen : (n : ℕ) → 16 < n → (n == 16) ≡ false
no_sixteen n more = grind (arith, nat_tests)

by_error : (error : Option DecodeError) (bytes : List ℕ) → 16 < length bytes → is_nonce (decode_outcome error bytes) ≡ false
by_error None bytes more = no_sixteen (length bytes) more
by_error (Some e) bytes more = refl

pub no_long_key : (text : List ℕ) → 24 < length text → is_key text ≡ false
no_long_key text long =
    by_error (decode_error standard.decode_table standard.padding.value standard.config.decode_allow_trailing_bits standard.config.decode_padding_mode text) (decoded_bytes standard.decode_table standard.padding.value text)
    (many standard.decode_table standard.padding.value text long)
