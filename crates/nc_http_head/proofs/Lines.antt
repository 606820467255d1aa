-- The values of a head are of one line each.
use Rattle.std.proofs.Common.{◌≡◌, ◌≢◌, ℕ, Bool, true, false, List, [], ◌∷◌, map, subst}
use Rattle.std.specs.Prelude.{All, IsTrue}
use Rattle.std.proofs.lemmas.List.Elements.{All-head, All-tail}
use Rattle.httparse.specs.Grammar as http
use Rattle.httparse.proofs.TrimLemmas.{AllPass-trim_ows}
use Rattle.nc_types.specs.Message.{IsOneLine}
use Rattle.nc_http_head.specs.Heads.{IsHead, field_of, fields_of, AreOneLine}

wrong : false ≡ true → ⊥
wrong e = cc e

passes : (b : ℕ) → IsTrue (http.is_value_byte b) → (b ≢ 13) × (b ≢ 10)
passes b t = (λ e. wrong (subst (λ (n : ℕ). http.is_value_byte n ≡ true) e t), λ e. wrong (subst (λ (n : ℕ). http.is_value_byte n ≡ true) e t))

one_line : (text : List ℕ) → http.AllPass http.is_value_byte text → IsOneLine text
one_line [] all = tt
one_line (b ∷ text) all =
    (passes b (All-head (λ b. IsTrue (http.is_value_byte b)) b text all), one_line text (All-tail (λ b. IsTrue (http.is_value_byte b)) b text all))

fields_lines : (fields : List http.Field) → All http.IsField fields → AreOneLine (map field_of fields)
fields_lines [] all = tt
fields_lines (f ∷ fields) all = (
  one_line (http.field_value f) (AllPass-trim_ows http.is_value_byte f.raw (All-head http.IsField f fields all).raw),
  fields_lines fields (All-tail http.IsField f fields all),
)

pub head_lines : (text : List ℕ) (h : http.RequestHead) → IsHead text h → AreOneLine (fields_of h)
head_lines text h is = fields_lines h.fields is.0.0.fields
