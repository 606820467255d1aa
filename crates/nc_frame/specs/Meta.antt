-- The payload of a message under the protocol `ws+meta.nchan`.
use Rattle.std.specs.Prelude.{◌≡◌, ◌≢◌, ℕ, List, [], ◌∷◌, ◌++◌, codes, Option, None, Some}

-- the line of the content type, where there is one
abbrev pub type_line : Option (List ℕ) → List ℕ
type_line None = []
type_line (Some content_type) = codes "content-type: " ++ content_type ++ codes "\n"

-- the line of the id, that of the content type, an empty line, and the body
abbrev pub meta_text : List ℕ → Option (List ℕ) → List ℕ → List ℕ
meta_text id content_type body =
    codes "id: " ++ id ++ codes "\n" ++ type_line content_type ++ codes "\n" ++ body

-- a text without LF
abbrev pub IsLine : List ℕ → Type 0
IsLine [] = Unit {0}
IsLine (byte ∷ text) = (byte ≢ 10) × IsLine text

abbrev pub IsLineOrNone : Option (List ℕ) → Type 0
IsLineOrNone None = Unit {0}
IsLineOrNone (Some text) = IsLine text

-- a payload has one id, one content type and one body
abbrev pub OneMessage : Type 0
OneMessage =
    (id other_id : List ℕ) (kind other_kind : Option (List ℕ)) (body other_body : List ℕ)
    → IsLine id → IsLine other_id → IsLineOrNone kind → IsLineOrNone other_kind
    → meta_text id kind body ≡ meta_text other_id other_kind other_body
    → (id ≡ other_id) × (kind ≡ other_kind) × (body ≡ other_body)
