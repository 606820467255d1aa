-- Messages.
use Rattle.std.specs.Prelude.{◌≢◌, ℕ, List, Option, IfSome}
use Rattle.std.specs.List.{AllByRecursion}
use Rattle.nc_types.specs.Id.{Id}

-- a message, with the second at which it expires, where 0 is never
pub record Message : Type 0 where
  pub id : Id
  pub body : List ℕ
  pub content_type : Option (List ℕ)
  pub expires : ℕ

-- no CR and no LF
abbrev pub IsOneLine : List ℕ → Type 0
IsOneLine text = AllByRecursion (λ byte. (byte ≢ 13) × (byte ≢ 10)) text

-- there is no content type, or it is one line
abbrev pub IsContentType : Option (List ℕ) → Type 0
IsContentType content_type = IfSome content_type IsOneLine
