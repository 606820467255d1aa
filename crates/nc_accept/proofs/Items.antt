-- Tests of the items of list fields, field by field and piece by piece.
use Rattle.std.proofs.Common.{◌≡◌, ℕ, Bool, true, false, List, [], ◌∷◌, refl, ◌∙◌, ap}
use Rattle.std.specs.Prelude.{◌&&◌, ◌||◌, map, cond}
use Rattle.std.specs.List.{list_any, filter, flat_map}
use Rattle.std.proofs.lemmas.List.Folds.{list_any-append}
use Rattle.nc_types.specs.declared.request.Field.{Field}
use Rattle.nc_accept.specs.Fields.{items_of, is_called, value_of, items}

-- a test of the results of a function is a test of what it is given
pub any_mapped : {A B : Type 0} (test : B → Bool) (f : A → B) (xs : List A) → list_any test (map f xs) ≡ list_any (λ x. test (f x)) xs
any_mapped test f [] = refl
any_mapped test f (x ∷ xs) = ap (λ b. test (f x) || b) (any_mapped test f xs)

-- an item passes a test, of the items of a field's value where it has the name
abbrev pub field_passes : (List ℕ → Bool) → List ℕ → Field → Bool
field_passes test name field = is_called name field && list_any test (items_of field.value)

pub any_item : (test : List ℕ → Bool) (name : List ℕ) (fields : List Field) → list_any test (items name fields) ≡ list_any (field_passes test name) fields
any_item test name [] = refl
any_item test name (field ∷ fields) =
    (elim (is_called name field) as (λ b. list_any test (flat_map items_of (map value_of (cond b (field ∷ filter (is_called name) fields) (filter (is_called name) fields)))) ≡ ((b && list_any test (items_of field.value)) || list_any (field_passes test name) fields)) [
      | true ↦ list_any-append test (items_of field.value) (items name fields) ∙ ap (λ b. list_any test (items_of field.value) || b) (any_item test name fields)
      | false ↦ any_item test name fields
    ])
