-- The values of the fields of a name, part by part.
use Rattle.std.proofs.Common.{◌≡◌, ℕ, true, List, [], ◌∷◌, sym, ◌∙◌, ap, ◌++◌, Option, Some, None, ◌<◌, ◌+◌, take, drop, length, arith}
use Rattle.std.specs.Prelude.{map, cond}
use Rattle.std.specs.List.{filter, slice_index_or}
use Rattle.std.specs.Option.{option_to_list, is_some}
use Rattle.std.proofs.lemmas.Grind.{common_steps}
use Rattle.std.proofs.lemmas.List.Elements.{filter-append}
use Rattle.std.proofs.lemmas.List.{map-append}
use Rattle.nc_types.specs.declared.request.Field.{Field}
use Rattle.nc_accept.specs.Fields.{is_called, value_of, values, only, first}

values-append : (name : List ℕ) (before after : List Field) → values name (before ++ after) ≡ values name before ++ values name after
values-append name before after = ap (map value_of) (filter-append (is_called name) before after) ∙ map-append value_of (filter (is_called name) before) (filter (is_called name) after)

values_called : (name : List ℕ) (field : Field) (after : List Field) → is_called name field ≡ true → values name (field ∷ after) ≡ field.value ∷ values name after
values_called name field after called = ap (λ b. map value_of (cond b (field ∷ filter (is_called name) after) (filter (is_called name) after))) called

-- a second field of the name leaves none alone
pub second_value : (name : List ℕ) (before : List Field) (field : Field) (after : List Field) (value : List ℕ) → values name before ≡ value ∷ [] → is_called name field ≡ true → only (values name (before ++ field ∷ after)) ≡ None
second_value name before field after value one called =
    ap only (values-append name before (field ∷ after) ∙ ap (λ vs. vs ++ values name (field ∷ after)) one ∙ ap (λ vs. value ∷ vs) (values_called name field after called))

cut_at : (fields : List Field) (i : ℕ) (field : Field) → i < length fields → field ≡ slice_index_or fields i field → fields ≡ take i fields ++ field ∷ drop (i + 1) fields
cut_at fields i field within at = grind (arith, common_steps)

-- a field of the name at a place, behind another one of it
pub second_at : (name : List ℕ) (fields : List Field) (i : ℕ) (field : Field) (found : Option (List ℕ)) → i < length fields → field ≡ slice_index_or fields i field → option_to_list found ≡ values name (take i fields) → is_some found ≡ true → is_called name field ≡ true → None ≡ only (values name fields)
second_at name fields i field None within at one some called = cc
second_at name fields i field (Some value) within at one some called =
    sym (ap (λ (all : List Field). only (values name all)) (cut_at fields i field within at) ∙ second_value name (take i fields) field (drop (i + 1) fields) value (sym one) called)

-- a field of the name at a place, before which there is none
pub first_at : (name : List ℕ) (fields : List Field) (i : ℕ) (field : Field) → i < length fields → field ≡ slice_index_or fields i field → values name (take i fields) ≡ [] → is_called name field ≡ true → Some field.value ≡ first (values name fields)
first_at name fields i field within at none called =
    sym (ap (λ (all : List Field). first (values name all)) (cut_at fields i field within at)
    ∙ ap first (values-append name (take i fields) (field ∷ drop (i + 1) fields)
    ∙ ap (λ vs. vs ++ values name (field ∷ drop (i + 1) fields)) none
    ∙ values_called name field (drop (i + 1) fields) called))
