-- The slots of the oldest entries, one after the other.
use Rattle.std.proofs.Common.{◌≡◌, ◌+◌, ◌<◌, ◌≤◌, ℕ, Bool, true, false, List, [], ◌∷◌, ◌++◌, refl, sym, ap, ◌∙◌, length, take, get_or, Some, None, arith}
use Rattle.std.specs.Prelude.{nat_lt}
use Rattle.std.specs.List.{slice_get}
use Rattle.std.proofs.lemmas.Bool.Decides.{nat_tests}
use Rattle.std.proofs.lemmas.List.{map_more}
use Rattle.std.proofs.lemmas.Option.{slice_get-get_or, slice_get_past}
use Rattle.nc_buffer.specs.declared.entry.Entry.{Entry}
use Rattle.nc_owner.specs.Publish.{slots_of}

within : (es : List Entry) (k : ℕ) (e : Entry) (b : Bool) → nat_lt k (length es) ≡ b → slice_get es k ≡ Some e → k < length es
within es k e true is at = grind (arith, nat_tests)
within es k e false is at = let behind : length es ≤ k = grind (arith, nat_tests) in absurd (let none : None ≡ Some e = sym (slice_get_past es k behind) ∙ at in cc)

pub slots-next : (es : List Entry) (k : ℕ) (e : Entry) (slots later : List ℕ) → slice_get es k ≡ Some e → slots ≡ slots_of (take k es) → later ≡ slots ++ e.slot ∷ [] → later ≡ slots_of (take (k + 1) es)
slots-next es k e slots later at before pushed =
    let lt = within es k e (nat_lt k (length es)) refl at in
    let some : Some e ≡ Some (get_or es k e) = sym at ∙ slice_get-get_or es k e lt in
    let same : e ≡ get_or es k e = cc in
    pushed ∙ (ap (λ (l : List ℕ). l ++ e.slot ∷ []) before ∙ (ap (λ (x : Entry). slots_of (take k es) ++ x.slot ∷ []) same ∙ sym (map_more (λ (x : Entry). x.slot) es k e lt)))
