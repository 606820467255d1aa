-- The least hold without a use is released.
use Rattle.std.proofs.Common.{◌≡◌, ◌⊎◌, inl, inr, Bool, true, false, not, cond, List, [], ◌∷◌, refl, ap, subst, ◌∙◌, Some, None, find}
use Rattle.std.specs.List.{AllByRecursion}
use Rattle.nc_spool_state.specs.declared.kept.Held.{Held}
use Rattle.nc_spool_state.specs.Spool.{SpoolAt}
use Rattle.nc_spool_state.specs.Kept.{is_used, is_idle}
use Rattle.nc_spool_laws.specs.Holding.{IsBefore, AreRising}
use Rattle.nc_spool_laws.specs.Idle.{IdleRule}
use Rattle.nc_spool_laws.proofs.Lists.{all-changed}
use Rattle.nc_spool_laws.proofs.Holds.{holds-rule}

not-used : (t : Bool) → not t ≡ true → t ≡ false
not-used true e = absurd cc
not-used false e = refl

used-not : (t : Bool) → not t ≡ false → t ≡ true
used-not true e = refl
used-not false e = absurd cc

module _ {H : Type 0} (shelf : List SpoolAt) where
  abbrev IsUsed : Held H → Type 0
  IsUsed h = is_used h.owner h.g shelf ≡ true

  abbrev IsIdle : Held H → Type 0
  IsIdle h = is_used h.owner h.g shelf ≡ false

  none-found : (kept : List (Held H)) → AllByRecursion IsUsed kept → find (is_idle shelf) kept ≡ None
  none-found [] used = refl
  none-found (x ∷ kept) used = ap (λ (t : Bool). cond (not t) (Some x) (find (is_idle shelf) kept)) used.0 ∙ none-found kept used.1

  least-found : (kept : List (Held H)) (h : Held H) → AreRising kept → find (is_idle shelf) kept ≡ Some h → IsIdle h × AllByRecursion (λ x. IsIdle x → (x ≡ h) ⊎ IsBefore h x) kept
  least-found [] h rising e = absurd cc
  least-found (y ∷ kept) h rising e = by (is_idle shelf y) refl e (λ f. least-found kept h rising.1 f)
    where
      first : is_idle shelf y ≡ true → y ≡ h → IsIdle h × AllByRecursion (λ x. IsIdle x → (x ≡ h) ⊎ IsBefore h x) (y ∷ kept)
      first was same = (
        subst IsIdle same (not-used (is_used y.owner y.g shelf) was),
        ((λ idle. inl same), all-changed (IsBefore y) (λ x. IsIdle x → (x ≡ h) ⊎ IsBefore h x) kept (λ x before idle. inr (subst (λ (z : Held H). IsBefore z x) same before)) rising.0),
      )

      by : (t : Bool) → is_idle shelf y ≡ t → cond t (Some y) (find (is_idle shelf) kept) ≡ Some h → (find (is_idle shelf) kept ≡ Some h → IsIdle h × AllByRecursion (λ x. IsIdle x → (x ≡ h) ⊎ IsBefore h x) kept) → IsIdle h × AllByRecursion (λ x. IsIdle x → (x ≡ h) ⊎ IsBefore h x) (y ∷ kept)
      by true was e rest = let same : y ≡ h = cc in first was same
      by false was e rest =
          let found = rest e in
          let used = used-not (is_used y.owner y.g shelf) was in
          (found.0, ((λ idle. absurd cc), found.1))

pub idle-rule : (H : Type 0) → IdleRule H
idle-rule H = record {
  none = λ s e. (holds-rule H).none_idle s.kept s.shelf e;
  used = λ s used. none-found s.shelf s.kept used;
  least = λ s h rising e. let found = least-found s.shelf s.kept h rising e in record { idle = found.0; least = found.1 };
}
