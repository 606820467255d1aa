use Rattle.std.proofs.Common.{rules, ◌≡◌, ◌⊎◌, inl, inr, ℕ, ◌^◌, ◌<◌}
use Rattle.nc_buffer.proofs.Rows.{height-short}
use Rattle.nc_buffer.proofs.Slots.{ok-shows}
use Rattle.nc_buffer.proofs.tree.Tree.fresh.Goals as goal

pub returns-then-kept-self-clause-nothing : goal.returns-then-kept-self-clause-nothing
returns-then-kept-self-clause-nothing c = ok-shows _ _ c.blank-then-kept-self.ensures

pub returns-clause-nothing : goal.returns-clause-nothing
returns-clause-nothing c = ok-shows _ _ c.blank-2.ensures

full-width : (width height : ℕ) → (width ≡ 0) ⊎ (width ≡ 2 ^ height) → (width ≡ 0 → ⊥) → width ≡ 2 ^ height
full-width width height (inl e) some = absurd (some e)
full-width width height (inr e) some = e

pub overflow_add-self-inside : goal.overflow_add-self-inside
overflow_add-self-inside c =
    let fits : c.self.inside.width < 18446744073709551616 = search rules in
    let short = height-short c.self.inside.height c.self.inside.width (full-width _ _ c.self.invariant.full c.if-self-eq0.false) fits in
    search rules
