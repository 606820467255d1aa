-- The slot rule of owners over the whole history, and that each number of a grant is drawn once.
use Rattle.std.proofs.Common.{◌≡◌, ◌≢◌, ℕ, ◌+◌, ◌≤◌, Bool, true, false, cond, List, [], ◌∷◌, refl, ap, ◌∙◌, subst, arith}
use Rattle.std.specs.Prelude.{◌==◌, ◌&&◌}
use Rattle.std.proofs.lemmas.Bool.Decides.{nat_tests}
use Rattle.nc_journal.specs.History.{own, is_by, Along}
use Rattle.nc_journal.specs.Holding.{slot_stage, Unused, Retired, TakesLowestUnused, times_so, grants_number}
use Rattle.nc_journal.specs.declared.event.Event.{Event}
use Rattle.nc_journal.specs.declared.event.Event.TheVariants.{Stored, Freed, Granted}
use Rattle.nc_owner_laws.specs.InOrder.{DrawsNext, next_grant}
use Rattle.nc_owner_laws.specs.SlotRule.{OwnersSlots}
use Rattle.nc_world_laws.proofs.Local.{eqb_self, own_twice}
use Rattle.nc_world_owners.specs.Pairs.{DrawnAt}
use Rattle.nc_world_owners.proofs.Gluing.{along_rest, along_head}

-- ---- slots

slots_at : (slots : ℕ) (e : Event) (h : List Event) → ((v : ℕ) → Along (OwnersSlots slots) (own v (e ∷ h))) → OwnersSlots slots h e
slots_at slots (Stored w c id slot len exp kept members from r ct body) h k =
    let t : TakesLowestUnused slots w slot (own w h) = along_head (OwnersSlots slots) (w == w) (Stored w c id slot len exp kept members from r ct body) (own w h) (eqb_self w) (k w) in
    record {
      within = t.within;
      unused = subst (λ (l : List Event). slot_stage slot l ≡ Unused) (own_twice w h) t.unused;
      lowest = λ s lt. subst (λ (l : List Event). slot_stage s l ≢ Unused) (own_twice w h) (t.lowest s lt);
    }
slots_at slots (Freed w slot) h k = subst (λ (l : List Event). slot_stage slot l ≡ Retired) (own_twice w h) (along_head (OwnersSlots slots) (w == w) (Freed w slot) (own w h) (eqb_self w) (k w))
slots_at slots e h k = tt

pub slots_whole : (slots : ℕ) (h : List Event) → ((v : ℕ) → Along (OwnersSlots slots) (own v h)) → Along (OwnersSlots slots) h
slots_whole slots [] k = tt
slots_whole slots (e ∷ h) k = (slots_whole slots h (λ v. along_rest (OwnersSlots slots) (is_by v e) e (own v h) (k v)), slots_at slots e h k)

-- ---- numbers of grants

-- a number that is still to be drawn was none of a grant
pub undrawn : (first w n : ℕ) (l : List Event) → Along (DrawsNext first) l → next_grant first l ≤ n → times_so (grants_number w n) l ≡ 0
undrawn first w n [] a le = refl
undrawn first w n (Granted v g slot to ∷ l) a le =
    let same : g ≡ next_grant first l = a.1 in
    counts_none (v == w) (g == n) (times_so (grants_number w n) l) (apart g n le) (undrawn first w n l a.0 (omega (arith, same, le)))
  where
    apart : (x y : ℕ) → x + 1 ≤ y → (x == y) ≡ false
    apart x y le = grind (arith, nat_tests)

    counts_none : (b d : Bool) (k : ℕ) → d ≡ false → k ≡ 0 → cond (b && d) (k + 1) k ≡ 0
    counts_none true true k e z = absurd cc
    counts_none true false k e z = z
    counts_none false d k e z = z
undrawn first w n (e ∷ l) a le = undrawn first w n l a.0 le

-- an owner's grants stand in its own history
pub own_grants : (w n : ℕ) (h : List Event) → times_so (grants_number w n) h ≡ times_so (grants_number w n) (own w h)
own_grants w n [] = refl
own_grants w n (e ∷ h) = by (is_by w e) refl (own_grants w n h)
  where
    by : (b : Bool) → is_by w e ≡ b → times_so (grants_number w n) h ≡ times_so (grants_number w n) (own w h) → times_so (grants_number w n) (e ∷ h) ≡ times_so (grants_number w n) (cond b (e ∷ own w h) (own w h))
    by true i same = ap (λ (k : ℕ). cond (grants_number w n e) (k + 1) k) same
    by false i same = ap (λ (b : Bool). cond b (times_so (grants_number w n) h + 1) (times_so (grants_number w n) h)) (other e i) ∙ same
      where
        differs : (a b : ℕ) → (a == b) ≡ false → (b == a) ≡ false
        differs a b d = grind (arith, nat_tests)

        both : (b d : Bool) → b ≡ false → (b && d) ≡ false
        both true d e = absurd cc
        both false d e = refl

        other : (x : Event) → is_by w x ≡ false → grants_number w n x ≡ false
        other (Granted v g slot to) d = both (v == w) (g == n) (differs w v d)
        other x d = refl

drawn_at : (first : ℕ) (e : Event) (h : List Event) → ((v : ℕ) → Along (DrawsNext first) (own v (e ∷ h))) → DrawnAt h e
drawn_at first (Granted w g slot to) h k =
    let same : g ≡ next_grant first (own w h) = along_head (DrawsNext first) (w == w) (Granted w g slot to) (own w h) (eqb_self w) (k w) in
    own_grants w g h ∙ undrawn first w g (own w h) (along_rest (DrawsNext first) (w == w) (Granted w g slot to) (own w h) (k w)) (omega (arith, same))
drawn_at first e h k = tt

pub drawn_whole : (first : ℕ) (h : List Event) → ((v : ℕ) → Along (DrawsNext first) (own v h)) → Along DrawnAt h
drawn_whole first [] k = tt
drawn_whole first (e ∷ h) k = (drawn_whole first h (λ v. along_rest (DrawsNext first) (is_by v e) e (own v h) (k v)), drawn_at first e h k)
