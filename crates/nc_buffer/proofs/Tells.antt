-- What the mark of two runs tells, and that of one slot.
use Rattle.std.proofs.Common.{◌≡◌, ◌⊎◌, inl, inr, ◌<◌, ℕ, ◌+◌, Bool, true, false, not, ◌||◌, ◌&&◌, ◌==◌, nat_le, cond, refl, arith}
use Rattle.std.specs.Prelude.{◌≤ℤ◌}
use Rattle.std.proofs.lemmas.Int.{ints}
use Rattle.nc_types.specs.Id.{Id, IsPast, is_past}
use Rattle.nc_buffer.specs.declared.entry.Entry.{Entry}
use Rattle.nc_buffer.specs.declared.mark.Mark.{Mark}
use Rattle.nc_buffer.specs.declared.mark.Sought.{Sought}
use Rattle.nc_buffer.specs.declared.mark.Sought.TheVariants.{Any, Expired, Spent, Past}
use Rattle.nc_buffer.specs.Marks.{sooner, later, both, mark_of, passes, tells}

sooner-told : (now a b : ℕ) → not (sooner a b == 0) && nat_le (sooner a b) now ≡ (not (a == 0) && nat_le a now) || (not (b == 0) && nat_le b now)
sooner-told now a b = grind arith

past-cases : (a b : Id) → is_past a b ≡ true → IsPast a b
past-cases a b p = grind (arith, ints)

past-is : (a b : Id) → IsPast a b → is_past a b ≡ true
past-is a b (inl lt) = grind (arith, ints)
past-is a b (inr eq) = let same = eq.0 in let less = eq.1 in grind (arith, ints)

-- an id that isn't past another is that one, or before it
not-past : (a b : Id) → is_past a b ≡ false → (a.time < b.time) ⊎ ((a.time ≡ b.time) × (a.tag ≤ℤ b.tag))
not-past a b p = grind (arith, ints)

trans : (a b x : Id) → IsPast a b → IsPast b x → IsPast a x
trans a b x (inl p) (inl q) = inl (omega (arith, p, q))
trans a b x (inl p) (inr q) = let same = q.0 in inl (omega (arith, p, same))
trans a b x (inr p) (inl q) = let same = p.0 in inl (omega (arith, same, q))
trans a b x (inr p) (inr q) = let s = p.0 in let t = q.0 in let l = p.1 in let m = q.1 in inr (omega (arith, s, t), omega (arith, ints, l, m))

total : (a b x : Id) → (a.time < b.time) ⊎ ((a.time ≡ b.time) × (a.tag ≤ℤ b.tag)) → IsPast a x → IsPast b x
total a b x (inl p) (inl q) = inl (omega (arith, p, q))
total a b x (inl p) (inr q) = let same = q.0 in inl (omega (arith, p, same))
total a b x (inr p) (inl q) = let same = p.0 in inl (omega (arith, same, q))
total a b x (inr p) (inr q) = let s = p.0 in let t = q.0 in let l = p.1 in let m = q.1 in inr (omega (arith, s, t), omega (arith, ints, l, m))

past-trans : (a b x : Id) → is_past a b ≡ true → is_past b x ≡ true → is_past a x ≡ true
past-trans a b x p q = past-is a x (trans a b x (past-cases a b p) (past-cases b x q))

past-total : (a b x : Id) → is_past a b ≡ false → is_past a x ≡ true → is_past b x ≡ true
past-total a b x p q = past-is b x (total a b x (not-past a b p) (past-cases a x q))

either : (p q : Bool) → (q ≡ true → p ≡ true) → p ≡ p || q
either true q h = refl
either false true h = h refl
either false false h = refl

either-2 : (p q : Bool) → (p ≡ true → q ≡ true) → q ≡ p || q
either-2 true true h = refl
either-2 true false h = h refl
either-2 false q h = refl

later-told : (a b x : Id) → is_past (later a b) x ≡ is_past a x || is_past b x
later-told a b x = by (is_past a b) refl
  where
    by : (c : Bool) → is_past a b ≡ c → is_past (cond c a b) x ≡ is_past a x || is_past b x
    by true is = either (is_past a x) (is_past b x) (past-trans a b x is)
    by false is = either-2 (is_past a x) (is_past b x) (past-total a b x is)

any-told : (a b : ℕ) → not (a + b == 0) ≡ not (a == 0) || not (b == 0)
any-told a b = grind arith

-- the mark of two runs tells of what one of them tells of
pub tells-both : (w : Sought) (a b : Mark) → tells w (both a b) ≡ tells w a || tells w b
tells-both Any a b = any-told a.kept b.kept
tells-both (Expired now) a b = sooner-told now a.soonest b.soonest
tells-both Spent a b = refl
tells-both (Past x) a b = later-told a.latest b.latest x

-- the mark of one slot tells of its entry
pub tells-of : (w : Sought) (e : Entry) → tells w (mark_of e) ≡ passes w e
tells-of Any e = refl
tells-of (Expired now) e = refl
tells-of Spent e = refl
tells-of (Past x) e = refl
