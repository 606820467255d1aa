-- Each look stands once in its owner's history, and waits or was woken.
use Rattle.std.proofs.Common.{◌≡◌, ℕ, ◌+◌, ◌≤◌, Bool, true, false, cond, List, [], ◌∷◌, ◌++◌, None, Some, refl, sym, ap, ◌∙◌, arith, true≢false}
use Rattle.std.specs.Prelude.{◌&&◌, ◌==◌, bytes_eq}
use Rattle.std.proofs.lemmas.Bool.{eq-eqb}
use Rattle.std.proofs.lemmas.Cmp.{nat_list_eq_equiv}
use Rattle.nc_types.specs.Id.{Id}
use Rattle.nc_journal.specs.declared.event.Event.{Event}
use Rattle.nc_journal.specs.declared.event.Event.TheVariants.{Stored, Looked, Edged, Removed}
use Rattle.nc_owner_laws.specs.Drawn.{look_numbers}
use Rattle.nc_owner_laws.specs.OwnerStanding.{look_past}
use Rattle.nc_owner_laws.specs.Used.{bit, times}
use Rattle.nc_owner_laws.specs.Wake.{Wake, NotYet, Waiting, ByNotice, ByGone, woken, wake}
use Rattle.nc_rests.proofs.Received.{eqb_self}

-- ---- numbers

abbrev LooksAs : ℕ → Event → Type 0
LooksAs q (Looked v p u number d after floor found) = p ≡ q
LooksAs q e = ⊥

times_here : (q : ℕ) (x : Event) (t : List Event) → LooksAs q x → times q (look_numbers (x ∷ t)) ≡ 1 + times q (look_numbers t)
times_here q (Looked v p u number d after floor found) t is = ap (λ b. bit b + times q (look_numbers t)) (eq-eqb p q is)
times_here q x t is = absurd is

times_more : (q : ℕ) (e : Event) (t : List Event) → times q (look_numbers t) ≤ times q (look_numbers (e ∷ t))
times_more q (Looked v p u number d after floor found) t = omega arith
times_more q (Edged v p u number k d floor last) t = omega arith
times_more q e t = omega arith

times_at : (q : ℕ) (s : List Event) (x : Event) (t : List Event) → LooksAs q x → 1 ≤ times q (look_numbers (s ++ x ∷ t))
times_at q [] x t is = omega (arith, times_here q x t is)
times_at q (e ∷ s) x t is = omega (arith, times_at q s x t is, times_more q e (s ++ x ∷ t))

pub look_once : (q : ℕ) (s r : List Event) (x y : Event) (t u : List Event) → LooksAs q x → LooksAs q y → s ++ x ∷ t ≡ r ++ y ∷ u → times q (look_numbers (s ++ x ∷ t)) ≤ 1 → s ≡ r
look_once q [] [] x y t u a b same one = refl
look_once q [] (f ∷ r) x y t u a b same one =
    let rest : t ≡ r ++ y ∷ u = cc in
    absurd (omega (arith, one, times_here q x t a, times_at q r y u b, ap (λ l. times q (look_numbers l)) rest))
look_once q (e ∷ s) [] x y t u a b same one =
    let rest : s ++ x ∷ t ≡ u = cc in
    absurd (omega (arith, one, ap (λ l. times q (look_numbers l)) same, times_here q y u b, times_at q s x t a, ap (λ l. times q (look_numbers l)) rest))
look_once q (e ∷ s) (f ∷ r) x y t u a b same one =
    let head : e ≡ f = cc in
    let rest : s ++ x ∷ t ≡ r ++ y ∷ u = cc in
    let few : times q (look_numbers (s ++ x ∷ t)) ≤ 1 = omega (arith, one, times_more q e (s ++ x ∷ t)) in
    let tail = look_once q s r x y t u a b rest few in
    λ i. head i ∷ tail i

-- ---- a look that found nothing

pub name_self : (c : List ℕ) → bytes_eq c c ≡ true
name_self c = nat_list_eq_equiv.refl c

never : (b : Bool) (t : Wake) → (t ≡ NotYet → ⊥) → cond b Waiting t ≡ NotYet → ⊥
never true t f e = absurd cc
never false t f e = f e

never_woken : (b : Bool) (by t : Wake) → (by ≡ NotYet → ⊥) → (t ≡ NotYet → ⊥) → cond b (woken by t) t ≡ NotYet → ⊥
never_woken true by NotYet g f e = f refl
never_woken true by Waiting g f e = g e
never_woken true by (ByNotice id) g f e = absurd cc
never_woken true by ByGone g f e = absurd cc
never_woken false by t g f e = f e

notice_apart : (id : Id) → ByNotice id ≡ NotYet → ⊥
notice_apart id e = cc

gone_apart : ByGone ≡ NotYet → ⊥
gone_apart e = cc

-- a look that found nothing waits or was woken
pub look_known : (w : ℕ) (c : List ℕ) (q : ℕ) (since : List Event) (v number : ℕ) (after : Id) (floor : ℕ) (seen : List Event) → wake w c q (since ++ Looked v q w number c after floor None ∷ seen) ≡ NotYet → ⊥
look_known w c q [] v number after floor seen e =
    let test : ((q == q) && ((w == w) && bytes_eq c c)) ≡ true = rw (eqb_self q, eqb_self w, name_self c) refl in
    let there : cond ((q == q) && ((w == w) && bytes_eq c c)) Waiting (wake w c q seen) ≡ Waiting = ap (λ b. cond b Waiting (wake w c q seen)) test in
    let apart : Waiting ≡ NotYet = sym there ∙ e in
    absurd cc
look_known w c q (Stored u d id slot len exp kept members from r ct body ∷ since) v number after floor seen e =
    never_woken (bytes_eq d c) (ByNotice id) (wake w c q (since ++ Looked v q w number c after floor None ∷ seen)) (notice_apart id) (look_known w c q since v number after floor seen) e
look_known w c q (Removed u d last cause ∷ since) v number after floor seen e =
    never_woken (bytes_eq d c) ByGone (wake w c q (since ++ Looked v q w number c after floor None ∷ seen)) gone_apart (look_known w c q since v number after floor seen) e
look_known w c q (Looked u p x n d a f None ∷ since) v number after floor seen e =
    never ((p == q) && ((x == w) && bytes_eq d c)) (wake w c q (since ++ Looked v q w number c after floor None ∷ seen)) (look_known w c q since v number after floor seen) e
look_known w c q (x ∷ since) v number after floor seen e = look_known w c q since v number after floor seen e

past_here : (w : ℕ) (c : List ℕ) (q : ℕ) (v number : ℕ) (after : Id) (floor : ℕ) (seen : List Event) → look_past w c q (Looked v q w number c after floor None ∷ seen) ≡ Some after
past_here w c q v number after floor seen =
    let test : ((q == q) && ((w == w) && bytes_eq c c)) ≡ true = rw (eqb_self q, eqb_self w, name_self c) refl in
    ap (λ b. cond b (Some after) (look_past w c q seen)) test

other_number : (a b : Bool) → a ≡ false → (a && b) ≡ false
other_number true b is = absurd (true≢false is)
other_number false b is = refl

-- the look is the last one of its number
pub past_once : (w : ℕ) (c : List ℕ) (q : ℕ) (since : List Event) (v number : ℕ) (after : Id) (floor : ℕ) (seen : List Event) → times q (look_numbers (since ++ Looked v q w number c after floor None ∷ seen)) ≤ 1 → look_past w c q (since ++ Looked v q w number c after floor None ∷ seen) ≡ Some after
past_once w c q [] v number after floor seen one = past_here w c q v number after floor seen
past_once w c q (Looked u p x n d a f None ∷ since) v number after floor seen one = by (p == q) refl (past_once w c q since v number after floor seen)
  where
    by : (b : Bool) → (p == q) ≡ b → (times q (look_numbers (since ++ Looked v q w number c after floor None ∷ seen)) ≤ 1 → look_past w c q (since ++ Looked v q w number c after floor None ∷ seen) ≡ Some after)
        → cond ((p == q) && ((x == w) && bytes_eq d c)) (Some a) (look_past w c q (since ++ Looked v q w number c after floor None ∷ seen)) ≡ Some after
    by true is rest = let here : bit (p == q) ≡ 1 = ap bit is in absurd (omega (arith, one, here, times_at q since (Looked v q w number c after floor None) seen refl))
    by false is rest = ap (λ b. cond b (Some a) (look_past w c q (since ++ Looked v q w number c after floor None ∷ seen))) (other_number (p == q) ((x == w) && bytes_eq d c) is) ∙ rest (omega (arith, one))
past_once w c q (x ∷ since) v number after floor seen one = past_once w c q since v number after floor seen (omega (arith, one, times_more q x (since ++ Looked v q w number c after floor None ∷ seen)))
