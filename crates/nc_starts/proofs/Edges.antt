-- Edges in the whole history.
use Rattle.std.proofs.Common.{◌≡◌, ℕ, Bool, true, false, cond, List, [], ◌∷◌, ◌++◌, refl, sym, ap, ◌∙◌, subst}
use Rattle.std.specs.Prelude.{◌&&◌, ◌==◌, bytes_eq}
use Rattle.std.proofs.lemmas.Bool.{cond_both}
use Rattle.nc_types.specs.Id.{Id}
use Rattle.nc_types.specs.Channel.{owner_of}
use Rattle.nc_journal.specs.History.{Along, own, is_by}
use Rattle.nc_journal.specs.Stamp.{floor_of, last_of}
use Rattle.nc_journal.specs.declared.event.Event.{Event}
use Rattle.nc_journal.specs.declared.event.Event.TheVariants.{Edged}
use Rattle.nc_owner_laws.specs.InOrder.{LooksAt}
use Rattle.nc_rests.proofs.Locals.{other_channel}
use Rattle.nc_rests.proofs.Looked.{name_self}
use Rattle.nc_rests.proofs.Received.{eqb_self}
use Rattle.nc_journal.specs.Edges.{IsEdge, EdgeTold, edge_told, edges_of}
use Rattle.nc_starts.specs.Edges.{EdgesStay, EdgeAdds, EdgesOwn}

-- ---- what an edge told

-- what is so of an edge with what stands before it
pub record EdgeTells (workers : ℕ) (c : List ℕ) (floor : ℕ) (last : Id) (seen : List Event) : Type 0 where
  pub floor_then : floor ≡ floor_of (own (owner_of workers c) seen)
  pub last_then : last ≡ last_of c (own (owner_of workers c) seen)

pub along_own : (o : ℕ) (P : List Event → Event → Type 0) (newer older : List Event) → Along P (own o (newer ++ older)) → Along P (own o older)
along_own o P [] older a = a
along_own o P (e ∷ newer) older a = along_own o P newer older (cond_both (is_by o e) (e ∷ own o (newer ++ older)) (own o (newer ++ older)) (λ l. Along P l → Along P (own o (newer ++ older))) (λ _ x. x.0) (λ _ x. x) a)

pub edge_tells : (workers w k : ℕ) (c : List ℕ) (floor : ℕ) (last : Id) (since : List Event) (edge : Event) (seen : List Event) → Along LooksAt (own (owner_of workers c) (since ++ edge ∷ seen)) → IsEdge (owner_of workers c) w k c floor last edge → EdgeTells workers c floor last seen
edge_tells workers w k c floor last since (Edged v q from number n d f l) seen a is =
    let o = owner_of workers c in
    let e = Edged v q from number n d f l in
    let here : Along LooksAt (own o (e ∷ seen)) = along_own o LooksAt since (e ∷ seen) a in
    let same : own o (e ∷ seen) ≡ e ∷ own o seen = ap (λ b. cond b (e ∷ own o seen) (own o seen)) (ap (λ x. o == x) is.0 ∙ eqb_self o) in
    let there : Along LooksAt (e ∷ own o seen) = subst (Along LooksAt) same here in
    record { floor_then = sym is.4 ∙ there.1.floor_then; last_then = sym is.5 ∙ there.1.last_then ∙ ap (λ (x : List ℕ). last_of x (own o seen)) is.3 }
edge_tells workers w k c floor last since edge seen a is = absurd is

-- ---- which edges there are

pub edges_stay : EdgesStay
edges_stay w k c (Edged v q from number n d floor last) h other = ap (λ b. cond b (edge_told number floor last ∷ edges_of w k c h) (edges_of w k c h)) other
edges_stay w k c e h other = refl

pub edge_adds : EdgeAdds
edge_adds o q w number k c floor last h =
    let test : ((w == w) && ((k == k) && bytes_eq c c)) ≡ true = rw (eqb_self w, eqb_self k, name_self c) refl in
    ap (λ b. cond b (edge_told number floor last ∷ edges_of w k c h) (edges_of w k c h)) test

edge_elsewhere : (workers v w k : ℕ) (c : List ℕ) (from n : ℕ) (d : List ℕ) → v ≡ owner_of workers d → (owner_of workers c == v) ≡ false → ((from == w) && ((n == k) && bytes_eq d c)) ≡ false
edge_elsewhere workers v w k c from n d by other = none (from == w) (n == k) (bytes_eq d c) (other_channel workers v c d by other)
  where
    none : (x y z : Bool) → z ≡ false → (x && (y && z)) ≡ false
    none true true z is = is
    none true false z is = refl
    none false y z is = refl

pub edges_own : EdgesOwn
edges_own workers w k c [] by = refl
edges_own workers w k c (Edged v q from number n d floor last ∷ h) by = go (owner_of workers c == v) refl (edges_own workers w k c h by.1)
  where
    go : (b : Bool) → (owner_of workers c == v) ≡ b → edges_of w k c (own (owner_of workers c) h) ≡ edges_of w k c h
        → edges_of w k c (cond b (Edged v q from number n d floor last ∷ own (owner_of workers c) h) (own (owner_of workers c) h)) ≡ cond ((from == w) && ((n == k) && bytes_eq d c)) (edge_told number floor last ∷ edges_of w k c h) (edges_of w k c h)
    go true is rest = ap (λ (l : List EdgeTold). cond ((from == w) && ((n == k) && bytes_eq d c)) (edge_told number floor last ∷ l) l) rest
    go false is rest = rest ∙ sym (ap (λ b. cond b (edge_told number floor last ∷ edges_of w k c h) (edges_of w k c h)) (edge_elsewhere workers v w k c from n d by.0 is))
edges_own workers w k c (e ∷ h) by =
    cond_both (is_by (owner_of workers c) e) (e ∷ own (owner_of workers c) h) (own (owner_of workers c) h) (λ l. edges_of w k c l ≡ edges_of w k c h) (λ _. edges_own workers w k c h by.1) (λ _. edges_own workers w k c h by.1)
