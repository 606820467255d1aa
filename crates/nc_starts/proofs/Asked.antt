-- What a start that asked for edges knows of them.
use Rattle.std.proofs.Common.{◌≡◌, ◌≢◌, inl, inr, ℕ, suc, ◌+◌, ◌≤◌, Bool, true, false, cond, List, [], ◌∷◌, ◌++◌, length, refl, sym, ap, ◌∙◌, subst, arith, length-append}
use Rattle.std.specs.Prelude.{◌&&◌, ◌==◌, bytes_eq}
use Rattle.std.proofs.lemmas.Bool.{eq-eqb}
use Rattle.std.proofs.lemmas.List.{append-nil}
use Rattle.std.proofs.lemmas.Cmp.{nat_list_eq_equiv}
use Rattle.nc_types.specs.Channel.{owner_of}
use Rattle.nc_journal.specs.History.{own}
use Rattle.nc_journal.specs.declared.event.Event.{Event}
use Rattle.nc_journal.specs.declared.alert.AlertLine.{AlertLine}
use Rattle.nc_journal.specs.declared.event.Event.TheVariants.{Edged, Took}
use Rattle.nc_journal.specs.declared.word.AlertKind.{AlertKind}
use Rattle.nc_journal.specs.declared.alert.AlertLine.TheVariants as lines
use Rattle.nc_owner_laws.specs.Wake.{made_to}
use Rattle.nc_history.specs.Packets.{pending, lines_of, received, IsNext}
use Rattle.nc_rests.proofs.Received.{received_same, received_more, made_is}
use Rattle.nc_starts.specs.Asked.{edge_numbers, old_first, EdgesDone, EdgesFollow, HasTold, IsFirstEdge, FirstStays, StartsKnow}
use Rattle.nc_journal.specs.Edges.{EdgeTold, edge_told, edges_of}
use Rattle.nc_starts.proofs.Edges.{edges_stay, edge_adds}

-- ---- asks that were taken, and edges that were told

numbers_append : (k : ℕ) (c : List ℕ) (xs ys : List AlertLine) → edge_numbers k c (xs ++ ys) ≡ edge_numbers k c xs ++ edge_numbers k c ys
numbers_append k c [] ys = refl
numbers_append k c (lines.Edge number n d fence ∷ xs) ys = by ((n == k) && bytes_eq d c) (numbers_append k c xs ys)
  where
    by : (b : Bool) → edge_numbers k c (xs ++ ys) ≡ edge_numbers k c xs ++ edge_numbers k c ys → cond b (number ∷ edge_numbers k c (xs ++ ys)) (edge_numbers k c (xs ++ ys)) ≡ cond b (number ∷ edge_numbers k c xs) (edge_numbers k c xs) ++ edge_numbers k c ys
    by true is = ap (λ (l : List ℕ). number ∷ l) is
    by false is = is
numbers_append k c (a ∷ xs) ys = numbers_append k c xs ys

taken_numbers : (w o k n : ℕ) (c : List ℕ) (kind : AlertKind) (a : AlertLine) (h : List Event) → IsNext w o a h → edge_numbers k c (received w o (Took o w n kind ∷ h)) ≡ edge_numbers k c (received w o h) ++ edge_numbers k c (a ∷ [])
taken_numbers w o k n c kind a h next = ap (edge_numbers k c) (received_more w o n kind a h next) ∙ numbers_append k c (received w o h) (a ∷ [])

edge_self : (number k : ℕ) (c : List ℕ) (fence : ℕ) → edge_numbers k c (lines.Edge number k c fence ∷ []) ≡ number ∷ []
edge_self number k c fence =
    let test : ((k == k) && bytes_eq c c) ≡ true = rw (eq-eqb k k refl, nat_list_eq_equiv.refl c) refl in
    ap (λ b. cond b (number ∷ []) []) test

pub edges_follow : EdgesFollow
edges_follow workers w k c h = record {
  done = λ d e other apart. ap old_first (edges_stay w k c e h apart) ∙ d ∙ ap (edge_numbers k c) (sym (received_same w (owner_of workers c) e h other));
  owes = λ number d e other apart. ap (λ l. old_first l ++ number ∷ []) (edges_stay w k c e h apart) ∙ d ∙ ap (edge_numbers k c) (sym (received_same w (owner_of workers c) e h other));
  other = λ d a n kind next none. d ∙ sym (append-nil (edge_numbers k c (received w (owner_of workers c) h))) ∙ ap (λ l. edge_numbers k c (received w (owner_of workers c) h) ++ l) (sym none) ∙ sym (taken_numbers w (owner_of workers c) k n c kind a h next);
  asked = λ d number fence n kind next. ap (λ l. l ++ number ∷ []) d ∙ ap (λ l. edge_numbers k c (received w (owner_of workers c) h) ++ l) (sym (edge_self number k c fence)) ∙ sym (taken_numbers w (owner_of workers c) k n c kind (lines.Edge number k c fence) h next);
  told = λ number d o q floor last. ap old_first (edge_adds o q w number k c floor last h) ∙ d;
}

-- ---- the first edge

first_case : (b : Bool) (t x : EdgeTold) (told : List EdgeTold) → IsFirstEdge t told → IsFirstEdge t (cond b (x ∷ told) told)
first_case true t x told f = record { later = x ∷ f.later; split = ap (λ (l : List EdgeTold). x ∷ l) f.split }
first_case false t x told f = f

pub first_stays : FirstStays
first_stays w k c t (Edged v q from number n d floor last) h f = first_case ((from == w) && ((n == k) && bytes_eq d c)) t (edge_told number floor last) (edges_of w k c h) f
first_stays w k c t e h f = f

-- ---- what a start knows

old_length : (told : List EdgeTold) → length (old_first told) ≡ length told
old_length [] = refl
old_length (t ∷ told) = length-append (old_first told) (t.number ∷ []) ∙ count (length (old_first told)) (length told) (old_length told)
  where
    count : (a b : ℕ) → a ≡ b → a + 1 ≡ suc b
    count a b e = omega (arith, e)

-- no more edges were told than were asked for
few_edges : (workers w k : ℕ) (c : List ℕ) (h : List Event) → EdgesDone workers w k c h → length (edges_of w k c h) ≤ length (edge_numbers k c (made_to (owner_of workers c) (own w h)))
few_edges workers w k c h d =
    let o = owner_of workers c in
    let all : edge_numbers k c (made_to o (own w h)) ≡ edge_numbers k c (received w o h) ++ edge_numbers k c (lines_of (pending w o h)) = ap (edge_numbers k c) (made_is w o h) ∙ numbers_append k c (received w o h) (lines_of (pending w o h)) in
    omega (arith, old_length (edges_of w k c h), ap length d, ap length all, length-append (edge_numbers k c (received w o h)) (edge_numbers k c (lines_of (pending w o h))))

one_told : (t : EdgeTold) (told : List EdgeTold) → length told ≤ 1 → HasTold t told → told ≡ t ∷ []
one_told t [] few has = absurd has
one_told t (x ∷ []) few (inl is) = ap (λ (y : EdgeTold). y ∷ []) is
one_told t (x ∷ []) few (inr has) = absurd has
one_told t (x ∷ y ∷ told) few has = absurd (omega (arith, few))

two_case : (t u : EdgeTold) (later : List EdgeTold) → length (later ++ t ∷ []) ≤ 2 → HasTold u (later ++ t ∷ []) → t.number ≢ u.number → later ≡ u ∷ []
two_case t u [] few (inl is) other = absurd (other (ap (λ (x : EdgeTold). x.number) is))
two_case t u [] few (inr has) other = absurd has
two_case t u (x ∷ []) few (inl is) other = ap (λ (y : EdgeTold). y ∷ []) is
two_case t u (x ∷ []) few (inr (inl is)) other = absurd (other (ap (λ (y : EdgeTold). y.number) is))
two_case t u (x ∷ []) few (inr (inr has)) other = absurd has
two_case t u (x ∷ y ∷ later) few has other = absurd (omega (arith, few, length-append later (t ∷ [])))

pub starts_know : StartsKnow
starts_know workers w k c h d = record {
  once = λ number t asks has. one_told t (edges_of w k c h) (omega (arith, few_edges workers w k c h d, ap length asks)) has;
  twice = λ first second t u asks f has other.
      let few : length (edges_of w k c h) ≤ 2 = omega (arith, few_edges workers w k c h d, ap length asks) in
      let later : f.later ≡ u ∷ [] = two_case t u f.later (subst (λ (l : List EdgeTold). length l ≤ 2) f.split few) (subst (HasTold u) f.split has) other in
      f.split ∙ ap (λ (l : List EdgeTold). l ++ t ∷ []) later;
}
