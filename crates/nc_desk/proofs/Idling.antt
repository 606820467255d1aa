-- The holds that nobody uses go back, one behind the other.
use Rattle.std.proofs.Common.{◌≡◌, ◌≢◌, ℕ, Bool, true, false, cond, not, List, [], ◌∷◌, Some, None, refl, sym, ◌∙◌, ap, map, find, inl, inr, subst, length, ◌<◌, arith}
use Rattle.std.specs.Prelude.{filter}
use Rattle.std.specs.List.{AllByRecursion}
use Rattle.std.proofs.Math.Path.{fun_ext}
use Rattle.std.proofs.lemmas.Bool.Decides.{eqb_tells}
use Rattle.nc_slots.specs.Slots.{HoldAt}
use Rattle.nc_owner_laws.specs.HoldsKept.{one_less}
use Rattle.nc_spool_state.specs.declared.kept.Held.{Held}
use Rattle.nc_spool_state.specs.Shelf.{without_first}
use Rattle.nc_spool_state.specs.Kept.{is_idle}
use Rattle.nc_spool.specs.Calls.{SpoolsAt, without_idle}
use Rattle.nc_worker_state.specs.Worker.{with_at}
use Rattle.nc_desk.specs.Desk.{IsHeld, AreHeld}
use Rattle.nc_desk.specs.Release.{released, idle_events, busy_spools}

module _ {X : Type 0} (test : X → Bool) where
  first_passes : (x : X) (xs : List X) → find test xs ≡ Some x → filter test xs ≡ x ∷ filter test (without_first test xs)
  first_passes x [] h = absurd cc
  first_passes x (y ∷ xs) h = by (test y) refl h (first_passes x xs)
    where
      by : (b : Bool) → test y ≡ b → cond b (Some y) (find test xs) ≡ Some x → (find test xs ≡ Some x → filter test xs ≡ x ∷ filter test (without_first test xs))
          → cond b (y ∷ filter test xs) (filter test xs) ≡ x ∷ filter test (cond b xs (y ∷ without_first test xs))
      by true is h rest = let same : y ≡ x = cc in ap (λ (z : X). z ∷ filter test xs) same
      by false is h rest = rest h ∙ ap (λ (b : Bool). x ∷ cond b (y ∷ filter test (without_first test xs)) (filter test (without_first test xs))) (sym is)

  others_stay : (xs : List X) → filter (λ x. not (test x)) (without_first test xs) ≡ filter (λ x. not (test x)) xs
  others_stay [] = refl
  others_stay (y ∷ xs) = by (test y) refl (others_stay xs)
    where
      by : (b : Bool) → test y ≡ b → filter (λ x. not (test x)) (without_first test xs) ≡ filter (λ x. not (test x)) xs
          → filter (λ x. not (test x)) (cond b xs (y ∷ without_first test xs)) ≡ cond (not b) (y ∷ filter (λ x. not (test x)) xs) (filter (λ x. not (test x)) xs)
      by true is rest = refl
      by false is rest = ap (λ (b : Bool). cond (not b) (y ∷ filter (λ x. not (test x)) (without_first test xs)) (filter (λ x. not (test x)) (without_first test xs))) is ∙ ap (λ (l : List X). y ∷ l) rest

  none_passes : (xs : List X) → find test xs ≡ None → filter test xs ≡ []
  none_passes [] h = refl
  none_passes (y ∷ xs) h = by (test y) h (none_passes xs)
    where
      by : (b : Bool) → cond b (Some y) (find test xs) ≡ None → (find test xs ≡ None → filter test xs ≡ []) → cond b (y ∷ filter test xs) (filter test xs) ≡ []
      by true h rest = absurd cc
      by false h rest = rest h

  all_stay : (xs : List X) → find test xs ≡ None → without_first test xs ≡ filter (λ x. not (test x)) xs
  all_stay [] h = refl
  all_stay (y ∷ xs) h = by (test y) h (all_stay xs)
    where
      by : (b : Bool) → cond b (Some y) (find test xs) ≡ None → (find test xs ≡ None → without_first test xs ≡ filter (λ x. not (test x)) xs)
          → cond b xs (y ∷ without_first test xs) ≡ cond (not b) (y ∷ filter (λ x. not (test x)) xs) (filter (λ x. not (test x)) xs)
      by true h rest = absurd cc
      by false h rest = ap (λ (l : List X). y ∷ l) (rest h)

  first_is : (P : X → Type 0) (x : X) (xs : List X) → find test xs ≡ Some x → AllByRecursion P xs → P x
  first_is P x [] h all = absurd cc
  first_is P x (y ∷ xs) h all = by (test y) h (first_is P x xs)
    where
      by : (b : Bool) → cond b (Some y) (find test xs) ≡ Some x → (find test xs ≡ Some x → AllByRecursion P xs → P x) → P x
      by true h rest = let same : y ≡ x = cc in subst P same all.0
      by false h rest = rest h all.1

  others_are : (P : X → Type 0) (xs : List X) → AllByRecursion P xs → AllByRecursion P (without_first test xs)
  others_are P [] all = tt
  others_are P (y ∷ xs) all = by (test y) (others_are P xs all.1)
    where
      by : (b : Bool) → AllByRecursion P (without_first test xs) → AllByRecursion P (cond b xs (y ∷ without_first test xs))
      by true rest = all.1
      by false rest = (all.0, rest)

  fewer : (x : X) (xs : List X) → find test xs ≡ Some x → length (without_first test xs) < length xs
  fewer x [] h = absurd cc
  fewer x (y ∷ xs) h = by (test y) h (fewer x xs)
    where
      by : (b : Bool) → cond b (Some y) (find test xs) ≡ Some x → (find test xs ≡ Some x → length (without_first test xs) < length xs) → length (cond b xs (y ∷ without_first test xs)) < length (y ∷ xs)
      by true h rest = omega arith
      by false h rest = let less : length (without_first test xs) < length xs = rest h in omega arith

module _ {H : Type 0} where
  -- one hold goes back, and the others later
  pub idle_one : (me : ℕ) (s rest : SpoolsAt H) (h : Held H) → Some h ≡ find (is_idle s.shelf) s.kept → rest ≡ without_idle s → idle_events me s ≡ released me h ∷ idle_events me rest
  idle_one me s rest h is left =
      ap (map (released me)) (first_passes (is_idle s.shelf) h s.kept (sym is)) ∙ ap (λ (t : SpoolsAt H). released me h ∷ idle_events me t) (sym left)

  pub idle_none : (me : ℕ) (s : SpoolsAt H) → None ≡ find (is_idle s.shelf) s.kept → idle_events me s ≡ []
  idle_none me s is = ap (map (released me)) (none_passes (is_idle s.shelf) s.kept (sym is))

  pub fewer_held : (s rest : SpoolsAt H) (h : Held H) → Some h ≡ find (is_idle s.shelf) s.kept → rest ≡ without_idle s → length rest.kept < length s.kept
  fewer_held s rest h is left = subst (λ (t : SpoolsAt H). length t.kept < length s.kept) (sym left) (fewer (is_idle s.shelf) h s.kept (sym is))

  pub busy_one : (s rest : SpoolsAt H) → rest ≡ without_idle s → busy_spools rest ≡ busy_spools s
  busy_one s rest left = ap busy_spools left ∙ (λ i. record s { kept = others_stay (is_idle s.shelf) s.kept i })

  pub busy_none : (s rest : SpoolsAt H) → None ≡ find (is_idle s.shelf) s.kept → rest ≡ without_idle s → rest ≡ busy_spools s
  busy_none s rest is left = left ∙ (λ i. record s { kept = all_stay (is_idle s.shelf) s.kept (sym is) i })

  pub held_one : (held : H → HoldAt) (s : SpoolsAt H) (h : Held H) → Some h ≡ find (is_idle s.shelf) s.kept → AreHeld held s.kept → IsHeld held h
  held_one held s h is all = first_is (is_idle s.shelf) (IsHeld held) h s.kept (sym is) all

  pub held_rest : (held : H → HoldAt) (s rest : SpoolsAt H) → rest ≡ without_idle s → AreHeld held s.kept → AreHeld held rest.kept
  held_rest held s rest left all = subst (λ (t : SpoolsAt H). AreHeld held t.kept) (sym left) (others_are (is_idle s.shelf) (IsHeld held) s.kept all)

-- a hold of a slot is given back
pub back_one : (old new : ℕ → List ℕ) (at o slot place : ℕ) → at ≡ o → place ≡ slot → new at ≡ one_less place (old at) → ((v : ℕ) → v ≢ at → new v ≡ old v) → new ≡ with_at old o (one_less slot (old o))
back_one old new at o slot place same is less others =
    fun_ext (λ v. elim (eqb_tells v at) [ inl e ↦ ap new e.1 ∙ less ∙ rw e.0 refl | inr apart ↦ rw apart.0 (others v apart.1) ]) ∙ (λ i. with_at old (same i) (one_less (is i) (old (same i))))
