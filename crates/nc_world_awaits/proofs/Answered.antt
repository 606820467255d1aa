-- Nothing awaits a look once its answer came.
use Rattle.std.proofs.Common.{◌≡◌, ℕ, zero, suc, ◌+◌, ◌<◌, ◌≤◌, Bool, true, false, cond, ◌||◌, List, [], ◌∷◌, Option, refl, sym, ap, ◌∙◌, subst, Some, None, find, set, not, length, nat_lt, arith, ◌==◌}
use Rattle.std.proofs.lemmas.Bool.Decides.{nat_tests}
use Rattle.std.specs.List.{list_any, position_or_len}
use Rattle.nc_types.specs.Id.{Id, is_past}
use Rattle.nc_spool_state.specs.declared.place.Quiet.{Quiet}
use Rattle.nc_spool_state.specs.declared.place.Place.{Place}
use Rattle.nc_spool_state.specs.declared.place.Place.TheVariants.{Nothing}
use Rattle.nc_spool_state.specs.declared.hear.News.{News}
use Rattle.nc_spool.specs.declared.board.Board.{Board}
use Rattle.nc_spool_state.specs.Key.{id_at}
use Rattle.nc_spool_state.specs.Place.{awaits_number, place_awaiting}
use Rattle.nc_spool_state.specs.Spool.{SpoolAt, awaits, with_place}
use Rattle.nc_spool_state.specs.Shelf.{without_first}
use Rattle.nc_spool_state.specs.Hear.{learned, found_by}
use Rattle.nc_spool.specs.Hear.{answered, answered_by, answered_at}
use Rattle.nc_spool_laws.specs.Attended.{AnyLast, AnyKey, AnyNews, AnyAnswer, AnyFind}
use Rattle.nc_spool_laws.specs.Numbers.{one, total, look_at, looks_of}
use Rattle.nc_spool_laws.proofs.Totals.{total-without}
use Rattle.nc_spool_laws.proofs.Lists.{found-passes}
use Rattle.nc_spool_laws.proofs.Walk.{missed-kept, decided-kept}
use Rattle.nc_world_awaits.proofs.Few.{IsFew, FewBeside, FewApart, sends}

module _ (n : ℕ) where
  none_here : (places : List Place) → list_any (awaits_number n) places ≡ false → total (look_at n) places ≡ 0
  none_here [] e = refl
  none_here (p ∷ places) e = by (awaits_number n p) e (none_here places)
    where
      by : (t : Bool) → (t || list_any (awaits_number n) places) ≡ false → (list_any (awaits_number n) places ≡ false → total (look_at n) places ≡ 0) → one t + total (look_at n) places ≡ 0
      by true e rest = absurd cc
      by false e rest = let r = rest e in omega (arith, r)

  some_here : (places : List Place) → list_any (awaits_number n) places ≡ true → 1 ≤ total (look_at n) places
  some_here [] e = absurd cc
  some_here (p ∷ places) e = by (awaits_number n p) e (some_here places)
    where
      by : (t : Bool) → (t || list_any (awaits_number n) places) ≡ true → (list_any (awaits_number n) places ≡ true → 1 ≤ total (look_at n) places) → 1 ≤ one t + total (look_at n) places
      by true e rest = omega arith
      by false e rest = let r = rest e in omega (arith, r)

  none_awaits : (shelf : List SpoolAt) → find (awaits n) shelf ≡ None → total (looks_of n) shelf ≡ 0
  none_awaits [] e = refl
  none_awaits (s ∷ shelf) e = by (awaits n s) refl e (none_awaits shelf)
    where
      by : (t : Bool) → awaits n s ≡ t → cond t (Some s) (find (awaits n) shelf) ≡ None → (find (awaits n) shelf ≡ None → total (looks_of n) shelf ≡ 0) → looks_of n s + total (looks_of n) shelf ≡ 0
      by true a e rest = absurd cc
      by false a e rest = let r = rest e in omega (arith, r, none_here s.places a)

  abbrev first_of : List Place → ℕ
  first_of places = position_or_len (awaits_number n) places

  -- the place that awaits it, once it awaits something else
  placed : (p : Place) (places : List Place) → look_at n p ≡ 0 → first_of places < length places → total (look_at n) (set places (first_of places) p) + 1 ≡ total (look_at n) places
  placed p [] none l = absurd (omega (arith, l))
  placed p (x ∷ places) none l = by (awaits_number n x) refl l (placed p places none)
    where
      by : (t : Bool) → awaits_number n x ≡ t → cond (not t) (1 + first_of places) 0 < suc (length places) → (first_of places < length places → total (look_at n) (set places (first_of places) p) + 1 ≡ total (look_at n) places)
          → total (look_at n) (set (x ∷ places) (cond (not t) (1 + first_of places) 0) p) + 1 ≡ look_at n x + total (look_at n) places
      by true a l go = let here : look_at n x ≡ 1 = ap one a in omega (arith, none, here)
      by false a l go =
          let rest = go (omega (arith, l)) in
          let here : look_at n x ≡ 0 = ap one a in
          let next : suc (first_of places) ≡ 1 + first_of places = omega arith in
          subst (λ (i : ℕ). total (look_at n) (set (x ∷ places) i p) + 1 ≡ look_at n x + total (look_at n) places) next (omega (arith, rest, here))

  unplaced : (places : List Place) → (first_of places < length places → ⊥) → list_any (awaits_number n) places ≡ false
  unplaced [] out = refl
  unplaced (x ∷ places) out = by (awaits_number n x) out (unplaced places)
    where
      by : (t : Bool) → (cond (not t) (1 + first_of places) 0 < suc (length places) → ⊥) → ((first_of places < length places → ⊥) → list_any (awaits_number n) places ≡ false) → (t || list_any (awaits_number n) places) ≡ false
      by true out go = absurd (out (omega arith))
      by false out go = go (λ l. out (omega (arith, l)))

  -- where the place was found
  found_at : (first len j : ℕ) (b : Bool) → nat_lt first len ≡ b → cond b (Some first) None ≡ Some j → (first ≡ j) × (first < len)
  found_at first len j true a e = let same : first ≡ j = cc in let less : first < len = grind (arith, nat_tests) in (same, less)
  found_at first len j false a e = absurd cc

  missed_at : (first len : ℕ) (b : Bool) → nat_lt first len ≡ b → cond b (Some first) None ≡ None → first < len → ⊥
  missed_at first len true a e l = cc
  missed_at first len false a e l = grind (arith, nat_tests)

  learned_none : (after : Id) (quiet : Quiet) (news : Option News) → look_at n (learned after quiet news) ≡ 0
  learned_none after quiet None = refl
  learned_none after quiet (Some news) = by (is_past news.id after)
    where
      by : (t : Bool) → look_at n (cond t (found_by quiet.q news) (Nothing quiet)) ≡ 0
      by true = refl
      by false = refl

  pub answered_few : (quiet : Quiet) (news : Option News) (b : Board) → n < b.next → total (looks_of n) b.shelf ≤ 1 → total (looks_of n) (answered n quiet news b).shelf ≤ 0
  answered_few quiet news b drawn once = (by (find (awaits n) b.shelf) refl).1
    where
      others : Board
      others = record b { shelf = without_first (awaits n) b.shelf }

      at : (s : SpoolAt) → find (awaits n) b.shelf ≡ Some s → (o : Option ℕ) → place_awaiting n s.places ≡ o → IsFew n 0 (answered_at o quiet news s others)
      at s was None e = absurd (clash (some_here s.places (found-passes (awaits n) b.shelf s was)) (none_here s.places (unplaced s.places (missed_at (first_of s.places) (length s.places) (nat_lt (first_of s.places) (length s.places)) refl e))))
        where
          clash : 1 ≤ total (look_at n) s.places → total (look_at n) s.places ≡ 0 → ⊥
          clash some none = absurd (omega (arith, some, none))
      at s was (Some j) e =
          let p = learned (id_at s.key j) quiet news in
          let found = found_at (first_of s.places) (length s.places) j (nat_lt (first_of s.places) (length s.places)) refl e in
          let less = placed p s.places (learned_none (id_at s.key j) quiet news) found.1 in
          let few : total (look_at n) (set s.places j p) + total (looks_of n) others.shelf ≤ 0
          = subst (λ (i : ℕ). total (look_at n) (set s.places i p) + total (looks_of n) others.shelf ≤ 0) found.0 (omega (arith, less, once, total-without (looks_of n) (awaits n) b.shelf s was)) in
          decided-kept AnyNews AnyAnswer AnyLast AnyKey AnyFind (IsFew n 0) (FewBeside n 0) (FewApart n 0) (sends n 0) (with_place j p s) others (drawn, few)

      by : (o : Option SpoolAt) → find (awaits n) b.shelf ≡ o → IsFew n 0 (answered_by o n quiet news others)
      by None was = missed-kept AnyNews AnyAnswer AnyLast AnyKey AnyFind (IsFew n 0) (FewBeside n 0) (FewApart n 0) (sends n 0) (awaits n) b was (drawn, omega (arith, none_awaits b.shelf was))
      by (Some s) was = at s was (place_awaiting n s.places) refl
