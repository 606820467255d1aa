-- A channel is removed: its members are ended, and part from their other channels.
use Rattle.std.proofs.Common.{◌≡◌, ℕ, ◌+◌, ◌≤◌, Bool, true, false, cond, not, ◌||◌, List, [], ◌∷◌, refl, sym, ap, ◌∙◌, Option, Some, None, find, filter, length, arith, ◌==◌}
use Rattle.std.specs.Prelude.{fold, bytes_eq}
use Rattle.std.specs.Cmp.Lexicographic.{same_text}
use Rattle.std.proofs.lemmas.Bool.Decides.{nat_tests}
use Rattle.nc_spool_state.specs.declared.spool.Reader.{Reader}
use Rattle.nc_spool_state.specs.Spool.{SpoolAt, is_reader, is_among, has_reader, without_reader, place_at, is_of}
use Rattle.nc_spool_state.specs.Shelf.{spool_of, without_first, place_before, with_spool, with_read_spool, keys_with}
use Rattle.nc_spool_state.specs.Starting.{StartingAt, starts_with}
use Rattle.nc_spool.specs.declared.ask.Ask.{Ask}
use Rattle.nc_spool.specs.declared.fact.Fact.TheVariants.{Ended}
use Rattle.nc_spool.specs.declared.board.Board.{Board}
use Rattle.nc_spool.specs.Board.{told, ended}
use Rattle.nc_spool.specs.Depart.{other_names, names_with, left, left_by, member_gone, member_gone_by, gone}
use Rattle.nc_spool_laws.proofs.Closing.{out, out_start}
use Rattle.nc_spool_laws.proofs.Lists.{found-passes}
use Rattle.nc_spool_state.specs.declared.place.Place.{Place}
use Rattle.nc_spool_state.specs.declared.place.Place.TheVariants.{Asked, Nothing, Found}
use Rattle.nc_spool_state.specs.Key.{KeyAt, name_at, id_at, place_of}
use Rattle.nc_spool_state.specs.Hear.{gone_says}
use Rattle.nc_spool.specs.Hear.{heeded, emptied_at, emptied_by, emptied_in, emptied_place}
use Rattle.nc_spool_laws.specs.Numbers.{one, total}
use Rattle.nc_spool_laws.specs.Tally.{reader_at, readers_of, start_at, stands}
use Rattle.nc_spool_laws.proofs.Totals.{total-insert, total-without}
use Rattle.nc_spool_laws.proofs.Same.{parted-shelf, parted-starts}
use Rattle.nc_spool_members.proofs.Weights.{named, spool_weight, start_weight, weighed, no-reader}
use Rattle.nc_spool_members.proofs.Leaving.{leaves-readers}
use Rattle.nc_spool_members.specs.Members.{is_named}
use Rattle.nc_spool_members.proofs.Weighing.{fact_weight, Weighs, scales, counted, told-facts, looked-facts, parted-facts, left-scales, ended-scales, emptied_keys-scales}

-- ---- nobody stands more often once another left

fewer-first : {X : Type 0} (f : X → ℕ) (test : X → Bool) (xs : List X) → total f (without_first test xs) ≤ total f xs
fewer-first f test [] = omega arith
fewer-first f test (x ∷ xs) = by (test x) (fewer-first f test xs)
  where
    by : (t : Bool) → total f (without_first test xs) ≤ total f xs → total f (cond t xs (x ∷ without_first test xs)) ≤ f x + total f xs
    by true rest = omega arith
    by false rest = omega (arith, rest)

fewer-kept : {X : Type 0} (f : X → ℕ) (test : X → Bool) (xs : List X) → total f (filter test xs) ≤ total f xs
fewer-kept f test [] = omega arith
fewer-kept f test (x ∷ xs) = by (test x) (fewer-kept f test xs)
  where
    by : (t : Bool) → total f (filter test xs) ≤ total f xs → total f (cond t (x ∷ filter test xs) (filter test xs)) ≤ f x + total f xs
    by true rest = omega (arith, rest)
    by false rest = omega (arith, rest)

module _ (k : ℕ) where
  fewer-back : (s : SpoolAt) (shelf : List SpoolAt) → total (readers_of k) (with_read_spool s shelf) ≤ readers_of k s + total (readers_of k) shelf
  fewer-back s shelf = by (length s.readers == 0)
    where
      by : (t : Bool) → total (readers_of k) (cond t shelf (with_spool s shelf)) ≤ readers_of k s + total (readers_of k) shelf
      by true = omega arith
      by false = omega (arith, total-insert (readers_of k) shelf (place_before s.key shelf) s)

  left-fewer : (j : ℕ) (b : Board) → stands k (left j b) ≤ stands k b
  left-fewer j b = by (find (has_reader j) b.shelf) refl
    where
      by : (o : Option SpoolAt) → find (has_reader j) b.shelf ≡ o → stands k (left_by o j (out (has_reader j) b)) ≤ stands k b
      by None was = omega (arith, fewer-first (readers_of k) (has_reader j) b.shelf, fewer-first (start_at k) (starts_with j) b.starts)
      by (Some s) was = omega (arith, fewer-back (without_reader j s) (without_first (has_reader j) b.shelf), fewer-kept (reader_at k) (λ r. not (is_reader j r)) s.readers, total-without (readers_of k) (has_reader j) b.shelf s was)

  ended-stands : (j : ℕ) (deleted : Bool) (names : List (List ℕ)) (b : Board) → stands k (ended j deleted names b) ≡ stands k b
  ended-stands j deleted names b =
      let first = told (Ended j deleted) b in
      omega (arith, ap (λ (l : List SpoolAt). total (readers_of k) l) (parted-shelf j names first), ap (λ (l : List StartingAt). total (start_at k) l) (parted-starts j names first))

  pub member_gone-fewer : (c : List ℕ) (j : ℕ) (b : Board) → stands k (member_gone c b j) ≤ stands k b
  member_gone-fewer c j b = by (names_with j b)
    where
      by : (o : Option (List (List ℕ))) → stands k (member_gone_by o c j (left j b)) ≤ stands k b
      by None = left-fewer j b
      by (Some names) = omega (arith, ended-stands j true (other_names c names) (left j b), left-fewer j b)

-- ---- the names beside the removed one

named-others : (chan c : List ℕ) (names : List (List ℕ)) → bytes_eq c chan ≡ false → named chan (other_names c names) ≡ named chan names
named-others chan c [] other = refl
named-others chan c (name ∷ names) other = by (bytes_eq name c) refl (named-others chan c names other)
  where
    by : (t : Bool) → bytes_eq name c ≡ t → named chan (other_names c names) ≡ named chan names → named chan (cond (not t) (name ∷ other_names c names) (other_names c names)) ≡ one (bytes_eq name chan) + named chan names
    by true was rest = omega (arith, rest, ap one (ap (λ (x : List ℕ). bytes_eq x chan) (same_text name c (sym was)) ∙ other))
    by false was rest = omega (arith, rest)

named-none : (c : List ℕ) (names : List (List ℕ)) → named c (other_names c names) ≡ 0
named-none c [] = refl
named-none c (name ∷ names) = by (bytes_eq name c) refl (named-none c names)
  where
    by : (t : Bool) → bytes_eq name c ≡ t → named c (other_names c names) ≡ 0 → named c (cond (not t) (name ∷ other_names c names) (other_names c names)) ≡ 0
    by true was rest = rest
    by false was rest = omega (arith, rest, ap one was)

-- ---- another channel

module _ (chan : List ℕ) (k : ℕ) (g : Ask → ℕ) (weighs : Weighs chan k g) (c : List ℕ) (other : bytes_eq c chan ≡ false) where
  other_gone-scales : (j : ℕ) (b : Board) → stands k b ≤ 1 → scales chan k g weighs (member_gone c b j) ≡ scales chan k g weighs b
  other_gone-scales j b few = by (names_with j b) refl
    where
      same : (t : Bool) (names : List (List ℕ)) → cond t (named chan (other_names c names)) 0 ≡ cond t (named chan names) 0
      same true names = named-others chan c names other
      same false names = refl

      by : (o : Option (List (List ℕ))) → names_with j b ≡ o → scales chan k g weighs (member_gone_by o c j (left j b)) ≡ scales chan k g weighs b
      by None was = omega (arith, left-scales chan k g weighs j b few, ap (counted chan k g weighs j) was)
      by (Some names) was = omega (arith, ended-scales chan k g weighs j true (other_names c names) (left j b), same (j == k) names, left-scales chan k g weighs j b few, ap (counted chan k g weighs j) was)

  others_gone-scales : (members : List ℕ) (b : Board) → stands k b ≤ 1 → scales chan k g weighs (fold (member_gone c) b members) ≡ scales chan k g weighs b
  others_gone-scales [] b few = refl
  others_gone-scales (j ∷ members) b few = others_gone-scales members (member_gone c b j) (omega (arith, member_gone-fewer k c j b, few)) ∙ other_gone-scales j b few

  pub gone-scales : (members : List ℕ) (b : Board) → stands k b ≤ 1 → scales chan k g weighs (gone c members b) ≡ scales chan k g weighs b
  gone-scales members b few = emptied_keys-scales chan k g weighs c (keys_with c (fold (member_gone c) b members).shelf) (fold (member_gone c) b members) ∙ others_gone-scales members b few

-- ---- the removed channel itself

module _ (g : Ask → ℕ) where
  pub left-facts : (j : ℕ) (b : Board) → total (fact_weight g) (left j b).facts ≡ total (fact_weight g) b.facts
  left-facts j b = by (find (has_reader j) b.shelf)
    where
      by : (o : Option SpoolAt) → total (fact_weight g) (left_by o j (out (has_reader j) b)).facts ≡ total (fact_weight g) b.facts
      by None = refl
      by (Some s) = refl

module _ (c : List ℕ) (k : ℕ) (g : Ask → ℕ) (weighs : Weighs c k g) where
  own_gone-facts : (j : ℕ) (b : Board) → total (fact_weight g) (member_gone c b j).facts ≡ total (fact_weight g) b.facts
  own_gone-facts j b = by (names_with j b)
    where
      nothing : (t : Bool) (names : List (List ℕ)) → cond t (named c (other_names c names)) 0 ≡ 0
      nothing true names = named-none c names
      nothing false names = refl

      by : (o : Option (List (List ℕ))) → total (fact_weight g) (member_gone_by o c j (left j b)).facts ≡ total (fact_weight g) b.facts
      by None = left-facts g j b
      by (Some names) =
          let first = told (Ended j true) (left j b) in
          omega (arith, parted-facts c k g weighs j (other_names c names) first, nothing (j == k) names, told-facts c k g weighs (Ended j true) (left j b) refl, left-facts g j b)

  own_members-facts : (members : List ℕ) (b : Board) → total (fact_weight g) (fold (member_gone c) b members).facts ≡ total (fact_weight g) b.facts
  own_members-facts [] b = refl
  own_members-facts (j ∷ members) b = own_members-facts members (member_gone c b j) ∙ own_gone-facts j b

  emptied_in-facts : (d : List ℕ) (s : SpoolAt) (b : Board) → total (fact_weight g) (emptied_in d s b).facts ≡ total (fact_weight g) b.facts
  emptied_in-facts d s b = by (place_of d s.key.list)
    where
      hears : (j : ℕ) (p : Place) → total (fact_weight g) (heeded (gone_says p) j s b).facts ≡ total (fact_weight g) b.facts
      hears j (Nothing quiet) = looked-facts c k g weighs (name_at s.key j) (id_at s.key j) 0 b
      hears j (Asked number (Some quiet)) = refl
      hears j (Asked number None) = refl
      hears j (Found q id owner h) = refl

      by : (o : Option ℕ) → total (fact_weight g) (emptied_place o s b).facts ≡ total (fact_weight g) b.facts
      by None = refl
      by (Some j) = hears j (place_at s j)

  emptied_at-facts : (d : List ℕ) (b : Board) (key : KeyAt) → total (fact_weight g) (emptied_at d b key).facts ≡ total (fact_weight g) b.facts
  emptied_at-facts d b key = by (spool_of key b.shelf)
    where
      by : (o : Option SpoolAt) → total (fact_weight g) (emptied_by o d (out (is_of key) b)).facts ≡ total (fact_weight g) b.facts
      by None = refl
      by (Some s) = emptied_in-facts d s (out (is_of key) b)

  emptied_keys-facts : (d : List ℕ) (keys : List KeyAt) (b : Board) → total (fact_weight g) (fold (emptied_at d) b keys).facts ≡ total (fact_weight g) b.facts
  emptied_keys-facts d [] b = refl
  emptied_keys-facts d (key ∷ keys) b = emptied_keys-facts d keys (emptied_at d b key) ∙ emptied_at-facts d b key

  -- nothing of the channel is told
  pub own-facts : (members : List ℕ) (b : Board) → total (fact_weight g) (gone c members b).facts ≡ total (fact_weight g) b.facts
  own-facts members b = emptied_keys-facts c (keys_with c (fold (member_gone c) b members).shelf) (fold (member_gone c) b members) ∙ own_members-facts members b

  -- who isn't named stands as before
  kept-scales : (members : List ℕ) (b : Board) → stands k b ≤ 1 → is_named k members ≡ false → scales c k g weighs (fold (member_gone c) b members) ≡ scales c k g weighs b
  kept-scales [] b few e = refl
  kept-scales (j ∷ members) b few e = by (j == k) refl e (λ f. kept-scales members (member_gone c b j) (omega (arith, member_gone-fewer k c j b, few)) f)
    where
      one_same : (j == k) ≡ false → scales c k g weighs (member_gone c b j) ≡ scales c k g weighs b
      one_same other = at (names_with j b) refl
        where
          at : (o : Option (List (List ℕ))) → names_with j b ≡ o → scales c k g weighs (member_gone_by o c j (left j b)) ≡ scales c k g weighs b
          at None was = omega (arith, left-scales c k g weighs j b few, ap (counted c k g weighs j) was)
          at (Some names) was =
              omega (arith, ended-scales c k g weighs j true (other_names c names) (left j b), left-scales c k g weighs j b few, ap (counted c k g weighs j) was, ap (λ t. cond t (named c (other_names c names)) 0) other, ap (λ t. cond t (named c names) 0) other)

      by : (t : Bool) → (j == k) ≡ t → (t || is_named k members) ≡ false → (is_named k members ≡ false → scales c k g weighs (fold (member_gone c) (member_gone c b j) members) ≡ scales c k g weighs (member_gone c b j)) → scales c k g weighs (fold (member_gone c) (member_gone c b j) members) ≡ scales c k g weighs b
      by true was e rest = absurd cc
      by false was e rest = rest e ∙ one_same was

  pub stays-weighed : (members : List ℕ) (b : Board) → stands k b ≤ 1 → is_named k members ≡ false → weighed c k (gone c members b) ≡ weighed c k b
  stays-weighed members b few e =
      let all = fold (member_gone c) b members in
      omega (arith, emptied_keys-scales c k g weighs c (keys_with c all.shelf) all, emptied_keys-facts c (keys_with c all.shelf) all, kept-scales members b few e, own_members-facts members b)

-- who is named stands nowhere
module _ (k : ℕ) where
  none-first : (starts : List StartingAt) → find (starts_with k) starts ≡ None → total (start_at k) starts ≡ 0
  none-first [] e = refl
  none-first (s ∷ starts) e = by (starts_with k s) e (λ f. none-first starts f)
    where
      by : (t : Bool) → cond t (Some s) (find (starts_with k) starts) ≡ None → (find (starts_with k) starts ≡ None → total (start_at k) starts ≡ 0) → one t + total (start_at k) starts ≡ 0
      by true e rest = absurd cc
      by false e rest = let none = rest e in omega (arith, none)

  none-among : (readers : List Reader) → is_among k readers ≡ false → total (reader_at k) readers ≡ 0
  none-among [] e = refl
  none-among (r ∷ readers) e = by (is_reader k r) e (λ f. none-among readers f)
    where
      by : (t : Bool) → (t || is_among k readers) ≡ false → (is_among k readers ≡ false → total (reader_at k) readers ≡ 0) → one t + total (reader_at k) readers ≡ 0
      by true e rest = absurd cc
      by false e rest = let none = rest e in omega (arith, none)

  none-shelf : (shelf : List SpoolAt) → find (has_reader k) shelf ≡ None → total (readers_of k) shelf ≡ 0
  none-shelf [] e = refl
  none-shelf (s ∷ shelf) e = by (has_reader k s) refl e (λ f. none-shelf shelf f)
    where
      by : (t : Bool) → has_reader k s ≡ t → cond t (Some s) (find (has_reader k) shelf) ≡ None → (find (has_reader k) shelf ≡ None → total (readers_of k) shelf ≡ 0) → readers_of k s + total (readers_of k) shelf ≡ 0
      by true was e rest = absurd cc
      by false was e rest = let none = rest e in omega (arith, none-among s.readers was, none)

  eqb_same : (n : ℕ) → (n == n) ≡ true
  eqb_same n = grind (arith, nat_tests)

  left-none : (b : Board) → stands k b ≤ 1 → stands k (left k b) ≡ 0
  left-none b few = by (find (has_reader k) b.shelf) refl
    where
      start : (o : Option StartingAt) → find (starts_with k) b.starts ≡ o → find (has_reader k) b.shelf ≡ None → stands k (out_start (starts_with k) (out (has_reader k) b)) ≡ 0
      start None was none = omega (arith, none-shelf b.shelf none, fewer-first (readers_of k) (has_reader k) b.shelf, none-first b.starts was, fewer-first (start_at k) (starts_with k) b.starts)
      start (Some st) was none =
          let itself : start_at k st ≡ 1 = ap one (found-passes (starts_with k) b.starts st was) in
          omega (arith, none-shelf b.shelf none, fewer-first (readers_of k) (has_reader k) b.shelf, itself, total-without (start_at k) (starts_with k) b.starts st was, few)

      by : (o : Option SpoolAt) → find (has_reader k) b.shelf ≡ o → stands k (left_by o k (out (has_reader k) b)) ≡ 0
      by None was = start (find (starts_with k) b.starts) refl was
      by (Some s) was =
          let rest = total-without (readers_of k) (has_reader k) b.shelf s was in
          let itself : one (k == k) ≡ 1 = ap one (eqb_same k) in
          let less = leaves-readers k k s (found-passes (has_reader k) b.shelf s was) (omega (arith, rest, few)) in
          omega (arith, fewer-back k (without_reader k s) (without_first (has_reader k) b.shelf), less, rest, itself, few)

  own-none : (c : List ℕ) (b : Board) → stands k b ≤ 1 → stands k (member_gone c b k) ≡ 0
  own-none c b few = by (names_with k b)
    where
      by : (o : Option (List (List ℕ))) → stands k (member_gone_by o c k (left k b)) ≡ 0
      by None = left-none b few
      by (Some names) = omega (arith, ended-stands k k true (other_names c names) (left k b), left-none b few)

  stay-none : (c members : List ℕ) (b : Board) → stands k b ≡ 0 → stands k (fold (member_gone c) b members) ≡ 0
  stay-none c [] b none = none
  stay-none c (j ∷ members) b none = stay-none c members (member_gone c b j) (omega (arith, member_gone-fewer k c j b, none))

  pub named-leave : (c members : List ℕ) (b : Board) → stands k b ≤ 1 → is_named k members ≡ true → stands k (fold (member_gone c) b members) ≡ 0
  named-leave c [] b few e = absurd cc
  named-leave c (j ∷ members) b few e = by (j == k) refl e (λ f. named-leave c members (member_gone c b j) (omega (arith, member_gone-fewer k c j b, few)) f)
    where
      equal : (i j : ℕ) → (i == j) ≡ true → i ≡ j
      equal i j e = grind (arith, nat_tests)

      by : (t : Bool) → (j == k) ≡ t → (t || is_named k members) ≡ true → (is_named k members ≡ true → stands k (fold (member_gone c) (member_gone c b j) members) ≡ 0) → stands k (fold (member_gone c) (member_gone c b j) members) ≡ 0
      by true was e rest = stay-none c members (member_gone c b j) (ap (λ (i : ℕ). stands k (member_gone c b i)) (equal j k was) ∙ own-none c b few)
      by false was e rest = rest e

  unweighed-shelf : (c : List ℕ) (shelf : List SpoolAt) → total (readers_of k) shelf ≡ 0 → total (spool_weight c k) shelf ≡ 0
  unweighed-shelf c [] e = refl
  unweighed-shelf c (s ∷ shelf) e = omega (arith, no-reader c k s.key.list s.readers (omega (arith, e)), unweighed-shelf c shelf (omega (arith, e)))

  unweighed-starts : (c : List ℕ) (starts : List StartingAt) → total (start_at k) starts ≡ 0 → total (start_weight c k) starts ≡ 0
  unweighed-starts c [] e = refl
  unweighed-starts c (s ∷ starts) e = by (starts_with k s) e (λ f. unweighed-starts c starts f)
    where
      by : (t : Bool) → one t + total (start_at k) starts ≡ 0 → (total (start_at k) starts ≡ 0 → total (start_weight c k) starts ≡ 0) → cond t (named c s.list) 0 + total (start_weight c k) starts ≡ 0
      by true e rest = absurd (omega (arith, e))
      by false e rest = let none = rest (omega (arith, e)) in omega (arith, none)

  pub goes-weighed : (c : List ℕ) (g : Ask → ℕ) (weighs : Weighs c k g) (members : List ℕ) (b : Board) → stands k b ≤ 1 → is_named k members ≡ true → weighed c k (gone c members b) ≡ 0
  goes-weighed c g weighs members b few e =
      let all = fold (member_gone c) b members in
      let none = named-leave c members b few e in
      omega (arith, emptied_keys-scales c k g weighs c (keys_with c all.shelf) all, emptied_keys-facts c k g weighs c (keys_with c all.shelf) all, unweighed-shelf c all.shelf (omega (arith, none)), unweighed-starts c all.starts (omega (arith, none)))
