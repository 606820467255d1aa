-- What calls tell the owners: the members of a channel are those who stand with it.
use Rattle.std.proofs.Common.{◌≡◌, ◌≢◌, ℕ, zero, suc, ◌+◌, ◌≤◌, Bool, true, false, cond, not, ◌||◌, ◌&&◌, List, [], ◌∷◌, refl, sym, ap, ◌∙◌, subst, arith, ◌==◌}
use Rattle.std.specs.Prelude.{fold, bytes_eq}
use Rattle.std.specs.List.{AllByRecursion, list_any}
use Rattle.std.specs.Option.{option_map}
use Rattle.std.specs.Cmp.Lexicographic.{same_text}
use Rattle.nc_types.specs.Channel.{owner_of, AreDistinct}
use Rattle.nc_types.specs.declared.start.Start.{Start}
use Rattle.nc_spool_state.specs.declared.spool.Reader.{Reader}
use Rattle.nc_spool_state.specs.declared.edge.Edge.TheVariants.{Known}
use Rattle.nc_spool_state.specs.Key.{is_in}
use Rattle.nc_spool_state.specs.Spool.{SpoolAt, is_reader, is_among}
use Rattle.nc_spool_state.specs.Shelf.{keys_with}
use Rattle.nc_spool_state.specs.Starting.{StartingAt}
use Rattle.nc_spool.specs.declared.ask.Ask.{Ask}
use Rattle.nc_spool.specs.declared.ask.Ask.TheVariants.{Look, Join, Part}
use Rattle.nc_spool.specs.declared.ask.Ask.TheVariants as asks
use Rattle.nc_spool.specs.declared.fact.Fact.{Fact}
use Rattle.nc_spool.specs.declared.fact.Fact.TheVariants.{Out, Started, Sent, Ended}
use Rattle.nc_spool.specs.declared.board.Board.{Board}
use Rattle.nc_spool.specs.Arrive.{joined, arrived}
use Rattle.nc_spool.specs.Calls.{SpoolsAt, board_of, news_of, answer_board, edge_board, notice_board, gone_board, depart_board}
use Rattle.nc_spool_laws.specs.Numbers.{one, total}
use Rattle.nc_spool_laws.specs.Tally.{reader_at, readers_of, start_at}
use Rattle.nc_spool_laws.specs.Keys.{SpoolFits, StartFits}
use Rattle.nc_spool_laws.proofs.Totals.{total-push}
use Rattle.nc_spool_laws.proofs.Same.{joined-shelf, joined-starts}
use Rattle.nc_spool_members.specs.Singly.{StandSingly}
use Rattle.nc_spool_members.specs.Members.{reads_with, begins_with, stands_with, is_named, member_told, CallsTell, TellMembers}
use Rattle.nc_spool_members.proofs.Weights.{named, weight, spool_weight, start_weight, weighed}
use Rattle.nc_spool_members.proofs.Removing.{gone-scales, own-facts, stays-weighed, goes-weighed}
use Rattle.nc_spool_members.proofs.Weighing.{Weighs, fact_weight, arrived-scales, started-facts, answered-scales, edged-scales, noticed_keys-scales, departed-scales}

-- ---- more than none

abbrev some : ℕ → Bool
some zero = false
some (suc n) = true

some-plus : (m n : ℕ) → some (m + n) ≡ some m || some n
some-plus zero n = let none : 0 + n ≡ n = omega arith in ap some none
some-plus (suc m) n = let more : suc m + n ≡ suc (m + n) = omega arith in ap some more

some-more : (n : ℕ) → true ≡ some (1 + n)
some-more n = let more : suc n ≡ 1 + n = omega arith in ap some more

some-none : (n : ℕ) → some n ≡ some (0 + n)
some-none n = let none : n ≡ 0 + n = omega arith in ap some none

some-one : (b : Bool) → some (one b) ≡ b
some-one true = refl
some-one false = refl

some-named : (c : List ℕ) (names : List (List ℕ)) → some (named c names) ≡ is_in c names
some-named c [] = refl
some-named c (name ∷ names) = some-plus (one (bytes_eq name c)) (named c names) ∙ ap (λ b. b || some (named c names)) (some-one (bytes_eq name c)) ∙ ap (λ b. bytes_eq name c || b) (some-named c names)

some-all : {X : Type 0} (f : X → ℕ) (test : X → Bool) → ((x : X) → some (f x) ≡ test x) → (xs : List X) → some (total f xs) ≡ list_any test xs
some-all f test each [] = refl
some-all f test each (x ∷ xs) = some-plus (f x) (total f xs) ∙ ap (λ b. b || some (total f xs)) (each x) ∙ ap (λ b. test x || b) (some-all f test each xs)

-- ---- who stands with a channel weighs something

module _ (c : List ℕ) (k : ℕ) where
  some-readers : (list : List (List ℕ)) (readers : List Reader) → some (total (weight c k list) readers) ≡ is_in c list && is_among k readers
  some-readers list [] = none (is_in c list)
    where
      none : (b : Bool) → false ≡ b && false
      none true = refl
      none false = refl
  some-readers list (r ∷ readers) = some-plus (weight c k list r) (total (weight c k list) readers) ∙ ap (λ b. some (weight c k list r) || b) (some-readers list readers) ∙ by (is_reader k r)
    where
      by : (t : Bool) → (some (cond t (named c list) 0) || (is_in c list && is_among k readers)) ≡ is_in c list && (t || is_among k readers)
      by true = ap (λ b. b || (is_in c list && is_among k readers)) (some-named c list) ∙ both (is_in c list) (is_among k readers)
        where
          both : (a b : Bool) → (a || (a && b)) ≡ a && true
          both true b = refl
          both false b = refl
      by false = refl

  some-start : (s : StartingAt) → some (start_weight c k s) ≡ begins_with c k s
  some-start s = by (s.reader.k == k)
    where
      by : (t : Bool) → some (cond t (named c s.list) 0) ≡ is_in c s.list && t
      by true = some-named c s.list ∙ with_true (is_in c s.list)
        where
          with_true : (a : Bool) → a ≡ a && true
          with_true true = refl
          with_true false = refl
      by false = none (is_in c s.list)
        where
          none : (a : Bool) → false ≡ a && false
          none true = refl
          none false = refl

  stands-some : (b : Board) → some (weighed c k b) ≡ stands_with c k b
  stands-some b = some-plus (total (spool_weight c k) b.shelf) (total (start_weight c k) b.starts)
      ∙ ap (λ x. x || some (total (start_weight c k) b.starts)) (some-all (spool_weight c k) (reads_with c k) (λ s. some-readers s.key.list s.readers) b.shelf)
      ∙ ap (λ x. list_any (reads_with c k) b.shelf || x) (some-all (start_weight c k) (begins_with c k) some-start b.starts)

-- ---- and at most one, where nobody stands twice

not-named : (c : List ℕ) (names : List (List ℕ)) → AllByRecursion (λ other. other ≢ c) names → named c names ≡ 0
not-named c [] a = refl
not-named c (name ∷ names) a = by (bytes_eq name c) refl (not-named c names a.1)
  where
    by : (t : Bool) → bytes_eq name c ≡ t → named c names ≡ 0 → one t + named c names ≡ 0
    by true was rest = absurd (a.0 (same_text name c (sym was)))
    by false was rest = omega (arith, rest)

pub named-once : (c : List ℕ) (names : List (List ℕ)) → AreDistinct names → named c names ≤ 1
named-once c [] a = omega arith
named-once c (name ∷ names) a = by (bytes_eq name c) refl (named-once c names a.1)
  where
    by : (t : Bool) → bytes_eq name c ≡ t → named c names ≤ 1 → one t + named c names ≤ 1
    by true was rest = omega (arith, not-named c names (subst (λ (x : List ℕ). AllByRecursion (λ other. other ≢ x) names) (same_text name c (sym was)) a.0))
    by false was rest = omega (arith, rest)

module _ (c : List ℕ) (k : ℕ) where
  lighter : (list : List (List ℕ)) (r : Reader) → named c list ≤ 1 → weight c k list r ≤ reader_at k r
  lighter list r few = by (is_reader k r)
    where
      by : (t : Bool) → cond t (named c list) 0 ≤ one t
      by true = few
      by false = omega arith

  lighter-readers : (list : List (List ℕ)) (readers : List Reader) → named c list ≤ 1 → total (weight c k list) readers ≤ total (reader_at k) readers
  lighter-readers list [] few = omega arith
  lighter-readers list (r ∷ readers) few = omega (arith, lighter list r few, lighter-readers list readers few)

  lighter-shelf : (shelf : List SpoolAt) → AllByRecursion SpoolFits shelf → total (spool_weight c k) shelf ≤ total (readers_of k) shelf
  lighter-shelf [] fit = omega arith
  lighter-shelf (s ∷ shelf) fit = omega (arith, lighter-readers s.key.list s.readers (named-once c s.key.list fit.0.distinct), lighter-shelf shelf fit.1)

  lighter-starts : (starts : List StartingAt) → AllByRecursion StartFits starts → total (start_weight c k) starts ≤ total (start_at k) starts
  lighter-starts [] fit = omega arith
  lighter-starts (s ∷ starts) fit = omega (arith, lighter s.list s.reader (named-once c s.list fit.0.distinct), lighter-starts starts fit.1)

  weighs-once : {H : Type 0} (s : SpoolsAt H) → StandSingly s → weighed c k (board_of s) ≤ 1
  weighs-once s single = omega (arith, lighter-shelf s.shelf single.fit.0, lighter-starts s.starts single.fit.1, single.once k)

-- ---- what is heard of some facts

module _ (c : List ℕ) (k : ℕ) where
  -- how often facts tell that the subscriber parts, joins, or either
  abbrev pub part_weight : Ask → ℕ
  part_weight (Look number d after fence) = 0
  part_weight (asks.Edge number n d fence) = 0
  part_weight (Join d n) = 0
  part_weight (Part d n) = one (bytes_eq d c && (n == k))

  abbrev pub join_weight : Ask → ℕ
  join_weight (Look number d after fence) = 0
  join_weight (asks.Edge number n d fence) = 0
  join_weight (Join d n) = one (bytes_eq d c && (n == k))
  join_weight (Part d n) = 0

  abbrev pub either_weight : Ask → ℕ
  either_weight (Look number d after fence) = 0
  either_weight (asks.Edge number n d fence) = 0
  either_weight (Join d n) = one (bytes_eq d c && (n == k))
  either_weight (Part d n) = one (bytes_eq d c && (n == k))

  pub weighs-parts : Weighs c k part_weight
  weighs-parts = record { look = λ number d after fence. refl; edge = λ number n d fence. refl; part = λ d n. refl }

  pub weighs-either : Weighs c k either_weight
  weighs-either = record { look = λ number d after fence. refl; edge = λ number n d fence. refl; part = λ d n. refl }

  abbrev pub parts : List Fact → ℕ
  parts facts = total (fact_weight part_weight) facts

  abbrev pub joins : List Fact → ℕ
  joins facts = total (fact_weight join_weight) facts

  abbrev pub both : List Fact → ℕ
  both facts = total (fact_weight either_weight) facts

  one-sum : (fact : Fact) → fact_weight either_weight fact ≡ fact_weight join_weight fact + fact_weight part_weight fact
  one-sum (Out o) = by o.ask
    where
      by : (ask : Ask) → either_weight ask ≡ join_weight ask + part_weight ask
      by (Look number d after fence) = refl
      by (asks.Edge number n d fence) = refl
      by (Join d n) = omega arith
      by (Part d n) = omega arith
  one-sum (Started n cursor) = refl
  one-sum (Sent s) = refl
  one-sum (Ended n deleted) = refl

  pub sum-all : (facts : List Fact) → both facts ≡ joins facts + parts facts
  sum-all [] = refl
  sum-all (fact ∷ facts) = omega (arith, one-sum fact, sum-all facts)

  cond-same : (t : Bool) (is : Bool) → cond t is is ≡ is
  cond-same true is = refl
  cond-same false is = refl

  -- where nothing joins, who parts is no member any more
  parted-members : (facts : List Fact) (is : Bool) → joins facts ≡ 0 → member_told c k is facts ≡ cond (some (parts facts)) false is
  parted-members [] is none = refl
  parted-members (Started n cursor ∷ facts) is none = parted-members facts is (omega (arith, none)) ∙ ap (λ t. cond t false is) (some-none (parts facts))
  parted-members (Sent s ∷ facts) is none = parted-members facts is (omega (arith, none)) ∙ ap (λ t. cond t false is) (some-none (parts facts))
  parted-members (Ended n deleted ∷ facts) is none = parted-members facts is (omega (arith, none)) ∙ ap (λ t. cond t false is) (some-none (parts facts))
  parted-members (Out o ∷ facts) is none = by o.ask none (λ now rest. parted-members facts now rest)
    where
      joining : (t : Bool) → one t + joins facts ≡ 0 → ((now : Bool) → joins facts ≡ 0 → member_told c k now facts ≡ cond (some (parts facts)) false now) → member_told c k (cond t true is) facts ≡ cond (some (parts facts)) false is
      joining true none more = absurd (omega (arith, none))
      joining false none more = more is (omega (arith, none))

      parting : (t : Bool) → joins facts ≡ 0 → ((now : Bool) → joins facts ≡ 0 → member_told c k now facts ≡ cond (some (parts facts)) false now) → member_told c k (cond t false is) facts ≡ cond (some (one t + parts facts)) false is
      parting true none more = more false none ∙ cond-same (some (parts facts)) false ∙ ap (λ t. cond t false is) (some-more (parts facts))
      parting false none more = more is none ∙ ap (λ t. cond t false is) (some-none (parts facts))

      by : (ask : Ask) → join_weight ask + joins facts ≡ 0 → ((now : Bool) → joins facts ≡ 0 → member_told c k now facts ≡ cond (some (parts facts)) false now)
          → member_told c k is (Out (record { to = o.to; ask = ask }) ∷ facts) ≡ cond (some (part_weight ask + parts facts)) false is
      by (Look number d after fence) none more = more is (omega (arith, none)) ∙ ap (λ t. cond t false is) (some-none (parts facts))
      by (asks.Edge number n d fence) none more = more is (omega (arith, none)) ∙ ap (λ t. cond t false is) (some-none (parts facts))
      by (Join d n) none more = joining (bytes_eq d c && (n == k)) none more ∙ ap (λ t. cond t false is) (some-none (parts facts))
      by (Part d n) none more = parting (bytes_eq d c && (n == k)) (omega (arith, none)) more

  -- where nothing parts, who joins is a member
  joined-members : (facts : List Fact) (is : Bool) → parts facts ≡ 0 → member_told c k is facts ≡ cond (some (joins facts)) true is
  joined-members [] is none = refl
  joined-members (Started n cursor ∷ facts) is none = joined-members facts is (omega (arith, none)) ∙ ap (λ t. cond t true is) (some-none (joins facts))
  joined-members (Sent s ∷ facts) is none = joined-members facts is (omega (arith, none)) ∙ ap (λ t. cond t true is) (some-none (joins facts))
  joined-members (Ended n deleted ∷ facts) is none = joined-members facts is (omega (arith, none)) ∙ ap (λ t. cond t true is) (some-none (joins facts))
  joined-members (Out o ∷ facts) is none = by o.ask none (λ now rest. joined-members facts now rest)
    where
      parting : (t : Bool) → one t + parts facts ≡ 0 → ((now : Bool) → parts facts ≡ 0 → member_told c k now facts ≡ cond (some (joins facts)) true now) → member_told c k (cond t false is) facts ≡ cond (some (joins facts)) true is
      parting true none more = absurd (omega (arith, none))
      parting false none more = more is (omega (arith, none))

      joining : (t : Bool) → parts facts ≡ 0 → ((now : Bool) → parts facts ≡ 0 → member_told c k now facts ≡ cond (some (joins facts)) true now) → member_told c k (cond t true is) facts ≡ cond (some (one t + joins facts)) true is
      joining true none more = more true none ∙ cond-same (some (joins facts)) true ∙ ap (λ t. cond t true is) (some-more (joins facts))
      joining false none more = more is none ∙ ap (λ t. cond t true is) (some-none (joins facts))

      by : (ask : Ask) → part_weight ask + parts facts ≡ 0 → ((now : Bool) → parts facts ≡ 0 → member_told c k now facts ≡ cond (some (joins facts)) true now)
          → member_told c k is (Out (record { to = o.to; ask = ask }) ∷ facts) ≡ cond (some (join_weight ask + joins facts)) true is
      by (Look number d after fence) none more = more is (omega (arith, none)) ∙ ap (λ t. cond t true is) (some-none (joins facts))
      by (asks.Edge number n d fence) none more = more is (omega (arith, none)) ∙ ap (λ t. cond t true is) (some-none (joins facts))
      by (Join d n) none more = joining (bytes_eq d c && (n == k)) (omega (arith, none)) more
      by (Part d n) none more = parting (bytes_eq d c && (n == k)) none more ∙ ap (λ t. cond t true is) (some-none (joins facts))

  -- ---- the calls

  falls : (new p old : ℕ) → new + p ≡ old → old ≤ 1 → cond (some p) false (some old) ≡ some new
  falls new zero old e few = ap some (omega (arith, e))
  falls zero (suc p) old e few = refl
  falls (suc new) (suc p) old e few = absurd (omega (arith, e, few))

  rises : (new j old : ℕ) → new ≡ j + old → cond (some j) true (some old) ≡ some new
  rises new zero old e = let same : old ≡ new = omega (arith, e) in ap some same
  rises new (suc j) old e = let more : suc (j + old) ≡ new = omega (arith, e) in ap some more

  -- a call that makes nobody a member
  leaving : (b new : Board) → b.facts ≡ [] → weighed c k b ≤ 1 → weighed c k new + parts new.facts ≡ weighed c k b + parts b.facts → weighed c k new + both new.facts ≡ weighed c k b + both b.facts
      → member_told c k (stands_with c k b) new.facts ≡ stands_with c k new
  leaving b new empty few less less_both =
      let no_parts : parts b.facts ≡ 0 = ap parts empty in
      let no_both : both b.facts ≡ 0 = ap both empty in
      let none : joins new.facts ≡ 0 = omega (arith, less, less_both, sum-all new.facts, no_parts, no_both) in
      ap (λ is. member_told c k is new.facts) (sym (stands-some c k b)) ∙ parted-members new.facts (some (weighed c k b)) none
      ∙ falls (weighed c k new) (parts new.facts) (weighed c k b) (omega (arith, less, no_parts)) few ∙ stands-some c k new

  pub join-both : (n : ℕ) (names : List (List ℕ)) (b : Board) → both (fold (joined n) b names).facts ≡ cond (n == k) (named c names) 0 + both b.facts
  join-both n [] b = none (n == k)
    where
      none : (t : Bool) → both b.facts ≡ cond t 0 0 + both b.facts
      none true = omega arith
      none false = omega arith
  join-both n (d ∷ names) b = omega (arith, join-both n names (joined n b d), total-push (fact_weight either_weight) b.facts (Out (record { to = owner_of b.workers d; ask = Join d n })), more (n == k) (bytes_eq d c) (named c names))
    where
      more : (t x : Bool) (m : ℕ) → cond t m 0 + one (x && t) ≡ cond t (one x + m) 0
      more true true m = omega arith
      more true false m = omega arith
      more false true m = omega arith
      more false false m = omega arith

  pub join-parts : (n : ℕ) (names : List (List ℕ)) (b : Board) → parts (fold (joined n) b names).facts ≡ parts b.facts
  join-parts n [] b = refl
  join-parts n (d ∷ names) b = omega (arith, join-parts n names (joined n b d), total-push (fact_weight part_weight) b.facts (Out (record { to = owner_of b.workers d; ask = Join d n })))

  coming : (r : Reader) (list : List (List ℕ)) (start : Start) (b : Board) → b.facts ≡ [] → member_told c k (stands_with c k b) (arrived r list start b).facts ≡ stands_with c k (arrived r list start b)
  coming r list start b empty =
      let now = fold (joined r.k) b list in
      let new = arrived r list start b in
      let no_parts : parts b.facts ≡ 0 = ap parts empty in
      let no_both : both b.facts ≡ 0 = ap both empty in
      let told_parts : parts new.facts ≡ parts now.facts = started-facts c k part_weight weighs-parts r list start now in
      let told_both : both new.facts ≡ both now.facts = started-facts c k either_weight weighs-either r list start now in
      let more = arrived-scales c k part_weight weighs-parts r list start now in
      let shelf = ap (λ (l : List SpoolAt). total (spool_weight c k) l) (joined-shelf r.k list b) in
      let starts = ap (λ (l : List StartingAt). total (start_weight c k) l) (joined-starts r.k list b) in
      let none : parts new.facts ≡ 0 = omega (arith, told_parts, join-parts r.k list b, no_parts) in
      let some_joins : joins new.facts ≡ weight c k list r = omega (arith, told_both, join-both r.k list b, no_both, sum-all new.facts, none) in
      ap (λ is. member_told c k is new.facts) (sym (stands-some c k b)) ∙ joined-members new.facts (some (weighed c k b)) none
      ∙ rises (weighed c k new) (joins new.facts) (weighed c k b) (omega (arith, some_joins, more, told_parts, shelf, starts)) ∙ stands-some c k new

  module _ {H : Type 0} (s : SpoolsAt H) (single : StandSingly s) where
    away : (new : Board) → weighed c k new + parts new.facts ≡ weighed c k (board_of s) + 0 → weighed c k new + both new.facts ≡ weighed c k (board_of s) + 0 → member_told c k (stands_with c k (board_of s)) new.facts ≡ stands_with c k new
    away new less less_both = leaving (board_of s) new refl (weighs-once c k s single) less less_both

    unheard : (members : List ℕ) (is : Bool) → member_told c k is (gone_board c members s).facts ≡ is
    unheard members is =
        let new = gone_board c members s in
        let none_parts : parts new.facts ≡ 0 = own-facts c k part_weight weighs-parts members (board_of s) in
        let none_both : both new.facts ≡ 0 = own-facts c k either_weight weighs-either members (board_of s) in
        parted-members new.facts is (omega (arith, none_parts, none_both, sum-all new.facts)) ∙ ap (λ n. cond (some n) false is) none_parts

    removed_by : (members : List ℕ) (t : Bool) → is_named k members ≡ t → stands_with c k (gone_board c members s) ≡ not t && stands_with c k (board_of s)
    removed_by members true was = sym (stands-some c k (gone_board c members s)) ∙ ap some (goes-weighed k c part_weight weighs-parts members (board_of s) (single.once k) was)
    removed_by members false was = sym (stands-some c k (gone_board c members s)) ∙ ap some (stays-weighed c k part_weight weighs-parts members (board_of s) (single.once k) was) ∙ stands-some c k (board_of s)

    pub calls-tell : CallsTell c k s
    calls-tell = record {
      arrive = λ n list start once. coming (record { k = n; once = once }) list start (board_of s) refl;
      answer = λ number q floor found. away (answer_board number q floor found s)
          (answered-scales c k part_weight weighs-parts number (record { q = q; floor = floor }) (option_map news_of found) (board_of s))
          (answered-scales c k either_weight weighs-either number (record { q = q; floor = floor }) (option_map news_of found) (board_of s));
      edge_answer = λ number floor last. away (edge_board number floor last s)
          (edged-scales c k part_weight weighs-parts number (Known last floor) (board_of s))
          (edged-scales c k either_weight weighs-either number (Known last floor) (board_of s));
      notice = λ d found. away (notice_board d found s)
          (noticed_keys-scales c k part_weight weighs-parts d (news_of found) (keys_with d s.shelf) (board_of s))
          (noticed_keys-scales c k either_weight weighs-either d (news_of found) (keys_with d s.shelf) (board_of s));
      removal = λ d members other. away (gone_board d members s)
          (gone-scales c k part_weight weighs-parts d other members (board_of s) (single.once k))
          (gone-scales c k either_weight weighs-either d other members (board_of s) (single.once k));
      own_removal = λ members is. unheard members is;
      removed = λ members. removed_by members (is_named k members) refl;
      depart = λ n. away (depart_board n s)
          (departed-scales c k part_weight weighs-parts n (board_of s) (single.once k))
          (departed-scales c k either_weight weighs-either n (board_of s) (single.once k));
    }

pub tell-members : (H : Type 0) → TellMembers H
tell-members H c k s single = calls-tell c k s single
