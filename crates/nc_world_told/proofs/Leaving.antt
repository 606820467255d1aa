-- Subscribers that leave with a channel, and spools that hear that it is gone.
use Rattle.std.proofs.Common.{◌≡◌, ℕ, ◌+◌, ◌≤◌, Bool, true, false, cond, not, List, [], ◌∷◌, Option, Some, None, refl, sym, ap, ◌∙◌, subst, arith, find, length, ◌==◌}
use Rattle.std.specs.Prelude.{fold}
use Rattle.std.specs.List.{AllByRecursion}
use Rattle.std.proofs.lemmas.Bool.Decides.{nat_tests}
use Rattle.nc_journal.specs.declared.event.Event.{Event}
use Rattle.nc_journal.specs.declared.word.EndedCause.{EndedCause}
use Rattle.nc_spool.specs.declared.fact.Fact.{Fact}
use Rattle.nc_spool.specs.declared.fact.Fact.TheVariants as facts
use Rattle.nc_spool.specs.declared.board.Board.{Board}
use Rattle.nc_spool_state.specs.declared.place.Place.{Place}
use Rattle.nc_spool_state.specs.declared.place.Place.TheVariants.{Asked, Nothing, Found}
use Rattle.nc_spool_state.specs.declared.spool.Reader.{Reader}
use Rattle.nc_spool_state.specs.Hear.{gone_says}
use Rattle.nc_spool_state.specs.Key.{KeyAt, place_of}
use Rattle.nc_spool_state.specs.Shelf.{spool_of, others, place_before, with_spool, without_first, keys_with}
use Rattle.nc_spool_state.specs.Spool.{SpoolAt, is_of, is_reader, has_reader, without, without_reader, place_at, with_place}
use Rattle.nc_spool_state.specs.Starting.{StartingAt, starts_with}
use Rattle.nc_spool.specs.Board.{told as tells, ended}
use Rattle.nc_spool.specs.Depart.{other_names, names_with, left, left_by, member_gone, member_gone_by, gone}
use Rattle.nc_spool.specs.Hear.{heeded, emptied, emptied_at, emptied_by, emptied_place}
use Rattle.nc_spool_laws.specs.Numbers.{one, total}
use Rattle.nc_spool_laws.specs.Tally.{readers_of, start_at, stands, StandOnce}
use Rattle.nc_spool_laws.proofs.Lists.{all-insert, all-without, all-found, all-changed}
use Rattle.nc_spool_laws.proofs.Same.{parted-shelf, parted-starts}
use Rattle.nc_spool_laws.proofs.Tallies.{counted, left-tally, left-ends}
use Rattle.nc_rests.proofs.Received.{eqb_self}
use Rattle.nc_world_told.specs.Written.{written}
use Rattle.nc_world_told.specs.Readers.{StandsAtKey, StandHere, IsOther, IsNotIn}
use Rattle.nc_world_told.proofs.Written.{IsAway, IsUnsent}
use Rattle.nc_world_told.proofs.Sends.{Appends, IsOut, same_facts, one_fact, then_facts, weaker, out_unsent, parted_outs}
use Rattle.nc_world_told.proofs.Staying.{out_away, outs_still, away_stands, no_readers, all_both}

-- ---- who leaves stands nowhere

fewer : (k j : ℕ) (b : Board) → stands k b ≤ 1 → stands k (left j b) ≤ stands k b
fewer k j b few = let t = left-tally k j b few in let e = left-ends k j b in omega (arith, t, e)

-- who stands once at most does so once another went
pub gone_few : (k : ℕ) (c : List ℕ) (j : ℕ) (b : Board) → stands k b ≤ 1 → stands k (member_gone c b j) ≤ 1
gone_few k c j b few = by (names_with j b)
  where
    by : (o : Option (List (List ℕ))) → stands k (member_gone_by o c j (left j b)) ≤ 1
    by None = let f = fewer k j b few in omega (arith, f, few)
    by (Some names) =
        let first = tells (facts.Ended j true) (left j b) in
        let f = fewer k j b few in
        let shelf = ap (λ (l : List SpoolAt). total (readers_of k) l) (parted-shelf j (other_names c names) first) in
        let starts = ap (λ (l : List StartingAt). total (start_at k) l) (parted-starts j (other_names c names) first) in
        omega (arith, f, few, shelf, starts)

-- one that was there left
pub left_none : (j : ℕ) (b : Board) (names : List (List ℕ)) → stands j b ≤ 1 → names_with j b ≡ Some names → stands j (left j b) ≡ 0
left_none j b names few was =
    let t = left-tally j j b few in
    let e = left-ends j j b in
    let there : counted j j (names_with j b) ≡ one (j == j) = ap (counted j j) was in
    let itself : one (j == j) ≡ 1 = ap one (eqb_self j) in
    omega (arith, t, e, there, itself, few)

pub left_facts : (j : ℕ) (b : Board) → (left j b).facts ≡ b.facts
left_facts j b = by (find (has_reader j) b.shelf)
  where
    by : (o : Option SpoolAt) → (left_by o j (record b { shelf = without_first (has_reader j) b.shelf })).facts ≡ b.facts
    by None = refl
    by (Some s) = refl

-- what holds of each spool, also without one of its subscribers, holds once one left
pub left_all : (P : SpoolAt → Type 0) → ((j : ℕ) (s : SpoolAt) → P s → P (without_reader j s)) → (j : ℕ) (b : Board) → AllByRecursion P b.shelf → AllByRecursion P (left j b).shelf
left_all P fewer_too j b all = by (find (has_reader j) b.shelf) refl
  where
    rest : AllByRecursion P (without_first (has_reader j) b.shelf)
    rest = all-without P (has_reader j) b.shelf all

    back : (s : SpoolAt) → P s → (t : Bool) → AllByRecursion P (cond t (without_first (has_reader j) b.shelf) (with_spool s (without_first (has_reader j) b.shelf)))
    back s p true = rest
    back s p false = all-insert P (without_first (has_reader j) b.shelf) (place_before s.key (without_first (has_reader j) b.shelf)) s p rest

    by : (o : Option SpoolAt) → find (has_reader j) b.shelf ≡ o → AllByRecursion P (left_by o j (record b { shelf = without_first (has_reader j) b.shelf })).shelf
    by None was = rest
    by (Some s) was = back (without_reader j s) (fewer_too j s (all-found P (has_reader j) b.shelf s was all)) (length (without_reader j s).readers == 0)

-- so does what holds of each start
pub left_starts : (P : StartingAt → Type 0) (j : ℕ) (b : Board) → AllByRecursion P b.starts → AllByRecursion P (left j b).starts
left_starts P j b all = by (find (has_reader j) b.shelf)
  where
    by : (o : Option SpoolAt) → AllByRecursion P (left_by o j (record b { shelf = without_first (has_reader j) b.shelf })).starts
    by None = all-without P (starts_with j) b.starts all
    by (Some s) = all

-- who is counted nowhere is none of some starts
pub no_start : (k : ℕ) (ss : List StartingAt) → total (start_at k) ss ≡ 0 → AllByRecursion (λ s. IsOther k s.reader) ss
no_start k [] e = tt
no_start k (s ∷ ss) e = (by (s.reader.k == k) refl e, no_start k ss (omega (arith, e)))
  where
    back : (a b : ℕ) → (a == b) ≡ false → (b == a) ≡ false
    back a b e = grind (arith, nat_tests)

    by : (t : Bool) → (s.reader.k == k) ≡ t → one t + total (start_at k) ss ≡ 0 → (k == s.reader.k) ≡ false
    by true was e = absurd (omega (arith, e))
    by false was e = back s.reader.k k was

-- ---- what is told of one that is ended

-- nothing is sent
pub ended_unsent : (j : ℕ) (deleted : Bool) (names : List (List ℕ)) (b : Board) → Appends IsUnsent b.facts (ended j deleted names b).facts
ended_unsent j deleted names b =
    let first = tells (facts.Ended j deleted) b in
    let outs = parted_outs j names first in
    then_facts IsUnsent b.facts first.facts (ended j deleted names b).facts (one_fact IsUnsent b.facts (facts.Ended j deleted) tt)
    (record { facts = outs.facts; are = outs.are; all = weaker IsOut IsUnsent out_unsent outs.facts outs.all })

pub gone_unsent : (c : List ℕ) (j : ℕ) (b : Board) → Appends IsUnsent b.facts (member_gone c b j).facts
gone_unsent c j b = by (names_with j b)
  where
    by : (o : Option (List (List ℕ))) → Appends IsUnsent b.facts (member_gone_by o c j (left j b)).facts
    by None = subst (λ (l : List Fact). Appends IsUnsent b.facts l) (sym (left_facts j b)) (same_facts IsUnsent b.facts)
    by (Some names) = subst (λ (l : List Fact). Appends IsUnsent l (ended j true (other_names c names) (left j b)).facts) (left_facts j b) (ended_unsent j true (other_names c names) (left j b))

pub members_unsent : (c members : List ℕ) (b : Board) → Appends IsUnsent b.facts (fold (member_gone c) b members).facts
members_unsent c [] b = same_facts IsUnsent b.facts
members_unsent c (j ∷ members) b = then_facts IsUnsent b.facts (member_gone c b j).facts _ (gone_unsent c j b) (members_unsent c members (member_gone c b j))

module _ (me : ℕ) (cause : EndedCause) (next : ℕ → ℕ) (h : List Event) where
  -- it is away from any other
  pub ended_away : (k j : ℕ) (deleted : Bool) (names : List (List ℕ)) (b : Board) → (j == k) ≡ false → Appends (IsAway k) b.facts (ended j deleted names b).facts
  ended_away k j deleted names b other =
      let first = tells (facts.Ended j deleted) b in
      let outs = parted_outs j names first in
      then_facts (IsAway k) b.facts first.facts (ended j deleted names b).facts (one_fact (IsAway k) b.facts (facts.Ended j deleted) other)
      (record { facts = outs.facts; are = outs.are; all = weaker IsOut (IsAway k) (out_away me cause next h k) outs.facts outs.all })

  -- others stand as before
  ended_here : (j : ℕ) (deleted : Bool) (names : List (List ℕ)) (b : Board) (key : KeyAt) (rs : List Reader) → AllByRecursion (IsOther j) rs → AllByRecursion (StandsAtKey me key (written me cause next b.facts h)) rs
      → AllByRecursion (StandsAtKey me key (written me cause next (ended j deleted names b).facts h)) rs
  ended_here j deleted names b key [] other stand = tt
  ended_here j deleted names b key (r ∷ rs) other stand =
      (away_stands me cause next h r.k b.facts (ended j deleted names b).facts (ended_away r.k j deleted names b other.0) ∙ stand.0, ended_here j deleted names b key rs other.1 stand.1)

  stand_fewer : (l : List Event) (key : KeyAt) (j : ℕ) (rs : List Reader) → AllByRecursion (StandsAtKey me key l) rs → AllByRecursion (StandsAtKey me key l) (without j rs)
  stand_fewer l key j [] stand = tt
  stand_fewer l key j (r ∷ rs) stand = by (is_reader j r) (stand_fewer l key j rs stand.1)
    where
      by : (t : Bool) → AllByRecursion (StandsAtKey me key l) (without j rs) → AllByRecursion (StandsAtKey me key l) (cond (not t) (r ∷ without j rs) (without j rs))
      by true rest = rest
      by false rest = (stand.0, rest)

  -- ---- who is left stands

  pub gone_stand : (c : List ℕ) (j : ℕ) (b : Board) → stands j b ≤ 1 → AllByRecursion (λ x. StandHere me x (written me cause next b.facts h)) b.shelf
      → AllByRecursion (λ x. StandHere me x (written me cause next (member_gone c b j).facts h)) (member_gone c b j).shelf
  gone_stand c j b few stand = by (names_with j b) refl
    where
      now : AllByRecursion (λ x. StandHere me x (written me cause next (left j b).facts h)) (left j b).shelf
      now = subst (λ (l : List Fact). AllByRecursion (λ (x : SpoolAt). StandHere me x (written me cause next l h)) (left j b).shelf) (sym (left_facts j b))
          (left_all (λ (x : SpoolAt). StandHere me x (written me cause next b.facts h)) (λ n s. stand_fewer (written me cause next b.facts h) s.key n s.readers) j b stand)

      by : (o : Option (List (List ℕ))) → names_with j b ≡ o → AllByRecursion (λ x. StandHere me x (written me cause next (member_gone_by o c j (left j b)).facts h)) (member_gone_by o c j (left j b)).shelf
      by None was = now
      by (Some names) was =
          let there : total (readers_of j) (left j b).shelf ≡ 0 = let none = left_none j b names few was in omega (arith, none) in
          subst (AllByRecursion (λ (x : SpoolAt). StandHere me x (written me cause next (ended j true (other_names c names) (left j b)).facts h))) (sym (parted-shelf j (other_names c names) (tells (facts.Ended j true) (left j b))))
          (all-changed (λ (x : SpoolAt). StandHere me x (written me cause next (left j b).facts h) × IsNotIn j x) (λ (x : SpoolAt). StandHere me x (written me cause next (ended j true (other_names c names) (left j b)).facts h)) (left j b).shelf
          (λ x f. ended_here j true (other_names c names) (left j b) x.key x.readers f.1 f.0)
          (all_both (λ (x : SpoolAt). StandHere me x (written me cause next (left j b).facts h)) (IsNotIn j) (left j b).shelf now (no_readers j (left j b).shelf there)))

  pub members_stand : (c members : List ℕ) (b : Board) → StandOnce b → AllByRecursion (λ x. StandHere me x (written me cause next b.facts h)) b.shelf
      → AllByRecursion (λ x. StandHere me x (written me cause next (fold (member_gone c) b members).facts h)) (fold (member_gone c) b members).shelf
  members_stand c [] b few stand = stand
  members_stand c (j ∷ members) b few stand = members_stand c members (member_gone c b j) (λ k. gone_few k c j b (few k)) (gone_stand c j b (few j) stand)

-- ---- spools that hear it

says_outs : (p : Place) (j : ℕ) (s : SpoolAt) (b : Board) → Appends IsOut b.facts (heeded (gone_says p) j s b).facts
says_outs (Nothing quiet) j s b = one_fact IsOut b.facts _ tt
says_outs (Asked n (Some quiet)) j s b = same_facts IsOut b.facts
says_outs (Asked n None) j s b = same_facts IsOut b.facts
says_outs (Found q id owner g) j s b = same_facts IsOut b.facts

emptied_at_outs : (c : List ℕ) (b : Board) (key : KeyAt) → Appends IsOut b.facts (emptied_at c b key).facts
emptied_at_outs c b key = by (spool_of key b.shelf)
  where
    at : (s : SpoolAt) (o : Option ℕ) → Appends IsOut b.facts (emptied_place o s (record b { shelf = others key b.shelf })).facts
    at s None = same_facts IsOut b.facts
    at s (Some j) = says_outs (place_at s j) j s (record b { shelf = others key b.shelf })

    by : (o : Option SpoolAt) → Appends IsOut b.facts (emptied_by o c (record b { shelf = others key b.shelf })).facts
    by None = same_facts IsOut b.facts
    by (Some s) = at s (place_of c s.key.list)

emptied_keys_outs : (c : List ℕ) (keys : List KeyAt) (b : Board) → Appends IsOut b.facts (fold (emptied_at c) b keys).facts
emptied_keys_outs c [] b = same_facts IsOut b.facts
emptied_keys_outs c (key ∷ keys) b = then_facts IsOut b.facts (emptied_at c b key).facts _ (emptied_at_outs c b key) (emptied_keys_outs c keys (emptied_at c b key))

-- nothing is told but looks
pub emptied_outs : (c : List ℕ) (b : Board) → Appends IsOut b.facts (emptied c b).facts
emptied_outs c b = emptied_keys_outs c (keys_with c b.shelf) b

-- what holds of each spool whatever its places know, holds still
module _ (P : SpoolAt → Type 0) (anywhere : (j : ℕ) (p : Place) (s : SpoolAt) → P s → P (with_place j p s)) where
  says_all : (p : Place) (j : ℕ) (s : SpoolAt) (b : Board) → P s → AllByRecursion P b.shelf → AllByRecursion P (heeded (gone_says p) j s b).shelf
  says_all (Nothing quiet) j s b here all = all-insert P b.shelf (place_before s.key b.shelf) (with_place j (Asked b.next None) s) (anywhere j (Asked b.next None) s here) all
  says_all (Asked n (Some quiet)) j s b here all = all-insert P b.shelf (place_before s.key b.shelf) (with_place j (Asked n None) s) (anywhere j (Asked n None) s here) all
  says_all (Asked n None) j s b here all = all-insert P b.shelf (place_before s.key b.shelf) s here all
  says_all (Found q id owner g) j s b here all = all-insert P b.shelf (place_before s.key b.shelf) s here all

  emptied_at_all : (c : List ℕ) (b : Board) (key : KeyAt) → AllByRecursion P b.shelf → AllByRecursion P (emptied_at c b key).shelf
  emptied_at_all c b key all = by (spool_of key b.shelf) refl
    where
      rest : AllByRecursion P (others key b.shelf)
      rest = all-without P (is_of key) b.shelf all

      at : (s : SpoolAt) → P s → (o : Option ℕ) → AllByRecursion P (emptied_place o s (record b { shelf = others key b.shelf })).shelf
      at s here None = all-insert P (others key b.shelf) (place_before s.key (others key b.shelf)) s here rest
      at s here (Some j) = says_all (place_at s j) j s (record b { shelf = others key b.shelf }) here rest

      by : (o : Option SpoolAt) → spool_of key b.shelf ≡ o → AllByRecursion P (emptied_by o c (record b { shelf = others key b.shelf })).shelf
      by None was = rest
      by (Some s) was = at s (all-found P (is_of key) b.shelf s was all) (place_of c s.key.list)

  emptied_keys_all : (c : List ℕ) (keys : List KeyAt) (b : Board) → AllByRecursion P b.shelf → AllByRecursion P (fold (emptied_at c) b keys).shelf
  emptied_keys_all c [] b all = all
  emptied_keys_all c (key ∷ keys) b all = emptied_keys_all c keys (emptied_at c b key) (emptied_at_all c b key all)

  pub emptied_all : (c : List ℕ) (b : Board) → AllByRecursion P b.shelf → AllByRecursion P (emptied c b).shelf
  emptied_all c b all = emptied_keys_all c (keys_with c b.shelf) b all

-- who stands does so still
pub emptied_stand : (me : ℕ) (cause : EndedCause) (next : ℕ → ℕ) (h : List Event) (c : List ℕ) (b : Board) → AllByRecursion (λ x. StandHere me x (written me cause next b.facts h)) b.shelf
    → AllByRecursion (λ x. StandHere me x (written me cause next (emptied c b).facts h)) (emptied c b).shelf
emptied_stand me cause next h c b stand =
    all-changed (λ (x : SpoolAt). StandHere me x (written me cause next b.facts h)) (λ (x : SpoolAt). StandHere me x (written me cause next (emptied c b).facts h)) (emptied c b).shelf
    (λ x f. outs_still me cause next h b.facts (emptied c b).facts x.key x.readers (emptied_outs c b) f)
    (emptied_all (λ (x : SpoolAt). StandHere me x (written me cause next b.facts h)) (λ j p s f. f) c b stand)

-- ---- a channel is gone

pub loss_unsent : (c members : List ℕ) (b : Board) → Appends IsUnsent b.facts (gone c members b).facts
loss_unsent c members b =
    let left_over = fold (member_gone c) b members in
    let outs = emptied_outs c left_over in
    then_facts IsUnsent b.facts left_over.facts (gone c members b).facts (members_unsent c members b) (record { facts = outs.facts; are = outs.are; all = weaker IsOut IsUnsent out_unsent outs.facts outs.all })

pub loss_stand : (me : ℕ) (cause : EndedCause) (next : ℕ → ℕ) (h : List Event) (c members : List ℕ) (b : Board) → StandOnce b → AllByRecursion (λ x. StandHere me x (written me cause next b.facts h)) b.shelf
    → AllByRecursion (λ x. StandHere me x (written me cause next (gone c members b).facts h)) (gone c members b).shelf
loss_stand me cause next h c members b few stand = emptied_stand me cause next h c (fold (member_gone c) b members) (members_stand me cause next h c members b few stand)
