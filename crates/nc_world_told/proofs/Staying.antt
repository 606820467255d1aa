-- The subscribers of spools stand at their keys.
use Rattle.std.proofs.Common.{◌≡◌, ℕ, ◌+◌, ◌≤◌, Bool, true, false, cond, List, [], ◌∷◌, Option, Some, None, refl, sym, ap, ◌∙◌, subst, arith, find}
use Rattle.std.specs.Prelude.{◌==◌, fold}
use Rattle.std.specs.List.{AllByRecursion}
use Rattle.std.proofs.lemmas.Bool.Decides.{nat_tests}
use Rattle.nc_journal.specs.History.{own}
use Rattle.nc_journal.specs.Standing.{Standing, served, stage_of}
use Rattle.nc_journal.specs.declared.event.Event.{Event}
use Rattle.nc_journal.specs.declared.word.EndedCause.{EndedCause}
use Rattle.nc_spool.specs.declared.fact.Fact.{Fact}
use Rattle.nc_spool.specs.declared.fact.Fact.TheVariants as facts
use Rattle.nc_spool.specs.declared.board.Board.{Board}
use Rattle.nc_spool_state.specs.declared.spool.Reader.{Reader}
use Rattle.nc_spool_state.specs.declared.choice.Find.{Find}
use Rattle.nc_spool_state.specs.declared.choice.Choice.{Choice}
use Rattle.nc_spool_state.specs.declared.choice.Choice.TheVariants.{Wait, Fence, Send}
use Rattle.nc_spool.specs.declared.decide.Delivery.{Delivery}
use Rattle.nc_spool_state.specs.Key.{KeyAt}
use Rattle.nc_spool_state.specs.Spool.{SpoolAt, is_of, with_reader, place_above}
use Rattle.nc_spool_state.specs.Shelf.{spool_of, others, place_before}
use Rattle.nc_spool_state.specs.Choice.{choice}
use Rattle.nc_spool.specs.Board.{told as tells, ended, shelved, standing, opened, entered, fresh_spool}
use Rattle.nc_spool.specs.Decide.{delivery, sending, sent_one, fence_looks, fenced_places, decided, decided_by}
use Rattle.nc_spool_laws.specs.Numbers.{one, total}
use Rattle.nc_spool_laws.specs.Tally.{reader_at, readers_of}
use Rattle.nc_spool_laws.proofs.Lists.{all-insert, all-without, all-found, all-changed, found-passes}
use Rattle.nc_spool_laws.proofs.Same.{asked-shelf, parted-shelf, fences-shelf}
use Rattle.nc_spool_laws.proofs.SameKey.{key_same}
use Rattle.nc_rests.proofs.Received.{eqb_self}
use Rattle.nc_world_told.specs.Written.{fact_event, written, next_written}
use Rattle.nc_world_told.specs.Readers.{StandsAtKey, StandHere, IsOther, AreOnce, IsNotIn}
use Rattle.nc_world_told.specs.Laws.{DecidesStand}
use Rattle.nc_world_told.proofs.Written.{written_append, IsAway, stage_written}
use Rattle.nc_world_told.proofs.Sends.{Appends, one_fact, then_facts, IsOut, IsAfter, weaker, after_away, entered_outs, moved_after, fences_outs}

-- ---- who stands where

back : (a b : ℕ) → (a == b) ≡ false → (b == a) ≡ false
back a b e = grind (arith, nat_tests)

module _ (me : ℕ) (cause : EndedCause) (next : ℕ → ℕ) (h : List Event) where
  abbrev Upto : List (Fact) → List Event
  Upto fs = written me cause next fs h

  pub away_stands : (k : ℕ) (xs ys : List (Fact)) → Appends (IsAway k) xs ys → stage_of k (own me (written me cause next ys h)) ≡ stage_of k (own me (written me cause next xs h))
  away_stands k xs ys a =
      ap (λ (l : List (Fact)). stage_of k (own me (written me cause next l h))) a.are
      ∙ ap (λ (l : List Event). stage_of k (own me l)) (written_append me cause next xs a.facts h)
      ∙ stage_written k me cause (next_written me cause next xs) a.facts (written me cause next xs h) a.all

  -- what is sent to one moves no other
  still : (d : Delivery) (key : KeyAt) (b : Board) (r : Reader) (rs : List Reader) → AllByRecursion (IsOther r.k) rs → AllByRecursion (StandsAtKey me key (written me cause next b.facts h)) rs → AllByRecursion (StandsAtKey me key (written me cause next (sent_one d b r).facts h)) rs
  still d key b r [] other stand = tt
  still d key b r (x ∷ rs) other stand =
      let b1 = tells (facts.Sent (sending d r)) b in
      let after = moved_after d r b1 in (
        away_stands x.k b.facts (sent_one d b r).facts
            (then_facts (IsAway x.k) b.facts b1.facts _ (one_fact (IsAway x.k) b.facts (facts.Sent (sending d r)) other.0)
            (record { facts = after.facts; are = after.are; all = weaker (IsAfter r.k) (IsAway x.k) (λ f p. after_away r.k x.k f other.0 p) after.facts after.all })) ∙ stand.0,
        still d key b r rs other.1 stand.1,
      )

  pub out_away : (k : ℕ) (f : Fact) → IsOut f → IsAway k f
  out_away k (facts.Out o) p = tt
  out_away k (facts.Started n cursor) p = absurd p
  out_away k (facts.Sent s) p = absurd p
  out_away k (facts.Ended n deleted) p = absurd p

  pub outs_still : (xs ys : List (Fact)) (key : KeyAt) (rs : List Reader) → Appends IsOut xs ys → AllByRecursion (StandsAtKey me key (written me cause next xs h)) rs → AllByRecursion (StandsAtKey me key (written me cause next ys h)) rs
  outs_still xs ys key [] a stand = tt
  outs_still xs ys key (x ∷ rs) a stand =
      (away_stands x.k xs ys (record { facts = a.facts; are = a.are; all = weaker IsOut (IsAway x.k) (out_away x.k) a.facts a.all }) ∙ stand.0, outs_still xs ys key rs a stand.1)

  -- a spool while messages are sent to some others: its subscribers stand at its key, and none of the others is there
  abbrev pub StandsApart : List (Fact) → List Reader → SpoolAt → Type 0
  StandsApart fs rs s = StandHere me s (written me cause next fs h) × AllByRecursion (λ (r : Reader). IsNotIn r.k s) rs

  -- who is sent a message and isn't ended stands at the moved key
  moved_stands : (s : SpoolAt) (find : Find) (b : Board) (r : Reader) → r.once ≡ false → StandsAtKey me s.key (written me cause next b.facts h) r → StandsAtKey me (delivery find s).key (written me cause next (entered (delivery find s).key r (tells (facts.Sent (sending (delivery find s) r)) b)).facts h) r
  moved_stands s find b r not_once stands =
      let d = delivery find s in
      let f : Fact = facts.Sent (sending d r) in
      let outs = entered_outs d.key r (tells f b) in
      away_stands r.k (tells f b).facts _ (record { facts = outs.facts; are = outs.are; all = weaker IsOut (IsAway r.k) (out_away r.k) outs.facts outs.all })
      ∙ ap (λ (l : List Event). stage_of r.k (own me l)) (written_append me cause next b.facts (f ∷ []) h)
      ∙ ap (λ t. stage_of r.k (cond t (fact_event me cause (next_written me cause next b.facts) f ∷ own me (written me cause next b.facts h)) (own me (written me cause next b.facts h)))) (eqb_self me)
      ∙ ap (λ t. cond t (served d.key.cursor (stage_of r.k (own me (written me cause next b.facts h)))) (stage_of r.k (own me (written me cause next b.facts h)))) (eqb_self r.k)
      ∙ ap (served d.key.cursor) (stands ∙ ap (λ (o : Bool). Standing s.key.list o s.key.cursor) not_once)
      ∙ ap (λ (o : Bool). Standing s.key.list o d.key.cursor) (sym not_once)

  others_other : (r : Reader) (rs : List Reader) → AllByRecursion (IsOther r.k) rs → AllByRecursion (λ (x : Reader). IsOther x.k r) rs
  others_other r [] a = tt
  others_other r (x ∷ rs) a = (back r.k x.k a.0, others_other r rs a.1)

  with_one : (r : Reader) (s : SpoolAt) (rs : List Reader) → AllByRecursion (IsOther r.k) rs → AllByRecursion (λ (x : Reader). IsNotIn x.k s) rs → AllByRecursion (λ (x : Reader). IsNotIn x.k (with_reader r s)) rs
  with_one r s [] a b = tt
  with_one r s (x ∷ rs) a b = (all-insert (IsOther x.k) s.readers (place_above r.k s.readers) r (back r.k x.k a.0) b.0, with_one r s rs a.1 b.1)

  none_there : (n : ℕ) (key : KeyAt) (rs : List Reader) → AllByRecursion (λ (x : Reader). IsNotIn x.k (fresh_spool n key)) rs
  none_there n key [] = tt
  none_there n key (x ∷ rs) = (tt, none_there n key rs)

  module _ (s : SpoolAt) (find : Find) where
    sent_one_fits : (b : Board) (r : Reader) (rs : List Reader) → AllByRecursion (IsOther r.k) rs → StandsAtKey me s.key (written me cause next b.facts h) r → AllByRecursion (StandsApart b.facts (r ∷ rs)) b.shelf
        → AllByRecursion (StandsApart (sent_one (delivery find s) b r).facts rs) (sent_one (delivery find s) b r).shelf
    sent_one_fits b r rs other stands fits = by r.once refl
      where
        d : Delivery
        d = delivery find s

        b1 : Board
        b1 = tells (facts.Sent (sending (delivery find s) r)) b

        -- those on the shelf
        on : AllByRecursion (StandsApart (sent_one (delivery find s) b r).facts rs) b.shelf
        on = all-changed (StandsApart b.facts (r ∷ rs)) (StandsApart (sent_one (delivery find s) b r).facts rs) b.shelf (λ x f. (still (delivery find s) x.key b r x.readers f.1.0 f.0, f.1.1)) fits

        by : (t : Bool) → r.once ≡ t → AllByRecursion (StandsApart (sent_one (delivery find s) b r).facts rs) (cond t (ended r.k false (delivery find s).key.list (tells (facts.Sent (sending (delivery find s) r)) b)) (entered (delivery find s).key r (tells (facts.Sent (sending (delivery find s) r)) b))).shelf
        by true once = subst (AllByRecursion (StandsApart (sent_one (delivery find s) b r).facts rs)) (sym (parted-shelf r.k (delivery find s).key.list (tells (facts.Ended r.k false) (tells (facts.Sent (sending (delivery find s) r)) b)))) on
        by false once = enters (spool_of (delivery find s).key b.shelf) refl
          where
            there : StandsAtKey me (delivery find s).key (written me cause next (sent_one (delivery find s) b r).facts h) r
            there = subst (λ (o : Bool). StandsAtKey me (delivery find s).key (written me cause next (cond o (ended r.k false (delivery find s).key.list (tells (facts.Sent (sending (delivery find s) r)) b)) (entered (delivery find s).key r (tells (facts.Sent (sending (delivery find s) r)) b))).facts h) r)
                (sym once) (moved_stands s find b r once stands)

            enters : (o : Option SpoolAt) → spool_of (delivery find s).key b.shelf ≡ o → AllByRecursion (StandsApart (sent_one (delivery find s) b r).facts rs)
                (shelved (with_reader r (standing o (delivery find s).key (tells (facts.Sent (sending (delivery find s) r)) b))) (opened o (delivery find s).key (record (tells (facts.Sent (sending (delivery find s) r)) b) { shelf = others (delivery find s).key b.shelf }))).shelf
            enters None was = all-insert (StandsApart (sent_one (delivery find s) b r).facts rs) _ (place_before (delivery find s).key _) (with_reader r (fresh_spool b.next (delivery find s).key))
                ((there, tt), with_one r (fresh_spool b.next (delivery find s).key) rs other (none_there b.next (delivery find s).key rs))
                (subst (AllByRecursion (StandsApart (sent_one (delivery find s) b r).facts rs)) (sym (asked-shelf (delivery find s).key 0 (delivery find s).key.list (record (tells (facts.Sent (sending (delivery find s) r)) b) { shelf = others (delivery find s).key b.shelf })))
                (all-without (StandsApart (sent_one (delivery find s) b r).facts rs) (is_of (delivery find s).key) b.shelf on))
            enters (Some x) was =
                let fit = all-found (StandsApart (sent_one (delivery find s) b r).facts rs) (is_of (delivery find s).key) b.shelf x was on in
                let same : (delivery find s).key ≡ x.key = key_same (delivery find s).key x.key (found-passes (is_of (delivery find s).key) b.shelf x was) in
                all-insert (StandsApart (sent_one (delivery find s) b r).facts rs) (others (delivery find s).key b.shelf) (place_before x.key (others (delivery find s).key b.shelf)) (with_reader r x) (
                  all-insert (StandsAtKey me x.key (written me cause next (sent_one (delivery find s) b r).facts h)) x.readers (place_above r.k x.readers) r
                      (subst (λ (key : KeyAt). StandsAtKey me key (written me cause next (sent_one (delivery find s) b r).facts h) r) same there) fit.0,
                  with_one r x rs other fit.1,
                )
                (all-without (StandsApart (sent_one (delivery find s) b r).facts rs) (is_of (delivery find s).key) b.shelf on)

    sent_fits : (rs : List Reader) (b : Board) → AreOnce rs → AllByRecursion (StandsAtKey me s.key (written me cause next b.facts h)) rs → AllByRecursion (StandsApart b.facts rs) b.shelf
        → let c = fold (sent_one (delivery find s)) b rs in AllByRecursion (StandsApart c.facts []) c.shelf
    sent_fits [] b once stand fits = fits
    sent_fits (r ∷ rs) b once stand fits =
        sent_fits rs (sent_one (delivery find s) b r) once.1 (still (delivery find s) s.key b r rs once.0 stand.1) (sent_one_fits b r rs once.0 stand.0 fits)

  pub decided_fits : (s : SpoolAt) (b : Board) → AreOnce s.readers → StandHere me s (written me cause next b.facts h) → AllByRecursion (StandsApart b.facts s.readers) b.shelf → AllByRecursion (StandsApart (decided s b).facts []) (decided s b).shelf
  decided_fits s b once stand fits = by (choice s.places)
    where
      bare : AllByRecursion (StandsApart b.facts []) b.shelf
      bare = all-changed (StandsApart b.facts s.readers) (StandsApart b.facts []) b.shelf (λ x f. (f.0, tt)) fits

      by : (o : Choice) → AllByRecursion (StandsApart (decided_by o s b).facts []) (decided_by o s b).shelf
      by Wait = all-insert (StandsApart b.facts []) b.shelf (place_before s.key b.shelf) s (stand, tt) bare
      by (Fence time) =
          let c = fence_looks time s.key 0 s.places b in let outs = fences_outs time s.key 0 s.places b in
          all-insert (StandsApart c.facts []) c.shelf (place_before s.key c.shelf) (record s { places = fenced_places time s.key 0 s.places b }) (outs_still b.facts c.facts s.key s.readers outs stand, tt)
          (subst (AllByRecursion (StandsApart c.facts [])) (sym (fences-shelf time s.key 0 s.places b))
          (all-changed (StandsApart b.facts []) (StandsApart c.facts []) b.shelf (λ x f. (outs_still b.facts c.facts x.key x.readers outs f.0, tt)) bare))
      by (Send find) = sent_fits s find s.readers b once stand fits

-- ---- each subscriber stands once

no_reader : (k : ℕ) (rs : List Reader) → total (reader_at k) rs ≡ 0 → AllByRecursion (IsOther k) rs
no_reader k [] e = tt
no_reader k (r ∷ rs) e = (by (r.k == k) refl e, no_reader k rs (omega (arith, e)))
  where
    by : (t : Bool) → (r.k == k) ≡ t → one t + total (reader_at k) rs ≡ 0 → (k == r.k) ≡ false
    by true was e = absurd (omega (arith, e))
    by false was e = back r.k k was

-- who is counted nowhere is in none of some spools
pub no_readers : (k : ℕ) (ss : List SpoolAt) → total (readers_of k) ss ≡ 0 → AllByRecursion (IsNotIn k) ss
no_readers k [] e = tt
no_readers k (s ∷ ss) e = (no_reader k s.readers (omega (arith, e)), no_readers k ss (omega (arith, e)))

here : (r : Reader) → reader_at r.k r ≡ 1
here r = ap one (eqb_self r.k)

pub once_in : (rs : List Reader) → ((k : ℕ) → total (reader_at k) rs ≤ 1) → AreOnce rs
once_in [] few = tt
once_in (r ∷ rs) few = (
  no_reader r.k rs (let f = few r.k in let one_here = here r in omega (arith, f, one_here)),
  once_in rs (λ k. let f = few k in omega (arith, f)),
)

some_here : (rs : List Reader) (ss : List SpoolAt) → ((k : ℕ) → total (reader_at k) rs + total (readers_of k) ss ≤ 1) → (x : SpoolAt) → ((k : ℕ) → total (readers_of k) ss ≡ 0 → IsNotIn k x) → AllByRecursion (λ (r : Reader). IsNotIn r.k x) rs
some_here [] ss few x f = tt
some_here (r ∷ rs) ss few x f = (
  f r.k (let g = few r.k in let one_here = here r in omega (arith, g, one_here)),
  some_here rs ss (λ k. let g = few k in omega (arith, g)) x f,
)

-- none of some subscribers is in any of some spools
pub apart_from : (rs : List Reader) (all ss : List SpoolAt) → ((k : ℕ) → total (reader_at k) rs + total (readers_of k) all ≤ 1) → ((k : ℕ) → total (readers_of k) ss ≤ total (readers_of k) all) → AllByRecursion (λ (x : SpoolAt). AllByRecursion (λ (r : Reader). IsNotIn r.k x) rs) ss
apart_from rs all [] few le = tt
apart_from rs all (x ∷ ss) few le = (
  some_here rs all few x (λ k e. (no_readers k (x ∷ []) (let l = le k in omega (arith, l, e))).0),
  apart_from rs all ss few (λ k. let l = le k in omega (arith, l)),
)

pub all_both : {X : Type 0} (P Q : X → Type 0) (xs : List X) → AllByRecursion P xs → AllByRecursion Q xs → AllByRecursion (λ x. P x × Q x) xs
all_both P Q [] p q = tt
all_both P Q (x ∷ xs) p q = ((p.0, q.0), all_both P Q xs p.1 q.1)

pub decides_stand : DecidesStand
decides_stand me cause next h s b once stand shelf apart =
    all-changed (StandsApart me cause next h (decided s b).facts []) (λ (x : SpoolAt). StandHere me x (written me cause next (decided s b).facts h)) (decided s b).shelf (λ x f. f.0)
    (decided_fits me cause next h s b once stand
    (all_both (λ (y : SpoolAt). StandHere me y (written me cause next b.facts h)) (λ (y : SpoolAt). AllByRecursion (λ (r : Reader). IsNotIn r.k y) s.readers) b.shelf shelf apart))
