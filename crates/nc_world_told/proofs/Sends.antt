-- What a spool sends is lawful, to each of its subscribers in turn.
use Rattle.std.proofs.Common.{◌≡◌, ℕ, ◌+◌, Bool, true, false, cond, List, [], ◌∷◌, ◌++◌, Option, Some, None, refl, sym, ap, ◌∙◌, subst, append_assoc}
use Rattle.std.proofs.lemmas.List.{append-nil}
use Rattle.std.specs.Prelude.{◌==◌, fold}
use Rattle.std.specs.List.{AllByRecursion}
use Rattle.nc_journal.specs.History.{own, Along}
use Rattle.nc_journal.specs.Standing.{stage_of}
use Rattle.nc_journal.specs.declared.event.Event.{Event}
use Rattle.nc_journal.specs.declared.word.EndedCause.{EndedCause}
use Rattle.nc_spool.specs.declared.fact.Fact.{Fact}
use Rattle.nc_spool.specs.declared.fact.Fact.TheVariants as facts
use Rattle.nc_spool_state.specs.declared.place.Place.{Place}
use Rattle.nc_spool.specs.declared.board.Board.{Board}
use Rattle.nc_spool_state.specs.declared.spool.Reader.{Reader}
use Rattle.nc_spool_state.specs.declared.choice.Find.{Find}
use Rattle.nc_spool_state.specs.declared.choice.Choice.{Choice}
use Rattle.nc_spool_state.specs.declared.choice.Choice.TheVariants.{Wait, Fence, Send}
use Rattle.nc_spool.specs.declared.decide.Delivery.{Delivery}
use Rattle.nc_spool_state.specs.Key.{KeyAt, name_at, id_at}
use Rattle.nc_spool_state.specs.Spool.{SpoolAt}
use Rattle.nc_spool_state.specs.Shelf.{spool_of, others}
use Rattle.nc_spool_state.specs.Choice.{choice, is_below}
use Rattle.nc_spool.specs.Board.{told, looked, asked_from, parted, ended, shelved, standing, opened, entered}
use Rattle.nc_spool_state.specs.Spool.{with_reader}
use Rattle.nc_spool.specs.Decide.{delivery, sending, moved_on, sent_one, fence_look, fence_looks, decided, decided_by}
use Rattle.nc_spool_laws.proofs.Lists.{all-append}
use Rattle.nc_rests.specs.Owners.{Owners}
use Rattle.nc_sends.specs.GoodSends.{IsGoodSend}
use Rattle.nc_sends.specs.GoodSends.{IsGoodSend}
use Rattle.nc_sends.proofs.Choices.{choice_sends}
use Rattle.nc_world_told.specs.Written.{written, next_written, so_far}
use Rattle.nc_world_told.specs.Readers.{StandsAtKey, StandHere, IsOther, AreOnce}
use Rattle.nc_world_told.specs.Known.{SpoolKnows}
use Rattle.nc_world_told.specs.Laws.{DecidesWell}
use Rattle.nc_world_told.proofs.Written.{written_append, owners_written, spool_written, spool_holds, IsAway, stage_written, IsUnsent, unsent_written}

-- ---- facts that are told behind others

pub record Appends (P : Fact → Type 0) (xs ys : List (Fact)) : Type 0 where
  pub facts : List (Fact)
  pub are : ys ≡ xs ++ facts
  pub all : AllByRecursion P facts

pub same_facts : (P : Fact → Type 0) (xs : List (Fact)) → Appends P xs xs
same_facts P xs = record { facts = []; are = sym (append-nil xs); all = tt }

pub one_fact : (P : Fact → Type 0) (xs : List (Fact)) (f : Fact) → P f → Appends P xs (xs ++ f ∷ [])
one_fact P xs f p = record { facts = f ∷ []; are = refl; all = (p, tt) }

pub then_facts : (P : Fact → Type 0) (xs ys zs : List (Fact)) → Appends P xs ys → Appends P ys zs → Appends P xs zs
then_facts P xs ys zs a b = record {
  facts = a.facts ++ b.facts;
  are = b.are ∙ ap (λ (l : List (Fact)). l ++ b.facts) a.are ∙ append_assoc xs a.facts b.facts;
  all = all-append P a.facts b.facts a.all b.all;
}

abbrev pub IsOut : Fact → Type 0
IsOut (facts.Out o) = Unit {0}
IsOut (facts.Started n cursor) = ⊥
IsOut (facts.Sent s) = ⊥
IsOut (facts.Ended n deleted) = ⊥

-- what follows a sent to a subscriber: it is ended, or not, and alerts are made
abbrev pub IsAfter : ℕ → Fact → Type 0
IsAfter k (facts.Out o) = Unit {0}
IsAfter k (facts.Started n cursor) = ⊥
IsAfter k (facts.Sent s) = ⊥
IsAfter k (facts.Ended n deleted) = n ≡ k

pub weaker : (P Q : Fact → Type 0) → ((f : Fact) → P f → Q f) → (fs : List (Fact)) → AllByRecursion P fs → AllByRecursion Q fs
weaker P Q i [] a = tt
weaker P Q i (f ∷ fs) a = (i f a.0, weaker P Q i fs a.1)

out_after : (k : ℕ) (f : Fact) → IsOut f → IsAfter k f
out_after k (facts.Out o) p = tt
out_after k (facts.Started n cursor) p = absurd p
out_after k (facts.Sent s) p = absurd p
out_after k (facts.Ended n deleted) p = absurd p

pub after_away : (k j : ℕ) (f : Fact) → (k == j) ≡ false → IsAfter k f → IsAway j f
after_away k j (facts.Out o) d p = tt
after_away k j (facts.Started n cursor) d p = absurd p
after_away k j (facts.Sent s) d p = absurd p
after_away k j (facts.Ended n deleted) d p = ap (λ (m : ℕ). m == j) p ∙ d

after_unsent : (k : ℕ) (f : Fact) → IsAfter k f → IsUnsent f
after_unsent k (facts.Out o) p = tt
after_unsent k (facts.Started n cursor) p = tt
after_unsent k (facts.Sent s) p = absurd p
after_unsent k (facts.Ended n deleted) p = tt

pub out_unsent : (f : Fact) → IsOut f → IsUnsent f
out_unsent (facts.Out o) p = tt
out_unsent (facts.Started n cursor) p = absurd p
out_unsent (facts.Sent s) p = absurd p
out_unsent (facts.Ended n deleted) p = absurd p

asked_outs : (key : KeyAt) (j : ℕ) (names : List (List ℕ)) (b : Board) → Appends IsOut b.facts (asked_from key j names b).facts
asked_outs key j [] b = same_facts IsOut b.facts
asked_outs key j (c ∷ names) b = then_facts IsOut b.facts (looked c (id_at key j) 0 b).facts _ (one_fact IsOut b.facts _ tt) (asked_outs key (j + 1) names (looked c (id_at key j) 0 b))

pub entered_outs : (key : KeyAt) (r : Reader) (b : Board) → Appends IsOut b.facts (entered key r b).facts
entered_outs key r b = by (spool_of key b.shelf)
  where
    by : (o : Option SpoolAt) → Appends IsOut b.facts (shelved (with_reader r (standing o key b)) (opened o key (record b { shelf = others key b.shelf }))).facts
    by None = asked_outs key 0 key.list (record b { shelf = others key b.shelf })
    by (Some s) = same_facts IsOut b.facts

pub parted_outs : (k : ℕ) (names : List (List ℕ)) (b : Board) → Appends IsOut b.facts (fold (parted k) b names).facts
parted_outs k [] b = same_facts IsOut b.facts
parted_outs k (c ∷ names) b = then_facts IsOut b.facts (parted k b c).facts _ (one_fact IsOut b.facts _ tt) (parted_outs k names (parted k b c))

fence_outs : (time : ℕ) (key : KeyAt) (j : ℕ) (p : Place) (b : Board) → Appends IsOut b.facts (fence_look time key j p b).facts
fence_outs time key j p b = by (is_below time p)
  where
    by : (t : Bool) → Appends IsOut b.facts (cond t (looked (name_at key j) (id_at key j) time b) b).facts
    by true = one_fact IsOut b.facts _ tt
    by false = same_facts IsOut b.facts

pub fences_outs : (time : ℕ) (key : KeyAt) (j : ℕ) (places : List Place) (b : Board) → Appends IsOut b.facts (fence_looks time key j places b).facts
fences_outs time key j [] b = same_facts IsOut b.facts
fences_outs time key j (p ∷ places) b = then_facts IsOut b.facts (fence_look time key j p b).facts _ (fence_outs time key j p b) (fences_outs time key (j + 1) places (fence_look time key j p b))

-- behind a sent
pub moved_after : (d : Delivery) (r : Reader) (b : Board) → Appends (IsAfter r.k) b.facts (moved_on d r b).facts
moved_after d r b = by r.once
  where
    outs : (ys : List (Fact)) (zs : List (Fact)) → Appends IsOut ys zs → Appends (IsAfter r.k) ys zs
    outs ys zs a = record { facts = a.facts; are = a.are; all = weaker IsOut (IsAfter r.k) (out_after r.k) a.facts a.all }

    by : (t : Bool) → Appends (IsAfter r.k) b.facts (cond t (ended r.k false d.key.list b) (entered d.key r b)).facts
    by true = then_facts (IsAfter r.k) b.facts (told (facts.Ended r.k false) b).facts _ (one_fact (IsAfter r.k) b.facts (facts.Ended r.k false) refl) (outs _ _ (parted_outs r.k d.key.list (told (facts.Ended r.k false) b)))
    by false = outs _ _ (entered_outs d.key r b)

-- ---- the sends

module _ (workers me : ℕ) (cause : EndedCause) (next : ℕ → ℕ) (h : List Event) (owners : Owners workers h) where
  abbrev Upto : List (Fact) → List Event
  Upto fs = written me cause next fs h

  abbrev AllGood : List (Fact) → Type 0
  AllGood fs = Along (IsGoodSend workers) (written me cause next fs h)

  pub unsent_good : (xs ys : List (Fact)) (P : Fact → Type 0) → ((f : Fact) → P f → IsUnsent f) → Appends P xs ys → AllGood xs → AllGood ys
  unsent_good xs ys P i a g = subst (λ (l : List (Fact)). Along (IsGoodSend workers) (written me cause next l h)) (sym a.are)
      (subst (Along (IsGoodSend workers)) (sym (written_append me cause next xs a.facts h)) (unsent_written workers me cause (next_written me cause next xs) a.facts (written me cause next xs h) (weaker P IsUnsent i a.facts a.all) g))

  away_stands : (k : ℕ) (xs ys : List (Fact)) → Appends (IsAway k) xs ys → stage_of k (own me (written me cause next ys h)) ≡ stage_of k (own me (written me cause next xs h))
  away_stands k xs ys a =
      ap (λ (l : List (Fact)). stage_of k (own me (written me cause next l h))) a.are
      ∙ ap (λ (l : List Event). stage_of k (own me l)) (written_append me cause next xs a.facts h)
      ∙ stage_written k me cause (next_written me cause next xs) a.facts (written me cause next xs h) a.all

  module _ (s : SpoolAt) (find : Find) (was : choice s.places ≡ Send find) (knows : SpoolKnows workers me s h) where
    one_good : (b : Board) (r : Reader) → StandsAtKey me s.key (so_far me cause next h b) r → AllGood b.facts → AllGood (told (facts.Sent (sending (delivery find s) r)) b).facts
    one_good b r stands g =
        subst (Along (IsGoodSend workers)) (sym (written_append me cause next b.facts (facts.Sent (sending (delivery find s) r) ∷ []) h)) (
          g,
          choice_sends workers me r.k s.key.list r.once s.key.cursor s.places (written me cause next b.facts h) (owners_written workers me cause next b.facts h owners)
              (spool_holds workers me s (written me cause next b.facts h) (spool_written workers me s me cause next b.facts h knows)) stands find was,
        )

    still_stand : (b : Board) (r : Reader) (rs : List Reader) → AllByRecursion (IsOther r.k) rs → AllByRecursion (StandsAtKey me s.key (so_far me cause next h b)) rs → AllByRecursion (StandsAtKey me s.key (so_far me cause next h (sent_one (delivery find s) b r))) rs
    still_stand b r [] other stand = tt
    still_stand b r (x ∷ rs) other stand =
        let b1 = told (facts.Sent (sending (delivery find s) r)) b in
        let after = moved_after (delivery find s) r b1 in (
          away_stands x.k b.facts (sent_one (delivery find s) b r).facts
              (then_facts (IsAway x.k) b.facts b1.facts _ (one_fact (IsAway x.k) b.facts (facts.Sent (sending (delivery find s) r)) other.0)
              (record { facts = after.facts; are = after.are; all = weaker (IsAfter r.k) (IsAway x.k) (λ f p. after_away r.k x.k f other.0 p) after.facts after.all })) ∙ stand.0,
          still_stand b r rs other.1 stand.1,
        )

    pub sends_good : (rs : List Reader) (b : Board) → AreOnce rs → AllByRecursion (StandsAtKey me s.key (so_far me cause next h b)) rs → AllGood b.facts → AllGood (fold (sent_one (delivery find s)) b rs).facts
    sends_good [] b once stand g = g
    sends_good (r ∷ rs) b once stand g =
        let b1 = told (facts.Sent (sending (delivery find s) r)) b in
        sends_good rs (sent_one (delivery find s) b r) once.1 (still_stand b r rs once.0 stand.1)
        (unsent_good b1.facts (sent_one (delivery find s) b r).facts (IsAfter r.k) (after_unsent r.k) (moved_after (delivery find s) r b1) (one_good b r stand.0 g))

  -- a spool decides
  pub decided_good : (s : SpoolAt) (b : Board) → SpoolKnows workers me s h → AreOnce s.readers → StandHere me s (so_far me cause next h b) → AllGood b.facts → AllGood (decided s b).facts
  decided_good s b knows once stand g = by (choice s.places) refl
    where
      by : (o : Choice) → choice s.places ≡ o → AllGood (decided_by o s b).facts
      by Wait was = g
      by (Fence time) was = unsent_good b.facts (fence_looks time s.key 0 s.places b).facts IsOut out_unsent (fences_outs time s.key 0 s.places b) g
      by (Send find) was = sends_good s find was knows s.readers b once stand g

pub decides_well : DecidesWell
decides_well workers me cause next h s b owners knows once stand g = decided_good workers me cause next h owners s b knows once stand g
