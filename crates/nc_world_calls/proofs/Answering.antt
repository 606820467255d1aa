-- The step of an answer to a look.
use Rattle.std.proofs.Common.{◌≡◌, ◌≢◌, ℕ, ◌<◌, Bool, true, false, cond, List, [], ◌∷◌, Option, Some, None, refl, sym, ap, ◌∙◌, subst, arith, length, set, get_or, length-set, find}
use Rattle.std.specs.Prelude.{◌==◌}
use Rattle.std.specs.List.{AllByRecursion}
use Rattle.std.specs.Option.{option_map}
use Rattle.std.proofs.lemmas.Bool.{cond_both}
use Rattle.std.proofs.lemmas.Bool.Decides.{nat_tests}
use Rattle.std.proofs.lemmas.Grind.{get_or-set_at}
use Rattle.std.proofs.lemmas.List.{get_or-set_other}
use Rattle.nc_types.specs.Id.{Id}
use Rattle.nc_journal.specs.History.{own, Along}
use Rattle.nc_journal.specs.Standing.{stage_of}
use Rattle.nc_journal.specs.declared.event.Event.{Event}
use Rattle.nc_journal.specs.declared.event.Event.TheVariants.{Took}
use Rattle.nc_journal.specs.declared.word.AlertKind.{AlertKind}
use Rattle.nc_journal.specs.declared.word.EndedCause.{EndedCause}
use Rattle.nc_journal.specs.declared.word.EndedCause.TheVariants.{Answered}
use Rattle.nc_journal.specs.declared.alert.AlertLine.TheVariants.{LookAnswer}
use Rattle.nc_owner_laws.specs.InOrder.{AnswersAt, LooksAt}
use Rattle.nc_spool_state.specs.declared.hear.News.{News}
use Rattle.nc_spool.specs.declared.board.Board.{Board}
use Rattle.nc_spool_state.specs.declared.spool.Reader.{Reader}
use Rattle.nc_spool_state.specs.declared.place.Quiet.{Quiet}
use Rattle.nc_spool_state.specs.declared.place.Place.{Place}
use Rattle.nc_spool_state.specs.declared.place.Place.TheVariants as places
use Rattle.nc_spool_state.specs.Key.{KeyAt, name_at, id_at}
use Rattle.nc_spool_state.specs.Place.{awaits_number, place_awaiting}
use Rattle.nc_spool_state.specs.Spool.{SpoolAt, awaits, no_place, place_at, with_place}
use Rattle.nc_spool_state.specs.Shelf.{without_first}
use Rattle.nc_spool_state.specs.Hear.{learned}
use Rattle.nc_spool.specs.Hear.{answered, answered_by, answered_at}
use Rattle.nc_spool.specs.Calls.{board_of, news_of, answer_facts}
use Rattle.nc_spool_laws.proofs.Lists.{all-found}
use Rattle.nc_spool_laws.proofs.Knowledge.{position-there}
use Rattle.nc_rests.proofs.Received.{eqb_self}
use Rattle.nc_history.specs.Packets.{IsNext}
use Rattle.nc_rests.specs.Owners.{Owners}
use Rattle.nc_rests.specs.Asking.{AsksWell}
use Rattle.nc_rests.specs.Places.{PlaceHolds}
use Rattle.nc_sends.specs.GoodSends.{IsGoodSend}
use Rattle.nc_rests.proofs.Places.{place_takes}
use Rattle.nc_rests.proofs.Awaited.{place_answered}
use Rattle.nc_world_told.specs.Written.{written}
use Rattle.nc_world_told.specs.Readers.{StandsAtKey, StandHere, AreOnce}
use Rattle.nc_world_told.specs.Known.{SpoolKnows}
use Rattle.nc_world_calls.specs.Answering.{SpoolsKnow, id_of, AnswerSendsWell}
use Rattle.nc_world_told.proofs.Written.{written_is}
use Rattle.nc_world_told.proofs.Sends.{decided_good}

pub owners_took : (workers w from n : ℕ) (kind : AlertKind) (h : List Event) → Owners workers h → Owners workers (Took w from n kind ∷ h)
owners_took workers w from n kind h o = record { stamped = (o.stamped, tt); by_owner = (tt, o.by_owner); looks = λ v. cond_both (v == w) (Took w from n kind ∷ own v h) (own v h) (Along LooksAt) (λ _. (o.looks v, tt)) (λ _. o.looks v) }

pub took_good : (workers w from n : ℕ) (kind : AlertKind) (h : List Event) → Along (IsGoodSend workers) h → Along (IsGoodSend workers) (Took w from n kind ∷ h)
took_good workers w from n kind h g = (g, record { sent = tt; fenced = tt; taken = tt })

pub took_stage : (w from n k : ℕ) (kind : AlertKind) (h : List Event) → stage_of k (own w (Took w from n kind ∷ h)) ≡ stage_of k (own w h)
took_stage w from n k kind h = ap (λ b. stage_of k (cond b (Took w from n kind ∷ own w h) (own w h))) (eqb_self w)

pub took_stands : (w from n : ℕ) (kind : AlertKind) (h : List Event) (key : KeyAt) (rs : List Reader) → AllByRecursion (StandsAtKey w key h) rs → AllByRecursion (StandsAtKey w key (Took w from n kind ∷ h)) rs
took_stands w from n kind h key [] s = tt
took_stands w from n kind h key (r ∷ rs) s = (took_stage w from n r.k kind h ∙ s.0, took_stands w from n kind h key rs s.1)

same : (i j : ℕ) → (i == j) ≡ true → i ≡ j
same i j e = grind (arith, nat_tests)

other : (i j : ℕ) → (i == j) ≡ false → i ≢ j
other i j e f = grind (arith, nat_tests)

module _ (workers me from n number q floor : ℕ) (kind : AlertKind) (news : Option News) (g slot : Option ℕ) (h : List Event) (owners : Owners workers h) (answers_at : (o : ℕ) → Along AnswersAt (own o h)) (asks : AsksWell me h) (is : IsNext from me (LookAnswer number q floor (option_map id_of news) g slot) h) where
  abbrev quiet : Quiet
  quiet = record { q = q; floor = floor }

  abbrev took : List Event
  took = Took me from n kind ∷ h

  -- the place that awaits the answer learns from it, and any other stays as it was
  learns : (c : List ℕ) (after : Id) (p : Place) → awaits_number number p ≡ true → PlaceHolds workers me c after p h → PlaceHolds workers me c after (learned after quiet news) took
  learns c after (places.Asked m earlier) e k =
      (place_answered workers me c after number earlier from q floor news g slot n kind h owners answers_at asks is (subst (λ (x : ℕ). PlaceHolds workers me c after (places.Asked x earlier) h) (same m number e) k)).holds
  learns c after (places.Nothing x) e k = absurd cc
  learns c after (places.Found x id owner y) e k = absurd cc

  stays : (c : List ℕ) (after : Id) (p : Place) → PlaceHolds workers me c after p h → PlaceHolds workers me c after p took
  stays c after p k = place_takes workers me c after p from n kind (LookAnswer number q floor (option_map id_of news) g slot) h is (λ _. refl) k

  pub spool_learns : (s : SpoolAt) (j : ℕ) → place_awaiting number s.places ≡ Some j → SpoolKnows workers me s h → SpoolKnows workers me (with_place j (learned (id_at s.key j) quiet news) s) took
  spool_learns s j at k = record { distinct = k.distinct; each = length-set s.places j _ ∙ k.each; tags = k.tags; knows = λ i l. by i (within i l) (i == j) refl }
    where
      p : Place
      p = learned (id_at s.key j) quiet news

      within : (i : ℕ) → i < length (set s.places j (learned (id_at s.key j) quiet news)) → i < length s.places
      within i l = omega (arith, l, length-set s.places j (learned (id_at s.key j) quiet news))

      by : (i : ℕ) → i < length s.places → (t : Bool) → (i == j) ≡ t → PlaceHolds workers me (name_at s.key i) (id_at s.key i) (get_or (set s.places j (learned (id_at s.key j) quiet news)) i no_place) took
      by i l true e =
          let eq = same i j e in
          let lj : j < length s.places = omega (arith, l, eq) in
          subst (λ (x : Place). PlaceHolds workers me (name_at s.key i) (id_at s.key i) x took) (sym (get_or-set_at s.places j i (learned (id_at s.key j) quiet news) no_place eq lj))
          (subst (λ (m : ℕ). PlaceHolds workers me (name_at s.key m) (id_at s.key m) (learned (id_at s.key j) quiet news) took) (sym eq)
          (learns (name_at s.key j) (id_at s.key j) (place_at s j) (position-there (awaits_number number) s.places j no_place at) (k.knows j lj)))
      by i l false e = subst (λ (x : Place). PlaceHolds workers me (name_at s.key i) (id_at s.key i) x took) (sym (get_or-set_other s.places j i (learned (id_at s.key j) quiet news) no_place (other i j e))) (stays _ _ _ (k.knows i l))

  module _ (cause : EndedCause) (next : ℕ → ℕ) (good : Along (IsGoodSend workers) h) where
    abbrev AllGood : Board → Type 0
    AllGood b = Along (IsGoodSend workers) (written me cause next b.facts took)

    pub answered_good : (b : Board) → SpoolsKnow workers me h b.shelf → (let none : List Event = written me cause next b.facts took in none) ≡ took → AllGood (answered number quiet news b)
    answered_good b k none = by (find (awaits number) b.shelf) refl
      where
        start : AllGood b
        start = subst (Along (IsGoodSend workers)) (sym none) (took_good workers me from n kind h good)

        at : (s : SpoolAt) → find (awaits number) b.shelf ≡ Some s → (o : Option ℕ) → place_awaiting number s.places ≡ o → AllGood (answered_at o quiet news s (record b { shelf = without_first (awaits number) b.shelf }))
        at s was None e = start
        at s was (Some j) e =
            decided_good workers me cause next took (owners_took workers me from n kind h owners) (with_place j (learned (id_at s.key j) quiet news) s) (record b { shelf = without_first (awaits number) b.shelf })
            (spool_learns s j e (all-found (λ (x : SpoolAt). SpoolKnows workers me x h) (awaits number) b.shelf s was k.knows))
            (all-found (λ (x : SpoolAt). AreOnce x.readers) (awaits number) b.shelf s was k.once)
            (subst (λ (l : List Event). AllByRecursion (StandsAtKey me s.key l) s.readers) (sym none) (took_stands me from n kind h s.key s.readers (all-found (λ (x : SpoolAt). StandHere me x h) (awaits number) b.shelf s was k.stand)))
            start

        by : (o : Option SpoolAt) → find (awaits number) b.shelf ≡ o → AllGood (answered_by o number quiet news (record b { shelf = without_first (awaits number) b.shelf }))
        by None was = start
        by (Some s) was = at s was (place_awaiting number s.places) refl

pub answer_sends_well : AnswerSendsWell
answer_sends_well workers me from n number q floor kind found g slot next h s owners answers_at asks is k good =
    subst (Along (IsGoodSend workers)) (written_is me Answered next (answer_facts number q floor found s) (Took me from n kind ∷ h))
    (answered_good workers me from n number q floor kind (option_map news_of found) g slot h owners answers_at asks is Answered next good (board_of s) k refl)
