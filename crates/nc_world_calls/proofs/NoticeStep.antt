-- The step of a notice.
use Rattle.std.proofs.Common.{◌≡◌, ◌⊎◌, inl, inr, ℕ, ◌+◌, ◌≤◌, Bool, true, false, cond, List, [], ◌∷◌, Option, Some, None, refl, sym, ap, ◌∙◌, subst, arith, find}
use Rattle.std.specs.Prelude.{fold}
use Rattle.std.specs.List.{AllByRecursion}
use Rattle.nc_types.specs.Id.{is_past}
use Rattle.nc_types.specs.Channel.{owner_of}
use Rattle.nc_journal.specs.History.{own, Along}
use Rattle.nc_journal.specs.declared.event.Event.{Event}
use Rattle.nc_journal.specs.declared.event.Event.TheVariants.{Took}
use Rattle.nc_journal.specs.declared.word.AlertKind.{AlertKind}
use Rattle.nc_journal.specs.declared.word.EndedCause.{EndedCause}
use Rattle.nc_journal.specs.declared.word.EndedCause.TheVariants.{Answered}
use Rattle.nc_journal.specs.declared.alert.AlertLine.TheVariants.{Notice}
use Rattle.nc_spool.specs.declared.fact.Fact.{Fact}
use Rattle.nc_spool.specs.declared.fact.Fact.TheVariants as facts
use Rattle.nc_spool.specs.declared.board.Board.{Board}
use Rattle.nc_spool_state.specs.declared.spool.Reader.{Reader}
use Rattle.nc_spool_state.specs.declared.hear.News.{News}
use Rattle.nc_spool_state.specs.declared.hear.Heard.TheVariants.{Finds}
use Rattle.nc_spool_state.specs.declared.place.Place.{Place}
use Rattle.nc_spool_state.specs.declared.place.Place.TheVariants.{Asked, Nothing, Found as FoundAt}
use Rattle.nc_spool_state.specs.declared.choice.Choice.{Choice}
use Rattle.nc_spool_state.specs.declared.choice.Choice.TheVariants.{Wait, Fence, Send}
use Rattle.nc_spool.specs.declared.decide.Delivery.{Delivery}
use Rattle.nc_spool_state.specs.Key.{KeyAt, id_at, place_of}
use Rattle.nc_spool_state.specs.Spool.{SpoolAt, is_of, place_at, with_place, with_reader}
use Rattle.nc_spool_state.specs.Shelf.{spool_of, others, place_before, keys_with}
use Rattle.nc_spool_state.specs.Choice.{choice}
use Rattle.nc_spool.specs.Board.{told as tells, ended, shelved, standing, opened, entered, fresh_spool}
use Rattle.nc_spool.specs.Decide.{delivery, sending, sent_one, fence_looks, fenced_places, decided, decided_by}
use Rattle.nc_spool_state.specs.Hear.{found_by, notice_says}
use Rattle.nc_spool.specs.Hear.{looked_again, heeded, noticed_in, noticed_place, noticed_by, noticed_at}
use Rattle.nc_spool.specs.Calls.{board_of, news_of, notice_facts, notice_after}
use Rattle.nc_spool_laws.specs.Numbers.{total}
use Rattle.nc_spool_laws.specs.Tally.{readers_of, tally}
use Rattle.nc_spool_laws.specs.Hearing.{has_answer, Heard}
use Rattle.nc_spool_laws.proofs.Lists.{all-insert, all-without, all-found, all-changed}
use Rattle.nc_spool_laws.proofs.Same.{asked-shelf, parted-shelf, fences-shelf}
use Rattle.nc_spool_laws.proofs.Totals.{total-without}
use Rattle.nc_spool_laws.proofs.Heeding.{placed, none-pending, place-within, fresh-unanswered, fenced-unanswered}
use Rattle.nc_spool_laws.proofs.Tallies.{noticed_at-tally}
use Rattle.nc_history.specs.Packets.{IsNext}
use Rattle.nc_rests.specs.Telling.{OwnerTells}
use Rattle.nc_rests.specs.Owners.{Owners}
use Rattle.nc_sends.specs.GoodSends.{IsGoodSend}
use Rattle.nc_world_told.specs.Written.{written}
use Rattle.nc_world_told.specs.Readers.{StandHere, IsNotIn}
use Rattle.nc_world_told.specs.Known.{SpoolKnows}
use Rattle.nc_world_calls.specs.Noticing.{NoticeSendsWell}
use Rattle.nc_world_told.proofs.Written.{written_is}
use Rattle.nc_world_told.proofs.Sends.{IsOut, one_fact, out_unsent, unsent_good, decided_good}
use Rattle.nc_world_calls.proofs.Answering.{owners_took, took_good, took_stands}
use Rattle.nc_world_told.proofs.Staying.{StandsApart, outs_still, decided_fits, once_in, apart_from, all_both}
use Rattle.nc_world_calls.proofs.Noticing.{notice_treats}

module _ (workers me : ℕ) (c : List ℕ) (h : List Event) where
  -- a spool that was treated, or that still holds as it did before the step
  abbrev IsOld : SpoolAt → Type 0
  IsOld s = Heard c s ⊎ SpoolKnows workers me s h

  with_one_old : (r : Reader) (s : SpoolAt) → IsOld s → IsOld (with_reader r s)
  with_one_old r s (inl k) = inl k
  with_one_old r s (inr k) = inr (record { distinct = k.distinct; each = k.each; tags = k.tags; knows = k.knows })

  entered_old : (key : KeyAt) (r : Reader) (b : Board) → AllByRecursion IsOld b.shelf → AllByRecursion IsOld (entered key r b).shelf
  entered_old key r b i = by (spool_of key b.shelf) refl
    where
      by : (o : Option SpoolAt) → spool_of key b.shelf ≡ o → AllByRecursion IsOld (shelved (with_reader r (standing o key b)) (opened o key (record b { shelf = others key b.shelf }))).shelf
      by None was = all-insert IsOld _ (place_before key _) (with_reader r (fresh_spool b.next key)) (inl (λ j e. fresh-unanswered b.next key.list j (place-within c key.list j e)))
          (subst (AllByRecursion IsOld) (sym (asked-shelf key 0 key.list (record b { shelf = others key b.shelf }))) (all-without IsOld (is_of key) b.shelf i))
      by (Some x) was = all-insert IsOld (others key b.shelf) (place_before x.key (others key b.shelf)) (with_reader r x) (with_one_old r x (all-found IsOld (is_of key) b.shelf x was i)) (all-without IsOld (is_of key) b.shelf i)

  sent_one_old : (d : Delivery) (b : Board) (r : Reader) → AllByRecursion IsOld b.shelf → AllByRecursion IsOld (sent_one d b r).shelf
  sent_one_old d b r i = by r.once
    where
      by : (t : Bool) → AllByRecursion IsOld (cond t (ended r.k false d.key.list (tells (facts.Sent (sending d r)) b)) (entered d.key r (tells (facts.Sent (sending d r)) b))).shelf
      by true = subst (AllByRecursion IsOld) (sym (parted-shelf r.k d.key.list (tells (facts.Ended r.k false) (tells (facts.Sent (sending d r)) b)))) i
      by false = entered_old d.key r (tells (facts.Sent (sending d r)) b) i

  sent_old : (d : Delivery) (rs : List Reader) (b : Board) → AllByRecursion IsOld b.shelf → AllByRecursion IsOld (fold (sent_one d) b rs).shelf
  sent_old d [] b i = i
  sent_old d (r ∷ rs) b i = sent_old d rs (sent_one d b r) (sent_one_old d b r i)

  decided_old : (s : SpoolAt) (b : Board) → Heard c s → AllByRecursion IsOld b.shelf → AllByRecursion IsOld (decided s b).shelf
  decided_old s b k i = by (choice s.places)
    where
      by : (o : Choice) → AllByRecursion IsOld (decided_by o s b).shelf
      by Wait = all-insert IsOld b.shelf (place_before s.key b.shelf) s (inl k) i
      by (Fence time) =
          let f = fence_looks time s.key 0 s.places b in
          all-insert IsOld f.shelf (place_before s.key f.shelf) (record s { places = fenced_places time s.key 0 s.places b }) (inl (λ j e. fenced-unanswered time s.key 0 s.places b j (k j e)))
          (subst (AllByRecursion IsOld) (sym (fences-shelf time s.key 0 s.places b)) i)
      by (Send find) = sent_old (delivery find s) s.readers b i

  heard_placed : (s : SpoolAt) (j : ℕ) (p : Place) → SpoolKnows workers me s h → place_of c s.key.list ≡ Some j → has_answer p ≡ false → Heard c (with_place j p s)
  heard_placed s j p k at none = none-pending c (with_place j p s) (placed c [] j p s k.each at none)

  -- the step
  module _ (n g slot : ℕ) (kind : AlertKind) (news : News) (owners : Owners workers h) (owner_tells : OwnerTells (owner_of workers c) (own (owner_of workers c) h)) (is : IsNext (owner_of workers c) me (Notice c news.id g slot) h) (cause : EndedCause) (next : ℕ → ℕ) where
    abbrev Now : List (Fact) → List Event
    Now fs = written me cause next fs (Took me (owner_of workers c) n kind ∷ h)

    -- what is carried over the spools of a step
    abbrev Carries : Board → Type 0
    Carries b = Along (IsGoodSend workers) (written me cause next b.facts (Took me (owner_of workers c) n kind ∷ h)) × AllByRecursion (λ s. StandHere me s (written me cause next b.facts (Took me (owner_of workers c) n kind ∷ h))) b.shelf × AllByRecursion IsOld b.shelf

    shelved_carries : (s : SpoolAt) (b : Board) → StandHere me s (written me cause next b.facts (Took me (owner_of workers c) n kind ∷ h)) → IsOld s → Carries b → Carries (shelved s b)
    shelved_carries s b stand old i = (
      i.0,
      all-insert (λ (x : SpoolAt). StandHere me x (written me cause next b.facts (Took me (owner_of workers c) n kind ∷ h))) b.shelf (place_before s.key b.shelf) s stand i.1,
      all-insert IsOld b.shelf (place_before s.key b.shelf) s old i.2,
    )

    module _ (s : SpoolAt) (b : Board) (stand : StandHere me s (written me cause next b.facts (Took me (owner_of workers c) n kind ∷ h))) (few : (k : ℕ) → readers_of k s + total (readers_of k) b.shelf ≤ 1) (i : Carries b) where
      finds : (j : ℕ) (p : Place) → has_answer p ≡ false → SpoolKnows workers me s h → place_of c s.key.list ≡ Some j → notice_says news (is_past news.id (id_at s.key j)) (place_at s j) ≡ Finds p → Carries (decided (with_place j p s) b)
      finds j p none k at says =
          let treated = notice_treats workers me n c news g slot kind h s j p owner_tells is k at says in
          let once = once_in s.readers (λ x. let f = few x in omega (arith, f)) in
          let fits = decided_fits me cause next (Took me (owner_of workers c) n kind ∷ h) (with_place j p s) b once stand
          (all_both (λ (y : SpoolAt). StandHere me y (written me cause next b.facts (Took me (owner_of workers c) n kind ∷ h))) (λ (y : SpoolAt). AllByRecursion (λ (r : Reader). IsNotIn r.k y) s.readers) b.shelf i.1 (apart_from s.readers b.shelf b.shelf few (λ x. omega arith))) in (
            decided_good workers me cause next (Took me (owner_of workers c) n kind ∷ h) (owners_took workers me (owner_of workers c) n kind h owners) (with_place j p s) b treated once stand i.0,
            all-changed (StandsApart me cause next (Took me (owner_of workers c) n kind ∷ h) (decided (with_place j p s) b).facts []) (λ (x : SpoolAt). StandHere me x (written me cause next (decided (with_place j p s) b).facts (Took me (owner_of workers c) n kind ∷ h))) (decided (with_place j p s) b).shelf (λ x f. f.0) fits,
            decided_old (with_place j p s) b (heard_placed s j p k at none) i.2,
          )

      looks : (j : ℕ) → SpoolKnows workers me s h → place_of c s.key.list ≡ Some j → Carries (shelved (with_place j (Asked b.next None) s) (looked_again s.key j b))
      looks j k at =
          let b1 = looked_again s.key j b in
          let one = one_fact IsOut b.facts _ tt in
          shelved_carries (with_place j (Asked b.next None) s) b1
          (outs_still me cause next (Took me (owner_of workers c) n kind ∷ h) b.facts b1.facts s.key s.readers one stand) (inl (heard_placed s j (Asked b.next None) k at refl)) (
            unsent_good workers me cause next (Took me (owner_of workers c) n kind ∷ h) (owners_took workers me (owner_of workers c) n kind h owners) b.facts b1.facts IsOut out_unsent one i.0,
            all-changed (λ (x : SpoolAt). StandHere me x (written me cause next b.facts (Took me (owner_of workers c) n kind ∷ h))) (λ (x : SpoolAt). StandHere me x (written me cause next b1.facts (Took me (owner_of workers c) n kind ∷ h))) b.shelf
                (λ x f. outs_still me cause next (Took me (owner_of workers c) n kind ∷ h) b.facts b1.facts x.key x.readers one f) i.1,
            i.2,
          )

      heeds : (old : IsOld s) (j : ℕ) (past : Bool) (p : Place) → place_of c s.key.list ≡ Some j → is_past news.id (id_at s.key j) ≡ past → place_at s j ≡ p → Carries (heeded (notice_says news past p) j s b)
      heeds old j past (Asked m None) at was p_is = shelved_carries s b stand old i
      heeds old j past (FoundAt q id owner x) at was p_is = shelved_carries s b stand old i
      heeds (inl k) j past (Nothing quiet) at was p_is = absurd (let e : has_answer (Nothing quiet) ≡ false = ap has_answer (sym p_is) ∙ k j at in cc)
      heeds (inl k) j past (Asked m (Some quiet)) at was p_is = absurd (let e : has_answer (Asked m (Some quiet)) ≡ false = ap has_answer (sym p_is) ∙ k j at in cc)
      heeds (inr k) j true (Nothing quiet) at was p_is = finds j (found_by quiet.q news) refl k at (ap (λ (t : Bool). notice_says news t (place_at s j)) was ∙ ap (notice_says news true) p_is)
      heeds (inr k) j true (Asked m (Some quiet)) at was p_is = finds j (found_by quiet.q news) refl k at (ap (λ (t : Bool). notice_says news t (place_at s j)) was ∙ ap (notice_says news true) p_is)
      heeds (inr k) j false (Nothing quiet) at was p_is = looks j k at
      heeds (inr k) j false (Asked m (Some quiet)) at was p_is = shelved_carries (with_place j (Asked m None) s) b stand (inl (heard_placed s j (Asked m None) k at refl)) i

      treats : IsOld s → Carries (noticed_in c news s b)
      treats old = by (place_of c s.key.list) refl
        where
          by : (o : Option ℕ) → place_of c s.key.list ≡ o → Carries (noticed_place o news s b)
          by None at = shelved_carries s b stand old i
          by (Some j) at = heeds old j (is_past news.id (id_at s.key j)) (place_at s j) at refl refl

    at_key : (b : Board) (key : KeyAt) → ((k : ℕ) → tally k b ≤ 1) → Carries b → Carries (noticed_at c news b key)
    at_key b key few i = by (spool_of key b.shelf) refl
      where
        rest : Carries (record b { shelf = others key b.shelf })
        rest = (i.0, all-without (λ (x : SpoolAt). StandHere me x (written me cause next b.facts (Took me (owner_of workers c) n kind ∷ h))) (is_of key) b.shelf i.1, all-without IsOld (is_of key) b.shelf i.2)

        by : (o : Option SpoolAt) → spool_of key b.shelf ≡ o → Carries (noticed_by o c news (record b { shelf = others key b.shelf }))
        by None was = rest
        by (Some s) was = treats s (record b { shelf = others key b.shelf }) (all-found (λ (x : SpoolAt). StandHere me x (written me cause next b.facts (Took me (owner_of workers c) n kind ∷ h))) (is_of key) b.shelf s was i.1)
            (λ k. let t = total-without (readers_of k) (is_of key) b.shelf s was in let f = few k in omega (arith, t, f)) rest (all-found IsOld (is_of key) b.shelf s was i.2)

    at_keys : (keys : List KeyAt) (b : Board) → ((k : ℕ) → tally k b ≤ 1) → Carries b → Carries (fold (noticed_at c news) b keys)
    at_keys [] b few i = i
    at_keys (key ∷ keys) b few i = at_keys keys (noticed_at c news b key) (λ k. let t = noticed_at-tally k c news b key in let f = few k in omega (arith, t, f)) (at_key b key few i)

pub notice_sends_well : NoticeSendsWell
notice_sends_well workers me n c found g slot kind next h s owners owner_tells is singly knows stand good =
    let took : List Event = Took me (owner_of workers c) n kind ∷ h in
    let r = at_keys workers me c h n g slot kind (news_of found) owners owner_tells is Answered next (keys_with c s.shelf) (board_of s) (λ k. let f = singly k in omega (arith, f)) (
      took_good workers me (owner_of workers c) n kind h good,
      all-changed (λ (x : SpoolAt). StandHere me x h) (λ (x : SpoolAt). StandHere me x (Took me (owner_of workers c) n kind ∷ h)) s.shelf (λ x f. took_stands me (owner_of workers c) n kind h x.key x.readers f) stand,
      all-changed (λ (x : SpoolAt). SpoolKnows workers me x h) (IsOld workers me c h) s.shelf (λ x k. inr k) knows,
    ) in
    subst (λ (l : List Event). Along (IsGoodSend workers) l × AllByRecursion (λ (x : SpoolAt). StandHere me x l) (notice_after c found s).shelf) (written_is me Answered next (notice_facts c found s) took) (r.0, r.1)
