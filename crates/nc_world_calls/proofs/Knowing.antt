-- The places of spools hold.
use Rattle.std.proofs.Common.{inl, inr, ℕ, ◌≤◌, Bool, cond, List, [], ◌∷◌, Option, Some, None, refl, sym, subst}
use Rattle.std.specs.List.{AllByRecursion}
use Rattle.std.specs.Option.{option_map}
use Rattle.nc_types.specs.Id.{Id}
use Rattle.nc_journal.specs.History.{own}
use Rattle.nc_journal.specs.declared.event.Event.{Event}
use Rattle.nc_journal.specs.declared.event.Event.TheVariants.{Took, Looked, Made}
use Rattle.nc_journal.specs.declared.word.EndedCause.{EndedCause}
use Rattle.nc_journal.specs.declared.word.EndedCause.TheVariants.{Answered}
use Rattle.nc_journal.specs.declared.alert.AlertLine.TheVariants as lines
use Rattle.nc_owner_laws.specs.Used.{times}
use Rattle.nc_owner_laws.specs.InOrder.{HasLook}
use Rattle.nc_spool.specs.declared.ask.Ask.{Ask}
use Rattle.nc_spool.specs.declared.ask.Ask.TheVariants as asks
use Rattle.nc_spool.specs.declared.fact.Fact.{Fact}
use Rattle.nc_spool.specs.declared.fact.Fact.TheVariants as facts
use Rattle.nc_spool_state.specs.declared.hear.News.{News}
use Rattle.nc_spool_state.specs.declared.place.Quiet.{Quiet}
use Rattle.nc_spool_state.specs.declared.place.Place.{Place}
use Rattle.nc_spool_state.specs.declared.place.Place.TheVariants as places
use Rattle.nc_spool_state.specs.Hear.{learned, found_by}
use Rattle.nc_spool.specs.Calls.{board_of, news_of, answer_facts, answer_after}
use Rattle.nc_spool_laws.specs.Knowing.{Knows, IsKnowing, AskWas, AllWere, Means, IsRight}
use Rattle.nc_spool_laws.proofs.Knowledge.{knowing-kept}
use Rattle.nc_spool_laws.proofs.Lists.{all-changed}
use Rattle.nc_worker_state.specs.Spooled.{ask_line}
use Rattle.nc_rests.proofs.Received.{eqb_self}
use Rattle.nc_rests.specs.Rests.{RestsAt, Nothing, Found as Finds}
use Rattle.nc_rests.specs.Asking.{HasAsk, AreAsked, ask_numbers}
use Rattle.nc_rests.specs.Places.{PlaceHolds}
use Rattle.nc_rests.proofs.Places.{place_takes}
use Rattle.nc_rests.proofs.Asks.{one_ask}
use Rattle.nc_rests.proofs.Answered.{next_answers}
use Rattle.nc_rests.proofs.Awaited.{place_answered}
use Rattle.nc_world_told.specs.Written.{fact_event, fact_next, written}
use Rattle.nc_world_told.specs.Known.{PlacesHold}
use Rattle.nc_world_calls.specs.Answering.{id_of, AnswerKnows}
use Rattle.nc_world_told.proofs.Written.{written_is, place_written}

-- the look of an answer was asked for
asked_by : (o q w number floor : ℕ) (found : Option Id) (asks l : List Event) → HasLook o q w number floor found l → AreAsked w asks l → (d : List ℕ) × (a : Id) × HasAsk number d a asks
asked_by o q w number floor found asks [] has are = absurd has
asked_by o q w number floor found asks (Looked v p from n d a f past ∷ l) (inl is) are = (d, a, subst (λ (m : ℕ). HasAsk m d a asks) is.3 (are.0 is.2))
asked_by o q w number floor found asks (Looked v p from n d a f past ∷ l) (inr has) are = asked_by o q w number floor found asks l has are.1
asked_by o q w number floor found asks (e ∷ l) has are = asked_by o q w number floor found asks l has are

-- what places know, in the words of spools
module _ (workers me : ℕ) (l : List Event) where
  abbrev pub Was : ℕ → List ℕ → Id → Type 0
  Was number c after = HasAsk number c after (own me l)

  abbrev pub Rested : List ℕ → Id → Quiet → Type 0
  Rested c after quiet = RestsAt workers me c after (Nothing quiet.q quiet.floor) l

  abbrev pub Came : List ℕ → Id → ℕ → News → Type 0
  Came c after q news = RestsAt workers me c after (Finds q news.id) l

  pub knows_of : (c : List ℕ) (after : Id) (p : Place) → PlaceHolds workers me c after p l → Knows Was Rested Came c after p
  knows_of c after (places.Asked number None) k = k.0
  knows_of c after (places.Asked number (Some quiet)) k = (k.0, k.1)
  knows_of c after (places.Nothing quiet) k = k
  knows_of c after (places.Found q id owner g) k = k

  pub holds_of : (c : List ℕ) (after : Id) (p : Place) → Knows Was Rested Came c after p → PlaceHolds workers me c after p l
  holds_of c after (places.Asked number None) k = (k, tt)
  holds_of c after (places.Asked number (Some quiet)) k = (k.0, k.1)
  holds_of c after (places.Nothing quiet) k = k
  holds_of c after (places.Found q id owner g) k = k

  -- an answer means what its place learns
  means_of : (c : List ℕ) (after : Id) (quiet : Quiet) (news : Option News) → PlaceHolds workers me c after (learned after quiet news) l → Means Was Rested Came c after quiet news
  means_of c after quiet None k = k
  means_of c after quiet (Some news) k = (
    λ past. subst (λ (b : Bool). PlaceHolds workers me c after (cond b (found_by quiet.q news) (places.Nothing quiet)) l) past k,
    λ past. subst (λ (b : Bool). PlaceHolds workers me c after (cond b (found_by quiet.q news) (places.Nothing quiet)) l) past k,
  )

-- each look that was told is in the history
module _ (workers me : ℕ) (cause : EndedCause) (Rested : List ℕ → Id → Quiet → Type 0) (Came : List ℕ → Id → ℕ → News → Type 0) where
  ask_was : (to n : ℕ) (a : Ask) (next : ℕ → ℕ) (fs : List Fact) (h : List Event) → AskWas (Was workers me (written me cause next fs (Made me to n (ask_line a) ∷ h))) Rested Came a
  ask_was to n (asks.Look number c after fence) next fs h =
      (place_written workers me c after (places.Asked number None) me cause next fs (Made me to n (lines.Look number c after fence) ∷ h)
      (subst (λ (b : Bool). HasAsk number c after (cond b (Made me to n (lines.Look number c after fence) ∷ own me h) (own me h))) (sym (eqb_self me)) (inl (refl, refl, refl)), tt)).0
  ask_was to n (asks.Edge number k c fence) next fs h = tt
  ask_was to n (asks.Join c k) next fs h = tt
  ask_was to n (asks.Part c k) next fs h = tt

  pub all_were : (next : ℕ → ℕ) (fs : List Fact) (h : List Event) → AllWere (Was workers me (written me cause next fs h)) Rested Came fs
  all_were next [] h = tt
  all_were next (facts.Out o ∷ fs) h = (ask_was o.to (next o.to) o.ask (fact_next me cause next (facts.Out o)) fs h, all_were (fact_next me cause next (facts.Out o)) fs (fact_event me cause next (facts.Out o) ∷ h))
  all_were next (facts.Started k cursor ∷ fs) h = (tt, all_were next fs (fact_event me cause next (facts.Started k cursor) ∷ h))
  all_were next (facts.Sent s ∷ fs) h = (tt, all_were next fs (fact_event me cause next (facts.Sent s) ∷ h))
  all_were next (facts.Ended k deleted ∷ fs) h = (tt, all_were next fs (fact_event me cause next (facts.Ended k deleted) ∷ h))

pub answer_knows : AnswerKnows
answer_knows workers me from n number q floor kind found g slot next h s owners answers_at asks is =
    subst (λ (l : List Event). times number (ask_numbers (own me l)) ≤ 1 → AllByRecursion (PlacesHold workers me h) s.shelf → AllByRecursion (PlacesHold workers me l) (answer_after number q floor found s).shelf) (written_is me Answered next (answer_facts number q floor found s) (Took me from n kind ∷ h)) at_end
  where
    -- the history at the end
    at_end : times number (ask_numbers (own me (written me Answered next (answer_facts number q floor found s) (Took me from n kind ∷ h)))) ≤ 1 → AllByRecursion (PlacesHold workers me h) s.shelf
        → AllByRecursion (PlacesHold workers me (written me Answered next (answer_facts number q floor found s) (Took me from n kind ∷ h))) (answer_after number q floor found s).shelf
    at_end once holds =
        let fs : List (Fact) = answer_facts number q floor found s in
        let l : List Event = written me Answered next fs (Took me from n kind ∷ h) in
        all-changed (IsKnowing (Was workers me l) (Rested workers me l) (Came workers me l)) (PlacesHold workers me l) (answer_after number q floor found s).shelf (λ x k j lt. holds_of workers me l _ _ _ (k j lt))
        ((knowing-kept (Was workers me l) (Rested workers me l) (Came workers me l)).answer number (record { q = q; floor = floor }) (option_map news_of found) (board_of s)
        right
        (λ w. all-changed (PlacesHold workers me h) (IsKnowing (Was workers me l) (Rested workers me l) (Came workers me l)) s.shelf (λ x k j lt. knows_of workers me l _ _ _ (later _ _ _ (k j lt))) holds)
        (all_were workers me Answered (Rested workers me l) (Came workers me l) next fs (Took me from n kind ∷ h)))
      where
        -- whatever held holds then
        later : (c : List ℕ) (after : Id) (p : Place) → PlaceHolds workers me c after p h → PlaceHolds workers me c after p (written me Answered next (answer_facts number q floor found s) (Took me from n kind ∷ h))
        later c after p k = place_written workers me c after p me Answered next (answer_facts number q floor found s) (Took me from n kind ∷ h)
            (place_takes workers me c after p from n kind (lines.LookAnswer number q floor (option_map id_of (option_map news_of found)) g slot) h is (λ _. refl) k)

        -- who asked by this number asked before the step
        before : (c : List ℕ) (after : Id) → HasAsk number c after (own me (written me Answered next (answer_facts number q floor found s) (Took me from n kind ∷ h))) → HasAsk number c after (own me h)
        before c after has =
            let found_at = option_map id_of (option_map news_of found) in
            let old = asked_by from q me number floor found_at (own me h) (own from h) (next_answers from me number q floor found_at g slot h (answers_at from) is) (asks.asked from) in
            let same = one_ask number c old.0 after old.1 (own me (written me Answered next (answer_facts number q floor found s) (Took me from n kind ∷ h))) once has (later old.0 old.1 (places.Asked number None) (old.2, tt)).0 in
            subst (λ (d : List ℕ). HasAsk number d after (own me h)) same.0 (subst (λ (a : Id). HasAsk number old.0 a (own me h)) same.1 old.2)

        right : IsRight (Was workers me (written me Answered next (answer_facts number q floor found s) (Took me from n kind ∷ h))) (Rested workers me (written me Answered next (answer_facts number q floor found s) (Took me from n kind ∷ h))) (Came workers me (written me Answered next (answer_facts number q floor found s) (Took me from n kind ∷ h))) number (record { q = q; floor = floor }) (option_map news_of found)
        right c after has =
            means_of workers me (written me Answered next (answer_facts number q floor found s) (Took me from n kind ∷ h)) c after (record { q = q; floor = floor }) (option_map news_of found)
            (place_written workers me c after (learned after (record { q = q; floor = floor }) (option_map news_of found)) me Answered next (answer_facts number q floor found s) (Took me from n kind ∷ h)
            (place_answered workers me c after number None from q floor (option_map news_of found) g slot n kind h owners answers_at asks is (before c after has, tt)).holds)
