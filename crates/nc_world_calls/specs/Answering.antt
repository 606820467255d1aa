-- The step of a worker that takes the answer to a look.
use Rattle.std.specs.Prelude.{ℕ, ◌≤◌, List, ◌∷◌, Option}
use Rattle.std.specs.List.{AllByRecursion}
use Rattle.std.specs.Option.{option_map}
use Rattle.nc_types.specs.Id.{Id}
use Rattle.nc_journal.specs.History.{own, onto, Along}
use Rattle.nc_journal.specs.declared.event.Event.{Event}
use Rattle.nc_journal.specs.declared.event.Event.TheVariants.{Took}
use Rattle.nc_journal.specs.declared.word.AlertKind.{AlertKind}
use Rattle.nc_journal.specs.declared.alert.AlertLine.{AlertLine}
use Rattle.nc_journal.specs.declared.alert.AlertLine.TheVariants.{LookAnswer}
use Rattle.nc_owner_laws.specs.Used.{times}
use Rattle.nc_owner_laws.specs.InOrder.{AnswersAt}
use Rattle.nc_spool_state.specs.declared.hear.News.{News}
use Rattle.nc_spool_state.specs.Spool.{SpoolAt}
use Rattle.nc_spool.specs.declared.spools.Found.{Found}
use Rattle.nc_spool.specs.Calls.{SpoolsAt, news_of, board_of, answer_after}
use Rattle.nc_spool_laws.specs.Tally.{StandOnce}
use Rattle.nc_history.specs.Packets.{IsNext}
use Rattle.nc_worker_state.specs.Deed.{told}
use Rattle.nc_worker_state.specs.Spooled.{Hold, answers}
use Rattle.nc_rests.specs.Asking.{ask_numbers, AsksWell}
use Rattle.nc_rests.specs.Owners.{Owners}
use Rattle.nc_sends.specs.GoodSends.{IsGoodSend}
use Rattle.nc_world_told.specs.Readers.{StandHere, AreOnce}
use Rattle.nc_world_told.specs.Known.{PlacesHold, SpoolKnows}

-- of each spool of a worker, between two steps: what its places know, that its subscribers stand at its key, and that none stands there twice
pub record SpoolsKnow (workers w : ℕ) (h : List Event) (shelf : List SpoolAt) : Type 0 where
  pub knows : AllByRecursion (λ s. SpoolKnows workers w s h) shelf
  pub stand : AllByRecursion (λ s. StandHere w s h) shelf
  pub once : AllByRecursion (λ s. AreOnce s.readers) shelf

-- the id of a message that was found
abbrev pub id_of : News → Id
id_of news = news.id

-- the answer to a look with what was found at it
abbrev pub answer_of : ℕ → ℕ → ℕ → Option (Found Hold) → Option ℕ → Option ℕ → AlertLine
answer_of number q floor found g slot = LookAnswer number q floor (option_map id_of (option_map news_of found)) g slot

-- the history after the step, before the releases
abbrev pub after_answer : (me from n : ℕ) → AlertKind → (ℕ → ℕ) → (number q floor : ℕ) → Option (Found Hold) → SpoolsAt Hold → List Event
    → List Event
after_answer me from n kind next number q floor found s h = onto (told me next (answers me number q floor found s).deeds) (Took me from n kind ∷ h)

-- it writes only lawful sends
abbrev pub AnswerSendsWell : Type 0
AnswerSendsWell = (workers me from n number q floor : ℕ) (kind : AlertKind) (found : Option (Found Hold)) (g slot : Option ℕ) (next : ℕ → ℕ)
    (h : List Event) (s : SpoolsAt Hold)
    → Owners workers h → ((o : ℕ) → Along AnswersAt (own o h)) → AsksWell me h → IsNext from me (answer_of number q floor found g slot) h
    → SpoolsKnow workers me h s.shelf → Along (IsGoodSend workers) h
    → Along (IsGoodSend workers) (after_answer me from n kind next number q floor found s h)

-- it leaves each subscriber standing at the key of its spool
abbrev pub AnswerStands : Type 0
AnswerStands = (me from n number q floor : ℕ) (kind : AlertKind) (found : Option (Found Hold)) (next : ℕ → ℕ) (h : List Event) (s : SpoolsAt Hold)
    → StandOnce (board_of s)
    → AllByRecursion (λ x. StandHere me x h) s.shelf
    → AllByRecursion (λ x. StandHere me x (after_answer me from n kind next number q floor found s h)) (answer_after number q floor found s).shelf

-- and each place of each spool holds, where no number is drawn twice, also in the step
abbrev pub AnswerKnows : Type 0
AnswerKnows = (workers me from n number q floor : ℕ) (kind : AlertKind) (found : Option (Found Hold)) (g slot : Option ℕ) (next : ℕ → ℕ)
    (h : List Event) (s : SpoolsAt Hold)
    → Owners workers h → ((o : ℕ) → Along AnswersAt (own o h)) → AsksWell me h → IsNext from me (answer_of number q floor found g slot) h
    → times number (ask_numbers (own me (after_answer me from n kind next number q floor found s h))) ≤ 1
    → AllByRecursion (PlacesHold workers me h) s.shelf
    → AllByRecursion (PlacesHold workers me (after_answer me from n kind next number q floor found s h)) (answer_after number q floor found s).shelf
