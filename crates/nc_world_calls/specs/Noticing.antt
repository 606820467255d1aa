-- The step of a worker that takes a notice.
use Rattle.std.specs.Prelude.{◌≡◌, ℕ, List, ◌∷◌, Some}
use Rattle.std.specs.List.{AllByRecursion}
use Rattle.nc_types.specs.Id.{is_past}
use Rattle.nc_types.specs.Channel.{owner_of}
use Rattle.nc_journal.specs.History.{own, onto, Along}
use Rattle.nc_journal.specs.declared.event.Event.{Event}
use Rattle.nc_journal.specs.declared.event.Event.TheVariants.{Took}
use Rattle.nc_journal.specs.declared.word.AlertKind.{AlertKind}
use Rattle.nc_journal.specs.declared.alert.AlertLine.TheVariants.{Notice}
use Rattle.nc_spool_state.specs.declared.place.Place.{Place}
use Rattle.nc_spool_state.specs.declared.hear.News.{News}
use Rattle.nc_spool_state.specs.declared.hear.Heard.TheVariants.{Finds}
use Rattle.nc_spool_state.specs.Key.{id_at, place_of}
use Rattle.nc_spool_state.specs.Spool.{SpoolAt, place_at, with_place}
use Rattle.nc_spool_state.specs.Hear.{notice_says}
use Rattle.nc_spool.specs.declared.spools.Found.{Found}
use Rattle.nc_spool.specs.Calls.{SpoolsAt, board_of, news_of, notice_after}
use Rattle.nc_spool_laws.specs.Keys.{SpoolFits}
use Rattle.nc_spool_laws.specs.Order.{AreAscending}
use Rattle.nc_spool_laws.specs.Attended.{IsWhole}
use Rattle.nc_spool_laws.specs.Tally.{StandOnce}
use Rattle.nc_history.specs.Packets.{IsNext}
use Rattle.nc_worker_state.specs.Deed.{told}
use Rattle.nc_worker_state.specs.Spooled.{Hold, notices}
use Rattle.nc_rests.specs.Owners.{Owners}
use Rattle.nc_rests.specs.Telling.{OwnerTells}
use Rattle.nc_sends.specs.GoodSends.{IsGoodSend}
use Rattle.nc_world_told.specs.Readers.{StandHere}
use Rattle.nc_world_told.specs.Known.{PlacesHold, SpoolKnows}

-- a spool that holds before the step holds in it once its one place of the channel was treated and has found the message
abbrev pub NoticeTreats : Type 0
NoticeTreats = (workers me n : ℕ) (c : List ℕ) (news : News) (g slot : ℕ) (kind : AlertKind) (h : List Event) (s : SpoolAt) (j : ℕ) (p : Place)
    → OwnerTells (owner_of workers c) (own (owner_of workers c) h) → IsNext (owner_of workers c) me (Notice c news.id g slot) h
    → SpoolKnows workers me s h
    → place_of c s.key.list ≡ Some j → notice_says news (is_past news.id (id_at s.key j)) (place_at s j) ≡ Finds p
    → SpoolKnows workers me (with_place j p s) (Took me (owner_of workers c) n kind ∷ h)

-- the history after the step, before the releases
abbrev pub after_notice : (workers me n : ℕ) → AlertKind → (ℕ → ℕ) → List ℕ → Found Hold → SpoolsAt Hold → List Event → List Event
after_notice workers me n kind next c found s h = onto (told me next (notices me c found s).deeds) (Took me (owner_of workers c) n kind ∷ h)

-- the step writes only lawful sends, and leaves each subscriber standing at the key of its spool
abbrev pub NoticeSendsWell : Type 0
NoticeSendsWell =
    (workers me n : ℕ) (c : List ℕ) (found : Found Hold) (g slot : ℕ) (kind : AlertKind) (next : ℕ → ℕ) (h : List Event) (s : SpoolsAt Hold)
    → Owners workers h → OwnerTells (owner_of workers c) (own (owner_of workers c) h)
    → IsNext (owner_of workers c) me (Notice c (news_of found).id g slot) h → StandOnce (board_of s)
    → AllByRecursion (λ x. SpoolKnows workers me x h) s.shelf → AllByRecursion (λ x. StandHere me x h) s.shelf → Along (IsGoodSend workers) h
    → Along (IsGoodSend workers) (after_notice workers me n kind next c found s h)
    × AllByRecursion (λ x. StandHere me x (after_notice workers me n kind next c found s h)) (notice_after c found s).shelf

-- and each place of each spool holds
abbrev pub NoticeKnows : Type 0
NoticeKnows =
    (workers me n : ℕ) (c : List ℕ) (found : Found Hold) (g slot : ℕ) (kind : AlertKind) (next : ℕ → ℕ) (h : List Event) (s : SpoolsAt Hold)
    → OwnerTells (owner_of workers c) (own (owner_of workers c) h) → IsNext (owner_of workers c) me (Notice c (news_of found).id g slot) h
    → AreAscending s.shelf → AllByRecursion IsWhole s.shelf → AllByRecursion SpoolFits (notice_after c found s).shelf
    → AllByRecursion (PlacesHold workers me h) s.shelf
    → AllByRecursion (PlacesHold workers me (after_notice workers me n kind next c found s h)) (notice_after c found s).shelf
