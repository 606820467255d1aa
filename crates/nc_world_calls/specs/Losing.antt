-- The step of a worker that hears that a channel is gone.
use Rattle.std.specs.Prelude.{ℕ, List, ◌∷◌}
use Rattle.std.specs.List.{AllByRecursion}
use Rattle.nc_types.specs.Channel.{owner_of}
use Rattle.nc_journal.specs.History.{onto, Along}
use Rattle.nc_journal.specs.declared.event.Event.{Event}
use Rattle.nc_journal.specs.declared.event.Event.TheVariants.{Took}
use Rattle.nc_journal.specs.declared.word.AlertKind.{AlertKind}
use Rattle.nc_journal.specs.declared.alert.AlertLine.TheVariants.{Gone}
use Rattle.nc_spool.specs.Calls.{SpoolsAt, board_of, gone_after}
use Rattle.nc_spool_laws.specs.Keys.{SpoolFits}
use Rattle.nc_spool_laws.specs.Order.{AreAscending}
use Rattle.nc_spool_laws.specs.Attended.{IsWhole}
use Rattle.nc_spool_laws.specs.Tally.{StandOnce}
use Rattle.nc_history.specs.Packets.{IsNext}
use Rattle.nc_worker_state.specs.Deed.{told}
use Rattle.nc_worker_state.specs.Spooled.{Hold, loses}
use Rattle.nc_sends.specs.GoodSends.{IsGoodSend}
use Rattle.nc_world_told.specs.Readers.{StandHere}
use Rattle.nc_world_told.specs.Known.{PlacesHold}

-- the history after the step, before the releases; the channel's owner tells it
abbrev pub after_loss : (workers me n : ℕ) → AlertKind → (ℕ → ℕ) → List ℕ → List ℕ → SpoolsAt Hold → List Event → List Event
after_loss workers me n kind next c subs s h = onto (told me next (loses me c subs s).deeds) (Took me (owner_of workers c) n kind ∷ h)

-- nothing is sent in it
abbrev pub LossSendsNothing : Type 0
LossSendsNothing = (workers me n : ℕ) (c subs : List ℕ) (kind : AlertKind) (next : ℕ → ℕ) (h : List Event) (s : SpoolsAt Hold)
    → Along (IsGoodSend workers) h → Along (IsGoodSend workers) (after_loss workers me n kind next c subs s h)

-- each subscriber that is left stands at the key of its spool
abbrev pub LossStands : Type 0
LossStands = (workers me n : ℕ) (c subs : List ℕ) (kind : AlertKind) (next : ℕ → ℕ) (h : List Event) (s : SpoolsAt Hold) → StandOnce (board_of s)
    → AllByRecursion (λ x. StandHere me x h) s.shelf
    → AllByRecursion (λ x. StandHere me x (after_loss workers me n kind next c subs s h)) (gone_after c subs s).shelf

-- and each place of each spool that is left holds
abbrev pub LossKnows : Type 0
LossKnows = (workers me n : ℕ) (c subs : List ℕ) (kind : AlertKind) (next : ℕ → ℕ) (h : List Event) (s : SpoolsAt Hold)
    → IsNext (owner_of workers c) me (Gone c subs) h
    → AreAscending s.shelf → AllByRecursion IsWhole s.shelf → AllByRecursion SpoolFits (gone_after c subs s).shelf
    → AllByRecursion (PlacesHold workers me h) s.shelf
    → AllByRecursion (PlacesHold workers me (after_loss workers me n kind next c subs s h)) (gone_after c subs s).shelf
