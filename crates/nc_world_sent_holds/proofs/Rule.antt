-- The points of the slot rule together.
use Rattle.std.proofs.Common.{ℕ, List, [], ◌∷◌}
use Rattle.nc_journal.specs.History.{Along}
use Rattle.nc_journal.specs.Holding.{IsSlotRule}
use Rattle.nc_journal.specs.declared.event.Event.{Event}
use Rattle.nc_journal.specs.declared.event.Event.TheVariants.{Stored, Granted, Released, Freed, Sent, Quiet}
use Rattle.nc_journal.proofs.Holdings.{holds_law}
use Rattle.nc_world_slots.specs.Points.{HeldAt}
use Rattle.nc_world_slots.proofs.Releasing.{histories_hold}
use Rattle.nc_world_released.specs.Released.{HeldNowhere}
use Rattle.nc_world_released.proofs.Quieting.{histories_release}
use Rattle.nc_world_sent_holds.specs.SentHolds.{HeldAtSent, SentIsHeld, HistoriesKeepSlotRule, HistoriesCountHolds}
use Rattle.nc_world_sent_holds.proofs.Since.{holds_message}
use Rattle.nc_world_sent_holds.proofs.Sending.{SentAt, sends_held}

module _ (workers slots : ℕ) where
  rule : (h : List Event) → Along (HeldAt slots) h → Along HeldNowhere h → Along (SentAt workers) h → IsSlotRule workers slots h
  rule [] a b c = tt
  rule (Stored w d id slot len exp kept members from r ct body ∷ h) a b c = (rule h a.0 b.0 c.0, a.1)
  rule (Granted w g slot to ∷ h) a b c = (rule h a.0 b.0 c.0, a.1)
  rule (Released w owner g slot ∷ h) a b c = (rule h a.0 b.0 c.0, a.1)
  rule (Freed w slot ∷ h) a b c = (rule h a.0 b.0 c.0, a.1)
  rule (Quiet ∷ h) a b c = (rule h a.0 b.0 c.0, b.1)
  rule (Sent w k i d id cur looks ∷ h) a b c =
      let before = rule h a.0 b.0 c.0 in
      (before, holds_message workers slots c.1.g c.1.slot w d id h before c.1.unreleased c.1.taken)
  rule (e ∷ h) a b c = (rule h a.0 b.0 c.0, tt)

  sent_along : (h : List Event) → IsSlotRule workers slots h → Along (HeldAtSent workers) h
  sent_along [] a = tt
  sent_along (Sent w k i d id cur looks ∷ h) a = (sent_along h a.0, a.1)
  sent_along (e ∷ h) a = (sent_along h a.0, tt)

pub histories_keep_slot_rule : HistoriesKeepSlotRule
histories_keep_slot_rule setup h world is r = rule setup.workers setup.slots h (histories_hold setup h world is r) (histories_release setup h world is r) (sends_held setup h world is r)

pub sent_is_held : SentIsHeld
sent_is_held setup h world is r = sent_along setup.workers setup.slots h (histories_keep_slot_rule setup h world is r)

pub histories_count_holds : HistoriesCountHolds
histories_count_holds setup h world is r = holds_law setup.workers setup.slots h (histories_keep_slot_rule setup h world is r)
