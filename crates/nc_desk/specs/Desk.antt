-- A worker's own requests and subscribers, with the holds that it keeps.
use Rattle.std.specs.Prelude.{◌≡◌, ℕ, List, map}
use Rattle.std.specs.List.{AllByRecursion}
use Rattle.nc_alert.specs.declared.alert.Grant.{Grant}
use Rattle.nc_slots.specs.Slots.{HoldAt}
use Rattle.nc_spool_state.specs.declared.kept.Held.{Held}
use Rattle.nc_spool.specs.declared.spools.Found.{Found}
use Rattle.nc_spool.specs.Calls.{SpoolsAt}
use Rattle.nc_worker_state.specs.Spooled.{Hold}
use Rattle.nc_worker_state.specs.Deed.{told}
use Rattle.nc_worker_state.specs.Desk.{Desk, Served}
use Rattle.nc_outbox.specs.Outboxes.{next_of}
use Rattle.nc_scribe.specs.Scribe.{ScribeAt, TellsMore}
use Rattle.nc_desk.specs.declared.desk.Desk.{Desk as DeskAt}

module _ {H : Type 0} where
  -- a kept hold by its grant and slot alone
  abbrev pub told_hold : Held H → Held Hold
  told_hold h = record { owner = h.owner; g = h.g; slot = h.slot; hold = tt }

  -- the same of all
  abbrev pub told_spools : SpoolsAt H → SpoolsAt Hold
  told_spools s = record { workers = s.workers; next = s.next; shelf = s.shelf; starts = s.starts; kept = map told_hold s.kept }

  -- the desk with such spools
  abbrev pub told_desk : DeskAt H → Desk
  told_desk d = record { spools = told_spools d.spools; waiting = d.waiting.items; requests = d.requests }

  -- a message that came with a grant of an owner
  abbrev pub found_of : ℕ → Grant H → Found H
  found_of owner grant = record { id = grant.id; held = record { owner = owner; g = grant.g; slot = grant.slot; hold = grant.hold } }

  -- what the desk did was told, and it is left so
  pub record Serves (new : DeskAt H) (scribe later : ScribeAt H) (r : Served) : Type 0 where
    pub after : told_desk new ≡ r.after
    pub tells : TellsMore scribe later (told scribe.me (next_of scribe.outboxes) r.deeds)

module _ {H : Type 0} (held : H → HoldAt) where
  -- a kept hold is of the slot that its grant names
  pub record IsHeld (h : Held H) : Type 0 where
    pub owner : (held h.hold).owner ≡ h.owner
    pub place : (held h.hold).slot ≡ h.slot

  -- so is each of them
  abbrev pub AreHeld : List (Held H) → Type 0
  AreHeld holds = AllByRecursion IsHeld holds

  -- it is still so
  abbrev pub KeepsHeld : DeskAt H → DeskAt H → Type 0
  KeepsHeld old new = AreHeld old.spools.kept → AreHeld new.spools.kept
