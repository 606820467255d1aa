use Rattle.std.proofs.Common.{◌≡◌, ◌++◌, ◌+◌, drop, true, Some}
use Rattle.std.specs.Prelude.{fold}
use Rattle.nc_types.specs.Message.{Message}
use Rattle.nc_slots.specs.Slot.{slot_at, message_of}
use Rattle.nc_owner.specs.Holds.{AllCarry}
use Rattle.nc_owner.specs.AlertLines.{out_lines}
use Rattle.nc_owner.specs.Pool.{SameOthers}
use Rattle.nc_owner.specs.Publish.{granted_events, granted_slot, notices, one_hold}
use Rattle.nc_owner.proofs.news.notify.Given as goal

abbrev pub invariant-loop-to : goal.invariant-loop-to
invariant-loop-to g l = record {
  desk : l.desk ≡ record l.fn.desk { grants = l.fn.desk.grants + l.to-index };
  events : l.events ++ granted_events l.fn.desk.me l.news.slot (l.fn.desk.grants + l.to-index) (drop l.to-index l.marks) ≡ l.fn.events ++ granted_events l.fn.desk.me l.news.slot l.fn.desk.grants l.marks;
  alerts : out_lines l.alerts ++ notices l.news.chan l.news.id l.news.slot (l.fn.desk.grants + l.to-index) (drop l.to-index l.marks) ≡ out_lines l.fn.alerts ++ notices l.news.chan l.news.id l.news.slot l.fn.desk.grants l.marks;
  row : fold (granted_slot l.news.slot) (g.P.Slots.slots l.pool l.fn.desk.me) (drop l.to-index l.marks) ≡ fold (granted_slot l.news.slot) (g.P.Slots.slots l.fn.pool l.fn.desk.me) l.marks;
  message : message_of (slot_at (g.P.Slots.slots l.pool l.fn.desk.me) l.news.slot) ≡ message_of (slot_at (g.P.Slots.slots l.fn.pool l.fn.desk.me) l.news.slot);
  carries : (m : Message) → message_of (slot_at (g.P.Slots.slots l.fn.pool l.fn.desk.me) l.news.slot) ≡ Some m → AllCarry g.P.Slots.held l.fn.desk.me m l.fn.alerts → AllCarry g.P.Slots.held l.fn.desk.me m l.alerts;
  others : SameOthers l.fn.desk.me (g.P.Slots.slots l.fn.pool) (g.P.Slots.slots l.pool);
  holds : g.P.Slots.exact ≡ true → fold (one_hold l.news.slot) (g.P.Slots.holds l.pool l.fn.desk.me) (drop l.to-index l.marks) ≡ fold (one_hold l.news.slot) (g.P.Slots.holds l.fn.pool l.fn.desk.me) l.marks;
  other_holds : g.P.Slots.exact ≡ true → SameOthers l.fn.desk.me (g.P.Slots.holds l.fn.pool) (g.P.Slots.holds l.pool);
}
