-- What a worker does beside its owner: its deeds are its own or ask owners, and its spools know the workers.
use Rattle.std.proofs.Common.{◌≡◌, ℕ, true, Option, refl}
use Rattle.nc_types.specs.declared.info.Info.{Info}
use Rattle.nc_journal.specs.declared.alert.AlertLine.{AlertLine}
use Rattle.nc_journal.specs.declared.alert.AlertLine.TheVariants as lines
use Rattle.nc_worker_state.specs.Setup.{Setup}
use Rattle.nc_worker_state.specs.Incoming.{Incoming, TakesPacket, ClockReads, Reaps, Posts, Subscribes, Removes, Informs}
use Rattle.nc_worker_state.specs.Spooled.{found_by, found_in}
use Rattle.nc_worker_state.specs.Desk.{Desk, Served, replied, is_waiting, handled, settled, begun, served}
use Rattle.nc_world.specs.Reached.{IsSetup}
use Rattle.nc_world_laws.proofs.WorkerKinds.{AreDeeds}
use Rattle.nc_world_laws.proofs.Local.{either}
use Rattle.nc_world_laws.proofs.Telling.{deeds_append}
use Rattle.nc_world_laws.proofs.Asking.{releases_of, arrives_well, answers_well, edges_well, notices_well, loses_well}

module _ (workers me : ℕ) where
  abbrev pub ServedWell : Served → Type 0
  ServedWell r = AreDeeds workers me r.deeds × (r.after.spools.workers ≡ workers)

  settled_well : (r : Served) → ServedWell r → ServedWell (settled me r)
  settled_well r w = (deeds_append workers me r.deeds _ w.0 (releases_of workers me _), w.1)

  replied_well : (r status : ℕ) (info : Option Info) (d : Desk) → d.spools.workers ≡ workers → ServedWell (replied me r status info d)
  replied_well r status info d knows = either ServedWell (is_waiting r d.waiting) _ _ ((refl, tt), knows) (tt, knows)

  handled_well : (from : ℕ) (line : AlertLine) (d : Desk) → d.spools.workers ≡ workers → ServedWell (handled me from line d)
  handled_well from (lines.PubAnswer r status info full) d knows = replied_well r status info d knows
  handled_well from (lines.InfoAnswer r status info) d knows = replied_well r status info d knows
  handled_well from (lines.DelAnswer r status info) d knows = replied_well r status info d knows
  handled_well from (lines.LookAnswer number q floor found g slot) d knows = answers_well workers me d.spools knows number q floor (found_in from found g slot)
  handled_well from (lines.Notice c id g slot) d knows = notices_well workers me d.spools knows c (found_by from id g slot)
  handled_well from (lines.EdgeAnswer number q floor last) d knows = edges_well workers me d.spools knows number floor last
  handled_well from (lines.Gone c subs) d knows = loses_well workers me d.spools knows c subs
  handled_well from (lines.Publish r c len timeout ct body) d knows = (tt, knows)
  handled_well from (lines.Look number c after fence) d knows = (tt, knows)
  handled_well from (lines.Edge number k c fence) d knows = (tt, knows)
  handled_well from (lines.Join c k) d knows = (tt, knows)
  handled_well from (lines.Part c k) d knows = (tt, knows)
  handled_well from (lines.Delete r c) d knows = (tt, knows)
  handled_well from (lines.Info r c) d knows = (tt, knows)

module _ (setup : Setup) (is : IsSetup setup) (me : ℕ) where
  begun_well : (incoming : Incoming) (d : Desk) → d.spools.workers ≡ setup.workers → ServedWell setup.workers me (begun setup me incoming d)
  begun_well (TakesPacket from p) d knows = handled_well setup.workers me from p.line d knows
  begun_well (ClockReads t) d knows = (tt, knows)
  begun_well Reaps d knows = (tt, knows)
  begun_well (Posts c body) d knows = (((refl, is.1, tt), tt), knows)
  begun_well (Subscribes k list start) d knows = arrives_well setup.workers me d.spools knows k list start true
  begun_well (Removes c) d knows = ((refl, tt), knows)
  begun_well (Informs c) d knows = ((refl, tt), knows)

  pub served_well : (incoming : Incoming) (d : Desk) → d.spools.workers ≡ setup.workers → ServedWell setup.workers me (served setup me incoming d)
  served_well incoming d knows = settled_well setup.workers me (begun setup me incoming d) (begun_well incoming d knows)
