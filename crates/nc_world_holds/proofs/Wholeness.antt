-- Each answer that is made brings a message whole or not at all.
use Rattle.std.proofs.Common.{ℕ, ◌+◌, Bool, true, false, cond, List, [], ◌∷◌, ◌++◌, Option, Some, None, sym, subst}
use Rattle.std.specs.Prelude.{◌==◌, drop}
use Rattle.std.specs.List.{AllByRecursion}
use Rattle.nc_types.specs.Id.{Id}
use Rattle.nc_types.specs.declared.info.Info.{Info}
use Rattle.nc_journal.specs.History.{onto}
use Rattle.nc_journal.specs.declared.event.Event.{Event}
use Rattle.nc_journal.specs.declared.event.Event.TheVariants.{Made}
use Rattle.nc_journal.specs.declared.alert.AlertLine.{AlertLine}
use Rattle.nc_journal.specs.declared.alert.AlertLine.TheVariants as lines
use Rattle.nc_buffer.specs.declared.entry.Entry.{Entry}
use Rattle.nc_owner.specs.declared.desk.Desk.{Desk as OwnerDesk}
use Rattle.nc_owner.specs.declared.order.Order.{Order}
use Rattle.nc_owner.specs.AlertLines.{OutLine}
use Rattle.nc_owner.specs.State.{Bench, exists}
use Rattle.nc_owner.specs.Publish.{Polls, Outcome, late, full, stored, notices, asked, roomy, stamp, lowest_slot, post_alerts, publish_outcome, publish_cleared}
use Rattle.nc_owner.specs.Look.{found_on, found_line, look_ready}
use Rattle.nc_owner.specs.Fence.{with_floor}
use Rattle.nc_owner_laws.specs.Kinds.{IsOfOwner}
use Rattle.nc_history.specs.Packets.{Packet, packet, pending}
use Rattle.nc_worker_state.specs.Setup.{Setup}
use Rattle.nc_worker_state.specs.Incoming.{Incoming, TakesPacket, ClockReads, Reaps, Posts, Subscribes, Removes, Informs}
use Rattle.nc_worker_state.specs.Owned.{Holding, order_of, owned_by}
use Rattle.nc_worker_state.specs.Desk.{Desk, opening}
use Rattle.nc_worker_state.specs.Worker.{sent_to}
use Rattle.nc_world_laws.proofs.WorkerKinds.{IsBy, IsUntaken, IsOfWorker, AsksOwner}
use Rattle.nc_world_laws.proofs.Local.{all_append}
use Rattle.nc_world_laws.proofs.Queues.{pending_after}
use Rattle.nc_world_holds.specs.Balance.{IsWholeLine, AreWhole}
use Rattle.nc_world_holds.proofs.Removals.{deletion_tells}

-- what is made is whole
abbrev pub MakesWhole : Event → Type 0
MakesWhole (Made w to n a) = IsWholeLine a
MakesWhole _ = Unit {0}

abbrev pub IsWholeOut : OutLine → Type 0
IsWholeOut o = IsWholeLine o.line

notices_whole : (c : List ℕ) (id : Id) (slot g : ℕ) (marks : List ℕ) (more : List OutLine) → AllByRecursion IsWholeOut more → AllByRecursion IsWholeOut (notices c id slot g marks ++ more)
notices_whole c id slot g [] more m = m
notices_whole c id slot g (to ∷ marks) more m = (tt, notices_whole c id slot (g + 1) marks more m)

post_whole : (out : Outcome) (from : ℕ) (o : Order) (polls : Polls) (b : Bench) → AllByRecursion IsWholeOut (post_alerts out from o polls b)
post_whole late from o polls b = (tt, tt)
post_whole (full usage) from o polls b = (tt, tt)
post_whole stored from o polls b = let c = asked polls.leaving b in notices_whole o.chan (stamp c) (lowest_slot (roomy o.length polls.left c).row) c.desk.grants c.channel.marks _ (tt, tt)

found_whole : (from number : ℕ) (entry : Option Entry) (d : OwnerDesk) → AllByRecursion IsWholeOut (found_line from number entry d ∷ [])
found_whole from number None d = (tt, tt)
found_whole from number (Some e) d = (tt, tt)

info_whole : (b : Bool) (r : ℕ) (info : Option Info) → IsWholeLine (cond b (lines.InfoAnswer r 200 info) (lines.InfoAnswer r 404 None))
info_whole true r info = tt
info_whole false r info = tt

pub asked_whole : (polls : Polls) (from : ℕ) (line : AlertLine) (s : Holding) → AllByRecursion IsWholeOut (owned_by polls from line s).alerts
asked_whole polls from (lines.Publish r c len timeout ct body) s = let o = order_of r c len timeout ct body in post_whole (publish_outcome o polls s.row s.owner) from o polls (publish_cleared o polls s.row s.owner)
asked_whole polls from (lines.Look number c after fence) s = let ready = look_ready c s.row (with_floor fence s.owner) in found_whole from number (found_on after ready) ready.desk
asked_whole polls from (lines.Edge number k c fence) s = (tt, tt)
asked_whole polls from (lines.Join c k) s = tt
asked_whole polls from (lines.Part c k) s = tt
asked_whole polls from (lines.Info r c) s = (info_whole (exists c s.owner) r _, tt)
asked_whole polls from (lines.PubAnswer r status info usage) s = tt
asked_whole polls from (lines.LookAnswer number q floor found g slot) s = tt
asked_whole polls from (lines.Notice c id g slot) s = tt
asked_whole polls from (lines.EdgeAnswer number q floor last) s = tt
asked_whole polls from (lines.Delete r c) s = deletion_tells IsWholeOut (λ to d subs. tt) (λ to n status info. tt) from r c s.row s.owner
asked_whole polls from (lines.DelAnswer r status info) s = tt
asked_whole polls from (lines.Gone c subs) s = tt
asked_whole polls from (lines.InfoAnswer r status info) s = tt

-- what asks an owner is no answer
pub asks_whole : (workers to : ℕ) (a : AlertLine) → AsksOwner workers to a → IsWholeLine a
asks_whole workers to (lines.LookAnswer number q floor found g slot) k = absurd k
asks_whole workers to a k = tt

pub owner_makes : (me : ℕ) (e : Event) → IsOfOwner me e → MakesWhole e
owner_makes me (Made w to n a) p = absurd p
owner_makes me e p = tt

pub worker_makes : (me : ℕ) (e : Event) → IsOfWorker me e → MakesWhole e
worker_makes me (Made w to n a) p = absurd p
worker_makes me e p = tt

pub opening_makes : (setup : Setup) (w : ℕ) (incoming : Incoming) (d : Desk) → AllByRecursion MakesWhole (opening setup w incoming d)
opening_makes setup w (TakesPacket from p) d = (tt, tt)
opening_makes setup w (ClockReads t) d = (tt, tt)
opening_makes setup w Reaps d = tt
opening_makes setup w (Posts c body) d = (tt, tt)
opening_makes setup w (Subscribes k list start) d = (tt, tt)
opening_makes setup w (Removes c) d = (tt, tt)
opening_makes setup w (Informs c) d = (tt, tt)

-- ---- what is pending then

whole_case : (b : Bool) (n : ℕ) (a : AlertLine) (ps : List Packet) → IsWholeLine a → AreWhole ps → AreWhole (cond b (packet n a ∷ ps) ps)
whole_case true n a ps i w = (i, w)
whole_case false n a ps i w = w

sent_whole : (y : ℕ) (es : List Event) → AllByRecursion MakesWhole es → AreWhole (sent_to y es)
sent_whole y [] m = tt
sent_whole y (Made w to n a ∷ es) m = whole_case (y == to) n a (sent_to y es) m.0 (sent_whole y es m.1)
sent_whole y (e ∷ es) m = sent_whole y es m.1

cond_whole : (b : Bool) (ps : List Packet) → AreWhole ps → AreWhole (cond b ps [])
cond_whole true ps w = w
cond_whole false ps w = tt

pub pending_whole : (w v y : ℕ) (es h : List Event) → AllByRecursion (IsBy w) es → AllByRecursion IsUntaken es → AllByRecursion MakesWhole es → AreWhole (pending v y h) → AreWhole (pending v y (onto es h))
pending_whole w v y es h by un m old = subst AreWhole (sym (pending_after w v y es h by un)) (all_append (λ (p : Packet). IsWholeLine p.line) (pending v y h) (cond (v == w) (sent_to y es) []) old (cond_whole (v == w) (sent_to y es) (sent_whole y es m)))

pub dropped_whole : (b : Bool) (ps : List Packet) → AreWhole ps → AreWhole (cond b (drop 1 ps) ps)
dropped_whole true [] w = tt
dropped_whole true (p ∷ ps) w = w.1
dropped_whole false ps w = w
