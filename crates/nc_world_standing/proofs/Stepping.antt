-- Each step of a worker keeps the standing rule.
use Rattle.std.proofs.Common.{◌≡◌, ℕ, Bool, true, false, cond, List, [], ◌∷◌, Option, None, sym, ap, ◌∙◌, subst, filter}
use Rattle.std.specs.List.{AllByRecursion}
use Rattle.nc_types.specs.declared.start.Start.{Start}
use Rattle.nc_types.specs.declared.info.Info.{Info}
use Rattle.nc_journal.specs.History.{own, onto, Along}
use Rattle.nc_journal.specs.Standing.{Absent, Starting, Over, stage_of, is_subscribed, SubscribesAt}
use Rattle.nc_journal.specs.declared.event.Event.{Event}
use Rattle.nc_journal.specs.declared.event.Event.TheVariants.{Subscribed, Started, Sent, Ended}
use Rattle.nc_journal.specs.declared.event.Event.TheVariants as events
use Rattle.nc_journal.specs.declared.word.ModeLine.TheVariants.{Direct}
use Rattle.nc_journal.specs.declared.alert.AlertLine.{AlertLine}
use Rattle.nc_journal.specs.declared.alert.AlertLine.TheVariants as lines
use Rattle.nc_owner_laws.specs.Kinds.{IsOfOwner}
use Rattle.nc_owner_laws.proofs.Stamping.{onto_append}
use Rattle.nc_spool_state.specs.Kept.{is_idle}
use Rattle.nc_history.specs.Packets.{Packet}
use Rattle.nc_worker_state.specs.Setup.{Setup}
use Rattle.nc_worker_state.specs.Incoming.{Incoming, TakesPacket, ClockReads, Reaps, Posts, Subscribes, Removes, Informs}
use Rattle.nc_worker_state.specs.Deed.{Does, told, next_after}
use Rattle.nc_worker_state.specs.Spooled.{found_in, found_by, releases}
use Rattle.nc_worker_state.specs.Desk.{Desk, Served, unserved, is_waiting, without, replied, handled as answered, begun}
use Rattle.nc_world.specs.World.{World, handled_events}
use Rattle.nc_world.specs.Reached.{IsSetup, Comes, IsInput, Reached}
use Rattle.nc_world_laws.proofs.WorkerKinds.{IsOfWorker}
use Rattle.nc_world_laws.specs.Good.{IsLineTo, Good}
use Rattle.nc_world_laws.proofs.WorldTheme.{IsWorldTheme}
use Rattle.nc_world_laws.proofs.Local.{either, eqb_self, own_one}
use Rattle.nc_world_laws.proofs.Parts.{before, part, behind, part_all, behind_all}
use Rattle.nc_world_laws.proofs.Frames.{IsStageless, handled_onto}
use Rattle.nc_world_laws.proofs.Moving.{taken_right}
use Rattle.nc_world_laws.proofs.WorldThemes.{world_theme_holds}
use Rattle.nc_world_members.proofs.Moving.{reached_has_members}
use Rattle.nc_world_members.proofs.Staging.{reached_has_stages, spools_stand}
use Rattle.nc_world_ordered.specs.Orderly.{IsOrderly, AllStand, AllStart}
use Rattle.nc_world_ordered.proofs.Calls.{answer_orderly, notice_orderly, arrival_orderly}
use Rattle.nc_world_ordered.proofs.Edging.{edge_orderly}
use Rattle.nc_world_ordered.proofs.Losses.{loss_orderly}
use Rattle.nc_world_standing.specs.HistoriesStand.{HistoriesStand}
use Rattle.nc_world_standing.proofs.Plain.{plain_orderly, plain_stage, plain_stand, plain_start, subscribed_orderly, told_split, released_plain}
use Rattle.nc_world_standing.proofs.Opening.{IsUnsubscribed, opens_onto}

-- what is carried over a history
pub record Stands (h : List Event) : Type 0 where
  pub orderly : IsOrderly h
  pub opens : Along SubscribesAt h

stageless_owner : (w : ℕ) (e : Event) → IsOfOwner w e → IsStageless e
stageless_owner w (Subscribed v k conn list mode start timeout close) p = absurd p
stageless_owner w (Started v k cur) p = absurd p
stageless_owner w (Sent v k i c id cur looks) p = absurd p
stageless_owner w (Ended v k cause) p = absurd p
stageless_owner w e p = tt

unsubscribed_owner : (w : ℕ) (e : Event) → IsOfOwner w e → IsUnsubscribed e
unsubscribed_owner w (Subscribed v k conn list mode start timeout close) p = absurd p
unsubscribed_owner w e p = tt

unsubscribed_worker : (w : ℕ) (e : Event) → IsOfWorker w e → IsUnsubscribed e
unsubscribed_worker w (Subscribed v k conn list mode start timeout close) p = absurd p
unsubscribed_worker w e p = tt

-- what comes to a worker is as it counts on
abbrev IncomingFits : Setup → ℕ → List Event → Incoming → Type 0
IncomingFits setup w h (TakesPacket from p) = IsLineTo setup.workers from w p.line
IncomingFits setup w h (Subscribes k list start) = Comes w k list start h
IncomingFits setup w h incoming = Unit {0}

input_fits : (setup : Setup) (w : ℕ) (h : List Event) (incoming : Incoming) → IsInput w h incoming → IncomingFits setup w h incoming
input_fits setup w h (TakesPacket from p) i = absurd i
input_fits setup w h (ClockReads t) i = tt
input_fits setup w h Reaps i = tt
input_fits setup w h (Posts c body) i = tt
input_fits setup w h (Subscribes k list start) i = i
input_fits setup w h (Removes c) i = tt
input_fits setup w h (Informs c) i = tt

module _ (setup : Setup) (is : IsSetup setup) (w : ℕ) (h : List Event) (world : World) (reached : Reached setup h world) (g : Good setup h world) (k : Stands h) where
  abbrev d : Desk
  d = (world.workers w).desk

  -- ---- what opens the step

  absent : (n : ℕ) → is_subscribed n (own w h) ≡ false → stage_of n (own w h) ≡ Absent
  absent n new =
      let members = reached_has_members setup h world is reached in
      let stages = reached_has_stages setup h world is reached in
      (stages.staged w n).away (members.known w n new) ∙ ap (λ (b : Bool). cond b Over Absent) new

  opened_orderly : (incoming : Incoming) → IncomingFits setup w h incoming → IsOrderly (onto (before setup w incoming world) h)
  opened_orderly (TakesPacket from p) f = plain_orderly (_ ∷ []) h (tt, tt) k.orderly
  opened_orderly (ClockReads t) f = plain_orderly (_ ∷ []) h (tt, tt) k.orderly
  opened_orderly Reaps f = k.orderly
  opened_orderly (Posts c body) f = plain_orderly (_ ∷ []) h (tt, tt) k.orderly
  opened_orderly (Subscribes n list start) f = subscribed_orderly w n None list Direct start setup.sub_timeout false h (absent n f.new) k.orderly
  opened_orderly (Removes c) f = plain_orderly (_ ∷ []) h (tt, tt) k.orderly
  opened_orderly (Informs c) f = plain_orderly (_ ∷ []) h (tt, tt) k.orderly

  opened_opens : (incoming : Incoming) → IncomingFits setup w h incoming → Along SubscribesAt (onto (before setup w incoming world) h)
  opened_opens (TakesPacket from p) f = (k.opens, tt)
  opened_opens (ClockReads t) f = (k.opens, tt)
  opened_opens Reaps f = k.opens
  opened_opens (Posts c body) f = (k.opens, tt)
  opened_opens (Subscribes n list start) f = (k.opens, (f.distinct, f.fits))
  opened_opens (Removes c) f = (k.opens, tt)
  opened_opens (Informs c) f = (k.opens, tt)

  -- ---- what the worker does behind its owner's part

  part_plain : (incoming : Incoming) → AllByRecursion IsStageless (part w incoming world)
  part_plain incoming = part_all setup is w incoming h world g IsStageless (stageless_owner w) (λ to n a. tt)

  -- the history behind the owner's part
  abbrev owned : Incoming → List Event
  owned incoming = onto (part w incoming world) (onto (before setup w incoming world) h)

  owned_orderly : (incoming : Incoming) → IncomingFits setup w h incoming → IsOrderly (owned incoming)
  owned_orderly incoming f = plain_orderly (part w incoming world) (onto (before setup w incoming world) h) (part_plain incoming) (opened_orderly incoming f)

  taken_stand : (from : ℕ) (p : Packet) → AllStand w (owned (TakesPacket from p)) d.spools
  taken_stand from p =
      let all = (spools_stand setup h world is reached w).0 in
      plain_stand w (part w (TakesPacket from p) world) (onto (before setup w (TakesPacket from p) world) h) (part_plain (TakesPacket from p)) d.spools.shelf
      (plain_stand w (before setup w (TakesPacket from p) world) h (tt, tt) d.spools.shelf all)

  taken_start : (from : ℕ) (p : Packet) → AllStart w (owned (TakesPacket from p)) d.spools
  taken_start from p =
      let all = (spools_stand setup h world is reached w).1 in
      plain_start w (part w (TakesPacket from p) world) (onto (before setup w (TakesPacket from p) world) h) (part_plain (TakesPacket from p)) d.spools.starts
      (plain_start w (before setup w (TakesPacket from p) world) h (tt, tt) d.spools.starts all)

  comes_starting : (n : ℕ) (list : List (List ℕ)) (start : Start) → stage_of n (own w (owned (Subscribes n list start))) ≡ Starting list true start
  comes_starting n list start =
      let e = Subscribed w n None list Direct start setup.sub_timeout false in
      plain_stage w n (part w (Subscribes n list start) world) (e ∷ h) (part_plain (Subscribes n list start))
      ∙ ap (stage_of n) (own_one w e h (eqb_self w)) ∙ ap (λ (b : Bool). cond b (Starting list true start) (stage_of n (own w h))) (eqb_self n)

  reply_orderly : (next : ℕ → ℕ) (l : List Event) (r status : ℕ) (info : Option Info) → IsOrderly l → IsOrderly (onto (told w next (replied w r status info d).deeds) l)
  reply_orderly next l r status info o =
      either (λ (x : Served). IsOrderly (onto (told w next x.deeds) l)) (is_waiting r d.waiting) (record { deeds = Does (events.Answered w r None status info false false) ∷ []; after = record d { waiting = without r d.waiting } }) (unserved d) (plain_orderly (_ ∷ []) l (tt, tt) o) o

  packet_orderly : (next : ℕ → ℕ) (l : List Event) (from : ℕ) (line : AlertLine) → IsLineTo setup.workers from w line → AllStand w l d.spools → AllStart w l d.spools → IsOrderly l
      → IsOrderly (onto (told w next (answered w from line d).deeds) l)
  packet_orderly next l from (lines.PubAnswer r status info usage) f stand start o = reply_orderly next l r status info o
  packet_orderly next l from (lines.InfoAnswer r status info) f stand start o = reply_orderly next l r status info o
  packet_orderly next l from (lines.DelAnswer r status info) f stand start o = reply_orderly next l r status info o
  packet_orderly next l from (lines.LookAnswer number q floor found gr slot) f stand start o =
      answer_orderly w number q floor (found_in from found gr slot) next l d.spools ((reached_has_members setup h world is reached).singly w).once stand o
  packet_orderly next l from (lines.Notice c id gr slot) f stand start o =
      notice_orderly w c (found_by from id gr slot) next l d.spools ((reached_has_members setup h world is reached).singly w).once stand o
  packet_orderly next l from (lines.EdgeAnswer number q floor last) f stand start o = edge_orderly w number floor last next l d.spools start o
  packet_orderly next l from (lines.Gone c subs) f stand start o = loss_orderly w c subs next l d.spools ((reached_has_members setup h world is reached).singly w).once stand start o
  packet_orderly next l from (lines.Publish r c len timeout ct body) f stand start o = o
  packet_orderly next l from (lines.Look number c after fence) f stand start o = o
  packet_orderly next l from (lines.Edge number n c fence) f stand start o = o
  packet_orderly next l from (lines.Join c n) f stand start o = o
  packet_orderly next l from (lines.Part c n) f stand start o = o
  packet_orderly next l from (lines.Delete r c) f stand start o = o
  packet_orderly next l from (lines.Info r c) f stand start o = o

  begun_orderly : (next : ℕ → ℕ) (incoming : Incoming) → IncomingFits setup w h incoming → IsOrderly (onto (told w next (begun setup w incoming d).deeds) (owned incoming))
  begun_orderly next (TakesPacket from p) f = packet_orderly next (owned (TakesPacket from p)) from p.line f (taken_stand from p) (taken_start from p) (owned_orderly (TakesPacket from p) f)
  begun_orderly next (ClockReads t) f = owned_orderly (ClockReads t) f
  begun_orderly next Reaps f = owned_orderly Reaps f
  begun_orderly next (Posts c body) f = plain_orderly (_ ∷ []) (owned (Posts c body)) (tt, tt) (owned_orderly (Posts c body) f)
  begun_orderly next (Subscribes n list start) f = arrival_orderly w n list start true next (owned (Subscribes n list start)) d.spools (comes_starting n list start) (owned_orderly (Subscribes n list start) f)
  begun_orderly next (Removes c) f = plain_orderly (_ ∷ []) (owned (Removes c)) (tt, tt) (owned_orderly (Removes c) f)
  begun_orderly next (Informs c) f = plain_orderly (_ ∷ []) (owned (Informs c)) (tt, tt) (owned_orderly (Informs c) f)

  -- the releases stand at the end
  served_orderly : (incoming : Incoming) → IncomingFits setup w h incoming → IsOrderly (onto (behind setup w incoming world) (owned incoming))
  served_orderly incoming f =
      let b = begun setup w incoming d in
      let next = next_after (world.workers w).next (part w incoming world) in
      let s = told_split w next b.deeds (releases w b.after.spools) in
      subst (λ (es : List Event). IsOrderly (onto es (owned incoming))) (sym s.1)
      (subst IsOrderly (sym (onto_append (told w next b.deeds) (told w s.0 (releases w b.after.spools)) (owned incoming)))
      (plain_orderly (told w s.0 (releases w b.after.spools)) (onto (told w next b.deeds) (owned incoming)) (released_plain w s.0 (filter (is_idle b.after.spools.shelf) b.after.spools.kept)) (begun_orderly next incoming f)))

  -- ---- the whole step

  step_stands : (incoming : Incoming) → IncomingFits setup w h incoming → Stands (onto (handled_events setup w incoming world) h)
  step_stands incoming f = record {
    orderly = subst IsOrderly (sym (handled_onto setup is w incoming h world g h)) (served_orderly incoming f);
    opens = subst (Along SubscribesAt) (sym (handled_onto setup is w incoming h world g h))
        (opens_onto (behind setup w incoming world) (owned incoming) (behind_all setup is w incoming h world g IsUnsubscribed (unsubscribed_worker w) (λ to n a. tt))
        (opens_onto (part w incoming world) (onto (before setup w incoming world) h) (part_all setup is w incoming h world g IsUnsubscribed (unsubscribed_owner w) (λ to n a. tt))
        (opened_opens incoming f)));
  }

-- ---- the theme

pub standing_theme : (setup : Setup) → IsSetup setup → IsWorldTheme setup (λ h world. Stands h)
standing_theme setup is = record {
  new = record { orderly = record { ordered = tt; ended = λ w n served. served }; opens = tt };
  handles = λ w incoming h world reached g here i k. step_stands setup is w h world reached g k incoming (input_fits setup w h incoming i);
  takes = λ w v p ps h world reached g here there at k. step_stands setup is w h world reached g k (TakesPacket v p) (taken_right setup w v p ps h world g at);
  carries = λ w v p ps h world reached g here there at k. k;
  pending = λ n h world reached g same k. record { orderly = plain_orderly (_ ∷ []) h (tt, tt) k.orderly; opens = (k.opens, tt) };
  quiet = λ h world reached g same k. record { orderly = plain_orderly (_ ∷ []) h (tt, tt) k.orderly; opens = (k.opens, tt) };
}

pub histories_stand : HistoriesStand
histories_stand setup h world is reached =
    let k = world_theme_holds setup (λ h world. Stands h) is (standing_theme setup is) h world reached in
    record { ordered = k.orderly.ordered; subscribed = k.opens; ended = k.orderly.ended }
