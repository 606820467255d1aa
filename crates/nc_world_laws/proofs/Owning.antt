-- The owner's part of a step: of which kinds its events are, and what its alerts keep.
use Rattle.std.proofs.Common.{◌≡◌, inl, inr, ℕ, ◌+◌, Bool, true, false, cond, List, [], ◌∷◌, Option, Some, None, refl, sym, subst, map, length}
use Rattle.std.specs.Prelude.{◌==◌}
use Rattle.std.specs.List.{AllByRecursion}
use Rattle.nc_types.specs.Channel.{owner_of}
use Rattle.nc_types.specs.Id.{Id}
use Rattle.nc_types.specs.declared.info.Info.{Info}
use Rattle.nc_journal.specs.declared.event.Event.{Event}
use Rattle.nc_journal.specs.declared.event.Event.TheVariants.{Left, Removed, Freed}
use Rattle.nc_journal.specs.declared.alert.AlertLine.{AlertLine}
use Rattle.nc_journal.specs.declared.alert.AlertLine.TheVariants as lines
use Rattle.nc_alert.specs.Packet.{IsPublishStatus}
use Rattle.nc_buffer.specs.declared.entry.Entry.{Entry}
use Rattle.nc_owner.specs.declared.desk.Desk.{Desk as OwnerDesk}
use Rattle.nc_owner.specs.declared.order.Order.{Order}
use Rattle.nc_owner.specs.State.{Bench, exists}
use Rattle.nc_owner.specs.AlertLines.{OutLine}
use Rattle.nc_owner.specs.Poll.{freed_event, freed_events, free_slots}
use Rattle.nc_owner.specs.OtherSteps.{touched_of}
use Rattle.nc_owner.specs.Look.{found_on, found_line, look_ready}
use Rattle.nc_owner.specs.Fence.{with_floor, raise_events}
use Rattle.nc_owner.specs.Publish.{Polls, Outcome, late, stored, full as is_all, notices, answer, asked, roomy, stamp, lowest_slot, stored_status, info_of, store_bench, post_alerts, publish_outcome, publish_cleared}
use Rattle.nc_owner_laws.specs.Kinds.{IsOfOwner, AreOfOwner}
use Rattle.nc_owner_laws.specs.OwnChannels.{OwnsChannels}
use Rattle.nc_owner_laws.specs.Sweeping.{IsOfRemovals, IsLoss, IsOfDeletion}
use Rattle.nc_owner_laws.proofs.EventKinds.{owners_kinds}
use Rattle.nc_owner_laws.proofs.Sweeping.{reaps_are, deletions_are}
use Rattle.nc_worker_state.specs.Setup.{Setup}
use Rattle.nc_worker_state.specs.Incoming.{Incoming, TakesPacket, ClockReads, Reaps, Posts, Subscribes, Removes, Informs}
use Rattle.nc_worker_state.specs.Owned.{Holding, StepPolls, owned_by, owned_in, order_of, member_of}
use Rattle.nc_history.specs.Packets.{Packet}
use Rattle.nc_world_laws.specs.Good.{IsLineTo}
use Rattle.nc_world_laws.proofs.Local.{all_of, all_append}
use Rattle.nc_world_laws.proofs.Telling.{PartEvents, PartAlerts}
use Rattle.nc_world_laws.proofs.Stepping.{IsRight}

-- ---- what an owner does with an alert, and what a reap does

freed_all : (P : Event → Type 0) (me : ℕ) → ((slot : ℕ) → P (Freed me slot)) → (slots : List ℕ) → AllByRecursion P (map (freed_event me) slots)
freed_all P me f [] = tt
freed_all P me f (slot ∷ slots) = (f slot, freed_all P me f slots)

module _ (workers me : ℕ) where
  -- where a fact is of the line that is taken, this line is a packet's
  pub packet_events : (P : Event → Type 0) (polls : StepPolls) (incoming : Incoming) (s : Holding) → s.owner.desk.me ≡ me → OwnsChannels workers me s.owner
      → ((from : ℕ) (p : Packet) → incoming ≡ TakesPacket from p → AllByRecursion P (owned_by polls.publish from p.line s).events)
      → ((e : Event) → IsOfRemovals workers me e → P e) → ((slot : ℕ) → P (Freed me slot)) → PartEvents P (owned_in polls incoming s)
  packet_events P polls (TakesPacket from p) s is owns line removed freed = (tt, line from p refl)
  packet_events P polls (ClockReads t) s is owns line removed freed = (tt, tt)
  packet_events P polls Reaps s is owns line removed freed = (
    all_of (λ x. AllByRecursion (IsOfRemovals workers me) x.events) (λ x. AllByRecursion P x.events) (λ x a. all_of (IsOfRemovals workers me) P removed x.events a) _ (reaps_are workers me s.row s.owner is owns).events,
    subst (λ (w : ℕ). AllByRecursion P (freed_events w polls.reap)) (sym is) (freed_all P me freed (free_slots polls.reap)),
  )
  packet_events P polls (Posts c body) s is owns line removed freed = (tt, tt)
  packet_events P polls (Subscribes k list start) s is owns line removed freed = (tt, tt)
  packet_events P polls (Removes c) s is owns line removed freed = (tt, tt)
  packet_events P polls (Informs c) s is owns line removed freed = (tt, tt)

  -- what holds of an owner's events with each alert, of what sweeps remove, and of what polls free, holds of the events of its part
  pub owned_events : (P : Event → Type 0) (polls : StepPolls) (incoming : Incoming) (s : Holding) → s.owner.desk.me ≡ me → OwnsChannels workers me s.owner
      → ((from : ℕ) (line : AlertLine) → AllByRecursion P (owned_by polls.publish from line s).events)
      → ((e : Event) → IsOfRemovals workers me e → P e) → ((slot : ℕ) → P (Freed me slot)) → PartEvents P (owned_in polls incoming s)
  owned_events P polls incoming s is owns line removed freed = packet_events P polls incoming s is owns (λ from p e. line from p.line) removed freed

  -- the same of its alerts
  pub packet_alerts : (Q : OutLine → Type 0) (polls : StepPolls) (incoming : Incoming) (s : Holding) → s.owner.desk.me ≡ me → OwnsChannels workers me s.owner
      → ((from : ℕ) (p : Packet) → incoming ≡ TakesPacket from p → AllByRecursion Q (owned_by polls.publish from p.line s).alerts)
      → ((c subs : List ℕ) (to : ℕ) → owner_of workers c ≡ me → Q (record { to = to; line = lines.Gone c subs })) → PartAlerts Q (owned_in polls incoming s)
  packet_alerts Q polls (TakesPacket from p) s is owns line lost = (tt, line from p refl)
  packet_alerts Q polls (ClockReads t) s is owns line lost = (tt, tt)
  packet_alerts Q polls Reaps s is owns line lost =
      (all_of (λ x. AllByRecursion (λ a. IsLoss workers me a.line) x.alerts) (λ x. AllByRecursion Q x.alerts) (λ x b. all_of (λ a. IsLoss workers me a.line) Q (λ a. loss a.to a.line) x.alerts b) _ (reaps_are workers me s.row s.owner is owns).alerts, tt)
    where
      loss : (to : ℕ) (line : AlertLine) → IsLoss workers me line → Q (record { to = to; line = line })
      loss to (lines.Gone c subs) l = lost c subs to l
      loss to line l = absurd l
  packet_alerts Q polls (Posts c body) s is owns line lost = (tt, tt)
  packet_alerts Q polls (Subscribes k list start) s is owns line lost = (tt, tt)
  packet_alerts Q polls (Removes c) s is owns line lost = (tt, tt)
  packet_alerts Q polls (Informs c) s is owns line lost = (tt, tt)

  pub owned_alerts : (Q : OutLine → Type 0) (polls : StepPolls) (incoming : Incoming) (s : Holding) → s.owner.desk.me ≡ me → OwnsChannels workers me s.owner
      → ((from : ℕ) (line : AlertLine) → AllByRecursion Q (owned_by polls.publish from line s).alerts)
      → ((c subs : List ℕ) (to : ℕ) → owner_of workers c ≡ me → Q (record { to = to; line = lines.Gone c subs })) → PartAlerts Q (owned_in polls incoming s)
  owned_alerts Q polls incoming s is owns line lost = packet_alerts Q polls incoming s is owns (λ from p e. line from p.line) lost

-- ---- kinds

same : (me w : ℕ) (es : List Event) → w ≡ me → AreOfOwner w es → AreOfOwner me es
same me w es is a = subst (λ (v : ℕ). AreOfOwner v es) is a

of_line : (polls : Polls) (from : ℕ) (line : AlertLine) (s : Holding) → AreOfOwner s.owner.desk.me (owned_by polls from line s).events
of_line polls from (lines.Publish r c len timeout ct body) s = (owners_kinds s.row s.owner).publish from (order_of r c len timeout ct body) polls
of_line polls from (lines.Look number c after fence) s = all_append (IsOfOwner s.owner.desk.me) (raise_events fence s.owner) _ ((owners_kinds s.row s.owner).raise fence) ((owners_kinds s.row (with_floor fence s.owner)).look from number c after)
of_line polls from (lines.Edge number k c fence) s = all_append (IsOfOwner s.owner.desk.me) (raise_events fence s.owner) _ ((owners_kinds s.row s.owner).raise fence) ((owners_kinds s.row (with_floor fence s.owner)).edge from number k c)
of_line polls from (lines.Join c k) s = (owners_kinds s.row s.owner).join (member_of from k) c
of_line polls from (lines.Part c k) s = (owners_kinds s.row s.owner).part (member_of from k) c
of_line polls from (lines.Info r c) s = (owners_kinds s.row s.owner).touch c
of_line polls from (lines.PubAnswer r status info full) s = tt
of_line polls from (lines.LookAnswer number q floor found g slot) s = tt
of_line polls from (lines.Notice c id g slot) s = tt
of_line polls from (lines.EdgeAnswer number q floor last) s = tt
of_line polls from (lines.Delete r c) s = (owners_kinds s.row s.owner).delete c
of_line polls from (lines.DelAnswer r status info) s = tt
of_line polls from (lines.Gone c subs) s = tt
of_line polls from (lines.InfoAnswer r status info) s = tt

-- what a removal tells is of the owner
of_removals : (workers me : ℕ) (e : Event) → IsOfRemovals workers me e → IsOfOwner me e
of_removals workers me (Left w c id slot cause) r = r
of_removals workers me (Removed w c last cause) r = r.0
of_removals workers me e r = absurd r

-- each event of an owner's part is of the owner
pub of_owned : (workers me : ℕ) (polls : StepPolls) (incoming : Incoming) (s : Holding) → s.owner.desk.me ≡ me → OwnsChannels workers me s.owner → PartEvents (IsOfOwner me) (owned_in polls incoming s)
of_owned workers me polls incoming s is owns =
    owned_events workers me (IsOfOwner me) polls incoming s is owns (λ from line. same me s.owner.desk.me (owned_by polls.publish from line s).events is (of_line polls.publish from line s)) (of_removals workers me) (λ slot. refl)

-- ---- alerts

-- each of some alerts keeps what its receiver counts on
abbrev pub AreRight : (workers from : ℕ) → List OutLine → Type 0
AreRight workers from alerts = AllByRecursion (λ (a : OutLine). IsLineTo workers from a.to a.line) alerts

module _ (workers me : ℕ) where
  right_notices : (c : List ℕ) (id : Id) (slot g : ℕ) (marks : List ℕ) → AreRight workers me (notices c id slot g marks)
  right_notices c id slot g [] = tt
  right_notices c id slot g (to ∷ marks) = (tt, right_notices c id slot (g + 1) marks)

  right_status : (b : Bool) → IsPublishStatus (cond b 202 201)
  right_status true = inr (inl refl)
  right_status false = inl refl

  right_post : (x : Outcome) (from : ℕ) (o : Order) (polls : Polls) (b : Bench) → AreRight workers me (post_alerts x from o polls b)
  right_post late from o polls b = (inr (inr (inl refl)), tt)
  right_post (is_all usage) from o polls b = (inr (inr (inr refl)), tt)
  right_post stored from o polls b =
      let c = asked polls.leaving b in
      let r = roomy o.length polls.left c in
      all_append (λ (a : OutLine). IsLineTo workers me a.to a.line) (notices o.chan (stamp c) (lowest_slot r.row) c.desk.grants c.channel.marks)
      (answer from o.r (stored_status c.channel) (Some (info_of (store_bench o polls.left c).channel)) None ∷ [])
      (right_notices o.chan (stamp c) (lowest_slot r.row) c.desk.grants c.channel.marks) (right_status (length c.channel.members == 0), tt)

  right_found : (from number : ℕ) (x : Option Entry) (d : OwnerDesk) → IsLineTo workers me (found_line from number x d).to (found_line from number x d).line
  right_found from number None d = tt
  right_found from number (Some e) d = tt

  right_info : (from r : ℕ) (b : Bool) (info : Option Info) → IsLineTo workers me from (cond b (lines.InfoAnswer r 200 info) (lines.InfoAnswer r 404 None))
  right_info from r true info = inl refl
  right_info from r false info = inr refl

  right_deletion : (from r to : ℕ) (line : AlertLine) → IsOfDeletion workers me from r to line → IsLineTo workers me to line
  right_deletion from r to (lines.Gone c subs) d = d
  right_deletion from r to (lines.DelAnswer n status info) d = d.2
  right_deletion from r to line d = absurd d

  right_line : (polls : Polls) (from : ℕ) (line : AlertLine) (s : Holding) → s.owner.desk.me ≡ me → IsLineTo workers from me line → AreRight workers me (owned_by polls from line s).alerts
  right_line polls from (lines.Publish r c len timeout ct body) s is right = let o = order_of r c len timeout ct body in right_post (publish_outcome o polls s.row s.owner) from o polls (publish_cleared o polls s.row s.owner)
  right_line polls from (lines.Look number c after fence) s is right = let b = look_ready c s.row (with_floor fence s.owner) in (right_found from number (found_on after b) b.desk, tt)
  right_line polls from (lines.Edge number k c fence) s is right = (tt, tt)
  right_line polls from (lines.Join c k) s is right = tt
  right_line polls from (lines.Part c k) s is right = tt
  right_line polls from (lines.Info r c) s is right = (right_info from r (exists c s.owner) (Some (info_of (touched_of c s.row s.owner).channel)), tt)
  right_line polls from (lines.PubAnswer r status info full) s is right = tt
  right_line polls from (lines.LookAnswer number q floor found g slot) s is right = tt
  right_line polls from (lines.Notice c id g slot) s is right = tt
  right_line polls from (lines.EdgeAnswer number q floor last) s is right = tt
  right_line polls from (lines.Delete r c) s is right =
      all_of (λ a. IsOfDeletion workers me from r a.to a.line) (λ a. IsLineTo workers me a.to a.line) (λ a. right_deletion from r a.to a.line) _ (deletions_are workers me from r c s.row s.owner is right).alerts_are
  right_line polls from (lines.DelAnswer r status info) s is right = tt
  right_line polls from (lines.Gone c subs) s is right = tt
  right_line polls from (lines.InfoAnswer r status info) s is right = tt

-- each alert of an owner's part keeps what its receiver counts on, where what comes does
pub right_owned : (setup : Setup) (me : ℕ) (polls : StepPolls) (incoming : Incoming) (s : Holding) → s.owner.desk.me ≡ me → OwnsChannels setup.workers me s.owner → IsRight setup me incoming
    → PartAlerts (λ a. IsLineTo setup.workers me a.to a.line) (owned_in polls incoming s)
right_owned setup me polls incoming s is owns right =
    packet_alerts setup.workers me (λ a. IsLineTo setup.workers me a.to a.line) polls incoming s is owns
    (λ from p e. right_line setup.workers me polls.publish from p.line s is (subst (IsRight setup me) e right).1) (λ c subs to mine. mine)
