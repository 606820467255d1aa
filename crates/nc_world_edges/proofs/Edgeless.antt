-- An owner's step tells no edge and answers none, but where an edge is asked for.
use Rattle.std.proofs.Common.{ℕ, ◌+◌, Bool, true, false, cond, List, [], ◌∷◌, ◌++◌, Option, Some, None, map}
use Rattle.std.specs.List.{AllByRecursion}
use Rattle.nc_types.specs.Id.{Id}
use Rattle.nc_types.specs.declared.info.Info.{Info}
use Rattle.nc_journal.specs.declared.event.Event.{Event}
use Rattle.nc_journal.specs.declared.event.Event.TheVariants.{Left, Parted, Removed}
use Rattle.nc_journal.specs.declared.word.LeftCause.{LeftCause}
use Rattle.nc_journal.specs.declared.word.LeftCause.TheVariants.{Length, Expired, Spent}
use Rattle.nc_journal.specs.declared.alert.AlertLine.{AlertLine}
use Rattle.nc_journal.specs.declared.alert.AlertLine.TheVariants as lines
use Rattle.nc_buffer.specs.declared.entry.Entry.{Entry}
use Rattle.nc_buffer.specs.Buffer.{is_expired, is_spent}
use Rattle.nc_owner.specs.declared.desk.Desk.{Desk as OwnerDesk}
use Rattle.nc_owner.specs.declared.order.Order.{Order}
use Rattle.nc_owner.specs.AlertLines.{OutLine}
use Rattle.nc_owner.specs.Members.{has_member}
use Rattle.nc_owner.specs.State.{Bench, bench_of, opened, exists}
use Rattle.nc_owner.specs.Leave.{left_event, leavers, touched}
use Rattle.nc_owner.specs.Poll.{freed_event, free_slots}
use Rattle.nc_owner.specs.Publish.{Polls, Outcome, late, stored, full as is_all, notices, answer, stamp, stored_status, store_bench, granted_events, asked, roomy, roomy_events, stored_events, leaving, lowest_slot, post_events, post_alerts, cleared_events, publish_outcome, publish_cleared, info_of}
use Rattle.nc_owner.specs.Look.{found_on, looked_event, found_events, found_line, look_ready, look_events}
use Rattle.nc_owner.specs.Fence.{raise_events}
use Rattle.nc_owner.specs.OtherSteps.{touch_events_of, touched_of}
use Rattle.nc_owner.specs.Remove.{delete_events}
use Rattle.nc_owner_laws.proofs.Fences.{raise_are}
use Rattle.nc_owner_laws.proofs.Sweeping.{deletion_told}
use Rattle.nc_owner_laws.specs.Sweeping.{IsOfRemovals}
use Rattle.nc_worker_state.specs.Incoming.{Incoming, TakesPacket}
use Rattle.nc_worker_state.specs.Owned.{Holding, fenced, owned_by, order_of, member_of}
use Rattle.nc_world_laws.proofs.Local.{all_append}
use Rattle.nc_world_asks.proofs.Deleted.{delete_are}
use Rattle.nc_world_edges.proofs.EdgesStand.{IsUnanswering, IsEdgeless, AsksNoEdge}

abbrev AreEdgeless : List Event → Type 0
AreEdgeless es = AllByRecursion IsEdgeless es

less_left : (w : ℕ) (c : List ℕ) (cause : LeftCause) (es : List Entry) → AreEdgeless (map (left_event w c cause) es)
less_left w c cause [] = tt
less_left w c cause (e ∷ es) = (tt, less_left w c cause es)

less_freed : (w : ℕ) (slots : List ℕ) → AreEdgeless (map (freed_event w) slots)
less_freed w [] = tt
less_freed w (slot ∷ slots) = (tt, less_freed w slots)

less_granted : (w slot g : ℕ) (marks : List ℕ) → AreEdgeless (granted_events w slot g marks)
less_granted w slot g [] = tt
less_granted w slot g (to ∷ marks) = (tt, less_granted w slot (g + 1) marks)

pub less_touch : (c : List ℕ) (s : Holding) → AllByRecursion IsEdgeless (touch_events_of c s.row s.owner)
less_touch c s = less_left s.owner.desk.me c Expired (leavers (is_expired s.owner.desk.clock) (bench_of c s.row s.owner))

pub less_raise : (fence : ℕ) (s : Holding) → AllByRecursion IsEdgeless (raise_events fence s.owner)
less_raise fence s = raise_are IsEdgeless fence s.owner tt

less_post : (x : Outcome) (from : ℕ) (o : Order) (polls : Polls) (b : Bench) → AreEdgeless (post_events x from o polls b)
less_post late from o polls b = tt
less_post (is_all usage) from o polls b = tt
less_post stored from o polls b =
    let a = asked polls.leaving b in
    let r = roomy o.length polls.left a in
    all_append IsEdgeless (roomy_events o.length polls.left o.chan a) (stored_events from o (lowest_slot r.row) r)
    (all_append IsEdgeless (map (left_event b.desk.me o.chan Length) (leaving o.length a)) (map (freed_event b.desk.me) (free_slots polls.left)) (less_left b.desk.me o.chan Length (leaving o.length a)) (less_freed b.desk.me (free_slots polls.left)))
    (tt, less_granted b.desk.me (lowest_slot r.row) r.desk.grants r.channel.marks)

less_publish : (polls : Polls) (from : ℕ) (o : Order) (s : Holding) → AreEdgeless (cleared_events polls.retired o.chan (bench_of o.chan s.row s.owner) ++ post_events (publish_outcome o polls s.row s.owner) from o polls (publish_cleared o polls s.row s.owner))
less_publish polls from o s =
    all_append IsEdgeless (cleared_events polls.retired o.chan (bench_of o.chan s.row s.owner)) (post_events (publish_outcome o polls s.row s.owner) from o polls (publish_cleared o polls s.row s.owner))
    (all_append IsEdgeless (touch_events_of o.chan s.row s.owner) (map (freed_event s.owner.desk.me) (free_slots polls.retired)) (less_touch o.chan s) (less_freed s.owner.desk.me (free_slots polls.retired)))
    (less_post (publish_outcome o polls s.row s.owner) from o polls (publish_cleared o polls s.row s.owner))

less_delete : (c : List ℕ) (s : Holding) → AreEdgeless (delete_events c s.row s.owner)
less_delete c s = delete_are IsEdgeless c s.row s.owner less_left (λ w last. tt)

less_parted : (w from k : ℕ) (c : List ℕ) (b : Bool) → AreEdgeless (cond b (Parted w c from k ∷ []) [])
less_parted w from k c true = (tt, tt)
less_parted w from k c false = tt

less_found : (from number : ℕ) (c : List ℕ) (id : Id) (x : Option Entry) (d : OwnerDesk) → AreEdgeless (looked_event from number c id x d ∷ found_events from x d)
less_found from number c id None d = (tt, tt)
less_found from number c id (Some e) d = (tt, (tt, tt))

less_look : (from number : ℕ) (c : List ℕ) (id : Id) (s : Holding) → AreEdgeless (look_events from number c id s.row s.owner)
less_look from number c id s =
    let b = bench_of c s.row s.owner in
    let spends = map (left_event s.owner.desk.me c Spent) (leavers is_spent (touched b)) in
    all_append IsEdgeless (touch_events_of c s.row s.owner ++ spends) _
    (all_append IsEdgeless (touch_events_of c s.row s.owner) spends (less_touch c s) (less_left s.owner.desk.me c Spent (leavers is_spent (touched b))))
    (less_found from number c id (found_on id (look_ready c s.row s.owner)) (look_ready c s.row s.owner).desk)

pub less_line : (polls : Polls) (from : ℕ) (line : AlertLine) (s : Holding) → AsksNoEdge line → AllByRecursion IsEdgeless (owned_by polls from line s).events
less_line polls from (lines.Publish r c len timeout ct body) s plain = less_publish polls from (order_of r c len timeout ct body) s
less_line polls from (lines.Look number c after fence) s plain = all_append IsEdgeless (raise_events fence s.owner) _ (less_raise fence s) (less_look from number c after (fenced fence s))
less_line polls from (lines.Info r c) s plain = less_touch c s
less_line polls from (lines.Join c k) s plain = all_append IsEdgeless (touch_events_of c s.row s.owner) _ (less_touch c s) (tt, tt)
less_line polls from (lines.Part c k) s plain = all_append IsEdgeless (touch_events_of c s.row s.owner) _ (less_touch c s) (less_parted s.owner.desk.me from k c (has_member (member_of from k) (opened c s.owner).members))
less_line polls from (lines.PubAnswer r status info full) s plain = tt
less_line polls from (lines.LookAnswer number q floor found g slot) s plain = tt
less_line polls from (lines.Notice c id g slot) s plain = tt
less_line polls from (lines.Edge number k c fence) s plain = absurd plain
less_line polls from (lines.EdgeAnswer number q floor last) s plain = tt
less_line polls from (lines.Delete r c) s plain = less_delete c s
less_line polls from (lines.DelAnswer r status info) s plain = tt
less_line polls from (lines.Gone c subs) s plain = tt
less_line polls from (lines.InfoAnswer r status info) s plain = tt

-- what comes asks for no edge
abbrev pub ComesEdgeless : Incoming → Type 0
ComesEdgeless (TakesPacket from p) = AsksNoEdge p.line
ComesEdgeless incoming = Unit {0}

-- what is removed in a reap tells no edge
pub less_removed : (workers me : ℕ) (e : Event) → IsOfRemovals workers me e → IsEdgeless e
less_removed workers me (Left w c id slot cause) p = tt
less_removed workers me (Removed w c last cause) p = tt
less_removed workers me e p = absurd p

-- ---- alerts that answer no edge

abbrev AreUnanswering : List OutLine → Type 0
AreUnanswering alerts = AllByRecursion (λ (a : OutLine). IsUnanswering a.line) alerts

unanswering_notices : (c : List ℕ) (id : Id) (slot g : ℕ) (marks : List ℕ) → AreUnanswering (notices c id slot g marks)
unanswering_notices c id slot g [] = tt
unanswering_notices c id slot g (to ∷ marks) = (tt, unanswering_notices c id slot (g + 1) marks)

unanswering_post : (x : Outcome) (from : ℕ) (o : Order) (polls : Polls) (b : Bench) → AreUnanswering (post_alerts x from o polls b)
unanswering_post late from o polls b = (tt, tt)
unanswering_post (is_all usage) from o polls b = (tt, tt)
unanswering_post stored from o polls b =
    let c = asked polls.leaving b in
    let r = roomy o.length polls.left c in
    all_append (λ (a : OutLine). IsUnanswering a.line) (notices o.chan (stamp c) (lowest_slot r.row) c.desk.grants c.channel.marks)
    (answer from o.r (stored_status c.channel) (Some (info_of (store_bench o polls.left c).channel)) None ∷ [])
    (unanswering_notices o.chan (stamp c) (lowest_slot r.row) c.desk.grants c.channel.marks) (tt, tt)

unanswering_found : (from number : ℕ) (x : Option Entry) (d : OwnerDesk) → IsUnanswering (found_line from number x d).line
unanswering_found from number None d = tt
unanswering_found from number (Some e) d = tt

unanswering_info : (r : ℕ) (b : Bool) (info : Option Info) → IsUnanswering (cond b (lines.InfoAnswer r 200 info) (lines.InfoAnswer r 404 None))
unanswering_info r true info = tt
unanswering_info r false info = tt

pub unanswering_line : (polls : Polls) (from : ℕ) (line : AlertLine) (s : Holding) → AsksNoEdge line → AllByRecursion (λ (a : OutLine). IsUnanswering a.line) (owned_by polls from line s).alerts
unanswering_line polls from (lines.Publish r c len timeout ct body) s plain = let o = order_of r c len timeout ct body in unanswering_post (publish_outcome o polls s.row s.owner) from o polls (publish_cleared o polls s.row s.owner)
unanswering_line polls from (lines.Look number c after fence) s plain = let b = look_ready c s.row (fenced fence s).owner in (unanswering_found from number (found_on after b) b.desk, tt)
unanswering_line polls from (lines.Info r c) s plain = (unanswering_info r (exists c s.owner) (Some (info_of (touched_of c s.row s.owner).channel)), tt)
unanswering_line polls from (lines.Join c k) s plain = tt
unanswering_line polls from (lines.Part c k) s plain = tt
unanswering_line polls from (lines.PubAnswer r status info full) s plain = tt
unanswering_line polls from (lines.LookAnswer number q floor found g slot) s plain = tt
unanswering_line polls from (lines.Notice c id g slot) s plain = tt
unanswering_line polls from (lines.Edge number k c fence) s plain = absurd plain
unanswering_line polls from (lines.EdgeAnswer number q floor last) s plain = tt
unanswering_line polls from (lines.Delete r c) s plain = deletion_told (λ (a : OutLine). IsUnanswering a.line) c (λ members to. tt) from r s.row s.owner (λ status info is. tt)
unanswering_line polls from (lines.DelAnswer r status info) s plain = tt
unanswering_line polls from (lines.Gone c subs) s plain = tt
unanswering_line polls from (lines.InfoAnswer r status info) s plain = tt
