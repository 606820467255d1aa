-- What an owner's step looks for, and that it asks nobody.
use Rattle.std.proofs.Common.{◌≡◌, ℕ, ◌+◌, Bool, true, false, cond, List, [], ◌∷◌, ◌++◌, Option, Some, None, map}
use Rattle.std.specs.List.{AllByRecursion}
use Rattle.nc_types.specs.Id.{Id}
use Rattle.nc_types.specs.declared.info.Info.{Info}
use Rattle.nc_journal.specs.declared.event.Event.{Event}
use Rattle.nc_journal.specs.declared.event.Event.TheVariants.{Left, Looked, Parted, Removed, Made}
use Rattle.nc_journal.specs.declared.word.LeftCause.{LeftCause}
use Rattle.nc_journal.specs.declared.word.LeftCause.TheVariants.{Length, Expired, Spent}
use Rattle.nc_journal.specs.declared.alert.AlertLine.{AlertLine}
use Rattle.nc_journal.specs.declared.alert.AlertLine.TheVariants as lines
use Rattle.nc_buffer.specs.declared.entry.Entry.{Entry}
use Rattle.nc_buffer.specs.Buffer.{is_expired, is_spent}
use Rattle.nc_owner.specs.declared.desk.Desk.{Desk as OwnerDesk}
use Rattle.nc_owner.specs.declared.order.Order.{Order}
use Rattle.nc_owner.specs.AlertLines.{OutLine}
use Rattle.nc_owner.specs.Members.{has_member}
use Rattle.nc_owner.specs.State.{Bench, bench_of, opened, exists}
use Rattle.nc_owner.specs.Leave.{left_event, leavers, touched}
use Rattle.nc_owner.specs.Poll.{freed_event, free_slots}
use Rattle.nc_owner.specs.Publish.{Polls, Outcome, late, stored, full as is_all, notices, answer, stamp, stored_status, store_bench, granted_events, asked, roomy, roomy_events, stored_events, leaving, lowest_slot, post_events, post_alerts, cleared_events, publish_outcome, publish_cleared, info_of}
use Rattle.nc_owner.specs.Look.{found_on, looked_event, found_events, found_line, look_ready, look_events}
use Rattle.nc_owner.specs.Fence.{raise_events}
use Rattle.nc_owner.specs.Edge.{edge_events}
use Rattle.nc_owner.specs.OtherSteps.{touch_events_of, touched_of}
use Rattle.nc_owner.specs.Remove.{delete_events}
use Rattle.nc_owner_laws.proofs.Fences.{raise_are, edge_are}
use Rattle.nc_owner_laws.proofs.Sweeping.{deletion_told}
use Rattle.nc_owner_laws.specs.Sweeping.{IsOfRemovals}
use Rattle.nc_rests.specs.Asking.{HasAsk}
use Rattle.nc_worker_state.specs.Incoming.{Incoming, TakesPacket}
use Rattle.nc_worker_state.specs.Owned.{Holding, fenced, owned_by, order_of, member_of}
use Rattle.nc_world_laws.proofs.Local.{all_append, all_of}
use Rattle.nc_world_asks.proofs.Deleted.{delete_are}

-- ---- looks

-- no look is made
abbrev pub IsUnlooked : Event → Type 0
IsUnlooked (Looked w q from number c after floor found) = ⊥
IsUnlooked _ = Unit {0}

abbrev AreUnlooked : List Event → Type 0
AreUnlooked es = AllByRecursion IsUnlooked es

less_left : (w : ℕ) (c : List ℕ) (cause : LeftCause) (es : List Entry) → AreUnlooked (map (left_event w c cause) es)
less_left w c cause [] = tt
less_left w c cause (e ∷ es) = (tt, less_left w c cause es)

less_freed : (w : ℕ) (slots : List ℕ) → AreUnlooked (map (freed_event w) slots)
less_freed w [] = tt
less_freed w (slot ∷ slots) = (tt, less_freed w slots)

less_granted : (w slot g : ℕ) (marks : List ℕ) → AreUnlooked (granted_events w slot g marks)
less_granted w slot g [] = tt
less_granted w slot g (to ∷ marks) = (tt, less_granted w slot (g + 1) marks)

less_touch : (c : List ℕ) (s : Holding) → AreUnlooked (touch_events_of c s.row s.owner)
less_touch c s = less_left s.owner.desk.me c Expired (leavers (is_expired s.owner.desk.clock) (bench_of c s.row s.owner))

less_post : (x : Outcome) (from : ℕ) (o : Order) (polls : Polls) (b : Bench) → AreUnlooked (post_events x from o polls b)
less_post late from o polls b = tt
less_post (is_all usage) from o polls b = tt
less_post stored from o polls b =
    let a = asked polls.leaving b in
    let r = roomy o.length polls.left a in
    all_append IsUnlooked (roomy_events o.length polls.left o.chan a) (stored_events from o (lowest_slot r.row) r)
    (all_append IsUnlooked (map (left_event b.desk.me o.chan Length) (leaving o.length a)) (map (freed_event b.desk.me) (free_slots polls.left)) (less_left b.desk.me o.chan Length (leaving o.length a)) (less_freed b.desk.me (free_slots polls.left)))
    (tt, less_granted b.desk.me (lowest_slot r.row) r.desk.grants r.channel.marks)

less_publish : (polls : Polls) (from : ℕ) (o : Order) (s : Holding) → AreUnlooked (cleared_events polls.retired o.chan (bench_of o.chan s.row s.owner) ++ post_events (publish_outcome o polls s.row s.owner) from o polls (publish_cleared o polls s.row s.owner))
less_publish polls from o s =
    all_append IsUnlooked (cleared_events polls.retired o.chan (bench_of o.chan s.row s.owner)) (post_events (publish_outcome o polls s.row s.owner) from o polls (publish_cleared o polls s.row s.owner))
    (all_append IsUnlooked (touch_events_of o.chan s.row s.owner) (map (freed_event s.owner.desk.me) (free_slots polls.retired)) (less_touch o.chan s) (less_freed s.owner.desk.me (free_slots polls.retired)))
    (less_post (publish_outcome o polls s.row s.owner) from o polls (publish_cleared o polls s.row s.owner))

less_delete : (c : List ℕ) (s : Holding) → AreUnlooked (delete_events c s.row s.owner)
less_delete c s = delete_are IsUnlooked c s.row s.owner less_left (λ w last. tt)

less_parted : (w from k : ℕ) (c : List ℕ) (b : Bool) → AreUnlooked (cond b (Parted w c from k ∷ []) [])
less_parted w from k c true = (tt, tt)
less_parted w from k c false = tt

less_edge : (from number k : ℕ) (c : List ℕ) (s : Holding) → AreUnlooked (edge_events from number k c s.row s.owner)
less_edge from number k c s = edge_are IsUnlooked from number k c s.row s.owner (less_touch c s) tt

-- each look is one that its worker asked for
abbrev pub IsAskedFor : ℕ → List Event → Event → Type 0
IsAskedFor w asks (Looked v q from number c after floor found) = from ≡ w → HasAsk number c after asks
IsAskedFor w asks _ = Unit {0}

-- and so is one that comes
abbrev pub LineAsks : ℕ → List Event → ℕ → AlertLine → Type 0
LineAsks w asks from (lines.Look number c after fence) = from ≡ w → HasAsk number c after asks
LineAsks w asks from line = Unit {0}

abbrev pub ComesAsked : ℕ → List Event → Incoming → Type 0
ComesAsked w asks (TakesPacket from p) = LineAsks w asks from p.line
ComesAsked w asks incoming = Unit {0}

module _ (w : ℕ) (asks : List Event) where
  pub plain : (e : Event) → IsUnlooked e → IsAskedFor w asks e
  plain (Looked v q from number c after floor found) p = absurd p
  plain e p = tt

  plains : (es : List Event) → AreUnlooked es → AllByRecursion (IsAskedFor w asks) es
  plains es p = all_of IsUnlooked (IsAskedFor w asks) plain es p

  looks_found : (from number : ℕ) (c : List ℕ) (id : Id) (x : Option Entry) (d : OwnerDesk) → (from ≡ w → HasAsk number c id asks) → AllByRecursion (IsAskedFor w asks) (looked_event from number c id x d ∷ found_events from x d)
  looks_found from number c id None d ask = (ask, tt)
  looks_found from number c id (Some e) d ask = (ask, (tt, tt))

  looks_look : (from number : ℕ) (c : List ℕ) (id : Id) (s : Holding) → (from ≡ w → HasAsk number c id asks) → AllByRecursion (IsAskedFor w asks) (look_events from number c id s.row s.owner)
  looks_look from number c id s ask =
      let b = bench_of c s.row s.owner in
      let spends = map (left_event s.owner.desk.me c Spent) (leavers is_spent (touched b)) in
      all_append (IsAskedFor w asks) (touch_events_of c s.row s.owner ++ spends) _
      (plains (touch_events_of c s.row s.owner ++ spends) (all_append IsUnlooked (touch_events_of c s.row s.owner) spends (less_touch c s) (less_left s.owner.desk.me c Spent (leavers is_spent (touched b)))))
      (looks_found from number c id (found_on id (look_ready c s.row s.owner)) (look_ready c s.row s.owner).desk ask)

  -- a fence asks for no look
  looks_behind : (fence : ℕ) (s : Holding) (es : List Event) → AllByRecursion (IsAskedFor w asks) es → AllByRecursion (IsAskedFor w asks) (raise_events fence s.owner ++ es)
  looks_behind fence s es k = all_append (IsAskedFor w asks) (raise_events fence s.owner) es (raise_are (IsAskedFor w asks) fence s.owner tt) k

  pub looks_line : (polls : Polls) (from : ℕ) (line : AlertLine) (s : Holding) → LineAsks w asks from line → AllByRecursion (IsAskedFor w asks) (owned_by polls from line s).events
  looks_line polls from (lines.Publish r c len timeout ct body) s ask = plains _ (less_publish polls from (order_of r c len timeout ct body) s)
  looks_line polls from (lines.Look number c after fence) s ask = looks_behind fence s _ (looks_look from number c after (fenced fence s) ask)
  looks_line polls from (lines.Info r c) s ask = plains _ (less_touch c s)
  looks_line polls from (lines.Join c k) s ask = plains _ (all_append IsUnlooked (touch_events_of c s.row s.owner) _ (less_touch c s) (tt, tt))
  looks_line polls from (lines.Part c k) s ask = plains _ (all_append IsUnlooked (touch_events_of c s.row s.owner) _ (less_touch c s) (less_parted s.owner.desk.me from k c (has_member (member_of from k) (opened c s.owner).members)))
  looks_line polls from (lines.PubAnswer r status info full) s ask = tt
  looks_line polls from (lines.LookAnswer number q floor found g slot) s ask = tt
  looks_line polls from (lines.Notice c id g slot) s ask = tt
  looks_line polls from (lines.Edge number k c fence) s ask = looks_behind fence s _ (plains _ (less_edge from number k c (fenced fence s)))
  looks_line polls from (lines.EdgeAnswer number q floor last) s ask = tt
  looks_line polls from (lines.Delete r c) s ask = plains _ (less_delete c s)
  looks_line polls from (lines.DelAnswer r status info) s ask = tt
  looks_line polls from (lines.Gone c subs) s ask = tt
  looks_line polls from (lines.InfoAnswer r status info) s ask = tt

  -- what is removed in a reap, and what polls free, is no look
  pub looks_removed : (workers me : ℕ) (e : Event) → IsOfRemovals workers me e → IsAskedFor w asks e
  looks_removed workers me (Left v c id slot cause) p = tt
  looks_removed workers me (Removed v c last cause) p = tt
  looks_removed workers me e p = absurd p

-- ---- alerts that ask for no look or edge

abbrev pub IsUnasking : AlertLine → Type 0
IsUnasking (lines.Look number c after fence) = ⊥
IsUnasking (lines.Edge number k c fence) = ⊥
IsUnasking line = Unit {0}

abbrev pub MakesUnasking : Event → Type 0
MakesUnasking (Made w to n a) = IsUnasking a
MakesUnasking _ = Unit {0}

abbrev pub AreUnasking : List OutLine → Type 0
AreUnasking alerts = AllByRecursion (λ (a : OutLine). IsUnasking a.line) alerts

unasking_notices : (c : List ℕ) (id : Id) (slot g : ℕ) (marks : List ℕ) → AreUnasking (notices c id slot g marks)
unasking_notices c id slot g [] = tt
unasking_notices c id slot g (to ∷ marks) = (tt, unasking_notices c id slot (g + 1) marks)

unasking_post : (x : Outcome) (from : ℕ) (o : Order) (polls : Polls) (b : Bench) → AreUnasking (post_alerts x from o polls b)
unasking_post late from o polls b = (tt, tt)
unasking_post (is_all usage) from o polls b = (tt, tt)
unasking_post stored from o polls b =
    let c = asked polls.leaving b in
    let r = roomy o.length polls.left c in
    all_append (λ (a : OutLine). IsUnasking a.line) (notices o.chan (stamp c) (lowest_slot r.row) c.desk.grants c.channel.marks)
    (answer from o.r (stored_status c.channel) (Some (info_of (store_bench o polls.left c).channel)) None ∷ [])
    (unasking_notices o.chan (stamp c) (lowest_slot r.row) c.desk.grants c.channel.marks) (tt, tt)

unasking_found : (from number : ℕ) (x : Option Entry) (d : OwnerDesk) → IsUnasking (found_line from number x d).line
unasking_found from number None d = tt
unasking_found from number (Some e) d = tt

unasking_info : (r : ℕ) (b : Bool) (info : Option Info) → IsUnasking (cond b (lines.InfoAnswer r 200 info) (lines.InfoAnswer r 404 None))
unasking_info r true info = tt
unasking_info r false info = tt

pub unasking_line : (polls : Polls) (from : ℕ) (line : AlertLine) (s : Holding) → AreUnasking (owned_by polls from line s).alerts
unasking_line polls from (lines.Publish r c len timeout ct body) s = let o = order_of r c len timeout ct body in unasking_post (publish_outcome o polls s.row s.owner) from o polls (publish_cleared o polls s.row s.owner)
unasking_line polls from (lines.Look number c after fence) s = let b = look_ready c s.row (fenced fence s).owner in (unasking_found from number (found_on after b) b.desk, tt)
unasking_line polls from (lines.Info r c) s = (unasking_info r (exists c s.owner) (Some (info_of (touched_of c s.row s.owner).channel)), tt)
unasking_line polls from (lines.Join c k) s = tt
unasking_line polls from (lines.Part c k) s = tt
unasking_line polls from (lines.PubAnswer r status info full) s = tt
unasking_line polls from (lines.LookAnswer number q floor found g slot) s = tt
unasking_line polls from (lines.Notice c id g slot) s = tt
unasking_line polls from (lines.Edge number k c fence) s = (tt, tt)
unasking_line polls from (lines.EdgeAnswer number q floor last) s = tt
unasking_line polls from (lines.Delete r c) s = deletion_told (λ (a : OutLine). IsUnasking a.line) c (λ members to. tt) from r s.row s.owner (λ status info is. tt)
unasking_line polls from (lines.DelAnswer r status info) s = tt
unasking_line polls from (lines.Gone c subs) s = tt
unasking_line polls from (lines.InfoAnswer r status info) s = tt
