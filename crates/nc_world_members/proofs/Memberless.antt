-- What an owner's step makes of the members of a channel.
use Rattle.std.proofs.Common.{◌≡◌, ℕ, ◌+◌, Bool, true, false, cond, not, List, [], ◌∷◌, ◌++◌, Option, Some, None, refl, ◌∙◌, map}
use Rattle.std.specs.Prelude.{◌&&◌, ◌||◌, bytes_eq}
use Rattle.std.specs.List.{AllByRecursion}
use Rattle.nc_types.specs.Id.{Id}
use Rattle.nc_types.specs.declared.info.Info.{Info}
use Rattle.nc_journal.specs.History.{onto}
use Rattle.nc_journal.specs.declared.event.Event.{Event}
use Rattle.nc_journal.specs.declared.event.Event.TheVariants.{Joined, Parted, Removed, Made}
use Rattle.nc_journal.specs.declared.word.LeftCause.{LeftCause}
use Rattle.nc_journal.specs.declared.word.LeftCause.TheVariants.{Length, Expired, Spent}
use Rattle.nc_journal.specs.declared.alert.AlertLine.{AlertLine}
use Rattle.nc_journal.specs.declared.alert.AlertLine.TheVariants as lines
use Rattle.nc_buffer.specs.declared.entry.Entry.{Entry}
use Rattle.nc_buffer.specs.Buffer.{is_expired, is_spent}
use Rattle.nc_owner.specs.declared.desk.Desk.{Desk as OwnerDesk}
use Rattle.nc_owner.specs.declared.member.Member.{Member}
use Rattle.nc_owner.specs.declared.order.Order.{Order}
use Rattle.nc_owner.specs.AlertLines.{OutLine}
use Rattle.nc_owner.specs.State.{Bench, bench_of, opened, exists}
use Rattle.nc_owner.specs.Leave.{left_event, leavers, touched}
use Rattle.nc_owner.specs.Poll.{freed_event, free_slots}
use Rattle.nc_owner.specs.Publish.{Polls, Outcome, late, stored, full as is_all, notices, answer, stamp, stored_status, store_bench, granted_events, asked, roomy, roomy_events, stored_events, leaving, lowest_slot, post_events, post_alerts, cleared_events, publish_outcome, publish_cleared, info_of}
use Rattle.nc_owner.specs.Look.{found_on, looked_event, found_events, found_line, look_ready, look_events}
use Rattle.nc_owner.specs.Fence.{raise_events}
use Rattle.nc_owner.specs.Edge.{edge_events}
use Rattle.nc_owner.specs.OtherSteps.{touch_events_of, touch_after, touched_of}
use Rattle.nc_owner.specs.Remove.{gone_line, concerned, alerts_of_removal, delete_alerts, delete_line, delete_answer}
use Rattle.nc_owner_laws.specs.Filters.{is_same, is_member}
use Rattle.nc_owner_laws.proofs.Fences.{raise_are, edge_are}
use Rattle.nc_worker_state.specs.Incoming.{Incoming, TakesPacket}
use Rattle.nc_worker_state.specs.Owned.{Holding, fenced, owned_by, order_of}
use Rattle.nc_world_laws.proofs.Local.{all_of, all_append}

-- ---- events that tell nothing of members

abbrev pub IsMemberless : Event → Type 0
IsMemberless (Joined w c from k) = ⊥
IsMemberless (Parted w c from k) = ⊥
IsMemberless (Removed w c last cause) = ⊥
IsMemberless _ = Unit {0}

memberless_one : (c : List ℕ) (m : Member) (e : Event) (h : List Event) → IsMemberless e → is_member c m (e ∷ h) ≡ is_member c m h
memberless_one c m (Joined w d from k) h p = absurd p
memberless_one c m (Parted w d from k) h p = absurd p
memberless_one c m (Removed w d last cause) h p = absurd p
memberless_one c m e h p = refl

pub memberless_onto : (c : List ℕ) (m : Member) (es h : List Event) → AllByRecursion IsMemberless es → is_member c m (onto es h) ≡ is_member c m h
memberless_onto c m [] h p = refl
memberless_onto c m (e ∷ es) h p = memberless_onto c m es (e ∷ h) p.1 ∙ memberless_one c m e h p.0

abbrev pub AreMemberless : List Event → Type 0
AreMemberless es = AllByRecursion IsMemberless es

pub less_left : (w : ℕ) (c : List ℕ) (cause : LeftCause) (es : List Entry) → AreMemberless (map (left_event w c cause) es)
less_left w c cause [] = tt
less_left w c cause (e ∷ es) = (tt, less_left w c cause es)

pub less_freed : (w : ℕ) (slots : List ℕ) → AreMemberless (map (freed_event w) slots)
less_freed w [] = tt
less_freed w (slot ∷ slots) = (tt, less_freed w slots)

less_granted : (w slot g : ℕ) (marks : List ℕ) → AreMemberless (granted_events w slot g marks)
less_granted w slot g [] = tt
less_granted w slot g (to ∷ marks) = (tt, less_granted w slot (g + 1) marks)

pub less_touch : (c : List ℕ) (s : Holding) → AreMemberless (touch_events_of c s.row s.owner)
less_touch c s = less_left s.owner.desk.me c Expired (leavers (is_expired s.owner.desk.clock) (bench_of c s.row s.owner))

less_post : (x : Outcome) (from : ℕ) (o : Order) (polls : Polls) (b : Bench) → AreMemberless (post_events x from o polls b)
less_post late from o polls b = tt
less_post (is_all usage) from o polls b = tt
less_post stored from o polls b =
    let a = asked polls.leaving b in
    let r = roomy o.length polls.left a in
    all_append IsMemberless (roomy_events o.length polls.left o.chan a) (stored_events from o (lowest_slot r.row) r)
    (all_append IsMemberless (map (left_event b.desk.me o.chan Length) (leaving o.length a)) (map (freed_event b.desk.me) (free_slots polls.left)) (less_left b.desk.me o.chan Length (leaving o.length a)) (less_freed b.desk.me (free_slots polls.left)))
    (tt, less_granted b.desk.me (lowest_slot r.row) r.desk.grants r.channel.marks)

less_found : (from number : ℕ) (c : List ℕ) (id : Id) (x : Option Entry) (d : OwnerDesk) → AreMemberless (looked_event from number c id x d ∷ found_events from x d)
less_found from number c id None d = (tt, tt)
less_found from number c id (Some e) d = (tt, (tt, tt))

pub less_publish : (polls : Polls) (from : ℕ) (o : Order) (s : Holding) → AreMemberless (cleared_events polls.retired o.chan (bench_of o.chan s.row s.owner) ++ post_events (publish_outcome o polls s.row s.owner) from o polls (publish_cleared o polls s.row s.owner))
less_publish polls from o s =
    all_append IsMemberless (cleared_events polls.retired o.chan (bench_of o.chan s.row s.owner)) (post_events (publish_outcome o polls s.row s.owner) from o polls (publish_cleared o polls s.row s.owner))
    (all_append IsMemberless (touch_events_of o.chan s.row s.owner) (map (freed_event s.owner.desk.me) (free_slots polls.retired)) (less_touch o.chan s) (less_freed s.owner.desk.me (free_slots polls.retired)))
    (less_post (publish_outcome o polls s.row s.owner) from o polls (publish_cleared o polls s.row s.owner))

pub less_look : (from number : ℕ) (c : List ℕ) (id : Id) (s : Holding) → AreMemberless (look_events from number c id s.row s.owner)
less_look from number c id s =
    let b = bench_of c s.row s.owner in
    let spends = map (left_event s.owner.desk.me c Spent) (leavers is_spent (touched b)) in
    all_append IsMemberless (touch_events_of c s.row s.owner ++ spends) _
    (all_append IsMemberless (touch_events_of c s.row s.owner) spends (less_touch c s) (less_left s.owner.desk.me c Spent (leavers is_spent (touched b))))
    (less_found from number c id (found_on id (look_ready c s.row s.owner)) (look_ready c s.row s.owner).desk)

pub less_edge : (from number k : ℕ) (c : List ℕ) (s : Holding) → AreMemberless (edge_events from number k c s.row s.owner)
less_edge from number k c s = edge_are IsMemberless from number k c s.row s.owner (less_touch c s) tt

-- a fence tells nothing of members
pub less_behind : (fence : ℕ) (s : Holding) (es : List Event) → AreMemberless es → AreMemberless (raise_events fence s.owner ++ es)
less_behind fence s es k = all_append IsMemberless (raise_events fence s.owner) es (raise_are IsMemberless fence s.owner tt) k

-- ---- what an owner's step makes of a member

abbrev pub member_by : List ℕ → Member → ℕ → AlertLine → Bool → Bool
member_by c m from (lines.Join d n) is = (bytes_eq d c && is_same m from n) || is
member_by c m from (lines.Part d n) is = not (bytes_eq d c && is_same m from n) && is
member_by c m from (lines.Delete r d) is = not (bytes_eq d c) && is
member_by c m from line is = is

abbrev pub member_in : List ℕ → Member → Incoming → Bool → Bool
member_in c m (TakesPacket from p) is = member_by c m from p.line is
member_in c m incoming is = is

-- whether the step tells a member that the channel is gone
abbrev pub lost_by : List ℕ → AlertLine → Bool → Bool
lost_by c (lines.Delete r d) is = bytes_eq d c && is
lost_by c line is = false

abbrev pub lost_in : List ℕ → Incoming → Bool → Bool
lost_in c (TakesPacket from p) is = lost_by c p.line is
lost_in c incoming is = false

-- ---- alerts that tell nothing of members

abbrev pub IsApart : AlertLine → Type 0
IsApart (lines.Join d n) = ⊥
IsApart (lines.Part d n) = ⊥
IsApart line = Unit {0}

abbrev pub MakesApart : Event → Type 0
MakesApart (Made w to n a) = IsApart a
MakesApart _ = Unit {0}

abbrev pub AreApart : List OutLine → Type 0
AreApart alerts = AllByRecursion (λ (a : OutLine). IsApart a.line) alerts

-- an alert that tells nobody that a channel is gone either
abbrev pub IsOther : AlertLine → Type 0
IsOther (lines.Join d n) = ⊥
IsOther (lines.Part d n) = ⊥
IsOther (lines.Gone d subs) = ⊥
IsOther line = Unit {0}

other_apart : (line : AlertLine) → IsOther line → IsApart line
other_apart (lines.Join d n) p = p
other_apart (lines.Part d n) p = p
other_apart line p = tt

abbrev pub AreOther : List OutLine → Type 0
AreOther alerts = AllByRecursion (λ (a : OutLine). IsOther a.line) alerts

-- a line that doesn't ask for a deletion
abbrev pub IsUndeleting : AlertLine → Type 0
IsUndeleting (lines.Delete r c) = ⊥
IsUndeleting line = Unit {0}

other_notices : (c : List ℕ) (id : Id) (slot g : ℕ) (marks : List ℕ) → AreOther (notices c id slot g marks)
other_notices c id slot g [] = tt
other_notices c id slot g (to ∷ marks) = (tt, other_notices c id slot (g + 1) marks)

other_post : (x : Outcome) (from : ℕ) (o : Order) (polls : Polls) (b : Bench) → AreOther (post_alerts x from o polls b)
other_post late from o polls b = (tt, tt)
other_post (is_all usage) from o polls b = (tt, tt)
other_post stored from o polls b =
    let c = asked polls.leaving b in
    let r = roomy o.length polls.left c in
    all_append (λ (a : OutLine). IsOther a.line) (notices o.chan (stamp c) (lowest_slot r.row) c.desk.grants c.channel.marks)
    (answer from o.r (stored_status c.channel) (Some (info_of (store_bench o polls.left c).channel)) None ∷ [])
    (other_notices o.chan (stamp c) (lowest_slot r.row) c.desk.grants c.channel.marks) (tt, tt)

other_found : (from number : ℕ) (x : Option Entry) (d : OwnerDesk) → IsOther (found_line from number x d).line
other_found from number None d = tt
other_found from number (Some e) d = tt

other_info : (r : ℕ) (b : Bool) (info : Option Info) → IsOther (cond b (lines.InfoAnswer r 200 info) (lines.InfoAnswer r 404 None))
other_info r true info = tt
other_info r false info = tt

-- what an owner answers to each other line
pub other_line : (polls : Polls) (from : ℕ) (line : AlertLine) (s : Holding) → IsUndeleting line → AreOther (owned_by polls from line s).alerts
other_line polls from (lines.Publish r c len timeout ct body) s u = let o = order_of r c len timeout ct body in other_post (publish_outcome o polls s.row s.owner) from o polls (publish_cleared o polls s.row s.owner)
other_line polls from (lines.Look number c after fence) s u = let b = look_ready c s.row (fenced fence s).owner in (other_found from number (found_on after b) b.desk, tt)
other_line polls from (lines.Info r c) s u = (other_info r (exists c s.owner) (Some (info_of (touched_of c s.row s.owner).channel)), tt)
other_line polls from (lines.Join c k) s u = tt
other_line polls from (lines.Part c k) s u = tt
other_line polls from (lines.PubAnswer r status info full) s u = tt
other_line polls from (lines.LookAnswer number q floor found g slot) s u = tt
other_line polls from (lines.Notice c id g slot) s u = tt
other_line polls from (lines.Edge number k c fence) s u = (tt, tt)
other_line polls from (lines.EdgeAnswer number q floor last) s u = tt
other_line polls from (lines.Delete r c) s u = absurd u
other_line polls from (lines.DelAnswer r status info) s u = tt
other_line polls from (lines.Gone c subs) s u = tt
other_line polls from (lines.InfoAnswer r status info) s u = tt

apart_gones : (c : List ℕ) (ms : List Member) (ws : List ℕ) → AreApart (map (gone_line c ms) ws)
apart_gones c ms [] = tt
apart_gones c ms (w ∷ ws) = (tt, apart_gones c ms ws)

apart_delete : (from r : ℕ) (c : List ℕ) (s : Holding) → AreApart (delete_alerts from r c s.row s.owner)
apart_delete from r c s =
    all_append (λ (a : OutLine). IsApart a.line) (alerts_of_removal (exists c s.owner) c (touch_after c s.row s.owner)) (delete_line from r c s.row s.owner ∷ [])
    (removal (exists c s.owner)) (answer (exists c s.owner), tt)
  where
    removal : (goes : Bool) → AreApart (alerts_of_removal goes c (touch_after c s.row s.owner))
    removal true = let ch = opened c (touch_after c s.row s.owner) in apart_gones c ch.members (concerned ch)
    removal false = tt

    answer : (there : Bool) → IsApart (cond there (delete_answer from r 200 (Some (info_of (touched_of c s.row s.owner).channel))) (delete_answer from r 404 None)).line
    answer true = tt
    answer false = tt

-- what an owner makes lets nobody join or part
pub apart_line : (polls : Polls) (from : ℕ) (line : AlertLine) (s : Holding) → AreApart (owned_by polls from line s).alerts
apart_line polls from (lines.Delete r c) s = apart_delete from r c s
apart_line polls from line s = all_of (λ (a : OutLine). IsOther a.line) (λ (a : OutLine). IsApart a.line) (λ a. other_apart a.line) (owned_by polls from line s).alerts (other_line polls from line s tt)
