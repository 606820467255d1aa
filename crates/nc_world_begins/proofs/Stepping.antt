-- Each move of a world leaves what its starts know.
use Rattle.std.proofs.Common.{◌≡◌, ℕ, suc, Option, None, Bool, true, false, cond, ◌||◌, List, [], ◌∷◌, refl, sym, ap, ◌∙◌, subst, arith, filter}
use Rattle.std.specs.Prelude.{◌==◌}
use Rattle.std.specs.List.{AllByRecursion}
use Rattle.std.specs.Option.{option_map}
use Rattle.std.proofs.lemmas.Bool.Decides.{nat_tests}
use Rattle.nc_types.specs.Id.{Id}
use Rattle.nc_types.specs.Cursor.{CursorAt}
use Rattle.nc_types.specs.declared.info.Info.{Info}
use Rattle.nc_types.specs.declared.start.Start.{Start}
use Rattle.nc_types.specs.declared.start.Start.TheVariants.{Oldest, Newest, Given}
use Rattle.nc_journal.specs.History.{own, onto}
use Rattle.nc_journal.specs.Standing.{Stage, Absent, Starting, Standing, Served, Over, is_once, started, served, IsStarting, stage_of, is_subscribed}
use Rattle.nc_journal.specs.declared.event.Event.{Event}
use Rattle.nc_journal.specs.declared.event.Event.TheVariants.{Subscribed, Started, Sent, Ended, Released, Made, Pending, Quiet}
use Rattle.nc_journal.specs.declared.event.Event.TheVariants as events
use Rattle.nc_journal.specs.declared.word.AlertKind.TheVariants as kinds
use Rattle.nc_journal.specs.declared.word.EndedCause.TheVariants.{Answered, Deleted}
use Rattle.nc_journal.specs.declared.alert.AlertLine.{AlertLine}
use Rattle.nc_journal.specs.declared.alert.AlertLine.TheVariants as lines
use Rattle.nc_owner.specs.AlertLines.{OutLine}
use Rattle.nc_owner_laws.specs.Kinds.{IsOfOwner}
use Rattle.nc_spool_state.specs.declared.edge.Edge.TheVariants.{Known}
use Rattle.nc_spool_state.specs.Kept.{is_idle}
use Rattle.nc_spool_state.specs.Starting.{StartingAt}
use Rattle.nc_spool.specs.Calls.{board_of, news_of, arrive_facts, answer_facts, edge_facts, notice_facts, gone_facts}
use Rattle.nc_spool_laws.specs.Numbers.{total}
use Rattle.nc_spool_laws.specs.Tally.{start_at, stands}
use Rattle.nc_spool_members.proofs.Started.{keep-starts}
use Rattle.nc_history.specs.Packets.{Packet, packet, IsNext}
use Rattle.nc_worker_state.specs.Setup.{Setup}
use Rattle.nc_worker_state.specs.Incoming.{Incoming, TakesPacket, ClockReads, Reaps, Posts, Subscribes, Removes, Informs}
use Rattle.nc_worker_state.specs.Deed.{Does, told, next_after}
use Rattle.nc_worker_state.specs.Desk.{Desk, Served as Deeds, unserved, is_waiting, without, replied, handled as answered, begun}
use Rattle.nc_worker_state.specs.Spooled.{Hold, found_in, found_by}
use Rattle.nc_worker_state.specs.Worker.{WorkerAt, with_at, dealt_worker}
use Rattle.nc_world.specs.World.{World, handled_events, handled}
use Rattle.nc_world.specs.Moves.{carried_one}
use Rattle.nc_world.specs.Reached.{IsSetup, Comes, IsInput, Reached}
use Rattle.nc_world_laws.specs.Good.{Good}
use Rattle.nc_world_laws.proofs.WorldTheme.{IsWorldTheme}
use Rattle.nc_world_laws.proofs.Local.{either, eq_of}
use Rattle.nc_world_laws.proofs.Acting.{with_all}
use Rattle.nc_world_laws.proofs.Frames.{handled_onto}
use Rattle.nc_world_laws.proofs.Parts.{owns, serves, before, part, part_made, step_by}
use Rattle.nc_world_laws.proofs.WorldThemes.{world_theme_holds}
use Rattle.nc_world_members.specs.Stages.{Starts}
use Rattle.nc_world_members.proofs.Desks.{comes}
use Rattle.nc_world_members.proofs.Moving.{reached_has_members}
use Rattle.nc_world_members.proofs.Staging.{spools_stand}
use Rattle.nc_world_members.proofs.Stepping.{unsubscribed_here, unsubscribed_there}
use Rattle.nc_world_asks.proofs.Reaching.{owner_unasking, ring_next}
use Rattle.nc_world_asks.proofs.Unlooked.{IsUnasking}
use Rattle.nc_world_places.proofs.Framing.{then_releases}
use Rattle.nc_world_places.proofs.Telling.{reached_owners_tell}
use Rattle.nc_world_edges.specs.Edges.{ReachedTellsEdges, NextEdgeAnswers, EdgeAskedOnce, EdgeAskedBelow}
use Rattle.nc_world_begins.specs.Knowing.{StartHolds}
use Rattle.nc_world_begins.specs.Calls.{EdgesGive, EdgeHolds, EdgeStarts, Unasked}
use Rattle.nc_world_begins.specs.Begins.{HasStarts, ReachedHasStarts, AnswersStart}
use Rattle.nc_world_begins.proofs.Staying.{IsBeside, MakesBeside, Stays, stays_then, stays_one, stays_onto, other_onto, start_stays, unasked_stays}
use Rattle.nc_world_begins.proofs.Beside.{IsOthers, answered_beside, noticed_beside, gone_beside, arrived_beside, edged_beside, events_beside}
use Rattle.nc_world_begins.proofs.Arriving.{others_stay, newest_holds}
use Rattle.nc_world_begins.proofs.Losing.{loss_holds}

-- ---- who is starting was subscribed

from_started : (cur : CursorAt) (s : Stage) → IsStarting (started cur s) → IsStarting s
from_started cur (Starting list once start) p = tt
from_started cur Absent p = absurd p
from_started cur (Standing list once at) p = absurd p
from_started cur (Served list at) p = absurd p
from_started cur Over p = absurd p

from_served : (cur : CursorAt) (s : Stage) → IsStarting (served cur s) → IsStarting s
from_served cur (Starting list once start) p = tt
from_served cur Absent p = absurd p
from_served cur (Standing list true at) p = absurd p
from_served cur (Standing list false at) p = absurd p
from_served cur (Served list at) p = absurd p
from_served cur Over p = absurd p

starting_case : (b : Bool) (x y : Stage) → (IsStarting x → IsStarting y) → IsStarting (cond b x y) → IsStarting y
starting_case true x y f p = f p
starting_case false x y f p = p

pub starting_subscribed : (k : ℕ) (h : List Event) → IsStarting (stage_of k h) → is_subscribed k h ≡ true
starting_subscribed k [] p = absurd p
starting_subscribed k (Subscribed w n conn list mode start timeout close ∷ h) p = by (n == k) p (λ q. starting_subscribed k h q)
  where
    by : (b : Bool) → IsStarting (cond b (Starting list (is_once mode) start) (stage_of k h)) → (IsStarting (stage_of k h) → is_subscribed k h ≡ true) → (b || is_subscribed k h) ≡ true
    by true q rest = refl
    by false q rest = rest q
starting_subscribed k (Started w n cur ∷ h) p = starting_subscribed k h (starting_case (n == k) (started cur (stage_of k h)) (stage_of k h) (from_started cur (stage_of k h)) p)
starting_subscribed k (Sent w n i c id cur looks ∷ h) p = starting_subscribed k h (starting_case (n == k) (served cur (stage_of k h)) (stage_of k h) (from_served cur (stage_of k h)) p)
starting_subscribed k (Ended w n cause ∷ h) p = starting_subscribed k h (starting_case (n == k) Over (stage_of k h) (λ q. absurd q) p)
starting_subscribed k (e ∷ h) p = starting_subscribed k h p

-- so one that was never subscribed is no start
start_others : (w j : ℕ) (h : List Event) (s : StartingAt) → is_subscribed j (own w h) ≡ false → Starts w h s → IsOthers j s
start_others w j h s never starts = by (s.reader.k == j) refl
  where
    clash : (b : Bool) → b ≡ true → b ≡ false → ⊥
    clash true e f = cc
    clash false e f = cc

    same : (a b : ℕ) → (a == b) ≡ true → a ≡ b
    same a b e = grind (arith, nat_tests)

    by : (t : Bool) → (s.reader.k == j) ≡ t → t ≡ false
    by true e =
        let was : is_subscribed s.reader.k (own w h) ≡ true = starting_subscribed s.reader.k (own w h) (subst IsStarting (sym starts) tt) in
        absurd (clash (is_subscribed j (own w h)) (ap (λ (n : ℕ). is_subscribed n (own w h)) (sym (same s.reader.k j e)) ∙ was) never)
    by false e = refl

all_others : (w j : ℕ) (h : List Event) (sts : List StartingAt) → is_subscribed j (own w h) ≡ false → AllByRecursion (Starts w h) sts → AllByRecursion (IsOthers j) sts
all_others w j h [] never starts = tt
all_others w j h (s ∷ sts) never starts = (start_others w j h s never starts.0, all_others w j h sts never starts.1)

-- ---- all starts

pub all_stay : (workers w : ℕ) (h l : List Event) → ((j : ℕ) → Stays w j h l) → (sts : List StartingAt) → AllByRecursion (StartHolds workers w h) sts → AllByRecursion (StartHolds workers w l) sts
all_stay workers w h l stays [] each = tt
all_stay workers w h l stays (s ∷ sts) each = (start_stays workers w h l s (stays s.reader.k) each.0, all_stay workers w h l stays sts each.1)

-- an alert that asks for nothing asks for no edge, and an owner makes none by its events
unasking_beside : (j : ℕ) (a : AlertLine) → IsUnasking a → IsBeside j a
unasking_beside j (lines.Edge number k c fence) p = absurd p
unasking_beside j a p = tt

owner_beside : (w j : ℕ) (e : Event) → IsOfOwner w e → MakesBeside j e
owner_beside w j (Made v to n a) p = absurd p
owner_beside w j e p = tt

-- what comes to a worker is as it counts on
abbrev Suits : Setup → ℕ → List Event → Incoming → Type 0
Suits setup w h (TakesPacket from p) = IsNext from w p.line h
Suits setup w h (Subscribes k list start) = Comes w k list start h
Suits setup w h incoming = Unit {0}

input_suits : (setup : Setup) (w : ℕ) (h : List Event) (incoming : Incoming) → IsInput w h incoming → Suits setup w h incoming
input_suits setup w h (TakesPacket from p) i = absurd i
input_suits setup w h (ClockReads t) i = tt
input_suits setup w h Reaps i = tt
input_suits setup w h (Posts c body) i = tt
input_suits setup w h (Subscribes k list start) i = i
input_suits setup w h (Removes c) i = tt
input_suits setup w h (Informs c) i = tt

-- ---- with the laws of edges

module _ (edge_holds : EdgeHolds) (tells : ReachedTellsEdges) (answers : NextEdgeAnswers) (once : EdgeAskedOnce) (below : EdgeAskedBelow) where
  edges_give : (setup : Setup) (h : List Event) (world : World) → IsSetup setup → Reached setup h world → (w : ℕ) → EdgesGive setup.workers w (world.workers w).desk.spools.next h
  edges_give setup h world is r w = record {
    done = λ k c. tells setup h world is r w k c;
    by_owner = (reached_owners_tell setup h world is r).owners.by_owner;
    once = λ number k fence k2 fence2 c c2 a b. once setup h world is r w number k fence k2 fence2 c c2 a b;
    below = λ number k fence c a. below setup h world is r w number k fence c a;
  }

  module _ (setup : Setup) (is : IsSetup setup) (w : ℕ) (h : List Event) (world : World) (r : Reached setup h world) (g : Good setup h world) (has : HasStarts setup.workers h world) where
    abbrev d : Desk
    d = (world.workers w).desk

    abbrev owned : Incoming → List Event
    owned incoming = onto (part w incoming world) (onto (before setup w incoming world) h)

    before_beside : (j : ℕ) (incoming : Incoming) → AllByRecursion (MakesBeside j) (before setup w incoming world)
    before_beside j (TakesPacket from p) = (tt, tt)
    before_beside j (ClockReads t) = (tt, tt)
    before_beside j Reaps = tt
    before_beside j (Posts c body) = (tt, tt)
    before_beside j (Subscribes k list start) = (tt, tt)
    before_beside j (Removes c) = (tt, tt)
    before_beside j (Informs c) = (tt, tt)

    part_beside : (j : ℕ) (incoming : Incoming) → AllByRecursion (MakesBeside j) (part w incoming world)
    part_beside j incoming = part_made setup is w incoming h world g (MakesBeside j) (λ (a : OutLine). IsUnasking a.line) (owner_beside w j) (λ n a p. unasking_beside j a.line p) (owner_unasking setup is w incoming h world g)

    -- what opens a step, and its owner's part, leave all starts
    owned_stays : (incoming : Incoming) (j : ℕ) → Stays w j h (owned incoming)
    owned_stays incoming j = stays_then w j h (onto (before setup w incoming world) h) (owned incoming) (stays_onto w j (before setup w incoming world) h (before_beside j incoming))
        (stays_onto w j (part w incoming world) (onto (before setup w incoming world) h) (part_beside j incoming))

    owned_hold : (incoming : Incoming) → AllByRecursion (StartHolds setup.workers w (owned incoming)) d.spools.starts
    owned_hold incoming = all_stay setup.workers w h (owned incoming) (owned_stays incoming) d.spools.starts (has.hold w)

    -- what the worker does beside it leaves what is so of each start, and asks for no edge of one that was never subscribed
    abbrev Goes : (ℕ → ℕ) → Incoming → Deeds → Type 0
    Goes next incoming x = AllByRecursion (StartHolds setup.workers w (onto (told w next x.deeds) (owned incoming))) x.after.spools.starts
        × ((j : ℕ) → is_subscribed j (own w h) ≡ false → comes incoming j ≡ false → AllByRecursion (MakesBeside j) (told w next x.deeds))

    plain_goes : (next : ℕ → ℕ) (incoming : Incoming) (x : Deeds) → ((j : ℕ) → AllByRecursion (MakesBeside j) (told w next x.deeds)) → x.after.spools.starts ≡ d.spools.starts → Goes next incoming x
    plain_goes next incoming x beside same = (
      subst (AllByRecursion (StartHolds setup.workers w (onto (told w next x.deeds) (owned incoming)))) (sym same)
          (all_stay setup.workers w h (onto (told w next x.deeds) (owned incoming)) (λ j. stays_then w j h (owned incoming) (onto (told w next x.deeds) (owned incoming)) (owned_stays incoming j) (stays_onto w j (told w next x.deeds) (owned incoming) (beside j))) d.spools.starts (has.hold w)),
      λ j never other. beside j,
    )

    reply_goes : (next : ℕ → ℕ) (incoming : Incoming) (n status : ℕ) (info : Option Info) → Goes next incoming (replied w n status info d)
    reply_goes next incoming n status info = either (Goes next incoming) (is_waiting n d.waiting)
        (record { deeds = Does (events.Answered w n None status info false false) ∷ []; after = record d { waiting = without n d.waiting } }) (unserved d)
        (plain_goes next incoming (record { deeds = Does (events.Answered w n None status info false false) ∷ []; after = record d { waiting = without n d.waiting } }) (λ j. (tt, tt)) refl)
        (plain_goes next incoming (unserved d) (λ j. tt) refl)

    edge_goes : (next : ℕ → ℕ) (from n number q floor : ℕ) (last : Id) → IsNext from w (lines.EdgeAnswer number q floor last) h
        → Goes next (TakesPacket from (packet n (lines.EdgeAnswer number q floor last))) (answered w from (lines.EdgeAnswer number q floor last) d)
    edge_goes next from n number q floor last first = (
      edge_holds setup.workers w from n number q floor last kinds.EdgeAnswer next h d.spools (edges_give setup h world is r w) (answers setup h world is r from w number q floor last first) (g.knows w)
          ((reached_has_members setup h world is r).singly w).once (has.hold w),
      λ j never other. events_beside j w Answered next (edge_facts number floor last d.spools)
          (edged_beside j number (Known last floor) (board_of d.spools) (all_others w j h d.spools.starts never (spools_stand setup h world is r w).1) tt),
    )

    -- who is left holds as before
    gone_goes : (next : ℕ → ℕ) (from n : ℕ) (c subs : List ℕ) → Goes next (TakesPacket from (packet n (lines.Gone c subs))) (answered w from (lines.Gone c subs) d)
    gone_goes next from n c subs = (
      loss_holds setup.workers w next c subs (owned (TakesPacket from (packet n (lines.Gone c subs)))) d.spools (owned_hold (TakesPacket from (packet n (lines.Gone c subs)))),
      λ j never other. events_beside j w Deleted next (gone_facts c subs d.spools) (gone_beside j c subs (board_of d.spools) tt),
    )

    packet_goes : (next : ℕ → ℕ) (from n : ℕ) (line : AlertLine) → IsNext from w line h → Goes next (TakesPacket from (packet n line)) (answered w from line d)
    packet_goes next from n (lines.LookAnswer number q floor past gr slot) first =
        plain_goes next (TakesPacket from (packet n (lines.LookAnswer number q floor past gr slot))) (answered w from (lines.LookAnswer number q floor past gr slot) d)
        (λ j. events_beside j w Answered next (answer_facts number q floor (found_in from past gr slot) d.spools)
        (answered_beside j number (record { q = q; floor = floor }) (option_map news_of (found_in from past gr slot)) (board_of d.spools) tt))
        ((keep-starts Hold d.spools).answer number q floor (found_in from past gr slot))
    packet_goes next from n (lines.Notice c id gr slot) first =
        plain_goes next (TakesPacket from (packet n (lines.Notice c id gr slot))) (answered w from (lines.Notice c id gr slot) d)
        (λ j. events_beside j w Answered next (notice_facts c (found_by from id gr slot) d.spools) (noticed_beside j c (news_of (found_by from id gr slot)) (board_of d.spools) tt))
        ((keep-starts Hold d.spools).notice c (found_by from id gr slot))
    packet_goes next from n (lines.EdgeAnswer number q floor last) first = edge_goes next from n number q floor last first
    packet_goes next from n (lines.Gone c subs) first = gone_goes next from n c subs
    packet_goes next from n (lines.PubAnswer m status info usage) first = reply_goes next (TakesPacket from (packet n (lines.PubAnswer m status info usage))) m status info
    packet_goes next from n (lines.InfoAnswer m status info) first = reply_goes next (TakesPacket from (packet n (lines.InfoAnswer m status info))) m status info
    packet_goes next from n (lines.DelAnswer m status info) first = reply_goes next (TakesPacket from (packet n (lines.DelAnswer m status info))) m status info
    packet_goes next from n (lines.Publish m c len timeout ct body) first = plain_goes next (TakesPacket from (packet n (lines.Publish m c len timeout ct body))) (unserved d) (λ j. tt) refl
    packet_goes next from n (lines.Look number c after fence) first = plain_goes next (TakesPacket from (packet n (lines.Look number c after fence))) (unserved d) (λ j. tt) refl
    packet_goes next from n (lines.Edge number m c fence) first = plain_goes next (TakesPacket from (packet n (lines.Edge number m c fence))) (unserved d) (λ j. tt) refl
    packet_goes next from n (lines.Join c m) first = plain_goes next (TakesPacket from (packet n (lines.Join c m))) (unserved d) (λ j. tt) refl
    packet_goes next from n (lines.Part c m) first = plain_goes next (TakesPacket from (packet n (lines.Part c m))) (unserved d) (λ j. tt) refl
    packet_goes next from n (lines.Delete m c) first = plain_goes next (TakesPacket from (packet n (lines.Delete m c))) (unserved d) (λ j. tt) refl
    packet_goes next from n (lines.Info m c) first = plain_goes next (TakesPacket from (packet n (lines.Info m c))) (unserved d) (λ j. tt) refl

    -- a subscriber comes, whose number is new
    comes_beside : (next : ℕ → ℕ) (n : ℕ) (list : List (List ℕ)) (start : Start) (j : ℕ) → (n == j) ≡ false → AllByRecursion (MakesBeside j) (told w next (begun setup w (Subscribes n list start) d).deeds)
    comes_beside next n list start j other = events_beside j w Answered next (arrive_facts n list start true d.spools) (arrived_beside j (record { k = n; once = true }) list start (board_of d.spools) other tt)

    nowhere : (n : ℕ) → is_subscribed n (own w h) ≡ false → stands n (board_of d.spools) ≡ 0
    nowhere n new = (reached_has_members setup h world is r).known w n new

    arrive_goes : (next : ℕ → ℕ) (n : ℕ) (list : List (List ℕ)) (start : Start) → Comes w n list start h
        → AllByRecursion (StartHolds setup.workers w (onto (told w next (begun setup w (Subscribes n list start) d).deeds) (owned (Subscribes n list start)))) (begun setup w (Subscribes n list start) d).after.spools.starts
    arrive_goes next n list start c = by start (owned_hold (Subscribes n list start))
      where
        none : total (start_at n) d.spools.starts ≡ 0
        none = omega (arith, nowhere n c.new)

        by : (start : Start) → AllByRecursion (StartHolds setup.workers w (owned (Subscribes n list start))) d.spools.starts
            → AllByRecursion (StartHolds setup.workers w (onto (told w next (begun setup w (Subscribes n list start) d).deeds) (owned (Subscribes n list start)))) (begun setup w (Subscribes n list start) d).after.spools.starts
        by Oldest hold = subst (AllByRecursion (StartHolds setup.workers w (onto (told w next (begun setup w (Subscribes n list Oldest) d).deeds) (owned (Subscribes n list Oldest))))) (sym ((keep-starts Hold d.spools).arrive n list Oldest true tt))
            (others_stay setup.workers w next n list Oldest true (owned (Subscribes n list Oldest)) d.spools d.spools.starts none hold)
        by (Given at) hold = subst (AllByRecursion (StartHolds setup.workers w (onto (told w next (begun setup w (Subscribes n list (Given at)) d).deeds) (owned (Subscribes n list (Given at)))))) (sym ((keep-starts Hold d.spools).arrive n list (Given at) true tt))
            (others_stay setup.workers w next n list (Given at) true (owned (Subscribes n list (Given at))) d.spools d.spools.starts none hold)
        by Newest hold = newest_holds setup.workers w next n list true (owned (Subscribes n list Newest)) d.spools (unasked_stays w n h (owned (Subscribes n list Newest)) (owned_stays (Subscribes n list Newest) n) (has.unasked w n c.new))
            c.distinct c.named (g.knows w) (nowhere n c.new) hold

    begun_goes : (next : ℕ → ℕ) (incoming : Incoming) → Suits setup w h incoming → Goes next incoming (begun setup w incoming d)
    begun_goes next (TakesPacket from p) f = packet_goes next from p.number p.line f
    begun_goes next (ClockReads t) f = plain_goes next (ClockReads t) (unserved d) (λ j. tt) refl
    begun_goes next Reaps f = plain_goes next Reaps (unserved d) (λ j. tt) refl
    begun_goes next (Posts c body) f = plain_goes next (Posts c body) (begun setup w (Posts c body) d) (λ j. (tt, tt)) refl
    begun_goes next (Removes c) f = plain_goes next (Removes c) (begun setup w (Removes c) d) (λ j. (tt, tt)) refl
    begun_goes next (Informs c) f = plain_goes next (Informs c) (begun setup w (Informs c) d) (λ j. (tt, tt)) refl
    begun_goes next (Subscribes n list start) f = (arrive_goes next n list start f, λ j never other. comes_beside next n list start j other)

    -- ---- the whole step

    module _ (incoming : Incoming) (suits : Suits setup w h incoming) where
      abbrev es : List Event
      es = handled_events setup w incoming world

      abbrev next : ℕ → ℕ
      next = next_after (world.workers w).next (part w incoming world)

      abbrev x : Deeds
      x = begun setup w incoming d

      step_hold : AllByRecursion (StartHolds setup.workers w (onto es h)) x.after.spools.starts
      step_hold =
          subst (λ (l : List Event). AllByRecursion (StartHolds setup.workers w l) (begun setup w incoming d).after.spools.starts) (sym (handled_onto setup is w incoming h world g h))
          (then_releases (λ (l : List Event). AllByRecursion (StartHolds setup.workers w l) (begun setup w incoming d).after.spools.starts)
          (λ v owner gr slot l p. all_stay setup.workers w l (Released v owner gr slot ∷ l) (λ j. stays_one w j (Released v owner gr slot) l tt) (begun setup w incoming d).after.spools.starts p)
          w next x.deeds (filter (is_idle x.after.spools.shelf) x.after.spools.kept) (owned incoming) (begun_goes next incoming suits).0)

      step_stays : (j : ℕ) → is_subscribed j (own w h) ≡ false → comes incoming j ≡ false → Stays w j h (onto es h)
      step_stays j never other =
          subst (Stays w j h) (sym (handled_onto setup is w incoming h world g h))
          (then_releases (Stays w j h) (λ v owner gr slot l p. stays_then w j h l (Released v owner gr slot ∷ l) p (stays_one w j (Released v owner gr slot) l tt))
          w next x.deeds (filter (is_idle x.after.spools.shelf) x.after.spools.kept) (owned incoming)
          (stays_then w j h (owned incoming) (onto (told w next x.deeds) (owned incoming)) (owned_stays incoming j) (stays_onto w j (told w next x.deeds) (owned incoming) ((begun_goes next incoming suits).1 j never other))))

      -- the starts of another worker
      there : (z : ℕ) → (z == w) ≡ false → (j : ℕ) → Stays z j h (onto es h)
      there z other j = other_onto z j w es h other (step_by setup is w incoming h world g)

      mine : (j : ℕ) → is_subscribed j (own w (onto es h)) ≡ false → Unasked w j (onto es h)
      mine j never = let u = unsubscribed_here setup is w incoming h world g j never in unasked_stays w j h (onto es h) (step_stays j u.0 u.1) (has.unasked w j u.0)

      unasked_after : (z j : ℕ) → is_subscribed j (own z (onto es h)) ≡ false → Unasked z j (onto es h)
      unasked_after z j never = by (z == w) refl
        where
          by : (b : Bool) → (z == w) ≡ b → Unasked z j (onto es h)
          by true e = subst (λ (y : ℕ). is_subscribed j (own y (onto es h)) ≡ false → Unasked y j (onto es h)) (sym (eq_of z w e)) (mine j) never
          by false e = unasked_stays z j h (onto es h) (there z e j) (has.unasked z j (unsubscribed_there setup is w incoming h world g j z e never))

      step_starts : HasStarts setup.workers (onto es h) (handled setup w incoming world)
      step_starts = record {
        hold = with_all (λ z (s : WorkerAt). AllByRecursion (StartHolds setup.workers z (onto es h)) s.desk.spools.starts) world.workers w (dealt_worker es (owns w incoming world) (serves setup w incoming world) (world.workers w)) step_hold
            (λ z other. all_stay setup.workers z h (onto es h) (there z other) (world.workers z).desk.spools.starts (has.hold z));
        unasked = unasked_after;
      }

  -- ---- the theme

  told_starts : (workers : ℕ) (e : Event) (h : List Event) (world : World) → ((w j : ℕ) → Stays w j h (e ∷ h)) → ((w j : ℕ) → is_subscribed j (own w (e ∷ h)) ≡ false → is_subscribed j (own w h) ≡ false) → HasStarts workers h world → HasStarts workers (e ∷ h) world
  told_starts workers e h world stays before has = record {
    hold = λ w. all_stay workers w h (e ∷ h) (stays w) (world.workers w).desk.spools.starts (has.hold w);
    unasked = λ w j never. unasked_stays w j h (e ∷ h) (stays w j) (has.unasked w j (before w j never));
  }

  carried_starts : (workers w v : ℕ) (p : Packet) (ps : List Packet) (h : List Event) (world : World) → HasStarts workers h world → HasStarts workers h (carried_one w v p ps world)
  carried_starts workers w v p ps h world has = record {
    hold = with_all (λ z (s : WorkerAt). AllByRecursion (StartHolds workers z h) s.desk.spools.starts) world.workers w (record (world.workers w) { outbox = with_at (world.workers w).outbox v ps }) (has.hold w) (λ z e. has.hold z);
    unasked = has.unasked;
  }

  starts_theme : (setup : Setup) → IsSetup setup → IsWorldTheme setup (HasStarts setup.workers)
  starts_theme setup is = record {
    new = record { hold = λ w. tt; unasked = λ w k never o c. refl };
    handles = λ w incoming h world r g here i has. step_starts setup is w h world r g has incoming (input_suits setup w h incoming i);
    takes = λ w v p ps h world r g here there at has.
        let s = step_starts setup is w h world r g has (TakesPacket v p) (ring_next setup w v p ps h world g at) in
        record { hold = s.hold; unasked = s.unasked };
    carries = λ w v p ps h world r g here there at has. carried_starts setup.workers w v p ps h world has;
    pending = λ n h world r g same has. told_starts setup.workers (Pending (suc n)) h world (λ w j. stays_one w j (Pending (suc n)) h tt) (λ w j never. never) has;
    quiet = λ h world r g same has. told_starts setup.workers Quiet h world (λ w j. stays_one w j Quiet h tt) (λ w j never. never) has;
  }

  pub reached_has_starts_by : ReachedHasStarts
  reached_has_starts_by setup h world is r = world_theme_holds setup (HasStarts setup.workers) is (starts_theme setup is) h world r

  -- ---- who is started by the answer to an edge

  pub answers_start_by : EdgeStarts → AnswersStart
  answers_start_by edge_starts setup h world is r w from n number q floor last kind next first started =
      edge_starts setup.workers w from n number q floor last kind next h (world.workers w).desk.spools (edges_give setup h world is r w) (answers setup h world is r from w number q floor last first)
      ((reached_has_starts_by setup h world is r).hold w) (spools_stand setup h world is r w).1 started
