-- Which events give holds back: the releases at the end of a step alone.
use Rattle.std.proofs.Common.{◌≡◌, ℕ, Bool, true, false, cond, List, [], ◌∷◌, ◌++◌, refl, fold, Option, None}
use Rattle.std.specs.List.{AllByRecursion}
use Rattle.nc_types.specs.declared.info.Info.{Info}
use Rattle.nc_journal.specs.declared.event.Event.{Event}
use Rattle.nc_journal.specs.declared.event.Event.TheVariants.{Released, Granted, Answered as AnsweredEvent}
use Rattle.nc_journal.specs.declared.alert.AlertLine.{AlertLine}
use Rattle.nc_journal.specs.declared.alert.AlertLine.TheVariants as lines
use Rattle.nc_journal.specs.declared.word.EndedCause.{EndedCause}
use Rattle.nc_journal.specs.declared.word.EndedCause.TheVariants.{Answered, Deleted}
use Rattle.nc_spool.specs.declared.fact.Fact.{Fact}
use Rattle.nc_spool.specs.declared.fact.Fact.TheVariants as facts
use Rattle.nc_spool.specs.Calls.{arrive_facts, answer_facts, edge_facts, notice_facts, gone_facts}
use Rattle.nc_owner.specs.AlertLines.{OutLine}
use Rattle.nc_owner.specs.Fence.{with_floor, raise_events}
use Rattle.nc_owner.specs.Look.{look_events}
use Rattle.nc_owner.specs.Edge.{edge_events}
use Rattle.nc_owner.specs.Publish.{Polls}
use Rattle.nc_owner.specs.Poll.{freed_events}
use Rattle.nc_owner.specs.OtherSteps.{names_of}
use Rattle.nc_reaper.specs.Reap.{Step, Swept, state, sweep_step, swept, swept_all}
use Rattle.nc_owner_laws.specs.Kinds.{IsOfOwner, AreOfOwner}
use Rattle.nc_owner_laws.specs.Reaping.{steps_woven, next_behind}
use Rattle.nc_owner_laws.specs.Weave.{weave, makes, numbered, numbered_by}
use Rattle.nc_owner_laws.proofs.EventKinds.{owners_kinds}
use Rattle.nc_owner_laws.proofs.Kept.{all_append}
use Rattle.nc_worker_state.specs.Setup.{Setup}
use Rattle.nc_worker_state.specs.Incoming.{Incoming, TakesPacket, ClockReads, Reaps, Posts, Subscribes, Removes, Informs}
use Rattle.nc_worker_state.specs.Deed.{Deed, Does, Makes, told, next_after}
use Rattle.nc_worker_state.specs.Spooled.{found_by, found_in, facts_deeds}
use Rattle.nc_worker_state.specs.Owned.{Holding, StepPolls, owned_by, owned_in, order_of, member_of}
use Rattle.nc_worker_state.specs.Desk.{Desk, Served, unserved, is_waiting, without, replied, handled, opening, begun}
use Rattle.nc_worker_state.specs.Worker.{given_back, part_woven}
use Rattle.nc_scribe.specs.Kinds.{IsAside}
use Rattle.nc_scribe.proofs.Deeds.{AreAsideDeeds}

-- an event gives no hold back
abbrev pub IsUnreleased : Event → Type 0
IsUnreleased (Released v o g slot) = ⊥
IsUnreleased e = Unit {0}

abbrev pub AreUnreleased : List Event → Type 0
AreUnreleased es = AllByRecursion IsUnreleased es

-- the holds are as they were before such events
pub given_none : (es fs : List Event) (counts : ℕ → List ℕ) → AreUnreleased es → given_back counts (es ++ fs) ≡ given_back counts fs
given_none [] fs counts all = refl
given_none (Released v o g slot ∷ es) fs counts all = absurd all.0
given_none (e ∷ es) fs counts all = given_none es fs counts all.1

-- ---- the owner's events

of_owner : (me : ℕ) (e : Event) → IsOfOwner me e → IsUnreleased e
of_owner me (Released v o g slot) is = absurd is
of_owner me e is = tt

of_owners : (me : ℕ) (es : List Event) → AreOfOwner me es → AreUnreleased es
of_owners me [] all = tt
of_owners me (e ∷ es) all = (of_owner me e all.0, of_owners me es all.1)

line_so : (polls : Polls) (from : ℕ) (line : AlertLine) (s : Holding) → AreUnreleased (owned_by polls from line s).events
line_so polls from (lines.Publish r c len timeout ct body) s = of_owners s.owner.desk.me _ ((owners_kinds s.row s.owner).publish from (order_of r c len timeout ct body) polls)
line_so polls from (lines.Look number c after fence) s =
    all_append IsUnreleased (raise_events fence s.owner) (look_events from number c after s.row (with_floor fence s.owner))
    (of_owners s.owner.desk.me _ ((owners_kinds s.row s.owner).raise fence)) (of_owners s.owner.desk.me _ ((owners_kinds s.row (with_floor fence s.owner)).look from number c after))
line_so polls from (lines.Edge number k c fence) s =
    all_append IsUnreleased (raise_events fence s.owner) (edge_events from number k c s.row (with_floor fence s.owner))
    (of_owners s.owner.desk.me _ ((owners_kinds s.row s.owner).raise fence)) (of_owners s.owner.desk.me _ ((owners_kinds s.row (with_floor fence s.owner)).edge from number k c))
line_so polls from (lines.Join c k) s = of_owners s.owner.desk.me _ ((owners_kinds s.row s.owner).join (member_of from k) c)
line_so polls from (lines.Part c k) s = of_owners s.owner.desk.me _ ((owners_kinds s.row s.owner).part (member_of from k) c)
line_so polls from (lines.Delete r c) s = of_owners s.owner.desk.me _ ((owners_kinds s.row s.owner).delete c)
line_so polls from (lines.Info r c) s = of_owners s.owner.desk.me _ ((owners_kinds s.row s.owner).touch c)
line_so polls from line s = tt

makes_so : (me : ℕ) (next : ℕ → ℕ) (alerts : List OutLine) → AreUnreleased (makes me next alerts)
makes_so me next [] = tt
makes_so me next (a ∷ alerts) = (tt, makes_so me (numbered next a.to) alerts)

weave_so : (me : ℕ) (next : ℕ → ℕ) (es : List Event) (alerts : List OutLine) → AreUnreleased es → AreUnreleased (weave me next es alerts)
weave_so me next [] alerts all = makes_so me next alerts
weave_so me next (Granted v g slot to ∷ es) [] all = (tt, weave_so me next es [] all.1)
weave_so me next (Granted v g slot to ∷ es) (a ∷ alerts) all = (tt, (tt, weave_so me (numbered next a.to) es alerts all.1))
weave_so me next (e ∷ es) alerts all = (all.0, weave_so me next es alerts all.1)

sweeps_so : (names : List (List ℕ)) (x : Swept) → AllByRecursion (λ y. AreUnreleased y.events) x.steps → AllByRecursion (λ y. AreUnreleased y.events) (fold swept x names).steps
sweeps_so [] x all = all
sweeps_so (c ∷ names) x all =
    let one = sweep_step c x.row x.owner in
    sweeps_so names (swept x c) (all_append (λ y. AreUnreleased y.events) x.steps (one ∷ []) all (of_owners x.owner.desk.me one.events ((owners_kinds x.row x.owner).sweep c), tt))

steps_so : (me : ℕ) (next : ℕ → ℕ) (steps : List Step) → AllByRecursion (λ y. AreUnreleased y.events) steps → AreUnreleased (steps_woven me next steps)
steps_so me next [] all = tt
steps_so me next (x ∷ steps) all =
    let later = numbered_by next x.alerts in
    all_append IsUnreleased (weave me next x.events x.alerts) (steps_woven me later steps) (weave_so me next x.events x.alerts all.0) (steps_so me later steps all.1)

part_so : (me : ℕ) (next : ℕ → ℕ) (polls : StepPolls) (incoming : Incoming) (s : Holding) → AreUnreleased (part_woven me next (owned_in polls incoming s))
part_so me next polls (TakesPacket from p) s = let o = owned_by polls.publish from p.line s in weave_so me next o.events o.alerts (line_so polls.publish from p.line s)
part_so me next polls (ClockReads t) s = tt
part_so me next polls Reaps s =
    let sweeps = (swept_all s.row s.owner).steps in
    let freed = freed_events s.owner.desk.me polls.reap in
    all_append IsUnreleased (steps_woven me next sweeps) (weave me (next_behind next sweeps) freed [])
    (steps_so me next sweeps (sweeps_so (names_of s.owner) (state s.owner s.row []) tt)) (weave_so me (next_behind next sweeps) freed [] (of_owners s.owner.desk.me freed ((owners_kinds s.row s.owner).polled polls.reap)))
part_so me next polls (Posts c body) s = tt
part_so me next polls (Subscribes k list start) s = tt
part_so me next polls (Removes c) s = tt
part_so me next polls (Informs c) s = tt

-- ---- what the desk does

-- a deed tells no event that makes something or gives a hold back
abbrev pub IsPlainDeed : Deed → Type 0
IsPlainDeed (Does e) = IsAside e × IsUnreleased e
IsPlainDeed (Makes to a) = Unit {0}

abbrev pub ArePlainDeeds : List Deed → Type 0
ArePlainDeeds ds = AllByRecursion IsPlainDeed ds

pub plain_aside : (ds : List Deed) → ArePlainDeeds ds → AreAsideDeeds ds
plain_aside [] all = tt
plain_aside (Does e ∷ ds) all = (all.0.0, plain_aside ds all.1)
plain_aside (Makes to a ∷ ds) all = (tt, plain_aside ds all.1)

told_so : (me : ℕ) (next : ℕ → ℕ) (ds : List Deed) → ArePlainDeeds ds → AreUnreleased (told me next ds)
told_so me next [] all = tt
told_so me next (Does e ∷ ds) all = (all.0.1, told_so me next ds all.1)
told_so me next (Makes to a ∷ ds) all = (tt, told_so me (numbered next to) ds all.1)

facts_plain : (me : ℕ) (cause : EndedCause) (fs : List Fact) → ArePlainDeeds (facts_deeds me cause fs)
facts_plain me cause [] = tt
facts_plain me cause (facts.Out o ∷ fs) = (tt, facts_plain me cause fs)
facts_plain me cause (facts.Started k cursor ∷ fs) = ((refl, tt), facts_plain me cause fs)
facts_plain me cause (facts.Sent s ∷ fs) = ((refl, tt), facts_plain me cause fs)
facts_plain me cause (facts.Ended k deleted ∷ fs) = ((refl, tt), facts_plain me cause fs)

either_plain : (b : Bool) (x y : Served) → ArePlainDeeds x.deeds → ArePlainDeeds y.deeds → ArePlainDeeds (cond b x y).deeds
either_plain true x y p q = p
either_plain false x y p q = q

reply_plain : (me r status : ℕ) (info : Option Info) (d : Desk) → ArePlainDeeds (replied me r status info d).deeds
reply_plain me r status info d =
    either_plain (is_waiting r d.waiting) (record { deeds = Does (AnsweredEvent me r None status info false false) ∷ []; after = record d { waiting = without r d.waiting } }) (unserved d) ((refl, tt), tt) tt

handled_plain : (me from : ℕ) (line : AlertLine) (d : Desk) → ArePlainDeeds (handled me from line d).deeds
handled_plain me from (lines.PubAnswer r status info full) d = reply_plain me r status info d
handled_plain me from (lines.InfoAnswer r status info) d = reply_plain me r status info d
handled_plain me from (lines.DelAnswer r status info) d = reply_plain me r status info d
handled_plain me from (lines.LookAnswer number q floor found g slot) d = facts_plain me Answered (answer_facts number q floor (found_in from found g slot) d.spools)
handled_plain me from (lines.Notice c id g slot) d = facts_plain me Answered (notice_facts c (found_by from id g slot) d.spools)
handled_plain me from (lines.EdgeAnswer number q floor last) d = facts_plain me Answered (edge_facts number floor last d.spools)
handled_plain me from (lines.Gone c subs) d = facts_plain me Deleted (gone_facts c subs d.spools)
handled_plain me from line d = tt

pub begun_plain : (setup : Setup) (me : ℕ) (incoming : Incoming) (d : Desk) → ArePlainDeeds (begun setup me incoming d).deeds
begun_plain setup me (TakesPacket from p) d = handled_plain me from p.line d
begun_plain setup me (ClockReads t) d = tt
begun_plain setup me Reaps d = tt
begun_plain setup me (Posts c body) d = (tt, tt)
begun_plain setup me (Subscribes k list start) d = facts_plain me Answered (arrive_facts k list start true d.spools)
begun_plain setup me (Removes c) d = (tt, tt)
begun_plain setup me (Informs c) d = (tt, tt)

opening_so : (setup : Setup) (me : ℕ) (incoming : Incoming) (d : Desk) → AreUnreleased (opening setup me incoming d)
opening_so setup me (TakesPacket from p) d = (tt, tt)
opening_so setup me (ClockReads t) d = (tt, tt)
opening_so setup me Reaps d = tt
opening_so setup me (Posts c body) d = (tt, tt)
opening_so setup me (Subscribes k list start) d = (tt, tt)
opening_so setup me (Removes c) d = (tt, tt)
opening_so setup me (Informs c) d = (tt, tt)

-- no event of a step up to the releases gives a hold back
pub acted_unreleased : (setup : Setup) (me : ℕ) (next : ℕ → ℕ) (polls : StepPolls) (incoming : Incoming) (d : Desk) (s : Holding)
    → AreUnreleased (opening setup me incoming d ++ part_woven me next (owned_in polls incoming s) ++ told me (next_after next (part_woven me next (owned_in polls incoming s))) (begun setup me incoming d).deeds)
acted_unreleased setup me next polls incoming d s =
    let w = part_woven me next (owned_in polls incoming s) in
    let ds = (begun setup me incoming d).deeds in
    all_append IsUnreleased (opening setup me incoming d ++ w) (told me (next_after next w) ds)
    (all_append IsUnreleased (opening setup me incoming d) w (opening_so setup me incoming d) (part_so me next polls incoming s))
    (told_so me (next_after next w) ds (begun_plain setup me incoming d))
