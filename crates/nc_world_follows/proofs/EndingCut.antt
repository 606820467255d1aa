-- Subscribers are ended as deleted where their workers take the alerts that tell so.
use Rattle.std.proofs.Common.{◌≡◌, ℕ, zero, suc, ◌+◌, ◌≤◌, Bool, true, false, ◌&&◌, ◌||◌, List, [], ◌∷◌, ◌++◌, Option, Some, None, refl, sym, ap, ◌∙◌, subst, arith, map, ◌==◌}
use Rattle.std.specs.Prelude.{filter}
use Rattle.std.specs.List.{AllByRecursion, list_any}
use Rattle.std.specs.Option.{option_map}
use Rattle.std.proofs.lemmas.Bool.Decides.{nat_tests}
use Rattle.nc_types.specs.declared.info.Info.{Info}
use Rattle.nc_journal.specs.History.{own}
use Rattle.nc_journal.specs.Standing.{Stage, Absent, Over, stage_of, is_subscribed}
use Rattle.nc_journal.specs.declared.event.Event.{Event}
use Rattle.nc_journal.specs.declared.event.Event.TheVariants.{Clock, Asked, Answered as Answer, Subscribed, Ended, Took, Pending, Quiet}
use Rattle.nc_journal.specs.declared.alert.AlertLine.{AlertLine}
use Rattle.nc_journal.specs.declared.alert.AlertLine.TheVariants as lines
use Rattle.nc_journal.specs.declared.word.EndedCause.TheVariants.{Answered, Deleted}
use Rattle.nc_owner_laws.specs.Kinds.{IsOfOwner}
use Rattle.nc_owner_laws.specs.Weave.{numbered}
use Rattle.nc_history.specs.Packets.{Packet, kind_of}
use Rattle.nc_history.specs.Steps.{AtEachStep}
use Rattle.nc_history.specs.Ending.{is_there, ends_deleted, is_ended, names, is_first_named, NobodyIsEnded, EndingAt}
use Rattle.nc_spool_state.specs.declared.kept.Held.{Held}
use Rattle.nc_spool_state.specs.declared.edge.Edge.TheVariants.{Known}
use Rattle.nc_spool_state.specs.Kept.{is_idle}
use Rattle.nc_spool.specs.declared.fact.Fact.{Fact}
use Rattle.nc_spool.specs.declared.fact.Fact.TheVariants as facts
use Rattle.nc_spool.specs.Calls.{board_of, news_of, arrive_facts, answer_facts, edge_facts, notice_facts, gone_facts}
use Rattle.nc_spool_laws.specs.Numbers.{one}
use Rattle.nc_spool_laws.specs.Tally.{stands, ends, StandOnce}
use Rattle.nc_spool_members.specs.Members.{is_named}
use Rattle.nc_spool_members.specs.Stages.{HasStage}
use Rattle.nc_worker_state.specs.Setup.{Setup}
use Rattle.nc_worker_state.specs.Incoming.{Incoming, TakesPacket, ClockReads, Reaps, Posts, Subscribes, Removes, Informs}
use Rattle.nc_worker_state.specs.Deed.{Deed, Does, Makes, told}
use Rattle.nc_worker_state.specs.Spooled.{Hold, found_by, found_in, facts_deeds, release, releases}
use Rattle.nc_worker_state.specs.Desk.{Desk, Served, is_waiting, replied, handled, begun, served}
use Rattle.nc_world.specs.World.{World, handled_events, pending_in}
use Rattle.nc_world.specs.Moves.{Move, Handles, Carries, Takes, Counts, Rests, counted, rested, taken_events, move_events}
use Rattle.nc_world.specs.Reached.{IsSetup, IsInput, IsMove, Reached}
use Rattle.nc_world_laws.specs.Good.{Good}
use Rattle.nc_world_laws.proofs.Local.{either}
use Rattle.nc_world_laws.proofs.Moving.{reached_is_good}
use Rattle.nc_world_laws.proofs.Parts.{serves, part, part_all, behind, rest}
use Rattle.nc_world_laws.proofs.Taking.{first_pending}
use Rattle.nc_world_members.specs.Members.{spools_at}
use Rattle.nc_world_members.specs.Stages.{stage_away}
use Rattle.nc_world_members.proofs.Staging.{reached_has_stages}
use Rattle.nc_world_follows.specs.Laws.{FitLinesReach, EndingRuleHolds}
use Rattle.nc_world_follows.proofs.Steps.{IsInner, cut_inner, cut_step}
use Rattle.nc_world_follows.proofs.Cutting.{rest_inner, told_inner, lines_cut}
use Rattle.nc_world_follows.proofs.Deleting.{deletions, noticed-none, answered-none, arrived-none, edged-none, unnamed-stay, named-ends, stands-there, away-there}

-- ---- of some events one ends a subscriber

any_more : {X : Type 0} (test : X → Bool) (xs ys : List X) → list_any test (xs ++ ys) ≡ list_any test xs || list_any test ys
any_more test [] ys = refl
any_more test (x ∷ xs) ys = by (test x) (any_more test xs ys)
  where
    by : (t : Bool) → list_any test (xs ++ ys) ≡ list_any test xs || list_any test ys → (t || list_any test (xs ++ ys)) ≡ (t || list_any test xs) || list_any test ys
    by true e = refl
    by false e = e

none_any : {X : Type 0} (test : X → Bool) (xs : List X) → AllByRecursion (λ x. test x ≡ false) xs → list_any test xs ≡ false
none_any test [] a = refl
none_any test (x ∷ xs) a = ap (λ b. b || list_any test xs) a.0 ∙ none_any test xs a.1

not_both : (a b : Bool) → b ≡ false → (a && b) ≡ false
not_both true b e = e
not_both false b e = refl

-- nothing that an owner does ends anybody
owner_ends : (v k me : ℕ) (e : Event) → IsOfOwner me e → ends_deleted v k e ≡ false
owner_ends v k me (Ended w n cause) p = absurd p
owner_ends v k me e p = refl

-- ---- deeds

module _ (v k : ℕ) where
  -- a deed ends the subscriber, and one of some deeds does
  abbrev deed_ends : Deed → Bool
  deed_ends (Does e) = ends_deleted v k e
  deed_ends (Makes to a) = false

  abbrev ends_so : List Deed → Bool
  ends_so deeds = list_any deed_ends deeds

  told_ends : (w : ℕ) (next : ℕ → ℕ) (deeds : List Deed) → is_ended v k (told w next deeds) ≡ ends_so deeds
  told_ends w next [] = refl
  told_ends w next (Does e ∷ deeds) = ap (λ b. ends_deleted v k e || b) (told_ends w next deeds)
  told_ends w next (Makes to a ∷ deeds) = told_ends w (numbered next to) deeds

  releases_end : (w : ℕ) (hs : List (Held Hold)) → ends_so (map (release w) hs) ≡ false
  releases_end w [] = refl
  releases_end w (h ∷ hs) = releases_end w hs

  -- the facts of a call that ends nobody as deleted
  answered_ends : (w : ℕ) (fs : List Fact) → deletions k fs ≡ 0 → ends_so (facts_deeds w Answered fs) ≡ false
  answered_ends w [] e = refl
  answered_ends w (facts.Out o ∷ fs) e = answered_ends w fs (omega (arith, e))
  answered_ends w (facts.Started n cursor ∷ fs) e = answered_ends w fs (omega (arith, e))
  answered_ends w (facts.Sent s ∷ fs) e = answered_ends w fs (omega (arith, e))
  answered_ends w (facts.Ended n false ∷ fs) e = answered_ends w fs (omega (arith, e))
  answered_ends w (facts.Ended n true ∷ fs) e = by (n == k) e (answered_ends w fs (omega (arith, e)))
    where
      by : (t : Bool) → one t + deletions k fs ≡ 0 → ends_so (facts_deeds w Answered fs) ≡ false → ((w == v) && t) || ends_so (facts_deeds w Answered fs) ≡ false
      by true e others = absurd (omega (arith, e))
      by false e others = ap (λ b. b || ends_so (facts_deeds w Answered fs)) (not_both (w == v) false refl) ∙ others

  -- and those of a call that ends all as deleted: it ends the subscriber, or doesn't
  deleted_one : (w n : ℕ) (deleted : Bool) (fs : List Fact) → ends_so (facts_deeds w Deleted (facts.Ended n deleted ∷ fs)) ≡ ((w == v) && (n == k)) || ends_so (facts_deeds w Deleted fs)
  deleted_one w n true fs = refl
  deleted_one w n false fs = refl

  deleted_none : (w : ℕ) (fs : List Fact) → ends k fs ≡ 0 → ends_so (facts_deeds w Deleted fs) ≡ false
  deleted_none w [] e = refl
  deleted_none w (facts.Out o ∷ fs) e = deleted_none w fs (omega (arith, e))
  deleted_none w (facts.Started n cursor ∷ fs) e = deleted_none w fs (omega (arith, e))
  deleted_none w (facts.Sent s ∷ fs) e = deleted_none w fs (omega (arith, e))
  deleted_none w (facts.Ended n deleted ∷ fs) e = deleted_one w n deleted fs ∙ by (n == k) e (deleted_none w fs (omega (arith, e)))
    where
      by : (t : Bool) → one t + ends k fs ≡ 0 → ends_so (facts_deeds w Deleted fs) ≡ false → ((w == v) && t) || ends_so (facts_deeds w Deleted fs) ≡ false
      by true e others = absurd (omega (arith, e))
      by false e others = ap (λ b. b || ends_so (facts_deeds w Deleted fs)) (not_both (w == v) false refl) ∙ others

  -- what one worker does ends nobody of another
  deleted_other : (w : ℕ) (fs : List Fact) → (w == v) ≡ false → ends_so (facts_deeds w Deleted fs) ≡ false
  deleted_other w [] e = refl
  deleted_other w (facts.Out o ∷ fs) e = deleted_other w fs e
  deleted_other w (facts.Started n cursor ∷ fs) e = deleted_other w fs e
  deleted_other w (facts.Sent s ∷ fs) e = deleted_other w fs e
  deleted_other w (facts.Ended n deleted ∷ fs) e = deleted_one w n deleted fs ∙ ap (λ b. (b && (n == k)) || ends_so (facts_deeds w Deleted fs)) e ∙ deleted_other w fs e

  deleted_here : (w : ℕ) (fs : List Fact) → (w == v) ≡ true → 1 ≤ ends k fs → ends_so (facts_deeds w Deleted fs) ≡ true
  deleted_here w [] e some = absurd (omega (arith, some))
  deleted_here w (facts.Out o ∷ fs) e some = deleted_here w fs e (omega (arith, some))
  deleted_here w (facts.Started n cursor ∷ fs) e some = deleted_here w fs e (omega (arith, some))
  deleted_here w (facts.Sent s ∷ fs) e some = deleted_here w fs e (omega (arith, some))
  deleted_here w (facts.Ended n deleted ∷ fs) e some = deleted_one w n deleted fs ∙ ap (λ b. (b && (n == k)) || ends_so (facts_deeds w Deleted fs)) e ∙ by (n == k) some (λ more. deleted_here w fs e more)
    where
      by : (t : Bool) → 1 ≤ one t + ends k fs → (1 ≤ ends k fs → ends_so (facts_deeds w Deleted fs) ≡ true) → t || ends_so (facts_deeds w Deleted fs) ≡ true
      by true some others = refl
      by false some others = others (omega (arith, some))

  deleted_some : (w : ℕ) (fs : List Fact) → 1 ≤ ends k fs → ends_so (facts_deeds w Deleted fs) ≡ (w == v)
  deleted_some w fs some = by (w == v) refl
    where
      by : (t : Bool) → (w == v) ≡ t → ends_so (facts_deeds w Deleted fs) ≡ t
      by true e = deleted_here w fs e some
      by false e = deleted_other w fs e

  -- ---- a desk

  module _ (w : ℕ) (there : Bool) (d : Desk) where
    abbrev Ends : AlertLine → List Deed → Type 0
    Ends line deeds = ends_so deeds ≡ (w == v) && (names k line && there)

    nobody : (line : AlertLine) (deeds : List Deed) → names k line ≡ false → ends_so deeds ≡ false → Ends line deeds
    nobody line deeds unnamed e = e ∙ sym (not_both (w == v) (names k line && there) (ap (λ b. b && there) unnamed))

    reply_ends : (line : AlertLine) (r status : ℕ) (info : Option Info) → names k line ≡ false → Ends line (replied w r status info d).deeds
    reply_ends line r status info unnamed = either (λ (s : Served). Ends line s.deeds) (is_waiting r d.waiting) _ _ (nobody line (Does (Answer w r None status info false false) ∷ []) unnamed refl) (nobody line [] unnamed refl)

    by_facts : (line : AlertLine) (fs : List Fact) → names k line ≡ false → deletions k fs ≡ 0 → Ends line (facts_deeds w Answered fs)
    by_facts line fs unnamed e = nobody line (facts_deeds w Answered fs) unnamed (answered_ends w fs e)

    module _ (once : StandOnce (board_of d.spools)) (stays : 1 ≤ stands k (board_of d.spools) → there ≡ true) (away : stands k (board_of d.spools) ≡ 0 → there ≡ false) where
      gone_ends : (c subs : List ℕ) → Ends (lines.Gone c subs) (facts_deeds w Deleted (gone_facts c subs d.spools))
      gone_ends c subs = by (is_named k subs) refl
        where
          with_true : (a : Bool) → a ≡ a && true
          with_true true = refl
          with_true false = refl

          standing : (n : ℕ) → stands k (board_of d.spools) ≡ n → is_named k subs ≡ true → ends_so (facts_deeds w Deleted (gone_facts c subs d.spools)) ≡ (w == v) && there
          standing zero f was =
              deleted_none w (gone_facts c subs d.spools) (omega (arith, named-ends k c subs (board_of d.spools) once was, f)) ∙ sym (not_both (w == v) there (away f))
          standing (suc n) f was =
              deleted_some w (gone_facts c subs d.spools) (omega (arith, named-ends k c subs (board_of d.spools) once was, f)) ∙ with_true (w == v) ∙ ap (λ b. (w == v) && b) (sym (stays (omega (arith, f))))

          by : (t : Bool) → is_named k subs ≡ t → Ends (lines.Gone c subs) (facts_deeds w Deleted (gone_facts c subs d.spools))
          by true was = standing (stands k (board_of d.spools)) refl was ∙ ap (λ b. (w == v) && (b && there)) (sym was)
          by false was = nobody (lines.Gone c subs) (facts_deeds w Deleted (gone_facts c subs d.spools)) was (deleted_none w (gone_facts c subs d.spools) (unnamed-stay k c subs (board_of d.spools) was))

      handled_ends : (from : ℕ) (line : AlertLine) → Ends line (handled w from line d).deeds
      handled_ends from (lines.PubAnswer r status info full) = reply_ends (lines.PubAnswer r status info full) r status info refl
      handled_ends from (lines.InfoAnswer r status info) = reply_ends (lines.InfoAnswer r status info) r status info refl
      handled_ends from (lines.DelAnswer r status info) = reply_ends (lines.DelAnswer r status info) r status info refl
      handled_ends from (lines.LookAnswer number q floor found g slot) =
          let came = found_in from found g slot in
          by_facts (lines.LookAnswer number q floor found g slot) (answer_facts number q floor came d.spools) refl (answered-none k number (record { q = q; floor = floor }) (option_map news_of came) (board_of d.spools))
      handled_ends from (lines.Notice c id g slot) =
          let came = found_by from id g slot in
          by_facts (lines.Notice c id g slot) (notice_facts c came d.spools) refl (noticed-none k c (news_of came) (board_of d.spools))
      handled_ends from (lines.EdgeAnswer number q floor last) = by_facts (lines.EdgeAnswer number q floor last) (edge_facts number floor last d.spools) refl (edged-none k number (Known last floor) (board_of d.spools))
      handled_ends from (lines.Gone c subs) = gone_ends c subs
      handled_ends from (lines.Publish r c len timeout ct body) = nobody (lines.Publish r c len timeout ct body) [] refl refl
      handled_ends from (lines.Look number c after fence) = nobody (lines.Look number c after fence) [] refl refl
      handled_ends from (lines.Edge number j c fence) = nobody (lines.Edge number j c fence) [] refl refl
      handled_ends from (lines.Join c j) = nobody (lines.Join c j) [] refl refl
      handled_ends from (lines.Part c j) = nobody (lines.Part c j) [] refl refl
      handled_ends from (lines.Delete r c) = nobody (lines.Delete r c) [] refl refl
      handled_ends from (lines.Info r c) = nobody (lines.Info r c) [] refl refl

  -- the deeds of a step end whom those before the releases end
  served_ends : (setup : Setup) (w : ℕ) (incoming : Incoming) (d : Desk) → ends_so (served setup w incoming d).deeds ≡ ends_so (begun setup w incoming d).deeds
  served_ends setup w incoming d =
      let b = begun setup w incoming d in
      any_more deed_ends b.deeds (releases w b.after.spools) ∙ ap (λ t. ends_so b.deeds || t) (releases_end w (filter (is_idle b.after.spools.shelf) b.after.spools.kept)) ∙ or_false (ends_so b.deeds)
    where
      or_false : (a : Bool) → a || false ≡ a
      or_false true = refl
      or_false false = refl

-- ---- a step

-- inside a step nothing more is told
inner_ending : (h : List Event) (e : Event) (es : List Event) → IsInner e → EndingAt h e es
inner_ending h (Took w from n kind) es i = absurd cc
inner_ending h (Clock w t) es i = absurd cc
inner_ending h (Asked w r None act list status rule) es i = absurd cc
inner_ending h (Asked w r (Some x) act list status rule) es i = tt
inner_ending h (Subscribed w k None list mode start timeout close) es i = absurd cc
inner_ending h (Subscribed w k (Some x) list mode start timeout close) es i = tt
inner_ending h (Pending n) es i = absurd cc
inner_ending h Quiet es i = absurd cc
inner_ending h e es i = tt

module _ (setup : Setup) (is : IsSetup setup) (h : List Event) (world : World) (r : Reached setup h world) where
  good : Good setup h world
  good = reached_is_good setup h world is r

  module _ (w : ℕ) where
    has : (k : ℕ) → HasStage k (stage_away k (own w h)) (stage_of k (own w h)) (spools_at world w)
    has k = (reached_has_stages setup h world is r).staged w k

    -- who is away isn't there
    nobody_there : (k : ℕ) → is_there (stage_away k (own w h)) ≡ false
    nobody_there k = either (λ (s : Stage). is_there s ≡ false) (is_subscribed k (own w h)) Over Absent refl refl

    rest_ends : (v k : ℕ) (incoming : Incoming) → is_ended v k (rest setup w incoming world) ≡ ends_so v k (begun setup w incoming (world.workers w).desk).deeds
    rest_ends v k incoming =
        any_more (ends_deleted v k) (part w incoming world) (behind setup w incoming world)
        ∙ ap (λ b. b || is_ended v k (behind setup w incoming world)) (none_any (ends_deleted v k) (part w incoming world) (part_all setup is w incoming h world good (λ e. ends_deleted v k e ≡ false) (owner_ends v k w) (λ to n a. refl)))
        ∙ told_ends v k w _ (serves setup w incoming world).deeds ∙ served_ends v k setup w incoming (world.workers w).desk

    taken_ends : (from : ℕ) (p : Packet) (v k : ℕ) → is_ended v k (rest setup w (TakesPacket from p) world) ≡ (v == w) && (names k p.line && is_there (stage_of k (own w h)))
    taken_ends from p v k =
        rest_ends v k (TakesPacket from p)
        ∙ handled_ends v k w (is_there (stage_of k (own w h))) (world.workers w).desk (λ n. (has n).few)
        (stands-there k (stage_away k (own w h)) (stage_of k (own w h)) (spools_at world w) (has k)) (away-there k (stage_away k (own w h)) (stage_of k (own w h)) (spools_at world w) (has k) (nobody_there k)) from p.line
        ∙ ap (λ b. b && (names k p.line && is_there (stage_of k (own w h)))) (turned w v)
      where
        turned : (a b : ℕ) → (a == b) ≡ (b == a)
        turned a b = grind (arith, nat_tests)

    taken_cut : (v : ℕ) (ring : List Packet) → world.rings v w ≡ ring → AtEachStep EndingAt h (taken_events setup w v ring world)
    taken_cut v [] at = tt
    taken_cut v (p ∷ ps) at = cut_step EndingAt inner_ending (Took w v p.number (kind_of p.line)) (rest setup w (TakesPacket v p) world) h (rest_inner setup is h world r w (TakesPacket v p))
        (subst (λ (q : List Packet). (x k : ℕ) → is_ended x k (rest setup w (TakesPacket v p) world) ≡ (x == w) && (is_first_named k q && is_there (stage_of k (own w h)))) (sym (first_pending setup w v p ps h world good at)) (taken_ends v p))

    -- a step that begins with something else ends nobody
    input_step : (e : Event) (incoming : Incoming) → ((es : List Event) → NobodyIsEnded es → EndingAt h e es) → ((v k : ℕ) → ends_so v k (begun setup w incoming (world.workers w).desk).deeds ≡ false)
        → AtEachStep EndingAt h (e ∷ told w (world.workers w).next (serves setup w incoming world).deeds)
    input_step e incoming at none = cut_step EndingAt inner_ending e (told w (world.workers w).next (serves setup w incoming world).deeds) h (told_inner setup is h world r w incoming (world.workers w).next)
        (at _ (λ v k. told_ends v k w (world.workers w).next (serves setup w incoming world).deeds ∙ served_ends v k setup w incoming (world.workers w).desk ∙ none v k))

    input_cut : (incoming : Incoming) → IsInput w h incoming → AtEachStep EndingAt h (handled_events setup w incoming world)
    input_cut (TakesPacket from p) i = absurd i
    input_cut (ClockReads t) i = input_step _ (ClockReads t) (λ es none. none) (λ v k. refl)
    input_cut Reaps i = cut_inner EndingAt inner_ending (rest setup w Reaps world) h (rest_inner setup is h world r w Reaps)
    input_cut (Posts c body) i = input_step _ (Posts c body) (λ es none. none) (λ v k. refl)
    input_cut (Subscribes n list start) i = input_step _ (Subscribes n list start) (λ es none. none)
        (λ v k. answered_ends v k w (arrive_facts n list start true (world.workers w).desk.spools) (arrived-none k (record { k = n; once = true }) list start (spools_at world w)))
    input_cut (Removes c) i = input_step _ (Removes c) (λ es none. none) (λ v k. refl)
    input_cut (Informs c) i = input_step _ (Informs c) (λ es none. none) (λ v k. refl)

  counts_cut : (n : ℕ) → AtEachStep EndingAt h (counted n)
  counts_cut zero = (λ v k. refl, tt)
  counts_cut (suc n) = (λ v k. refl, tt)

  rests_cut : (n : ℕ) → AtEachStep EndingAt h (rested n)
  rests_cut zero = (λ v k. refl, tt)
  rests_cut (suc n) = tt

  move_cut : (m : Move) → IsMove setup h m → AtEachStep EndingAt h (move_events setup m world)
  move_cut (Handles w incoming) i = input_cut w incoming i.1
  move_cut (Carries w v) i = tt
  move_cut (Takes w v) i = taken_cut w v (world.rings v w) refl
  move_cut Counts i = counts_cut (pending_in setup world)
  move_cut Rests i = rests_cut (pending_in setup world)

pub ending_rule_holds : FitLinesReach → EndingRuleHolds
ending_rule_holds reach setup lines is f = lines_cut setup EndingAt (λ m h world r i. move_cut setup is h world r m i) reach lines f
