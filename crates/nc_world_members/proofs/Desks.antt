-- What a worker's part of a step tells of members: those who stand with a channel.
use Rattle.std.proofs.Common.{◌≡◌, ℕ, ◌+◌, ◌≤◌, Bool, true, false, cond, not, List, [], Option, refl, sym, ap, ◌∙◌, subst, arith}
use Rattle.std.specs.Prelude.{◌==◌, ◌&&◌, ◌||◌, filter, bytes_eq}
use Rattle.std.proofs.lemmas.Bool.{true≢false}
use Rattle.std.specs.Option.{option_map}
use Rattle.std.specs.Cmp.Lexicographic.{same_text}
use Rattle.nc_types.specs.Channel.{AreDistinct, owner_of}
use Rattle.nc_types.specs.declared.info.Info.{Info}
use Rattle.nc_types.specs.declared.start.Start.{Start}
use Rattle.nc_types.specs.declared.start.Start.TheVariants.{Oldest, Newest, Given}
use Rattle.nc_journal.specs.declared.word.EndedCause.{EndedCause}
use Rattle.nc_journal.specs.declared.word.EndedCause.TheVariants.{Answered, Deleted}
use Rattle.nc_journal.specs.declared.alert.AlertLine.{AlertLine}
use Rattle.nc_journal.specs.declared.alert.AlertLine.TheVariants as lines
use Rattle.nc_spool_state.specs.declared.edge.Edge.TheVariants.{Known}
use Rattle.nc_spool.specs.declared.fact.Fact.{Fact}
use Rattle.nc_spool.specs.declared.board.Board.{Board}
use Rattle.nc_spool.specs.Calls.{board_of, news_of, arrive_facts, arrive_board, answer_facts, answer_board, edge_facts, edge_board, notice_facts, notice_board, gone_facts, gone_board, gone_after}
use Rattle.nc_spool_laws.specs.Closed.{first_key}
use Rattle.nc_spool_laws.specs.Keys.{IsFitting}
use Rattle.nc_spool_laws.specs.Numbers.{one}
use Rattle.nc_spool_laws.specs.Tally.{stands, ends, tally}
use Rattle.nc_spool_laws.proofs.Tallies.{tally-kept}
use Rattle.nc_spool_members.specs.Singly.{StandSingly}
use Rattle.nc_spool_members.specs.Members.{stands_with, is_named, member_told, joins_told}
use Rattle.nc_spool_members.proofs.Joining.{comers-join}
use Rattle.nc_spool_members.proofs.Telling.{tell-members}
use Rattle.nc_spool_members.proofs.Singles.{keep-singly}
use Rattle.nc_worker_state.specs.Setup.{Setup}
use Rattle.nc_worker_state.specs.Incoming.{Incoming, TakesPacket, ClockReads, Reaps, Posts, Subscribes, Removes, Informs}
use Rattle.nc_spool_state.specs.Kept.{is_idle}
use Rattle.nc_worker_state.specs.Deed.{Deed}
use Rattle.nc_worker_state.specs.Spooled.{Hold, facts_deeds, releases, found_by, found_in}
use Rattle.nc_worker_state.specs.Desk.{Desk, Served, is_waiting, replied, handled, settled, begun, served}
use Rattle.nc_world_laws.proofs.WorkerKinds.{AreDeeds}
use Rattle.nc_world_laws.proofs.Local.{either}
use Rattle.nc_world_laws.proofs.Asking.{arrives_well, answers_well, edges_well, notices_well, loses_well}
use Rattle.nc_world_members.specs.Members.{one_if, loses}
use Rattle.nc_world_members.proofs.Hearing.{hears, more_deeds, releases_heard, facts_heard, cond_same, joins_done, joins_more_deeds, releases_join, hears_unjoined, facts_join}

-- whether a subscriber comes with an input
abbrev pub comes : Incoming → ℕ → Bool
comes (Subscribes n list start) k = n == k
comes incoming k = false

-- whether what comes tells a subscriber that a channel is gone of which it was a member
abbrev pub loses_in : List ℕ → ℕ → Incoming → Bool
loses_in c k (TakesPacket from p) = loses c k p.line
loses_in c k incoming = false

-- who stood nowhere and doesn't come stands nowhere
none_after : (k : ℕ) (b new : Board) → b.facts ≡ [] → tally k new ≡ tally k b → stands k b ≡ 0 → stands k new ≡ 0
none_after k b new empty same none =
    let none_told : ends k b.facts ≡ 0 = ap (ends k) empty in
    omega (arith, same, none_told, none)

none_comes : (k n : ℕ) (b new : Board) → b.facts ≡ [] → tally k new ≡ one (n == k) + tally k b → (n == k) ≡ false → stands k b ≡ 0 → stands k new ≡ 0
none_comes k n b new empty same other none =
    let none_told : ends k b.facts ≡ 0 = ap (ends k) empty in
    let none_come : one (n == k) ≡ 0 = ap one other in
    omega (arith, same, none_told, none_come, none)

-- who comes is new, with a list and a start that fit
abbrev pub Suits : Incoming → Desk → Type 0
Suits (Subscribes k list start) d = (stands k (board_of d.spools) ≡ 0) × IsFitting (first_key list start)
Suits incoming d = Unit {0}

-- the names of a list are distinct where the key fits that its subscriber enters first
distinct_names : (list : List (List ℕ)) (start : Start) → IsFitting (first_key list start) → AreDistinct list
distinct_names list Oldest fits = fits.distinct
distinct_names list Newest fits = fits.distinct
distinct_names list (Given cursor) fits = fits.distinct

all_of : (b : Bool) → b && true ≡ b
all_of true = refl
all_of false = refl

none_of : (b : Bool) → b && false ≡ false
none_of true = refl
none_of false = refl

module _ (setup : Setup) (me : ℕ) where
  -- the owners hear of the members, where some of those that stand lost the channel, and others are about to hear that they did; nobody joins but who comes,
  -- nobody stands twice, and nobody stands who didn't come
  pub record OwnersHear (new : ℕ → Bool) (loss : List ℕ → ℕ → Bool) (d : Desk) (r : Served) : Type 0 where
    pub told : (c : List ℕ) (k : ℕ) (lost : Bool) → (new k ≡ true → lost ≡ false)
        → hears c k (owner_of setup.workers c) (stands_with c k (board_of d.spools) && not (loss c k || lost)) r.deeds ≡ stands_with c k (board_of r.after.spools) && not lost
    pub joined : (c : List ℕ) (k : ℕ) → joins_done c k (owner_of setup.workers c) r.deeds ≤ one_if (new k)
    pub singly : StandSingly r.after.spools
    pub fewer : (k : ℕ) → new k ≡ false → stands k (board_of d.spools) ≡ 0 → stands k (board_of r.after.spools) ≡ 0

  settled_tells : (new : ℕ → Bool) (loss : List ℕ → ℕ → Bool) (d : Desk) (r : Served) → OwnersHear new loss d r → OwnersHear new loss d (settled me r)
  settled_tells new loss d r t = record {
    told = λ c k lost apart. more_deeds c k (owner_of setup.workers c) _ r.deeds (releases me r.after.spools) ∙ releases_heard c k (owner_of setup.workers c) _ me (filter (is_idle r.after.spools.shelf) r.after.spools.kept) ∙ t.told c k lost apart;
    joined = λ c k. joined c k;
    singly = record { once = t.singly.once; fit = t.singly.fit };
    fewer = t.fewer;
  }
    where
      joined : (c : List ℕ) (k : ℕ) → joins_done c k (owner_of setup.workers c) (settled me r).deeds ≤ one_if (new k)
      joined c k =
          let all = joins_more_deeds c k (owner_of setup.workers c) r.deeds (releases me r.after.spools) in
          let none = releases_join c k (owner_of setup.workers c) me (filter (is_idle r.after.spools.shelf) r.after.spools.kept) in
          let few = t.joined c k in
          omega (arith, all, none, few)

  -- what is heard of one that stands is heard of one that lost the channel, if it doesn't join then
  heard_so : (c : List ℕ) (k : ℕ) (was new lost : Bool) (deeds : List Deed) → hears c k (owner_of setup.workers c) was deeds ≡ new → (lost ≡ true → joins_done c k (owner_of setup.workers c) deeds ≡ 0)
      → hears c k (owner_of setup.workers c) (was && not lost) deeds ≡ new && not lost
  heard_so c k was new true deeds told none = ap (λ z. hears c k (owner_of setup.workers c) z deeds) (none_of was) ∙ hears_unjoined c k (owner_of setup.workers c) deeds (none refl) ∙ sym (none_of new)
  heard_so c k was new false deeds told none = ap (λ z. hears c k (owner_of setup.workers c) z deeds) (all_of was) ∙ told ∙ sym (all_of new)

  module _ (d : Desk) (knows : d.spools.workers ≡ setup.workers) (single : StandSingly d.spools) where
    -- what a call tells
    call_told : (c : List ℕ) (k : ℕ) (lost : Bool) (cause : EndedCause) (fs : List Fact) (new : Bool) → AreDeeds setup.workers me (facts_deeds me cause fs) → member_told c k (stands_with c k (board_of d.spools)) fs ≡ new → (lost ≡ true → joins_told c k fs ≡ 0)
        → hears c k (owner_of setup.workers c) (stands_with c k (board_of d.spools) && not lost) (facts_deeds me cause fs) ≡ new && not lost
    call_told c k lost cause fs new well told none =
        heard_so c k (stands_with c k (board_of d.spools)) new lost (facts_deeds me cause fs) (facts_heard c k setup.workers _ me cause fs well ∙ told) (λ e. facts_join c k setup.workers me cause fs well ∙ none e)

    call_joined : (c : List ℕ) (k n : ℕ) (cause : EndedCause) (fs : List Fact) → AreDeeds setup.workers me (facts_deeds me cause fs) → joins_told c k fs ≤ n → joins_done c k (owner_of setup.workers c) (facts_deeds me cause fs) ≤ n
    call_joined c k n cause fs well few = let same = facts_join c k setup.workers me cause fs well in omega (arith, same, few)

    no_more : (m : ℕ) → m ≡ 0 → m ≤ 0
    no_more m none = omega (arith, none)

    none_joins : (b : Bool) → cond b 0 0 + 0 ≤ 0
    none_joins true = omega arith
    none_joins false = omega arith

    nothing_tells : OwnersHear (λ k. false) (λ c k. false) d (record { deeds = []; after = d })
    nothing_tells = record { told = λ c k lost apart. refl; joined = λ c k. omega arith; singly = single; fewer = λ k e none. none }

    replied_tells : (r status : ℕ) (info : Option Info) → OwnersHear (λ k. false) (λ c k. false) d (replied me r status info d)
    replied_tells r status info = either (OwnersHear (λ k. false) (λ c k. false) d) (is_waiting r d.waiting) _ _ (record { told = λ c k lost apart. refl; joined = λ c k. omega arith; singly = single; fewer = λ k e none. none }) nothing_tells

    -- a channel is gone: who lost it is heard of no more, and of another channel it is heard as they stand
    gone_told : (c : List ℕ) (k : ℕ) (lost : Bool) (e : List ℕ) (subs : List ℕ)
        → hears c k (owner_of setup.workers c) (stands_with c k (board_of d.spools) && not (loses c k (lines.Gone e subs) || lost)) (facts_deeds me Deleted (gone_facts e subs d.spools)) ≡ stands_with c k (board_of (gone_after e subs d.spools)) && not lost
    gone_told c k lost e subs = by (bytes_eq e c) refl
      where
        own_told : (is : Bool) → hears c k (owner_of setup.workers c) is (facts_deeds me Deleted (gone_facts c subs d.spools)) ≡ is
        own_told is = facts_heard c k setup.workers is me Deleted (gone_facts c subs d.spools) (loses_well setup.workers me d.spools knows c subs).0 ∙ (tell-members Hold c k d.spools single).own_removal subs is

        parts : (s named l : Bool) → (s && not ((true && named) || l)) ≡ (not named && s) && not l
        parts true true l = refl
        parts true false l = refl
        parts false true l = refl
        parts false false l = refl

        by : (t : Bool) → bytes_eq e c ≡ t
            → hears c k (owner_of setup.workers c) (stands_with c k (board_of d.spools) && not ((t && is_named k subs) || lost)) (facts_deeds me Deleted (gone_facts e subs d.spools)) ≡ stands_with c k (board_of (gone_after e subs d.spools)) && not lost
        by true same = subst (λ (x : List ℕ). hears c k (owner_of setup.workers c) (stands_with c k (board_of d.spools) && not ((true && is_named k subs) || lost)) (facts_deeds me Deleted (gone_facts x subs d.spools)) ≡ stands_with c k (board_of (gone_after x subs d.spools)) && not lost)
            (sym (same_text e c (sym same)))
            (own_told _ ∙ parts (stands_with c k (board_of d.spools)) (is_named k subs) lost ∙ ap (λ b. b && not lost) (sym ((tell-members Hold c k d.spools single).removed subs)))
        by false other = call_told c k lost Deleted (gone_facts e subs d.spools) _ (loses_well setup.workers me d.spools knows e subs).0 ((tell-members Hold c k d.spools single).removal e subs other) (λ l. (comers-join Hold c k d.spools).removal e subs)

    handled_tells : (from : ℕ) (line : AlertLine) → OwnersHear (λ k. false) (λ c k. loses c k line) d (handled me from line d)
    handled_tells from (lines.PubAnswer r status info full) = replied_tells r status info
    handled_tells from (lines.InfoAnswer r status info) = replied_tells r status info
    handled_tells from (lines.DelAnswer r status info) = replied_tells r status info
    handled_tells from (lines.LookAnswer number q floor past g slot) =
        let found = found_in from past g slot in
        let well = (answers_well setup.workers me d.spools knows number q floor found).0 in
        record {
          told = λ c k lost apart. call_told c k lost Answered (answer_facts number q floor found d.spools) _ well ((tell-members Hold c k d.spools single).answer number q floor found) (λ l. (comers-join Hold c k d.spools).answer number q floor found);
          joined = λ c k. call_joined c k 0 Answered (answer_facts number q floor found d.spools) well (no_more _ ((comers-join Hold c k d.spools).answer number q floor found));
          singly = (keep-singly Hold d.spools single).answer number q floor found;
          fewer = λ k e none. none_after k (board_of d.spools) (answer_board number q floor found d.spools) refl (tally-kept.answer k number (record { q = q; floor = floor }) (option_map news_of found) (board_of d.spools)) none;
        }
    handled_tells from (lines.Notice c id g slot) =
        let found = found_by from id g slot in
        let well = (notices_well setup.workers me d.spools knows c found).0 in
        record {
          told = λ e k lost apart. call_told e k lost Answered (notice_facts c found d.spools) _ well ((tell-members Hold e k d.spools single).notice c found) (λ l. (comers-join Hold e k d.spools).notice c found);
          joined = λ e k. call_joined e k 0 Answered (notice_facts c found d.spools) well (no_more _ ((comers-join Hold e k d.spools).notice c found));
          singly = (keep-singly Hold d.spools single).notice c found;
          fewer = λ k e none. none_after k (board_of d.spools) (notice_board c found d.spools) refl (tally-kept.notice k c (news_of found) (board_of d.spools)) none;
        }
    handled_tells from (lines.EdgeAnswer number q floor last) =
        let well = (edges_well setup.workers me d.spools knows number floor last).0 in
        record {
          told = λ c k lost apart. call_told c k lost Answered (edge_facts number floor last d.spools) _ well ((tell-members Hold c k d.spools single).edge_answer number floor last) (λ l. (comers-join Hold c k d.spools).edge_answer number floor last);
          joined = λ c k. call_joined c k 0 Answered (edge_facts number floor last d.spools) well (no_more _ ((comers-join Hold c k d.spools).edge_answer number floor last));
          singly = (keep-singly Hold d.spools single).edge_answer number floor last;
          fewer = λ k e none. none_after k (board_of d.spools) (edge_board number floor last d.spools) refl (tally-kept.edge_answer k number (Known last floor) (board_of d.spools)) none;
        }
    handled_tells from (lines.Gone e subs) = record {
      told = λ c k lost apart. gone_told c k lost e subs;
      joined = λ c k. call_joined c k 0 Deleted (gone_facts e subs d.spools) (loses_well setup.workers me d.spools knows e subs).0 (no_more _ ((comers-join Hold c k d.spools).removal e subs));
      singly = (keep-singly Hold d.spools single).removal e subs;
      fewer = λ k f none. none_after k (board_of d.spools) (gone_board e subs d.spools) refl (tally-kept.removal k e subs (board_of d.spools) single.once) none;
    }
    handled_tells from (lines.Publish r c len timeout ct body) = nothing_tells
    handled_tells from (lines.Look number c after fence) = nothing_tells
    handled_tells from (lines.Edge number k c fence) = nothing_tells
    handled_tells from (lines.Join c k) = nothing_tells
    handled_tells from (lines.Part c k) = nothing_tells
    handled_tells from (lines.Delete r c) = nothing_tells
    handled_tells from (lines.Info r c) = nothing_tells

    -- a subscriber comes
    came_tells : (n : ℕ) (list : List (List ℕ)) (start : Start) → Suits (Subscribes n list start) d → OwnersHear (λ k. n == k) (λ c k. false) d (begun setup me (Subscribes n list start) d)
    came_tells n list start suits = record {
      told = λ c k lost apart. call_told c k lost Answered (arrive_facts n list start true d.spools) _ well ((tell-members Hold c k d.spools single).arrive n list start true) (λ l. unjoined c k lost apart l);
      joined = λ c k. call_joined c k (one_if (n == k)) Answered (arrive_facts n list start true d.spools) well (few c k);
      singly = (keep-singly Hold d.spools single).arrive n list start true suits.0 suits.1;
      fewer = λ k e none. none_comes k n (board_of d.spools) (arrive_board n list start true d.spools) refl (tally-kept.arrive k (record { k = n; once = true }) list start (board_of d.spools)) e none;
    }
      where
        well : AreDeeds setup.workers me (facts_deeds me Answered (arrive_facts n list start true d.spools))
        well = (arrives_well setup.workers me d.spools knows n list start true).0

        few : (c : List ℕ) (k : ℕ) → joins_told c k (arrive_facts n list start true d.spools) ≤ one_if (n == k)
        few c k = (comers-join Hold c k d.spools).arrive n list start true (distinct_names list start suits.1)

        -- who lost a channel doesn't come
        unjoined : (c : List ℕ) (k : ℕ) (lost : Bool) → ((n == k) ≡ true → lost ≡ false) → lost ≡ true → joins_told c k (arrive_facts n list start true d.spools) ≡ 0
        unjoined c k lost apart is = by (n == k) apart (few c k)
          where
            by : (b : Bool) → (b ≡ true → lost ≡ false) → joins_told c k (arrive_facts n list start true d.spools) ≤ one_if b → joins_told c k (arrive_facts n list start true d.spools) ≡ 0
            by true never more = absurd (true≢false (sym is ∙ never refl))
            by false never more = omega (arith, more)

    begun_tells : (incoming : Incoming) → Suits incoming d → OwnersHear (comes incoming) (λ c k. loses_in c k incoming) d (begun setup me incoming d)
    begun_tells (TakesPacket from p) suits = handled_tells from p.line
    begun_tells (ClockReads t) suits = nothing_tells
    begun_tells Reaps suits = nothing_tells
    begun_tells (Posts c body) suits = record { told = λ e k lost apart. cond_same e k (owner_of setup.workers e == owner_of setup.workers c) _; joined = λ e k. none_joins (owner_of setup.workers e == owner_of setup.workers c); singly = single; fewer = λ k e none. none }
    begun_tells (Removes c) suits = record { told = λ e k lost apart. cond_same e k (owner_of setup.workers e == owner_of setup.workers c) _; joined = λ e k. none_joins (owner_of setup.workers e == owner_of setup.workers c); singly = single; fewer = λ k e none. none }
    begun_tells (Informs c) suits = record { told = λ e k lost apart. cond_same e k (owner_of setup.workers e == owner_of setup.workers c) _; joined = λ e k. none_joins (owner_of setup.workers e == owner_of setup.workers c); singly = single; fewer = λ k e none. none }
    begun_tells (Subscribes n list start) suits = came_tells n list start suits

    pub served_tells : (incoming : Incoming) → Suits incoming d → OwnersHear (comes incoming) (λ c k. loses_in c k incoming) d (served setup me incoming d)
    served_tells incoming suits = settled_tells (comes incoming) (λ c k. loses_in c k incoming) d (begun setup me incoming d) (begun_tells incoming suits)
