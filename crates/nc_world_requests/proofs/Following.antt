-- What a worker answers stands directly behind the taking of the alert that brings it.
use Rattle.std.proofs.Common.{◌≡◌, ◌⊎◌, inl, inr, ℕ, Bool, true, false, cond, List, [], ◌∷◌, ◌++◌, Option, None, refl, sym, ap, ◌∙◌, subst, map, filter}
use Rattle.std.specs.List.{AllByRecursion}
use Rattle.nc_types.specs.declared.info.Info.{Info}
use Rattle.nc_journal.specs.History.{onto, Along}
use Rattle.nc_journal.specs.declared.event.Event.{Event}
use Rattle.nc_journal.specs.declared.event.Event.TheVariants.{Answered, Took}
use Rattle.nc_journal.specs.declared.word.EndedCause.{EndedCause}
use Rattle.nc_journal.specs.declared.word.EndedCause.TheVariants as causes
use Rattle.nc_journal.specs.declared.alert.AlertLine.{AlertLine}
use Rattle.nc_journal.specs.declared.alert.AlertLine.TheVariants as lines
use Rattle.nc_owner_laws.specs.Kinds.{IsOfOwner}
use Rattle.nc_owner_laws.specs.Weave.{weave}
use Rattle.nc_spool_state.specs.declared.kept.Held.{Held}
use Rattle.nc_spool_state.specs.Kept.{is_idle}
use Rattle.nc_spool.specs.declared.fact.Fact.{Fact}
use Rattle.nc_spool.specs.declared.fact.Fact.TheVariants as facts
use Rattle.nc_spool.specs.Calls.{arrive_facts, answer_facts, edge_facts, notice_facts, gone_facts}
use Rattle.nc_history.specs.Packets.{Packet, kind_of, pending}
use Rattle.nc_worker_state.specs.Setup.{Setup}
use Rattle.nc_worker_state.specs.Incoming.{Incoming, TakesPacket, ClockReads, Reaps, Posts, Subscribes, Removes, Informs}
use Rattle.nc_worker_state.specs.Deed.{Deed, Does, Makes, told, next_after}
use Rattle.nc_worker_state.specs.Owned.{Holding, owned_by, line_polls}
use Rattle.nc_worker_state.specs.Spooled.{Hold, facts_deeds, found_in, found_by, release, releases}
use Rattle.nc_worker_state.specs.Desk.{Desk, Served, is_waiting, without, replied, handled, begun, served}
use Rattle.nc_worker_state.specs.Worker.{holding}
use Rattle.nc_owner.specs.Publish.{Polls}
use Rattle.nc_world.specs.World.{World, seat, handled_events}
use Rattle.nc_world.specs.Reached.{IsSetup, IsInput}
use Rattle.nc_world_laws.specs.Good.{Good}
use Rattle.nc_world_laws.proofs.Telling.{AllDo, told_all}
use Rattle.nc_world_laws.proofs.Parts.{serves, before, part, behind, part_all}
use Rattle.nc_world_laws.proofs.Frames.{handled_onto}
use Rattle.nc_world_requests.specs.Requests.{IsAnswer, FirstAnswers, AnsweredAt}

-- ---- along a history

-- events of which each is so whatever stands before it
pub plain_along : (A : List Event → Event → Type 0) (K : Event → Type 0) → ((h : List Event) (e : Event) → K e → A h e) → (es h : List Event) → AllByRecursion K es → Along A h → Along A (onto es h)
plain_along A K f [] h k a = a
plain_along A K f (e ∷ es) h k a = plain_along A K f es (e ∷ h) k.1 (a, f h e k.0)

abbrev IsUnanswered : Event → Type 0
IsUnanswered (Answered w r conn status info json close) = ⊥
IsUnanswered _ = Unit {0}

unanswered_plain : (h : List Event) (e : Event) → IsUnanswered e → AnsweredAt h e
unanswered_plain h (Answered w r conn status info json close) k = absurd k
unanswered_plain h e k = tt

unanswered_owner : (w : ℕ) (e : Event) → IsOfOwner w e → IsUnanswered e
unanswered_owner w (Answered v r conn status info json close) p = absurd p
unanswered_owner w e p = tt

-- ---- deeds

module _ (me : ℕ) where
  -- the first deed answers with what an alert brings
  pub record RepliesFirst (line : AlertLine) (deeds : List Deed) : Type 0 where
    pub n : ℕ
    pub status : ℕ
    pub info : Option Info
    pub others : List Deed
    pub same : deeds ≡ Does (Answered me n None status info false false) ∷ others
    pub is : IsAnswer n status info line
    pub unanswered : AllDo IsUnanswered others

  abbrev Replies : AlertLine → List Deed → Type 0
  Replies line deeds = AllDo IsUnanswered deeds ⊎ RepliesFirst line deeds

  facts_unanswered : (cause : EndedCause) (fs : List Fact) → AllDo IsUnanswered (facts_deeds me cause fs)
  facts_unanswered cause [] = tt
  facts_unanswered cause (facts.Out o ∷ fs) = facts_unanswered cause fs
  facts_unanswered cause (facts.Started k cursor ∷ fs) = (tt, facts_unanswered cause fs)
  facts_unanswered cause (facts.Sent s ∷ fs) = (tt, facts_unanswered cause fs)
  facts_unanswered cause (facts.Ended k deleted ∷ fs) = (tt, facts_unanswered cause fs)

  released_unanswered : (holds : List (Held Hold)) → AllDo IsUnanswered (map (release me) holds)
  released_unanswered [] = tt
  released_unanswered (h ∷ holds) = (tt, released_unanswered holds)

  do_append : (xs ys : List Deed) → AllDo IsUnanswered xs → AllDo IsUnanswered ys → AllDo IsUnanswered (xs ++ ys)
  do_append [] ys a b = b
  do_append (Does e ∷ xs) ys a b = (a.0, do_append xs ys a.1 b)
  do_append (Makes to l ∷ xs) ys a b = do_append xs ys a b

  replied_so : (line : AlertLine) (n status : ℕ) (info : Option Info) (d : Desk) → IsAnswer n status info line → Replies line (replied me n status info d).deeds
  replied_so line n status info d is = by (is_waiting n d.waiting)
    where
      by : (b : Bool) → Replies line (cond {A = Served} b (record { deeds = Does (Answered me n None status info false false) ∷ []; after = record d { waiting = without n d.waiting } }) (record { deeds = []; after = d })).deeds
      by true = inr (record { n = n; status = status; info = info; others = []; same = refl; is = is; unanswered = tt })
      by false = inl tt

  handled_replies : (from : ℕ) (line : AlertLine) (d : Desk) → Replies line (handled me from line d).deeds
  handled_replies from (lines.PubAnswer n status info usage) d = replied_so (lines.PubAnswer n status info usage) n status info d (refl, refl, refl)
  handled_replies from (lines.InfoAnswer n status info) d = replied_so (lines.InfoAnswer n status info) n status info d (refl, refl, refl)
  handled_replies from (lines.DelAnswer n status info) d = replied_so (lines.DelAnswer n status info) n status info d (refl, refl, refl)
  handled_replies from (lines.LookAnswer number q floor found g slot) d = inl (facts_unanswered causes.Answered (answer_facts number q floor (found_in from found g slot) d.spools))
  handled_replies from (lines.Notice c id g slot) d = inl (facts_unanswered causes.Answered (notice_facts c (found_by from id g slot) d.spools))
  handled_replies from (lines.EdgeAnswer number q floor last) d = inl (facts_unanswered causes.Answered (edge_facts number floor last d.spools))
  handled_replies from (lines.Gone c subs) d = inl (facts_unanswered causes.Deleted (gone_facts c subs d.spools))
  handled_replies from (lines.Publish n c len timeout ct body) d = inl tt
  handled_replies from (lines.Look number c after fence) d = inl tt
  handled_replies from (lines.Edge number k c fence) d = inl tt
  handled_replies from (lines.Join c k) d = inl tt
  handled_replies from (lines.Part c k) d = inl tt
  handled_replies from (lines.Delete n c) d = inl tt
  handled_replies from (lines.Info n c) d = inl tt

  -- with the releases
  settled_replies : (line : AlertLine) (deeds : List Deed) (holds : List (Held Hold)) → Replies line deeds → Replies line (deeds ++ map (release me) holds)
  settled_replies line deeds holds (inl a) = inl (do_append deeds (map (release me) holds) a (released_unanswered holds))
  settled_replies line deeds holds (inr k) = inr (record {
    n = k.n;
    status = k.status;
    info = k.info;
    others = k.others ++ map (release me) holds;
    same = ap (λ (l : List Deed). l ++ map (release me) holds) k.same;
    is = k.is;
    unanswered = do_append k.others (map (release me) holds) k.unanswered (released_unanswered holds);
  })

  input_unanswered : (setup : Setup) (incoming : Incoming) (d : Desk) → AllDo IsUnanswered (begun setup me incoming d).deeds → AllDo IsUnanswered (served setup me incoming d).deeds
  input_unanswered setup incoming d a =
      let s = begun setup me incoming d in
      do_append s.deeds (releases me s.after.spools) a (released_unanswered (filter (is_idle s.after.spools.shelf) s.after.spools.kept))

  told_unanswered : (next : ℕ → ℕ) (deeds : List Deed) → AllDo IsUnanswered deeds → AllByRecursion IsUnanswered (told me next deeds)
  told_unanswered next deeds a = told_all IsUnanswered me next (λ to n l. tt) deeds a

-- an owner does nothing with an answer
answer_idle : (n status : ℕ) (info : Option Info) (line : AlertLine) → IsAnswer n status info line → (w from : ℕ) (next : ℕ → ℕ) (polls : Polls) (s : Holding) → weave w next (owned_by polls from line s).events (owned_by polls from line s).alerts ≡ []
answer_idle n status info (lines.PubAnswer m s i usage) is w from next polls o = refl
answer_idle n status info (lines.DelAnswer m s i) is w from next polls o = refl
answer_idle n status info (lines.InfoAnswer m s i) is w from next polls o = refl
answer_idle n status info line is w from next polls o = absurd is

-- ---- a worker's step

module _ (setup : Setup) (is : IsSetup setup) (w : ℕ) where
  plain_step : (incoming : Incoming) (h : List Event) (world : World) → Good setup h world → AllByRecursion IsUnanswered (before setup w incoming world) → AllDo IsUnanswered (serves setup w incoming world).deeds → Along AnsweredAt h → Along AnsweredAt (onto (handled_events setup w incoming world) h)
  plain_step incoming h world g first deeds a =
      let opened = onto (before setup w incoming world) h in
      subst (Along AnsweredAt) (sym (handled_onto setup is w incoming h world g h))
      (plain_along AnsweredAt IsUnanswered unanswered_plain (behind setup w incoming world) (onto (part w incoming world) opened) (told_unanswered w (next_after (world.workers w).next (part w incoming world)) (serves setup w incoming world).deeds deeds)
      (plain_along AnsweredAt IsUnanswered unanswered_plain (part w incoming world) opened (part_all setup is w incoming h world g IsUnanswered (unanswered_owner w) (λ to n l. tt))
      (plain_along AnsweredAt IsUnanswered unanswered_plain (before setup w incoming world) h first a)))

  pub input_answered : (incoming : Incoming) (h : List Event) (world : World) → Good setup h world → IsInput w h incoming → Along AnsweredAt h → Along AnsweredAt (onto (handled_events setup w incoming world) h)
  input_answered (TakesPacket from p) h world g i a = absurd i
  input_answered (ClockReads t) h world g i a = plain_step (ClockReads t) h world g (tt, tt) (input_unanswered w setup (ClockReads t) (world.workers w).desk tt) a
  input_answered Reaps h world g i a = plain_step Reaps h world g tt (input_unanswered w setup Reaps (world.workers w).desk tt) a
  input_answered (Posts c body) h world g i a = plain_step (Posts c body) h world g (tt, tt) (input_unanswered w setup (Posts c body) (world.workers w).desk tt) a
  input_answered (Subscribes k list start) h world g i a = plain_step (Subscribes k list start) h world g (tt, tt) (input_unanswered w setup (Subscribes k list start) (world.workers w).desk (facts_unanswered w causes.Answered (arrive_facts k list start true (world.workers w).desk.spools))) a
  input_answered (Removes c) h world g i a = plain_step (Removes c) h world g (tt, tt) (input_unanswered w setup (Removes c) (world.workers w).desk tt) a
  input_answered (Informs c) h world g i a = plain_step (Informs c) h world g (tt, tt) (input_unanswered w setup (Informs c) (world.workers w).desk tt) a

  pub packet_answered : (v : ℕ) (p : Packet) (more : List Packet) (h : List Event) (world : World) → Good setup h world → pending v w h ≡ p ∷ more → Along AnsweredAt h → Along AnsweredAt (onto (handled_events setup w (TakesPacket v p) world) h)
  packet_answered v p more h world g first a =
      let s = handled w v p.line (world.workers w).desk in
      by (settled_replies w p.line s.deeds (filter (is_idle s.after.spools.shelf) s.after.spools.kept) (handled_replies w v p.line (world.workers w).desk))
    where
      took : Event
      took = Took w v p.number (kind_of p.line)

      next : ℕ → ℕ
      next = next_after (world.workers w).next (part w (TakesPacket v p) world)

      by : Replies w p.line (serves setup w (TakesPacket v p) world).deeds → Along AnsweredAt (onto (handled_events setup w (TakesPacket v p) world) h)
      by (inl u) = plain_step (TakesPacket v p) h world g (tt, tt) u a
      by (inr k) =
          let idle : part w (TakesPacket v p) world ≡ [] = answer_idle k.n k.status k.info p.line k.is w v (world.workers w).next (line_polls p.line (holding w (seat w world))) (holding w (seat w world)) in
          let answer = Answered w k.n None k.status k.info false false in
          let whole : Along AnsweredAt (onto (told w next (Does answer ∷ k.others)) (took ∷ h))
          = plain_along AnsweredAt IsUnanswered unanswered_plain (told w next k.others) (answer ∷ took ∷ h) (told_unanswered w next k.others k.unanswered) ((a, tt), (refl, refl, refl, (refl, subst (FirstAnswers k.n k.status k.info) (sym first) k.is))) in
          subst (Along AnsweredAt) (sym (handled_onto setup is w (TakesPacket v p) h world g h ∙ (λ i. onto (told w next (k.same i)) (onto (idle i) (took ∷ h))))) whole
