-- Packets go between workers that are there, and what is told of all alerts is so.
use Rattle.std.proofs.Common.{◌≡◌, ◌⊎◌, inl, inr, ℕ, zero, suc, ◌+◌, ◌<◌, ◌≤◌, Bool, true, false, cond, List, [], ◌∷◌, ◌++◌, Option, Some, None, refl, sym, ap, ◌∙◌, subst, arith, length, drop}
use Rattle.std.specs.Prelude.{◌==◌, ◌&&◌}
use Rattle.std.specs.List.{AllByRecursion}
use Rattle.std.proofs.lemmas.Bool.Decides.{nat_tests}
use Rattle.std.proofs.lemmas.Nat.{mod_below}
use Rattle.nc_types.specs.Channel.{owner_of}
use Rattle.nc_types.specs.Id.{Id}
use Rattle.nc_journal.specs.History.{own, onto, Along}
use Rattle.nc_journal.specs.declared.event.Event.{Event}
use Rattle.nc_journal.specs.declared.event.Event.TheVariants.{Made, Took, Pending, Quiet}
use Rattle.nc_journal.specs.declared.alert.AlertLine.{AlertLine}
use Rattle.nc_journal.specs.declared.alert.AlertLine.TheVariants as lines
use Rattle.nc_buffer.specs.declared.entry.Entry.{Entry}
use Rattle.nc_owner.specs.declared.desk.Desk.{Desk as OwnerDesk}
use Rattle.nc_owner.specs.declared.order.Order.{Order}
use Rattle.nc_owner.specs.AlertLines.{OutLine}
use Rattle.nc_owner.specs.Remove.{delete_alerts}
use Rattle.nc_owner.specs.State.{Bench, opened}
use Rattle.nc_owner.specs.Look.{found_on, found_line, look_ready}
use Rattle.nc_owner.specs.Fence.{with_floor}
use Rattle.nc_owner.specs.Publish.{Polls, Outcome, late, stored, full as is_all, notices, answer, asked, roomy, stamp, lowest_slot, stored_status, info_of, store_bench, post_alerts, publish_outcome, publish_cleared}
use Rattle.nc_history.specs.Packets.{Packet, packet, is_pair, pending}
use Rattle.nc_worker_state.specs.Setup.{Setup}
use Rattle.nc_worker_state.specs.Incoming.{Incoming, TakesPacket, ClockReads, Reaps, Posts, Subscribes, Removes, Informs}
use Rattle.nc_worker_state.specs.Owned.{Holding, owned_by, owned_in, order_of}
use Rattle.nc_worker_state.specs.Worker.{holding}
use Rattle.nc_world.specs.World.{World, seat, polls_of, handled_events, waiting_packets, sum_below, sum_pairs, pending_in}
use Rattle.nc_world.specs.Follows.{pending_count}
use Rattle.nc_world.specs.Reached.{IsSetup, IsInput, Reached}
use Rattle.nc_owner_laws.specs.Kinds.{IsOfOwner}
use Rattle.nc_world_laws.proofs.WorkerKinds.{IsBy, IsOfWorker, AsksOwner}
use Rattle.nc_world_laws.specs.Good.{Good}
use Rattle.nc_world_laws.proofs.WorldTheme.{WorldFact, IsWorldTheme}
use Rattle.nc_world_laws.proofs.Local.{all_append, eq_of}
use Rattle.nc_world_laws.proofs.Telling.{PartAlerts, told_made, deeds_do, deeds_make}
use Rattle.nc_world_laws.proofs.Parts.{serves, before, part, behind, well, part_made, step_by}
use Rattle.nc_world_owners.specs.Pairs.{IsBetween, CountedAt}
use Rattle.nc_world_owners.proofs.Asked.{IsAsked, all_onto}
use Rattle.nc_world_owners.proofs.FewGrants.{marks_there}
use Rattle.nc_world_owners.proofs.Gones.{Known, deletion_there, sweeps_there}
use Rattle.nc_world_owners.proofs.ReachedOwners.{leaving_facts}

-- ---- receivers

pub owner_there : (workers : ℕ) (c : List ℕ) → 0 < workers → owner_of workers c < workers
owner_there workers c some = mod_below _ workers some

pub asked_there : (workers to : ℕ) (a : AlertLine) → 0 < workers → AsksOwner workers to a → to < workers
asked_there workers to (lines.Publish r c len timeout ct body) some p = subst (λ (k : ℕ). k < workers) p.0 (owner_there workers c some)
asked_there workers to (lines.Look number c after fence) some p = subst (λ (k : ℕ). k < workers) p (owner_there workers c some)
asked_there workers to (lines.Edge number k c fence) some p = subst (λ (k : ℕ). k < workers) p (owner_there workers c some)
asked_there workers to (lines.Join c k) some p = subst (λ (k : ℕ). k < workers) p (owner_there workers c some)
asked_there workers to (lines.Part c k) some p = subst (λ (k : ℕ). k < workers) p (owner_there workers c some)
asked_there workers to (lines.Delete r c) some p = subst (λ (k : ℕ). k < workers) p (owner_there workers c some)
asked_there workers to (lines.Info r c) some p = subst (λ (k : ℕ). k < workers) p (owner_there workers c some)
asked_there workers to a some p = absurd p

-- the receivers of an owner's alerts: who asks, and who is marked
abbrev AreThere : ℕ → List OutLine → Type 0
AreThere workers alerts = AllByRecursion (λ (a : OutLine). a.to < workers) alerts

module _ (workers : ℕ) where
  notices_there : (c : List ℕ) (id : Id) (slot g : ℕ) (marks : List ℕ) → AllByRecursion (λ u. u < workers) marks → AreThere workers (notices c id slot g marks)
  notices_there c id slot g [] a = tt
  notices_there c id slot g (to ∷ marks) a = (a.0, notices_there c id slot (g + 1) marks a.1)

  post_there : (x : Outcome) (from : ℕ) (o : Order) (polls : Polls) (b : Bench) → from < workers → AllByRecursion (λ u. u < workers) b.channel.marks → AreThere workers (post_alerts x from o polls b)
  post_there late from o polls b there marks = (there, tt)
  post_there (is_all usage) from o polls b there marks = (there, tt)
  post_there stored from o polls b there marks =
      let c = asked polls.leaving b in
      let r = roomy o.length polls.left c in
      all_append (λ (a : OutLine). a.to < workers) (notices o.chan (stamp c) (lowest_slot r.row) c.desk.grants c.channel.marks)
      (answer from o.r (stored_status c.channel) (Some (info_of (store_bench o polls.left c).channel)) None ∷ [])
      (notices_there o.chan (stamp c) (lowest_slot r.row) c.desk.grants c.channel.marks marks) (there, tt)

  found_there : (from number : ℕ) (x : Option Entry) (d : OwnerDesk) → from < workers → (found_line from number x d).to < workers
  found_there from number None d there = there
  found_there from number (Some e) d there = there

  line_there : (polls : Polls) (from : ℕ) (line : AlertLine) (s : Holding) → from < workers → ((c : List ℕ) → AllByRecursion (λ u. u < workers) (opened c s.owner).marks) → ((r : ℕ) (c : List ℕ) → AreThere workers (delete_alerts from r c s.row s.owner))
      → AreThere workers (owned_by polls from line s).alerts
  line_there polls from (lines.Publish r c len timeout ct body) s there marks gone = let o = order_of r c len timeout ct body in post_there (publish_outcome o polls s.row s.owner) from o polls (publish_cleared o polls s.row s.owner) there (marks c)
  line_there polls from (lines.Look number c after fence) s there marks gone = let ready = look_ready c s.row (with_floor fence s.owner) in (found_there from number (found_on after ready) ready.desk there, tt)
  line_there polls from (lines.Edge number k c fence) s there marks gone = (there, tt)
  line_there polls from (lines.Join c k) s there marks gone = tt
  line_there polls from (lines.Part c k) s there marks gone = tt
  line_there polls from (lines.Info r c) s there marks gone = (there, tt)
  line_there polls from (lines.PubAnswer r status info full) s there marks gone = tt
  line_there polls from (lines.LookAnswer number q floor found g slot) s there marks gone = tt
  line_there polls from (lines.Notice c id g slot) s there marks gone = tt
  line_there polls from (lines.EdgeAnswer number q floor last) s there marks gone = tt
  line_there polls from (lines.Delete r c) s there marks gone = gone r c
  line_there polls from (lines.DelAnswer r status info) s there marks gone = tt
  line_there polls from (lines.Gone c subs) s there marks gone = tt
  line_there polls from (lines.InfoAnswer r status info) s there marks gone = tt

-- what comes from a worker that is there
abbrev pub IsThere : Setup → Incoming → Type 0
IsThere setup (TakesPacket from p) = from < setup.workers
IsThere setup incoming = Unit {0}

module _ (setup : Setup) (is : IsSetup setup) (w : ℕ) (incoming : Incoming) (h : List Event) (world : World) (g : Good setup h world) (asks : AllByRecursion (IsAsked setup.workers) (own w h)) (here : w < setup.workers) where
  known : Known setup w (world.rows w) (world.workers w).owner
  known = record { history = own w h; keeps = g.keeps w; asked = asks }

  owned_there : (i : Incoming) → IsThere setup i → PartAlerts (λ a. a.to < setup.workers) (owned_in (polls_of w i world) i (holding w (seat w world)))
  owned_there (TakesPacket from p) there = (
    tt,
    line_there setup.workers (polls_of w (TakesPacket from p) world).publish from p.line (holding w (seat w world)) there (marks_there setup w (world.rows w) (own w h) (world.workers w).owner (g.keeps w).stands asks)
        (λ r c. deletion_there setup w from r c (world.rows w) (world.workers w).owner there known),
  )
  owned_there (ClockReads t) there = (tt, tt)
  owned_there Reaps there = (sweeps_there setup w (world.rows w) (world.workers w).owner (g.owns w) known, tt)
  owned_there (Posts c body) there = (tt, tt)
  owned_there (Subscribes k list start) there = (tt, tt)
  owned_there (Removes c) there = (tt, tt)
  owned_there (Informs c) there = (tt, tt)

  before_between : (i : Incoming) → AllByRecursion (IsBetween setup.workers) (before setup w i world)
  before_between (TakesPacket from p) = (tt, tt)
  before_between (ClockReads t) = (tt, tt)
  before_between Reaps = tt
  before_between (Posts c body) = (tt, tt)
  before_between (Subscribes k list start) = (tt, tt)
  before_between (Removes c) = (tt, tt)
  before_between (Informs c) = (tt, tt)

  owner_between : (e : Event) → IsOfOwner w e → IsBetween setup.workers e
  owner_between (Made v to n a) p = absurd p
  owner_between e p = tt

  worker_between : (e : Event) → IsOfWorker w e → IsBetween setup.workers e
  worker_between (Made v to n a) p = absurd p
  worker_between e p = tt

  pub step_between : IsThere setup incoming → AllByRecursion (IsBetween setup.workers) (handled_events setup w incoming world)
  step_between there =
      all_append (IsBetween setup.workers) (before setup w incoming world ++ part w incoming world) (behind setup w incoming world)
      (all_append (IsBetween setup.workers) (before setup w incoming world) (part w incoming world) (before_between incoming)
      (part_made setup is w incoming h world g (IsBetween setup.workers) (λ (a : OutLine). a.to < setup.workers) owner_between (λ n a q. (here, q)) (owned_there incoming there)))
      (told_made (IsBetween setup.workers) (AsksOwner setup.workers) w _ (λ to n a q. (here, asked_there setup.workers to a is.0 q)) (serves setup w incoming world).deeds
      (deeds_do setup.workers w (IsBetween setup.workers) worker_between (serves setup w incoming world).deeds (well setup is w incoming h world g))
      (deeds_make setup.workers w (serves setup w incoming world).deeds (well setup is w incoming h world g)))

-- ---- nothing is pending between others

beyond : (b d : Bool) (v w x y workers n : ℕ) (a : AlertLine) (ps : List Packet) → (v == x) ≡ b → (w == y) ≡ d → (x < workers) × (y < workers) → (workers ≤ v) ⊎ (workers ≤ w) → ps ≡ [] → cond (b && d) (ps ++ packet n a ∷ []) ps ≡ []
beyond true true v w x y workers n a ps e f lt (inl le) z = let same = eq_of v x e in let below = lt.0 in absurd (omega (arith, same, below, le))
beyond true true v w x y workers n a ps e f lt (inr le) z = let same = eq_of w y f in let below = lt.1 in absurd (omega (arith, same, below, le))
beyond true false v w x y workers n a ps e f lt far z = z
beyond false d v w x y workers n a ps e f lt far z = z

dropped : (b : Bool) (ps : List Packet) → ps ≡ [] → cond b (drop 1 ps) ps ≡ []
dropped true ps z = ap (drop 1) z
dropped false ps z = z

pub none_beyond : (workers v w : ℕ) (h : List Event) → AllByRecursion (IsBetween workers) h → (workers ≤ v) ⊎ (workers ≤ w) → pending v w h ≡ []
none_beyond workers v w [] a far = refl
none_beyond workers v w (Made x y n l ∷ h) a far = beyond (v == x) (w == y) v w x y workers n l (pending v w h) refl refl a.0 far (none_beyond workers v w h a.1 far)
none_beyond workers v w (Took y x n kind ∷ h) a far = dropped (is_pair v w x y) (pending v w h) (none_beyond workers v w h a.1 far)
none_beyond workers v w (e ∷ h) a far = none_beyond workers v w h a.1 far

-- ---- what is told of all alerts

sum_none : (f : ℕ → ℕ) (n k : ℕ) → sum_below f n ≡ 0 → k < n → f k ≡ 0
sum_none f zero k z lt = absurd (omega (arith, lt))
sum_none f (suc n) k z lt = by (k == n) refl (sum_none f n k (omega (arith, z)))
  where
    by : (b : Bool) → (k == n) ≡ b → (k < n → f k ≡ 0) → f k ≡ 0
    by true e rest = ap f (eq_of k n e) ∙ omega (arith, z)
    by false e rest = rest (let other : (k == n) ≡ false = e in grind (arith, nat_tests, lt))

no_packets : (ps : List Packet) → length ps ≡ 0 → ps ≡ []
no_packets [] z = refl
no_packets (p ∷ ps) z = absurd (omega (arith, z))

within : (n k : ℕ) → (n ≤ k) ⊎ (k < n)
within n k = grind arith

-- the packets of a world are those that are pending
pub pending_counted : (setup : Setup) (h : List Event) (world : World) → Good setup h world → pending_in setup world ≡ pending_count setup.workers h
pending_counted setup h world g = sym (λ i. sum_pairs (λ v w. length (g.queues v w i)) setup.workers)

none_pending : (setup : Setup) (h : List Event) (world : World) → Good setup h world → AllByRecursion (IsBetween setup.workers) h → pending_in setup world ≡ 0 → (v w : ℕ) → pending v w h ≡ []
none_pending setup h world g a z v w = by (within setup.workers v) (within setup.workers w)
  where
    by : (setup.workers ≤ v) ⊎ (v < setup.workers) → (setup.workers ≤ w) ⊎ (w < setup.workers) → pending v w h ≡ []
    by (inl far) y = none_beyond setup.workers v w h a (inl far)
    by (inr lt) (inl far) = none_beyond setup.workers v w h a (inr far)
    by (inr lt) (inr near) = g.queues v w ∙ no_packets (waiting_packets world v w) (sum_none (λ y. length (waiting_packets world v y)) setup.workers w (sum_none (λ x. sum_below (λ y. length (waiting_packets world x y)) setup.workers) setup.workers v z lt) near)

-- ---- the theme

-- the events of a worker tell nothing of all alerts
along_by : (workers w : ℕ) (es h : List Event) → AllByRecursion (IsBy w) es → Along (CountedAt workers) h → Along (CountedAt workers) (onto es h)
along_by workers w [] h by a = a
along_by workers w (e ∷ es) h by a = along_by workers w es (e ∷ h) by.1 (a, one e by.0)
  where
    one : (x : Event) → IsBy w x → CountedAt workers h x
    one (Pending n) i = absurd cc
    one Quiet i = absurd cc
    one x i = tt

pub record PairsKept (setup : Setup) (h : List Event) : Type 0 where
  pub between : AllByRecursion (IsBetween setup.workers) h
  pub told : Along (CountedAt setup.workers) h

abbrev pub PairsFact : Setup → WorldFact
PairsFact setup h world = PairsKept setup h

input_there : (setup : Setup) (w : ℕ) (h : List Event) (incoming : Incoming) → IsInput w h incoming → IsThere setup incoming
input_there setup w h (TakesPacket from p) i = absurd i
input_there setup w h (ClockReads t) i = tt
input_there setup w h Reaps i = tt
input_there setup w h (Posts c body) i = tt
input_there setup w h (Subscribes k list start) i = tt
input_there setup w h (Removes c) i = tt
input_there setup w h (Informs c) i = tt

step_pairs : (setup : Setup) (is : IsSetup setup) (w : ℕ) (incoming : Incoming) (h : List Event) (world : World) → Reached setup h world → Good setup h world → w < setup.workers → IsThere setup incoming → PairsKept setup h → PairsKept setup (onto (handled_events setup w incoming world) h)
step_pairs setup is w incoming h world r g here there k =
    let asks = (leaving_facts setup h world is r w).grants.asked in
    record {
      between = all_onto (IsBetween setup.workers) (handled_events setup w incoming world) h (step_between setup is w incoming h world g asks here there) k.between;
      told = along_by setup.workers w (handled_events setup w incoming world) h (step_by setup is w incoming h world g) k.told;
    }

pub pairs_theme : (setup : Setup) → IsSetup setup → IsWorldTheme setup (PairsFact setup)
pairs_theme setup is = record {
  new = record { between = tt; told = tt };
  handles = λ w incoming h world r g here i k. step_pairs setup is w incoming h world r g here (input_there setup w h incoming i) k;
  takes = λ w v p ps h world r g here there at k. step_pairs setup is w (TakesPacket v p) h world r g here there k;
  carries = λ w v p ps h world r g here there at k. k;
  pending = λ n h world r g same k. record { between = (tt, k.between); told = (k.told, (omega arith, sym same ∙ pending_counted setup h world g)) };
  quiet = λ h world r g none k. record { between = (tt, k.between); told = (k.told, none_pending setup h world g k.between none) };
}
