-- What a worker's step makes of members: at its owner, and on the way to other owners.
use Rattle.std.proofs.Common.{◌≡◌, ℕ, Bool, true, false, cond, List, [], ◌∷◌, ◌++◌, refl, sym, ap, ◌∙◌, subst, arith}
use Rattle.std.specs.Prelude.{◌==◌, ◌||◌}
use Rattle.std.specs.List.{AllByRecursion}
use Rattle.nc_journal.specs.History.{own, onto}
use Rattle.nc_journal.specs.Standing.{is_subscribed}
use Rattle.nc_journal.specs.declared.event.Event.{Event}
use Rattle.nc_journal.specs.declared.event.Event.TheVariants.{Joined, Parted, Removed, Made, Subscribed}
use Rattle.nc_journal.specs.declared.alert.AlertLine.{AlertLine}
use Rattle.nc_journal.specs.declared.alert.AlertLine.TheVariants as lines
use Rattle.nc_owner.specs.declared.member.Member.{Member}
use Rattle.nc_owner_laws.specs.Filters.{is_member}
use Rattle.nc_owner_laws.specs.Kinds.{IsOfOwner}
use Rattle.nc_worker_state.specs.Setup.{Setup}
use Rattle.nc_worker_state.specs.Incoming.{Incoming, TakesPacket, ClockReads, Reaps, Posts, Subscribes, Removes, Informs}
use Rattle.nc_worker_state.specs.Owned.{member_of}
use Rattle.nc_worker_state.specs.Deed.{next_after}
use Rattle.nc_worker_state.specs.Worker.{holding, sent_to}
use Rattle.nc_owner.specs.AlertLines.{OutLine}
use Rattle.nc_history.specs.Packets.{lines_of}
use Rattle.nc_world.specs.World.{World, seat, polls_of, handled_events}
use Rattle.nc_world.specs.Reached.{IsSetup}
use Rattle.nc_world_laws.proofs.WorkerKinds.{IsUnmade, IsOfWorker, AsksOwner}
use Rattle.nc_world_laws.specs.Good.{Good}
use Rattle.nc_world_laws.proofs.Local.{eqb_self, eq_of}
use Rattle.nc_world_laws.proofs.Telling.{all_events_of, told_made, deeds_do, deeds_make, unmade_owner, unmade_worker}
use Rattle.nc_world_laws.proofs.Parts.{owns, serves, before, part, behind, of, well, part_all, part_made, part_alerts, behind_all}
use Rattle.nc_world_laws.proofs.Stepping.{aside_keeps}
use Rattle.nc_world_laws.proofs.Frames.{own_handled, handled_onto}
use Rattle.nc_world_members.specs.Members.{joins, is_lost}
use Rattle.nc_world_members.proofs.Memberless.{IsMemberless, memberless_onto, member_in, lost_in, IsApart, MakesApart, apart_line}
use Rattle.nc_world_members.proofs.Hearing.{heard_from, hears, more_events, apart_events, told_heard, joins_done, joins_more_events, joins_apart, told_joins, MakesNoGone, lost_sent, lost_more_events, lost_apart}
use Rattle.nc_world_members.proofs.Removing.{part_lost, Knows, owned_member, owned_lost}
use Rattle.nc_world_members.proofs.Desks.{comes}

less_worker : (w : ℕ) (e : Event) → IsOfWorker w e → IsMemberless e
less_worker w (Joined v c from k) p = absurd p
less_worker w (Parted v c from k) p = absurd p
less_worker w (Removed v c last cause) p = absurd p
less_worker w e p = tt

apart_owner : (w : ℕ) (e : Event) → IsOfOwner w e → MakesApart e
apart_owner w (Made v to n a) p = absurd p
apart_owner w e p = tt

told_worker : (w : ℕ) (e : Event) → IsOfWorker w e → MakesNoGone e
told_worker w (Made v to n a) p = absurd p
told_worker w e p = tt

-- ---- who was subscribed

abbrev IsUnsubscribing : Event → Type 0
IsUnsubscribing (Subscribed w k conn list mode start timeout close) = ⊥
IsUnsubscribing _ = Unit {0}

one_subscribed : (k : ℕ) (e : Event) (h : List Event) → IsUnsubscribing e → is_subscribed k (e ∷ h) ≡ is_subscribed k h
one_subscribed k (Subscribed w n conn list mode start timeout close) h p = absurd p
one_subscribed k e h p = refl

same_subscribed : (k : ℕ) (es h : List Event) → AllByRecursion IsUnsubscribing es → is_subscribed k (onto es h) ≡ is_subscribed k h
same_subscribed k [] h p = refl
same_subscribed k (e ∷ es) h p = same_subscribed k es (e ∷ h) p.1 ∙ one_subscribed k e h p.0

by_owner : (w : ℕ) (e : Event) → IsOfOwner w e → IsUnsubscribing e
by_owner w (Subscribed v k conn list mode start timeout close) p = absurd p
by_owner w e p = tt

by_worker : (w : ℕ) (e : Event) → IsOfWorker w e → IsUnsubscribing e
by_worker w (Subscribed v k conn list mode start timeout close) p = absurd p
by_worker w e p = tt

neither : (a b : Bool) → (a || b) ≡ false → (b ≡ false) × (a ≡ false)
neither true b e = absurd cc
neither false b e = (e, refl)

module _ (setup : Setup) (is : IsSetup setup) (x : ℕ) (incoming : Incoming) (h : List Event) (world : World) (g : Good setup h world) where
  abbrev pub events : List Event
  events = handled_events setup x incoming world

  -- ---- on the way

  before_apart : (i : Incoming) → AllByRecursion MakesApart (before setup x i world)
  before_apart (TakesPacket from p) = (tt, tt)
  before_apart (ClockReads t) = (tt, tt)
  before_apart Reaps = tt
  before_apart (Posts c body) = (tt, tt)
  before_apart (Subscribes k list start) = (tt, tt)
  before_apart (Removes c) = (tt, tt)
  before_apart (Informs c) = (tt, tt)

  before_told : (i : Incoming) → AllByRecursion MakesNoGone (before setup x i world)
  before_told (TakesPacket from p) = (tt, tt)
  before_told (ClockReads t) = (tt, tt)
  before_told Reaps = tt
  before_told (Posts c body) = (tt, tt)
  before_told (Subscribes k list start) = (tt, tt)
  before_told (Removes c) = (tt, tt)
  before_told (Informs c) = (tt, tt)

  part_apart : AllByRecursion MakesApart (part x incoming world)
  part_apart = part_made setup is x incoming h world g MakesApart (λ (a : OutLine). IsApart a.line) (apart_owner x) (λ n a q. q)
      (part_alerts setup is x incoming h world g (λ (a : OutLine). IsApart a.line) (λ from p e. apart_line (polls_of x incoming world).publish from p.line (holding x (seat x world))) (λ c subs to mine. tt))

  -- the owner of a channel hears what the deeds of the step tell it
  pub step_heard : (c : List ℕ) (k to : ℕ) (was : Bool) → heard_from c k to was events ≡ hears c k to was (serves setup x incoming world).deeds
  step_heard c k to was =
      more_events c k to was (before setup x incoming world ++ part x incoming world) (behind setup x incoming world)
      ∙ ap (λ z. heard_from c k to z (behind setup x incoming world)) (more_events c k to was (before setup x incoming world) (part x incoming world) ∙ apart_events c k to _ (part x incoming world) part_apart ∙ apart_events c k to was (before setup x incoming world) (before_apart incoming))
      ∙ told_heard c k to was x _ (serves setup x incoming world).deeds (deeds_do setup.workers x IsUnmade (unmade_worker x) (serves setup x incoming world).deeds (well setup is x incoming h world g))

  -- as often as the deeds of the step do, its alerts to an owner let a subscriber join
  pub step_joins : (c : List ℕ) (k to : ℕ) → joins c k (lines_of (sent_to to events)) ≡ joins_done c k to (serves setup x incoming world).deeds
  step_joins c k to =
      let first = before setup x incoming world in
      let second = part x incoming world in
      let third = behind setup x incoming world in
      let parts = joins_more_events c k to (first ++ second) third in
      let both_parts = joins_more_events c k to first second in
      let none_first = joins_apart c k to first (before_apart incoming) in
      let none_second = joins_apart c k to second part_apart in
      let done = told_joins c k to x (next_after (world.workers x).next second) (serves setup x incoming world).deeds (deeds_do setup.workers x IsUnmade (unmade_worker x) (serves setup x incoming world).deeds (well setup is x incoming h world g)) in
      omega (arith, parts, both_parts, none_first, none_second, done)

  -- ---- at an owner

  before_less : (i : Incoming) → AllByRecursion IsMemberless (before setup x i world)
  before_less (TakesPacket from p) = (tt, tt)
  before_less (ClockReads t) = (tt, tt)
  before_less Reaps = tt
  before_less (Posts c body) = (tt, tt)
  before_less (Subscribes k list start) = (tt, tt)
  before_less (Removes c) = (tt, tt)
  before_less (Informs c) = (tt, tt)

  knows : (i : Incoming) → Knows x setup.workers setup.slots setup.first (world.workers x).next (onto (before setup x i world) (own x h)) i (holding x (seat x world))
  knows (TakesPacket from p) = aside_keeps setup x (world.rows x) (own x h) (world.workers x).owner _ tt (eqb_self x) (g.keeps x)
  knows (ClockReads t) = tt
  knows Reaps = (g.keeps x, g.owns x)
  knows (Posts d body) = tt
  knows (Subscribes k list start) = tt
  knows (Removes d) = tt
  knows (Informs d) = tt

  member_here : (c : List ℕ) (m : Member) → is_member c m (onto events (own x h)) ≡ member_in c m incoming (is_member c m (own x h))
  member_here c m =
      let first = onto (before setup x incoming world) (own x h) in
      ap (is_member c m) (handled_onto setup is x incoming h world g (own x h))
      ∙ memberless_onto c m (behind setup x incoming world) (onto (part x incoming world) first) (behind_all setup is x incoming h world g IsMemberless (less_worker x) (λ to n a. tt))
      ∙ owned_member x setup.workers setup.slots setup.first (world.workers x).next first c m.from m.k (polls_of x incoming world) incoming (holding x (seat x world)) (knows incoming)
      ∙ ap (member_in c m incoming) (memberless_onto c m (before setup x incoming world) (own x h) (before_less incoming))

  -- the members that an owner knows after the step
  pub step_member : (c : List ℕ) (m : Member) (o : ℕ) → is_member c m (own o (onto events h)) ≡ cond (o == x) (member_in c m incoming (is_member c m (own o h))) (is_member c m (own o h))
  step_member c m o = ap (is_member c m) (own_handled setup is x incoming h world g o) ∙ by (o == x) refl
    where
      here : (z : ℕ) → z ≡ x → is_member c m (onto events (own z h)) ≡ member_in c m incoming (is_member c m (own z h))
      here z e = subst (λ (y : ℕ). is_member c m (onto events (own y h)) ≡ member_in c m incoming (is_member c m (own y h))) (sym e) (member_here c m)

      by : (b : Bool) → (o == x) ≡ b → is_member c m (cond b (onto events (own o h)) (own o h)) ≡ cond b (member_in c m incoming (is_member c m (own o h))) (is_member c m (own o h))
      by true e = here o (eq_of o x e)
      by false e = refl

  -- whom its alerts to a worker tell that a channel is gone
  pub step_lost : (c : List ℕ) (w k : ℕ) → is_lost c k (lines_of (sent_to w events)) ≡ lost_in c incoming (is_member c (member_of w k) (own x h))
  step_lost c w k =
      let first = before setup x incoming world in
      let second = part x incoming world in
      let third = behind setup x incoming world in
      lost_more_events c k w (first ++ second) third
      ∙ (λ i. lost_first i || none_third i)
      ∙ with_none (lost_sent c k w second)
      ∙ part_lost c k w x (world.workers x).next (owns x incoming world) (all_events_of (IsOfOwner x) IsUnmade (unmade_owner x) (owns x incoming world) (of setup is x incoming h world g))
      ∙ owned_lost x setup.workers setup.slots setup.first (world.workers x).next (onto first (own x h)) c w k (polls_of x incoming world) incoming (holding x (seat x world)) (knows incoming)
      ∙ ap (lost_in c incoming) (memberless_onto c (member_of w k) first (own x h) (before_less incoming))
    where
      with_none : (b : Bool) → (b || false) ≡ b
      with_none true = refl
      with_none false = refl

      lost_first : lost_sent c k w (before setup x incoming world ++ part x incoming world) ≡ lost_sent c k w (part x incoming world)
      lost_first = lost_more_events c k w (before setup x incoming world) (part x incoming world) ∙ ap (λ z. z || lost_sent c k w (part x incoming world)) (lost_apart c k w (before setup x incoming world) (before_told incoming))

      asks_told : (to n : ℕ) (a : AlertLine) → AsksOwner setup.workers to a → MakesNoGone (Made x to n a)
      asks_told to n (lines.Gone d subs) q = absurd q
      asks_told to n a q = tt

      none_third : lost_sent c k w (behind setup x incoming world) ≡ false
      none_third =
          let deeds = (serves setup x incoming world).deeds in
          let asks = well setup is x incoming h world g in
          lost_apart c k w (behind setup x incoming world) (told_made MakesNoGone (AsksOwner setup.workers) x _ asks_told deeds (deeds_do setup.workers x MakesNoGone (told_worker x) deeds asks) (deeds_make setup.workers x deeds asks))

  -- ---- who was subscribed

  before_subscribed : (k : ℕ) (i : Incoming) (l : List Event) → is_subscribed k (onto (before setup x i world) l) ≡ comes i k || is_subscribed k l
  before_subscribed k (TakesPacket from p) l = refl
  before_subscribed k (ClockReads t) l = refl
  before_subscribed k Reaps l = refl
  before_subscribed k (Posts c body) l = refl
  before_subscribed k (Subscribes n list start) l = refl
  before_subscribed k (Removes c) l = refl
  before_subscribed k (Informs c) l = refl

  pub subscribed_here : (k : ℕ) → is_subscribed k (onto events (own x h)) ≡ comes incoming k || is_subscribed k (own x h)
  subscribed_here k =
      let first = onto (before setup x incoming world) (own x h) in
      ap (is_subscribed k) (handled_onto setup is x incoming h world g (own x h))
      ∙ same_subscribed k (behind setup x incoming world) (onto (part x incoming world) first) (behind_all setup is x incoming h world g IsUnsubscribing (by_worker x) (λ to n a. tt))
      ∙ same_subscribed k (part x incoming world) first (part_all setup is x incoming h world g IsUnsubscribing (by_owner x) (λ to n a. tt))
      ∙ before_subscribed k incoming (own x h)

  -- who isn't subscribed at the worker after the step wasn't before it, and doesn't come
  pub unsubscribed_here : (k : ℕ) → is_subscribed k (own x (onto events h)) ≡ false → (is_subscribed k (own x h) ≡ false) × (comes incoming k ≡ false)
  unsubscribed_here k e = neither (comes incoming k) (is_subscribed k (own x h)) (sym (subscribed_here k) ∙ ap (is_subscribed k) (sym (here x refl)) ∙ e)
    where
      here : (z : ℕ) → z ≡ x → own z (onto events h) ≡ onto events (own z h)
      here z is_x = own_handled setup is x incoming h world g z ∙ ap (λ b. cond b (onto events (own z h)) (own z h)) (same z is_x)
        where
          same : (y : ℕ) → y ≡ x → (y == x) ≡ true
          same y e = ap (λ n. n == x) e ∙ eqb_self x

  pub unsubscribed_there : (k o : ℕ) → (o == x) ≡ false → is_subscribed k (own o (onto events h)) ≡ false → is_subscribed k (own o h) ≡ false
  unsubscribed_there k o other e = ap (λ b. is_subscribed k (cond b (onto events (own o h)) (own o h))) (sym other) ∙ ap (is_subscribed k) (sym (own_handled setup is x incoming h world g o)) ∙ e
