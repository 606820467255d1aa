-- Each notice is made by the owner of its channel.
use Rattle.std.proofs.Common.{◌≡◌, ℕ, ◌+◌, Bool, true, false, cond, List, [], ◌∷◌, Option, Some, None, refl, sym, subst}
use Rattle.std.specs.Prelude.{◌==◌}
use Rattle.std.specs.List.{AllByRecursion}
use Rattle.nc_types.specs.Id.{Id}
use Rattle.nc_types.specs.Channel.{owner_of}
use Rattle.nc_types.specs.declared.info.Info.{Info}
use Rattle.nc_journal.specs.History.{own, onto}
use Rattle.nc_journal.specs.declared.event.Event.{Event}
use Rattle.nc_journal.specs.declared.event.Event.TheVariants.{Made}
use Rattle.nc_journal.specs.declared.alert.AlertLine.{AlertLine}
use Rattle.nc_journal.specs.declared.alert.AlertLine.TheVariants as lines
use Rattle.nc_buffer.specs.declared.entry.Entry.{Entry}
use Rattle.nc_owner.specs.declared.desk.Desk.{Desk as OwnerDesk}
use Rattle.nc_owner.specs.declared.order.Order.{Order}
use Rattle.nc_owner.specs.AlertLines.{OutLine}
use Rattle.nc_owner.specs.State.{Bench, exists}
use Rattle.nc_owner.specs.Publish.{Polls, Outcome, late, stored, full as is_all, notices, answer, stamp, stored_status, store_bench, asked, roomy, lowest_slot, post_alerts, publish_outcome, publish_cleared, info_of}
use Rattle.nc_owner.specs.Look.{found_on, found_line, look_ready}
use Rattle.nc_owner.specs.OtherSteps.{touched_of}
use Rattle.nc_owner_laws.proofs.Sweeping.{deletion_told}
use Rattle.nc_worker_state.specs.Setup.{Setup}
use Rattle.nc_worker_state.specs.Incoming.{Incoming, TakesPacket, ClockReads, Reaps, Posts, Subscribes, Removes, Informs}
use Rattle.nc_worker_state.specs.Owned.{Holding, fenced, owned_by, order_of}
use Rattle.nc_worker_state.specs.Worker.{holding}
use Rattle.nc_worker_state.specs.Deed.{next_after}
use Rattle.nc_world.specs.World.{World, seat, polls_of, handled_events}
use Rattle.nc_world.specs.Reached.{IsSetup, IsInput}
use Rattle.nc_world_laws.specs.Good.{Good, IsLineTo}
use Rattle.nc_world_laws.proofs.WorkerKinds.{IsUnmade, AsksOwner}
use Rattle.nc_world_laws.proofs.WorldTheme.{IsWorldTheme}
use Rattle.nc_world_laws.proofs.Local.{all_append, eq_of}
use Rattle.nc_world_laws.proofs.Frames.{own_step, handled_onto}
use Rattle.nc_world_laws.proofs.Moving.{taken_right}
use Rattle.nc_world_laws.proofs.Parts.{serves, before, part, behind, well, part_alerts, part_made, step_by}
use Rattle.nc_world_laws.proofs.Telling.{told_made, deeds_do, deeds_make, unmade_owner, unmade_worker}
use Rattle.nc_world_laws.proofs.WorldThemes.{world_theme_holds}
use Rattle.nc_world_places.specs.Notices.{IsNoticeOf, MakesNoticeOf, OwnersNotice, ReachedOwnersNotice}

-- what comes to an owner is of its channels
abbrev pub ComesRight : ℕ → ℕ → Incoming → Type 0
ComesRight workers x (TakesPacket from p) = IsLineTo workers from x p.line
ComesRight workers x incoming = Unit {0}

module _ (workers x : ℕ) where
  abbrev AreNotices : List OutLine → Type 0
  AreNotices alerts = AllByRecursion (λ (a : OutLine). IsNoticeOf workers x a.line) alerts

  notice_notices : (c : List ℕ) (id : Id) (slot g : ℕ) (marks : List ℕ) → owner_of workers c ≡ x → AreNotices (notices c id slot g marks)
  notice_notices c id slot g [] own = tt
  notice_notices c id slot g (to ∷ marks) own = (own, notice_notices c id slot (g + 1) marks own)

  notice_post : (y : Outcome) (from : ℕ) (o : Order) (polls : Polls) (b : Bench) → owner_of workers o.chan ≡ x → AreNotices (post_alerts y from o polls b)
  notice_post late from o polls b own = (tt, tt)
  notice_post (is_all usage) from o polls b own = (tt, tt)
  notice_post stored from o polls b own =
      let c = asked polls.leaving b in
      let r = roomy o.length polls.left c in
      all_append (λ (a : OutLine). IsNoticeOf workers x a.line) (notices o.chan (stamp c) (lowest_slot r.row) c.desk.grants c.channel.marks)
      (answer from o.r (stored_status c.channel) (Some (info_of (store_bench o polls.left c).channel)) None ∷ [])
      (notice_notices o.chan (stamp c) (lowest_slot r.row) c.desk.grants c.channel.marks own) (tt, tt)

  notice_found : (from number : ℕ) (e : Option Entry) (d : OwnerDesk) → IsNoticeOf workers x (found_line from number e d).line
  notice_found from number None d = tt
  notice_found from number (Some e) d = tt

  notice_info : (r : ℕ) (b : Bool) (info : Option Info) → IsNoticeOf workers x (cond b (lines.InfoAnswer r 200 info) (lines.InfoAnswer r 404 None))
  notice_info r true info = tt
  notice_info r false info = tt

  notice_line : (polls : Polls) (from : ℕ) (line : AlertLine) (s : Holding) → IsLineTo workers from x line → AreNotices (owned_by polls from line s).alerts
  notice_line polls from (lines.Publish r c len timeout ct body) s right = let o = order_of r c len timeout ct body in notice_post (publish_outcome o polls s.row s.owner) from o polls (publish_cleared o polls s.row s.owner) right.0
  notice_line polls from (lines.Look number c after fence) s right = let b = look_ready c s.row (fenced fence s).owner in (notice_found from number (found_on after b) b.desk, tt)
  notice_line polls from (lines.Info r c) s right = (notice_info r (exists c s.owner) (Some (info_of (touched_of c s.row s.owner).channel)), tt)
  notice_line polls from (lines.Join c k) s right = tt
  notice_line polls from (lines.Part c k) s right = tt
  notice_line polls from (lines.PubAnswer r status info full) s right = tt
  notice_line polls from (lines.LookAnswer number q floor found g slot) s right = tt
  notice_line polls from (lines.Notice c id g slot) s right = tt
  notice_line polls from (lines.Edge number k c fence) s right = (tt, tt)
  notice_line polls from (lines.EdgeAnswer number q floor last) s right = tt
  notice_line polls from (lines.Delete r c) s right = deletion_told (λ (a : OutLine). IsNoticeOf workers x a.line) c (λ ms w. tt) from r s.row s.owner (λ status info is. tt)
  notice_line polls from (lines.DelAnswer r status info) s right = tt
  notice_line polls from (lines.Gone c subs) s right = tt
  notice_line polls from (lines.InfoAnswer r status info) s right = tt

  unmade_notice : (e : Event) → IsUnmade e → MakesNoticeOf workers x e
  unmade_notice (Made v to n a) p = absurd p
  unmade_notice e p = tt

  asks_notice : (to : ℕ) (a : AlertLine) → AsksOwner workers to a → IsNoticeOf workers x a
  asks_notice to (lines.Notice c id g slot) asks = absurd asks
  asks_notice to (lines.Publish r c len timeout ct body) asks = tt
  asks_notice to (lines.PubAnswer r status info full) asks = tt
  asks_notice to (lines.Look number c after fence) asks = tt
  asks_notice to (lines.LookAnswer number q floor found g slot) asks = tt
  asks_notice to (lines.Edge number k c fence) asks = tt
  asks_notice to (lines.EdgeAnswer number q floor last) asks = tt
  asks_notice to (lines.Join c k) asks = tt
  asks_notice to (lines.Part c k) asks = tt
  asks_notice to (lines.Delete r c) asks = tt
  asks_notice to (lines.DelAnswer r status info) asks = tt
  asks_notice to (lines.Gone c subs) asks = tt
  asks_notice to (lines.Info r c) asks = tt
  asks_notice to (lines.InfoAnswer r status info) asks = tt

-- events put on a history
all_onto : (P : Event → Type 0) (es h : List Event) → AllByRecursion P es → AllByRecursion P h → AllByRecursion P (onto es h)
all_onto P [] h a b = b
all_onto P (e ∷ es) h a b = all_onto P es (e ∷ h) a.1 (a.0, b)

module _ (setup : Setup) (is : IsSetup setup) (x : ℕ) (incoming : Incoming) (h : List Event) (world : World) (g : Good setup h world) (right : ComesRight setup.workers x incoming) where
  opening_notice : AllByRecursion (MakesNoticeOf setup.workers x) (before setup x incoming world)
  opening_notice = by incoming
    where
      by : (i : Incoming) → AllByRecursion (MakesNoticeOf setup.workers x) (before setup x i world)
      by (TakesPacket from p) = (tt, tt)
      by (ClockReads t) = (tt, tt)
      by Reaps = tt
      by (Posts c body) = (tt, tt)
      by (Subscribes k list start) = (tt, tt)
      by (Removes c) = (tt, tt)
      by (Informs c) = (tt, tt)

  step_notice : (l : List Event) → AllByRecursion (MakesNoticeOf setup.workers x) l → AllByRecursion (MakesNoticeOf setup.workers x) (onto (handled_events setup x incoming world) l)
  step_notice l k =
      subst (AllByRecursion (MakesNoticeOf setup.workers x)) (sym (handled_onto setup is x incoming h world g l))
      (all_onto (MakesNoticeOf setup.workers x) (behind setup x incoming world) _
      (told_made (MakesNoticeOf setup.workers x) (AsksOwner setup.workers) x (next_after (world.workers x).next (part x incoming world)) (λ to n a asks. asks_notice setup.workers x to a asks) (serves setup x incoming world).deeds
      (deeds_do setup.workers x (MakesNoticeOf setup.workers x) (λ e p. unmade_notice setup.workers x e (unmade_worker x e p)) (serves setup x incoming world).deeds (well setup is x incoming h world g))
      (deeds_make setup.workers x (serves setup x incoming world).deeds (well setup is x incoming h world g)))
      (all_onto (MakesNoticeOf setup.workers x) (part x incoming world) _
      (part_made setup is x incoming h world g (MakesNoticeOf setup.workers x) (λ (a : OutLine). IsNoticeOf setup.workers x a.line) (λ e p. unmade_notice setup.workers x e (unmade_owner x e p)) (λ n a p. p)
      (part_alerts setup is x incoming h world g (λ (a : OutLine). IsNoticeOf setup.workers x a.line)
      (λ from p e. notice_line setup.workers x (polls_of x incoming world).publish from p.line (holding x (seat x world)) (subst (ComesRight setup.workers x) e right)) (λ c subs to mine. tt)))
      (all_onto (MakesNoticeOf setup.workers x) (before setup x incoming world) l opening_notice k)))

  handled_notice : ((v : ℕ) → AllByRecursion (MakesNoticeOf setup.workers v) (own v h)) → (v : ℕ) → AllByRecursion (MakesNoticeOf setup.workers v) (own v (onto (handled_events setup x incoming world) h))
  handled_notice k v = subst (AllByRecursion (MakesNoticeOf setup.workers v)) (sym (own_step v x (handled_events setup x incoming world) h (step_by setup is x incoming h world g))) (by (v == x) refl)
    where
      same : (z : ℕ) → z ≡ x → AllByRecursion (MakesNoticeOf setup.workers z) (onto (handled_events setup x incoming world) (own z h))
      same z e = subst (λ (y : ℕ). AllByRecursion (MakesNoticeOf setup.workers y) (onto (handled_events setup x incoming world) (own y h))) (sym e) (step_notice (own x h) (k x))

      by : (b : Bool) → (v == x) ≡ b → AllByRecursion (MakesNoticeOf setup.workers v) (cond b (onto (handled_events setup x incoming world) (own v h)) (own v h))
      by true e = same v (eq_of v x e)
      by false e = k v

input_right : (workers x : ℕ) (incoming : Incoming) (h : List Event) → IsInput x h incoming → ComesRight workers x incoming
input_right workers x (TakesPacket from p) h i = absurd i
input_right workers x (ClockReads t) h i = tt
input_right workers x Reaps h i = tt
input_right workers x (Posts c body) h i = tt
input_right workers x (Subscribes k list start) h i = tt
input_right workers x (Removes c) h i = tt
input_right workers x (Informs c) h i = tt

notice_theme : (setup : Setup) → IsSetup setup → IsWorldTheme setup (OwnersNotice setup.workers)
notice_theme setup is = record {
  new = λ v. tt;
  handles = λ w incoming h world r g here i k. handled_notice setup is w incoming h world g (input_right setup.workers w incoming h i) k;
  takes = λ w v p ps h world r g here there at k. handled_notice setup is w (TakesPacket v p) h world g (taken_right setup w v p ps h world g at) k;
  carries = λ w v p ps h world r g here there at k. k;
  pending = λ n h world r g same k. k;
  quiet = λ h world r g same k. k;
}

pub reached_owners_notice : ReachedOwnersNotice
reached_owners_notice setup h world is r = world_theme_holds setup (OwnersNotice setup.workers) is (notice_theme setup is) h world r
