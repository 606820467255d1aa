-- A worker's own step keeps what is so of its places.
use Rattle.std.proofs.Common.{◌≡◌, ℕ, ◌≤◌, true, false, List, [], ◌∷◌, ◌++◌, Option, Some, None, refl, sym, subst, arith, filter}
use Rattle.std.specs.List.{AllByRecursion}
use Rattle.nc_types.specs.Id.{Id}
use Rattle.nc_types.specs.Channel.{owner_of}
use Rattle.nc_types.specs.declared.info.Info.{Info}
use Rattle.nc_journal.specs.History.{own, onto}
use Rattle.nc_journal.specs.declared.event.Event.{Event}
use Rattle.nc_journal.specs.declared.event.Event.TheVariants.{Took, Subscribed}
use Rattle.nc_journal.specs.declared.word.AlertKind.TheVariants as kinds
use Rattle.nc_journal.specs.declared.word.ModeLine.TheVariants.{Direct}
use Rattle.nc_journal.specs.declared.word.EndedCause.TheVariants.{Answered}
use Rattle.nc_journal.specs.declared.alert.AlertLine.{AlertLine}
use Rattle.nc_journal.specs.declared.alert.AlertLine.TheVariants as lines
use Rattle.nc_owner_laws.specs.Used.{times}
use Rattle.nc_spool.specs.declared.spools.Found.{Found}
use Rattle.nc_spool.specs.Calls.{SpoolsAt, board_of, arrive_after, answer_after, notice_after, edge_facts, edge_after, gone_after}
use Rattle.nc_spool_state.specs.Kept.{is_idle}
use Rattle.nc_spool_laws.specs.Knowing.{IsKnowing}
use Rattle.nc_spool_laws.proofs.Knowledge.{knowing-kept}
use Rattle.nc_spool_laws.proofs.Lists.{all-changed}
use Rattle.nc_spool_members.specs.Singly.{StandSingly}
use Rattle.nc_spool_members.proofs.Singles.{keep-singly}
use Rattle.nc_history.specs.Packets.{packet, kind_of, IsNext}
use Rattle.nc_worker_state.specs.Setup.{Setup}
use Rattle.nc_worker_state.specs.Incoming.{Incoming, TakesPacket, ClockReads, Reaps, Posts, Subscribes, Removes, Informs}
use Rattle.nc_worker_state.specs.Deed.{Deed, told}
use Rattle.nc_worker_state.specs.Desk.{replied}
use Rattle.nc_worker_state.specs.Spooled.{Hold, answers, arrives, edges, notices, loses, found_by, found_in, releases}
use Rattle.nc_world.specs.World.{World, handled_events}
use Rattle.nc_world.specs.Reached.{IsSetup}
use Rattle.nc_world_laws.specs.Good.{Good, IsLineTo}
use Rattle.nc_world_laws.proofs.Parts.{serves, rest, rest_untaken}
use Rattle.nc_world_holds.specs.Balance.{IsWholeAnswer, IsWholeLine}
use Rattle.nc_rests.specs.Asking.{ask_numbers, AsksWell}
use Rattle.nc_rests.specs.Keeping.{is_signal}
use Rattle.nc_world_told.specs.Written.{written}
use Rattle.nc_world_told.specs.Known.{PlacesHold}
use Rattle.nc_world_told.proofs.Written.{written_is, place_written}
use Rattle.nc_world_calls.specs.Answering.{answer_of}
use Rattle.nc_world_calls.proofs.Knowing.{Was, Rested, Came, knows_of, holds_of, all_were, answer_knows}
use Rattle.nc_world_calls.proofs.NoticeKnowing.{notice_knows}
use Rattle.nc_world_calls.proofs.LossKnowing.{loss_knows}
use Rattle.nc_world_calls.proofs.ArrivalKnowing.{arrival_knows}
use Rattle.nc_world_places.specs.Notices.{IsNoticeOf}
use Rattle.nc_world_places.specs.Places.{OwnersTell}
use Rattle.nc_world_places.proofs.Framing.{shelf_onto, shelf_untaken, shelf_takes, shelf_releases, same_releases}
use Rattle.nc_world_places.proofs.Shaping.{IsShaped, replied_shelf}

-- the answer to an edge keeps what is so of places
edge_knows : (workers me number floor : ℕ) (last : Id) (next : ℕ → ℕ) (s : SpoolsAt Hold) (h : List Event) → AllByRecursion (PlacesHold workers me h) s.shelf
    → AllByRecursion (PlacesHold workers me (onto (told me next (edges me number floor last s).deeds) h)) (edge_after number floor last s).shelf
edge_knows workers me number floor last next s h holds =
    subst (λ (l : List Event). AllByRecursion (PlacesHold workers me l) (edge_after number floor last s).shelf) (written_is me Answered next (edge_facts number floor last s) h) at_end
  where
    at_end : AllByRecursion (PlacesHold workers me (written me Answered next (edge_facts number floor last s) h)) (edge_after number floor last s).shelf
    at_end =
        let l : List Event = written me Answered next (edge_facts number floor last s) h in
        all-changed (IsKnowing (Was workers me l) (Rested workers me l) (Came workers me l)) (PlacesHold workers me l) (edge_after number floor last s).shelf (λ x f j lt. holds_of workers me l _ _ _ (f j lt))
        ((knowing-kept (Was workers me l) (Rested workers me l) (Came workers me l)).edge_answer number floor last (board_of s) tt
        (λ w. all-changed (PlacesHold workers me h) (IsKnowing (Was workers me l) (Rested workers me l) (Came workers me l)) s.shelf
        (λ x f j lt. knows_of workers me l _ _ _ (place_written workers me _ _ _ me Answered next (edge_facts number floor last s) h (f j lt))) holds)
        (all_were workers me Answered (Rested workers me l) (Came workers me l) next (edge_facts number floor last s) h))

module _ (setup : Setup) (is : IsSetup setup) (x : ℕ) (h : List Event) (world : World) (g : Good setup h world)
    (tell : OwnersTell setup.workers h) (asks : AsksWell x h) (singly : StandSingly (world.workers x).desk.spools) (shaped : IsShaped (world.workers x).desk.spools.shelf)
    (holds : AllByRecursion (PlacesHold setup.workers x h) (world.workers x).desk.spools.shelf) where
  abbrev pub After : Incoming → Type 0
  After incoming = AllByRecursion (PlacesHold setup.workers x (onto (handled_events setup x incoming world) h)) (serves setup x incoming world).after.spools.shelf

  abbrev next : ℕ → ℕ
  next = (world.workers x).next

  -- the answer to a look
  module _ (from n number q floor : ℕ) where
    abbrev deeds : Option (Found Hold) → List Deed
    deeds found = (answers x number q floor found (world.workers x).desk.spools).deeds ++ releases x (answer_after number q floor found (world.workers x).desk.spools)

    abbrev ended : Option (Found Hold) → List Event
    ended found = onto (told x (world.workers x).next (deeds found)) (Took x from n kinds.LookAnswer ∷ h)

    answer_found : (found : Option (Found Hold)) (g slot : Option ℕ) → IsNext from x (answer_of number q floor found g slot) h → times number (ask_numbers (own x (ended found))) ≤ 1
        → AllByRecursion (PlacesHold setup.workers x (ended found)) (answer_after number q floor found (world.workers x).desk.spools).shelf
    answer_found found g slot first once =
        let s = (world.workers x).desk.spools in
        let new = answer_after number q floor found (world.workers x).desk.spools in
        let same = same_releases number x x (world.workers x).next (answers x number q floor found (world.workers x).desk.spools).deeds (filter (is_idle (answer_after number q floor found (world.workers x).desk.spools).shelf) (answer_after number q floor found (world.workers x).desk.spools).kept) (Took x from n kinds.LookAnswer ∷ h) in
        shelf_releases setup.workers x (world.workers x).next (answers x number q floor found s).deeds (filter (is_idle new.shelf) new.kept) (Took x from n kinds.LookAnswer ∷ h) new.shelf
        (answer_knows setup.workers x from n number q floor kinds.LookAnswer found g slot (world.workers x).next h s tell.owners tell.answers asks first (omega (arith, same, once)) holds)

    answer_line : (past : Option Id) (g slot : Option ℕ) → IsWholeAnswer past g slot → IsNext from x (lines.LookAnswer number q floor past g slot) h → times number (ask_numbers (own x (ended (found_in from past g slot)))) ≤ 1
        → AllByRecursion (PlacesHold setup.workers x (ended (found_in from past g slot))) (answer_after number q floor (found_in from past g slot) (world.workers x).desk.spools).shelf
    answer_line (Some id) (Some g) (Some slot) whole first once = answer_found (Some (found_by from id g slot)) (Some g) (Some slot) first once
    answer_line None None None whole first once = answer_found None None None first once
    answer_line (Some id) (Some g) None whole first once = absurd whole
    answer_line (Some id) None (Some slot) whole first once = absurd whole
    answer_line (Some id) None None whole first once = absurd whole
    answer_line None (Some g) (Some slot) whole first once = absurd whole
    answer_line None (Some g) None whole first once = absurd whole
    answer_line None None (Some slot) whole first once = absurd whole

  -- a notice
  notice_line : (from n : ℕ) (c : List ℕ) (id : Id) (g slot : ℕ) → owner_of setup.workers c ≡ from → IsNext from x (lines.Notice c id g slot) h → After (TakesPacket from (packet n (lines.Notice c id g slot)))
  notice_line from n c id g slot own first = subst (λ (v : ℕ). IsNext v x (lines.Notice c id g slot) h → After (TakesPacket v (packet n (lines.Notice c id g slot)))) own at first
    where
      at : IsNext (owner_of setup.workers c) x (lines.Notice c id g slot) h → After (TakesPacket (owner_of setup.workers c) (packet n (lines.Notice c id g slot)))
      at now =
          let s = (world.workers x).desk.spools in
          let found = found_by (owner_of setup.workers c) id g slot in
          let new = notice_after c (found_by (owner_of setup.workers c) id g slot) (world.workers x).desk.spools in
          shelf_releases setup.workers x (world.workers x).next (notices x c found s).deeds (filter (is_idle new.shelf) new.kept) (Took x (owner_of setup.workers c) n kinds.Notice ∷ h) new.shelf
          (notice_knows setup.workers x n c found g slot kinds.Notice (world.workers x).next h s (tell.tells (owner_of setup.workers c)) now shaped.order shaped.whole ((keep-singly Hold s singly).notice c found).fit.0 holds)

  -- a channel is gone
  loss_line : (from n : ℕ) (c subs : List ℕ) → owner_of setup.workers c ≡ from → IsNext from x (lines.Gone c subs) h → After (TakesPacket from (packet n (lines.Gone c subs)))
  loss_line from n c subs own first = subst (λ (v : ℕ). IsNext v x (lines.Gone c subs) h → After (TakesPacket v (packet n (lines.Gone c subs)))) own at first
    where
      at : IsNext (owner_of setup.workers c) x (lines.Gone c subs) h → After (TakesPacket (owner_of setup.workers c) (packet n (lines.Gone c subs)))
      at now =
          let s = (world.workers x).desk.spools in
          let new = gone_after c subs (world.workers x).desk.spools in
          shelf_releases setup.workers x (world.workers x).next (loses x c subs s).deeds (filter (is_idle new.shelf) new.kept) (Took x (owner_of setup.workers c) n kinds.Gone ∷ h) new.shelf
          (loss_knows setup.workers x n c subs kinds.Gone (world.workers x).next h s now shaped.order shaped.whole ((keep-singly Hold s singly).removal c subs).fit.0 holds)

  -- an alert with which nothing is called
  plain_line : (from n : ℕ) (line : AlertLine) → IsNext from x line h → ((c : List ℕ) → is_signal c line ≡ false)
      → AllByRecursion (PlacesHold setup.workers x (onto (handled_events setup x (TakesPacket from (packet n line)) world) h)) (world.workers x).desk.spools.shelf
  plain_line from n line first quiet =
      shelf_untaken setup.workers x (rest setup x (TakesPacket from (packet n line)) world) (Took x from n (kind_of line) ∷ h) (world.workers x).desk.spools.shelf (rest_untaken setup is x (TakesPacket from (packet n line)) h world g)
      (shelf_takes setup.workers x from n (kind_of line) line h first quiet (world.workers x).desk.spools.shelf holds)

  -- an answer to a request
  reply_line : (from n : ℕ) (line : AlertLine) (r status : ℕ) (info : Option Info) → IsNext from x line h → ((c : List ℕ) → is_signal c line ≡ false)
      → AllByRecursion (PlacesHold setup.workers x (onto (handled_events setup x (TakesPacket from (packet n line)) world) h)) (replied x r status info (world.workers x).desk).after.spools.shelf
  reply_line from n line r status info first quiet =
      subst (AllByRecursion (PlacesHold setup.workers x (onto (handled_events setup x (TakesPacket from (packet n line)) world) h))) (sym (replied_shelf x r status info (world.workers x).desk)) (plain_line from n line first quiet)

  by_line : (from n : ℕ) (line : AlertLine) → IsNext from x line h → IsLineTo setup.workers from x line → IsWholeLine line → IsNoticeOf setup.workers from line
      → AsksWell x (onto (handled_events setup x (TakesPacket from (packet n line)) world) h) → After (TakesPacket from (packet n line))
  by_line from n (lines.LookAnswer number q floor past g slot) first right whole noticed new = answer_line from n number q floor past g slot whole first (new.once number)
  by_line from n (lines.Notice c id g slot) first right whole noticed new = notice_line from n c id g slot noticed first
  by_line from n (lines.EdgeAnswer number q floor last) first right whole noticed new =
      let s = (world.workers x).desk.spools in
      let after = edge_after number floor last (world.workers x).desk.spools in
      shelf_releases setup.workers x (world.workers x).next (edges x number floor last s).deeds (filter (is_idle after.shelf) after.kept) (Took x from n kinds.EdgeAnswer ∷ h) after.shelf
      (edge_knows setup.workers x number floor last (world.workers x).next s (Took x from n kinds.EdgeAnswer ∷ h)
      (shelf_takes setup.workers x from n kinds.EdgeAnswer (lines.EdgeAnswer number q floor last) h first (λ c. refl) s.shelf holds))
  by_line from n (lines.Gone c subs) first right whole noticed new = loss_line from n c subs right first
  by_line from n (lines.PubAnswer r status info full) first right whole noticed new = reply_line from n (lines.PubAnswer r status info full) r status info first (λ c. refl)
  by_line from n (lines.InfoAnswer r status info) first right whole noticed new = reply_line from n (lines.InfoAnswer r status info) r status info first (λ c. refl)
  by_line from n (lines.DelAnswer r status info) first right whole noticed new = reply_line from n (lines.DelAnswer r status info) r status info first (λ c. refl)
  by_line from n (lines.Publish r c len timeout ct body) first right whole noticed new = plain_line from n (lines.Publish r c len timeout ct body) first (λ d. refl)
  by_line from n (lines.Look number c after fence) first right whole noticed new = plain_line from n (lines.Look number c after fence) first (λ d. refl)
  by_line from n (lines.Edge number k c fence) first right whole noticed new = plain_line from n (lines.Edge number k c fence) first (λ d. refl)
  by_line from n (lines.Join c k) first right whole noticed new = plain_line from n (lines.Join c k) first (λ d. refl)
  by_line from n (lines.Part c k) first right whole noticed new = plain_line from n (lines.Part c k) first (λ d. refl)
  by_line from n (lines.Delete r c) first right whole noticed new = plain_line from n (lines.Delete r c) first (λ d. refl)
  by_line from n (lines.Info r c) first right whole noticed new = plain_line from n (lines.Info r c) first (λ d. refl)

  -- what comes is what is next, whole, and of its sender's channels
  abbrev pub Comes : Incoming → Type 0
  Comes (TakesPacket from p) = IsNext from x p.line h × IsLineTo setup.workers from x p.line × IsWholeLine p.line × IsNoticeOf setup.workers from p.line
  Comes incoming = Unit {0}

  pub own_places : (incoming : Incoming) → Comes incoming → AsksWell x (onto (handled_events setup x incoming world) h) → After incoming
  own_places (TakesPacket from p) comes new = by_line from p.number p.line comes.0 comes.1 comes.2 comes.3 new
  own_places (ClockReads t) comes new = shelf_untaken setup.workers x (handled_events setup x (ClockReads t) world) h (world.workers x).desk.spools.shelf (tt, rest_untaken setup is x (ClockReads t) h world g) holds
  own_places Reaps comes new = shelf_untaken setup.workers x (handled_events setup x Reaps world) h (world.workers x).desk.spools.shelf (rest_untaken setup is x Reaps h world g) holds
  own_places (Posts c body) comes new = shelf_untaken setup.workers x (handled_events setup x (Posts c body) world) h (world.workers x).desk.spools.shelf (tt, rest_untaken setup is x (Posts c body) h world g) holds
  own_places (Removes c) comes new = shelf_untaken setup.workers x (handled_events setup x (Removes c) world) h (world.workers x).desk.spools.shelf (tt, rest_untaken setup is x (Removes c) h world g) holds
  own_places (Informs c) comes new = shelf_untaken setup.workers x (handled_events setup x (Informs c) world) h (world.workers x).desk.spools.shelf (tt, rest_untaken setup is x (Informs c) h world g) holds
  own_places (Subscribes k list start) comes new =
      let s = (world.workers x).desk.spools in
      let after = arrive_after k list start true (world.workers x).desk.spools in
      let opened = Subscribed x k None list Direct start setup.sub_timeout false in
      shelf_releases setup.workers x (world.workers x).next (arrives x k list start true s).deeds (filter (is_idle after.shelf) after.kept) (opened ∷ h) after.shelf
      (arrival_knows setup.workers x (world.workers x).next k list start true s (opened ∷ h) (shelf_onto setup.workers x (opened ∷ []) h s.shelf ((λ o. refl), tt) holds))
