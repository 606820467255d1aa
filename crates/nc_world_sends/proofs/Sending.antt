-- Each step of a worker sends and starts lawfully.
use Rattle.std.proofs.Common.{◌≡◌, ℕ, suc, ◌≤◌, Bool, true, false, cond, List, [], ◌∷◌, Option, Some, None, sym, ap, ◌∙◌, subst, arith, filter}
use Rattle.std.specs.List.{AllByRecursion}
use Rattle.nc_types.specs.Id.{Id}
use Rattle.nc_types.specs.Channel.{owner_of}
use Rattle.nc_types.specs.declared.info.Info.{Info}
use Rattle.nc_types.specs.declared.start.Start.{Start}
use Rattle.nc_journal.specs.History.{own, onto, Along}
use Rattle.nc_journal.specs.Standing.{Starting, stage_of}
use Rattle.nc_journal.specs.declared.event.Event.{Event}
use Rattle.nc_journal.specs.declared.event.Event.TheVariants.{Took, Subscribed, Started, Sent, Released, Pending, Quiet}
use Rattle.nc_journal.specs.declared.event.Event.TheVariants as events
use Rattle.nc_journal.specs.declared.word.AlertKind.TheVariants as kinds
use Rattle.nc_journal.specs.declared.word.ModeLine.TheVariants.{Direct}
use Rattle.nc_journal.specs.declared.word.EndedCause.TheVariants.{Answered, Deleted}
use Rattle.nc_journal.specs.declared.alert.AlertLine.{AlertLine}
use Rattle.nc_journal.specs.declared.alert.AlertLine.TheVariants as lines
use Rattle.nc_owner_laws.specs.Kinds.{IsOfOwner}
use Rattle.nc_spool_state.specs.Spool.{SpoolAt}
use Rattle.nc_spool_state.specs.Kept.{is_idle}
use Rattle.nc_spool.specs.declared.spools.Found.{Found}
use Rattle.nc_spool.specs.Calls.{SpoolsAt, board_of, news_of, answer_facts, notice_facts, gone_facts}
use Rattle.nc_spool_laws.specs.Numbers.{total}
use Rattle.nc_spool_laws.specs.Tally.{readers_of, StandOnce}
use Rattle.nc_history.specs.Packets.{packet, IsNext}
use Rattle.nc_worker_state.specs.Setup.{Setup}
use Rattle.nc_worker_state.specs.Incoming.{Incoming, TakesPacket, ClockReads, Reaps, Posts, Subscribes, Removes, Informs}
use Rattle.nc_worker_state.specs.Deed.{Does, told, next_after}
use Rattle.nc_worker_state.specs.Desk.{Served, unserved, is_waiting, without, replied, handled as answered, begun}
use Rattle.nc_worker_state.specs.Spooled.{Hold, found_by, found_in, answers, edges, notices, loses}
use Rattle.nc_world.specs.World.{World, handled_events}
use Rattle.nc_world.specs.Reached.{IsSetup, IsInput, Reached}
use Rattle.nc_world_laws.specs.Good.{Good, IsLineTo}
use Rattle.nc_world_laws.proofs.WorldTheme.{IsWorldTheme}
use Rattle.nc_world_laws.proofs.Local.{either, eqb_self, own_one}
use Rattle.nc_world_laws.proofs.Frames.{handled_onto, IsStageless}
use Rattle.nc_world_laws.proofs.Moving.{taken_right}
use Rattle.nc_world_laws.proofs.Parts.{before, part, part_all}
use Rattle.nc_world_laws.proofs.Taking.{first_pending}
use Rattle.nc_world_laws.proofs.WorldThemes.{world_theme_holds}
use Rattle.nc_world_holds.specs.Balance.{IsWholeAnswer, IsWholeLine, AreWhole}
use Rattle.nc_world_holds.proofs.Holding.{reached_holds}
use Rattle.nc_world_members.proofs.Moving.{reached_has_members}
use Rattle.nc_world_members.proofs.Staging.{spools_stand}
use Rattle.nc_world_standing.proofs.Plain.{plain_stage}
use Rattle.nc_world_standing.proofs.Stepping.{histories_stand}
use Rattle.nc_rests.proofs.Received.{of_next}
use Rattle.nc_sends.specs.GoodSends.{IsGoodSend}
use Rattle.nc_starts.specs.Starts.{StartedThen}
use Rattle.nc_exact.proofs.Promises.{carried_promises}
use Rattle.nc_world_told.specs.Readers.{AreOnce}
use Rattle.nc_world_told.proofs.Staying.{once_in}
use Rattle.nc_world_told.proofs.Written.{written_is}
use Rattle.nc_world_calls.specs.Answering.{SpoolsKnow, answer_of}
use Rattle.nc_world_calls.proofs.Answering.{answer_sends_well}
use Rattle.nc_world_calls.proofs.NoticeStep.{notice_sends_well}
use Rattle.nc_world_calls.proofs.Arriving.{arrival_sends_nothing}
use Rattle.nc_world_calls.proofs.Edging.{edge_sends_nothing}
use Rattle.nc_world_calls.proofs.Losing.{loss_sends_nothing}
use Rattle.nc_world_asks.proofs.Reaching.{ring_next, reached_ask_well}
use Rattle.nc_world_places.specs.Notices.{IsNoticeOf}
use Rattle.nc_world_places.proofs.Framing.{then_releases}
use Rattle.nc_world_places.proofs.Noticed.{reached_owners_notice}
use Rattle.nc_world_places.proofs.Reaching.{made_notices, reached_spools_know}
use Rattle.nc_world_places.proofs.Telling.{reached_owners_tell}
use Rattle.nc_world_begins.proofs.Laws.{answers_start}
use Rattle.nc_world_sends.specs.Sends.{SendsSo, HistoriesSendSo, HistoriesCarry, HistoriesPromise, HistoriesSendLawfully}
use Rattle.nc_world_sends.proofs.Startless.{answered_startless, noticed_startless, lost_startless, startless_appends}
use Rattle.nc_world_sends.proofs.Starting.{arrival_started}

-- ---- events that send and start nobody

abbrev IsPlain : Event → Type 0
IsPlain (Sent w k i c id cur looks) = ⊥
IsPlain (Started w k cur) = ⊥
IsPlain _ = Unit {0}

sent_plain : (workers : ℕ) (e : Event) (h : List Event) → IsPlain e → IsGoodSend workers h e
sent_plain workers (Sent w k i c id cur looks) h p = absurd p
sent_plain workers (Started w k cur) h p = absurd p
sent_plain workers e h p = record { sent = tt; fenced = tt; taken = tt }

started_plain : (workers : ℕ) (e : Event) (h : List Event) → IsPlain e → StartedThen workers h e
started_plain workers (Sent w k i c id cur looks) h p = absurd p
started_plain workers (Started w k cur) h p = absurd p
started_plain workers e h p = tt

plain_one : (workers : ℕ) (e : Event) (h : List Event) → IsPlain e → SendsSo workers h → SendsSo workers (e ∷ h)
plain_one workers e h p k = record { sent = (k.sent, sent_plain workers e h p); started = (k.started, started_plain workers e h p) }

plain_onto : (workers : ℕ) (es h : List Event) → AllByRecursion IsPlain es → SendsSo workers h → SendsSo workers (onto es h)
plain_onto workers [] h p k = k
plain_onto workers (e ∷ es) h p k = plain_onto workers es (e ∷ h) p.1 (plain_one workers e h p.0 k)

plain_owner : (w : ℕ) (e : Event) → IsOfOwner w e → IsPlain e
plain_owner w (Sent v k i c id cur looks) p = absurd p
plain_owner w (Started v k cur) p = absurd p
plain_owner w e p = tt

stageless_owner : (w : ℕ) (e : Event) → IsOfOwner w e → IsStageless e
stageless_owner w (Subscribed v k conn list mode start timeout close) p = absurd p
stageless_owner w (Started v k cur) p = absurd p
stageless_owner w (Sent v k i c id cur looks) p = absurd p
stageless_owner w (events.Ended v k cause) p = absurd p
stageless_owner w e p = tt

-- no subscriber stands twice in a spool
shelf_once : (shelf : List SpoolAt) → ((k : ℕ) → total (readers_of k) shelf ≤ 1) → AllByRecursion (λ s. AreOnce s.readers) shelf
shelf_once [] few = tt
shelf_once (s ∷ shelf) few = (once_in s.readers (λ k. let f = few k in omega (arith, f)), shelf_once shelf (λ k. let f = few k in omega (arith, f)))

-- what comes to a worker is as it counts on
abbrev Suits : Setup → ℕ → List Event → Incoming → Type 0
Suits setup w h (TakesPacket from p) = IsNext from w p.line h × IsLineTo setup.workers from w p.line × IsWholeLine p.line × IsNoticeOf setup.workers from p.line
Suits setup w h incoming = Unit {0}

input_suits : (setup : Setup) (w : ℕ) (h : List Event) (incoming : Incoming) → IsInput w h incoming → Suits setup w h incoming
input_suits setup w h (TakesPacket from p) i = absurd i
input_suits setup w h (ClockReads t) i = tt
input_suits setup w h Reaps i = tt
input_suits setup w h (Posts c body) i = tt
input_suits setup w h (Subscribes k list start) i = tt
input_suits setup w h (Removes c) i = tt
input_suits setup w h (Informs c) i = tt

module _ (setup : Setup) (is : IsSetup setup) (w : ℕ) (h : List Event) (world : World) (r : Reached setup h world) (g : Good setup h world) (k : SendsSo setup.workers h) where
  abbrev s : SpoolsAt Hold
  s = (world.workers w).desk.spools

  few : StandOnce (board_of (world.workers w).desk.spools)
  few = ((reached_has_members setup h world is r).singly w).once

  knows : SpoolsKnow setup.workers w h (world.workers w).desk.spools.shelf
  knows = record {
    knows = reached_spools_know setup h world is r w;
    stand = (spools_stand setup h world is r w).0;
    once = shelf_once (world.workers w).desk.spools.shelf (λ n. let f = few n in omega (arith, f));
  }

  -- the answer to a look
  module _ (next : ℕ → ℕ) (from n number q floor : ℕ) where
    answer_found : (found : Option (Found Hold)) (gr slot : Option ℕ) → IsNext from w (answer_of number q floor found gr slot) h
        → SendsSo setup.workers (onto (told w next (answers w number q floor found (world.workers w).desk.spools).deeds) (Took w from n kinds.LookAnswer ∷ h))
    answer_found found gr slot first =
        let tell = reached_owners_tell setup h world is r in
        let d = (world.workers w).desk in
        record {
          sent = answer_sends_well setup.workers w from n number q floor kinds.LookAnswer found gr slot next h d.spools tell.owners tell.answers (reached_ask_well setup h world is r w) first knows k.sent;
          started = subst (Along (StartedThen setup.workers)) (written_is w Answered next (answer_facts number q floor found d.spools) (Took w from n kinds.LookAnswer ∷ h))
              (startless_appends setup.workers w Answered next (Took w from n kinds.LookAnswer ∷ h) [] (answer_facts number q floor found d.spools) (answered_startless number _ _ (board_of d.spools)) (k.started, tt));
        }

    answer_line : (past : Option Id) (gr slot : Option ℕ) → IsWholeAnswer past gr slot → IsNext from w (lines.LookAnswer number q floor past gr slot) h
        → SendsSo setup.workers (onto (told w next (answers w number q floor (found_in from past gr slot) (world.workers w).desk.spools).deeds) (Took w from n kinds.LookAnswer ∷ h))
    answer_line (Some id) (Some gr) (Some slot) whole first = answer_found (Some (found_by from id gr slot)) (Some gr) (Some slot) first
    answer_line None None None whole first = answer_found None None None first
    answer_line (Some id) (Some gr) None whole first = absurd whole
    answer_line (Some id) None (Some slot) whole first = absurd whole
    answer_line (Some id) None None whole first = absurd whole
    answer_line None (Some gr) (Some slot) whole first = absurd whole
    answer_line None (Some gr) None whole first = absurd whole
    answer_line None None (Some slot) whole first = absurd whole

  -- a notice
  notice_line : (next : ℕ → ℕ) (from n : ℕ) (c : List ℕ) (id : Id) (gr slot : ℕ) → owner_of setup.workers c ≡ from → IsNext from w (lines.Notice c id gr slot) h
      → SendsSo setup.workers (onto (told w next (notices w c (found_by from id gr slot) (world.workers w).desk.spools).deeds) (Took w from n kinds.Notice ∷ h))
  notice_line next from n c id gr slot own first =
      subst (λ (v : ℕ). IsNext v w (lines.Notice c id gr slot) h → SendsSo setup.workers (onto (told w next (notices w c (found_by v id gr slot) (world.workers w).desk.spools).deeds) (Took w v n kinds.Notice ∷ h))) own at first
    where
      at : IsNext (owner_of setup.workers c) w (lines.Notice c id gr slot) h
          → SendsSo setup.workers (onto (told w next (notices w c (found_by (owner_of setup.workers c) id gr slot) (world.workers w).desk.spools).deeds) (Took w (owner_of setup.workers c) n kinds.Notice ∷ h))
      at now =
          let tell = reached_owners_tell setup h world is r in
          let d = (world.workers w).desk in
          let found = found_by (owner_of setup.workers c) id gr slot in
          record {
            sent = (notice_sends_well setup.workers w n c found gr slot kinds.Notice next h d.spools tell.owners (tell.tells (owner_of setup.workers c)) now few knows.knows knows.stand k.sent).0;
            started = subst (Along (StartedThen setup.workers)) (written_is w Answered next (notice_facts c found d.spools) (Took w (owner_of setup.workers c) n kinds.Notice ∷ h))
                (startless_appends setup.workers w Answered next (Took w (owner_of setup.workers c) n kinds.Notice ∷ h) [] (notice_facts c found d.spools) (noticed_startless c (news_of found) (board_of d.spools)) (k.started, tt));
          }

  -- the answer to an edge
  edge_line : (next : ℕ → ℕ) (from n number q floor : ℕ) (last : Id) → IsNext from w (lines.EdgeAnswer number q floor last) h
      → SendsSo setup.workers (onto (told w next (edges w number floor last (world.workers w).desk.spools).deeds) (Took w from n kinds.EdgeAnswer ∷ h))
  edge_line next from n number q floor last first = record {
    sent = edge_sends_nothing setup.workers w next number floor last (world.workers w).desk.spools (Took w from n kinds.EdgeAnswer ∷ h) (plain_one setup.workers (Took w from n kinds.EdgeAnswer) h tt k).sent;
    started = answers_start setup h world is r w from n number q floor last kinds.EdgeAnswer next first k.started;
  }

  -- a channel is gone
  gone_line : (next : ℕ → ℕ) (from n : ℕ) (c subs : List ℕ) → owner_of setup.workers c ≡ from
      → SendsSo setup.workers (onto (told w next (loses w c subs (world.workers w).desk.spools).deeds) (Took w from n kinds.Gone ∷ h))
  gone_line next from n c subs own =
      subst (λ (v : ℕ). SendsSo setup.workers (onto (told w next (loses w c subs (world.workers w).desk.spools).deeds) (Took w v n kinds.Gone ∷ h))) own (record {
        sent = loss_sends_nothing setup.workers w n c subs kinds.Gone next h (world.workers w).desk.spools k.sent;
        started = subst (Along (StartedThen setup.workers)) (written_is w Deleted next (gone_facts c subs (world.workers w).desk.spools) (Took w (owner_of setup.workers c) n kinds.Gone ∷ h))
            (startless_appends setup.workers w Deleted next (Took w (owner_of setup.workers c) n kinds.Gone ∷ h) [] (gone_facts c subs (world.workers w).desk.spools) (lost_startless c subs (board_of (world.workers w).desk.spools)) (k.started, tt));
      })

  -- ---- any other step

  part_plain : (incoming : Incoming) → AllByRecursion IsPlain (part w incoming world)
  part_plain incoming = part_all setup is w incoming h world g IsPlain (plain_owner w) (λ to n a. tt)

  abbrev owned : Incoming → List Event
  owned incoming = onto (part w incoming world) (onto (before setup w incoming world) h)

  opened_so : (incoming : Incoming) → SendsSo setup.workers (onto (before setup w incoming world) h)
  opened_so (TakesPacket from p) = plain_onto setup.workers (_ ∷ []) h (tt, tt) k
  opened_so (ClockReads t) = plain_onto setup.workers (_ ∷ []) h (tt, tt) k
  opened_so Reaps = k
  opened_so (Posts c body) = plain_onto setup.workers (_ ∷ []) h (tt, tt) k
  opened_so (Subscribes n list start) = plain_onto setup.workers (_ ∷ []) h (tt, tt) k
  opened_so (Removes c) = plain_onto setup.workers (_ ∷ []) h (tt, tt) k
  opened_so (Informs c) = plain_onto setup.workers (_ ∷ []) h (tt, tt) k

  owned_so : (incoming : Incoming) → SendsSo setup.workers (owned incoming)
  owned_so incoming = plain_onto setup.workers (part w incoming world) (onto (before setup w incoming world) h) (part_plain incoming) (opened_so incoming)

  reply_so : (next : ℕ → ℕ) (l : List Event) (n status : ℕ) (info : Option Info) → SendsSo setup.workers l → SendsSo setup.workers (onto (told w next (replied w n status info (world.workers w).desk).deeds) l)
  reply_so next l n status info o =
      either (λ (x : Served). SendsSo setup.workers (onto (told w next x.deeds) l)) (is_waiting n (world.workers w).desk.waiting)
      (record { deeds = Does (events.Answered w n None status info false false) ∷ []; after = record (world.workers w).desk { waiting = without n (world.workers w).desk.waiting } }) (unserved (world.workers w).desk)
      (plain_onto setup.workers (_ ∷ []) l (tt, tt) o) o

  comes_starting : (n : ℕ) (list : List (List ℕ)) (start : Start) → stage_of n (own w (owned (Subscribes n list start))) ≡ Starting list true start
  comes_starting n list start =
      let e = Subscribed w n None list Direct start setup.sub_timeout false in
      plain_stage w n (part w (Subscribes n list start) world) (e ∷ h) (part_all setup is w (Subscribes n list start) h world g IsStageless (stageless_owner w) (λ to n a. tt))
      ∙ ap (stage_of n) (own_one w e h (eqb_self w)) ∙ ap (λ (b : Bool). cond b (Starting list true start) (stage_of n (own w h))) (eqb_self n)

  packet_so : (next : ℕ → ℕ) (from n : ℕ) (line : AlertLine) → IsNext from w line h → IsLineTo setup.workers from w line → IsWholeLine line → IsNoticeOf setup.workers from line
      → SendsSo setup.workers (onto (told w next (answered w from line (world.workers w).desk).deeds) (owned (TakesPacket from (packet n line))))
  packet_so next from n (lines.LookAnswer number q floor past gr slot) first right whole noticed = answer_line next from n number q floor past gr slot whole first
  packet_so next from n (lines.Notice c id gr slot) first right whole noticed = notice_line next from n c id gr slot noticed first
  packet_so next from n (lines.EdgeAnswer number q floor last) first right whole noticed = edge_line next from n number q floor last first
  packet_so next from n (lines.Gone c subs) first right whole noticed = gone_line next from n c subs right
  packet_so next from n (lines.PubAnswer m status info usage) first right whole noticed = reply_so next _ m status info (owned_so (TakesPacket from (packet n (lines.PubAnswer m status info usage))))
  packet_so next from n (lines.InfoAnswer m status info) first right whole noticed = reply_so next _ m status info (owned_so (TakesPacket from (packet n (lines.InfoAnswer m status info))))
  packet_so next from n (lines.DelAnswer m status info) first right whole noticed = reply_so next _ m status info (owned_so (TakesPacket from (packet n (lines.DelAnswer m status info))))
  packet_so next from n (lines.Publish m c len timeout ct body) first right whole noticed = owned_so (TakesPacket from (packet n (lines.Publish m c len timeout ct body)))
  packet_so next from n (lines.Look number c after fence) first right whole noticed = owned_so (TakesPacket from (packet n (lines.Look number c after fence)))
  packet_so next from n (lines.Edge number m c fence) first right whole noticed = owned_so (TakesPacket from (packet n (lines.Edge number m c fence)))
  packet_so next from n (lines.Join c m) first right whole noticed = owned_so (TakesPacket from (packet n (lines.Join c m)))
  packet_so next from n (lines.Part c m) first right whole noticed = owned_so (TakesPacket from (packet n (lines.Part c m)))
  packet_so next from n (lines.Delete m c) first right whole noticed = owned_so (TakesPacket from (packet n (lines.Delete m c)))
  packet_so next from n (lines.Info m c) first right whole noticed = owned_so (TakesPacket from (packet n (lines.Info m c)))

  begun_so : (next : ℕ → ℕ) (incoming : Incoming) → Suits setup w h incoming → SendsSo setup.workers (onto (told w next (begun setup w incoming (world.workers w).desk).deeds) (owned incoming))
  begun_so next (TakesPacket from p) f = packet_so next from p.number p.line f.0 f.1 f.2 f.3
  begun_so next (ClockReads t) f = owned_so (ClockReads t)
  begun_so next Reaps f = owned_so Reaps
  begun_so next (Posts c body) f = plain_onto setup.workers (_ ∷ []) (owned (Posts c body)) (tt, tt) (owned_so (Posts c body))
  begun_so next (Removes c) f = plain_onto setup.workers (_ ∷ []) (owned (Removes c)) (tt, tt) (owned_so (Removes c))
  begun_so next (Informs c) f = plain_onto setup.workers (_ ∷ []) (owned (Informs c)) (tt, tt) (owned_so (Informs c))
  begun_so next (Subscribes n list start) f =
      let o = owned_so (Subscribes n list start) in
      record {
        sent = arrival_sends_nothing setup.workers w next n list start true (world.workers w).desk.spools (owned (Subscribes n list start)) o.sent;
        started = arrival_started setup.workers w next n list start true (world.workers w).desk.spools (owned (Subscribes n list start)) (comes_starting n list start) o.started;
      }

  step_so : (incoming : Incoming) → Suits setup w h incoming → SendsSo setup.workers (onto (handled_events setup w incoming world) h)
  step_so incoming f =
      let b = begun setup w incoming (world.workers w).desk in
      subst (SendsSo setup.workers) (sym (handled_onto setup is w incoming h world g h))
      (then_releases (SendsSo setup.workers) (λ v owner gr slot l o. plain_one setup.workers (Released v owner gr slot) l tt o) w (next_after (world.workers w).next (part w incoming world)) b.deeds (filter (is_idle b.after.spools.shelf) b.after.spools.kept) (owned incoming)
      (begun_so (next_after (world.workers w).next (part w incoming world)) incoming f))

-- ---- the theme

sends_theme : (setup : Setup) → IsSetup setup → IsWorldTheme setup (λ h world. SendsSo setup.workers h)
sends_theme setup is = record {
  new = record { sent = tt; started = tt };
  handles = λ w incoming h world r g here i k. step_so setup is w h world r g k incoming (input_suits setup w h incoming i);
  takes = λ w v p ps h world r g here there at k.
      let first = ring_next setup w v p ps h world g at in
      step_so setup is w h world r g k (TakesPacket v p) (
        first,
        taken_right setup w v p ps h world g at,
        (subst AreWhole (first_pending setup w v p ps h world g at) ((reached_holds setup h world is r).whole v w)).0,
        of_next (IsNoticeOf setup.workers v) v w p.line h (made_notices setup.workers v w (own v h) (reached_owners_notice setup h world is r v)) first,
      );
  carries = λ w v p ps h world r g here there at k. k;
  pending = λ n h world r g same k. plain_one setup.workers (Pending (suc n)) h tt k;
  quiet = λ h world r g same k. plain_one setup.workers Quiet h tt k;
}

pub histories_send_so : HistoriesSendSo
histories_send_so setup h world is r = world_theme_holds setup (λ h world. SendsSo setup.workers h) is (sends_theme setup is) h world r

pub histories_carry : HistoriesCarry
histories_carry setup h world is r =
    let k = histories_send_so setup h world is r in
    record { owners = (reached_owners_tell setup h world is r).owners; sent = k.sent; started = k.started; standing = histories_stand setup h world is r }

pub histories_promise : HistoriesPromise
histories_promise setup h world is r = carried_promises setup.workers h (histories_carry setup h world is r)

pub histories_send_lawfully : HistoriesSendLawfully
histories_send_lawfully setup h world is r = (histories_promise setup h world is r).sent
