-- The numbers of looks, edges and requests that a worker's step draws.
use Rattle.std.proofs.Common.{◌≡◌, ℕ, ◌+◌, true, List, [], ◌∷◌, Option, refl, ap, arith, map, filter}
use Rattle.std.specs.Option.{option_map}
use Rattle.nc_types.specs.declared.info.Info.{Info}
use Rattle.nc_journal.specs.declared.event.Event.{Event}
use Rattle.nc_journal.specs.declared.event.Event.TheVariants.{Asked, Made}
use Rattle.nc_journal.specs.declared.alert.AlertLine.{AlertLine}
use Rattle.nc_journal.specs.declared.alert.AlertLine.TheVariants as lines
use Rattle.nc_journal.specs.declared.word.EndedCause.{EndedCause}
use Rattle.nc_owner_laws.specs.Weave.{numbered}
use Rattle.nc_spool_state.specs.declared.kept.Held.{Held}
use Rattle.nc_spool_state.specs.Kept.{is_idle}
use Rattle.nc_spool.specs.declared.ask.Ask.{Ask}
use Rattle.nc_spool.specs.declared.ask.Ask.TheVariants as asks
use Rattle.nc_spool.specs.declared.fact.Fact.{Fact}
use Rattle.nc_spool.specs.declared.fact.Fact.TheVariants as facts
use Rattle.nc_spool.specs.Calls.{board_of, news_of, answer_facts, notice_facts, edge_facts, gone_facts, arrive_facts}
use Rattle.nc_spool_laws.specs.Numbers.{total}
use Rattle.nc_spool_laws.proofs.Totals.{total-append}
use Rattle.nc_worker_state.specs.Setup.{Setup}
use Rattle.nc_worker_state.specs.Incoming.{Incoming, TakesPacket, ClockReads, Reaps, Posts, Subscribes, Removes, Informs}
use Rattle.nc_worker_state.specs.Deed.{Deed, Does, Makes, told}
use Rattle.nc_worker_state.specs.Desk.{Desk, Served, replied, is_waiting, handled, settled, begun, served}
use Rattle.nc_worker_state.specs.Spooled.{Hold, ask_line, fact_deed, facts_deeds, release, releases, found_by, found_in}
use Rattle.nc_world_laws.proofs.Local.{either}
use Rattle.nc_world_worn.proofs.Drawing.{ask_draws, draws, IsDrawn, drawn_kept}

-- how many looks and edges an alert, an event and a deed ask for
abbrev pub line_asks : AlertLine → ℕ
line_asks (lines.Look number c after fence) = 1
line_asks (lines.Edge number k c fence) = 1
line_asks line = 0

abbrev pub event_asks : Event → ℕ
event_asks (Made v to n a) = line_asks a
event_asks e = 0

abbrev pub deed_asks : Deed → ℕ
deed_asks (Does e) = event_asks e
deed_asks (Makes to a) = line_asks a

-- how many requests an event is
abbrev pub event_requests : Event → ℕ
event_requests (Asked v r conn act list status rule) = 1
event_requests e = 0

pub told_asks : (me : ℕ) (next : ℕ → ℕ) (deeds : List Deed) → total event_asks (told me next deeds) ≡ total deed_asks deeds
told_asks me next [] = refl
told_asks me next (Does e ∷ deeds) = ap (λ (x : ℕ). event_asks e + x) (told_asks me next deeds)
told_asks me next (Makes to a ∷ deeds) = ap (λ (x : ℕ). line_asks a + x) (told_asks me (numbered next to) deeds)

fact_asks : (me : ℕ) (cause : EndedCause) (f : Fact) → deed_asks (fact_deed me cause f) ≡ draws f
fact_asks me cause (facts.Out o) = by o.ask
  where
    by : (a : Ask) → line_asks (ask_line a) ≡ ask_draws a
    by (asks.Look number c after fence) = refl
    by (asks.Edge number k c fence) = refl
    by (asks.Join c k) = refl
    by (asks.Part c k) = refl
fact_asks me cause (facts.Started k cursor) = refl
fact_asks me cause (facts.Sent s) = refl
fact_asks me cause (facts.Ended k deleted) = refl

facts_ask : (me : ℕ) (cause : EndedCause) (fs : List Fact) → total deed_asks (facts_deeds me cause fs) ≡ total draws fs
facts_ask me cause [] = refl
facts_ask me cause (f ∷ fs) = let a = fact_asks me cause f in let b = facts_ask me cause fs in (λ i. a i + b i)

releases_ask : (me : ℕ) (hs : List (Held Hold)) → total deed_asks (map (release me) hs) ≡ 0
releases_ask me [] = refl
releases_ask me (h ∷ hs) = let z = releases_ask me hs in omega (arith, z)

-- how many requests an input is
abbrev pub incoming_requests : Incoming → ℕ
incoming_requests (Posts c body) = 1
incoming_requests (Removes c) = 1
incoming_requests (Informs c) = 1
incoming_requests incoming = 0

-- ---- the part of a step beside the owner's

module _ (me : ℕ) where
  -- the next numbers rise by what is asked
  pub record Rises (n : ℕ) (d : Desk) (r : Served) : Type 0 where
    pub asks : r.after.spools.next ≡ d.spools.next + total deed_asks r.deeds
    pub requests : r.after.requests ≡ d.requests + n

  settled_rises : (n : ℕ) (d : Desk) (r : Served) → Rises n d r → Rises n d (settled me r)
  settled_rises n d r k = record {
    asks = let a = total-append deed_asks r.deeds (releases me r.after.spools) in let z = releases_ask me (filter (is_idle r.after.spools.shelf) r.after.spools.kept) in let e = k.asks in omega (arith, a, z, e);
    requests = k.requests;
  }

  -- a call of the spools, which leaves the next number and tells facts
  spools_rise : (d : Desk) (next : ℕ) (cause : EndedCause) (fs : List Fact) → next ≡ d.spools.next + total draws fs → next ≡ d.spools.next + total deed_asks (facts_deeds me cause fs)
  spools_rise d next cause fs e = let a = facts_ask me cause fs in omega (arith, a, e)

  module _ (d : Desk) where
    nothing_rises : Rises 0 d (record { deeds = []; after = d })
    nothing_rises = record { asks = omega arith; requests = omega arith }

    start : IsDrawn d.spools.next (board_of d.spools)
    start = omega arith

    replied_rises : (r status : ℕ) (info : Option Info) → Rises 0 d (replied me r status info d)
    replied_rises r status info = either (Rises 0 d) (is_waiting r d.waiting) _ _ (record { asks = omega arith; requests = omega arith }) nothing_rises

    handled_rises : (from : ℕ) (line : AlertLine) → Rises 0 d (handled me from line d)
    handled_rises from (lines.PubAnswer r status info full) = replied_rises r status info
    handled_rises from (lines.InfoAnswer r status info) = replied_rises r status info
    handled_rises from (lines.DelAnswer r status info) = replied_rises r status info
    handled_rises from (lines.LookAnswer number q floor past g slot) =
        let found = found_in from past g slot in
        record {
          asks = spools_rise d _ _ (answer_facts number q floor found d.spools) ((drawn_kept d.spools.next).answer number (record { q = q; floor = floor }) (option_map news_of found) (board_of d.spools) tt start);
          requests = omega arith;
        }
    handled_rises from (lines.Notice c id g slot) =
        let found = found_by from id g slot in
        record {
          asks = spools_rise d _ _ (notice_facts c found d.spools) ((drawn_kept d.spools.next).notice c (news_of found) (board_of d.spools) tt start);
          requests = omega arith;
        }
    handled_rises from (lines.EdgeAnswer number q floor last) = record {
      asks = spools_rise d _ _ (edge_facts number floor last d.spools) ((drawn_kept d.spools.next).edge_answer number floor last (board_of d.spools) tt start);
      requests = omega arith;
    }
    handled_rises from (lines.Gone c subs) = record {
      asks = spools_rise d _ _ (gone_facts c subs d.spools) ((drawn_kept d.spools.next).removal c subs (board_of d.spools) start);
      requests = omega arith;
    }
    handled_rises from (lines.Publish r c len timeout ct body) = nothing_rises
    handled_rises from (lines.Look number c after fence) = nothing_rises
    handled_rises from (lines.Edge number k c fence) = nothing_rises
    handled_rises from (lines.Join c k) = nothing_rises
    handled_rises from (lines.Part c k) = nothing_rises
    handled_rises from (lines.Delete r c) = nothing_rises
    handled_rises from (lines.Info r c) = nothing_rises

    begun_rises : (setup : Setup) (incoming : Incoming) → Rises (incoming_requests incoming) d (begun setup me incoming d)
    begun_rises setup (TakesPacket from p) = handled_rises from p.line
    begun_rises setup (ClockReads t) = nothing_rises
    begun_rises setup Reaps = nothing_rises
    begun_rises setup (Posts c body) = record { asks = omega arith; requests = refl }
    begun_rises setup (Removes c) = record { asks = omega arith; requests = refl }
    begun_rises setup (Informs c) = record { asks = omega arith; requests = refl }
    begun_rises setup (Subscribes k list start_at) = record {
      asks = spools_rise d _ _ (arrive_facts k list start_at true d.spools) ((drawn_kept d.spools.next).arrive (record { k = k; once = true }) list start_at (board_of d.spools) tt start);
      requests = omega arith;
    }

    pub served_rises : (setup : Setup) (incoming : Incoming) → Rises (incoming_requests incoming) d (served setup me incoming d)
    served_rises setup incoming = settled_rises (incoming_requests incoming) d (begun setup me incoming d) (begun_rises setup incoming)
