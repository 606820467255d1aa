-- The numbers that a worker's step draws.
use Rattle.std.proofs.Common.{◌≡◌, ℕ, ◌+◌, Bool, true, false, List, [], ◌∷◌, ◌++◌, Option, refl, ap, arith, map, filter}
use Rattle.std.specs.Prelude.{◌==◌}
use Rattle.std.specs.Option.{option_map}
use Rattle.nc_types.specs.declared.info.Info.{Info}
use Rattle.nc_journal.specs.History.{onto}
use Rattle.nc_journal.specs.declared.event.Event.{Event}
use Rattle.nc_journal.specs.declared.event.Event.TheVariants.{Made}
use Rattle.nc_journal.specs.declared.alert.AlertLine.{AlertLine}
use Rattle.nc_journal.specs.declared.alert.AlertLine.TheVariants as lines
use Rattle.nc_journal.specs.declared.word.EndedCause.{EndedCause}
use Rattle.nc_owner_laws.specs.Used.{bit, times}
use Rattle.nc_owner_laws.specs.Weave.{numbered}
use Rattle.nc_spool_state.specs.declared.kept.Held.{Held}
use Rattle.nc_spool_state.specs.Kept.{is_idle}
use Rattle.nc_spool.specs.declared.ask.Ask.{Ask}
use Rattle.nc_spool.specs.declared.ask.Ask.TheVariants as asks
use Rattle.nc_spool.specs.declared.fact.Fact.{Fact}
use Rattle.nc_spool.specs.declared.fact.Fact.TheVariants as facts
use Rattle.nc_spool.specs.Calls.{board_of, news_of, answer_facts, notice_facts, edge_facts, gone_facts, arrive_facts}
use Rattle.nc_spool_laws.specs.Numbers.{one, total, IsOnce}
use Rattle.nc_spool_laws.proofs.Totals.{total-append}
use Rattle.nc_worker_state.specs.Setup.{Setup}
use Rattle.nc_worker_state.specs.Incoming.{Incoming, TakesPacket, ClockReads, Reaps, Posts, Subscribes, Removes, Informs}
use Rattle.nc_worker_state.specs.Deed.{Deed, Does, Makes, told}
use Rattle.nc_worker_state.specs.Desk.{Desk, Served, replied, is_waiting, handled, settled, begun, served}
use Rattle.nc_worker_state.specs.Spooled.{Hold, ask_line, fact_deed, facts_deeds, release, releases, found_by, found_in}
use Rattle.nc_world_laws.proofs.Local.{either}
use Rattle.nc_rests.specs.Asking.{ask_numbers}
use Rattle.nc_world_asks.specs.Drawing.{ask_at, draw_at, drawn, AreDrawn}
use Rattle.nc_world_asks.proofs.Drawn.{drawn_kept}

-- how often an alert, an event and a deed draw a number
abbrev pub line_at : ℕ → AlertLine → ℕ
line_at n (lines.Look number c after fence) = one (number == n)
line_at n (lines.Edge number k c fence) = one (number == n)
line_at n line = 0

abbrev pub event_at : ℕ → Event → ℕ
event_at n (Made v to m a) = line_at n a
event_at n e = 0

abbrev pub deed_at : ℕ → Deed → ℕ
deed_at n (Does e) = event_at n e
deed_at n (Makes to a) = line_at n a

bit_one : (b : Bool) → bit b ≡ one b
bit_one true = refl
bit_one false = refl

numbers_one : (n : ℕ) (e : Event) (l : List Event) → times n (ask_numbers (e ∷ l)) ≡ event_at n e + times n (ask_numbers l)
numbers_one n (Made v to m (lines.Look number c after fence)) l = ap (λ (x : ℕ). x + times n (ask_numbers l)) (bit_one (number == n))
numbers_one n (Made v to m (lines.Edge number k c fence)) l = ap (λ (x : ℕ). x + times n (ask_numbers l)) (bit_one (number == n))
numbers_one n (Made v to m (lines.Publish r c len timeout ct body)) l = omega arith
numbers_one n (Made v to m (lines.PubAnswer r status info full)) l = omega arith
numbers_one n (Made v to m (lines.LookAnswer number q floor found g slot)) l = omega arith
numbers_one n (Made v to m (lines.Notice c id g slot)) l = omega arith
numbers_one n (Made v to m (lines.EdgeAnswer number q floor last)) l = omega arith
numbers_one n (Made v to m (lines.Join c k)) l = omega arith
numbers_one n (Made v to m (lines.Part c k)) l = omega arith
numbers_one n (Made v to m (lines.Delete r c)) l = omega arith
numbers_one n (Made v to m (lines.DelAnswer r status info)) l = omega arith
numbers_one n (Made v to m (lines.Gone c subs)) l = omega arith
numbers_one n (Made v to m (lines.Info r c)) l = omega arith
numbers_one n (Made v to m (lines.InfoAnswer r status info)) l = omega arith
numbers_one n e l = omega arith

pub numbers_onto : (n : ℕ) (es l : List Event) → times n (ask_numbers (onto es l)) ≡ total (event_at n) es + times n (ask_numbers l)
numbers_onto n [] l = omega arith
numbers_onto n (e ∷ es) l = omega (arith, numbers_onto n es (e ∷ l), numbers_one n e l)

pub told_count : (n me : ℕ) (next : ℕ → ℕ) (deeds : List Deed) → total (event_at n) (told me next deeds) ≡ total (deed_at n) deeds
told_count n me next [] = refl
told_count n me next (Does e ∷ deeds) = ap (λ (x : ℕ). event_at n e + x) (told_count n me next deeds)
told_count n me next (Makes to a ∷ deeds) = ap (λ (x : ℕ). line_at n a + x) (told_count n me (numbered next to) deeds)

fact_count : (n me : ℕ) (cause : EndedCause) (f : Fact) → deed_at n (fact_deed me cause f) ≡ draw_at n f
fact_count n me cause (facts.Out o) = by o.ask
  where
    by : (a : Ask) → line_at n (ask_line a) ≡ ask_at n a
    by (asks.Look number c after fence) = refl
    by (asks.Edge number k c fence) = refl
    by (asks.Join c k) = refl
    by (asks.Part c k) = refl
fact_count n me cause (facts.Started k cursor) = refl
fact_count n me cause (facts.Sent s) = refl
fact_count n me cause (facts.Ended k deleted) = refl

facts_count : (n me : ℕ) (cause : EndedCause) (fs : List Fact) → total (deed_at n) (facts_deeds me cause fs) ≡ drawn n fs
facts_count n me cause [] = refl
facts_count n me cause (f ∷ fs) = let a = fact_count n me cause f in let b = facts_count n me cause fs in (λ i. a i + b i)

releases_count : (n me : ℕ) (hs : List (Held Hold)) → total (deed_at n) (map (release me) hs) ≡ 0
releases_count n me [] = refl
releases_count n me (h ∷ hs) = let z = releases_count n me hs in omega (arith, z)

-- ---- the part of a step beside the owner's

pub same_once : (m : ℕ) (f g : ℕ → ℕ) → ((n : ℕ) → g n ≡ f n) → IsOnce m f → IsOnce m g
same_once m f g same i = record {
  once = λ n. let a = i.once n in let e = same n in omega (arith, a, e);
  below = λ n l. let a = i.below n l in let e = same n in omega (arith, a, e);
}

module _ (me : ℕ) (base : ℕ → ℕ) where
  -- where each number was drawn once before it, each was so after it
  abbrev pub Draws : Desk → Served → Type 0
  Draws d r = IsOnce d.spools.next base → IsOnce r.after.spools.next (λ n. base n + total (deed_at n) r.deeds)

  settled_draws : (d : Desk) (r : Served) → Draws d r → Draws d (settled me r)
  settled_draws d r draws i =
      same_once r.after.spools.next (λ n. base n + total (deed_at n) r.deeds) (λ n. base n + total (deed_at n) (r.deeds ++ releases me r.after.spools))
      (λ n. let a = total-append (deed_at n) r.deeds (releases me r.after.spools) in let z = releases_count n me (filter (is_idle r.after.spools.shelf) r.after.spools.kept) in omega (arith, a, z)) (draws i)

  nothing_draws : (d : Desk) → Draws d (record { deeds = []; after = d })
  nothing_draws d i = same_once d.spools.next base (λ n. base n + 0) (λ n. omega arith) i

  module _ (d : Desk) where
    start : IsOnce d.spools.next base → AreDrawn base (board_of d.spools)
    start i = same_once d.spools.next base (λ n. base n + 0) (λ n. omega arith) i

    end : (next : ℕ) (cause : EndedCause) (fs : List Fact) → IsOnce next (λ n. base n + drawn n fs) → IsOnce next (λ n. base n + total (deed_at n) (facts_deeds me cause fs))
    end next cause fs i = same_once next (λ n. base n + drawn n fs) (λ n. base n + total (deed_at n) (facts_deeds me cause fs)) (λ n. let e = facts_count n me cause fs in omega (arith, e)) i

    replied_draws : (r status : ℕ) (info : Option Info) → Draws d (replied me r status info d)
    replied_draws r status info = either (Draws d) (is_waiting r d.waiting) _ _ (λ i. nothing_draws d i) (nothing_draws d)

    handled_draws : (from : ℕ) (line : AlertLine) → Draws d (handled me from line d)
    handled_draws from (lines.PubAnswer r status info full) = replied_draws r status info
    handled_draws from (lines.InfoAnswer r status info) = replied_draws r status info
    handled_draws from (lines.DelAnswer r status info) = replied_draws r status info
    handled_draws from (lines.LookAnswer number q floor past g slot) = λ i.
        let found = found_in from past g slot in
        end _ _ (answer_facts number q floor found d.spools) ((drawn_kept base).answer number (record { q = q; floor = floor }) (option_map news_of found) (board_of d.spools) tt (start i))
    handled_draws from (lines.Notice c id g slot) = λ i.
        let found = found_by from id g slot in
        end _ _ (notice_facts c found d.spools) ((drawn_kept base).notice c (news_of found) (board_of d.spools) tt (start i))
    handled_draws from (lines.EdgeAnswer number q floor last) = λ i. end _ _ (edge_facts number floor last d.spools) ((drawn_kept base).edge_answer number floor last (board_of d.spools) tt (start i))
    handled_draws from (lines.Gone c subs) = λ i. end _ _ (gone_facts c subs d.spools) ((drawn_kept base).removal c subs (board_of d.spools) (start i))
    handled_draws from (lines.Publish r c len timeout ct body) = nothing_draws d
    handled_draws from (lines.Look number c after fence) = nothing_draws d
    handled_draws from (lines.Edge number k c fence) = nothing_draws d
    handled_draws from (lines.Join c k) = nothing_draws d
    handled_draws from (lines.Part c k) = nothing_draws d
    handled_draws from (lines.Delete r c) = nothing_draws d
    handled_draws from (lines.Info r c) = nothing_draws d

    begun_draws : (setup : Setup) (incoming : Incoming) → Draws d (begun setup me incoming d)
    begun_draws setup (TakesPacket from p) = handled_draws from p.line
    begun_draws setup (ClockReads t) = nothing_draws d
    begun_draws setup Reaps = nothing_draws d
    begun_draws setup (Posts c body) = λ i. nothing_draws d i
    begun_draws setup (Removes c) = λ i. nothing_draws d i
    begun_draws setup (Informs c) = λ i. nothing_draws d i
    begun_draws setup (Subscribes k list start_at) = λ i. end _ _ (arrive_facts k list start_at true d.spools) ((drawn_kept base).arrive (record { k = k; once = true }) list start_at (board_of d.spools) tt (start i))

    pub served_draws : (setup : Setup) (incoming : Incoming) → Draws d (served setup me incoming d)
    served_draws setup incoming = settled_draws d (begun setup me incoming d) (begun_draws setup incoming)
