-- Each step of an owner keeps that it fits its slots.
use Rattle.std.proofs.Common.{◌≡◌, ℕ, zero, suc, ◌+◌, Bool, true, false, List, [], Option, Some, None, refl, sym, ap, ◌∙◌, arith, replicate, fold}
use Rattle.std.specs.Prelude.{is_some, unwrap_or, ◌||◌}
use Rattle.std.proofs.lemmas.Bool.{true≢false, or_parts}
use Rattle.std.proofs.lemmas.List.{length-replicate}
use Rattle.std.specs.Ordering.{nat_cmp}
use Rattle.std.specs.Cmp.Lexicographic.{slice_cmp}
use Rattle.std.specs.List.Sorted.{IsStrictlySortedBy}
use Rattle.nc_types.specs.Message.{Message}
use Rattle.nc_buffer.specs.declared.entry.Entry.{Entry}
use Rattle.nc_buffer.specs.Buffer.{is_expired, is_spent}
use Rattle.nc_slots.specs.Slot.{slot_at, is_buffered, lowest_unused}
use Rattle.nc_slots.specs.declared.slot.Slot.{Slot}
use Rattle.nc_slots.specs.declared.slot.Slot.TheVariants.{Unused}
use Rattle.nc_owner.specs.declared.channel.Channel.{Channel}
use Rattle.nc_owner.specs.declared.order.Order.{Order}
use Rattle.nc_owner.specs.State.{OwnerAt, Bench, entries_of, with_entries, found, exists, new_channel, bench_of}
use Rattle.nc_owner.specs.Edge.{last_in}
use Rattle.nc_owner.specs.Leave.{left_by, left_row, stayers}
use Rattle.nc_owner.specs.Remove.{row_of_removal, after_removal, is_reaped}
use Rattle.nc_owner.specs.Poll.{held_slots}
use Rattle.nc_owner.specs.Publish.{Polls, PublishPolls, Outcome, late, full, stored, is_stored, outcome, asked, roomy, lowest_slot, post_bench, publish_cleared, publish_outcome, publish_bench}
use Rattle.nc_owner.specs.OtherSteps.{touched_of, touched_row, touch_after, joined, parted}
use Rattle.nc_owner_laws.specs.Used.{is_retired, bit, times}
use Rattle.nc_owner_laws.specs.Kept.{slots_in}
use Rattle.nc_owner_laws.specs.OwnerFits.{all_entries, OwnerFits}
use Rattle.nc_owner_laws.proofs.Benches.{BenchFits}
use Rattle.nc_owner_laws.specs.Keeping.{NewFits, TouchFits, RemoveFits, DeleteFits, SweepFits, JoinFits, PartFits, LookFits, PolledFits, ClockFits, PublishFits, PublishFinds}
use Rattle.nc_owner_laws.proofs.Used.{agrees-same}
use Rattle.nc_owner_laws.proofs.Leaving.{leave_fits, let_go_fits}
use Rattle.nc_owner_laws.proofs.Polling.{length_polled, in_polled_all, held_agree, polled_fits}
use Rattle.nc_owner_laws.proofs.Storing.{stored_fits}
use Rattle.nc_owner_laws.proofs.Looking.{look_fits as look_fits_bench}
use Rattle.nc_owner_laws.proofs.Opening.{rest_of, opened_fits, put_fits, gone_fits, after_fits}
use Rattle.nc_owner_laws.proofs.Room.{asked_fits, roomy_fits, Ready, room_of}
use Rattle.nc_owner_laws.proofs.Falling.{holds_fall}

unused_row : (n k : ℕ) → slot_at (replicate n (let x : Slot Message = Unused in x)) k ≡ Unused
unused_row zero k = refl
unused_row (suc n) zero = refl
unused_row (suc n) (suc k) = unused_row n k

sorted_none : IsStrictlySortedBy (slice_cmp nat_cmp) []
unfolding IsStrictlySortedBy
sorted_none = tt

pub new_fits : NewFits
new_fits me workers slots first = record {
  names = sorted_none;
  slots = length-replicate slots Unused;
  apart = record {
    of_buffered = λ s. ap (λ x. bit (is_buffered x)) (sym (unused_row slots s));
    of_retired = λ s. ap (λ x. bit (is_retired x)) (sym (unused_row slots s));
  };
  number = refl;
  kept = tt;
  regular = tt;
}

-- ---- a channel that isn't there

not_there : (o : Option Channel) → is_some o ≡ false → o ≡ None
not_there None e = refl
not_there (Some ch) e = absurd cc

pub nothing_there : (c : List ℕ) (row : List (Slot Message)) (s : OwnerAt) → exists c s ≡ false → entries_of (touched_of c row s).channel ≡ []
nothing_there c row s e = ap (λ (o : Option Channel). stayers (is_expired s.desk.clock) (entries_of (unwrap_or o (new_channel s.desk)))) (not_there (found c s) e)

pub touched_fits : (c : List ℕ) (row : List (Slot Message)) (s : OwnerAt) → OwnerFits row s → BenchFits (rest_of c s) (touched_of c row s)
touched_fits c row s f = let_go_fits (rest_of c s) (is_expired s.desk.clock) (bench_of c row s) (opened_fits c row s f)

pub touch_fits : TouchFits
touch_fits c row s f = after_fits c (exists c s) (touched_of c row s) row s f (touched_fits c row s f) (nothing_there c row s)

pub join_fits : JoinFits
join_fits m c row s f = put_fits c (joined m (touched_of c row s)) row s f (let g = touched_fits c row s f in record { slots = g.slots; apart = g.apart; number = g.number; others = g.others; kept = g.kept; regular = record { rises = g.regular.rises; below = g.regular.below } })

pub part_fits : PartFits
part_fits m c row s f = after_fits c (exists c s) (parted m (touched_of c row s)) row s f (let g = touched_fits c row s f in record { slots = g.slots; apart = g.apart; number = g.number; others = g.others; kept = g.kept; regular = record { rises = g.regular.rises; below = g.regular.below } }) (nothing_there c row s)

pub look_fits : LookFits
look_fits from c id row s f = put_fits c _ row s f (look_fits_bench (rest_of c s) from id _ (let_go_fits (rest_of c s) is_spent (touched_of c row s) (touched_fits c row s f)))

none_more : (n : ℕ) → 0 + n ≡ n
none_more n = omega arith

-- ---- a removal

-- the bench of a channel once all its entries have left
abbrev pub emptied : Bench → Bench
emptied b = record { desk = left_by (entries_of b.channel) b.desk; row = fold left_row b.row (entries_of b.channel); channel = with_entries [] b.channel }

emptied_fits : (rest : List Entry) (b : Bench) → BenchFits rest b → BenchFits rest (emptied b)
emptied_fits rest b f = leave_fits rest [] (entries_of b.channel) (entries_of b.channel) b refl (λ k. omega arith) (omega arith) (λ a. tt) (λ r. record { rises = tt; below = tt }) f

pub remove_fits : RemoveFits
remove_fits c last row s f =
    let g = gone_fits c (emptied (bench_of c row s)) row s f (emptied_fits (rest_of c s) (bench_of c row s) (opened_fits c row s f)) refl in
    record { names = g.names; slots = g.slots; apart = g.apart; number = g.number; kept = g.kept; regular = g.regular }

removal_fits : (goes : Bool) (c : List ℕ) (row : List (Slot Message)) (s : OwnerAt) → OwnerFits row s → OwnerFits (row_of_removal goes c row s) (after_removal goes c s)
removal_fits true c row s f = remove_fits c (last_in c s) row s f
removal_fits false c row s f = f

pub delete_fits : DeleteFits
delete_fits c row s f = removal_fits (exists c s) c (touched_row c row s) (touch_after c row s) (touch_fits c row s f)

pub sweep_fits : SweepFits
sweep_fits c row s f = removal_fits (is_reaped c row s) c (touched_row c row s) (touch_after c row s) (touch_fits c row s f)

-- ---- polls of all retired slots, and a clock

pub polled_all_fits : PolledFits
polled_all_fits answers row s each f = record {
  names = f.names;
  slots = length_polled answers row ∙ f.slots;
  apart = agrees-same _ _ _ _ _ (λ k. refl) (λ k. none_more (times k (held_slots answers))) (held_agree (λ k. times k (slots_in (all_entries s.channels))) (λ k. 0) answers row (agrees-same _ _ _ _ _ (λ k. refl) (λ k. omega (arith, ap (times k) each)) f.apart));
  number = f.number;
  kept = in_polled_all answers row (all_entries s.channels) f.kept;
  regular = f.regular;
}

pub clock_fits : ClockFits
clock_fits now row s f = record { names = f.names; slots = f.slots; apart = f.apart; number = f.number; kept = f.kept; regular = f.regular }

-- ---- a publish

-- what a publish finds once the channel was touched and the retired slots were polled
pub cleared_ready : (exact : Bool) (counts : List ℕ) (o : Order) (row : List (Slot Message)) (s : OwnerAt) (polls : Polls) → PublishPolls exact counts o row s polls → OwnerFits row s
    → Ready (rest_of o.chan s) o.length polls (publish_cleared o polls row s)
cleared_ready exact counts o row s polls p f = record {
  fits = polled_fits (rest_of o.chan s) polls.retired (touched_of o.chan row s) p.first.each (touched_fits o.chan row s f);
  retired = refl;
  before = p.others.before.each;
  left = p.others.after_leaving.each;
  falls = holds_fall exact counts o row s polls p;
}

pub some_is : (o : Option ℕ) → is_some o ≡ true → o ≡ Some (unwrap_or o 0)
some_is None e = cc
some_is (Some k) e = refl

pub publish_finds : PublishFinds
publish_finds exact counts o row s polls p f is = room_of (rest_of o.chan s) o.length polls (publish_cleared o polls row s) (cleared_ready exact counts o row s polls p f) is

posted_fits : (x : Outcome) (rest : List Entry) (o : Order) (polls : Polls) (b : Bench) → Ready rest o.length polls b → outcome o.length polls b ≡ x → BenchFits rest (post_bench x o polls b)
posted_fits late rest o polls b r is = r.fits
posted_fits (full usage) rest o polls b r is = asked_fits rest _ polls.leaving b r.before r.fits
posted_fits stored rest o polls b r is =
    let ready = asked polls.leaving b in
    let room = roomy o.length polls.left ready in
    stored_fits rest o (lowest_slot room.row) room (some_is (lowest_unused room.row) (room_of rest o.length polls b r is))
    (roomy_fits rest o.length polls.left ready (asked_fits rest _ polls.leaving b r.before r.fits))

-- where the channel isn't there and nothing is stored, nothing is there
posted_nothing : (x : Outcome) (o : Order) (polls : Polls) (b : Bench) → is_stored x ≡ false → entries_of b.channel ≡ [] → entries_of (post_bench x o polls b).channel ≡ []
posted_nothing late o polls b n e = e
posted_nothing (full usage) o polls b n e = e
posted_nothing stored o polls b n e = absurd (true≢false n)

pub publish_fits : PublishFits
publish_fits exact counts o row s polls p f =
    let r = cleared_ready exact counts o row s polls p f in
    let x = publish_outcome o polls row s in
    after_fits o.chan (exists o.chan s || is_stored x) (publish_bench o polls row s) row s f
    (posted_fits x (rest_of o.chan s) o polls (publish_cleared o polls row s) r refl)
    (λ e. let n = or_parts (exists o.chan s) (is_stored x) e in posted_nothing x o polls (publish_cleared o polls row s) n.1 (nothing_there o.chan row s n.0))
