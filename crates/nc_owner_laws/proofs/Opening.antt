-- A channel is taken out of an owner, and put back after a step.
use Rattle.std.proofs.Common.{◌≡◌, ℕ, ◌+◌, Bool, true, false, List, [], ◌∷◌, ◌++◌, Option, Some, None, refl, sym, ap, ◌∙◌, arith, length, length-append}
use Rattle.std.specs.Prelude.{unwrap_or}
use Rattle.std.specs.Option.{option_map}
use Rattle.std.specs.Ordering.{nat_cmp}
use Rattle.std.specs.Cmp.Lexicographic.{slice_cmp}
use Rattle.std.specs.List.{AllByRecursion, flat_map, sum_by}
use Rattle.std.specs.List.Sorted.{IsStrictlySortedBy}
use Rattle.std.specs.Map.{keys_of, values_of, lookup}
use Rattle.std.specs.BTreeMap.{insert_entry}
use Rattle.std.proofs.lemmas.Cmp.{nat_list_cmp_total}
use Rattle.std.proofs.lemmas.List.Sums.{sum_by-cons}
use Rattle.std.proofs.lemmas.Map.Entries.{sum_by-remove_entry, sum_by-insert_entry}
use Rattle.nc_types.specs.Message.{Message}
use Rattle.nc_buffer.specs.declared.entry.Entry.{Entry}
use Rattle.nc_slots.specs.Slot.{slot_at}
use Rattle.nc_slots.specs.declared.slot.Slot.{Slot}
use Rattle.nc_owner.specs.declared.channel.Channel.{Channel}
use Rattle.nc_owner.specs.State.{OwnerAt, Bench, entries_of, is_name, found, opened, new_channel, bench_of, others, after}
use Rattle.nc_owner_laws.specs.Used.{times}
use Rattle.nc_owner_laws.specs.Kept.{slots_in, IsIn}
use Rattle.nc_owner_laws.specs.OwnerFits.{all_entries, IsRegular, OwnerFits}
use Rattle.nc_owner_laws.proofs.Benches.{BenchFits}
use Rattle.nc_owner_laws.proofs.Used.{times-append, agrees-same}
use Rattle.nc_owner_laws.proofs.Kept.{all_append}
use Rattle.nc_owner_laws.proofs.Leaving.{slots_append}
use Rattle.nc_owner_laws.proofs.Shelf.{values_remove, values_lookup, values_insert, sorted_remove, sorted_insert, lookup_removed}

-- how often a slot is that of an entry of a channel, and how many entries it has
abbrev uses : ℕ → Channel → ℕ
uses k ch = times k (slots_in (entries_of ch))

abbrev many : Channel → ℕ
many ch = length (entries_of ch)

times_sum : (k : ℕ) (chs : List Channel) → times k (slots_in (flat_map entries_of chs)) ≡ sum_by (uses k) chs
times_sum k [] = refl
times_sum k (ch ∷ chs) =
    ap (times k) (slots_append (entries_of ch) (flat_map entries_of chs))
    ∙ times-append k (slots_in (entries_of ch)) (slots_in (flat_map entries_of chs))
    ∙ ap (λ n. uses k ch + n) (times_sum k chs) ∙ sym (sum_by-cons (uses k) ch chs)

length_sum : (chs : List Channel) → length (flat_map entries_of chs) ≡ sum_by many chs
length_sum [] = refl
length_sum (ch ∷ chs) = length-append (entries_of ch) (flat_map entries_of chs) ∙ ap (λ n. many ch + n) (length_sum chs) ∙ sym (sum_by-cons many ch chs)

-- what holds of all entries holds of each channel's, and the other way round
all_front : {Y : Type 0} (P : Y → Type 0) (xs ys : List Y) → AllByRecursion P (xs ++ ys) → AllByRecursion P xs × AllByRecursion P ys
all_front P [] ys a = (tt, a)
all_front P (x ∷ xs) ys a = let r = all_front P xs ys a.1 in ((a.0, r.0), r.1)

apart_all : (P : Entry → Type 0) (chs : List Channel) → AllByRecursion P (flat_map entries_of chs) → AllByRecursion (λ ch. AllByRecursion P (entries_of ch)) chs
apart_all P [] a = tt
apart_all P (ch ∷ chs) a = let r = all_front P (entries_of ch) (flat_map entries_of chs) a in (r.0, apart_all P chs r.1)

joined_all : (P : Entry → Type 0) (chs : List Channel) → AllByRecursion (λ ch. AllByRecursion P (entries_of ch)) chs → AllByRecursion P (flat_map entries_of chs)
joined_all P [] a = tt
joined_all P (ch ∷ chs) a = all_append P (entries_of ch) (flat_map entries_of chs) a.0 (joined_all P chs a.1)

opened_sum : (f : Channel → ℕ) (o : Option Channel) (d : Channel) → f d ≡ 0 → f (unwrap_or o d) ≡ unwrap_or (option_map f o) 0
opened_sum f None d z = z
opened_sum f (Some ch) d z = refl

taken_sum : (f : Channel → ℕ) (c : List ℕ) (s : OwnerAt) → f (new_channel s.desk) ≡ 0 → sum_by f (values_of (others c s.channels)) + f (opened c s) ≡ sum_by f (values_of s.channels)
taken_sum f c s z = ap (λ n. sum_by f (values_of (others c s.channels)) + n) (opened_sum f (found c s) (new_channel s.desk) z) ∙ sum_by-remove_entry f (is_name c) s.channels

abbrev pub rest_of : List ℕ → OwnerAt → List Entry
rest_of c s = all_entries (others c s.channels)

pub opened_fits : (c : List ℕ) (row : List (Slot Message)) (s : OwnerAt) → OwnerFits row s → BenchFits (rest_of c s) (bench_of c row s)
opened_fits c row s f =
    let P = λ (e : Entry). IsIn (slot_at row e.slot) e in
    let each = apart_all P (values_of s.channels) f.kept in
    record {
      slots = f.slots;
      apart = agrees-same _ _ _ _ row
          (λ k. times_sum k (values_of s.channels) ∙ sym (taken_sum (uses k) c s refl) ∙ ap (λ n. n + uses k (opened c s)) (sym (times_sum k (values_of (others c s.channels)))))
          (λ k. refl) f.apart;
      number = f.number ∙ length_sum (values_of s.channels) ∙ sym (taken_sum many c s refl) ∙ ap (λ n. n + many (opened c s)) (sym (length_sum (values_of (others c s.channels))));
      others = joined_all P (values_of (others c s.channels)) (values_remove (λ ch. AllByRecursion P (entries_of ch)) (is_name c) s.channels each);
      kept = values_lookup (λ ch. AllByRecursion P (entries_of ch)) (is_name c) s.channels (new_channel s.desk) tt each;
      regular = values_lookup IsRegular (is_name c) s.channels (new_channel s.desk) (record { rises = tt; below = tt }) f.regular;
    }

-- ---- a channel is put back

put_sum : (f : Channel → ℕ) (c : List ℕ) (ch : Channel) (s : OwnerAt) → IsStrictlySortedBy (slice_cmp nat_cmp) (keys_of s.channels) → sum_by f (values_of (insert_entry (slice_cmp nat_cmp) (others c s.channels) c ch)) ≡ sum_by f (values_of (others c s.channels)) + f ch
put_sum f c ch s sorted =
    no_more (sum_by f (values_of (insert_entry (slice_cmp nat_cmp) (others c s.channels) c ch))) (unwrap_or (option_map f (lookup (is_name c) (others c s.channels))) 0)
    (ap (λ o. unwrap_or (option_map f o) 0) (lookup_removed nat_list_cmp_total c s.channels sorted))
    ∙ sum_by-insert_entry f nat_list_cmp_total (others c s.channels) c ch (sorted_remove nat_list_cmp_total (is_name c) s.channels sorted)
  where
    no_more : (n m : ℕ) → m ≡ 0 → n ≡ n + m
    no_more n m e = omega (arith, e)

pub put_fits : (c : List ℕ) (b : Bench) (row : List (Slot Message)) (s : OwnerAt) → OwnerFits row s → BenchFits (rest_of c s) b → OwnerFits b.row (after c true b s)
put_fits c b row s f g =
    let P = λ (e : Entry). IsIn (slot_at b.row e.slot) e in
    let chs = insert_entry (slice_cmp nat_cmp) (others c s.channels) c b.channel in
    record {
      names = sorted_insert nat_list_cmp_total c b.channel (others c s.channels) (sorted_remove nat_list_cmp_total (is_name c) s.channels f.names);
      slots = g.slots;
      apart = agrees-same _ _ _ _ b.row
          (λ k. ap (λ n. n + uses k b.channel) (times_sum k (values_of (others c s.channels))) ∙ sym (put_sum (uses k) c b.channel s f.names) ∙ sym (times_sum k (values_of chs)))
          (λ k. refl) g.apart;
      number = g.number ∙ ap (λ n. n + many b.channel) (length_sum (values_of (others c s.channels))) ∙ sym (put_sum many c b.channel s f.names) ∙ sym (length_sum (values_of chs));
      kept = joined_all P (values_of chs) (values_insert (slice_cmp nat_cmp) c b.channel (λ ch. AllByRecursion P (entries_of ch)) (others c s.channels) (apart_all P (values_of (others c s.channels)) g.others) g.kept);
      regular = values_insert (slice_cmp nat_cmp) c b.channel IsRegular (others c s.channels) (values_remove IsRegular (is_name c) s.channels f.regular) g.regular;
    }

-- a channel that isn't there and isn't made has no entries
no_entries : (k : ℕ) (n : ℕ) (es : List Entry) → es ≡ [] → n + times k (slots_in es) ≡ n
no_entries k n es is = (let h : times k (slots_in es) ≡ 0 = ap (λ l. times k (slots_in l)) is in omega arith)

pub gone_fits : (c : List ℕ) (b : Bench) (row : List (Slot Message)) (s : OwnerAt) → OwnerFits row s → BenchFits (rest_of c s) b → entries_of b.channel ≡ [] → OwnerFits b.row (after c false b s)
gone_fits c b row s f g none = record {
  names = sorted_remove nat_list_cmp_total (is_name c) s.channels f.names;
  slots = g.slots;
  apart = agrees-same _ _ _ _ b.row (λ k. no_entries k (times k (slots_in (rest_of c s))) (entries_of b.channel) none) (λ k. refl) g.apart;
  number = omega (arith, g.number, ap length none);
  kept = g.others;
  regular = values_remove IsRegular (is_name c) s.channels f.regular;
}

pub after_fits : (c : List ℕ) (stays : Bool) (b : Bench) (row : List (Slot Message)) (s : OwnerAt) → OwnerFits row s → BenchFits (rest_of c s) b → (stays ≡ false → entries_of b.channel ≡ []) → OwnerFits b.row (after c stays b s)
after_fits c true b row s f g none = put_fits c b row s f g
after_fits c false b row s f g none = gone_fits c b row s f g (none refl)
