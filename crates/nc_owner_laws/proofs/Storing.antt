-- A bench fits where a message was stored in it.
use Rattle.std.proofs.Common.{◌≡◌, ◌≢◌, ℕ, suc, ◌+◌, ◌<◌, Bool, true, false, not, List, [], ◌∷◌, ◌++◌, Some, refl, sym, ap, ◌∙◌, subst, arith, length, set, fold, eqb, length-append, max}
use Rattle.std.specs.Prelude.{◌==◌}
use Rattle.std.proofs.lemmas.Bool.{true≢false}
use Rattle.std.proofs.lemmas.Int.{ints}
use Rattle.std.proofs.lemmas.List.{length-set, get_or-set_same, get_or-set_other}
use Rattle.std.proofs.lemmas.List.Quantifiers.{position-Some}
use Rattle.nc_types.specs.Id.{Id, IsPast, is_past}
use Rattle.nc_types.specs.Message.{Message}
use Rattle.nc_journal.proofs.Ids.{next-past}
use Rattle.nc_buffer.specs.declared.entry.Entry.{Entry}
use Rattle.nc_buffer.specs.Buffer.{IsPastAll}
use Rattle.nc_slots.specs.Slot.{slot_at, is_unused, is_buffered, lowest_unused, filled, granted, retired}
use Rattle.nc_slots.specs.declared.slot.Slot.{Slot}
use Rattle.nc_slots.specs.declared.slot.Slot.TheVariants.{Unused, Buffered, Retired}
use Rattle.nc_owner.specs.declared.channel.Channel.{Channel}
use Rattle.nc_owner.specs.declared.order.Order.{Order}
use Rattle.nc_owner.specs.Ascending.{place_above}
use Rattle.nc_owner.specs.Backlog.{IsBacklog}
use Rattle.nc_owner.specs.State.{Bench, entries_of}
use Rattle.nc_owner.specs.Publish.{stamp, message_of_order, granted_slot, granted_desk, told_row, kept_desk, kept_row, kept_channel, entry_of, stored_bench}
use Rattle.nc_owner_laws.specs.Used.{bit, times, Agrees}
use Rattle.nc_owner_laws.specs.Kept.{slots_in, IsIn}
use Rattle.nc_owner_laws.specs.OwnerFits.{IsRegular}
use Rattle.nc_owner_laws.proofs.Benches.{BenchFits}
use Rattle.nc_owner_laws.proofs.Used.{leaves_row, times-append, agrees-same, left_one, put_one, granted_one}
use Rattle.nc_owner_laws.proofs.Kept.{times-insert, all_append, rising-push, in_where}
use Rattle.nc_owner_laws.proofs.Leaving.{slots_append}

-- ---- ids

past_case : (id last old : Id) → IsPast id last → is_past old last ≡ false → IsPast id old
past_case id last old p n = grind (arith, ints)

turn_case : (id old : Id) → IsPast id old → is_past old id ≡ false
turn_case id old p = grind (arith, ints)

below_case : (id last old : Id) → IsPast id last → is_past old last ≡ false → is_past old id ≡ false
below_case id last old p n = turn_case id old (past_case id last old p n)

self_case : (id : Id) → is_past id id ≡ false
self_case id = grind (arith, ints)

past_all : (id last : Id) (es : List Entry) → IsPast id last → IsBacklog last es → IsPastAll id es
past_all id last [] p b = tt
past_all id last (e ∷ es) p b = (past_case id last e.id p b.0, past_all id last es p b.1)

below_all : (id last : Id) (es : List Entry) → IsPast id last → IsBacklog last es → IsBacklog id es
below_all id last [] p b = tt
below_all id last (e ∷ es) p b = (below_case id last e.id p b.0, below_all id last es p b.1)

-- ---- the row

granted_length : (slot : ℕ) (marks : List ℕ) (row : List (Slot Message)) → length (fold (granted_slot slot) row marks) ≡ length row
granted_length slot [] row = refl
granted_length slot (to ∷ marks) row = granted_length slot marks (granted_slot slot row to) ∙ length-set row slot (granted (slot_at row slot))

granted_agree : (B R : ℕ → ℕ) (slot : ℕ) (marks : List ℕ) (row : List (Slot Message)) → Agrees B R row → Agrees B R (fold (granted_slot slot) row marks)
granted_agree B R slot [] row a = a
granted_agree B R slot (to ∷ marks) row a = granted_agree B R slot marks (granted_slot slot row to) (granted_one B R row slot a)

granted_other : (slot : ℕ) (marks : List ℕ) (row : List (Slot Message)) (s : ℕ) → s ≢ slot → slot_at (fold (granted_slot slot) row marks) s ≡ slot_at row s
granted_other slot [] row s n = refl
granted_other slot (to ∷ marks) row s n = granted_other slot marks (granted_slot slot row to) s n ∙ get_or-set_other row slot s (granted (slot_at row slot)) Unused n

granted_here : (slot : ℕ) (m : Message) (n : ℕ) (marks : List ℕ) (row : List (Slot Message)) → slot < length row → slot_at row slot ≡ Buffered m false n → slot_at (fold (granted_slot slot) row marks) slot ≡ Buffered m false (n + length marks)
granted_here slot m n [] row lt is = is ∙ ap (λ k. (let x : Slot Message = Buffered m false k in x)) (none n)
  where
    none : (n : ℕ) → n ≡ n + 0
    none n = omega arith
granted_here slot m n (to ∷ marks) row lt is =
    granted_here slot m (n + 1) marks (granted_slot slot row to) (omega (arith, length-set row slot (granted (slot_at row slot))))
    (get_or-set_same row slot (granted (slot_at row slot)) Unused lt ∙ ap granted is)
    ∙ ap (λ k. (let x : Slot Message = Buffered m false k in x)) (more n (length marks))
  where
    more : (n k : ℕ) → (n + 1) + k ≡ n + suc k
    more n k = omega arith

-- ---- the bench

-- where a message is stored in a slot and told to the marked workers, and is kept or not
abbrev pub stored_as : Bool → Order → ℕ → Bench → Bench
stored_as kept o slot b = record {
  desk = record (kept_desk kept slot (granted_desk b.channel.marks b.desk)) { floor = max b.desk.floor (stamp b).time };
  row = kept_row kept slot (told_row (message_of_order (stamp b) o b.desk.clock) slot b.channel.marks b.row);
  channel = kept_channel kept (entry_of o (stamp b) slot b.desk.clock (length b.channel.marks)) b.channel;
}

pub record Told (rest : List Entry) (o : Order) (slot : ℕ) (b : Bench) : Type 0 where
  pub slots : length (told_row (message_of_order (stamp b) o b.desk.clock) slot b.channel.marks b.row) ≡ b.desk.slots
  pub apart : Agrees (λ k. (times k (slots_in rest) + times k (slots_in (entries_of b.channel))) + bit (eqb slot k)) (λ k. times k b.desk.retired) (told_row (message_of_order (stamp b) o b.desk.clock) slot b.channel.marks b.row)
  pub same : (s : ℕ) → 0 < times s (slots_in rest) + times s (slots_in (entries_of b.channel)) → s ≢ slot
  pub others : (s : ℕ) → s ≢ slot → slot_at (told_row (message_of_order (stamp b) o b.desk.clock) slot b.channel.marks b.row) s ≡ slot_at b.row s
  pub here : slot_at (told_row (message_of_order (stamp b) o b.desk.clock) slot b.channel.marks b.row) slot ≡ Buffered (message_of_order (stamp b) o b.desk.clock) false (0 + length b.channel.marks)

pub unused_not : (x : Slot Message) → is_unused x ≡ true → bit (is_buffered x) ≡ 0
unused_not Unused e = refl
unused_not (Buffered message clear grants) e = absurd (true≢false (sym e))
unused_not (Retired clear grants) e = absurd (true≢false (sym e))

pub told_fits : (rest : List Entry) (o : Order) (slot : ℕ) (b : Bench) → lowest_unused b.row ≡ Some slot → BenchFits rest b → Told rest o slot b
told_fits rest o slot b low f =
    let m = message_of_order (stamp b) o b.desk.clock in
    let row1 = set b.row slot (filled m) in
    let p = position-Some is_unused b.row slot Unused low in
    record {
      slots = granted_length slot b.channel.marks row1 ∙ length-set b.row slot (filled m) ∙ f.slots;
      apart = granted_agree _ _ slot b.channel.marks row1 (put_one _ _ b.row slot m low f.apart);
      same = λ s lt is. absurd (let e = ap (λ k. times k (slots_in rest) + times k (slots_in (entries_of b.channel))) is in omega (arith, f.apart.of_buffered slot, unused_not (slot_at b.row slot) p.1, e));
      others = λ s n. granted_other slot b.channel.marks row1 s n ∙ get_or-set_other b.row slot s (filled m) Unused n;
      here = granted_here slot m 0 b.channel.marks row1 (omega (arith, p.0, length-set b.row slot (filled m))) (get_or-set_same b.row slot (filled m) Unused p.0);
    }

none_more : (n : ℕ) → 0 + n ≡ n
none_more n = omega arith

stored_regular : (kept : Bool) (e : Entry) (ch : Channel) → IsPast e.id ch.backlog.last → IsRegular ch → IsRegular (kept_channel kept e ch)
stored_regular true e ch p r = record {
  rises = rising-push (entries_of ch) e r.rises (past_all e.id ch.backlog.last (entries_of ch) p r.below);
  below = all_append (λ x. is_past x.id e.id ≡ false) (entries_of ch) (e ∷ []) (below_all e.id ch.backlog.last (entries_of ch) p r.below) (self_case e.id, tt);
}
stored_regular false e ch p r = record { rises = r.rises; below = below_all e.id ch.backlog.last (entries_of ch) p r.below }

one_slot : (s slot : ℕ) (xs : List Entry) (e : Entry) → e.slot ≡ slot → times s (slots_in (xs ++ e ∷ [])) ≡ times s (slots_in xs) + bit (eqb slot s)
one_slot s slot xs e is = ap (times s) (slots_append xs (e ∷ [])) ∙ times-append s (slots_in xs) (slots_in (e ∷ [])) ∙ (let h : bit (eqb e.slot s) ≡ bit (eqb slot s) = ap (λ k. bit (eqb k s)) is in omega arith)

pub stored_as_fits : (kept : Bool) (rest : List Entry) (o : Order) (slot : ℕ) (b : Bench) → Told rest o slot b → BenchFits rest b → BenchFits rest (stored_as kept o slot b)
stored_as_fits true rest o slot b t f =
    let e = entry_of o (stamp b) slot b.desk.clock (length b.channel.marks) in
    let row2 = told_row (message_of_order (stamp b) o b.desk.clock) slot b.channel.marks b.row in
    let keeps = λ (s : ℕ) (lt : 0 < times s (slots_in rest) + times s (slots_in (entries_of b.channel))). t.others s (t.same s lt) in
    record {
      slots = t.slots;
      apart = agrees-same _ _ _ _ row2 (λ s. omega (arith, one_slot s slot (entries_of b.channel) e refl)) (λ s. refl) t.apart;
      number = omega (arith, f.number, length-append (entries_of b.channel) (e ∷ []));
      others = in_where b.row row2 rest (λ s lt. keeps s (omega (arith, lt))) f.others;
      kept = all_append (λ x. IsIn (slot_at row2 x.slot) x) (entries_of b.channel) (e ∷ [])
          (in_where b.row row2 (entries_of b.channel) (λ s lt. keeps s (omega (arith, lt))) f.kept)
          (subst (λ (x : Slot Message). IsIn x e) (sym t.here) (refl, refl, none_more (length b.channel.marks)), tt);
      regular = stored_regular true e b.channel (next-past (max b.desk.clock b.desk.floor) b.channel.backlog.last) f.regular;
    }
stored_as_fits false rest o slot b t f =
    let e = entry_of o (stamp b) slot b.desk.clock (length b.channel.marks) in
    let row2 = told_row (message_of_order (stamp b) o b.desk.clock) slot b.channel.marks b.row in
    let keeps = λ (s : ℕ) (lt : 0 < times s (slots_in rest) + times s (slots_in (entries_of b.channel))).
    get_or-set_other row2 slot s (retired (slot_at row2 slot)) Unused (t.same s lt) ∙ t.others s (t.same s lt) in
    record {
      slots = length-set row2 slot (retired (slot_at row2 slot)) ∙ t.slots;
      apart = agrees-same _ _ _ _ (leaves_row row2 slot) (λ s. refl) (λ s. sym (times-insert s b.desk.retired (place_above slot b.desk.retired) slot))
          (left_one (λ k. times k (slots_in rest) + times k (slots_in (entries_of b.channel))) (λ k. times k b.desk.retired) row2 slot t.apart);
      number = f.number;
      others = in_where b.row (leaves_row row2 slot) rest (λ s lt. keeps s (omega (arith, lt))) f.others;
      kept = in_where b.row (leaves_row row2 slot) (entries_of b.channel) (λ s lt. keeps s (omega (arith, lt))) f.kept;
      regular = stored_regular false e b.channel (next-past (max b.desk.clock b.desk.floor) b.channel.backlog.last) f.regular;
    }

pub stored_fits : (rest : List Entry) (o : Order) (slot : ℕ) (b : Bench) → lowest_unused b.row ≡ Some slot → BenchFits rest b → BenchFits rest (stored_bench o slot b)
stored_fits rest o slot b low f = stored_as_fits (not (o.length == 0)) rest o slot b (told_fits rest o slot b low f) f
