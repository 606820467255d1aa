-- What stands in its owner's local history, in the whole one: a look, and a message that was found.
use Rattle.std.proofs.Common.{◌≡◌, ◌⊎◌, inl, inr, ℕ, true, List, [], ◌∷◌, ◌++◌, find, Option, None, Some, refl, sym, ap, ◌∙◌, subst}
use Rattle.std.specs.List.{AllByRecursion}
use Rattle.std.specs.Option.{option_map}
use Rattle.nc_types.specs.Id.{Id, IsPast, is_past}
use Rattle.nc_types.specs.Channel.{owner_of}
use Rattle.nc_journal.specs.History.{Along, own}
use Rattle.nc_journal.specs.Stamp.{floor_of, StampedAt, IsStamped}
use Rattle.nc_journal.specs.Message.{Message, published, buffer, first_past, IsRising}
use Rattle.nc_journal.specs.Sending.{IsLook, HasId}
use Rattle.nc_journal.specs.declared.event.Event.{Event}
use Rattle.nc_journal.specs.declared.event.Event.TheVariants.{Looked}
use Rattle.nc_journal.proofs.Cuts.{all-weaker, all-left, all-right}
use Rattle.nc_journal.proofs.Buffers.{published-push, published-append, IsBeside, find-first, find-none, buffer-in, has-append-left, has-append-right}
use Rattle.nc_journal.proofs.Ids.{past_of_test}
use Rattle.nc_journal.proofs.Rising.{ids-rise}
use Rattle.nc_owner_laws.specs.InOrder.{TellsThen, LooksAt}
use Rattle.nc_rests.specs.Rests.{LookAt, BeginsWith, IsFound, AtLook, Behind}
use Rattle.nc_rests.specs.Owners.{IsByOwner, Owners}
use Rattle.nc_rests.proofs.Histories.{along_at, along_older}
use Rattle.nc_rests.proofs.Locals.{cut_of, published_own, buffer_own}

-- ---- a look

-- look q that worker w made at a channel past an id, in the whole history, with its local place
pub record LookIn (workers w q : ℕ) (c : List ℕ) (after : Id) (floor : ℕ) (found : Option Id) (h : List Event) (newer : List Event) : Type 0 where
  pub number : ℕ
  pub since : List Event
  pub seen : List Event
  pub place : h ≡ since ++ Looked (owner_of workers c) q w number c after floor found ∷ seen
  pub since_own : published c since ≡ published c newer
  pub floor_then : floor ≡ floor_of (own (owner_of workers c) seen)
  pub first_then : found ≡ option_map (λ m. m.id) (first_past c after seen)

pub look_in : (workers w q : ℕ) (c : List ℕ) (after : Id) (floor : ℕ) (found : Option Id) (h : List Event) → Owners workers h → (k : LookAt (owner_of workers c) w q c after floor found (own (owner_of workers c) h)) → LookIn workers w q c after floor found h k.since
look_in workers w q c after floor found h g k =
    let o = owner_of workers c in
    let x = Looked o q w k.number c after floor found in
    let cut = cut_of o h x k.since k.seen k.place in
    let by : AllByRecursion (IsByOwner workers) (cut.since ++ x ∷ cut.seen) = subst (AllByRecursion (IsByOwner workers)) cut.place g.by_owner in
    let tells : TellsThen c after floor found k.seen = along_at LooksAt k.since x k.seen (subst (Along LooksAt) k.place (g.looks o)) in
    let tells_then : TellsThen c after floor found (own o cut.seen) = subst (TellsThen c after floor found) (sym cut.own_seen) tells in
    let seen_by : AllByRecursion (IsByOwner workers) (x ∷ cut.seen) = all-right (IsByOwner workers) cut.since (x ∷ cut.seen) by in
    record {
      number = k.number;
      since = cut.since;
      seen = cut.seen;
      place = cut.place;
      since_own = sym (published_own workers c cut.since (all-left (IsByOwner workers) cut.since (x ∷ cut.seen) by)) ∙ ap (published c) cut.own_since;
      floor_then = tells_then.floor_then;
      first_then = tells_then.first_then ∙ ap (λ ms. option_map (λ m. m.id) (find (λ m. is_past m.id after) ms)) (buffer_own workers c cut.seen seen_by.1);
    }

pub option_none : (o : Option Message) → None ≡ option_map (λ m. m.id) o → o ≡ None
option_none None e = refl
option_none (Some m) e = absurd cc

pub option_some : (id : Id) (o : Option Message) → Some id ≡ option_map (λ m. m.id) o → (m : Message) × (o ≡ Some m) × (m.id ≡ id)
option_some id None e = absurd cc
option_some id (Some m) e = let same : id ≡ m.id = cc in (m, refl, sym same)

pub stamped_seen : (workers : ℕ) (h since : List Event) (x : Event) (seen : List Event) → IsStamped workers h → h ≡ since ++ x ∷ seen → IsStamped workers (x ∷ seen)
stamped_seen workers h since x seen stamped place = along_older (StampedAt workers) since (x ∷ seen) (subst (IsStamped workers) place stamped)

-- ---- a message

rising_across : (xs ys : List Message) (id : Id) → IsRising (xs ++ ys) → HasId xs id → AllByRecursion (λ m. IsPast m.id id) ys
rising_across [] ys id rises there = absurd there
rising_across (x ∷ xs) ys id rises (inl same) = subst (λ (z : Id). AllByRecursion (λ m. IsPast m.id z) ys) same (all-right (λ m. IsPast m.id x.id) xs ys rises.0)
rising_across (x ∷ xs) ys id rises (inr there) = rising_across xs ys id rises.1 there

pub rising_after : (xs ys : List Message) → IsRising (xs ++ ys) → IsRising ys
rising_after [] ys rises = rises
rising_after (x ∷ xs) ys rises = rising_after xs ys rises.1

-- the message that a place found, in the whole history
pub record FoundIn (workers w q : ℕ) (d : List ℕ) (after m : Id) (h : List Event) : Type 0 where
  pub since : List Event
  pub look : Event
  pub seen : List Event
  pub place : h ≡ since ++ look ∷ seen
  pub is_look : IsLook (owner_of workers d) q w d after look
  pub buffered : AllByRecursion (IsBeside after m) (buffer d seen)
  pub later : AllByRecursion (IsBeside after m) (published d since)
  pub has : HasId (buffer d seen) m ⊎ HasId (published d since) m
  pub past : IsPast m after

pub rises_in : (workers : ℕ) (d : List ℕ) (h since : List Event) (x : Event) (seen : List Event) → IsStamped workers h → h ≡ since ++ x ∷ seen → IsRising (published d (x ∷ seen) ++ published d since)
rises_in workers d h since x seen stamped place = subst IsRising (ap (published d) place ∙ published-append d since (x ∷ seen)) (ids-rise workers h stamped d)

pub found_at_look : (workers w q : ℕ) (d : List ℕ) (after m : Id) (floor : ℕ) (h newer : List Event) → IsStamped workers h → LookIn workers w q d after floor (Some m) h newer → FoundIn workers w q d after m h
found_at_look workers w q d after m floor h newer stamped k =
    let x = Looked (owner_of workers d) q w k.number d after floor (Some m) in
    let got = option_some m (first_past d after k.seen) k.first_then in
    let first = find-first d after got.0 k.seen got.1 in
    let stamped_then : IsStamped workers (x ∷ k.seen) = stamped_seen workers h k.since x k.seen stamped k.place in
    let has : HasId (buffer d k.seen) m = subst (HasId (buffer d k.seen)) got.2 first.0 in
    let past : is_past m after ≡ true = subst (λ (z : Id). is_past z after ≡ true) got.2 first.1 in
    let beside : AllByRecursion (IsBeside after m) (buffer d k.seen) = subst (λ (z : Id). AllByRecursion (IsBeside after z) (buffer d k.seen)) got.2 (first.2 (ids-rise workers k.seen stamped_then.0 d)) in
    record {
      since = k.since;
      look = x;
      seen = k.seen;
      place = k.place;
      is_look = (refl, refl, refl, refl, refl);
      buffered = beside;
      later = all-weaker (λ y. IsPast y.id m) (IsBeside after m) (λ y p. inr (inr p)) (published d k.since) (rising_across (published d k.seen) (published d k.since) m (rises_in workers d h k.since x k.seen stamped k.place) (buffer-in d m k.seen has));
      has = inl has;
      past = past_of_test m after past;
    }

found_behind_look : (workers w q : ℕ) (d : List ℕ) (after m : Id) (floor : ℕ) (h newer : List Event) → IsStamped workers h → LookIn workers w q d after floor None h newer → BeginsWith m (published d newer) → IsPast m after → FoundIn workers w q d after m h
found_behind_look workers w q d after m floor h newer stamped k b past =
    let x = Looked (owner_of workers d) q w k.number d after floor None in
    let split : published d k.since ≡ b.first ∷ b.others = k.since_own ∙ b.split in
    let rises : IsRising (b.first ∷ b.others) = subst IsRising split (rising_after (published d (x ∷ k.seen)) (published d k.since) (rises_in workers d h k.since x k.seen stamped k.place)) in
    record {
      since = k.since;
      look = x;
      seen = k.seen;
      place = k.place;
      is_look = (refl, refl, refl, refl, refl);
      buffered = all-weaker (λ y. IsPast y.id after → ⊥) (IsBeside after m) (λ y p. inr (inl p)) (buffer d k.seen) (find-none d after k.seen (option_none (first_past d after k.seen) k.first_then));
      later = subst (AllByRecursion (IsBeside after m)) (sym split) (inl b.same, all-weaker (λ y. IsPast y.id b.first.id) (IsBeside after m) (λ y p. inr (inr (subst (λ (z : Id). IsPast y.id z) b.same p))) b.others rises.0);
      has = inr (subst (λ ms. HasId ms m) (sym split) (inl b.same));
      past = past;
    }

pub found_in : (workers w q : ℕ) (d : List ℕ) (after m : Id) (h : List Event) → Owners workers h → IsFound (owner_of workers d) w q d after m (own (owner_of workers d) h) → FoundIn workers w q d after m h
found_in workers w q d after m h g (AtLook floor k) = found_at_look workers w q d after m floor h k.since g.stamped (look_in workers w q d after floor (Some m) h g k)
found_in workers w q d after m h g (Behind floor k b past) = found_behind_look workers w q d after m floor h k.since g.stamped (look_in workers w q d after floor None h g k) b past

pub found_published : (workers w q : ℕ) (d : List ℕ) (after m : Id) (h : List Event) → FoundIn workers w q d after m h → HasId (published d h) m
found_published workers w q d after m h k =
    subst (λ (l : List Event). HasId (published d l) m) (sym k.place) (subst (λ ms. HasId ms m) (sym (published-append d k.since (k.look ∷ k.seen))) (by k.has))
  where
    by : HasId (buffer d k.seen) m ⊎ HasId (published d k.since) m → HasId (published d (k.look ∷ k.seen) ++ published d k.since) m
    by (inl there) = has-append-left (published d (k.look ∷ k.seen)) (published d k.since) m
        (subst (λ ms. HasId ms m) (sym (published-push d k.look k.seen)) (has-append-left (published d k.seen) (published d (k.look ∷ [])) m (buffer-in d m k.seen there)))
    by (inr there) = has-append-right (published d (k.look ∷ k.seen)) (published d k.since) m there
