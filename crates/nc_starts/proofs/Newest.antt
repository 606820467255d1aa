-- Where one starts behind the newest messages of its list.
use Rattle.std.proofs.Common.{◌≡◌, ◌⊎◌, inl, inr, ℕ, zero, suc, ◌<◌, ◌≤◌, ◌≤ℤ◌, ℤ, pos, negsuc, Bool, true, false, cond, List, [], ◌∷◌, ◌++◌, map, get_or, slice_get, Some, refl, sym, ap, ◌∙◌, subst, arith, append_assoc}
use Rattle.std.specs.Prelude.{◌==◌}
use Rattle.std.specs.List.{AllByRecursion}
use Rattle.std.proofs.lemmas.Bool.{eqb-true}
use Rattle.std.proofs.lemmas.Int.{ints}
use Rattle.nc_types.specs.Id.{Id, IsPast}
use Rattle.nc_types.specs.Cursor.{CursorAt, cursor_id}
use Rattle.nc_types.specs.Channel.{owner_of}
use Rattle.nc_journal.specs.History.{Along, own}
use Rattle.nc_journal.specs.Stamp.{floor_of, StampedAt, IsStamped, last_of}
use Rattle.nc_journal.specs.Message.{Message, published}
use Rattle.nc_journal.specs.declared.event.Event.{Event}
use Rattle.nc_journal.specs.declared.event.Event.TheVariants.{Edged}
use Rattle.nc_journal.proofs.Cuts.{all-weaker, all-both, all-right}
use Rattle.nc_journal.proofs.Buffers.{published-append}
use Rattle.nc_journal.proofs.Ids.{IsAtMost}
use Rattle.nc_journal.proofs.Rising.{published-below, IsUpToLast}
use Rattle.nc_owner_laws.specs.InOrder.{LooksAt}
use Rattle.nc_rests.proofs.Histories.{along_older}
use Rattle.nc_rests.proofs.Stamps.{floor_later, IsFrom, later_from}
use Rattle.nc_journal.specs.Edges.{IsEdge, Edges, One, Two}
use Rattle.nc_journal.specs.Newest.{greatest_time, tag_within, cursor_behind, StartsBehind}
use Rattle.nc_starts.specs.Newest.{NewestStarts}
use Rattle.nc_starts.proofs.Behind.{later_past_last}
use Rattle.nc_starts.proofs.Edges.{EdgeTells, along_own, edge_tells}

-- ---- the cursor at a place

greatest_at : (lasts : List Id) (j : ℕ) (last : Id) → slice_get lasts j ≡ Some last → last.time ≤ greatest_time lasts
greatest_at [] j last at = absurd cc
greatest_at (x ∷ lasts) zero last at = let same : x ≡ last = cc in omega (arith, ap (λ (y : Id). y.time) same)
greatest_at (x ∷ lasts) (suc j) last at = omega (arith, greatest_at lasts j last at)

tag_at : (f : Id → ℤ) (lasts : List Id) (j : ℕ) (last : Id) → slice_get lasts j ≡ Some last → get_or (map f lasts) j (negsuc 0) ≡ f last
tag_at f [] j last at = absurd cc
tag_at f (x ∷ lasts) zero last at = let same : x ≡ last = cc in ap f same
tag_at f (x ∷ lasts) (suc j) last at = tag_at f lasts j last at

-- an id has a time, and the tag of a last id where that has this time
record IsWithin (time : ℕ) (last at : Id) : Type 0 where
  most : last.time ≤ time
  same_time : at.time ≡ time
  same_tag : at.tag ≡ tag_within time last

within_cursor : (lasts : List Id) (j : ℕ) (last : Id) → slice_get lasts j ≡ Some last → IsWithin (greatest_time lasts) last (cursor_id (cursor_behind lasts) j)
within_cursor lasts j last at = record { most = greatest_at lasts j last at; same_time = refl; same_tag = tag_at (tag_within (greatest_time lasts)) lasts j last at }

tag_case : (b : Bool) (time : ℕ) (last at : Id) → (last.time == time) ≡ b → last.time ≤ time → at.time ≡ time → at.tag ≡ cond b last.tag (negsuc 0) → ((b ≡ true) × (at ≡ last)) ⊎ ((last.time < time) × (at.tag ≡ negsuc 0))
tag_case true time last at is le t g = inl (refl, λ i. record { time = (t ∙ sym (eqb-true last.time time is)) i; tag = g i })
tag_case false time last at is le t g = inr (below last.time time is le, g)
  where
    below : (a b : ℕ) → (a == b) ≡ false → a ≤ b → a < b
    below a b other le = grind arith

within_case : (time : ℕ) (last at : Id) → IsWithin time last at → (at ≡ last) ⊎ ((last.time < time) × (at.tag ≡ negsuc 0))
within_case time last at k = go (tag_case (last.time == time) time last at refl k.most k.same_time k.same_tag)
  where
    go : (((last.time == time) ≡ true) × (at ≡ last)) ⊎ ((last.time < time) × (at.tag ≡ negsuc 0)) → (at ≡ last) ⊎ ((last.time < time) × (at.tag ≡ negsuc 0))
    go (inl x) = inl x.1
    go (inr x) = inr x

not_past : (m last at : Id) (time : ℕ) → IsAtMost m last → at.time ≡ time → (at ≡ last) ⊎ ((last.time < time) × (at.tag ≡ negsuc 0)) → IsPast m at → ⊥
not_past m last at time le t (inl same) past = apart m last le (subst (IsPast m) same past)
  where
    apart : (a b : Id) → IsAtMost a b → IsPast a b → ⊥
    apart a b le past = grind (arith, ints)
not_past m last at time le t (inr below) past = grind (arith, ints)

is_past_at : (m last at : Id) (time : ℕ) → IsPast m last → time ≤ m.time → pos 0 ≤ℤ m.tag → at.time ≡ time → (at ≡ last) ⊎ ((last.time < time) × (at.tag ≡ negsuc 0)) → IsPast m at
is_past_at m last at time past le tag t (inl same) = subst (IsPast m) (sym same) past
is_past_at m last at time past le tag t (inr below) = grind (arith, ints)

-- ---- before the first edge, and behind the last one

before_edge : (workers : ℕ) (c : List ℕ) (floor : ℕ) (last at : Id) (time : ℕ) (seen : List Event) → IsStamped workers seen → EdgeTells workers c floor last seen → IsWithin time last at → AllByRecursion (λ m. IsPast m.id at → ⊥) (published c seen)
before_edge workers c floor last at time seen stamped tells k =
    all-weaker (IsUpToLast workers c seen) (λ m. IsPast m.id at → ⊥) (λ m le. not_past m.id last at time (subst (IsAtMost m.id) (sym tells.last_then) le) k.same_time (within_case time last at k)) (published c seen) (published-below workers c seen stamped)

push_cut : (newer since : List Event) (e : Event) (seen : List Event) → newer ++ (since ++ e ∷ seen) ≡ (newer ++ since) ++ e ∷ seen
push_cut newer since e seen = sym (append_assoc newer since (e ∷ seen))

edge_stores_nothing : (o w k : ℕ) (c d : List ℕ) (floor : ℕ) (last : Id) (edge : Event) → IsEdge o w k c floor last edge → published d (edge ∷ []) ≡ []
edge_stores_nothing o w k c d floor last (Edged v q from number n x f l) is = refl
edge_stores_nothing o w k c d floor last edge is = absurd is

-- what is stored behind an edge is past its last id; and at or above its floor
past_edge : (workers w k : ℕ) (c : List ℕ) (floor : ℕ) (last : Id) (newer : List Event) (edge : Event) (seen : List Event) → IsStamped workers (newer ++ edge ∷ seen) → IsEdge (owner_of workers c) w k c floor last edge → EdgeTells workers c floor last seen → AllByRecursion (λ m. IsPast m.id last) (published c newer)
past_edge workers w k c floor last newer edge seen stamped is tells =
    subst (λ (x : Id). AllByRecursion (λ m. IsPast m.id x) (published c newer)) (sym tells.last_then)
    (all-right (λ m. IsPast m.id (last_of c (own (owner_of workers c) seen))) (published c (edge ∷ [])) (published c newer)
    (subst (AllByRecursion (λ m. IsPast m.id (last_of c (own (owner_of workers c) seen)))) (published-append c newer (edge ∷ []))
    (later_past_last workers c (newer ++ edge ∷ []) seen (subst (IsStamped workers) (sym (append_assoc newer (edge ∷ []) seen)) stamped))))

from_edge : (workers : ℕ) (c : List ℕ) (floor time : ℕ) (last : Id) (newer : List Event) (edge : Event) (seen : List Event) → IsStamped workers (newer ++ edge ∷ seen) → EdgeTells workers c floor last seen → time ≤ floor → AllByRecursion (IsFrom time) (published c newer)
from_edge workers c floor time last newer edge seen stamped tells le =
    later_from workers c time newer (edge ∷ seen) stamped (fence (floor_later (owner_of workers c) (edge ∷ []) seen))
  where
    fence : floor_of (own (owner_of workers c) seen) ≤ floor_of (own (owner_of workers c) (edge ∷ seen)) → time ≤ floor_of (own (owner_of workers c) (edge ∷ seen))
    fence rose = omega (arith, rose, le, tells.floor_then)

after_edges : (c : List ℕ) (last at : Id) (time : ℕ) (ms : List Message) → IsWithin time last at → AllByRecursion (λ m. IsPast m.id last) ms → AllByRecursion (IsFrom time) ms → AllByRecursion (λ m. IsPast m.id at) ms
after_edges c last at time ms k past from = all-both (λ m. IsPast m.id last) (IsFrom time) (λ m. IsPast m.id at) (λ m p f. is_past_at m.id last at time p f.0 f.1 k.same_time (within_case time last at k)) ms past from

starts_behind : (workers w k : ℕ) (c : List ℕ) (time : ℕ) (last at : Id) (newer older : List Event) (e : Edges workers w k c time last older) → IsStamped workers (newer ++ older) → Along LooksAt (own (owner_of workers c) older) → IsWithin time last at → StartsBehind workers w k c time last at newer older e
starts_behind workers w k c time last at newer older (One since edge seen floor place is fence a b) stamped tells within =
    let told = edge_tells workers w k c floor last since edge seen (subst (λ (l : List Event). Along LooksAt (own (owner_of workers c) l)) place tells) is in
    let all : IsStamped workers ((newer ++ since) ++ edge ∷ seen) = subst (IsStamped workers) (ap (λ (l : List Event). newer ++ l) place ∙ push_cut newer since edge seen) stamped in
    let early : IsStamped workers seen = (along_older (StampedAt workers) (newer ++ since) (edge ∷ seen) all).0 in
    record {
      before = before_edge workers c floor last at time seen early told within;
      later = after_edges c last at time (published c (newer ++ since)) within (past_edge workers w k c floor last (newer ++ since) edge seen all is told) (from_edge workers c floor time last (newer ++ since) edge seen all told fence);
    }
starts_behind workers w k c time last at newer older (Two since second between edge seen floor floor_late last_late place is is_late below fence a b d) stamped tells within =
    let rest = between ++ edge ∷ seen in
    let local : Along LooksAt (own (owner_of workers c) (since ++ second ∷ rest)) = subst (λ (l : List Event). Along LooksAt (own (owner_of workers c) l)) place tells in
    let told_late = edge_tells workers w k c floor_late last_late since second rest local is_late in
    let local_rest : Along LooksAt (own (owner_of workers c) (second ∷ rest)) = along_own (owner_of workers c) LooksAt since (second ∷ rest) local in
    let told = edge_tells workers w k c floor last (second ∷ between) edge seen local_rest is in
    let all : IsStamped workers ((newer ++ since) ++ second ∷ rest) = subst (IsStamped workers) (ap (λ (l : List Event). newer ++ l) place ∙ push_cut newer since second rest) stamped in
    let first : IsStamped workers (((newer ++ since) ++ second ∷ between) ++ edge ∷ seen) = subst (IsStamped workers) (sym (append_assoc (newer ++ since) (second ∷ between) (edge ∷ seen))) all in
    let early : IsStamped workers seen = (along_older (StampedAt workers) ((newer ++ since) ++ second ∷ between) (edge ∷ seen) first).0 in
    let past : AllByRecursion (λ m. IsPast m.id last) (published c ((newer ++ since) ++ second ∷ between)) = past_edge workers w k c floor last ((newer ++ since) ++ second ∷ between) edge seen first is told in
    record {
      before = before_edge workers c floor last at time seen early told within;
      later = after_edges c last at time (published c (newer ++ since)) within
          (all-right (λ m. IsPast m.id last) (published c (second ∷ between)) (published c (newer ++ since)) (subst (AllByRecursion (λ m. IsPast m.id last)) (published-append c (newer ++ since) (second ∷ between)) past))
          (from_edge workers c floor_late time last_late (newer ++ since) second rest all told_late fence);
    }

pub newest_starts : NewestStarts
newest_starts workers w k list cur newer older stamped tells s = record {
  starts = s;
  behind = λ j c last at_list at_lasts. starts_behind workers w k c cur.time last (cursor_id cur j) newer older (s.edges j c last at_list at_lasts) stamped (tells (owner_of workers c))
      (subst (λ (x : CursorAt). IsWithin x.time last (cursor_id x j)) (sym s.cursor) (within_cursor s.lasts j last at_lasts));
}
