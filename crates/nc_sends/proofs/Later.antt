-- A send that was lawful when it was made stays so, and its fences too.
use Rattle.std.specs.Prelude.{bytes_eq}
use Rattle.std.proofs.Common.{◌≡◌, ◌⊎◌, inl, inr, ℕ, ◌≤◌, Bool, true, false, cond, List, [], ◌∷◌, ◌++◌, slice_get, Some, refl, sym, ap, ◌∙◌, subst, arith, append_assoc}
use Rattle.std.specs.List.{AllByRecursion}
use Rattle.std.specs.Cmp.Lexicographic.{same_text}
use Rattle.nc_types.specs.Id.{Id, IsPast}
use Rattle.nc_types.specs.Cursor.{moved, CursorAt, cursor_id}
use Rattle.nc_types.specs.Channel.{owner_of}
use Rattle.nc_journal.specs.History.{Along, own}
use Rattle.nc_journal.specs.Stamp.{floor_of, StampedAt, IsStamped}
use Rattle.nc_journal.specs.Message.{Message, published, buffer, stored_message}
use Rattle.nc_journal.specs.Standing.{Stage, Standing, stage_of}
use Rattle.nc_journal.specs.Sending.{SentFrom, IsSpared, RestsOnLook, IsSentFrom, HasId, SentAt}
use Rattle.nc_journal.specs.declared.event.Event.{Event}
use Rattle.nc_journal.specs.declared.event.Event.TheVariants.{Stored, Sent}
use Rattle.nc_journal.proofs.Cuts.{all-weaker, all-append, cut-push}
use Rattle.nc_journal.proofs.Buffers.{published-push, published-append, buffer-in, has-append-left, has-append-right}
use Rattle.nc_journal.proofs.Rising.{stored-past}
use Rattle.nc_rests.proofs.Histories.{along_at}
use Rattle.nc_rests.proofs.Lists.{all_at, same_name}
use Rattle.nc_rests.proofs.Stamps.{floor_later, IsFrom, stores_from}
use Rattle.nc_sends.specs.Fences.{AreFenced, IsFencedFor, FencedAt, FencedSince, FencesStay}
use Rattle.nc_sends.specs.Stays.{SendsStay}
use Rattle.nc_sends.proofs.Moves.{Moves, Here, Same, Blank, moves}
use Rattle.nc_sends.proofs.Spared.{spared_same, past_blank, has_all}

-- ---- fences

fenced_more : (workers time : ℕ) (list : List (List ℕ)) (newer older : List Event) → AreFenced workers time list older → AreFenced workers time list (newer ++ older)
fenced_more workers time list newer older f = all-weaker (λ d. time ≤ floor_of (own (owner_of workers d) older)) (λ d. time ≤ floor_of (own (owner_of workers d) (newer ++ older))) (λ d le. omega (arith, le, floor_later (owner_of workers d) newer older)) list f

fenced_for : (workers : ℕ) (cur : CursorAt) (newer older : List Event) (s : Stage) → IsFencedFor workers cur older s → IsFencedFor workers cur (newer ++ older) s
fenced_for workers cur newer older (Standing list once old) f = fenced_more workers cur.time list newer older f
fenced_for workers cur newer older s f = tt

pub push_cut : (newer : List Event) (e : Event) (older : List Event) → (newer ++ e ∷ []) ++ older ≡ newer ++ e ∷ older
push_cut newer e older = append_assoc newer (e ∷ []) older

fenced_since : (workers : ℕ) (newer : List Event) (e : Event) (older : List Event) → FencedAt workers older e → FencedSince workers newer e older
fenced_since workers newer (Sent w k i c id cur looks) older f =
    subst (λ (l : List Event). IsFencedFor workers cur l (stage_of k (own w older))) (push_cut newer (Sent w k i c id cur looks) older) (fenced_for workers cur (newer ++ Sent w k i c id cur looks ∷ []) older (stage_of k (own w older)) f)
fenced_since workers newer e older f = tt

pub fences_stay : FencesStay
fences_stay workers h f newer e older is = fenced_since workers newer e older (along_at (FencedAt workers) newer e older (subst (Along (FencedAt workers)) is f))

-- ---- one message more

-- the message that an event stores is past each published one of its channel
pub stores_past : (workers : ℕ) (d : List ℕ) (id : Id) (e : Event) (h : List Event) → IsStamped workers h → StampedAt workers h e → HasId (published d h) id → AllByRecursion (λ m. IsPast m.id id) (published d (e ∷ []))
stores_past workers d id (Stored w c new slot len exp kept members from r ct body) h stamped at there = by_name (bytes_eq c d) refl
  where
    by_name : (same : Bool) → bytes_eq c d ≡ same → AllByRecursion (λ m. IsPast m.id id) (cond same ([] ++ stored_message new slot exp ct body ∷ []) [])
    by_name true is = (has_all (λ old. IsPast new old) (published d h) id (subst (λ (n : List ℕ). AllByRecursion (λ m. IsPast new m.id) (published n h)) (same_text c d (sym is)) (stored-past workers w c new h stamped at)) there, tt)
    by_name false is = tt
stores_past workers d id e h stamped at there = tt

rests_published : (workers w q : ℕ) (c : List ℕ) (id : Id) (d : List ℕ) (old new : Id) (newer older : List Event) → RestsOnLook workers w q c id d old new newer older → d ≡ c → HasId (published d older) id
rests_published workers w q c id d old new newer older k same =
    subst (λ (l : List Event). HasId (published d l) id) (sym k.place) (subst (λ ms. HasId ms id) (sym (published-append d k.since (k.look ∷ k.seen))) (by (k.found same)))
  where
    by : HasId (buffer d k.seen) id ⊎ HasId (published d k.since) id → HasId (published d (k.look ∷ k.seen) ++ published d k.since) id
    by (inl there) = has-append-left (published d (k.look ∷ k.seen)) (published d k.since) id
        (subst (λ ms. HasId ms id) (sym (published-push d k.look k.seen)) (has-append-left (published d k.seen) (published d (k.look ∷ [])) id (buffer-in d id k.seen there)))
    by (inr there) = has-append-right (published d (k.look ∷ k.seen)) (published d k.since) id there

rests_more : (workers w q : ℕ) (c : List ℕ) (id : Id) (d : List ℕ) (old new : Id) (e : Event) (newer older : List Event) → RestsOnLook workers w q c id d old new newer older → AllByRecursion (IsSpared c id d old new) (published d (e ∷ [])) → RestsOnLook workers w q c id d old new (e ∷ newer) older
rests_more workers w q c id d old new e newer older k spared = record {
  since = k.since;
  look = k.look;
  seen = k.seen;
  place = k.place;
  is_look = k.is_look;
  buffered = k.buffered;
  later = subst (AllByRecursion (IsSpared c id d old new)) (sym (published-push d e (newer ++ k.since))) (all-append (IsSpared c id d old new) (published d (newer ++ k.since)) (published d (e ∷ [])) k.later spared);
  found = k.found;
}

-- what is stored next is spared at each place
next_spared : (c : List ℕ) (id : Id) (d : List ℕ) (old : CursorAt) (i j : ℕ) (new : Id) (ms : List Message) → Moves old i j id new → AllByRecursion (IsFrom id.time) ms → (j ≡ i → AllByRecursion (λ m. IsPast m.id id) ms) → AllByRecursion (IsSpared c id d (cursor_id old j) new) ms
next_spared c id d old i j new ms (Here is at) from past = all-weaker (λ m. IsPast m.id id) (IsSpared c id d (cursor_id old j) new) (λ m p. inr (inr (subst (λ (x : Id). IsPast m.id x) (sym at) p))) ms (past is)
next_spared c id d old i j new ms (Same at) from past = all-weaker (IsFrom id.time) (IsSpared c id d (cursor_id old j) new) (λ m f. subst (λ (x : Id). IsSpared c id d (cursor_id old j) x m) (sym at) (spared_same c id d (cursor_id old j) m)) ms from
next_spared c id d old i j new ms (Blank at) from past = all-weaker (IsFrom id.time) (IsSpared c id d (cursor_id old j) new) (λ m f. inr (inr (past_blank id new m.id at f.0 f.1))) ms from

-- a message that is stored later is spared by a sent that is fenced
sent_more : (workers w i : ℕ) (c : List ℕ) (id : Id) (cur : CursorAt) (looks : List ℕ) (list : List (List ℕ)) (old : CursorAt) (e : Event) (newer : List Event) (x : Event) (older : List Event)
    → IsStamped workers (newer ++ x ∷ older) → StampedAt workers (newer ++ x ∷ older) e → AreFenced workers cur.time list older
    → IsSentFrom workers w i c id cur looks list old newer older → IsSentFrom workers w i c id cur looks list old (e ∷ newer) older
sent_more workers w i c id cur looks list old e newer x older stamped at fenced k = record {
  channel = k.channel;
  past = k.past;
  cursor = k.cursor;
  looks_each = k.looks_each;
  rests = λ j d q at_j look_j. rests_more workers w q c id d (cursor_id old j) (cursor_id cur j) e newer older (k.rests j d q at_j look_j) (spared j d q at_j look_j);
}
  where
    time_is : cur.time ≡ id.time
    time_is = ap (λ (y : CursorAt). y.time) k.cursor

    spared : (j : ℕ) (d : List ℕ) (q : ℕ) → slice_get list j ≡ Some d → slice_get looks j ≡ Some q → AllByRecursion (IsSpared c id d (cursor_id old j) (cursor_id cur j)) (published d (e ∷ []))
    spared j d q at_j look_j =
        let h = newer ++ x ∷ older in
        let floor : cur.time ≤ floor_of (own (owner_of workers d) older) = all_at (λ n. cur.time ≤ floor_of (own (owner_of workers n) older)) list j d fenced at_j in
        let rose : floor_of (own (owner_of workers d) older) ≤ floor_of (own (owner_of workers d) h) = subst (λ (l : List Event). floor_of (own (owner_of workers d) older) ≤ floor_of (own (owner_of workers d) l)) (push_cut newer x older) (floor_later (owner_of workers d) (newer ++ x ∷ []) older) in
        let from : AllByRecursion (IsFrom id.time) (published d (e ∷ [])) = all-weaker (IsFrom (floor_of (own (owner_of workers d) h))) (IsFrom id.time) (λ m f. (omega (arith, floor, rose, time_is, f.0), f.1)) (published d (e ∷ [])) (stores_from workers d e h stamped at) in
        let here : j ≡ i → HasId (published d h) id = λ is. subst (λ ms. HasId ms id) (sym (ap (published d) (sym (push_cut newer x older)) ∙ published-append d (newer ++ x ∷ []) older)) (has-append-left (published d older) (published d (newer ++ x ∷ [])) id (rests_published workers w q c id d (cursor_id old j) (cursor_id cur j) newer older (k.rests j d q at_j look_j) (same_name list i j c d k.channel at_j is))) in
        subst (λ (y : CursorAt). AllByRecursion (IsSpared c id d (cursor_id old j) (cursor_id y j)) (published d (e ∷ []))) (sym k.cursor)
        (next_spared c id d old i j (cursor_id (moved old i id) j) (published d (e ∷ [])) (moves old i j id) from (λ is. stores_past workers d id e h stamped at (here is)))

from_more : (workers w i : ℕ) (c : List ℕ) (id : Id) (cur : CursorAt) (looks : List ℕ) (e : Event) (newer : List Event) (x : Event) (older : List Event) (s : Stage)
    → IsStamped workers (newer ++ x ∷ older) → StampedAt workers (newer ++ x ∷ older) e → IsFencedFor workers cur older s → SentFrom workers w i c id cur looks newer older s → SentFrom workers w i c id cur looks (e ∷ newer) older s
from_more workers w i c id cur looks e newer x older (Standing list once old) stamped at fenced k = sent_more workers w i c id cur looks list old e newer x older stamped at fenced k
from_more workers w i c id cur looks e newer x older s stamped at fenced k = absurd k

at_more : (workers : ℕ) (e : Event) (newer : List Event) (x : Event) (older : List Event) → IsStamped workers (newer ++ x ∷ older) → StampedAt workers (newer ++ x ∷ older) e → FencedAt workers older x → SentAt workers newer x older → SentAt workers (e ∷ newer) x older
at_more workers e newer (Sent w k i c id cur looks) older stamped at fenced sent = from_more workers w i c id cur looks e newer (Sent w k i c id cur looks) older (stage_of k (own w older)) stamped at fenced sent
at_more workers e newer x older stamped at fenced sent = tt

none_cut : (newer : List Event) (x : Event) (older : List Event) → (let none : List Event = [] in none) ≡ newer ++ x ∷ older → ⊥
none_cut [] x older is = cc
none_cut (y ∷ newer) x older is = cc

pub sends_stay : SendsStay
sends_stay workers [] stamped sent fenced = λ newer x older is. absurd (none_cut newer x older is)
sends_stay workers (e ∷ h) stamped sent fenced =
    cut-push (SentAt workers) h e (sends_stay workers h stamped.0 sent.0 fenced.0) sent.1
    (λ newer x older is at. at_more workers e newer x older (subst (IsStamped workers) is stamped.0) (subst (λ (l : List Event). StampedAt workers l e) is stamped.1) (along_at (FencedAt workers) newer x older (subst (Along (FencedAt workers)) is fenced.0)) at)
