-- Messages that leave their buffers, one after the other.
use Rattle.std.specs.Prelude.{bytes_eq}
use Rattle.std.proofs.Common.{◌≡◌, inl, inr, ℕ, zero, suc, Bool, true, false, cond, not, ◌||◌, ◌&&◌, List, [], ◌∷◌, ◌++◌, map, filter, take, drop, refl, ◌∙◌, ap, arith, Option}
use Rattle.std.specs.List.{AllByRecursion}
use Rattle.std.proofs.lemmas.Bool.{cond_both}
use Rattle.std.proofs.lemmas.Int.{ints}
use Rattle.std.proofs.lemmas.List.Elements.{filter-append}
use Rattle.nc_types.specs.Id.{Id, IsPast, id_eq}
use Rattle.nc_journal.specs.declared.event.Event.{Event}
use Rattle.nc_journal.specs.declared.event.Event.TheVariants.{Stored, Left, Removed}
use Rattle.nc_journal.specs.declared.word.LeftCause.{LeftCause}
use Rattle.nc_journal.specs.declared.word.LeftCause.TheVariants.{Length, Expired, Deleted, Spent}
use Rattle.nc_journal.specs.declared.word.RemovedCause.TheVariants.{Deleted as ByDeletion}
use Rattle.nc_journal.specs.History.{onto}
use Rattle.nc_journal.specs.Message.{Message, stored_message, published, is_gone, buffer, IsRising}
use Rattle.nc_journal.specs.Sending.{HasId}
use Rattle.nc_journal.specs.Leaving.{HasMessage, StandsFirst, MakesRoom, GoesNext, LeavesBy, LeftAt}
use Rattle.nc_journal.specs.Refused.{UnremovedIsRefused}
use Rattle.nc_journal.proofs.Cuts.{all-weaker}

-- ids as tests

pub id_eq-self : (a : Id) → id_eq a a ≡ true
id_eq-self a = grind (arith, ints)

pub id_eq-past : (a b : Id) → IsPast b a → id_eq a b ≡ false
id_eq-past a b past = grind (arith, ints)

pub id_eq-same : (a b : Id) → id_eq a b ≡ true → a ≡ b
id_eq-same a b same = grind (arith, ints)

pub past-irreflexive : (a : Id) → IsPast a a → ⊥
past-irreflexive a past = grind (arith, ints)

-- the messages of other ids
abbrev pub without : Id → List Message → List Message
without id ms = filter (λ m. not (id_eq id m.id)) ms

-- the messages once each of some has left
abbrev pub without_all : List Message → List Message → List Message
without_all [] ms = ms
without_all (m ∷ gone) ms = without_all gone (without m.id ms)

filter-or : {X : Type 0} (p q : X → Bool) (xs : List X) → filter (λ x. not (p x || q x)) xs ≡ filter (λ x. not (p x)) (filter (λ x. not (q x)) xs)
filter-or p q [] = refl
filter-or p q (x ∷ xs) = by_tests (p x) (q x) refl (filter-or p q xs)
  where
    by_tests : (a b : Bool) → p x ≡ a → filter (λ y. not (p y || q y)) xs ≡ filter (λ y. not (p y)) (filter (λ y. not (q y)) xs)
        → cond (not (a || b)) (x ∷ filter (λ y. not (p y || q y)) xs) (filter (λ y. not (p y || q y)) xs) ≡ filter (λ y. not (p y)) (cond (not b) (x ∷ filter (λ y. not (q y)) xs) (filter (λ y. not (q y)) xs))
    by_tests true true is rest = rest
    by_tests true false is rest = rw is rest
    by_tests false true is rest = rest
    by_tests false false is rest = rw is (ap (λ l. x ∷ l) rest)

-- a message leaves the buffer of its channel, and no other
pub buffer-left : (c : List ℕ) (w : ℕ) (d : List ℕ) (id : Id) (slot : ℕ) (cause : LeftCause) (h : List Event) → buffer c (Left w d id slot cause ∷ h) ≡ cond (bytes_eq d c) (without id (buffer c h)) (buffer c h)
buffer-left c w d id slot cause h = by_name (bytes_eq d c)
  where
    by_name : (same : Bool) → filter (λ m. not ((same && id_eq id m.id) || is_gone c m.id h)) (published c h) ≡ cond same (without id (buffer c h)) (buffer c h)
    by_name true = filter-or (λ m. id_eq id m.id) (λ m. is_gone c m.id h) (published c h)
    by_name false = refl

-- a message of an id that isn't gone is stored at the end of its channel's buffer
pub buffer-stored : (c : List ℕ) (w : ℕ) (d : List ℕ) (id : Id) (slot len exp members from r : ℕ) (ct : Option (List ℕ)) (body : List ℕ) (h : List Event) → is_gone c id h ≡ false
    → buffer c (Stored w d id slot len exp true members from r ct body ∷ h) ≡ cond (bytes_eq d c) (buffer c h ++ stored_message id slot exp ct body ∷ []) (buffer c h)
buffer-stored c w d id slot len exp members from r ct body h here = by_name (bytes_eq d c)
  where
    stays : Message → Bool
    stays m = not (is_gone c m.id h)

    by_name : (same : Bool) → filter stays (cond same (published c h ++ stored_message id slot exp ct body ∷ []) (published c h)) ≡ cond same (buffer c h ++ stored_message id slot exp ct body ∷ []) (buffer c h)
    by_name true = filter-append stays (published c h) (stored_message id slot exp ct body ∷ []) ∙ ap (λ b. buffer c h ++ cond (not b) (stored_message id slot exp ct body ∷ []) []) here
    by_name false = refl

-- some messages of channel c leave, by one cause
abbrev pub lefts : ℕ → List ℕ → LeftCause → List Message → List Event → List Event
lefts w c cause ms h = onto (map (λ m. Left w c m.id m.slot cause) ms) h

-- what no message that leaves changes
pub lefts-same : {X : Type 0} (f : List Event → X) (w : ℕ) (c : List ℕ) (cause : LeftCause) (ms : List Message) (h : List Event) → ((id : Id) (slot : ℕ) (l : List Event) → f (Left w c id slot cause ∷ l) ≡ f l) → f (lefts w c cause ms h) ≡ f h
lefts-same f w c cause [] h same = refl
lefts-same f w c cause (m ∷ ms) h same = lefts-same f w c cause ms (Left w c m.id m.slot cause ∷ h) same ∙ same m.id m.slot h

pub buffer-lefts : (d : List ℕ) (w : ℕ) (c : List ℕ) (cause : LeftCause) (ms : List Message) (h : List Event) → bytes_eq c d ≡ true → buffer d (lefts w c cause ms h) ≡ without_all ms (buffer d h)
buffer-lefts d w c cause [] h same = refl
buffer-lefts d w c cause (m ∷ ms) h same =
    buffer-lefts d w c cause ms (Left w c m.id m.slot cause ∷ h) same
    ∙ ap (without_all ms) (buffer-left d w c m.id m.slot cause h ∙ ap (λ b. cond b (without m.id (buffer d h)) (buffer d h)) same)

pub buffer-lefts-other : (d : List ℕ) (w : ℕ) (c : List ℕ) (cause : LeftCause) (ms : List Message) (h : List Event) → bytes_eq c d ≡ false → buffer d (lefts w c cause ms h) ≡ buffer d h
buffer-lefts-other d w c cause ms h other = lefts-same (buffer d) w c cause ms h (λ id slot l. buffer-left d w c id slot cause l ∙ ap (λ b. cond b (without id (buffer d l)) (buffer d l)) other)

-- messages whose ids are all past an id stay where it leaves
without-later : (id : Id) (ms : List Message) → AllByRecursion (λ later. IsPast later.id id) ms → without id ms ≡ ms
without-later id [] past = refl
without-later id (m ∷ ms) past = rw (id_eq-past id m.id past.0) (ap (λ l. m ∷ l) (without-later id ms past.1))

-- the first of messages whose ids rise leaves alone
pub without-first : (m : Message) (ms : List Message) → IsRising (m ∷ ms) → without m.id (m ∷ ms) ≡ ms
without-first m ms rises = rw (id_eq-self m.id) (without-later m.id ms rises.0)

id_eq-before : (a b : Id) → IsPast a b → id_eq a b ≡ false
id_eq-before a b past = grind (arith, ints)

-- a first message stays where later ones leave
without_all-behind : (m : Message) (gone ms : List Message) → AllByRecursion (λ later. IsPast later.id m.id) gone → without_all gone (m ∷ ms) ≡ m ∷ without_all gone ms
without_all-behind m [] ms past = refl
without_all-behind m (x ∷ gone) ms past = rw (id_eq-before x.id m.id past.0) (without_all-behind m gone (without x.id ms) past.1)

all-passed : {X : Type 0} (P : X → Type 0) (test : X → Bool) (xs : List X) → AllByRecursion P xs → AllByRecursion P (filter test xs)
all-passed P test [] h = tt
all-passed P test (x ∷ xs) h = cond_both (test x) _ _ (AllByRecursion P) (λ _. (h.0, all-passed P test xs h.1)) (λ _. all-passed P test xs h.1)

-- where those that pass a test leave, the others stay
pub without_all-filter : (test : Message → Bool) (ms : List Message) → IsRising ms → without_all (filter test ms) ms ≡ filter (λ m. not (test m)) ms
without_all-filter test [] rises = refl
without_all-filter test (m ∷ ms) rises = by_test (test m) (without_all-filter test ms rises.1)
  where
    by_test : (b : Bool) → without_all (filter test ms) ms ≡ filter (λ x. not (test x)) ms → without_all (cond b (m ∷ filter test ms) (filter test ms)) (m ∷ ms) ≡ cond (not b) (m ∷ filter (λ x. not (test x)) ms) (filter (λ x. not (test x)) ms)
    by_test true rest = ap (without_all (filter test ms)) (without-first m ms rises) ∙ rest
    by_test false rest = without_all-behind m (filter test ms) ms (all-passed (λ later. IsPast later.id m.id) test ms rises.0) ∙ ap (λ l. m ∷ l) rest

-- where the first n leave, the rest stays
pub without_all-take : (n : ℕ) (ms : List Message) → IsRising ms → without_all (take n ms) ms ≡ drop n ms
without_all-take zero ms rises = refl
without_all-take (suc n) [] rises = refl
without_all-take (suc n) (m ∷ ms) rises = ap (without_all (take n ms)) (without-first m ms rises) ∙ without_all-take n ms rises.1

-- what is found by its id and slot stays where an earlier one leaves
pub has-still : (P : Message → Type 0) (ms : List Message) (id gone : Id) (slot : ℕ) → IsPast id gone → HasMessage P ms id slot → HasMessage P (without gone ms) id slot
has-still P [] id gone slot past there = there
has-still P (m ∷ ms) id gone slot past (inl is) =
    rw (ap (id_eq gone) is.0 ∙ id_eq-past gone id past) (inl is)
has-still P (m ∷ ms) id gone slot past (inr there) = cond_both (not (id_eq gone m.id)) (m ∷ without gone ms) (without gone ms) (λ l. HasMessage P l id slot) (λ _. inr (has-still P ms id gone slot past there)) (λ _. has-still P ms id gone slot past there)

has-further : (P : Message → Type 0) (m : Message) (ms gone : List Message) → AllByRecursion (λ x. HasMessage P ms x.id x.slot) gone → AllByRecursion (λ x. HasMessage P (m ∷ ms) x.id x.slot) gone
has-further P m ms gone all = all-weaker (λ x. HasMessage P ms x.id x.slot) (λ x. HasMessage P (m ∷ ms) x.id x.slot) (λ x there. inr there) gone all

-- each of the messages that pass a test is found
pub has-passed : (test : Message → Bool) (ms : List Message) → AllByRecursion (λ x. HasMessage (λ m. test m ≡ true) ms x.id x.slot) (filter test ms)
has-passed test [] = tt
has-passed test (m ∷ ms) = by_test (test m) refl (has-further (λ x. test x ≡ true) m ms (filter test ms) (has-passed test ms))
  where
    by_test : (b : Bool) → test m ≡ b → AllByRecursion (λ x. HasMessage (λ y. test y ≡ true) (m ∷ ms) x.id x.slot) (filter test ms) → AllByRecursion (λ x. HasMessage (λ y. test y ≡ true) (m ∷ ms) x.id x.slot) (cond b (m ∷ filter test ms) (filter test ms))
    by_test true is rest = (inl (refl, refl, is), rest)
    by_test false is rest = rest

pub has-message-id : (P : Message → Type 0) (ms : List Message) (id : Id) (slot : ℕ) → HasMessage P ms id slot → HasId ms id
has-message-id P [] id slot there = there
has-message-id P (m ∷ ms) id slot (inl is) = inl is.0
has-message-id P (m ∷ ms) id slot (inr there) = inr (has-message-id P ms id slot there)

pub first-id : (ms : List Message) (id : Id) (slot : ℕ) → StandsFirst ms id slot → HasId ms id
first-id [] id slot first = first
first-id (m ∷ ms) id slot first = inl first.0

-- a published message that isn't gone is buffered
pub has-buffered : (c : List ℕ) (id : Id) (h : List Event) → is_gone c id h ≡ false → HasId (published c h) id → HasId (buffer c h) id
has-buffered c id h here there = go (published c h) there
  where
    go : (ms : List Message) → HasId ms id → HasId (filter (λ m. not (is_gone c m.id h)) ms) id
    go [] at = at
    go (m ∷ ms) (inl is) = rw (ap (λ i. is_gone c i h) is ∙ here) (inl is)
    go (m ∷ ms) (inr at) = cond_both (not (is_gone c m.id h)) (m ∷ filter (λ x. not (is_gone c x.id h)) ms) (filter (λ x. not (is_gone c x.id h)) ms) (λ l. HasId l id) (λ _. inr (go ms at)) (λ _. go ms at)

-- the leaving rule, as the history goes on

room-more : (e : Event) (w : ℕ) (c : List ℕ) (newer older : List Event) → MakesRoom w c newer older → MakesRoom w c (e ∷ newer) older
room-more e w c newer older room = record {
  after = e ∷ room.after;
  id = room.id;
  slot = room.slot;
  len = room.len;
  exp = room.exp;
  kept = room.kept;
  members = room.members;
  from = room.from;
  r = room.r;
  ct = room.ct;
  body = room.body;
  between = room.between;
  next = ap (λ (l : List Event). e ∷ l) room.next;
  way = room.way;
  full = room.full;
}

goes-more : (e : Event) (w : ℕ) (c : List ℕ) (newer : List Event) → GoesNext w c newer → GoesNext w c (e ∷ newer)
goes-more e w c newer goes = record { after = e ∷ goes.after; last = goes.last; between = goes.between; next = ap (λ (l : List Event). e ∷ l) goes.next; too = goes.too }

leaves-more : (cause : LeftCause) (e : Event) (w : ℕ) (c : List ℕ) (id : Id) (slot : ℕ) (newer older : List Event) → LeavesBy cause w c id slot newer older → LeavesBy cause w c id slot (e ∷ newer) older
leaves-more Expired e w c id slot newer older by = by
leaves-more Length e w c id slot newer older by = (by.0, room-more e w c newer older by.1)
leaves-more Deleted e w c id slot newer older by = (by.0, goes-more e w c newer by.1)
leaves-more Spent e w c id slot newer older by = by

-- a message that left by the rule did so whatever comes later
pub left-more : (workers : ℕ) (e : Event) (newer : List Event) (x : Event) (older : List Event) → LeftAt workers newer x older → LeftAt workers (e ∷ newer) x older
left-more workers e newer (Left w c id slot cause) older at = record {
  owner = at.owner;
  why = leaves-more cause e w c id slot newer older at.why;
}
left-more workers e newer _ older at = tt

-- behind the newest event stands nothing

no_newer : (after between : List Event) (e : Event) → [] ≡ after ++ e ∷ between → ⊥
no_newer [] between e is = cc
no_newer (x ∷ after) between e is = cc

pub unremoved_is_refused : UnremovedIsRefused
unremoved_is_refused workers w slot c id h rule =
    let goes = (rule.left [] (Left w c id slot Deleted) h refl).why.1 in
    no_newer goes.after goes.between (Removed w c goes.last ByDeletion) goes.next
