-- The ids of a channel rise strictly, through every removal.
use Rattle.std.proofs.Common.{◌≡◌, ℕ, Bool, true, false, cond, max, List, [], ◌∷◌, ◌++◌, refl, sym, ◌∙◌, subst, ap, Option, Some, None}
use Rattle.std.specs.Prelude.{unwrap_or, bytes_eq}
use Rattle.std.specs.List.{AllByRecursion}
use Rattle.std.specs.Cmp.Lexicographic.{same_text}
use Rattle.std.proofs.lemmas.Bool.{cond_both, eq-eqb}
use Rattle.nc_types.specs.Id.{Id, IsPast, no_id}
use Rattle.nc_types.specs.Channel.{owner_of}
use Rattle.nc_journal.specs.History.{own, is_by}
use Rattle.nc_journal.specs.Stamp.{clock_of, floor_of, spent_of, made_last, last_of, greater_id, stamp, IsStamp, StampedAt, IsStamped}
use Rattle.nc_journal.specs.Message.{Message, stored_message, published, IsRising, RisingLaw}
use Rattle.nc_journal.specs.declared.event.Event.{Event}
use Rattle.nc_journal.specs.declared.event.Event.TheVariants.{Stored, Looked, Joined, Removed}
use Rattle.nc_journal.proofs.Cuts.{all-weaker, all-append}
use Rattle.nc_journal.proofs.Ids.{IsAtMost, at_most-refl, at_most-trans, at_most_of_past, past_of_at_most, greater-left, greater-right, next-past}

-- what an event of a channel's owner keeps of the last id: it stores past it, and removes at it
abbrev KeepsLast : List ℕ → Id → Event → Type 0
KeepsLast c last (Stored w d id slot len exp kept members from r ct body) = bytes_eq d c ≡ true → IsPast id last
KeepsLast c last (Removed w d id cause) = bytes_eq d c ≡ true → id ≡ last
KeepsLast c last _ = Unit {0}

-- a channel that is made has the last id that it had before
made_same : (b : Bool) (made : Option Id) (spent : Id) → unwrap_or (cond b (Some (unwrap_or made spent)) made) spent ≡ unwrap_or made spent
made_same true made spent = refl
made_same false made spent = refl

stored_rises : (made : Option Id) (spent id : Id) (b : Bool) → (b ≡ true → IsPast id (unwrap_or made spent)) → IsAtMost (unwrap_or made spent) (unwrap_or (cond b (Some id) made) spent)
stored_rises made spent id true past = at_most_of_past (unwrap_or made spent) id (past refl)
stored_rises made spent id false past = at_most-refl (unwrap_or made spent)

removed_rises : (made : Option Id) (spent id : Id) (b : Bool) → (b ≡ true → id ≡ unwrap_or made spent) → IsAtMost (unwrap_or made spent) (unwrap_or (cond b None made) (greater_id spent id))
removed_rises made spent id true last = subst (λ (x : Id). IsAtMost x (greater_id spent id)) (last refl) (greater-right spent id)
removed_rises None spent id false last = greater-left spent id
removed_rises (Some made) spent id false last = at_most-refl made

-- in a local history the last id doesn't fall
local_rises : (c : List ℕ) (e : Event) (l : List Event) → KeepsLast c (last_of c l) e → IsAtMost (last_of c l) (last_of c (e ∷ l))
local_rises c (Stored w d id slot len exp kept members from r ct body) l k = stored_rises (made_last c l) (spent_of l) id (bytes_eq d c) k
local_rises c (Looked w q from number d after floor found) l k = subst (λ (x : Id). IsAtMost (last_of c l) x) (sym (made_same (bytes_eq d c) (made_last c l) (spent_of l))) (at_most-refl (last_of c l))
local_rises c (Joined w d from k') l k = subst (λ (x : Id). IsAtMost (last_of c l) x) (sym (made_same (bytes_eq d c) (made_last c l) (spent_of l))) (at_most-refl (last_of c l))
local_rises c (Removed w d id cause) l k = removed_rises (made_last c l) (spent_of l) id (bytes_eq d c) k
local_rises c e l k = at_most-refl (last_of c l)

stamp_past : (c : List ℕ) (l : List Event) → IsPast (stamp c l) (last_of c l)
stamp_past c l = next-past (max (clock_of l) (floor_of l)) (last_of c l)

-- a message that is stored under the stamp rule is past the last id of its channel
pub stored-past-last : (workers w : ℕ) (c : List ℕ) (id : Id) (h : List Event) → IsStamp workers w c id h → IsPast id (last_of c (own (owner_of workers c) h))
stored-past-last workers w c id h s = subst (λ (v : ℕ). IsPast id (last_of c (own v h))) s.owner (subst (λ (m : Id). IsPast m (last_of c (own w h))) (sym s.stamped) (stamp_past c (own w h)))

stamped_keeps : (workers : ℕ) (c : List ℕ) (e : Event) (h : List Event) → StampedAt workers h e → KeepsLast c (last_of c (own (owner_of workers c) h)) e
stamped_keeps workers c (Stored w d id slot len exp kept members from r ct body) h s = λ same. subst (λ (n : List ℕ). IsPast id (last_of n (own (owner_of workers n) h))) (same_text d c (sym same)) (stored-past-last workers w d id h s)
stamped_keeps workers c (Removed w d id cause) h s = λ same. subst (λ (n : List ℕ). id ≡ last_of n (own (owner_of workers n) h)) (same_text d c (sym same)) (subst (λ (v : ℕ). id ≡ last_of d (own v h)) s.owner s.is_last)
stamped_keeps workers c e h s = tt

-- the last id of a channel doesn't fall
pub last-rises : (workers : ℕ) (c : List ℕ) (e : Event) (h : List Event) → StampedAt workers h e → IsAtMost (last_of c (own (owner_of workers c) h)) (last_of c (own (owner_of workers c) (e ∷ h)))
last-rises workers c e h s =
    cond_both (is_by (owner_of workers c) e) _ _ (λ l. IsAtMost (last_of c (own (owner_of workers c) h)) (last_of c l))
    (λ _. local_rises c e (own (owner_of workers c) h) (stamped_keeps workers c e h s))
    (λ _. at_most-refl (last_of c (own (owner_of workers c) h)))

own_yes : (w : ℕ) (e : Event) (h : List Event) → is_by w e ≡ true → own w (e ∷ h) ≡ e ∷ own w h
own_yes w e h is = ap (λ b. cond b (e ∷ own w h) (own w h)) is

-- what holds of each message holds of each after one that may be added
all_with : (P : Message → Type 0) (b : Bool) (ms : List Message) (m : Message) → AllByRecursion P ms → (b ≡ true → P m) → AllByRecursion P (cond b (ms ++ m ∷ []) ms)
all_with P true ms m all here = all-append P ms (m ∷ []) all (here refl, tt)
all_with P false ms m all here = all

-- a message is at most the last id of a channel
abbrev pub IsUpToLast : ℕ → List ℕ → List Event → Message → Type 0
IsUpToLast workers c h m = IsAtMost m.id (last_of c (own (owner_of workers c) h))

-- what is at most the last id stays so
stays_up_to : (workers : ℕ) (c : List ℕ) (e : Event) (h : List Event) (ms : List Message) → StampedAt workers h e → AllByRecursion (IsUpToLast workers c h) ms → AllByRecursion (IsUpToLast workers c (e ∷ h)) ms
stays_up_to workers c e h ms s below = all-weaker (IsUpToLast workers c h) (IsUpToLast workers c (e ∷ h)) (λ m le. at_most-trans m.id (last_of c (own (owner_of workers c) h)) (last_of c (own (owner_of workers c) (e ∷ h))) le (last-rises workers c e h s)) ms below

-- each message of a channel is at most the channel's last id
pub published-below : (workers : ℕ) (c : List ℕ) (h : List Event) → IsStamped workers h → AllByRecursion (IsUpToLast workers c h) (published c h)
published-below workers c [] s = tt
published-below workers c (Stored w d id slot len exp kept members from r ct body ∷ h) s =
    all_with (IsUpToLast workers c (Stored w d id slot len exp kept members from r ct body ∷ h)) (bytes_eq d c) (published c h) (stored_message id slot exp ct body)
    (stays_up_to workers c (Stored w d id slot len exp kept members from r ct body) h (published c h) s.1 (published-below workers c h s.0))
    (λ same. subst (IsAtMost id) (sym (is_last same)) (at_most-refl id))
  where
    is_owner : bytes_eq d c ≡ true → owner_of workers c ≡ w
    is_owner same = ap (owner_of workers) (sym (same_text d c (sym same))) ∙ sym s.1.owner

    is_last : bytes_eq d c ≡ true → last_of c (own (owner_of workers c) (Stored w d id slot len exp kept members from r ct body ∷ h)) ≡ id
    is_last same =
        ap (last_of c) (own_yes (owner_of workers c) (Stored w d id slot len exp kept members from r ct body) h (eq-eqb (owner_of workers c) w (is_owner same)))
        ∙ ap (λ b. unwrap_or (cond b (Some id) (made_last c (own (owner_of workers c) h))) (spent_of (own (owner_of workers c) h))) same
published-below workers c (e ∷ h) s = stays_up_to workers c e h (published c h) s.1 (published-below workers c h s.0)

-- a message that is stored under the stamp rule is past each message of its channel so far
pub stored-past : (workers w : ℕ) (c : List ℕ) (id : Id) (h : List Event) → IsStamped workers h → IsStamp workers w c id h → AllByRecursion (λ m. IsPast id m.id) (published c h)
stored-past workers w c id h stamped s = all-weaker _ _ (λ m below. past_of_at_most m.id (last_of c (own (owner_of workers c) h)) id below (stored-past-last workers w c id h s)) (published c h) (published-below workers c h stamped)

rising_push : (ms : List Message) (m : Message) → IsRising ms → AllByRecursion (λ x. IsPast m.id x.id) ms → IsRising (ms ++ m ∷ [])
rising_push [] m rises past = (tt, tt)
rising_push (x ∷ ms) m rises past = (all-append (λ later. IsPast later.id x.id) ms (m ∷ []) rises.0 (past.0, tt), rising_push ms m rises.1 past.1)

pub ids-rise : RisingLaw
ids-rise workers [] stamped c = tt
ids-rise workers (Stored w d id slot len exp kept members from r ct body ∷ h) stamped c =
    cond_both (bytes_eq d c) _ _ IsRising
    (λ same. rising_push (published c h) (stored_message id slot exp ct body) (ids-rise workers h stamped.0 c)
    (subst (λ (n : List ℕ). AllByRecursion (λ m. IsPast id m.id) (published n h)) (same_text d c (sym same)) (stored-past workers w d id h stamped.0 stamped.1)))
    (λ _. ids-rise workers h stamped.0 c)
ids-rise workers (e ∷ h) stamped c = ids-rise workers h stamped.0 c

-- the last id of a channel is at least that of no message
pub last-low : (workers : ℕ) (c : List ℕ) (h : List Event) → IsStamped workers h → IsAtMost no_id (last_of c (own (owner_of workers c) h))
last-low workers c [] stamped = at_most-refl no_id
last-low workers c (e ∷ h) stamped = at_most-trans no_id (last_of c (own (owner_of workers c) h)) (last_of c (own (owner_of workers c) (e ∷ h))) (last-low workers c h stamped.0) (last-rises workers c e h stamped.1)

-- each message is past the id of no message
pub all-past-none : (workers : ℕ) (c : List ℕ) (h : List Event) → IsStamped workers h → AllByRecursion (λ m. IsPast m.id no_id) (published c h)
all-past-none workers c [] stamped = tt
all-past-none workers c (Stored w d id slot len exp kept members from r ct body ∷ h) stamped =
    all_with (λ m. IsPast m.id no_id) (bytes_eq d c) (published c h) (stored_message id slot exp ct body) (all-past-none workers c h stamped.0)
    (λ _. past_of_at_most no_id (last_of d (own (owner_of workers d) h)) id (last-low workers d h stamped.0) (stored-past-last workers w d id h stamped.1))
all-past-none workers c (e ∷ h) stamped = all-past-none workers c h stamped.0
