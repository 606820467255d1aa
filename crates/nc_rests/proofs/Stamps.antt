-- Floors never fall, and what is stored is at or above the floor and has a tag.
use Rattle.std.proofs.Common.{ℕ, ◌≤◌, ◌≤ℤ◌, pos, negsuc, max, Bool, true, false, cond, List, [], ◌∷◌, ◌++◌, Option, None, Some, sym, subst, arith}
use Rattle.std.specs.Prelude.{IfSome, unwrap_or, bytes_eq}
use Rattle.std.specs.List.{AllByRecursion}
use Rattle.std.specs.Cmp.Lexicographic.{same_text}
use Rattle.std.proofs.lemmas.Bool.{cond_both}
use Rattle.std.proofs.lemmas.Int.{ints}
use Rattle.nc_types.specs.Id.{Id}
use Rattle.nc_types.specs.Channel.{owner_of}
use Rattle.nc_journal.specs.History.{own, is_by}
use Rattle.nc_journal.specs.Stamp.{floor_of, StampedAt, IsStamped, last_of, clock_of, spent_of, made_last, greater_id, next_id, IsStamp}
use Rattle.nc_journal.specs.Message.{Message, published, stored_message}
use Rattle.nc_journal.specs.declared.event.Event.{Event}
use Rattle.nc_journal.specs.declared.event.Event.TheVariants.{Joined, Stored, Looked, Removed}
use Rattle.nc_journal.proofs.Cuts.{all-weaker, all-append}
use Rattle.nc_journal.proofs.Buffers.{published-push}
use Rattle.nc_owner_laws.proofs.Stamping.{floor_step}

pub floor_own : (w : ℕ) (e : Event) (h : List Event) → floor_of (own w h) ≤ floor_of (own w (e ∷ h))
floor_own w e h = cond_both (is_by w e) (e ∷ own w h) (own w h) (λ l. floor_of (own w h) ≤ floor_of l) (λ _. floor_step e (own w h)) (λ _. omega arith)

pub floor_later : (w : ℕ) (newer older : List Event) → floor_of (own w older) ≤ floor_of (own w (newer ++ older))
floor_later w [] older = omega arith
floor_later w (e ∷ newer) older = omega (arith, floor_later w newer older, floor_own w e (newer ++ older))

pub floor_append : (s l : List Event) → floor_of l ≤ floor_of (s ++ l)
floor_append [] l = omega arith
floor_append (e ∷ s) l = omega (arith, floor_append s l, floor_step e (s ++ l))

abbrev pub IsLow : Id → Type 0
IsLow id = negsuc 0 ≤ℤ id.tag

record LowTags (l : List Event) : Type 0 where
  spent : IsLow (spent_of l)
  made : (c : List ℕ) → IfSome (made_last c l) IsLow

unwrap_low : (o : Option Id) (s : Id) → IfSome o IsLow → IsLow s → IsLow (unwrap_or o s)
unwrap_low None s a b = b
unwrap_low (Some id) s a b = a

low_last : (c : List ℕ) (l : List Event) → LowTags l → IsLow (last_of c l)
low_last c l k = unwrap_low (made_last c l) (spent_of l) (k.made c) k.spent

greater_low : (a b : Id) → IsLow a → IsLow b → IsLow (greater_id a b)
greater_low a b p q = grind (arith, ints)

next_tag : (now : ℕ) (last : Id) → IsLow last → pos 0 ≤ℤ (next_id now last).tag
next_tag now last p = grind (arith, ints)

next_time : (now : ℕ) (last : Id) → now ≤ (next_id now last).time
next_time now last = grind (arith, ints)

tag_low : (id : Id) → pos 0 ≤ℤ id.tag → IsLow id
tag_low id p = grind (arith, ints)

some_low : (b : Bool) (o : Option Id) (id : Id) → IsLow id → IfSome o IsLow → IfSome (cond b (Some id) o) IsLow
some_low true o id p q = p
some_low false o id p q = q

none_low : (b : Bool) (o : Option Id) → IfSome o IsLow → IfSome (cond b None o) IsLow
none_low true o q = tt
none_low false o q = q

-- what a local event keeps
abbrev KeepsTags : Event → Type 0
KeepsTags (Stored w c id slot len exp kept members from r ct body) = IsLow id
KeepsTags (Removed w c last cause) = IsLow last
KeepsTags e = Unit {0}

low_step : (e : Event) (l : List Event) → KeepsTags e → LowTags l → LowTags (e ∷ l)
low_step (Stored w d id slot len exp kept members from r ct body) l p k = record { spent = k.spent; made = λ c. some_low (bytes_eq d c) (made_last c l) id p (k.made c) }
low_step (Looked w q from number d after floor found) l p k = record { spent = k.spent; made = λ c. some_low (bytes_eq d c) (made_last c l) (last_of c l) (low_last c l k) (k.made c) }
low_step (Joined w d from n) l p k = record { spent = k.spent; made = λ c. some_low (bytes_eq d c) (made_last c l) (last_of c l) (low_last c l k) (k.made c) }
low_step (Removed w d last cause) l p k = record { spent = greater_low (spent_of l) last k.spent p; made = λ c. none_low (bytes_eq d c) (made_last c l) (k.made c) }
low_step e l p k = record { spent = k.spent; made = k.made }

-- a message that is stored under the stamp rule has a tag
stamp_tag : (workers w : ℕ) (c : List ℕ) (id : Id) (h : List Event) → LowTags (own w h) → IsStamp workers w c id h → pos 0 ≤ℤ id.tag
stamp_tag workers w c id h k s = subst (λ (x : Id). pos 0 ≤ℤ x.tag) (sym s.stamped) (next_tag (max (clock_of (own w h)) (floor_of (own w h))) (last_of c (own w h)) (low_last c (own w h) k))

stamped_keeps : (workers : ℕ) (e : Event) (h : List Event) → ((w : ℕ) → LowTags (own w h)) → StampedAt workers h e → KeepsTags e
stamped_keeps workers (Stored w c id slot len exp kept members from r ct body) h k s = tag_low id (stamp_tag workers w c id h (k w) s)
stamped_keeps workers (Removed w c last cause) h k s = subst IsLow (sym s.is_last) (low_last c (own w h) (k w))
stamped_keeps workers e h k s = tt

low_own : (workers : ℕ) (h : List Event) → IsStamped workers h → (w : ℕ) → LowTags (own w h)
low_own workers [] s w = record { spent = lowest; made = λ c. tt }
  where
    lowest : IsLow (spent_of [])
    lowest = grind (arith, ints)
low_own workers (e ∷ h) s w =
    cond_both (is_by w e) (e ∷ own w h) (own w h) LowTags
    (λ _. low_step e (own w h) (stamped_keeps workers e h (low_own workers h s.0) s.1) (low_own workers h s.0 w))
    (λ _. low_own workers h s.0 w)

pub stored_tag : (workers w : ℕ) (c : List ℕ) (id : Id) (h : List Event) → IsStamped workers h → IsStamp workers w c id h → pos 0 ≤ℤ id.tag
stored_tag workers w c id h stamped s = stamp_tag workers w c id h (low_own workers h stamped w) s

pub stored_floor : (workers w : ℕ) (c : List ℕ) (id : Id) (h : List Event) → IsStamp workers w c id h → floor_of (own (owner_of workers c) h) ≤ id.time
stored_floor workers w c id h s = subst (λ (v : ℕ). floor_of (own v h) ≤ id.time) s.owner
    (subst (λ (x : Id). floor_of (own w h) ≤ x.time) (sym s.stamped) (at_least (clock_of (own w h)) (floor_of (own w h)) (last_of c (own w h))))
  where
    at_least : (a b : ℕ) (last : Id) → b ≤ (next_id (max a b) last).time
    at_least a b last = omega (arith, next_time (max a b) last)

-- a message is at or above a time and has a tag
abbrev pub IsFrom : ℕ → Message → Type 0
IsFrom time m = (time ≤ m.id.time) × (pos 0 ≤ℤ m.id.tag)

-- what an event stores is at or above the floor, and has a tag
pub stores_from : (workers : ℕ) (c : List ℕ) (e : Event) (h : List Event) → IsStamped workers h → StampedAt workers h e → AllByRecursion (IsFrom (floor_of (own (owner_of workers c) h))) (published c (e ∷ []))
stores_from workers c (Stored w d id slot len exp kept members from r ct body) h stamped s =
    cond_both (bytes_eq d c) ([] ++ stored_message id slot exp ct body ∷ []) [] (AllByRecursion (IsFrom (floor_of (own (owner_of workers c) h))))
    (λ same. ((subst (λ (n : List ℕ). floor_of (own (owner_of workers n) h) ≤ id.time) (same_text d c (sym same)) (stored_floor workers w d id h s), stored_tag workers w d id h stamped s), tt))
    (λ _. tt)
stores_from workers c e h stamped s = tt

-- so is all that is stored later
pub later_from : (workers : ℕ) (c : List ℕ) (time : ℕ) (newer older : List Event) → IsStamped workers (newer ++ older) → time ≤ floor_of (own (owner_of workers c) older) → AllByRecursion (IsFrom time) (published c newer)
later_from workers c time [] older stamped le = tt
later_from workers c time (e ∷ newer) older stamped le =
    let rose : time ≤ floor_of (own (owner_of workers c) (newer ++ older)) = omega (arith, le, floor_later (owner_of workers c) newer older) in
    subst (AllByRecursion (IsFrom time)) (sym (published-push c e newer))
    (all-append (IsFrom time) (published c newer) (published c (e ∷ [])) (later_from workers c time newer older stamped.0 le)
    (all-weaker (IsFrom (floor_of (own (owner_of workers c) (newer ++ older)))) (IsFrom time) (λ m k. (omega (arith, rose, k.0), k.1)) (published c (e ∷ [])) (stores_from workers c e (newer ++ older) stamped.0 stamped.1)))

-- all that is stored has a tag
pub have_tags : (workers : ℕ) (c : List ℕ) (h : List Event) → IsStamped workers h → AllByRecursion (IsFrom 0) (published c h)
have_tags workers c [] stamped = tt
have_tags workers c (e ∷ h) stamped =
    subst (AllByRecursion (IsFrom 0)) (sym (published-push c e h))
    (all-append (IsFrom 0) (published c h) (published c (e ∷ [])) (have_tags workers c h stamped.0)
    (all-weaker (IsFrom (floor_of (own (owner_of workers c) h))) (IsFrom 0) (λ m k. (omega arith, k.1)) (published c (e ∷ [])) (stores_from workers c e h stamped.0 stamped.1)))

-- what was published in a local history is at most its floor
pub floor_above : (c : List ℕ) (l : List Event) → AllByRecursion (λ m. m.id.time ≤ floor_of l) (published c l)
floor_above c [] = tt
floor_above c (Stored w d id slot len exp kept members from r ct body ∷ l) =
    let older : AllByRecursion (λ m. m.id.time ≤ max (floor_of l) id.time) (published c l) = all-weaker (λ m. m.id.time ≤ floor_of l) (λ m. m.id.time ≤ max (floor_of l) id.time) (λ m k. omega (arith, k)) (published c l) (floor_above c l) in
    cond_both (bytes_eq d c) (published c l ++ stored_message id slot exp ct body ∷ []) (published c l) (AllByRecursion (λ m. m.id.time ≤ max (floor_of l) id.time))
    (λ _. all-append (λ m. m.id.time ≤ max (floor_of l) id.time) (published c l) (stored_message id slot exp ct body ∷ []) older (omega arith, tt))
    (λ _. older)
floor_above c (e ∷ l) = all-weaker (λ m. m.id.time ≤ floor_of l) (λ m. m.id.time ≤ floor_of (e ∷ l)) (λ m k. omega (arith, k, floor_step e l)) (published c l) (floor_above c l)
