-- An owner stands for its history over each step.
use Rattle.std.proofs.Common.{◌≡◌, inl, inr, ℕ, ◌+◌, Bool, true, false, cond, not, List, [], ◌∷◌, ◌++◌, Option, Some, None, refl, sym, ap, ◌∙◌, subst, map, filter, fold}
use Rattle.std.specs.Prelude.{◌&&◌, ◌||◌, ◌==◌, IfSome, bytes_eq}
use Rattle.std.specs.List.{AllByRecursion}
use Rattle.std.specs.Cmp.Lexicographic.{same_text}
use Rattle.std.proofs.lemmas.Bool.{true≢false, and_parts}
use Rattle.nc_types.specs.Id.{Id, is_past, id_eq}
use Rattle.nc_journal.specs.History.{own, onto, is_by, Along}
use Rattle.nc_journal.specs.Stamp.{IsStamped}
use Rattle.nc_journal.specs.Message.{Message as KeptMessage, stored_message, published, is_gone, buffer}
use Rattle.nc_journal.specs.Sending.{HasId}
use Rattle.nc_journal.specs.declared.event.Event.{Event}
use Rattle.nc_journal.specs.declared.event.Event.TheVariants.{Stored, Left, Granted, Looked, Parted, Removed, Made}
use Rattle.nc_journal.specs.declared.word.LeftCause.{LeftCause}
use Rattle.nc_journal.specs.declared.alert.AlertLine.{AlertLine}
use Rattle.nc_buffer.specs.declared.entry.Entry.{Entry}
use Rattle.nc_owner.specs.declared.desk.Desk.{Desk}
use Rattle.nc_owner.specs.declared.member.Member.{Member}
use Rattle.nc_owner.specs.AlertLines.{OutLine}
use Rattle.nc_owner.specs.State.{OwnerAt, entries_of, found, opened}
use Rattle.nc_owner.specs.Leave.{left_event}
use Rattle.nc_owner.specs.Poll.{freed_event}
use Rattle.nc_owner.specs.Publish.{granted_events}
use Rattle.nc_owner.specs.Look.{looked_event, found_events}
use Rattle.nc_owner_laws.specs.OwnerTold.{desk_with, channel_with, desk_of, channel_of, HistoryTells}
use Rattle.nc_owner_laws.specs.Filters.{new_desk}
use Rattle.nc_owner_laws.specs.Buffered.{Brief, brief_entry, brief_message, entries_in, LeavesStored}
use Rattle.nc_owner_laws.specs.Weave.{weave, makes, numbered}
use Rattle.nc_owner_laws.specs.Wake.{Wake, NotYet, Waiting, ByNotice, ByGone, woken, wake}
use Rattle.nc_owner_laws.specs.OwnerStanding.{look_past, NothingPast}
use Rattle.nc_owner_laws.proofs.Used.{eqb_self}
use Rattle.nc_owner_laws.proofs.Kept.{all_filtered}
use Rattle.nc_owner_laws.proofs.Buffering.{buffer_law, made_entries, stored_buffer}
use Rattle.nc_owner_laws.proofs.After.{Stays, onto_desk, onto_channel}

-- ---- what holds of a step's events holds of them and of what is made

all_makes : (P : Event → Type 0) (v : ℕ) (next : ℕ → ℕ) → ((to n : ℕ) (a : AlertLine) → P (Made v to n a)) → (alerts : List OutLine) → AllByRecursion P (makes v next alerts)
all_makes P v next m [] = tt
all_makes P v next m (a ∷ alerts) = (m a.to (next a.to) a.line, all_makes P v (numbered next a.to) m alerts)

pub all_woven : (P : Event → Type 0) (v : ℕ) (next : ℕ → ℕ) → ((to n : ℕ) (a : AlertLine) → P (Made v to n a)) → (es : List Event) (alerts : List OutLine) → AllByRecursion P es → AllByRecursion P (weave v next es alerts)
all_woven P v next m [] alerts p = all_makes P v next m alerts
all_woven P v next m (Granted w g slot to ∷ es) (a ∷ alerts) p = (p.0, (m a.to (next a.to) a.line, all_woven P v (numbered next a.to) m es alerts p.1))
all_woven P v next m (e ∷ es) alerts p = (p.0, all_woven P v next m es alerts p.1)

fold_makes : {X : Type 0} (g : X → Event → X) (v : ℕ) (next : ℕ → ℕ) → ((x : X) (to n : ℕ) (a : AlertLine) → g x (Made v to n a) ≡ x) → (alerts : List OutLine) (x : X) → fold g x (makes v next alerts) ≡ x
fold_makes g v next m [] x = refl
fold_makes g v next m (a ∷ alerts) x = ap (λ y. fold g y (makes v (numbered next a.to) alerts)) (m x a.to (next a.to) a.line) ∙ fold_makes g v (numbered next a.to) m alerts x

pub fold_woven : {X : Type 0} (g : X → Event → X) (v : ℕ) (next : ℕ → ℕ) → ((x : X) (to n : ℕ) (a : AlertLine) → g x (Made v to n a) ≡ x) → (es : List Event) (alerts : List OutLine) (x : X) → fold g x (weave v next es alerts) ≡ fold g x es
fold_woven g v next m [] alerts x = fold_makes g v next m alerts x
fold_woven g v next m (Granted w k slot to ∷ es) (a ∷ alerts) x = ap (λ y. fold g y (weave v (numbered next a.to) es alerts)) (m (g x (Granted w k slot to)) a.to (next a.to) a.line) ∙ fold_woven g v (numbered next a.to) m es alerts (g x (Granted w k slot to))
fold_woven g v next m (e ∷ es) alerts x = fold_woven g v next m es alerts (g x e)

-- what is made tells nothing of the owner
pub woven_tells : (first : Desk) (v : ℕ) (next : ℕ → ℕ) (es : List Event) (alerts : List OutLine) (h : List Event) (s : OwnerAt) → AllByRecursion Stays es → HistoryTells first (onto es h) s → HistoryTells first (onto (weave v next es alerts) h) s
woven_tells first v next es alerts h s keeps t = record {
  desk = t.desk ∙ onto_desk first es h ∙ sym (fold_woven desk_with v next (λ x to n a. refl) es alerts (desk_of first h)) ∙ sym (onto_desk first (weave v next es alerts) h);
  channels = λ c. t.channels c ∙ onto_channel first c es h keeps ∙ sym (fold_woven (channel_with c (desk_of first h).spent) v next (λ x to n a. refl) es alerts (channel_of first c h))
      ∙ sym (onto_channel first c (weave v next es alerts) h (all_woven Stays v next (λ to n a. tt) es alerts keeps));
}

-- ---- a local history stays local

abbrev pub IsBy : ℕ → Event → Type 0
IsBy me e = is_by me e ≡ true

own_one : (me : ℕ) (e : Event) (h : List Event) → IsBy me e → own me (e ∷ h) ≡ e ∷ own me h
own_one me e h b = ap (λ x. cond x (e ∷ own me h) (own me h)) b

pub own_onto : (me : ℕ) (es h : List Event) → AllByRecursion (IsBy me) es → own me h ≡ h → own me (onto es h) ≡ onto es h
own_onto me [] h b o = o
own_onto me (e ∷ es) h b o = own_onto me es (e ∷ h) b.1 (own_one me e h b.0 ∙ ap (λ (l : List Event). e ∷ l) o)

module _ (me w : ℕ) (is : w ≡ me) where
  pub by_is : (me == w) ≡ true
  by_is = ap (λ k. me == k) is ∙ eqb_self me

  pub by_left : (c : List ℕ) (cause : LeftCause) (es : List Entry) → AllByRecursion (IsBy me) (map (left_event w c cause) es)
  by_left c cause [] = tt
  by_left c cause (e ∷ es) = (by_is, by_left c cause es)

  pub by_freed : (ks : List ℕ) → AllByRecursion (IsBy me) (map (freed_event w) ks)
  by_freed [] = tt
  by_freed (k ∷ ks) = (by_is, by_freed ks)

  pub by_granted : (slot g : ℕ) (marks : List ℕ) → AllByRecursion (IsBy me) (granted_events w slot g marks)
  by_granted slot g [] = tt
  by_granted slot g (to ∷ marks) = (by_is, by_granted slot (g + 1) marks)

  pub by_parted : (b : Bool) (c : List ℕ) (m : Member) → AllByRecursion (IsBy me) (cond b (Parted w c m.from m.k ∷ []) [])
  by_parted true c m = (by_is, tt)
  by_parted false c m = tt

pub by_found : (me from number : ℕ) (c : List ℕ) (id : Id) (x : Option Entry) (d : Desk) → d.me ≡ me → AllByRecursion (IsBy me) (looked_event from number c id x d ∷ found_events from x d)
by_found me from number c id None d is = (by_is me d.me is, tt)
by_found me from number c id (Some e) d is = (by_is me d.me is, (by_is me d.me is, tt))

-- ---- what leaves was stored

-- nothing leaves, and no channel is removed
abbrev pub IsCalm : Event → Type 0
IsCalm (Left w c id slot cause) = ⊥
IsCalm (Removed w c last cause) = ⊥
IsCalm _ = Unit {0}

calm_at : (h : List Event) (e : Event) → IsCalm e → LeavesStored h e
calm_at h (Left w c id slot cause) p = absurd p
calm_at h (Removed w c last cause) p = absurd p
calm_at h e p = tt

pub calm_onto : (es h : List Event) → AllByRecursion IsCalm es → Along LeavesStored h → Along LeavesStored (onto es h)
calm_onto [] h p s = s
calm_onto (e ∷ es) h p s = calm_onto es (e ∷ h) p.1 (s, calm_at h e p.0)

pub left_onto : (w : ℕ) (c : List ℕ) (cause : LeftCause) (es : List Entry) (h : List Event) → AllByRecursion (λ e. HasId (published c h) e.id) es → Along LeavesStored h → Along LeavesStored (onto (map (left_event w c cause) es) h)
left_onto w c cause [] h has s = s
left_onto w c cause (e ∷ es) h has s = left_onto w c cause es (Left w c e.id e.slot cause ∷ h) has.1 (s, has.0)

-- each message of a list is there
has_later : (x : KeptMessage) (ms : List KeptMessage) (all : List KeptMessage) → AllByRecursion (λ m. HasId all m.id) ms → AllByRecursion (λ m. HasId (x ∷ all) m.id) ms
has_later x [] all a = tt
has_later x (m ∷ ms) all a = (inr a.0, has_later x ms all a.1)

has_self : (ms : List KeptMessage) → AllByRecursion (λ m. HasId ms m.id) ms
has_self [] = tt
has_self (m ∷ ms) = (inl refl, has_later m ms ms (has_self ms))

all_mapped : {X Y : Type 0} (f : X → Y) (P : Y → Type 0) (xs : List X) → AllByRecursion (λ x. P (f x)) xs → AllByRecursion P (map f xs)
all_mapped f P [] a = tt
all_mapped f P (x ∷ xs) a = (a.0, all_mapped f P xs a.1)

all_unmapped : {X Y : Type 0} (f : X → Y) (P : Y → Type 0) (xs : List X) → AllByRecursion P (map f xs) → AllByRecursion (λ x. P (f x)) xs
all_unmapped f P [] a = tt
all_unmapped f P (x ∷ xs) a = (a.0, all_unmapped f P xs a.1)

-- what holds of the ids of a buffer holds of those of the entries that have the same briefs, and the other way round
pub to_entries : (P : Id → Type 0) (es : List Entry) (ms : List KeptMessage) → map brief_entry es ≡ map brief_message ms → AllByRecursion (λ m. P m.id) ms → AllByRecursion (λ e. P e.id) es
to_entries P es ms same a = all_unmapped brief_entry (λ (y : Brief). P y.id) es (subst (AllByRecursion (λ (y : Brief). P y.id)) (sym same) (all_mapped brief_message (λ (y : Brief). P y.id) ms a))

pub to_messages : (P : Id → Type 0) (es : List Entry) (ms : List KeptMessage) → map brief_entry es ≡ map brief_message ms → AllByRecursion (λ e. P e.id) es → AllByRecursion (λ m. P m.id) ms
to_messages P es ms same a = all_unmapped brief_message (λ (y : Brief). P y.id) ms (subst (AllByRecursion (λ (y : Brief). P y.id)) same (all_mapped brief_entry (λ (y : Brief). P y.id) es a))

-- the entries of a channel were stored
pub entries_stored : (me workers slots first : ℕ) (h : List Event) (c : List ℕ) (s : OwnerAt) → HistoryTells (new_desk me workers slots first) h s → IsStamped workers h → Along LeavesStored h → AllByRecursion (λ e. HasId (published c h) e.id) (entries_of (opened c s))
entries_stored me workers slots first h c s t stamped stored =
    subst (AllByRecursion (λ e. HasId (published c h) e.id)) (sym (made_entries (found c s) s.desk.spent ∙ ap entries_in (t.channels c)))
    (to_entries (HasId (published c h)) (entries_in (channel_of (new_desk me workers slots first) c h)) (buffer c h) (buffer_law me workers slots first c h stamped stored)
    (all_filtered (λ m. HasId (published c h) m.id) (λ m. not (is_gone c m.id h)) (published c h) (has_self (published c h))))

-- ---- who waits has nothing to see

-- neither a message is stored nor a look made
abbrev pub IsIdle : Event → Type 0
IsIdle (Stored w c id slot len exp kept members from r ct body) = ⊥
IsIdle (Looked w q from number c after floor past) = ⊥
IsIdle (Removed w c last cause) = ⊥
IsIdle _ = Unit {0}

fewer_case : (P : KeptMessage → Type 0) (m : KeptMessage) (x y : Bool) (ks ls : List KeptMessage) → (AllByRecursion P ks → AllByRecursion P ls) → AllByRecursion P (cond (not y) (m ∷ ks) ks) → AllByRecursion P (cond (not (x || y)) (m ∷ ls) ls)
fewer_case P m true true ks ls f a = f a
fewer_case P m true false ks ls f a = f a.1
fewer_case P m false true ks ls f a = f a
fewer_case P m false false ks ls f a = (a.0, f a.1)

fewer_kept : (P : KeptMessage → Type 0) (c : List ℕ) (h : List Event) (go : KeptMessage → Bool) (ms : List KeptMessage) → AllByRecursion P (filter (λ m. not (is_gone c m.id h)) ms) → AllByRecursion P (filter (λ m. not (go m || is_gone c m.id h)) ms)
fewer_kept P c h go [] a = tt
fewer_kept P c h go (m ∷ ms) a = fewer_case P m (go m) (is_gone c m.id h) (filter (λ x. not (is_gone c x.id h)) ms) (filter (λ x. not (go x || is_gone c x.id h)) ms) (fewer_kept P c h go ms) a

some_fewer : (o : Option Id) (ks ls : List KeptMessage) → ((after : Id) → AllByRecursion (λ m. is_past m.id after ≡ false) ks → AllByRecursion (λ m. is_past m.id after ≡ false) ls)
    → IfSome o (λ after. AllByRecursion (λ m. is_past m.id after ≡ false) ks) → IfSome o (λ after. AllByRecursion (λ m. is_past m.id after ≡ false) ls)
some_fewer None ks ls f a = a
some_fewer (Some after) ks ls f a = f after a

idle_one : (e : Event) (h : List Event) → IsIdle e → NothingPast h → NothingPast (e ∷ h)
idle_one (Stored w c id slot len exp kept members from r ct body) h i k = absurd i
idle_one (Looked w q from number c after floor past) h i k = absurd i
idle_one (Removed w c last cause) h i k = absurd i
idle_one (Left v d id slot cause) h i k = λ w c q x.
    some_fewer (look_past w c q h) (buffer c h) (buffer c (Left v d id slot cause ∷ h)) (λ after. fewer_kept (λ m. is_past m.id after ≡ false) c h (λ m. bytes_eq d c && id_eq id m.id) (published c h)) (k w c q x)
idle_one e h i k = λ w c q x. k w c q x

pub idle_onto : (es h : List Event) → AllByRecursion IsIdle es → NothingPast h → NothingPast (onto es h)
idle_onto [] h i k = k
idle_onto (e ∷ es) h i k = idle_onto es (e ∷ h) i.1 (idle_one e h i.0 k)

-- a look that found a message waits for nothing
pub found_past : (v p u number : ℕ) (d : List ℕ) (after : Id) (floor : ℕ) (id : Id) (h : List Event) → NothingPast h → NothingPast (Looked v p u number d after floor (Some id) ∷ h)
found_past v p u number d after floor id h k = λ w c q x. k w c q x

-- a look that found none saw nothing past its id
look_case : (b : Bool) (o : Option Id) (after : Id) (t : Wake) (ms : List KeptMessage) → (b ≡ true → AllByRecursion (λ m. is_past m.id after ≡ false) ms) → (t ≡ Waiting → IfSome o (λ a. AllByRecursion (λ m. is_past m.id a ≡ false) ms))
    → cond b Waiting t ≡ Waiting → IfSome (cond b (Some after) o) (λ a. AllByRecursion (λ m. is_past m.id a ≡ false) ms)
look_case true o after t ms here k e = here refl
look_case false o after t ms here k e = k e

pub none_past : (v p u number : ℕ) (d : List ℕ) (after : Id) (floor : ℕ) (h : List Event) → AllByRecursion (λ m. is_past m.id after ≡ false) (buffer d h) → NothingPast h → NothingPast (Looked v p u number d after floor None ∷ h)
none_past v p u number d after floor h none k = λ w c q x.
    look_case ((p == q) && ((u == w) && bytes_eq d c)) (look_past w c q h) after (wake w c q h) (buffer c h)
    (λ b. let n = (and_parts (u == w) (bytes_eq d c) (and_parts (p == q) ((u == w) && bytes_eq d c) b).1).1 in subst (λ (y : List ℕ). AllByRecursion (λ m. is_past m.id after ≡ false) (buffer y h)) (same_text d c (sym n)) none)
    (k w c q) x

-- where a message is stored, nobody waits
woken_wakes : (id : Id) (t : Wake) → woken (ByNotice id) t ≡ Waiting → ⊥
woken_wakes id NotYet e = cc
woken_wakes id Waiting e = cc
woken_wakes id (ByNotice other) e = cc
woken_wakes id ByGone e = cc

stored_case : (n : Bool) (id : Id) (t : Wake) (o : Option Id) (ks ls : List KeptMessage) → (n ≡ false → ls ≡ ks) → (t ≡ Waiting → IfSome o (λ a. AllByRecursion (λ m. is_past m.id a ≡ false) ks)) → cond n (woken (ByNotice id) t) t ≡ Waiting
    → IfSome o (λ a. AllByRecursion (λ m. is_past m.id a ≡ false) ls)
stored_case true id t o ks ls same k e = absurd (woken_wakes id t e)
stored_case false id t o ks ls same k e = subst (λ (l : List KeptMessage). IfSome o (λ a. AllByRecursion (λ m. is_past m.id a ≡ false) l)) (sym (same refl)) (k e)

pub stored_past : (v : ℕ) (d : List ℕ) (id : Id) (slot len exp : ℕ) (kept : Bool) (members from r : ℕ) (ct : Option (List ℕ)) (body : List ℕ) (h : List Event) → NothingPast h → NothingPast (Stored v d id slot len exp kept members from r ct body ∷ h)
stored_past v d id slot len exp kept members from r ct body h k = λ w c q x.
    stored_case (bytes_eq d c) id (wake w c q h) (look_past w c q h) (buffer c h) (buffer c (Stored v d id slot len exp kept members from r ct body ∷ h))
    (λ n. stored_buffer (bytes_eq d c) kept c (stored_message id slot exp ct body) h (λ e. absurd (true≢false (sym e ∙ n))) (λ e. absurd (true≢false (sym e ∙ n)))
    ∙ ap (λ b. cond b (cond kept (buffer c h ++ stored_message id slot exp ct body ∷ []) (buffer c h)) (buffer c h)) n)
    (k w c q) x
