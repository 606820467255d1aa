-- A channel has the entries of its buffer.
use Rattle.std.proofs.Common.{◌≡◌, inl, inr, ⊎_elim, ℕ, ◌+◌, Bool, true, false, cond, not, List, [], ◌∷◌, ◌++◌, Option, Some, None, refl, sym, ap, ◌∙◌, subst, arith, map, filter}
use Rattle.std.specs.Prelude.{unwrap_or, ◌&&◌, ◌||◌, ◌==◌, bytes_eq}
use Rattle.std.specs.Option.{option_map}
use Rattle.std.specs.List.{AllByRecursion}
use Rattle.std.specs.Cmp.Lexicographic.{same_text}
use Rattle.std.proofs.lemmas.Bool.{true≢false, or_cases, and_parts}
use Rattle.std.proofs.lemmas.Int.{ints}
use Rattle.std.proofs.lemmas.List.{map-append}
use Rattle.std.proofs.lemmas.List.Elements.{filter-append}
use Rattle.nc_types.specs.Id.{Id, IsPast, id_eq}
use Rattle.nc_journal.specs.History.{Along}
use Rattle.nc_journal.specs.Stamp.{IsStamped, IsStamp}
use Rattle.nc_journal.specs.Message.{Message, stored_message, published, is_gone, buffer}
use Rattle.nc_journal.specs.Sending.{HasId}
use Rattle.nc_journal.proofs.Rising.{stored-past}
use Rattle.nc_journal.specs.declared.event.Event.{Event}
use Rattle.nc_journal.specs.declared.event.Event.TheVariants.{Stored, Left, Looked, Joined, Parted, Granted, Removed}
use Rattle.nc_buffer.specs.declared.entry.Entry.{Entry}
use Rattle.nc_owner.specs.declared.channel.Channel.{Channel}
use Rattle.nc_owner.specs.State.{entries_of}
use Rattle.nc_owner.specs.Publish.{kept_channel, kept_entries}
use Rattle.nc_owner_laws.specs.OwnerTold.{desk_of, channel_of, made, with_look, with_grants, counted, left_channel, joined_channel, parted_channel, new_entry, without_id}
use Rattle.nc_owner_laws.specs.Filters.{new_desk}
use Rattle.nc_owner_laws.specs.Buffered.{Brief, brief_entry, brief_message, entries_in, LeavesStored, BufferLaw}
use Rattle.nc_owner_laws.proofs.Events.{id_self}

-- ---- ids

id_turned : (a b : Id) → id_eq a b ≡ id_eq b a
id_turned a b = grind (arith, ints)

id_is : (a b : Id) → id_eq a b ≡ true → a ≡ b
id_is a b e = grind (arith, ints)

id_past : (a b : Id) → IsPast a b → id_eq a b ≡ false
id_past a b p = grind (arith, ints)

not_past : (a : Id) → IsPast a a → ⊥
not_past a p = grind (arith, ints)

-- ---- filters

two_tests : {X : Type 0} (p q : X → Bool) (xs : List X) → filter (λ x. not (p x || q x)) xs ≡ filter (λ x. not (p x)) (filter (λ x. not (q x)) xs)
two_tests p q [] = refl
two_tests {X} p q (x ∷ xs) = by (p x) (q x) refl (two_tests p q xs)
  where
    by : (a b : Bool) → p x ≡ a → filter (λ y. not (p y || q y)) xs ≡ filter (λ y. not (p y)) (filter (λ y. not (q y)) xs)
        → cond (not (a || b)) (x ∷ filter (λ y. not (p y || q y)) xs) (filter (λ y. not (p y || q y)) xs) ≡ filter (λ y. not (p y)) (cond (not b) (x ∷ filter (λ y. not (q y)) xs) (filter (λ y. not (q y)) xs))
    by true true e h = h
    by true false e h = h ∙ sym (ap (λ t. cond (not t) (x ∷ filter (λ y. not (p y)) (filter (λ y. not (q y)) xs)) (filter (λ y. not (p y)) (filter (λ y. not (q y)) xs))) e)
    by false true e h = h
    by false false e h = ap (λ (l : List X). x ∷ l) h ∙ sym (ap (λ t. cond (not t) (x ∷ filter (λ y. not (p y)) (filter (λ y. not (q y)) xs)) (filter (λ y. not (p y)) (filter (λ y. not (q y)) xs))) e)

same_tests : {X : Type 0} (p q : X → Bool) (xs : List X) → AllByRecursion (λ x. p x ≡ q x) xs → filter p xs ≡ filter q xs
same_tests p q [] a = refl
same_tests p q (x ∷ xs) a = (λ i. cond (a.0 i) (x ∷ same_tests p q xs a.1 i) (same_tests p q xs a.1 i))

map_filter : {X Y : Type 0} (f : X → Y) (p : Y → Bool) (xs : List X) → map f (filter (λ x. p (f x)) xs) ≡ filter p (map f xs)
map_filter f p [] = refl
map_filter {X} {Y} f p (x ∷ xs) = by (p (f x)) (map_filter f p xs)
  where
    by : (b : Bool) → map f (filter (λ y. p (f y)) xs) ≡ filter p (map f xs) → map f (cond b (x ∷ filter (λ y. p (f y)) xs) (filter (λ y. p (f y)) xs)) ≡ cond b (f x ∷ filter p (map f xs)) (filter p (map f xs))
    by true h = ap (λ (l : List Y). f x ∷ l) h
    by false h = h

-- ---- what is gone was stored

has_push : (ms : List Message) (m : Message) (id : Id) → HasId ms id → HasId (ms ++ m ∷ []) id
has_push [] m id h = absurd h
has_push (x ∷ ms) m id (inl e) = inl e
has_push (x ∷ ms) m id (inr h) = inr (has_push ms m id h)

has_last : (ms : List Message) (m : Message) (id : Id) → m.id ≡ id → HasId (ms ++ m ∷ []) id
has_last [] m id e = inl e
has_last (x ∷ ms) m id e = inr (has_last ms m id e)

has_more : (b : Bool) (ms : List Message) (m : Message) (id : Id) → HasId ms id → HasId (cond b (ms ++ m ∷ []) ms) id
has_more true ms m id h = has_push ms m id h
has_more false ms m id h = h

has_this : (b : Bool) (ms : List Message) (m : Message) (id : Id) → b ≡ true → m.id ≡ id → HasId (cond b (ms ++ m ∷ []) ms) id
has_this true ms m id e f = has_last ms m id f
has_this false ms m id e f = absurd (true≢false (sym e))

gone_stored : (c : List ℕ) (id : Id) (h : List Event) → Along LeavesStored h → is_gone c id h ≡ true → HasId (published c h) id
gone_stored c id [] l g = absurd (true≢false (sym g))
gone_stored c id (Stored w d m slot len exp kept members from r ct body ∷ h) l g =
    ⊎_elim
    (λ (e : (not kept && (bytes_eq d c && id_eq m id)) ≡ true).
    let p = and_parts (bytes_eq d c) (id_eq m id) (and_parts (not kept) (bytes_eq d c && id_eq m id) e).1 in
    has_this (bytes_eq d c) (published c h) (stored_message m slot exp ct body) id p.0 (id_is m id p.1))
    (λ (e : is_gone c id h ≡ true). has_more (bytes_eq d c) (published c h) (stored_message m slot exp ct body) id (gone_stored c id h l.0 e))
    (or_cases (not kept && (bytes_eq d c && id_eq m id)) (is_gone c id h) g)
gone_stored c id (Left w d m slot cause ∷ h) l g =
    ⊎_elim
    (λ (e : (bytes_eq d c && id_eq m id) ≡ true).
    let p = and_parts (bytes_eq d c) (id_eq m id) e in
    subst (λ (n : List ℕ). HasId (published n h) id) (same_text d c (sym p.0)) (subst (HasId (published d h)) (id_is m id p.1) l.1))
    (λ (e : is_gone c id h ≡ true). gone_stored c id h l.0 e)
    (or_cases (bytes_eq d c && id_eq m id) (is_gone c id h) g)
gone_stored c id (e ∷ h) l g = gone_stored c id h l.0 g

has_past : (ms : List Message) (id old : Id) → AllByRecursion (λ m. IsPast id m.id) ms → HasId ms old → IsPast id old
has_past [] id old a h = absurd h
has_past (m ∷ ms) id old a (inl e) = subst (IsPast id) e a.0
has_past (m ∷ ms) id old a (inr h) = has_past ms id old a.1 h

is_not : (b : Bool) → (b ≡ true → ⊥) → b ≡ false
is_not true f = absurd (f refl)
is_not false f = refl

not_gone : (workers w : ℕ) (c : List ℕ) (id : Id) (h : List Event) → IsStamped workers h → Along LeavesStored h → IsStamp workers w c id h → is_gone c id h ≡ false
not_gone workers w c id h s l t = is_not (is_gone c id h) (λ g. not_past id (has_past (published c h) id id (stored-past workers w c id h s t) (gone_stored c id h l g)))

-- ---- the buffer after an event

abbrev stays_in : List ℕ → List Event → Message → Bool
stays_in c h m = not (is_gone c m.id h)

kept_buffer : (w d' : ℕ) (c : List ℕ) (m : Message) (h : List Event) (kept : Bool) → AllByRecursion (λ x. IsPast m.id x.id) (published c h) → is_gone c m.id h ≡ false
    → filter (λ x. not ((not kept && id_eq m.id x.id) || is_gone c x.id h)) (published c h ++ m ∷ []) ≡ cond kept (buffer c h ++ m ∷ []) (buffer c h)
kept_buffer w d' c m h true past none =
    filter-append (stays_in c h) (published c h) (m ∷ []) ∙ ap (λ b. buffer c h ++ cond (not b) (m ∷ []) []) none
kept_buffer w d' c m h false past none =
    filter-append (λ x. not (id_eq m.id x.id || is_gone c x.id h)) (published c h) (m ∷ [])
    ∙ ap (λ l. l ++ cond (not (id_eq m.id m.id || is_gone c m.id h)) (m ∷ []) []) (same_tests (λ x. not (id_eq m.id x.id || is_gone c x.id h)) (stays_in c h) (published c h) (others (published c h) past))
    ∙ ap (λ b. buffer c h ++ cond (not (b || is_gone c m.id h)) (m ∷ []) []) (id_self m.id) ∙ append_none (buffer c h)
  where
    others : (xs : List Message) → AllByRecursion (λ x. IsPast m.id x.id) xs → AllByRecursion (λ x. not (id_eq m.id x.id || is_gone c x.id h) ≡ not (is_gone c x.id h)) xs
    others [] a = tt
    others (x ∷ xs) a = (ap (λ b. not (b || is_gone c x.id h)) (id_past m.id x.id a.0), others xs a.1)

    append_none : (xs : List Message) → xs ++ [] ≡ xs
    append_none [] = refl
    append_none (x ∷ xs) = ap (λ (l : List Message). x ∷ l) (append_none xs)

pub stored_buffer : (b kept : Bool) (c : List ℕ) (m : Message) (h : List Event) → (b ≡ true → AllByRecursion (λ x. IsPast m.id x.id) (published c h)) → (b ≡ true → is_gone c m.id h ≡ false)
    → filter (λ x. not ((not kept && (b && id_eq m.id x.id)) || is_gone c x.id h)) (cond b (published c h ++ m ∷ []) (published c h)) ≡ cond b (cond kept (buffer c h ++ m ∷ []) (buffer c h)) (buffer c h)
stored_buffer true kept c m h past none = kept_buffer 0 0 c m h kept (past refl) (none refl)
stored_buffer false true c m h past none = refl
stored_buffer false false c m h past none = refl

left_buffer : (b : Bool) (c : List ℕ) (id : Id) (h : List Event) → filter (λ x. not ((b && id_eq id x.id) || is_gone c x.id h)) (published c h) ≡ cond b (filter (λ x. not (id_eq id x.id)) (buffer c h)) (buffer c h)
left_buffer true c id h = two_tests (λ (x : Message). id_eq id x.id) (λ x. is_gone c x.id h) (published c h)
left_buffer false c id h = refl

-- ---- the entries after an event

stored_entries : (b kept : Bool) (e : Entry) (o : Option Channel) (sp : Id) → entries_in (cond b (Some (kept_channel kept e (unwrap_or o (made sp)))) o) ≡ cond b (kept_entries kept e (entries_in o)) (entries_in o)
stored_entries true kept e None sp = refl
stored_entries true kept e (Some ch) sp = refl
stored_entries false kept e o sp = refl

left_entries : (b : Bool) (id : Id) (o : Option Channel) → entries_in (cond b (option_map (left_channel id) o) o) ≡ cond b (without_id (entries_in o) id) (entries_in o)
left_entries true id None = refl
left_entries true id (Some ch) = refl
left_entries false id o = refl

pub made_entries : (o : Option Channel) (sp : Id) → entries_of (unwrap_or o (made sp)) ≡ entries_in o
made_entries None sp = refl
made_entries (Some ch) sp = refl

same_entries : (b : Bool) (x o : Option Channel) → entries_in x ≡ entries_in o → entries_in (cond b x o) ≡ entries_in o
same_entries true x o e = e
same_entries false x o e = refl

look_entries : (from : ℕ) (past : Option Id) (ch : Channel) → entries_of (with_look from past ch) ≡ entries_of ch
look_entries from None ch = refl
look_entries from (Some id) ch = refl

part_entries : (f : Channel → Channel) → ((ch : Channel) → entries_of (f ch) ≡ entries_of ch) → (o : Option Channel) → entries_in (option_map f o) ≡ entries_in o
part_entries f e None = refl
part_entries f e (Some ch) = e ch

counted_brief : (slot : ℕ) (es : List Entry) → map brief_entry (map (counted slot) es) ≡ map brief_entry es
counted_brief slot [] = refl
counted_brief slot (e ∷ es) = (λ i. one (e.slot == slot) i ∷ counted_brief slot es i)
  where
    one : (b : Bool) → brief_entry (cond b (record e { grants = e.grants + 1 }) e) ≡ brief_entry e
    one true = refl
    one false = refl

granted_brief : (slot : ℕ) (o : Option Channel) → map brief_entry (entries_in (option_map (with_grants slot) o)) ≡ map brief_entry (entries_in o)
granted_brief slot None = refl
granted_brief slot (Some ch) = counted_brief slot (entries_of ch)

-- ---- both

stored_both : (b kept : Bool) (e : Entry) (m : Message) (es : List Entry) (ms : List Message) → brief_entry e ≡ brief_message m → map brief_entry es ≡ map brief_message ms
    → map brief_entry (cond b (kept_entries kept e es) es) ≡ map brief_message (cond b (cond kept (ms ++ m ∷ []) ms) ms)
stored_both true true e m es ms one all = map-append brief_entry es (e ∷ []) ∙ (λ i. all i ++ one i ∷ []) ∙ sym (map-append brief_message ms (m ∷ []))
stored_both true false e m es ms one all = all
stored_both false kept e m es ms one all = all

filter_same : {X : Type 0} (p q : X → Bool) → ((x : X) → p x ≡ q x) → (xs : List X) → filter p xs ≡ filter q xs
filter_same p q e [] = refl
filter_same p q e (x ∷ xs) = (λ i. cond (e x i) (x ∷ filter_same p q e xs i) (filter_same p q e xs i))

left_both : (b : Bool) (id : Id) (es : List Entry) (ms : List Message) → map brief_entry es ≡ map brief_message ms → map brief_entry (cond b (without_id es id) es) ≡ map brief_message (cond b (filter (λ x. not (id_eq id x.id)) ms) ms)
left_both true id es ms all =
    map_filter brief_entry (λ (y : Brief). not (id_eq y.id id)) es
    ∙ filter_same (λ (y : Brief). not (id_eq y.id id)) (λ y. not (id_eq id y.id)) (λ y. ap not (id_turned y.id id)) (map brief_entry es)
    ∙ ap (filter (λ (y : Brief). not (id_eq id y.id))) all
    ∙ sym (map_filter brief_message (λ (y : Brief). not (id_eq id y.id)) ms)
left_both false id es ms all = all

removed_both : (b : Bool) (o : Option Channel) (ms : List Message) → (b ≡ true → ms ≡ []) → map brief_entry (entries_in o) ≡ map brief_message ms → map brief_entry (entries_in (cond b None o)) ≡ map brief_message ms
removed_both true o ms none all = sym (ap (map brief_message) (none refl))
removed_both false o ms none all = all

pub buffer_law : BufferLaw
buffer_law me workers slots first c [] s l = refl
buffer_law me workers slots first c (Stored w d id slot len exp kept members from r ct body ∷ h) s l =
    let o = channel_of (new_desk me workers slots first) c h in
    let sp = (desk_of (new_desk me workers slots first) h).spent in
    let e = new_entry id slot exp in
    let m = stored_message id slot exp ct body in
    ap (map brief_entry) (stored_entries (bytes_eq d c) kept e o sp)
    ∙ stored_both (bytes_eq d c) kept e m (entries_in o) (buffer c h) refl (buffer_law me workers slots first c h s.0 l.0)
    ∙ ap (map brief_message) (sym (stored_buffer (bytes_eq d c) kept c m h
    (λ is. subst (λ (n : List ℕ). AllByRecursion (λ x. IsPast id x.id) (published n h)) (same_text d c (sym is)) (stored-past workers w d id h s.0 s.1))
    (λ is. subst (λ (n : List ℕ). is_gone n id h ≡ false) (same_text d c (sym is)) (not_gone workers w d id h s.0 l.0 s.1))))
buffer_law me workers slots first c (Left w d id slot cause ∷ h) s l =
    let o = channel_of (new_desk me workers slots first) c h in
    ap (map brief_entry) (left_entries (bytes_eq d c) id o)
    ∙ left_both (bytes_eq d c) id (entries_in o) (buffer c h) (buffer_law me workers slots first c h s.0 l.0)
    ∙ ap (map brief_message) (sym (left_buffer (bytes_eq d c) c id h))
buffer_law me workers slots first c (Looked w q from number d after floor past ∷ h) s l =
    let o = channel_of (new_desk me workers slots first) c h in
    let ch = unwrap_or o (made (desk_of (new_desk me workers slots first) h).spent) in
    ap (map brief_entry) (same_entries (bytes_eq d c) (Some (with_look from past ch)) o (look_entries from past ch ∙ made_entries o (desk_of (new_desk me workers slots first) h).spent)) ∙ buffer_law me workers slots first c h s.0 l.0
buffer_law me workers slots first c (Joined w d from k ∷ h) s l =
    let o = channel_of (new_desk me workers slots first) c h in
    let sp = (desk_of (new_desk me workers slots first) h).spent in
    ap (map brief_entry) (same_entries (bytes_eq d c) (Some (joined_channel (record { from = from; k = k }) (unwrap_or o (made sp)))) o (made_entries o sp)) ∙ buffer_law me workers slots first c h s.0 l.0
buffer_law me workers slots first c (Parted w d from k ∷ h) s l =
    let o = channel_of (new_desk me workers slots first) c h in
    ap (map brief_entry) (same_entries (bytes_eq d c) (option_map (parted_channel (record { from = from; k = k })) o) o (part_entries (parted_channel (record { from = from; k = k })) (λ ch. refl) o)) ∙ buffer_law me workers slots first c h s.0 l.0
buffer_law me workers slots first c (Granted w g slot to ∷ h) s l = granted_brief slot (channel_of (new_desk me workers slots first) c h) ∙ buffer_law me workers slots first c h s.0 l.0
buffer_law me workers slots first c (Removed w d last cause ∷ h) s l =
    removed_both (bytes_eq d c) (channel_of (new_desk me workers slots first) c h) (buffer c h) (λ is. subst (λ (n : List ℕ). buffer n h ≡ []) (same_text d c (sym is)) l.1) (buffer_law me workers slots first c h s.0 l.0)
buffer_law me workers slots first c (e ∷ h) s l = buffer_law me workers slots first c h s.0 l.0
