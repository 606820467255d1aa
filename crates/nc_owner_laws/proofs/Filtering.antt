-- What a history tells event by event is what the definitions filter from it.
use Rattle.std.proofs.Common.{◌≡◌, ℕ, Bool, true, false, cond, not, max, List, [], ◌∷◌, Option, Some, None, refl, sym, ap, ◌∙◌, subst}
use Rattle.std.specs.Prelude.{unwrap_or, ◌&&◌, ◌||◌, nat_eq, bytes_eq}
use Rattle.std.specs.Option.{option_map}
use Rattle.std.specs.List.Sorted.{IsStrictlySortedBy}
use Rattle.nc_types.specs.Id.{Id}
use Rattle.nc_journal.specs.Stamp.{clock_of, floor_of, spent_of, made_last, greater_id}
use Rattle.nc_journal.specs.declared.event.Event.{Event}
use Rattle.nc_journal.specs.declared.event.Event.TheVariants.{Clock, Raised, Stored, Left, Looked, Joined, Parted, Granted, Removed}
use Rattle.nc_owner.specs.declared.channel.Channel.{Channel}
use Rattle.nc_owner.specs.declared.desk.Desk.{Desk}
use Rattle.nc_owner.specs.declared.member.Member.{Member}
use Rattle.nc_owner.specs.Ascending.{has_number, with_new_number}
use Rattle.nc_owner.specs.Members.{member_cmp, has_member, with_member, without_member}
use Rattle.nc_owner.specs.Publish.{kept_channel}
use Rattle.nc_owner_laws.specs.OwnerTold.{desk_of, channel_of, channel_with, made, with_look, with_grants, left_channel, joined_channel, parted_channel, new_entry}
use Rattle.nc_owner_laws.specs.Filters.{new_desk, DeskLaw, latest_of, is_same, is_member, is_marked, last_in, latest_in, members_in, marks_in, ChannelLaw}
use Rattle.nc_owner_laws.proofs.Shelf.{turned, sorted_none}
use Rattle.nc_owner_laws.proofs.Sets.{any_inserted, any_removed, sorted_inserted, sorted_removed, member_total, member_is, has_with_new}

-- ---- the desk

clock_law : (d : Desk) → d.clock ≡ 0 → (h : List Event) → (desk_of d h).clock ≡ clock_of h
clock_law d z [] = z
clock_law d z (Clock w t ∷ h) = refl
clock_law d z (Stored w c id slot len exp true members from r ct body ∷ h) = clock_law d z h
clock_law d z (Stored w c id slot len exp false members from r ct body ∷ h) = clock_law d z h
clock_law d z (e ∷ h) = clock_law d z h

floor_law : (d : Desk) → d.floor ≡ 0 → (h : List Event) → (desk_of d h).floor ≡ floor_of h
floor_law d z [] = z
floor_law d z (Raised w t ∷ h) = ap (λ n. max n t) (floor_law d z h)
floor_law d z (Stored w c id slot len exp true members from r ct body ∷ h) = ap (λ n. max n id.time) (floor_law d z h)
floor_law d z (Stored w c id slot len exp false members from r ct body ∷ h) = ap (λ n. max n id.time) (floor_law d z h)
floor_law d z (e ∷ h) = floor_law d z h

spent_law : (me workers slots first : ℕ) (h : List Event) → (desk_of (new_desk me workers slots first) h).spent ≡ spent_of h
spent_law me workers slots first [] = refl
spent_law me workers slots first (Removed w c last cause ∷ h) = ap (λ id. greater_id id last) (spent_law me workers slots first h)
spent_law me workers slots first (Stored w c id slot len exp true members from r ct body ∷ h) = spent_law me workers slots first h
spent_law me workers slots first (Stored w c id slot len exp false members from r ct body ∷ h) = spent_law me workers slots first h
spent_law me workers slots first (e ∷ h) = spent_law me workers slots first h

pub desk_law : DeskLaw
desk_law me workers slots first h = record {
  clock = clock_law (new_desk me workers slots first) refl h;
  floor = floor_law (new_desk me workers slots first) refl h;
  spent = spent_law me workers slots first h;
}

-- ---- the last ids of a channel

-- two options whose parts agree, on one side of a test or the other
if_last : (b : Bool) (x y : Option Channel) (p q : Option Id) → last_in x ≡ p → last_in y ≡ q → last_in (cond b x y) ≡ cond b p q
if_last true x y p q e f = e
if_last false x y p q e f = f

pub last_made : (o : Option Channel) (a : Option Id) (sp sq : Id) → last_in o ≡ a → sp ≡ sq → (unwrap_or o (made sp)).backlog.last ≡ unwrap_or a sq
last_made None a sp sq e f = f ∙ ap (λ x. unwrap_or x sq) e
last_made (Some ch) a sp sq e f = ap (λ x. unwrap_or x sq) e

look_last : (from : ℕ) (past : Option Id) (ch : Channel) → (with_look from past ch).backlog.last ≡ ch.backlog.last
look_last from None ch = refl
look_last from (Some id) ch = refl

same_last : (f : Channel → Channel) → ((ch : Channel) → (f ch).backlog.last ≡ ch.backlog.last) → (o : Option Channel) → last_in (option_map f o) ≡ last_in o
same_last f e None = refl
same_last f e (Some ch) = ap (λ (id : Id). Some id) (e ch)

stays_last : (b : Bool) (f : Channel → Channel) → ((ch : Channel) → (f ch).backlog.last ≡ ch.backlog.last) → (o : Option Channel) (a : Option Id) → last_in o ≡ a → last_in (cond b (option_map f o) o) ≡ a
stays_last true f e o a is = same_last f e o ∙ is
stays_last false f e o a is = is

pub last_law : (me workers slots first : ℕ) (c : List ℕ) (h : List Event) → last_in (channel_of (new_desk me workers slots first) c h) ≡ made_last c h
last_law me workers slots first c [] = refl
last_law me workers slots first c (Stored w d id slot len exp kept members from r ct body ∷ h) = if_last (bytes_eq d c) _ _ (Some id) (made_last c h) refl (last_law me workers slots first c h)
last_law me workers slots first c (Looked w q from number d after floor past ∷ h) =
    let o = channel_of (new_desk me workers slots first) c h in
    let sp = (desk_of (new_desk me workers slots first) h).spent in
    if_last (bytes_eq d c) (Some (with_look from past (unwrap_or o (made sp)))) o (Some (unwrap_or (made_last c h) (spent_of h))) (made_last c h)
    (ap (λ (x : Id). Some x) (look_last from past (unwrap_or o (made sp)) ∙ last_made o (made_last c h) sp (spent_of h) (last_law me workers slots first c h) (spent_law me workers slots first h)))
    (last_law me workers slots first c h)
last_law me workers slots first c (Joined w d from k ∷ h) =
    let o = channel_of (new_desk me workers slots first) c h in
    let sp = (desk_of (new_desk me workers slots first) h).spent in
    if_last (bytes_eq d c) (Some (joined_channel (record { from = from; k = k }) (unwrap_or o (made sp)))) o (Some (unwrap_or (made_last c h) (spent_of h))) (made_last c h)
    (ap (λ (x : Id). Some x) (last_made o (made_last c h) sp (spent_of h) (last_law me workers slots first c h) (spent_law me workers slots first h)))
    (last_law me workers slots first c h)
last_law me workers slots first c (Removed w d last cause ∷ h) = if_last (bytes_eq d c) None _ None (made_last c h) refl (last_law me workers slots first c h)
last_law me workers slots first c (Left w d id slot cause ∷ h) = stays_last (bytes_eq d c) (left_channel id) (λ ch. refl) _ (made_last c h) (last_law me workers slots first c h)
last_law me workers slots first c (Parted w d from k ∷ h) = stays_last (bytes_eq d c) (parted_channel (record { from = from; k = k })) (λ ch. refl) _ (made_last c h) (last_law me workers slots first c h)
last_law me workers slots first c (Granted w g slot to ∷ h) = same_last (with_grants slot) (λ ch. refl) _ ∙ last_law me workers slots first c h
last_law me workers slots first c (e ∷ h) = last_law me workers slots first c h

-- ---- the last message since the making

if_latest : (b : Bool) (x y : Option Channel) (p q : Option Id) → latest_in x ≡ p → latest_in y ≡ q → latest_in (cond b x y) ≡ cond b p q
if_latest true x y p q e f = e
if_latest false x y p q e f = f

same_latest : (b : Bool) (x y : Option Channel) (p : Option Id) → latest_in x ≡ latest_in y → latest_in y ≡ p → latest_in (cond b x y) ≡ p
same_latest true x y p e f = e ∙ f
same_latest false x y p e f = f

map_latest : (f : Channel → Channel) → ((ch : Channel) → (f ch).latest ≡ ch.latest) → (o : Option Channel) → latest_in (option_map f o) ≡ latest_in o
map_latest f e None = refl
map_latest f e (Some ch) = e ch

made_latest : (o : Option Channel) (sp : Id) → (unwrap_or o (made sp)).latest ≡ latest_in o
made_latest None sp = refl
made_latest (Some ch) sp = refl

look_latest : (from : ℕ) (past : Option Id) (ch : Channel) → (with_look from past ch).latest ≡ ch.latest
look_latest from None ch = refl
look_latest from (Some id) ch = refl

latest_law : (d : Desk) (c : List ℕ) (h : List Event) → latest_in (channel_of d c h) ≡ latest_of c h
latest_law d c [] = refl
latest_law d c (Stored w n id slot len exp kept members from r ct body ∷ h) = if_latest (bytes_eq n c) _ _ (Some id) (latest_of c h) refl (latest_law d c h)
latest_law d c (Looked w q from number n after floor past ∷ h) =
    let o = channel_of d c h in
    let ch = unwrap_or o (made (desk_of d h).spent) in
    same_latest (bytes_eq n c) (Some (with_look from past ch)) o (latest_of c h) (look_latest from past ch ∙ made_latest o (desk_of d h).spent) (latest_law d c h)
latest_law d c (Joined w n from k ∷ h) =
    let o = channel_of d c h in
    same_latest (bytes_eq n c) (Some (joined_channel (record { from = from; k = k }) (unwrap_or o (made (desk_of d h).spent)))) o (latest_of c h) (made_latest o (desk_of d h).spent) (latest_law d c h)
latest_law d c (Removed w n last cause ∷ h) = if_latest (bytes_eq n c) None _ None (latest_of c h) refl (latest_law d c h)
latest_law d c (Left w n id slot cause ∷ h) = same_latest (bytes_eq n c) (option_map (left_channel id) (channel_of d c h)) (channel_of d c h) (latest_of c h) (map_latest (left_channel id) (λ ch. refl) (channel_of d c h)) (latest_law d c h)
latest_law d c (Parted w n from k ∷ h) =
    same_latest (bytes_eq n c) (option_map (parted_channel (record { from = from; k = k })) (channel_of d c h)) (channel_of d c h) (latest_of c h) (map_latest (parted_channel (record { from = from; k = k })) (λ ch. refl) (channel_of d c h)) (latest_law d c h)
latest_law d c (Granted w g slot to ∷ h) = map_latest (with_grants slot) (λ ch. refl) (channel_of d c h) ∙ latest_law d c h
latest_law d c (e ∷ h) = latest_law d c h

-- ---- members

same_members : (b : Bool) (x y : Option Channel) → members_in x ≡ members_in y → members_in (cond b x y) ≡ members_in y
same_members true x y e = e
same_members false x y e = refl

map_members : (f : Channel → Channel) → ((ch : Channel) → (f ch).members ≡ ch.members) → (o : Option Channel) → members_in (option_map f o) ≡ members_in o
map_members f e None = refl
map_members f e (Some ch) = e ch

pub made_members : (o : Option Channel) (sp : Id) → (unwrap_or o (made sp)).members ≡ members_in o
made_members None sp = refl
made_members (Some ch) sp = refl

look_members : (from : ℕ) (past : Option Id) (ch : Channel) → (with_look from past ch).members ≡ ch.members
look_members from None ch = refl
look_members from (Some id) ch = refl

-- the members after an event
abbrev members_with : List ℕ → List Member → Event → List Member
members_with c ms (Joined w n from k) = cond (bytes_eq n c) (with_member (record { from = from; k = k }) ms) ms
members_with c ms (Parted w n from k) = cond (bytes_eq n c) (without_member (record { from = from; k = k }) ms) ms
members_with c ms (Removed w n last cause) = cond (bytes_eq n c) [] ms
members_with c ms e = ms

joins : (b : Bool) (m : Member) (o : Option Channel) (sp : Id) → members_in (cond b (Some (joined_channel m (unwrap_or o (made sp)))) o) ≡ cond b (with_member m (members_in o)) (members_in o)
joins true m o sp = ap (with_member m) (made_members o sp)
joins false m o sp = refl

parts : (b : Bool) (m : Member) (o : Option Channel) → members_in (cond b (option_map (parted_channel m) o) o) ≡ cond b (without_member m (members_in o)) (members_in o)
parts true m None = refl
parts true m (Some ch) = refl
parts false m o = refl

removes : (b : Bool) (o : Option Channel) → members_in (cond b None o) ≡ cond b [] (members_in o)
removes true o = refl
removes false o = refl

members_step : (c : List ℕ) (sp : Id) (o : Option Channel) (e : Event) → members_in (channel_with c sp o e) ≡ members_with c (members_in o) e
members_step c sp o (Stored w n id slot len exp kept members from r ct body) = same_members (bytes_eq n c) (Some (kept_channel kept (new_entry id slot exp) (unwrap_or o (made sp)))) o (made_members o sp)
members_step c sp o (Left w n id slot cause) = same_members (bytes_eq n c) (option_map (left_channel id) o) o (map_members (left_channel id) (λ ch. refl) o)
members_step c sp o (Looked w q from number n after floor past) = same_members (bytes_eq n c) (Some (with_look from past (unwrap_or o (made sp)))) o (look_members from past (unwrap_or o (made sp)) ∙ made_members o sp)
members_step c sp o (Joined w n from k) = joins (bytes_eq n c) (record { from = from; k = k }) o sp
members_step c sp o (Parted w n from k) = parts (bytes_eq n c) (record { from = from; k = k }) o
members_step c sp o (Granted w g slot to) = map_members (with_grants slot) (λ ch. refl) o
members_step c sp o (Removed w n last cause) = removes (bytes_eq n c) o
members_step c sp o e = refl

abbrev AreSorted : List Member → Type 0
AreSorted ms = IsStrictlySortedBy member_cmp ms

if_sorted : (b : Bool) (xs ys : List Member) → AreSorted xs → AreSorted ys → AreSorted (cond b xs ys)
if_sorted true xs ys s t = s
if_sorted false xs ys s t = t

sorted_step : (c : List ℕ) (ms : List Member) (e : Event) → AreSorted ms → AreSorted (members_with c ms e)
sorted_step c ms (Joined w n from k) s = if_sorted (bytes_eq n c) _ ms (sorted_inserted member_total (record { from = from; k = k }) ms s) s
sorted_step c ms (Parted w n from k) s = if_sorted (bytes_eq n c) _ ms (sorted_removed member_total _ ms s) s
sorted_step c ms (Removed w n last cause) s = if_sorted (bytes_eq n c) [] ms (sorted_none member_cmp) s
sorted_step c ms e s = s

members_sorted : (d : Desk) (c : List ℕ) (h : List Event) → AreSorted (members_in (channel_of d c h))
members_sorted d c [] = sorted_none member_cmp
members_sorted d c (e ∷ h) = subst AreSorted (sym (members_step c (desk_of d h).spent (channel_of d c h) e)) (sorted_step c (members_in (channel_of d c h)) e (members_sorted d c h))

-- whether one is a member after an event
abbrev member_with : List ℕ → Member → Bool → Event → Bool
member_with c m is (Joined w n from k) = (bytes_eq n c && is_same m from k) || is
member_with c m is (Parted w n from k) = not (bytes_eq n c && is_same m from k) && is
member_with c m is (Removed w n last cause) = not (bytes_eq n c) && is
member_with c m is e = is

joins_is : (b : Bool) (m : Member) (from k : ℕ) (ms : List Member) → has_member m (cond b (with_member (record { from = from; k = k }) ms) ms) ≡ ((b && is_same m from k) || has_member m ms)
joins_is true m from k ms = any_inserted member_total m (record { from = from; k = k }) ms ∙ ap (λ b. b || has_member m ms) (member_is m from k)
joins_is false m from k ms = refl

parts_is : (b : Bool) (m : Member) (from k : ℕ) (ms : List Member) → AreSorted ms → has_member m (cond b (without_member (record { from = from; k = k }) ms) ms) ≡ (not (b && is_same m from k) && has_member m ms)
parts_is true m from k ms s =
    any_removed member_total m (record { from = from; k = k }) ms s
    ∙ ap (λ b. not b && has_member m ms) (turned member_total (record { from = from; k = k }) m ∙ member_is m from k)
parts_is false m from k ms s = refl

removes_is : (b : Bool) (m : Member) (ms : List Member) → has_member m (cond b [] ms) ≡ (not b && has_member m ms)
removes_is true m ms = refl
removes_is false m ms = refl

member_step : (c : List ℕ) (m : Member) (ms : List Member) (e : Event) → AreSorted ms → has_member m (members_with c ms e) ≡ member_with c m (has_member m ms) e
member_step c m ms (Joined w n from k) s = joins_is (bytes_eq n c) m from k ms
member_step c m ms (Parted w n from k) s = parts_is (bytes_eq n c) m from k ms s
member_step c m ms (Removed w n last cause) s = removes_is (bytes_eq n c) m ms
member_step c m ms e s = refl

member_filter : (c : List ℕ) (m : Member) (e : Event) (h : List Event) → member_with c m (is_member c m h) e ≡ is_member c m (e ∷ h)
member_filter c m (Joined w n from k) h = refl
member_filter c m (Parted w n from k) h = refl
member_filter c m (Removed w n last cause) h = refl
member_filter c m e h = refl

members_law : (d : Desk) (c : List ℕ) (m : Member) (h : List Event) → has_member m (members_in (channel_of d c h)) ≡ is_member c m h
members_law d c m [] = refl
members_law d c m (e ∷ h) =
    ap (has_member m) (members_step c (desk_of d h).spent (channel_of d c h) e)
    ∙ member_step c m (members_in (channel_of d c h)) e (members_sorted d c h)
    ∙ ap (λ b. member_with c m b e) (members_law d c m h) ∙ member_filter c m e h

-- ---- marks

pub made_marks : (o : Option Channel) (sp : Id) → (unwrap_or o (made sp)).marks ≡ marks_in o
made_marks None sp = refl
made_marks (Some ch) sp = refl

same_marks : (b : Bool) (x y : Option Channel) → marks_in x ≡ marks_in y → marks_in (cond b x y) ≡ marks_in y
same_marks true x y e = e
same_marks false x y e = refl

map_marks : (f : Channel → Channel) → ((ch : Channel) → (f ch).marks ≡ ch.marks) → (o : Option Channel) → marks_in (option_map f o) ≡ marks_in o
map_marks f e None = refl
map_marks f e (Some ch) = e ch

clears : (b : Bool) (x y : Option Channel) (u : ℕ) → marks_in x ≡ [] → has_number u (marks_in (cond b x y)) ≡ (not b && has_number u (marks_in y))
clears true x y u e = ap (has_number u) e
clears false x y u e = refl

marks : (b : Bool) (from : ℕ) (o : Option Channel) (sp : Id) (u : ℕ) → has_number u (marks_in (cond b (Some (with_look from None (unwrap_or o (made sp)))) o)) ≡ ((b && nat_eq u from) || has_number u (marks_in o))
marks true from o sp u = ap (λ l. has_number u (with_new_number l from)) (made_marks o sp) ∙ has_with_new u from (marks_in o)
marks false from o sp u = refl

pub marks_law : (d : Desk) (c : List ℕ) (u : ℕ) (h : List Event) → has_number u (marks_in (channel_of d c h)) ≡ is_marked c u h
marks_law d c u [] = refl
marks_law d c u (Looked w q from number n after floor None ∷ h) =
    marks (bytes_eq n c) from (channel_of d c h) (desk_of d h).spent u ∙ ap (λ b. (bytes_eq n c && nat_eq u from) || b) (marks_law d c u h)
marks_law d c u (Looked w q from number n after floor (Some id) ∷ h) =
    ap (has_number u) (same_marks (bytes_eq n c) (Some (unwrap_or (channel_of d c h) (made (desk_of d h).spent))) (channel_of d c h) (made_marks (channel_of d c h) (desk_of d h).spent)) ∙ marks_law d c u h
marks_law d c u (Stored w n id slot len exp kept members from r ct body ∷ h) =
    clears (bytes_eq n c) (Some (kept_channel kept (new_entry id slot exp) (unwrap_or (channel_of d c h) (made (desk_of d h).spent)))) (channel_of d c h) u refl ∙ ap (λ b. not (bytes_eq n c) && b) (marks_law d c u h)
marks_law d c u (Removed w n last cause ∷ h) = clears (bytes_eq n c) None (channel_of d c h) u refl ∙ ap (λ b. not (bytes_eq n c) && b) (marks_law d c u h)
marks_law d c u (Joined w n from k ∷ h) =
    ap (has_number u) (same_marks (bytes_eq n c) (Some (joined_channel (record { from = from; k = k }) (unwrap_or (channel_of d c h) (made (desk_of d h).spent)))) (channel_of d c h) (made_marks (channel_of d c h) (desk_of d h).spent)) ∙ marks_law d c u h
marks_law d c u (Left w n id slot cause ∷ h) = ap (has_number u) (same_marks (bytes_eq n c) (option_map (left_channel id) (channel_of d c h)) (channel_of d c h) (map_marks (left_channel id) (λ ch. refl) (channel_of d c h))) ∙ marks_law d c u h
marks_law d c u (Parted w n from k ∷ h) =
    ap (has_number u) (same_marks (bytes_eq n c) (option_map (parted_channel (record { from = from; k = k })) (channel_of d c h)) (channel_of d c h) (map_marks (parted_channel (record { from = from; k = k })) (λ ch. refl) (channel_of d c h))) ∙ marks_law d c u h
marks_law d c u (Granted w g slot to ∷ h) = ap (has_number u) (map_marks (with_grants slot) (λ ch. refl) (channel_of d c h)) ∙ marks_law d c u h
marks_law d c u (e ∷ h) = marks_law d c u h

pub channel_law : ChannelLaw
channel_law me workers slots first c h = record {
  last = last_law me workers slots first c h;
  latest = latest_law (new_desk me workers slots first) c h;
  members = λ m. members_law (new_desk me workers slots first) c m h;
  marks = λ u. marks_law (new_desk me workers slots first) c u h;
}
