-- The messages of a channel and its buffer, as the history goes on.
use Rattle.std.specs.Prelude.{bytes_eq}
use Rattle.std.proofs.Common.{◌≡◌, ◌⊎◌, inl, inr, ℕ, Bool, true, false, cond, not, ◌||◌, List, [], ◌∷◌, ◌++◌, refl, sym, ◌∙◌, subst, ap, append_assoc, Some, None, find, filter, true≢false}
use Rattle.std.specs.List.{AllByRecursion}
use Rattle.std.proofs.lemmas.Bool.{cond_both}
use Rattle.std.proofs.lemmas.List.{append-nil}
use Rattle.std.proofs.lemmas.List.Elements.{filter-append}
use Rattle.nc_types.specs.Id.{Id, IsPast, is_past}
use Rattle.nc_journal.specs.Message.{Message, stored_message, published, lets_go, is_gone, buffer, first_past, IsRising}
use Rattle.nc_journal.specs.Sending.{HasId}
use Rattle.nc_journal.specs.declared.event.Event.{Event}
use Rattle.nc_journal.specs.declared.event.Event.TheVariants.{Stored}
use Rattle.nc_journal.proofs.Cuts.{all-weaker, all-append}
use Rattle.nc_journal.proofs.Ids.{not_past_of_test}

-- an event adds what it stores
pub published-push : (c : List ℕ) (e : Event) (h : List Event) → published c (e ∷ h) ≡ published c h ++ published c (e ∷ [])
published-push c (Stored w d id slot len exp kept members from r ct body) h = by_name (bytes_eq d c)
  where
    by_name : (same : Bool) → cond same (published c h ++ stored_message id slot exp ct body ∷ []) (published c h) ≡ published c h ++ cond same (stored_message id slot exp ct body ∷ []) []
    by_name true = refl
    by_name false = sym (append-nil (published c h))
published-push c e h = sym (append-nil (published c h))

pub published-append : (c : List ℕ) (newer older : List Event) → published c (newer ++ older) ≡ published c older ++ published c newer
published-append c [] older = sym (append-nil (published c older))
published-append c (e ∷ newer) older =
    published-push c e (newer ++ older)
    ∙ ap (λ ms. ms ++ published c (e ∷ [])) (published-append c newer older)
    ∙ append_assoc (published c older) (published c newer) (published c (e ∷ []))
    ∙ ap (λ ms. published c older ++ ms) (sym (published-push c e newer))

pub all-filtered : {X : Type 0} (P : X → Type 0) (test : X → Bool) (xs : List X) → AllByRecursion P xs → AllByRecursion P (filter test xs)
all-filtered P test [] h = tt
all-filtered P test (x ∷ xs) h = cond_both (test x) _ _ (AllByRecursion P) (λ _. (h.0, all-filtered P test xs h.1)) (λ _. all-filtered P test xs h.1)

all_behind : {X : Type 0} (P : X → Type 0) (x : X) (xs : List X) (b : Bool) → AllByRecursion P (cond b (x ∷ xs) xs) → AllByRecursion P xs
all_behind P x xs true h = h.1
all_behind P x xs false h = h

-- a test that passes fewer
pub all-fewer : {X : Type 0} (P : X → Type 0) (more fewer : X → Bool) → ((x : X) → fewer x ≡ true → more x ≡ true) → (xs : List X) → AllByRecursion P (filter more xs) → AllByRecursion P (filter fewer xs)
all-fewer P more fewer implies [] h = tt
all-fewer P more fewer implies (x ∷ xs) h =
    let rest = all-fewer P more fewer implies xs (all_behind P x (filter more xs) (more x) h) in
    cond_both (fewer x) _ _ (AllByRecursion P) (λ passes. ((subst (λ b. AllByRecursion P (cond b (x ∷ filter more xs) (filter more xs))) (implies x passes) h).0, rest)) (λ _. rest)

not_or_right : (a b : Bool) → not (a || b) ≡ true → not b ≡ true
not_or_right true b h = absurd (true≢false (sym h))
not_or_right false b h = h

-- what is gone stays gone
pub buffer-keeps : (P : Message → Type 0) (c : List ℕ) (e : Event) (h : List Event) → AllByRecursion P (buffer c h) → AllByRecursion P (published c (e ∷ [])) → AllByRecursion P (buffer c (e ∷ h))
buffer-keeps P c e h old new = subst (λ ms. AllByRecursion P (filter stays ms)) (sym (published-push c e h))
    (subst (AllByRecursion P) (sym (filter-append stays (published c h) (published c (e ∷ []))))
    (all-append P _ _
    (all-fewer P (λ m. not (is_gone c m.id h)) stays (λ m. not_or_right (lets_go c m.id e) (is_gone c m.id h)) (published c h) old)
    (all-filtered P stays (published c (e ∷ [])) new)))
  where
    stays : Message → Bool
    stays m = not (is_gone c m.id (e ∷ h))

has_filtered : (test : Message → Bool) (ms : List Message) (id : Id) → HasId (filter test ms) id → HasId ms id
has_filtered test [] id h = h
has_filtered test (m ∷ ms) id h = by_test (test m) (has_filtered test ms id) h
  where
    by_test : (b : Bool) → (HasId (filter test ms) id → HasId ms id) → HasId (cond b (m ∷ filter test ms) (filter test ms)) id → HasId (m ∷ ms) id
    by_test true rest (inl is) = inl is
    by_test true rest (inr at) = inr (rest at)
    by_test false rest at = inr (rest at)

pub buffer-in : (c : List ℕ) (id : Id) (h : List Event) → HasId (buffer c h) id → HasId (published c h) id
buffer-in c id h at = has_filtered (λ m. not (is_gone c m.id h)) (published c h) id at

pub has-append-left : (ms more : List Message) (id : Id) → HasId ms id → HasId (ms ++ more) id
has-append-left [] more id h = absurd h
has-append-left (m ∷ ms) more id (inl is) = inl is
has-append-left (m ∷ ms) more id (inr at) = inr (has-append-left ms more id at)

pub has-append-right : (ms more : List Message) (id : Id) → HasId more id → HasId (ms ++ more) id
has-append-right [] more id h = h
has-append-right (m ∷ ms) more id h = inr (has-append-right ms more id h)

filter_whole : {X : Type 0} (test : X → Bool) → ((x : X) → test x ≡ true) → (xs : List X) → filter test xs ≡ xs
filter_whole test passes [] = refl
filter_whole test passes (x ∷ xs) = rw (passes x) (ap (λ l. x ∷ l) (filter_whole test passes xs))

-- nothing is gone
pub buffer-whole : (c : List ℕ) (h : List Event) → ((c : List ℕ) (id : Id) → is_gone c id h ≡ false) → buffer c h ≡ published c h
buffer-whole c h none = filter_whole (λ m. not (is_gone c m.id h)) (λ m. ap not (none c m.id)) (published c h)

pub rising-filtered : (test : Message → Bool) (ms : List Message) → IsRising ms → IsRising (filter test ms)
rising-filtered test [] h = tt
rising-filtered test (m ∷ ms) h = cond_both (test m) _ _ IsRising (λ _. (all-filtered (λ later. IsPast later.id m.id) test ms h.0, rising-filtered test ms h.1)) (λ _. rising-filtered test ms h.1)

find_has : (test : Message → Bool) (m : Message) (ms : List Message) → find test ms ≡ Some m → HasId ms m.id
find_has test m [] is = cc
find_has test m (x ∷ ms) is = by_test (test x) (find_has test m ms) is
  where
    by_test : (b : Bool) → (find test ms ≡ Some m → HasId ms m.id) → cond b (Some x) (find test ms) ≡ Some m → HasId (x ∷ ms) m.id
    by_test true rest is = let same : x ≡ m = cc in inl (ap (λ y. y.id) same)
    by_test false rest is = inr (rest is)

find_passes : {X : Type 0} (test : X → Bool) (m : X) (ms : List X) → find test ms ≡ Some m → test m ≡ true
find_passes test m [] is = cc
find_passes test m (x ∷ ms) is = by_test (test x) refl (find_passes test m ms) is
  where
    by_test : (b : Bool) → test x ≡ b → (find test ms ≡ Some m → test m ≡ true) → cond b (Some x) (find test ms) ≡ Some m → test m ≡ true
    by_test true passes rest is = let same : x ≡ m = cc in subst (λ y. test y ≡ true) same passes
    by_test false passes rest is = rest is

-- beside the first message past an id: the same, not past that id, or past the first
abbrev pub IsBeside : Id → Id → Message → Type 0
IsBeside after first m = (m.id ≡ first) ⊎ ((IsPast m.id after → ⊥) ⊎ IsPast m.id first)

find_beside : (after : Id) (m : Message) (ms : List Message) → IsRising ms → find (λ x. is_past x.id after) ms ≡ Some m → AllByRecursion (IsBeside after m.id) ms
find_beside after m [] rises is = tt
find_beside after m (x ∷ ms) rises is = by_test (is_past x.id after) refl (find_beside after m ms rises.1) is
  where
    by_test : (b : Bool) → is_past x.id after ≡ b → (find (λ y. is_past y.id after) ms ≡ Some m → AllByRecursion (IsBeside after m.id) ms) → cond b (Some x) (find (λ y. is_past y.id after) ms) ≡ Some m → AllByRecursion (IsBeside after m.id) (x ∷ ms)
    by_test true past rest is =
        let same : x ≡ m = cc in
        (inl (ap (λ y. y.id) same), all-weaker _ _ (λ y later. inr (inr (subst (λ z. IsPast y.id z.id) same later))) ms rises.0)
    by_test false past rest is = (inr (inl (not_past_of_test x.id after past)), rest is)

-- the first message past an id is buffered and past it, and the others are beside it
pub find-first : (c : List ℕ) (after : Id) (m : Message) (h : List Event) → first_past c after h ≡ Some m → HasId (buffer c h) m.id × (is_past m.id after ≡ true) × (IsRising (published c h) → AllByRecursion (IsBeside after m.id) (buffer c h))
find-first c after m h is = (
  find_has (λ x. is_past x.id after) m (buffer c h) is,
  find_passes (λ x. is_past x.id after) m (buffer c h) is,
  λ rises. find_beside after m (buffer c h) (rising-filtered (λ x. not (is_gone c x.id h)) (published c h) rises) is,
)

find_none : (after : Id) (ms : List Message) → find (λ x. is_past x.id after) ms ≡ None → AllByRecursion (λ x. IsPast x.id after → ⊥) ms
find_none after [] is = tt
find_none after (x ∷ ms) is = by_test (is_past x.id after) refl (find_none after ms) is
  where
    by_test : (b : Bool) → is_past x.id after ≡ b → (find (λ y. is_past y.id after) ms ≡ None → AllByRecursion (λ y. IsPast y.id after → ⊥) ms) → cond b (Some x) (find (λ y. is_past y.id after) ms) ≡ None → AllByRecursion (λ y. IsPast y.id after → ⊥) (x ∷ ms)
    by_test true past rest is = cc
    by_test false past rest is = (not_past_of_test x.id after past, rest is)

-- no buffered message is past the id
pub find-none : (c : List ℕ) (after : Id) (h : List Event) → first_past c after h ≡ None → AllByRecursion (λ m. IsPast m.id after → ⊥) (buffer c h)
find-none c after h is = find_none after (buffer c h) is
