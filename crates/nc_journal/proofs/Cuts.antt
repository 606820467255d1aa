-- Histories: how they are cut and how events are put on them.
use Rattle.std.proofs.Common.{◌≡◌, List, [], ◌∷◌, ◌++◌, refl, subst}
use Rattle.std.specs.List.{AllByRecursion}
use Rattle.nc_journal.specs.History.{onto, AtEachCut}
use Rattle.nc_journal.specs.declared.event.Event.{Event}

-- what holds at each cut of a history turns into something else by one more event, where that holds at the event and follows at each older cut
pub cut-turn : (P Q : List Event → Event → List Event → Type 0) (h : List Event) (e : Event) → AtEachCut P h → Q [] e h → ((newer : List Event) (x : Event) (older : List Event) → h ≡ newer ++ x ∷ older → P newer x older → Q (e ∷ newer) x older) → AtEachCut Q (e ∷ h)
cut-turn P Q h e each here turns = go
  where
    go : (newer : List Event) (x : Event) (older : List Event) → e ∷ h ≡ newer ++ x ∷ older → Q newer x older
    go [] x older is =
        let same : e ≡ x = cc in
        let rest : h ≡ older = cc in
        subst (λ (y : Event). Q [] y older) same (subst (λ (l : List Event). Q [] e l) rest here)
    go (y ∷ newer) x older is =
        let same : e ≡ y = cc in
        let rest : h ≡ newer ++ x ∷ older = cc in
        subst (λ (z : Event). Q (z ∷ newer) x older) same (turns newer x older rest (each newer x older rest))

-- what holds at each cut of a history holds at each cut after one more event, where it holds at that event and each older cut keeps it
pub cut-push : (P : List Event → Event → List Event → Type 0) (h : List Event) (e : Event) → AtEachCut P h → P [] e h → ((newer : List Event) (x : Event) (older : List Event) → h ≡ newer ++ x ∷ older → P newer x older → P (e ∷ newer) x older) → AtEachCut P (e ∷ h)
cut-push P h e each here kept = cut-turn P P h e each here kept

-- a relation that follows at each cut holds at each cut
pub cut-weaker : (P Q : List Event → Event → List Event → Type 0) (h : List Event) → ((newer : List Event) (x : Event) (older : List Event) → h ≡ newer ++ x ∷ older → P newer x older → Q newer x older) → AtEachCut P h → AtEachCut Q h
cut-weaker P Q h follows each newer x older is = follows newer x older is (each newer x older is)

pub onto-append : (xs ys h : List Event) → onto (xs ++ ys) h ≡ onto ys (onto xs h)
onto-append [] ys h = refl
onto-append (x ∷ xs) ys h = onto-append xs ys (x ∷ h)

-- more follows from less, for each of a list
pub all-weaker : {X : Type 0} (P Q : X → Type 0) → ((x : X) → P x → Q x) → (xs : List X) → AllByRecursion P xs → AllByRecursion Q xs
all-weaker P Q f [] h = tt
all-weaker P Q f (x ∷ xs) h = (f x h.0, all-weaker P Q f xs h.1)

pub all-append : {X : Type 0} (P : X → Type 0) (xs ys : List X) → AllByRecursion P xs → AllByRecursion P ys → AllByRecursion P (xs ++ ys)
all-append P [] ys h k = k
all-append P (x ∷ xs) ys h k = (h.0, all-append P xs ys h.1 k)

pub all-left : {X : Type 0} (P : X → Type 0) (xs ys : List X) → AllByRecursion P (xs ++ ys) → AllByRecursion P xs
all-left P [] ys h = tt
all-left P (x ∷ xs) ys h = (h.0, all-left P xs ys h.1)

pub all-right : {X : Type 0} (P : X → Type 0) (xs ys : List X) → AllByRecursion P (xs ++ ys) → AllByRecursion P ys
all-right P [] ys h = h
all-right P (x ∷ xs) ys h = all-right P xs ys h.1

-- what each of a list has, and what follows of it there
pub all-both : {X : Type 0} (P Q R : X → Type 0) → ((x : X) → P x → Q x → R x) → (xs : List X) → AllByRecursion P xs → AllByRecursion Q xs → AllByRecursion R xs
all-both P Q R f [] h k = tt
all-both P Q R f (x ∷ xs) h k = (f x h.0 k.0, all-both P Q R f xs h.1 k.1)
