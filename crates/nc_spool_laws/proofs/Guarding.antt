-- A spool sends only what all its places let it send.
use Rattle.std.proofs.Common.{◌≡◌, ◌⊎◌, inl, inr, ℕ, zero, suc, ◌+◌, ◌<◌, ◌≤◌, Bool, true, false, cond, ◌||◌, List, [], ◌∷◌, refl, sym, ap, subst, ◌∙◌, Option, Some, None, get_or, nat_lt, arith}
use Rattle.std.specs.List.{AllByRecursion}
use Rattle.std.proofs.lemmas.Bool.Decides.{nat_tests}
use Rattle.nc_types.specs.Id.{Id}
use Rattle.nc_spool_state.specs.declared.place.Place.{Place}
use Rattle.nc_spool_state.specs.declared.place.Place.TheVariants.{Asked, Nothing, Found}
use Rattle.nc_spool_state.specs.declared.choice.Find.{Find}
use Rattle.nc_spool_state.specs.declared.choice.Choice.TheVariants.{Fence, Send}
use Rattle.nc_spool_state.specs.Spool.{no_place}
use Rattle.nc_spool_state.specs.Choice.{is_any_asked, is_any_below, find_at, soonest, choice_by}
use Rattle.nc_spool_laws.specs.Guards.{Lets, IsYounger, IsFind, IsGuarded, GuardsSends}

pub not-below : (a b : ℕ) → nat_lt a b ≡ false → b ≤ a
not-below a b e = grind (arith, nat_tests)

pub is-below : (a b : ℕ) → nat_lt a b ≡ true → a < b
is-below a b e = grind (arith, nat_tests)

abbrev NotOlder : ℕ → Place → Type 0
NotOlder time (Asked number earlier) = Unit {0}
NotOlder time (Nothing quiet) = Unit {0}
NotOlder time (Found q id owner g) = time ≤ id.time

-- a message is the best one before the places, or the one at a place, where those before it are younger
abbrev IsSoonestAt : Option Find → ℕ → List Place → Find → ℕ → Type 0
IsSoonestAt best j places find i = (find.place ≡ j + i) × IsFind find (get_or places i no_place) × ((k : ℕ) → k < i → IsYounger find.id.time (get_or places k no_place)) × ((f : Find) → best ≡ Some f → find.id.time < f.id.time)

abbrev Origin : Option Find → ℕ → List Place → Find → Type 0
Origin best j places find = (best ≡ Some find) ⊎ ((i : ℕ) × IsSoonestAt best j places find i)

record IsSoonest (best : Option Find) (j : ℕ) (places : List Place) (find : Find) : Type 0 where
  least : AllByRecursion (NotOlder find.id.time) places
  bound : (f : Find) → best ≡ Some f → find.id.time ≤ f.id.time
  origin : Origin best j places find

-- one place more in front that isn't the message's
later : (best was : Option Find) (j : ℕ) (p : Place) (places : List Place) (find : Find) (i : ℕ) → IsYounger find.id.time p → ((f : Find) → best ≡ Some f → find.id.time < f.id.time) → IsSoonestAt was (j + 1) places find i → IsSoonestAt best j (p ∷ places) find (suc i)
later best was j p places find i younger below o = (omega (arith, o.0), o.1, by, below)
  where
    by : (k : ℕ) → k < suc i → IsYounger find.id.time (get_or (p ∷ places) k no_place)
    by zero l = younger
    by (suc k) l = o.2 k (omega (arith, l))

-- a place where none was found
pass : (best : Option Find) (j : ℕ) (p : Place) (places : List Place) (find : Find) → NotOlder find.id.time p → IsYounger find.id.time p → IsSoonest best (j + 1) places find → IsSoonest best j (p ∷ places) find
pass best j p places find older younger s = record { least = (older, s.least); bound = s.bound; origin = by s.origin }
  where
    by : Origin best (j + 1) places find → Origin best j (p ∷ places) find
    by (inl e) = inl e
    by (inr o) = inr (suc o.0, later best best j p places find o.0 younger (λ f e. o.1.3 f e) o.1)

-- the message at the first place
here : (best : Option Find) (j q : ℕ) (id : Id) (owner g : ℕ) (places : List Place) (find : Find) → find_at j (Found q id owner g) ≡ Some find → ((f : Find) → best ≡ Some f → id.time < f.id.time) → IsSoonestAt best j (Found q id owner g ∷ places) find 0
here best j q id owner g places find e below =
    let first : Find = record { place = j; id = id; owner = owner; g = g } in
    let same : first ≡ find = cc in
    let stands : first.place ≡ find.place = ap (λ (f : Find). f.place) same in
    let id_is : first.id ≡ find.id = ap (λ (f : Find). f.id) same in
    let owner_is : first.owner ≡ find.owner = ap (λ (f : Find). f.owner) same in
    let g_is : first.g ≡ find.g = ap (λ (f : Find). f.g) same in
    (omega (arith, stands), (id_is, owner_is, g_is), (λ k l. absurd (omega (arith, l))), λ f b. subst (λ (i : Id). i.time < f.id.time) id_is (below f b))

-- a place whose message is sooner than the best one
taken : (best : Option Find) (j q : ℕ) (id : Id) (owner g : ℕ) (places : List Place) (find : Find) → ((f : Find) → best ≡ Some f → id.time < f.id.time) → IsSoonest (find_at j (Found q id owner g)) (j + 1) places find → IsSoonest best j (Found q id owner g ∷ places) find
taken best j q id owner g places find below s = record {
  least = (upto, s.least);
  bound = λ f e. let a = below f e in omega (arith, a, upto);
  origin = by s.origin;
}
  where
    upto : find.id.time ≤ id.time
    upto = s.bound (record { place = j; id = id; owner = owner; g = g }) refl

    by : Origin (find_at j (Found q id owner g)) (j + 1) places find → Origin best j (Found q id owner g ∷ places) find
    by (inl e) = inr (0, here best j q id owner g places find e below)
    by (inr o) =
        let younger : find.id.time < id.time = o.1.3 (record { place = j; id = id; owner = owner; g = g }) refl in
        inr (suc o.0, later best (find_at j (Found q id owner g)) j (Found q id owner g) places find o.0 younger (λ f e. let a = below f e in omega (arith, a, younger)) o.1)

-- a place whose message isn't sooner
left : (a : Find) (j q : ℕ) (id : Id) (owner g : ℕ) (places : List Place) (find : Find) → a.id.time ≤ id.time → IsSoonest (Some a) (j + 1) places find → IsSoonest (Some a) j (Found q id owner g ∷ places) find
left a j q id owner g places find upto s = record {
  least = (let b = s.bound a refl in omega (arith, b, upto), s.least);
  bound = s.bound;
  origin = by s.origin;
}
  where
    by : Origin (Some a) (j + 1) places find → Origin (Some a) j (Found q id owner g ∷ places) find
    by (inl e) = inl e
    by (inr o) =
        let younger : find.id.time < a.id.time = o.1.3 a refl in
        inr (suc o.0, later (Some a) (Some a) j (Found q id owner g) places find o.0 (omega (arith, younger, upto)) (λ f e. o.1.3 f e) o.1)

soonest-is : (best : Option Find) (j : ℕ) (places : List Place) (find : Find) → soonest best j places ≡ Some find → IsSoonest best j places find
soonest-is best j [] find e = record {
  least = tt;
  bound = λ f b. let same : f ≡ find = cc in subst (λ (h : Find). find.id.time ≤ h.id.time) (sym same) (omega arith);
  origin = inl e;
}
soonest-is None j (Asked n earlier ∷ places) find e = pass None j (Asked n earlier) places find tt tt (soonest-is None (j + 1) places find e)
soonest-is None j (Nothing quiet ∷ places) find e = pass None j (Nothing quiet) places find tt tt (soonest-is None (j + 1) places find e)
soonest-is None j (Found q id owner g ∷ places) find e = taken None j q id owner g places find (λ f b. absurd cc) (soonest-is (find_at j (Found q id owner g)) (j + 1) places find e)
soonest-is (Some a) j (Asked n earlier ∷ places) find e = pass (Some a) j (Asked n earlier) places find tt tt (soonest-is (Some a) (j + 1) places find e)
soonest-is (Some a) j (Nothing quiet ∷ places) find e = pass (Some a) j (Nothing quiet) places find tt tt (soonest-is (Some a) (j + 1) places find e)
soonest-is (Some a) j (Found q id owner g ∷ places) find e = by (nat_lt id.time a.id.time) refl (λ h. soonest-is (find_at j (Found q id owner g)) (j + 1) places find h) (λ h. soonest-is (Some a) (j + 1) places find h) e
  where
    by : (t : Bool) → nat_lt id.time a.id.time ≡ t → (soonest (find_at j (Found q id owner g)) (j + 1) places ≡ Some find → IsSoonest (find_at j (Found q id owner g)) (j + 1) places find) → (soonest (Some a) (j + 1) places ≡ Some find → IsSoonest (Some a) (j + 1) places find) → soonest (cond t (find_at j (Found q id owner g)) (Some a)) (j + 1) places ≡ Some find → IsSoonest (Some a) j (Found q id owner g ∷ places) find
    by true was mine best e = taken (Some a) j q id owner g places find (λ f b. let same : a ≡ f = cc in subst (λ (h : Find). id.time < h.id.time) same (is-below id.time a.id.time was)) (mine e)
    by false was mine best e = left a j q id owner g places find (not-below id.time a.id.time was) (best e)

-- all places let it be sent
all-let : (time : ℕ) (places : List Place) → is_any_asked places ≡ false → is_any_below time places ≡ false → AllByRecursion (NotOlder time) places → AllByRecursion (Lets time) places
all-let time [] asked below older = tt
all-let time (Asked n earlier ∷ places) asked below older = absurd cc
all-let time (Found q id owner g ∷ places) asked below older = (older.0, all-let time places asked below older.1)
all-let time (Nothing quiet ∷ places) asked below older = by (nat_lt quiet.floor time) refl below (λ h. all-let time places asked h older.1)
  where
    by : (t : Bool) → nat_lt quiet.floor time ≡ t → (t || is_any_below time places) ≡ false → (is_any_below time places ≡ false → AllByRecursion (Lets time) places) → AllByRecursion (Lets time) (Nothing quiet ∷ places)
    by true was b rest = absurd cc
    by false was b rest = (not-below quiet.floor time was, rest b)

pub sends-guarded : GuardsSends
sends-guarded places find e = by (is_any_asked places) refl (soonest None 0 places) refl e
  where
    guarded : is_any_asked places ≡ false → IsSoonest None 0 places find → is_any_below find.id.time places ≡ false → IsGuarded places find
    guarded asked s below = at s.origin
      where
        at : Origin None 0 places find → IsGuarded places find
        at (inl e) = absurd cc
        at (inr o) =
            let same : find.place ≡ o.0 = omega (arith, o.1.0) in
            record {
              all = all-let find.id.time places asked below s.least;
              place = subst (λ (i : ℕ). IsFind find (get_or places i no_place)) (sym same) o.1.1;
              first = λ j l. o.1.2 j (omega (arith, l, same));
            }

    sends : (f : Find) (t : Bool) → is_any_below f.id.time places ≡ t → cond t (Fence f.id.time) (Send f) ≡ Send find → is_any_asked places ≡ false → soonest None 0 places ≡ Some f → IsGuarded places find
    sends f true below e asked was = absurd cc
    sends f false below e asked was =
        let same : f ≡ find = cc in
        guarded asked (soonest-is None 0 places find (was ∙ ap Some same)) (subst (λ (h : Find). is_any_below h.id.time places ≡ false) same below)

    by : (a : Bool) → is_any_asked places ≡ a → (o : Option Find) → soonest None 0 places ≡ o → choice_by a o places ≡ Send find → IsGuarded places find
    by true asked o was e = absurd cc
    by false asked None was e = absurd cc
    by false asked (Some f) was e = sends f (is_any_below f.id.time places) refl e asked was
