-- What a spool chooses to send.
use Rattle.std.proofs.Common.{◌≡◌, ◌⊎◌, inl, inr, ℕ, zero, suc, ◌+◌, ◌<◌, ◌≤◌, Bool, true, false, cond, List, [], ◌∷◌, length, map, slice_get, Option, None, Some, refl, sym, ap, ◌∙◌, subst, arith, true≢false}
use Rattle.std.specs.Prelude.{◌||◌, nat_lt, slice_index_or}
use Rattle.std.specs.List.{AllByRecursion}
use Rattle.std.proofs.lemmas.Bool.{ltb-false, ltb-true}
use Rattle.std.proofs.lemmas.List.{length-map}
use Rattle.nc_types.specs.Id.{Id}
use Rattle.nc_types.specs.Cursor.{moved, cursor_id}
use Rattle.nc_journal.specs.Standing.{Standing}
use Rattle.nc_journal.specs.Sending.{SentFrom}
use Rattle.nc_journal.specs.declared.event.Event.{Event}
use Rattle.nc_spool_state.specs.declared.place.Place.{Place}
use Rattle.nc_spool_state.specs.declared.choice.Find.{Find}
use Rattle.nc_spool_state.specs.declared.choice.Choice.TheVariants.{Fence, Send}
use Rattle.nc_spool_state.specs.Place.{is_asked, look_number}
use Rattle.nc_spool_state.specs.Choice.{is_below, is_any_asked, is_any_below, sooner, soonest, choice_by, choice}
use Rattle.nc_spool_state.specs.declared.place.Place.TheVariants as places
use Rattle.nc_rests.specs.Rests.{Rest, Nothing, Found, look_of, RestsAt}
use Rattle.nc_rests.specs.Places.{PlaceHolds}
use Rattle.nc_rests.specs.Spools.{IsSpool}
use Rattle.nc_rests.proofs.Lists.{at_within}
use Rattle.nc_sends.specs.Chosen.{IsReady, IsChosen}
use Rattle.nc_sends.specs.Fences.{IsFencedFor}
use Rattle.nc_sends.specs.GoodSends.{ChoiceSends}
use Rattle.nc_sends.specs.Taken.{TakenFor}
use Rattle.nc_sends.proofs.Ready.{spools_send}

-- a place that isn't asked, as it rests
abbrev rest_of : Place → Rest
rest_of (places.Asked number earlier) = Nothing 0 0
rest_of (places.Nothing quiet) = Nothing quiet.q quiet.floor
rest_of (places.Found q id owner g) = Found q id

-- no message that a place found is before a time
abbrev IsAfter : ℕ → Place → Type 0
IsAfter time (places.Asked number earlier) = Unit {0}
IsAfter time (places.Nothing quiet) = Unit {0}
IsAfter time (places.Found q id owner g) = time ≤ id.time

-- a find is that of a place, counted from one on
record IsAt (j : ℕ) (ps : List Place) (f : Find) : Type 0 where
  index : ℕ
  q : ℕ
  by : f.place ≡ j + index
  there : slice_get ps index ≡ Some (places.Found q f.id f.owner f.g)

at_next : (j : ℕ) (p : Place) (ps : List Place) (f : Find) → IsAt (j + 1) ps f → IsAt j (p ∷ ps) f
at_next j p ps f k = record { index = suc k.index; q = k.q; by = omega (arith, k.by); there = k.there }

-- the soonest find: no find is sooner, and it is the best so far or that of a place
record IsSoonest (best : Option Find) (j : ℕ) (ps : List Place) (f : Find) : Type 0 where
  most : (a : Find) → best ≡ Some a → f.id.time ≤ a.id.time
  least : AllByRecursion (IsAfter f.id.time) ps
  from : (best ≡ Some f) ⊎ IsAt j ps f

sooner_case : (best : Option Find) (j q : ℕ) (id : Id) (owner g : ℕ) (ps : List Place) (f : Find) → let here : Find = record { place = j; id = id; owner = owner; g = g } in
    IsSoonest (sooner best (Some here)) (j + 1) ps f → IsSoonest best j (places.Found q id owner g ∷ ps) f
sooner_case None j q id owner g ps f k =
    let here : Find = record { place = j; id = id; owner = owner; g = g } in
    record { most = λ a is. absurd cc; least = (k.most here refl, k.least); from = inr (go k.from) }
  where
    go : (Some (record { place = j; id = id; owner = owner; g = g }) ≡ Some f) ⊎ IsAt (j + 1) ps f → IsAt j (places.Found q id owner g ∷ ps) f
    go (inl is) =
        let here : Find = record { place = j; id = id; owner = owner; g = g } in
        let same : here ≡ f = cc in
        subst (IsAt j (places.Found q id owner g ∷ ps)) same (record { index = 0; q = q; by = omega arith; there = refl })
    go (inr at) = at_next j (places.Found q id owner g) ps f at
sooner_case (Some b) j q id owner g ps f k = by_time (nat_lt id.time b.id.time) refl k
  where
    by_time : (t : Bool) → nat_lt id.time b.id.time ≡ t → IsSoonest (cond t (Some (record { place = j; id = id; owner = owner; g = g })) (Some b)) (j + 1) ps f → IsSoonest (Some b) j (places.Found q id owner g ∷ ps) f
    by_time true lt k =
        let here : Find = record { place = j; id = id; owner = owner; g = g } in
        let le : f.id.time ≤ id.time = k.most here refl in
        let below : id.time < b.id.time = ltb-true id.time b.id.time lt in
        record { most = λ a is. let same : b ≡ a = cc in subst (λ (x : Find). f.id.time ≤ x.id.time) same (omega (arith, le, below)); least = (le, k.least); from = inr (go k.from) }
      where
        go : (Some (record { place = j; id = id; owner = owner; g = g }) ≡ Some f) ⊎ IsAt (j + 1) ps f → IsAt j (places.Found q id owner g ∷ ps) f
        go (inl is) =
            let here : Find = record { place = j; id = id; owner = owner; g = g } in
            let same : here ≡ f = cc in
            subst (IsAt j (places.Found q id owner g ∷ ps)) same (record { index = 0; q = q; by = omega arith; there = refl })
        go (inr at) = at_next j (places.Found q id owner g) ps f at
    by_time false ge k =
        let le : f.id.time ≤ b.id.time = k.most b refl in
        let above : b.id.time ≤ id.time = ltb-false id.time b.id.time ge in
        record { most = k.most; least = (omega (arith, le, above), k.least); from = go k.from }
      where
        go : (Some b ≡ Some f) ⊎ IsAt (j + 1) ps f → (Some b ≡ Some f) ⊎ IsAt j (places.Found q id owner g ∷ ps) f
        go (inl is) = inl is
        go (inr at) = inr (at_next j (places.Found q id owner g) ps f at)

sooner_none : (best : Option Find) → sooner best None ≡ best
sooner_none None = refl
sooner_none (Some a) = refl

from_next : (best : Option Find) (j : ℕ) (p : Place) (ps : List Place) (f : Find) → (best ≡ Some f) ⊎ IsAt (j + 1) ps f → (best ≡ Some f) ⊎ IsAt j (p ∷ ps) f
from_next best j p ps f (inl is) = inl is
from_next best j p ps f (inr at) = inr (at_next j p ps f at)

soonest_is : (best : Option Find) (j : ℕ) (ps : List Place) (f : Find) → soonest best j ps ≡ Some f → IsSoonest best j ps f
soonest_is best j [] f is = record { most = λ a at. let same : Some f ≡ Some a = sym is ∙ at in let one : f ≡ a = cc in subst (λ (x : Find). f.id.time ≤ x.id.time) one (omega arith); least = tt; from = inl is }
soonest_is best j (places.Asked number earlier ∷ ps) f is =
    let k = soonest_is best (j + 1) ps f (ap (λ o. soonest o (j + 1) ps) (sym (sooner_none best)) ∙ is) in
    record { most = k.most; least = (tt, k.least); from = from_next best j (places.Asked number earlier) ps f k.from }
soonest_is best j (places.Nothing quiet ∷ ps) f is =
    let k = soonest_is best (j + 1) ps f (ap (λ o. soonest o (j + 1) ps) (sym (sooner_none best)) ∙ is) in
    record { most = k.most; least = (tt, k.least); from = from_next best j (places.Nothing quiet) ps f k.from }
soonest_is best j (places.Found q id owner g ∷ ps) f is = sooner_case best j q id owner g ps f (soonest_is (sooner best (Some (record { place = j; id = id; owner = owner; g = g }))) (j + 1) ps f is)

or_parts : (a b : Bool) → (a || b) ≡ false → (a ≡ false) × (b ≡ false)
or_parts true b e = absurd (true≢false e)
or_parts false b e = (refl, e)

-- what a choice to send says
record Chosen (ps : List Place) (f : Find) : Type 0 where
  none_asked : is_any_asked ps ≡ false
  is_soonest : soonest None 0 ps ≡ Some f
  none_below : is_any_below f.id.time ps ≡ false

chosen_case : (asked : Bool) (o : Option Find) (ps : List Place) (f : Find) → is_any_asked ps ≡ asked → soonest None 0 ps ≡ o → choice_by asked o ps ≡ Send f → Chosen ps f
chosen_case true o ps f a s is = absurd cc
chosen_case false None ps f a s is = absurd cc
chosen_case false (Some x) ps f a s is = by (is_any_below x.id.time ps) refl is
  where
    by : (b : Bool) → is_any_below x.id.time ps ≡ b → cond b (Fence x.id.time) (Send x) ≡ Send f → Chosen ps f
    by true below e = absurd cc
    by false below e =
        let same : x ≡ f = cc in
        record { none_asked = a; is_soonest = s ∙ ap (λ (y : Find). Some y) same; none_below = subst (λ (y : Find). is_any_below y.id.time ps ≡ false) same below }

chosen : (ps : List Place) (f : Find) → choice ps ≡ Send f → Chosen ps f
chosen ps f is = chosen_case (is_any_asked ps) (soonest None 0 ps) ps f refl refl is

-- ---- its places rest

ready_place : (time : ℕ) (p : Place) → is_asked p ≡ false → is_below time p ≡ false → IsAfter time p → IsReady time (rest_of p)
ready_place time (places.Asked number earlier) a b k = absurd (true≢false a)
ready_place time (places.Nothing quiet) a b k = ltb-false quiet.floor time b
ready_place time (places.Found q id owner g) a b k = k

ready_all : (time : ℕ) (ps : List Place) → is_any_asked ps ≡ false → is_any_below time ps ≡ false → AllByRecursion (IsAfter time) ps → AllByRecursion (IsReady time) (map rest_of ps)
ready_all time [] a b k = tt
ready_all time (p ∷ ps) a b k =
    let x = or_parts (is_asked p) (is_any_asked ps) a in
    let y = or_parts (is_below time p) (is_any_below time ps) b in
    (ready_place time p x.0 y.0 k.0, ready_all time ps x.1 y.1 k.1)

map_at : (ps : List Place) (j : ℕ) (p : Place) → slice_get ps j ≡ Some p → slice_get (map rest_of ps) j ≡ Some (rest_of p)
map_at [] j p at = absurd cc
map_at (x ∷ ps) zero p at = let same : x ≡ p = cc in ap (λ (y : Place). Some (rest_of y)) same
map_at (x ∷ ps) (suc j) p at = map_at ps j p at

at_map : (ps : List Place) (j : ℕ) (r : Rest) → slice_get (map rest_of ps) j ≡ Some r → (p : Place) × (slice_get ps j ≡ Some p) × (rest_of p ≡ r)
at_map [] j r at = absurd cc
at_map (x ∷ ps) zero r at = let same : rest_of x ≡ r = cc in (x, refl, same)
at_map (x ∷ ps) (suc j) r at = at_map ps j r at

not_asked_at : (ps : List Place) (j : ℕ) (p : Place) → is_any_asked ps ≡ false → slice_get ps j ≡ Some p → is_asked p ≡ false
not_asked_at [] j p a at = absurd cc
not_asked_at (x ∷ ps) zero p a at = let same : x ≡ p = cc in subst (λ (y : Place). is_asked y ≡ false) same (or_parts (is_asked x) (is_any_asked ps) a).0
not_asked_at (x ∷ ps) (suc j) p a at = not_asked_at ps j p (or_parts (is_asked x) (is_any_asked ps) a).1 at

holds_rest : (workers w : ℕ) (c : List ℕ) (after : Id) (p : Place) (h : List Event) → is_asked p ≡ false → PlaceHolds workers w c after p h → RestsAt workers w c after (rest_of p) h
holds_rest workers w c after (places.Asked number earlier) h a k = absurd (true≢false a)
holds_rest workers w c after (places.Nothing quiet) h a k = k
holds_rest workers w c after (places.Found q id owner g) h a k = k

look_same : (p : Place) → is_asked p ≡ false → look_of (rest_of p) ≡ look_number p
look_same (places.Asked number earlier) a = absurd (true≢false a)
look_same (places.Nothing quiet) a = refl
look_same (places.Found q id owner g) a = refl

looks_same : (ps : List Place) → is_any_asked ps ≡ false → map look_of (map rest_of ps) ≡ map look_number ps
looks_same [] a = refl
looks_same (p ∷ ps) a =
    let x = or_parts (is_asked p) (is_any_asked ps) a in
    λ i. look_same p x.0 i ∷ looks_same ps x.1 i

-- ---- the sent

name_there : (list : List (List ℕ)) (i : ℕ) → i < length list → slice_get list i ≡ Some (slice_index_or list i [])
name_there [] i lt = absurd (omega (arith, lt))
name_there (c ∷ list) zero lt = refl
name_there (c ∷ list) (suc i) lt = name_there list i (omega (arith, lt))

none_best : (f : Find) → None ≡ Some f → ⊥
none_best f is = cc

find_at_zero : (ps : List Place) (f : Find) → ((let none : Option Find = None in none) ≡ Some f) ⊎ IsAt 0 ps f → IsAt 0 ps f
find_at_zero ps f (inl is) = absurd (none_best f is)
find_at_zero ps f (inr at) = at

pub choice_sends : ChoiceSends
choice_sends workers w k list once cur ps h g s stands f is =
    let x = chosen ps f is in
    let n = soonest_is None 0 ps f x.is_soonest in
    let at = find_at_zero ps f n.from in
    let there : slice_get ps f.place ≡ Some (places.Found at.q f.id f.owner f.g) = ap (slice_get ps) (omega (arith, at.by)) ∙ at.there in
    let picks : IsChosen f.place f.id (map rest_of ps) = record { look = at.q; found = map_at ps f.place (places.Found at.q f.id f.owner f.g) there; ready = ready_all f.id.time ps x.none_asked x.none_below n.least } in
    let spool : IsSpool workers w list cur (map rest_of ps) h = record {
      distinct = s.distinct;
      places = length-map ps rest_of ∙ s.each;
      tags = s.tags;
      rest = λ j c r at_j rest_j.
          let p = at_map ps j r rest_j in
          subst (λ (y : Rest). RestsAt workers w c (cursor_id cur j) y h) p.2 (holds_rest workers w c (cursor_id cur j) p.0 h (not_asked_at ps j p.0 x.none_asked p.1) (s.holds j c p.0 at_j p.1));
    } in
    let name : slice_get list f.place ≡ Some (slice_index_or list f.place []) = name_there list f.place (omega (arith, s.each, at_within ps f.place (places.Found at.q f.id f.owner f.g) there)) in
    let well = spools_send workers w list cur (map rest_of ps) h g spool f.place (slice_index_or list f.place []) f.id name picks in
    let next = moved cur f.place f.id in
    record {
      sent = subst (SentFrom workers w f.place (slice_index_or list f.place []) f.id next (map look_number ps) [] h) (sym stands)
          (subst (λ (l : List ℕ). SentFrom workers w f.place (slice_index_or list f.place []) f.id next l [] h (Standing list once cur)) (looks_same ps x.none_asked) well.sent);
      fenced = subst (IsFencedFor workers next h) (sym stands) well.fenced;
      taken = subst (TakenFor workers w f.place (slice_index_or list f.place []) f.id (map look_number ps) h) (sym stands)
          (subst (λ (l : List ℕ). TakenFor workers w f.place (slice_index_or list f.place []) f.id l h (Standing list once cur)) (looks_same ps x.none_asked) well.taken);
    }
