-- A spool that hears of a message.
use Rattle.std.proofs.Common.{◌≡◌, ◌≢◌, ℕ, zero, suc, ◌<◌, Bool, true, false, cond, ltb, List, [], ◌∷◌, Some, None, refl, sym, ◌∙◌, subst, arith, length, set, get_or, length-set, slice_get}
use Rattle.std.specs.Prelude.{◌==◌, bytes_eq}
use Rattle.std.specs.List.{position_or_len}
use Rattle.std.proofs.lemmas.Bool.Decides.{nat_tests}
use Rattle.std.proofs.lemmas.Grind.{get_or-set_at}
use Rattle.std.proofs.lemmas.List.{get_or-set_other}
use Rattle.nc_types.specs.Channel.{owner_of}
use Rattle.nc_journal.specs.declared.event.Event.{Event}
use Rattle.nc_journal.specs.declared.event.Event.TheVariants.{Took}
use Rattle.nc_journal.specs.declared.alert.AlertLine.TheVariants.{Notice}
use Rattle.nc_spool_state.specs.declared.place.Place.{Place}
use Rattle.nc_spool_state.specs.declared.hear.Heard.{Heard}
use Rattle.nc_spool_state.specs.Key.{name_at, id_at, place_of}
use Rattle.nc_spool_state.specs.Spool.{no_place, place_at}
use Rattle.nc_spool_laws.proofs.Knowledge.{own-name, same-name}
use Rattle.nc_rests.specs.Places.{PlaceHolds, HeardHolds}
use Rattle.nc_rests.proofs.Places.{place_takes, place_notices}
use Rattle.nc_rests.proofs.Lists.{distinct_at}
use Rattle.nc_world_calls.specs.Noticing.{NoticeTreats}

pub name_there : (list : List (List ℕ)) (i : ℕ) → i < length list → slice_get list i ≡ Some (get_or list i [])
name_there [] i lt = absurd (omega (arith, lt))
name_there (c ∷ list) zero lt = refl
name_there (c ∷ list) (suc i) lt = name_there list i (omega (arith, lt))

some_place : (n m j : ℕ) (b : Bool) → ltb n m ≡ b → cond b (Some n) None ≡ Some j → j < m
some_place n m j true lt e = let same : n ≡ j = cc in grind arith
some_place n m j false lt e = absurd cc

place_within : (c : List ℕ) (list : List (List ℕ)) (j : ℕ) → place_of c list ≡ Some j → j < length list
place_within c list j e = some_place (position_or_len (λ name. bytes_eq name c) list) (length list) j (ltb (position_or_len (λ name. bytes_eq name c) list) (length list)) refl e

pub unlike : (a b : List ℕ) → (b ≡ a → ⊥) → bytes_eq a b ≡ false
unlike a b differ = by (bytes_eq a b) refl
  where
    by : (t : Bool) → bytes_eq a b ≡ t → t ≡ false
    by true e = absurd (differ (sym (same-name a b e)))
    by false e = refl

same : (i j : ℕ) → (i == j) ≡ true → i ≡ j
same i j e = grind (arith, nat_tests)

other : (i j : ℕ) → (i == j) ≡ false → i ≢ j
other i j e f = grind (arith, nat_tests)

pub notice_treats : NoticeTreats
notice_treats workers me n c news g slot kind h s j p tells is k at says = record { distinct = k.distinct; each = length-set s.places j p ∙ k.each; tags = k.tags; knows = λ i l. by i (within i l) (i == j) refl }
  where
    took : List Event
    took = Took me (owner_of workers c) n kind ∷ h

    within : (i : ℕ) → i < length (set s.places j p) → i < length s.places
    within i l = omega (arith, l, length-set s.places j p)

    -- its own place
    here : j < length s.places → PlaceHolds workers me (name_at s.key j) (id_at s.key j) p (Took me (owner_of workers c) n kind ∷ h)
    here lj =
        let name = own-name c s.key j at in
        subst (λ (d : List ℕ). PlaceHolds workers me d (id_at s.key j) p (Took me (owner_of workers c) n kind ∷ h)) (sym name)
        (subst (λ (x : Heard). HeardHolds workers me c (id_at s.key j) (place_at s j) x (Took me (owner_of workers c) n kind ∷ h)) says
        (place_notices workers me c (id_at s.key j) (place_at s j) news g slot n kind h tells is (subst (λ (d : List ℕ). PlaceHolds workers me d (id_at s.key j) (place_at s j) h) name (k.knows j lj))))

    -- any other is of another channel
    there : (i : ℕ) → i < length s.places → j < length s.places → i ≢ j → PlaceHolds workers me (name_at s.key i) (id_at s.key i) (place_at s i) (Took me (owner_of workers c) n kind ∷ h)
    there i li lj differ =
        let li' : i < length s.key.list = omega (arith, li, k.each) in
        let lj' : j < length s.key.list = omega (arith, lj, k.each) in
        let apart = distinct_at s.key.list j i (name_at s.key j) (name_at s.key i) k.distinct (name_there s.key.list j lj') (name_there s.key.list i li') differ in
        place_takes workers me (name_at s.key i) (id_at s.key i) (place_at s i) (owner_of workers c) n kind (Notice c news.id g slot) h is
        (λ _. unlike c (name_at s.key i) (λ e. apart (e ∙ sym (own-name c s.key j at)))) (k.knows i li)

    by : (i : ℕ) → i < length s.places → (t : Bool) → (i == j) ≡ t → PlaceHolds workers me (name_at s.key i) (id_at s.key i) (get_or (set s.places j p) i no_place) (Took me (owner_of workers c) n kind ∷ h)
    by i l true e =
        let eq = same i j e in
        let lj : j < length s.places = omega (arith, l, eq) in
        subst (λ (x : Place). PlaceHolds workers me (name_at s.key i) (id_at s.key i) x (Took me (owner_of workers c) n kind ∷ h)) (sym (get_or-set_at s.places j i p no_place eq lj))
        (subst (λ (m : ℕ). PlaceHolds workers me (name_at s.key m) (id_at s.key m) p (Took me (owner_of workers c) n kind ∷ h)) (sym eq) (here lj))
    by i l false e = subst (λ (x : Place). PlaceHolds workers me (name_at s.key i) (id_at s.key i) x (Took me (owner_of workers c) n kind ∷ h)) (sym (get_or-set_other s.places j i p no_place (other i j e)))
        (there i l (omega (arith, k.each, place_within c s.key.list j at)) (other i j e))
