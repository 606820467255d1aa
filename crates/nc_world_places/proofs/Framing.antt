-- What leaves places as they are: what others do, what a worker does without taking, and the releases at the end of a step.
use Rattle.std.proofs.Common.{◌≡◌, ℕ, Bool, true, false, List, [], ◌∷◌, ◌++◌, refl, ap, ◌∙◌, map}
use Rattle.std.specs.Prelude.{◌==◌, ◌&&◌}
use Rattle.std.specs.List.{AllByRecursion}
use Rattle.nc_types.specs.Id.{Id}
use Rattle.nc_types.specs.Channel.{owner_of}
use Rattle.nc_journal.specs.History.{own, onto}
use Rattle.nc_journal.specs.declared.event.Event.{Event}
use Rattle.nc_journal.specs.declared.event.Event.TheVariants.{Took, Made, Released}
use Rattle.nc_journal.specs.declared.word.AlertKind.{AlertKind}
use Rattle.nc_journal.specs.declared.alert.AlertLine.{AlertLine}
use Rattle.nc_owner_laws.specs.Used.{times}
use Rattle.nc_owner_laws.specs.Weave.{numbered}
use Rattle.nc_spool_state.specs.declared.kept.Held.{Held}
use Rattle.nc_spool_state.specs.declared.place.Place.{Place}
use Rattle.nc_spool_state.specs.Spool.{SpoolAt}
use Rattle.nc_history.specs.Packets.{takes, IsNext}
use Rattle.nc_worker_state.specs.Deed.{Deed, Does, Makes, told}
use Rattle.nc_worker_state.specs.Spooled.{Hold, release}
use Rattle.nc_world_laws.proofs.WorkerKinds.{IsBy, IsUntaken}
use Rattle.nc_world_laws.proofs.Local.{differs, all_of, either}
use Rattle.nc_rests.specs.Asking.{ask_numbers}
use Rattle.nc_rests.specs.Keeping.{is_signal}
use Rattle.nc_rests.specs.Places.{PlaceHolds}
use Rattle.nc_rests.proofs.Places.{place_stays, place_takes}
use Rattle.nc_world_told.specs.Known.{PlacesHold}

-- worker w takes nothing with an event
abbrev pub TakesNone : ℕ → Event → Type 0
TakesNone w e = (o : ℕ) → takes o w e ≡ false

pub untaken_none : (w : ℕ) (e : Event) → IsUntaken e → TakesNone w e
untaken_none w (Took v from n kind) p = absurd p
untaken_none w e p = λ o. refl

and_false : (a : Bool) → (a && false) ≡ false
and_false true = refl
and_false false = refl

pub other_none : (z x : ℕ) (e : Event) → (z == x) ≡ false → IsBy x e → TakesNone z e
other_none z x (Took v from n kind) other by = λ o. ap (λ b. (o == from) && b) (differs z x v other by) ∙ and_false (o == from)
other_none z x e other by = λ o. refl

module _ (workers w : ℕ) where
  place_onto : (c : List ℕ) (after : Id) (p : Place) (es h : List Event) → AllByRecursion (TakesNone w) es → PlaceHolds workers w c after p h → PlaceHolds workers w c after p (onto es h)
  place_onto c after p [] h none k = k
  place_onto c after p (e ∷ es) h none k = place_onto c after p es (e ∷ h) none.1 (place_stays workers w c after p e h (none.0 (owner_of workers c)) k)

  -- places hold on while the worker takes nothing
  pub shelf_onto : (es h : List Event) (shelf : List SpoolAt) → AllByRecursion (TakesNone w) es → AllByRecursion (PlacesHold workers w h) shelf → AllByRecursion (PlacesHold workers w (onto es h)) shelf
  shelf_onto es h [] none k = tt
  shelf_onto es h (s ∷ shelf) none k = (λ j lt. place_onto _ _ _ es h none (k.0 j lt), shelf_onto es h shelf none k.1)

  pub shelf_untaken : (es h : List Event) (shelf : List SpoolAt) → AllByRecursion IsUntaken es → AllByRecursion (PlacesHold workers w h) shelf → AllByRecursion (PlacesHold workers w (onto es h)) shelf
  shelf_untaken es h shelf none k = shelf_onto es h shelf (all_of IsUntaken (TakesNone w) (untaken_none w) es none) k

  -- and where it takes an alert that signals nothing
  pub shelf_takes : (from n : ℕ) (kind : AlertKind) (a : AlertLine) (h : List Event) → IsNext from w a h → ((c : List ℕ) → is_signal c a ≡ false) → (shelf : List SpoolAt) → AllByRecursion (PlacesHold workers w h) shelf
      → AllByRecursion (PlacesHold workers w (Took w from n kind ∷ h)) shelf
  shelf_takes from n kind a h is quiet [] k = tt
  shelf_takes from n kind a h is quiet (s ∷ shelf) k = (λ j lt. place_takes workers w _ _ _ from n kind a h is (λ e. quiet _) (k.0 j lt), shelf_takes from n kind a h is quiet shelf k.1)

-- what each release keeps, all releases behind some deeds keep
pub then_releases : (P : List Event → Type 0) → ((v owner g slot : ℕ) (l : List Event) → P l → P (Released v owner g slot ∷ l)) → (me : ℕ) (next : ℕ → ℕ) (xs : List Deed) (hs : List (Held Hold)) (l : List Event)
    → P (onto (told me next xs) l) → P (onto (told me next (xs ++ map (release me) hs)) l)
then_releases P keeps me next [] [] l p = p
then_releases P keeps me next [] (h ∷ hs) l p = then_releases P keeps me next [] hs (Released me h.owner h.g h.slot ∷ l) (keeps me h.owner h.g h.slot l p)
then_releases P keeps me next (Does e ∷ xs) hs l p = then_releases P keeps me next xs hs (e ∷ l) p
then_releases P keeps me next (Makes to a ∷ xs) hs l p = then_releases P keeps me (numbered next to) xs hs (Made me to (next to) a ∷ l) p

pub shelf_releases : (workers me : ℕ) (next : ℕ → ℕ) (xs : List Deed) (hs : List (Held Hold)) (l : List Event) (shelf : List SpoolAt) → AllByRecursion (PlacesHold workers me (onto (told me next xs) l)) shelf
    → AllByRecursion (PlacesHold workers me (onto (told me next (xs ++ map (release me) hs)) l)) shelf
shelf_releases workers me next xs hs l shelf k =
    then_releases (λ (h : List Event). AllByRecursion (PlacesHold workers me h) shelf) (λ v owner g slot h p. shelf_onto workers me (Released v owner g slot ∷ []) h shelf ((λ o. refl), tt) p) me next xs hs l k

-- they draw no numbers
pub same_releases : (number w me : ℕ) (next : ℕ → ℕ) (xs : List Deed) (hs : List (Held Hold)) (l : List Event)
    → times number (ask_numbers (own w (onto (told me next (xs ++ map (release me) hs)) l))) ≡ times number (ask_numbers (own w (onto (told me next xs) l)))
same_releases number w me next [] [] l = refl
same_releases number w me next [] (h ∷ hs) l =
    same_releases number w me next [] hs (Released me h.owner h.g h.slot ∷ l)
    ∙ either (λ (k : List Event). times number (ask_numbers k) ≡ times number (ask_numbers (own w l))) (w == me) (Released me h.owner h.g h.slot ∷ own w l) (own w l) refl refl
same_releases number w me next (Does e ∷ xs) hs l = same_releases number w me next xs hs (e ∷ l)
same_releases number w me next (Makes to a ∷ xs) hs l = same_releases number w me (numbered next to) xs hs (Made me to (next to) a ∷ l)
