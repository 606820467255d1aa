-- The whole history keeps the owners' rules where each local one does.
use Rattle.std.proofs.Common.{◌≡◌, ℕ, ◌<◌, Bool, true, false, cond, List, [], ◌∷◌, refl, ap, ◌∙◌, subst}
use Rattle.std.specs.List.{AllByRecursion}
use Rattle.std.proofs.lemmas.Bool.{cond_both}
use Rattle.nc_journal.specs.History.{Along, own, is_by}
use Rattle.nc_journal.specs.Stamp.{stamp, floor_of, StampedAt, IsStamped, last_of, IsStamp, IsLast}
use Rattle.nc_journal.specs.declared.event.Event.{Event}
use Rattle.nc_journal.specs.declared.event.Event.TheVariants.{Raised, Stored, Left, Looked, Edged, Removed}
use Rattle.nc_rests.specs.Owners.{IsByOwner, OwnersKeep}
use Rattle.nc_rests.proofs.Received.{eqb_self}

-- what each worker did itself, it did itself
pub own_own : (w : ℕ) (h : List Event) → own w (own w h) ≡ own w h
own_own w [] = refl
own_own w (e ∷ h) = by (is_by w e) refl (own_own w h)
  where
    by : (b : Bool) → is_by w e ≡ b → own w (own w h) ≡ own w h → own w (cond b (e ∷ own w h) (own w h)) ≡ cond b (e ∷ own w h) (own w h)
    by true is rest = ap (λ b. cond b (e ∷ own w (own w h)) (own w (own w h))) is ∙ ap (λ (l : List Event). e ∷ l) rest
    by false is rest = rest

own_here : (w : ℕ) (e : Event) (h : List Event) → is_by w e ≡ true → own w (e ∷ h) ≡ e ∷ own w h
own_here w e h is = ap (λ b. cond b (e ∷ own w h) (own w h)) is

own_there : (w : ℕ) (e : Event) (h : List Event) → is_by w e ≡ false → own w (e ∷ h) ≡ own w h
own_there w e h is = ap (λ b. cond b (e ∷ own w h) (own w h)) is

-- what holds along each local history holds of the older ones
older_along : (P : List Event → Event → Type 0) (o : ℕ) (e : Event) (h : List Event) → Along P (own o (e ∷ h)) → Along P (own o h)
older_along P o e h a = cond_both (is_by o e) (e ∷ own o h) (own o h) (λ l. Along P l → Along P (own o h)) (λ _ x. x.0) (λ _ x. x) a

older_all : (P : Event → Type 0) (o : ℕ) (e : Event) (h : List Event) → AllByRecursion P (own o (e ∷ h)) → AllByRecursion P (own o h)
older_all P o e h a = cond_both (is_by o e) (e ∷ own o h) (own o h) (λ l. AllByRecursion P l → AllByRecursion P (own o h)) (λ _ x. x.1) (λ _ x. x) a

here_along : (P : List Event → Event → Type 0) (o : ℕ) (e : Event) (h : List Event) → is_by o e ≡ true → Along P (own o (e ∷ h)) → P (own o h) e
here_along P o e h is a = (subst (Along P) (own_here o e h is) a).1

here_all : (P : Event → Type 0) (o : ℕ) (e : Event) (h : List Event) → is_by o e ≡ true → AllByRecursion P (own o (e ∷ h)) → P e
here_all P o e h is a = (subst (AllByRecursion P) (own_here o e h is) a).0

stamped_whole : (workers : ℕ) (e : Event) (h : List Event) → ((o : ℕ) → IsStamped workers (own o (e ∷ h))) → StampedAt workers h e
stamped_whole workers (Stored w c id slot len exp kept members from r ct body) h f =
    let s : IsStamp workers w c id (own w h) = here_along (StampedAt workers) w (Stored w c id slot len exp kept members from r ct body) h (eqb_self w) (f w) in
    record { owner = s.owner; stamped = subst (λ (l : List Event). id ≡ stamp c l) (own_own w h) s.stamped; time = s.time }
stamped_whole workers (Raised w t) h f =
    let s : StampedAt workers (own w h) (Raised w t) = here_along (StampedAt workers) w (Raised w t) h (eqb_self w) (f w) in
    subst (λ (l : List Event). floor_of l < t) (own_own w h) s
stamped_whole workers (Removed w c last cause) h f =
    let s : IsLast workers w c last (own w h) = here_along (StampedAt workers) w (Removed w c last cause) h (eqb_self w) (f w) in
    record { owner = s.owner; is_last = subst (λ (l : List Event). last ≡ last_of c l) (own_own w h) s.is_last }
stamped_whole workers e h f = tt

all_stamped : (workers : ℕ) (h : List Event) → ((o : ℕ) → IsStamped workers (own o h)) → IsStamped workers h
all_stamped workers [] f = tt
all_stamped workers (e ∷ h) f = (all_stamped workers h (λ o. older_along (StampedAt workers) o e h (f o)), stamped_whole workers e h f)

by_whole : (workers : ℕ) (e : Event) (h : List Event) → ((o : ℕ) → AllByRecursion (IsByOwner workers) (own o (e ∷ h))) → IsByOwner workers e
by_whole workers (Stored w c id slot len exp kept members from r ct body) h f = here_all (IsByOwner workers) w (Stored w c id slot len exp kept members from r ct body) h (eqb_self w) (f w)
by_whole workers (Left w c id slot cause) h f = here_all (IsByOwner workers) w (Left w c id slot cause) h (eqb_self w) (f w)
by_whole workers (Looked w q from number c after floor found) h f = here_all (IsByOwner workers) w (Looked w q from number c after floor found) h (eqb_self w) (f w)
by_whole workers (Edged w q from number k c floor last) h f = here_all (IsByOwner workers) w (Edged w q from number k c floor last) h (eqb_self w) (f w)
by_whole workers e h f = tt

all_by_owner : (workers : ℕ) (h : List Event) → ((o : ℕ) → AllByRecursion (IsByOwner workers) (own o h)) → AllByRecursion (IsByOwner workers) h
all_by_owner workers [] f = tt
all_by_owner workers (e ∷ h) f = (by_whole workers e h f, all_by_owner workers h (λ o. older_all (IsByOwner workers) o e h (f o)))

pub owners_keep : OwnersKeep
owners_keep workers h f = record { stamped = all_stamped workers h (λ o. (f o).stamped); by_owner = all_by_owner workers h (λ o. (f o).by_owner); looks = λ o. (f o).looks }
