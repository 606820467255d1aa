-- No wake is lost.
use Rattle.std.proofs.Common.{◌≡◌, inl, inr, ℕ, ◌≤◌, Bool, true, false, cond, List, [], ◌∷◌, Option, None, Some, refl, sym, ap, ◌∙◌, subst}
use Rattle.std.specs.Prelude.{◌==◌, ◌||◌, IfSome}
use Rattle.std.specs.List.{list_any}
use Rattle.nc_types.specs.Id.{Id}
use Rattle.nc_types.specs.Channel.{owner_of}
use Rattle.nc_journal.specs.History.{own}
use Rattle.nc_journal.specs.Message.{buffer}
use Rattle.nc_journal.specs.declared.event.Event.{Event}
use Rattle.nc_journal.specs.declared.alert.AlertLine.{AlertLine}
use Rattle.nc_journal.specs.declared.alert.AlertLine.TheVariants as lines
use Rattle.nc_owner_laws.specs.Behind.{NothingIsPast}
use Rattle.nc_owner_laws.specs.Drawn.{look_numbers}
use Rattle.nc_owner_laws.specs.OwnerStanding.{look_past}
use Rattle.nc_owner_laws.specs.Used.{times}
use Rattle.nc_owner_laws.specs.Wake.{NotYet, Waiting, ByNotice, ByGone, woken, wake, hear, hears, Wakes}
use Rattle.nc_spool_state.specs.declared.place.Place.{Place}
use Rattle.nc_spool_state.specs.declared.place.Place.TheVariants as places
use Rattle.nc_spool_laws.proofs.Lists.{all-changed}
use Rattle.nc_history.specs.Packets.{pending, lines_of, received}
use Rattle.nc_world_laws.proofs.Moving.{reached_is_good}
use Rattle.nc_rests.specs.Keeping.{is_signal}
use Rattle.nc_rests.specs.Places.{PlaceHolds}
use Rattle.nc_rests.specs.Rests.{IsNothing}
use Rattle.nc_rests.specs.Telling.{OwnerTells}
use Rattle.nc_rests.proofs.Looked.{look_known, past_once}
use Rattle.nc_rests.proofs.Received.{made_is}
use Rattle.nc_rests.proofs.Rests.{hears_append}
use Rattle.nc_world_told.specs.Known.{PlacesHold}
use Rattle.nc_world_places.specs.Places.{shelf_at}
use Rattle.nc_world_places.proofs.Reaching.{reached_has_places}
use Rattle.nc_world_places.proofs.Telling.{reached_owners_tell}
use Rattle.nc_world_wakes.specs.Wakes.{IsAwake, PlaceIsAwake, SpoolIsAwake, NoWakeIsLost}

-- ---- alerts that signal nothing leave a look waiting

hear_quiet : (c : List ℕ) (q : ℕ) (a : AlertLine) → is_signal c a ≡ false → hear c q Waiting a ≡ Waiting
hear_quiet c q (lines.LookAnswer number p floor None g slot) other = by (p == q)
  where
    by : (b : Bool) → cond b Waiting Waiting ≡ Waiting
    by true = refl
    by false = refl
hear_quiet c q (lines.Notice d id g slot) other = ap (λ b. cond b (woken (ByNotice id) Waiting) Waiting) other
hear_quiet c q (lines.Gone d subs) other = ap (λ b. cond b (woken ByGone Waiting) Waiting) other
hear_quiet c q a other = refl

neither : (a b : Bool) → (a || b) ≡ false → (a ≡ false) × (b ≡ false)
neither true b e = absurd cc
neither false b e = (refl, e)

hears_quiet : (c : List ℕ) (q : ℕ) (xs : List AlertLine) → list_any (is_signal c) xs ≡ false → hears c q Waiting xs ≡ Waiting
hears_quiet c q [] none = refl
hears_quiet c q (a ∷ xs) none =
    let n = neither (is_signal c a) (list_any (is_signal c) xs) none in
    ap (λ s. hears c q s xs) (hear_quiet c q a n.0) ∙ hears_quiet c q xs n.1

-- ---- a place where nothing was found

module _ (workers w q : ℕ) (c : List ℕ) (after : Id) (floor : ℕ) (h : List Event) (tells : OwnerTells (owner_of workers c) (own (owner_of workers c) h)) (wakes : Wakes (own (owner_of workers c) h)) (k : IsNothing workers w q c after floor h) where
  abbrev l : List Event
  l = own (owner_of workers c) h

  known : wake w c q (own (owner_of workers c) h) ≡ NotYet → ⊥
  known e = look_known w c q k.look.since (owner_of workers c) k.look.number after floor k.look.seen (ap (wake w c q) (sym k.look.place) ∙ e)

  waits : list_any (is_signal c) (lines_of (pending (owner_of workers c) w h)) ≡ false → wake w c q (own (owner_of workers c) h) ≡ Waiting
  waits none =
      sym (tells.heard w c q (tells.only w c q known)) ∙ ap (hears c q NotYet) (made_is (owner_of workers c) w h)
      ∙ hears_append c q NotYet (received (owner_of workers c) w h) (lines_of (pending (owner_of workers c) w h))
      ∙ ap (λ s. hears c q s (lines_of (pending (owner_of workers c) w h))) k.waits ∙ hears_quiet c q (lines_of (pending (owner_of workers c) w h)) none

  nothing_awake : IsAwake workers w c after h
  nothing_awake = by (list_any (is_signal c) (lines_of (pending (owner_of workers c) w h))) refl
    where
      by : (b : Bool) → list_any (is_signal c) (lines_of (pending (owner_of workers c) w h)) ≡ b → IsAwake workers w c after h
      by true e = inl e
      by false e =
          let past : look_past w c q (own (owner_of workers c) h) ≡ Some after = ap (look_past w c q) k.look.place
          ∙ past_once w c q k.look.since (owner_of workers c) k.look.number after floor k.look.seen (subst (λ (z : List Event). times q (look_numbers z) ≤ 1) k.look.place (tells.once q)) in
          inr (record {
            marked = wakes.waits w c q (waits e);
            nothing = subst (λ (x : Option Id). IfSome x (λ a. NothingIsPast a (buffer c (own (owner_of workers c) h)))) past (tells.past w c q (waits e));
          })

place_awake : (workers w : ℕ) (c : List ℕ) (after : Id) (p : Place) (h : List Event) → OwnerTells (owner_of workers c) (own (owner_of workers c) h) → Wakes (own (owner_of workers c) h) → PlaceHolds workers w c after p h → PlaceIsAwake workers w c after p h
place_awake workers w c after (places.Asked number None) h tells wakes k = tt
place_awake workers w c after (places.Asked number (Some quiet)) h tells wakes k = nothing_awake workers w quiet.q c after quiet.floor h tells wakes k.1
place_awake workers w c after (places.Nothing quiet) h tells wakes k = nothing_awake workers w quiet.q c after quiet.floor h tells wakes k
place_awake workers w c after (places.Found q id owner g) h tells wakes k = tt

pub no_wake_is_lost : NoWakeIsLost
no_wake_is_lost setup h world is r w =
    let tell = reached_owners_tell setup h world is r in
    let good = reached_is_good setup h world is r in
    all-changed (PlacesHold setup.workers w h) (SpoolIsAwake setup.workers w h) (shelf_at world w)
    (λ s k j lt. place_awake setup.workers w _ _ _ h (tell.tells _) (good.keeps _).stands.wakes (k j lt)) ((reached_has_places setup h world is r).holds w)
