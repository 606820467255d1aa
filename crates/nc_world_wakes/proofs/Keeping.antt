-- Each step keeps the holds of what was found.
use Rattle.std.proofs.Common.{◌≡◌, ℕ, Bool, true, false, cond, not, List, [], ◌∷◌, Option, Some, None, refl, sym, ap, ◌∙◌, arith, filter}
use Rattle.std.specs.Prelude.{◌==◌, ◌&&◌, ◌||◌}
use Rattle.std.specs.List.{AllByRecursion, list_any}
use Rattle.std.specs.Option.{option_map}
use Rattle.std.proofs.lemmas.Bool.Decides.{nat_tests}
use Rattle.nc_types.specs.declared.info.Info.{Info}
use Rattle.nc_journal.specs.declared.event.Event.{Event}
use Rattle.nc_journal.specs.declared.alert.AlertLine.{AlertLine}
use Rattle.nc_journal.specs.declared.alert.AlertLine.TheVariants as lines
use Rattle.nc_spool_state.specs.declared.kept.Held.{Held}
use Rattle.nc_spool_state.specs.declared.place.Place.{Place}
use Rattle.nc_spool_state.specs.declared.place.Place.TheVariants.{Asked, Nothing, Found}
use Rattle.nc_spool_state.specs.declared.place.Quiet.{Quiet}
use Rattle.nc_spool_state.specs.Kept.{place_uses, spool_uses, is_used, is_grant, is_kept}
use Rattle.nc_spool_state.specs.Spool.{SpoolAt}
use Rattle.nc_spool.specs.declared.spools.Found.{Found as FoundWith}
use Rattle.nc_spool.specs.Calls.{SpoolsAt, board_of, news_of, with_found}
use Rattle.nc_spool_laws.specs.Attended.{PlaceHeld, IsHeld, AnswerHeld}
use Rattle.nc_spool_laws.proofs.Holds.{holds-rule}
use Rattle.nc_spool_laws.proofs.Local.{held-kept}
use Rattle.nc_worker_state.specs.Setup.{Setup}
use Rattle.nc_worker_state.specs.Incoming.{Incoming, TakesPacket, ClockReads, Reaps, Posts, Subscribes, Removes, Informs}
use Rattle.nc_worker_state.specs.Desk.{Desk, Served, replied, is_waiting, handled as answered, begun, served}
use Rattle.nc_worker_state.specs.Spooled.{Hold, found_by, found_in, is_busy, without_idles}
use Rattle.nc_worker_state.specs.Worker.{WorkerAt, with_at, dealt_worker}
use Rattle.nc_world.specs.World.{World, handled_events, handled}
use Rattle.nc_world_laws.proofs.WorldTheme.{IsWorldTheme}
use Rattle.nc_world_laws.proofs.Local.{either}
use Rattle.nc_world_laws.proofs.Acting.{with_all}
use Rattle.nc_world_laws.proofs.Parts.{owns, serves}
use Rattle.nc_world_laws.proofs.WorldThemes.{world_theme_holds}
use Rattle.nc_world_wakes.specs.Held.{AreHeld, FoundIsHeld}

-- ---- holds that are used stay when idle ones are released

grant_owner : (a b c d : ℕ) → ((a == b) && (c == d)) ≡ true → a ≡ b
grant_owner a b c d e = grind (arith, nat_tests)

grant_number : (a b c d : ℕ) → ((a == b) && (c == d)) ≡ true → c ≡ d
grant_number a b c d e = grind (arith, nat_tests)

grant_itself : (a c : ℕ) → ((a == a) && (c == c)) ≡ true
grant_itself a c = grind (arith, nat_tests)

late : (a b : Bool) → b ≡ true → (a || b) ≡ true
late true b e = refl
late false b e = e

early : (a b : Bool) → a ≡ true → (a || b) ≡ true
early true b e = refl
early false b e = absurd cc

any_filter : {X : Type 0} (p keep : X → Bool) → ((x : X) → p x ≡ true → keep x ≡ true) → (xs : List X) → list_any p xs ≡ true → list_any p (filter keep xs) ≡ true
any_filter p keep h [] e = e
any_filter p keep h (x ∷ xs) e = by (keep x) refl (p x) refl e (λ f. any_filter p keep h xs f)
  where
    by : (t : Bool) → keep x ≡ t → (a : Bool) → p x ≡ a → (a || list_any p xs) ≡ true → (list_any p xs ≡ true → list_any p (filter keep xs) ≡ true) → list_any p (cond t (x ∷ filter keep xs) (filter keep xs)) ≡ true
    by true was true passes e rest = early (p x) (list_any p (filter keep xs)) passes
    by true was false passes e rest = late (p x) (list_any p (filter keep xs)) (rest e)
    by false was true passes e rest = let clash : true ≡ false = sym (h x passes) ∙ was in absurd cc
    by false was false passes e rest = rest e

module _ (kept now : List (Held Hold)) where
  place_changed : (p : Place) → ((o g : ℕ) → place_uses o g p ≡ true → is_kept o g kept ≡ true → is_kept o g now ≡ true) → PlaceHeld kept p → PlaceHeld now p
  place_changed (Asked number earlier) h i = tt
  place_changed (Nothing quiet) h i = tt
  place_changed (Found q id owner g) h i = h owner g (grant_itself owner g) i

  places_changed : (places : List Place) → ((o g : ℕ) → list_any (place_uses o g) places ≡ true → is_kept o g kept ≡ true → is_kept o g now ≡ true) → AllByRecursion (PlaceHeld kept) places → AllByRecursion (PlaceHeld now) places
  places_changed [] h i = tt
  places_changed (p ∷ places) h i = (
    place_changed p (λ o g used k. h o g (early (place_uses o g p) (list_any (place_uses o g) places) used) k) i.0,
    places_changed places (λ o g used k. h o g (late (place_uses o g p) (list_any (place_uses o g) places) used) k) i.1,
  )

  spools_changed : (spools : List SpoolAt) → ((o g : ℕ) → is_used o g spools ≡ true → is_kept o g kept ≡ true → is_kept o g now ≡ true) → AllByRecursion (IsHeld kept) spools → AllByRecursion (IsHeld now) spools
  spools_changed [] h i = tt
  spools_changed (s ∷ spools) h i = (
    places_changed s.places (λ o g used k. h o g (early (spool_uses o g s) (is_used o g spools) used) k) i.0,
    spools_changed spools (λ o g used k. h o g (late (spool_uses o g s) (is_used o g spools) used) k) i.1,
  )

grant_busy : (s : SpoolsAt Hold) (o g : ℕ) (x : Held Hold) → is_used o g s.shelf ≡ true → is_grant o g x ≡ true → is_busy s x ≡ true
grant_busy s o g x used is =
    let here : is_used x.owner x.g s.shelf ≡ true = ap (λ (n : ℕ). is_used n x.g s.shelf) (grant_owner x.owner o x.g g is) ∙ ap (λ (n : ℕ). is_used o n s.shelf) (grant_number x.owner o x.g g is) ∙ used in
    ap (λ b. not (not b)) here

released_held : (s : SpoolsAt Hold) → AreHeld s → AreHeld (without_idles s)
released_held s k = spools_changed s.kept (filter (is_busy s) s.kept) s.shelf (λ o g used is. any_filter (is_grant o g) (is_busy s) (λ x grant. grant_busy s o g x used grant) s.kept is) k

-- ---- the part of a step beside the owner's

module _ (me : ℕ) (d : Desk) (k : AreHeld d.spools) where
  replied_held : (r status : ℕ) (info : Option Info) → AreHeld (replied me r status info d).after.spools
  replied_held r status info = either (λ (s : Served). AreHeld s.after.spools) (is_waiting r d.waiting) _ _ k k

  found_held : (number : ℕ) (quiet : Quiet) (found : Option (FoundWith Hold)) → AnswerHeld (with_found found d.spools.kept) number quiet (option_map news_of found) × AllByRecursion (IsHeld (with_found found d.spools.kept)) d.spools.shelf
  found_held number quiet None = (tt, k)
  found_held number quiet (Some found) = ((holds-rule Hold).new_held found.held d.spools.kept, (holds-rule Hold).keep_held found.held d.spools.kept d.spools.shelf k)

  answered_held : (from : ℕ) (line : AlertLine) → AreHeld (answered me from line d).after.spools
  answered_held from (lines.PubAnswer r status info full) = replied_held r status info
  answered_held from (lines.InfoAnswer r status info) = replied_held r status info
  answered_held from (lines.DelAnswer r status info) = replied_held r status info
  answered_held from (lines.LookAnswer number q floor past g slot) =
      let found = found_in from past g slot in
      let both = found_held number (record { q = q; floor = floor }) (found_in from past g slot) in
      (held-kept (with_found found d.spools.kept)).answer number (record { q = q; floor = floor }) (option_map news_of found) (board_of d.spools) both.0 both.1
  answered_held from (lines.Notice c id g slot) =
      let found = found_by from id g slot in
      let both = found_held 0 (record { q = 0; floor = 0 }) (Some (found_by from id g slot)) in
      (held-kept (with_found (Some found) d.spools.kept)).notice c (news_of found) (board_of d.spools) both.0 both.1
  answered_held from (lines.EdgeAnswer number q floor last) = (held-kept d.spools.kept).edge_answer number floor last (board_of d.spools) tt k
  answered_held from (lines.Gone c subs) = (held-kept d.spools.kept).removal c subs (board_of d.spools) k
  answered_held from (lines.Publish r c len timeout ct body) = k
  answered_held from (lines.Look number c after fence) = k
  answered_held from (lines.Edge number n c fence) = k
  answered_held from (lines.Join c n) = k
  answered_held from (lines.Part c n) = k
  answered_held from (lines.Delete r c) = k
  answered_held from (lines.Info r c) = k

  begun_held : (setup : Setup) (incoming : Incoming) → AreHeld (begun setup me incoming d).after.spools
  begun_held setup (TakesPacket from p) = answered_held from p.line
  begun_held setup (ClockReads t) = k
  begun_held setup Reaps = k
  begun_held setup (Posts c body) = k
  begun_held setup (Removes c) = k
  begun_held setup (Informs c) = k
  begun_held setup (Subscribes n list start) = (held-kept d.spools.kept).arrive (record { k = n; once = true }) list start (board_of d.spools) tt k

  served_held : (setup : Setup) (incoming : Incoming) → AreHeld (served setup me incoming d).after.spools
  served_held setup incoming = released_held (begun setup me incoming d).after.spools (begun_held setup incoming)

-- ---- the theme

abbrev AllHeld : List Event → World → Type 0
AllHeld h world = (w : ℕ) → AreHeld (world.workers w).desk.spools

handled_held : (setup : Setup) (x : ℕ) (incoming : Incoming) (world : World) → ((w : ℕ) → AreHeld (world.workers w).desk.spools) → (w : ℕ) → AreHeld ((handled setup x incoming world).workers w).desk.spools
handled_held setup x incoming world k = with_all (λ w (s : WorkerAt). AreHeld s.desk.spools) world.workers x
    (dealt_worker (handled_events setup x incoming world) (owns x incoming world) (serves setup x incoming world) (world.workers x)) (served_held x (world.workers x).desk (k x) setup incoming) (λ w other. k w)

held_theme : (setup : Setup) → IsWorldTheme setup AllHeld
held_theme setup = record {
  new = λ w. tt;
  handles = λ w incoming h world r g here i k. handled_held setup w incoming world k;
  takes = λ w v p ps h world r g here there at k. handled_held setup w (TakesPacket v p) world k;
  carries = λ w v p ps h world r g here there at k. with_all (λ y (s : WorkerAt). AreHeld s.desk.spools) world.workers w (record (world.workers w) { outbox = with_at (world.workers w).outbox v ps }) (k w) (λ y e. k y);
  pending = λ n h world r g same k. k;
  quiet = λ h world r g same k. k;
}

pub found_is_held : FoundIsHeld
found_is_held setup h world is r = world_theme_holds setup AllHeld is (held_theme setup) h world r
