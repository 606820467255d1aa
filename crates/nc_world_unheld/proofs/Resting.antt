-- Each hold that is kept is used, and where no look is awaited none is.
use Rattle.std.proofs.Common.{◌≡◌, ℕ, ◌-◌, Bool, true, false, cond, not, List, [], ◌∷◌, refl, sym, ap, ◌∙◌, arith, filter}
use Rattle.std.specs.Prelude.{◌==◌, ◌||◌}
use Rattle.std.specs.List.{AllByRecursion, list_any}
use Rattle.nc_journal.specs.Holding.{times_so, grants_slot, releases_slot}
use Rattle.nc_journal.specs.declared.event.Event.{Event}
use Rattle.nc_history.specs.Packets.{Packet, lines_of}
use Rattle.nc_spool_state.specs.declared.kept.Held.{Held}
use Rattle.nc_spool_state.specs.declared.place.Place.{Place}
use Rattle.nc_spool_state.specs.declared.place.Place.TheVariants.{Asked, Nothing, Found}
use Rattle.nc_spool_state.specs.Spool.{SpoolAt}
use Rattle.nc_spool_state.specs.Choice.{is_any_asked}
use Rattle.nc_spool_state.specs.Kept.{place_uses, is_used}
use Rattle.nc_spool_laws.specs.Resting.{is_found, is_any_found, Rests}
use Rattle.nc_spool_laws.specs.Idle.{AllUsed}
use Rattle.nc_spool.specs.Calls.{SpoolsAt}
use Rattle.nc_worker_state.specs.Setup.{Setup}
use Rattle.nc_worker_state.specs.Incoming.{Incoming, TakesPacket}
use Rattle.nc_worker_state.specs.Spooled.{Hold, is_busy, without_idles}
use Rattle.nc_worker_state.specs.Desk.{begun}
use Rattle.nc_worker_state.specs.Worker.{with_at, dealt_worker}
use Rattle.nc_world.specs.World.{World, handled_events}
use Rattle.nc_world_laws.proofs.WorldTheme.{WorldFact, IsWorldTheme}
use Rattle.nc_world_laws.proofs.Parts.{owns, serves}
use Rattle.nc_world_laws.proofs.WorldThemes.{world_theme_holds}
use Rattle.nc_world_holds.specs.Balance.{granted_to, released_by, carried_by, kept_by}
use Rattle.nc_world_holds.proofs.Holding.{reached_holds}
use Rattle.nc_world_holds.proofs.Summing.{bounded, granted_sum, released_sum, sum_same}
use Rattle.nc_world_places.proofs.Reaching.{reached_has_places}
use Rattle.nc_world_unheld.specs.Rest.{KeptAreUsed, UnheldAtRest}

-- ---- what a step keeps is used

used_filter : (s : SpoolsAt Hold) (kept : List (Held Hold)) → AllByRecursion (λ h. is_used h.owner h.g s.shelf ≡ true) (filter (is_busy s) kept)
used_filter s [] = tt
used_filter s (h ∷ kept) = by (is_used h.owner h.g s.shelf) refl (used_filter s kept)
  where
    by : (b : Bool) → is_used h.owner h.g s.shelf ≡ b → AllByRecursion (λ x. is_used x.owner x.g s.shelf ≡ true) (filter (is_busy s) kept)
        → AllByRecursion (λ x. is_used x.owner x.g s.shelf ≡ true) (cond (not (not b)) (h ∷ filter (is_busy s) kept) (filter (is_busy s) kept))
    by true e a = (e, a)
    by false e a = a

idles_used : (s : SpoolsAt Hold) → AllUsed (without_idles s)
idles_used s = used_filter s s.kept

abbrev UsedFact : WorldFact
UsedFact h world = (w : ℕ) → AllUsed (world.workers w).desk.spools

step_used : (setup : Setup) (w : ℕ) (incoming : Incoming) (world : World) (es : List Event) → ((x : ℕ) → AllUsed (world.workers x).desk.spools)
    → (x : ℕ) → AllUsed (with_at world.workers w (dealt_worker es (owns w incoming world) (serves setup w incoming world) (world.workers w)) x).desk.spools
step_used setup w incoming world es a x = by (x == w)
  where
    by : (b : Bool) → AllUsed (cond b (dealt_worker es (owns w incoming world) (serves setup w incoming world) (world.workers w)) (world.workers x)).desk.spools
    by true = idles_used (begun setup w incoming (world.workers w).desk).after.spools
    by false = a x

carried_used : (w v : ℕ) (ps : List Packet) (world : World) → ((x : ℕ) → AllUsed (world.workers x).desk.spools) → (x : ℕ) → AllUsed (with_at world.workers w (record (world.workers w) { outbox = with_at (world.workers w).outbox v ps }) x).desk.spools
carried_used w v ps world a x = by (x == w)
  where
    by : (b : Bool) → AllUsed (cond b (record (world.workers w) { outbox = with_at (world.workers w).outbox v ps }) (world.workers x)).desk.spools
    by true = a w
    by false = a x

used_theme : (setup : Setup) → IsWorldTheme setup UsedFact
used_theme setup = record {
  new = λ w. tt;
  handles = λ w incoming h world r g here input a. step_used setup w incoming world (handled_events setup w incoming world) a;
  takes = λ w v p ps h world r g here there at a. step_used setup w (TakesPacket v p) world (handled_events setup w (TakesPacket v p) world) a;
  carries = λ w v p ps h world r g here there at a. carried_used w v ps world a;
  pending = λ n h world r g same a. a;
  quiet = λ h world r g same a. a;
}

pub kept_are_used : KeptAreUsed
kept_are_used setup h world is r = world_theme_holds setup UsedFact is (used_theme setup) h world r

-- ---- what isn't found isn't used

or_case : (a b : Bool) {X : Type 0} → (a ≡ true → X) → (b ≡ true → X) → (a || b) ≡ true → X
or_case true b f g e = f refl
or_case false b f g e = g e

first_or : (a b : Bool) → a ≡ true → (a || b) ≡ true
first_or true b e = refl
first_or false b e = absurd cc

last_or : (a b : Bool) → b ≡ true → (a || b) ≡ true
last_or true b e = refl
last_or false b e = e

place_found : (o g : ℕ) (p : Place) → place_uses o g p ≡ true → is_found p ≡ true
place_found o g (Asked number earlier) e = absurd cc
place_found o g (Nothing quiet) e = absurd cc
place_found o g (Found q id owner n) e = refl

any_found : (o g : ℕ) (places : List Place) → list_any (place_uses o g) places ≡ true → is_any_found places ≡ true
any_found o g [] e = absurd cc
any_found o g (p ∷ places) e =
    or_case (place_uses o g p) (list_any (place_uses o g) places) (λ i. first_or (is_found p) (is_any_found places) (place_found o g p i)) (λ i. last_or (is_found p) (is_any_found places) (any_found o g places i)) e

clash : (b : Bool) → b ≡ true → b ≡ false → ⊥
clash true e f = absurd cc
clash false e f = absurd cc

none_used : (o g : ℕ) (shelf : List SpoolAt) → AllByRecursion Rests shelf → AllByRecursion (λ s. is_any_asked s.places ≡ false) shelf → is_used o g shelf ≡ true → ⊥
none_used o g [] r u e = absurd cc
none_used o g (s ∷ shelf) r u e =
    or_case (list_any (place_uses o g) s.places) (is_used o g shelf) (λ i. clash (is_any_asked s.places) (r.0 (any_found o g s.places i)) u.0) (λ i. none_used o g shelf r.1 u.1 i) e

none_kept : (shelf : List SpoolAt) (kept : List (Held Hold)) → AllByRecursion Rests shelf → AllByRecursion (λ s. is_any_asked s.places ≡ false) shelf → AllByRecursion (λ h. is_used h.owner h.g shelf ≡ true) kept → kept ≡ []
none_kept shelf [] r u a = refl
none_kept shelf (h ∷ kept) r u a = absurd (none_used h.owner h.g shelf r u a.0)

-- ---- what isn't kept nor pending was released

-- the test of all grants of a slot
abbrev by_slot : ℕ → ℕ → ℕ → Bool
by_slot slot g n = n == slot

pub unheld_at_rest : UnheldAtRest
unheld_at_rest setup h world is r rest = record {
  unkept = unkept;
  released = λ owner slot. none (times_so (grants_slot owner slot) h) (times_so (releases_slot owner slot) h) (same owner slot);
}
  where
    unkept : (w : ℕ) → (world.workers w).desk.spools.kept ≡ []
    unkept w = none_kept (world.workers w).desk.spools.shelf (world.workers w).desk.spools.kept ((reached_has_places setup h world is r).rest w) (rest.unasked w) (kept_are_used setup h world is r w)

    none : (a b : ℕ) → a ≡ b → a - b ≡ 0
    none a b e = omega (arith, e)

    each : (owner slot w : ℕ) → granted_to (by_slot slot) owner w h ≡ released_by (by_slot slot) owner w h
    each owner slot w = omega (
      arith,
      (reached_holds setup h world is r).balanced (by_slot slot) owner w,
      ap (λ (ps : List Packet). carried_by (by_slot slot) (lines_of ps)) (rest.nothing owner w),
      ap (kept_by (by_slot slot) owner) (unkept w),
    )

    same : (owner slot : ℕ) → times_so (grants_slot owner slot) h ≡ times_so (releases_slot owner slot) h
    same owner slot =
        let b = bounded h in
        sym (granted_sum owner slot b.bound h b.all)
        ∙ sum_same (λ w. granted_to (by_slot slot) owner w h) (λ w. released_by (by_slot slot) owner w h) b.bound (each owner slot)
        ∙ released_sum owner slot b.bound h b.all
