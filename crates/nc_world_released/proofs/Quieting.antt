-- When no alert is pending no place is asked, so every hold was released.
use Rattle.std.proofs.Common.{◌≡◌, ℕ, false, List, [], ◌∷◌, sym, subst, arith}
use Rattle.std.specs.List.{AllByRecursion}
use Rattle.nc_journal.specs.History.{onto, Along}
use Rattle.nc_journal.specs.declared.event.Event.{Event}
use Rattle.nc_journal.specs.declared.event.Event.TheVariants.{Quiet}
use Rattle.nc_spool_state.specs.Choice.{is_any_asked}
use Rattle.nc_spool_state.specs.Spool.{SpoolAt}
use Rattle.nc_spool_laws.specs.Numbers.{total, looks_of}
use Rattle.nc_history.specs.Packets.{pending}
use Rattle.nc_worker_state.specs.Setup.{Setup}
use Rattle.nc_worker_state.specs.Incoming.{Incoming, TakesPacket}
use Rattle.nc_world.specs.World.{World, handled_events, pending_in}
use Rattle.nc_world.specs.Moves.{Counts, counted}
use Rattle.nc_world.specs.Reached.{IsSetup, Reached, Moves}
use Rattle.nc_world_laws.specs.Good.{Good}
use Rattle.nc_world_laws.proofs.WorldTheme.{IsWorldTheme}
use Rattle.nc_world_laws.proofs.Parts.{before, part, behind, part_all, behind_all}
use Rattle.nc_world_laws.proofs.Frames.{handled_onto}
use Rattle.nc_world_laws.proofs.WorldThemes.{world_theme_holds}
use Rattle.nc_world_owners.proofs.ReachedHistories.{counts_are_told}
use Rattle.nc_world_places.specs.Places.{shelf_at}
use Rattle.nc_world_unheld.proofs.Resting.{unheld_at_rest}
use Rattle.nc_world_awaits.proofs.Quieting.{no_asked, nothing_awaited, IsUnquiet, unquiet_owner, unquiet_worker, unquiet_opening}
use Rattle.nc_world_released.specs.Released.{HeldNowhere, HistoriesRelease}

all_unasked : (shelf : List SpoolAt) → ((n : ℕ) → total (looks_of n) shelf ≡ 0) → AllByRecursion (λ s. is_any_asked s.places ≡ false) shelf
all_unasked [] none = tt
all_unasked (s ∷ shelf) none = (no_asked s.places (λ n. let k = none n in omega (arith, k)), all_unasked shelf (λ n. let k = none n in omega (arith, k)))

module _ (setup : Setup) (is : IsSetup setup) (h : List Event) (world : World) (reached : Reached setup h world) (none : (v w : ℕ) → pending v w h ≡ []) where
  held_nowhere : HeldNowhere h Quiet
  held_nowhere = (unheld_at_rest setup h world is reached (record { nothing = none; unasked = λ w. all_unasked (shelf_at world w) (nothing_awaited setup is h world reached none w) })).released

-- ---- the theme

held_one : (h : List Event) (e : Event) → IsUnquiet e → HeldNowhere h e
held_one h Quiet k = absurd k
held_one h e k = tt

held_onto : (es h : List Event) → AllByRecursion IsUnquiet es → Along HeldNowhere h → Along HeldNowhere (onto es h)
held_onto [] h k a = a
held_onto (e ∷ es) h k a = held_onto es (e ∷ h) k.1 (a, held_one h e k.0)

module _ (setup : Setup) (is : IsSetup setup) where
  step_held : (w : ℕ) (i : Incoming) (h : List Event) (world : World) → Good setup h world → Along HeldNowhere h → Along HeldNowhere (onto (handled_events setup w i world) h)
  step_held w i h world g a =
      let opened = onto (before setup w i world) h in
      subst (Along HeldNowhere) (sym (handled_onto setup is w i h world g h))
      (held_onto (behind setup w i world) (onto (part w i world) opened) (behind_all setup is w i h world g IsUnquiet (unquiet_worker w) (λ to n l. tt))
      (held_onto (part w i world) opened (part_all setup is w i h world g IsUnquiet (unquiet_owner w) (λ to n l. tt))
      (held_onto (before setup w i world) h (unquiet_opening setup is w i world) a)))

  at_quiet : (h : List Event) (world : World) → Reached setup h world → pending_in setup world ≡ 0 → HeldNowhere h Quiet
  at_quiet h world reached same =
      let then : Reached setup (Quiet ∷ h) world = subst (λ n. Reached setup (onto (counted n) h) world) same (Moves h world Counts reached tt) in
      held_nowhere setup is h world reached (counts_are_told setup (Quiet ∷ h) world is then).1

  release_theme : IsWorldTheme setup (λ h world. Along HeldNowhere h)
  release_theme = record {
    new = tt;
    handles = λ w incoming h world reached g here i a. step_held w incoming h world g a;
    takes = λ w v p ps h world reached g here there at a. step_held w (TakesPacket v p) h world g a;
    carries = λ w v p ps h world reached g here there at a. a;
    pending = λ n h world reached g same a. (a, tt);
    quiet = λ h world reached g same a. (a, at_quiet h world reached same);
  }

pub histories_release : HistoriesRelease
histories_release setup h world is reached = world_theme_holds setup (λ h world. Along HeldNowhere h) is (release_theme setup is) h world reached
