use Rattle.std.proofs.Common.{ℕ, List, [], ◌∷◌, ◌++◌, refl, sym, ◌∙◌, ap, append_assoc}
use Rattle.std.proofs.Math.Path.{fun_ext}
use Rattle.std.proofs.lemmas.List.{append-nil}
use Rattle.nc_journal.specs.declared.event.Event.{Event}
use Rattle.nc_spool.specs.Calls.{SpoolsAt}
use Rattle.nc_worker_state.specs.Worker.{given_back}
use Rattle.nc_scribe.proofs.Story.{tells_none, tells_on, tells_same}
use Rattle.nc_desk.specs.Release.{released, idle_events}
use Rattle.nc_desk.proofs.Idling.{idle_one, idle_none, busy_one, busy_none, held_one, held_rest, fewer_held, back_one}
use Rattle.nc_desk.proofs.release.release_idle.Goals as goal

pub loop-held-init : goal.loop-held-init
loop-held-init g c = record {
  desk = refl;
  told = ([], tells_none c.args.scribe.now, refl);
  held = c.requires;
  own = λ own. own;
  slots = refl;
  holds = λ x. refl;
}

pub loop-held-smaller : goal.loop-held-smaller
loop-held-smaller g c = fewer_held c.loop-held.desk.spools c.idle_hold.new.self c.in-Some.held c.in-Some.ensures.taken c.in-Some.ensures.after

pub loop-held-preserved : goal.loop-held-preserved
loop-held-preserved g c =
    let inv = c.loop-held.invariant in
    let s = c.loop-held.desk.spools in
    let rest = c.idle_hold.new.self in
    let h = c.in-Some.held in
    let me = c.args.scribe.now.me in
    let next = idle_one me s rest h c.in-Some.ensures.taken c.in-Some.ensures.after in
    let event = c.released-event.ensures ∙ ap (λ (n : ℕ). released n h) (c.me.ensures ∙ inv.told.1.me) in
    let is = held_one g.P.Slots.held s h c.in-Some.ensures.taken inv.held in
    record {
      desk = ap (λ (x : SpoolsAt g.row.P-Hold.Denot). record c.loop-held.desk { spools = x }) (busy_one s rest c.in-Some.ensures.after) ∙ inv.desk;
      told = (
        inv.told.0 ++ c.released-event.result ∷ [],
        tells_on inv.told.1 c.in_ok-tell.ensures.tells,
        append_assoc inv.told.0 (c.released-event.result ∷ []) (idle_events me rest)
            ∙ (ap (λ (l : List Event). inv.told.0 ++ l) (ap (λ (e : Event). e ∷ idle_events me rest) event ∙ sym next) ∙ inv.told.2),
      );
      held = held_rest g.P.Slots.held s rest c.in-Some.ensures.after inv.held;
      own = λ own. c.in_ok-tell.ensures.own g.P.Slots.held (inv.own own);
      slots = fun_ext (λ o. c.release.ensures.slots o) ∙ inv.slots;
      holds = λ x.
          ap (λ (f : ℕ → List ℕ). given_back f (idle_events me rest)) (back_one (g.P.Slots.holds c.loop-held.pool) (g.P.Slots.holds c.release.new.self) _ h.owner h.slot _ is.owner is.place (c.release.ensures.one_hold x) (c.release.ensures.other_holds x))
          ∙ (sym (ap (given_back (g.P.Slots.holds c.loop-held.pool)) next) ∙ inv.holds x);
    }

pub returns : goal.returns
returns g c =
    let inv = c.loop-held.invariant in
    let s = c.loop-held.desk.spools in
    let rest = c.idle_hold.new.self in
    let me = c.args.scribe.now.me in
    let none = idle_none me s c.in_default.ensures.taken in
    record {
      tells = tells_same (sym (append-nil inv.told.0) ∙ (ap (λ (l : List Event). inv.told.0 ++ l) (sym none) ∙ inv.told.2)) inv.told.1;
      desk = ap (λ (x : SpoolsAt g.row.P-Hold.Denot). record c.loop-held.desk { spools = x }) (busy_none s rest c.in_default.ensures.taken c.in_default.ensures.after) ∙ inv.desk;
      held = held_rest g.P.Slots.held s rest c.in_default.ensures.after inv.held;
      own = inv.own;
      slots = inv.slots;
      holds = λ x. ap (given_back (g.P.Slots.holds c.loop-held.pool)) (sym none) ∙ inv.holds x;
    }
