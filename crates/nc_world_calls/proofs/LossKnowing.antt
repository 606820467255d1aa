-- After the step on a channel that is gone the places of spools hold.
use Rattle.std.specs.Prelude.{bytes_eq}
use Rattle.std.proofs.Common.{◌≡◌, ℕ, true, false, List, ◌∷◌, None, sym, ap, ◌∙◌, subst, arith}
use Rattle.std.specs.List.{AllByRecursion}
use Rattle.nc_types.specs.Id.{Id}
use Rattle.nc_types.specs.Channel.{owner_of}
use Rattle.nc_journal.specs.History.{own}
use Rattle.nc_journal.specs.declared.event.Event.{Event}
use Rattle.nc_journal.specs.declared.event.Event.TheVariants.{Took}
use Rattle.nc_journal.specs.declared.word.EndedCause.TheVariants.{Deleted}
use Rattle.nc_journal.specs.declared.alert.AlertLine.TheVariants.{Gone}
use Rattle.nc_spool_state.specs.declared.place.Quiet.{Quiet}
use Rattle.nc_spool_state.specs.declared.place.Place.TheVariants as places
use Rattle.nc_spool_state.specs.Spool.{SpoolAt}
use Rattle.nc_spool.specs.Calls.{board_of, gone_facts, gone_after}
use Rattle.nc_spool_laws.specs.Hearing.{Heard}
use Rattle.nc_spool_laws.specs.Keys.{SpoolFits}
use Rattle.nc_spool_laws.specs.Knowing.{IsKnowing}
use Rattle.nc_spool_laws.specs.Attended.{IsWhole}
use Rattle.nc_spool_laws.proofs.Heeding.{all-heard}
use Rattle.nc_spool_laws.proofs.Knowledge.{knowing-kept}
use Rattle.nc_spool_laws.proofs.Lists.{all-changed}
use Rattle.nc_spool_laws.proofs.Local.{whole-kept}
use Rattle.nc_rests.specs.Asking.{HasAsk}
use Rattle.nc_rests.specs.Rests.{RestsAt, Nothing, Found as Finds}
use Rattle.nc_rests.proofs.Asks.{ask_more}
use Rattle.nc_rests.proofs.Looked.{name_self}
use Rattle.nc_rests.proofs.Rests.{found_stays, take_keeps}
use Rattle.nc_world_told.specs.Written.{written}
use Rattle.nc_world_told.specs.Known.{PlacesHold}
use Rattle.nc_world_told.proofs.Staying.{all_both}
use Rattle.nc_world_told.proofs.Written.{written_is, place_written}
use Rattle.nc_world_calls.specs.Losing.{LossKnows}
use Rattle.nc_world_calls.proofs.Knowing.{Was, Came, all_were}
use Rattle.nc_world_calls.proofs.Noticing.{unlike}
use Rattle.nc_world_calls.proofs.NoticeKnowing.{RestedHere, knows_at, holds_at, heard_place}

pub loss_knows : LossKnows
loss_knows workers me n c subs kind next h s is order whole fits holds =
    subst (λ (l : List Event). AllByRecursion (PlacesHold workers me l) (gone_after c subs s).shelf) (written_is me Deleted next (gone_facts c subs s) (Took me (owner_of workers c) n kind ∷ h)) at_end
  where
    -- an answer of nothing rests at any other channel
    late : (d : List ℕ) (after : Id) (quiet : Quiet) → bytes_eq d c ≡ false → RestsAt workers me d after (Nothing quiet.q quiet.floor) h → RestsAt workers me d after (Nothing quiet.q quiet.floor) (written me Deleted next (gone_facts c subs s) (Took me (owner_of workers c) n kind ∷ h))
    late d after quiet other k =
        place_written workers me d after (places.Nothing quiet) me Deleted next (gone_facts c subs s) (Took me (owner_of workers c) n kind ∷ h)
        (take_keeps workers me d after (Nothing quiet.q quiet.floor) (owner_of workers c) n kind (Gone c subs) h is
        (λ _. unlike c d (λ e. let x : true ≡ false = sym (name_self c) ∙ ap (λ (m : List ℕ). bytes_eq m c) (sym e) ∙ other in absurd cc)) k)

    -- what was found is found, also at this one
    found_late : (d : List ℕ) (after : Id) (q : ℕ) (id : Id) → RestsAt workers me d after (Finds q id) h → RestsAt workers me d after (Finds q id) (written me Deleted next (gone_facts c subs s) (Took me (owner_of workers c) n kind ∷ h))
    found_late d after q id k = place_written workers me d after (places.Found q id 0 0) me Deleted next (gone_facts c subs s) (Took me (owner_of workers c) n kind ∷ h) (found_stays workers me d after q id (Took me (owner_of workers c) n kind) h k)

    asked_late : (number : ℕ) (d : List ℕ) (after : Id) → HasAsk number d after (own me h) → HasAsk number d after (own me (written me Deleted next (gone_facts c subs s) (Took me (owner_of workers c) n kind ∷ h)))
    asked_late number d after k = (place_written workers me d after (places.Asked number None) me Deleted next (gone_facts c subs s) (Took me (owner_of workers c) n kind ∷ h) (ask_more me number d after (Took me (owner_of workers c) n kind) h k, tt)).0

    at_end : AllByRecursion (PlacesHold workers me (written me Deleted next (gone_facts c subs s) (Took me (owner_of workers c) n kind ∷ h))) (gone_after c subs s).shelf
    at_end =
        let l : List Event = written me Deleted next (gone_facts c subs s) (Took me (owner_of workers c) n kind ∷ h) in
        let kept = (knowing-kept (Was workers me l) (RestedHere workers me c h l) (Came workers me l)).removal c subs (board_of s)
        (λ w. all-changed (PlacesHold workers me h) (IsKnowing (Was workers me l) (RestedHere workers me c h l) (Came workers me l)) s.shelf (λ x k j lt. knows_at workers me c h l late found_late asked_late _ _ _ (k j lt)) holds)
        (all_were workers me Deleted (RestedHere workers me c h l) (Came workers me l) next (gone_facts c subs s) (Took me (owner_of workers c) n kind ∷ h)) in
        let heard = all-heard.removal c subs (board_of s) order whole in
        let new_whole = whole-kept.removal c subs (board_of s) whole in
        let shelf : List SpoolAt = (gone_after c subs s).shelf in
        all-changed (λ (x : SpoolAt). IsKnowing (Was workers me l) (RestedHere workers me c h l) (Came workers me l) x × ((Heard c x × IsWhole x) × SpoolFits x)) (PlacesHold workers me l) shelf
        (λ x k j lt. holds_at workers me c h l _ _ _ (λ e. heard_place c x j k.1.0.0 k.1.1.distinct (omega (arith, lt, k.1.0.1)) e) (k.0 j lt))
        (all_both (IsKnowing (Was workers me l) (RestedHere workers me c h l) (Came workers me l)) (λ (x : SpoolAt). (Heard c x × IsWhole x) × SpoolFits x) shelf kept
        (all_both (λ (x : SpoolAt). Heard c x × IsWhole x) SpoolFits shelf (all_both (Heard c) IsWhole shelf heard new_whole) fits))
