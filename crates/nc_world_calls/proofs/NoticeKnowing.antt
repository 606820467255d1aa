-- After the step of a notice the places of spools hold.
use Rattle.std.specs.Prelude.{bytes_eq}
use Rattle.std.proofs.Common.{◌≡◌, ℕ, ◌<◌, Bool, true, false, cond, ltb, List, [], ◌∷◌, Some, None, refl, sym, ap, ◌∙◌, subst, arith, length, get_or}
use Rattle.std.specs.List.{AllByRecursion, position_or_len}
use Rattle.std.proofs.lemmas.Bool.Decides.{nat_tests}
use Rattle.std.proofs.lemmas.List.Sums.{position_or_len_is}
use Rattle.nc_types.specs.Id.{Id, is_past}
use Rattle.nc_types.specs.Channel.{owner_of, AreDistinct}
use Rattle.nc_journal.specs.History.{own}
use Rattle.nc_journal.specs.declared.event.Event.{Event}
use Rattle.nc_journal.specs.declared.event.Event.TheVariants.{Took}
use Rattle.nc_journal.specs.declared.word.EndedCause.TheVariants.{Answered}
use Rattle.nc_journal.specs.declared.alert.AlertLine.TheVariants.{Notice}
use Rattle.nc_spool_state.specs.declared.hear.News.{News}
use Rattle.nc_spool_state.specs.declared.place.Quiet.{Quiet}
use Rattle.nc_spool_state.specs.declared.place.Place.{Place}
use Rattle.nc_spool_state.specs.declared.place.Place.TheVariants as places
use Rattle.nc_spool_state.specs.Hear.{notice_says}
use Rattle.nc_spool_state.specs.Key.{name_at}
use Rattle.nc_spool_state.specs.Spool.{SpoolAt, place_at}
use Rattle.nc_spool.specs.Calls.{board_of, news_of, notice_facts, notice_after}
use Rattle.nc_spool_laws.specs.Hearing.{has_answer, Heard}
use Rattle.nc_spool_laws.specs.Keys.{SpoolFits}
use Rattle.nc_spool_laws.specs.Knowing.{Knows, IsKnowing}
use Rattle.nc_spool_laws.proofs.Heeding.{all-heard}
use Rattle.nc_spool_laws.proofs.Knowledge.{same-name, knowing-kept}
use Rattle.nc_spool_laws.specs.Attended.{IsWhole}
use Rattle.nc_spool_laws.proofs.Lists.{all-changed}
use Rattle.nc_spool_laws.proofs.Local.{whole-kept}
use Rattle.nc_rests.specs.Asking.{HasAsk}
use Rattle.nc_rests.specs.Places.{PlaceHolds, HeardHolds}
use Rattle.nc_rests.specs.Rests.{RestsAt, Nothing, Found as Finds}
use Rattle.nc_rests.proofs.Asks.{ask_more}
use Rattle.nc_rests.proofs.Lists.{distinct_at}
use Rattle.nc_rests.proofs.Looked.{name_self}
use Rattle.nc_rests.proofs.Places.{place_notices}
use Rattle.nc_rests.proofs.Rests.{found_stays, take_keeps}
use Rattle.nc_world_told.specs.Written.{written}
use Rattle.nc_world_told.specs.Known.{PlacesHold}
use Rattle.nc_world_told.proofs.Staying.{all_both}
use Rattle.nc_world_told.proofs.Written.{written_is, place_written}
use Rattle.nc_world_calls.specs.Noticing.{NoticeKnows}
use Rattle.nc_world_calls.proofs.Knowing.{Was, Came, all_were}
use Rattle.nc_world_calls.proofs.Noticing.{name_there, unlike}

-- ---- the one place of a channel

place_named : (c : List ℕ) (list : List (List ℕ)) (j : ℕ) → AreDistinct list → j < length list → bytes_eq (get_or list j []) c ≡ true → position_or_len (λ name. bytes_eq name c) list ≡ j
place_named c list j d l e = position_or_len_is (λ name. bytes_eq name c) list j [] (omega (arith, l)) (λ k lt. by k lt (bytes_eq (get_or list k []) c) refl) (λ _. e)
  where
    by : (k : ℕ) → k < j → (t : Bool) → bytes_eq (get_or list k []) c ≡ t → t ≡ false
    by k lt true t =
        absurd (distinct_at list j k (get_or list j []) (get_or list k []) d (name_there list j l) (name_there list k (omega (arith, l, lt))) (λ same. omega (arith, lt, same))
        (same-name (get_or list k []) c t ∙ sym (same-name (get_or list j []) c e)))
    by k lt false t = refl

within_list : (j n : ℕ) → j < n → ltb j n ≡ true
within_list j n l = grind (arith, nat_tests, l)

-- where a spool heard of a channel, its place of that channel rests on no older answer
pub heard_place : (c : List ℕ) (x : SpoolAt) (j : ℕ) → Heard c x → AreDistinct x.key.list → j < length x.key.list → bytes_eq (name_at x.key j) c ≡ true → has_answer (place_at x j) ≡ false
heard_place c x j heard d l e =
    heard j (ap (λ (p : ℕ). cond (ltb p (length x.key.list)) (Some p) None) (place_named c x.key.list j d l e) ∙ ap (λ b. cond b (Some j) None) (within_list j (length x.key.list) l))

-- ---- what the places know

module _ (workers me : ℕ) (c : List ℕ) (h l : List Event) where
  -- an answer of nothing rests as before the step at the signalled channel, and elsewhere as at its end
  abbrev pub RestedBy : Bool → List ℕ → Id → Quiet → Type 0
  RestedBy true d after quiet = RestsAt workers me d after (Nothing quiet.q quiet.floor) h
  RestedBy false d after quiet = RestsAt workers me d after (Nothing quiet.q quiet.floor) l

  abbrev pub RestedHere : List ℕ → Id → Quiet → Type 0
  RestedHere d after quiet = RestedBy (bytes_eq d c) d after quiet

  module _ (late : (d : List ℕ) (after : Id) (quiet : Quiet) → bytes_eq d c ≡ false → RestsAt workers me d after (Nothing quiet.q quiet.floor) h → RestsAt workers me d after (Nothing quiet.q quiet.floor) l)
      (found_late : (d : List ℕ) (after : Id) (q : ℕ) (id : Id) → RestsAt workers me d after (Finds q id) h → RestsAt workers me d after (Finds q id) l)
      (asked_late : (number : ℕ) (d : List ℕ) (after : Id) → HasAsk number d after (own me h) → HasAsk number d after (own me l)) where
    rested_late : (b : Bool) (d : List ℕ) (after : Id) (quiet : Quiet) → bytes_eq d c ≡ b → RestsAt workers me d after (Nothing quiet.q quiet.floor) h → RestedBy b d after quiet
    rested_late true d after quiet e k = k
    rested_late false d after quiet e k = late d after quiet e k

    pub knows_at : (d : List ℕ) (after : Id) (p : Place) → PlaceHolds workers me d after p h → Knows (Was workers me l) RestedHere (Came workers me l) d after p
    knows_at d after (places.Asked number None) k = asked_late number d after k.0
    knows_at d after (places.Asked number (Some quiet)) k = (asked_late number d after k.0, rested_late (bytes_eq d c) d after quiet refl k.1)
    knows_at d after (places.Nothing quiet) k = rested_late (bytes_eq d c) d after quiet refl k
    knows_at d after (places.Found q id owner g) k = found_late d after q id k

  rests_now : (b : Bool) (d : List ℕ) (after : Id) (quiet : Quiet) → (b ≡ true → ⊥) → RestedBy b d after quiet → RestsAt workers me d after (Nothing quiet.q quiet.floor) l
  rests_now true d after quiet other k = absurd (other refl)
  rests_now false d after quiet other k = k

  pub holds_at : (d : List ℕ) (after : Id) (p : Place) → (bytes_eq d c ≡ true → has_answer p ≡ false) → Knows (Was workers me l) RestedHere (Came workers me l) d after p → PlaceHolds workers me d after p l
  holds_at d after (places.Asked number None) heard k = (k, tt)
  holds_at d after (places.Asked number (Some quiet)) heard k = (k.0, rests_now (bytes_eq d c) d after quiet (λ e. let x : true ≡ false = heard e in absurd cc) k.1)
  holds_at d after (places.Nothing quiet) heard k = rests_now (bytes_eq d c) d after quiet (λ e. let x : true ≡ false = heard e in absurd cc) k
  holds_at d after (places.Found q id owner g) heard k = k

pub notice_knows : NoticeKnows
notice_knows workers me n c found g slot kind next h s tells is order whole fits holds =
    subst (λ (l : List Event). AllByRecursion (PlacesHold workers me l) (notice_after c found s).shelf) (written_is me Answered next (notice_facts c found s) (Took me (owner_of workers c) n kind ∷ h)) at_end
  where
    took : List Event
    took = Took me (owner_of workers c) n kind ∷ h

    news : News
    news = news_of found

    late : (d : List ℕ) (after : Id) (quiet : Quiet) → bytes_eq d c ≡ false → RestsAt workers me d after (Nothing quiet.q quiet.floor) h → RestsAt workers me d after (Nothing quiet.q quiet.floor) (written me Answered next (notice_facts c found s) (Took me (owner_of workers c) n kind ∷ h))
    late d after quiet other k =
        place_written workers me d after (places.Nothing quiet) me Answered next (notice_facts c found s) (Took me (owner_of workers c) n kind ∷ h)
        (take_keeps workers me d after (Nothing quiet.q quiet.floor) (owner_of workers c) n kind (Notice c (news_of found).id g slot) h is
        (λ _. unlike c d (λ e. let x : true ≡ false = sym (name_self c) ∙ ap (λ (m : List ℕ). bytes_eq m c) (sym e) ∙ other in absurd cc)) k)

    found_late : (d : List ℕ) (after : Id) (q : ℕ) (id : Id) → RestsAt workers me d after (Finds q id) h → RestsAt workers me d after (Finds q id) (written me Answered next (notice_facts c found s) (Took me (owner_of workers c) n kind ∷ h))
    found_late d after q id k = place_written workers me d after (places.Found q id 0 0) me Answered next (notice_facts c found s) (Took me (owner_of workers c) n kind ∷ h) (found_stays workers me d after q id (Took me (owner_of workers c) n kind) h k)

    asked_late : (number : ℕ) (d : List ℕ) (after : Id) → HasAsk number d after (own me h) → HasAsk number d after (own me (written me Answered next (notice_facts c found s) (Took me (owner_of workers c) n kind ∷ h)))
    asked_late number d after k = (place_written workers me d after (places.Asked number None) me Answered next (notice_facts c found s) (Took me (owner_of workers c) n kind ∷ h) (ask_more me number d after (Took me (owner_of workers c) n kind) h k, tt)).0

    -- what rested on an answer of nothing is now what the notice brings
    good : (after : Id) (quiet : Quiet) → RestedBy workers me c h (written me Answered next (notice_facts c found s) (Took me (owner_of workers c) n kind ∷ h)) (bytes_eq c c) c after quiet → is_past (news_of found).id after ≡ true
        → RestsAt workers me c after (Finds quiet.q (news_of found).id) (written me Answered next (notice_facts c found s) (Took me (owner_of workers c) n kind ∷ h))
    good after quiet rested past =
        place_written workers me c after (places.Found quiet.q (news_of found).id 0 0) me Answered next (notice_facts c found s) (Took me (owner_of workers c) n kind ∷ h)
        (subst (λ (b : Bool). HeardHolds workers me c after (places.Nothing quiet) (notice_says (news_of found) b (places.Nothing quiet)) (Took me (owner_of workers c) n kind ∷ h)) past
        (place_notices workers me c after (places.Nothing quiet) (news_of found) g slot n kind h tells is
        (subst (λ (b : Bool). RestedBy workers me c h (written me Answered next (notice_facts c found s) (Took me (owner_of workers c) n kind ∷ h)) b c after quiet) (name_self c) rested)))

    at_end : AllByRecursion (PlacesHold workers me (written me Answered next (notice_facts c found s) (Took me (owner_of workers c) n kind ∷ h))) (notice_after c found s).shelf
    at_end =
        let l : List Event = written me Answered next (notice_facts c found s) (Took me (owner_of workers c) n kind ∷ h) in
        let kept = (knowing-kept (Was workers me l) (RestedHere workers me c h l) (Came workers me l)).notice c (news_of found) (board_of s) good
        (λ w. all-changed (PlacesHold workers me h) (IsKnowing (Was workers me l) (RestedHere workers me c h l) (Came workers me l)) s.shelf (λ x k j lt. knows_at workers me c h l late found_late asked_late _ _ _ (k j lt)) holds)
        (all_were workers me Answered (RestedHere workers me c h l) (Came workers me l) next (notice_facts c found s) (Took me (owner_of workers c) n kind ∷ h)) in
        let heard = all-heard.notice c (news_of found) (board_of s) order whole in
        let new_whole = whole-kept.notice c (news_of found) (board_of s) tt whole in
        let shelf : List SpoolAt = (notice_after c found s).shelf in
        all-changed (λ (x : SpoolAt). IsKnowing (Was workers me l) (RestedHere workers me c h l) (Came workers me l) x × ((Heard c x × IsWhole x) × SpoolFits x)) (PlacesHold workers me l) shelf
        (λ x k j lt. holds_at workers me c h l _ _ _ (λ e. heard_place c x j k.1.0.0 k.1.1.distinct (omega (arith, lt, k.1.0.1)) e) (k.0 j lt))
        (all_both (IsKnowing (Was workers me l) (RestedHere workers me c h l) (Came workers me l)) (λ (x : SpoolAt). (Heard c x × IsWhole x) × SpoolFits x) shelf kept
        (all_both (λ (x : SpoolAt). Heard c x × IsWhole x) SpoolFits shelf (all_both (Heard c) IsWhole shelf heard new_whole) fits))
