-- The look of an awaited place was made, so it or its answer is on its way.
use Rattle.std.proofs.Common.{◌≡◌, ◌⊎◌, inl, inr, ℕ, zero, suc, ◌+◌, ◌<◌, ◌≤◌, Bool, true, false, cond, List, [], ◌∷◌, ◌++◌, Option, Some, refl, sym, ap, ◌∙◌, subst, length, slice_get, nat_lt, arith}
use Rattle.std.specs.Prelude.{◌==◌}
use Rattle.std.specs.List.{AllByRecursion}
use Rattle.std.proofs.lemmas.Bool.Decides.{nat_tests}
use Rattle.nc_types.specs.Id.{Id}
use Rattle.nc_types.specs.Cursor.{cursor_id}
use Rattle.nc_journal.specs.History.{own}
use Rattle.nc_journal.specs.declared.event.Event.{Event}
use Rattle.nc_journal.specs.declared.event.Event.TheVariants.{Made}
use Rattle.nc_journal.specs.declared.alert.AlertLine.{AlertLine}
use Rattle.nc_journal.specs.declared.alert.AlertLine.TheVariants.{Look}
use Rattle.nc_owner_laws.specs.Wake.{made_to}
use Rattle.nc_spool_state.specs.declared.place.Quiet.{Quiet}
use Rattle.nc_spool_state.specs.declared.place.Place.{Place}
use Rattle.nc_spool_state.specs.declared.place.Place.TheVariants.{Asked, Nothing, Found}
use Rattle.nc_spool_state.specs.Spool.{SpoolAt}
use Rattle.nc_spool_laws.specs.Numbers.{one, total, look_at, looks_of}
use Rattle.nc_history.specs.Packets.{pending, sent_lines, received, lines_of}
use Rattle.nc_history.proofs.Prefixes.{taken_is_prefix}
use Rattle.nc_worker_state.specs.Setup.{Setup}
use Rattle.nc_world.specs.World.{World}
use Rattle.nc_world.specs.Reached.{IsSetup, Reached}
use Rattle.nc_world_laws.proofs.Local.{eqb_self}
use Rattle.nc_world_laws.proofs.Frames.{made_sent}
use Rattle.nc_rests.specs.Asking.{HasAsk}
use Rattle.nc_rests.specs.Places.{PlaceHolds}
use Rattle.nc_rests.proofs.Lists.{at_length}
use Rattle.nc_world_told.specs.Known.{SpoolKnows}
use Rattle.nc_world_told.proofs.Written.{spool_holds}
use Rattle.nc_world_holds.specs.Balance.{one_if}
use Rattle.nc_world_places.specs.Places.{shelf_at}
use Rattle.nc_world_places.proofs.Reaching.{reached_spools_know}
use Rattle.nc_world_looks.specs.Looks.{looking, looked, weigh}
use Rattle.nc_world_looks.proofs.Making.{weigh_append}
use Rattle.nc_world_looks.proofs.Answering.{looks_are_answered}
use Rattle.nc_world_awaits.specs.Awaits.{awaiting, IsOnItsWay, LooksComeBack}
use Rattle.nc_world_awaits.proofs.Taking.{awaited_is_unanswered}

module _ (n : ℕ) where
  -- a place that awaits the look
  record AskedAt (places : List Place) : Type 0 where
    j : ℕ
    earlier : Option Quiet
    at : slice_get places j ≡ Some (Asked n earlier)

  asked_at : (places : List Place) → 1 ≤ total (look_at n) places → AskedAt places
  asked_at [] some = absurd (omega (arith, some))
  asked_at (Nothing quiet ∷ places) some = let k = asked_at places (omega (arith, some)) in record { j = suc k.j; earlier = k.earlier; at = k.at }
  asked_at (Found q id owner g ∷ places) some = let k = asked_at places (omega (arith, some)) in record { j = suc k.j; earlier = k.earlier; at = k.at }
  asked_at (Asked m earlier ∷ places) some = by (m == n) refl some (asked_at places)
    where
      same : (m == n) ≡ true → m ≡ n
      same e = grind (arith, nat_tests)

      by : (b : Bool) → (m == n) ≡ b → 1 ≤ one b + total (look_at n) places → (1 ≤ total (look_at n) places → AskedAt places) → AskedAt (Asked m earlier ∷ places)
      by true e some rest = record { j = 0; earlier = earlier; at = ap (λ (z : ℕ). Some (Asked z earlier)) (same e) }
      by false e some rest = let k = rest (omega (arith, some)) in record { j = suc k.j; earlier = k.earlier; at = k.at }

  -- a look that was made was made for somebody
  record Asker (l : List Event) : Type 0 where
    to : ℕ
    some : 1 ≤ weigh (looking n) (made_to to l)

  made_case : (b : Bool) (xs : List AlertLine) (a : AlertLine) → weigh (looking n) xs ≤ weigh (looking n) (cond b (xs ++ a ∷ []) xs)
  made_case true xs a = omega (arith, weigh_append (looking n) xs (a ∷ []))
  made_case false xs a = omega arith

  made_rises : (to : ℕ) (e : Event) (l : List Event) → weigh (looking n) (made_to to l) ≤ weigh (looking n) (made_to to (e ∷ l))
  made_rises to (Made v x m a) l = made_case (x == to) (made_to to l) a
  made_rises to e l = omega arith

  later : (e : Event) (l : List Event) → Asker l → Asker (e ∷ l)
  later e l k = let some = k.some in record { to = k.to; some = omega (arith, some, made_rises k.to e l) }

  made_now : (x m : ℕ) (c : List ℕ) (a : Id) (fence : ℕ) (xs : List AlertLine) → m ≡ n → 1 ≤ weigh (looking n) (cond (x == x) (xs ++ Look m c a fence ∷ []) xs)
  made_now x m c a fence xs same =
      subst (λ (b : Bool). 1 ≤ weigh (looking n) (cond b (xs ++ Look m c a fence ∷ []) xs)) (sym (eqb_self x))
      (let one = ap one_if (ap (λ (z : ℕ). z == n) same ∙ eqb_self n) in omega (arith, one, weigh_append (looking n) xs (Look m c a fence ∷ [])))

  asker : (c : List ℕ) (after : Id) (l : List Event) → HasAsk n c after l → Asker l
  asker c after [] has = absurd has
  asker c after (Made v x k (Look m d a fence) ∷ l) (inl is) = record { to = x; some = made_now x m d a fence (made_to x l) is.0 }
  asker c after (Made v x k (Look m d a fence) ∷ l) (inr has) = later (Made v x k (Look m d a fence)) l (asker c after l has)
  asker c after (e ∷ l) has = later e l (asker c after l has)

  module _ (setup : Setup) (h : List Event) (world : World) (is : IsSetup setup) (reached : Reached setup h world) (w : ℕ) where
    spool_asks : (s : SpoolAt) → SpoolKnows setup.workers w s h → 1 ≤ looks_of n s → Asker (own w h)
    spool_asks s k some =
        let place = asked_at s.places some in
        let holds = spool_holds setup.workers w s h k in
        let name = at_length s.places s.key.list place.j (Asked n place.earlier) (sym k.each) place.at in
        asker name.0 (cursor_id s.key.cursor place.j) (own w h) (holds.holds place.j name.0 (Asked n place.earlier) name.1 place.at).0

    shelf_asks : (shelf : List SpoolAt) → AllByRecursion (λ s. SpoolKnows setup.workers w s h) shelf → 1 ≤ total (looks_of n) shelf → Asker (own w h)
    shelf_asks [] know some = absurd (omega (arith, some))
    shelf_asks (s ∷ shelf) know some = by (looks_of n s) refl (shelf_asks shelf know.1)
      where
        by : (m : ℕ) → looks_of n s ≡ m → (1 ≤ total (looks_of n) shelf → Asker (own w h)) → Asker (own w h)
        by zero e rest = rest (omega (arith, e, some))
        by (suc m) e rest = spool_asks s know.0 (omega (arith, e))

    either_some : (a b : ℕ) → 1 ≤ a + b → (1 ≤ a) ⊎ (1 ≤ b)
    either_some zero b some = inr (omega (arith, some))
    either_some (suc a) b some = inl (omega arith)

    pub on_its_way : 1 ≤ awaiting n (shelf_at world w) → IsOnItsWay w n h
    on_its_way some =
        let k = shelf_asks (shelf_at world w) (reached_spools_know setup h world is reached w) some in
        let asked = k.some in
        let same = ap (weigh (looking n)) (made_sent w k.to h) in
        let all = looks_are_answered setup h world is reached w k.to n in
        let none = awaited_is_unanswered setup h world is reached w k.to n some in
        let taken = ap (weigh (looked n)) (taken_is_prefix k.to w h) in
        let parts = weigh_append (looked n) (received k.to w h) (lines_of (pending k.to w h)) in
        record { owner = k.to; pends = either_some (weigh (looking n) (lines_of (pending w k.to h))) (weigh (looked n) (lines_of (pending k.to w h))) (omega (arith, asked, same, all, none, taken, parts)) }

pub looks_come_back : LooksComeBack
looks_come_back setup h world is reached w n some = on_its_way n setup h world is reached w some
