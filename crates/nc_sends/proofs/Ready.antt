-- A spool that is ready sends lawfully.
use Rattle.std.proofs.Common.{◌≡◌, inl, inr, ℕ, zero, suc, ◌≤◌, List, [], ◌∷◌, map, slice_get, Option, None, Some, refl, sym, ap, ◌∙◌, subst, arith}
use Rattle.std.specs.List.{AllByRecursion}
use Rattle.std.proofs.lemmas.Bool.{cases_eq}
use Rattle.std.proofs.lemmas.List.{length-map}
use Rattle.nc_types.specs.Id.{Id}
use Rattle.nc_types.specs.Cursor.{moved, cursor_id}
use Rattle.nc_types.specs.Channel.{owner_of}
use Rattle.nc_journal.specs.History.{Along, own}
use Rattle.nc_journal.specs.Stamp.{floor_of}
use Rattle.nc_journal.specs.Message.{published}
use Rattle.nc_journal.specs.Sending.{RestsOnLook, HasId}
use Rattle.nc_journal.specs.declared.event.Event.{Event}
use Rattle.nc_journal.specs.declared.event.Event.TheVariants.{Looked}
use Rattle.nc_journal.specs.declared.alert.AlertLine.{AlertLine}
use Rattle.nc_journal.specs.declared.alert.AlertLine.TheVariants as lines
use Rattle.nc_owner_laws.specs.InOrder.{TellsThen, LooksAt}
use Rattle.nc_owner_laws.proofs.Stamping.{floor_step}
use Rattle.nc_history.specs.Packets.{received}
use Rattle.nc_rests.specs.Came.{HasAnswer, HasNoticeBehind, CameBy}
use Rattle.nc_rests.specs.Owners.{IsByOwner, Owners}
use Rattle.nc_rests.specs.Rests.{Rest, Nothing, Found, look_of, RestsAt}
use Rattle.nc_rests.proofs.Heard.{nothing_answered}
use Rattle.nc_rests.proofs.Histories.{along_at}
use Rattle.nc_rests.proofs.Lists.{all_at, at_length, all_by}
use Rattle.nc_rests.proofs.Locals.{published_own}
use Rattle.nc_rests.proofs.Stamps.{floor_append, floor_above}
use Rattle.nc_sends.specs.Chosen.{IsReady, SpoolsSend}
use Rattle.nc_sends.specs.Taken.{HasLookAnswer}
use Rattle.nc_sends.proofs.InWhole.{found_in, found_published}
use Rattle.nc_sends.proofs.Resting.{place_sends}
use Rattle.nc_sends.proofs.Spared.{has_all}

-- ---- fences

found_floor : (workers : ℕ) (d : List ℕ) (m : Id) (h : List Event) → AllByRecursion (IsByOwner workers) h → HasId (published d h) m → m.time ≤ floor_of (own (owner_of workers d) h)
found_floor workers d m h by there = has_all (λ z. z.time ≤ floor_of (own (owner_of workers d) h)) (published d (own (owner_of workers d) h)) m (floor_above d (own (owner_of workers d) h)) (subst (λ ms. HasId ms m) (sym (published_own workers d h by)) there)

rest_fence : (workers w time : ℕ) (d : List ℕ) (old : Id) (r : Rest) (h : List Event) → Owners workers h → IsReady time r → RestsAt workers w d old r h → time ≤ floor_of (own (owner_of workers d) h)
rest_fence workers w time d old (Nothing q floor) h g ready k =
    let o = owner_of workers d in
    let x = Looked o q w k.look.number d old floor None in
    let tells : TellsThen d old floor None k.look.seen = along_at LooksAt k.look.since x k.look.seen (subst (Along LooksAt) k.look.place (g.looks o)) in
    let rose : floor_of k.look.seen ≤ floor_of (own o h) = subst (λ (l : List Event). floor_of k.look.seen ≤ floor_of l) (sym k.look.place) (omega (arith, floor_append k.look.since (x ∷ k.look.seen), floor_step x k.look.seen)) in
    omega (arith, ready, rose, tells.floor_then)
rest_fence workers w time d old (Found q m) h g ready k =
    let below : m.time ≤ floor_of (own (owner_of workers d) h) = found_floor workers d m h g.by_owner (found_published workers w q d old m h (found_in workers w q d old m h g k.found)) in
    omega (arith, ready, below)

-- ---- answers that were taken

some_answer : (q : ℕ) (found : Option Id) (l : List AlertLine) → HasAnswer q found l → HasLookAnswer q l
some_answer q found [] has = absurd has
some_answer q found (lines.LookAnswer number p floor x g slot ∷ l) (inl is) = inl is.0
some_answer q found (lines.LookAnswer number p floor x g slot ∷ l) (inr has) = inr (some_answer q found l has)
some_answer q found (a ∷ l) has = some_answer q found l has

behind_answer : (q : ℕ) (c : List ℕ) (id : Id) (l : List AlertLine) → HasNoticeBehind q c id l → HasLookAnswer q l
behind_answer q c id [] has = absurd has
behind_answer q c id (lines.LookAnswer number p floor x g slot ∷ l) (inl is) = inl is.0
behind_answer q c id (lines.LookAnswer number p floor x g slot ∷ l) (inr has) = inr (behind_answer q c id l has)
behind_answer q c id (a ∷ l) has = behind_answer q c id l has

came_answer : (q : ℕ) (c : List ℕ) (id : Id) (l : List AlertLine) → CameBy q c id l → HasLookAnswer q l
came_answer q c id l (inl has) = some_answer q (Some id) l has
came_answer q c id l (inr has) = behind_answer q c id l has

-- the answer to the look that a place rests on was taken
rest_answered : (workers w : ℕ) (d : List ℕ) (old : Id) (r : Rest) (h : List Event) → RestsAt workers w d old r h → HasLookAnswer (look_of r) (received (owner_of workers d) w h)
rest_answered workers w d old (Nothing q floor) h k = some_answer q None (received (owner_of workers d) w h) (nothing_answered workers w q d old floor h k)
rest_answered workers w d old (Found q m) h k = came_answer q d m (received (owner_of workers d) w h) k.came

-- ---- the sent

pub mapped_at : (rests : List Rest) (j q : ℕ) → slice_get (map look_of rests) j ≡ Some q → (r : Rest) × (slice_get rests j ≡ Some r) × (look_of r ≡ q)
mapped_at [] j q at = absurd cc
mapped_at (r ∷ rests) zero q at = let same : look_of r ≡ q = cc in (r, refl, same)
mapped_at (r ∷ rests) (suc j) q at = mapped_at rests j q at

pub spools_send : SpoolsSend
spools_send workers w list old rests h g s i c id at_i x = record {
  sent = record {
    channel = at_i;
    past = (found_in workers w x.look c (cursor_id old i) id h g (s.rest i c (Found x.look id) at_i x.found).found).past;
    cursor = refl;
    looks_each = length-map rests look_of ∙ s.places;
    rests = λ j d q at_j look_j.
        let r = mapped_at rests j q look_j in
        subst (λ (n : ℕ). RestsOnLook workers w n c id d (cursor_id old j) (cursor_id (moved old i id) j) [] h) r.2 (place_sends workers w list old rests h g s i c id at_i x j d r.0 at_j r.1 (cases_eq j i));
  };
  fenced = all_by (λ d. id.time ≤ floor_of (own (owner_of workers d) h)) list (λ j d at_j.
      let r = at_length list rests j d s.places at_j in
      rest_fence workers w id.time d (cursor_id old j) r.0 h g (all_at (IsReady id.time) rests j r.0 x.ready r.1) (s.rest j d r.0 at_j r.1));
  taken = record {
    answers = λ j d q at_j look_j.
        let r = mapped_at rests j q look_j in
        subst (λ (n : ℕ). HasLookAnswer n (received (owner_of workers d) w h)) r.2 (rest_answered workers w d (cursor_id old j) r.0 h (s.rest j d r.0 at_j r.1));
    message = λ q look_i.
        let r = mapped_at rests i q look_i in
        let same : Some r.0 ≡ Some (Found x.look id) = sym r.1 ∙ x.found in
        let one : r.0 ≡ Found x.look id = cc in
        subst (λ (n : ℕ). CameBy n c id (received (owner_of workers c) w h)) (ap look_of (sym one) ∙ r.2) (s.rest i c (Found x.look id) at_i x.found).came;
  };
}
