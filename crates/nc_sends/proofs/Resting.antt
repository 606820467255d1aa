-- Each place of a spool that is ready rests on its look, as a lawful sent asks.
use Rattle.std.proofs.Common.{◌≡◌, ◌≢◌, ◌⊎◌, inl, inr, ℕ, ◌≤◌, ◌≤ℤ◌, pos, List, [], ◌∷◌, slice_get, Option, None, Some, refl, sym, ap, ◌∙◌, subst, arith}
use Rattle.std.specs.List.{AllByRecursion}
use Rattle.nc_types.specs.Id.{Id, IsPast}
use Rattle.nc_types.specs.Cursor.{moved, CursorAt, cursor_id}
use Rattle.nc_types.specs.Channel.{owner_of}
use Rattle.nc_journal.specs.History.{own}
use Rattle.nc_journal.specs.Stamp.{floor_of, IsStamped}
use Rattle.nc_journal.specs.Message.{Message, published, buffer, first_past}
use Rattle.nc_journal.specs.Sending.{IsSpared, RestsOnLook, HasId}
use Rattle.nc_journal.specs.declared.event.Event.{Event}
use Rattle.nc_journal.specs.declared.event.Event.TheVariants.{Looked}
use Rattle.nc_journal.proofs.Cuts.{all-weaker}
use Rattle.nc_journal.proofs.Buffers.{IsBeside, find-none}
use Rattle.nc_rests.specs.Owners.{Owners}
use Rattle.nc_rests.specs.Rests.{IsFound, AtLook, Behind, Rest, Nothing, Found, look_of, RestsAt}
use Rattle.nc_rests.specs.Spools.{IsSpool}
use Rattle.nc_rests.proofs.Lists.{all_at, same_name, at_within, distinct_at}
use Rattle.nc_rests.proofs.Stamps.{floor_later, IsFrom, later_from, have_tags}
use Rattle.nc_sends.specs.Chosen.{IsReady, IsChosen}
use Rattle.nc_sends.proofs.InWhole.{LookIn, look_in, option_none, FoundIn, found_in, found_published}
use Rattle.nc_sends.proofs.Moves.{IsBlank, moves_other, moves_here}
use Rattle.nc_sends.proofs.Spared.{spared_same, past_blank, beside_spared, sent_spared, has_all}

-- ---- a place where nothing was found

-- a place whose cursor doesn't move
rest_unmoved : (workers w q : ℕ) (c : List ℕ) (id : Id) (d : List ℕ) (old : Id) (floor : ℕ) (found : Option Id) (h newer : List Event) → d ≢ c → LookIn workers w q d old floor found h newer → RestsOnLook workers w q c id d old old [] h
rest_unmoved workers w q c id d old floor found h newer other k = record {
  since = k.since;
  look = Looked (owner_of workers d) q w k.number d old floor found;
  seen = k.seen;
  place = k.place;
  is_look = (refl, refl, refl, refl, refl);
  buffered = each (buffer d k.seen);
  later = each (published d k.since);
  found = λ same. absurd (other same);
}
  where
    each : (ms : List Message) → AllByRecursion (IsSpared c id d old old) ms
    each [] = tt
    each (m ∷ ms) = (spared_same c id d old m, each ms)

-- a place where nothing was found, and whose floor is fenced
rest_fenced : (workers w q : ℕ) (c : List ℕ) (id : Id) (d : List ℕ) (old new : Id) (floor : ℕ) (h newer : List Event) → IsStamped workers h → d ≢ c → LookIn workers w q d old floor None h newer → IsBlank id new → id.time ≤ floor → RestsOnLook workers w q c id d old new [] h
rest_fenced workers w q c id d old new floor h newer stamped other k blank le = record {
  since = k.since;
  look = Looked (owner_of workers d) q w k.number d old floor None;
  seen = k.seen;
  place = k.place;
  is_look = (refl, refl, refl, refl, refl);
  buffered = all-weaker (λ m. IsPast m.id old → ⊥) (IsSpared c id d old new) (λ m p. inr (inl p)) (buffer d k.seen) (find-none d old k.seen (option_none (first_past d old k.seen) k.first_then));
  later = all-weaker (IsFrom id.time) (IsSpared c id d old new) (λ m f. inr (inr (past_blank id new m.id blank f.0 f.1))) (published d k.since)
      (later_from workers d id.time k.since (Looked (owner_of workers d) q w k.number d old floor None ∷ k.seen) (subst (IsStamped workers) k.place stamped)
      (fence (floor_later (owner_of workers d) (Looked (owner_of workers d) q w k.number d old floor None ∷ []) k.seen)));
  found = λ same. absurd (other same);
}
  where
    fence : floor_of (own (owner_of workers d) k.seen) ≤ floor_of (own (owner_of workers d) (Looked (owner_of workers d) q w k.number d old floor None ∷ k.seen)) → id.time ≤ floor_of (own (owner_of workers d) (Looked (owner_of workers d) q w k.number d old floor None ∷ k.seen))
    fence rose = omega (arith, rose, le, k.floor_then)

-- ---- a place that found a message

-- a place that rests on a look with each message spared
rest_beside : (workers w q : ℕ) (c : List ℕ) (id : Id) (d : List ℕ) (old m new : Id) (h : List Event) → FoundIn workers w q d old m h → ((y : Message) → IsBeside old m y → IsSpared c id d old new y) → (d ≡ c → m ≡ id) → RestsOnLook workers w q c id d old new [] h
rest_beside workers w q c id d old m new h k spared named = record {
  since = k.since;
  look = k.look;
  seen = k.seen;
  place = k.place;
  is_look = k.is_look;
  buffered = all-weaker (IsBeside old m) (IsSpared c id d old new) spared (buffer d k.seen) k.buffered;
  later = all-weaker (IsBeside old m) (IsSpared c id d old new) spared (published d k.since) k.later;
  found = λ same. subst (λ (z : Id). HasId (buffer d k.seen) z ⊎ HasId (published d k.since) z) (named same) k.has;
}

tag_of : (workers : ℕ) (d : List ℕ) (m : Id) (h : List Event) → IsStamped workers h → HasId (published d h) m → pos 0 ≤ℤ m.tag
tag_of workers d m h stamped there = has_all (λ z. pos 0 ≤ℤ z.tag) (published d h) m (all-weaker (IsFrom 0) (λ y. pos 0 ≤ℤ y.id.tag) (λ y f. f.1) (published d h) (have_tags workers d h stamped)) there

-- ---- the places that send, that stay, and the others

-- a place that isn't the sending one and whose cursor moves
rest_other : (workers w : ℕ) (c : List ℕ) (id : Id) (d : List ℕ) (old new : Id) (r : Rest) (h : List Event) → Owners workers h → d ≢ c → IsBlank id new → IsReady id.time r → RestsAt workers w d old r h → RestsOnLook workers w (look_of r) c id d old new [] h
rest_other workers w c id d old new (Nothing q floor) h g other blank ready k = rest_fenced workers w q c id d old new floor h k.look.since g.stamped other (look_in workers w q d old floor None h g k.look) blank ready
rest_other workers w c id d old new (Found q m) h g other blank ready k =
    let f = found_in workers w q d old m h g k.found in
    let past : IsPast m new = past_blank id new m blank ready (tag_of workers d m h g.stamped (found_published workers w q d old m h f)) in
    rest_beside workers w q c id d old m new h f (λ y b. beside_spared c id d old m new y past b) (λ same. absurd (other same))

found_still : (workers w q : ℕ) (c : List ℕ) (id : Id) (d : List ℕ) (old m : Id) (h : List Event) → Owners workers h → d ≢ c → IsFound (owner_of workers d) w q d old m (own (owner_of workers d) h) → RestsOnLook workers w q c id d old old [] h
found_still workers w q c id d old m h g other (AtLook floor k) = rest_unmoved workers w q c id d old floor (Some m) h k.since other (look_in workers w q d old floor (Some m) h g k)
found_still workers w q c id d old m h g other (Behind floor k b past) = rest_unmoved workers w q c id d old floor None h k.since other (look_in workers w q d old floor None h g k)

-- one whose cursor doesn't move
rest_still : (workers w : ℕ) (c : List ℕ) (id : Id) (d : List ℕ) (old : Id) (r : Rest) (h : List Event) → Owners workers h → d ≢ c → RestsAt workers w d old r h → RestsOnLook workers w (look_of r) c id d old old [] h
rest_still workers w c id d old (Nothing q floor) h g other k = rest_unmoved workers w q c id d old floor None h k.look.since other (look_in workers w q d old floor None h g k.look)
rest_still workers w c id d old (Found q m) h g other k = found_still workers w q c id d old m h g other k.found

rest_apart : (workers w : ℕ) (c : List ℕ) (id : Id) (d : List ℕ) (old new : Id) (r : Rest) (h : List Event) → Owners workers h → d ≢ c → IsReady id.time r → RestsAt workers w d old r h → (new ≡ old) ⊎ IsBlank id new → RestsOnLook workers w (look_of r) c id d old new [] h
rest_apart workers w c id d old new r h g other ready k (inl same) = subst (λ (z : Id). RestsOnLook workers w (look_of r) c id d old z [] h) (sym same) (rest_still workers w c id d old r h g other k)
rest_apart workers w c id d old new r h g other ready k (inr blank) = rest_other workers w c id d old new r h g other blank ready k

-- the sending place
rest_sent : (workers w q : ℕ) (c : List ℕ) (id : Id) (d : List ℕ) (old new : Id) (h : List Event) → Owners workers h → d ≡ c → new ≡ id → RestsAt workers w d old (Found q id) h → RestsOnLook workers w q c id d old new [] h
rest_sent workers w q c id d old new h g same at k = rest_beside workers w q c id d old id new h (found_in workers w q d old id h g k.found) (λ y b. sent_spared c id d old new y same at b) (λ _. refl)

pub place_sends : (workers w : ℕ) (list : List (List ℕ)) (old : CursorAt) (rests : List Rest) (h : List Event) → Owners workers h → IsSpool workers w list old rests h → (i : ℕ) (c : List ℕ) (id : Id) → slice_get list i ≡ Some c → IsChosen i id rests
    → (j : ℕ) (d : List ℕ) (r : Rest) → slice_get list j ≡ Some d → slice_get rests j ≡ Some r → (j ≡ i) ⊎ (j ≢ i) → RestsOnLook workers w (look_of r) c id d (cursor_id old j) (cursor_id (moved old i id) j) [] h
place_sends workers w list old rests h g s i c id at_i x j d r at_j rest_j (inl is) =
    let same_rest : Some r ≡ Some (Found x.look id) = sym rest_j ∙ ap (slice_get rests) is ∙ x.found in
    let which : r ≡ Found x.look id = cc in
    let here : cursor_id (moved old i id) j ≡ id = ap (cursor_id (moved old i id)) is ∙ moves_here old i id (omega (arith, s.tags, at_within list i c at_i)) in
    subst (λ (y : Rest). RestsOnLook workers w (look_of y) c id d (cursor_id old j) (cursor_id (moved old i id) j) [] h) (sym which)
    (rest_sent workers w x.look c id d (cursor_id old j) (cursor_id (moved old i id) j) h g (same_name list i j c d at_i at_j is) here (subst (λ (y : Rest). RestsAt workers w d (cursor_id old j) y h) which (s.rest j d r at_j rest_j)))
place_sends workers w list old rests h g s i c id at_i x j d r at_j rest_j (inr other) =
    rest_apart workers w c id d (cursor_id old j) (cursor_id (moved old i id) j) r h g (distinct_at list i j c d s.distinct at_i at_j other) (all_at (IsReady id.time) rests j r x.ready rest_j) (s.rest j d r at_j rest_j) (moves_other old i j id other)
