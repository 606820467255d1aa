-- Of which message a granted hold is: it was stored in the slot, and the slot wasn't freed until the hold was granted.
use Rattle.std.proofs.Common.{◌≡◌, ◌⊎◌, inl, inr, ℕ, Bool, true, false, cond, List, [], ◌∷◌, ◌++◌, Some, None, refl, sym, ap, ◌∙◌, subst, drop}
use Rattle.std.specs.Prelude.{◌==◌, ◌&&◌}
use Rattle.std.specs.List.{AllByRecursion}
use Rattle.nc_types.specs.Id.{Id}
use Rattle.nc_types.specs.Channel.{owner_of}
use Rattle.nc_journal.specs.History.{own, onto, is_by, Along}
use Rattle.nc_journal.specs.Holding.{CarriesHold}
use Rattle.nc_journal.specs.declared.event.Event.{Event}
use Rattle.nc_journal.specs.declared.event.Event.TheVariants.{Stored, Looked, Granted, Freed, Made, Took}
use Rattle.nc_journal.specs.declared.alert.AlertLine.{AlertLine}
use Rattle.nc_journal.specs.declared.alert.AlertLine.TheVariants as lines
use Rattle.nc_history.specs.Packets.{Packet, packet, pending}
use Rattle.nc_rests.specs.Asking.{HasAsk, AreAsked}
use Rattle.nc_world_laws.proofs.Local.{eqb_self, eq_of, all_append, all_of}
use Rattle.nc_world_owners.specs.ByOwner.{IsByChannelOwner}
use Rattle.nc_world_owners.proofs.Gluing.{along_rest, along_head}

-- a test of two numbers, by their order
other_order : (v w : ℕ) → (v == w) ≡ false → (w == v) ≡ false
other_order v w e = by (w == v) refl
  where
    by : (b : Bool) → (w == v) ≡ b → b ≡ false
    by true i = let clash : true ≡ false = sym (ap (λ (z : ℕ). v == z) (eq_of w v i) ∙ eqb_self v) ∙ e in absurd cc
    by false i = refl

pub not_first : (a b : Bool) → a ≡ false → (a && b) ≡ false
not_first true b e = absurd cc
not_first false b e = refl

pub not_second : (a b : Bool) → b ≡ false → (a && b) ≡ false
not_second true b e = e
not_second false b e = refl

-- owner o stored a message of a channel in a slot, and didn't free the slot since
module _ (o slot : ℕ) (c : List ℕ) (id : Id) where
  abbrev pub IsStored : List Event → Type 0
  IsStored [] = ⊥
  IsStored (Stored w d m s len exp kept members from r ct body ∷ h) = ((w ≡ o) × (d ≡ c) × (m ≡ id) × (s ≡ slot)) ⊎ IsStored h
  IsStored (Freed w s ∷ h) = (((w == o) && (s == slot)) ≡ false) × IsStored h
  IsStored (e ∷ h) = IsStored h

-- behind that it granted worker `to` a hold of that number; the alert of a number that carries it was made behind that; and that alert was taken
module _ (o g slot to : ℕ) (c : List ℕ) (id : Id) where
  abbrev pub IsGranted : List Event → Type 0
  IsGranted [] = ⊥
  IsGranted (Granted v n s u ∷ h) = ((v ≡ o) × (n ≡ g) × (s ≡ slot) × (u ≡ to) × IsStored o slot c id h) ⊎ IsGranted h
  IsGranted (e ∷ h) = IsGranted h

  abbrev pub IsMade : ℕ → List Event → Type 0
  IsMade n [] = ⊥
  IsMade n (Made v u m a ∷ h) = ((v ≡ o) × (u ≡ to) × (m ≡ n) × CarriesHold g slot a × IsGranted h) ⊎ IsMade n h
  IsMade n (e ∷ h) = IsMade n h

  abbrev pub IsTaken : List Event → Type 0
  IsTaken [] = ⊥
  IsTaken (Took w from n kind ∷ h) = ((w ≡ to) × (from ≡ o) × IsMade n h) ⊎ IsTaken h
  IsTaken (e ∷ h) = IsTaken h

  made_one : (n : ℕ) (e : Event) (h : List Event) → IsMade n h → IsMade n (e ∷ h)
  made_one n (Made v u m a) h x = inr x
  made_one n e h x = x

  pub taken_one : (e : Event) (h : List Event) → IsTaken h → IsTaken (e ∷ h)
  taken_one (Took w from n kind) h x = inr x
  taken_one e h x = x

  pub taken_onto : (es h : List Event) → IsTaken h → IsTaken (onto es h)
  taken_onto [] h x = x
  taken_onto (e ∷ es) h x = taken_onto es (e ∷ h) (taken_one e h x)

-- owner o made a look of a number for a worker at a channel
module _ (o w number : ℕ) (c : List ℕ) where
  abbrev pub IsLooked : List Event → Type 0
  IsLooked [] = ⊥
  IsLooked (Looked v q u n d after floor found ∷ h) = ((v ≡ o) × (u ≡ w) × (n ≡ number) × (d ≡ c)) ⊎ IsLooked h
  IsLooked (e ∷ h) = IsLooked h

  looked_one : (e : Event) (h : List Event) → IsLooked h → IsLooked (e ∷ h)
  looked_one (Looked v q u n d after floor found) h x = inr x
  looked_one e h x = x

  -- it owns the channel
  pub looked_owner : (workers : ℕ) (h : List Event) → AllByRecursion (IsByChannelOwner workers) h → IsLooked h → o ≡ owner_of workers c
  looked_owner workers [] a x = absurd x
  looked_owner workers (Looked v q u n d after floor found ∷ h) a (inl x) = sym x.0 ∙ a.0 ∙ ap (owner_of workers) x.3
  looked_owner workers (Looked v q u n d after floor found ∷ h) a (inr x) = looked_owner workers h a.1 x
  looked_owner workers (e ∷ h) a x = looked_owner workers h a.1 x

  pub record Ask (asks : List Event) : Type 0 where
    pub after : Id
    pub has : HasAsk number c after asks

  -- and the worker asked for it
  pub looked_asked : (asks h : List Event) → AreAsked w asks (own o h) → IsLooked h → Ask asks
  looked_asked asks [] a x = absurd x
  looked_asked asks (Looked v q u n d after floor found ∷ h) a x = by (o == v) refl a x (looked_asked asks h)
    where
      by : (b : Bool) → (o == v) ≡ b → AreAsked w asks (cond b (Looked v q u n d after floor found ∷ own o h) (own o h)) → IsLooked (Looked v q u n d after floor found ∷ h) → (AreAsked w asks (own o h) → IsLooked h → Ask asks) → Ask asks
      by true i k (inl y) go = record { after = after; has = subst (λ (z : List ℕ). HasAsk number z after asks) y.3 (subst (λ (z : ℕ). HasAsk z d after asks) y.2 (k.0 y.1)) }
      by true i k (inr y) go = go k.1 y
      by false i k (inl y) go = let clash : true ≡ false = sym (ap (λ (z : ℕ). o == z) y.0 ∙ eqb_self o) ∙ i in absurd cc
      by false i k (inr y) go = go k y
  looked_asked asks (e ∷ h) a x = looked_asked asks h (rest (is_by o e) e (own o h) (λ y. y) a) x
    where
      rest : (b : Bool) (e : Event) (l : List Event) → (AreAsked w asks (e ∷ l) → AreAsked w asks l) → AreAsked w asks (cond b (e ∷ l) l) → AreAsked w asks l
      rest true e l f y = f y
      rest false e l f y = y

-- ---- what its local history tells of an owner, the whole history tells

either_way : (P : List Event → Type 0) (b : Bool) (e : Event) (l : List Event) → (P (e ∷ l) → P l) → P (cond b (e ∷ l) l) → P l
either_way P true e l f x = f x
either_way P false e l f x = x

module _ (o slot : ℕ) (c : List ℕ) (id : Id) where
  stored_whole : (h : List Event) → IsStored o slot c id (own o h) → IsStored o slot c id h
  stored_whole [] x = absurd x
  stored_whole (Stored w d m s len exp kept members from r ct body ∷ h) x = by (o == w) x (stored_whole h)
    where
      by : (b : Bool) → IsStored o slot c id (cond b (Stored w d m s len exp kept members from r ct body ∷ own o h) (own o h)) → (IsStored o slot c id (own o h) → IsStored o slot c id h) → IsStored o slot c id (Stored w d m s len exp kept members from r ct body ∷ h)
      by true (inl y) go = inl y
      by true (inr y) go = inr (go y)
      by false y go = inr (go y)
  stored_whole (Freed w s ∷ h) x = by (o == w) refl x (stored_whole h)
    where
      by : (b : Bool) → (o == w) ≡ b → IsStored o slot c id (cond b (Freed w s ∷ own o h) (own o h)) → (IsStored o slot c id (own o h) → IsStored o slot c id h) → IsStored o slot c id (Freed w s ∷ h)
      by true i y go = (y.0, go y.1)
      by false i y go = (not_first (w == o) (s == slot) (other_order o w i), go y)
  stored_whole (e ∷ h) x = stored_whole h (either_way (IsStored o slot c id) (is_by o e) e (own o h) (λ y. y) x)

module _ (o g slot to : ℕ) (c : List ℕ) (id : Id) where
  granted_whole : (h : List Event) → IsGranted o g slot to c id (own o h) → IsGranted o g slot to c id h
  granted_whole [] x = absurd x
  granted_whole (Granted v n s u ∷ h) x = by (o == v) x (granted_whole h)
    where
      by : (b : Bool) → IsGranted o g slot to c id (cond b (Granted v n s u ∷ own o h) (own o h)) → (IsGranted o g slot to c id (own o h) → IsGranted o g slot to c id h) → IsGranted o g slot to c id (Granted v n s u ∷ h)
      by true (inl y) go = inl (y.0, y.1, y.2, y.3, stored_whole o slot c id h y.4)
      by true (inr y) go = inr (go y)
      by false y go = inr (go y)
  granted_whole (e ∷ h) x = granted_whole h (either_way (IsGranted o g slot to c id) (is_by o e) e (own o h) (λ y. y) x)

module _ (o w number : ℕ) (c : List ℕ) where
  looked_whole : (h : List Event) → IsLooked o w number c (own o h) → IsLooked o w number c h
  looked_whole [] x = absurd x
  looked_whole (Looked v q u n d after floor found ∷ h) x = by (o == v) x (looked_whole h)
    where
      by : (b : Bool) → IsLooked o w number c (cond b (Looked v q u n d after floor found ∷ own o h) (own o h)) → (IsLooked o w number c (own o h) → IsLooked o w number c h) → IsLooked o w number c (Looked v q u n d after floor found ∷ h)
      by true (inl y) go = inl y
      by true (inr y) go = inr (go y)
      by false y go = inr (go y)
  looked_whole (e ∷ h) x = looked_whole h (either_way (IsLooked o w number c) (is_by o e) e (own o h) (λ y. y) x)

-- ---- the hold that an alert carries

-- an answer that brings a message has a hold of it, of the channel of its look
pub record LookGrants (v w number g slot : ℕ) (id : Id) (h : List Event) : Type 0 where
  pub chan : List ℕ
  pub looked : IsLooked v w number chan h
  pub granted : IsGranted v g slot w chan id h

-- so does a notice, of its channel
abbrev pub Grants : ℕ → ℕ → AlertLine → List Event → Type 0
Grants v w (lines.LookAnswer number q floor (Some id) (Some g) (Some slot)) h = LookGrants v w number g slot id h
Grants v w (lines.Notice c id g slot) h = IsGranted v g slot w c id h
Grants v w line h = Unit {0}

abbrev pub GrantsAt : List Event → Event → Type 0
GrantsAt h (Made v w n a) = Grants v w a h
GrantsAt h _ = Unit {0}

line_whole : (v w : ℕ) (a : AlertLine) (h : List Event) → Grants v w a (own v h) → Grants v w a h
line_whole v w (lines.LookAnswer number q floor (Some id) (Some g) (Some slot)) h x = record { chan = x.chan; looked = looked_whole v w number x.chan h x.looked; granted = granted_whole v g slot w x.chan id h x.granted }
line_whole v w (lines.LookAnswer number q floor (Some id) (Some g) None) h x = tt
line_whole v w (lines.LookAnswer number q floor (Some id) None slot) h x = tt
line_whole v w (lines.LookAnswer number q floor None g slot) h x = tt
line_whole v w (lines.Notice c id g slot) h x = granted_whole v g slot w c id h x
line_whole v w a h x = tt

-- so it is of a whole history, where it is of each local one
pub grants_whole : (h : List Event) → ((v : ℕ) → Along GrantsAt (own v h)) → Along GrantsAt h
grants_whole [] k = tt
grants_whole (Made v w n a ∷ h) k =
    (grants_whole h (λ x. along_rest GrantsAt (x == v) (Made v w n a) (own x h) (k x)), line_whole v w a h (along_head GrantsAt (v == v) (Made v w n a) (own v h) (eqb_self v) (k v)))
grants_whole (e ∷ h) k = (grants_whole h (λ x. along_rest GrantsAt (is_by x e) e (own x h) (k x)), tt)

-- ---- what is pending brings

pub record LookBrings (v w n number g slot : ℕ) (id : Id) (h : List Event) : Type 0 where
  pub chan : List ℕ
  pub looked : IsLooked v w number chan h
  pub made : IsMade v g slot w chan id n h

abbrev pub Brings : ℕ → ℕ → ℕ → AlertLine → List Event → Type 0
Brings v w n (lines.LookAnswer number q floor (Some id) (Some g) (Some slot)) h = LookBrings v w n number g slot id h
Brings v w n (lines.Notice c id g slot) h = IsMade v g slot w c id n h
Brings v w n line h = Unit {0}

abbrev pub PacketBrings : ℕ → ℕ → List Event → Packet → Type 0
PacketBrings v w h p = Brings v w p.number p.line h

brings_one : (v w n : ℕ) (a : AlertLine) (e : Event) (h : List Event) → Brings v w n a h → Brings v w n a (e ∷ h)
brings_one v w n (lines.LookAnswer number q floor (Some id) (Some g) (Some slot)) e h x = record { chan = x.chan; looked = looked_one v w number x.chan e h x.looked; made = made_one v g slot w x.chan id n e h x.made }
brings_one v w n (lines.LookAnswer number q floor (Some id) (Some g) None) e h x = tt
brings_one v w n (lines.LookAnswer number q floor (Some id) None slot) e h x = tt
brings_one v w n (lines.LookAnswer number q floor None g slot) e h x = tt
brings_one v w n (lines.Notice c id g slot) e h x = made_one v g slot w c id n e h x
brings_one v w n a e h x = tt

brings_new : (v w n : ℕ) (a : AlertLine) (h : List Event) → Grants v w a h → Brings v w n a (Made v w n a ∷ h)
brings_new v w n (lines.LookAnswer number q floor (Some id) (Some g) (Some slot)) h x = record { chan = x.chan; looked = x.looked; made = inl (refl, refl, refl, (refl, refl), x.granted) }
brings_new v w n (lines.LookAnswer number q floor (Some id) (Some g) None) h x = tt
brings_new v w n (lines.LookAnswer number q floor (Some id) None slot) h x = tt
brings_new v w n (lines.LookAnswer number q floor None g slot) h x = tt
brings_new v w n (lines.Notice c id g slot) h x = inl (refl, refl, refl, (refl, refl), x)
brings_new v w n a h x = tt

all_one : (v w : ℕ) (e : Event) (h : List Event) (ps : List Packet) → AllByRecursion (PacketBrings v w h) ps → AllByRecursion (PacketBrings v w (e ∷ h)) ps
all_one v w e h ps a = all_of (PacketBrings v w h) (PacketBrings v w (e ∷ h)) (λ p x. brings_one v w p.number p.line e h x) ps a

pub pending_brings : (v w : ℕ) (h : List Event) → Along GrantsAt h → AllByRecursion (PacketBrings v w h) (pending v w h)
pending_brings v w [] k = tt
pending_brings v w (Made x y n a ∷ h) k = by (v == x) (w == y) refl refl (all_one v w (Made x y n a) h (pending v w h) (pending_brings v w h k.0))
  where
    new : v ≡ x → w ≡ y → Brings v w n a (Made x y n a ∷ h)
    new i j = subst (λ (z : ℕ). Brings v w n a (Made z y n a ∷ h)) i (subst (λ (z : ℕ). Brings v w n a (Made v z n a ∷ h)) j
        (brings_new v w n a h (subst (λ (z : ℕ). Grants z w a h) (sym i) (subst (λ (z : ℕ). Grants x z a h) (sym j) k.1))))

    by : (b d : Bool) → (v == x) ≡ b → (w == y) ≡ d → AllByRecursion (PacketBrings v w (Made x y n a ∷ h)) (pending v w h)
        → AllByRecursion (PacketBrings v w (Made x y n a ∷ h)) (cond (b && d) (pending v w h ++ packet n a ∷ []) (pending v w h))
    by true true i j q = all_append (PacketBrings v w (Made x y n a ∷ h)) (pending v w h) (packet n a ∷ []) q (new (eq_of v x i) (eq_of w y j), tt)
    by true false i j q = q
    by false d i j q = q
pending_brings v w (Took y x n kind ∷ h) k = by ((v == x) && (w == y)) (pending v w h) (all_one v w (Took y x n kind) h (pending v w h) (pending_brings v w h k.0))
  where
    by : (b : Bool) (ps : List Packet) → AllByRecursion (PacketBrings v w (Took y x n kind ∷ h)) ps → AllByRecursion (PacketBrings v w (Took y x n kind ∷ h)) (cond b (drop 1 ps) ps)
    by true [] a = tt
    by true (p ∷ ps) a = a.1
    by false ps a = a
pending_brings v w (e ∷ h) k = all_one v w e h (pending v w h) (pending_brings v w h k.0)
