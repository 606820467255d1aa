-- What the local histories tell together: the stamp rule and the buffers of the whole history.
use Rattle.std.proofs.Common.{◌≡◌, ℕ, ◌<◌, Bool, true, false, cond, not, List, [], ◌∷◌, ◌++◌, Option, refl, sym, ap, ◌∙◌, subst, filter}
use Rattle.std.specs.Prelude.{◌==◌, ◌&&◌, ◌||◌, bytes_eq}
use Rattle.std.specs.List.{AllByRecursion}
use Rattle.std.specs.Cmp.Lexicographic.{same_text}
use Rattle.nc_types.specs.Id.{Id, id_eq}
use Rattle.nc_types.specs.Channel.{owner_of}
use Rattle.nc_journal.specs.History.{own, is_by, Along}
use Rattle.nc_journal.specs.Stamp.{IsStamped, StampedAt, floor_of, stamp, last_of}
use Rattle.nc_journal.specs.Message.{Message, stored_message, published, lets_go, is_gone, buffer}
use Rattle.nc_journal.specs.Sending.{HasId}
use Rattle.nc_journal.specs.declared.event.Event.{Event}
use Rattle.nc_journal.specs.declared.event.Event.TheVariants.{Raised, Stored, Left, Removed}
use Rattle.nc_owner_laws.specs.Buffered.{LeavesStored}
use Rattle.nc_world_laws.proofs.Local.{eqb_self, eq_of, own_twice}

-- ---- what holds along each local history with an event more

pub along_rest : (P : List Event → Event → Type 0) (b : Bool) (e : Event) (l : List Event) → Along P (cond b (e ∷ l) l) → Along P l
along_rest P true e l a = a.0
along_rest P false e l a = a

pub along_head : (P : List Event → Event → Type 0) (b : Bool) (e : Event) (l : List Event) → b ≡ true → Along P (cond b (e ∷ l) l) → P l e
along_head P true e l i a = a.1
along_head P false e l i a = absurd cc

pub all_rest : (P : Event → Type 0) (b : Bool) (e : Event) (l : List Event) → AllByRecursion P (cond b (e ∷ l) l) → AllByRecursion P l
all_rest P true e l a = a.1
all_rest P false e l a = a

pub all_head : (P : Event → Type 0) (b : Bool) (e : Event) (l : List Event) → b ≡ true → AllByRecursion P (cond b (e ∷ l) l) → P e
all_head P true e l i a = a.0
all_head P false e l i a = absurd cc

module _ (workers : ℕ) where
  -- the stamp rule of each local history is that of the whole
  pub stamped_all : (h : List Event) → ((v : ℕ) → IsStamped workers (own v h)) → IsStamped workers h
  stamped_all [] k = tt
  stamped_all (Stored w c id slot len exp kept members from r ct body ∷ h) k =
      let e = Stored w c id slot len exp kept members from r ct body in
      let s = along_head (StampedAt workers) (w == w) e (own w h) (eqb_self w) (k w) in
      (stamped_all h (λ v. along_rest (StampedAt workers) (v == w) e (own v h) (k v)), record { owner = s.owner; stamped = s.stamped ∙ ap (stamp c) (own_twice w h); time = s.time })
  stamped_all (Raised w t ∷ h) k =
      (stamped_all h (λ v. along_rest (StampedAt workers) (v == w) (Raised w t) (own v h) (k v)), subst (λ (l : List Event). floor_of l < t) (own_twice w h) (along_head (StampedAt workers) (w == w) (Raised w t) (own w h) (eqb_self w) (k w)))
  stamped_all (Removed w c last cause ∷ h) k =
      let s = along_head (StampedAt workers) (w == w) (Removed w c last cause) (own w h) (eqb_self w) (k w) in
      (stamped_all h (λ v. along_rest (StampedAt workers) (v == w) (Removed w c last cause) (own v h) (k v)), record { owner = s.owner; is_last = s.is_last ∙ ap (last_of c) (own_twice w h) })
  stamped_all (e ∷ h) k = (stamped_all h (λ v. along_rest (StampedAt workers) (is_by v e) e (own v h) (k v)), tt)

  -- ---- the messages of a channel are its owner's

  pub same_owner : (w : ℕ) (d c : List ℕ) → w ≡ owner_of workers d → bytes_eq d c ≡ true → (owner_of workers c == w) ≡ true
  same_owner w d c o e = ap (λ z. owner_of workers c == z) (o ∙ ap (owner_of workers) (same_text d c (sym e))) ∙ eqb_self (owner_of workers c)

  abbrev Mine : (c : List ℕ) → List Event → Type 0
  Mine c h = published c h ≡ published c (own (owner_of workers c) h)

  stored_mine : (b n : Bool) (c d : List ℕ) (w : ℕ) (id : Id) (slot len exp : ℕ) (kept : Bool) (members from r : ℕ) (ct : Option (List ℕ)) (body : List ℕ) (ks : List Message) (l : List Event) → bytes_eq d c ≡ n → (n ≡ true → b ≡ true) → ks ≡ published c l
      → cond n (ks ++ stored_message id slot exp ct body ∷ []) ks ≡ published c (cond b (Stored w d id slot len exp kept members from r ct body ∷ l) l)
  stored_mine true true c d w id slot len exp kept members from r ct body ks l i t e = ap (λ (z : List Message). z ++ stored_message id slot exp ct body ∷ []) e ∙ ap (λ x. cond x (published c l ++ stored_message id slot exp ct body ∷ []) (published c l)) (sym i)
  stored_mine true false c d w id slot len exp kept members from r ct body ks l i t e = e ∙ ap (λ x. cond x (published c l ++ stored_message id slot exp ct body ∷ []) (published c l)) (sym i)
  stored_mine false true c d w id slot len exp kept members from r ct body ks l i t e = let z = t refl in absurd cc
  stored_mine false false c d w id slot len exp kept members from r ct body ks l i t e = e

  other_mine : (b : Bool) (c : List ℕ) (e : Event) (l : List Event) → published c (e ∷ l) ≡ published c l → published c l ≡ published c (cond b (e ∷ l) l)
  other_mine true c e l s = sym s
  other_mine false c e l s = refl

  pub published_own : (c : List ℕ) (h : List Event) → IsStamped workers h → published c h ≡ published c (own (owner_of workers c) h)
  published_own c [] s = refl
  published_own c (Stored w d id slot len exp kept members from r ct body ∷ h) s =
      stored_mine (owner_of workers c == w) (bytes_eq d c) c d w id slot len exp kept members from r ct body (published c h) (own (owner_of workers c) h) refl (same_owner w d c s.1.owner) (published_own c h s.0)
  published_own c (e ∷ h) s = published_own c h s.0 ∙ other_mine (is_by (owner_of workers c) e) c e (own (owner_of workers c) h) refl

  -- ---- who has stored there is the owner

  named : (n : Bool) (w u : ℕ) (c d : List ℕ) (m : Message) (ms : List Message) (id : Id) → bytes_eq d c ≡ n → u ≡ owner_of workers d → w ≡ u → HasId (cond n (ms ++ m ∷ []) ms) id → (HasId ms id → w ≡ owner_of workers c) → w ≡ owner_of workers c
  named true w u c d m ms id i o e y f = e ∙ o ∙ ap (owner_of workers) (same_text d c (sym i))
  named false w u c d m ms id i o e y f = f y

  pub stored_there : (w : ℕ) (c : List ℕ) (id : Id) (h : List Event) → IsStamped workers (own w h) → HasId (published c (own w h)) id → w ≡ owner_of workers c
  stored_there w c id [] s x = absurd x
  stored_there w c id (Stored u d m slot len exp kept members from r ct body ∷ h) s x =
      at (w == u) refl s x (stored_there w c id h)
    where
      at : (b : Bool) → (w == u) ≡ b → IsStamped workers (cond b (Stored u d m slot len exp kept members from r ct body ∷ own w h) (own w h)) → HasId (published c (cond b (Stored u d m slot len exp kept members from r ct body ∷ own w h) (own w h))) id
          → (IsStamped workers (own w h) → HasId (published c (own w h)) id → w ≡ owner_of workers c) → w ≡ owner_of workers c
      at true i t y f = named (bytes_eq d c) w u c d (stored_message m slot exp ct body) (published c (own w h)) id refl t.1.owner (eq_of w u i) y (f t.0)
      at false i t y f = f t y
  stored_there w c id (e ∷ h) s x = at (is_by w e) s x (stored_there w c id h)
    where
      at : (b : Bool) → IsStamped workers (cond b (e ∷ own w h) (own w h)) → HasId (published c (cond b (e ∷ own w h) (own w h))) id → (IsStamped workers (own w h) → HasId (published c (own w h)) id → w ≡ owner_of workers c) → w ≡ owner_of workers c
      at true t y f = f t.0 (subst (λ (l : List Message). HasId l id) refl y)
      at false t y f = f t y

  -- ---- what is gone

  gone_case : (b g : Bool) (c : List ℕ) (id : Id) (e : Event) (l : List Event) (x : Bool) → lets_go c id e ≡ g → (g ≡ true → b ≡ true) → x ≡ is_gone c id l → (g || x) ≡ is_gone c id (cond b (e ∷ l) l)
  gone_case true g c id e l x i t k = (λ j. sym i j || k j)
  gone_case false true c id e l x i t k = let z = t refl in absurd cc
  gone_case false false c id e l x i t k = k

  goes : (c : List ℕ) (id : Id) (h : List Event) (e : Event) → ((v : ℕ) → IsStamped workers (own v (e ∷ h))) → ((v : ℕ) → Along LeavesStored (own v (e ∷ h))) → lets_go c id e ≡ true → is_by (owner_of workers c) e ≡ true
  goes c id h (Stored w d m slot len exp kept members from r ct body) s k g = same_owner w d c (along_head (StampedAt workers) (w == w) (Stored w d m slot len exp kept members from r ct body) (own w h) (eqb_self w) (s w)).owner (part kept (bytes_eq d c) (id_eq m id) g)
    where
      part : (a b d : Bool) → (not a && (b && d)) ≡ true → b ≡ true
      part true b d g = absurd cc
      part false true d g = refl
      part false false d g = absurd cc
  goes c id h (Left w d m slot cause) s k g =
      let has = along_head LeavesStored (w == w) (Left w d m slot cause) (own w h) (eqb_self w) (k w) in
      same_owner w d c (stored_there w d m h (along_rest (StampedAt workers) (w == w) (Left w d m slot cause) (own w h) (s w)) has) (part (bytes_eq d c) (id_eq m id) g)
    where
      part : (b d : Bool) → (b && d) ≡ true → b ≡ true
      part true d g = refl
      part false d g = absurd cc
  goes c id h e s k g = absurd cc

  pub gone_own : (c : List ℕ) (id : Id) (h : List Event) → ((v : ℕ) → IsStamped workers (own v h)) → ((v : ℕ) → Along LeavesStored (own v h)) → is_gone c id h ≡ is_gone c id (own (owner_of workers c) h)
  gone_own c id [] s k = refl
  gone_own c id (e ∷ h) s k = gone_case (is_by (owner_of workers c) e) (lets_go c id e) c id e (own (owner_of workers c) h) (is_gone c id h) refl (goes c id h e s k)
      (gone_own c id h (λ v. along_rest (StampedAt workers) (is_by v e) e (own v h) (s v)) (λ v. along_rest LeavesStored (is_by v e) e (own v h) (k v)))

  -- the buffer of a channel is that of its owner's history
  pub buffer_own : (c : List ℕ) (h : List Event) → ((v : ℕ) → IsStamped workers (own v h)) → ((v : ℕ) → Along LeavesStored (own v h)) → buffer c h ≡ buffer c (own (owner_of workers c) h)
  buffer_own c h s k = (λ i. filter (λ m. not (gone_own c m.id h s k i)) (published_own c h (stamped_all h s) i))
