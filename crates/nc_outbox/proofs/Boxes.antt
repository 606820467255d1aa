-- The boxes of receivers: one more is made, and one is written.
use Rattle.std.proofs.Common.{◌≡◌, ℕ, zero, suc, ◌+◌, ◌<◌, Bool, true, false, cond, List, [], ◌∷◌, ◌++◌, refl, sym, ◌∙◌, ap, length, get_or, set, inl, inr}
use Rattle.std.specs.Prelude.{◌==◌}
use Rattle.std.proofs.Math.Path.{fun_ext}
use Rattle.std.proofs.lemmas.List.{get_or-set_other, get_or_default}
use Rattle.std.proofs.lemmas.Grind.{get_or-set_at}
use Rattle.std.proofs.lemmas.Bool.Decides.{eqb_tells}
use Rattle.nc_alert.specs.declared.packet.Outgoing.{Outgoing}
use Rattle.nc_alert.specs.Packet.{packet_of}
use Rattle.nc_owner_laws.specs.Weave.{numbered}
use Rattle.nc_worker_state.specs.Worker.{with_at}
use Rattle.nc_outbox.specs.Box.{BoxAt, new_box, boxed}
use Rattle.nc_outbox.specs.Outboxes.{box_of, next_in, packets_in}

one_more : {X : Type 0} → (d : X) (xs : List X) (k : ℕ) → get_or (xs ++ d ∷ []) k d ≡ get_or xs k d
one_more d [] zero = refl
one_more d [] (suc k) = refl
one_more d (x ∷ xs) zero = refl
one_more d (x ∷ xs) (suc k) = one_more d xs k

-- what is read of one value that is another
abbrev read : {X Y : Type 0} → (X → Y) → (ℕ → X) → ℕ → Y
read f g v = f (g v)

part_at : {X Y : Type 0} → (f : X → Y) (g : ℕ → X) (x : X) (b : Bool) (v : ℕ) → f (cond b x (g v)) ≡ cond b (f x) (f (g v))
part_at f g x true v = refl
part_at f g x false v = refl

read_written : {X Y : Type 0} → (f : X → Y) (g : ℕ → X) (to : ℕ) (x : X) → read f (with_at g to x) ≡ with_at (read f g) to (f x)
read_written f g to x = fun_ext (λ v. part_at f g x (v == to) v)

-- the next number to one receiver is one more
number_written : (next : ℕ → ℕ) (to : ℕ) → with_at next to (next to + 1) ≡ numbered next to
number_written next to = fun_ext (λ v. elim (eqb_tells v to) [ inl same ↦ rw same.0 (ap (λ w. next w + 1) (sym same.1)) | inr apart ↦ rw apart.0 refl ])

module _ {H : Type 0} where
  pub one_box_more : (first : ℕ) (boxes : List (BoxAt H)) → box_of first (boxes ++ new_box first ∷ []) ≡ box_of first boxes
  one_box_more first boxes = fun_ext (one_more (new_box first) boxes)

  box_at : (first : ℕ) (boxes : List (BoxAt H)) (to v : ℕ) (x : BoxAt H) → to < length boxes → box_of first (set boxes to x) v ≡ with_at (box_of first boxes) to x v
  box_at first boxes to v x within =
      elim (eqb_tells v to) [
        | inl same ↦ rw same.0 (get_or-set_at boxes to v x (new_box first) same.1 within)
        | inr apart ↦ rw apart.0 (get_or-set_other boxes to v x (new_box first) apart.1)
      ]

  box_written : (first : ℕ) (boxes : List (BoxAt H)) (to : ℕ) (x : BoxAt H) → to < length boxes → box_of first (set boxes to x) ≡ with_at (box_of first boxes) to x
  box_written first boxes to x within = fun_ext (λ v. box_at first boxes to v x within)

  -- the box that is written is that of the receiver
  pub box_is : (first : ℕ) (old made : List (BoxAt H)) (place to : ℕ) (b : BoxAt H) → box_of first made ≡ box_of first old → place ≡ to → place < length made → b ≡ get_or made place b → b ≡ box_of first old to
  box_is first old made place to b same is within here = here ∙ (get_or_default made place b (new_box first) within ∙ (λ j. same j (is j)))

  -- a packet was put into the box of its receiver, which was made before
  pub put_written : (first : ℕ) (old made : List (BoxAt H)) (place from : ℕ) (b p : BoxAt H) (o : Outgoing H)
      → box_of first made ≡ box_of first old → place ≡ o.to → place < length made → b ≡ get_or made place b → p ≡ boxed from o b
      → box_of first (set made place p) ≡ with_at (box_of first old) o.to (boxed from o (box_of first old o.to))
  put_written first old made place from b p o same is within here put =
      box_written first made place p within
      ∙ (λ i. with_at (same i) (is i) ((put ∙ ap (boxed from o) (box_is first old made place o.to b same is within here)) i))

  pub put_next : (first : ℕ) (old new : List (BoxAt H)) (from : ℕ) (o : Outgoing H) → box_of first new ≡ with_at (box_of first old) o.to (boxed from o (box_of first old o.to))
      → next_in (box_of first new) ≡ numbered (next_in (box_of first old)) o.to
  put_next first old new from o is =
      ap next_in is ∙ (read_written (λ (b : BoxAt H). b.next) (box_of first old) o.to (boxed from o (box_of first old o.to)) ∙ number_written (next_in (box_of first old)) o.to)

  pub put_packets : (first : ℕ) (old new : List (BoxAt H)) (from : ℕ) (o : Outgoing H) → box_of first new ≡ with_at (box_of first old) o.to (boxed from o (box_of first old o.to))
      → packets_in (box_of first new) ≡ with_at (packets_in (box_of first old)) o.to (packets_in (box_of first old) o.to ++ packet_of from (next_in (box_of first old) o.to) o ∷ [])
  put_packets first old new from o is =
      ap packets_in is ∙ read_written (λ (b : BoxAt H). b.packets) (box_of first old) o.to (boxed from o (box_of first old o.to))
