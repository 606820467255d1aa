-- Judgements that say one thing, or break one rule at one place.
use Rattle.std.proofs.Common.{◌≡◌, ℕ, Bool, true, false, inl, inr, subst, sym, ◌∙◌}
use Rattle.nc_script.specs.Judge.{Judge, IsSure, says, must, next, chosen}

pub says_sure : {X : Type 0} (x : X) → IsSure (says x)
says_sure x = record {
  one = λ y z h k. h ∙ sym k;
  either = λ y rule at h b. b;
  first = λ rule at other place b d. absurd b;
}

-- where one thing at most has the property
pub must_sure : {X : Type 0} (rule at : ℕ) (P : X → Type 0) → ((x y : X) → P x → P y → x ≡ y) → IsSure (must rule at P)
must_sure rule at P one = record {
  one = one;
  either = λ x r a h b. b.2 x h;
  first = λ r a s b h k. (h.0 ∙ sym k.0, h.1 ∙ sym k.1);
}

next_one : {X Y : Type 0} (first : Judge X) (second : X → Judge Y) → IsSure first → ((x : X) → IsSure (second x)) → (y z : Y) → (next first second).Says y → (next first second).Says z → y ≡ z
next_one {X} first second sure each y z h k =
    let same = sure.one h.0 k.0 h.1 k.1 in
    (each k.0).one y z (subst (λ (x : X). (second x).Says y) same h.2) k.2

next_either : {X Y : Type 0} (first : Judge X) (second : X → Judge Y) → IsSure first → ((x : X) → IsSure (second x)) → (y : Y) (rule at : ℕ) → (next first second).Says y → (next first second).Breaks rule at → ⊥
next_either first second sure each y rule at h (inl breaks) = sure.either h.0 rule at h.1 breaks
next_either {X} first second sure each y rule at h (inr (x, told, breaks)) =
    let same = sure.one h.0 x h.1 told in
    (each x).either y rule at (subst (λ (w : X). (second w).Says y) same h.2) breaks

next_first : {X Y : Type 0} (first : Judge X) (second : X → Judge Y) → IsSure first → ((x : X) → IsSure (second x)) → (rule at other place : ℕ) → (next first second).Breaks rule at → (next first second).Breaks other place → (rule ≡ other) × (at ≡ place)
next_first first second sure each rule at other place (inl b) (inl d) = sure.first rule at other place b d
next_first first second sure each rule at other place (inl b) (inr (x, told, d)) = absurd (sure.either x rule at told b)
next_first first second sure each rule at other place (inr (x, told, b)) (inl d) = absurd (sure.either x other place told d)
next_first {X} first second sure each rule at other place (inr (x, told, b)) (inr (y, said, d)) =
    let same = sure.one x y told said in
    (each y).first rule at other place (subst (λ (w : X). (second w).Breaks rule at) same b) d

pub next_sure : {X Y : Type 0} (first : Judge X) (second : X → Judge Y) → IsSure first → ((x : X) → IsSure (second x)) → IsSure (next first second)
next_sure first second sure each = record {
  one = next_one first second sure each;
  either = next_either first second sure each;
  first = next_first first second sure each;
}

pub chosen_sure : {X : Type 0} (b : Bool) (first second : Judge X) → IsSure first → IsSure second → IsSure (chosen b first second)
chosen_sure true first second h k = h
chosen_sure false first second h k = k
