-- Which messages a sent passes over for a reason.
use Rattle.std.proofs.Common.{◌≡◌, inl, inr, ℕ, ◌≤◌, ◌≤ℤ◌, pos, Bool, true, false, List, [], ◌∷◌, refl, sym, subst, arith}
use Rattle.std.specs.List.{AllByRecursion}
use Rattle.std.proofs.lemmas.Int.{ints}
use Rattle.nc_types.specs.Id.{Id, IsPast, is_past}
use Rattle.nc_journal.specs.Message.{Message}
use Rattle.nc_journal.specs.Sending.{IsSpared, HasId}
use Rattle.nc_journal.proofs.Ids.{past_of_test, not_past_of_test, past-trans}
use Rattle.nc_journal.proofs.Buffers.{IsBeside}
use Rattle.nc_sends.proofs.Moves.{IsBlank}

-- a message that was past the old cursor is past the new one where that didn't move
pub spared_same : (c : List ℕ) (id : Id) (d : List ℕ) (old : Id) (m : Message) → IsSpared c id d old old m
spared_same c id d old m = by (is_past m.id old) refl
  where
    by : (b : Bool) → is_past m.id old ≡ b → IsSpared c id d old old m
    by true is = inr (inr (past_of_test m.id old is))
    by false is = inr (inl (not_past_of_test m.id old is))

pub past_blank : (id new m : Id) → IsBlank id new → id.time ≤ m.time → pos 0 ≤ℤ m.tag → IsPast m new
past_blank id new m b le tag = grind (arith, ints)

pub beside_spared : (c : List ℕ) (id : Id) (d : List ℕ) (old m new : Id) (y : Message) → IsPast m new → IsBeside old m y → IsSpared c id d old new y
beside_spared c id d old m new y past (inl same) = inr (inr (subst (λ (z : Id). IsPast z new) (sym same) past))
beside_spared c id d old m new y past (inr (inl other)) = inr (inl other)
beside_spared c id d old m new y past (inr (inr later)) = inr (inr (past-trans new m y.id past later))

pub sent_spared : (c : List ℕ) (id : Id) (d : List ℕ) (old new : Id) (y : Message) → d ≡ c → new ≡ id → IsBeside old id y → IsSpared c id d old new y
sent_spared c id d old new y same at (inl is) = inl (same, is)
sent_spared c id d old new y same at (inr (inl other)) = inr (inl other)
sent_spared c id d old new y same at (inr (inr later)) = inr (inr (subst (λ (z : Id). IsPast y.id z) (sym at) later))

-- ---- messages of an id

-- what holds of each message holds of the one of an id
pub has_all : (P : Id → Type 0) (ms : List Message) (id : Id) → AllByRecursion (λ m. P m.id) ms → HasId ms id → P id
has_all P [] id all there = absurd there
has_all P (m ∷ ms) id all (inl same) = subst P same all.0
has_all P (m ∷ ms) id all (inr there) = has_all P ms id all.1 there
