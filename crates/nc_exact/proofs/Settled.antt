-- Each message of a channel was passed over for a reason by a sent, or was gone at its look.
use Rattle.std.proofs.Common.{◌≡◌, ◌⊎◌, inl, inr, ℕ, Bool, true, false, cond, not, List, [], ◌∷◌, ◌++◌, filter, refl, sym, ap, ◌∙◌, subst, true≢false}
use Rattle.std.specs.List.{AllByRecursion}
use Rattle.std.proofs.lemmas.List.{append-nil}
use Rattle.nc_types.specs.Id.{Id}
use Rattle.nc_types.specs.Cursor.{CursorAt}
use Rattle.nc_types.specs.Channel.{owner_of}
use Rattle.nc_journal.specs.Message.{Message, published, is_gone}
use Rattle.nc_journal.specs.Sending.{IsSpared, IsLook, RestsOnLook}
use Rattle.nc_journal.specs.declared.event.Event.{Event}
use Rattle.nc_journal.specs.declared.event.Event.TheVariants.{Looked, Sent}
use Rattle.nc_journal.proofs.Cuts.{all-weaker, all-append, all-left, all-right}
use Rattle.nc_journal.proofs.Buffers.{published-push, published-append}

all_unless : (test : Message → Bool) (P : Message → Type 0) (ms : List Message) → AllByRecursion P (filter test ms) → AllByRecursion (λ m. P m ⊎ (test m ≡ false)) ms
all_unless test P [] h = tt
all_unless test P (m ∷ ms) h = go (test m) refl (all_unless test P ms) h
  where
    go : (b : Bool) → test m ≡ b → (AllByRecursion P (filter test ms) → AllByRecursion (λ x. P x ⊎ (test x ≡ false)) ms) → AllByRecursion P (cond b (m ∷ filter test ms) (filter test ms)) → AllByRecursion (λ x. P x ⊎ (test x ≡ false)) (m ∷ ms)
    go true is rest k = (inl k.0, rest k.1)
    go false is rest k = (inr is, rest k)

not_false : (b : Bool) → not b ≡ false → b ≡ true
not_false true e = refl
not_false false e = absurd (true≢false e)

look_stores_nothing : (o w q : ℕ) (d : List ℕ) (after : Id) (look : Event) → IsLook o q w d after look → published d (look ∷ []) ≡ []
look_stores_nothing o w q d after (Looked v p u number c a floor found) is = refl
look_stores_nothing o w q d after look is = absurd is

-- a message is spared by a sent, or was gone at the look
abbrev pub IsSettled : List ℕ → Id → List ℕ → Id → Id → List Event → Message → Type 0
IsSettled c id d old new seen m = IsSpared c id d old new m ⊎ (is_gone d m.id seen ≡ true)

-- each message of the channel, whenever it is stored, is settled
pub settled : (workers w q k i : ℕ) (c : List ℕ) (id : Id) (cur : CursorAt) (looks : List ℕ) (d : List ℕ) (old new : Id) (newer older : List Event) → (r : RestsOnLook workers w q c id d old new newer older)
    → AllByRecursion (IsSettled c id d old new r.seen) (published d (newer ++ Sent w k i c id cur looks ∷ older))
settled workers w q k i c id cur looks d old new newer older r =
    let P = IsSettled c id d old new r.seen in
    let spared : (m : Message) → IsSpared c id d old new m → P m = λ m s. inl s in
    let later : AllByRecursion P (published d r.since ++ published d newer) = subst (AllByRecursion P) (published-append d newer r.since) (all-weaker (IsSpared c id d old new) P spared (published d (newer ++ r.since)) r.later) in
    let early : AllByRecursion P (published d r.seen) = all-weaker (λ m. IsSpared c id d old new m ⊎ (not (is_gone d m.id r.seen) ≡ false)) P (λ m s. kept m s) (published d r.seen) (all_unless (λ m. not (is_gone d m.id r.seen)) (IsSpared c id d old new) (published d r.seen) r.buffered) in
    let look : AllByRecursion P (published d (r.look ∷ r.seen)) = subst (AllByRecursion P) (sym (published-push d r.look r.seen ∙ ap (λ ms. published d r.seen ++ ms) (look_stores_nothing (owner_of workers d) w q d old r.look r.is_look) ∙ append-nil (published d r.seen))) early in
    let all : AllByRecursion P (published d older) = subst (λ (l : List Event). AllByRecursion P (published d l)) (sym r.place) (subst (AllByRecursion P) (sym (published-append d r.since (r.look ∷ r.seen))) (all-append P (published d (r.look ∷ r.seen)) (published d r.since) look (all-left P (published d r.since) (published d newer) later))) in
    subst (AllByRecursion P) (sym (published-append d newer (Sent w k i c id cur looks ∷ older))) (all-append P (published d older) (published d newer) all (all-right P (published d r.since) (published d newer) later))
  where
    kept : (m : Message) → IsSpared c id d old new m ⊎ (not (is_gone d m.id r.seen) ≡ false) → IsSettled c id d old new r.seen m
    kept m (inl s) = inl s
    kept m (inr g) = inr (not_false (is_gone d m.id r.seen) g)
