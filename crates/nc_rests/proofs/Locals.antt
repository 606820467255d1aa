-- What stands in a local history stands in the whole one.
use Rattle.std.proofs.Common.{◌≡◌, ℕ, Bool, true, false, cond, not, List, [], ◌∷◌, ◌++◌, filter, refl, sym, ap, ◌∙◌, true≢false}
use Rattle.std.specs.Prelude.{◌||◌, ◌&&◌, ◌==◌, bytes_eq}
use Rattle.std.specs.List.{AllByRecursion}
use Rattle.std.specs.Cmp.Lexicographic.{same_text}
use Rattle.std.proofs.lemmas.Bool.{eq-eqb, cond_both}
use Rattle.std.proofs.lemmas.List.Elements.{filter_agree}
use Rattle.nc_types.specs.Id.{Id, id_eq}
use Rattle.nc_types.specs.Channel.{owner_of}
use Rattle.nc_journal.specs.History.{own, is_by}
use Rattle.nc_journal.specs.Message.{published, is_gone, buffer, stored_message}
use Rattle.nc_journal.specs.declared.event.Event.{Event}
use Rattle.nc_journal.specs.declared.event.Event.TheVariants.{Stored, Left}
use Rattle.nc_rests.specs.Owners.{IsByOwner}

-- an event of a local history, with what stands beside it in the whole one
pub record Cut (o : ℕ) (h : List Event) (x : Event) (newer older : List Event) : Type 0 where
  pub since : List Event
  pub seen : List Event
  pub place : h ≡ since ++ x ∷ seen
  pub own_since : own o since ≡ newer
  pub own_seen : own o seen ≡ older

cut_more : (o : ℕ) (h : List Event) (x : Event) (newer older : List Event) (e : Event) (wider : List Event) → (k : Cut o h x newer older) → own o (e ∷ k.since) ≡ wider → Cut o (e ∷ h) x wider older
cut_more o h x newer older e wider k is = record { since = e ∷ k.since; seen = k.seen; place = ap (λ (l : List Event). e ∷ l) k.place; own_since = is; own_seen = k.own_seen }

cut_case : (o : ℕ) (e : Event) (h : List Event) (x : Event) (newer older : List Event) (b : Bool) → is_by o e ≡ b → ((s : List Event) → own o h ≡ s ++ x ∷ older → Cut o h x s older) → cond b (e ∷ own o h) (own o h) ≡ newer ++ x ∷ older → Cut o (e ∷ h) x newer older
unfolding cut_more
cut_case o e h x [] older true by rest is =
    let head : e ≡ x = cc in
    let tail : own o h ≡ older = cc in
    record { since = []; seen = h; place = ap (λ (y : Event). y ∷ h) head; own_since = refl; own_seen = tail }
cut_case o e h x (f ∷ newer) older true by rest is =
    let head : e ≡ f = cc in
    let tail : own o h ≡ newer ++ x ∷ older = cc in
    let k = rest newer tail in
    cut_more o h x newer older e (f ∷ newer) k (ap (λ b. cond b (e ∷ own o k.since) (own o k.since)) by ∙ (λ i. head i ∷ k.own_since i))
cut_case o e h x newer older false by rest is =
    let k = rest newer is in
    cut_more o h x newer older e newer k (ap (λ b. cond b (e ∷ own o k.since) (own o k.since)) by ∙ k.own_since)

nothing_there : (x : Event) (newer older : List Event) → (let none : List Event = [] in none) ≡ newer ++ x ∷ older → ⊥
nothing_there x [] older is = cc
nothing_there x (y ∷ newer) older is = cc

pub cut_of : (o : ℕ) (h : List Event) (x : Event) (newer older : List Event) → own o h ≡ newer ++ x ∷ older → Cut o h x newer older
cut_of o [] x newer older is = absurd (nothing_there x newer older is)
cut_of o (e ∷ h) x newer older is = cut_case o e h x newer older (is_by o e) refl (λ s k. cut_of o h x s older k) is

-- ---- messages stand in the local history of their channel's owner

-- what another worker does is on another channel
pub other_channel : (workers v : ℕ) (c d : List ℕ) → v ≡ owner_of workers d → (owner_of workers c == v) ≡ false → bytes_eq d c ≡ false
other_channel workers v c d by other = go (bytes_eq d c) refl
  where
    go : (b : Bool) → bytes_eq d c ≡ b → b ≡ false
    go true same = absurd (true≢false (sym (eq-eqb (owner_of workers c) v (ap (owner_of workers) (sym (same_text d c (sym same))) ∙ sym by)) ∙ other))
    go false same = refl

pub published_own : (workers : ℕ) (c : List ℕ) (h : List Event) → AllByRecursion (IsByOwner workers) h → published c (own (owner_of workers c) h) ≡ published c h
published_own workers c [] by = refl
published_own workers c (Stored v d id slot len exp kept members from r ct body ∷ h) by = go (owner_of workers c == v) refl (published_own workers c h by.1)
  where
    go : (b : Bool) → (owner_of workers c == v) ≡ b → published c (own (owner_of workers c) h) ≡ published c h
        → published c (cond b (Stored v d id slot len exp kept members from r ct body ∷ own (owner_of workers c) h) (own (owner_of workers c) h)) ≡ cond (bytes_eq d c) (published c h ++ stored_message id slot exp ct body ∷ []) (published c h)
    go true is rest = ap (λ ms. cond (bytes_eq d c) (ms ++ stored_message id slot exp ct body ∷ []) ms) rest
    go false is rest = rest ∙ sym (ap (λ b. cond b (published c h ++ stored_message id slot exp ct body ∷ []) (published c h)) (other_channel workers v c d by.0 is))
published_own workers c (e ∷ h) by =
    cond_both (is_by (owner_of workers c) e) (e ∷ own (owner_of workers c) h) (own (owner_of workers c) h) (λ l. published c l ≡ published c h) (λ _. published_own workers c h by.1) (λ _. published_own workers c h by.1)

and_false : (a b : Bool) → b ≡ false → (a && b) ≡ false
and_false true b is = is
and_false false b is = refl

pub gone_own : (workers : ℕ) (c : List ℕ) (id : Id) (h : List Event) → AllByRecursion (IsByOwner workers) h → is_gone c id (own (owner_of workers c) h) ≡ is_gone c id h
gone_own workers c id [] by = refl
gone_own workers c id (Stored v d m slot len exp kept members from r ct body ∷ h) by = go (owner_of workers c == v) refl (gone_own workers c id h by.1)
  where
    go : (b : Bool) → (owner_of workers c == v) ≡ b → is_gone c id (own (owner_of workers c) h) ≡ is_gone c id h
        → is_gone c id (cond b (Stored v d m slot len exp kept members from r ct body ∷ own (owner_of workers c) h) (own (owner_of workers c) h)) ≡ ((not kept && (bytes_eq d c && id_eq m id)) || is_gone c id h)
    go true is rest = ap (λ g. (not kept && (bytes_eq d c && id_eq m id)) || g) rest
    go false is rest = rest ∙ sym (ap (λ b. b || is_gone c id h) (and_false (not kept) (bytes_eq d c && id_eq m id) (ap (λ b. b && id_eq m id) (other_channel workers v c d by.0 is))))
gone_own workers c id (Left v d m slot cause ∷ h) by = go (owner_of workers c == v) refl (gone_own workers c id h by.1)
  where
    go : (b : Bool) → (owner_of workers c == v) ≡ b → is_gone c id (own (owner_of workers c) h) ≡ is_gone c id h
        → is_gone c id (cond b (Left v d m slot cause ∷ own (owner_of workers c) h) (own (owner_of workers c) h)) ≡ ((bytes_eq d c && id_eq m id) || is_gone c id h)
    go true is rest = ap (λ g. (bytes_eq d c && id_eq m id) || g) rest
    go false is rest = rest ∙ sym (ap (λ b. (b && id_eq m id) || is_gone c id h) (other_channel workers v c d by.0 is))
gone_own workers c id (e ∷ h) by =
    cond_both (is_by (owner_of workers c) e) (e ∷ own (owner_of workers c) h) (own (owner_of workers c) h) (λ l. is_gone c id l ≡ is_gone c id h) (λ _. gone_own workers c id h by.1) (λ _. gone_own workers c id h by.1)

pub buffer_own : (workers : ℕ) (c : List ℕ) (h : List Event) → AllByRecursion (IsByOwner workers) h → buffer c (own (owner_of workers c) h) ≡ buffer c h
buffer_own workers c h by =
    ap (filter (λ m. not (is_gone c m.id (own (owner_of workers c) h)))) (published_own workers c h by)
    ∙ filter_agree (λ m. not (is_gone c m.id (own (owner_of workers c) h))) (λ m. not (is_gone c m.id h)) (λ m. ap not (gone_own workers c m.id h by)) (published c h)

pub own_by : (workers o : ℕ) (h : List Event) → AllByRecursion (IsByOwner workers) h → AllByRecursion (IsByOwner workers) (own o h)
own_by workers o [] by = tt
own_by workers o (e ∷ h) by = cond_both (is_by o e) (e ∷ own o h) (own o h) (AllByRecursion (IsByOwner workers)) (λ _. (by.0, own_by workers o h by.1)) (λ _. own_by workers o h by.1)
