-- Facts written on a history: what stays, and what they tell of subscribers.
use Rattle.std.proofs.Common.{◌≡◌, ℕ, zero, suc, ◌<◌, Bool, true, false, cond, List, [], ◌∷◌, ◌++◌, Some, refl, ap, ◌∙◌, subst, arith, length}
use Rattle.std.specs.Prelude.{◌==◌, slice_get, slice_index_or}
use Rattle.std.specs.List.{AllByRecursion}
use Rattle.std.proofs.lemmas.Bool.{cond_both}
use Rattle.nc_types.specs.Id.{Id}
use Rattle.nc_types.specs.Channel.{owner_of}
use Rattle.nc_types.specs.Cursor.{cursor_id}
use Rattle.nc_journal.specs.History.{own, onto, Along}
use Rattle.nc_journal.specs.Standing.{Stage, Over, stage_of}
use Rattle.nc_journal.specs.declared.event.Event.{Event}
use Rattle.nc_journal.specs.declared.event.Event.TheVariants as events
use Rattle.nc_journal.specs.declared.word.EndedCause.{EndedCause}
use Rattle.nc_owner_laws.specs.InOrder.{LooksAt}
use Rattle.nc_spool.specs.declared.fact.Fact.{Fact}
use Rattle.nc_spool.specs.declared.fact.Fact.TheVariants as facts
use Rattle.nc_spool_state.specs.declared.place.Place.{Place}
use Rattle.nc_spool_state.specs.Spool.{SpoolAt, place_at}
use Rattle.nc_worker_state.specs.Spooled.{facts_deeds}
use Rattle.nc_worker_state.specs.Deed.{told}
use Rattle.nc_world_laws.proofs.WorkerKinds.{IsBy}
use Rattle.nc_rests.proofs.Received.{eqb_self}
use Rattle.nc_history.specs.Packets.{takes}
use Rattle.nc_rests.specs.Owners.{Owners}
use Rattle.nc_rests.specs.Places.{PlaceHolds}
use Rattle.nc_rests.specs.Spools.{SpoolHolds}
use Rattle.nc_sends.specs.GoodSends.{IsGoodSend}
use Rattle.nc_rests.proofs.Places.{place_stays}
use Rattle.nc_world_told.specs.Written.{fact_event, fact_next, written, next_written}
use Rattle.nc_world_told.specs.Known.{SpoolKnows}

-- which are the deeds of the facts, told
pub written_is : (me : ℕ) (cause : EndedCause) (next : ℕ → ℕ) (fs : List (Fact)) (h : List Event) → written me cause next fs h ≡ onto (told me next (facts_deeds me cause fs)) h
written_is me cause next [] h = refl
written_is me cause next (facts.Out o ∷ fs) h = written_is me cause (fact_next me cause next (facts.Out o)) fs _
written_is me cause next (facts.Started k cursor ∷ fs) h = written_is me cause next fs _
written_is me cause next (facts.Sent s ∷ fs) h = written_is me cause next fs _
written_is me cause next (facts.Ended k deleted ∷ fs) h = written_is me cause next fs _

pub written_append : (me : ℕ) (cause : EndedCause) (next : ℕ → ℕ) (xs ys : List (Fact)) (h : List Event) → written me cause next (xs ++ ys) h ≡ written me cause (next_written me cause next xs) ys (written me cause next xs h)
written_append me cause next [] ys h = refl
written_append me cause next (x ∷ xs) ys h = written_append me cause (fact_next me cause next x) xs ys (fact_event me cause next x ∷ h)

-- a fact's event is the worker's, and takes nothing
fact_by : (me : ℕ) (cause : EndedCause) (next : ℕ → ℕ) (f : Fact) → IsBy me (fact_event me cause next f)
fact_by me cause next (facts.Out o) = eqb_self me
fact_by me cause next (facts.Started k cursor) = eqb_self me
fact_by me cause next (facts.Sent s) = eqb_self me
fact_by me cause next (facts.Ended k deleted) = eqb_self me

fact_takes : (me : ℕ) (cause : EndedCause) (next : ℕ → ℕ) (f : Fact) (o w : ℕ) → takes o w (fact_event me cause next f) ≡ false
fact_takes me cause next (facts.Out x) o w = refl
fact_takes me cause next (facts.Started k cursor) o w = refl
fact_takes me cause next (facts.Sent s) o w = refl
fact_takes me cause next (facts.Ended k deleted) o w = refl

-- ---- owners

owners_one : (workers : ℕ) (me : ℕ) (cause : EndedCause) (next : ℕ → ℕ) (f : Fact) (h : List Event) → Owners workers h → Owners workers (fact_event me cause next f ∷ h)
owners_one workers me cause next (facts.Out x) h o = record { stamped = (o.stamped, tt); by_owner = (tt, o.by_owner); looks = λ v. cond_both (v == me) (_ ∷ own v h) (own v h) (Along LooksAt) (λ _. (o.looks v, tt)) (λ _. o.looks v) }
owners_one workers me cause next (facts.Started k cursor) h o = record { stamped = (o.stamped, tt); by_owner = (tt, o.by_owner); looks = λ v. cond_both (v == me) (_ ∷ own v h) (own v h) (Along LooksAt) (λ _. (o.looks v, tt)) (λ _. o.looks v) }
owners_one workers me cause next (facts.Sent s) h o = record { stamped = (o.stamped, tt); by_owner = (tt, o.by_owner); looks = λ v. cond_both (v == me) (_ ∷ own v h) (own v h) (Along LooksAt) (λ _. (o.looks v, tt)) (λ _. o.looks v) }
owners_one workers me cause next (facts.Ended k deleted) h o = record { stamped = (o.stamped, tt); by_owner = (tt, o.by_owner); looks = λ v. cond_both (v == me) (_ ∷ own v h) (own v h) (Along LooksAt) (λ _. (o.looks v, tt)) (λ _. o.looks v) }

pub owners_written : (workers me : ℕ) (cause : EndedCause) (next : ℕ → ℕ) (fs : List (Fact)) (h : List Event) → Owners workers h → Owners workers (written me cause next fs h)
owners_written workers me cause next [] h o = o
owners_written workers me cause next (f ∷ fs) h o = owners_written workers me cause (fact_next me cause next f) fs (fact_event me cause next f ∷ h) (owners_one workers me cause next f h o)

-- ---- places

pub place_written : (workers w : ℕ) (c : List ℕ) (after : Id) (p : Place) (me : ℕ) (cause : EndedCause) (next : ℕ → ℕ) (fs : List (Fact)) (h : List Event) → PlaceHolds workers w c after p h → PlaceHolds workers w c after p (written me cause next fs h)
place_written workers w c after p me cause next [] h k = k
place_written workers w c after p me cause next (f ∷ fs) h k =
    place_written workers w c after p me cause (fact_next me cause next f) fs (fact_event me cause next f ∷ h) (place_stays workers w c after p (fact_event me cause next f) h (fact_takes me cause next f (owner_of workers c) w) k)

pub spool_written : (workers w : ℕ) (s : SpoolAt) (me : ℕ) (cause : EndedCause) (next : ℕ → ℕ) (fs : List (Fact)) (h : List Event) → SpoolKnows workers w s h → SpoolKnows workers w s (written me cause next fs h)
spool_written workers w s me cause next fs h k = record { distinct = k.distinct; each = k.each; tags = k.tags; knows = λ j l. place_written workers w _ _ _ me cause next fs h (k.knows j l) }

-- as the laws of sends want it
get_index : {X : Type 0} (xs : List X) (j : ℕ) (x d : X) → slice_get xs j ≡ Some x → (slice_index_or xs j d ≡ x) × (j < length xs)
get_index [] j x d e = absurd cc
get_index (y ∷ xs) zero x d e = (cc, omega arith)
get_index (y ∷ xs) (suc j) x d e = let r = get_index xs j x d e in (r.0, omega (arith, r.1))

pub spool_holds : (workers w : ℕ) (s : SpoolAt) (h : List Event) → SpoolKnows workers w s h → SpoolHolds workers w s.key.list s.key.cursor s.places h
spool_holds workers w s h k = record {
  distinct = k.distinct;
  each = k.each;
  tags = k.tags;
  holds = λ j c p at_list at_place.
      let name = get_index s.key.list j c [] at_list in
      let place = get_index s.places j p _ at_place in
      subst (λ (q : Place). PlaceHolds workers w c (cursor_id s.key.cursor j) q h) place.0
      (subst (λ (d : List ℕ). PlaceHolds workers w d (cursor_id s.key.cursor j) (place_at s j) h) name.0 (k.knows j place.1));
}

-- ---- stages

-- a fact that tells nothing of a subscriber
abbrev pub IsAway : ℕ → Fact → Type 0
IsAway k (facts.Out o) = Unit {0}
IsAway k (facts.Started n cursor) = (n == k) ≡ false
IsAway k (facts.Sent s) = (s.k == k) ≡ false
IsAway k (facts.Ended n deleted) = (n == k) ≡ false

stage_by : (me k : ℕ) (e : Event) (h : List Event) → IsBy me e → stage_of k (own me (e ∷ h)) ≡ stage_of k (e ∷ own me h)
stage_by me k e h by = ap (λ b. stage_of k (cond b (e ∷ own me h) (own me h))) by

away_case : (b : Bool) (x y : Stage) → b ≡ false → cond b x y ≡ y
away_case true x y e = absurd cc
away_case false x y e = refl

stage_one : (k me : ℕ) (cause : EndedCause) (next : ℕ → ℕ) (f : Fact) (h : List Event) → IsAway k f → stage_of k (own me (fact_event me cause next f ∷ h)) ≡ stage_of k (own me h)
stage_one k me cause next (facts.Out o) h a = stage_by me k (fact_event me cause next (facts.Out o)) h (eqb_self me)
stage_one k me cause next (facts.Started n cursor) h a = stage_by me k (events.Started me n cursor) h (eqb_self me) ∙ away_case (n == k) _ (stage_of k (own me h)) a
stage_one k me cause next (facts.Sent s) h a = stage_by me k (events.Sent me s.k s.place s.chan s.id s.cursor s.looks) h (eqb_self me) ∙ away_case (s.k == k) _ (stage_of k (own me h)) a
stage_one k me cause next (facts.Ended n deleted) h a = stage_by me k (fact_event me cause next (facts.Ended n deleted)) h (eqb_self me) ∙ away_case (n == k) Over (stage_of k (own me h)) a

pub stage_written : (k me : ℕ) (cause : EndedCause) (next : ℕ → ℕ) (fs : List (Fact)) (h : List Event) → AllByRecursion (IsAway k) fs → stage_of k (own me (written me cause next fs h)) ≡ stage_of k (own me h)
stage_written k me cause next [] h a = refl
stage_written k me cause next (f ∷ fs) h a = stage_written k me cause (fact_next me cause next f) fs (fact_event me cause next f ∷ h) a.1 ∙ stage_one k me cause next f h a.0

-- ---- sends

abbrev pub IsUnsent : Fact → Type 0
IsUnsent (facts.Out o) = Unit {0}
IsUnsent (facts.Started n cursor) = Unit {0}
IsUnsent (facts.Sent s) = ⊥
IsUnsent (facts.Ended n deleted) = Unit {0}

unsent_one : (workers me : ℕ) (cause : EndedCause) (next : ℕ → ℕ) (f : Fact) (h : List Event) → IsUnsent f → IsGoodSend workers h (fact_event me cause next f)
unsent_one workers me cause next (facts.Out o) h u = record { sent = tt; fenced = tt; taken = tt }
unsent_one workers me cause next (facts.Started n cursor) h u = record { sent = tt; fenced = tt; taken = tt }
unsent_one workers me cause next (facts.Sent s) h u = absurd u
unsent_one workers me cause next (facts.Ended n deleted) h u = record { sent = tt; fenced = tt; taken = tt }

pub unsent_written : (workers me : ℕ) (cause : EndedCause) (next : ℕ → ℕ) (fs : List (Fact)) (h : List Event) → AllByRecursion IsUnsent fs → Along (IsGoodSend workers) h → Along (IsGoodSend workers) (written me cause next fs h)
unsent_written workers me cause next [] h u g = g
unsent_written workers me cause next (f ∷ fs) h u g = unsent_written workers me cause (fact_next me cause next f) fs (fact_event me cause next f ∷ h) u.1 (g, unsent_one workers me cause next f h u.0)
