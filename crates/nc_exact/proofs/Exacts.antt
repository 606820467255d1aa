-- Nothing is lost, and nothing comes twice.
use Rattle.std.proofs.Common.{◌≡◌, inl, inr, ℕ, Bool, true, false, cond, List, [], ◌∷◌, ◌++◌, slice_get, Some, refl, sym, subst, arith}
use Rattle.std.specs.List.{AllByRecursion}
use Rattle.std.proofs.lemmas.Bool.{eq-eqb}
use Rattle.std.proofs.lemmas.Int.{ints}
use Rattle.nc_types.specs.Id.{Id, IsPast, is_past}
use Rattle.nc_types.specs.Cursor.{CursorAt, cursor_id}
use Rattle.nc_journal.specs.History.{own}
use Rattle.nc_journal.specs.Message.{Message, published}
use Rattle.nc_journal.specs.Sending.{IsSentLawfully, SentFrom, RestsOnLook, IsSentFrom}
use Rattle.nc_journal.specs.declared.event.Event.{Event}
use Rattle.nc_journal.specs.declared.event.Event.TheVariants.{Started, Sent}
use Rattle.nc_journal.proofs.Cuts.{all-weaker, all-both}
use Rattle.nc_journal.proofs.Ids.{IsAtMost, past_of_test, not_past_of_test}
use Rattle.nc_rests.proofs.Lists.{at_length}
use Rattle.nc_sends.proofs.Later.{push_cut}
use Rattle.nc_exact.specs.Exact.{ExactLaw}
use Rattle.nc_exact.specs.Fares.{GoneAt, Fares, Ahead, Before, WasSentIt, WasGoneThen}
use Rattle.nc_exact.specs.Sent.{WasSent}
use Rattle.nc_exact.proofs.Climbs.{behind}
use Rattle.nc_exact.proofs.Life.{AtStart, AtSend, Meanwhile, life}
use Rattle.nc_exact.proofs.Lives.{lives, lives_behind}
use Rattle.nc_exact.proofs.SentSo.{each_weaker, was_sent_more, was_gone_more, fares_more}
use Rattle.nc_exact.proofs.Settled.{IsSettled, settled}

-- each message of the channel at place j fares, in the whole history
abbrev AllFare : (workers w k : ℕ) → List Event → List (List ℕ) → CursorAt → CursorAt → Type 0
AllFare workers w k older list first cur = (newer : List Event) → IsSentLawfully workers (newer ++ older) → (j : ℕ) (c : List ℕ) → slice_get list j ≡ Some c → AllByRecursion (λ m. Fares workers w k j c first cur older m.id) (published c (newer ++ older))

fare_start : (workers w k : ℕ) → AtStart w k (AllFare workers w k)
fare_start workers w k older a list cur fits once start stage newer lawful j c at = each (published c (newer ++ Started w k cur ∷ older))
  where
    one : (id : Id) (b : Bool) → is_past id (cursor_id cur j) ≡ b → Fares workers w k j c cur cur (Started w k cur ∷ older) id
    one id true is = Ahead (past_of_test id (cursor_id cur j) is)
    one id false is = Before (not_past_of_test id (cursor_id cur j) is)

    each : (ms : List Message) → AllByRecursion (λ m. Fares workers w k j c cur cur (Started w k cur ∷ older) m.id) ms
    each [] = tt
    each (m ∷ ms) = (one m.id (is_past m.id (cursor_id cur j)) refl, each ms)

fare_other : (workers w k : ℕ) → Meanwhile w k (AllFare workers w k)
fare_other workers w k e older list first cur other q newer lawful j c at =
    all-weaker (λ m. Fares workers w k j c first cur older m.id) (λ m. Fares workers w k j c first cur (e ∷ older) m.id) (λ m f. fares_more workers w k j c first cur e older m.id f) (published c (newer ++ e ∷ older))
    (subst (λ (l : List Event). AllByRecursion (λ m. Fares workers w k j c first cur older m.id) (published c l)) (push_cut newer e older) (q (newer ++ e ∷ []) (subst (IsSentLawfully workers) (sym (push_cut newer e older)) lawful) j c at))

-- it was sent now
sent_now : (w k i : ℕ) (c d : List ℕ) (id m : Id) (cur : CursorAt) (looks : List ℕ) (older : List Event) → d ≡ c → m ≡ id → WasSent k d m (own w (Sent w k i c id cur looks ∷ older))
sent_now w k i c d id m cur looks older same is = subst (λ b. WasSent k d m (cond b (Sent w k i c id cur looks ∷ own w older) (own w older))) (sym (eq-eqb w w refl)) (inl (refl, sym same, sym is))

fare_still : (workers w k j : ℕ) (d : List ℕ) (first old cur : CursorAt) (e : Event) (older : List Event) (m : Id) → Fares workers w k j d first old older m → (IsPast m (cursor_id old j) → ⊥) → Fares workers w k j d first cur (e ∷ older) m
fare_still workers w k j d first old cur e older m (Ahead p) f = absurd (f p)
fare_still workers w k j d first old cur e older m (Before p) f = Before p
fare_still workers w k j d first old cur e older m (WasSentIt s) f = WasSentIt (was_sent_more w k d m e older s)
fare_still workers w k j d first old cur e older m (WasGoneThen g) f = WasGoneThen (was_gone_more workers w k j d m e older g)

fare_next : (workers w k i j q : ℕ) (c : List ℕ) (id : Id) (cur : CursorAt) (looks : List ℕ) (d : List ℕ) (first old : CursorAt) (newer older : List Event) → slice_get looks j ≡ Some q → (r : RestsOnLook workers w q c id d (cursor_id old j) (cursor_id cur j) newer older)
    → (m : Message) → Fares workers w k j d first old older m.id → IsSettled c id d (cursor_id old j) (cursor_id cur j) r.seen m → Fares workers w k j d first cur (Sent w k i c id cur looks ∷ older) m.id
fare_next workers w k i j q c id cur looks d first old newer older at r m f (inl (inl is)) = WasSentIt (sent_now w k i c d id m.id cur looks older is.0 is.1)
fare_next workers w k i j q c id cur looks d first old newer older at r m f (inl (inr (inl still))) = fare_still workers w k j d first old cur (Sent w k i c id cur looks) older m.id f still
fare_next workers w k i j q c id cur looks d first old newer older at r m f (inl (inr (inr past))) = Ahead past
fare_next workers w k i j q c id cur looks d first old newer older at r m f (inr gone) = WasGoneThen (inl (refl, refl, subst (GoneAt workers w d m.id older) (sym at) (record { since = r.since; look = r.look; seen = r.seen; after = cursor_id old j; place = r.place; is_look = r.is_look; gone = gone })))

fare_send : (workers w k : ℕ) → AtSend w k (AllFare workers w k)
fare_send workers w k older list once first old i c id cur looks stage move q newer lawful j d at_j =
    let e = Sent w k i c id cur looks in
    let s : IsSentFrom workers w i c id cur looks list old newer older = subst (SentFrom workers w i c id cur looks newer older) stage (lawful newer e older refl) in
    let n = at_length list looks j d s.looks_each at_j in
    let r = s.rests j d n.0 at_j n.1 in
    all-both (λ m. Fares workers w k j d first old older m.id) (IsSettled c id d (cursor_id old j) (cursor_id cur j) r.seen) (λ m. Fares workers w k j d first cur (e ∷ older) m.id)
    (fare_next workers w k i j n.0 c id cur looks d first old newer older n.1 r) (published d (newer ++ e ∷ older))
    (subst (λ (l : List Event). AllByRecursion (λ m. Fares workers w k j d first old older m.id) (published d l)) (push_cut newer e older) (q (newer ++ e ∷ []) (subst (IsSentLawfully workers) (sym (push_cut newer e older)) lawful) j d at_j))
    (settled workers w n.0 k i c id cur looks d (cursor_id old j) (cursor_id cur j) newer older r)

pub resumes_exactly : ExactLaw
resumes_exactly workers newer older s w k list cur at =
    let a = lives_behind newer older (lives workers (newer ++ older) s) in
    let fare = life w k (AllFare workers w k) (fare_start workers w k) (fare_send workers w k) (fare_other workers w k) older a list cur at in
    let q = (behind w k older a list cur at).so in
    record {
      first = fare.first;
      started = fare.started;
      exact = record {
        none_lost = fare.so newer s.sent;
        none_twice = λ j c at_j. each_weaker k c (λ id. IsAtMost id (cursor_id cur j)) (λ id. IsPast id (cursor_id cur j) → ⊥) (λ id le past. not_both id (cursor_id cur j) le past) (own w older) (q.sent j c at_j);
      };
    }
  where
    not_both : (a b : Id) → IsAtMost a b → IsPast a b → ⊥
    not_both a b le past = grind (arith, ints)
