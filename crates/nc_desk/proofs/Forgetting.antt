-- Spools do the same where they forget what holds are.
use Rattle.std.proofs.Common.{◌≡◌, ℕ, zero, suc, cond, List, [], ◌∷◌, ◌++◌, Option, Some, None, refl, sym, ◌∙◌, ap, map, take, drop, subst}
use Rattle.std.specs.Prelude.{insert, IfSome}
use Rattle.std.specs.List.{AllByRecursion}
use Rattle.std.specs.Option.{option_map}
use Rattle.std.proofs.lemmas.List.{map-append, take-map, drop-map}
use Rattle.nc_journal.specs.declared.word.EndedCause.{EndedCause}
use Rattle.nc_journal.specs.declared.word.EndedCause.TheVariants.{Answered}
use Rattle.nc_journal.specs.declared.alert.AlertLine.TheVariants as lines
use Rattle.nc_alert.specs.declared.alert.Grant.{Grant}
use Rattle.nc_slots.specs.Slots.{HoldAt}
use Rattle.nc_owner.specs.AlertLines.{answer_line}
use Rattle.nc_spool_state.specs.declared.kept.Held.{Held}
use Rattle.nc_spool_state.specs.Kept.{is_before, place_of_grant, with_hold}
use Rattle.nc_spool.specs.declared.fact.Fact.{Fact}
use Rattle.nc_spool.specs.declared.spools.Found.{Found}
use Rattle.nc_spool.specs.Calls.{SpoolsAt, answer_facts, answer_after, notice_facts, notice_after, with_found}
use Rattle.nc_worker_state.specs.Deed.{Deed, told}
use Rattle.nc_worker_state.specs.Spooled.{facts_deeds}
use Rattle.nc_worker_state.specs.Desk.{Served, handled}
use Rattle.nc_outbox.specs.Outboxes.{next_of, IsGranted}
use Rattle.nc_scribe.specs.Scribe.{ScribeAt, TellsMore}
use Rattle.nc_scribe.proofs.Story.{tells_same}
use Rattle.nc_desk.specs.declared.desk.Desk.{Desk as DeskAt}
use Rattle.nc_desk.specs.Desk.{told_hold, told_spools, told_desk, found_of, Serves, IsHeld, AreHeld}

module _ {X : Type 0} (P : X → Type 0) where
  all_behind : (xs ys : List X) → AllByRecursion P xs → AllByRecursion P ys → AllByRecursion P (xs ++ ys)
  all_behind [] ys all more = more
  all_behind (x ∷ xs) ys all more = (all.0, all_behind xs ys all.1 more)

  all_taken : (n : ℕ) (xs : List X) → AllByRecursion P xs → AllByRecursion P (take n xs)
  all_taken zero xs all = tt
  all_taken (suc n) [] all = tt
  all_taken (suc n) (x ∷ xs) all = (all.0, all_taken n xs all.1)

  all_dropped : (n : ℕ) (xs : List X) → AllByRecursion P xs → AllByRecursion P (drop n xs)
  all_dropped zero xs all = all
  all_dropped (suc n) [] all = tt
  all_dropped (suc n) (x ∷ xs) all = all_dropped n xs all.1

  all_insert : (xs : List X) (n : ℕ) (x : X) → AllByRecursion P xs → P x → AllByRecursion P (insert xs n x)
  all_insert xs n x all one = all_behind (take n xs) (x ∷ drop n xs) (all_taken n xs all) (one, all_dropped n xs all)

map-insert : {X Y : Type 0} → (f : X → Y) (xs : List X) (n : ℕ) (x : X) → insert (map f xs) n (f x) ≡ map f (insert xs n x)
map-insert f xs n x = (λ i. take-map f n xs i ++ f x ∷ drop-map f n xs i) ∙ sym (map-append f (take n xs) (x ∷ drop n xs))

module _ {H : Type 0} where
  grant_place : (owner g : ℕ) (holds : List (Held H)) → place_of_grant owner g (map told_hold holds) ≡ place_of_grant owner g holds
  grant_place owner g [] = refl
  grant_place owner g (h ∷ holds) = ap (λ (n : ℕ). cond (is_before owner g h) 0 (suc n)) (grant_place owner g holds)

  -- a hold more is kept
  kept_more : (h : Held H) (holds : List (Held H)) → map told_hold (with_hold h holds) ≡ with_hold (told_hold h) (map told_hold holds)
  kept_more h holds =
      sym (ap (λ (n : ℕ). insert (map told_hold holds) n (told_hold h)) (grant_place h.owner h.g holds) ∙ map-insert told_hold holds (place_of_grant h.owner h.g holds) h)

  -- the answer to a look
  pub answered_after : (me from number q floor : ℕ) (found : Option (Grant H)) (d : DeskAt H)
      → told_desk (record d { spools = answer_after number q floor (option_map (found_of from) found) d.spools }) ≡ (handled me from (answer_line number q floor found) (told_desk d)).after
  answered_after me from number q floor None d = refl
  answered_after me from number q floor (Some grant) d =
      λ i. record (told_desk d) { spools = record (told_spools (answer_after number q floor (Some (found_of from grant)) d.spools)) { kept = kept_more (found_of from grant).held d.spools.kept i } }

  pub answered_deeds : (me from number q floor : ℕ) (found : Option (Grant H)) (d : DeskAt H)
      → facts_deeds me Answered (answer_facts number q floor (option_map (found_of from) found) d.spools) ≡ (handled me from (answer_line number q floor found) (told_desk d)).deeds
  answered_deeds me from number q floor None d = refl
  answered_deeds me from number q floor (Some grant) d = refl

  -- a notice
  pub noticed_after : (me from : ℕ) (c : List ℕ) (grant : Grant H) (d : DeskAt H)
      → told_desk (record d { spools = notice_after c (found_of from grant) d.spools }) ≡ (handled me from (lines.Notice c grant.id grant.g grant.slot) (told_desk d)).after
  noticed_after me from c grant d =
      λ i. record (told_desk d) { spools = record (told_spools (notice_after c (found_of from grant) d.spools)) { kept = kept_more (found_of from grant).held d.spools.kept i } }

  -- what spools did was told
  pub serves_facts : (cause : EndedCause) (new : DeskAt H) (s t : ScribeAt H) (r : Served) (facts is : List Fact) → told_desk new ≡ r.after → facts ≡ is → facts_deeds s.me cause is ≡ r.deeds
      → TellsMore s t (told s.me (next_of s.outboxes) (facts_deeds s.me cause facts)) → Serves new s t r
  serves_facts cause new s t r facts is after same deeds q = record {
    after = after;
    tells = tells_same (ap (λ (fs : List Fact). told s.me (next_of s.outboxes) (facts_deeds s.me cause fs)) same ∙ ap (λ (ds : List Deed). told s.me (next_of s.outboxes) ds) deeds) q;
  }

  -- a hold of a grant that is kept is of the slot that the grant names
  pub held_more : (held : H → HoldAt) (from : ℕ) (grant : Grant H) (holds : List (Held H)) → IsGranted held from grant → AreHeld held holds → AreHeld held (with_hold (found_of from grant).held holds)
  held_more held from grant holds granted all =
      all_insert (IsHeld held) holds (place_of_grant from grant.g holds) (found_of from grant).held all (record { owner = granted.owner; place = granted.place })

  pub held_found : (held : H → HoldAt) (from : ℕ) (found : Option (Grant H)) (holds : List (Held H)) → IfSome found (IsGranted held from) → AreHeld held holds → AreHeld held (with_found (option_map (found_of from) found) holds)
  held_found held from None holds granted all = all
  held_found held from (Some grant) holds granted all = held_more held from grant holds granted all

  pub serves_answer : (d : DeskAt H) (new : SpoolsAt H) (s t : ScribeAt H) (from number q floor : ℕ) (found : Option (Grant H)) (given : Option (Found H)) (facts : List Fact)
      → given ≡ option_map (found_of from) found → facts ≡ answer_facts number q floor given d.spools → new ≡ answer_after number q floor given d.spools
      → TellsMore s t (told s.me (next_of s.outboxes) (facts_deeds s.me Answered facts)) → Serves (record d { spools = new }) s t (handled s.me from (answer_line number q floor found) (told_desk d))
  serves_answer d new s t from number q floor found given facts is same left tells =
      serves_facts Answered (record d { spools = new }) s t (handled s.me from (answer_line number q floor found) (told_desk d)) facts (answer_facts number q floor (option_map (found_of from) found) d.spools)
      (ap (λ (x : SpoolsAt H). told_desk (record d { spools = x })) (left ∙ ap (λ (f : Option (Found H)). answer_after number q floor f d.spools) is) ∙ answered_after s.me from number q floor found d)
      (same ∙ ap (λ (f : Option (Found H)). answer_facts number q floor f d.spools) is) (answered_deeds s.me from number q floor found d) tells

  pub serves_notice : (d : DeskAt H) (new : SpoolsAt H) (s t : ScribeAt H) (from : ℕ) (c : List ℕ) (grant : Grant H) (given : Found H) (facts : List Fact)
      → given ≡ found_of from grant → facts ≡ notice_facts c given d.spools → new ≡ notice_after c given d.spools
      → TellsMore s t (told s.me (next_of s.outboxes) (facts_deeds s.me Answered facts)) → Serves (record d { spools = new }) s t (handled s.me from (lines.Notice c grant.id grant.g grant.slot) (told_desk d))
  serves_notice d new s t from c grant given facts is same left tells =
      serves_facts Answered (record d { spools = new }) s t (handled s.me from (lines.Notice c grant.id grant.g grant.slot) (told_desk d)) facts (notice_facts c (found_of from grant) d.spools)
      (ap (λ (x : SpoolsAt H). told_desk (record d { spools = x })) (left ∙ ap (λ (f : Found H). notice_after c f d.spools) is) ∙ noticed_after s.me from c grant d)
      (same ∙ ap (λ (f : Found H). notice_facts c f d.spools) is) refl tells

  pub held_answer : (held : H → HoldAt) (s new : SpoolsAt H) (from number q floor : ℕ) (found : Option (Grant H)) (given : Option (Found H)) → given ≡ option_map (found_of from) found → new ≡ answer_after number q floor given s
      → IfSome found (IsGranted held from) → AreHeld held s.kept → AreHeld held new.kept
  held_answer held s new from number q floor found given is left granted all =
      subst (λ (t : SpoolsAt H). AreHeld held t.kept) (sym (left ∙ ap (λ (f : Option (Found H)). answer_after number q floor f s) is)) (held_found held from found s.kept granted all)

  pub held_notice : (held : H → HoldAt) (s new : SpoolsAt H) (from : ℕ) (c : List ℕ) (grant : Grant H) (given : Found H) → given ≡ found_of from grant → new ≡ notice_after c given s
      → IsGranted held from grant → AreHeld held s.kept → AreHeld held new.kept
  held_notice held s new from c grant given is left granted all =
      subst (λ (t : SpoolsAt H). AreHeld held t.kept) (sym (left ∙ ap (λ (f : Found H). notice_after c f s) is)) (held_more held from grant s.kept granted all)
