-- What a worker releases and keeps in the part of its step beside its owner.
use Rattle.std.proofs.Common.{◌≡◌, ℕ, zero, suc, ◌+◌, Bool, true, false, cond, not, List, [], ◌∷◌, ◌++◌, Option, Some, None, refl, sym, ap, ◌∙◌, subst, arith, map, filter}
use Rattle.std.specs.Prelude.{◌==◌, ◌&&◌, insert}
use Rattle.std.proofs.lemmas.Bool.{eq-eqb}
use Rattle.nc_types.specs.Id.{Id}
use Rattle.nc_types.specs.declared.info.Info.{Info}
use Rattle.nc_journal.specs.History.{onto}
use Rattle.nc_journal.specs.declared.event.Event.{Event}
use Rattle.nc_journal.specs.declared.event.Event.TheVariants.{Released, Made}
use Rattle.nc_journal.specs.declared.word.EndedCause.{EndedCause}
use Rattle.nc_journal.specs.declared.word.EndedCause.TheVariants.{Answered, Deleted}
use Rattle.nc_journal.specs.declared.alert.AlertLine.{AlertLine}
use Rattle.nc_journal.specs.declared.alert.AlertLine.TheVariants as lines
use Rattle.nc_owner_laws.specs.Weave.{numbered}
use Rattle.nc_spool_state.specs.declared.kept.Held.{Held}
use Rattle.nc_spool_state.specs.Kept.{is_idle, place_of_grant}
use Rattle.nc_spool.specs.declared.fact.Fact.{Fact}
use Rattle.nc_spool.specs.declared.fact.Fact.TheVariants as facts
use Rattle.nc_spool.specs.Calls.{SpoolsAt, arrive_facts, answer_facts, edge_facts, notice_facts, gone_facts}
use Rattle.nc_worker_state.specs.Setup.{Setup}
use Rattle.nc_worker_state.specs.Incoming.{Incoming, TakesPacket, ClockReads, Reaps, Posts, Subscribes, Removes, Informs}
use Rattle.nc_worker_state.specs.Deed.{Deed, Does, Makes, told}
use Rattle.nc_worker_state.specs.Spooled.{Hold, fact_deed, facts_deeds, found_in, found_by, release}
use Rattle.nc_worker_state.specs.Desk.{Desk, Served, is_waiting, replied, handled, begun, settled}
use Rattle.nc_world_holds.specs.Balance.{IsWholeLine, IsWholeAnswer, IsWholeIncoming, one_if, released_by, carries, carries_by, kept_by, brought, ServedBalances}

either : {X : Type 0} (P : X → Type 0) (b : Bool) (x y : X) → P x → P y → P (cond b x y)
either P true x y p q = p
either P false x y p q = q

module _ (test : ℕ → ℕ → Bool) (o me : ℕ) where
  abbrev Rel : List Event → ℕ
  Rel h = released_by test o me h

  abbrev Kept : List (Held Hold) → ℕ
  Kept hs = kept_by test o hs

  abbrev Mine : Held Hold → ℕ
  Mine h = one_if ((h.owner == o) && test h.g h.slot)

  abbrev IsUnreleased : Event → Type 0
  IsUnreleased (Released v owner g slot) = ⊥
  IsUnreleased e = Unit {0}

  same_released : (e : Event) (h : List Event) → IsUnreleased e → Rel (e ∷ h) ≡ Rel h
  same_released (Released v owner g slot) h u = absurd u
  same_released e h u = refl

  -- deeds that release nothing, whatever follows them
  abbrev AreUnreleased : List Deed → Type 0
  AreUnreleased [] = Unit {0}
  AreUnreleased (Does e ∷ deeds) = IsUnreleased e × AreUnreleased deeds
  AreUnreleased (Makes to a ∷ deeds) = AreUnreleased deeds

  release_one : (h : Held Hold) (l : List Event) → Rel (Released me h.owner h.g h.slot ∷ l) ≡ Rel l + Mine h
  release_one h l = by (h.owner == o) (me == me) (test h.g h.slot) (eq-eqb me me refl)
    where
      by : (a b c : Bool) → b ≡ true → cond ((a && b) && c) (Rel l + 1) (Rel l) ≡ Rel l + one_if (a && c)
      by true true true e = refl
      by true true false e = omega arith
      by false true c e = omega arith
      by a false c e = absurd cc

  releases_all : (next : ℕ → ℕ) (hs : List (Held Hold)) (l : List Event) → Rel (onto (told me next (map (release me) hs)) l) ≡ Rel l + Kept hs
  releases_all next [] l = omega arith
  releases_all next (h ∷ hs) l = omega (arith, releases_all next hs (Released me h.owner h.g h.slot ∷ l), release_one h l)

  -- first what releases nothing, then the releases
  then_releases : (next : ℕ → ℕ) (xs : List Deed) (hs : List (Held Hold)) (l : List Event) → AreUnreleased xs → Rel (onto (told me next (xs ++ map (release me) hs)) l) ≡ Rel l + Kept hs
  then_releases next [] hs l u = releases_all next hs l
  then_releases next (Does e ∷ xs) hs l u = omega (arith, then_releases next xs hs (e ∷ l) u.1, same_released e l u.0)
  then_releases next (Makes to a ∷ xs) hs l u = then_releases (numbered next to) xs hs (Made me to (next to) a ∷ l) u

  split_kept : (idle : Held Hold → Bool) (hs : List (Held Hold)) → Kept (filter idle hs) + Kept (filter (λ h. not (idle h)) hs) ≡ Kept hs
  split_kept idle [] = refl
  split_kept idle (h ∷ hs) = by (idle h) (split_kept idle hs)
    where
      by : (b : Bool) → Kept (filter idle hs) + Kept (filter (λ x. not (idle x)) hs) ≡ Kept hs → Kept (cond b (h ∷ filter idle hs) (filter idle hs)) + Kept (cond (not b) (h ∷ filter (λ x. not (idle x)) hs) (filter (λ x. not (idle x)) hs)) ≡ Mine h + Kept hs
      by true e = omega (arith, e)
      by false e = omega (arith, e)

  fact_unreleased : (cause : EndedCause) (f : Fact) (deeds : List Deed) → AreUnreleased deeds → AreUnreleased (fact_deed me cause f ∷ deeds)
  fact_unreleased cause (facts.Out x) deeds u = u
  fact_unreleased cause (facts.Started k cursor) deeds u = (tt, u)
  fact_unreleased cause (facts.Sent s) deeds u = (tt, u)
  fact_unreleased cause (facts.Ended k deleted) deeds u = (tt, u)

  facts_unreleased : (cause : EndedCause) (fs : List Fact) → AreUnreleased (facts_deeds me cause fs)
  facts_unreleased cause [] = tt
  facts_unreleased cause (f ∷ fs) = fact_unreleased cause f (facts_deeds me cause fs) (facts_unreleased cause fs)

  -- a part of a step that releases nothing, and keeps so many more
  pub record Gains (n : ℕ) (d : Desk) (r : Served) : Type 0 where
    pub unreleased : AreUnreleased r.deeds
    pub kept : Kept r.after.spools.kept ≡ n + Kept d.spools.kept

  settled_balances : (n : ℕ) (next : ℕ → ℕ) (d : Desk) (r : Served) (l : List Event) → Gains n d r → Rel (onto (told me next (settled me r).deeds) l) + Kept (settled me r).after.spools.kept ≡ Rel l + n + Kept d.spools.kept
  settled_balances n next d r l g = omega (arith, then_releases next r.deeds (filter (is_idle r.after.spools.shelf) r.after.spools.kept) l g.unreleased, split_kept (is_idle r.after.spools.shelf) r.after.spools.kept, g.kept)

  none_gained : (d : Desk) (r : Served) → AreUnreleased r.deeds → r.after.spools.kept ≡ d.spools.kept → Gains 0 d r
  none_gained d r u same = record { unreleased = u; kept = omega (arith, ap Kept same) }

  replied_gains : (r status : ℕ) (info : Option Info) (d : Desk) → Gains 0 d (replied me r status info d)
  replied_gains r status info d = either (Gains 0 d) (is_waiting r d.waiting) _ _ (none_gained d _ (tt, tt) refl) (none_gained d _ tt refl)

  one_more : (h : Held Hold) (hs : List (Held Hold)) (i : ℕ) → Kept (insert hs i h) ≡ Mine h + Kept hs
  one_more h [] zero = refl
  one_more h [] (suc i) = refl
  one_more h (x ∷ hs) zero = refl
  one_more h (x ∷ hs) (suc i) = omega (arith, one_more h hs i)

  one_from : (from g slot : ℕ) → one_if ((from == o) && test g slot) ≡ cond (from == o) (one_if (test g slot)) 0
  one_from from g slot = by (from == o)
    where
      by : (b : Bool) → one_if (b && test g slot) ≡ cond b (one_if (test g slot)) 0
      by true = refl
      by false = refl

  none_from : (b : Bool) → cond {A = ℕ} b 0 0 ≡ 0
  none_from true = refl
  none_from false = refl

  -- an alert that carries nothing
  plain : (from : ℕ) (d : Desk) (r : Served) → Gains 0 d r → Gains (cond {A = ℕ} (from == o) 0 0) d r
  plain from d r g = subst (λ n. Gains n d r) (sym (none_from (from == o))) g

  kept_one : (from g slot : ℕ) (id : Id) (d : Desk) (fs : List Fact) (after : SpoolsAt Hold) → after.kept ≡ insert d.spools.kept (place_of_grant from g d.spools.kept) (found_by from id g slot).held
      → Gains (cond (from == o) (one_if (test g slot)) 0) d (record { deeds = facts_deeds me Answered fs; after = record d { spools = after } })
  kept_one from g slot id d fs after same = record {
    unreleased = facts_unreleased Answered fs;
    kept = ap Kept same ∙ one_more (found_by from id g slot).held d.spools.kept (place_of_grant from g d.spools.kept) ∙ ap (λ n. n + Kept d.spools.kept) (one_from from g slot);
  }

  answer_gains : (from number q floor : ℕ) (found : Option Id) (g slot : Option ℕ) (d : Desk) → IsWholeAnswer found g slot → Gains (cond (from == o) (carries_by test g slot) 0) d (handled me from (lines.LookAnswer number q floor found g slot) d)
  answer_gains from number q floor (Some id) (Some g) (Some slot) d w = kept_one from g slot id d (answer_facts number q floor (found_in from (Some id) (Some g) (Some slot)) d.spools) _ refl
  answer_gains from number q floor None None None d w = plain from d _ (none_gained d _ (facts_unreleased Answered (answer_facts number q floor (found_in from None None None) d.spools)) refl)
  answer_gains from number q floor (Some id) None slot d w = absurd w
  answer_gains from number q floor (Some id) (Some g) None d w = absurd w
  answer_gains from number q floor None (Some g) slot d w = absurd w
  answer_gains from number q floor None None (Some slot) d w = absurd w

  handled_gains : (from : ℕ) (line : AlertLine) (d : Desk) → IsWholeLine line → Gains (cond (from == o) (carries test line) 0) d (handled me from line d)
  handled_gains from (lines.LookAnswer number q floor found g slot) d w = answer_gains from number q floor found g slot d w
  handled_gains from (lines.Notice c id g slot) d w = kept_one from g slot id d (notice_facts c (found_by from id g slot) d.spools) _ refl
  handled_gains from (lines.PubAnswer r status info full) d w = plain from d _ (replied_gains r status info d)
  handled_gains from (lines.InfoAnswer r status info) d w = plain from d _ (replied_gains r status info d)
  handled_gains from (lines.DelAnswer r status info) d w = plain from d _ (replied_gains r status info d)
  handled_gains from (lines.EdgeAnswer number q floor last) d w = plain from d _ (none_gained d _ (facts_unreleased Answered (edge_facts number floor last d.spools)) refl)
  handled_gains from (lines.Gone c subs) d w = plain from d _ (none_gained d _ (facts_unreleased Deleted (gone_facts c subs d.spools)) refl)
  handled_gains from (lines.Publish r c len timeout ct body) d w = plain from d _ (none_gained d _ tt refl)
  handled_gains from (lines.Look number c after fence) d w = plain from d _ (none_gained d _ tt refl)
  handled_gains from (lines.Edge number k c fence) d w = plain from d _ (none_gained d _ tt refl)
  handled_gains from (lines.Join c k) d w = plain from d _ (none_gained d _ tt refl)
  handled_gains from (lines.Part c k) d w = plain from d _ (none_gained d _ tt refl)
  handled_gains from (lines.Delete r c) d w = plain from d _ (none_gained d _ tt refl)
  handled_gains from (lines.Info r c) d w = plain from d _ (none_gained d _ tt refl)

  begun_gains : (setup : Setup) (incoming : Incoming) (d : Desk) → IsWholeIncoming incoming → Gains (brought test o incoming) d (begun setup me incoming d)
  begun_gains setup (TakesPacket from p) d w = handled_gains from p.line d w
  begun_gains setup (ClockReads t) d w = none_gained d _ tt refl
  begun_gains setup Reaps d w = none_gained d _ tt refl
  begun_gains setup (Posts c body) d w = none_gained d _ tt refl
  begun_gains setup (Subscribes k list start) d w = none_gained d _ (facts_unreleased Answered (arrive_facts k list start true d.spools)) refl
  begun_gains setup (Removes c) d w = none_gained d _ tt refl
  begun_gains setup (Informs c) d w = none_gained d _ tt refl

pub served_balances : ServedBalances
served_balances test setup o me incoming next d h w = settled_balances test o me (brought test o incoming) next d (begun setup me incoming d) h (begun_gains test o me setup incoming d w)
