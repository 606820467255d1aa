-- Who was never subscribed is absent.
use Rattle.std.proofs.Common.{◌≡◌, ℕ, Bool, true, false, cond, ◌==◌, ◌||◌, List, [], ◌∷◌, refl, sym, ◌∙◌, subst, ap, true≢false}
use Rattle.std.proofs.lemmas.Bool.{eqb-true, eq-eqb}
use Rattle.nc_journal.specs.declared.event.Event.{Event}
use Rattle.nc_journal.specs.declared.event.Event.TheVariants.{Subscribed, Started, Sent, Ended}
use Rattle.nc_journal.specs.declared.word.EndedCause.{EndedCause}
use Rattle.nc_journal.specs.declared.word.EndedCause.TheVariants as causes
use Rattle.nc_journal.specs.History.{own, is_by}
use Rattle.nc_journal.specs.Standing.{Stage, Absent, Served, Over, started, served, stage_of, is_subscribed, IsServed, EndsBy, AreOrdered}
use Rattle.nc_journal.specs.Refused.{UnendedIsRefused}

or_left : (a b : Bool) → (a || b) ≡ false → a ≡ false
or_left true b h = h
or_left false b h = refl

or_right : (a b : Bool) → (a || b) ≡ false → b ≡ false
or_right true b h = absurd (true≢false h)
or_right false b h = h

absent-ends : (cause : EndedCause) → EndsBy cause Absent → ⊥
absent-ends causes.Answered h = h
absent-ends causes.Timeout h = h
absent-ends causes.Deleted h = h
absent-ends causes.Peer h = h
absent-ends causes.Closed h = h
absent-ends causes.Frame h = h

-- any other event changes nothing of it
other-event : (k w : ℕ) (e : Event) (h : List Event) → ((g : List Event) → (is_subscribed k (e ∷ g) ≡ is_subscribed k g) × (stage_of k (e ∷ g) ≡ stage_of k g)) → (is_subscribed k (own w h) ≡ false → stage_of k (own w h) ≡ Absent) → (b : Bool) → is_subscribed k (cond b (e ∷ own w h) (own w h)) ≡ false → stage_of k (cond b (e ∷ own w h) (own w h)) ≡ Absent
other-event k w e h same ih true none = (same (own w h)).1 ∙ ih (sym (same (own w h)).0 ∙ none)
other-event k w e h same ih false none = ih none

absent-both : (b : Bool) (s t : Stage) → s ≡ Absent → t ≡ Absent → cond b s t ≡ Absent
absent-both true s t p q = p
absent-both false s t p q = q

subscribed-case : (k n w : ℕ) (s : Stage) (h : List Event) → (is_subscribed k (own w h) ≡ false → stage_of k (own w h) ≡ Absent) → ((n == k) || is_subscribed k (own w h)) ≡ false → cond (n == k) s (stage_of k (own w h)) ≡ Absent
subscribed-case k n w s h ih none = rw (or_left (n == k) (is_subscribed k (own w h)) none) (ih (or_right (n == k) (is_subscribed k (own w h)) none))

ended-case : (k n : ℕ) (cause : EndedCause) (g : List Event) → EndsBy cause (stage_of n g) → stage_of k g ≡ Absent → (b : Bool) → (n == k) ≡ b → cond b Over (stage_of k g) ≡ Absent
ended-case k n cause g ends none true same = absurd (absent-ends cause (subst (EndsBy cause) (subst (λ m. stage_of m g ≡ Absent) (sym (eqb-true n k same)) none) ends))
ended-case k n cause g ends none false same = none

pub absent-unless : (k w : ℕ) (h : List Event) → AreOrdered h → is_subscribed k (own w h) ≡ false → stage_of k (own w h) ≡ Absent
absent-unless k w [] rule none = refl
absent-unless k w (Subscribed v n conn list mode start timeout close ∷ h) rule none =
    (elim (w == v) as (λ b. is_subscribed k (cond b (Subscribed v n conn list mode start timeout close ∷ own w h) (own w h)) ≡ false → stage_of k (cond b (Subscribed v n conn list mode start timeout close ∷ own w h) (own w h)) ≡ Absent) [
      | true ↦ λ none. subscribed-case k n w _ h (absent-unless k w h rule.0) none
      | false ↦ λ none. absent-unless k w h rule.0 none
    ]) none
absent-unless k w (Started v n cur ∷ h) rule none =
    (elim (w == v) as (λ b. is_subscribed k (cond b (Started v n cur ∷ own w h) (own w h)) ≡ false → stage_of k (cond b (Started v n cur ∷ own w h) (own w h)) ≡ Absent) [
      | true ↦ λ none. let ih = absent-unless k w h rule.0 none in absent-both (n == k) _ _ (ap (started cur) ih) ih
      | false ↦ λ none. absent-unless k w h rule.0 none
    ]) none
absent-unless k w (Sent v n i c id cur looks ∷ h) rule none =
    (elim (w == v) as (λ b. is_subscribed k (cond b (Sent v n i c id cur looks ∷ own w h) (own w h)) ≡ false → stage_of k (cond b (Sent v n i c id cur looks ∷ own w h) (own w h)) ≡ Absent) [
      | true ↦ λ none. let ih = absent-unless k w h rule.0 none in absent-both (n == k) _ _ (ap (served cur) ih) ih
      | false ↦ λ none. absent-unless k w h rule.0 none
    ]) none
absent-unless k w (Ended v n cause ∷ h) rule none =
    (elim (w == v) as (λ b. (w == v) ≡ b → is_subscribed k (cond b (Ended v n cause ∷ own w h) (own w h)) ≡ false → stage_of k (cond b (Ended v n cause ∷ own w h) (own w h)) ≡ Absent) [
      | true ↦ λ by none. ended-case k n cause (own w h) (subst (λ u. EndsBy cause (stage_of n (own u h))) (sym (eqb-true w v by)) rule.1) (absent-unless k w h rule.0 none) (n == k) refl
      | false ↦ λ by none. absent-unless k w h rule.0 none
    ]) refl none
absent-unless k w (e ∷ h) rule none = other-event k w e h (λ g. (refl, refl)) (absent-unless k w h rule.0) (is_by w e) none

-- who was sent the message that ends it and hasn't ended is still served
pub unended_is_refused : UnendedIsRefused
unended_is_refused h w k i c id cur looks list old is rule = rule.ended w k served_now
  where
    mine : own w (Sent w k i c id cur looks ∷ h) ≡ Sent w k i c id cur looks ∷ own w h
    mine = ap (λ (b : Bool). cond b (Sent w k i c id cur looks ∷ own w h) (own w h)) (eq-eqb w w refl)

    stage : stage_of k (own w (Sent w k i c id cur looks ∷ h)) ≡ Served list cur
    stage = ap (stage_of k) mine ∙ ap (λ (b : Bool). cond b (served cur (stage_of k (own w h))) (stage_of k (own w h))) (eq-eqb k k refl) ∙ ap (served cur) is

    served_now : IsServed (stage_of k (own w (Sent w k i c id cur looks ∷ h)))
    served_now = subst IsServed (sym stage) tt
