-- What single events keep of the order.
use Rattle.std.proofs.Common.{◌≡◌, ℕ, Bool, true, false, cond, List, ◌∷◌, refl, sym, ap, ◌∙◌, subst, arith}
use Rattle.std.specs.Prelude.{◌==◌}
use Rattle.std.proofs.lemmas.Bool.{cond_both}
use Rattle.std.proofs.lemmas.Bool.Decides.{nat_tests}
use Rattle.nc_types.specs.Id.{Id}
use Rattle.nc_types.specs.Cursor.{CursorAt}
use Rattle.nc_journal.specs.History.{own, is_by}
use Rattle.nc_journal.specs.Standing.{Stage, Absent, Starting, Standing, Served, Over, stage_of, started, served, IsStarting, IsStanding, IsServed, EndsBy, NobodyServed, OrderedAt}
use Rattle.nc_journal.specs.declared.event.Event.{Event}
use Rattle.nc_journal.specs.declared.event.Event.TheVariants.{Started, Sent, Ended, Made}
use Rattle.nc_journal.specs.declared.word.EndedCause.TheVariants.{Answered, Deleted}
use Rattle.nc_journal.specs.declared.alert.AlertLine.{AlertLine}
use Rattle.nc_world_laws.proofs.Frames.{IsStageless, one_stage}
use Rattle.nc_world_ordered.specs.Orderly.{IsOrderly}

-- an event that tells nothing of a subscriber leaves everybody's stage
pub stage_stays : (w k : ℕ) (e : Event) (h : List Event) → IsStageless e → stage_of k (own w (e ∷ h)) ≡ stage_of k (own w h)
stage_stays w k e h plain = cond_both (is_by w e) (e ∷ own w h) (own w h) (λ l. stage_of k l ≡ stage_of k (own w h)) (λ _. one_stage k e (own w h) plain) (λ _. refl)

pub nobody_stays : (e : Event) (h : List Event) → IsStageless e → NobodyServed h → NobodyServed (e ∷ h)
nobody_stays e h plain n w k is = n w k (subst IsServed (stage_stays w k e h plain) is)

-- such an event keeps the order where it asks no more than that nobody was served
pub one_orderly : (e : Event) (h : List Event) → IsStageless e → (NobodyServed h → OrderedAt h e) → IsOrderly h → IsOrderly (e ∷ h)
one_orderly e h plain asks o = record { ordered = (o.ordered, asks o.ended); ended = nobody_stays e h plain o.ended }

-- what is made keeps it
pub made_orderly : (w to n : ℕ) (a : AlertLine) (h : List Event) → IsOrderly h → IsOrderly (Made w to n a ∷ h)
made_orderly w to n a h o = record { ordered = (o.ordered, tt); ended = nobody_stays (Made w to n a) h tt o.ended }

-- ---- a subscriber's own events

eqb_self : (n : ℕ) → (n == n) ≡ true
eqb_self n = grind (arith, nat_tests)

own_here : (w : ℕ) (e : Event) (h : List Event) → is_by w e ≡ true → own w (e ∷ h) ≡ e ∷ own w h
own_here w e h is = ap (λ b. cond b (e ∷ own w h) (own w h)) is

-- the stage of a subscriber after an event of it, and of the others
pub sent_stage : (me k i : ℕ) (c : List ℕ) (id : Id) (cur : CursorAt) (looks : List ℕ) (h : List Event) → stage_of k (own me (Sent me k i c id cur looks ∷ h)) ≡ served cur (stage_of k (own me h))
sent_stage me k i c id cur looks h =
    ap (stage_of k) (own_here me (Sent me k i c id cur looks) h (eqb_self me)) ∙ ap (λ b. cond b (served cur (stage_of k (own me h))) (stage_of k (own me h))) (eqb_self k)

-- sent to a subscriber that stands, which goes on standing
pub sent_goes_on : (me k i : ℕ) (c : List ℕ) (id : Id) (cur old : CursorAt) (looks : List ℕ) (list : List (List ℕ)) (h : List Event) → stage_of k (own me h) ≡ Standing list false old → IsOrderly h → IsOrderly (Sent me k i c id cur looks ∷ h)
sent_goes_on me k i c id cur old looks list h stands o = record {
  ordered = (o.ordered, subst IsStanding (sym stands) tt);
  ended = λ w n. by w n (w == me) refl (k == n) refl;
}
  where
    same : (a b : ℕ) → (a == b) ≡ true → a ≡ b
    same a b e = grind (arith, nat_tests)

    by : (w n : ℕ) (b : Bool) → (w == me) ≡ b → (d : Bool) → (k == n) ≡ d → IsServed (stage_of n (own w (Sent me k i c id cur looks ∷ h))) → ⊥
    by w n true p true q is =
        let here : stage_of n (own w (Sent me k i c id cur looks ∷ h)) ≡ served cur (stage_of n (own w h)) = ap (λ (x : Bool). stage_of n (cond x (Sent me k i c id cur looks ∷ own w h) (own w h))) p ∙ ap (λ (x : Bool). cond x (served cur (stage_of n (own w h))) (stage_of n (own w h))) q in
        let stage : stage_of n (own w h) ≡ Standing list false old = subst (λ (z : ℕ × ℕ). stage_of z.0 (own z.1 h) ≡ Standing list false old) (λ i. (same k n q i, sym (same w me p) i)) stands in
        subst IsServed (here ∙ ap (served cur) stage) is
    by w n true p false q is = o.ended w n (subst IsServed (ap (λ (x : Bool). stage_of n (cond x (Sent me k i c id cur looks ∷ own w h) (own w h))) p ∙ ap (λ (x : Bool). cond x (served cur (stage_of n (own w h))) (stage_of n (own w h))) q) is)
    by w n false p d q is = o.ended w n (subst IsServed (ap (λ (x : Bool). stage_of n (cond x (Sent me k i c id cur looks ∷ own w h) (own w h))) p) is)

-- sent to a subscriber that the message ends, and ended
pub sent_and_ended : (me k i : ℕ) (c : List ℕ) (id : Id) (cur old : CursorAt) (looks : List ℕ) (list : List (List ℕ)) (h : List Event) → stage_of k (own me h) ≡ Standing list true old → IsOrderly h → IsOrderly (Ended me k Answered ∷ Sent me k i c id cur looks ∷ h)
sent_and_ended me k i c id cur old looks list h stands o = record {
  ordered = ((o.ordered, subst IsStanding (sym stands) tt), subst (EndsBy Answered) (sym (sent_stage me k i c id cur looks h ∙ ap (served cur) stands)) tt);
  ended = λ w n. by w n (w == me) refl (k == n) refl;
}
  where
    by : (w n : ℕ) (b : Bool) → (w == me) ≡ b → (d : Bool) → (k == n) ≡ d → IsServed (stage_of n (own w (Ended me k Answered ∷ Sent me k i c id cur looks ∷ h))) → ⊥
    by w n true p true q is =
        subst IsServed (ap (λ (x : Bool). stage_of n (cond x (Ended me k Answered ∷ cond x (Sent me k i c id cur looks ∷ own w h) (own w h)) (cond x (Sent me k i c id cur looks ∷ own w h) (own w h)))) p
        ∙ ap (λ (x : Bool). cond x Over (cond x (served cur (stage_of n (own w h))) (stage_of n (own w h)))) q) is
    by w n true p false q is =
        o.ended w n (subst IsServed (ap (λ (x : Bool). stage_of n (cond x (Ended me k Answered ∷ cond x (Sent me k i c id cur looks ∷ own w h) (own w h)) (cond x (Sent me k i c id cur looks ∷ own w h) (own w h)))) p
        ∙ ap (λ (x : Bool). cond x Over (cond x (served cur (stage_of n (own w h))) (stage_of n (own w h)))) q) is)
    by w n false p d q is = o.ended w n (subst IsServed (ap (λ (x : Bool). stage_of n (cond x (Ended me k Answered ∷ cond x (Sent me k i c id cur looks ∷ own w h) (own w h)) (cond x (Sent me k i c id cur looks ∷ own w h) (own w h)))) p) is)

-- a subscriber is started
pub started_orderly : (me k : ℕ) (cur : CursorAt) (h : List Event) → IsStarting (stage_of k (own me h)) → IsOrderly h → IsOrderly (Started me k cur ∷ h)
started_orderly me k cur h starts o = record {
  ordered = (o.ordered, (starts, o.ended));
  ended = λ w n. by w n (w == me) refl (k == n) refl;
}
  where
    same : (a b : ℕ) → (a == b) ≡ true → a ≡ b
    same a b e = grind (arith, nat_tests)

    not_served : (s : Stage) → IsStarting s → IsServed (started cur s) → ⊥
    not_served (Starting list once start) i is = is
    not_served Absent i is = i
    not_served (Standing list once old) i is = i
    not_served (Served list old) i is = i
    not_served Over i is = i

    by : (w n : ℕ) (b : Bool) → (w == me) ≡ b → (d : Bool) → (k == n) ≡ d → IsServed (stage_of n (own w (Started me k cur ∷ h))) → ⊥
    by w n true p true q is =
        not_served (stage_of n (own w h)) (subst (λ (z : ℕ × ℕ). IsStarting (stage_of z.0 (own z.1 h))) (λ i. (same k n q i, sym (same w me p) i)) starts)
        (subst IsServed (ap (λ (x : Bool). stage_of n (cond x (Started me k cur ∷ own w h) (own w h))) p ∙ ap (λ (x : Bool). cond x (started cur (stage_of n (own w h))) (stage_of n (own w h))) q) is)
    by w n true p false q is = o.ended w n (subst IsServed (ap (λ (x : Bool). stage_of n (cond x (Started me k cur ∷ own w h) (own w h))) p ∙ ap (λ (x : Bool). cond x (started cur (stage_of n (own w h))) (stage_of n (own w h))) q) is)
    by w n false p d q is = o.ended w n (subst IsServed (ap (λ (x : Bool). stage_of n (cond x (Started me k cur ∷ own w h) (own w h))) p) is)

-- a subscriber that starts or stands is ended by a deletion
pub deleted_orderly : (me k : ℕ) (h : List Event) → EndsBy Deleted (stage_of k (own me h)) → IsOrderly h → IsOrderly (Ended me k Deleted ∷ h)
deleted_orderly me k h ends o = record {
  ordered = (o.ordered, ends);
  ended = λ w n. by w n (w == me) refl (k == n) refl;
}
  where
    by : (w n : ℕ) (b : Bool) → (w == me) ≡ b → (d : Bool) → (k == n) ≡ d → IsServed (stage_of n (own w (Ended me k Deleted ∷ h))) → ⊥
    by w n true p true q is = subst IsServed (ap (λ (x : Bool). stage_of n (cond x (Ended me k Deleted ∷ own w h) (own w h))) p ∙ ap (λ (x : Bool). cond x Over (stage_of n (own w h))) q) is
    by w n true p false q is = o.ended w n (subst IsServed (ap (λ (x : Bool). stage_of n (cond x (Ended me k Deleted ∷ own w h) (own w h))) p ∙ ap (λ (x : Bool). cond x Over (stage_of n (own w h))) q) is)
    by w n false p d q is = o.ended w n (subst IsServed (ap (λ (x : Bool). stage_of n (cond x (Ended me k Deleted ∷ own w h) (own w h))) p) is)
