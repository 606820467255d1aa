-- What the removal of a channel wakes.
use Rattle.std.proofs.Common.{◌≡◌, ℕ, Bool, true, false, cond, not, List, [], ◌∷◌, refl, sym, ap, ◌∙◌, subst}
use Rattle.std.specs.Prelude.{◌&&◌, ◌||◌, ◌==◌, IfSome, bytes_eq}
use Rattle.std.specs.List.{AllByRecursion}
use Rattle.std.specs.Cmp.Lexicographic.{same_text}
use Rattle.std.proofs.lemmas.Bool.{true≢false}
use Rattle.nc_types.specs.Id.{Id, is_past}
use Rattle.nc_journal.specs.History.{onto}
use Rattle.nc_journal.specs.Message.{buffer}
use Rattle.nc_journal.specs.declared.event.Event.{Event}
use Rattle.nc_journal.specs.declared.event.Event.TheVariants.{Left, Removed, Made}
use Rattle.nc_journal.specs.declared.word.RemovedCause.{RemovedCause}
use Rattle.nc_journal.specs.declared.alert.AlertLine.{AlertLine}
use Rattle.nc_journal.specs.declared.alert.AlertLine.TheVariants as lines
use Rattle.nc_owner.specs.AlertLines.{OutLine}
use Rattle.nc_owner_laws.specs.Filters.{is_marked}
use Rattle.nc_owner_laws.specs.Weave.{makes, numbered}
use Rattle.nc_owner_laws.specs.Wake.{Wake, NotYet, Waiting, ByNotice, ByGone, woken, wake, hear, IsOnlyAt}
use Rattle.nc_owner_laws.specs.OwnerStanding.{look_past, NothingPast}
use Rattle.nc_owner_laws.specs.Removal.{IsLeft, IsOfRemoval, is_gone_line, is_told_gone, removal_onto, RemovalWakes, RemovalPast}
use Rattle.nc_owner_laws.proofs.Events.{name_self}
use Rattle.nc_owner_laws.proofs.Stamping.{onto_append}
use Rattle.nc_owner_laws.proofs.Weaving.{weave_first}
use Rattle.nc_owner_laws.proofs.Owners.{all_woven, IsIdle, idle_onto}
use Rattle.nc_owner_laws.proofs.Hearing.{heard, Heard, heard_of, wakes_of, still_onto, onto_marked, IsStill, stills}

-- ---- what leaves, and what is made

left_still : (e : Event) → IsLeft e → IsStill e
left_still (Left w c id slot cause) l = (tt, tt)
left_still e l = absurd l

lefts_still : (es : List Event) → AllByRecursion IsLeft es → AllByRecursion IsStill es
lefts_still [] l = tt
lefts_still (e ∷ es) l = (left_still e l.0, lefts_still es l.1)

left_idle : (e : Event) → IsLeft e → IsIdle e
left_idle (Left w c id slot cause) l = tt
left_idle e l = absurd l

lefts_idle : (es : List Event) → AllByRecursion IsLeft es → AllByRecursion IsIdle es
lefts_idle [] l = tt
lefts_idle (e ∷ es) l = (left_idle e l.0, lefts_idle es l.1)

made_wake : (v : ℕ) (next : ℕ → ℕ) (alerts : List OutLine) (h : List Event) (w : ℕ) (d : List ℕ) (q : ℕ) → wake w d q (onto (makes v next alerts) h) ≡ wake w d q h
made_wake v next [] h w d q = refl
made_wake v next (a ∷ alerts) h w d q = made_wake v (numbered next a.to) alerts (Made v a.to (next a.to) a.line ∷ h) w d q

made_marked : (v : ℕ) (next : ℕ → ℕ) (alerts : List OutLine) (h : List Event) (w : ℕ) (d : List ℕ) → is_marked d w (onto (makes v next alerts) h) ≡ is_marked d w h
made_marked v next [] h w d = refl
made_marked v next (a ∷ alerts) h w d = made_marked v (numbered next a.to) alerts (Made v a.to (next a.to) a.line ∷ h) w d

made_only : (v : ℕ) (next : ℕ → ℕ) (alerts : List OutLine) (h : List Event) (d : List ℕ) (q : ℕ) → IsOnlyAt d q (onto (makes v next alerts) h) → IsOnlyAt d q h
made_only v next [] h d q o = o
made_only v next (a ∷ alerts) h d q o = made_only v (numbered next a.to) alerts (Made v a.to (next a.to) a.line ∷ h) d q o

-- ---- who is told hears that the channel is gone

gone_twice : (s : Wake) → woken ByGone (woken ByGone s) ≡ woken ByGone s
gone_twice NotYet = refl
gone_twice Waiting = refl
gone_twice (ByNotice id) = refl
gone_twice ByGone = refl

gone_wakes : (s : Wake) → woken ByGone s ≡ Waiting → ⊥
gone_wakes NotYet e = cc
gone_wakes Waiting e = cc
gone_wakes (ByNotice id) e = cc
gone_wakes ByGone e = cc

gone_idle : (s : Wake) → (s ≡ Waiting → ⊥) → woken ByGone s ≡ s
gone_idle NotYet n = refl
gone_idle Waiting n = absurd (n refl)
gone_idle (ByNotice id) n = refl
gone_idle ByGone n = refl

hear_line : (c d : List ℕ) (q : ℕ) (s : Wake) (a : AlertLine) → IsOfRemoval c a → hear d q s a ≡ cond (is_gone_line a && bytes_eq c d) (woken ByGone s) s
hear_line c d q s (lines.Gone x subs) e = ap (λ (y : List ℕ). cond (bytes_eq y d) (woken ByGone s) s) e
hear_line c d q s (lines.DelAnswer r status info) e = refl
hear_line c d q s a e = absurd e

told_case : (more here g n : Bool) (s : Wake) → cond (more && n) (woken ByGone (cond here (cond (g && n) (woken ByGone s) s) s)) (cond here (cond (g && n) (woken ByGone s) s) s) ≡ cond (((here && g) || more) && n) (woken ByGone s) s
told_case true true true true s = gone_twice s
told_case true true true false s = refl
told_case true true false n s = refl
told_case true false g n s = refl
told_case false true true n s = refl
told_case false true false n s = refl
told_case false false g n s = refl

gone_heard : (v : ℕ) (next : ℕ → ℕ) (c : List ℕ) (alerts : List OutLine) (h : List Event) (w : ℕ) (d : List ℕ) (q : ℕ) → AllByRecursion (λ a. IsOfRemoval c a.line) alerts
    → heard w d q (onto (makes v next alerts) h) ≡ cond (is_told_gone w alerts && bytes_eq c d) (woken ByGone (heard w d q h)) (heard w d q h)
gone_heard v next c [] h w d q p = refl
gone_heard v next c (a ∷ alerts) h w d q p =
    gone_heard v (numbered next a.to) c alerts (Made v a.to (next a.to) a.line ∷ h) w d q p.1
    ∙ ap (λ x. cond (is_told_gone w alerts && bytes_eq c d) (woken ByGone (cond (a.to == w) x (heard w d q h))) (cond (a.to == w) x (heard w d q h))) (hear_line c d q (heard w d q h) a.line p.0)
    ∙ told_case (is_told_gone w alerts) (a.to == w) (is_gone_line a.line) (bytes_eq c d) (heard w d q h)

-- ---- the removal

-- whoever waits there is marked, and is told
removed_same : (told n : Bool) (s t : Wake) → s ≡ t → (n ≡ true → told ≡ false → t ≡ Waiting → ⊥) → cond (told && n) (woken ByGone s) s ≡ cond n (woken ByGone t) t
removed_same true true s t e f = ap (woken ByGone) e
removed_same true false s t e f = e
removed_same false true s t e f = e ∙ sym (gone_idle t (f refl refl))
removed_same false false s t e f = e

removed_waits : (n m : Bool) (t : Wake) → (t ≡ Waiting → m ≡ true) → cond n (woken ByGone t) t ≡ Waiting → (not n && m) ≡ true
removed_waits true m t f e = absurd (gone_wakes t e)
removed_waits false m t f e = f e

removed_heard : (v : ℕ) (next : ℕ → ℕ) (c : List ℕ) (last : Id) (cause : RemovedCause) (alerts : List OutLine) (h : List Event) → AllByRecursion (λ a. IsOfRemoval c a.line) alerts → ((w : ℕ) → is_marked c w h ≡ true → is_told_gone w alerts ≡ true) → Heard h
    → Heard (onto (makes v next alerts) (Removed v c last cause ∷ h))
removed_heard v next c last cause alerts h p tells k =
    let h1 = Removed v c last cause ∷ h in
    let told = λ (w : ℕ) (d : List ℕ) (q : ℕ) (n : bytes_eq c d ≡ true) (untold : is_told_gone w alerts ≡ false) (e : wake w d q h ≡ Waiting).
    true≢false (sym (tells w (subst (λ (x : List ℕ). is_marked x w h ≡ true) (sym (same_text c d (sym n))) (k.waits w d q e))) ∙ untold) in
    record {
      same = λ w d q o.
          gone_heard v next c alerts h1 w d q p
          ∙ removed_same (is_told_gone w alerts) (bytes_eq c d) (heard w d q h) (wake w d q h) (k.same w d q (made_only v next alerts h1 d q o)) (told w d q)
          ∙ sym (made_wake v next alerts h1 w d q);
      waits = λ w d q e.
          made_marked v next alerts h1 w d
          ∙ removed_waits (bytes_eq c d) (is_marked d w h) (wake w d q h) (k.waits w d q) (sym (made_wake v next alerts h1 w d q) ∙ e);
    }

pub removal_is : (v : ℕ) (next : ℕ → ℕ) (c : List ℕ) (last : Id) (cause : RemovedCause) (lefts : List Event) (alerts : List OutLine) (h : List Event) → AllByRecursion IsLeft lefts
    → removal_onto v next c last cause lefts alerts h ≡ onto (makes v next alerts) (Removed v c last cause ∷ onto lefts h)
removal_is v next c last cause lefts alerts h l =
    ap (λ (es : List Event). onto es h) (weave_first v next lefts (Removed v c last cause ∷ []) alerts (stills lefts (lefts_still lefts l)).1)
    ∙ onto_append lefts (Removed v c last cause ∷ makes v next alerts) h

pub removal_wakes : RemovalWakes
removal_wakes h v next c last cause lefts alerts l p tells k =
    let h1 = onto lefts h in
    let h2 = Removed v c last cause ∷ h1 in
    let is = removal_is v next c last cause lefts alerts h l in
    let still = (stills lefts (lefts_still lefts l)).0 in
    record {
      wakes = wakes_of _ (subst Heard (sym is)
          (removed_heard v next c last cause alerts h1 p (λ w m. tells w (sym (onto_marked c w lefts h still) ∙ m)) (still_onto lefts h still (heard_of h k))));
      nobody_waits = λ w q e. gone_wakes (wake w c q h1)
          (ap (λ b. cond b (woken ByGone (wake w c q h1)) (wake w c q h1)) (sym (name_self c)) ∙ sym (made_wake v next alerts h2 w c q) ∙ ap (wake w c q) (sym is) ∙ e);
      unmarked = λ w. ap (is_marked c w) is ∙ made_marked v next alerts h2 w c ∙ ap (λ b. not b && is_marked c w h1) (name_self c);
    }

removed_case : (n : Bool) (t : Wake) (P : Type 0) → (t ≡ Waiting → P) → cond n (woken ByGone t) t ≡ Waiting → P
removed_case true t P k e = absurd (gone_wakes t e)
removed_case false t P k e = k e

removed_past : (v : ℕ) (c : List ℕ) (last : Id) (cause : RemovedCause) (h : List Event) → NothingPast h → NothingPast (Removed v c last cause ∷ h)
removed_past v c last cause h k = λ w d q e. removed_case (bytes_eq c d) (wake w d q h) (IfSome (look_past w d q h) (λ after. AllByRecursion (λ m. is_past m.id after ≡ false) (buffer d h))) (k w d q) e

pub removal_past : RemovalPast
removal_past h v next c last cause lefts alerts l k = subst NothingPast (sym (removal_is v next c last cause lefts alerts h l))
    (idle_onto (makes v next alerts) (Removed v c last cause ∷ onto lefts h) (all_woven IsIdle v next (λ to n a. tt) [] alerts tt)
    (removed_past v c last cause (onto lefts h) (idle_onto lefts h (lefts_idle lefts l) k)))
