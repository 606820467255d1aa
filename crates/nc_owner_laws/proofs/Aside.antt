-- What a worker does beside its owner leaves what the owner stands for.
use Rattle.std.proofs.Common.{◌≡◌, ℕ, Bool, true, false, cond, List, [], ◌∷◌, ◌++◌, refl, ap, ◌∙◌}
use Rattle.std.specs.Prelude.{◌==◌}
use Rattle.nc_journal.specs.History.{own}
use Rattle.nc_journal.specs.Stamp.{StampedAt}
use Rattle.nc_journal.specs.declared.event.Event.{Event}
use Rattle.nc_journal.specs.declared.event.Event.TheVariants.{Clock, Joined, Parted, Raised, Stored, Left, Looked, Edged, Granted, Freed, Removed, Made}
use Rattle.nc_journal.specs.declared.alert.AlertLine.{AlertLine}
use Rattle.nc_journal.specs.declared.alert.AlertLine.TheVariants as lines
use Rattle.nc_owner.specs.declared.desk.Desk.{Desk}
use Rattle.nc_owner.specs.State.{OwnerAt}
use Rattle.nc_owner_laws.specs.OwnerTold.{HistoryTells}
use Rattle.nc_owner_laws.specs.Buffered.{LeavesStored}
use Rattle.nc_owner_laws.specs.Wake.{Wake, NotYet, hear, hears, made_to, Wakes}
use Rattle.nc_owner_laws.specs.OwnerStanding.{NothingPast}
use Rattle.nc_owner_laws.specs.InOrder.{LooksAt, DrawsNext, AnswersLook, AnswersAt}
use Rattle.nc_owner_laws.specs.AnsweredOnce.{IsNewAnswer, AnswersNew}
use Rattle.nc_owner_laws.specs.Aside.{IsPlainLine, IsAside, AsideStands, AsideInOrder, AsideAnswersNew}

aside_tells : (first : Desk) (h : List Event) (s : OwnerAt) (e : Event) → IsAside e → HistoryTells first h s → HistoryTells first (e ∷ h) s
aside_tells first h s (Clock w t) p k = absurd p
aside_tells first h s (Joined w c from n) p k = absurd p
aside_tells first h s (Parted w c from n) p k = absurd p
aside_tells first h s (Raised w t) p k = absurd p
aside_tells first h s (Stored w c id slot len exp kept members from r ct body) p k = absurd p
aside_tells first h s (Left w c id slot cause) p k = absurd p
aside_tells first h s (Looked w q from number c after floor found) p k = absurd p
aside_tells first h s (Edged w q from number n c floor last) p k = absurd p
aside_tells first h s (Granted w g slot to) p k = absurd p
aside_tells first h s (Freed w slot) p k = absurd p
aside_tells first h s (Removed w c last cause) p k = absurd p
aside_tells first h s e p k = record { desk = k.desk; channels = k.channels }

aside_stamped : (workers : ℕ) (h : List Event) (e : Event) → IsAside e → StampedAt workers h e
aside_stamped workers h (Stored w c id slot len exp kept members from r ct body) p = absurd p
aside_stamped workers h (Raised w t) p = absurd p
aside_stamped workers h (Removed w c last cause) p = absurd p
aside_stamped workers h e p = tt

aside_stored : (h : List Event) (e : Event) → IsAside e → LeavesStored h e
aside_stored h (Left w c id slot cause) p = absurd p
aside_stored h (Removed w c last cause) p = absurd p
aside_stored h e p = tt

hears_append : (c : List ℕ) (q : ℕ) (s : Wake) (xs ys : List AlertLine) → hears c q s (xs ++ ys) ≡ hears c q (hears c q s xs) ys
hears_append c q s [] ys = refl
hears_append c q s (x ∷ xs) ys = hears_append c q (hear c q s x) xs ys

plain_heard : (c : List ℕ) (q : ℕ) (s : Wake) (a : AlertLine) → IsPlainLine a → hear c q s a ≡ s
plain_heard c q s (lines.LookAnswer number p floor found g slot) i = absurd i
plain_heard c q s (lines.Notice d id g slot) i = absurd i
plain_heard c q s (lines.Gone d subs) i = absurd i
plain_heard c q s (lines.EdgeAnswer number p floor last) i = absurd i
plain_heard c q s a i = refl

made_heard : (b : Bool) (c : List ℕ) (q : ℕ) (ms : List AlertLine) (a : AlertLine) → IsPlainLine a → hears c q NotYet (cond b (ms ++ a ∷ []) ms) ≡ hears c q NotYet ms
made_heard true c q ms a i = hears_append c q NotYet ms (a ∷ []) ∙ plain_heard c q (hears c q NotYet ms) a i
made_heard false c q ms a i = refl

aside_wakes : (h : List Event) (e : Event) → IsAside e → Wakes h → Wakes (e ∷ h)
aside_wakes h (Stored w c id slot len exp kept members from r ct body) p k = absurd p
aside_wakes h (Looked w q from number c after floor found) p k = absurd p
aside_wakes h (Removed w c last cause) p k = absurd p
aside_wakes h (Made v to n a) p k = record {
  same = λ w c q only. made_heard (to == w) c q (made_to w h) a p ∙ k.same w c q only;
  waits = k.waits;
}
aside_wakes h e p k = record { same = k.same; waits = k.waits }

aside_past : (h : List Event) (e : Event) → IsAside e → NothingPast h → NothingPast (e ∷ h)
aside_past h (Stored w c id slot len exp kept members from r ct body) p k = absurd p
aside_past h (Left w c id slot cause) p k = absurd p
aside_past h (Looked w q from number c after floor found) p k = absurd p
aside_past h (Removed w c last cause) p k = absurd p
aside_past h e p k = k

pub aside_stands : AsideStands
aside_stands me workers slots first row h s e p by k = record {
  fits = k.fits;
  local = ap (λ x. cond x (e ∷ own me h) (own me h)) by ∙ ap (λ (l : List Event). e ∷ l) k.local;
  tells = aside_tells _ h s e p k.tells;
  stamped = (k.stamped, aside_stamped workers h e p);
  stored = (k.stored, aside_stored h e p);
  wakes = aside_wakes h e p k.wakes;
  past = aside_past h e p k.past;
}

aside_looks : (h : List Event) (e : Event) → IsAside e → LooksAt h e
aside_looks h (Looked w q from number c after floor found) p = absurd p
aside_looks h (Edged w q from number k c floor last) p = absurd p
aside_looks h e p = tt

aside_draws : (first : ℕ) (h : List Event) (e : Event) → IsAside e → DrawsNext first h e
aside_draws first h (Looked w q from number c after floor found) p = absurd p
aside_draws first h (Edged w q from number k c floor last) p = absurd p
aside_draws first h (Granted w g slot to) p = absurd p
aside_draws first h e p = tt

plain_answers : (v to : ℕ) (h : List Event) (a : AlertLine) → IsPlainLine a → AnswersLook v to h a
plain_answers v to h (lines.LookAnswer number q floor found g slot) p = absurd p
plain_answers v to h (lines.EdgeAnswer number q floor last) p = absurd p
plain_answers v to h a p = tt

aside_answers : (h : List Event) (e : Event) → IsAside e → AnswersAt h e
aside_answers h (Made v to n a) p = plain_answers v to h a p
aside_answers h e p = tt

pub aside_in_order : AsideInOrder
aside_in_order first h e p k = record { looks = (k.looks, aside_looks h e p); draws = (k.draws, aside_draws first h e p); answers = (k.answers, aside_answers h e p) }

plain_new : (h : List Event) (a : AlertLine) → IsPlainLine a → IsNewAnswer h a
plain_new h (lines.LookAnswer number q floor found g slot) p = absurd p
plain_new h a p = tt

aside_new : (h : List Event) (e : Event) → IsAside e → AnswersNew h e
aside_new h (Made v to n a) p = plain_new h a p
aside_new h e p = tt

pub aside_answers_new : AsideAnswersNew
aside_answers_new h e p k = (k, aside_new h e p)
