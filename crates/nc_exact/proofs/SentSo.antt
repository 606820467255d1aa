-- What was sent, as the history goes on.
use Rattle.std.proofs.Common.{◌≡◌, inr, ℕ, Bool, true, false, cond, List, [], ◌∷◌, refl, sym, ap, ◌∙◌, subst, true≢false}
use Rattle.std.specs.Prelude.{◌&&◌, ◌==◌}
use Rattle.std.proofs.lemmas.Bool.{eq-eqb, eqb-true, cond_both}
use Rattle.nc_types.specs.Id.{Id}
use Rattle.nc_types.specs.Cursor.{CursorAt}
use Rattle.nc_journal.specs.History.{own, is_by}
use Rattle.nc_journal.specs.Standing.{Stage, Absent, Starting, Standing, Served, Over, started, served, is_once, stage_of}
use Rattle.nc_journal.specs.declared.event.Event.{Event}
use Rattle.nc_journal.specs.declared.event.Event.TheVariants.{Subscribed, Started, Sent, Ended}
use Rattle.nc_exact.specs.Fares.{WasGone, Fares, Ahead, Before, WasSentIt, WasGoneThen}
use Rattle.nc_exact.specs.Sent.{WasSent, EachSent}
use Rattle.nc_exact.proofs.Life.{moves_it}
use Rattle.nc_exact.proofs.Lives.{MovesFrom, Lives, lives_older}

pub each_weaker : (k : ℕ) (c : List ℕ) (P Q : Id → Type 0) → ((id : Id) → P id → Q id) → (l : List Event) → EachSent k c P l → EachSent k c Q l
each_weaker k c P Q f [] s = tt
each_weaker k c P Q f (Sent w n i d m cur looks ∷ l) s = (λ a b. f m (s.0 a b), each_weaker k c P Q f l s.1)
each_weaker k c P Q f (e ∷ l) s = each_weaker k c P Q f l s

-- nothing was sent to one that just starts, nor to anyone before
pub apart : (n k : ℕ) → (n == k) ≡ false → n ≡ k → ⊥
apart n k other same = true≢false (sym (eq-eqb n k same) ∙ other)

pub each_other : (w k : ℕ) (c : List ℕ) (P : Id → Type 0) (e : Event) (h : List Event) → moves_it w k e ≡ false → EachSent k c P (own w h) → EachSent k c P (own w (e ∷ h))
each_other w k c P (Sent v n i d m cur looks) h other s =
    cond_both (w == v) (Sent v n i d m cur looks ∷ own w h) (own w h) (EachSent k c P)
    (λ is. ((λ same. absurd (apart n k (sym (ap (λ b. b && (n == k)) is) ∙ other) same)), s)) (λ _. s)
each_other w k c P e h other s = cond_both (is_by w e) (e ∷ own w h) (own w h) (EachSent k c P) (λ _. s) (λ _. s)

pub was_sent_more : (w k : ℕ) (c : List ℕ) (id : Id) (e : Event) (h : List Event) → WasSent k c id (own w h) → WasSent k c id (own w (e ∷ h))
was_sent_more w k c id (Sent v n i d m cur looks) h s = cond_both (w == v) (Sent v n i d m cur looks ∷ own w h) (own w h) (WasSent k c id) (λ _. inr s) (λ _. s)
was_sent_more w k c id e h s = cond_both (is_by w e) (e ∷ own w h) (own w h) (WasSent k c id) (λ _. s) (λ _. s)

pub was_gone_more : (workers w k j : ℕ) (c : List ℕ) (id : Id) (e : Event) (h : List Event) → WasGone workers w k j c id h → WasGone workers w k j c id (e ∷ h)
was_gone_more workers w k j c id (Sent v n i d m cur looks) h g = inr g
was_gone_more workers w k j c id e h g = g

pub fares_more : (workers w k j : ℕ) (c : List ℕ) (first cur : CursorAt) (e : Event) (h : List Event) (id : Id) → Fares workers w k j c first cur h id → Fares workers w k j c first cur (e ∷ h) id
fares_more workers w k j c first cur e h id (Ahead p) = Ahead p
fares_more workers w k j c first cur e h id (Before p) = Before p
fares_more workers w k j c first cur e h id (WasSentIt s) = WasSentIt (was_sent_more w k c id e h s)
fares_more workers w k j c first cur e h id (WasGoneThen g) = WasGoneThen (was_gone_more workers w k j c id e h g)

pub own_start : (w k n : ℕ) (cur : CursorAt) (c : List ℕ) (P : Id → Type 0) (h : List Event) → EachSent k c P (own w h) → EachSent k c P (own w (Started w n cur ∷ h))
own_start w k n cur c P h s = cond_both (w == w) (Started w n cur ∷ own w h) (own w h) (EachSent k c P) (λ _. s) (λ _. s)

pub own_sent : (w k i : ℕ) (c d : List ℕ) (id : Id) (cur : CursorAt) (looks : List ℕ) (P : Id → Type 0) (h : List Event) → (d ≡ c → P id) → EachSent k c P (own w h) → EachSent k c P (own w (Sent w k i d id cur looks ∷ h))
own_sent w k i c d id cur looks P h now s = cond_both (w == w) (Sent w k i d id cur looks ∷ own w h) (own w h) (EachSent k c P) (λ _. ((λ _ same. now same), s)) (λ _. s)

-- ---- nobody was sent a message before it started

-- nobody was sent a message before it started
abbrev pub IsEarly : Stage → Type 0
IsEarly Absent = Unit {0}
IsEarly (Starting list once start) = Unit {0}
IsEarly s = ⊥

early_started : (cur : CursorAt) (s : Stage) → IsEarly (started cur s) → IsEarly s
early_started cur Absent y = tt
early_started cur (Starting list once start) y = absurd y
early_started cur (Standing list once old) y = y
early_started cur (Served list old) y = y
early_started cur Over y = y

sent_late : (i : ℕ) (c : List ℕ) (id : Id) (cur : CursorAt) (s : Stage) → MovesFrom i c id cur s → IsEarly (served cur s) → ⊥
sent_late i c id cur (Standing list true old) m y = y
sent_late i c id cur (Standing list false old) m y = y
sent_late i c id cur s m y = m

-- what its events say of one subscriber, where worker and number are those
stage_same : (w v n k : ℕ) (h : List Event) → (w == v) ≡ true → (n == k) ≡ true → stage_of n (own v h) ≡ stage_of k (own w h)
stage_same w v n k h is_w is_k = ap (λ x. stage_of x (own v h)) (eqb-true n k is_k) ∙ ap (λ x. stage_of k (own x h)) (sym (eqb-true w v is_w))

abbrev SentEarly : ℕ → List ℕ → List Event → Type 0
SentEarly k c l = IsEarly (stage_of k l) → EachSent k c (λ _. ⊥) l

sent_case : (w v n k i : ℕ) (c d : List ℕ) (id : Id) (cur : CursorAt) (looks : List ℕ) (h : List Event) (b : Bool) → (w == v) ≡ true → (n == k) ≡ b → MovesFrom i d id cur (stage_of n (own v h)) → SentEarly k c (own w h)
    → IsEarly (cond b (served cur (stage_of k (own w h))) (stage_of k (own w h))) → (n ≡ k → d ≡ c → ⊥) × EachSent k c (λ _. ⊥) (own w h)
sent_case w v n k i c d id cur looks h true is_w is_k move rest y = absurd (sent_late i d id cur (stage_of k (own w h)) (subst (MovesFrom i d id cur) (stage_same w v n k h is_w is_k) move) y)
sent_case w v n k i c d id cur looks h false is_w is_k move rest y = ((λ same. absurd (apart n k is_k same)), rest y)

pub none_sent : (w k : ℕ) (c : List ℕ) (h : List Event) → Lives h → SentEarly k c (own w h)
none_sent w k c [] a y = tt
none_sent w k c (Subscribed v n conn list mode start timeout close ∷ h) a y =
    cond_both (w == v) (Subscribed v n conn list mode start timeout close ∷ own w h) (own w h) (SentEarly k c)
    (λ is_w there. none_sent w k c h (lives_older (Subscribed v n conn list mode start timeout close) h a)
    (cond_both (n == k) (Starting list (is_once mode) start) (stage_of k (own w h)) (λ s. IsEarly s → IsEarly (stage_of k (own w h)))
    (λ is_k _. subst IsEarly (sym (sym (stage_same w v n k h is_w is_k) ∙ a.ordered.1.0)) tt) (λ _ x. x) there))
    (λ _. none_sent w k c h (lives_older (Subscribed v n conn list mode start timeout close) h a)) y
none_sent w k c (Started v n cur ∷ h) a y =
    cond_both (w == v) (Started v n cur ∷ own w h) (own w h) (SentEarly k c)
    (λ is_w there. none_sent w k c h (lives_older (Started v n cur) h a)
    (cond_both (n == k) (started cur (stage_of k (own w h))) (stage_of k (own w h)) (λ s. IsEarly s → IsEarly (stage_of k (own w h))) (λ _. early_started cur (stage_of k (own w h))) (λ _ x. x) there))
    (λ _. none_sent w k c h (lives_older (Started v n cur) h a)) y
none_sent w k c (Sent v n i d id cur looks ∷ h) a y =
    cond_both (w == v) (Sent v n i d id cur looks ∷ own w h) (own w h) (SentEarly k c)
    (λ is_w. sent_case w v n k i c d id cur looks h (n == k) is_w refl a.moving.1 (none_sent w k c h (lives_older (Sent v n i d id cur looks) h a)))
    (λ _. none_sent w k c h (lives_older (Sent v n i d id cur looks) h a)) y
none_sent w k c (Ended v n cause ∷ h) a y =
    cond_both (w == v) (Ended v n cause ∷ own w h) (own w h) (SentEarly k c)
    (λ is_w there. none_sent w k c h (lives_older (Ended v n cause) h a)
    (cond_both (n == k) Over (stage_of k (own w h)) (λ s. IsEarly s → IsEarly (stage_of k (own w h))) (λ _ x. absurd x) (λ _ x. x) there))
    (λ _. none_sent w k c h (lives_older (Ended v n cause) h a)) y
none_sent w k c (e ∷ h) a y = cond_both (is_by w e) (e ∷ own w h) (own w h) (SentEarly k c) (λ _. none_sent w k c h (lives_older e h a)) (λ _. none_sent w k c h (lives_older e h a)) y
