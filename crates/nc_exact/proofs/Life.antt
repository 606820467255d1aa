-- The life of a subscriber, from where it starts by what it is sent.
use Rattle.std.proofs.Common.{◌≡◌, ℕ, Bool, true, false, cond, List, [], ◌∷◌, Some, refl, sym, ap, ◌∙◌, subst}
use Rattle.std.specs.Prelude.{◌&&◌, ◌==◌}
use Rattle.std.proofs.lemmas.Bool.{eq-eqb, eqb-true}
use Rattle.nc_types.specs.Id.{Id}
use Rattle.nc_types.specs.Cursor.{CursorAt}
use Rattle.nc_types.specs.declared.start.Start.{Start}
use Rattle.nc_journal.specs.History.{own, is_by}
use Rattle.nc_journal.specs.Standing.{Stage, Starting, Standing, Over, started, served, is_once, stage_of, IsStarting}
use Rattle.nc_journal.specs.declared.event.Event.{Event}
use Rattle.nc_journal.specs.declared.event.Event.TheVariants.{Subscribed, Started, Sent, Ended}
use Rattle.nc_exact.specs.Sent.{first_cursor, StandsAt}
use Rattle.nc_exact.proofs.Lives.{IsMove, MovesFrom, TagsFit, Lives, lives_older, FitsStage, stage_fits, FitsCursor, starts_fit}

-- whether an event starts subscriber k of worker w, or sends to it
abbrev pub moves_it : ℕ → ℕ → Event → Bool
moves_it w k (Started v n cur) = (w == v) && (n == k)
moves_it w k (Sent v n i c id cur looks) = (w == v) && (n == k)
moves_it w k e = false

-- one that has come to a cursor has started somewhere, and a relation holds of both
pub record Came (k : ℕ) (l : List Event) (Q : CursorAt → Type 0) : Type 0 where
  pub first : CursorAt
  pub started : first_cursor k l ≡ Some first
  pub so : Q first

came_same : (k : ℕ) (l m : List Event) (P Q : CursorAt → Type 0) → first_cursor k m ≡ first_cursor k l → ((first : CursorAt) → P first → Q first) → Came k l P → Came k m Q
came_same k l m P Q same f c = record { first = c.first; started = same ∙ c.started; so = f c.first c.so }

-- an event of another kind
came_other : (k w : ℕ) (e : Event) (h : List Event) (list : List (List ℕ)) (cur : CursorAt) (P Q : CursorAt → Type 0) (b : Bool)
    → ((l : List Event) → (stage_of k (e ∷ l) ≡ stage_of k l) × (first_cursor k (e ∷ l) ≡ first_cursor k l)) → ((first : CursorAt) → P first → Q first)
    → (StandsAt list cur (stage_of k (own w h)) → Came k (own w h) P) → StandsAt list cur (stage_of k (cond b (e ∷ own w h) (own w h))) → Came k (cond b (e ∷ own w h) (own w h)) Q
came_other k w e h list cur P Q true same f rest at = came_same k (own w h) (e ∷ own w h) P Q (same (own w h)).1 f (rest (subst (StandsAt list cur) (same (own w h)).0 at))
came_other k w e h list cur P Q false same f rest at = came_same k (own w h) (own w h) P Q refl f (rest at)

-- an event that takes one out of standing
came_out : (k w n : ℕ) (e : Event) (s : Stage) (h : List Event) (list : List (List ℕ)) (cur : CursorAt) (P Q : CursorAt → Type 0) (b : Bool)
    → ((l : List Event) → (stage_of k (e ∷ l) ≡ cond (n == k) s (stage_of k l)) × (first_cursor k (e ∷ l) ≡ first_cursor k l)) → (StandsAt list cur s → ⊥) → ((first : CursorAt) → P first → Q first)
    → (StandsAt list cur (stage_of k (own w h)) → Came k (own w h) P) → StandsAt list cur (stage_of k (cond b (e ∷ own w h) (own w h))) → Came k (cond b (e ∷ own w h) (own w h)) Q
came_out k w n e s h list cur P Q true same out f rest at = go (n == k) (subst (StandsAt list cur) (same (own w h)).0 at)
  where
    go : (b : Bool) → StandsAt list cur (cond b s (stage_of k (own w h))) → Came k (e ∷ own w h) Q
    go true there = absurd (out there)
    go false there = came_same k (own w h) (e ∷ own w h) P Q (same (own w h)).1 f (rest there)
came_out k w n e s h list cur P Q false same out f rest at = came_same k (own w h) (own w h) P Q refl f (rest at)

-- what a relation has to keep, where the subscriber starts, is sent to, and meanwhile
abbrev pub AtStart : (w k : ℕ) → (List Event → List (List ℕ) → CursorAt → CursorAt → Type 0) → Type 0
AtStart w k Q = (older : List Event) → Lives older → (list : List (List ℕ)) (cur : CursorAt) → FitsCursor list cur → (once : Bool) (start : Start) → stage_of k (own w older) ≡ Starting list once start → Q (Started w k cur ∷ older) list cur cur

abbrev pub AtSend : (w k : ℕ) → (List Event → List (List ℕ) → CursorAt → CursorAt → Type 0) → Type 0
AtSend w k Q = (older : List Event) (list : List (List ℕ)) (once : Bool) (first old : CursorAt) (i : ℕ) (c : List ℕ) (id : Id) (cur : CursorAt) (looks : List ℕ)
    → stage_of k (own w older) ≡ Standing list once old → IsMove i c id cur list old → Q older list first old → Q (Sent w k i c id cur looks ∷ older) list first cur

abbrev pub Meanwhile : (w k : ℕ) → (List Event → List (List ℕ) → CursorAt → CursorAt → Type 0) → Type 0
Meanwhile w k Q = (e : Event) (older : List Event) (list : List (List ℕ)) (first cur : CursorAt) → moves_it w k e ≡ false → Q older list first cur → Q (e ∷ older) list first cur

-- it starts
came_started : (w k v n : ℕ) (c0 : CursorAt) (h : List Event) (list : List (List ℕ)) (cur : CursorAt) (Q : List Event → List (List ℕ) → CursorAt → CursorAt → Type 0)
    → AtStart w k Q → Meanwhile w k Q → Lives h → TagsFit c0 (stage_of n (own v h)) → IsStarting (stage_of n (own v h)) → FitsStage (stage_of k (own w h))
    → (StandsAt list cur (stage_of k (own w h)) → Came k (own w h) (λ first. Q h list first cur))
    → (a b : Bool) → (w == v) ≡ a → (n == k) ≡ b → StandsAt list cur (stage_of k (cond a (Started v n c0 ∷ own w h) (own w h))) → Came k (cond a (Started v n c0 ∷ own w h) (own w h)) (λ first. Q (Started v n c0 ∷ h) list first cur)
came_started w k v n c0 h list cur Q start meanwhile older begins is_starting fits rest false b is_w is_k at =
    came_same k (own w h) (own w h) (λ first. Q h list first cur) (λ first. Q (Started v n c0 ∷ h) list first cur) refl (λ first q. meanwhile (Started v n c0) h list first cur (ap (λ x. x && (n == k)) is_w) q) (rest at)
came_started w k v n c0 h list cur Q start meanwhile older begins is_starting fits rest true false is_w is_k at =
    came_same k (own w h) (Started v n c0 ∷ own w h) (λ first. Q h list first cur) (λ first. Q (Started v n c0 ∷ h) list first cur)
    (ap (λ x. cond x (Some c0) (first_cursor k (own w h))) is_k)
    (λ first q. meanwhile (Started v n c0) h list first cur (ap (λ x. x && (n == k)) is_w ∙ is_k) q)
    (rest (subst (λ x. StandsAt list cur (cond x (started c0 (stage_of k (own w h))) (stage_of k (own w h)))) is_k at))
came_started w k v n c0 h list cur Q start meanwhile older begins is_starting fits rest true true is_w is_k at =
    let same_w : w ≡ v = eqb-true w v is_w in
    let same_k : n ≡ k = eqb-true n k is_k in
    let same : stage_of n (own v h) ≡ stage_of k (own w h) = ap (λ x. stage_of x (own v h)) same_k ∙ ap (λ x. stage_of k (own x h)) (sym same_w) in
    go same_w same_k (stage_of k (own w h)) refl (subst (TagsFit c0) same begins) (subst IsStarting same is_starting) fits (subst (λ x. StandsAt list cur (cond x (started c0 (stage_of k (own w h))) (stage_of k (own w h)))) is_k at)
  where
    go : w ≡ v → n ≡ k → (s : Stage) → stage_of k (own w h) ≡ s → TagsFit c0 s → IsStarting s → FitsStage s → StandsAt list cur (started c0 s) → Came k (Started v n c0 ∷ own w h) (λ first. Q (Started v n c0 ∷ h) list first cur)
    go same_w same_k (Starting names once begin) stage begins is_one fits there = record {
      first = c0;
      started = ap (λ x. cond x (Some c0) (first_cursor k (own w h))) (eq-eqb n k same_k);
      so = subst (λ (x : CursorAt). Q (Started v n c0 ∷ h) list c0 x) there.1 (subst (λ (x : List (List ℕ)). Q (Started v n c0 ∷ h) x c0 c0) there.0
          (subst (λ x. Q (Started x n c0 ∷ h) names c0 c0) same_w (subst (λ x. Q (Started w x c0 ∷ h) names c0 c0) (sym same_k) (start h older names c0 (starts_fit names once begin c0 fits begins) once begin stage))));
    }
    go same_w same_k s stage begins is_one fits there = absurd is_one

stands_served : (list names : List (List ℕ)) (cur c0 old : CursorAt) (once : Bool) → StandsAt list cur (served c0 (Standing names once old)) → (names ≡ list) × (c0 ≡ cur)
stands_served list names cur c0 old true at = at
stands_served list names cur c0 old false at = at

-- it is sent a message
came_sent : (w k v n i : ℕ) (c : List ℕ) (id : Id) (c0 : CursorAt) (looks : List ℕ) (h : List Event) (list : List (List ℕ)) (cur : CursorAt) (Q : List Event → List (List ℕ) → CursorAt → CursorAt → Type 0)
    → AtSend w k Q → Meanwhile w k Q → MovesFrom i c id c0 (stage_of n (own v h))
    → ((names : List (List ℕ)) (at : CursorAt) → StandsAt names at (stage_of k (own w h)) → Came k (own w h) (λ first. Q h names first at))
    → (a b : Bool) → (w == v) ≡ a → (n == k) ≡ b → StandsAt list cur (stage_of k (cond a (Sent v n i c id c0 looks ∷ own w h) (own w h))) → Came k (cond a (Sent v n i c id c0 looks ∷ own w h) (own w h)) (λ first. Q (Sent v n i c id c0 looks ∷ h) list first cur)
came_sent w k v n i c id c0 looks h list cur Q send meanwhile moving rest false b is_w is_k at =
    came_same k (own w h) (own w h) (λ first. Q h list first cur) (λ first. Q (Sent v n i c id c0 looks ∷ h) list first cur) refl (λ first q. meanwhile (Sent v n i c id c0 looks) h list first cur (ap (λ x. x && (n == k)) is_w) q) (rest list cur at)
came_sent w k v n i c id c0 looks h list cur Q send meanwhile moving rest true false is_w is_k at =
    came_same k (own w h) (Sent v n i c id c0 looks ∷ own w h) (λ first. Q h list first cur) (λ first. Q (Sent v n i c id c0 looks ∷ h) list first cur) refl
    (λ first q. meanwhile (Sent v n i c id c0 looks) h list first cur (ap (λ x. x && (n == k)) is_w ∙ is_k) q)
    (rest list cur (subst (λ x. StandsAt list cur (cond x (served c0 (stage_of k (own w h))) (stage_of k (own w h)))) is_k at))
came_sent w k v n i c id c0 looks h list cur Q send meanwhile moving rest true true is_w is_k at =
    let same_w : w ≡ v = eqb-true w v is_w in
    let same_k : n ≡ k = eqb-true n k is_k in
    let same : stage_of n (own v h) ≡ stage_of k (own w h) = ap (λ x. stage_of x (own v h)) same_k ∙ ap (λ x. stage_of k (own x h)) (sym same_w) in
    go same_w same_k (stage_of k (own w h)) refl (subst (MovesFrom i c id c0) same moving) (subst (λ x. StandsAt list cur (cond x (served c0 (stage_of k (own w h))) (stage_of k (own w h)))) is_k at)
  where
    go : w ≡ v → n ≡ k → (s : Stage) → stage_of k (own w h) ≡ s → MovesFrom i c id c0 s → StandsAt list cur (served c0 s) → Came k (Sent v n i c id c0 looks ∷ own w h) (λ first. Q (Sent v n i c id c0 looks ∷ h) list first cur)
    go same_w same_k (Standing names once old) stage move there =
        let t = stands_served list names cur c0 old once there in
        came_same k (own w h) (Sent v n i c id c0 looks ∷ own w h) (λ first. Q h names first old) (λ first. Q (Sent v n i c id c0 looks ∷ h) list first cur) refl
        (λ first q. subst (λ (x : CursorAt). Q (Sent v n i c id c0 looks ∷ h) list first x) t.1 (subst (λ (x : List (List ℕ)). Q (Sent v n i c id c0 looks ∷ h) x first c0) t.0
        (subst (λ x. Q (Sent x n i c id c0 looks ∷ h) names first c0) same_w (subst (λ x. Q (Sent w x i c id c0 looks ∷ h) names first c0) (sym same_k) (send h names once first old i c id c0 looks stage move q)))))
        (rest names old (subst (StandsAt names old) (sym stage) (refl, refl)))
    go same_w same_k s stage move there = absurd move

pub life : (w k : ℕ) (Q : List Event → List (List ℕ) → CursorAt → CursorAt → Type 0) → AtStart w k Q → AtSend w k Q → Meanwhile w k Q
    → (h : List Event) → Lives h → (list : List (List ℕ)) (cur : CursorAt) → StandsAt list cur (stage_of k (own w h)) → Came k (own w h) (λ first. Q h list first cur)
life w k Q start send meanwhile [] a list cur at = absurd at
life w k Q start send meanwhile (Subscribed v n conn names mode begin timeout close ∷ h) a list cur at =
    let e = Subscribed v n conn names mode begin timeout close in
    came_out k w n e (Starting names (is_once mode) begin) h list cur (λ first. Q h list first cur) (λ first. Q (e ∷ h) list first cur) (w == v) (λ l. (refl, refl)) (λ x. x) (λ first q. meanwhile e h list first cur refl q)
    (life w k Q start send meanwhile h (lives_older e h a) list cur) at
life w k Q start send meanwhile (Ended v n cause ∷ h) a list cur at =
    let e = Ended v n cause in
    came_out k w n e Over h list cur (λ first. Q h list first cur) (λ first. Q (e ∷ h) list first cur) (w == v) (λ l. (refl, refl)) (λ x. x) (λ first q. meanwhile e h list first cur refl q)
    (life w k Q start send meanwhile h (lives_older e h a) list cur) at
life w k Q start send meanwhile (Started v n c0 ∷ h) a list cur at =
    came_started w k v n c0 h list cur Q start meanwhile (lives_older (Started v n c0) h a) a.starting.1 a.ordered.1.0 (stage_fits w k h a.subscribed.0) (life w k Q start send meanwhile h (lives_older (Started v n c0) h a) list cur) (w == v) (n == k) refl refl at
life w k Q start send meanwhile (Sent v n i c id c0 looks ∷ h) a list cur at =
    came_sent w k v n i c id c0 looks h list cur Q send meanwhile a.moving.1 (life w k Q start send meanwhile h (lives_older (Sent v n i c id c0 looks) h a)) (w == v) (n == k) refl refl at
life w k Q start send meanwhile (e ∷ h) a list cur at =
    came_other k w e h list cur (λ first. Q h list first cur) (λ first. Q (e ∷ h) list first cur) (is_by w e) (λ l. (refl, refl)) (λ first q. meanwhile e h list first cur refl q)
    (life w k Q start send meanwhile h (lives_older e h a) list cur) at
