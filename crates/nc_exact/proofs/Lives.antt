-- What holds at each event of a history in which all is sent lawfully.
use Rattle.std.proofs.Common.{◌≡◌, ℕ, negsuc, Bool, true, false, List, [], ◌∷◌, ◌++◌, length, slice_get, Some, refl, ap, ◌∙◌}
use Rattle.std.specs.Prelude.{◌==◌}
use Rattle.std.proofs.lemmas.Bool.{cond_both}
use Rattle.std.proofs.lemmas.List.{length-map}
use Rattle.nc_types.specs.declared.start.Start.TheVariants.{Newest, Oldest, Given}
use Rattle.nc_types.specs.Id.{Id, IsPast}
use Rattle.nc_types.specs.Cursor.{moved, CursorAt, cursor_id}
use Rattle.nc_types.specs.Channel.{AreDistinct}
use Rattle.nc_types.specs.declared.start.Start.{Start}
use Rattle.nc_journal.specs.History.{Along, own, is_by}
use Rattle.nc_journal.specs.Standing.{SubscribesAt, StartFits, Stage, Starting, Standing, Over, started, served, is_once, stage_of, OrderedAt}
use Rattle.nc_journal.specs.Sending.{SentFrom, SentAt, StartsFrom, StartedAt}
use Rattle.nc_journal.specs.declared.event.Event.{Event}
use Rattle.nc_journal.specs.declared.event.Event.TheVariants.{Subscribed, Started, Sent, Ended}
use Rattle.nc_journal.specs.Newest.{greatest_time, tag_within}
use Rattle.nc_exact.specs.Exact.{SendsLawfully}

-- ---- what each sent moves

-- a sent moves the cursor of one that stands by an id past it
pub record IsMove (i : ℕ) (c : List ℕ) (id : Id) (cur : CursorAt) (list : List (List ℕ)) (old : CursorAt) : Type 0 where
  pub channel : slice_get list i ≡ Some c
  pub past : IsPast id (cursor_id old i)
  pub cursor : cur ≡ moved old i id

abbrev pub MovesFrom : ℕ → List ℕ → Id → CursorAt → Stage → Type 0
MovesFrom i c id cur (Standing list once old) = IsMove i c id cur list old
MovesFrom i c id cur _ = ⊥

abbrev pub MovesAt : List Event → Event → Type 0
MovesAt h (Sent w k i c id cur looks) = MovesFrom i c id cur (stage_of k (own w h))
MovesAt h _ = Unit {0}

moves_from : (workers w i : ℕ) (c : List ℕ) (id : Id) (cur : CursorAt) (looks : List ℕ) (newer older : List Event) (s : Stage) → SentFrom workers w i c id cur looks newer older s → MovesFrom i c id cur s
moves_from workers w i c id cur looks newer older (Standing list once old) k = record { channel = k.channel; past = k.past; cursor = k.cursor }
moves_from workers w i c id cur looks newer older s k = absurd k

moves_at : (workers : ℕ) (newer : List Event) (e : Event) (older : List Event) → SentAt workers newer e older → MovesAt older e
moves_at workers newer (Sent w k i c id cur looks) older s = moves_from workers w i c id cur looks newer older (stage_of k (own w older)) s
moves_at workers newer e older s = tt

pub along_cuts : (R : List Event → Event → Type 0) (h : List Event) → ((newer : List Event) (e : Event) (older : List Event) → h ≡ newer ++ e ∷ older → R older e) → Along R h
along_cuts R [] f = tt
along_cuts R (e ∷ h) f = (along_cuts R h (λ newer x older is. f (e ∷ newer) x older (ap (λ (l : List Event). e ∷ l) is)), f [] e h refl)

-- ---- a start has a tag for each name

-- a start has a tag for each name of its list, where a given one has
abbrev pub TagsFit : CursorAt → Stage → Type 0
TagsFit cur (Starting list once start) = StartFits list start → length cur.tags ≡ length list
TagsFit cur _ = ⊥

abbrev pub TagsFitAt : List Event → Event → Type 0
TagsFitAt h (Started w k cur) = TagsFit cur (stage_of k (own w h))
TagsFitAt h _ = Unit {0}

start_fits : (workers w k : ℕ) (cur : CursorAt) (newer older : List Event) (s : Stage) → StartsFrom workers w k cur newer older s → TagsFit cur s
start_fits workers w k cur newer older (Starting list once Oldest) at = λ f. ap (λ (x : CursorAt). length x.tags) at ∙ length-map list (λ (c : List ℕ). negsuc 0)
start_fits workers w k cur newer older (Starting list once (Given from)) at = λ f. ap (λ (x : CursorAt). length x.tags) at ∙ f
start_fits workers w k cur newer older (Starting list once Newest) at = λ f. ap (λ (x : CursorAt). length x.tags) at.starts.cursor ∙ length-map at.starts.lasts (tag_within (greatest_time at.starts.lasts)) ∙ at.starts.lasts_each
start_fits workers w k cur newer older s at = absurd at

starting_at : (workers : ℕ) (newer : List Event) (e : Event) (older : List Event) → StartedAt workers newer e older → TagsFitAt older e
starting_at workers newer (Started w k cur) older s = start_fits workers w k cur newer older (stage_of k (own w older)) s
starting_at workers newer e older s = tt

-- ---- both, and the order of events

-- what holds at each event of a history in which all is sent lawfully
pub record Lives (h : List Event) : Type 0 where
  pub moving : Along MovesAt h
  pub starting : Along TagsFitAt h
  pub ordered : Along OrderedAt h
  pub subscribed : Along SubscribesAt h

pub lives : (workers : ℕ) (h : List Event) → SendsLawfully workers h → Lives h
lives workers h s = record {
  moving = along_cuts MovesAt h (λ newer e older is. moves_at workers newer e older (s.sent newer e older is));
  starting = along_cuts TagsFitAt h (λ newer e older is. starting_at workers newer e older (s.started newer e older is));
  ordered = s.standing.ordered;
  subscribed = s.standing.subscribed;
}

pub lives_older : (e : Event) (h : List Event) → Lives (e ∷ h) → Lives h
lives_older e h k = record { moving = k.moving.0; starting = k.starting.0; ordered = k.ordered.0; subscribed = k.subscribed.0 }

pub lives_behind : (newer older : List Event) → Lives (newer ++ older) → Lives older
lives_behind [] older k = k
lives_behind (e ∷ newer) older k = lives_behind newer older (lives_older e (newer ++ older) k)

-- ---- what starts fits its list

abbrev pub FitsStage : Stage → Type 0
FitsStage (Starting list once start) = AreDistinct list × StartFits list start
FitsStage s = Unit {0}

fits_started : (cur : CursorAt) (s : Stage) → FitsStage s → FitsStage (started cur s)
fits_started cur (Starting list once start) f = tt
fits_started cur s f = f

fits_served : (cur : CursorAt) (s : Stage) → FitsStage s → FitsStage (served cur s)
fits_served cur (Standing list true old) f = tt
fits_served cur (Standing list false old) f = tt
fits_served cur s f = f

pub stage_fits : (w k : ℕ) (h : List Event) → Along SubscribesAt h → FitsStage (stage_of k (own w h))
stage_fits w k [] a = tt
stage_fits w k (Subscribed v n conn list mode start timeout close ∷ h) a =
    let l = own w h in
    cond_both (w == v) (Subscribed v n conn list mode start timeout close ∷ l) l (λ x. FitsStage (stage_of k x))
    (λ _. cond_both (n == k) (Starting list (is_once mode) start) (stage_of k l) FitsStage (λ _. a.1) (λ _. stage_fits w k h a.0))
    (λ _. stage_fits w k h a.0)
stage_fits w k (Started v n cur ∷ h) a =
    let l = own w h in
    cond_both (w == v) (Started v n cur ∷ l) l (λ x. FitsStage (stage_of k x))
    (λ _. cond_both (n == k) (started cur (stage_of k l)) (stage_of k l) FitsStage (λ _. fits_started cur (stage_of k l) (stage_fits w k h a.0)) (λ _. stage_fits w k h a.0))
    (λ _. stage_fits w k h a.0)
stage_fits w k (Sent v n i c id cur looks ∷ h) a =
    let l = own w h in
    cond_both (w == v) (Sent v n i c id cur looks ∷ l) l (λ x. FitsStage (stage_of k x))
    (λ _. cond_both (n == k) (served cur (stage_of k l)) (stage_of k l) FitsStage (λ _. fits_served cur (stage_of k l) (stage_fits w k h a.0)) (λ _. stage_fits w k h a.0))
    (λ _. stage_fits w k h a.0)
stage_fits w k (Ended v n cause ∷ h) a =
    let l = own w h in
    cond_both (w == v) (Ended v n cause ∷ l) l (λ x. FitsStage (stage_of k x))
    (λ _. cond_both (n == k) Over (stage_of k l) FitsStage (λ _. tt) (λ _. stage_fits w k h a.0))
    (λ _. stage_fits w k h a.0)
stage_fits w k (e ∷ h) a = cond_both (is_by w e) (e ∷ own w h) (own w h) (λ x. FitsStage (stage_of k x)) (λ _. stage_fits w k h a.0) (λ _. stage_fits w k h a.0)

-- a list of distinct names, and a cursor with a tag for each
pub record FitsCursor (list : List (List ℕ)) (cur : CursorAt) : Type 0 where
  pub distinct : AreDistinct list
  pub tags : length cur.tags ≡ length list

pub starts_fit : (list : List (List ℕ)) (once : Bool) (start : Start) (cur : CursorAt) → AreDistinct list × StartFits list start → TagsFit cur (Starting list once start) → FitsCursor list cur
starts_fit list once start cur f at = record { distinct = f.0; tags = at f.1 }
