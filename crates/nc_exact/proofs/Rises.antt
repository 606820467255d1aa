-- The ids of one channel that a subscriber is sent rise.
use Rattle.std.proofs.Common.{◌≡◌, ℕ, List, [], ◌∷◌, refl, sym, subst}
use Rattle.nc_types.specs.Id.{Id, IsPast}
use Rattle.nc_types.specs.Cursor.{CursorAt, cursor_id}
use Rattle.nc_journal.specs.History.{Along, own}
use Rattle.nc_journal.specs.Standing.{Stage, Standing, stage_of}
use Rattle.nc_journal.specs.declared.event.Event.{Event}
use Rattle.nc_journal.specs.declared.event.Event.TheVariants.{Sent}
use Rattle.nc_journal.proofs.Ids.{IsAtMost, past_of_at_most}
use Rattle.nc_exact.specs.Exact.{SentRisesLaw}
use Rattle.nc_exact.specs.Sent.{EachSent, StandsAt, RisesFor}
use Rattle.nc_exact.proofs.Climbs.{behind}
use Rattle.nc_exact.proofs.Lives.{MovesFrom, MovesAt, Lives, lives, lives_older}
use Rattle.nc_exact.proofs.SentSo.{each_weaker}

rises_from : (w k i : ℕ) (c : List ℕ) (id : Id) (cur : CursorAt) (h : List Event) → Lives h → (s : Stage) → stage_of k (own w h) ≡ s → MovesFrom i c id cur s → EachSent k c (λ earlier. IsPast id earlier) (own w h)
rises_from w k i c id cur h a (Standing list once old) stage move =
    let q = (behind w k h a list old (subst (StandsAt list old) (sym stage) (refl, refl))).so in
    each_weaker k c (λ m. IsAtMost m (cursor_id old i)) (λ m. IsPast id m) (λ m le. past_of_at_most m (cursor_id old i) id le move.past) (own w h) (q.sent i c move.channel)
rises_from w k i c id cur h a s stage move = absurd move

rises_at : (e : Event) (h : List Event) → Lives h → MovesAt h e → RisesFor h e
rises_at (Sent w k i c id cur looks) h a move = rises_from w k i c id cur h a (stage_of k (own w h)) refl move
rises_at e h a move = tt

rises_all : (h : List Event) → Lives h → Along RisesFor h
rises_all [] a = tt
rises_all (e ∷ h) a = (rises_all h (lives_older e h a), rises_at e h (lives_older e h a) a.moving.1)

pub sent_rises : SentRisesLaw
sent_rises workers h s = rises_all h (lives workers h s)
