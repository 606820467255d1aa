-- Cursors rise, and what was sent stays behind them.
use Rattle.std.proofs.Common.{◌≡◌, ◌≢◌, ◌⊎◌, inl, inr, ℕ, ◌<◌, ℤ, false, List, ◌∷◌, length, slice_get, Some, sym, ap, ◌∙◌, subst, arith}
use Rattle.std.specs.Prelude.{◌==◌}
use Rattle.std.proofs.lemmas.Bool.{cases_eq}
use Rattle.std.proofs.lemmas.Int.{ints}
use Rattle.nc_types.specs.Id.{Id, IsPast}
use Rattle.nc_types.specs.Cursor.{moved, CursorAt, cursor_id}
use Rattle.nc_types.specs.Channel.{AreDistinct}
use Rattle.nc_journal.specs.History.{own}
use Rattle.nc_journal.specs.Standing.{stage_of}
use Rattle.nc_journal.specs.declared.event.Event.{Event}
use Rattle.nc_journal.specs.declared.event.Event.TheVariants.{Sent}
use Rattle.nc_journal.proofs.Ids.{IsAtMost, at_most-refl, at_most-trans, at_most_of_past}
use Rattle.nc_rests.proofs.Lists.{at_within, distinct_at}
use Rattle.nc_sends.proofs.Moves.{IsBlank, moves_here, moves_apart, moved_tags}
use Rattle.nc_exact.specs.Sent.{EachSent, StandsAt}
use Rattle.nc_exact.proofs.Life.{Came, AtStart, AtSend, Meanwhile, life}
use Rattle.nc_exact.proofs.Lives.{Lives, FitsCursor}
use Rattle.nc_exact.proofs.SentSo.{each_weaker, each_other, own_start, own_sent, IsEarly, none_sent}

-- a cursor fits its list, and what was sent is at most it
pub record IsBehind (w k : ℕ) (older : List Event) (list : List (List ℕ)) (first cur : CursorAt) : Type 0 where
  pub fits : FitsCursor list cur
  pub sent : (j : ℕ) (c : List ℕ) → slice_get list j ≡ Some c → EachSent k c (λ id. IsAtMost id (cursor_id cur j)) (own w older)

-- a cursor that moves rises at each place
place_rises : (old : CursorAt) (i j : ℕ) (id : Id) → IsPast id (cursor_id old i) → (new : Id) → (new ≡ cursor_id old j) ⊎ (IsBlank id new × ((id.time == old.time) ≡ false)) → IsAtMost (cursor_id old j) new
place_rises old i j id past new (inl same) = subst (IsAtMost (cursor_id old j)) (sym same) (at_most-refl (cursor_id old j))
place_rises old i j id past new (inr blank) = inl (later (cursor_id old i).tag old.time id new past blank.0 blank.1)
  where
    later : (tag : ℤ) (time : ℕ) (id new : Id) → IsPast id (record { time = time; tag = tag }) → IsBlank id new → (id.time == time) ≡ false → time < new.time
    later tag time id new past blank other = grind (arith, ints)

here_rises : (old : CursorAt) (i j : ℕ) (id : Id) → IsPast id (cursor_id old i) → (new : Id) → j ≡ i → new ≡ id → IsAtMost (cursor_id old j) new
here_rises old i j id past new is at = subst (λ (x : Id). IsAtMost (cursor_id old j) x) (sym at) (subst (λ (n : ℕ). IsAtMost (cursor_id old n) id) (sym is) (at_most_of_past (cursor_id old i) id past))

moved_at : (old : CursorAt) (i j : ℕ) (id : Id) → i < length old.tags → IsPast id (cursor_id old i) → (j ≡ i) ⊎ (j ≢ i) → IsAtMost (cursor_id old j) (cursor_id (moved old i id) j)
moved_at old i j id lt past (inl is) = here_rises old i j id past (cursor_id (moved old i id) j) is (ap (cursor_id (moved old i id)) is ∙ moves_here old i id lt)
moved_at old i j id lt past (inr other) = place_rises old i j id past (cursor_id (moved old i id) j) (moves_apart old i j id other)

behind_start : (w k : ℕ) → AtStart w k (IsBehind w k)
behind_start w k older a list cur fits once start stage = record {
  fits = fits;
  sent = λ j c at. own_start w k k cur c (λ id. IsAtMost id (cursor_id cur j)) older (each_weaker k c (λ _. ⊥) (λ id. IsAtMost id (cursor_id cur j)) (λ id x. absurd x) (own w older) (none_sent w k c older a (subst IsEarly (sym stage) tt)));
}

behind_other : (w k : ℕ) → Meanwhile w k (IsBehind w k)
behind_other w k e older list first cur other q = record { fits = q.fits; sent = λ j c at. each_other w k c (λ id. IsAtMost id (cursor_id cur j)) e older other (q.sent j c at) }

-- the place of a name is one
place_of_name : (list : List (List ℕ)) (i j : ℕ) (c d : List ℕ) → AreDistinct list → slice_get list i ≡ Some c → slice_get list j ≡ Some d → d ≡ c → (j ≡ i) ⊎ (j ≢ i) → j ≡ i
place_of_name list i j c d distinct at_i at_j same (inl is) = is
place_of_name list i j c d distinct at_i at_j same (inr other) = absurd (distinct_at list i j c d distinct at_i at_j other same)

behind_send : (w k : ℕ) → AtSend w k (IsBehind w k)
behind_send w k older list once first old i c id cur looks stage move q =
    let within : i < length old.tags = omega (arith, q.fits.tags, at_within list i c move.channel) in
    record {
      fits = record { distinct = q.fits.distinct; tags = ap (λ (x : CursorAt). length x.tags) move.cursor ∙ moved_tags old i id ∙ q.fits.tags };
      sent = λ j d at_j. subst (λ (x : CursorAt). EachSent k d (λ m. IsAtMost m (cursor_id x j)) (own w (Sent w k i c id cur looks ∷ older))) (sym move.cursor)
          (own_sent w k i d c id cur looks (λ m. IsAtMost m (cursor_id (moved old i id) j)) older
          (λ same. subst (IsAtMost id) (sym (ap (cursor_id (moved old i id)) (place_of_name list i j c d q.fits.distinct move.channel at_j (sym same) (cases_eq j i)) ∙ moves_here old i id within)) (at_most-refl id))
          (each_weaker k d (λ m. IsAtMost m (cursor_id old j)) (λ m. IsAtMost m (cursor_id (moved old i id) j)) (λ m le. at_most-trans m (cursor_id old j) (cursor_id (moved old i id) j) le (moved_at old i j id within move.past (cases_eq j i))) (own w older) (q.sent j d at_j)));
    }

pub behind : (w k : ℕ) (h : List Event) → Lives h → (list : List (List ℕ)) (cur : CursorAt) → StandsAt list cur (stage_of k (own w h)) → Came k (own w h) (λ first. IsBehind w k h list first cur)
behind w k h a list cur at = life w k (IsBehind w k) (behind_start w k) (behind_send w k) (behind_other w k) h a list cur at
