-- The holds that are kept, and those that a call's facts name.
use Rattle.std.specs.Prelude.{◌≡◌, true, false, List, [], ◌∷◌, None, find}
use Rattle.std.specs.List.{AllByRecursion}
use Rattle.nc_spool.specs.declared.fact.Fact.{Fact}
use Rattle.nc_spool.specs.declared.fact.Fact.TheVariants.{Out, Started, Sent, Ended}
use Rattle.nc_spool_state.specs.declared.choice.Find.{Find}
use Rattle.nc_spool_state.specs.declared.kept.Held.{Held}
use Rattle.nc_spool.specs.declared.board.Board.{Board}
use Rattle.nc_spool_state.specs.Spool.{SpoolAt}
use Rattle.nc_spool_state.specs.Shelf.{without_first}
use Rattle.nc_spool_state.specs.Starting.{StartingAt}
use Rattle.nc_spool_state.specs.Kept.{is_before, is_kept, is_used, is_idle, with_hold}
use Rattle.nc_spool_laws.specs.Closed.{IsKept}
use Rattle.nc_spool_laws.specs.Attended.{AnyLast, AnyKey, IsHeld, NewsHeld, AnswerHeld}

module _ {H : Type 0} (kept : List (Held H)) where
  -- the message that is sent has a grant whose hold is kept
  abbrev pub FactHeld : Fact → Type 0
  FactHeld (Out outgoing) = Unit {0}
  FactHeld (Started k cursor) = Unit {0}
  FactHeld (Sent sending) = is_kept sending.owner sending.g kept ≡ true
  FactHeld (Ended k deleted) = Unit {0}

  -- what is found and what is told is held
  abbrev pub BoardHeld : Board → Type 0
  BoardHeld b = AllByRecursion (IsHeld kept) b.shelf × AllByRecursion FactHeld b.facts

  -- so is what a spool found that was taken from the board
  abbrev pub BesideHeld : SpoolAt → Board → Type 0
  BesideHeld s b = IsHeld kept s × BoardHeld b

  -- a start finds nothing
  abbrev pub ApartHeld : StartingAt → Board → Type 0
  ApartHeld s b = BoardHeld b

  -- the hold of a message that is about to be sent is kept
  abbrev pub FindHeld : Find → SpoolAt → Type 0
  FindHeld find s = is_kept find.owner find.g kept ≡ true

  -- each call sends only messages whose holds are kept
  abbrev pub KeepsHeld : Type 0
  KeepsHeld = IsKept (NewsHeld kept) (AnswerHeld kept) AnyLast AnyKey FindHeld BoardHeld BesideHeld ApartHeld

module _ {H : Type 0} where
  -- each hold's grant is before those of the holds behind it
  abbrev pub IsBefore : Held H → Held H → Type 0
  IsBefore h x = is_before h.owner h.g x ≡ true

  -- holds in ascending order of owner and grant
  abbrev pub AreRising : List (Held H) → Type 0
  AreRising [] = Unit {0}
  AreRising (h ∷ holds) = AllByRecursion (IsBefore h) holds × AreRising holds

-- holds are kept in ascending order; what is found stays held when a hold is kept, and when an idle one is taken;
-- and when no more is taken each has a use
pub record HoldsRule (H : Type 0) : Type 0 where
  pub keep : (h : Held H) (kept : List (Held H)) → is_kept h.owner h.g kept ≡ false → AreRising kept → AreRising (with_hold h kept)
  pub keep_held : (h : Held H) (kept : List (Held H)) (spools : List SpoolAt) → AllByRecursion (IsHeld kept) spools
      → AllByRecursion (IsHeld (with_hold h kept)) spools
  pub new_held : (h : Held H) (kept : List (Held H)) → is_kept h.owner h.g (with_hold h kept) ≡ true
  pub take : (kept : List (Held H)) (spools : List SpoolAt) → AreRising kept → AreRising (without_first (is_idle spools) kept)
  pub take_held : (kept : List (Held H)) (spools : List SpoolAt) → AllByRecursion (IsHeld kept) spools
      → AllByRecursion (IsHeld (without_first (is_idle spools) kept)) spools
  pub none_idle : (kept : List (Held H)) (spools : List SpoolAt) → find (is_idle spools) kept ≡ None
      → AllByRecursion (λ h. is_used h.owner h.g spools ≡ true) kept
